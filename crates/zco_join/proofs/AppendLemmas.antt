-- An object gets an extent more of what clones name.
use Rattle.std.proofs.Common.{◌≡◌, ◌-◌, ◌≤◌, ◌<◌, ◌^◌, ℕ, List, [], ◌∷◌, ◌++◌, length, Option, Some, refl, sym, ap, ◌∙◌, subst, arith, append_assoc, append-nil, length-append, inl, inr}
use Rattle.std.specs.Prelude.{All}
use Rattle.std.proofs.lemmas.List.{map-append}
use Rattle.std.proofs.lemmas.List.Elements.{All-head, All-push, All-weaker}
use Rattle.sdr_base.specs.Blocks.{Block, IsKind}
use Rattle.sdr_base.specs.Entries.{BlocksAre, Entries}
use Rattle.sdr_base.specs.Objects.{Heap}
use Rattle.sdr_base.specs.ZcoObjects.{ExtentRow, ObjectRow, object_entries}
use Rattle.sdr_base.specs.declared.account.Acct.{Acct}
use Rattle.sdr_base.specs.declared.account.Acct.TheVariants as accts
use Rattle.sdr_base.specs.declared.account.Amounts.{Amounts}
use Rattle.sdr_base.specs.declared.kind.Kind.TheVariants as kinds
use Rattle.sdr_base.specs.declared.moves.Move.{Move}
use Rattle.sdr_base.specs.declared.moves.Move.TheVariants.{Took}
use Rattle.sdr_base.proofs.StandingLemmas.{found}
use Rattle.sdr_model.specs.Limits.{longest_source}
use Rattle.sdr_model.specs.declared.accounts.Ticket.{Ticket}
use Rattle.zco_acct.specs.Charges.{charged}
use Rattle.zco_acct.specs.Kept.{queue_entries}
use Rattle.zco_acct.specs.Words.{first_word, last_word, with_occupied}
use Rattle.zco_obj.specs.Amounts.{use_amounts}
use Rattle.zco_obj.specs.Appending.{AppendsPiece, AppendsSource}
use Rattle.zco_obj.specs.Beside.{IsWithRaw, IsWithSource, KeepsWithSource}
use Rattle.zco_obj.specs.Charging.{Pays}
use Rattle.zco_obj.specs.Extents.{extent_of, with_extent}
use Rattle.zco_obj.specs.Gone.{NamedSource, source_at, sources_entries}
use Rattle.zco_obj.specs.Kept.{ExtentFits}
use Rattle.zco_obj.specs.Uses.{IsThere}
use Rattle.zco_obj.specs.declared.extent.ExtentPiece.{ExtentPiece}
use Rattle.zco_obj.proofs.SpotLemmas.{SpotOf, find_spot}
use Rattle.zco_ref.specs.Counting.{attached}
use Rattle.zco_ref.specs.Kept.{CountedSource, counted_block, counted_entries}
use Rattle.zco_part.specs.Cloning.{takes_clone}
use Rattle.zco_part.specs.Pieces.{extents_at, whole_row}
use Rattle.zco_part.specs.Sources.{MayCount, all_counted, more_uses, pieces_of}
use Rattle.zco_join.proofs.WholeLemmas.{length-extents_at, placed_more, whole_fits, whole_longer}
use Rattle.zco_join.proofs.SourceLemmas.{focus, more_below, more_fits, of_most, others_now, source_now, unfocus}
use Rattle.zco_join.specs.Appending.{HasAppended}
use Rattle.zco_join.specs.Joining.{AppendsEach, Together}
use Rattle.zco_join.specs.Stocks.{Queue, TellsQueue, objects_entries, queues_entries}
use Rattle.zco_join.specs.declared.filled.Filled.{Filled}
use Rattle.zco_join.proofs.ClonesLemmas.{PieceFits, pieces_are_fit, pieces_there, sources_may, sources_short}
use Rattle.zco_join.proofs.CountedLemmas.{all_behind}
use Rattle.zco_join.proofs.TicketLemmas.{first_charged, fits_charged, last_charged, occupied_first, occupied_last}
use Rattle.zco_join.proofs.TurnLemmas.{swapped}

-- what holds of one among others
pub all_one : {X : Type 0} (P : X → Type 0) (before : List X) (x : X) (behind : List X) → All P (before ++ (x ∷ behind)) → P x
all_one P before x behind all = All-head P x behind (all_behind P before (x ∷ behind) all)

-- a queue is told of whichever account was charged
pub tells_still : {old new : Heap} {q : Queue} → new.roots (first_word q.acct) ≡ old.roots (first_word q.acct) →
    new.roots (last_word q.acct) ≡ old.roots (last_word q.acct) → TellsQueue old q → TellsQueue new q
tells_still f l t = record { first = f ∙ t.first; last = l ∙ t.last; fits = t.fits }

pub all_tell : {old new : Heap} → ((acct : Acct) → new.roots (first_word acct) ≡ old.roots (first_word acct)) →
    ((acct : Acct) → new.roots (last_word acct) ≡ old.roots (last_word acct)) → (qs : List Queue) → All (TellsQueue old) qs → All (TellsQueue new) qs
all_tell {old} {new} f l qs all = All-weaker (TellsQueue old) (TellsQueue new) (λ q t. tells_still (f q.acct) (l q.acct) t) qs all

-- an account pays for something, and the control words of tickets stay
module _ {acct : Acct} {number : ℕ} {amounts : Amounts} {tickets : List Ticket} {moves : List Move} {es es' : Entries} {old new : Heap}
    (p : Pays acct number amounts tickets moves es es' old new) where
  pub pays_first : (other : Acct) → new.roots (first_word other) ≡ old.roots (first_word other)
  pays_first other =
      let r : new.roots ≡ (with_occupied old acct _).roots = ap (λ (h : Heap). h.roots) p.others in
      ap (λ (words : ℕ → ℕ). words (first_word other)) r ∙ occupied_first old acct other _

  pub pays_last : (other : Acct) → new.roots (last_word other) ≡ old.roots (last_word other)
  pays_last other =
      let r : new.roots ≡ (with_occupied old acct _).roots = ap (λ (h : Heap). h.roots) p.others in
      ap (λ (words : ℕ → ℕ). words (last_word other)) r ∙ occupied_last old acct other _

  -- its own queue is told with what is left of its tickets
  pub pays_queue : TellsQueue old (record { acct = acct; tickets = tickets }) →
      TellsQueue new (record { acct = acct; tickets = charged tickets number amounts })
  pays_queue t = record {
    first = pays_first acct ∙ t.first ∙ sym (first_charged number amounts tickets);
    last = pays_last acct ∙ t.last ∙ sym (last_charged number amounts tickets);
    fits = fits_charged number amounts tickets t.fits;
  }

  pub pays_moves : new.moves ≡ old.moves ++ moves
  pays_moves = ap (λ (h : Heap). h.moves) p.others

  pub pays_spare : new.spare ≡ old.spare - length moves
  pays_spare = ap (λ (h : Heap). h.spare) p.others

module _ {start : Heap} {acct : Acct} {parts : List Filled} {t : Together} {object : ℕ} {done : List ExtentPiece} {p : ExtentPiece} {left : List ExtentPiece} {old : Heap}
    (h : HasAppended start acct parts t object done (p ∷ left) old) where
  abbrev others : Entries
  others = objects_entries (t.clones ++ t.others) ++ (queues_entries t.more ++ t.rest)

  abbrev extents : List ExtentRow
  extents = extents_at h.addrs done

  pub spot : SpotOf p.of t.sources
  spot =
      let P : ExtentPiece → Type 0 = λ q. IsThere (source_at q.of t.sources) in
      find_spot p.of t.sources (all_one P done p left (subst (All P) h.whole (pieces_there h.from)))

  may : MayCount spot.here
  may = all_one MayCount spot.before spot.here spot.behind (subst (All MayCount) spot.whole (sources_may h.from))

  short : spot.here.source.row.length ≤ longest_source
  short =
      let P : NamedSource → Type 0 = λ s. s.source.row.length ≤ longest_source in
      all_one P spot.before spot.here spot.behind (subst (All P) spot.whole (sources_short h.from))

  done_few : length done < 2 ^ 22
  done_few =
      let w = ap (length {A = ExtentPiece}) h.whole in
      let a = length-append done (p ∷ left) in
      let f = h.from.few in omega (arith, w, a, f)

  of_few : pieces_of spot.here.addr done < 2 ^ 22
  of_few = let m = of_most spot.here.addr done in let d = done_few in omega (arith, m, d)

  abbrev source : CountedSource
  source = source_now acct done p spot

  abbrev own : Entries
  own = object_entries object (whole_row acct extents)

  abbrev queue : Entries
  queue = queue_entries acct h.tickets

  abbrev beside : Entries
  beside = others_now acct done p spot others

  focused : BlocksAre old.blocks ((own ++ queue) ++ (counted_entries p.of source ++ beside))
  focused = focus acct done p spot (own ++ queue) others h.stands

  -- the object and the source are kept so that an extent of it may come
  pub with_source : KeepsWithSource old object (whole_row acct extents) h.tickets p.of source
  with_source = record {
    beside = record {
      keeps = record {
        rest = counted_entries p.of source ++ beside;
        stands = subst (BlocksAre old.blocks) (append_assoc own queue (counted_entries p.of source ++ beside)) focused;
        fits = whole_fits acct extents h.fits (let n = length-extents_at h.addrs done h.each in let d = done_few in omega (arith, n, d));
        first = h.queue.first;
        last = h.queue.last;
        tickets_fit = h.queue.fits;
      };
      behind = beside;
      whole = refl;
    };
    fits = more_fits acct (pieces_of spot.here.addr done) spot.here may of_few;
    below = more_below acct (pieces_of spot.here.addr done) spot.here may of_few;
    short = subst (λ n. n ≤ longest_source) (sym (row_same acct (pieces_of spot.here.addr done) spot.here.source)) short;
  }
    where
      row_same : (a : Acct) (n : ℕ) (s : CountedSource) → (more_uses a n s).row.length ≡ s.row.length
      row_same accts.Inbound n s = refl
      row_same accts.Outbound n s = refl

  pub source_found : old.blocks p.of ≡ Some (counted_block source)
  source_found = found old.blocks p.of (counted_block source) (own ++ queue) beside focused

  pub is_source : IsKind (old.blocks p.of) kinds.Source
  is_source = subst (λ (o : Option Block). IsKind o kinds.Source) (sym source_found) refl

  no_raw : IsKind (old.blocks p.of) kinds.Raw → ⊥
  no_raw k =
      let e : kinds.Source ≡ kinds.Raw = subst (λ (o : Option Block). IsKind o kinds.Raw) source_found k in cc

  pub is_with_source : IsWithSource old object p.of
  is_with_source = λ a b. record { row = _; tickets = _; source = _; keeps = with_source }

  pub is_with_raw : IsWithRaw old object p.of
  is_with_raw = λ a b. absurd (no_raw b)

  -- so it comes as of a source
  pub appends_source : {number : ℕ} {mid : Heap} → AppendsPiece object number p old mid → AppendsSource object number p old mid
  appends_source (inl a) = a
  appends_source (inr r) = absurd (no_raw r.may.unnamed.kind)

  module _ {number : ℕ} {mid : Heap} (a : AppendsSource object number p old mid) where
    pays : Pays acct number (use_amounts acct source) h.tickets (Took 32 a.addr ∷ []) (own ++ counted_entries p.of source)
        (object_entries object (with_extent (whole_row acct extents) (extent_of a.addr p)) ++ counted_entries p.of (attached acct source)) old mid
    pays = a.pays (whole_row acct extents) h.tickets source with_source

    abbrev extents_then : List ExtentRow
    extents_then = extents_at (h.addrs ++ (a.addr ∷ [])) (done ++ (p ∷ []))

    at_end : extents_then ≡ extents ++ (extent_of a.addr p ∷ [])
    at_end = placed_more h.addrs done a.addr p h.each

    abbrev tickets_then : List Ticket
    tickets_then = charged h.tickets number (use_amounts acct source)

    stands_then : BlocksAre mid.blocks
        ((object_entries object (whole_row acct extents_then) ++ queue_entries acct tickets_then)
        ++ (sources_entries (all_counted acct (done ++ (p ∷ [])) t.sources) ++ others))
    stands_then =
        let C = counted_entries p.of source in
        let C' = counted_entries p.of (attached acct source) in
        let O' = object_entries object (with_extent (whole_row acct extents) (extent_of a.addr p)) in
        let Q' = queue_entries acct tickets_then in
        let row : with_extent (whole_row acct extents) (extent_of a.addr p) ≡ whole_row acct extents_then =
        whole_longer acct extents (extent_of a.addr p) ∙ ap (whole_row acct) (sym at_end) in
        let one : BlocksAre old.blocks (((own ++ C) ++ queue) ++ beside) =
        subst (BlocksAre old.blocks) (sym (append_assoc (own ++ C) queue beside ∙ append_assoc own C (queue ++ beside)))
        (swapped own queue C beside (subst (BlocksAre old.blocks) (append_assoc own queue (C ++ beside)) focused)) in
        let two : BlocksAre mid.blocks (((O' ++ C') ++ Q') ++ beside) = pays.changes.kept beside one in
        let three : BlocksAre mid.blocks ((O' ++ Q') ++ (C' ++ beside)) =
        subst (BlocksAre mid.blocks) (sym (append_assoc O' Q' (C' ++ beside)))
        (swapped O' C' Q' beside (subst (BlocksAre mid.blocks) (append_assoc (O' ++ C') Q' beside ∙ append_assoc O' C' (Q' ++ beside)) two)) in
        let four : BlocksAre mid.blocks ((object_entries object (whole_row acct extents_then) ++ Q') ++ (C' ++ beside)) =
        subst (λ (r : ObjectRow). BlocksAre mid.blocks ((object_entries object r ++ Q') ++ (C' ++ beside))) row three in
        unfocus acct done p spot (own ++ queue) (object_entries object (whole_row acct extents_then) ++ Q') others h.stands four

    -- it has come
    pub append_step : HasAppended start acct parts t object (done ++ (p ∷ [])) left mid
    append_step = record {
      from = h.from;
      whole = h.whole ∙ sym (append_assoc done (p ∷ []) left);
      addrs = h.addrs ++ (a.addr ∷ []);
      each = let x = length-append h.addrs (a.addr ∷ []) in let y = length-append done (p ∷ []) in let e = h.each in omega (arith, x, y, e);
      fits =
          subst (All ExtentFits) (sym at_end)
          (All-push ExtentFits extents (extent_of a.addr p) h.fits
          (let f = all_one PieceFits done p left (subst (All PieceFits) h.whole (pieces_are_fit h.from)) in
          record { addr = let s = a.new_block.small in omega (arith, s); source = f.source; inside = f.inside }));
      tickets = tickets_then;
      stands = stands_then;
      queue = pays_queue pays h.queue;
      more = all_tell (pays_first pays) (pays_last pays) t.more h.more;
      moves =
          pays_moves pays ∙ ap (λ (ms : List Move). ms ++ (Took 32 a.addr ∷ [])) h.moves
          ∙ append_assoc start.moves (takes_clone object h.addrs) (Took 32 a.addr ∷ [])
          ∙ ap (λ (ms : List Move). start.moves ++ (Took 72 object ∷ ms)) (sym (map-append (λ x. Took 32 x) h.addrs (a.addr ∷ [])));
      spent = let s = pays_spare pays in let n = length-append done (p ∷ []) in let u = h.spent in omega (arith, s, n, u);
      room = let s = pays_spare pays in let r = h.room in omega (arith, s, r);
    }

-- so do all of these
pub append_steps : {start : Heap} {acct : Acct} {parts : List Filled} {t : Together} (object number : ℕ) (done ps left : List ExtentPiece) (old new : Heap) →
    HasAppended start acct parts t object done (ps ++ left) old → AppendsEach object number ps old new →
    HasAppended start acct parts t object (done ++ ps) left new
append_steps {start} {acct} {parts} {t} object number done [] left old new h e =
    subst (λ (x : Heap). HasAppended start acct parts t object (done ++ []) left x) (sym e)
    (subst (λ (ps : List ExtentPiece). HasAppended start acct parts t object ps left old) (sym (append-nil done)) h)
append_steps {start} {acct} {parts} {t} object number done (p ∷ ps) left old new h e =
    subst (λ (qs : List ExtentPiece). HasAppended start acct parts t object qs left new) (append_assoc done (p ∷ []) ps)
    (append_steps object number (done ++ (p ∷ [])) ps left e.0 new (append_step h e.1) e.2)

-- one more comes behind others
pub appends_more : (object number : ℕ) (ps qs : List ExtentPiece) (old mid new : Heap) → AppendsEach object number ps old mid →
    AppendsEach object number qs mid new → AppendsEach object number (ps ++ qs) old new
appends_more object number [] qs old mid new e f = subst (λ (h : Heap). AppendsEach object number qs h new) e f
appends_more object number (p ∷ ps) qs old mid new e f = (e.0, e.1, appends_more object number ps qs e.0 mid new e.2 f)
