-- An object gets the bytes of a raw object, in a heap that has nothing else.
use Rattle.std.proofs.Common.{◌≡◌, ◌+◌, ◌-◌, ◌≤◌, ◌<◌, ◌^◌, ℕ, Bool, true, false, cond, List, [], ◌∷◌, ◌++◌, length, Some, None, refl, sym, ap, ◌∙◌, subst, arith, append_assoc, append-nil, eq-eqb}
use Rattle.std.specs.Prelude.{◌==◌, if◌then◌else◌}
use Rattle.std.proofs.lemmas.List.Elements.{All-cons, All-head, All-nil, All-tail}
use Rattle.std.proofs.lemmas.List.Sums.{sum_by-cons}
use Rattle.sdr_base.specs.Entries.{BlocksAre, Entries}
use Rattle.sdr_base.specs.Objects.{Heap}
use Rattle.sdr_base.specs.Raws.{raw_block, raw_entries}
use Rattle.sdr_base.specs.Words.{TakesBytes, layout}
use Rattle.sdr_base.specs.ZcoObjects.{ExtentRow, ObjectRow, object_entries}
use Rattle.sdr_base.specs.declared.account.Acct.{Acct}
use Rattle.sdr_base.specs.declared.account.Acct.TheVariants as accts
use Rattle.sdr_base.specs.declared.kind.Kind.TheVariants as kinds
use Rattle.sdr_base.specs.declared.moves.Move.TheVariants.{Took}
use Rattle.sdr_base.proofs.StandingLemmas.{came, found}
use Rattle.sdr_model.specs.Accounts.{is_same_account}
use Rattle.sdr_model.specs.Limits.{longest_source}
use Rattle.sdr_model.specs.Things.{extent_need, source_need}
use Rattle.sdr_model.specs.declared.accounts.Ticket.{Ticket}
use Rattle.zco_acct.specs.Charges.{charged}
use Rattle.zco_acct.specs.Kept.{KeepsQueue, queue_entries}
use Rattle.zco_acct.specs.Words.{first_word, last_word}
use Rattle.zco_obj.specs.Amounts.{extent_amounts, object_amounts}
use Rattle.sdr_base.specs.declared.kind.Space.TheVariants as spaces
use Rattle.zco_obj.specs.Appending.{AppendsRaw, taken_piece, taking_over}
use Rattle.zco_obj.specs.Beside.{KeepsWithRaw}
use Rattle.zco_obj.specs.Charging.{Pays}
use Rattle.zco_obj.specs.Extents.{extent_of, with_extent}
use Rattle.zco_obj.specs.Gone.{NamedSource, naming, source_at, sources_entries}
use Rattle.zco_obj.specs.Kept.{ExtentFits, ObjectFits}
use Rattle.zco_obj.specs.Links.{piece_of}
use Rattle.zco_obj.specs.Making.{CreatesObject, empty_row}
use Rattle.zco_obj.specs.Uses.{AreNamed, CountsUses, IsThere}
use Rattle.zco_obj.proofs.CountLemmas.{names}
use Rattle.zco_obj.specs.declared.extent.ExtentPiece.{ExtentPiece}
use Rattle.zco_ref.specs.Counting.{attached}
use Rattle.zco_ref.specs.Kept.{CountedSource, SourceFits, count_in, counted_entries, tied_entries}
use Rattle.zco_part.specs.Pieces.{whole_row}
use Rattle.zco_join.specs.Stocks.{CountsMore, KeepsStock, Queue, Standing, TellsQueue, extents_for, objects_entries, own_extents, queues_entries}
use Rattle.zco_join.proofs.AppendLemmas.{all_tell, pays_first, pays_last, pays_queue, pays_spare}
use Rattle.zco_join.proofs.TurnLemmas.{swapped, turn}
use Rattle.zco_join.proofs.WholeLemmas.{whole_fits, whole_longer}
use Rattle.law_pieces.specs.Texts.{HasAllBytes, HasBytes, Holds, both, with_rest}

-- a raw object that no source names begins with a word of zeros
pub raw_layout : (bytes : List ℕ) → layout (0 ∷ []) bytes ≡ 0 ∷ 0 ∷ 0 ∷ 0 ∷ 0 ∷ 0 ∷ 0 ∷ 0 ∷ bytes
unfolding layout
raw_layout bytes = refl

-- a raw object was taken, where nothing was
pub raw_step : {old new : Heap} {raw : ℕ} (bytes : List ℕ) → KeepsStock old (with_rest []) →
    TakesBytes kinds.Raw (0 ∷ 0 ∷ 0 ∷ 0 ∷ 0 ∷ 0 ∷ 0 ∷ 0 ∷ bytes) raw old new → KeepsStock new (with_rest (raw_entries raw 0 bytes))
raw_step {old} {new} {raw} bytes k t =
    let Q = queues_entries (both (λ acct. [])) in
    let made : TakesBytes kinds.Raw (layout (0 ∷ []) bytes) raw old new = subst (λ (b : List ℕ). TakesBytes kinds.Raw b raw old new) (sym (raw_layout bytes)) t in
    let roots : new.roots ≡ old.roots = ap (λ (h : Heap). h.roots) made.taken in
    record {
      stands =
          subst (λ b. BlocksAre b (Q ++ ((raw, raw_block 0 bytes) ∷ []))) (sym (ap (λ (h : Heap). h.blocks) made.taken))
          (came old.blocks raw (raw_block 0 bytes) Q [] made.nonzero made.fresh k.stands);
      fits = k.fits;
      queues =
          all_tell (λ acct. ap (λ (words : ℕ → ℕ). words (first_word acct)) roots) (λ acct. ap (λ (words : ℕ → ℕ). words (last_word acct)) roots)
          (both (λ acct. [])) k.queues;
      named = k.named;
    }

none_own : (acct : Acct) (object : ℕ) (other : Acct) → own_extents other (record { addr = object; row = empty_row acct }) ≡ []
none_own acct object other = by (is_same_account acct other) []
  where
    by : (b : Bool) (xs : List ExtentRow) → (if b then xs else xs) ≡ xs
    by true xs = refl
    by false xs = refl

-- an object was made
module _ {old : Heap} {acct : Acct} {tickets : List Ticket} {qs : List Queue} {os : List Standing} {sources : List NamedSource} {rest : Entries}
    (k : KeepsStock old (record { objects = os; queues = record { acct = acct; tickets = tickets } ∷ qs; sources = sources; rest = rest })) where
  abbrev pub queue_kept : KeepsQueue old acct tickets
  queue_kept =
      let t = All-head (TellsQueue old) (record { acct = acct; tickets = tickets }) qs k.queues in
      let O = objects_entries os in
      let Q = queue_entries acct tickets in
      let M = queues_entries qs in
      let S = sources_entries sources in
      record {
        rest = O ++ (M ++ (S ++ rest));
        stands = turn (1 ∷ []) (O ∷ Q ∷ M ∷ S ∷ []) rest (subst (λ (es : Entries). BlocksAre old.blocks (O ++ es)) (append_assoc Q M (S ++ rest)) k.stands);
        first = t.first;
        last = t.last;
        fits = t.fits;
      }

  module _ {number object : ℕ} {new : Heap} (c : CreatesObject acct number object old new) where
    pays : Pays acct number object_amounts tickets (Took 72 object ∷ []) [] (object_entries object (empty_row acct)) old new
    pays = c.pays tickets queue_kept

    pub create_step : KeepsStock new (record {
      objects = record { addr = object; row = empty_row acct } ∷ os;
      queues = record { acct = acct; tickets = charged tickets number object_amounts } ∷ qs;
      sources = sources;
      rest = rest;
    })
    create_step = record {
      stands =
          let O = objects_entries os in
          let E = object_entries object (empty_row acct) in
          let Q = queue_entries acct (charged tickets number object_amounts) in
          let M = queues_entries qs in
          let S = sources_entries sources in
          let one : BlocksAre new.blocks ((E ++ Q) ++ (O ++ (M ++ (S ++ rest)))) = pays.changes.kept (O ++ (M ++ (S ++ rest))) queue_kept.stands in
          let two : BlocksAre new.blocks (E ++ (O ++ (Q ++ (M ++ (S ++ rest))))) =
          turn (2 ∷ 1 ∷ []) (E ∷ Q ∷ O ∷ M ∷ S ∷ []) rest (subst (BlocksAre new.blocks) (append_assoc E Q (O ++ (M ++ (S ++ rest)))) one) in
          subst (BlocksAre new.blocks)
          (sym (append_assoc E O ((Q ++ M) ++ (S ++ rest)) ∙ ap (λ (es : Entries). E ++ (O ++ es)) (append_assoc Q M (S ++ rest)))) two;
      fits =
          All-cons (λ (z : Standing). ObjectFits z.row) (record { addr = object; row = empty_row acct }) os
          (whole_fits acct [] (All-nil ExtentFits) (omega arith)) k.fits;
      queues =
          let t = All-head (TellsQueue old) (record { acct = acct; tickets = tickets }) qs k.queues in
          All-cons (TellsQueue new) (record { acct = acct; tickets = charged tickets number object_amounts }) qs (pays_queue pays t)
          (all_tell (pays_first pays) (pays_last pays) qs (All-tail (TellsQueue old) (record { acct = acct; tickets = tickets }) qs k.queues));
      named = λ other.
          subst (λ (es : List ExtentRow). AreNamed other (es ++ extents_for other os) sources) (sym (none_own acct object other)) (k.named other);
    }

    pub create_spare : new.spare ≡ old.spare - 1
    create_spare = pays_spare pays

-- the blocks of a source with its raw object
tied_is : (acct : Acct) (source raw : ℕ) (bytes : List ℕ) → counted_entries source (attached acct (taking_over raw bytes)) ++ raw_entries raw source bytes
    ≡ tied_entries source (attached acct (taking_over raw bytes)) bytes
tied_is accts.Inbound source raw bytes = refl
tied_is accts.Outbound source raw bytes = refl

naming_most : (addr : ℕ) (e : ExtentRow) → naming addr (e ∷ []) ≤ 1
naming_most addr e =
    let c = sum_by-cons (names addr) e [] in
    let m : names addr e ≤ 1 = elim (e.source == addr) as (λ v. (if v then 1 else 0) ≤ 1) [ true ↦ omega arith | false ↦ omega arith ] in
    omega (arith, c, m)

-- an empty object, and a raw object that no source names
module _ {old : Heap} {acct : Acct} {tickets : List Ticket} {qs : List Queue} {object : ℕ} (piece : ExtentPiece) (bytes : List ℕ)
    (k : KeepsStock old (record {
      objects = record { addr = object; row = empty_row acct } ∷ [];
      queues = record { acct = acct; tickets = tickets } ∷ qs;
      sources = [];
      rest = raw_entries piece.of 0 bytes;
    })) (short : length bytes ≤ longest_source) (small : piece.of < 2 ^ 32) where
  stands : BlocksAre old.blocks (object_entries object (empty_row acct) ++ (queue_entries acct tickets ++ (raw_entries piece.of 0 bytes ++ (queues_entries qs ++ []))))
  stands =
      let O = object_entries object (empty_row acct) in
      let Q = queue_entries acct tickets in
      let M = queues_entries qs in
      let R = raw_entries piece.of 0 bytes in
      let one : BlocksAre old.blocks (O ++ (Q ++ (M ++ (R ++ [])))) =
      subst (BlocksAre old.blocks)
      (append_assoc O [] ((Q ++ M) ++ R) ∙ ap (λ (es : Entries). O ++ es) (append_assoc Q M R)
      ∙ ap (λ (es : Entries). O ++ (Q ++ (M ++ es))) (sym (append-nil R))) k.stands in
      turn (3 ∷ 2 ∷ 2 ∷ []) (O ∷ Q ∷ M ∷ R ∷ []) [] one

  told : TellsQueue old (record { acct = acct; tickets = tickets })
  told = All-head (TellsQueue old) (record { acct = acct; tickets = tickets }) qs k.queues

  pub with_raw : KeepsWithRaw old object (empty_row acct) tickets piece.of 0 bytes
  with_raw = record {
    beside = record {
      keeps = record {
        rest = raw_entries piece.of 0 bytes ++ (queues_entries qs ++ []);
        stands = stands;
        fits = whole_fits acct [] (All-nil ExtentFits) (omega arith);
        first = told.first;
        last = told.last;
        tickets_fit = told.fits;
      };
      behind = queues_entries qs ++ [];
      whole = refl;
    };
    small = omega arith;
    named = λ no. absurd (no refl);
    short = short;
  }

  pub raw_found : old.blocks piece.of ≡ Some (raw_block 0 bytes)
  raw_found =
      let O = object_entries object (empty_row acct) in
      let Q = queue_entries acct tickets in
      found old.blocks piece.of (raw_block 0 bytes) (O ++ Q) (queues_entries qs ++ [])
      (subst (BlocksAre old.blocks) (sym (append_assoc O Q ((piece.of, raw_block 0 bytes) ∷ (queues_entries qs ++ [])))) stands)

  module _ {number : ℕ} {new : Heap} (a : AppendsRaw object number piece old new) where
    abbrev pub counted_now : CountedSource
    counted_now = attached acct (taking_over piece.of bytes)

    abbrev pub source : NamedSource
    source = record { addr = a.source; source = counted_now; bytes = bytes }

    abbrev pub extent : ExtentRow
    extent = extent_of a.addr (taken_piece a.source piece)

    abbrev pub filled : Standing
    filled = record { addr = object; row = whole_row acct (extent ∷ []) }

    abbrev pub tickets_then : List Ticket
    tickets_then = charged tickets number (extent_amounts spaces.Heap (length bytes))

    pub within : piece.offset + piece.bytes ≤ length bytes
    within = (a.may.holds bytes (record { block = raw_found; small = omega arith })).within

    pub pays_raw : Pays acct number (extent_amounts spaces.Heap (length bytes)) tickets (Took (source_need 0) a.source ∷ Took extent_need a.addr ∷ [])
        (object_entries object (empty_row acct) ++ raw_entries piece.of 0 bytes)
        (object_entries object (with_extent (empty_row acct) extent) ++ (counted_entries a.source counted_now ++ raw_entries piece.of a.source bytes)) old new
    pays_raw = a.pays (empty_row acct) tickets bytes with_raw

    row_is : with_extent (empty_row acct) extent ≡ filled.row
    row_is = whole_longer acct [] extent

    stands_then : BlocksAre new.blocks (objects_entries (filled ∷ []) ++ (queues_entries (record { acct = acct; tickets = tickets_then } ∷ qs)
        ++ (sources_entries (source ∷ []) ++ [])))
    stands_then =
        let O = object_entries object (empty_row acct) in
        let Q = queue_entries acct tickets in
        let M = queues_entries qs in
        let R = raw_entries piece.of 0 bytes in
        let O' = object_entries object filled.row in
        let Q' = queue_entries acct tickets_then in
        let T = tied_entries a.source counted_now bytes in
        let B : Entries → Type 0 = BlocksAre new.blocks in
        let one : BlocksAre old.blocks (((O ++ R) ++ Q) ++ (M ++ [])) =
        subst (BlocksAre old.blocks) (sym (append_assoc (O ++ R) Q (M ++ []) ∙ append_assoc O R (Q ++ (M ++ [])))) (swapped O Q R (M ++ []) stands) in
        let two : B (((object_entries object (with_extent (empty_row acct) extent) ++ (counted_entries a.source counted_now ++ raw_entries piece.of a.source bytes))
        ++ Q') ++ (M ++ [])) = pays_raw.changes.kept (M ++ []) one in
        let three : B (((O' ++ T) ++ Q') ++ (M ++ [])) =
        subst (λ (r : ObjectRow). B (((object_entries object r ++ T) ++ Q') ++ (M ++ []))) row_is
        (subst (λ (es : Entries). B (((object_entries object (with_extent (empty_row acct) extent) ++ es) ++ Q') ++ (M ++ [])))
        (tied_is acct a.source piece.of bytes) two) in
        let four : B (O' ++ (T ++ (Q' ++ (M ++ [])))) = subst B (append_assoc (O' ++ T) Q' (M ++ []) ∙ append_assoc O' T (Q' ++ (M ++ []))) three in
        let five : B (O' ++ (Q' ++ (M ++ (T ++ [])))) = turn (3 ∷ 3 ∷ 2 ∷ []) (O' ∷ T ∷ Q' ∷ M ∷ []) [] four in
        subst B
        (sym (append_assoc O' [] ((Q' ++ M) ++ ((T ++ []) ++ [])) ∙ ap (λ (es : Entries). O' ++ es) (append_assoc Q' M ((T ++ []) ++ []))
        ∙ ap (λ (es : Entries). O' ++ (Q' ++ (M ++ es))) (append-nil (T ++ [])))) five

    extent_fits : ExtentFits extent
    extent_fits =
        let s = a.new_source.small in
        let b = a.new_block.small in
        let w = within in record { addr = omega (arith, b); source = omega (arith, s); inside = omega (arith, w, short) }

    source_fits : (acct' : Acct) → SourceFits (attached acct' (taking_over piece.of bytes))
    source_fits accts.Inbound =
        let s = short in record { inbound = omega arith; outbound = omega arith; subject = omega (arith, small); length = omega (arith, s) }
    source_fits accts.Outbound =
        let s = short in record { inbound = omega arith; outbound = omega arith; subject = omega (arith, small); length = omega (arith, s) }

    source_short : (acct' : Acct) → (attached acct' (taking_over piece.of bytes)).row.length ≤ longest_source
    source_short accts.Inbound = short
    source_short accts.Outbound = short

    named_one : (a' b : Acct) → 1 ≤ count_in b (attached a' (taking_over piece.of bytes)) → AreNamed b (extent ∷ [])
        (record { addr = a.source; source = attached a' (taking_over piece.of bytes); bytes = bytes } ∷ [])
    named_one a' b one =
        let s : NamedSource = record { addr = a.source; source = attached a' (taking_over piece.of bytes); bytes = bytes } in
        record {
          there =
              All-cons (λ (e : ExtentRow). IsThere (source_at e.source (s ∷ []))) extent []
              (subst (λ v. IsThere (cond v (Some s) None)) (sym (eq-eqb a.source a.source refl)) tt)
              (All-nil (λ (e : ExtentRow). IsThere (source_at e.source (s ∷ []))));
          counted =
              All-cons (CountsUses b (extent ∷ [])) s []
              (record { fits = source_fits a'; short = source_short a'; enough = let m = naming_most a.source extent in omega (arith, m, one) })
              (All-nil (CountsUses b (extent ∷ [])));
        }

    named_none : (a' b : Acct) → AreNamed b [] (record { addr = a.source; source = attached a' (taking_over piece.of bytes); bytes = bytes } ∷ [])
    named_none a' b =
        let s : NamedSource = record { addr = a.source; source = attached a' (taking_over piece.of bytes); bytes = bytes } in
        record {
          there = All-nil (λ (e : ExtentRow). IsThere (source_at e.source (s ∷ [])));
          counted =
              All-cons (CountsUses b []) s [] (record { fits = source_fits a'; short = source_short a'; enough = omega arith }) (All-nil (CountsUses b []));
        }

    named_by : (a' b : Acct) → AreNamed b ((if is_same_account a' b then extent ∷ [] else []) ++ []) (record { addr = a.source; source = attached a' (taking_over piece.of bytes); bytes = bytes } ∷ [])
    named_by accts.Inbound accts.Inbound = named_one accts.Inbound accts.Inbound (omega arith)
    named_by accts.Outbound accts.Outbound = named_one accts.Outbound accts.Outbound (omega arith)
    named_by accts.Inbound accts.Outbound = named_none accts.Inbound accts.Outbound
    named_by accts.Outbound accts.Inbound = named_none accts.Outbound accts.Inbound

    has_bytes : HasAllBytes (source ∷ []) filled
    has_bytes =
        All-cons (λ (e : ExtentRow). HasBytes (piece_of e) (source_at e.source (source ∷ []))) extent []
        (subst (λ v. HasBytes (piece_of extent) (cond v (Some source) None)) (sym (eq-eqb a.source a.source refl)) (by acct))
        (All-nil (λ (e : ExtentRow). HasBytes (piece_of e) (source_at e.source (source ∷ []))))
      where
        by : (a' : Acct) → HasBytes (piece_of extent) (Some (record { addr = a.source; source = attached a' (taking_over piece.of bytes); bytes = bytes }))
        by accts.Inbound = (refl, refl, within)
        by accts.Outbound = (refl, refl, within)

    counts : (room : ℕ) → room < 2 ^ 60 → (a' : Acct) → CountsMore room (record { addr = a.source; source = attached a' (taking_over piece.of bytes); bytes = bytes })
    counts room few accts.Inbound = record { inbound = omega (arith, few); outbound = omega (arith, few) }
    counts room few accts.Outbound = record { inbound = omega (arith, few); outbound = omega (arith, few) }

    pub payload_step : (room : ℕ) → room < 2 ^ 60 → room + 2 ≤ old.spare → Holds new 1 room (record {
      objects = filled ∷ [];
      queues = record { acct = acct; tickets = tickets_then } ∷ qs;
      sources = source ∷ [];
      rest = [];
    })
    payload_step room few spare = record {
      keeps = record {
        stands = stands_then;
        fits =
            All-cons (λ (z : Standing). ObjectFits z.row) filled []
            (whole_fits acct (extent ∷ []) (All-cons ExtentFits extent [] extent_fits (All-nil ExtentFits)) (omega arith)) (All-nil (λ (z : Standing). ObjectFits z.row));
        queues =
            All-cons (TellsQueue new) (record { acct = acct; tickets = tickets_then }) qs (pays_queue pays_raw told)
            (all_tell (pays_first pays_raw) (pays_last pays_raw) qs (All-tail (TellsQueue old) (record { acct = acct; tickets = tickets }) qs k.queues));
        named = named_by acct;
      };
      short = All-cons (λ (z : Standing). length z.row.extents ≤ 1) filled [] (omega arith) (All-nil (λ (z : Standing). length z.row.extents ≤ 1));
      bytes = All-cons (HasAllBytes (source ∷ [])) filled [] has_bytes (All-nil (HasAllBytes (source ∷ [])));
      counts = All-cons (CountsMore room) source [] (counts room few acct) (All-nil (CountsMore room));
      spare = let s = pays_spare pays_raw in omega (arith, s, spare);
    }
