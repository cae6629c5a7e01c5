-- An object has got the extents of clones, and the clones go.
use Rattle.std.proofs.Common.{◌≡◌, ◌+◌, ◌≤◌, ℕ, List, [], ◌∷◌, ◌++◌, length, refl, sym, ap, ◌∙◌, subst, arith, append_assoc, append-nil}
use Rattle.std.specs.Prelude.{◌==◌, All, map, if◌then◌else◌}
use Rattle.std.proofs.lemmas.List.Concat.{flat_map-append}
use Rattle.std.proofs.lemmas.List.Elements.{All-cons, All-nil}
use Rattle.std.proofs.lemmas.List.Sums.{sum_by-append, sum_by-cons}
use Rattle.sdr_base.specs.Entries.{BlocksAre, Entries}
use Rattle.sdr_base.specs.Making.{gave}
use Rattle.sdr_base.specs.Objects.{Heap}
use Rattle.sdr_base.specs.ZcoObjects.{ExtentRow, object_entries}
use Rattle.sdr_base.specs.declared.account.Acct.{Acct}
use Rattle.sdr_base.specs.declared.moves.Move.{Move}
use Rattle.zco_acct.specs.Kept.{queue_entries}
use Rattle.zco_obj.specs.Gone.{naming, sources_entries}
use Rattle.zco_obj.specs.Kept.{ObjectFits}
use Rattle.zco_obj.specs.Links.{piece_of}
use Rattle.zco_obj.specs.Making.{CreatesObject}
use Rattle.zco_obj.specs.Uses.{AreNamed}
use Rattle.zco_obj.specs.declared.extent.ExtentPiece.{ExtentPiece}
use Rattle.zco_obj.proofs.CountLemmas.{names}
use Rattle.zco_part.specs.Cloning.{takes_clone}
use Rattle.zco_part.specs.Pieces.{extents_at, whole_row}
use Rattle.zco_part.specs.Sources.{all_counted, pieces_of}
use Rattle.zco_join.specs.Appending.{HasAppended}
use Rattle.zco_join.specs.Joining.{AppendsEach, DestroysEach, Joined, KeepsToJoin, Together, left_by, pieces_in, stock_of}
use Rattle.zco_join.specs.Leaving.{Doomed, KeepsToDestroy, NamesMore, SomeToDestroy, doomed_stock}
use Rattle.zco_join.specs.Stocks.{KeepsStock, Standing, TellsQueue, extents_for, objects_entries, own_extents, queues_entries}
use Rattle.zco_join.specs.declared.filled.Filled.{Filled}
use Rattle.zco_join.proofs.AppendLemmas.{append_steps}
use Rattle.zco_join.proofs.ClonesLemmas.{clones_length, pieces_there}
use Rattle.zco_join.proofs.CountedLemmas.{all_behind, all_front, all_joined, named_placed, naming_placed}
use Rattle.zco_join.proofs.DestroyedLemmas.{Went, no_clone, objects_of, went_each, went_none}
use Rattle.zco_join.proofs.JoinLemmas.{has_begun, named_moved}
use Rattle.zco_join.proofs.TurnLemmas.{turn}
use Rattle.zco_join.proofs.WholeLemmas.{length-extents_at, whole_fits}

-- extents name as often as what they name
naming_pieces : (addr : ℕ) (es : List ExtentRow) → pieces_of addr (map piece_of es) ≡ naming addr es
naming_pieces addr [] = refl
naming_pieces addr (e ∷ es) =
    let ih = naming_pieces addr es in
    let c = sum_by-cons (names addr) e es in
    let d = sum_by-cons (λ (q : ExtentPiece). if q.of == addr then 1 else 0) (piece_of e) (map piece_of es) in
    omega (arith, ih, c, d)

-- what all clones name, each names at most as often
named_most : (n : ℕ → ℕ) (zs : List Standing) → ((addr : ℕ) → pieces_of addr (pieces_in zs) ≤ n addr) →
    All (λ z. (addr : ℕ) → naming addr z.row.extents ≤ n addr) zs
named_most n [] most = All-nil (λ (z : Standing). (addr : ℕ) → naming addr z.row.extents ≤ n addr)
named_most n (z ∷ zs) most =
    let P : Standing → Type 0 = λ x. (addr : ℕ) → naming addr x.row.extents ≤ n addr in
    let split : (addr : ℕ) → pieces_of addr (pieces_in (z ∷ zs)) ≡ naming addr z.row.extents + pieces_of addr (pieces_in zs) =
    λ addr. sum_by-append (λ (q : ExtentPiece). if q.of == addr then 1 else 0) (map piece_of z.row.extents) (pieces_in zs)
    ∙ ap (λ k. k + pieces_of addr (pieces_in zs)) (naming_pieces addr z.row.extents) in
    All-cons P z zs (λ addr. let m = most addr in let s = split addr in omega (arith, m, s))
    (named_most n zs (λ addr. let m = most addr in let s = split addr in omega (arith, m, s)))

-- all extents came
pub has_all : {old : Heap} {acct : Acct} {parts : List Filled} {t : Together} {number object : ℕ} {made appended : Heap} →
    KeepsToJoin old acct parts t → CreatesObject acct number object old made → AppendsEach object number (pieces_in t.clones) made appended →
    HasAppended old acct parts t object (pieces_in t.clones) [] appended
has_all {old} {acct} {parts} {t} {number} {object} {made} {appended} k c e =
    append_steps object number [] (pieces_in t.clones) [] made appended
    (subst (λ (ps : List ExtentPiece). HasAppended old acct parts t object [] ps made) (sym (append-nil (pieces_in t.clones))) (has_begun k c)) e

-- the object has all extents, and the clones stand beside it
module _ {old : Heap} {acct : Acct} {parts : List Filled} {t : Together} {object : ℕ} {heap : Heap}
    (h : HasAppended old acct parts t object (pieces_in t.clones) [] heap) where
  abbrev pub all_pieces : List ExtentPiece
  all_pieces = pieces_in t.clones

  abbrev pub joined : Standing
  joined = record { addr = object; row = whole_row acct (extents_at h.addrs all_pieces) }

  abbrev pub doomed : Doomed
  doomed = record {
    clones = t.clones;
    object = joined;
    others = t.others;
    queues = record { acct = acct; tickets = h.tickets } ∷ t.more;
    sources = all_counted acct all_pieces t.sources;
    rest = t.rest;
  }

  stands : BlocksAre heap.blocks
      (objects_entries (t.clones ++ (joined ∷ t.others)) ++ (queues_entries doomed.queues ++ (sources_entries doomed.sources ++ t.rest)))
  stands =
      let O = object_entries object joined.row in
      let Q = queue_entries acct h.tickets in
      let S = sources_entries doomed.sources in
      let C = objects_entries t.clones in
      let X = objects_entries t.others in
      let M = queues_entries t.more in
      let B : Entries → Type 0 = BlocksAre heap.blocks in
      let one : B ((O ++ Q) ++ (S ++ ((C ++ X) ++ (M ++ t.rest)))) =
      subst (λ (es : Entries). B ((O ++ Q) ++ (S ++ (es ++ (M ++ t.rest)))))
      (flat_map-append (λ (z : Standing). object_entries z.addr z.row) t.clones t.others) h.stands in
      let two : B (O ++ (Q ++ (S ++ (C ++ (X ++ (M ++ t.rest)))))) =
      subst B (append_assoc O Q (S ++ (C ++ (X ++ (M ++ t.rest)))))
      (subst (λ (es : Entries). B ((O ++ Q) ++ (S ++ es))) (append_assoc C X (M ++ t.rest)) one) in
      let three : B (C ++ (O ++ (X ++ (Q ++ (M ++ (S ++ t.rest)))))) =
      turn (2 ∷ 5 ∷ 3 ∷ 5 ∷ 4 ∷ 5 ∷ []) (O ∷ Q ∷ S ∷ C ∷ X ∷ M ∷ []) t.rest two in
      let four : B ((C ++ (O ++ X)) ++ ((Q ++ M) ++ (S ++ t.rest))) =
      subst B (sym (append_assoc C (O ++ X) ((Q ++ M) ++ (S ++ t.rest))))
      (subst (λ (es : Entries). B (C ++ es)) (sym (append_assoc O X ((Q ++ M) ++ (S ++ t.rest))))
      (subst (λ (es : Entries). B (C ++ (O ++ (X ++ es)))) (sym (append_assoc Q M (S ++ t.rest))) three)) in
      subst (λ (es : Entries). B (es ++ ((Q ++ M) ++ (S ++ t.rest))))
      (sym (flat_map-append (λ (z : Standing). object_entries z.addr z.row) t.clones (joined ∷ t.others))) four

  fits : All (λ z. ObjectFits z.row) (t.clones ++ (joined ∷ t.others))
  fits =
      let P : Standing → Type 0 = λ z. ObjectFits z.row in
      let all = h.from.keeps.fits in
      all_joined P t.clones (joined ∷ t.others) (all_front P t.clones t.others all)
      (All-cons P joined t.others
      (whole_fits acct (extents_at h.addrs all_pieces) h.fits (let n = length-extents_at h.addrs all_pieces h.each in let f = h.from.few in omega (arith, n, f)))
      (all_behind P t.clones t.others all))

  named : (other : Acct) → AreNamed other (extents_for other (t.clones ++ (joined ∷ t.others))) doomed.sources
  named other =
      let C = extents_for other t.clones in
      let X = extents_for other t.others in
      let own = own_extents other joined in
      let k = h.from in
      let before : AreNamed other (C ++ X) t.sources =
      subst (λ (es : List ExtentRow). AreNamed other es t.sources) (flat_map-append (own_extents other) t.clones t.others) (k.keeps.named other) in
      let placed : AreNamed other (own ++ (C ++ X)) doomed.sources =
      named_placed acct h.addrs all_pieces h.each k.few other (C ++ X) t.sources k.counts (pieces_there k) before in
      subst (λ (es : List ExtentRow). AreNamed other es doomed.sources) (sym (flat_map-append (own_extents other) t.clones (joined ∷ t.others)))
      (named_moved other doomed.sources own C X placed)

  names_more : All (NamesMore joined) t.clones
  names_more =
      named_most (λ addr. naming addr joined.row.extents) t.clones
      (λ addr. let e = naming_placed addr h.addrs all_pieces h.each in omega (arith, e))

  -- so the clones may go
  pub may_go : KeepsToDestroy heap parts doomed
  may_go = record {
    keeps = record {
      stands = stands;
      fits = fits;
      queues = All-cons (TellsQueue heap) (record { acct = acct; tickets = h.tickets }) t.more h.queue h.more;
      named = named;
    };
    clones = h.from.clones;
    named = names_more;
    room = let r = h.room in omega (arith, r);
  }

  pub some_may_go : SomeToDestroy heap parts
  some_may_go = record { doomed = doomed; keeps = may_go }

-- they went
module _ {old : Heap} {acct : Acct} {parts : List Filled} {t : Together} {number object : ℕ} (made appended new : Heap) (k : KeepsToJoin old acct parts t)
    (c : CreatesObject acct number object old made) (e : AppendsEach object number (pieces_in t.clones) made appended)
    (d : DestroysEach (objects_of parts) appended new) where
  abbrev h : HasAppended old acct parts t object (pieces_in t.clones) [] appended
  h = has_all k c e

  went : (all : ℕ) × Went (doomed h) [] appended new all
  went =
      went_each 0 parts [] appended new
      (went_none refl (subst (λ (ps : List Filled). KeepsToDestroy appended ps (doomed h)) (sym (append-nil parts)) (may_go h))) d

  none : went.1.doomed.clones ≡ []
  none = no_clone went.1.doomed.clones went.1.keeps.clones

  abbrev together : Together
  together = record {
    clones = joined h ∷ [];
    others = t.others;
    tickets = h.tickets;
    more = t.more;
    sources = left_by t.clones (all_counted acct (pieces_in t.clones) t.sources);
    rest = t.rest;
  }

  stock_is : doomed_stock went.1.doomed ≡ stock_of acct together
  stock_is =
      let w = went.1 in
      let a : w.doomed.clones ≡ [] = none in
      let o : w.doomed.object ≡ joined h = w.same.0 in
      let x : w.doomed.others ≡ t.others = w.same.1 in
      let q : w.doomed.queues ≡ record { acct = acct; tickets = h.tickets } ∷ t.more = w.same.2 in
      let r : w.doomed.rest ≡ t.rest = w.same.3 in
      let s : w.doomed.sources ≡ together.sources = sym (ap (λ (zs : List Standing). left_by zs w.doomed.sources) none) ∙ w.sources in
      λ i. record { objects = a i ++ (o i ∷ x i); queues = q i; sources = s i; rest = r i }

  gone_few : length went.1.gone ≡ length (pieces_in t.clones) + length parts
  gone_few =
      let f = went.1.few in
      let n = ap (λ (zs : List Standing). length zs + length (pieces_in zs)) none in
      let l = clones_length parts t.clones k.clones in omega (arith, f, n, l)

  -- and the object stands in their place
  pub has_joined : Joined acct number parts t object old new
  has_joined = record {
    made = made;
    appended = appended;
    creates = c;
    appends = e;
    destroys = d;
    addrs = h.addrs;
    each = h.each;
    tickets = h.tickets;
    keeps = subst (KeepsStock new) stock_is went.1.keeps.keeps;
    gone = went.1.gone;
    few = gone_few;
    moves =
        went.1.moves ∙ ap (λ (ms : List Move). ms ++ gave went.1.gone) h.moves
        ∙ append_assoc old.moves (takes_clone object h.addrs) (gave went.1.gone);
    spent = let s = h.spent in let w = went.1.spent in let n = gone_few in omega (arith, s, w, n);
  }
