-- What stands in a heap, told in another order.
use Rattle.std.proofs.Common.{◌≡◌, List, [], ◌∷◌, ◌++◌, sym, ap, ◌∙◌, subst, append_assoc}
use Rattle.std.specs.Prelude.{All, flat_map}
use Rattle.std.proofs.lemmas.List.Concat.{flat_map-append}
use Rattle.std.proofs.lemmas.List.Elements.{All-cons, All-head, All-nil, All-tail}
use Rattle.sdr_base.specs.Entries.{BlocksAre, Entries}
use Rattle.sdr_base.specs.Objects.{Heap}
use Rattle.sdr_base.specs.ZcoObjects.{ExtentRow, object_entries}
use Rattle.zco_acct.specs.Kept.{queue_entries}
use Rattle.zco_obj.specs.Gone.{NamedSource, sources_entries}
use Rattle.zco_obj.specs.Kept.{ObjectFits}
use Rattle.zco_obj.specs.Uses.{AreNamed}
use Rattle.zco_join.specs.Stocks.{KeepsStock, Queue, Standing, TellsQueue, extents_for, objects_entries, own_extents, queues_entries}
use Rattle.zco_join.proofs.CountedLemmas.{all_behind, all_front, all_joined}
use Rattle.zco_join.proofs.JoinLemmas.{named_moved}
use Rattle.zco_join.proofs.TurnLemmas.{turn}

-- three lists, joined
pub joined_three : {X Y : Type 0} (f : X → List Y) (as' bs cs : List X) → flat_map f (as' ++ (bs ++ cs)) ≡ flat_map f as' ++ (flat_map f bs ++ flat_map f cs)
joined_three {X} {Y} f as' bs cs = flat_map-append f as' (bs ++ cs) ∙ ap (λ (ys : List Y). flat_map f as' ++ ys) (flat_map-append f bs cs)

pub all_moved : {X : Type 0} (P : X → Type 0) (as' bs cs : List X) → All P (as' ++ (bs ++ cs)) → All P (bs ++ (as' ++ cs))
all_moved P as' bs cs all =
    let behind = all_behind P as' (bs ++ cs) all in
    all_joined P bs (as' ++ cs) (all_front P bs cs behind) (all_joined P as' cs (all_front P as' (bs ++ cs) all) (all_behind P bs cs behind))

-- objects that stand behind others stand before them
pub objects_moved : {heap : Heap} {queues : List Queue} {sources : List NamedSource} {rest : Entries} (as' bs cs : List Standing) →
    KeepsStock heap (record { objects = as' ++ (bs ++ cs); queues = queues; sources = sources; rest = rest }) →
    KeepsStock heap (record { objects = bs ++ (as' ++ cs); queues = queues; sources = sources; rest = rest })
objects_moved {heap} {queues} {sources} {rest} as' bs cs k = record {
  stands =
      let R = queues_entries queues ++ (sources_entries sources ++ rest) in
      let A = objects_entries as' in
      let B = objects_entries bs in
      let C = objects_entries cs in
      let f : Standing → Entries = λ z. object_entries z.addr z.row in
      let one : BlocksAre heap.blocks ((A ++ (B ++ C)) ++ R) =
      subst (λ (es : Entries). BlocksAre heap.blocks (es ++ R)) (joined_three f as' bs cs) k.stands in
      let two : BlocksAre heap.blocks (A ++ (B ++ (C ++ R))) =
      subst (BlocksAre heap.blocks) (append_assoc A (B ++ C) R ∙ ap (λ (es : Entries). A ++ es) (append_assoc B C R)) one in
      let three : BlocksAre heap.blocks (B ++ (A ++ (C ++ R))) = turn (1 ∷ []) (A ∷ B ∷ C ∷ []) R two in
      let four : BlocksAre heap.blocks ((B ++ (A ++ C)) ++ R) =
      subst (BlocksAre heap.blocks) (sym (append_assoc B (A ++ C) R ∙ ap (λ (es : Entries). B ++ es) (append_assoc A C R))) three in
      subst (λ (es : Entries). BlocksAre heap.blocks (es ++ R)) (sym (joined_three f bs as' cs)) four;
  fits = all_moved (λ (z : Standing). ObjectFits z.row) as' bs cs k.fits;
  queues = k.queues;
  named = λ acct.
      subst (λ (es : List ExtentRow). AreNamed acct es sources) (sym (joined_three (own_extents acct) bs as' cs))
      (named_moved acct sources (extents_for acct as') (extents_for acct bs) (extents_for acct cs)
      (subst (λ (es : List ExtentRow). AreNamed acct es sources) (joined_three (own_extents acct) as' bs cs) (k.named acct)));
}

-- two queues change their places
pub queues_swapped : {heap : Heap} {objects : List Standing} {sources : List NamedSource} {rest : Entries} (p q : Queue) →
    KeepsStock heap (record { objects = objects; queues = p ∷ q ∷ []; sources = sources; rest = rest }) →
    KeepsStock heap (record { objects = objects; queues = q ∷ p ∷ []; sources = sources; rest = rest })
queues_swapped {heap} {objects} {sources} {rest} p q k = record {
  stands =
      let O = objects_entries objects in
      let P = queue_entries p.acct p.tickets in
      let Q = queue_entries q.acct q.tickets in
      let R = sources_entries sources ++ rest in
      let one : BlocksAre heap.blocks (O ++ (P ++ (Q ++ ([] ++ R)))) =
      subst (λ (es : Entries). BlocksAre heap.blocks (O ++ es)) (append_assoc P (Q ++ []) R ∙ ap (λ (es : Entries). P ++ es) (append_assoc Q [] R)) k.stands in
      subst (λ (es : Entries). BlocksAre heap.blocks (O ++ es)) (sym (append_assoc Q (P ++ []) R ∙ ap (λ (es : Entries). Q ++ es) (append_assoc P [] R)))
      (turn (1 ∷ 2 ∷ 2 ∷ []) (O ∷ P ∷ Q ∷ []) R one);
  fits = k.fits;
  queues =
      let T = TellsQueue heap in
      let others = All-tail T p (q ∷ []) k.queues in
      All-cons T q (p ∷ []) (All-head T q [] others) (All-cons T p [] (All-head T p (q ∷ []) k.queues) (All-nil T));
  named = k.named;
}
