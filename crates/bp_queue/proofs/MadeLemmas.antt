-- Four empty lists are empty queues.
use Rattle.std.proofs.Common.{ℕ, ◌<◌, ◌^◌, [], ◌∷◌, ◌++◌, sym, ap, ◌∙◌, subst, arith, append_assoc}
use Rattle.sdr_base.specs.Blocks.{Blocks}
use Rattle.sdr_base.specs.Entries.{BlocksAre, Entries}
use Rattle.sdr_base.specs.Lists.{list_entries}
use Rattle.sdr_base.specs.Making.{MakesThing}
use Rattle.sdr_base.specs.Objects.{Heap}
use Rattle.sdr_base.specs.declared.moves.Move.TheVariants.{Took}
use Rattle.sdr_base.proofs.GaveLemmas.{made_then}
use Rattle.sdr_base.proofs.StandingLemmas.{moved}
use Rattle.bp_queue.specs.Calls.{CreatesQueues}
use Rattle.bp_queue.specs.Kept.{FitQueue}
use Rattle.bp_queue.specs.declared.queues.Queues.{Queues}
use Rattle.bp_queue.proofs.QueueLemmas.{closed}

-- an empty list with a number of the user's
abbrev pub empty : ℕ → ℕ → Entries
empty list user = list_entries list (record { user = user; elements = [] })

in_order : {b : Blocks} (A B C D rest : Entries) → BlocksAre b (D ++ (C ++ (B ++ (A ++ rest)))) → BlocksAre b (A ++ (B ++ (C ++ (D ++ rest))))
in_order {b} A B C D rest s =
    let P : Entries → Type 0 = λ es. BlocksAre b es in
    let one : P (C ++ (D ++ (B ++ (A ++ rest)))) = moved D C (B ++ (A ++ rest)) s in
    let two : P (B ++ ((C ++ D) ++ (A ++ rest))) = moved (C ++ D) B (A ++ rest) (subst P (sym (append_assoc C D (B ++ (A ++ rest)))) one) in
    let three : P (A ++ ((B ++ (C ++ D)) ++ rest)) =
    moved (B ++ (C ++ D)) A rest (subst P (sym (append_assoc B (C ++ D) (A ++ rest))) two) in
    subst (λ (es : Entries). P (A ++ es))
    (append_assoc B (C ++ D) rest ∙ ap (λ (es : Entries). B ++ es) (append_assoc C D rest)) three

-- nothing waits
fits_none : (q : Queues) → q.bulk < 2 ^ 32 → q.normal < 2 ^ 32 → q.urgent < 2 ^ 32 → q.line < 2 ^ 32 → FitQueue q 1 []
fits_none q a b c d = record {
  lists = record { bulk = omega (arith, a); normal = omega (arith, b); urgent = omega (arith, c); line = omega (arith, d) };
  few = omega arith;
  bound = omega arith;
  rise = λ i j x l h. absurd (omega (arith, h));
  below = λ k x h. absurd (omega (arith, h));
  apart = λ i j x l h. absurd (omega (arith, h));
  fits = λ k x h. absurd (omega (arith, h));
}

pub creates : (q : Queues) (old one two three new : Heap) → MakesThing 32 q.bulk (empty q.bulk 1) old one →
    MakesThing 32 q.normal (empty q.normal 2) one two → MakesThing 32 q.urgent (empty q.urgent 3) two three →
    MakesThing 32 q.line (empty q.line 1) three new → CreatesQueues q old new
creates q old one two three new a b c d = record {
  keeps = λ rest s.
      closed
      (in_order (empty q.bulk 1) (empty q.normal 2) (empty q.urgent 3) (empty q.line 1) rest
      (d.adds.changes.kept (empty q.urgent 3 ++ (empty q.normal 2 ++ (empty q.bulk 1 ++ rest)))
      (c.adds.changes.kept (empty q.normal 2 ++ (empty q.bulk 1 ++ rest))
      (b.adds.changes.kept (empty q.bulk 1 ++ rest) (a.adds.changes.kept rest s)))))
      (fits_none q a.adds.small b.adds.small c.adds.small d.adds.small);
  made =
      made_then (Took 32 q.bulk ∷ Took 32 q.normal ∷ Took 32 q.urgent ∷ []) (Took 32 q.line ∷ [])
      (made_then (Took 32 q.bulk ∷ Took 32 q.normal ∷ []) (Took 32 q.urgent ∷ [])
      (made_then (Took 32 q.bulk ∷ []) (Took 32 q.normal ∷ []) a.made b.made) c.made) d.made;
}
