use Rattle.std.proofs.Common.{◌∙◌, ℕ, MatchOption, Option, subst, sym}
use Rattle.audit_counts.proofs.CountedLemmas.{counted_in}
use Rattle.audit_counts.specs.Queues.{AreLawfulIn, IsWrongQueueIn}
use Rattle.audit_counts.proofs.audit.wrong_thing.Goals as goal

pub returns-in-Some-2 : goal.returns-in-Some-2
returns-in-Some-2 c =
    let bytes = c.args.heap.now in
    let Told : Option ℕ → Type 0 = λ (o : Option ℕ). MatchOption o (AreLawfulIn bytes) (IsWrongQueueIn bytes) in
    record {
      owned = c.in_default.ensures.owned;
      counted = counted_in bytes c.requires.region (sym c.in_ok-place.ensures ∙ c.in_default-2.is);
      wrong = subst Told c.in-Some-2.is c.in_ok-place-2.ensures;
    }

pub returns : goal.returns
returns c =
    let bytes = c.args.heap.now in
    let Told : Option ℕ → Type 0 = λ (o : Option ℕ). MatchOption o (AreLawfulIn bytes) (IsWrongQueueIn bytes) in
    record {
      owned = c.in_default.ensures.owned;
      counted = counted_in bytes c.requires.region (sym c.in_ok-place.ensures ∙ c.in_default-2.is);
      queued = subst Told c.in_default-3.is c.in_ok-place-2.ensures;
    }
