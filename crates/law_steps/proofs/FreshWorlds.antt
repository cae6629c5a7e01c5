-- A world without things meets what the laws ask for.
use Rattle.std.proofs.Common.{lit≤, ◌≡◌, ℕ, ◌≤◌, [], true, Some, None, sym, ap, ◌∙◌}
use Rattle.std.specs.FinMap.{get-empty}
use Rattle.std.specs.List.{IsDistinct}
use Rattle.std.specs.Ordering.{nat_cmp}
use Rattle.std.specs.Prelude.{nat_eq}
use Rattle.std.proofs.lemmas.Bool.Decides.{nat_tests}
use Rattle.std.proofs.lemmas.List.Elements.{All-nil}
use Rattle.std.proofs.Common.{arith}
use Rattle.sdr_base.specs.declared.account.Acct.{Acct}
use Rattle.sdr_base.specs.declared.account.Acct.TheVariants as accts
use Rattle.law_steps.proofs.QueueOrder.{pairs}
use Rattle.law_steps.proofs.SourceViews.{fits_to}
use Rattle.sdr_model.specs.Accounts.{unused_account, fresh_maxima, most_amount}
use Rattle.sdr_model.specs.Amounts.{amounts_by, are_within}
use Rattle.sdr_model.specs.Valid.{FitTogether, IsBarred, IsValidAccount, KeepQueues}
use Rattle.sdr_model.specs.World.{fresh_world}
use Rattle.sdr_model.specs.Zco.{as_object, as_source, object_at, source_at}
use Rattle.sdr_model.specs.declared.zco.ZcoObject.{ZcoObject}
use Rattle.sdr_model.specs.declared.zco.ZcoSource.{ZcoSource}

-- neither a source nor an object is there
no_source : (heap q : ℕ) (s : ZcoSource) → source_at (fresh_world heap) q ≡ Some s → ⊥
no_source heap q s is = let none : None ≡ Some s = sym (ap as_source (get-empty nat_cmp q)) ∙ is in absurd (no none)
  where
    no : None ≡ Some s → ⊥
    no e = cc

no_object : (heap q : ℕ) (z : ZcoObject) → object_at (fresh_world heap) q ≡ Some z → ⊥
no_object heap q z is = let none : None ≡ Some z = sym (ap as_object (get-empty nat_cmp q)) ∙ is in absurd (no none)
  where
    no : None ≡ Some z → ⊥
    no e = cc

pub fresh_fits : (heap : ℕ) → FitTogether (fresh_world heap)
fresh_fits heap = fits_to (fresh_world heap) (record {
  inside = λ q z is. absurd (no_object heap q z is);
  subjects = λ q s is. absurd (no_source heap q s is);
  alone = λ raw a b s t here there named named'. absurd (no_source heap a s here);
  used = λ q s is passing. absurd (no_source heap q s is);
})

-- the fresh maxima are within the greatest amounts
fresh_within : (heap : ℕ) → heap ≤ most_amount
    → are_within (amounts_by (fresh_maxima heap)) (amounts_by (λ space. most_amount)) ≡ true
fresh_within heap low = grind (arith, nat_tests)

none_distinct : IsDistinct nat_eq []
unfolding IsDistinct
none_distinct = tt

pub fresh_queues : (heap : ℕ) → heap ≤ most_amount → KeepQueues (fresh_world heap).accounts
fresh_queues heap low =
    let account : IsValidAccount (unused_account heap) =
    record { tickets = All-nil _; order = pairs [] tt; maxima = fresh_within heap low } in
    record { inbound = account; outbound = account; distinct = none_distinct; below = All-nil _; next = lit≤ tt }

pub fresh_barred : (heap : ℕ) (acct : Acct) → IsBarred (fresh_world heap) acct
fresh_barred heap accts.Inbound = tt
fresh_barred heap accts.Outbound = tt
