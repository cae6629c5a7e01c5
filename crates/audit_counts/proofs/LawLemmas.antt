-- A region whose owners, counts and queues are right isn't wrong, and another is so at one place alone.
use Rattle.std.proofs.Common.{◌≡◌, ◌/◌, ℕ, List, length, ◌∙◌, refl, sym, inl, inr}
use Rattle.std.specs.Prelude.{None, Some}
use Rattle.audit_counts.specs.Checked.{IsRightRegion, CountsAreWrongFirst}
use Rattle.audit_counts.proofs.CountedLemmas.{counted_not_wrong}
use Rattle.audit_counts.specs.Counted.{IsCounted, wrong_count}
use Rattle.audit_counts.specs.Queues.{AreLawful, IsWrongQueue}
use Rattle.audit_blocks.specs.declared.error.Check.{Check}
use Rattle.audit_blocks.specs.declared.error.Check.TheVariants as whys
use Rattle.audit_owners.proofs.LawLemmas.{not_wrong}
use Rattle.audit_owners.proofs.OneLemmas.{one_place}
use Rattle.audit_owners.specs.View.{View, view_in}

-- queues that keep their law aren't wrong
lawful_not_wrong : (heap : View) (words place : ℕ) → AreLawful heap words → IsWrongQueue heap words place → ⊥
lawful_not_wrong heap words place lawful (inl w) = w.wrong lawful.inbound
lawful_not_wrong heap words place lawful (inr w) = w.wrong lawful.outbound

queue_once : (heap : View) (words p q : ℕ) → IsWrongQueue heap words p → IsWrongQueue heap words q → p ≡ q
queue_once heap words p q (inl v) (inl w) = v.at ∙ sym w.at
queue_once heap words p q (inl v) (inr w) = absurd (v.wrong w.right)
queue_once heap words p q (inr v) (inl w) = absurd (w.wrong v.right)
queue_once heap words p q (inr v) (inr w) = v.at ∙ sym w.at

module _ (bytes : List ℕ) where
  unfound : (place : ℕ) → IsCounted (view_in bytes) (length bytes / 8) → wrong_count (view_in bytes) (length bytes / 8) ≡ Some place → ⊥
  unfound place counted some =
      let d : None ≡ Some place = sym (counted_not_wrong (view_in bytes) (length bytes / 8) counted) ∙ some in cc

  found_once : (p q : ℕ) → wrong_count (view_in bytes) (length bytes / 8) ≡ Some p → wrong_count (view_in bytes) (length bytes / 8) ≡ Some q → p ≡ q
  found_once p q v w = let e : Some p ≡ Some q = sym v ∙ w in cc

  -- what is right isn't wrong
  pub right_not_wrong : (why : Check) (place : ℕ) → IsRightRegion bytes → CountsAreWrongFirst bytes why place → ⊥
  right_not_wrong whys.Owner place right w = not_wrong (view_in bytes) (length bytes / 8) place right.owned w
  right_not_wrong whys.Count place right w = unfound place right.counted w.wrong
  right_not_wrong whys.Queue place right w = lawful_not_wrong (view_in bytes) (length bytes / 8) place right.queued w.wrong
  right_not_wrong why place right w = w

  -- and nothing is first at two places
  pub first_once : (why other : Check) (p q : ℕ) → CountsAreWrongFirst bytes why p → CountsAreWrongFirst bytes other q → (why ≡ other) × (p ≡ q)
  first_once whys.Owner whys.Owner p q v w = (refl, one_place (view_in bytes) (length bytes / 8) p q v w)
  first_once whys.Owner whys.Count p q v w = absurd (not_wrong (view_in bytes) (length bytes / 8) p w.owned v)
  first_once whys.Owner whys.Queue p q v w = absurd (not_wrong (view_in bytes) (length bytes / 8) p w.owned v)
  first_once whys.Owner other p q v w = absurd w
  first_once whys.Count whys.Owner p q v w = absurd (not_wrong (view_in bytes) (length bytes / 8) q v.owned w)
  first_once whys.Count whys.Count p q v w = (refl, found_once p q v.wrong w.wrong)
  first_once whys.Count whys.Queue p q v w = absurd (unfound p w.counted v.wrong)
  first_once whys.Count other p q v w = absurd w
  first_once whys.Queue whys.Owner p q v w = absurd (not_wrong (view_in bytes) (length bytes / 8) q v.owned w)
  first_once whys.Queue whys.Count p q v w = absurd (unfound q v.counted w.wrong)
  first_once whys.Queue whys.Queue p q v w = (refl, queue_once (view_in bytes) (length bytes / 8) p q v.wrong w.wrong)
  first_once whys.Queue other p q v w = absurd w
  first_once why other p q v w = absurd v
