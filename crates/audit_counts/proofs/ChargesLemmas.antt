-- Sums of charges.
use Rattle.std.proofs.Common.{◌≡◌, ◌≤◌, ◌<◌, ◌+◌, ◌*◌, ◌-◌, ◌/◌, ◌^◌, ℕ, Bool, false, List, [], ◌∷◌, cond, get_or, length, sum_by, take, arith, ap, sym, ◌∙◌}
use Rattle.std.proofs.lemmas.Bool.{or_parts}
use Rattle.std.proofs.lemmas.List.FromFn.{sum_by-map-range_with_len_more}
use Rattle.std.proofs.lemmas.List.Sums.{sum_by_more}
use Rattle.sdr_base.specs.Cells.{IsRegionSize}
use Rattle.sdr_base.specs.KeptHeap.{block_in}
use Rattle.sdr_base.specs.declared.account.Acct.{Acct}
use Rattle.sdr_base.specs.declared.kind.Kind.TheVariants as kinds
use Rattle.sdr_base.specs.declared.kind.Space.{Space}
use Rattle.sdr_base.specs.declared.kind.Space.TheVariants as spaces
use Rattle.audit_owners.specs.Places.{places}
use Rattle.audit_counts.specs.Occupied.{capsule_charge_at, charge_at, charges_by, left_at, object_charge_at, source_charge_at}
use Rattle.sdr_model.specs.Amounts.{in_space}
use Rattle.audit_owners.proofs.BlockLemmas.{few_bytes, few_words}
use Rattle.audit_owners.proofs.MembersLemmas.{length-followed}
use Rattle.audit_owners.proofs.PlacesLemmas.{sum_over}
use Rattle.audit_owners.specs.Scan.{HaveNoneOf}
use Rattle.audit_owners.specs.View.{View, is_kind, is_one_of, length_of, view_in, word_of}
use Rattle.audit_owners.specs.Chains.{first_link}
use Rattle.audit_owners.specs.Members.{members}
use Rattle.audit_owners.specs.declared.owner.Owner.{Owner}
use Rattle.audit_counts.proofs.CountsLemmas.{no_object}

-- the same amounts have the same sums
pub charges_same : (f g : Space → ℕ) → ((space : Space) → f space ≡ g space) → charges_by f ≡ charges_by g
charges_same f g same = ap charges_by (λ i space. same space i)

module _ (heap : View) (of : Space → ℕ) (xs : List ℕ) (i d : ℕ) (less : i < length xs) where
  -- the charge of one more header or trailer
  pub capsule_more : (bytes : ℕ) → ((other : Space) → in_space spaces.Heap bytes other ≡ capsule_charge_at heap other (get_or xs i d)) → (other : Space) →
      (of other + sum_by (capsule_charge_at heap other) (take i xs)) + in_space spaces.Heap bytes other
      ≡ of other + sum_by (capsule_charge_at heap other) (take (i + 1) xs)
  capsule_more bytes is other =
      let more = sum_by_more (capsule_charge_at heap other) xs i d less in
      let charge = is other in
      omega (arith, more, charge)

  -- what is left of one more ticket
  pub left_more : (file bulk here : ℕ) → file ≡ word_of (heap.blocks (get_or xs i d)) 7 → bulk ≡ word_of (heap.blocks (get_or xs i d)) 8 →
      here ≡ word_of (heap.blocks (get_or xs i d)) 9 → (other : Space) →
      ((of other + sum_by (left_at heap other) (take i xs)) + in_space spaces.File file other) + in_space spaces.Bulk bulk other + in_space spaces.Heap here other
      ≡ of other + sum_by (left_at heap other) (take (i + 1) xs)
  left_more file bulk here file_is bulk_is here_is spaces.File =
      let more = sum_by_more (left_at heap spaces.File) xs i d less in omega (arith, more, file_is)
  left_more file bulk here file_is bulk_is here_is spaces.Bulk =
      let more = sum_by_more (left_at heap spaces.Bulk) xs i d less in omega (arith, more, bulk_is)
  left_more file bulk here file_is bulk_is here_is spaces.Heap =
      let more = sum_by_more (left_at heap spaces.Heap) xs i d less in omega (arith, more, here_is)

-- what the block at one more place charges
pub charge_more : (heap : View) (words : ℕ) (account : Acct) (number : ℕ) (space : Space) →
    sum_by (charge_at heap words account space) (places (number + 1))
    ≡ sum_by (charge_at heap words account space) (places number) + charge_at heap words account space (8 * number)
charge_more heap words account number space =
    sum_by-map-range_with_len_more (charge_at heap words account space) (λ word. 8 * word) 0 number number (omega arith)

-- and words without objects and sources charge nothing
pub charges_over : (bytes : List ℕ) (words : ℕ) (account : Acct) (from to : ℕ) → from ≤ to → HaveNoneOf (kinds.Object ∷ kinds.Source ∷ []) bytes from to →
    charges_by (λ space. sum_by (charge_at (view_in bytes) words account space) (places from))
    ≡ charges_by (λ space. sum_by (charge_at (view_in bytes) words account space) (places to))
charges_over bytes words account from to onward none =
    charges_same (λ space. sum_by (charge_at (view_in bytes) words account space) (places from))
    (λ space. sum_by (charge_at (view_in bytes) words account space) (places to))
    (λ space. sym (sum_over (kinds.Object ∷ kinds.Source ∷ []) bytes (charge_at (view_in bytes) words account space) from to (unused space) onward none))
  where
    unused : (space : Space) (addr : ℕ) → is_one_of (kinds.Object ∷ kinds.Source ∷ []) (block_in bytes addr) ≡ false → charge_at (view_in bytes) words account space addr ≡ 0
    unused space addr off =
        let object = or_parts (is_kind kinds.Object (block_in bytes addr)) (is_one_of (kinds.Source ∷ []) (block_in bytes addr)) off in
        let source = or_parts (is_kind kinds.Source (block_in bytes addr)) false object.1 in
        ap (λ (t : Bool). cond t (object_charge_at (view_in bytes) words space addr) (cond (is_kind kinds.Source (block_in bytes addr)) (source_charge_at (view_in bytes) account space addr) 0))
        (no_object (view_in bytes) account addr object.0)
        ∙ ap (λ (t : Bool). cond t (source_charge_at (view_in bytes) account space addr) 0) source.0

-- the words for its text fit a number
pub few_text : (x : List ℕ) (addr bytes text : ℕ) → IsRegionSize (length x) → bytes ≡ length_of (block_in x addr) → text ≡ bytes - 8 → 15 + text < 2 ^ 61
few_text x addr bytes text region is text_is =
    let few = few_bytes x addr region in
    omega (arith, few, is, text_is)

-- and a chain has few blocks
pub few_members : (x : List ℕ) (owner : Owner) → IsRegionSize (length x) → length (members (view_in x) (length x / 8) owner) < 2 ^ 30
few_members x owner region =
    let most = length-followed (view_in x) owner (length x / 8) (first_link (view_in x) owner) in
    let few = few_words x region in
    omega (arith, most, few)
