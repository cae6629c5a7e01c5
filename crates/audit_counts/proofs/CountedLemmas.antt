-- Where no count is found wrong, each is right, and the other way round.
use Rattle.std.proofs.Common.{◌≡◌, ◌≤◌, ◌*◌, ◌+◌, ◌-◌, ◌/◌, ◌==◌, ◌&&◌, ◌||◌, ℕ, Bool, true, false, not, cond, List, [], ◌∷◌, length, sum_by, ap, ◌∙◌, arith, refl}
use Rattle.std.specs.Prelude.{find, nat_le, Option, None, Some}
use Rattle.std.specs.Option.{option_map}
use Rattle.std.proofs.lemmas.Bool.{and_left, or_parts}
use Rattle.sdr_base.specs.Cells.{IsRegionSize}
use Rattle.sdr_base.specs.KeptHeap.{block_in}
use Rattle.sdr_base.specs.declared.account.Acct.{Acct}
use Rattle.sdr_base.specs.declared.account.Acct.TheVariants as accts
use Rattle.sdr_base.specs.declared.kind.Kind.TheVariants as kinds
use Rattle.sdr_base.specs.declared.kind.Space.{Space}
use Rattle.sdr_base.specs.declared.kind.Space.TheVariants as spaces
use Rattle.audit_counts.specs.Counted.{IsCounted, IsCountedRegion, wrong_count, wrong_count_in, wrong_occupancy_in, wrong_source}
use Rattle.audit_counts.specs.Counts.{keeps_counts, tells_count}
use Rattle.audit_counts.specs.Occupied.{all_spaces, occupancy_word, tells_occupancy}
use Rattle.audit_counts.specs.Rules.{count_kinds, count_rules, extent_length, first_broken, keeps_count_rule}
use Rattle.audit_counts.specs.declared.rules.CountRule.{CountRule}
use Rattle.audit_counts.specs.declared.rules.CountRule.TheVariants as which
use Rattle.audit_owners.proofs.KeyedLemmas.{keyed, keyed_not_wrong}
use Rattle.audit_owners.proofs.OneOfLemmas.{one_of-none}
use Rattle.audit_owners.proofs.PlacesLemmas.{all_pass, both_none, either_none, found_none}
use Rattle.audit_owners.specs.Keyed.{wrong_key}
use Rattle.audit_owners.specs.Members.{members}
use Rattle.audit_owners.specs.Places.{first_failing, places}
use Rattle.audit_owners.specs.View.{View, is_kind, is_one_of, length_of, view_in, word_of}
use Rattle.audit_owners.specs.declared.owner.Owner.TheVariants as owners

-- a block that isn't a source tells no counts
pub others_count : (heap : View) (words addr : ℕ) → is_one_of (kinds.Source ∷ []) (heap.blocks addr) ≡ false → keeps_counts heap words addr ≡ true
others_count heap words addr off =
    ap (λ (t : Bool). not t || (tells_count heap words accts.Inbound addr && tells_count heap words accts.Outbound addr))
    (or_parts (is_kind kinds.Source (heap.blocks addr)) false off).0

-- where no block is, no source is
none_counts : (heap : View) (words addr : ℕ) → heap.blocks addr ≡ None → keeps_counts heap words addr ≡ true
none_counts heap words addr none = others_count heap words addr (ap (is_one_of (kinds.Source ∷ [])) none)

-- of three tests none fails where no first one does
three : {X Y : Type 0} (p : X → Bool) (f : X → Y) (a b c : X) → option_map f (find (λ x. not (p x)) (a ∷ b ∷ c ∷ [])) ≡ None →
    (p a ≡ true) × (p b ≡ true) × (p c ≡ true)
three {X} {Y} p f a b c = by_tests (p a) (p b) (p c)
  where
    by_tests : (x y z : Bool) → option_map f (cond (not x) (Some a) (cond (not y) (Some b) (cond (not z) (Some c) None))) ≡ None →
        (x ≡ true) × (y ≡ true) × (z ≡ true)
    by_tests true true true is = (refl, refl, refl)
    by_tests true true false is = let d : Some (f c) ≡ None = is in cc
    by_tests true false z is = let d : Some (f b) ≡ None = is in cc
    by_tests false y z is = let d : Some (f a) ≡ None = is in cc

occupied_right : (heap : View) (words : ℕ) (account : Acct) → wrong_occupancy_in heap words account ≡ None → (space : Space) →
    tells_occupancy heap words account space ≡ true
occupied_right heap words account none space =
    by_space space (three (tells_occupancy heap words account) (λ s. 8 * occupancy_word account s) spaces.File spaces.Bulk spaces.Heap none)
  where
    by_space : (s : Space) →
        (tells_occupancy heap words account spaces.File ≡ true) × (tells_occupancy heap words account spaces.Bulk ≡ true) × (tells_occupancy heap words account spaces.Heap ≡ true) →
        tells_occupancy heap words account s ≡ true
    by_space spaces.File all = all.0
    by_space spaces.Bulk all = all.1
    by_space spaces.Heap all = all.2

module _ (bytes : List ℕ) (words : ℕ) where
  -- what isn't one of sources alone isn't a source
  source : (addr : ℕ) → is_one_of (kinds.Source ∷ []) (block_in bytes addr) ≡ false → is_kind kinds.Source (block_in bytes addr) ≡ false
  source addr off = (or_parts (is_kind kinds.Source (block_in bytes addr)) false off).0

  -- a block of no kind of which a rule speaks keeps it
  pub others_keep : (rule : CountRule) (addr : ℕ) → is_one_of (count_kinds rule) (block_in bytes addr) ≡ false →
      keeps_count_rule (view_in bytes) words rule addr ≡ true
  others_keep which.RawLength addr off =
      let b = block_in bytes addr in
      ap (λ (t : Bool). not t || word_of b 5 == length_of (block_in bytes (word_of b 4)) - 8) (and_left _ _ (source addr off))
  others_keep which.Inside addr off =
      let b = block_in bytes addr in
      ap (λ (t : Bool). not t || nat_le (word_of b 1 + word_of b 2) (word_of (block_in bytes (word_of b 0)) 5))
      (or_parts (is_kind kinds.Extent b) false off).0
  others_keep which.Part addr off =
      let b = block_in bytes addr in
      ap (λ (t : Bool).
      not t || nat_le (word_of b 7 + word_of b 8) (sum_by (extent_length (view_in bytes)) (members (view_in bytes) words (owners.Extents addr))))
      (or_parts (is_kind kinds.Object b) false off).0
  others_keep which.Bytes addr off =
      let b = block_in bytes addr in
      ap (λ (t : Bool). not t || nat_le 1 (word_of b 2)) (or_parts (is_kind kinds.Extent b) false off).0
  others_keep which.Used addr off =
      let b = block_in bytes addr in
      ap (λ (t : Bool). not ((t && not (word_of b 1 == 0)) || (t && word_of b 0 == 3)) || not (word_of b 2 == 0) || not (word_of b 3 == 0)) (source addr off)
  others_keep which.Unflagged addr off =
      let b = block_in bytes addr in
      ap (λ (t : Bool). not (t && word_of b 0 == 3) || not (t && not (word_of b 1 == 0))) (source addr off)

  -- where no block is, each rule is kept
  unused : (rule : CountRule) (addr : ℕ) → block_in bytes addr ≡ None → keeps_count_rule (view_in bytes) words rule addr ≡ true
  unused rule addr none = others_keep rule addr (ap (is_one_of (count_kinds rule)) none ∙ one_of-none (count_kinds rule))

  -- a rule that no place is found to break is kept everywhere
  one_kept : length bytes ≤ 8 * words → (rule : CountRule) → first_failing (keeps_count_rule (view_in bytes) words rule) words ≡ None → (addr : ℕ) →
      keeps_count_rule (view_in bytes) words rule addr ≡ true
  one_kept long rule none = all_pass bytes words (keeps_count_rule (view_in bytes) words rule) long (unused rule) none

  all_kept : length bytes ≤ 8 * words → first_broken (view_in bytes) words count_rules ≡ None →
      (rule : CountRule) (addr : ℕ) →
      keeps_count_rule (view_in bytes) words rule addr ≡ true
  all_kept long none =
      let f : CountRule → Option ℕ = λ rule. first_failing (keeps_count_rule (view_in bytes) words rule) words in
      let a = either_none (f which.RawLength) _ none in
      let b = either_none (f which.Inside) _ a.1 in
      let c = either_none (f which.Part) _ b.1 in
      let d = either_none (f which.Bytes) _ c.1 in
      let e = either_none (f which.Used) _ d.1 in
      let g = either_none (f which.Unflagged) _ e.1 in
      λ rule. by_rule rule a.0 b.0 c.0 d.0 e.0 g.0
    where
      by_rule : (rule : CountRule) → first_failing (keeps_count_rule (view_in bytes) words which.RawLength) words
          ≡ None →
          first_failing (keeps_count_rule (view_in bytes) words which.Inside) words ≡ None → first_failing (keeps_count_rule (view_in bytes) words which.Part) words ≡ None →
          first_failing (keeps_count_rule (view_in bytes) words which.Bytes) words ≡ None → first_failing (keeps_count_rule (view_in bytes) words which.Used) words ≡ None →
          first_failing (keeps_count_rule (view_in bytes) words which.Unflagged) words ≡ None → (addr : ℕ) → keeps_count_rule (view_in bytes) words rule addr ≡ true
      by_rule which.RawLength a b c d e f = one_kept long which.RawLength a
      by_rule which.Inside a b c d e f = one_kept long which.Inside b
      by_rule which.Part a b c d e f = one_kept long which.Part c
      by_rule which.Bytes a b c d e f = one_kept long which.Bytes d
      by_rule which.Used a b c d e f = one_kept long which.Used e
      by_rule which.Unflagged a b c d e f = one_kept long which.Unflagged f

  -- where no count is found wrong, all are right
  pub counted : length bytes ≤ 8 * words → wrong_count (view_in bytes) words ≡ None → IsCounted (view_in bytes) words
  counted long none =
      let heap = view_in bytes in
      let keys = either_none (wrong_key heap words) _ none in
      let sources = either_none (wrong_source heap words) _ keys.1 in
      let rules = either_none (first_broken heap words count_rules) _ sources.1 in
      let control = either_none _ None rules.1 in
      let both = either_none (wrong_occupancy_in heap words accts.Inbound) (wrong_occupancy_in heap words accts.Outbound) control.0 in
      record {
        keyed = keyed bytes words long keys.0;
        counts = all_pass bytes words (keeps_counts heap words) long (λ addr. none_counts heap words addr) sources.0;
        kept = all_kept long rules.0;
        occupancies = λ account. by_account account both;
      }
    where
      by_account : (account : Acct) → (wrong_occupancy_in (view_in bytes) words accts.Inbound ≡ None) × (wrong_occupancy_in (view_in bytes) words accts.Outbound ≡ None) →
          (space : Space) → tells_occupancy (view_in bytes) words account space ≡ true
      by_account accts.Inbound both = occupied_right (view_in bytes) words accts.Inbound both.0
      by_account accts.Outbound both = occupied_right (view_in bytes) words accts.Outbound both.1

pub counted_in : (bytes : List ℕ) → IsRegionSize (length bytes) → wrong_count_in bytes ≡ None → IsCountedRegion bytes
counted_in bytes region none = let whole = region.whole in counted bytes (length bytes / 8) (omega (arith, whole)) none

-- counts that are right aren't wrong
pub counted_not_wrong : (heap : View) (words : ℕ) → IsCounted heap words → wrong_count heap words ≡ None
counted_not_wrong heap words counted =
    both_none _ _ (keyed_not_wrong heap words counted.keyed)
    (both_none _ _ (found_none (keeps_counts heap words) counted.counts (places words))
    (both_none _ _ (none_broken count_rules)
    (both_none _ None (both_none _ _ (none_in accts.Inbound) (none_in accts.Outbound)) refl)))
  where
    none_in : (account : Acct) → wrong_occupancy_in heap words account ≡ None
    none_in account =
        ap (option_map (λ space. 8 * occupancy_word account space))
        (found_none (tells_occupancy heap words account) (counted.occupancies account) all_spaces)

    none_broken : (rules : List CountRule) → first_broken heap words rules ≡ None
    none_broken [] = refl
    none_broken (rule ∷ rules) =
        both_none _ _ (found_none (keeps_count_rule heap words rule) (counted.kept rule) (places words))
        (none_broken rules)
