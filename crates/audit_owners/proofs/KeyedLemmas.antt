-- Where no list, hash or name is found wrong, all are right.
use Rattle.std.proofs.Common.{◌≡◌, ◌≤◌, ◌*◌, ◌==◌, ◌&&◌, ◌||◌, ℕ, Bool, true, false, not, cond, nat_eq, List, [], ◌∷◌, ◌++◌, map, length, ap, ◌∙◌, refl, sym, inl, inr}
use Rattle.std.specs.Prelude.{None, Some}
use Rattle.std.specs.Cmp.Lexicographic.{bytes_decides, pointwise}
use Rattle.std.specs.List.{AllByRecursion, IsDistinct, list_all}
use Rattle.std.proofs.lemmas.Bool.{cases_Bool, or_from, or_parts}
use Rattle.std.proofs.lemmas.List.Folds.{list_any-append}
use Rattle.sdr_base.specs.KeptHeap.{block_in}
use Rattle.audit_owners.proofs.OneOfLemmas.{one_of-none}
use Rattle.audit_owners.proofs.PlacesLemmas.{all_pass, both_none, either_none, found_none}
use Rattle.audit_owners.specs.Entries.{buckets, entry_count, keeps_bucket}
use Rattle.audit_owners.specs.Members.{members}
use Rattle.audit_owners.specs.declared.owner.Owner.TheVariants as owners
use Rattle.audit_owners.specs.Keyed.{IsKeyed, catalogue, keeps_key_rule, key_kinds, wrong_key}
use Rattle.audit_owners.specs.Places.{first_failing, places}
use Rattle.audit_owners.specs.Texts.{first_repeated, is_repeated, repeated_among, text_at}
use Rattle.audit_owners.specs.declared.key_rules.KeyRule.{KeyRule}
use Rattle.audit_owners.specs.declared.key_rules.KeyRule.TheVariants as which
use Rattle.audit_owners.specs.declared.texts.EntryText.{EntryText}
use Rattle.audit_owners.specs.declared.texts.EntryText.TheVariants as texts
use Rattle.sdr_model.specs.Valid.{AreDistinct}
use Rattle.audit_owners.specs.View.{View, is_one_of, view_in, word_of}

-- two texts that differ differ the other way round too
apart : (a b : List ℕ) → pointwise nat_eq a b ≡ false → pointwise nat_eq b a ≡ false
apart a b off = elim (cases_Bool (pointwise nat_eq b a)) [
  | inr off' ↦ off'
  | inl on ↦
      let same : b ≡ a = (bytes_decides b a).0 on in
      let d : false ≡ true = sym off ∙ (bytes_decides a b).1 (sym same) in
      cc
]

module _ (heap : View) (text : EntryText) where
  -- none of these has the text of one of others
  abbrev AreNew : List ℕ → List ℕ → Type 0
  AreNew others addrs = AllByRecursion (λ addr. is_repeated heap text others addr ≡ false) addrs

  -- what is new among more is new among others, and differs from the last
  new_before : (others addrs : List ℕ) (addr : ℕ) → AreNew (others ++ (addr ∷ [])) addrs → AreNew others addrs
  new_before others [] addr new = tt
  new_before others (b ∷ bs) addr (here, rest) =
      let parts = or_parts _ _ (sym (list_any-append (λ other. pointwise nat_eq (text_at heap text b) (text_at heap text other)) others (addr ∷ [])) ∙ here) in
      (parts.0, new_before others bs addr rest)

  differ : (others addrs : List ℕ) (addr : ℕ) → AreNew (others ++ (addr ∷ [])) addrs →
      AllByRecursion (λ other. pointwise nat_eq (text_at heap text addr) other ≡ false) (map (text_at heap text) addrs)
  differ others [] addr new = tt
  differ others (b ∷ bs) addr (here, rest) =
      let parts = or_parts _ _ (sym (list_any-append (λ other. pointwise nat_eq (text_at heap text b) (text_at heap text other)) others (addr ∷ [])) ∙ here) in
      let last = or_parts (pointwise nat_eq (text_at heap text b) (text_at heap text addr)) false parts.1 in
      (apart (text_at heap text b) (text_at heap text addr) last.0, differ others bs addr rest)

  -- entries none of which is repeated
  record AreApart (others addrs : List ℕ) : Type 0 where
    pub new : AreNew others addrs
    pub distinct : AreDistinct (map (text_at heap text) addrs)

  unrepeated : (others addrs : List ℕ) → repeated_among heap text others addrs ≡ None → AreApart others addrs
  unfolding IsDistinct
  unrepeated others [] none = record { new = tt; distinct = tt }
  unrepeated others (a ∷ behind) none = elim (cases_Bool (is_repeated heap text others a)) [
    | inl on ↦
        let d : Some a ≡ None = sym (ap (λ (t : Bool). cond t (Some a) (repeated_among heap text (others ++ (a ∷ [])) behind)) on) ∙ none in
        cc
    | inr off ↦
        let r =
        unrepeated (others ++ (a ∷ [])) behind (sym (ap (λ (t : Bool). cond t (Some a) (repeated_among heap text (others ++ (a ∷ [])) behind)) off) ∙ none) in
        record { new = (off, new_before others behind a r.new); distinct = (differ others behind a r.new, r.distinct) }
  ]

  -- entries whose texts are distinct, and new among others, are new among one more
  still_new : (others addrs : List ℕ) (addr : ℕ) → AreNew others addrs →
      AllByRecursion (λ other. pointwise nat_eq (text_at heap text addr) other ≡ false) (map (text_at heap text) addrs) → AreNew (others ++ (addr ∷ [])) addrs
  still_new others [] addr new apart_all = tt
  still_new others (b ∷ bs) addr (here, rest) (off, offs) = (
    list_any-append (λ other. pointwise nat_eq (text_at heap text b) (text_at heap text other)) others (addr ∷ [])
        ∙ or_from _ _ here (or_from _ false (apart (text_at heap text addr) (text_at heap text b) off) refl),
    still_new others bs addr rest offs,
  )

  none_repeated : (others addrs : List ℕ) → AreNew others addrs → AreDistinct (map (text_at heap text) addrs) → repeated_among heap text others addrs ≡ None
  unfolding IsDistinct
  none_repeated others [] new distinct = refl
  none_repeated others (a ∷ behind) (here, rest) (offs, distinct) =
      ap (λ (t : Bool). cond t (Some a) (repeated_among heap text (others ++ (a ∷ [])) behind)) here
      ∙ none_repeated (others ++ (a ∷ [])) behind (still_new others behind a rest offs) distinct

  new_none : (addrs : List ℕ) → AreNew [] addrs
  new_none [] = tt
  new_none (a ∷ behind) = (refl, new_none behind)

  -- no text is repeated exactly where all are distinct
  pub distinct_from : (addrs : List ℕ) → first_repeated heap text addrs ≡ None → AreDistinct (map (text_at heap text) addrs)
  distinct_from addrs none = (unrepeated [] addrs none).distinct

  pub from_distinct : (addrs : List ℕ) → AreDistinct (map (text_at heap text) addrs) → first_repeated heap text addrs ≡ None
  from_distinct addrs distinct = none_repeated [] addrs (new_none addrs) distinct

-- a block of no kind of which a rule speaks keeps it
pub others_keep : (bytes : List ℕ) (words : ℕ) (rule : KeyRule) (addr : ℕ) → is_one_of (key_kinds rule) (block_in bytes addr) ≡ false →
    keeps_key_rule (view_in bytes) words rule addr ≡ true
others_keep bytes words which.Length addr off =
    ap (λ (t : Bool). not t || word_of (block_in bytes addr) 1 == length (members (view_in bytes) words (owners.List addr))) (or_parts _ _ off).0
others_keep bytes words which.Entries addr off =
    let heap = view_in bytes in
    ap (λ (t : Bool).
    not t || (list_all (keeps_bucket heap words addr) (buckets heap addr) && word_of (block_in bytes addr) 2 == entry_count heap words addr))
    (or_parts _ _ off).0

-- where no block is, each rule is kept
unused : (bytes : List ℕ) (words : ℕ) (rule : KeyRule) (addr : ℕ) → block_in bytes addr ≡ None → keeps_key_rule (view_in bytes) words rule addr ≡ true
unused bytes words rule addr none = others_keep bytes words rule addr (ap (is_one_of (key_kinds rule)) none ∙ one_of-none (key_kinds rule))

-- where nothing is found wrong, all is right
pub keyed : (bytes : List ℕ) (words : ℕ) → length bytes ≤ 8 * words → wrong_key (view_in bytes) words ≡ None → IsKeyed (view_in bytes) words
keyed bytes words long none =
    let heap = view_in bytes in
    let first = either_none (first_failing (keeps_key_rule heap words which.Length) words) _ none in
    let second = either_none (first_failing (keeps_key_rule heap words which.Entries) words) _ first.1 in
    let third = either_none (first_repeated heap texts.Name (catalogue heap words)) _ second.1 in
    record {
      kept = λ rule. by_rule rule first.0 second.0;
      names = distinct_from heap texts.Name (catalogue heap words) third.0;
    }
  where
    by_rule : (rule : KeyRule) → first_failing (keeps_key_rule (view_in bytes) words which.Length) words ≡ None →
        first_failing (keeps_key_rule (view_in bytes) words which.Entries) words ≡ None → (addr : ℕ) → keeps_key_rule (view_in bytes) words rule addr ≡ true
    by_rule which.Length a b = all_pass bytes words (keeps_key_rule (view_in bytes) words which.Length) long (unused bytes words which.Length) a
    by_rule which.Entries a b = all_pass bytes words (keeps_key_rule (view_in bytes) words which.Entries) long (unused bytes words which.Entries) b

-- and what is right isn't found wrong
pub keyed_not_wrong : (heap : View) (words : ℕ) → IsKeyed heap words → wrong_key heap words ≡ None
keyed_not_wrong heap words right =
    both_none _ _ (found_none (keeps_key_rule heap words which.Length) (right.kept which.Length) (places words))
    (both_none _ _ (found_none (keeps_key_rule heap words which.Entries) (right.kept which.Entries) (places words))
    (both_none _ None (from_distinct heap texts.Name (catalogue heap words) right.names) refl))
