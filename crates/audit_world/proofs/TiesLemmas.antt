-- How the things that a heap tells are tied to one another is what their blocks tell.
use Rattle.std.proofs.Common.{◌≡◌, ◌≢◌, ◌≤◌, ◌==◌, ◌&&◌, ◌||◌, ℕ, zero, suc, Bool, List, [], ◌∷◌, cond, not, true, false, sum_by, arith, ap, ◌∙◌, refl, sym, subst, inl, inr, eqb-true}
use Rattle.std.specs.Prelude.{count_by, find, Option, None, Some}
use Rattle.std.specs.FinMap as finite
use Rattle.std.specs.List.{All, list_any}
use Rattle.std.specs.Option.{option_map, option_map_or}
use Rattle.std.specs.Ordering.{nat_cmp}
use Rattle.std.proofs.lemmas.Bool.{and_from, and_parts, cases_Bool, cases_eq, eq-eqb, ne_eqb}
use Rattle.std.proofs.lemmas.List.Elements.{All-head, All-tail}
use Rattle.std.proofs.lemmas.Option.{none-some}
use Rattle.sdr_stands.specs.Ties.{or_null}
use Rattle.sdr_base.specs.Blocks.{Block}
use Rattle.sdr_base.specs.Kinds.{kind_number}
use Rattle.sdr_base.specs.ZcoObjects.{account_number}
use Rattle.sdr_base.specs.declared.account.Acct.{Acct}
use Rattle.sdr_base.specs.declared.account.Acct.TheVariants as accts
use Rattle.sdr_base.specs.declared.kind.Kind.{Kind}
use Rattle.sdr_base.specs.declared.kind.Kind.TheVariants as kinds
use Rattle.audit_counts.specs.Counts as counts
use Rattle.audit_owners.specs.Members.{members}
use Rattle.sdr_model.proofs.SumLemmas.{sum_by-map}
use Rattle.sdr_model.specs.Accounts.{is_same_account}
use Rattle.sdr_model.specs.World.{thing_at}
use Rattle.sdr_model.specs.Zco.{count_of, is_of_raw, names_raw, source_naming, uses_in}
use Rattle.sdr_model.specs.declared.things.Thing.{Thing}
use Rattle.sdr_model.specs.declared.zco.Extent.{Extent}
use Rattle.audit_owners.specs.Reading.{behind_words}
use Rattle.audit_owners.specs.Rules as rules
use Rattle.audit_owners.specs.Rules.{IsKept, is_source_of}
use Rattle.audit_owners.specs.View.{View, is_kind, word_of}
use Rattle.audit_owners.specs.declared.owner.Owner.TheVariants as owners
use Rattle.audit_owners.specs.declared.rules.OwnerRule.TheVariants as which
use Rattle.audit_world.proofs.ChainLemmas.{IsPlace}
use Rattle.audit_world.proofs.LinkLemmas.{object_account}
use Rattle.audit_world.proofs.OwnLemmas.{IsAudited, own_of}
use Rattle.audit_world.proofs.RowLemmas.{all_row, any_row, find_none, find_some, row, row_sorted, sum_row}
use Rattle.audit_world.proofs.SourceLemmas.{source_of, source_word, subject_by}
use Rattle.audit_world.specs.Told.{account_told, extent_told, thing_by, thing_of_kind, thing_told, things_told, world_told}

-- a block of one kind is of no other
pub kind_apart : (kind other : Kind) (o : Option Block) → is_kind kind o ≡ true → (kind_number kind == kind_number other) ≡ false → is_kind other o ≡ false
kind_apart kind other None is off = refl
kind_apart kind other (Some block) is off =
    ap (λ (n : ℕ). n == kind_number other) (eqb-true (kind_number block.kind) (kind_number kind) is) ∙ off

pub account_same : (account : Acct) (n : ℕ) → n ≤ 1 → is_same_account account (account_told n) ≡ (n == account_number account)
account_same accts.Inbound zero few = refl
account_same accts.Inbound (suc zero) few = refl
account_same accts.Outbound zero few = refl
account_same accts.Outbound (suc zero) few = refl
account_same account (suc (suc n)) few = absurd (omega (arith, few))

-- which raw object a subject is, by the number of its medium
raw_is : (medium number raw : ℕ) (path : List ℕ) → 1 ≤ medium → medium ≤ 4 →
    is_of_raw raw (subject_by medium number path) ≡ ((medium == 3 || medium == 4) && number == raw)
raw_is zero number raw path least most = absurd (omega (arith, least))
raw_is (suc zero) number raw path least most = refl
raw_is (suc (suc zero)) number raw path least most = refl
raw_is (suc (suc (suc zero))) number raw path least most = refl
raw_is (suc (suc (suc (suc zero)))) number raw path least most = refl
raw_is (suc (suc (suc (suc (suc n))))) number raw path least most = absurd (omega (arith, most))

-- the place of what passes a test, where all that does is at one place, and something does unless that is 0
first_found : (test : ℕ × Thing → Bool) (at : ℕ) (es : List (ℕ × Thing)) → All (λ e. test e ≡ true → e.0 ≡ at) es → (list_any test es ≡ false → at ≡ 0) →
    or_null (option_map (λ e. e.0) (find test es)) ≡ at
first_found test at [] all none = sym (none refl)
first_found test at (e ∷ es) all none = elim (cases_Bool (test e)) [
  | inl passes ↦
      ap (λ (t : Bool). or_null (option_map (λ (e : ℕ × Thing). e.0) (cond t (Some e) (find test es)))) passes
      ∙ All-head (λ (e : ℕ × Thing). test e ≡ true → e.0 ≡ at) e es all passes
  | inr fails ↦
      ap (λ (t : Bool). or_null (option_map (λ (e : ℕ × Thing). e.0) (cond t (Some e) (find test es)))) fails
      ∙ first_found test at es (All-tail (λ (e : ℕ × Thing). test e ≡ true → e.0 ≡ at) e es all)
      (λ is. none (ap (λ (t : Bool). t || list_any test es) fails ∙ is))
]

module _ (heap : View) (words : ℕ) where
  -- What holds where no block stands, and of the thing of each kind that a block may have, holds of what stands at an address.
  pub thing_cases : (P : Option Thing → Type 0) (addr : ℕ) → (heap.blocks addr ≡ None → P None) →
      ((kind : Kind) → is_kind kind (heap.blocks addr) ≡ true → P (thing_of_kind kind heap words addr)) → P (thing_told heap words addr)
  thing_cases P addr none some = by_block (heap.blocks addr) refl
    where
      by_block : (o : Option Block) → heap.blocks addr ≡ o → P (thing_by (heap.blocks addr) heap words addr)
      by_block None at = subst (λ (o : Option Block). P (thing_by o heap words addr)) (sym at) (none at)
      by_block (Some block) at =
          subst (λ (o : Option Block). P (thing_by o heap words addr)) (sym at)
          (some block.kind (ap (is_kind block.kind) at ∙ eq-eqb (kind_number block.kind) (kind_number block.kind) refl))

module _ (heap : View) (words : ℕ) (a : IsAudited heap words) where
  -- a thing stands at a place
  pub thing_place : (addr : ℕ) (thing : Thing) → thing_told heap words addr ≡ Some thing → IsPlace words addr
  thing_place addr thing is = by_block (heap.blocks addr) refl is
    where
      by_block : (o : Option Block) → heap.blocks addr ≡ o → thing_by o heap words addr ≡ Some thing → IsPlace words addr
      by_block None at is = absurd (none-some thing is)
      by_block (Some block) at is = a.placed addr block at

  -- the things of the world are those of the row
  pub things_are : finite.entries (world_told heap words).things ≡ row (thing_told heap words) 0 words
  things_are = finite.entries-from_sorted nat_cmp (things_told heap words) (row_sorted (thing_told heap words) 0 words)

  -- the thing at an address is what stands there
  pub thing_is : (addr : ℕ) → thing_at (world_told heap words) addr ≡ thing_told heap words addr
  thing_is addr =
      finite.get-from_sorted nat_cmp (things_told heap words) addr (row_sorted (thing_told heap words) 0 words)
      ∙ by_thing (thing_told heap words addr) refl
    where
      by_thing : (o : Option Thing) → thing_told heap words addr ≡ o → finite.find nat_cmp addr (row (thing_told heap words) 0 words) ≡ thing_told heap words addr
      by_thing None is = find_none (thing_told heap words) addr 0 words is ∙ sym is
      by_thing (Some thing) is =
          let p = thing_place addr thing is in
          let below = p.below in
          subst (λ (q : ℕ). finite.find nat_cmp q (row (thing_told heap words) 0 words) ≡ Some thing) (sym p.at)
          (find_some (thing_told heap words) p.word 0 words thing (omega arith) (omega (arith, below)) (ap (thing_told heap words) (sym p.at) ∙ is))
          ∙ sym is

  -- how many extents of the thing at an address name a source
  uses_same : (from : ℕ) (account : Acct) (addr : ℕ) →
      option_map_or (uses_in from account) (thing_told heap words addr) 0 ≡ counts.uses_at heap words account from addr
  uses_same from account addr =
      thing_cases heap words (λ (o : Option Thing). option_map_or (uses_in from account) o 0 ≡ counts.uses_at heap words account from addr) addr
      (λ at. sym (ap (λ (t : Bool). cond (t && word_of (heap.blocks addr) 0 == account_number account)
      (count_by (counts.extent_names heap from) (members heap words (owners.Extents addr))) 0)
      (ap (is_kind kinds.Object) at)))
      by_kind
    where
      other : (kind : Kind) → is_kind kind (heap.blocks addr) ≡ true → (kind_number kind == 10) ≡ false → 0 ≡ counts.uses_at heap words account from addr
      other kind is off =
          sym (ap (λ (t : Bool). cond (t && word_of (heap.blocks addr) 0 == account_number account)
          (count_by (counts.extent_names heap from) (members heap words (owners.Extents addr))) 0) (kind_apart kind kinds.Object (heap.blocks addr) is off))

      by_kind : (kind : Kind) → is_kind kind (heap.blocks addr) ≡ true →
          option_map_or (uses_in from account) (thing_of_kind kind heap words addr) 0 ≡ counts.uses_at heap words account from addr
      by_kind kinds.Raw is = other kinds.Raw is refl
      by_kind kinds.Text is = other kinds.Text is refl
      by_kind kinds.List is = other kinds.List is refl
      by_kind kinds.Element is = other kinds.Element is refl
      by_kind kinds.Table is = other kinds.Table is refl
      by_kind kinds.Hash is = other kinds.Hash is refl
      by_kind kinds.HashEntry is = other kinds.HashEntry is refl
      by_kind kinds.Name is = other kinds.Name is refl
      by_kind kinds.Source is = other kinds.Source is refl
      by_kind kinds.Object is =
          let ms : List ℕ = members heap words (owners.Extents addr) in
          (λ i. cond (account_same account (word_of (heap.blocks addr) 0) (object_account heap words a addr is) i)
          (sum_by-map (λ (e : Extent). cond (e.source == from) 1 0) (extent_told heap) ms i) 0)
          ∙ ap (λ (t : Bool). cond (t && word_of (heap.blocks addr) 0 == account_number account) (count_by (counts.extent_names heap from) ms) 0) (sym is)
      by_kind kinds.Extent is = other kinds.Extent is refl
      by_kind kinds.Capsule is = other kinds.Capsule is refl
      by_kind kinds.Ticket is = other kinds.Ticket is refl

  -- how many extents of an account's objects name a source, in the world and in the heap
  pub count_same : (from : ℕ) (account : Acct) → count_of (world_told heap words) from account ≡ counts.named_count heap words account from
  count_same from account =
      ap (sum_by (λ (e : ℕ × Thing). uses_in from account e.1)) things_are
      ∙ sum_row (thing_told heap words) (λ (e : ℕ × Thing). uses_in from account e.1) (counts.uses_at heap words account from)
      (λ p x is. ap (λ (o : Option Thing). option_map_or (uses_in from account) o 0) (sym is) ∙ uses_same from account p)
      (λ p is. sym (ap (λ (o : Option Thing). option_map_or (uses_in from account) o 0) (sym is) ∙ uses_same from account p))
      0 words

  -- whether the thing at an address is a source of a raw object
  pub raw_same : (raw addr : ℕ) → option_map_or (names_raw raw) (thing_told heap words addr) false ≡ is_source_of heap raw addr
  raw_same raw addr =
      thing_cases heap words (λ (o : Option Thing). option_map_or (names_raw raw) o false ≡ is_source_of heap raw addr) addr
      (λ at. sym (ap (λ (t : Bool). t && (word_of (heap.blocks addr) 0 == 3 || word_of (heap.blocks addr) 0 == 4) && word_of (heap.blocks addr) 4 == raw)
      (ap (is_kind kinds.Source) at)))
      by_kind
    where
      other : (kind : Kind) → is_kind kind (heap.blocks addr) ≡ true → (kind_number kind == 9) ≡ false → false ≡ is_source_of heap raw addr
      other kind is off =
          sym (ap (λ (t : Bool). t && (word_of (heap.blocks addr) 0 == 3 || word_of (heap.blocks addr) 0 == 4) && word_of (heap.blocks addr) 4 == raw)
          (kind_apart kind kinds.Source (heap.blocks addr) is off))

      by_kind : (kind : Kind) → is_kind kind (heap.blocks addr) ≡ true →
          option_map_or (names_raw raw) (thing_of_kind kind heap words addr) false ≡ is_source_of heap raw addr
      by_kind kinds.Raw is = other kinds.Raw is refl
      by_kind kinds.Text is = other kinds.Text is refl
      by_kind kinds.List is = other kinds.List is refl
      by_kind kinds.Element is = other kinds.Element is refl
      by_kind kinds.Table is = other kinds.Table is refl
      by_kind kinds.Hash is = other kinds.Hash is refl
      by_kind kinds.HashEntry is = other kinds.HashEntry is refl
      by_kind kinds.Name is = other kinds.Name is refl
      by_kind kinds.Source is =
          let b = own_of heap words a kinds.Source addr is in
          let told = source_word heap words a addr b 0 (omega arith) in
          let least = (source_of heap words a addr b).least in
          let most = (source_of heap words a addr b).most in
          raw_is (word_of (heap.blocks addr) 0) (word_of (heap.blocks addr) 4) raw (behind_words (heap.blocks addr) 6) (omega (arith, told, least)) (omega (arith, told, most))
          ∙ ap (λ (t : Bool). t && (word_of (heap.blocks addr) 0 == 3 || word_of (heap.blocks addr) 0 == 4) && word_of (heap.blocks addr) 4 == raw) (sym is)
      by_kind kinds.Object is = other kinds.Object is refl
      by_kind kinds.Extent is = other kinds.Extent is refl
      by_kind kinds.Capsule is = other kinds.Capsule is refl
      by_kind kinds.Ticket is = other kinds.Ticket is refl

  -- the rules that the blocks keep
  names_back : IsKept heap a.owned.reached which.SourceNamesRaw
  names_back = a.owned.kept.1.1.0

  named_back : IsKept heap a.owned.reached which.RawNamesSource
  named_back = a.owned.kept.1.1.1.0

  pub unless : (t r : Bool) → (not t || r) ≡ true → t ≡ true → r ≡ true
  unless true r holds is = holds
  unless false r holds is = let d : false ≡ true = is in cc

  -- a raw object names the source of it
  pub source_named : (raw addr : ℕ) → is_source_of heap raw addr ≡ true → addr ≡ word_of (heap.blocks raw) 0
  source_named raw addr is =
      let p = and_parts (rules.is_source_of_raw (heap.blocks addr)) (word_of (heap.blocks addr) 4 == raw) is in
      let subject = eqb-true (word_of (heap.blocks addr) 4) raw p.1 in
      let named = unless (rules.is_source_of_raw (heap.blocks addr)) _ (named_back addr) p.0 in
      sym (ap (λ (q : ℕ). word_of (heap.blocks q) 0) (sym subject) ∙ eqb-true (word_of (heap.blocks (word_of (heap.blocks addr) 4)) 0) addr named)

  -- the source on a raw object in the world is that which its block names
  pub named_same : (raw : ℕ) → is_kind kinds.Raw (heap.blocks raw) ≡ true → or_null (source_naming (world_told heap words) raw) ≡ word_of (heap.blocks raw) 0
  named_same raw is =
      let at : ℕ = word_of (heap.blocks raw) 0 in
      ap (λ (es : List (ℕ × Thing)). or_null (option_map (λ (e : ℕ × Thing). e.0) (find (λ (e : ℕ × Thing). names_raw raw e.1) es))) things_are
      ∙ first_found (λ (e : ℕ × Thing). names_raw raw e.1) at (row (thing_told heap words) 0 words)
      (all_row (thing_told heap words) (λ (e : ℕ × Thing). names_raw raw e.1 ≡ true → e.0 ≡ at)
      (λ q x told passes.
      source_named raw q (sym (ap (λ (o : Option Thing). option_map_or (names_raw raw) o false) (sym told) ∙ raw_same raw q) ∙ passes))
      0 words)
      (λ none. elim (cases_eq at 0) [ inl null ↦ null | inr some ↦ absurd (there some none) ])
    where
      there : word_of (heap.blocks raw) 0 ≢ 0 → list_any (λ (e : ℕ × Thing). names_raw raw e.1) (row (thing_told heap words) 0 words) ≡ false → ⊥
      there some none =
          let at : ℕ = word_of (heap.blocks raw) 0 in
          let names : rules.is_raw_of_source (heap.blocks raw) ≡ true =
          and_from (is_kind kinds.Raw (heap.blocks raw)) (not (at == 0)) is (ap not (ne_eqb at 0 some)) in
          let source : is_source_of heap raw at ≡ true = unless (rules.is_raw_of_source (heap.blocks raw)) _ (names_back raw) names in
          by_thing (thing_told heap words at) refl (raw_same raw at ∙ source) none
        where
          by_thing : (o : Option Thing) → thing_told heap words (word_of (heap.blocks raw) 0) ≡ o → option_map_or (names_raw raw) (thing_told heap words (word_of (heap.blocks raw) 0)) false ≡ true →
              list_any (λ (e : ℕ × Thing). names_raw raw e.1) (row (thing_told heap words) 0 words) ≡ false → ⊥
          by_thing None told passes none =
              let d : false ≡ true = sym (ap (λ (o : Option Thing). option_map_or (names_raw raw) o false) told) ∙ passes in cc
          by_thing (Some x) told passes none =
              let p = thing_place (word_of (heap.blocks raw) 0) x told in
              let below = p.below in
              let yes : names_raw raw x ≡ true = sym (ap (λ (o : Option Thing). option_map_or (names_raw raw) o false) told) ∙ passes in
              let any : list_any (λ (e : ℕ × Thing). names_raw raw e.1) (row (thing_told heap words) 0 words) ≡ true =
              any_row (thing_told heap words) (λ (e : ℕ × Thing). names_raw raw e.1) p.word 0 words x (omega arith) (omega (arith, below))
              (ap (thing_told heap words) (sym p.at) ∙ told) yes in
              let d : false ≡ true = sym none ∙ any in cc

  -- how many extents of an account's objects name a source in the world is what its block tells, where each source tells its counts
  module _ (counted : (addr : ℕ) → counts.keeps_counts heap words addr ≡ true) where
    told_counts : (addr : ℕ) → is_kind kinds.Source (heap.blocks addr) ≡ true →
        (counts.tells_count heap words accts.Inbound addr ≡ true) × (counts.tells_count heap words accts.Outbound addr ≡ true)
    told_counts addr is =
        and_parts (counts.tells_count heap words accts.Inbound addr) (counts.tells_count heap words accts.Outbound addr)
        (unless (is_kind kinds.Source (heap.blocks addr)) _ (counted addr) is)

    told_same : (account : Acct) (addr : ℕ) → counts.tells_count heap words account addr ≡ true →
        count_of (world_told heap words) addr account ≡ word_of (heap.blocks addr) (counts.count_field account)
    told_same account addr tells =
        count_same addr account
        ∙ sym (eqb-true (word_of (heap.blocks addr) (counts.count_field account)) (counts.named_count heap words account addr) tells)

    pub stored_same : (account : Acct) (addr : ℕ) → is_kind kinds.Source (heap.blocks addr) ≡ true →
        count_of (world_told heap words) addr account ≡ word_of (heap.blocks addr) (counts.count_field account)
    stored_same accts.Inbound addr is = told_same accts.Inbound addr (told_counts addr is).0
    stored_same accts.Outbound addr is = told_same accts.Outbound addr (told_counts addr is).1
