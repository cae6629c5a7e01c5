-- The sources that extents name, and the raw objects that they are of, stand at addresses that differ.
use Rattle.std.proofs.Common.{◌≡◌, ◌≢◌, ◌∙◌, ℕ, List, [], ◌∷◌, ◌++◌, Bool, true, false, true≢false, Option, Some, None, eq-eqb, refl, sym, ap, subst}
use Rattle.std.proofs.lemmas.Bool.{eqb-true}
use Rattle.std.specs.List.{AllByRecursion}
use Rattle.std.specs.Option.{option_to_list}
use Rattle.std.specs.Prelude.{if◌then◌else◌}
use Rattle.law_steps.proofs.GoneLemmas.{AreApart}
use Rattle.law_steps.proofs.SourceViews.{by_addr}
use Rattle.sdr_model.specs.Valid.{FitTogether}
use Rattle.sdr_model.specs.World.{World, as_raw, thing_at}
use Rattle.sdr_model.specs.Zco.{as_object, as_source, is_of_raw, raw_of, source_at, source_naming, taken_over}
use Rattle.sdr_model.specs.declared.things.Thing.{Thing}
use Rattle.sdr_model.specs.declared.things.Thing.TheVariants as things
use Rattle.sdr_model.specs.declared.zco.Extent.{Extent}
use Rattle.sdr_model.specs.declared.zco.Subject.{Subject}
use Rattle.sdr_model.specs.declared.zco.Subject.TheVariants as subjects
use Rattle.sdr_model.specs.declared.zco.ZcoSource.{ZcoSource}
use Rattle.step_zco.proofs.GoneMaps.{AreDistinct}
use Rattle.step_zco.proofs.GoneUses.{UsedSource, addresses, all_gone, all_keys, gone_at, goes, keys_at}
use Rattle.step_zco.proofs.NamedLemmas.{named_at}
use Rattle.step_zco.proofs.SourceLemmas.{IsRawOf}

-- what holds of all of joined lists holds of all of each
pub all_split : (P : ℕ → Type 0) (xs ys : List ℕ) → AllByRecursion P (xs ++ ys) → AllByRecursion P xs × AllByRecursion P ys
all_split P [] ys all = (tt, all)
all_split P (x ∷ xs) ys all = let rest = all_split P xs ys all.1 in ((all.0, rest.0), rest.1)

pub all_joined : (P : ℕ → Type 0) (xs ys : List ℕ) → AllByRecursion P xs → AllByRecursion P ys → AllByRecursion P (xs ++ ys)
all_joined P [] ys first second = second
all_joined P (x ∷ xs) ys first second = (first.0, all_joined P xs ys first.1 second)

-- joined lists differ where each does, and one from the other
distinct_both : (xs ys : List ℕ) → AreDistinct xs → AreDistinct ys → AllByRecursion (λ x. AreApart x ys) xs →
    AreDistinct (xs ++ ys)
distinct_both [] ys first second apart = second
distinct_both (x ∷ xs) ys first second apart =
    (all_joined (λ b. b ≢ x) xs ys first.0 apart.0, distinct_both xs ys first.1 second apart.1)

-- whose an address is: a source's own, or that of the source which names the raw object there
abbrev owner_by : World → ℕ → Option Thing → Option ℕ
owner_by w k (Some (things.Source source)) = Some k
owner_by w k found = source_naming w k

abbrev pub owner_of : World → ℕ → Option ℕ
owner_of w k = owner_by w k (thing_at w k)

-- those of one owner differ from one of another
other_owner : (w : World) (k a b : ℕ) (ls : List ℕ) → owner_of w k ≡ Some a → AllByRecursion (λ l. owner_of w l ≡ Some b) ls →
    b ≢ a → AreApart k ls
other_owner w k a b [] its all other = tt
other_owner w k a b (l ∷ ls) its all other = (
  (λ same.
      let e : Some b ≡ Some a = sym all.0 ∙ ap (owner_of w) same ∙ its in
      absurd (other (let one : b ≡ a = cc in one))),
  other_owner w k a b ls its all.1 other,
)

module _ (w : World) (all : List Extent) where
  -- what holds of a source and its raw object holds of what goes
  pub gone_part : (P : ℕ → Type 0) (a : ℕ) (s : ZcoSource) → AllByRecursion P (keys_at w all a s) →
      AllByRecursion P (gone_at w all a s)
  gone_part P a s keys = by (goes w all a s) s.subject keys
    where
      by : (b : Bool) (subject : Subject) → AllByRecursion P (a ∷ option_to_list (raw_of subject)) →
          AllByRecursion P (if b then option_to_list (taken_over subject) ++ a ∷ [] else [])
      by false subject keys = tt
      by true (subjects.File path) keys = (keys.0, tt)
      by true (subjects.Bulk item) keys = (keys.0, tt)
      by true (subjects.Heap raw) keys = (keys.1.0, (keys.0, tt))
      by true (subjects.Obj raw) keys = (keys.0, tt)

  pub all_part : (P : ℕ → Type 0) (us : List (UsedSource w all)) → AllByRecursion P (all_keys w all us) →
      AllByRecursion P (all_gone w all us)
  all_part P [] keys = tt
  all_part P (u ∷ us) keys =
      let parts = all_split P (keys_at w all u.addr u.source) (all_keys w all us) keys in
      all_joined P (gone_at w all u.addr u.source) (all_gone w all us) (gone_part P u.addr u.source parts.0)
      (all_part P us parts.1)

  -- what holds of each source and of each raw object
  pub each_key : (P : ℕ → Type 0) → ((u : UsedSource w all) → AllByRecursion P (keys_at w all u.addr u.source)) →
      (us : List (UsedSource w all)) → AllByRecursion P (all_keys w all us)
  each_key P each [] = tt
  each_key P each (u ∷ us) =
      all_joined P (keys_at w all u.addr u.source) (all_keys w all us) (each u) (each_key P each us)

  -- it is a source or a raw object
  pub key_things : (P : ℕ → Type 0) → ((q : ℕ) → as_object (thing_at w q) ≡ None → P q) → (u : UsedSource w all) →
      AllByRecursion P (keys_at w all u.addr u.source)
  key_things P each u = (each u.addr (ap as_object u.there), by u.source.subject u.raw)
    where
      by : (subject : Subject) → IsRawOf w subject u.bytes → AllByRecursion P (option_to_list (raw_of subject))
      by (subjects.File path) raw = tt
      by (subjects.Bulk item) raw = tt
      by (subjects.Heap raw) there = (each raw (ap as_object there), tt)
      by (subjects.Obj raw) there = (each raw (ap as_object there), tt)

  -- two at one address are of one source
  pub same_source : (u v : UsedSource w all) → v.addr ≡ u.addr → v.source ≡ u.source
  same_source u v same =
      let e : Some v.source ≡ Some u.source =
      sym (ap as_source v.there) ∙ ap (source_at w) same ∙ ap as_source u.there in cc

  -- a raw object is not where a source is
  pub raw_apart : (raw : ℕ) (bytes : List ℕ) (u : UsedSource w all) → thing_at w raw ≡ Some (things.Raw bytes) → raw ≢ u.addr
  raw_apart raw bytes u there same =
      let no : Some bytes ≡ None = sym (ap as_raw there) ∙ ap (λ (a : ℕ). as_raw (thing_at w a)) same ∙ ap as_raw u.there in cc

  module _ (fits : FitTogether w) where
    -- they are the source's
    pub key_owner : (u : UsedSource w all) → AllByRecursion (λ k. owner_of w k ≡ Some u.addr) (keys_at w all u.addr u.source)
    key_owner u = (ap (owner_by w u.addr) u.there, by u.source.subject refl u.raw)
      where
        its : (raw : ℕ) → thing_at w raw ≡ Some (things.Raw u.bytes) → is_of_raw raw u.source.subject ≡ true →
            owner_of w raw ≡ Some u.addr
        its raw there named = ap (owner_by w raw) there ∙ named_at w raw u.addr u.source fits u.there named

        by : (subject : Subject) → u.source.subject ≡ subject → IsRawOf w subject u.bytes →
            AllByRecursion (λ k. owner_of w k ≡ Some u.addr) (option_to_list (raw_of subject))
        by (subjects.File path) is raw = tt
        by (subjects.Bulk item) is raw = tt
        by (subjects.Heap raw) is there = (its raw there (ap (is_of_raw raw) is ∙ eq-eqb raw raw refl), tt)
        by (subjects.Obj raw) is there = (its raw there (ap (is_of_raw raw) is ∙ eq-eqb raw raw refl), tt)

    -- so they differ from those of the others
    keys_apart : (k a : ℕ) (us : List (UsedSource w all)) → owner_of w k ≡ Some a → AreApart a (addresses w all us) →
        AreApart k (all_keys w all us)
    keys_apart k a [] its apart = tt
    keys_apart k a (v ∷ us) its apart =
        all_joined (λ b. b ≢ k) (keys_at w all v.addr v.source) (all_keys w all us)
        (other_owner w k a v.addr (keys_at w all v.addr v.source) its (key_owner v) apart.0)
        (keys_apart k a us its apart.1)

    pub each_apart : (a : ℕ) (us : List (UsedSource w all)) (ks : List ℕ) → AllByRecursion (λ k. owner_of w k ≡ Some a) ks →
        AreApart a (addresses w all us) → AllByRecursion (λ k. AreApart k (all_keys w all us)) ks
    each_apart a us [] own apart = tt
    each_apart a us (k ∷ ks) own apart = (keys_apart k a us own.0 apart, each_apart a us ks own.1 apart)

    own_distinct : (u : UsedSource w all) → AreDistinct (keys_at w all u.addr u.source)
    own_distinct u = by u.source.subject u.raw
      where
        by : (subject : Subject) → IsRawOf w subject u.bytes → AreDistinct (u.addr ∷ option_to_list (raw_of subject))
        by (subjects.File path) raw = (tt, tt)
        by (subjects.Bulk item) raw = (tt, tt)
        by (subjects.Heap raw) there = ((raw_apart raw u.bytes u there, tt), (tt, tt))
        by (subjects.Obj raw) there = ((raw_apart raw u.bytes u there, tt), (tt, tt))

    pub keys_distinct : (us : List (UsedSource w all)) → AreDistinct (addresses w all us) → AreDistinct (all_keys w all us)
    keys_distinct [] distinct = tt
    keys_distinct (u ∷ us) distinct =
        distinct_both (keys_at w all u.addr u.source) (all_keys w all us) (own_distinct u) (keys_distinct us distinct.1)
        (each_apart u.addr us (keys_at w all u.addr u.source) (key_owner u) distinct.0)

    -- what is a source's, and doesn't go with it, doesn't go
    pub stays_apart : (k : ℕ) (u : UsedSource w all) → owner_of w k ≡ Some u.addr → AreApart k (gone_at w all u.addr u.source) →
        (us : List (UsedSource w all)) → AreApart k (all_gone w all us)
    stays_apart k u its own [] = tt
    stays_apart k u its own (v ∷ us) =
        all_joined (λ b. b ≢ k) (gone_at w all v.addr v.source) (all_gone w all us)
        (by_addr v.addr u.addr
        (λ same. subst (AreApart k) (λ i. gone_at w all (sym same i) (sym (same_source u v same) i)) own)
        (λ other.
        other_owner w k u.addr v.addr (gone_at w all v.addr v.source) its
        (gone_part (λ l. owner_of w l ≡ Some v.addr) v.addr v.source (key_owner v)) other))
        (stays_apart k u its own us)

    -- a source of a raw object that is none of theirs doesn't go
    pub source_apart : (q a : ℕ) (t : ZcoSource) → thing_at w a ≡ Some (things.Source t) → is_of_raw q t.subject ≡ true →
        (us : List (UsedSource w all)) → AreApart q (all_keys w all us) → AreApart a (all_keys w all us)
    source_apart q a t there named [] apart = tt
    source_apart q a t there named (u ∷ us) apart =
        let parts = all_split (λ b. b ≢ q) (keys_at w all u.addr u.source) (all_keys w all us) apart in
        all_joined (λ b. b ≢ a) (keys_at w all u.addr u.source) (all_keys w all us)
        (by_addr u.addr a (λ same. absurd (no u same parts.0))
        (λ other.
        other_owner w a a u.addr (keys_at w all u.addr u.source) (ap (owner_by w a) there) (key_owner u) other))
        (source_apart q a t there named us parts.1)
      where
        named_key : (subject : Subject) → is_of_raw q subject ≡ true → AreApart q (option_to_list (raw_of subject)) → ⊥
        named_key (subjects.File path) is apart = true≢false (sym is)
        named_key (subjects.Bulk item) is apart = true≢false (sym is)
        named_key (subjects.Heap raw) is apart = apart.0 (eqb-true raw q is)
        named_key (subjects.Obj raw) is apart = apart.0 (eqb-true raw q is)

        no : (u : UsedSource w all) → u.addr ≡ a → AreApart q (keys_at w all u.addr u.source) → ⊥
        no u same apart =
            let e : Some t ≡ Some u.source = sym (ap as_source there) ∙ ap (source_at w) (sym same) ∙ ap as_source u.there in
            let one : t ≡ u.source = cc in
            named_key u.source.subject (ap (λ (x : ZcoSource). is_of_raw q x.subject) (sym one) ∙ named) apart.1
