-- The blocks that go with an object, as the world and the blocks have them.
use Rattle.std.proofs.Common.{◌≡◌, ◌∙◌, ◌≤◌, ℕ, ◌==◌, ◌&&◌, ◌||◌, not, List, [], ◌∷◌, ◌++◌, map, nat_lt, Bool, true, false, Option, Some, is_some, refl, sym, ap, arith}
use Rattle.std.proofs.lemmas.Bool.{ne_eqb}
use Rattle.std.proofs.lemmas.Bool.Decides.{nat_tests}
use Rattle.std.proofs.lemmas.List.Sums.{sum_by-cons}
use Rattle.std.proofs.lemmas.Simd.{map-map}
use Rattle.std.specs.Option.{option_to_list}
use Rattle.std.specs.Prelude.{if◌then◌else◌}
use Rattle.sdr_stands.specs.Rows.{capsule_row, extent_row, medium_of, object_row, subject_number}
use Rattle.sdr_base.specs.ZcoObjects.{ExtentRow, capsule_addr}
use Rattle.law_steps.proofs.DistinctLemmas.{weight}
use Rattle.sdr_model.proofs.SumLemmas.{sum_by-map}
use Rattle.sdr_model.specs.Gone.{gone_blocks, gone_with, is_passing, names_source, source_blocks}
use Rattle.sdr_model.specs.ObjectSteps.{destroy_blocks}
use Rattle.sdr_model.specs.World.{World}
use Rattle.sdr_model.specs.Zco.{as_source, naming, owned_raw, source_at, taken_over, uses_of}
use Rattle.sdr_model.specs.declared.zco.Capsule.{Capsule}
use Rattle.sdr_model.specs.declared.zco.Extent.{Extent}
use Rattle.sdr_model.specs.declared.zco.Subject.{Subject}
use Rattle.sdr_model.specs.declared.zco.Subject.TheVariants as subjects
use Rattle.sdr_model.specs.declared.zco.ZcoObject.{ZcoObject}
use Rattle.sdr_model.specs.declared.zco.ZcoSource.{ZcoSource}
use Rattle.step_zco.proofs.GoneUses.{IsFound, UsedSource, goes, itself, named_later, named_of, some_naming}
use Rattle.zco_obj.specs.Destroying.{gone_object}
use Rattle.zco_obj.specs.Gone as rows
use Rattle.zco_obj.specs.Gone.{NamedSource}
use Rattle.zco_ref.specs.Going as ref

-- the medium of a subject tells whether a raw object was taken over, and what goes with the source
pub passing_told : (s : ZcoSource) → ref.is_passing (medium_of s.subject) s.flagged ≡ is_passing s
passing_told s = ap (λ (b : Bool). b || s.flagged) (by s.subject)
  where
    by : (subject : Subject) → ref.is_owner (medium_of subject) ≡ is_some (taken_over subject)
    by (subjects.File path) = refl
    by (subjects.Bulk item) = refl
    by (subjects.Heap raw) = refl
    by (subjects.Obj raw) = refl

gone_told : (addr : ℕ) (subject : Subject) →
    ref.gone_with (medium_of subject) (subject_number subject) addr ≡ option_to_list (taken_over subject) ++ addr ∷ []
gone_told addr (subjects.File path) = refl
gone_told addr (subjects.Bulk item) = refl
gone_told addr (subjects.Heap raw) = refl
gone_told addr (subjects.Obj raw) = refl

-- the rows of extents name a source as often
pub naming_rows : (q : ℕ) (es : List Extent) → rows.naming q (map extent_row es) ≡ naming q es
naming_rows q es = sum_by-map (λ (e : ExtentRow). if e.source == q then 1 else 0) extent_row es

zero_named : (q : ℕ) (es : List Extent) → (naming q es == 0) ≡ not (names_source q es)
zero_named q [] = refl
zero_named q (e ∷ es) = by (zero_named q es) (e.source == q) refl
  where
    by : (naming q es == 0) ≡ not (names_source q es) → (b : Bool) → (e.source == q) ≡ b →
        (naming q (e ∷ es) == 0) ≡ not (b || names_source q es)
    by others true is =
        let one : 1 ≤ naming q (e ∷ es) =
        omega (arith, sum_by-cons (λ (x : Extent). weight (x.source == q)) e es, ap weight is) in
        ne_eqb (naming q (e ∷ es)) 0 (λ zero. omega (arith, one, zero))
    by others false is =
        let same : naming q (e ∷ es) ≡ naming q es =
        omega (arith, sum_by-cons (λ (x : Extent). weight (x.source == q)) e es, ap weight is) in
        ap (λ (n : ℕ). n == 0) same ∙ others

-- the order of the tests doesn't matter
same_tests : (p q n : Bool) (l : List ℕ) →
    (if (q && not n) then (if p then l else []) else []) ≡ (if ((p && (true && q)) && not n) then l else [])
same_tests true true true l = refl
same_tests true true false l = refl
same_tests true false n l = refl
same_tests false true true l = refl
same_tests false true false l = refl
same_tests false false n l = refl

module _ (w : World) (all : List Extent) where
  abbrev all_rows : List ExtentRow
  all_rows = map extent_row all

  -- a source goes by its row as it does by the world
  pub goes_told : (u : UsedSource w all) → rows.goes_with all_rows (named_of w all u) ≡ goes w all u.addr u.source
  goes_told u =
      let more : nat_lt 0 (rows.naming u.addr all_rows) ≡ true =
      let least = some_naming u.addr all u.some in
      let same = naming_rows u.addr all in grind (arith, nat_tests, least, same) in
      λ i. passing_told u.source i && (more i && (uses_of w u.addr == naming_rows u.addr all i))

  -- what goes with an extent that names it
  one_gone : (es : List Extent) (e : Extent) (u : UsedSource w all) → u.addr ≡ e.source →
      gone_with w all es e ≡ rows.going_before all_rows (map extent_row es) (Some (named_of w all u))
  one_gone es e u here =
      let a = u.addr in
      let l = option_to_list (owned_raw u.source) ++ a ∷ [] in
      let p = is_passing u.source in
      let q = uses_of w a == naming a all in
      let n = names_source a es in
      let going : ℕ → Option ZcoSource → List ℕ = λ k o.
      if ((uses_of w k == naming k all) && not (names_source k es)) then source_blocks k o else [] in
      let one : gone_with w all es e ≡ going a (Some u.source) =
      (λ i. going (sym here i) (source_at w (sym here i))) ∙ ap (going a) (ap as_source u.there) in
      let last : (rows.naming a (map extent_row es) == 0) ≡ not n =
      ap (λ (k : ℕ). k == 0) (naming_rows a es) ∙ zero_named a es in
      let row : ((p && (true && q)) && not n)
      ≡ (rows.goes_with all_rows (named_of w all u) && (rows.naming a (map extent_row es) == 0)) =
      λ i. sym (goes_told u) i && sym last i in
      one ∙ same_tests p q n l
      ∙ (λ i. if row i then sym (gone_told a u.source.subject) i else [])

  -- these sources are found by the extents
  module _ (us : List (UsedSource w all)) where
    abbrev sources : List NamedSource
    sources = map (named_of w all) us

    -- the blocks that go with extents are those that go with their rows
    pub blocks_same : (es : List Extent) → ((q : ℕ) → names_source q es ≡ true → IsFound w all us q) →
        gone_blocks w all es ≡ rows.gone_blocks sources all_rows (map extent_row es)
    blocks_same [] found = refl
    blocks_same (e ∷ es) found =
        let f = found e.source (itself e es) in
        let one : gone_with w all es e ≡ rows.going_before all_rows (map extent_row es) (rows.source_at e.source sources) =
        one_gone es e f.used f.here ∙ ap (rows.going_before all_rows (map extent_row es)) (sym f.is) in
        λ i. one i ++ e.block ∷ blocks_same es (λ q named. found q (named_later q e es named)) i

-- of an object whose extents all go
module _ (w : World) (z : ZcoObject) (us : List (UsedSource w z.extents))
    (found : (q : ℕ) → names_source q z.extents ≡ true → IsFound w z.extents us q) where
  -- the blocks that go are those of its row
  pub destroyed_same : (addr : ℕ) →
      destroy_blocks w addr z ≡ gone_object addr (object_row z) (map (named_of w z.extents) us)
  destroyed_same addr =
      let headers : map (λ (c : Capsule). c.block) z.headers ≡ map capsule_addr (map capsule_row z.headers) =
      sym (map-map capsule_addr capsule_row z.headers) in
      let trailers : map (λ (c : Capsule). c.block) z.trailers ≡ map capsule_addr (map capsule_row z.trailers) =
      sym (map-map capsule_addr capsule_row z.trailers) in
      λ i. headers i ++ blocks_same w z.extents us z.extents found i ++ trailers i ++ addr ∷ []
