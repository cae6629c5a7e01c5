-- The extents of an object inside its part and outside it, as the world and the blocks have them.
use Rattle.std.proofs.Common.{◌≡◌, ◌∙◌, ◌-◌, ◌==◌, ℕ, List, [], ◌∷◌, Bool, true, false, map, refl, sym, ap}
use Rattle.std.proofs.lemmas.List.Elements.{All-map}
use Rattle.std.specs.List.{AllByRecursion}
use Rattle.std.specs.Prelude.{◌||◌, if◌then◌else◌}
use Rattle.sdr_stands.specs.Rows.{extent_row, object_row}
use Rattle.sdr_base.specs.ZcoObjects.{ExtentRow}
use Rattle.sdr_model.proofs.SumLemmas.{sum_by-map}
use Rattle.sdr_model.specs.Cuts.{cut, cut_all, left_out}
use Rattle.sdr_model.specs.Gone.{names_source}
use Rattle.sdr_model.specs.PartSteps.{outside_part, part_end, stripped}
use Rattle.sdr_model.specs.Valid.{IsValidObject}
use Rattle.sdr_model.specs.Zco.{extents_length as model_length}
use Rattle.sdr_model.specs.declared.zco.Extent.{Extent}
use Rattle.sdr_model.specs.declared.zco.ZcoObject.{ZcoObject}
use Rattle.zco_strip.specs.Cuts as rows
use Rattle.zco_obj.specs.Kept.{extents_length}

-- of two tests one holds still where the second follows from another
either : (a b c : Bool) → (b ≡ true → c ≡ true) → (a || b) ≡ true → (a || c) ≡ true
either true b c f is = refl
either false b c f is = f is

right : (a c : Bool) → c ≡ true → (a || c) ≡ true
right true c is = refl
right false c is = is

-- the rows of extents cut to a part are those extents' rows, cut
pub cut_rows : (from to : ℕ) (es : List Extent) → map extent_row (cut_all from to es) ≡ rows.cut_all from to (map extent_row es)
cut_rows from to [] = refl
cut_rows from to (e ∷ es) = by ((cut from to e).length == 0) (cut_rows (from - e.length) (to - e.length) es)
  where
    by : (b : Bool) → map extent_row (cut_all (from - e.length) (to - e.length) es)
        ≡ rows.cut_all (from - e.length) (to - e.length) (map extent_row es) →
        map extent_row (if b then cut_all (from - e.length) (to - e.length) es
        else cut from to e ∷ cut_all (from - e.length) (to - e.length) es)
        ≡ (if b then rows.cut_all (from - e.length) (to - e.length) (map extent_row es)
        else rows.cut from to (extent_row e) ∷ rows.cut_all (from - e.length) (to - e.length) (map extent_row es))
    by true same = same
    by false same = ap (λ (l : List ExtentRow). rows.cut from to (extent_row e) ∷ l) same

-- so it is with those outside
pub out_rows : (from to : ℕ) (es : List Extent) → map extent_row (left_out from to es) ≡ rows.left_out from to (map extent_row es)
out_rows from to [] = refl
out_rows from to (e ∷ es) = by ((cut from to e).length == 0) (out_rows (from - e.length) (to - e.length) es)
  where
    by : (b : Bool) → map extent_row (left_out (from - e.length) (to - e.length) es)
        ≡ rows.left_out (from - e.length) (to - e.length) (map extent_row es) →
        map extent_row (if b then e ∷ left_out (from - e.length) (to - e.length) es
        else left_out (from - e.length) (to - e.length) es)
        ≡ (if b then extent_row e ∷ rows.left_out (from - e.length) (to - e.length) (map extent_row es)
        else rows.left_out (from - e.length) (to - e.length) (map extent_row es))
    by true same = ap (λ (l : List ExtentRow). extent_row e ∷ l) same
    by false same = same

-- the row of an object that is cut to its part is its row, cut
pub stripped_row : (z : ZcoObject) → object_row (stripped z) ≡ rows.stripped (object_row z)
stripped_row z =
    let inside = cut_rows z.part.offset (part_end z) z.extents in
    let bytes : model_length (cut_all z.part.offset (part_end z) z.extents) ≡ extents_length (rows.inside (object_row z)) =
    sym (sum_by-map (λ (e : ExtentRow). e.length) extent_row (cut_all z.part.offset (part_end z) z.extents))
    ∙ ap extents_length inside in
    λ i. record (object_row z) { extents = inside i; part_offset = 0; part_length = bytes i }

-- those outside are the rows of those outside
pub outside_row : (z : ZcoObject) → map extent_row (outside_part z) ≡ rows.outside (object_row z)
outside_row z = out_rows z.part.offset (part_end z) z.extents

-- each extent of a valid object has a byte
pub bytes_row : (z : ZcoObject) → IsValidObject z → rows.HaveBytes (object_row z).extents
bytes_row z valid = All-map rows.HasByte extent_row z.extents valid.extents

-- what holds of all extents by recursion holds of those outside a part and of those inside
pub out_all : (P : Extent → Type 0) (from to : ℕ) (es : List Extent) → AllByRecursion P es → AllByRecursion P (left_out from to es)
out_all P from to [] all = tt
out_all P from to (e ∷ es) all = by ((cut from to e).length == 0) (out_all P (from - e.length) (to - e.length) es all.1)
  where
    by : (b : Bool) → AllByRecursion P (left_out (from - e.length) (to - e.length) es) →
        AllByRecursion P (if b then e ∷ left_out (from - e.length) (to - e.length) es
        else left_out (from - e.length) (to - e.length) es)
    by true rest = (all.0, rest)
    by false rest = rest

-- a source that some of those outside name is named by some of all
pub out_named : (q from to : ℕ) (es : List Extent) → names_source q (left_out from to es) ≡ true → names_source q es ≡ true
out_named q from to [] named = named
out_named q from to (e ∷ es) named =
    by ((cut from to e).length == 0) (out_named q (from - e.length) (to - e.length) es) named
  where
    by : (b : Bool) → (names_source q (left_out (from - e.length) (to - e.length) es) ≡ true → names_source q es ≡ true) →
        names_source q (if b then e ∷ left_out (from - e.length) (to - e.length) es
        else left_out (from - e.length) (to - e.length) es) ≡ true → (e.source == q || names_source q es) ≡ true
    by true rest is = either (e.source == q) (names_source q (left_out (from - e.length) (to - e.length) es)) (names_source q es) rest is
    by false rest is = right (e.source == q) (names_source q es) (rest is)

-- and so is one that some of those inside name
pub cut_named : (q from to : ℕ) (es : List Extent) → names_source q (cut_all from to es) ≡ true → names_source q es ≡ true
cut_named q from to [] named = named
cut_named q from to (e ∷ es) named =
    by ((cut from to e).length == 0) (cut_named q (from - e.length) (to - e.length) es) named
  where
    by : (b : Bool) → (names_source q (cut_all (from - e.length) (to - e.length) es) ≡ true → names_source q es ≡ true) →
        names_source q (if b then cut_all (from - e.length) (to - e.length) es
        else cut from to e ∷ cut_all (from - e.length) (to - e.length) es) ≡ true → (e.source == q || names_source q es) ≡ true
    by true rest is = right (e.source == q) (names_source q es) (rest is)
    by false rest is = either (e.source == q) (names_source q (cut_all (from - e.length) (to - e.length) es)) (names_source q es) rest is
