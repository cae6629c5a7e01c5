-- The blocks that go where an object is cut to its part, and what it charges less, as the world and the blocks have them.
use Rattle.std.proofs.Common.{◌≡◌, ◌∙◌, ◌+◌, ◌-◌, ◌*◌, ◌==◌, ◌&&◌, ℕ, List, [], ◌∷◌, ◌++◌, Bool, true, false, length, map, nat_lt, Some, refl, sym, ap, arith}
use Rattle.std.proofs.lemmas.List.{length-map}
use Rattle.std.proofs.lemmas.List.Sums.{sum_by-append, sum_by-cons}
use Rattle.std.specs.Prelude.{if◌then◌else◌, sum_by}
use Rattle.sdr_stands.specs.Rows.{extent_row, object_row}
use Rattle.sdr_base.specs.ZcoObjects.{ExtentRow}
use Rattle.sdr_base.specs.declared.account.Acct.{Acct}
use Rattle.sdr_base.specs.declared.kind.Space.{Space}
use Rattle.sdr_base.specs.declared.kind.Space.TheVariants as spaces
use Rattle.law_steps.proofs.ZcoOutcomes.{drop_release}
use Rattle.sdr_model.specs.Amounts.{amounts_by, in_space}
use Rattle.sdr_model.specs.Charges.{extent_bytes}
use Rattle.sdr_model.specs.Cuts.{cut, cut_all, left_out}
use Rattle.sdr_model.specs.Gone.{gone_blocks, names_source}
use Rattle.sdr_model.specs.PartSteps.{part_end, stripped}
use Rattle.sdr_model.specs.Valid.{FitTogether}
use Rattle.sdr_model.specs.World.{World, thing_at}
use Rattle.sdr_model.specs.declared.things.Thing.TheVariants as things
use Rattle.sdr_model.specs.declared.zco.Extent.{Extent}
use Rattle.sdr_model.specs.declared.zco.ZcoObject.{ZcoObject}
use Rattle.step_zco.proofs.GoneCharges.{sources_told}
use Rattle.step_zco.proofs.GoneMoves.{blocks_same, naming_rows}
use Rattle.step_zco.proofs.GoneTies.{unnamed}
use Rattle.step_zco.proofs.GoneUses.{UsedSource, itself, named_later, named_of}
use Rattle.step_zco.proofs.HeapAmounts.{in_heap-add}
use Rattle.zco_strip.specs.Stripping.{gone_outside, stripped_amounts}
use Rattle.step_zco_parts.proofs.CutRows.{outside_row}
use Rattle.step_zco_parts.proofs.CutSources.{all, both, first, found_first, mine, out, second, without_named}
use Rattle.zco_obj.specs.Amounts.{source_space}
use Rattle.zco_obj.specs.Gone as rows
use Rattle.zco_obj.specs.Gone.{NamedSource, extents_amounts}
use Rattle.zco_ref.specs.Kept.{count_in}

-- the same goes where the sources that extents name are found alike
gone_alike : (ss ts : List NamedSource) (all : List ExtentRow) (es : List Extent) →
    ((q : ℕ) → names_source q es ≡ true → rows.source_at q ss ≡ rows.source_at q ts) →
    rows.gone_blocks ss all (map extent_row es) ≡ rows.gone_blocks ts all (map extent_row es)
gone_alike ss ts all [] same = refl
gone_alike ss ts all (e ∷ es) same =
    let one = same e.source (itself e es) in
    let more = gone_alike ss ts all es (λ q named. same q (named_later q e es named)) in
    λ i. rows.going_before all (map extent_row es) (one i) ++ e.block ∷ more i

-- extents inside a part and outside it are all
cut_lengths : (from to : ℕ) (es : List Extent) → length es ≡ length (cut_all from to es) + length (left_out from to es)
cut_lengths from to [] = refl
cut_lengths from to (e ∷ es) = by ((cut from to e).length == 0) (cut_lengths (from - e.length) (to - e.length) es)
  where
    by : (b : Bool) →
        length es ≡ length (cut_all (from - e.length) (to - e.length) es) + length (left_out (from - e.length) (to - e.length) es) →
        length (e ∷ es)
        ≡ length (if b then cut_all (from - e.length) (to - e.length) es
        else cut from to e ∷ cut_all (from - e.length) (to - e.length) es)
        + length (if b then e ∷ left_out (from - e.length) (to - e.length) es
        else left_out (from - e.length) (to - e.length) es)
    by true same = omega (arith, same)
    by false same = omega (arith, same)

-- sources that no extent outside names charge no less
module _ (w : World) (all out : List Extent) (acct : Acct) (space : Space) where
  abbrev less : NamedSource → ℕ
  less = rows.source_less acct (map extent_row out) space

  none_less : (u : UsedSource w all) → names_source u.addr out ≡ false → less (named_of w all u) ≡ 0
  none_less u is =
      let s = named_of w all u in
      ap (λ (n : ℕ). if (nat_lt 0 n && count_in acct s.source == n) then in_space (source_space s.source) s.source.row.length space
      else 0)
      (naming_rows u.addr out ∙ unnamed u.addr out is)

  unnamed_less : (us : List (UsedSource w all)) → sum_by less (map (named_of w all) (without_named w all out us)) ≡ 0
  unnamed_less [] = refl
  unnamed_less (u ∷ us) = by (names_source u.addr out) refl (unnamed_less us)
    where
      by : (b : Bool) → names_source u.addr out ≡ b → sum_by less (map (named_of w all) (without_named w all out us)) ≡ 0 →
          sum_by less (map (named_of w all) (if b then without_named w all out us else u ∷ without_named w all out us)) ≡ 0
      by true is rest = rest
      by false is rest =
          omega (arith, rest, none_less u is, sum_by-cons less (named_of w all u) (map (named_of w all) (without_named w all out us)))

module _ (w : World) (addr : ℕ) (z : ZcoObject) (fits : FitTogether w) (there : thing_at w addr ≡ Some (things.Object z)) where
  abbrev ss : List NamedSource
  ss = both w addr z fits there

  abbrev o : List Extent
  o = out w addr z fits there

  -- the blocks that go are those of its row
  pub gone_same : gone_blocks w o o ≡ gone_outside (object_row z) ss
  gone_same =
      let m = mine w addr z fits there in
      blocks_same w o m.sources o m.are.found
      ∙ gone_alike (first w addr z fits there) ss (map extent_row o) o (found_first w addr z fits there)
      ∙ ap (λ (es : List ExtentRow). rows.gone_blocks ss es es) (outside_row z)

  -- and it charges less what its row does
  pub less_same : stripped_amounts (object_row z) ss
      ≡ amounts_by (drop_release w z (Some (stripped z)) o)
  less_same =
      ap (extents_amounts z.account ss) (sym (outside_row z)) ∙ (λ i. amounts_by (λ space. each space i))
    where
      each : (space : Space) →
          in_space spaces.Heap (extent_bytes * length (map extent_row o)) space
          + sum_by (rows.source_less z.account (map extent_row o) space) ss
          ≡ drop_release w z (Some (stripped z)) o space
      each space =
          let inside = cut_all z.part.offset (part_end z) z.extents in
          let parts : extent_bytes * length z.extents ≡ extent_bytes * length inside + extent_bytes * length o =
          omega (arith, cut_lengths z.part.offset (part_end z) z.extents) in
          let m = mine w addr z fits there in
          omega (
            arith,
            ap (λ (n : ℕ). in_space spaces.Heap (extent_bytes * n) space) (length-map o extent_row),
            ap (λ (n : ℕ). in_space spaces.Heap n space) parts,
            in_heap-add (extent_bytes * length inside) (extent_bytes * length o) space,
            sum_by-append (rows.source_less z.account (map extent_row o) space) (first w addr z fits there) (second w addr z fits there),
            sources_told w z.account o space m.sources m.are,
            unnamed_less w z.extents o z.account space (all w addr z fits there).sources,
          )
