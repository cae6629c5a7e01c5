-- What a clone charges its account, as the world and the blocks have it.
use Rattle.std.proofs.Common.{◌≡◌, ◌+◌, ◌-◌, ◌*◌, ◌==◌, ℕ, List, [], ◌∷◌, Bool, true, false, length, map, None, Some, refl, ap, arith, if◌then◌else◌}
use Rattle.std.proofs.lemmas.List.{length-map}
use Rattle.std.proofs.lemmas.List.Sums.{sum_by-cons}
use Rattle.std.specs.FinMap as finite
use Rattle.sdr_base.specs.declared.account.Acct.{Acct}
use Rattle.sdr_base.specs.declared.kind.Space.{Space}
use Rattle.sdr_base.specs.declared.kind.Space.TheVariants as spaces
use Rattle.law_steps.proofs.ChargeLemmas.{count_there}
use Rattle.law_steps.proofs.ChargeMoves.{MovesCharge, object_moves}
use Rattle.law_steps.proofs.DistinctLemmas.{weight}
use Rattle.law_steps.proofs.ExtentLemmas.{cut_names, placed_charge, placed_names}
use Rattle.law_steps.proofs.HashShapes.{neither}
use Rattle.law_steps.proofs.SourceMoves.{nothing, sources_shared}
use Rattle.sdr_model.proofs.SumLemmas.{sum_by-map}
use Rattle.sdr_model.specs.Amounts.{amounts_by, in_space}
use Rattle.sdr_model.specs.Charges.{extent_bytes, object_bytes, object_charge}
use Rattle.sdr_model.specs.Cuts as model
use Rattle.sdr_model.specs.Cuts.{cut_all}
use Rattle.sdr_model.specs.Gone.{names_source}
use Rattle.sdr_model.specs.PartSteps.{object_of}
use Rattle.sdr_model.specs.World.{World, thing_at}
use Rattle.sdr_model.specs.Zco.{as_object, naming}
use Rattle.sdr_model.specs.declared.things.Thing.TheVariants as things
use Rattle.sdr_model.specs.declared.zco.Extent.{Extent}
use Rattle.sdr_model.specs.declared.zco.ZcoObject.{ZcoObject}
use Rattle.step_zco.proofs.HeapAmounts.{in_heap-add}
use Rattle.zco_obj.specs.declared.extent.ExtentPiece.{ExtentPiece}
use Rattle.zco_part.specs.Charging.{clone_amounts}
use Rattle.zco_part.specs.Sources.{pieces_of}
use Rattle.step_zco_parts.proofs.PieceLemmas.{named}

-- pieces are of a source as often as the extents that they are of name it, wherever those are
pub named_as_often : (q : ℕ) (es : List Extent) → pieces_of q (map named es) ≡ naming q es
named_as_often q es = sum_by-map (λ (p : ExtentPiece). if p.of == q then 1 else 0) named es

-- what no extent names none that is cut names
pub uncut : (q from to : ℕ) (es : List Extent) → names_source q es ≡ false → naming q (cut_all from to es) ≡ 0
uncut q from to [] none = refl
uncut q from to (e ∷ es) none =
    let both = neither (e.source == q) (names_source q es) none in
    by ((model.cut from to e).length == 0) (uncut q (from - e.length) (to - e.length) es both.1) (ap weight both.0)
  where
    by : (b : Bool) → naming q (cut_all (from - e.length) (to - e.length) es) ≡ 0 → weight (e.source == q) ≡ 0 →
        naming q (if b then cut_all (from - e.length) (to - e.length) es
        else model.cut from to e ∷ cut_all (from - e.length) (to - e.length) es) ≡ 0
    by true rest here = rest
    by false rest here =
        omega (
          arith,
          rest,
          here,
          sum_by-cons (λ (x : Extent). weight (x.source == q)) (model.cut from to e)
              (cut_all (from - e.length) (to - e.length) es),
        )

-- a clone charges by its pieces what it does by the world, without the sources that its extents name
pub clone_charge : (acct : Acct) (es : List Extent) →
    clone_amounts (map named es) ≡ amounts_by (λ space. object_charge space (object_of acct es))
clone_charge acct es = λ i. amounts_by (λ space. each space i)
  where
    each : (space : Space) →
        in_space spaces.Heap (object_bytes + extent_bytes * length (map named es)) space ≡ object_charge space (object_of acct es)
    each space =
        omega (
          arith,
          ap (λ (n : ℕ). in_space spaces.Heap (object_bytes + extent_bytes * n) space) (length-map es named),
          in_heap-add object_bytes (extent_bytes * length es) space,
        )

-- the account is charged for a clone of a part, wherever its blocks are: it names the sources already
pub clone_moves_charge : (w : World) (clone addr : ℕ) (z : ZcoObject) (at : ℕ → ℕ) (from to : ℕ) →
    thing_at w addr ≡ Some (things.Object z) → thing_at w clone ≡ None →
    MovesCharge w.things
    (finite.insert w.things clone (things.Object (object_of z.account (model.placed at 1 (cut_all from to z.extents))))) z.account
    (λ space. object_charge space (object_of z.account (cut_all from to z.extents))) nothing
clone_moves_charge w clone addr z at from to there none =
    let es = cut_all from to z.extents in
    let new = object_of z.account (model.placed at 1 es) in
    object_moves w.things clone z.account None (Some new) (λ space. object_charge space (object_of z.account es)) nothing none tt refl
    (sources_shared w.things z.account None (Some new) (λ q. omega arith)
    (λ q named. omega (
      arith,
      named,
      placed_names q at 1 es,
      cut_names q from to z.extents,
      count_there w.things addr z (ap as_object there) q,
    )))
    (λ space. let same = placed_charge space z.account at 1 es in omega (arith, same))
