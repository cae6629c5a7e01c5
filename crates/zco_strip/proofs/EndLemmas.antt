-- The end of a part is cut.
use Rattle.std.proofs.Common.{◌≡◌, ◌≢◌, subst, sym}
use Rattle.std.proofs.lemmas.Bool.{eq-eqb, ne_eqb}
use Rattle.std.specs.Prelude.{Bool, MatchBool}
use Rattle.sdr_base.specs.Objects.{Heap}
use Rattle.zco_strip.specs.Parting.{CutsEnd, EndsBefore, EndsInside}
use Rattle.zco_strip.specs.declared.finding.Place.{Place}
use Rattle.zco_strip.specs.declared.parting.End.{End}

pub ends_before : (place : Place) (old new : Heap) (end : End) → place.inside ≡ 0 → EndsBefore place old new end →
    CutsEnd place old new end
ends_before place old new end zero e =
    subst (λ (b : Bool). MatchBool b (EndsBefore place old new end) (EndsInside place old new end))
    (sym (eq-eqb place.inside 0 zero)) e

pub ends_inside : (place : Place) (old new : Heap) (end : End) → place.inside ≢ 0 → EndsInside place old new end →
    CutsEnd place old new end
ends_inside place old new end some e =
    subst (λ (b : Bool). MatchBool b (EndsBefore place old new end) (EndsInside place old new end))
    (sym (ne_eqb place.inside 0 some)) e
