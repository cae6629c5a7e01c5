-- Where the element of a spot stands in its list.
use Rattle.std.proofs.Common.{◌≡◌, ℕ, ◌==◌, List, [], ◌∷◌, Option, Some, None, ap, ◌∙◌, subst, position, refl, unwrap_or}
use Rattle.std.specs.Option.{option_map, option_or}
use Rattle.sdr_model.specs.Things.{Spot, spot_among, spot_in_thing}
use Rattle.sdr_model.specs.declared.things.Thing.{Thing}
use Rattle.sdr_model.specs.declared.things.Thing.TheVariants as things

-- the element stands at the place of the spot
abbrev pub StandsThere : ℕ → Spot → Type 0
StandsThere element s = position (λ e. e.block == element) s.row.elements ≡ Some s.place

there_in_thing : (element list : ℕ) (thing : Thing) (s : Spot) → spot_in_thing element list (Some thing) ≡ Some s
    → StandsThere element s
there_in_thing element list (things.List row) s is = by (position (λ e. e.block == element) row.elements) refl is
  where
    by : (o : Option ℕ) → position (λ e. e.block == element) row.elements ≡ o
        → option_map (λ place. record { list = list; row = row; place = place }) o ≡ Some s → StandsThere element s
    by None at e = let none : None ≡ Some s = e in cc
    by (Some place) at e =
        let same : record { list = list; row = row; place = place } ≡ s = ap (λ o. unwrap_or o s) e in
        subst (StandsThere element) same at
there_in_thing element list thing s is = let none : None ≡ Some s = is in cc

-- and so does the one of a spot among things
pub stands_there : (element : ℕ) (es : List (ℕ × Thing)) (s : Spot) → spot_among element es ≡ Some s
    → StandsThere element s
stands_there element [] s is = let none : None ≡ Some s = is in cc
stands_there element (e ∷ es) s is = by (spot_in_thing element e.0 (Some e.1)) refl is (stands_there element es s)
  where
    by : (o : Option Spot) → spot_in_thing element e.0 (Some e.1) ≡ o → option_or o (spot_among element es) ≡ Some s
        → (spot_among element es ≡ Some s → StandsThere element s) → StandsThere element s
    by None at first rest = rest first
    by (Some t) at first rest = there_in_thing element e.0 e.1 s (at ∙ first)
