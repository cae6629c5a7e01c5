-- Raw objects and sources that headers and trailers become, put one after another.
use Rattle.std.proofs.Common.{◌≡◌, ◌+◌, ◌∷◌, ◌∙◌, [], ℕ, List, length, ap, arith, refl}
use Rattle.sdr_model.specs.BondSteps.{with_bonded}
use Rattle.sdr_model.specs.SourceSteps.{new_source}
use Rattle.sdr_model.specs.Steps.{with_thing}
use Rattle.sdr_model.specs.World.{World}
use Rattle.sdr_model.specs.declared.things.Thing.TheVariants as things
use Rattle.sdr_model.specs.declared.zco.Capsule.{Capsule}
use Rattle.sdr_model.specs.declared.zco.Subject.TheVariants as subjects

-- the world with the raw object of the first of these texts and its source
abbrev pub with_first : World → (ℕ → ℕ) → ℕ → Capsule → World
with_first w at k c =
    with_thing (with_thing w (at k) (things.Raw c.text)) (at (k + 1)) (things.Source (new_source (subjects.Heap (at k)) (length c.text)))

-- what is put depends on the addresses alone
pub bonded-shift : (at to : ℕ → ℕ) (cs : List Capsule) (w : World) (i j : ℕ) → ((n : ℕ) → at (i + n) ≡ to (j + n))
    → with_bonded w at i cs ≡ with_bonded w to j cs
bonded-shift at to [] w i j agree = refl
bonded-shift at to (c ∷ cs) w i j agree =
    let at_raw : at i ≡ to j =
    ap at (let same : i ≡ i + 0 = omega arith in same) ∙ agree 0 ∙ ap to (let same : j + 0 ≡ j = omega arith in same) in
    let rest : with_bonded (with_first w at i c) at (i + 3) cs ≡ with_bonded (with_first w at i c) to (j + 3) cs =
    bonded-shift at to cs (with_first w at i c) (i + 3) (j + 3)
    (λ n. ap at (let same : i + 3 + n ≡ i + (3 + n) = omega arith in same) ∙ agree (3 + n)
    ∙ ap to (let same : j + (3 + n) ≡ j + 3 + n = omega arith in same)) in
    rest
    ∙ ap (λ v. with_bonded v to (j + 3) cs)
    (ap (λ a. with_thing (with_thing w a (things.Raw c.text)) (at (i + 1)) (things.Source (new_source (subjects.Heap a) (length c.text)))) at_raw
    ∙ ap (λ a. with_thing (with_thing w (to j) (things.Raw c.text)) a (things.Source (new_source (subjects.Heap (to j)) (length c.text)))) (agree 1))
