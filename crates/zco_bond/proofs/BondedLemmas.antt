-- Lists of headers and trailers that became extents, with one more.
use Rattle.std.proofs.Common.{◌≡◌, ◌*◌, ℕ, List, [], ◌∷◌, ◌++◌, length, refl, sym, ap, ◌∙◌, arith, length-append}
use Rattle.std.proofs.lemmas.List.{length-map, map-append}
use Rattle.std.proofs.lemmas.List.Concat.{flat_map-append}
use Rattle.sdr_base.specs.Linked.{first_of, last_of}
use Rattle.sdr_base.specs.ZcoObjects.{CapsuleRow, extent_addr, extent_block}
use Rattle.sdr_base.proofs.LinkedLemmas.{last-append}
use Rattle.zco_bond.specs.Bonded.{BondedCapsule, bonded_extent, bonded_extents, bonding, bonding_moves, capsules_of}
use Rattle.zco_bond.specs.Placing.{bonded_at}

pub capsules-append : (xs ys : List BondedCapsule) → capsules_of (xs ++ ys) ≡ capsules_of xs ++ capsules_of ys
capsules-append xs ys = map-append (λ b. b.capsule) xs ys

pub extents-append : (xs ys : List BondedCapsule) → bonded_extents (xs ++ ys) ≡ bonded_extents xs ++ bonded_extents ys
extents-append xs ys = map-append bonded_extent xs ys

pub moves-append : (xs ys : List BondedCapsule) → bonding_moves (xs ++ ys) ≡ bonding_moves xs ++ bonding_moves ys
moves-append xs ys = flat_map-append bonding xs ys

pub length-capsules : (xs : List BondedCapsule) → length (capsules_of xs) ≡ length xs
length-capsules xs = length-map xs (λ b. b.capsule)

pub length-extents : (xs : List BondedCapsule) → length (bonded_extents xs) ≡ length xs
length-extents xs = length-map xs bonded_extent

-- four moves for each
pub length-moves : (xs : List BondedCapsule) → length (bonding_moves xs) ≡ 4 * length xs
length-moves [] = omega arith
length-moves (x ∷ xs) =
    let a = length-append (bonding x) (bonding_moves xs) in let n = length-moves xs in omega (arith, a, n)

-- the first one of more
pub first_more : (next extent first was : ℕ) (xs : List BondedCapsule) (b : BondedCapsule) → b.extent ≡ extent →
    was ≡ first_of extent_addr next (bonded_extents xs) → (length xs ≡ 0 → first ≡ extent) → ((length xs ≡ 0 → ⊥) → first ≡ was) →
    first ≡ first_of extent_addr next (bonded_extents (xs ++ (b ∷ [])))
first_more next extent first was [] b e w begun kept = begun refl ∙ sym e
first_more next extent first was (x ∷ xs) b e w begun kept = kept (λ z. absurd (omega (arith, z))) ∙ w

-- the last one of more
pub last_more : (previous : ℕ) (xs : List BondedCapsule) (b : BondedCapsule) →
    b.extent ≡ last_of extent_addr previous (bonded_extents (xs ++ (b ∷ [])))
last_more previous xs b =
    sym (last-append extent_addr extent_block previous (bonded_extents xs) (bonded_extent b ∷ []))
    ∙ ap (last_of extent_addr previous) (sym (extents-append xs (b ∷ [])))

-- headers or trailers that are still to become extents, at no address
pub unbonded : List CapsuleRow → List BondedCapsule
unbonded [] = []
unbonded (c ∷ cs) = bonded_at c 0 0 0 ∷ unbonded cs

pub capsules-unbonded : (cs : List CapsuleRow) → capsules_of (unbonded cs) ≡ cs
unfolding unbonded
capsules-unbonded [] = refl
capsules-unbonded (c ∷ cs) = ap (λ (l : List CapsuleRow). c ∷ l) (capsules-unbonded cs)
