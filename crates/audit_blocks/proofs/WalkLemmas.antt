-- One block more is walked over.
use Rattle.std.proofs.Common.{◌≡◌, ◌≢◌, ◌<◌, ◌+◌, ◌-◌, ◌*◌, ◌/◌, ◌%◌, ◌==◌, ℕ, Bool, List, [], ◌∷◌, ◌++◌, Option, None, Some, cond, not, true, false, length, get_or, set, arith, ap, ◌∙◌, refl, sym, inl, inr}
use Rattle.std.specs.Prelude.{find}
use Rattle.std.specs.Option.{option_map, option_or}
use Rattle.std.proofs.lemmas.Bool.{cases_eq}
use Rattle.std.proofs.lemmas.List.{get_or-set_other, get_or-set_same, length-set}
use Rattle.std.proofs.lemmas.List.Folds.{find-append}
use Rattle.sdr_base.specs.Pools.{PoolBlock}
use Rattle.audit_blocks.specs.Found.{with_found}
use Rattle.audit_blocks.specs.Spots.{AreSpots, begun_at, begun_in, spot_of}
use Rattle.audit_blocks.specs.Walk.{first_wrong}
use Rattle.audit_blocks.specs.declared.spot.Spot.{Spot}
use Rattle.audit_blocks.specs.declared.spot.Spot.TheVariants as spots

-- none besides changes nothing
pub option_or-none : {X : Type 0} (o : Option X) → option_or o None ≡ o
option_or-none None = refl
option_or-none (Some x) = refl

map_or : {X Y : Type 0} (f : X → Y) (a b : Option X) → option_map f (option_or a b) ≡ option_or (option_map f a) (option_map f b)
map_or f None b = refl
map_or f (Some x) b = refl

-- the first wrong one of some blocks and another
pub wrong_then : (right : PoolBlock → Bool) (frame place : ℕ) (done : List PoolBlock) (block : PoolBlock) → block.addr ≡ place + frame →
    first_wrong right frame (done ++ (block ∷ [])) ≡ with_found (first_wrong right frame done) (right block) place
wrong_then right frame place done block at =
    ap (option_map begin) (find-append (λ b. not (right b)) done (block ∷ []))
    ∙ map_or begin (find (λ b. not (right b)) done) (find (λ b. not (right b)) (block ∷ []))
    ∙ ap (option_or (first_wrong right frame done)) (last (right block))
  where
    begin : PoolBlock → ℕ
    begin b = b.addr - frame

    last : (r : Bool) → option_map begin (cond (not r) (Some block) None) ≡ cond r None (Some place)
    last true = refl
    last false = let e : block.addr - frame ≡ place = omega (arith, at) in ap Some e

-- the block that begins at a place, of some blocks and another
pub begun_then : (frame : ℕ) (done : List PoolBlock) (block : PoolBlock) (place : ℕ) →
    begun_in frame (done ++ (block ∷ [])) place ≡ option_or (begun_in frame done place) (cond (block.addr == place + frame) (Some block) None)
begun_then frame done block place = find-append (λ (b : PoolBlock). b.addr == place + frame) done (block ∷ [])

-- where one more block begins at a place where none begins, its word is told so, and all others as before
pub spots_then : (small large small' large' : List PoolBlock) (block : PoolBlock) (place : ℕ) (told : List Spot) → AreSpots small large told → place % 8 ≡ 0 →
    begun_at small' large' place ≡ Some block → ((other : ℕ) → other ≢ place → begun_at small' large' other ≡ begun_at small large other) →
    AreSpots small' large' (set told (place / 8) (cond block.used spots.Used spots.Free))
spots_then small large small' large' block place told are whole here others word within =
    elim (cases_eq word (place / 8)) [
      | inl same ↦
          let at : 8 * word ≡ place = omega (arith, same, whole) in
          let inside : place / 8 < length told = omega (arith, same, within, length-set told (place / 8) (cond block.used spots.Used spots.Free)) in
          ap (λ (n : ℕ). get_or (set told (place / 8) (cond block.used spots.Used spots.Free)) n spots.Nothing) same
          ∙ get_or-set_same told (place / 8) (cond block.used spots.Used spots.Free) spots.Nothing inside
          ∙ sym (ap spot_of (ap (begun_at small' large') at ∙ here))
      | inr other ↦
          get_or-set_other told (place / 8) word (cond block.used spots.Used spots.Free) spots.Nothing other
          ∙ are word (omega (arith, within, length-set told (place / 8) (cond block.used spots.Used spots.Free)))
          ∙ sym (ap spot_of (others (8 * word) (λ e. other (omega (arith, e, whole)))))
    ]
