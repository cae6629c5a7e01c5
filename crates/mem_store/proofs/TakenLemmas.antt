-- Calls that take several blocks, each at the next address.
use Rattle.std.proofs.Common.{◌≡◌, ◌≤◌, ◌<◌, ◌+◌, ◌*◌, ℕ, zero, suc, List, [], ◌∷◌, ◌++◌, length, map, ap, ap₂, sym, ◌∙◌, refl, arith}
use Rattle.std.proofs.lemmas.List.{length-map}
use Rattle.std.specs.Prelude.{slice_index}
use Rattle.sdr_base.specs.declared.moves.Move.{Move}
use Rattle.sdr_model.specs.BondSteps.{bond_moves, bonded_extents}
use Rattle.sdr_model.specs.Cuts.{placed}
use Rattle.sdr_model.specs.Dry.{AreInOrder, addr_after, blocks_taken, next_addr, next_addrs}
use Rattle.sdr_model.specs.PartSteps.{clone_moves}
use Rattle.sdr_model.specs.Steps.{DoesWith, taken_addresses, taken_at, takes_from}
use Rattle.sdr_model.specs.Things.{extent_need}
use Rattle.sdr_model.specs.World.{World}
use Rattle.sdr_model.specs.declared.answer.Reply.{Reply}
use Rattle.sdr_model.specs.declared.zco.Capsule.{Capsule}
use Rattle.sdr_model.specs.declared.zco.Extent.{Extent}

-- so many addresses, the first `at k`
abbrev pub run : (ℕ → ℕ) → ℕ → ℕ → List ℕ
run at k zero = []
run at k (suc n) = at k ∷ run at (suc k) n

-- two rules give the same addresses to the blocks from one on and before another
abbrev pub Agree : ℕ → ℕ → (ℕ → ℕ) → (ℕ → ℕ) → Type 0
Agree k end at to = (i : ℕ) → k ≤ i → i < end → at i ≡ to i

-- the i-th of them
run-at : (at : ℕ → ℕ) (k n i j : ℕ) → i < n → j ≡ k + i → slice_index (run at k n) i ≡ at j
run-at at k zero i j inside is = absurd (omega (arith, inside))
run-at at k (suc n) zero j inside is = grind arith
run-at at k (suc n) (suc i) j inside is = run-at at (suc k) n i j (omega (arith, inside)) (omega (arith, is))

-- the rule by which the taken addresses are read agrees with the one by which they were given
pub Agree-taken : (at : ℕ → ℕ) (moves : List Move) (n : ℕ) → taken_addresses moves ≡ run at 0 n
    → Agree 0 n at (taken_at moves)
Agree-taken at moves n is = λ i from inside.
    sym (ap (λ l. slice_index l i) is ∙ run-at at 0 n i i inside (omega arith))

-- the address after so many more blocks
pub addr_after-next : (taken more : ℕ) → addr_after taken more ≡ next_addr (taken + more)
addr_after-next taken zero = grind arith
addr_after-next taken (suc more) = grind (arith, addr_after-next (taken + 1) more)

-- What a call does that takes so many blocks, where the moves, the world after it and the reply depend on these alone.
pub does-with : (w after : World) (n : ℕ) (at : ℕ → ℕ) (moves : (ℕ → ℕ) → List Move) (next : (ℕ → ℕ) → World)
    (reply : (ℕ → ℕ) → Reply) → taken_addresses (moves at) ≡ run at 0 n
    → ((to : ℕ → ℕ) → Agree 0 n at to → moves at ≡ moves to)
    → ((to : ℕ → ℕ) → Agree 0 n at to → next at ≡ next to)
    → ((to : ℕ → ℕ) → Agree 0 n at to → reply at ≡ reply to)
    → after ≡ record (next at) { marks = w.marks ++ run at 0 n; shown = [] }
    → DoesWith w (record { moves = moves at; after = after; reply = reply at }) moves next reply
does-with w after n at moves next reply taken same_moves same_next same_reply is =
    let to = taken_at (moves at) in
    let agree = Agree-taken at (moves at) n taken in (
      same_moves to agree,
      is ∙ ap₂ (λ (v : World) (marks : List ℕ). record v { marks = w.marks ++ marks; shown = [] }) (same_next to agree) (sym taken),
      same_reply to agree,
    )

-- moves that only take
pub taken-takes : (at : ℕ → ℕ) (k : ℕ) (needs : List ℕ) → taken_addresses (takes_from at k needs) ≡ run at k (length needs)
taken-takes at k [] = refl
taken-takes at k (need ∷ needs) = ap (λ (l : List ℕ). at k ∷ l) (taken-takes at (suc k) needs)

takes-agree : (at to : ℕ → ℕ) (k end : ℕ) (needs : List ℕ) → k + length needs ≤ end → Agree k end at to
    → takes_from at k needs ≡ takes_from to k needs
takes-agree at to k end [] most agree = refl
takes-agree at to k end (need ∷ needs) most agree =
    grind (arith, agree k, takes-agree at to (suc k) end needs (omega (arith, most)) (λ i from. agree i (omega (arith, from))))

pub in_order-takes : (taken k now : ℕ) (needs : List ℕ) → now ≡ taken + k
    → AreInOrder now (takes_from (addr_after taken) k needs)
in_order-takes taken k now [] is = tt
in_order-takes taken k now (need ∷ needs) is = (
  addr_after-next taken k ∙ ap next_addr (sym is),
  in_order-takes taken (suc k) (now + 1) needs (omega (arith, is)),
)

pub blocks-takes : (at : ℕ → ℕ) (k : ℕ) (needs : List ℕ) → blocks_taken (takes_from at k needs) ≡ length needs
blocks-takes at k [] = refl
blocks-takes at k (need ∷ needs) = omega (arith, blocks-takes at (suc k) needs)

-- extents in blocks of their own depend on the addresses of these alone
pub placed-agree : (at to : ℕ → ℕ) (k end : ℕ) (extents : List Extent) → k + length extents ≤ end → Agree k end at to
    → placed at k extents ≡ placed to k extents
placed-agree at to k end [] most agree = refl
placed-agree at to k end (e ∷ es) most agree =
    grind (arith, agree k, placed-agree at to (suc k) end es (omega (arith, most)) (λ i from. agree i (omega (arith, from))))

-- the moves of a clone
pub clone-taken : (at : ℕ → ℕ) (extents : List Extent)
    → taken_addresses (clone_moves at extents) ≡ run at 0 (suc (length extents))
clone-taken at extents =
    let needs = map (λ e. extent_need) extents in
    ap (λ (l : List ℕ). at 0 ∷ l)
    (taken-takes at 1 needs ∙ ap (run at 1) (length-map extents (λ e. extent_need)))

pub clone-agree : (at to : ℕ → ℕ) (extents : List Extent) → Agree 0 (suc (length extents)) at to
    → clone_moves at extents ≡ clone_moves to extents
clone-agree at to extents agree =
    let rest = takes-agree at to 1 (suc (length extents)) (map (λ e. extent_need) extents)
    (omega (arith, length-map extents (λ (e : Extent). extent_need))) (λ i from. agree i (omega arith)) in
    grind (arith, agree 0)

pub clone-in_order : (taken : ℕ) (extents : List Extent) → AreInOrder taken (clone_moves (addr_after taken) extents)
clone-in_order taken extents =
    (refl, in_order-takes taken 1 (taken + 1) (map (λ e. extent_need) extents) refl)

pub clone-blocks : (at : ℕ → ℕ) (extents : List Extent) → blocks_taken (clone_moves at extents) ≡ suc (length extents)
clone-blocks at extents =
    omega (arith, blocks-takes at 1 (map (λ e. extent_need) extents), length-map extents (λ (e : Extent). extent_need))

-- three addresses, and then others
run-three : (at : ℕ → ℕ) (k m n : ℕ) → n ≡ suc (suc (suc m)) → at k ∷ at (k + 1) ∷ at (k + 2) ∷ run at (k + 3) m ≡ run at k n
run-three at k m n is =
    grind arith

-- the moves of a bond
pub bond-taken : (at : ℕ → ℕ) (k : ℕ) (capsules : List Capsule)
    → taken_addresses (bond_moves at k capsules) ≡ run at k (3 * length capsules)
bond-taken at k [] = refl
bond-taken at k (c ∷ cs) = grind (arith, bond-taken at (k + 3) cs, run-three at k (3 * length cs) (3 * suc (length cs)))

pub bond-agree : (at to : ℕ → ℕ) (k end : ℕ) (capsules : List Capsule) → k + 3 * length capsules ≤ end → Agree k end at to
    → bond_moves at k capsules ≡ bond_moves to k capsules
bond-agree at to k end [] most agree = refl
bond-agree at to k end (c ∷ cs) most agree =
    let rest = bond-agree at to (k + 3) end cs (omega (arith, most)) (λ i from. agree i (omega (arith, from))) in
    grind (arith, agree k, agree (k + 1), agree (k + 2))

pub bond-in_order : (taken k now : ℕ) (capsules : List Capsule) → now ≡ taken + k
    → AreInOrder now (bond_moves (addr_after taken) k capsules)
bond-in_order taken k now [] is = tt
bond-in_order taken k now (c ∷ cs) is = (
  addr_after-next taken k ∙ ap next_addr (sym is),
  (
    addr_after-next taken (k + 1) ∙ ap next_addr (let same : taken + (k + 1) ≡ now + 1 = omega (arith, is) in same),
    (
      addr_after-next taken (k + 2)
          ∙ ap next_addr (let same : taken + (k + 2) ≡ now + 1 + 1 = omega (arith, is) in same),
      bond-in_order taken (k + 3) (now + 1 + 1 + 1) cs (omega (arith, is)),
    ),
  ),
)

pub bond-blocks : (at : ℕ → ℕ) (k : ℕ) (capsules : List Capsule) → blocks_taken (bond_moves at k capsules) ≡ 3 * length capsules
bond-blocks at k [] = refl
bond-blocks at k (c ∷ cs) = omega (arith, bond-blocks at (k + 3) cs)

-- the extents that headers or trailers become depend on the addresses alone
pub bonded-agree : (at to : ℕ → ℕ) (k end : ℕ) (capsules : List Capsule) → k + 3 * length capsules ≤ end → Agree k end at to
    → bonded_extents at k capsules ≡ bonded_extents to k capsules
bonded-agree at to k end [] most agree = refl
bonded-agree at to k end (c ∷ cs) most agree =
    let rest = bonded-agree at to (k + 3) end cs (omega (arith, most)) (λ i from. agree i (omega (arith, from))) in
    grind (arith, agree (k + 1), agree (k + 2))

-- the addresses of the next blocks, by the rule for addresses
pub run-next : (taken k now n : ℕ) → now ≡ taken + k → run (addr_after taken) k n ≡ next_addrs now n
run-next taken k now zero is = refl
run-next taken k now (suc n) is =
    grind (arith, addr_after-next taken k, run-next taken (suc k) (now + 1) n (omega (arith, is)))

-- one more address
pub next_addrs-more : (taken n : ℕ) → next_addrs taken (n + 1) ≡ next_addrs taken n ++ next_addr (taken + n) ∷ []
next_addrs-more taken zero = grind arith
next_addrs-more taken (suc n) = grind (arith, next_addrs-more (taken + 1) n)
