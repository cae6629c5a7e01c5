-- What a row asks of the pools, and which moves that leads to.
use Rattle.std.proofs.Common.{◌≡◌, ◌∙◌, ◌+◌, ◌++◌, ℕ, suc, List, [], ◌∷◌, Option, None, Some, refl, sym, ap, subst, map, length}
use Rattle.sdr_base.specs.Moves.{MovesPools}
use Rattle.sdr_base.specs.Pools.{Pools}
use Rattle.sdr_base.specs.Rules.{give_of, take_of}
use Rattle.sdr_base.specs.SmallPool.{Taken}
use Rattle.sdr_base.specs.declared.moves.Move.{Move}
use Rattle.sdr_base.specs.declared.moves.Move.TheVariants.{Gave, Short, Took}
use Rattle.sdr_model.specs.BondSteps.{bond_moves, capsules_of}
use Rattle.sdr_model.specs.PartSteps.{asked_extents}
use Rattle.sdr_model.specs.RowMoves.{append_moves, bond_moves_of, clone_moves_of, row_moves}
use Rattle.sdr_model.specs.Steps.{takes_from}
use Rattle.sdr_model.specs.Things.{extent_need, object_need, raw_need, source_need}
use Rattle.sdr_model.specs.World.{World}
use Rattle.sdr_model.specs.Zco.{object_at, source_at}
use Rattle.sdr_model.specs.declared.call.Call.{Call}
use Rattle.sdr_model.specs.declared.call.Call.TheVariants as calls
use Rattle.sdr_model.specs.declared.zco.Capsule.{Capsule}
use Rattle.sdr_model.specs.declared.zco.ZcoObject.{ZcoObject}
use Rattle.sdr_model.specs.declared.zco.ZcoSource.{ZcoSource}

-- what is asked of the pools: a block of a need, to take one back, or a block that is wanting
pub data Ask : Type 0 where
  takes : ℕ → Ask
  gives : ℕ → Ask
  lacks : ℕ → Ask

-- what moves ask
abbrev pub asked : Move → Ask
asked (Took need addr) = Ask.takes need
asked (Gave addr) = Ask.gives addr
asked (Short need) = Ask.lacks need

abbrev pub plan_of : List Move → List Ask
plan_of [] = []
plan_of (move ∷ moves) = asked move ∷ plan_of moves

-- a row asks the same, wherever its blocks are taken
takes_plan : (f g : ℕ → ℕ) (k : ℕ) (needs : List ℕ) → plan_of (takes_from f k needs) ≡ plan_of (takes_from g k needs)
takes_plan f g k [] = refl
takes_plan f g k (need ∷ needs) = ap (λ asks. Ask.takes need ∷ asks) (takes_plan f g (suc k) needs)

bond_plan : (f g : ℕ → ℕ) (k : ℕ) (cs : List Capsule) → plan_of (bond_moves f k cs) ≡ plan_of (bond_moves g k cs)
bond_plan f g k [] = refl
bond_plan f g k (c ∷ cs) = ap (λ asks. Ask.takes (raw_need (length c.text)) ∷ Ask.takes (source_need 0) ∷ Ask.takes extent_need ∷ Ask.gives c.block ∷ asks) (bond_plan f g (k + 3) cs)

pub row_plan : (w : World) (call : Call) (f g : ℕ → ℕ) → plan_of (row_moves w call f) ≡ plan_of (row_moves w call g)
row_plan w (calls.AppendExtent addr ticket named offset bytes) f g = by (source_at w named)
  where
    by : (o : Option ZcoSource) → plan_of (append_moves o f) ≡ plan_of (append_moves o g)
    by None = refl
    by (Some source) = refl
row_plan w (calls.Bond addr ticket) f g = by (object_at w addr)
  where
    by : (o : Option ZcoObject) → plan_of (bond_moves_of o f) ≡ plan_of (bond_moves_of o g)
    by None = refl
    by (Some z) = bond_plan f g 0 (capsules_of z)
row_plan w (calls.ClonePart addr ticket offset bytes) f g = by (object_at w addr)
  where
    by : (o : Option ZcoObject) → plan_of (clone_moves_of o offset bytes f) ≡ plan_of (clone_moves_of o offset bytes g)
    by None = refl
    by (Some z) = ap (λ asks. Ask.takes object_need ∷ asks) (takes_plan f g 1 (map (λ e. extent_need) (asked_extents z offset bytes)))
row_plan w call f g = refl

-- a block of a need is one
taken_same : (P : Pools) (need need' addr addr' : ℕ) (mid mid' : Pools) → need' ≡ need → take_of P need ≡ Some (record { addr = addr; pools = mid })
    → take_of P need' ≡ Some (record { addr = addr'; pools = mid' }) → (addr' ≡ addr) × (mid' ≡ mid)
taken_same P need need' addr addr' mid mid' same one two =
    let s : Some (record { addr = addr'; pools = mid' }) ≡ Some (record { addr = addr; pools = mid }) = sym two ∙ ap (take_of P) same ∙ one in
    let t : record { addr = addr'; pools = mid' } ≡ record { addr = addr; pools = mid } = cc in
    (ap (λ (x : Taken). x.addr) t, ap (λ (x : Taken). x.pools) t)

-- there is none, or there is one
none_taken : {R : Type 0} (P : Pools) (need : ℕ) (t : Taken) → take_of P need ≡ None → take_of P need ≡ Some t → R
none_taken P need t none some = absurd cc

-- the first ask, and the rest
first_same : (a b : Ask) (asks bsks : List Ask) → b ∷ bsks ≡ a ∷ asks → b ≡ a
first_same a b asks bsks e = cc

rest_same : (a b : Ask) (asks bsks : List Ask) → b ∷ bsks ≡ a ∷ asks → bsks ≡ asks
rest_same a b asks bsks e = cc

takes_same : (n m : ℕ) → Ask.takes m ≡ Ask.takes n → m ≡ n
takes_same n m e = cc

gives_same : (n m : ℕ) → Ask.gives m ≡ Ask.gives n → m ≡ n
gives_same n m e = cc

lacks_same : (n m : ℕ) → Ask.lacks m ≡ Ask.lacks n → m ≡ n
lacks_same n m e = cc

-- from one state of the pools, moves that ask the same are the same
pub fits_same : (P : Pools) (moves others : List Move) (Q R : Pools) → plan_of others ≡ plan_of moves → MovesPools P moves Q → MovesPools P others R → others ≡ moves
fits_same P [] [] Q R plan one two = refl
fits_same P [] (m ∷ others) Q R plan one two = absurd cc
fits_same P (m ∷ moves) [] Q R plan one two = absurd cc
fits_same P (Took need addr ∷ moves) (Took need' addr' ∷ others) Q R plan one two =
    let need_is : need' ≡ need = takes_same need need' (first_same _ _ _ _ plan) in
    let taken : (addr' ≡ addr) × (two.0 ≡ one.0) = taken_same P need need' addr addr' one.0 two.0 need_is one.1 two.1 in
    let rest = fits_same one.0 moves others Q R (rest_same _ _ _ _ plan) one.2 (subst (λ X. MovesPools X others R) taken.1 two.2) in
    λ i. Took (need_is i) (taken.0 i) ∷ rest i
fits_same P (Took need addr ∷ moves) (Gave addr' ∷ others) Q R plan one two = absurd cc
fits_same P (Took need addr ∷ moves) (Short need' ∷ others) Q R plan one two = absurd cc
fits_same P (Gave addr ∷ moves) (Took need' addr' ∷ others) Q R plan one two = absurd cc
fits_same P (Gave addr ∷ moves) (Gave addr' ∷ others) Q R plan one two =
    let addr_is : addr' ≡ addr = gives_same addr addr' (first_same _ _ _ _ plan) in
    let rest = fits_same (give_of P addr) moves others Q R (rest_same _ _ _ _ plan) one.1 (subst (λ a. MovesPools (give_of P a) others R) addr_is two.1) in
    λ i. Gave (addr_is i) ∷ rest i
fits_same P (Gave addr ∷ moves) (Short need' ∷ others) Q R plan one two = absurd cc
fits_same P (Short need ∷ moves) (Took need' addr' ∷ others) Q R plan one two = absurd cc
fits_same P (Short need ∷ moves) (Gave addr' ∷ others) Q R plan one two = absurd cc
fits_same P (Short need ∷ moves) (Short need' ∷ others) Q R plan one two =
    let need_is : need' ≡ need = lacks_same need need' (first_same _ _ _ _ plan) in
    let rest = fits_same P moves others Q R (rest_same _ _ _ _ plan) one.1 two.1 in
    λ i. Short (need_is i) ∷ rest i

-- where a block was wanting in one, as much was taken and given back, and as much was wanting, in the other
pub lacks_alike : (P : Pools) (done others : List Move) (need addr need' addr' : ℕ) (rest rest' : List Move) (Q R : Pools)
    → plan_of (others ++ Took need' addr' ∷ rest') ≡ plan_of (done ++ Took need addr ∷ rest)
    → MovesPools P (done ++ Short need ∷ []) Q → MovesPools P (others ++ Short need' ∷ []) R
    → (others ++ Short need' ∷ [] ≡ done ++ Short need ∷ []) × (need' ≡ need)
lacks_alike P [] [] need addr need' addr' rest rest' Q R plan one two =
    let need_is : need' ≡ need = takes_same need need' (first_same _ _ _ _ plan) in
    ((λ i. Short (need_is i) ∷ []), need_is)
lacks_alike P [] (Took n a ∷ others) need addr need' addr' rest rest' Q R plan one two =
    let same : n ≡ need = takes_same need n (first_same _ _ _ _ plan) in
    none_taken P need (record { addr = a; pools = two.0 }) one.0 (ap (take_of P) (sym same) ∙ two.1)
lacks_alike P [] (Gave a ∷ others) need addr need' addr' rest rest' Q R plan one two = absurd cc
lacks_alike P [] (Short n ∷ others) need addr need' addr' rest rest' Q R plan one two = absurd cc
lacks_alike P (Took n a ∷ done) [] need addr need' addr' rest rest' Q R plan one two =
    let same : need' ≡ n = takes_same n need' (first_same _ _ _ _ plan) in
    none_taken P need' (record { addr = a; pools = one.0 }) two.0 (ap (take_of P) same ∙ one.1)
lacks_alike P (Gave a ∷ done) [] need addr need' addr' rest rest' Q R plan one two = absurd cc
lacks_alike P (Short n ∷ done) [] need addr need' addr' rest rest' Q R plan one two = absurd cc
lacks_alike P (Took n a ∷ done) (Took n' a' ∷ others) need addr need' addr' rest rest' Q R plan one two =
    let n_is : n' ≡ n = takes_same n n' (first_same _ _ _ _ plan) in
    let taken : (a' ≡ a) × (two.0 ≡ one.0) = taken_same P n n' a a' one.0 two.0 n_is one.1 two.1 in
    let more = lacks_alike one.0 done others need addr need' addr' rest rest' Q R (rest_same _ _ _ _ plan) one.2 (subst (λ X. MovesPools X (others ++ Short need' ∷ []) R) taken.1 two.2) in
    ((λ i. Took (n_is i) (taken.0 i) ∷ more.0 i), more.1)
lacks_alike P (Took n a ∷ done) (Gave a' ∷ others) need addr need' addr' rest rest' Q R plan one two = absurd cc
lacks_alike P (Took n a ∷ done) (Short n' ∷ others) need addr need' addr' rest rest' Q R plan one two = absurd cc
lacks_alike P (Gave a ∷ done) (Took n' a' ∷ others) need addr need' addr' rest rest' Q R plan one two = absurd cc
lacks_alike P (Gave a ∷ done) (Gave a' ∷ others) need addr need' addr' rest rest' Q R plan one two =
    let a_is : a' ≡ a = gives_same a a' (first_same _ _ _ _ plan) in
    let more =
    lacks_alike (give_of P a) done others need addr need' addr' rest rest' Q R (rest_same _ _ _ _ plan) one.1
    (subst (λ x. MovesPools (give_of P x) (others ++ Short need' ∷ []) R) a_is two.1) in
    ((λ i. Gave (a_is i) ∷ more.0 i), more.1)
lacks_alike P (Gave a ∷ done) (Short n' ∷ others) need addr need' addr' rest rest' Q R plan one two = absurd cc
lacks_alike P (Short n ∷ done) (Took n' a' ∷ others) need addr need' addr' rest rest' Q R plan one two = absurd cc
lacks_alike P (Short n ∷ done) (Gave a' ∷ others) need addr need' addr' rest rest' Q R plan one two = absurd cc
lacks_alike P (Short n ∷ done) (Short n' ∷ others) need addr need' addr' rest rest' Q R plan one two =
    let n_is : n' ≡ n = lacks_same n n' (first_same _ _ _ _ plan) in
    let more = lacks_alike P done others need addr need' addr' rest rest' Q R (rest_same _ _ _ _ plan) one.1 two.1 in
    ((λ i. Short (n_is i) ∷ more.0 i), more.1)

-- where all was taken and given back in one, no block was wanting in the other
pub lacks_never : (P : Pools) (moves others : List Move) (need addr : ℕ) (rest : List Move) (Q R : Pools)
    → plan_of (others ++ Took need addr ∷ rest) ≡ plan_of moves → MovesPools P moves Q → MovesPools P (others ++ Short need ∷ []) R → ⊥
lacks_never P [] [] need addr rest Q R plan one two = cc
lacks_never P [] (m ∷ others) need addr rest Q R plan one two = cc
lacks_never P (Took n a ∷ moves) [] need addr rest Q R plan one two =
    let same : need ≡ n = takes_same n need (first_same _ _ _ _ plan) in
    none_taken P need (record { addr = a; pools = one.0 }) two.0 (ap (take_of P) same ∙ one.1)
lacks_never P (Gave a ∷ moves) [] need addr rest Q R plan one two = cc
lacks_never P (Short n ∷ moves) [] need addr rest Q R plan one two = cc
lacks_never P (Took n a ∷ moves) (Took n' a' ∷ others) need addr rest Q R plan one two =
    let taken : (a' ≡ a) × (two.0 ≡ one.0) = taken_same P n n' a a' one.0 two.0 (takes_same n n' (first_same _ _ _ _ plan)) one.1 two.1 in
    lacks_never one.0 moves others need addr rest Q R (rest_same _ _ _ _ plan) one.2 (subst (λ X. MovesPools X (others ++ Short need ∷ []) R) taken.1 two.2)
lacks_never P (Took n a ∷ moves) (Gave a' ∷ others) need addr rest Q R plan one two = cc
lacks_never P (Took n a ∷ moves) (Short n' ∷ others) need addr rest Q R plan one two = cc
lacks_never P (Gave a ∷ moves) (Took n' a' ∷ others) need addr rest Q R plan one two = cc
lacks_never P (Gave a ∷ moves) (Gave a' ∷ others) need addr rest Q R plan one two =
    lacks_never (give_of P a) moves others need addr rest Q R (rest_same _ _ _ _ plan) one.1
    (subst (λ x. MovesPools (give_of P x) (others ++ Short need ∷ []) R) (gives_same a a' (first_same _ _ _ _ plan)) two.1)
lacks_never P (Gave a ∷ moves) (Short n' ∷ others) need addr rest Q R plan one two = cc
lacks_never P (Short n ∷ moves) (Took n' a' ∷ others) need addr rest Q R plan one two = cc
lacks_never P (Short n ∷ moves) (Gave a' ∷ others) need addr rest Q R plan one two = cc
lacks_never P (Short n ∷ moves) (Short n' ∷ others) need addr rest Q R plan one two = lacks_never P moves others need addr rest Q R (rest_same _ _ _ _ plan) one.1 two.1
