-- Groups of blocks in another order.
use Rattle.std.proofs.Common.{ℕ, zero, suc, List, [], ◌∷◌, ◌++◌, sym, subst, append_assoc}
use Rattle.sdr_base.specs.Blocks.{Blocks}
use Rattle.sdr_base.specs.Entries.{BlocksAre, Entries}
use Rattle.sdr_base.proofs.StandingLemmas.{moved, moved_back}

-- groups of blocks, one behind the other, before others
abbrev pub stack : List Entries → Entries → Entries
stack [] rest = rest
stack (e ∷ es) rest = e ++ stack es rest

-- the group at a place, and the groups without it
abbrev one_at : ℕ → List Entries → Entries
one_at k [] = []
one_at zero (e ∷ es) = e
one_at (suc k) (e ∷ es) = one_at k es

abbrev without : ℕ → List Entries → List Entries
without k [] = []
without zero (e ∷ es) = es
without (suc k) (e ∷ es) = e ∷ without k es

-- the groups at these places come to the front, one after another
abbrev pub turned : List ℕ → List Entries → List Entries
turned [] es = es
turned (k ∷ ks) es = turned ks (one_at k es ∷ without k es)

-- two groups change their places, behind others
pub swapped : {b : Blocks} (xs ys part zs : Entries) → BlocksAre b (xs ++ (ys ++ (part ++ zs))) → BlocksAre b (xs ++ (part ++ (ys ++ zs)))
swapped {b} xs ys part zs s =
    moved_back xs part (ys ++ zs)
    (subst (λ (es : Entries). BlocksAre b (part ++ es)) (append_assoc xs ys zs)
    (moved (xs ++ ys) part zs (subst (λ (es : Entries). BlocksAre b es) (sym (append_assoc xs ys (part ++ zs))) s)))

front : {b : Blocks} (before : Entries) (k : ℕ) (es : List Entries) (rest : Entries) → BlocksAre b (before ++ stack es rest) →
    BlocksAre b (before ++ (one_at k es ++ stack (without k es) rest))
front before k [] rest s = s
front before zero (e ∷ es) rest s = s
front {b} before (suc k) (e ∷ es) rest s =
    let A = one_at k es in
    let B = stack (without k es) rest in
    let one : BlocksAre b ((before ++ e) ++ (A ++ B)) =
    front (before ++ e) k es rest (subst (λ (xs : Entries). BlocksAre b xs) (sym (append_assoc before e (stack es rest))) s) in
    swapped before e A B (subst (λ (xs : Entries). BlocksAre b xs) (append_assoc before e (A ++ B)) one)

pub turn : {b : Blocks} (ks : List ℕ) (es : List Entries) (rest : Entries) → BlocksAre b (stack es rest) → BlocksAre b (stack (turned ks es) rest)
turn [] es rest s = s
turn (k ∷ ks) es rest s = turn ks (one_at k es ∷ without k es) rest (front [] k es rest s)
