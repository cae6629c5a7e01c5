-- The bytes as read are one of the images now.
use Rattle.std.specs.Prelude.{◌≡◌, ℕ, zero, suc, ◌*◌, ◌≤◌, List, [], ◌∷◌, length, refl}
use Rattle.std.proofs.Common.{arith, subst, sym}
use Rattle.sdr_disk.specs.History.{History, Leaves, MayLeave, State, after, after_all, bytes_read}
use Rattle.sdr_disk.specs.History.{moment_of, start, state_at}
use Rattle.sdr_disk.specs.declared.change.Change.{Change}

-- from the last return on the state is that after all changes
pub state_at-now : (s : State) (changes : List Change) (m : ℕ) → 2 * length changes ≤ m
    → state_at s changes m ≡ after_all s changes
state_at-now s [] m le = refl
state_at-now s (y ∷ changes) zero le = absurd (omega arith)
state_at-now s (y ∷ changes) (suc zero) le = absurd (omega arith)
state_at-now s (y ∷ changes) (suc (suc m)) le = state_at-now (after s y) changes m (omega arith)

-- the bytes that a read gives are an image now
pub MayLeave-read : (h : History) → MayLeave h (moment_of h) (bytes_read h)
MayLeave-read h =
    subst (λ (s : State). Leaves (length (bytes_read h)) s (bytes_read h))
    (sym (state_at-now (start h.first) h.changes (moment_of h) (omega arith)))
    (record { long = refl; same = λ i o. refl })
