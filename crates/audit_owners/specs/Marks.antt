-- Which words of a heap region are marked: those with which blocks that were reached begin.
use Rattle.std.specs.Prelude.{◌≡◌, ◌*◌, ℕ, Bool, false, not, List, get_or, count_by}
use Rattle.sdr_base.specs.declared.line.TheConstants.{WORD}
use Rattle.audit_owners.specs.Chains.{is_among}

-- just the words at these addresses are marked
pub record AreMarked (reached : List ℕ) (marks : List Bool) : Type 0 where
  pub just : (word : ℕ) → get_or marks word false ≡ is_among reached (WORD * word)

-- how many words aren't marked
abbrev pub unmarked : List Bool → ℕ
unmarked marks = count_by not marks
