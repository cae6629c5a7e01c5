-- When what lists, hashes, names, sources, objects and accounts tell is right, and where it is wrong first.
use Rattle.std.specs.Prelude.{◌≡◌, ◌/◌, ◌*◌, ℕ, true, not, List, [], ◌∷◌, length, find, Option}
use Rattle.std.specs.Option.{option_map, option_or}
use Rattle.sdr_base.specs.declared.account.Acct.{Acct}
use Rattle.sdr_base.specs.declared.account.Acct.TheVariants as accts
use Rattle.sdr_base.specs.declared.kind.Space.{Space}
use Rattle.sdr_base.specs.declared.line.TheConstants.{WORD}
use Rattle.audit_counts.specs.Counts.{keeps_counts}
use Rattle.audit_counts.specs.Occupied.{all_spaces, occupancy_word, tells_occupancy}
use Rattle.audit_counts.specs.Rules.{count_rules, first_broken, keeps_count_rule}
use Rattle.audit_counts.specs.declared.rules.CountRule.{CountRule}
use Rattle.audit_owners.specs.Keyed.{IsKeyed, wrong_key}
use Rattle.audit_owners.specs.Places.{first_failing, first_some}
use Rattle.audit_owners.specs.View.{View, view_in}

-- In a heap of so many words lists, hashes and names are right, each source tells its counts, sources, extents and objects keep the
-- rules of one another, and the control words tell what is occupied.
pub record IsCounted (heap : View) (words : ℕ) : Type 0 where
  pub keyed : IsKeyed heap words
  pub counts : (addr : ℕ) → keeps_counts heap words addr ≡ true
  pub kept : (rule : CountRule) (addr : ℕ) → keeps_count_rule heap words rule addr ≡ true
  pub occupancies : (account : Acct) (space : Space) → tells_occupancy heap words account space ≡ true

-- the first source, by rising address, that tells a wrong count
abbrev pub wrong_source : View → ℕ → Option ℕ
wrong_source heap words = first_failing (keeps_counts heap words) words

-- the place of the first control word of an account that tells a wrong occupancy
abbrev pub wrong_occupancy_in : View → ℕ → Acct → Option ℕ
wrong_occupancy_in heap words account =
    option_map (λ space. WORD * occupancy_word account space)
    (find (λ space. not (tells_occupancy heap words account space)) all_spaces)

-- the place of the first control word that tells a wrong occupancy: the inbound ones come first
abbrev pub wrong_occupancy : View → ℕ → Option ℕ
wrong_occupancy heap words =
    option_or (wrong_occupancy_in heap words accts.Inbound) (wrong_occupancy_in heap words accts.Outbound)

-- the first place that is wrong: that of a list, hash or name; else that of a source with a wrong count; else that of a block that
-- breaks a rule; else that of a control word
abbrev pub wrong_count : View → ℕ → Option ℕ
wrong_count heap words =
    first_some
    (wrong_key heap words ∷ wrong_source heap words ∷ first_broken heap words count_rules ∷ wrong_occupancy heap words ∷ [])

-- all this is right in a heap region
abbrev pub IsCountedRegion : List ℕ → Type 0
IsCountedRegion bytes = IsCounted (view_in bytes) (length bytes / WORD)

-- the first place in a heap region where it is wrong
abbrev pub wrong_count_in : List ℕ → Option ℕ
wrong_count_in bytes = wrong_count (view_in bytes) (length bytes / WORD)
