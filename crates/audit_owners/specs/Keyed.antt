-- When lists, hashes and names in a heap are right, and where they are wrong first.
use Rattle.std.specs.Prelude.{◌≡◌, ℕ, Bool, true, List, [], ◌∷◌, map, Option}
use Rattle.sdr_base.specs.declared.kind.Kind.{Kind}
use Rattle.sdr_base.specs.declared.kind.Kind.TheVariants as kinds
use Rattle.audit_owners.specs.Entries.{keeps_entries, keeps_length}
use Rattle.audit_owners.specs.Members.{members}
use Rattle.audit_owners.specs.Places.{first_failing, first_some}
use Rattle.audit_owners.specs.Texts.{first_repeated, text_at}
use Rattle.audit_owners.specs.declared.key_rules.KeyRule.{KeyRule}
use Rattle.audit_owners.specs.declared.key_rules.KeyRule.TheVariants as which
use Rattle.audit_owners.specs.declared.texts.EntryText.TheVariants as texts
use Rattle.sdr_model.specs.Valid.{AreDistinct}
use Rattle.audit_owners.specs.View.{View}
use Rattle.audit_owners.specs.declared.owner.Owner.TheVariants as owners

-- the kinds of blocks that a rule speaks of
abbrev pub key_kinds : KeyRule → List Kind
key_kinds which.Length = kinds.List ∷ []
key_kinds which.Entries = kinds.Hash ∷ []

-- whether the block at an address keeps a rule
abbrev pub keeps_key_rule : View → ℕ → KeyRule → ℕ → Bool
keeps_key_rule heap words which.Length addr = keeps_length heap words addr
keeps_key_rule heap words which.Entries addr = keeps_entries heap words addr

-- the entries of the catalogue, in order
abbrev pub catalogue : View → ℕ → List ℕ
catalogue heap words = members heap words owners.Catalogue

-- each list tells its length, each hash is right, and no two names are the same
pub record IsKeyed (heap : View) (words : ℕ) : Type 0 where
  pub kept : (rule : KeyRule) (addr : ℕ) → keeps_key_rule heap words rule addr ≡ true
  pub names : AreDistinct (map (text_at heap texts.Name) (catalogue heap words))

-- the first place that is wrong: that of a list, else that of a hash, else that of a name, in the catalogue's order
abbrev pub wrong_key : View → ℕ → Option ℕ
wrong_key heap words =
    first_some
    (first_failing (keeps_key_rule heap words which.Length) words
    ∷ first_failing (keeps_key_rule heap words which.Entries) words
    ∷ first_repeated heap texts.Name (catalogue heap words)
    ∷ [])
