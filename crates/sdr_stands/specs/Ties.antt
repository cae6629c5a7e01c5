-- What the blocks of a thing keep of other things.
use Rattle.std.specs.Prelude.{◌≡◌, ℕ, Bool, false, Option, None, Some}
use Rattle.sdr_base.specs.declared.account.Acct.{Acct}
use Rattle.sdr_model.specs.World.{World}
use Rattle.sdr_model.specs.Zco.{count_of, names_raw, source_naming, uses_in}
use Rattle.sdr_model.specs.declared.things.Thing.{Thing}
use Rattle.sdr_model.specs.declared.things.Thing.TheVariants as things

-- for a raw object the address of the source that names it, 0 for none; for a source how many extents of each account
-- name it
pub record Ties : Type 0 where
  pub named_by : ℕ → ℕ
  pub counts : ℕ → Acct → ℕ

-- an address, or 0
abbrev pub or_null : Option ℕ → ℕ
or_null None = 0
or_null (Some addr) = addr

-- how the things of a world are tied
abbrev pub ties_of : World → Ties
ties_of w = record { named_by = λ raw. or_null (source_naming w raw); counts = count_of w }

-- a thing that is neither a source nor a zero-copy object
abbrev pub IsUntied : Thing → Type 0
IsUntied (things.Source source) = ⊥
IsUntied (things.Object object) = ⊥
IsUntied thing = Unit {0}

-- no thing, or one that is neither a source nor a zero-copy object
abbrev pub NoneIsTied : Option Thing → Type 0
NoneIsTied None = Unit {0}
NoneIsTied (Some thing) = IsUntied thing

-- whether the thing, if there is one, is a source of this raw object
abbrev pub names_raw_at : ℕ → Option Thing → Bool
names_raw_at raw None = false
names_raw_at raw (Some thing) = names_raw raw thing

-- how many extents of the thing, if there is one and it is an object of this account, name a source
abbrev pub uses_at : ℕ → Acct → Option Thing → ℕ
uses_at source acct None = 0
uses_at source acct (Some thing) = uses_in source acct thing

-- two things, or none, are sources of the same raw object, if of any, and name each source as often
pub record TieAlike (was now : Option Thing) : Type 0 where
  pub raws : (raw : ℕ) → names_raw_at raw was ≡ names_raw_at raw now
  pub sources : (source : ℕ) (acct : Acct) → uses_at source acct was ≡ uses_at source acct now
