-- What things charge an account, and which sources its objects name.
use Rattle.std.specs.Prelude.{ℕ, ◌==◌, Bool, not, List, [], Option, None, Some, sum_by, if◌then◌else◌}
use Rattle.std.specs.FinMap as finite
use Rattle.sdr_base.specs.declared.account.Acct.{Acct}
use Rattle.sdr_base.specs.declared.kind.Space.{Space}
use Rattle.sdr_model.specs.Accounts.{is_same_account}
use Rattle.sdr_model.specs.Charges.{thing_charge}
use Rattle.sdr_model.specs.Things.{Things}
use Rattle.sdr_model.specs.World.{World, empty_world}
use Rattle.sdr_model.specs.Zco.{count_of}
use Rattle.sdr_model.specs.declared.things.Thing.{Thing}
use Rattle.sdr_model.specs.declared.things.Thing.TheVariants as things
use Rattle.sdr_model.specs.declared.zco.Extent.{Extent}

-- a world of these things alone
abbrev pub world_of : Things → World
world_of all = record empty_world { things = all }

-- the extents of an object of an account, none of anything else
abbrev pub own_extents : Acct → Option Thing → List Extent
own_extents acct (Some (things.Object z)) = if is_same_account acct z.account then z.extents else []
own_extents acct thing = []

-- whether an extent of an account's objects names the source at an address
abbrev pub is_used : World → ℕ → Acct → Bool
is_used w source acct = not (count_of w source acct == 0)

-- what the thing at an address charges an account of a space, where there is one
abbrev pub charge_at : World → Acct → Space → ℕ → Option Thing → ℕ
charge_at w acct space addr None = 0
charge_at w acct space addr (Some thing) = thing_charge w acct space addr thing

-- what the objects of an account, and the sources that they name, charge it of a space
abbrev pub charged : World → Acct → Space → ℕ
charged w acct space = sum_by (λ e. thing_charge w acct space e.0 e.1) (finite.entries w.things)
