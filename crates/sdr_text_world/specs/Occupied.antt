-- What is occupied in an account, as it is summed up over the things of a world.
use Rattle.std.specs.Prelude.{ℕ, if◌then◌else◌}
use Rattle.sdr_base.specs.declared.account.Acct.{Acct}
use Rattle.sdr_base.specs.declared.kind.Space.{Space}
use Rattle.sdr_model.specs.Accounts.{is_same_account}
use Rattle.sdr_model.specs.Charges.{object_charge}
use Rattle.sdr_model.specs.declared.things.Thing.{Thing}
use Rattle.sdr_model.specs.declared.things.Thing.TheVariants as things

-- what a thing charges an account of a space whatever names it: that is an object's charge
abbrev pub charge_alone : Acct → Space → Thing → ℕ
charge_alone acct space (things.Object z) = if is_same_account acct z.account then object_charge space z else 0
charge_alone acct space thing = 0
