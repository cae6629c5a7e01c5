-- What ties the things of a world to each other, as it is counted over them.
use Rattle.std.specs.Prelude.{◌≡◌, ℕ, List, Option, unwrap_or, sum_by, find, option_map}
use Rattle.std.specs.BTreeMap.{BTreeMap, get}
use Rattle.std.specs.FinMap as map
use Rattle.std.specs.Ordering.{nat_cmp}
use Rattle.sdr_base.specs.declared.account.Acct.{Acct}
use Rattle.sdr_base.specs.declared.account.Acct.TheVariants as accts
use Rattle.sdr_model.specs.World.{World}
use Rattle.sdr_model.specs.Zco.{names_raw, uses_in}
use Rattle.sdr_model.specs.declared.things.Thing.{Thing}
use Rattle.sdr_text_world.specs.declared.tied.Tied.{Tied}

-- the first of these things that is a source of a raw object
abbrev pub first_source : ℕ → List (ℕ × Thing) → Option ℕ
first_source raw things = option_map (λ e. e.0) (find (λ e. names_raw raw e.1) things)

-- how many extents of an account's objects among these things name a source
abbrev pub uses_among : ℕ → Acct → List (ℕ × Thing) → ℕ
uses_among source acct things = sum_by (λ e. uses_in source acct e.1) things

-- how often an address was counted
abbrev pub counted_at : BTreeMap ℕ ℕ → ℕ → ℕ
counted_at counts addr = unwrap_or (get nat_cmp counts addr) 0

-- how often a source was counted among the extents of an account's objects
abbrev pub counted_by : Tied → Acct → ℕ → ℕ
counted_by tied accts.Inbound source = counted_at tied.inbound source
counted_by tied accts.Outbound source = counted_at tied.outbound source

-- of each raw object it is told which of these things is a source of it, and of each source how many extents of each account name it
pub record TellsOf (things : List (ℕ × Thing)) (tied : Tied) : Type 0 where
  pub raws : (raw : ℕ) → get nat_cmp tied.raws raw ≡ first_source raw things
  pub uses : (acct : Acct) (source : ℕ) → counted_by tied acct source ≡ uses_among source acct things

-- this is told of a world's things
abbrev pub TellsTies : World → Tied → Type 0
TellsTies w tied = TellsOf (map.entries w.things) tied
