-- What is kept of an account beside the things: how many extents of its objects name each source, and what it is charged.
use Rattle.std.specs.BTreeMap.{BTreeMap, get}
use Rattle.std.specs.FinMap as finite
use Rattle.std.specs.Ordering.{nat_cmp}
use Rattle.std.specs.Prelude.{◌≡◌, ℕ, ◌==◌, Bool, false, true, IfSome, Option, None, Some, sum_by, unwrap_or, if◌then◌else◌}
use Rattle.sdr_base.specs.declared.account.Acct.{Acct}
use Rattle.sdr_base.specs.declared.account.Acct.TheVariants as accts
use Rattle.sdr_base.specs.declared.kind.Space.{Space}
use Rattle.sdr_base.specs.declared.kind.Space.TheVariants as spaces
use Rattle.sdr_model.specs.Accounts.{is_same_account}
use Rattle.sdr_model.specs.Amounts.{amount, in_space}
use Rattle.sdr_model.specs.Charges.{capsule_charge, extent_bytes, object_charge}
use Rattle.sdr_model.specs.Things.{Things}
use Rattle.sdr_model.specs.Zco.{count_of, names_raw, raw_of, space_of}
use Rattle.sdr_model.specs.declared.things.Thing.{Thing}
use Rattle.sdr_model.specs.declared.things.Thing.TheVariants as things
use Rattle.mem_parts.specs.Capped.{capped_by}
use Rattle.mem_parts.specs.declared.component.Component.{Component}
use Rattle.mem_parts.specs.declared.component.Component.TheVariants as components
use Rattle.mem_store.specs.Charged.{world_of}
use Rattle.mem_store.specs.declared.tally.Growth.{Growth}
use Rattle.mem_store.specs.declared.tally.Tally.{Tally}
use Rattle.mem_store.specs.declared.tallied.Tallied.{Tallied}

-- how many extents that name the source at an address a tally counts
abbrev pub counted : Tally → ℕ → ℕ
counted t at = unwrap_or (get nat_cmp t.uses at) 0

-- the bytes of a source that are in a space, none of anything else
abbrev pub source_bytes : Space → Option Thing → ℕ
source_bytes space (Some (things.Source s)) = in_space (space_of s.subject) s.length space
source_bytes space thing = 0

-- what a thing charges an account of a space, where so many extents of the account's objects name it
abbrev pub charge_named : ℕ → Acct → Space → Option Thing → ℕ
charge_named n acct space (Some (things.Source s)) = if n == 0 then 0 else in_space (space_of s.subject) s.length space
charge_named n acct space (Some (things.Object z)) = if is_same_account acct z.account then object_charge space z else 0
charge_named n acct space thing = 0

-- what things charge an account of a space, where so many extents of the account's objects name each
abbrev pub charges_named : (ℕ → ℕ) → Acct → Space → Things → ℕ
charges_named counts acct space all =
    sum_by (λ e. charge_named (counts e.0) acct space (Some e.1)) (finite.entries all)

-- the charge of a tally is what these things charge an account by the tally's counts
pub record Sums (acct : Acct) (all : Things) (t : Tally) : Type 0 where
  pub each : (space : Space) → amount t.charged space ≡ charges_named (counted t) acct space all

-- a tally counts the extents of an account's objects among these things, and sums what the things charge it
pub record Tallies (acct : Acct) (all : Things) (t : Tally) : Type 0 where
  pub counts : (at : ℕ) → counted t at ≡ count_of (world_of all) at acct
  pub sums : Sums acct all t

-- how many sources name a raw object
abbrev pub sources_on : ℕ → Things → ℕ
sources_on raw all = sum_by (λ e. if names_raw raw e.1 then 1 else 0) (finite.entries all)

-- the raw object that a source names
abbrev pub raw_named : Option Thing → Option ℕ
raw_named (Some (things.Source s)) = raw_of s.subject
raw_named thing = None

-- each raw object that a source of these things names is noted
pub record AreNoted (all : Things) (raws : BTreeMap ℕ ℕ) : Type 0 where
  pub none : (raw : ℕ) → get nat_cmp raws raw ≡ None → sources_on raw all ≡ 0

-- what a component charges of a space
abbrev pub component_charge : Space → Component → ℕ
component_charge space (components.Extent e) = in_space spaces.Heap extent_bytes space
component_charge space (components.Header c) = capsule_charge space c
component_charge space (components.Trailer c) = capsule_charge space c

-- the source that a component names
abbrev pub component_source : Component → Option ℕ
component_source (components.Extent e) = Some e.source
component_source component = None

-- whether it is neither a source nor an object, so that it charges nothing and names nothing
abbrev pub is_plain : Option Thing → Bool
is_plain (Some (things.Source s)) = false
is_plain (Some (things.Object z)) = false
is_plain thing = true

-- whether it is an object of an account
abbrev pub is_object_of : Acct → Option Thing → Bool
is_object_of acct (Some (things.Object z)) = is_same_account acct z.account
is_object_of acct thing = false

-- one at a source, where one is named
abbrev pub named_once : Option ℕ → ℕ → ℕ
named_once None at = 0
named_once (Some source) at = if source == at then 1 else 0

-- this is what a component charges, and the source that it names
pub record IsGrowth (component : Component) (growth : Growth) : Type 0 where
  pub charge : growth.charge ≡ capped_by (λ space. component_charge space component)
  pub source : growth.source ≡ component_source component

-- the tally of each account that isn't lost is of these things, as the raw objects are that sources name
pub record AreTallied (all : Things) (t : Tallied) : Type 0 where
  pub inbound : IfSome t.inbound (Tallies accts.Inbound all)
  pub outbound : IfSome t.outbound (Tallies accts.Outbound all)
  pub raws : IfSome t.raws (AreNoted all)

-- the tally of an account, where it isn't lost
abbrev pub tally_of : Tallied → Acct → Option Tally
tally_of t accts.Inbound = t.inbound
tally_of t accts.Outbound = t.outbound
