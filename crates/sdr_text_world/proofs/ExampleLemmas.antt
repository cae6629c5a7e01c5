-- The texts of the small worlds, computed.
use Rattle.std.proofs.Common.{◌≡◌, ◌∙◌, ◌+◌, ◌++◌, ◌==◌, ℕ, List, T, ap, cond, codes, decimal, find, refl}
use Rattle.std.specs.FinMap as finite
use Rattle.std.specs.List.{flat_map, sum_by}
use Rattle.std.specs.Option.{option_map, unwrap_or}
use Rattle.std.specs.Ordering.{nat_cmp}
use Rattle.sdr_base.specs.declared.account.Acct.{Acct}
use Rattle.sdr_base.specs.declared.account.Acct.TheVariants as accts
use Rattle.sdr_base.specs.declared.account.Amounts.{Amounts}
use Rattle.sdr_base.specs.declared.kind.Space.{Space}
use Rattle.sdr_model.specs.Accounts.{account_of, is_same_account, tickets_of}
use Rattle.sdr_model.specs.Amounts.{amounts_by, in_space}
use Rattle.sdr_model.specs.Charges.{left_in, object_charge}
use Rattle.sdr_model.specs.World.{World}
use Rattle.sdr_model.specs.Zco.{names_raw, space_of, uses_in}
use Rattle.sdr_model.specs.declared.things.Thing.{Thing}
use Rattle.sdr_model.specs.declared.things.Thing.TheVariants as things
use Rattle.sdr_text_world.specs.AccountText.{account_line}
use Rattle.sdr_stands.specs.Example.{bundle_things, bundle_world}
use Rattle.sdr_text_world.specs.Example.{mixed_things, mixed_world}
use Rattle.sdr_text_world.specs.ThingText.{thing_on, raw_on, source_on}
use Rattle.sdr_text_world.specs.WorldText.{blocks_line, heap_line, queues_text, world_text}
use Rattle.sdr_audit.specs.declared.census.Census.{Census}

-- The text of a world, where its things are listed so.
module _ (listed : List (ℕ × Thing)) where
  abbrev thing_charge_by : Acct → Space → ℕ → Thing → ℕ
  thing_charge_by acct space addr (things.Source source) =
      cond (sum_by (λ e. uses_in addr acct e.1) listed == 0) 0 (in_space (space_of source.subject) source.length space)
  thing_charge_by acct space addr (things.Object z) = cond (is_same_account acct z.account) (object_charge space z) 0
  thing_charge_by acct space addr thing = 0

  abbrev occupancies_by : World → Acct → Amounts
  occupancies_by w acct = amounts_by (λ space.
      sum_by (λ e. thing_charge_by acct space e.0 e.1) listed + left_in space (tickets_of w.accounts acct))

  abbrev account_by : World → Acct → List ℕ
  account_by w acct = account_line acct (occupancies_by w acct) (account_of w.accounts acct).maxima

  abbrev thing_by : World → ℕ → Thing → List ℕ
  thing_by w addr (things.Raw bytes) =
      raw_on (decimal addr) bytes (unwrap_or (option_map (λ e. e.0) (find (λ e. names_raw addr e.1) listed)) 0)
  thing_by w addr (things.Source source) =
      source_on (decimal addr) source (sum_by (λ e. uses_in addr accts.Inbound e.1) listed)
      (sum_by (λ e. uses_in addr accts.Outbound e.1) listed)
  thing_by w addr thing = thing_on w addr thing

  abbrev text_by : World → Census → List ℕ
  text_by w c =
      heap_line c ++ account_by w accts.Inbound ++ account_by w accts.Outbound ++ queues_text w
      ++ flat_map (λ e. thing_by w e.0 e.1 ++ codes "\n") listed ++ blocks_line c

by_world : (w : World) (c : Census) → world_text w c ≡ text_by (finite.entries w.things) w c
by_world w c = refl

-- the things of a small world, as they are listed
module _ (listed : List (ℕ × Thing)) (sorted : T (finite.is_sorted nat_cmp listed)) where
  small_text : (w : World) (c : Census) → w.things ≡ finite.from_sorted listed → world_text w c ≡ text_by listed w c
  small_text w c is =
      by_world w c ∙ (λ i. text_by ((ap finite.entries is ∙ finite.entries-from_sorted nat_cmp listed sorted) i) w c)

pub bundle_text : (c : Census) → world_text bundle_world c ≡ text_by bundle_things bundle_world c
bundle_text c = small_text bundle_things tt bundle_world c refl

pub mixed_text : (c : Census) → world_text mixed_world c ≡ text_by mixed_things mixed_world c
mixed_text c = small_text mixed_things tt mixed_world c refl
