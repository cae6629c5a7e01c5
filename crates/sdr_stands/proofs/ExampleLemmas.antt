-- The blocks and control words of a small world, computed.
use Rattle.std.proofs.Common.{◌≡◌, ℕ, ◌+◌, List, ◌++◌, ap, ◌∙◌, find}
use Rattle.std.specs.FinMap as finite
use Rattle.std.specs.List.{flat_map, sum_by}
use Rattle.std.specs.Option.{option_map}
use Rattle.std.specs.Ordering.{nat_cmp}
use Rattle.sdr_base.specs.Entries.{Entries}
use Rattle.sdr_base.specs.Linked.{linked}
use Rattle.sdr_base.specs.Roots.{roots_by}
use Rattle.sdr_base.specs.Words.{layout}
use Rattle.sdr_base.specs.declared.account.Acct.{Acct}
use Rattle.sdr_base.specs.declared.account.Acct.TheVariants as accts
use Rattle.sdr_base.specs.declared.kind.Space.{Space}
use Rattle.sdr_model.specs.Charges.{occupancy, thing_charge}
use Rattle.sdr_model.specs.Zco.{names_raw, uses_in}
use Rattle.sdr_model.specs.declared.things.Thing.{Thing}
use Rattle.sdr_stands.specs.Example.{bundle_entries, bundle_roots, bundle_things, bundle_world}
use Rattle.sdr_stands.specs.Standing.{entries_of, other_entries, roots_of, thing_entries}
use Rattle.sdr_stands.specs.Ties.{Ties, or_null}
use Rattle.sdr_stands.proofs.RootsLemmas.{charge_where, roots_where}

-- its things, as they are listed
listed : finite.entries bundle_world.things ≡ bundle_things
listed = finite.entries-from_sorted nat_cmp bundle_things tt

-- how listed things are tied
abbrev ties_in : List (ℕ × Thing) → Ties
ties_in es = record {
  named_by = λ raw. or_null (option_map (λ e. e.0) (find (λ e. names_raw raw e.1) es));
  counts = λ source acct. sum_by (λ e. uses_in source acct e.1) es;
}

abbrev entries_by : List (ℕ × Thing) → Entries
entries_by es = flat_map (λ e. thing_entries (ties_in es) e.0 e.1) es ++ other_entries bundle_world

-- its blocks are those that its addresses say
pub bundle_blocks : entries_of bundle_world ≡ bundle_entries
unfolding layout linked
bundle_blocks = ap entries_by listed

-- how many extents of an account's objects among these name a source
abbrev uses_among : List (ℕ × Thing) → Acct → ℕ → ℕ
uses_among es acct source = sum_by (λ e. uses_in source acct e.1) es

-- what is occupied, so
abbrev occupied_by : List (ℕ × Thing) → Acct → Space → ℕ
occupied_by es acct space = sum_by (λ e. charge_where (uses_among es acct) acct space e.0 e.1) bundle_things + 0

occupied : (acct : Acct) (space : Space) → occupancy bundle_world acct space ≡ occupied_by bundle_things acct space
occupied accts.Inbound space =
    ap (λ (es : List (ℕ × Thing)). sum_by (λ e. thing_charge bundle_world accts.Inbound space e.0 e.1) es + 0) listed
    ∙ ap (λ (es : List (ℕ × Thing)). occupied_by es accts.Inbound space) listed
occupied accts.Outbound space =
    ap (λ (es : List (ℕ × Thing)). sum_by (λ e. thing_charge bundle_world accts.Outbound space e.0 e.1) es + 0) listed
    ∙ ap (λ (es : List (ℕ × Thing)). occupied_by es accts.Outbound space) listed

-- so are its control words
pub bundle_words : roots_of bundle_world ≡ roots_by bundle_roots
bundle_words =
    ap (λ (o : Acct → Space → ℕ). roots_where bundle_world o) (λ i acct space. occupied acct space i)
