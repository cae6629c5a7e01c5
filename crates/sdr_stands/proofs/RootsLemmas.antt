-- A thing that is neither a source nor a zero-copy object charges nothing, so the control words stay.
use Rattle.std.proofs.Common.{◌≡◌, ℕ, ◌+◌, ◌==◌, List, cond, Option, refl, sym, ap, ◌∙◌}
use Rattle.std.specs.FinMap as finite
use Rattle.std.specs.List.{sum_by}
use Rattle.std.specs.Prelude.{map}
use Rattle.sdr_base.specs.Catalogue.{name_addr}
use Rattle.sdr_base.specs.Linked.{first_of, last_of}
use Rattle.sdr_base.specs.Roots.{account_words, root_words, roots_by}
use Rattle.sdr_base.specs.Tickets.{ticket_addr}
use Rattle.sdr_base.specs.declared.account.Acct.{Acct}
use Rattle.sdr_base.specs.declared.account.Acct.TheVariants as accts
use Rattle.sdr_base.specs.declared.control.TheConstants.{HEAP_VERSION}
use Rattle.sdr_base.specs.declared.kind.Space.{Space}
use Rattle.sdr_model.specs.Accounts.{account_of, is_same_account, tickets_of}
use Rattle.sdr_model.specs.Amounts.{amounts_by, in_space}
use Rattle.sdr_model.specs.Charges.{left_in, object_charge, occupancy, thing_charge}
use Rattle.sdr_model.specs.TicketRows.{ticket_row}
use Rattle.sdr_model.specs.World.{World, thing_at}
use Rattle.sdr_model.specs.Zco.{count_of, space_of}
use Rattle.sdr_model.specs.declared.things.Thing.{Thing}
use Rattle.sdr_model.specs.declared.things.Thing.TheVariants as things
use Rattle.sdr_stands.specs.Rows.{name_row}
use Rattle.sdr_stands.specs.Standing.{roots_of}
use Rattle.sdr_stands.specs.Ties.{IsUntied, NoneIsTied}
use Rattle.sdr_stands.proofs.TiesLemmas.{same_sum, same_ties, untied_alike, with_thing_at}

uncharged : (w : World) (acct : Acct) (space : Space) (addr : ℕ) (thing : Thing) → IsUntied thing →
    thing_charge w acct space addr thing ≡ 0
uncharged w acct space addr (things.Source s) u = absurd u
uncharged w acct space addr (things.Object object) u = absurd u
uncharged w acct space addr thing u = refl

-- what the thing at an address charges an account, by how many extents of the account's objects name each source
abbrev pub charge_where : (ℕ → ℕ) → Acct → Space → ℕ → Thing → ℕ
charge_where counts acct space addr (things.Source source) =
    cond (counts addr == 0) 0 (in_space (space_of source.subject) source.length space)
charge_where counts acct space addr (things.Object z) = cond (is_same_account acct z.account) (object_charge space z) 0
charge_where counts acct space addr thing = 0

-- it is what the thing charges
pub charge_by_counts : (w : World) (acct : Acct) (space : Space) (addr : ℕ) (thing : Thing) →
    thing_charge w acct space addr thing ≡ charge_where (λ source. count_of w source acct) acct space addr thing
charge_by_counts w acct space addr (things.Source source) = refl
charge_by_counts w acct space addr (things.Object z) = refl
charge_by_counts w acct space addr thing = refl

-- an account occupies what it did
same_occupancy : (w : World) (addr : ℕ) (o : Option Thing) → NoneIsTied (thing_at w addr) → NoneIsTied o →
    (acct : Acct) (space : Space) → occupancy (with_thing_at w addr o) acct space ≡ occupancy w acct space
same_occupancy w addr o was is acct space =
    let w' = with_thing_at w addr o in
    let ties = same_ties w addr o (untied_alike (thing_at w addr) o was is) in
    let charges : (at : ℕ) (thing : Thing) → thing_charge w' acct space at thing ≡ thing_charge w acct space at thing = λ at thing.
    charge_by_counts w' acct space at thing
    ∙ ap (λ (counts : ℕ → ℕ). charge_where counts acct space at thing) (λ i source. (ties i).counts source acct)
    ∙ sym (charge_by_counts w acct space at thing) in
    let each : sum_by (λ e. thing_charge w' acct space e.0 e.1) (finite.entries w'.things)
    ≡ sum_by (λ e. thing_charge w acct space e.0 e.1) (finite.entries w'.things) =
    ap (λ (f : ℕ → Thing → ℕ). sum_by (λ e. f e.0 e.1) (finite.entries w'.things)) (λ i at thing. charges at thing i) in
    let sums = same_sum (λ e. thing_charge w acct space e.0 e.1) w.things addr o (uncharged w acct space) was is in
    ap (λ n. n + left_in space (tickets_of w.accounts acct)) (each ∙ sums)

-- the control words of a world, by what is occupied
abbrev account_where : World → (Acct → Space → ℕ) → Acct → List ℕ
account_where w occupied acct =
    let tickets = map ticket_row (tickets_of w.accounts acct) in
    account_words (amounts_by (occupied acct)) (account_of w.accounts acct).maxima
    (first_of ticket_addr 0 tickets) (last_of ticket_addr 0 tickets)

abbrev pub roots_where : World → (Acct → Space → ℕ) → ℕ → ℕ
roots_where w occupied =
    let names = map name_row w.names in
    roots_by
    (root_words HEAP_VERSION (first_of name_addr 0 names) (last_of name_addr 0 names)
    (account_where w occupied accts.Inbound) (account_where w occupied accts.Outbound) w.accounts.next)

-- the control words of the world stay as they were
pub same_roots : (w : World) (addr : ℕ) (o : Option Thing) → NoneIsTied (thing_at w addr) → NoneIsTied o →
    roots_of (with_thing_at w addr o) ≡ roots_of w
same_roots w addr o was is =
    ap (λ (occupied : Acct → Space → ℕ). roots_where w occupied) (λ i acct space. same_occupancy w addr o was is acct space i)
