-- Why the numbers of a world keep fitting the fields of its blocks.
use Rattle.std.proofs.Common.{◌≡◌, ℕ, ◌+◌, ◌==◌, ◌<◌, suc, set, List, [], ◌∷◌, ◌++◌, Bool, true, false, cond, Option, Some, None, MatchBool, MatchOption, length, take, drop, refl, sym, subst, ap, ◌∙◌, arith}
use Rattle.std.specs.BTreeMap.{is_at}
use Rattle.std.specs.FinMap.{get, insert as put, remove as lose}
use Rattle.std.specs.List.{insert, remove}
use Rattle.std.specs.Ordering.{nat_cmp}
use Rattle.std.specs.Prelude.{All, IfSome}
use Rattle.std.proofs.lemmas.List.Elements.{All-append, All-cons, All-drop, All-set, All-take}
use Rattle.sdr_base.specs.Parts.{overwrite}
use Rattle.sdr_base.specs.declared.account.Acct.{Acct}
use Rattle.sdr_base.specs.declared.account.Acct.TheVariants as accts
use Rattle.sdr_base.specs.declared.account.Amounts.{Amounts}
use Rattle.sdr_base.specs.declared.kind.Space.{Space}
use Rattle.sdr_base.specs.declared.moves.Move.{Move}
use Rattle.sdr_base.specs.declared.refusal.Refusal.TheVariants as refusals
use Rattle.law_steps.proofs.AccountLemmas.{pending_stands}
use Rattle.law_steps.proofs.DistinctLemmas.{on_test}
use Rattle.law_steps.proofs.ThingChanges.{in_takes}
use Rattle.sdr_model.specs.Steps.{DoesWith, Outcome, Refuses, TakesOne, taken_addresses, taken_at, with_thing}
use Rattle.sdr_model.proofs.ThingsLemmas.{get-with_at, same_address}
use Rattle.sdr_model.specs.Accounts.{account_of, no_ticket, pending_in, tickets_of, with_tickets}
use Rattle.sdr_model.specs.Amounts.{amounts_by, are_within, first_above, minus, plus}
use Rattle.sdr_model.specs.Charges.{occupancies, rooms}
use Rattle.sdr_model.specs.Charging.{Charges, grant_left, no_space, with_covered}
use Rattle.sdr_model.specs.Fields.{AreBytes, FitsFields, FitsName, FitsThing, FitsTicket, IsWord}
use Rattle.sdr_model.specs.Things.{with_at}
use Rattle.sdr_model.specs.World.{World, thing_at}
use Rattle.sdr_model.specs.Queue.{barrier, granted, served, with_served}
use Rattle.sdr_model.specs.declared.accounts.Accounts.{Accounts}
use Rattle.sdr_model.specs.declared.accounts.Pending.{Pending}
use Rattle.sdr_model.specs.declared.accounts.Ticket.{Ticket}
use Rattle.sdr_model.specs.declared.answer.Reply.{Reply}
use Rattle.sdr_model.specs.declared.things.Thing.{Thing}

-- P of each, after one more, one less, or some others in their place
pub all_inserted : {X : Type 0} (P : X → Type 0) (xs : List X) (i : ℕ) (x : X) → P x → All P xs → All P (insert xs i x)
all_inserted P xs i x one all =
    All-append P (take i xs) (x ∷ drop i xs) (All-take P i xs all) (All-cons P x (drop i xs) one (All-drop P i xs all))

pub all_removed : {X : Type 0} (P : X → Type 0) (xs : List X) (i : ℕ) → All P xs → All P (remove xs i)
all_removed P xs i all = All-append P (take i xs) (drop (suc i) xs) (All-take P i xs all) (All-drop P (suc i) xs all)

pub all_overwritten : (place : ℕ) (from bytes : List ℕ) → AreBytes from → AreBytes bytes
    → AreBytes (overwrite place from bytes)
all_overwritten place from bytes new old =
    All-append (λ b. b < 256) (take place bytes ++ from) (drop (place + length from) bytes)
    (All-append (λ b. b < 256) (take place bytes) from (All-take (λ b. b < 256) place bytes old) new)
    (All-drop (λ b. b < 256) (place + length from) bytes old)

module _ (w : World) (fits : FitsFields w) where
  -- a world with the same things, names and accounts
  pub fits_same : (v : World) → v.things ≡ w.things → v.names ≡ w.names → v.accounts ≡ w.accounts → FitsFields v
  fits_same v things names accounts = record {
    things = λ q. subst (λ m. IfSome (get m q) (λ t. IsWord q × FitsThing t)) (sym things) (fits.things q);
    names = subst (All FitsName) (sym names) fits.names;
    inbound = subst (λ (a : Accounts). All FitsTicket a.inbound.tickets) (sym accounts) fits.inbound;
    outbound = subst (λ (a : Accounts). All FitsTicket a.outbound.tickets) (sym accounts) fits.outbound;
  }

  -- a world with another thing, or none, at an address
  fits_with : (v : World) (addr : ℕ) (o : Option Thing) → v.things ≡ with_at w.things addr o → v.names ≡ w.names
      → v.accounts ≡ w.accounts
      → ((q : ℕ) → is_at (nat_cmp q) addr ≡ true → IfSome o (λ t. IsWord q × FitsThing t)) → FitsFields v
  fits_with v addr o things names accounts fit = record {
    things = λ q. subst (λ t. IfSome t (λ t. IsWord q × FitsThing t))
        (sym (ap (λ m. get m q) things ∙ get-with_at w.things addr o q)) (at q (is_at (nat_cmp q) addr) refl);
    names = subst (All FitsName) (sym names) fits.names;
    inbound = subst (λ (a : Accounts). All FitsTicket a.inbound.tickets) (sym accounts) fits.inbound;
    outbound = subst (λ (a : Accounts). All FitsTicket a.outbound.tickets) (sym accounts) fits.outbound;
  }
    where
      at : (q : ℕ) (b : Bool) → is_at (nat_cmp q) addr ≡ b
          → IfSome (cond b o (get w.things q)) (λ t. IsWord q × FitsThing t)
      at q true e = fit q e
      at q false e = fits.things q

  pub fits_put : (v : World) (addr : ℕ) (thing : Thing) → v.things ≡ put w.things addr thing → v.names ≡ w.names
      → v.accounts ≡ w.accounts → IsWord addr → FitsThing thing → FitsFields v
  fits_put v addr thing things names accounts word fit =
      fits_with v addr (Some thing) things names accounts (λ q e. (subst IsWord (sym (same_address q addr e)) word, fit))

  pub fits_lost : (v : World) (addr : ℕ) → v.things ≡ lose w.things addr → v.names ≡ w.names
      → v.accounts ≡ w.accounts → FitsFields v
  fits_lost v addr things names accounts = fits_with v addr None things names accounts (λ q e. tt)

  -- a world with other names
  pub fits_names : (v : World) → v.things ≡ w.things → v.accounts ≡ w.accounts → All FitsName v.names → FitsFields v
  fits_names v things accounts names = record {
    things = λ q. subst (λ m. IfSome (get m q) (λ t. IsWord q × FitsThing t)) (sym things) (fits.things q);
    names = names;
    inbound = subst (λ (a : Accounts). All FitsTicket a.inbound.tickets) (sym accounts) fits.inbound;
    outbound = subst (λ (a : Accounts). All FitsTicket a.outbound.tickets) (sym accounts) fits.outbound;
  }

  -- what fits of a thing that is there
  pub thing_fits : (addr : ℕ) (thing : Thing) → thing_at w addr ≡ Some thing → IsWord addr × FitsThing thing
  thing_fits addr thing is = subst (λ t. IfSome t (λ t. IsWord addr × FitsThing t)) is (fits.things addr)

-- marks and shown bytes are free
pub unmarked : {w : World} {marks shown : List ℕ} → FitsFields w → FitsFields (record w { marks = marks; shown = shown })
unmarked fits = record { things = fits.things; names = fits.names; inbound = fits.inbound; outbound = fits.outbound }

-- the numbers of all tickets fit
abbrev pub FitsTickets : Accounts → Type 0
FitsTickets accounts = All FitsTicket accounts.inbound.tickets × All FitsTicket accounts.outbound.tickets

pub fits_accounts : (w : World) (accounts : Accounts) → FitsTickets accounts → FitsFields w
    → FitsFields (record w { accounts = accounts })
fits_accounts w accounts fit fits =
    record { things = fits.things; names = fits.names; inbound = fit.0; outbound = fit.1 }

-- those of one account
pub tickets_fit : (accounts : Accounts) (acct : Acct) → FitsTickets accounts → All FitsTicket (tickets_of accounts acct)
tickets_fit accounts accts.Inbound fit = fit.0
tickets_fit accounts accts.Outbound fit = fit.1

-- and with others in its queue
pub fits_tickets : (accounts : Accounts) (acct : Acct) (tickets : List Ticket) → FitsTickets accounts
    → All FitsTicket tickets → FitsTickets (with_tickets accounts acct tickets)
fits_tickets accounts accts.Inbound tickets fit all = (all, fit.1)
fits_tickets accounts accts.Outbound tickets fit all = (fit.0, all)

-- a queue that is served
served_fit : (maxima occupied : Amounts) (tickets : List Ticket) → All FitsTicket tickets
    → All FitsTicket (served maxima occupied tickets)
served_fit maxima occupied [] all = all
served_fit maxima occupied (t ∷ ts) all =
    let first : FitsTicket t = all 0 t (omega arith) in
    let rest : All FitsTicket ts = λ i d within. all (suc i) d (omega (arith, within)) in
    let goes_on = served maxima (plus occupied t.asked) ts in
    let fits = are_within t.asked (minus maxima occupied) in
    on_test t.granted
    (λ e. subst (λ b. All FitsTicket (cond b (t ∷ served maxima occupied ts)
    (cond fits (granted t ∷ goes_on) (t ∷ ts)))) (sym e)
    (All-cons FitsTicket t (served maxima occupied ts) first (served_fit maxima occupied ts rest)))
    (λ e. subst (λ b. All FitsTicket (cond b (t ∷ served maxima occupied ts)
    (cond fits (granted t ∷ goes_on) (t ∷ ts)))) (sym e)
    (on_test fits
    (λ f. subst (λ b. All FitsTicket (cond b (granted t ∷ goes_on) (t ∷ ts))) (sym f)
    (All-cons FitsTicket (granted t) goes_on
    (record { block = first.block; coarse = first.coarse; fine = first.fine })
    (served_fit maxima (plus occupied t.asked) ts rest)))
    (λ f. subst (λ b. All FitsTicket (cond b (granted t ∷ goes_on) (t ∷ ts))) (sym f) all)))

pub fits_served : (w : World) (acct : Acct) → FitsFields w → FitsFields (with_served w acct)
fits_served w acct fits =
    let tickets = tickets_of w.accounts acct in
    let maxima = (account_of w.accounts acct).maxima in
    fits_accounts w _
    (fits_tickets w.accounts acct (served maxima (occupancies w acct) tickets) (fits.inbound, fits.outbound)
    (served_fit maxima (occupancies w acct) tickets
    (tickets_fit w.accounts acct (fits.inbound, fits.outbound)))) fits

-- the grant of a ticket that is used
pub fits_used : (w : World) (acct : Acct) (number : ℕ) (p : Pending) (amounts : Amounts)
    → pending_in w.accounts acct number ≡ Some p → FitsFields w → FitsFields (with_covered w (Some p) amounts)
fits_used w acct number p amounts is fits =
    let stands = pending_stands w.accounts acct number p is in
    let all = tickets_fit w.accounts acct (fits.inbound, fits.outbound) in
    let its : FitsTicket p.ticket = subst FitsTicket stands.there (all p.place no_ticket stands.within) in
    let used : Ticket = record p.ticket { left = minus p.ticket.left amounts } in
    let fit = fits_tickets w.accounts acct (set (tickets_of w.accounts acct) p.place used) (fits.inbound, fits.outbound)
    (All-set FitsTicket (tickets_of w.accounts acct) p.place used
    (record { block = its.block; coarse = its.coarse; fine = its.fine }) all) in
    fits_accounts w _
    (subst (λ a. FitsTickets (with_tickets w.accounts a (set (tickets_of w.accounts a) p.place used)))
    (sym stands.queue) fit) fits

-- where all numbers of the world fit, such outcomes leave a world of which that holds
pub record KeepsFields (w : World) (R : Outcome → Type 0) : Type 0 where
  pub keeps : FitsFields w → (o : Outcome) → R o → All IsWord (taken_addresses o.moves) → FitsFields o.after

module _ {w : World} where
  -- an outcome that leaves such a world
  pub told : {moves : List Move} {next : World} {reply : Reply} → (FitsFields w → FitsFields next)
      → KeepsFields w (λ o. (o.moves ≡ moves) × (o.after ≡ next) × (o.reply ≡ reply))
  told fit = record { keeps = λ fits o h _. subst FitsFields (sym h.1) (fit fits) }

  -- a refusal
  pub refused : {moves : List Move} {reply : Reply}
      → KeepsFields w (λ o. (o.moves ≡ moves) × (o.after ≡ w) × (o.reply ≡ reply))
  refused = told (λ fits. fits)

  -- bytes that are shown
  pub shown : {moves : List Move} {bytes : List ℕ} {reply : Reply}
      → KeepsFields w (λ o. (o.moves ≡ moves) × (o.after ≡ record w { shown = bytes }) × (o.reply ≡ reply))
  shown = told (λ fits. fits_same w fits _ refl refl refl)

  -- a thing that goes
  pub goes : {moves : List Move} {reply : Reply} (addr : ℕ)
      → KeepsFields w (λ o. (o.moves ≡ moves) × (o.after ≡ record w { things = lose w.things addr; shown = [] }) ×
      (o.reply ≡ reply))
  goes addr = told (λ fits. fits_lost w fits _ addr refl refl refl)

  -- an outcome with one block taken
  pub takes_one : {need : ℕ} {next : ℕ → World} {reply : ℕ → Reply}
      → (FitsFields w → (a : ℕ) → IsWord a → FitsFields (next a))
      → KeepsFields w (λ o. TakesOne o.moves need (λ a. (o.after ≡ next a) × (o.reply ≡ reply a)))
  takes_one {need} fit = record {
    keeps = λ fits o h words. in_takes o.moves need _ h (λ a moves did.
        subst FitsFields (sym did.0)
        (fit fits a (subst (λ ms. All IsWord (taken_addresses ms)) moves words 0 0 (omega arith))));
  }

  -- an outcome by a test, and by what is there
  pub tested : {P Q : Outcome → Type 0} (b : Bool) → KeepsFields w P → KeepsFields w Q
      → KeepsFields w (λ o. MatchBool b (P o) (Q o))
  tested true p q = p
  tested false p q = q

  pub found : {X : Type 0} {P : Outcome → Type 0} {Q : X → Outcome → Type 0} (x : Option X) → KeepsFields w P
      → ((v : X) → x ≡ Some v → KeepsFields w (Q v))
      → KeepsFields w (λ o. MatchOption x (P o) (λ v. Q v o))
  found None p q = p
  found (Some v) p q = q v refl

  -- a thing that is another, or gains a block, where it was
  pub changes : {moves : List Move} {reply : Reply} (addr : ℕ) (old new : Thing) → thing_at w addr ≡ Some old
      → (FitsThing old → FitsThing new)
      → KeepsFields w (λ o. (o.moves ≡ moves) × (o.after ≡ record (with_thing w addr new) { shown = [] }) ×
      (o.reply ≡ reply))
  changes addr old new is fit = told (λ fits.
      let there = thing_fits w fits addr old is in fits_put w fits _ addr new refl refl refl there.0 (fit there.1))

  pub gains : {need : ℕ} {reply : ℕ → Reply} (addr : ℕ) (old : Thing) (new : ℕ → Thing) → thing_at w addr ≡ Some old
      → ((a : ℕ) → IsWord a → FitsThing old → FitsThing (new a))
      → KeepsFields w (λ o. TakesOne o.moves need
      (λ a. (o.after ≡ record (with_thing w addr (new a)) { marks = w.marks ++ a ∷ []; shown = [] }) ×
      (o.reply ≡ reply a)))
  gains addr old new is fit = takes_one (λ fits a word.
      let there = thing_fits w fits addr old is in fits_put w fits _ addr (new a) refl refl refl there.0
      (fit a word there.1))

  -- a new thing
  pub makes : {need : ℕ} {reply : ℕ → Reply} (thing : Thing) → (FitsFields w → FitsThing thing)
      → KeepsFields w (λ o. TakesOne o.moves need
      (λ a. (o.after ≡ record (with_thing w a thing) { marks = w.marks ++ a ∷ []; shown = [] }) ×
      (o.reply ≡ reply a)))
  makes thing fit = takes_one (λ fits a word. fits_put w fits _ a thing refl refl refl word (fit fits))

  -- an outcome by what a charge allows
  pub charges : (goes : Outcome → World → Type 0) (acct : Acct) (number : ℕ) (charge : Space → ℕ)
      → ((used : World) → (FitsFields w → FitsFields used) → KeepsFields w (λ o. goes o used))
      → KeepsFields w (λ o. Charges w o acct number charge (goes o))
  charges goes acct number charge go =
      tested (number == 0) (covered None (λ amounts fits. fits))
      (found (pending_in w.accounts acct number) refused
      (λ p is. tested p.ticket.granted (covered (Some p) (λ amounts. fits_used w acct number p amounts is)) refused))
    where
      covered : (p : Option Pending) → ((amounts : Amounts) → FitsFields w → FitsFields (with_covered w p amounts))
          → KeepsFields w (λ o.
          let uncovered = minus (amounts_by charge) (grant_left p) in
          MatchOption (barrier uncovered (tickets_of w.accounts acct))
          (MatchOption (first_above uncovered (rooms w acct))
          (goes o (with_covered w p (amounts_by charge)))
          (λ space. Refuses w o (no_space w acct uncovered space)))
          (λ t. Refuses w o (refusals.Queue t.number)))
      covered p fit =
          let uncovered = minus (amounts_by charge) (grant_left p) in
          found (barrier uncovered (tickets_of w.accounts acct))
          (found (first_above uncovered (rooms w acct))
          (go (with_covered w p (amounts_by charge)) (fit (amounts_by charge))) (λ space above. refused))
          (λ t front. refused)

  -- an outcome with all blocks taken, by their addresses
  pub does_with : (moves : (ℕ → ℕ) → List Move) (next : (ℕ → ℕ) → World) (reply : (ℕ → ℕ) → Reply)
      → (FitsFields w → (at : ℕ → ℕ) → All IsWord (taken_addresses (moves at)) → FitsFields (next at))
      → KeepsFields w (λ o. DoesWith w o moves next reply)
  does_with moves next reply fit = record {
    keeps = λ fits o d words.
        subst FitsFields (sym d.1)
        (unmarked (fit fits (taken_at o.moves) (subst (λ ms. All IsWord (taken_addresses ms)) d.0 words)));
  }
