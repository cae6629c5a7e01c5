-- What the calls of sources, objects, accounts and tickets come to.
use Rattle.std.proofs.Common.{◌≡◌, ℕ, ◌+◌, ◌≤◌, ◌==◌, List, true, false, Option, Some, None, length, remove}
use Rattle.std.specs.FinMap as finite
use Rattle.std.specs.Option.{option_map}
use Rattle.std.specs.Prelude.{IfSome}
use Rattle.sdr_base.specs.declared.account.Acct.{Acct}
use Rattle.sdr_base.specs.declared.account.Amounts.{Amounts}
use Rattle.sdr_base.specs.declared.kind.Space.{Space}
use Rattle.sdr_base.specs.declared.kind.Space.TheVariants as spaces
use Rattle.law_steps.proofs.Effects.{IsFresh}
use Rattle.law_steps.proofs.SourceMoves.{SourcesMove, naming_in}
pub use Rattle.law_steps.proofs.SourceMoves.{nothing}
use Rattle.sdr_base.specs.declared.account.Acct.TheVariants as accts
use Rattle.law_steps.specs.Charged.{charge_in, charge_less, object_release, of_account, sources_less, ticket_of, ticket_release, ticket_under, whole_charge}
use Rattle.sdr_model.specs.AccountSteps.{new_ticket, with_maximum}
use Rattle.sdr_model.specs.Accounts.{account_of, most_amount, pending_in, tickets_of, with_account, with_tickets}
use Rattle.sdr_model.specs.declared.accounts.Pending.{Pending}
use Rattle.sdr_model.specs.Amounts.{amounts_by, first_above, minus}
use Rattle.sdr_model.specs.BondSteps.{bond_charge, bond_moves, bonded, capsules_of, with_bonded}
use Rattle.sdr_model.specs.Charges.{bytes_charge, left_in, object_charge, rooms}
use Rattle.sdr_model.specs.Charging.{grant_left, with_covered}
use Rattle.sdr_model.specs.Gone.{gone_things, is_passing, without_things}
use Rattle.sdr_model.specs.ObjectSteps.{raw_append_moves, with_extent}
use Rattle.sdr_model.specs.Queue.{barrier, enqueued, with_served}
use Rattle.sdr_model.specs.SourceSteps.{flagged, new_source}
use Rattle.sdr_model.specs.Step.{is_answer}
use Rattle.sdr_model.specs.declared.call.Call.{Call}
use Rattle.sdr_model.specs.Steps.{Outcome, taken_at}
use Rattle.sdr_model.specs.Things.{with_at}
use Rattle.sdr_model.specs.Valid.{AreInside, HasSubject}
use Rattle.sdr_model.specs.World.{World, as_raw, thing_at}
use Rattle.sdr_model.specs.Zco.{is_of_raw, naming, object_at, source_at, source_naming, uses_of}
use Rattle.sdr_model.specs.declared.accounts.Accounts.{Accounts}
use Rattle.sdr_model.specs.declared.accounts.Ticket.{Ticket}
use Rattle.sdr_model.specs.declared.things.Thing.TheVariants as things
use Rattle.sdr_model.specs.declared.zco.Extent.{Extent}
use Rattle.sdr_model.specs.declared.zco.Subject.TheVariants as subjects
use Rattle.sdr_model.specs.declared.zco.ZcoObject.{ZcoObject}
use Rattle.sdr_model.specs.declared.zco.ZcoSource.{ZcoSource}

-- What the call charges one account is what its ticket covers and what the room has for the rest.
pub record IsCharged (w : World) (acct : Acct) (number : ℕ) (adds : Space → ℕ) (used : World) : Type 0 where
  pub pending : Option Pending
  pub under : pending ≡ ticket_under w.accounts acct number
  pub there : IfSome pending (λ p. (pending_in w.accounts acct number ≡ Some p) × (p.ticket.granted ≡ true))
  pub free : barrier (minus (amounts_by adds) (grant_left pending)) (tickets_of w.accounts acct) ≡ None
  pub room : first_above (minus (amounts_by adds) (grant_left pending)) (rooms w acct) ≡ None
  pub used_is : used ≡ with_covered w pending (amounts_by adds)

-- How an account's queue or maxima are changed before it is served, and what is lost with what is left of a ticket.
pub data Queued (w : World) (acct : Acct) (accounts : Accounts) (lost : Space → ℕ) : Type 0 where
  same : lost ≡ nothing → accounts ≡ w.accounts → Queued w acct accounts lost
  maximum : (space : Space) (value : ℕ) → value ≤ most_amount → lost ≡ nothing
      → accounts ≡ with_account w.accounts acct (with_maximum (account_of w.accounts acct) space value)
      → Queued w acct accounts lost
  entered : (t : Ticket) (asked : Amounts) (block coarse fine : ℕ)
      → t ≡ new_ticket w.accounts.next block asked coarse fine
      → first_above asked (account_of w.accounts acct).maxima ≡ None → (w.accounts.next == most_amount) ≡ false
      → lost ≡ nothing
      → accounts
      ≡ record (with_tickets w.accounts acct (enqueued (tickets_of w.accounts acct) t)) { next = t.number + 1 }
      → Queued w acct accounts lost
  gone : (place : ℕ)
      → ((space : Space)
      → left_in space (remove (tickets_of w.accounts acct) place) + lost space ≡ left_in space
      (tickets_of w.accounts acct))
      → accounts ≡ with_tickets w.accounts acct
      (remove (tickets_of w.accounts acct) place) → Queued w acct accounts lost

-- How the accounts are changed: they stay, or one account is charged, or its queue is served.
pub data AccountChange (w after : World) (acct : Acct) (number : ℕ) (adds frees lost : Space → ℕ) : Type 0 where
  stays : adds ≡ nothing → frees ≡ nothing → lost ≡ nothing → after.accounts ≡ w.accounts
      → AccountChange w after acct number adds frees lost
  charged : (used : World) → IsCharged w acct number adds used → frees ≡ nothing → lost ≡ nothing
      → after.accounts ≡ used.accounts → AccountChange w after acct number adds frees lost
  served : (v : World) → adds ≡ nothing → Queued w acct v.accounts lost → after.things ≡ v.things
      → after.accounts ≡ (with_served v acct).accounts → AccountChange w after acct number adds frees lost

-- A call charges this to an account, and releases this for objects and with a ticket: those are what its row says.
pub record Owes (w : World) (call : Call) (acct : Acct) (adds frees lost : Space → ℕ) : Type 0 where
  pub charge : (b : Acct) (space : Space) → whole_charge w call b space ≡ of_account acct adds b space
  pub release : (b : Acct) (space : Space) → object_release w call b space ≡ of_account acct frees b space
  pub ticket : (b : Acct) (space : Space) → ticket_release w call b space ≡ of_account acct lost b space

-- a new source at a fresh address
pub record NewSource (w : World) (o : Outcome) : Type 0 where
  pub addr : ℕ
  pub source : ZcoSource
  pub fresh : IsFresh w o → thing_at w addr ≡ None
  pub stays : is_passing source ≡ false
  pub subject : HasSubject w source.length source.subject
  pub alone : (raw : ℕ) → is_of_raw raw source.subject ≡ true → source_naming w raw ≡ None
  pub things : o.after.things ≡ finite.insert w.things addr (things.Source source)

-- a new object at a fresh address, of extents inside their sources, which objects of its account name already
pub record NewObject (w : World) (call : Call) (o : Outcome) : Type 0 where
  pub addr : ℕ
  pub object : ZcoObject
  pub adds : Space → ℕ
  pub fresh : IsFresh w o → thing_at w addr ≡ None
  pub inside : ((a : ℕ) → IfSome (thing_at w a) (AreInside w)) → AreInside w (things.Object object)
  pub sources : SourcesMove w.things object.account None (Some object) nothing nothing
  pub charge : (space : Space) → object_charge space object ≡ adds space
  pub things : o.after.things ≡ finite.insert w.things addr (things.Object object)
  pub accounts : AccountChange w o.after object.account (ticket_of call) adds nothing nothing
  pub owes : Owes w call object.account adds nothing nothing

-- An object is another, of extents inside their sources, which name each source as often or more often: the sources charge
-- this more.
pub record NewShape (w : World) (call : Call) (o : Outcome) : Type 0 where
  pub addr : ℕ
  pub old : ZcoObject
  pub new : ZcoObject
  pub adds : Space → ℕ
  pub frees : Space → ℕ
  pub more : Space → ℕ
  pub was : object_at w addr ≡ Some old
  pub account : new.account ≡ old.account
  pub inside : AreInside w (things.Object old) → AreInside w (things.Object new)
  pub names : (source : ℕ) → naming source old.extents ≤ naming source new.extents
  pub sources : SourcesMove w.things old.account (Some old) (Some new) more nothing
  pub charge : (space : Space)
      → object_charge space new + more space + frees space ≡ object_charge space old + adds space
  pub things : o.after.things ≡ finite.insert w.things addr (things.Object new)
  pub accounts : AccountChange w o.after old.account (ticket_of call) adds frees nothing
  pub owes : Owes w call old.account adds frees nothing

-- a new source takes a raw object over, and an object gains an extent of it
pub record TakesOver (w : World) (call : Call) (o : Outcome) : Type 0 where
  pub addr : ℕ
  pub old : ZcoObject
  pub raw : ℕ
  pub text : List ℕ
  pub extent : Extent
  pub was : object_at w addr ≡ Some old
  pub bytes : as_raw (thing_at w raw) ≡ Some text
  pub unnamed : source_naming w raw ≡ None
  pub source : extent.source ≡ taken_at o.moves 0
  pub inside : extent.offset + extent.length ≤ length text
  pub moves : o.moves ≡ raw_append_moves (taken_at o.moves)
  pub things : o.after.things
      ≡ finite.insert
      (finite.insert w.things (taken_at o.moves 0) (things.Source (new_source (subjects.Heap raw) (length text)))) addr
      (things.Object (with_extent old extent))
  pub accounts : AccountChange w o.after old.account (ticket_of call) (bytes_charge spaces.Heap (length text)) nothing
      nothing
  pub owes : Owes w call old.account (bytes_charge spaces.Heap (length text)) nothing nothing

-- an object's headers and trailers are extents
pub record Bonds (w : World) (call : Call) (o : Outcome) : Type 0 where
  pub addr : ℕ
  pub old : ZcoObject
  pub was : object_at w addr ≡ Some old
  pub moves : o.moves ≡ bond_moves (taken_at o.moves) 0 (capsules_of old)
  pub things : o.after.things
      ≡ finite.insert (with_bonded w (taken_at o.moves) 0 (capsules_of old)).things addr
      (things.Object (bonded (taken_at o.moves) old))
  pub accounts : AccountChange w o.after old.account (ticket_of call) (bond_charge (capsules_of old)) nothing nothing
  pub owes : Owes w call old.account (bond_charge (capsules_of old)) nothing nothing

-- what is released where these extents go from an object, which goes or is another
abbrev pub drop_release : World → ZcoObject → Option ZcoObject → List Extent → Space → ℕ
drop_release w old new out space = charge_less old new space + sources_less w old.account out space

-- extents go from an object, which goes or is another, and with them what goes with them; its queue is served
pub record Drops (w : World) (call : Call) (o : Outcome) : Type 0 where
  pub addr : ℕ
  pub old : ZcoObject
  pub out : List Extent
  pub new : Option ZcoObject
  pub was : object_at w addr ≡ Some old
  pub account : IfSome new (λ z. z.account ≡ old.account)
  pub less : (space : Space) → charge_in space new ≤ object_charge space old
  pub parts : (source : ℕ) → naming source old.extents ≡ naming_in source new + naming source out
  pub inside : AreInside w (things.Object old) → IfSome new (λ z. AreInside w (things.Object z))
  pub things : o.after.things
      ≡ with_at (without_things w (gone_things w out out)).things addr (option_map (λ z. things.Object z) new)
  pub accounts : AccountChange w o.after old.account (ticket_of call) nothing (drop_release w old new out) nothing
  pub owes : Owes w call old.account nothing (drop_release w old new out) nothing

-- what such a call comes to
pub data ZcoOutcome (w : World) (call : Call) (o : Outcome) : Type 0 where
  refuses : is_answer o.reply ≡ false → o.after ≡ w → ZcoOutcome w call o
  makes_source : Owes w call accts.Inbound nothing nothing nothing → NewSource w o → o.after.accounts ≡ w.accounts
      → ZcoOutcome w call o
  drops_source : Owes w call accts.Inbound nothing nothing nothing → (addr : ℕ) (source : ZcoSource)
      → source_at w addr ≡ Some source → uses_of w addr ≡ 0
      → o.after.things ≡ with_at w.things addr None → o.after.accounts ≡ w.accounts → ZcoOutcome w call o
  flags_source : Owes w call accts.Inbound nothing nothing nothing → (addr : ℕ) (source : ZcoSource)
      → source_at w addr ≡ Some source
      → (uses_of w addr == 0) ≡ false → o.after.things ≡ finite.insert w.things addr (things.Source (flagged source))
      → o.after.accounts ≡ w.accounts → ZcoOutcome w call o
  serves_queue : (acct : Acct) (lost : Space → ℕ) → Owes w call acct nothing nothing lost → o.after.things ≡ w.things
      → AccountChange w o.after acct (ticket_of call) nothing nothing lost → ZcoOutcome w call o
  makes_object : NewObject w call o → ZcoOutcome w call o
  reshapes : NewShape w call o → ZcoOutcome w call o
  takes_over : TakesOver w call o → ZcoOutcome w call o
  bonds : Bonds w call o → ZcoOutcome w call o
  drops : Drops w call o → ZcoOutcome w call o
