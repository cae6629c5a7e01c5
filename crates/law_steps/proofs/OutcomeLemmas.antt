-- How an outcome is taken apart, by what its row tests and charges.
use Rattle.std.proofs.Common.{◌≡◌, ℕ, ◌+◌, ◌≤◌, ◌==◌, ◌||◌, ◌++◌, List, [], ◌∷◌, Bool, true, false, Option, Some, None, MatchBool, MatchOption, length, nat_lt, refl, sym, ap, ◌∙◌, subst, arith}
use Rattle.std.specs.Prelude.{IfSome, if◌then◌else◌}
use Rattle.std.proofs.lemmas.Bool.Decides.{nat_tests}
use Rattle.sdr_base.specs.declared.account.Acct.{Acct}
use Rattle.sdr_base.specs.declared.kind.Space.{Space}
use Rattle.sdr_base.specs.declared.moves.Move.{Move}
use Rattle.sdr_base.specs.declared.account.Acct.TheVariants as accts
use Rattle.sdr_base.specs.declared.refusal.Refusal.{Refusal}
use Rattle.law_steps.proofs.Effects.{IsFresh, in_takes_one}
use Rattle.law_steps.proofs.FreshLemmas.{none_there}
use Rattle.law_steps.proofs.ThingLemmas.{object_is}
use Rattle.law_steps.proofs.ZcoOutcomes.{IsCharged, Owes, ZcoOutcome, nothing}
use Rattle.law_steps.specs.Charged.{object_release, of_account, of_object, ticket_release, ticket_under, whole_charge}
use Rattle.law_steps.specs.Fresh.{AreFresh}
use Rattle.sdr_model.specs.Accounts.{is_same_account, pending_in, tickets_of}
use Rattle.sdr_model.specs.declared.accounts.Pending.{Pending}
use Rattle.sdr_model.specs.Amounts.{amounts_by, first_above, minus}
use Rattle.sdr_model.specs.Blocks.{addresses_of, blocks_of}
use Rattle.sdr_model.specs.BondSteps as bond
use Rattle.sdr_model.specs.Charges.{rooms}
use Rattle.sdr_model.specs.Charging.{Charges, grant_left, no_space, with_covered}
use Rattle.sdr_model.specs.Gone.{is_passing, without_things}
use Rattle.std.specs.FinMap as finite
use Rattle.sdr_base.specs.declared.moves.Move.TheVariants.{Took}
use Rattle.sdr_base.specs.declared.refusal.Refusal.TheVariants as refusals
use Rattle.sdr_model.specs.Queue.{barrier}
use Rattle.sdr_model.specs.SourceSteps as source
use Rattle.sdr_model.specs.Step.{is_answer}
use Rattle.sdr_model.specs.Steps.{Outcome, Refuses, TakesOne, with_thing, without_thing}
use Rattle.sdr_model.specs.Valid.{AreInside, HasSubject}
use Rattle.sdr_model.specs.World.{World, thing_at}
use Rattle.sdr_model.specs.Zco.{is_of_raw, object_at, source_naming}
use Rattle.sdr_model.specs.declared.answer.Reply.{Reply}
use Rattle.sdr_model.specs.declared.call.Call.{Call}
use Rattle.sdr_model.specs.declared.things.Thing.{Thing}
use Rattle.sdr_model.specs.declared.things.Thing.TheVariants as things
use Rattle.sdr_model.specs.declared.zco.Capsule.{Capsule}
use Rattle.sdr_model.specs.declared.zco.Subject.TheVariants as subjects
use Rattle.sdr_model.specs.declared.zco.ZcoObject.{ZcoObject}
use Rattle.sdr_model.specs.declared.zco.ZcoSource.{ZcoSource}

-- such outcomes are those of sources, objects, accounts and tickets
pub record Comes (w : World) (call : Call) (R : Outcome → Type 0) : Type 0 where
  pub comes : (o : Outcome) → R o → ZcoOutcome w call o

-- nothing, of any account
pub of_nothing : (acct b : Acct) (space : Space) → of_account acct nothing b space ≡ 0
of_nothing acct b space = by (is_same_account b acct)
  where
    by : (t : Bool) → (if t then nothing space else nothing space) ≡ 0
    by true = refl
    by false = refl

-- what a call owes that charges nothing, and one that charges or releases
pub owes_none : {w : World} {call : Call} {acct : Acct} → ((b : Acct) (space : Space) → whole_charge w call b space ≡ 0)
    → ((b : Acct) (space : Space) → object_release w call b space ≡ 0)
    → ((b : Acct) (space : Space) → ticket_release w call b space ≡ 0) → Owes w call acct nothing nothing nothing
owes_none {acct = acct} charge release ticket = record {
  charge = λ b space. charge b space ∙ sym (of_nothing acct b space);
  release = λ b space. release b space ∙ sym (of_nothing acct b space);
  ticket = λ b space. ticket b space ∙ sym (of_nothing acct b space);
}

pub owes_charge : {w : World} {call : Call} {acct : Acct} {adds : Space → ℕ}
    → ((b : Acct) (space : Space) → whole_charge w call b space ≡ of_account acct adds b space)
    → ((b : Acct) (space : Space) → object_release w call b space ≡ 0)
    → ((b : Acct) (space : Space) → ticket_release w call b space ≡ 0) → Owes w call acct adds nothing nothing
owes_charge {acct = acct} charge release ticket = record {
  charge = charge;
  release = λ b space. release b space ∙ sym (of_nothing acct b space);
  ticket = λ b space. ticket b space ∙ sym (of_nothing acct b space);
}

pub owes_release : {w : World} {call : Call} {acct : Acct} {frees : Space → ℕ}
    → ((b : Acct) (space : Space) → whole_charge w call b space ≡ 0)
    → ((b : Acct) (space : Space) → object_release w call b space ≡ of_account acct frees b space)
    → ((b : Acct) (space : Space) → ticket_release w call b space ≡ 0) → Owes w call acct nothing frees nothing
owes_release {acct = acct} charge release ticket = record {
  charge = λ b space. charge b space ∙ sym (of_nothing acct b space);
  release = release;
  ticket = λ b space. ticket b space ∙ sym (of_nothing acct b space);
}

-- what is of an object that is there
pub object_owes : (w : World) (addr : ℕ) (z : ZcoObject) (f : ZcoObject → Space → ℕ) → object_at w addr ≡ Some z
    → (b : Acct) (space : Space) → of_object (object_at w addr) f b space ≡ of_account z.account (f z) b space
object_owes w addr z f was b space = ap (λ o. of_object o f b space) was

-- a charge leaves the things
pub used_things : {w used : World} {acct : Acct} {number : ℕ} {adds : Space → ℕ}
    → IsCharged w acct number adds used → used.things ≡ w.things
used_things {w} {adds = adds} c = ap (λ (v : World). v.things) c.used_is ∙ same c.pending
  where
    same : (p : Option Pending) → (with_covered w p (amounts_by adds)).things ≡ w.things
    same None = refl
    same (Some p) = refl

-- a fresh block's address
fresh_one : (w : World) (o : Outcome) (need addr : ℕ) → o.moves ≡ Took need addr ∷ [] → IsFresh w o
    → thing_at w addr ≡ None
fresh_one w o need addr moves fresh =
    none_there w addr (subst (λ ms. AreFresh (addresses_of (blocks_of w)) ms) moves fresh).1

module _ {w : World} {call : Call} where
  pub refused : {refusal : Refusal} → Comes w call (λ o. Refuses w o refusal)
  refused = record { comes = λ o h. ZcoOutcome.refuses (ap is_answer h.2) h.1 }

  pub asked : {P Q : Outcome → Type 0} (b : Bool) → (b ≡ true → Comes w call P) → (b ≡ false → Comes w call Q)
      → Comes w call (λ o. MatchBool b (P o) (Q o))
  asked true p q = p refl
  asked false p q = q refl

  pub tested : {P Q : Outcome → Type 0} (b : Bool) → Comes w call P → Comes w call Q
      → Comes w call (λ o. MatchBool b (P o) (Q o))
  tested true p q = p
  tested false p q = q

  pub found : {X : Type 0} {P : Outcome → Type 0} {Q : X → Outcome → Type 0} (x : Option X)
      → (x ≡ None → Comes w call P)
      → ((v : X) → x ≡ Some v → Comes w call (Q v)) → Comes w call (λ o. MatchOption x (P o) (λ v. Q v o))
  found None p q = p refl
  found (Some v) p q = q v refl

  pub charging : (goes : World → Outcome → Type 0) (acct : Acct) (number : ℕ) (charge : Space → ℕ)
      → ((used : World) → IsCharged w acct number charge used → Comes w call (goes used))
      → Comes w call (λ o. Charges w o acct number charge (λ used. goes used o))
  charging goes acct number charge f =
      asked (number == 0)
      (λ zero. space None tt (sym (ap (λ b. if b then None else pending_in w.accounts acct number) zero)))
      (λ some. found (pending_in w.accounts acct number) (λ none. refused)
      (λ p is. asked p.ticket.granted
      (λ granted. space (Some p) (is, granted)
      (sym (ap (λ b. if b then None else pending_in w.accounts acct number) some ∙ is))) (λ waits. refused)))
    where
      space : (p : Option Pending)
          → IfSome p (λ p. (pending_in w.accounts acct number ≡ Some p) × (p.ticket.granted ≡ true))
          → p ≡ ticket_under w.accounts acct number → Comes w call (λ o.
          let uncovered = minus (amounts_by charge) (grant_left p) in
          MatchOption (barrier uncovered (tickets_of w.accounts acct))
          (MatchOption (first_above uncovered (rooms w acct))
          (goes (with_covered w p (amounts_by charge)) o)
          (λ space. Refuses w o (no_space w acct uncovered space)))
          (λ t. Refuses w o (refusals.Queue t.number)))
      space p there under =
          let uncovered = minus (amounts_by charge) (grant_left p) in
          found (barrier uncovered (tickets_of w.accounts acct))
          (λ free. found (first_above uncovered (rooms w acct))
          (λ room. f (with_covered w p (amounts_by charge)) (record {
            pending = p;
            under = under;
            there = there;
            free = free;
            room = room;
            used_is = refl;
          }))
          (λ space is. refused)) (λ t is. refused)

  -- one block is taken
  pub takes : {need : ℕ} {next : ℕ → World} {reply : ℕ → Reply}
      → ((o : Outcome) (a : ℕ) → (IsFresh w o → thing_at w a ≡ None) → o.after ≡ next a → ZcoOutcome w call o)
      → Comes w call (λ o. TakesOne o.moves need (λ a. (o.after ≡ next a) × (o.reply ≡ reply a)))
  takes {need} f = record {
    comes = λ o h. in_takes_one o.moves need _ h (λ a moves did. f o a (fresh_one w o need a moves) did.0);
  }

  pub told : {moves : List Move} {next : World} {reply : Reply} → ((o : Outcome) → o.after ≡ next → ZcoOutcome w call o)
      → Comes w call (λ o. (o.moves ≡ moves) × (o.after ≡ next) × (o.reply ≡ reply))
  told f = record { comes = λ o h. f o h.1 }

  -- a source is made
  pub makes_source : {need : ℕ} {reply : ℕ → Reply} → Owes w call accts.Inbound nothing nothing nothing
      → (source : ZcoSource) → is_passing source ≡ false
      → HasSubject w source.length source.subject
      → ((raw : ℕ) → is_of_raw raw source.subject ≡ true → source_naming w raw ≡ None)
      → Comes w call (λ o. TakesOne o.moves need
      (λ a. (o.after ≡ record (with_thing w a (things.Source source)) { marks = w.marks ++ a ∷ []; shown = [] }) ×
      (o.reply ≡ reply a)))
  makes_source owes source stays subject alone = takes (λ o a fresh after. ZcoOutcome.makes_source owes (record {
    addr = a;
    source = source;
    fresh = fresh;
    stays = stays;
    subject = subject;
    alone = alone;
    things = ap (λ (v : World). v.things) after;
  }) (ap (λ (v : World). v.accounts) after))

-- a new object that was charged
pub charged_things : {w used : World} {acct : Acct} {number : ℕ} {adds : Space → ℕ} (addr : ℕ) (thing : Thing)
    → IsCharged w acct number adds used → finite.insert used.things addr thing ≡ finite.insert w.things addr thing
charged_things addr thing c = ap (λ m. finite.insert m addr thing) (used_things c)

-- a range that isn't refused
pub in_range : (offset bytes have : ℕ) → (bytes == 0 || nat_lt have (offset + bytes)) ≡ false
    → (1 ≤ bytes) × (offset + bytes ≤ have)
in_range offset bytes have h = (grind (arith, nat_tests), grind (arith, nat_tests))

-- the first of the blocks that are taken
pub first_fresh : (w : World) (o : Outcome) (need addr : ℕ) (rest : List Move) → o.moves ≡ Took need addr ∷ rest
    → IsFresh w o → thing_at w addr ≡ None
first_fresh w o need addr rest moves fresh =
    none_there w addr (subst (λ ms. AreFresh (addresses_of (blocks_of w)) ms) moves fresh).1

-- the extents of an object that is there lie inside their sources, where all do
pub object_inside : (w : World) (addr : ℕ) (z : ZcoObject) → object_at w addr ≡ Some z
    → ((a : ℕ) → IfSome (thing_at w a) (AreInside w)) → AreInside w (things.Object z)
object_inside w addr z was all =
    subst (λ t. IfSome t (AreInside w)) (object_is (thing_at w addr) z was) (all addr)

-- a charge leaves the things beneath what is bonded
pub bonded_things : (w v : World) → v.things ≡ w.things → (at : ℕ → ℕ) (k : ℕ) (cs : List Capsule)
    → (bond.with_bonded v at k cs).things ≡ (bond.with_bonded w at k cs).things
bonded_things w v same at k [] = same
bonded_things w v same at k (c ∷ cs) =
    let s = things.Source (source.new_source (subjects.Heap (at k)) (length c.text)) in
    bonded_things (with_thing (with_thing w (at k) (things.Raw c.text)) (at (k + 1)) s)
    (with_thing (with_thing v (at k) (things.Raw c.text)) (at (k + 1)) s)
    (ap (λ m. finite.insert (finite.insert m (at k) (things.Raw c.text)) (at (k + 1)) s) same) at (k + 3) cs

-- the accounts stay beneath what is bonded
pub bonded_accounts : (w : World) (at : ℕ → ℕ) (k : ℕ) (cs : List Capsule)
    → (bond.with_bonded w at k cs).accounts ≡ w.accounts
bonded_accounts w at k [] = refl
bonded_accounts w at k (c ∷ cs) =
    bonded_accounts (with_thing (with_thing w (at k) (things.Raw c.text)) (at (k + 1))
    (things.Source (source.new_source (subjects.Heap (at k)) (length c.text)))) at (k + 3) cs

-- the accounts stay where things go
pub gone_accounts : (w : World) (addrs : List ℕ) → (without_things w addrs).accounts ≡ w.accounts
gone_accounts w [] = refl
gone_accounts w (addr ∷ addrs) = gone_accounts (without_thing w addr) addrs
