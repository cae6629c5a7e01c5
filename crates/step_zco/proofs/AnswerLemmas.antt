-- What a call on accounts and tickets leaves that its row answers.
use Rattle.std.proofs.Common.{◌≡◌, ◌∙◌, ◌==◌, ◌++◌, ℕ, List, [], ◌∷◌, Bool, true, false, true≢false, length, nat_lt, refl, sym, ap}
use Rattle.std.specs.Option.{option_map_or}
use Rattle.std.specs.Prelude.{Option, None, Some}
use Rattle.sdr_base.specs.declared.account.Acct.{Acct}
use Rattle.sdr_base.specs.declared.account.Amounts.{Amounts}
use Rattle.sdr_base.specs.declared.kind.Space.{Space}
use Rattle.sdr_base.specs.declared.moves.Move.{Move}
use Rattle.sdr_base.specs.declared.moves.Move.TheVariants.{Took}
use Rattle.sdr_base.specs.declared.refusal.Refusal.{Refusal}
use Rattle.sdr_base.specs.declared.refusal.Refusal.TheVariants as refusals
use Rattle.sdr_model.specs.AccountSteps.{Request, Shred, is_granted, new_ticket, pending_of, with_request, without_ticket}
use Rattle.sdr_model.specs.Accounts.{account_of, most_amount, pending_in, ticket_need}
use Rattle.sdr_model.specs.Amounts.{amount, first_above}
use Rattle.sdr_model.specs.Rows.{ByRow}
use Rattle.sdr_model.specs.Step.{is_answer}
use Rattle.sdr_model.specs.Steps.{Does, Outcome, RefusedFor, RefusedIf, RefusedWithout, Refuses, Takes, TakesOne, gave}
use Rattle.sdr_model.specs.World.{World}
use Rattle.sdr_model.specs.declared.accounts.Pending.{Pending}
use Rattle.sdr_model.specs.declared.answer.Reply.TheVariants as replies
use Rattle.sdr_model.specs.declared.call.Call.TheVariants as calls
use Rattle.step_zco.specs.AccountAnswering.{world_granted}

-- what is refused is no answer
unrefused : {w : World} {o : Outcome} {refusal : Refusal} → Refuses w o refusal → is_answer o.reply ≡ true → ⊥
unrefused r answered = let no = sym (ap is_answer r.2) ∙ answered in true≢false (sym no)

-- a maximum was set
pub has_set : (w : World) (acct : Acct) (space : Space) (value : ℕ) (o : Outcome) →
    ByRow w o (calls.SetMaximum acct space value) →
    is_answer o.reply ≡ true → o.after ≡ record (world_granted w (calls.SetMaximum acct space value)) { shown = [] }
has_set w acct space value o row answered = by (nat_lt most_amount value) row
  where
    by : (b : Bool) → RefusedIf w o b (refusals.TooLarge space value most_amount)
        (Does o [] (world_granted w (calls.SetMaximum acct space value)) replies.Done) →
        o.after ≡ record (world_granted w (calls.SetMaximum acct space value)) { shown = [] }
    by true r = absurd (unrefused r answered)
    by false r = r.1

-- the world with a request whose ticket stands at an address
abbrev pub requested_at : World → Acct → Amounts → ℕ → ℕ → ℕ → World
requested_at w acct asked coarse fine addr = with_request w acct (new_ticket w.accounts.next addr asked coarse fine)

-- a ticket was given
pub record HasRequested (w : World) (acct : Acct) (asked : Amounts) (coarse fine : ℕ) (o : Outcome) : Type 0 where
  pub addr : ℕ
  pub one : length o.moves ≡ 1
  pub after : o.after ≡ record (requested_at w acct asked coarse fine addr) { marks = w.marks ++ addr ∷ []; shown = [] }

pub has_requested : (w : World) (acct : Acct) (asked : Amounts) (coarse fine : ℕ) (o : Outcome) →
    Request w o acct asked coarse fine → is_answer o.reply ≡ true → HasRequested w acct asked coarse fine o
has_requested w acct asked coarse fine o row answered =
    by (first_above asked (account_of w.accounts acct).maxima) (w.accounts.next == most_amount) row
  where
    reply_at : ℕ → Bool
    reply_at addr = is_granted (pending_in (requested_at w acct asked coarse fine addr).accounts acct w.accounts.next)

    taken : (ms : List Move) → o.moves ≡ ms → TakesOne ms ticket_need (λ addr.
        (o.after ≡ record (requested_at w acct asked coarse fine addr) { marks = w.marks ++ addr ∷ []; shown = [] })
        × (o.reply ≡ replies.Ticket w.accounts.next (reply_at addr))) →
        HasRequested w acct asked coarse fine o
    taken (Took need addr ∷ []) is t =
        record { addr = addr; one = ap (λ (ms : List Move). length ms) is; after = t.1.0 }
    taken ms is t = absurd t

    by : (f : Option Space) (b : Bool) →
        RefusedFor w o f
        (λ space. refusals.TooLarge space (amount asked space) (amount (account_of w.accounts acct).maxima space))
        (RefusedIf w o b (refusals.BadTicket most_amount)
        (Takes w o ticket_need (requested_at w acct asked coarse fine)
        (λ addr. replies.Ticket w.accounts.next (reply_at addr)))) →
        HasRequested w acct asked coarse fine o
    by (Some space) b r = absurd (unrefused r answered)
    by None true r = absurd (unrefused r answered)
    by None false r = taken o.moves refl r

-- a ticket went
pub record HasShredded (w : World) (number : ℕ) (o : Outcome) : Type 0 where
  pub one : length o.moves ≡ 1
  pub after : o.after ≡ record (world_granted w (calls.Shred number)) { shown = [] }

pub has_shredded : (w : World) (number : ℕ) (o : Outcome) → Shred w o number → is_answer o.reply ≡ true →
    HasShredded w number o
has_shredded w number o row answered = by (pending_of w number) refl row
  where
    by : (p : Option Pending) → pending_of w number ≡ p → RefusedWithout w o p (refusals.BadTicket number)
        (λ p. Does o (gave (p.ticket.block ∷ [])) (without_ticket w p) replies.Done) → HasShredded w number o
    by None is r = absurd (unrefused r answered)
    by (Some p) is r = record {
      one = ap (λ (ms : List Move). length ms) r.0;
      after = r.1 ∙ ap (λ (q : Option Pending). record (option_map_or (without_ticket w) q w) { shown = [] }) (sym is);
    }
