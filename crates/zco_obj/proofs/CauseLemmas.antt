-- A charge is refused for one of four causes, and for no other.
use Rattle.std.proofs.Common.{◌≡◌, ℕ, List, true, false, subst}
use Rattle.std.specs.Prelude.{◌==◌, Option, None, Some, find, if◌then◌else◌}
use Rattle.std.specs.Option.{option_map, option_or}
use Rattle.sdr_base.specs.Objects.{Heap}
use Rattle.sdr_base.specs.declared.account.Acct.{Acct}
use Rattle.sdr_base.specs.declared.account.Amounts.{Amounts}
use Rattle.sdr_base.specs.declared.refusal.Refusal.{Refusal}
use Rattle.sdr_base.specs.declared.refusal.Refusal.TheVariants as refusals
use Rattle.sdr_model.specs.Amounts.{first_above, minus}
use Rattle.sdr_model.specs.Queue.{barrier}
use Rattle.sdr_model.specs.declared.accounts.Ticket.{Ticket}
use Rattle.zco_acct.specs.Kept.{SomeQueue}
use Rattle.zco_acct.specs.Refusals.{Refuses, charge_refusal, no_space, ticket_refusal, uncovered_by, unusable}
use Rattle.zco_acct.specs.Walks.{has_number}
use Rattle.zco_obj.specs.Charging.{ObjectRefuses, refusal_in}
use Rattle.zco_obj.specs.Kept.{SomeWithQueue}

-- the causes
abbrev pub IsCause : Refusal → Type 0
IsCause (refusals.BadTicket ticket) = Unit {0}
IsCause (refusals.NotAwarded ticket) = Unit {0}
IsCause (refusals.Queue ticket) = Unit {0}
IsCause (refusals.NoSpace space occupied asked most) = Unit {0}
IsCause refusal = ⊥

abbrev Causes : Option Refusal → Type 0
Causes None = Unit {0}
Causes (Some refusal) = IsCause refusal

causes_or : (a b : Option Refusal) → Causes a → Causes b → Causes (option_or a b)
causes_or None b p q = q
causes_or (Some r) b p q = p

causes_map : {X : Type 0} (f : X → Refusal) → ((x : X) → IsCause (f x)) → (o : Option X) → Causes (option_map f o)
causes_map f all None = tt
causes_map f all (Some x) = all x

causes_unusable : (number : ℕ) (o : Option Ticket) → Causes (unusable number o)
causes_unusable number None = tt
causes_unusable number (Some t) =
    elim t.granted as (λ v. Causes (if v then None else Some (refusals.NotAwarded number))) [
      | true ↦ tt
      | false ↦ tt
    ]

causes_ticket : (tickets : List Ticket) (number : ℕ) → Causes (ticket_refusal tickets number)
causes_ticket tickets number =
    elim (number == 0) as (λ v. Causes (if v then None else unusable number (find (has_number number) tickets))) [
      | true ↦ tt
      | false ↦ causes_unusable number (find (has_number number) tickets)
    ]

causes_charge : (tickets : List Ticket) (number : ℕ) (amounts occupied maxima : Amounts) →
    Causes (charge_refusal tickets number amounts occupied maxima)
causes_charge tickets number amounts occupied maxima =
    let left = uncovered_by tickets number amounts in
    causes_or (ticket_refusal tickets number) _ (causes_ticket tickets number)
    (causes_or (option_map (λ (t : Ticket). refusals.Queue t.number) (barrier left tickets)) _
    (causes_map (λ (t : Ticket). refusals.Queue t.number) (λ t. tt) (barrier left tickets))
    (causes_map (no_space occupied left maxima) (λ s. tt) (first_above left (minus maxima occupied))))

-- so a refusal that an account has cause for is one of these
pub is_cause : (heap : Heap) (acct : Acct) (number : ℕ) (amounts : Amounts) (tickets : List Ticket) (refusal : Refusal) →
    refusal_in heap acct number amounts tickets ≡ Some refusal → IsCause refusal
is_cause heap acct number amounts tickets refusal e = subst Causes e (causes_charge tickets number amounts _ _)

pub queue_cause : {heap : Heap} {acct : Acct} (number : ℕ) (amounts : Amounts) {refusal : Refusal} → SomeQueue heap acct →
    Refuses heap acct (refusal_in heap acct number amounts) refusal → IsCause refusal
queue_cause {heap} {acct} number amounts {refusal} q r =
    is_cause heap acct number amounts q.tickets refusal (r.some q.tickets q.keeps)

pub object_cause : {object : ℕ} (number : ℕ) (amounts : Acct → Amounts) {heap : Heap} {refusal : Refusal} → SomeWithQueue heap object →
    ObjectRefuses object number amounts heap refusal → IsCause refusal
object_cause number amounts {heap} {refusal} q r =
    is_cause heap q.row.account number (amounts q.row.account) q.tickets refusal (r.refuses q.row q.tickets q.keeps)
