-- An account is charged, and then a thing is changed.
use Rattle.std.proofs.Common.{◌≡◌, ◌≢◌, ◌+◌, ◌-◌, ◌<◌, ◌^◌, ℕ, List, [], ◌∷◌, ◌++◌, length, true, false, cond, eqb, refl, sym, ap, ◌∙◌, arith, subst, append_assoc, append-nil}
use Rattle.std.specs.Prelude.{◌==◌, None, Some, if◌then◌else◌}
use Rattle.sdr_base.specs.Entries.{Changes, Entries, BlocksAre, times}
use Rattle.sdr_base.specs.Linked.{linked}
use Rattle.sdr_base.specs.Making.{Made, with_moves}
use Rattle.sdr_base.specs.Objects.{Heap, IsUnmoved, OnlyShort, TookNoMore}
use Rattle.sdr_base.specs.ZcoObjects.{ObjectRow, object_entries}
use Rattle.sdr_base.specs.declared.account.Acct.{Acct}
use Rattle.sdr_base.specs.declared.account.Amounts.{Amounts}
use Rattle.sdr_base.specs.declared.moves.Move.{Move}
use Rattle.sdr_base.specs.declared.moves.Move.TheVariants.{Short, Took}
use Rattle.sdr_base.specs.declared.refusal.Refusal.TheVariants as refusals
use Rattle.sdr_base.specs.declared.stop.Stop.{Stop}
use Rattle.sdr_base.specs.declared.stop.Stop.TheVariants.{Refused, DiskFault, MediaFault, Failed}
use Rattle.sdr_base.proofs.StandingLemmas.{at-nowhere, moved, moved_back, nowhere-at, times-append}
use Rattle.sdr_model.specs.Amounts.{minus}
use Rattle.sdr_model.specs.declared.accounts.Ticket.{Ticket}
use Rattle.zco_acct.specs.Charges.{ChargesAccount, ChargeStops, charged, tickets_covered}
use Rattle.zco_acct.specs.Kept.{KeepsQueue, SomeQueue, block_of, queue_entries, queued_block}
use Rattle.zco_obj.specs.Charging.{ChargesObject, IsFree, LacksRoom, ObjectChargeStops, Pays, refusal_in}
use Rattle.zco_obj.specs.Kept.{KeepsObject, KeepsWithQueue, SomeObject, SomeWithQueue}
use Rattle.zco_obj.specs.Reading.{Tells}

-- the queue and the object of an object that is kept with its queue
module _ {heap : Heap} {object : ℕ} {row : ObjectRow} {tickets : List Ticket} (k : KeepsWithQueue heap object row tickets) where
  pub queue_of : KeepsQueue heap row.account tickets
  queue_of = record {
    rest = object_entries object row ++ k.rest;
    stands = moved (object_entries object row) (queue_entries row.account tickets) k.rest k.stands;
    first = k.first;
    last = k.last;
    fits = k.tickets_fit;
  }

  pub object_of : KeepsObject heap.blocks object row
  object_of = record { rest = queue_entries row.account tickets ++ k.rest; stands = k.stands; fits = k.fits }

pub some_object : {heap : Heap} {object : ℕ} → SomeWithQueue heap object → SomeObject heap.blocks object
some_object q = record { row = q.row; keeps = object_of q.keeps }

pub some_queue : {heap : Heap} {object : ℕ} {acct : Acct} → SomeWithQueue heap object →
    Tells heap.blocks object (λ row. row.account) acct → SomeQueue heap acct
some_queue {heap} q t =
    subst (SomeQueue heap) (sym (t.tells q.row (object_of q.keeps))) (record { tickets = q.tickets; keeps = queue_of q.keeps })

-- the account of an object was charged
pub charges_object : {object number : ℕ} {acct : Acct} (amounts : Acct → Amounts) {old new : Heap} →
    Tells old.blocks object (λ row. row.account) acct → ChargesAccount acct number (amounts acct) old new →
    ChargesObject object number amounts old new
charges_object {object} {number} {acct} amounts {old} {new} t c = record {
  charges = λ row tickets k. subst (λ (a : Acct). ChargesAccount a number (amounts a) old new) (t.tells row (object_of k)) c;
}

-- or why not
pub charge_stops : (object number : ℕ) (acct : Acct) (amounts : Acct → Amounts) (old new : Heap) (stop : Stop) →
    Tells old.blocks object (λ row. row.account) acct → ChargeStops acct number (amounts acct) old new stop →
    ObjectChargeStops object number amounts old new stop
charge_stops object number acct amounts old new (Refused (refusals.LogFull lines room)) t s = (
  record {
    allows = λ row tickets k.
        let q = subst (λ (a : Acct). KeepsQueue old a tickets) (sym (t.tells row (object_of k))) (queue_of k) in
        subst (λ (a : Acct). refusal_in old a number (amounts a) tickets ≡ None) (t.tells row (object_of k)) (s.0.none tickets q);
  },
  s.1,
)
charge_stops object number acct amounts old new (Refused refusal) t s = (
  record {
    refuses = λ row tickets k.
        let q = subst (λ (a : Acct). KeepsQueue old a tickets) (sym (t.tells row (object_of k))) (queue_of k) in
        subst (λ (a : Acct). refusal_in old a number (amounts a) tickets ≡ Some refusal) (t.tells row (object_of k)) (s.0.some tickets q);
  },
  s.1,
)
charge_stops object number acct amounts old new DiskFault t s = s
charge_stops object number acct amounts old new MediaFault t s = s
charge_stops object number acct amounts old new Failed t s = s

-- the tickets stand where they stood
times-used : (q : ℕ) (acct : Acct) (number : ℕ) (amounts : Amounts) (p p' : ℕ) (tickets : List Ticket) →
    times q (linked block_of (queued_block acct) p 0 (tickets_covered number amounts tickets))
    ≡ times q (linked block_of (queued_block acct) p' 0 tickets)
unfolding times linked tickets_covered
times-used q acct number amounts p p' [] = refl
times-used q acct number amounts p p' (t ∷ ts) =
    elim (t.number == number) as (λ v. times q (linked block_of (queued_block acct) p 0
    (if v then record t { left = minus t.left amounts } ∷ ts else t ∷ tickets_covered number amounts ts))
    ≡ cond (eqb t.block q) 1 0 + times q (linked block_of (queued_block acct) t.block 0 ts)) [
      | true ↦ refl
      | false ↦ ap (λ n. cond (eqb t.block q) 1 0 + n) (times-used q acct number amounts t.block t.block ts)
    ]

times-charged : (q : ℕ) (acct : Acct) (number : ℕ) (amounts : Amounts) (tickets : List Ticket) →
    times q (queue_entries acct (charged tickets number amounts)) ≡ times q (queue_entries acct tickets)
times-charged q acct number amounts tickets =
    elim (number == 0) as (λ v. times q
    (queue_entries acct (if v then tickets else tickets_covered number amounts tickets))
    ≡ times q (queue_entries acct tickets)) [
      | true ↦ refl
      | false ↦ times-used q acct number amounts 0 0 tickets
    ]

module _ {acct : Acct} {number : ℕ} {amounts : Amounts} {old mid : Heap} (c : ChargesAccount acct number amounts old mid)
    {tickets : List Ticket} (k : KeepsQueue old acct tickets) where
  -- where nothing stands now, nothing stood before
  pub free_before : {addr : ℕ} → addr ≢ 0 → addr < 2 ^ 32 → mid.blocks addr ≡ None → IsFree old.blocks addr
  free_before {addr} nz small e =
      let Q = queue_entries acct tickets in
      let Q' = queue_entries acct (charged tickets number amounts) in
      let s = (c.changes tickets k).kept k.rest k.stands in
      let none = nowhere-at addr (Q' ++ k.rest) (sym (s.same addr) ∙ e) in
      let a = times-append addr Q' k.rest in
      let b = times-append addr Q k.rest in
      let same = times-charged addr acct number amounts tickets in
      record {
        nonzero = nz;
        small = small;
        free = k.stands.same addr ∙ at-nowhere addr (Q ++ k.rest) (omega (arith, none, a, b, same));
      }

  -- beside the queue and what is occupied all is as before
  pub charged_moves : mid.moves ≡ old.moves
  charged_moves = ap (λ (h : Heap). h.moves) (c.others tickets k)

  pub charged_spare : mid.spare ≡ old.spare
  charged_spare = ap (λ (h : Heap). h.spare) (c.others tickets k)

  -- what else stood stands
  pub stands_still : (es rest : Entries) → BlocksAre old.blocks (es ++ (queue_entries acct tickets ++ rest)) →
      BlocksAre mid.blocks (es ++ (queue_entries acct (charged tickets number amounts) ++ rest))
  stands_still es rest s =
      moved_back es (queue_entries acct (charged tickets number amounts)) rest
      ((c.changes tickets k).kept (es ++ rest) (moved es (queue_entries acct tickets) rest s))

  -- a change after the charge
  pub pays : {moves : List Move} {es es' : Entries} {new : Heap} → Changes mid.blocks new.blocks es es' → Made moves mid new →
      Pays acct number amounts tickets moves es es' old new
  pays {moves} {es} {es'} {new} d m = record {
    allowed = c.allows.none tickets k;
    changes = record {
      kept = λ rest s.
          let Q = queue_entries acct tickets in
          let Q' = queue_entries acct (charged tickets number amounts) in
          subst (λ (xs : Entries). BlocksAre new.blocks xs) (sym (append_assoc es' Q' rest))
          (d.kept (Q' ++ rest)
          (stands_still es rest (subst (λ (xs : Entries). BlocksAre old.blocks xs) (append_assoc es Q rest) s)));
    };
    others = m.all ∙ ap (λ (h : Heap). with_moves h moves) (c.others tickets k);
  }

-- an object is kept once its account was charged
pub still_kept : {object number : ℕ} {amounts : Acct → Amounts} {old mid : Heap} → ChargesObject object number amounts old mid →
    {row : ObjectRow} {tickets : List Ticket} → KeepsWithQueue old object row tickets → KeepsObject mid.blocks object row
still_kept {object} c {row} {tickets} k = record {
  rest = _;
  stands = stands_still (c.charges row tickets k) (queue_of k) (object_entries object row) k.rest k.stands;
  fits = k.fits;
}

-- no move was made
pub none_took : {old new : Heap} (need : ℕ) → IsUnmoved old new → TookNoMore need old new
none_took {old} need u = record {
  addr = 0;
  made = [];
  first = record { rest = Took need 0 ∷ []; whole = refl };
  moves = u.moves ∙ sym (append-nil old.moves);
  spare = let e = u.spare in omega (arith, e);
}

-- why there is no block after a charge
pub lacks_after : (need : ℕ) (old mid new : Heap) (stop : Stop) → mid.moves ≡ old.moves → mid.spare ≡ old.spare →
    OnlyShort need mid new stop → LacksRoom need old new stop
lacks_after need old mid new (Refused (refusals.NoBlock missing)) m p s = record {
  is = s.0;
  moves = ap (λ (h : Heap). h.moves) s.1 ∙ ap (λ (l : List Move). l ++ (Short need ∷ [])) m;
  spare = ap (λ (h : Heap). h.spare) s.1 ∙ ap (λ (n : ℕ). n - 1) p;
}
lacks_after need old mid new (Refused (refusals.LogFull lines room)) m p s = record {
  addr = s.addr;
  made = s.made;
  first = s.first;
  moves = s.moves ∙ ap (λ (l : List Move). l ++ s.made) m;
  spare = s.spare ∙ ap (λ (n : ℕ). n - length s.made) p;
}
lacks_after need old mid new (Refused refusal) m p s = absurd s
lacks_after need old mid new DiskFault m p s = s
lacks_after need old mid new MediaFault m p s = s
lacks_after need old mid new Failed m p s = s
