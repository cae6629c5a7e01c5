-- What a heap that stands for a world comes to where an account is charged, or given back, for its objects.
use Rattle.std.proofs.Common.{◌≡◌, ◌∙◌, ◌+◌, ◌++◌, ◌⊎◌, ℕ, List, [], ◌∷◌, false, true, true≢false, inl, inr, refl, sym, ap, arith}
use Rattle.step_things.proofs.RowLemmas.{TakesAim}
use Rattle.step_things.specs.Answering.{IsRefused}
use Rattle.sdr_stands.specs.Standing.{HeapStandsFor, entries_of, with_taken_marked}
use Rattle.sdr_base.specs.Entries.{Changes, Entries}
use Rattle.sdr_base.specs.Objects.{Heap}
use Rattle.sdr_base.specs.declared.account.Acct.{Acct}
use Rattle.sdr_base.specs.declared.account.Amounts.{Amounts}
use Rattle.sdr_base.specs.declared.kind.Space.{Space}
use Rattle.sdr_base.specs.declared.moves.Move.{Move}
use Rattle.sdr_base.specs.declared.moves.Move.TheVariants.{Short, Took}
use Rattle.sdr_base.specs.declared.refusal.Refusal.{Refusal}
use Rattle.sdr_base.specs.declared.refusal.Refusal.TheVariants as refusals
use Rattle.sdr_base.specs.declared.stop.Stop.TheVariants as stops
use Rattle.law_steps.proofs.BarredLemmas.{amount_by, amounts_same}
use Rattle.law_steps.proofs.ChargeLemmas.{things_charge}
use Rattle.law_steps.proofs.ChargeMoves.{MovesCharge}
use Rattle.law_steps.proofs.SourceMoves.{nothing}
use Rattle.sdr_model.proofs.AmountLemmas.{amount-minus}
use Rattle.sdr_model.specs.Accounts.{tickets_of}
use Rattle.sdr_model.specs.Amounts.{amount, amounts_by, minus}
use Rattle.sdr_model.specs.Charges.{left_in, occupancy}
use Rattle.sdr_model.specs.Reading.{is_reading}
use Rattle.sdr_model.specs.Rows.{ByRow}
use Rattle.sdr_model.specs.Step.{Stops, is_answer}
use Rattle.sdr_model.specs.Things.{Things}
use Rattle.sdr_model.specs.World.{World}
use Rattle.sdr_model.specs.declared.answer.Reply.{Reply}
use Rattle.sdr_model.specs.declared.answer.Reply.TheVariants as replies
use Rattle.sdr_model.specs.declared.call.Call.{Call}
use Rattle.zco_acct.specs.Charges.{charged}
use Rattle.zco_acct.specs.Refusals.{charge_refusal}
use Rattle.zco_acct.specs.Words.{occupied_in}
use Rattle.step_zco.proofs.ChargeLemmas.{charged_ends, refusal_of}
use Rattle.step_zco.proofs.MovedLemmas.{moved_stands}
use Rattle.step_zco.proofs.MovingLemmas.{moved}
use Rattle.step_zco.proofs.OccupiedLemmas.{occupied_with}
use Rattle.step_zco.proofs.QueueLemmas.{maxima_are, occupied_is}
use Rattle.zco_obj.proofs.OccupancyLaws.{occupied_charged}
use Rattle.zco_obj.specs.AppendStops.{LacksRooms, LacksSecond}
use Rattle.zco_obj.specs.Charging.{LacksBlock, LacksRoom, Pays, occupied_then, refusal_in}

-- a heap that stands for a world
module _ {heap : Heap} {w : World} (acct : Acct) (s : HeapStandsFor heap w) where
  -- refuses a charge as the world does
  pub same_refusal : (number : ℕ) (charge : Space → ℕ) →
      refusal_in heap acct number (amounts_by charge) (tickets_of w.accounts acct) ≡ refusal_of w acct number charge
  same_refusal number charge = λ i.
      charge_refusal (tickets_of w.accounts acct) number (amounts_by charge) (occupied_is acct s i) (maxima_are acct s i)

  -- what is occupied of a space is what things charge, and what is left of tickets
  occupied_of : (space : Space) →
      amount (occupied_in heap acct) space ≡ things_charge w.things acct space + left_in space (tickets_of w.accounts acct)
  occupied_of space = ap (λ (a : Amounts). amount a space) (occupied_is acct s) ∙ amount_by (occupancy w acct) space

  -- what is occupied once a charge was made is what things charge then
  paid_occupied : (m : Things) (number : ℕ) (charge : Space → ℕ) → MovesCharge w.things m acct charge nothing →
      occupied_then heap acct number (amounts_by charge) (tickets_of w.accounts acct)
      ≡ occupied_with (record w { things = m }) acct (charged (tickets_of w.accounts acct) number (amounts_by charge))
  paid_occupied m number charge moves =
      let ts = tickets_of w.accounts acct in
      let us = charged ts number (amounts_by charge) in
      let u = record w { things = m } in
      amounts_same (occupied_then heap acct number (amounts_by charge) ts) (occupied_with u acct us) (λ space.
      let law = occupied_charged heap acct number (amounts_by charge) ts space (things_charge w.things acct space) (occupied_of space) in
      let now = amount_by (λ space. things_charge m acct space + left_in space us) space in
      let one = amount_by charge space in
      let own = moves.own space in omega (arith, law, now, one, own))

  -- and once one was given back
  pub freed_occupied : (m : Things) (frees : Space → ℕ) → MovesCharge w.things m acct nothing frees →
      minus (occupied_in heap acct) (amounts_by frees)
      ≡ occupied_with (record w { things = m }) acct (tickets_of w.accounts acct)
  freed_occupied m frees moves =
      let ts = tickets_of w.accounts acct in
      let u = record w { things = m } in
      amounts_same (minus (occupied_in heap acct) (amounts_by frees)) (occupied_with u acct ts) (λ space.
      let was = occupied_of space in
      let now = amount_by (λ space. things_charge m acct space + left_in space ts) space in
      let one = amount_by frees space in
      let less = amount-minus (occupied_in heap acct) (amounts_by frees) space in
      let own = moves.own space in omega (arith, was, now, one, less, own))

-- the world after a charge
abbrev pub paid_world : World → Things → Acct → ℕ → (Space → ℕ) → World
paid_world w m acct number charge = moved w m acct (charged (tickets_of w.accounts acct) number (amounts_by charge))

-- a heap that has paid stands for it
pub paid_stands : {old new : Heap} {w : World} (m : Things) (acct : Acct) (number : ℕ) (charge : Space → ℕ) (moves : List Move)
    {es es' : Entries} → HeapStandsFor old w → MovesCharge w.things m acct charge nothing →
    Pays acct number (amounts_by charge) (tickets_of w.accounts acct) moves es es' old new →
    Changes old.blocks new.blocks (entries_of w) (entries_of (paid_world w m acct number charge)) →
    HeapStandsFor new (with_taken_marked (paid_world w m acct number charge) moves)
paid_stands {old} {new} {w} m acct number charge moves s moved_by pays changes =
    let ts = tickets_of w.accounts acct in
    moved_stands w m acct (charged ts number (amounts_by charge)) (occupied_then old acct number (amounts_by charge) ts)
    moved_by.other (paid_occupied acct s m number charge moved_by) (charged_ends number (amounts_by charge) ts) moves s changes
    (ap (λ (h : Heap). h.marks) pays.others) (ap (λ (h : Heap). h.roots) pays.others)

-- a call that has charged and wants a block is stopped, once its row would answer it with the one move that takes it
pub room_refused : (w : World) (call : Call) (need : ℕ) (old new : Heap) (was : List ℕ) (refusal : Refusal) →
    is_reading call ≡ false → TakesAim w call need → old.moves ≡ [] → LacksRoom need old new (stops.Refused refusal) →
    IsRefused w call old new was was refusal
room_refused w call need old new was (refusals.NoBlock missing) changing aim unmoved s = record {
  step = inr (record {
    aim = _;
    row = aim.row;
    answered = aim.answered;
    stopped = record {
      done = [];
      addr = 0;
      rest = [];
      whole = sym (ap (λ (n : ℕ). Took n 0 ∷ []) s.is);
      short = s.moves ∙ ap (λ (ms : List Move). ms ++ Short need ∷ []) unmoved ∙ sym (ap (λ (n : ℕ). Short n ∷ []) s.is);
    };
    same = refl;
  });
  left = λ reads. absurd (true≢false (sym reads ∙ changing));
  gave = refl;
}
room_refused w call need old new was (refusals.LogFull lines room) changing aim unmoved s = record {
  step = (record { to = _; row = aim.row; answered = aim.answered }, changing);
  left = λ reads. absurd (true≢false (sym reads ∙ changing));
  gave = refl;
}
room_refused w call need old new was refusal changing aim unmoved s = absurd s

-- the row of a call would answer it with two moves that take blocks of these needs, wherever they are
pub record TakesTwo (w : World) (call : Call) (first second : ℕ) : Type 0 where
  pub after : ℕ → ℕ → World
  pub reply : Reply
  pub row : (addr next : ℕ) →
      ByRow w (record { moves = Took first addr ∷ Took second next ∷ []; after = after addr next; reply = reply }) call
  pub answered : is_answer reply ≡ true

-- so is one that wants two blocks
pub rooms_refused : (w : World) (call : Call) (first second : ℕ) (old new : Heap) (was : List ℕ) (refusal : Refusal) →
    is_reading call ≡ false → TakesTwo w call first second → old.moves ≡ [] →
    LacksRooms first second old new (stops.Refused refusal) → IsRefused w call old new was was refusal
rooms_refused w call first second old new was (refusals.NoBlock missing) changing aim unmoved s =
    record { step = inr (by s); left = λ reads. absurd (true≢false (sym reads ∙ changing)); gave = refl }
  where
    by : LacksBlock first missing old new ⊎ LacksSecond first second missing old new →
        Stops w (record { moves = new.moves; after = w; reply = replies.Refused (refusals.NoBlock missing) }) call
    by (inl l) = record {
      aim = _;
      row = aim.row 0 0;
      answered = aim.answered;
      stopped = record {
        done = [];
        addr = 0;
        rest = Took second 0 ∷ [];
        whole = sym (ap (λ (n : ℕ). Took n 0 ∷ Took second 0 ∷ []) l.is);
        short = l.moves ∙ ap (λ (ms : List Move). ms ++ Short first ∷ []) unmoved ∙ sym (ap (λ (n : ℕ). Short n ∷ []) l.is);
      };
      same = refl;
    }
    by (inr l) = record {
      aim = _;
      row = aim.row l.addr 0;
      answered = aim.answered;
      stopped = record {
        done = Took first l.addr ∷ [];
        addr = 0;
        rest = [];
        whole = sym (ap (λ (n : ℕ). Took first l.addr ∷ Took n 0 ∷ []) l.is);
        short = l.moves ∙ ap (λ (ms : List Move). ms ++ (Took first l.addr ∷ Short second ∷ [])) unmoved
            ∙ sym (ap (λ (n : ℕ). Took first l.addr ∷ Short n ∷ []) l.is);
      };
      same = refl;
    }
rooms_refused w call first second old new was (refusals.LogFull lines room) changing aim unmoved s = record {
  step = (record { to = _; row = aim.row 0 0; answered = aim.answered }, changing);
  left = λ reads. absurd (true≢false (sym reads ∙ changing));
  gave = refl;
}
rooms_refused w call first second old new was refusal changing aim unmoved s = absurd s
