-- What a call on an object leaves that its row answers, and how many lines an append may touch by what it asks.
use Rattle.std.proofs.Common.{◌≡◌, ◌∙◌, ◌≤◌, ◌+◌, ℕ, List, [], true, true≢false, length, refl, sym, ap, arith}
use Rattle.std.specs.Option.{option_map_or}
use Rattle.std.specs.Prelude.{Option, None, Some, is_some, if◌then◌else◌}
use Rattle.sdr_base.specs.declared.moves.Move.{Move}
use Rattle.sdr_base.specs.declared.refusal.Refusal.{Refusal}
use Rattle.sdr_machine.specs.Demand.{Demand, bytes_taken, bytes_written, demand_after, most_lines}
use Rattle.sdr_model.specs.Gone.{gone_things, without_things}
use Rattle.sdr_model.specs.ObjectSteps as object
use Rattle.sdr_model.specs.Queue.{with_served}
use Rattle.sdr_model.specs.RowMoves.{append_moves}
use Rattle.sdr_model.specs.Step.{is_answer}
use Rattle.sdr_model.specs.Steps.{Does, On, Outcome, Refuses, gave, without_thing}
use Rattle.sdr_model.specs.World.{World}
use Rattle.sdr_model.specs.Zco.{object_at}
use Rattle.sdr_model.specs.declared.answer.Reply.TheVariants as replies
use Rattle.sdr_model.specs.declared.call.Call.{Call}
use Rattle.sdr_model.specs.declared.zco.Capsule.{Capsule}
use Rattle.sdr_model.specs.declared.zco.ZcoObject.{ZcoObject}
use Rattle.sdr_model.specs.declared.zco.ZcoSource.{ZcoSource}
use Rattle.step_zco.specs.ObjectAnswering.{left_with, left_without}

-- what is refused is no answer
unrefused : {w : World} {o : Outcome} {refusal : Refusal} → Refuses w o refusal → is_answer o.reply ≡ true → ⊥
unrefused r answered = let no = sym (ap is_answer r.2) ∙ answered in true≢false (sym no)

-- a header or trailer went
pub record HasLost (w : World) (addr : ℕ) (without : ZcoObject → ZcoObject) (o : Outcome) : Type 0 where
  pub one : length o.moves ≡ 1
  pub after : o.after ≡ record (left_with w addr without) { shown = [] }

pub has_lost : (w : World) (addr : ℕ) (pick : ZcoObject → Option Capsule) (without : ZcoObject → ZcoObject) (o : Outcome) →
    On w o addr (object_at w addr) (λ z. object.Discards w o addr z (pick z) (without z)) → is_answer o.reply ≡ true →
    HasLost w addr without o
has_lost w addr pick without o row answered = by (object_at w addr) refl row
  where
    left : Option ZcoObject → World
    left x = option_map_or (λ z. with_served (object.with_object w addr (without z)) z.account) x w

    picked : (z : ZcoObject) → object_at w addr ≡ Some z → (c : Option Capsule) → object.Discards w o addr z c (without z) →
        HasLost w addr without o
    picked z is None row = absurd (unrefused row answered)
    picked z is (Some c) row = record {
      one = ap (λ (ms : List Move). length ms) row.0;
      after = row.1 ∙ ap (λ (x : Option ZcoObject). record (left x) { shown = [] }) (sym is);
    }

    by : (x : Option ZcoObject) → object_at w addr ≡ x →
        On w o addr x (λ z. object.Discards w o addr z (pick z) (without z)) → HasLost w addr without o
    by None is row = absurd (unrefused row answered)
    by (Some z) is row = picked z is (pick z) row

-- an object went
pub has_gone : (w : World) (addr : ℕ) (o : Outcome) → object.Destroy w o addr → is_answer o.reply ≡ true →
    o.after ≡ record (left_without w addr) { shown = [] }
has_gone w addr o row answered = by (object_at w addr) refl row
  where
    left : Option ZcoObject → World
    left x =
        option_map_or
        (λ z. with_served (without_thing (without_things w (gone_things w z.extents z.extents)) addr) z.account) x w

    by : (x : Option ZcoObject) → object_at w addr ≡ x →
        On w o addr x (λ z. Does o (gave (object.destroy_blocks w addr z))
        (with_served (without_thing (without_things w (gone_things w z.extents z.extents)) addr) z.account) replies.Done) →
        o.after ≡ record (left_without w addr) { shown = [] }
    by None is row = absurd (unrefused row answered)
    by (Some z) is row = row.1 ∙ ap (λ (x : Option ZcoObject). record (left x) { shown = [] }) (sym is)

-- one block or two were taken for an extent
pub append_enough : (d : Demand) (w : World) (call : Call) (o : Outcome) (named : Option ZcoSource) (at : ℕ → ℕ) →
    bytes_written call ≡ 0 → o.moves ≡ append_moves named at →
    most_lines d + (if is_some named then 42 else 73) ≤ most_lines (demand_after d w call o)
append_enough d w call o None at none moves =
    let two : length o.moves ≡ 2 = ap (λ (ms : List Move). length ms) moves in
    let need : bytes_taken o.moves ≡ 80 = ap bytes_taken moves in omega (arith, two, need, none)
append_enough d w call o (Some source) at none moves =
    let one : length o.moves ≡ 1 = ap (λ (ms : List Move). length ms) moves in
    let need : bytes_taken o.moves ≡ 32 = ap bytes_taken moves in omega (arith, one, need, none)
