-- How many lines a call that cuts an object to its part may touch by what it asks.
use Rattle.std.proofs.Common.{◌≡◌, ◌∙◌, ◌≤◌, ◌+◌, ℕ, List, [], true, true≢false, length, refl, sym, ap, arith}
use Rattle.std.proofs.lemmas.List.{length-map}
use Rattle.std.specs.Option.{option_map_or}
use Rattle.std.specs.Prelude.{Option, None, Some}
use Rattle.sdr_base.specs.declared.moves.Move.{Move}
use Rattle.sdr_base.specs.declared.moves.Move.TheVariants.{Gave}
use Rattle.sdr_machine.specs.Demand.{Demand, demand_after, grants_between, most_lines}
use Rattle.sdr_model.specs.Gone.{gone_blocks, gone_things, without_things}
use Rattle.sdr_model.specs.ObjectSteps.{with_object}
use Rattle.sdr_model.specs.PartSteps as part
use Rattle.sdr_model.specs.Queue.{with_served}
use Rattle.sdr_model.specs.RowMoves.{stripped_blocks}
use Rattle.sdr_model.specs.Step.{is_answer}
use Rattle.sdr_model.specs.Steps.{Does, On, Outcome, gave}
use Rattle.sdr_model.specs.World.{World}
use Rattle.sdr_model.specs.Zco.{object_at}
use Rattle.sdr_model.specs.declared.answer.Reply.TheVariants as replies
use Rattle.sdr_model.specs.declared.call.Call.TheVariants as calls
use Rattle.sdr_model.specs.declared.zco.ZcoObject.{ZcoObject}
use Rattle.step_zco_parts.specs.Stripping.{left_cut, strip_lines}

-- what is answered leaves the world in which the object was cut
has_cut : (w : World) (addr : ℕ) (o : Outcome) → part.Strip w o addr → is_answer o.reply ≡ true
    → o.after ≡ record (left_cut w addr) { shown = [] }
has_cut w addr o row answered = by (object_at w addr) refl row
  where
    cut : ZcoObject → World
    cut z =
        let out = part.outside_part z in
        with_served (with_object (without_things w (gone_things w out out)) addr (part.stripped z)) z.account

    by : (x : Option ZcoObject) → object_at w addr ≡ x
        → On w o addr x (λ z.
        Does o (gave (gone_blocks w (part.outside_part z) (part.outside_part z))) (cut z) replies.Done)
        → o.after ≡ record (left_cut w addr) { shown = [] }
    by None is row = absurd (let no = sym (ap is_answer row.2) ∙ answered in true≢false (sym no))
    by (Some z) is row = row.1 ∙ ap (λ (x : Option ZcoObject). record (option_map_or cut x w) { shown = [] }) (sym is)

-- so such a call asks for as many lines as it touches
pub cut_enough : (d : Demand) (w : World) (addr : ℕ) (o : Outcome) → part.Strip w o addr → is_answer o.reply ≡ true
    → o.moves ≡ gave (stripped_blocks w (object_at w addr))
    → most_lines d + strip_lines w addr ≤ most_lines (demand_after d w (calls.Strip addr) o)
cut_enough d w addr o row answered moves =
    let blocks = stripped_blocks w (object_at w addr) in
    let many : length o.moves ≡ length (gave blocks) = ap (λ (ms : List Move). length ms) moves in
    let same = length-map blocks (λ (a : ℕ). Gave a) in
    let grants = ap (grants_between w) (has_cut w addr o row answered) in
    omega (arith, many, same, grants)
