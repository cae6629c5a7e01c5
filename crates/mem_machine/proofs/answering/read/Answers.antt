use Rattle.std.proofs.Common.{◌∙◌, List, ap, arith, length, refl, subst, sym}
use Rattle.std.specs.List.{list_any}
use Rattle.sdr_base.specs.Causes.{Rose}
use Rattle.sdr_gather.specs.Gathering.{IsGapIn, OfMedia}
use Rattle.sdr_gather.specs.declared.gathering.Gap.{Gap}
use Rattle.sdr_gather.specs.declared.gathering.Gap.TheVariants as gaps
use Rattle.sdr_machine.specs.Ground.{lies_with_media}
use Rattle.sdr_model.specs.World.{World}
use Rattle.sdr_model.specs.declared.answer.Reply.TheVariants as replies
use Rattle.mem_machine.proofs.AnsweringLemmas.{answers_failed, answers_given, answers_short, asked_few, pieces_page}
use Rattle.mem_machine.specs.Answering.{Answers}
use Rattle.sdr_model.specs.declared.piece.Piece.{Piece}
use Rattle.mem_machine.proofs.answering.read.Given.{Over}
use Rattle.mem_machine.proofs.answering.read.Goals as goal

pub gather-requires : goal.gather-requires
gather-requires g c = record {
  page = pieces_page (g.M.Media.told c.args.media.now) c.args.world.now.now c.args.call.now c.args.pieces.now c.requires.has;
  blank = c.in_ok-bytes.ensures.items;
  room = omega (arith, c.in_ok-bytes.ensures.capacity);
}

pub returns-in-Ok-clause-answers : goal.returns-in-Ok-clause-answers
returns-in-Ok-clause-answers g c =
    let w : World = c.args.world.now.now in
    let told = g.M.Media.told c.args.media.now in
    let bytes = c.gather.new.bytes.items in
    subst (λ n. Answers told c.args.call.now w c.show.new.self.now (replies.Bytes n)) (sym (c.len-count.ensures ∙ ap length c.of-given.ensures))
    (answers_given told w c.args.call.now c.args.pieces.now c.requires.has c.show.new.self.now bytes
    (c.show.ensures.shown ∙ ap (λ shown. record w { shown = shown }) c.of-given.ensures) c.in-Ok.ensures.gathered)

-- that media failed, and that they gave fewer bytes, by what they were and are
abbrev failed : (g : Over) → List Piece → g.row.M.Denot → g.row.M.Denot → Type 0
failed g pieces old new = OfMedia (list_any lies_with_media pieces) (Rose (g.M.Media.faults old) (g.M.Media.faults new))

abbrev short : (g : Over) → List Piece → g.row.M.Denot → g.row.M.Denot → Type 0
short g pieces old new = OfMedia (list_any lies_with_media pieces) (Rose (g.M.Media.short old) (g.M.Media.short new))

-- why the pieces weren't gathered
abbrev Lacks : (g : Over) → List Piece → g.row.M.Denot → g.row.M.Denot → Gap → Type 0
Lacks g pieces old new gap = IsGapIn (g.M.Media.told old) pieces (failed g pieces old new) (short g pieces old new) gap

pub returns-in-Err-Fault-clause-answers : goal.returns-in-Err-Fault-clause-answers
returns-in-Err-Fault-clause-answers g c =
    let gap : Lacks g c.args.pieces.now c.args.media.now c.gather.new.media gaps.Fault =
    subst (λ (x : Gap). Lacks g c.args.pieces.now c.args.media.now c.gather.new.media x) c.in-Err-Fault.field-0-is c.in-Err-Fault.ensures.gap in
    answers_failed (g.M.Media.told c.args.media.now) c.args.world.now.now c.args.call.now c.args.pieces.now c.requires.has c.args.world.now.now refl gap.0

pub returns-in-Err-Fault-clause-gap : goal.returns-in-Err-Fault-clause-gap
returns-in-Err-Fault-clause-gap g c =
    let gap : Lacks g c.args.pieces.now c.args.media.now c.gather.new.media gaps.Fault =
    subst (λ (x : Gap). Lacks g c.args.pieces.now c.args.media.now c.gather.new.media x) c.in-Err-Fault.field-0-is c.in-Err-Fault.ensures.gap in
    gap.1

pub returns-clause-answers : goal.returns-clause-answers
returns-clause-answers g c =
    let gap : Lacks g c.args.pieces.now c.args.media.now c.gather.new.media (gaps.Short c.in-Err-Short.have c.in-Err-Short.want) =
    subst (λ (x : Gap). Lacks g c.args.pieces.now c.args.media.now c.gather.new.media x) c.in-Err-Short.field-0-is c.in-Err-Short.ensures.gap in
    answers_short (g.M.Media.told c.args.media.now) c.args.world.now.now c.args.call.now c.args.pieces.now c.requires.has c.args.world.now.now
    c.in-Err-Short.have c.in-Err-Short.want refl gap.0 gap.1.0 gap.2

pub returns-clause-gap : goal.returns-clause-gap
returns-clause-gap g c =
    let gap : Lacks g c.args.pieces.now c.args.media.now c.gather.new.media (gaps.Short c.in-Err-Short.have c.in-Err-Short.want) =
    subst (λ (x : Gap). Lacks g c.args.pieces.now c.args.media.now c.gather.new.media x) c.in-Err-Short.field-0-is c.in-Err-Short.ensures.gap in
    gap.1.1

pub returns-in-Ok-clause-needs : goal.returns-in-Ok-clause-needs
returns-in-Ok-clause-needs g c =
    asked_few (g.M.Media.told c.args.media.now) c.args.world.now.now c.args.call.now c.args.pieces.now c.requires.has _ _ c.gather.ensures.asks

pub returns-in-Err-Fault-clause-needs : goal.returns-in-Err-Fault-clause-needs
returns-in-Err-Fault-clause-needs g c =
    asked_few (g.M.Media.told c.args.media.now) c.args.world.now.now c.args.call.now c.args.pieces.now c.requires.has _ _ c.gather.ensures.asks

pub returns-clause-needs : goal.returns-clause-needs
returns-clause-needs g c =
    asked_few (g.M.Media.told c.args.media.now) c.args.world.now.now c.args.call.now c.args.pieces.now c.requires.has _ _ c.gather.ensures.asks
