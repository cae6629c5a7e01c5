use Rattle.std.proofs.Common.{◌≡◌, ◌≤◌, ◌∙◌, Some, ap, sym, subst, arith}
use Rattle.sdr_model.specs.Dry.{StepsDry, dry_moves}
use Rattle.sdr_model.specs.Limits.{longest_read}
use Rattle.sdr_model.specs.Pieces.{asked_addr, asked_count, filled, part_pieces, pieces_told}
use Rattle.sdr_model.specs.Zco.{object_at}
use Rattle.sdr_model.specs.declared.answer.Reply.TheVariants as replies
use Rattle.sdr_model.specs.declared.zco.ZcoObject.{ZcoObject}
use Rattle.sdr_model.proofs.PiecesLemmas.{gives-step}
use Rattle.mem_zco_calls.proofs.wire_calls.give.Goals as goal

pub returns : goal.returns
returns c =
    let w = c.args.world.now.now in
    let call = c.args.call.now in
    let z : ZcoObject = c.in-Some.object.now in
    let there : object_at w (asked_addr call) ≡ Some z =
    sym (c.in-Some.ensures.is ∙ ap (object_at w) c.asked-addr.ensures.addr) in
    let page : asked_count call ≤ longest_read = subst (λ n. n ≤ longest_read) c.asked-addr.ensures.count (omega arith) in
    let bytes : c.in_ok-shown.shown ≡ filled (pieces_told (part_pieces w call z)) =
    c.in_ok-shown.ensures ∙ ap (λ ps. filled (pieces_told ps)) (c.as_slice.ensures ∙ c.in_ok-pieces.ensures) in
    record {
      step = subst (λ n. StepsDry w call (dry_moves w call (replies.Bytes n)) c.show.new.self.now (replies.Bytes n))
          (sym c.len-count.ensures)
          (gives-step w c.show.new.self.now call z c.in_ok-shown.shown c.requires.reads there page bytes c.show.ensures.shown);
      begun = c.show.ensures.keeps.begun;
      same = tt;
    }
