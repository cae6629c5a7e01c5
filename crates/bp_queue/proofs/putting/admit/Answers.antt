-- The item's block is taken, its lists get it, and it says so.
use Rattle.std.proofs.Common.{[], ◌∷◌, arith}
use Rattle.std.proofs.lemmas.Result.{err_from_is_err_and}
use Rattle.bp_queue.proofs.LackLemmas.{first_lacks, then_lacks}
use Rattle.bp_queue.proofs.PutLemmas.{admits, beside, listed_lacks}
use Rattle.bp_queue.proofs.RankLemmas.{made_item, wanted_fits}
use Rattle.bp_queue.proofs.putting.admit.Goals as goal

pub returns-in_err-item-clause-refused : goal.returns-in_err-item-clause-refused
returns-in_err-item-clause-refused g c =
    let p = err_from_is_err_and c.from_residual.result c.from_residual.ensures.1 in
    rw (p.1, p.2) (first_lacks 56 (32 ∷ 32 ∷ []) _ _ _ c.in_err-item.ensures.refused)

pub enlist-requires-clause-item : goal.enlist-requires-clause-item
enlist-requires-clause-item g c =
    let m = made_item c.args.wanted (rw (c.from_be_bytes-rank.ensures, c.number.ensures) at c.in_ok-item.ensures.taken) in
    record {
      next = c.requires.queues.next;
      rows = c.requires.queues.rows;
      rest = c.requires.queues.rest;
      keeps = beside m (wanted_fits c.args.wanted (omega arith) (omega arith) (omega arith) m.adds.small c.requires.object) c.requires.queues.keeps;
    }

pub returns-in_err-at-clause-refused : goal.returns-in_err-at-clause-refused
returns-in_err-at-clause-refused g c =
    let p = err_from_is_err_and c.from_residual-in_err-at.result c.from_residual-in_err-at.ensures.1 in
    let m = made_item c.args.wanted (rw (c.from_be_bytes-rank.ensures, c.number.ensures) at c.in_ok-item.ensures.taken) in
    rw (p.1, p.2) (then_lacks (32 ∷ 32 ∷ []) _ _ m.made c.in_err-at.ensures.refused)

pub returns-in_err-note_elements-clause-refused : goal.returns-in_err-note_elements-clause-refused
returns-in_err-note_elements-clause-refused g c =
    let p = err_from_is_err_and c.from_residual-in_err-note_elements.result c.from_residual-in_err-note_elements.ensures.1 in
    let m = made_item c.args.wanted (rw (c.from_be_bytes-rank.ensures, c.number.ensures) at c.in_ok-item.ensures.taken) in
    rw (p.1, p.2) (listed_lacks _ _ m c.in_ok-at.ensures.listed c.in_err-note_elements.ensures.refused)

pub note_elements-requires-clause-item : goal.note_elements-requires-clause-item
note_elements-requires-clause-item g c =
    let m = made_item c.args.wanted (rw (c.from_be_bytes-rank.ensures, c.number.ensures) at c.in_ok-item.ensures.taken) in
    let f = wanted_fits c.args.wanted (omega arith) (omega arith) (omega arith) m.adds.small c.requires.object in
    record {
      next = c.requires.queues.next;
      rows = c.requires.queues.rows;
      rest = c.requires.queues.rest;
      keeps = c.in_ok-at.ensures.listed.enlists c.requires.queues.next c.requires.queues.rows c.requires.queues.rest (beside m f c.requires.queues.keeps);
    }

pub returns-clause-admitted : goal.returns-clause-admitted
returns-clause-admitted g c =
    let m = made_item c.args.wanted (rw (c.from_be_bytes-rank.ensures, c.number.ensures) at c.in_ok-item.ensures.taken) in
    let f = wanted_fits c.args.wanted (omega arith) (omega arith) (omega arith) m.adds.small c.requires.object in
    admits m f (g.met.O.Objects.few c.args.o.now c.requires.kept) (g.met.O.Objects.small c.args.o.now c.requires.kept) c.requires.number
    c.in_ok-at.ensures.listed c.in_ok-note_elements.ensures.noted
