-- The last word below tells whether the block there is free.
use Rattle.std.proofs.Common.{refl, arith, ◌∙◌}
use Rattle.sdr_large.proofs.GivingLemmas.{can_join, joins_at_high, joins_used}
use Rattle.sdr_large.proofs.JoinedLemmas.{reads_below, fits_below, unlinks_below, joins_below}
use Rattle.sdr_large.proofs.giving.join_below.Goals as goal

pub overflow_sub-begin : goal.overflow_sub-begin
overflow_sub-begin g c = omega (arith, (can_join _ _ _ c.requires.loose refl).least)

pub read_number-requires : goal.read_number-requires
read_number-requires g c =
    let k = can_join _ _ _ c.requires.loose refl in record { inside = omega (arith, k.least, k.inside) }

pub returns-then-begin-high-clause-joined : goal.returns-then-begin-high-clause-joined
returns-then-begin-high-clause-joined g c =
    joins_at_high c.args.block _ _ c.in_ok-high.high c.in_ok-high.ensures.given c.in_ok-high.ensures.same
    c.if-begin-high.true

pub overflow_sub-begin-2 : goal.overflow_sub-begin-2
overflow_sub-begin-2 g c = omega (arith, (can_join _ _ _ c.requires.loose refl).least)

pub read_last_word-requires : goal.read_last_word-requires
read_last_word-requires g c =
    let k = can_join _ _ _ c.requires.loose c.in_ok-high.ensures.same in
    record { inside = omega (arith, k.least, k.inside) }

pub returns-then-last-clause-joined : goal.returns-then-last-clause-joined
returns-then-last-clause-joined g c =
    joins_used c.args.block _ _ _ c.in_ok-last.last.used c.in_ok-high.ensures.same c.in_ok-last.ensures.used
    c.if-last.true (c.in_ok-last.ensures.same ∙ c.in_ok-high.ensures.same)

pub overflow_mul-below : goal.overflow_mul-below
overflow_mul-below g c =
    let r = reads_below c.args.block _ _ c.in_ok-high.high c.in_ok-last.last.words c.in_ok-last.last.used
    c.in_ok-high.ensures.given c.in_ok-high.ensures.same c.if-begin-high.false c.in_ok-last.ensures.used
    c.if-last.false c.in_ok-last.ensures.words in
    let k = can_join _ _ _ c.requires.loose refl in
    omega (arith, fits_below c.args.block c.in_ok-high.high c.in_ok-last.last.words _ c.requires.loose r, k.inside, k.short)

pub overflow_sub-below : goal.overflow_sub-below
overflow_sub-below g c =
    let r = reads_below c.args.block _ _ c.in_ok-high.high c.in_ok-last.last.words c.in_ok-last.last.used
    c.in_ok-high.ensures.given c.in_ok-high.ensures.same c.if-begin-high.false c.in_ok-last.ensures.used
    c.if-last.false c.in_ok-last.ensures.words in
    let k = can_join _ _ _ c.requires.loose refl in
    omega (arith, fits_below c.args.block c.in_ok-high.high c.in_ok-last.last.words _ c.requires.loose r, k.inside, k.short)

pub overflow_sub-below-2 : goal.overflow_sub-below-2
overflow_sub-below-2 g c =
    let r = reads_below c.args.block _ _ c.in_ok-high.high c.in_ok-last.last.words c.in_ok-last.last.used
    c.in_ok-high.ensures.given c.in_ok-high.ensures.same c.if-begin-high.false c.in_ok-last.ensures.used
    c.if-last.false c.in_ok-last.ensures.words in
    let k = can_join _ _ _ c.requires.loose refl in
    omega (arith, fits_below c.args.block c.in_ok-high.high c.in_ok-last.last.words _ c.requires.loose r, k.inside, k.short)

pub overflow_add-result-2 : goal.overflow_add-result-2
overflow_add-result-2 g c =
    let r = reads_below c.args.block _ _ c.in_ok-high.high c.in_ok-last.last.words c.in_ok-last.last.used
    c.in_ok-high.ensures.given c.in_ok-high.ensures.same c.if-begin-high.false c.in_ok-last.ensures.used
    c.if-last.false c.in_ok-last.ensures.words in
    let k = can_join _ _ _ c.requires.loose refl in
    omega (arith, fits_below c.args.block c.in_ok-high.high c.in_ok-last.last.words _ c.requires.loose r, k.inside, k.short)

pub unlink-requires : goal.unlink-requires
unlink-requires g c =
    let r = reads_below c.args.block _ _ c.in_ok-high.high c.in_ok-last.last.words c.in_ok-last.last.used
    c.in_ok-high.ensures.given c.in_ok-high.ensures.same c.if-begin-high.false c.in_ok-last.ensures.used
    c.if-last.false c.in_ok-last.ensures.words in
    record {
      free = unlinks_below c.args.block c.in_ok-high.high c.in_ok-last.last.words _ _ c.requires.loose r
          (c.in_ok-last.ensures.same ∙ c.in_ok-high.ensures.same);
    }

pub returns-clause-joined : goal.returns-clause-joined
returns-clause-joined g c =
    let r = reads_below c.args.block _ _ c.in_ok-high.high c.in_ok-last.last.words c.in_ok-last.last.used
    c.in_ok-high.ensures.given c.in_ok-high.ensures.same c.if-begin-high.false c.in_ok-last.ensures.used
    c.if-last.false c.in_ok-last.ensures.words in
    joins_below c.args.block c.in_ok-high.high c.in_ok-last.last.words _ _ _ r
    (c.in_ok-last.ensures.same ∙ c.in_ok-high.ensures.same) c.in_ok-unlink.ensures.unlinked
