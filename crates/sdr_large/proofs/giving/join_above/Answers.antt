-- The leader and the last word above tell whether the block there is free.
use Rattle.std.proofs.Common.{length, refl, arith, ap, ◌∙◌}
use Rattle.sdr_large.proofs.GivingLemmas.{can_join, joins_at_end, joins_used_above}
use Rattle.sdr_large.proofs.JoinedLemmas.{reads_above, fits_above, unlinks_above, joins_above}
use Rattle.sdr_large.proofs.giving.join_above.Goals as goal

pub overflow_mul-end : goal.overflow_mul-end
overflow_mul-end g c = let k = can_join _ _ _ c.requires.loose refl in omega (arith, k.inside, k.short)

pub overflow_add-end : goal.overflow_add-end
overflow_add-end g c = let k = can_join _ _ _ c.requires.loose refl in omega (arith, k.inside, k.short)

pub overflow_add-end-2 : goal.overflow_add-end-2
overflow_add-end-2 g c = let k = can_join _ _ _ c.requires.loose refl in omega (arith, k.inside, k.short)

pub returns-then-end-size-clause-joined : goal.returns-then-end-size-clause-joined
returns-then-end-size-clause-joined g c =
    joins_at_end c.args.block _ _ refl (c.if-end-size.true ∙ c.size.ensures.bytes)

pub read_leader_words-requires : goal.read_leader_words-requires
read_leader_words-requires g c = record {
  inside = omega (
    arith,
    fits_above c.args.block _ c.size.result c.requires.loose c.size.ensures.bytes
        c.if-end-size.false,
  );
}

pub overflow_mul-words : goal.overflow_mul-words
overflow_mul-words g c =
    let k = can_join _ _ _ c.requires.loose refl in
    omega (
      arith,
      k.inside,
      k.short,
      c.in_ok-words.ensures.given,
      fits_above c.args.block _ c.size.result c.requires.loose c.size.ensures.bytes c.if-end-size.false,
    )

pub overflow_add-end-3 : goal.overflow_add-end-3
overflow_add-end-3 g c =
    let k = can_join _ _ _ c.requires.loose refl in
    omega (
      arith,
      k.inside,
      k.short,
      c.in_ok-words.ensures.given,
      fits_above c.args.block _ c.size.result c.requires.loose c.size.ensures.bytes c.if-end-size.false,
    )

pub overflow_add-end-4 : goal.overflow_add-end-4
overflow_add-end-4 g c =
    let k = can_join _ _ _ c.requires.loose refl in
    omega (
      arith,
      k.inside,
      k.short,
      c.in_ok-words.ensures.given,
      fits_above c.args.block _ c.size.result c.requires.loose c.size.ensures.bytes c.if-end-size.false,
    )

pub read_last_word-requires : goal.read_last_word-requires
read_last_word-requires g c = record {
  inside = omega (
    arith,
    c.in_ok-words.ensures.given,
    ap length c.in_ok-words.ensures.same,
    fits_above c.args.block _ c.size.result c.requires.loose c.size.ensures.bytes c.if-end-size.false,
  );
}

pub returns-then-last-clause-joined : goal.returns-then-last-clause-joined
returns-then-last-clause-joined g c =
    joins_used_above c.args.block _ _ _ c.in_ok-words.words c.in_ok-last.last.used c.in_ok-words.ensures.same
    c.in_ok-words.ensures.given c.in_ok-last.ensures.used c.if-last.true
    (c.in_ok-last.ensures.same ∙ c.in_ok-words.ensures.same)

pub overflow_add-above : goal.overflow_add-above
overflow_add-above g c =
    let k = can_join _ _ _ c.requires.loose refl in
    omega (
      arith,
      k.inside,
      k.short,
      c.in_ok-words.ensures.given,
      fits_above c.args.block _ c.size.result c.requires.loose c.size.ensures.bytes c.if-end-size.false,
    )

pub overflow_add-result : goal.overflow_add-result
overflow_add-result g c =
    let k = can_join _ _ _ c.requires.loose refl in
    omega (
      arith,
      k.inside,
      k.short,
      c.in_ok-words.ensures.given,
      fits_above c.args.block _ c.size.result c.requires.loose c.size.ensures.bytes c.if-end-size.false,
    )

pub overflow_add-result-2 : goal.overflow_add-result-2
overflow_add-result-2 g c =
    let k = can_join _ _ _ c.requires.loose refl in
    omega (
      arith,
      k.inside,
      k.short,
      c.in_ok-words.ensures.given,
      fits_above c.args.block _ c.size.result c.requires.loose c.size.ensures.bytes c.if-end-size.false,
    )

pub unlink-requires : goal.unlink-requires
unlink-requires g c =
    let r = reads_above c.args.block _ _ c.in_ok-words.words c.size.result c.in_ok-last.last.used c.size.ensures.bytes
    c.if-end-size.false c.in_ok-words.ensures.given c.in_ok-words.ensures.same c.in_ok-last.ensures.used
    c.if-last.false in
    record {
      free = unlinks_above c.args.block c.in_ok-words.words _ _ c.requires.loose r
          (c.in_ok-last.ensures.same ∙ c.in_ok-words.ensures.same);
    }

pub returns-clause-joined : goal.returns-clause-joined
returns-clause-joined g c =
    let r = reads_above c.args.block _ _ c.in_ok-words.words c.size.result c.in_ok-last.last.used c.size.ensures.bytes
    c.if-end-size.false c.in_ok-words.ensures.given c.in_ok-words.ensures.same c.in_ok-last.ensures.used
    c.if-last.false in
    joins_above c.args.block c.in_ok-words.words _ _ _ r (c.in_ok-last.ensures.same ∙ c.in_ok-words.ensures.same)
    c.in_ok-unlink.ensures.unlinked
