-- How often media have failed, and the answers that tell so.
use Rattle.std.proofs.Common.{◌≡◌, ◌+◌, ℕ, List, [], ◌∷◌, ◌++◌, refl, sym, ◌∙◌, subst, arith}
use Rattle.std.specs.List.{sum_by}
use Rattle.std.proofs.lemmas.List.Sums.{sum_by-append, sum_by-cons}
use Rattle.sdr_base.specs.declared.refusal.Refusal.TheVariants as refusals
use Rattle.sdr_machine.specs.Lapses.{HasLapseCause, LapsesLast}
use Rattle.sdr_machine.specs.Machine.{Made}
use Rattle.sdr_machine.specs.declared.has_ground.HasGround.{Ghosts}
use Rattle.sdr_model.specs.declared.answer.Answer.{Answer}
use Rattle.sdr_model.specs.declared.answer.Answer.TheVariants as answers
use Rattle.sdr_model.specs.declared.answer.Reply.TheVariants as replies
use Rattle.sdr_core.specs.Caused.{AreCaused, HaveFailed, IsCaused, MediaChange, media_on, RoseBy, SeenMedia, from_to, is_media_fault, is_short, media_faults, once, short_answers}

-- a count that rose so often, and so often more
rose-more : (a b before between now : ℕ) → RoseBy a before between → RoseBy b between now → RoseBy (a + b) before now
rose-more a b before between now first then = omega (arith, first, then)

pub failed_refl : (media : SeenMedia) → HaveFailed 0 0 (from_to media media)
failed_refl media = record { told = refl; faults = omega arith; short = omega arith }

pub failed_trans : (a b c d : ℕ) (media between media' : SeenMedia) → HaveFailed a b (from_to media between) → HaveFailed c d (from_to between media')
    → HaveFailed (a + c) (b + d) (from_to media media')
failed_trans a b c d media between media' first then = record {
  told = then.told ∙ first.told;
  faults = rose-more a c media.faults between.faults media'.faults first.faults then.faults;
  short = rose-more b d media.short between.short media'.short first.short then.short;
}

-- media that have failed so often have failed at least as often as never
pub failed_ever : (a b : ℕ) (media : MediaChange) → HaveFailed a b media → HaveFailed 0 0 media
failed_ever a b media h = record {
  told = h.told;
  faults = omega (arith, h.faults);
  short = omega (arith, h.short);
}

-- the answers before are caused, and one more
pub caused_more : (made : List Made) (e : Made) (media between media' : SeenMedia) → AreCaused made (from_to media between)
    → IsCaused e.said.answer (from_to between media') → AreCaused (made ++ e ∷ []) (from_to media media')
caused_more made e media between media' before last =
    let all = failed_trans (media_faults made) (short_answers made) (once (is_media_fault e.said.answer)) (once (is_short e.said.answer))
    media between media' before last in
    record {
      told = all.told;
      faults = subst (λ n. RoseBy n media.faults media'.faults) (sym (one_more (λ (x : Made). once (is_media_fault x.said.answer)))) all.faults;
      short = subst (λ n. RoseBy n media.short media'.short) (sym (one_more (λ (x : Made). once (is_short x.said.answer)))) all.short;
    }
  where
    one_more : (of : Made → ℕ) → sum_by of (made ++ e ∷ []) ≡ sum_by of made + of e
    one_more of = omega (arith, sum_by-append of made (e ∷ []), sum_by-cons of e [])

-- nothing more happened to media
pub caused_later : (made : List Made) (media between media' : SeenMedia) → AreCaused made (from_to media between) → HaveFailed 0 0 (from_to between media')
    → AreCaused made (from_to media media')
caused_later made media between media' before later = record {
  told = later.told ∙ before.told;
  faults = omega (arith, before.faults, later.faults);
  short = omega (arith, before.short, later.short);
}

-- media tell the same, and no count of theirs has fallen
pub stayed_by : (old new : SeenMedia) → new.told ≡ old.told
    → LapsesLast (record { faults = old.faults; short = old.short }) (record { faults = new.faults; short = new.short })
    → HaveFailed 0 0 (from_to old new)
stayed_by old new same later = record { told = same; faults = omega (arith, later.faults); short = omega (arith, later.short) }

-- so an answer that tells that they failed, or gave too few bytes, is caused where the count of that rose
pub caused_by : (answer : Answer) (old new : SeenMedia) → new.told ≡ old.told
    → LapsesLast (record { faults = old.faults; short = old.short }) (record { faults = new.faults; short = new.short })
    → HasLapseCause answer (record { faults = old.faults; short = old.short }) (record { faults = new.faults; short = new.short })
    → IsCaused answer (from_to old new)
caused_by (answers.Reply replies.MediaFault) old new same later rose = record { told = same; faults = rose; short = omega (arith, later.short) }
caused_by (answers.Reply (replies.Refused (refusals.SourceShort have want))) old new same later rose =
    record { told = same; faults = omega (arith, later.faults); short = rose }
caused_by answer old new same later rose = stayed_by old new same later

-- the media of a ground tell the same, and no count of theirs has fallen
pub media_later : {T : Type 0} (g : Ghosts T) (old new : T) → g.told new ≡ g.told old → LapsesLast (g.lapses old)
    (g.lapses new)
    → HaveFailed 0 0 (from_to (media_on g old) (media_on g new))
media_later g old new same later = stayed_by (media_on g old) (media_on g new) same later

-- so an answer that blames them is caused where the ground tells its cause
pub answer_caused : {T : Type 0} (g : Ghosts T) (old new : T) (answer : Answer) → g.told new ≡ g.told old → LapsesLast (g.lapses old) (g.lapses new)
    → HasLapseCause answer (g.lapses old) (g.lapses new) → IsCaused answer (from_to (media_on g old) (media_on g new))
answer_caused g old new answer same later rose = caused_by answer (media_on g old) (media_on g new) same later rose
