-- Which verbs begin a transaction or look at a ticket.
use Rattle.std.proofs.Common.{◌≡◌, false, refl}
use Rattle.sdr_words.specs.Events.{event_by, is_begin_or_look}
use Rattle.sdr_words.specs.declared.given.Given.{Given}
use Rattle.sdr_words.specs.declared.verb.Verb.TheVariants as verbs
use Rattle.sdr_words.specs.declared.verb.Verb.{Verb}

-- the event of any other verb is neither a begin nor a look
pub other_verbs : (verb : Verb) (given : Given) → (verb ≡ verbs.Begin → ⊥) → (verb ≡ verbs.Await → ⊥) → is_begin_or_look (event_by verb given) ≡ false
other_verbs verbs.Begin given begins looks = absurd (begins refl)
other_verbs verbs.Await given begins looks = absurd (looks refl)
other_verbs verb given begins looks = refl
