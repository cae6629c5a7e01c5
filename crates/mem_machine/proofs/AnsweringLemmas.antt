-- What a call on a world in memory comes to, as a step with no heap.
use Rattle.std.proofs.Common.{◌≡◌, ◌≤◌, ◌<◌, ◌+◌, ℕ, List, [], Bool, true, false, Option, None, Some, inl, inr, length, nat_le, refl, sym, ap, ◌∙◌, subst, arith, MatchBool, MatchOption, true≢false}
use Rattle.std.proofs.lemmas.Bool.{ltb-false}
use Rattle.std.proofs.lemmas.Bool.Decides.{nat_tests}
use Rattle.std.specs.List.{list_any}
use Rattle.std.specs.Prelude.{nat_lt, if◌then◌else◌, IfSome}
use Rattle.sdr_base.specs.Media.{Told}
use Rattle.sdr_base.specs.declared.refusal.Refusal.{Refusal}
use Rattle.sdr_base.specs.declared.refusal.Refusal.TheVariants as refusals
use Rattle.sdr_gather.specs.Gathering.{AreGathered}
use Rattle.sdr_machine.specs.Agreeing.{AgreesReading, AgreesWith, IsFirstShort}
use Rattle.sdr_machine.specs.Asked.{count_outside, outside_needed}
use Rattle.sdr_machine.specs.Ground.{MayMissMedia, asks_media, lies_with_media}
use Rattle.sdr_machine.specs.Lapses.{HasLapseCause, Lapses}
use Rattle.sdr_model.proofs.PiecesLemmas.{Spells-filled, asked-row, length-asked}
use Rattle.sdr_model.specs.Dry.{StepsDry, StopsReading, addr_after, dry_moves}
use Rattle.sdr_model.specs.Limits.{longest_read}
use Rattle.sdr_model.specs.Pieces.{AsksBytes, AsksPage, asked_addr, asked_count, bytes_by, filled, pieces_asked, pieces_told}
use Rattle.sdr_model.specs.Reading.{reads_media}
use Rattle.sdr_model.specs.RowMoves.{row_moves}
use Rattle.sdr_model.specs.Rows.{ByRow}
use Rattle.sdr_model.specs.Step.{StopsWith}
use Rattle.sdr_model.specs.Steps.{Outcome, Refuses}
use Rattle.sdr_model.specs.Wire.{GivesBytes, Spells, ToldBytes, headers_part, source_part, trailers_part, wire_part}
use Rattle.sdr_model.specs.World.{World, block_at, misnamed, refusal_for}
use Rattle.sdr_model.specs.Zco.{object_at}
use Rattle.sdr_model.specs.declared.answer.Answer.{Answer}
use Rattle.sdr_model.specs.declared.answer.Answer.TheVariants as answers
use Rattle.sdr_model.specs.declared.answer.Reply.{Reply}
use Rattle.sdr_model.specs.declared.answer.Reply.TheVariants as replies
use Rattle.sdr_model.specs.declared.call.Call.{Call}
use Rattle.sdr_model.specs.declared.call.Call.TheVariants as calls
use Rattle.sdr_model.specs.declared.event.Event.TheVariants as events
use Rattle.sdr_model.specs.declared.piece.Piece.{Piece}
use Rattle.sdr_model.specs.declared.things.UsedBlock.{UsedBlock}
use Rattle.sdr_model.specs.declared.zco.ZcoObject.{ZcoObject}
use Rattle.law_steps.proofs.StepLemmas.{row_is_no_stop}
use Rattle.law_steps.specs.Refused.{is_stop}
use Rattle.mem_machine.specs.Answering.{Answers, HasPieces, IsLapse}

-- an answer that tells nothing of media: whatever they hold, it agrees with them
abbrev pub TellsNothing : Answer → Type 0
TellsNothing answer =
    (told : Option Told) (w : World) (call : Call) (bytes : List ℕ) → AgreesWith told w (events.Say call) answer bytes

tells_nothing : (answer given : Answer) → answer ≡ given
    → ((media : Told) (w : World) (call : Call) (bytes : List ℕ) → AgreesReading media w call given bytes) → TellsNothing answer
tells_nothing answer given is nothing None w call bytes = tt
tells_nothing answer given is nothing (Some media) w call bytes =
    λ reads. subst (λ a. AgreesReading media w call a bytes) (sym is) (nothing media w call bytes)

-- a reply that refuses, and tells nothing of media
pub record RefusesQuietly (reply : Reply) : Type 0 where
  pub refusal : Refusal
  pub is : reply ≡ replies.Refused refusal
  pub nothing : TellsNothing (answers.Reply reply)

refuses_quietly : (reply : Reply) (refusal : Refusal) → reply ≡ replies.Refused refusal
    → ((media : Told) (w : World) (call : Call) (bytes : List ℕ) → AgreesReading media w call (answers.Reply (replies.Refused refusal)) bytes)
    → RefusesQuietly reply
refuses_quietly reply refusal is nothing = record {
  refusal = refusal;
  is = is;
  nothing = tells_nothing (answers.Reply reply) _ (ap (λ r. answers.Reply r) is) nothing;
}

-- a refused address tells nothing of media
misnamed_quietly : (reply : Reply) (addr : ℕ) (block : Option UsedBlock) → reply
    ≡ replies.Refused (refusal_for addr block)
    → RefusesQuietly reply
misnamed_quietly reply addr None is = refuses_quietly reply _ is (λ media w call bytes. tt)
misnamed_quietly reply addr (Some block) is = refuses_quietly reply _ is (λ media w call bytes. tt)

-- a call that asks for no bytes of an object is refused, and tells nothing of media
module _ (w : World) (o : Outcome) (addr count : ℕ) (of : ZcoObject → ToldBytes) where
  long_quietly : (z : ZcoObject) (long : Bool) → nat_lt longest_read count ≡ long → ¬ AsksPage (Some z) count
      → MatchBool long (Refuses w o (refusals.BadLength count longest_read)) (GivesBytes w o (of z)) →
      RefusesQuietly o.reply
  long_quietly z true is fails h = refuses_quietly o.reply _ h.2 (λ media w call bytes. tt)
  long_quietly z false is fails h = absurd (fails (ltb-false longest_read count is))

  gives_quietly : (z : Option ZcoObject) → ¬ AsksPage z count
      → MatchOption z (Refuses w o (misnamed w addr))
      (λ z. MatchBool (nat_lt longest_read count) (Refuses w o (refusals.BadLength count longest_read)) (GivesBytes w o (of z)))
      → RefusesQuietly o.reply
  gives_quietly None fails h = misnamed_quietly o.reply addr (block_at w addr) h.2
  gives_quietly (Some z) fails h = long_quietly z (nat_lt longest_read count) refl fails h

row_quietly : (w : World) (o : Outcome) (call : Call) → reads_media call ≡ true → ¬ AsksBytes w call → ByRow w o call
    → RefusesQuietly o.reply
row_quietly w o (calls.Transmit addr place count) reads fails h =
    gives_quietly w o addr count (wire_part w place count) (object_at w addr) (λ page. fails (record { reads = refl; there = page })) h
row_quietly w o (calls.ReceiveHeaders addr place count) reads fails h =
    gives_quietly w o addr count (headers_part w place count) (object_at w addr) (λ page. fails (record { reads = refl; there = page })) h
row_quietly w o (calls.ReceiveSource addr place count) reads fails h =
    gives_quietly w o addr count (source_part w place count) (object_at w addr) (λ page. fails (record { reads = refl; there = page })) h
row_quietly w o (calls.ReceiveTrailers addr place count) reads fails h =
    gives_quietly w o addr count (trailers_part w place count) (object_at w addr) (λ page. fails (record { reads = refl; there = page })) h
row_quietly w o call reads fails h = absurd (true≢false (sym reads))

stops_with : (call : Call) (reply : Reply) → IsLapse reply → reads_media call ≡ true → StopsWith reply call [] []
stops_with call replies.MediaFault gap reads = (refl, reads)
stops_with call (replies.Refused (refusals.SourceShort have want)) gap reads = (refl, reads, gap)
stops_with call reply gap reads = absurd gap

-- a reply that tells of no stop misses nothing of media, and needs no cause of theirs
misses_nothing : (w : World) (call : Call) (reply : Reply) → is_stop reply ≡ false → MayMissMedia w call reply
misses_nothing w call replies.MediaFault whole = absurd (true≢false whole)
misses_nothing w call (replies.Refused (refusals.SourceShort have want)) whole = absurd (true≢false whole)
misses_nothing w call reply whole = tt

uncaused : (reply : Reply) (old new : Lapses) → is_stop reply ≡ false → HasLapseCause (answers.Reply reply) old new
uncaused replies.MediaFault old new whole = absurd (true≢false whole)
uncaused (replies.Refused (refusals.SourceShort have want)) old new whole = absurd (true≢false whole)
uncaused reply old new whole = tt

-- a step with no heap is no stop, so it needs no cause in media
pub uncaused_dry : (w w' : World) (call : Call) (reply : Reply) (old new : Lapses) → StepsDry w call (dry_moves w call reply) w' reply
    → HasLapseCause (answers.Reply reply) old new
uncaused_dry w w' call reply old new step = uncaused reply old new (row_is_no_stop w _ call step.step)

-- what a step with no heap came to of a call that asks no bytes of an object agrees with whatever media tell
agrees_unasked : (told : Option Told) (w w' : World) (call : Call) (reply : Reply) (bytes : List ℕ) → (reads_media call ≡ true → ¬ AsksBytes w call)
    → StepsDry w call (dry_moves w call reply) w' reply → AgreesWith told w (events.Say call) (answers.Reply reply) bytes
agrees_unasked None w w' call reply bytes fails step = tt
agrees_unasked (Some media) w w' call reply bytes fails step =
    λ reads. (row_quietly w _ call reads (fails reads) step.step).nothing (Some media) w call bytes reads

-- a call for which media aren't asked
pub answers_unasked : (told : Option Told) (w w' : World) (call : Call) (reply : Reply) → (reads_media call ≡ true → ¬ AsksBytes w call)
    → StepsDry w call (dry_moves w call reply) w' reply → Answers told call w w' reply
answers_unasked told w w' call reply fails step = record {
  step = inl step;
  misses = misses_nothing w call reply (row_is_no_stop w _ call step.step);
  agrees = agrees_unasked told w w' call reply _ fails step;
}

-- a call that reads media moves nothing
no_moves : (w : World) (call : Call) (at : ℕ → ℕ) → reads_media call ≡ true → row_moves w call at ≡ []
no_moves w (calls.Transmit addr place count) at reads = refl
no_moves w (calls.ReceiveHeaders addr place count) at reads = refl
no_moves w (calls.ReceiveSource addr place count) at reads = refl
no_moves w (calls.ReceiveTrailers addr place count) at reads = refl
no_moves w call at reads = absurd (true≢false (sym reads))

-- where a page of an object is asked, at most a page is
page_few : (z : Option ZcoObject) (count : ℕ) → AsksPage z count → count ≤ longest_read
page_few None count asks = absurd asks
page_few (Some z) count asks = asks

-- a call that asks these pieces
module _ (told : Option Told) (w : World) (call : Call) (pieces : List Piece) (has : HasPieces w call pieces) where
  told_same : pieces_told pieces ≡ pieces_told (pieces_asked w call)
  told_same = ap pieces_told has.asked

  -- they are at most a page
  pub pieces_page : length (pieces_told pieces) ≤ 4096
  pieces_page = subst (λ t. length t ≤ longest_read) (sym told_same) (length-asked w call has.asks)

  -- those that lie with media are what it needs of them
  pieces_needed : count_outside pieces ≡ outside_needed w call
  pieces_needed = ap count_outside has.asked ∙ by (nat_le (asked_count call) longest_read) refl
    where
      few : asked_count call ≤ longest_read
      few = page_few (object_at w (asked_addr call)) (asked_count call) has.asks.there

      by : (b : Bool) → nat_le (asked_count call) longest_read ≡ b → count_outside (pieces_asked w call) ≡ (if b then count_outside (pieces_asked w call) else 0)
      by true is = refl
      by false is = let most : asked_count call ≤ longest_read = few in absurd (grind (arith, nat_tests))

  -- so media were asked no more often than it needs
  pub asked_few : (before after : ℕ) → after ≤ before + count_outside pieces → after ≤ before + outside_needed w call
  asked_few before after few = omega (arith, few, pieces_needed)

  agrees_given : (bytes : List ℕ) → AreGathered told pieces bytes → AgreesWith told w (events.Say call) (answers.Reply (replies.Bytes (length bytes))) bytes
  agrees_given bytes gathered = by told gathered
    where
      by : (t : Option Told) → AreGathered t pieces bytes → AgreesWith t w (events.Say call) (answers.Reply (replies.Bytes (length bytes))) bytes
      by None g = tt
      by (Some media) g = λ reads. g.held ∙ ap (bytes_by media) has.asked

  -- it gives the bytes that they are
  pub answers_given : (w' : World) (bytes : List ℕ) → w' ≡ record w { shown = bytes } → AreGathered told pieces bytes
      → Answers told call w w' (replies.Bytes (length bytes))
  answers_given w' bytes is gathered =
      let moves : dry_moves w call (replies.Bytes (length bytes)) ≡ [] = no_moves w call (addr_after w.taken) has.reads in
      subst (λ (v : World). Answers told call w v (replies.Bytes (length bytes))) (sym is) (record {
        step = inl (subst (λ ms. StepsDry w call ms (record w { shown = bytes }) (replies.Bytes (length bytes))) (sym moves) (record {
          step = asked-row w call bytes has.asks (subst (λ t. Spells t bytes) told_same gathered.known);
          in_order = tt;
          counted = omega arith;
        }));
        misses = tt;
        agrees = agrees_given bytes gathered;
      })

  stops : (reply : Reply) → IsLapse reply → StopsReading w call [] w reply
  stops reply lapse =
      let asked = pieces_told (pieces_asked w call) in
      record {
        reads = has.reads;
        stopped = record {
          aim = record { moves = []; after = record w { shown = filled asked }; reply = replies.Bytes (length (filled asked)) };
          row = asked-row w call (filled asked) has.asks (Spells-filled asked);
          answered = refl;
          stopped = stops_with call reply lapse has.reads;
          same = refl;
        };
      }

  outside_here : list_any lies_with_media pieces ≡ true → asks_media w call ≡ true
  outside_here outside = subst (λ ps. list_any lies_with_media ps ≡ true) has.asked outside

  -- media fail
  pub answers_failed : (w' : World) → w' ≡ w → list_any lies_with_media pieces ≡ true → Answers told call w w' replies.MediaFault
  answers_failed w' is outside =
      let moves : dry_moves w call replies.MediaFault ≡ [] = no_moves w call (addr_after w.taken) has.reads in
      subst (λ (v : World). Answers told call w v replies.MediaFault) (sym is) (record {
        step = inr (subst (λ ms. StopsReading w call ms w replies.MediaFault) (sym moves) (stops replies.MediaFault tt));
        misses = outside_here outside;
        agrees = agrees told;
      })
    where
      agrees : (t : Option Told) → AgreesWith t w (events.Say call) (answers.Reply replies.MediaFault) []
      agrees None = tt
      agrees (Some media) = λ reads. tt

  -- or have too few bytes
  pub answers_short : (w' : World) (have want : ℕ) → w' ≡ w → have < want → list_any lies_with_media pieces ≡ true
      → IfSome told (λ media. IsFirstShort media pieces have want) → Answers told call w w' (replies.Refused (refusals.SourceShort have want))
  answers_short w' have want is less outside first =
      let reply : Reply = replies.Refused (refusals.SourceShort have want) in
      subst (λ (v : World). Answers told call w v reply) (sym is) (record {
        step = inr (stops reply less);
        misses = outside_here outside;
        agrees = agrees told first;
      })
    where
      agrees : (t : Option Told) → IfSome t (λ media. IsFirstShort media pieces have want)
          → AgreesWith t w (events.Say call) (answers.Reply (replies.Refused (refusals.SourceShort have want))) []
      agrees None first = tt
      agrees (Some media) first = λ reads. subst (λ ps. IsFirstShort media ps have want) has.asked first
