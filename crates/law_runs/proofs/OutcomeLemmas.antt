-- A call comes to one outcome, chance aside.
use Rattle.std.proofs.Common.{◌≡◌, ◌⊎◌, ◌∙◌, ◌||◌, ◌++◌, ℕ, List, [], ◌∷◌, Bool, true, false, Option, None, Some, refl, sym, ap, subst, inl, inr, true≢false, nat_lt}
use Rattle.sdr_base.specs.Media.{Told}
use Rattle.sdr_base.specs.declared.moves.Move.{Move}
use Rattle.sdr_base.specs.declared.moves.Move.TheVariants.{Took}
use Rattle.sdr_base.specs.declared.refusal.Refusal.{Refusal}
use Rattle.sdr_base.specs.declared.refusal.Refusal.TheVariants as refusals
use Rattle.law_steps.proofs.DecidedLemmas.{dry_decides, dry_decides_but_bytes}
use Rattle.law_steps.proofs.StepLemmas.{row_is_no_stop}
use Rattle.law_steps.specs.Refused.{is_stop}
use Rattle.sdr_machine.specs.Agreeing.{AgreesWith}
use Rattle.sdr_machine.specs.Transaction.{bytes_given}
use Rattle.sdr_machine.proofs.StepLemmas.{from_option, from_test}
use Rattle.sdr_model.specs.Dry.{StepsDry, StopsReading}
use Rattle.sdr_model.specs.Pieces.{bytes_by, pieces_asked}
use Rattle.sdr_model.specs.Limits.{longest_read}
use Rattle.sdr_model.specs.Reading.{is_reading, reads_media}
use Rattle.sdr_model.specs.Rows.{ByRow}
use Rattle.sdr_model.specs.Step.{LackBlock, Stops, StopsWith}
use Rattle.sdr_model.specs.Steps.{Outcome, Refuses}
use Rattle.sdr_model.specs.Wire.{GivesOf, ToldBytes as Wire, headers_part, source_part, trailers_part, wire_part}
use Rattle.sdr_model.specs.World.{World}
use Rattle.sdr_model.specs.Zco.{object_at}
use Rattle.sdr_model.specs.declared.answer.Answer.{Answer}
use Rattle.sdr_model.specs.declared.answer.Answer.TheVariants as answers
use Rattle.sdr_model.specs.declared.answer.Reply.{Reply}
use Rattle.sdr_model.specs.declared.answer.Reply.TheVariants as replies
use Rattle.sdr_model.specs.declared.call.Call.{Call}
use Rattle.sdr_model.specs.declared.call.Call.TheVariants as calls
use Rattle.sdr_model.specs.declared.event.Event.TheVariants as events
use Rattle.sdr_model.specs.declared.zco.ZcoObject.{ZcoObject}
use Rattle.law_runs.specs.Choosing.{is_chance}
use Rattle.sdr_machine.proofs.RollLemmas.{contrary}

-- a call that reads media is refused, or gives bytes
pub data MediaRow (w : World) (o : Outcome) : Type 0 where
  refuses : (refusal : Refusal) → o.moves ≡ [] → o.after.shown ≡ w.shown → o.reply ≡ replies.Refused refusal → MediaRow w o
  gives : (count : ℕ) → o.moves ≡ [] → o.reply ≡ replies.Bytes count → MediaRow w o

refused_row : (w : World) (o : Outcome) (refusal : Refusal) → Refuses w o refusal → MediaRow w o
refused_row w o refusal h = MediaRow.refuses refusal h.0 (ap (λ (x : World). x.shown) h.1) h.2

gives_row : (w : World) (o : Outcome) (addr count : ℕ) (of : ZcoObject → Wire) → GivesOf w o addr count of → MediaRow w o
gives_row w o addr count of h =
    from_option (object_at w addr) h (λ _ r. refused_row w o _ r)
    (λ z _ r. from_test (nat_lt longest_read count) r (λ _ f. refused_row w o _ f) (λ _ g. MediaRow.gives _ g.0 g.3))

pub media_row : (w : World) (o : Outcome) (call : Call) → reads_media call ≡ true → ByRow w o call → MediaRow w o
media_row w o (calls.Transmit addr place count) reads h = gives_row w o addr count (wire_part w place count) h
media_row w o (calls.ReceiveHeaders addr place count) reads h = gives_row w o addr count (headers_part w place count) h
media_row w o (calls.ReceiveSource addr place count) reads h = gives_row w o addr count (source_part w place count) h
media_row w o (calls.ReceiveTrailers addr place count) reads h = gives_row w o addr count (trailers_part w place count) h
media_row w o call reads h = absurd (true≢false (sym reads))

-- a call that reads media reads
media_reads : (call : Call) → reads_media call ≡ true → is_reading call ≡ true
media_reads (calls.Transmit addr place count) reads = refl
media_reads (calls.ReceiveHeaders addr place count) reads = refl
media_reads (calls.ReceiveSource addr place count) reads = refl
media_reads (calls.ReceiveTrailers addr place count) reads = refl
media_reads call reads = absurd (true≢false (sym reads))

-- no row is answered by chance
pub whole_chance : (reply : Reply) → is_stop reply ≡ false → is_chance (answers.Reply reply) ≡ false
whole_chance replies.DiskFault whole = whole
whole_chance replies.MediaFault whole = whole
whole_chance (replies.Refused (refusals.SourceShort have want)) whole = whole
whole_chance (replies.Refused (refusals.LogFull lines room)) whole = whole
whole_chance (replies.Refused refusal) whole = refl
whole_chance reply whole = refl

-- a stop is by chance, or for want of a block
pub data StopKind (reply : Reply) (all moves : List Move) : Type 0 where
  by_chance : is_chance (answers.Reply reply) ≡ true → StopKind reply all moves
  lacks : (need : ℕ) → reply ≡ replies.Refused (refusals.NoBlock need) → LackBlock all moves need → StopKind reply all moves

pub stop_kind : (reply : Reply) (call : Call) (all moves : List Move) → StopsWith reply call all moves → StopKind reply all moves
stop_kind (replies.Refused (refusals.NoBlock need)) call all moves s = StopKind.lacks need refl s
stop_kind (replies.Refused (refusals.LogFull lines room)) call all moves s = StopKind.by_chance refl
stop_kind (replies.Refused (refusals.SourceShort have want)) call all moves s = StopKind.by_chance refl
stop_kind (replies.Refused refusal) call all moves s = absurd s
stop_kind replies.MediaFault call all moves s = StopKind.by_chance refl
stop_kind reply call all moves s = absurd s

-- a call that reads media stops with no moves
no_such_list : (done : List Move) (move : Move) (rest : List Move) → [] ≡ done ++ move ∷ rest → ⊥
no_such_list [] move rest e = cc
no_such_list (first ∷ done) move rest e = cc

stop_moves : (w : World) (o : Outcome) (call : Call) → reads_media call ≡ true → Stops w o call → o.moves ≡ []
stop_moves w o call reads stops = by o.reply stops.stopped (aimed (media_row w stops.aim call reads stops.row))
  where
    aimed : MediaRow w stops.aim → stops.aim.moves ≡ []
    aimed (MediaRow.refuses refusal moves after reply) = moves
    aimed (MediaRow.gives count moves reply) = moves

    by : (reply : Reply) → StopsWith reply call stops.aim.moves o.moves → stops.aim.moves ≡ [] → o.moves ≡ []
    by (replies.Refused (refusals.NoBlock need)) s none = absurd (no_such_list s.done (Took need s.addr) s.rest (sym none ∙ s.whole))
    by (replies.Refused (refusals.LogFull lines room)) s none = contrary (media_reads call reads) s.1
    by (replies.Refused (refusals.SourceShort have want)) s none = s.0
    by (replies.Refused refusal) s none = absurd s
    by replies.MediaFault s none = s.0
    by reply s none = absurd s

-- and by chance
stop_chance : (w : World) (o : Outcome) (call : Call) → reads_media call ≡ true → Stops w o call → is_chance (answers.Reply o.reply) ≡ true
stop_chance w o call reads stops = by (stop_kind o.reply call stops.aim.moves o.moves stops.stopped)
  where
    aimed : MediaRow w stops.aim → stops.aim.moves ≡ []
    aimed (MediaRow.refuses refusal moves after reply) = moves
    aimed (MediaRow.gives count moves reply) = moves

    by : StopKind o.reply stops.aim.moves o.moves → is_chance (answers.Reply o.reply) ≡ true
    by (StopKind.by_chance is) = is
    by (StopKind.lacks need is lack) = absurd (no_such_list lack.done (Took need lack.addr) lack.rest (sym (aimed (media_row w stops.aim call reads stops.row)) ∙ lack.whole))

-- how a call was answered in a world
pub record Answered (told : Option Told) (w : World) (call : Call) (reply : Reply) (shown : List ℕ) (answer : Answer) (bytes : List ℕ) : Type 0 where
  pub answer_is : answer ≡ answers.Reply reply
  pub bytes_are : bytes ≡ bytes_given answer shown
  pub media : AgreesWith told w (events.Say call) answer bytes

-- where media tell the bytes, they are those
shown_same : (told : Option Told) (w : World) (call : Call) (count : ℕ) (shown shown' : List ℕ) (answer answer' : Answer) (bytes bytes' : List ℕ) → reads_media call ≡ true
    → Answered told w call (replies.Bytes count) shown answer bytes → Answered told w call (replies.Bytes count) shown' answer' bytes'
    → (told ≡ None → bytes' ≡ bytes) → shown' ≡ shown
shown_same told w call count shown shown' answer answer' bytes bytes' reads one two blind = sym (shown_is answer' bytes' shown' two) ∙ by told one two blind ∙ shown_is answer bytes shown one
  where
    shown_is : (a : Answer) (b s : List ℕ) → Answered told w call (replies.Bytes count) s a b → b ≡ s
    shown_is a b s is = is.bytes_are ∙ ap (λ (x : Answer). bytes_given x s) is.answer_is

    read : (media : Told) (s : List ℕ) (a : Answer) (b : List ℕ) → Answered (Some media) w call (replies.Bytes count) s a b → b ≡ bytes_by media (pieces_asked w call)
    read media s a b is = (subst (λ x. AgreesWith (Some media) w (events.Say call) x b) is.answer_is is.media) reads

    by : (t : Option Told) → Answered t w call (replies.Bytes count) shown answer bytes → Answered t w call (replies.Bytes count) shown' answer' bytes'
        → (t ≡ None → bytes' ≡ bytes) → bytes' ≡ bytes
    by None one two blind = blind refl
    by (Some media) one two blind = read media shown' answer' bytes' two ∙ sym (read media shown answer bytes one)

-- the count of blocks taken is apart
uncounted : (w : World) (o : Outcome) (taken : ℕ) → MediaRow w (record { moves = o.moves; after = record o.after { taken = taken }; reply = o.reply }) → MediaRow w o
uncounted w o taken (MediaRow.refuses refusal moves after reply) = MediaRow.refuses refusal moves after reply
uncounted w o taken (MediaRow.gives count moves reply) = MediaRow.gives count moves reply

-- of two tests one is true where the other is
pub either_first : (a b : Bool) → a ≡ true → (a || b) ≡ true
either_first true b e = refl
either_first false b e = absurd (true≢false (sym e))

pub either_second : (a b : Bool) → b ≡ true → (a || b) ≡ true
either_second true b e = refl
either_second false b e = e

module _ (told : Option Told) (w : World) (call : Call) (o o' : Outcome) (answer answer' : Answer) (bytes bytes' : List ℕ)
    (one : Answered told w call o.reply o.after.shown answer bytes) (two : Answered told w call o'.reply o'.after.shown answer' bytes')
    (blind : told ≡ None → bytes' ≡ bytes) (chance : (is_chance answer || is_chance answer') ≡ true → answer' ≡ answer) where
  -- two rows of one reply show the same
  pub rows_shown : reads_media call ≡ true → o.reply ≡ o'.reply → MediaRow w o → MediaRow w o' → o'.after.shown ≡ o.after.shown
  rows_shown reads same (MediaRow.refuses refusal moves after reply) (MediaRow.refuses other moves' after' reply') = after' ∙ sym after
  rows_shown reads same (MediaRow.refuses refusal moves after reply) (MediaRow.gives count moves' reply') = absurd cc
  rows_shown reads same (MediaRow.gives count moves reply) (MediaRow.refuses other moves' after' reply') = absurd cc
  rows_shown reads same (MediaRow.gives count moves reply) (MediaRow.gives other moves' reply') =
      shown_same told w call count o.after.shown o'.after.shown answer answer' bytes bytes' reads
      (subst (λ r. Answered told w call r o.after.shown answer bytes) reply one)
      (subst (λ r. Answered told w call r o'.after.shown answer' bytes') (sym same ∙ reply) two) blind

  pub replies_same : answer' ≡ answer → o'.reply ≡ o.reply
  replies_same same = let s : answers.Reply o'.reply ≡ answers.Reply o.reply = sym two.answer_is ∙ same ∙ one.answer_is in cc

  -- a row and a stop are no two outcomes of one call
  pub row_or_stop : {R : Type 0} → is_chance (answers.Reply o.reply) ≡ false → is_chance (answers.Reply o'.reply) ≡ true → R
  row_or_stop whole stopped =
      let same : o'.reply ≡ o.reply = replies_same (chance (either_second (is_chance answer) (is_chance answer') (ap is_chance two.answer_is ∙ stopped))) in
      contrary (ap (λ r. is_chance (answers.Reply r)) (sym same) ∙ stopped) whole

  pub stop_or_row : {R : Type 0} → is_chance (answers.Reply o.reply) ≡ true → is_chance (answers.Reply o'.reply) ≡ false → R
  stop_or_row stopped whole =
      let same : o'.reply ≡ o.reply = replies_same (chance (either_first (is_chance answer) (is_chance answer') (ap is_chance one.answer_is ∙ stopped))) in
      contrary (ap (λ r. is_chance (answers.Reply r)) same ∙ stopped) whole

  pub stop_and_stop : is_chance (answers.Reply o.reply) ≡ true → o'.reply ≡ o.reply
  stop_and_stop stopped = replies_same (chance (either_first (is_chance answer) (is_chance answer') (ap is_chance one.answer_is ∙ stopped)))

  pub row_whole : ByRow w o call → is_chance (answers.Reply o.reply) ≡ false
  row_whole row = whole_chance o.reply (row_is_no_stop w o call row)

  -- two outcomes without a heap
  pub bare_same : StepsDry w call o.moves o.after o.reply ⊎ StopsReading w call o.moves o.after o.reply
      → StepsDry w call o'.moves o'.after o'.reply ⊎ StopsReading w call o'.moves o'.after o'.reply → o' ≡ o
  bare_same (inl dry) (inr stops) =
      row_or_stop (whole_chance o.reply (row_is_no_stop w (record { moves = o.moves; after = record o.after { taken = w.taken }; reply = o.reply }) call dry.step))
      (stop_chance w o' call stops.reads stops.stopped)
  bare_same (inr stops) (inl dry) =
      stop_or_row (stop_chance w o call stops.reads stops.stopped)
      (whole_chance o'.reply (row_is_no_stop w (record { moves = o'.moves; after = record o'.after { taken = w.taken }; reply = o'.reply }) call dry.step))
  bare_same (inr stops) (inr others) =
      let none : o.moves ≡ [] = stop_moves w o call stops.reads stops.stopped in
      let also : o'.moves ≡ [] = stop_moves w o' call others.reads others.stopped in
      λ i. record {
        moves = (also ∙ sym none) i;
        after = (others.stopped.same ∙ sym stops.stopped.same) i;
        reply = stop_and_stop (stop_chance w o call stops.reads stops.stopped) i;
      }
  bare_same (inl dry) (inl other) = by (reads_media call) refl
    where
      by : (b : Bool) → reads_media call ≡ b → o' ≡ o
      by false e =
          let same = dry_decides w o.after o'.after call o.moves o'.moves o.reply o'.reply e dry other in
          λ i. record { moves = sym same.0 i; after = sym same.1 i; reply = sym same.2 i }
      by true e =
          let same = dry_decides_but_bytes w o.after o'.after call o.moves o'.moves o.reply o'.reply dry other in
          let shown : o'.after.shown ≡ o.after.shown =
          rows_shown e same.2
          (uncounted w o w.taken (media_row w (record { moves = o.moves; after = record o.after { taken = w.taken }; reply = o.reply }) call e dry.step))
          (uncounted w o' w.taken (media_row w (record { moves = o'.moves; after = record o'.after { taken = w.taken }; reply = o'.reply }) call e other.step)) in
          λ i. record { moves = sym same.0 i; after = (sym (same.1 ∙ (λ j. record o'.after { shown = sym shown j }))) i; reply = sym same.2 i }
