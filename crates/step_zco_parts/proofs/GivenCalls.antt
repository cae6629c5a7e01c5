-- Calls that read the bytes of objects, as steps.
use Rattle.std.proofs.Common.{◌≡◌, ◌∙◌, ◌≤◌, ◌<◌, ℕ, true, false, true≢false, List, [], Option, Some, None, IfSome, Err, length, take, inl, inr, refl, sym, ap, subst, arith, nat_lt}
use Rattle.std.proofs.lemmas.Bool.{le-ltb, lt-ltb}
use Rattle.step_things.proofs.ListLemmas.{IsSmall}
use Rattle.step_things.proofs.RowLemmas.{misnamed_refused, row_refused, shows, unmoved_answered}
use Rattle.step_things.specs.Answering.{Aim, Answered, IsRefused, IsReady}
use Rattle.sdr_stands.specs.Rows.{object_row}
use Rattle.sdr_stands.specs.Standing.{HeapStandsFor}
use Rattle.sdr_base.specs.Blocks.{Blocks}
use Rattle.sdr_base.specs.Media.{Told}
use Rattle.sdr_base.specs.Objects.{Heap, Misses}
use Rattle.sdr_base.specs.declared.kind.Kind.TheVariants as kinds
use Rattle.sdr_base.specs.declared.media.Media.{Ghosts}
use Rattle.sdr_base.specs.declared.refusal.Refusal.{Refusal}
use Rattle.sdr_base.specs.declared.refusal.Refusal.TheVariants as refusals
use Rattle.sdr_base.specs.declared.stop.Stop.{Stop}
use Rattle.sdr_base.specs.declared.stop.Stop.TheVariants as stops
use Rattle.sdr_gather.specs.Gathering.{AreGathered}
use Rattle.sdr_machine.proofs.WorkLemmas.{on_false, on_some, on_true}
use Rattle.sdr_machine.specs.Agreeing.{AgreesWith, IsFirstShort}
use Rattle.sdr_model.proofs.PiecesLemmas.{Spells-filled, length-spelled, pieces_told-part, row-asked}
use Rattle.sdr_model.specs.Limits.{longest_read}
use Rattle.sdr_model.specs.Pieces.{asked_addr, asked_count, bytes_by, extent_pieces, filled, part_asked, part_pieces, pieces_asked, pieces_of}
use Rattle.sdr_model.specs.Reading.{reads_media}
use Rattle.sdr_model.specs.Rows.{ByRow}
use Rattle.sdr_model.specs.Step.{Stops, StopsWith}
use Rattle.sdr_model.specs.Steps.{Outcome}
use Rattle.sdr_model.specs.Wire.{GivesBytes, Spells, ToldBytes}
use Rattle.sdr_model.specs.World.{World}
use Rattle.sdr_model.specs.Zco.{as_object, object_at}
use Rattle.sdr_model.specs.declared.answer.Answer.TheVariants as answers
use Rattle.sdr_model.specs.declared.answer.Reply.TheVariants as replies
use Rattle.sdr_model.specs.declared.call.Call.{Call}
use Rattle.sdr_model.specs.declared.event.Event.TheVariants as events
use Rattle.sdr_model.specs.declared.piece.Piece.{Piece}
use Rattle.sdr_model.specs.declared.zco.ZcoObject.{ZcoObject}
use Rattle.step_zco.proofs.ObjectLemmas.{IsObjectAt, no_object, object_is_at}
use Rattle.step_zco_parts.specs.Giving.{AgreesRead, CountStops, MissesMedia, ReadsCall, asked_by, may_read}
use Rattle.step_zco_parts.proofs.WireKeptLemmas.{asked_same, wire_kept}
use Rattle.zco_wire.specs.Stopping.{ReadStops, StopsObject, StopsPieces}

-- the outcome of a call that gives these bytes
abbrev pub gives_outcome : World → List ℕ → Outcome
gives_outcome w bytes = record { moves = []; after = record w { shown = bytes }; reply = replies.Bytes (length bytes) }

-- a read that was refused for another reason than too few bytes of media has not asked them
pub read_unasked : {M : Type 0} (m : Ghosts M) (blocks : Blocks) (call : Call) → reads_media call ≡ true → (was now : M) (stop : Stop) →
    ReadStops m blocks (asked_addr call) (asked_count call) (asked_by call) was now stop → may_read call (Err stop) ≡ false → now ≡ was
read_unasked m blocks call reads was now (stops.Refused (refusals.SourceShort have want)) r none = absurd (true≢false (sym reads ∙ none))
read_unasked m blocks call reads was now (stops.Refused (refusals.BadAddress addr)) r none = r.0
read_unasked m blocks call reads was now (stops.Refused (refusals.WrongKind addr number)) r none = r.0
read_unasked m blocks call reads was now (stops.Refused (refusals.BadLength bytes most)) r none = r.4
read_unasked m blocks call reads was now (stops.Refused refusal) r none = absurd r
read_unasked m blocks call reads was now stops.MediaFault r none = absurd (true≢false (sym reads ∙ none))
read_unasked m blocks call reads was now stop r none = absurd (true≢false (sym reads ∙ none))

-- a call on a heap that stands for a world in which it is served, of at most a page
module _ (old new : Heap) (w : World) (unmoved : old.moves ≡ []) (s : HeapStandsFor old w) (served : IsReady w) (small : IsSmall old)
    (same : new ≡ old) (call : Call) (reads : reads_media call ≡ true) where
  -- the row of the call, where its object is there
  row_there : (o : Outcome) (z : ZcoObject) → object_at w (asked_addr call) ≡ Some z → asked_count call ≤ longest_read →
      GivesBytes w o (part_asked w call z) → ByRow w o call
  row_there o z is few gives =
      row-asked w o call reads
      (on_some _ _ (object_at w (asked_addr call)) z is
      (on_false _ _ (nat_lt longest_read (asked_count call)) (le-ltb longest_read (asked_count call) few) gives))

  -- what was read of the object that is there
  module _ (at : IsObjectAt w (asked_addr call)) where
    abbrev z : ZcoObject
    z = at.object

    there : object_at w (asked_addr call) ≡ Some z
    there = ap as_object at.there

    -- its pieces
    pub pieces_are : pieces_asked w call ≡ part_pieces w call z
    pieces_are = ap (λ (o : Option ZcoObject). pieces_of o (part_pieces w call)) there

    pub gathered_of : (told : Option Told) (into : List ℕ) (given : ℕ) → ReadsCall told old.blocks (asked_addr call) call into given →
        AreGathered told (part_pieces w call z) (take given into)
    gathered_of told into given r =
        subst (λ (ps : List Piece). AreGathered told ps (take given into)) (asked_same w call z)
        (r.gives (object_row z) (extent_pieces w z.extents) (wire_kept old w s served small (asked_addr call) z at.there))

    spelled : (told : Option Told) (bytes : List ℕ) → AreGathered told (part_pieces w call z) bytes → Spells (part_asked w call z) bytes
    spelled told bytes g = subst (λ (t : ToldBytes). Spells t bytes) (pieces_told-part w call z) g.known

    pub given_answered : (told : Option Told) (bytes : List ℕ) (given : ℕ) → asked_count call ≤ longest_read → length bytes ≡ given →
        AreGathered told (part_pieces w call z) bytes → Answered w call new bytes (replies.Bytes given)
    given_answered told bytes given few long g =
        let spells = spelled told bytes g in
        unmoved_answered w (record w { shown = bytes }) call new bytes (replies.Bytes given) (ap (λ (h : Heap). h.moves) same ∙ unmoved)
        (row_there (record { moves = []; after = record w { shown = bytes }; reply = replies.Bytes given }) z there few
        (refl, refl, spells, ap (λ (n : ℕ). replies.Bytes n) (sym long ∙ length-spelled (part_asked w call z) bytes spells)))
        refl (shows old new w bytes same s) refl refl

    pub given_agrees : (told : Option Told) (bytes : List ℕ) (given : ℕ) → AreGathered told (part_pieces w call z) bytes →
        AgreesWith told w (events.Say call) (answers.Reply (replies.Bytes given)) bytes
    given_agrees None bytes given g = tt
    given_agrees (Some media) bytes given g = λ read. g.held ∙ ap (bytes_by media) (sym pieces_are)

    -- the call would have been answered by its row
    pub aim_of : asked_count call ≤ longest_read → Aim w call
    aim_of few =
        let told = part_asked w call z in
        let spells = Spells-filled told in
        record {
          to = gives_outcome w (filled told);
          row = row_there (gives_outcome w (filled told)) z there few
              (refl, refl, spells, ap (λ (n : ℕ). replies.Bytes n) (length-spelled told (filled told) spells));
          answered = refl;
        }

    -- so it stops on its way there
    stopped : (o : Outcome) → asked_count call ≤ longest_read → o.after ≡ w → StopsWith o.reply call [] o.moves → Stops w o call
    unfolding aim_of
    stopped o few after with =
        let aim = aim_of few in
        record {
          aim = aim.to;
          row = aim.row;
          answered = aim.answered;
          stopped = with;
          same = after;
        }

    pub short_refused : (was : List ℕ) (have want : ℕ) → asked_count call ≤ longest_read → have < want →
        IsRefused w call old new was was (refusals.SourceShort have want)
    short_refused was have want few less = record {
      step =
          inr (stopped (record { moves = new.moves; after = w; reply = replies.Refused (refusals.SourceShort have want) }) few refl
          (ap (λ (h : Heap). h.moves) same ∙ unmoved, reads, less));
      left = λ read. same;
      gave = refl;
    }

    -- why it wasn't read
    stops_asked : {M : Type 0} (m : Ghosts M) (was now : M) (stop : Stop) → StopsObject m old.blocks (asked_addr call) (asked_by call) was now stop →
        StopsPieces m (pieces_asked w call) was now stop
    stops_asked m was now stop s' =
        subst (λ (ps : List Piece). StopsPieces m ps was now stop) (asked_same w call z ∙ sym pieces_are)
        (s'.stops (object_row z) (extent_pieces w z.extents) (wire_kept old w s served small (asked_addr call) z at.there))

  -- the object isn't there
  missing : (page : List ℕ) (refusal : Refusal) → Misses (old.blocks (asked_addr call)) (asked_addr call) kinds.Object (stops.Refused refusal) →
      IsRefused w call old new page page refusal
  missing page refusal m =
      misnamed_refused w call (asked_addr call) kinds.Object (object_at w (asked_addr call)) _ old new page (λ o h. row-asked w o call reads h)
      (no_object old w (asked_addr call) s served.whole.valid) unmoved same s served.whole.valid refusal m

  -- a call that wasn't answered, in words of the world
  module _ {M : Type 0} (m : Ghosts M) (was now : M) (few : asked_count call ≤ longest_read) where
    abbrev Stopped : Stop → Type 0
    Stopped stop = ReadStops m old.blocks (asked_addr call) (asked_count call) (asked_by call) was now stop

    pub read_refused : (page : List ℕ) (refusal : Refusal) → Stopped (stops.Refused refusal) → IsRefused w call old new page page refusal
    read_refused page (refusals.SourceShort have want) r =
        let at = object_is_at old w (asked_addr call) s served r.0 in
        short_refused at page have want few (stops_asked at m was now (stops.Refused (refusals.SourceShort have want)) r.2).0
    read_refused page (refusals.BadLength bytes most) r = absurd (let more = r.1 in omega (arith, few, more))
    read_refused page (refusals.BadAddress addr) r = missing page (refusals.BadAddress addr) r.1
    read_refused page (refusals.WrongKind addr number) r = missing page (refusals.WrongKind addr number) r.1
    read_refused page refusal r = absurd r

    pub refused_agrees : (page : List ℕ) (told : Option Told) → told ≡ m.told was → (stop : Stop) → Stopped stop →
        AgreesRead told w call (Err stop) page
    refused_agrees page told e (stops.Refused (refusals.SourceShort have want)) r =
        let at = object_is_at old w (asked_addr call) s served r.0 in
        let first = (stops_asked at m was now (stops.Refused (refusals.SourceShort have want)) r.2).2 in
        by told (subst (λ (t : Option Told). IfSome t (λ media. IsFirstShort media (pieces_asked w call) have want)) (sym e) first)
      where
        by : (t : Option Told) → IfSome t (λ media. IsFirstShort media (pieces_asked w call) have want) →
            AgreesWith t w (events.Say call) (answers.Reply (replies.Refused (refusals.SourceShort have want))) []
        by None first = tt
        by (Some media) first = λ read. first
    refused_agrees page None e (stops.Refused refusal) r = tt
    refused_agrees page (Some media) e (stops.Refused refusal) r = λ read. tt
    refused_agrees page told e stop r = tt

    pub refused_misses : (stop : Stop) → Stopped stop → MissesMedia m w call was now (Err stop)
    refused_misses (stops.Refused (refusals.SourceShort have want)) r =
        let at = object_is_at old w (asked_addr call) s served r.0 in
        let g = stops_asked at m was now (stops.Refused (refusals.SourceShort have want)) r.2 in
        (g.1.0, g.0, g.1.1)
    refused_misses stops.MediaFault r =
        let at = object_is_at old w (asked_addr call) s served r.0 in
        let g = stops_asked at m was now stops.MediaFault r.2 in
        (aim_of at few, g.0, g.1)
    refused_misses stop r = tt

  -- too many bytes are asked
  pub count_refused : (page : List ℕ) (refusal : Refusal) → CountStops old.blocks (asked_addr call) (asked_count call) (stops.Refused refusal) →
      IsRefused w call old new page page refusal
  count_refused page (refusals.BadLength bytes most) r =
      let at = object_is_at old w (asked_addr call) s served r.0 in
      record {
        step =
            inl (row_refused w call new (refusals.BadLength bytes most) (ap (λ (h : Heap). h.moves) same ∙ unmoved)
            (row-asked w _ call reads
            (on_some _ _ (object_at w (asked_addr call)) at.object (ap as_object at.there)
            (on_true _ _ (nat_lt longest_read (asked_count call)) (lt-ltb longest_read (asked_count call) r.1) (
              refl,
              refl,
              ap (λ n. replies.Refused (refusals.BadLength n most)) r.2
                  ∙ ap (λ n. replies.Refused (refusals.BadLength (asked_count call) n)) r.3,
            )))));
        left = λ read. same;
        gave = refl;
      }
  count_refused page refusal r = missing page refusal r

  pub count_agrees : (page : List ℕ) (told : Option Told) (stop : Stop) → CountStops old.blocks (asked_addr call) (asked_count call) stop →
      AgreesRead told w call (Err stop) page
  count_agrees page told (stops.Refused (refusals.SourceShort have want)) r = absurd r
  count_agrees page None (stops.Refused refusal) r = tt
  count_agrees page (Some media) (stops.Refused refusal) r = λ read. tt
  count_agrees page told stop r = tt
