-- Calls on strings, as steps.
use Rattle.std.proofs.Common.{◌≡◌, ◌∙◌, ◌≤◌, ℕ, List, [], ◌∷◌, true, false, inl, Some, refl, sym, ap, subst, arith, length, take, nat_lt}
use Rattle.std.proofs.lemmas.Bool.Decides.{nat_tests}
use Rattle.step_things.proofs.RowLemmas.{looked, misnamed_refused, short_refused, thing_made}
use Rattle.step_things.proofs.TextLemmas.{no_text, text_is_at}
use Rattle.step_things.specs.Answering.{Answered, IsRefused, IsReady}
use Rattle.sdr_stands.specs.Standing.{HeapStandsFor, with_taken_marked}
use Rattle.sdr_base.specs.Objects.{Heap, Misses}
use Rattle.sdr_base.specs.declared.kind.Kind.TheVariants as kinds
use Rattle.sdr_base.specs.declared.moves.Move.TheVariants.{Took}
use Rattle.sdr_base.specs.declared.refusal.Refusal.{Refusal}
use Rattle.sdr_base.specs.declared.refusal.Refusal.TheVariants as refusals
use Rattle.sdr_base.specs.declared.stop.Stop.TheVariants as stops
use Rattle.sdr_machine.proofs.WorkLemmas.{on_false, on_some, on_true}
use Rattle.sdr_model.specs.Limits.{longest_string}
use Rattle.sdr_model.specs.Rows.{ByRow}
use Rattle.sdr_model.specs.Steps.{Outcome, with_thing}
use Rattle.sdr_model.specs.Things.{text_need}
use Rattle.sdr_model.specs.World.{World, as_text, thing_at}
use Rattle.sdr_model.specs.declared.answer.Reply.TheVariants as replies
use Rattle.sdr_model.specs.declared.call.Call.TheVariants as calls
use Rattle.sdr_model.specs.declared.things.Thing.TheVariants as things
use Rattle.sdr_string.specs.Calls.{DupStops, DupsString, MakesString, ReadsString, StringStops, TellsLength}

-- a string was made at an address
abbrev pub string_outcome : World → List ℕ → ℕ → Outcome
string_outcome w text addr = record {
  moves = Took (text_need (length text)) addr ∷ [];
  after = with_taken_marked (with_thing w addr (things.Text text)) (Took (text_need (length text)) addr ∷ []);
  reply = replies.At addr;
}

-- the row of a string that isn't too long
string_row : (w : World) (text : List ℕ) (addr : ℕ) → length text ≤ longest_string
    → ByRow w (string_outcome w text addr) (calls.String text)
string_row w text addr short =
    let fits : nat_lt longest_string (length text) ≡ false = grind (arith, nat_tests, short) in
    on_false _ _ _ fits (refl, (refl, refl))

pub string_answered : (text : List ℕ) (addr : ℕ) (old new : Heap) (w : World) → old.moves ≡ [] → MakesString text addr old new
    → HeapStandsFor old w → IsReady w → Answered w (calls.String text) new [] (replies.At addr)
string_answered text addr old new w unmoved makes s served =
    thing_made w (calls.String text) (text_need (length text)) addr (things.Text text) old new unmoved s served.whole.valid tt
    makes.makes
    (string_row w text addr makes.short)

pub string_refused : (text : List ℕ) (old new : Heap) (w : World) (was : List ℕ) (refusal : Refusal) → old.moves ≡ []
    → StringStops text old new (stops.Refused refusal) → IsRefused w (calls.String text) old new was was refusal
string_refused text old new w was (refusals.BadLength count most) unmoved m = record {
  step =
      let long : nat_lt longest_string (length text) ≡ true = grind (arith, nat_tests, m.2) in
      inl (on_true _ _ _ long (
        ap (λ (h : Heap). h.moves) m.3 ∙ unmoved,
        refl,
        λ i. replies.Refused
            (refusals.BadLength (m.0 i) (m.1 i)),
      ));
  left = λ reads. m.3;
  gave = refl;
}
string_refused text old new w was refusal unmoved m =
    short_refused w (calls.String text) (text_need (length text)) old new was refusal refl
    (record { after = _; reply = _; row = string_row w text 0 m.0; answered = refl }) unmoved m.1

pub string_length_answered : (addr value : ℕ) (old new : Heap) (w : World) → old.moves ≡ [] → new ≡ old
    → TellsLength (old.blocks addr) value
    → HeapStandsFor old w → IsReady w → Answered w (calls.StringLength addr) new [] (replies.Value value)
string_length_answered addr value old new w unmoved same told s served =
    let t = text_is_at old w addr s served.whole.valid told.kind in
    looked w (calls.StringLength addr) addr (as_text (thing_at w addr)) (λ text. []) (λ text. replies.Value (length text)) t.text
    old new
    (replies.Value value) (λ o h. h) (ap as_text t.there) (ap (λ n. replies.Value n) (told.tells t.text t.keeps)) refl unmoved
    same s

pub string_length_refused : (addr : ℕ) (old new : Heap) (w : World) (was : List ℕ) (refusal : Refusal) → old.moves ≡ []
    → new ≡ old
    → HeapStandsFor old w → IsReady w → Misses (old.blocks addr) addr kinds.Text (stops.Refused refusal)
    → IsRefused w (calls.StringLength addr) old new was was refusal
string_length_refused addr old new w was refusal unmoved same s served m =
    misnamed_refused w (calls.StringLength addr) addr kinds.Text (as_text (thing_at w addr)) _ old new was (λ o h. h)
    (no_text old w addr s served.whole.valid) unmoved same s served.whole.valid refusal m

pub string_read_answered : (addr count : ℕ) (into : List ℕ) (old new : Heap) (w : World) → old.moves ≡ [] → new ≡ old
    → ReadsString (old.blocks addr) count into → HeapStandsFor old w → IsReady w
    → Answered w (calls.StringRead addr) new (take count into) (replies.Bytes count)
string_read_answered addr count into old new w unmoved same reads s served =
    let t = text_is_at old w addr s served.whole.valid reads.kind in
    subst (λ (shown : List ℕ). Answered w (calls.StringRead addr) new shown (replies.Bytes count))
    (sym (reads.text t.text t.keeps))
    (looked w (calls.StringRead addr) addr (as_text (thing_at w addr)) (λ text. text) (λ text. replies.Bytes (length text)) t.text
    old new
    (replies.Bytes count) (λ o h. h) (ap as_text t.there) (ap (λ n. replies.Bytes n) (reads.tells t.text t.keeps)) refl unmoved
    same s)

pub string_read_refused : (addr : ℕ) (old new : Heap) (w : World) (was : List ℕ) (refusal : Refusal) → old.moves ≡ [] → new ≡ old
    → HeapStandsFor old w → IsReady w → Misses (old.blocks addr) addr kinds.Text (stops.Refused refusal)
    → IsRefused w (calls.StringRead addr) old new was was refusal
string_read_refused addr old new w was refusal unmoved same s served m =
    misnamed_refused w (calls.StringRead addr) addr kinds.Text (as_text (thing_at w addr)) _ old new was (λ o h. h)
    (no_text old w addr s served.whole.valid) unmoved same s served.whole.valid refusal m

-- the row of a copy of a string
dup_row : (w : World) (string : ℕ) (text : List ℕ) (addr : ℕ) → thing_at w string ≡ Some (things.Text text)
    → ByRow w (string_outcome w text addr) (calls.StringDup string)
dup_row w string text addr there = on_some _ _ (as_text (thing_at w string)) text (ap as_text there) (refl, (refl, refl))

pub string_dup_answered : (string addr : ℕ) (old new : Heap) (w : World) → old.moves ≡ []
    → DupsString (old.blocks string) addr old new
    → HeapStandsFor old w → IsReady w → Answered w (calls.StringDup string) new [] (replies.At addr)
string_dup_answered string addr old new w unmoved dups s served =
    let t = text_is_at old w string s served.whole.valid dups.kind in
    thing_made w (calls.StringDup string) (text_need (length t.text)) addr (things.Text t.text) old new unmoved s
    served.whole.valid tt
    (dups.makes t.text t.keeps).makes (dup_row w string t.text addr t.there)

pub string_dup_refused : (string : ℕ) (old new : Heap) (w : World) (was : List ℕ) (refusal : Refusal) → old.moves ≡ []
    → HeapStandsFor old w → IsReady w → DupStops (old.blocks string) string old new (stops.Refused refusal)
    → IsRefused w (calls.StringDup string) old new was was refusal
string_dup_refused string old new w was (refusals.BadAddress bad) unmoved s served m =
    misnamed_refused w (calls.StringDup string) string kinds.Text (as_text (thing_at w string)) _ old new was (λ o h. h)
    (no_text old w string s served.whole.valid) unmoved m.1 s served.whole.valid (refusals.BadAddress bad) m.0
string_dup_refused string old new w was (refusals.WrongKind bad number) unmoved s served m =
    misnamed_refused w (calls.StringDup string) string kinds.Text (as_text (thing_at w string)) _ old new was (λ o h. h)
    (no_text old w string s served.whole.valid) unmoved m.1 s served.whole.valid (refusals.WrongKind bad number) m.0
string_dup_refused string old new w was refusal unmoved s served m =
    let t = text_is_at old w string s served.whole.valid m.kind in
    short_refused w (calls.StringDup string) (text_need (length t.text)) old new was refusal refl
    (record { after = _; reply = _; row = dup_row w string t.text 0 t.there; answered = refl }) unmoved (m.lacks t.text t.keeps)
