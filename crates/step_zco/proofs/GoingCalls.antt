-- A source that may go, its rows, and one of a raw object that goes.
use Rattle.std.proofs.Common.{◌≡◌, ◌≢◌, ◌∙◌, ℕ, ◌==◌, List, [], ◌∷◌, ◌++◌, Bool, true, false, true≢false, Option, Some, None, refl, sym, ap, subst, arith, append_assoc}
use Rattle.std.specs.Prelude.{is_some}
use Rattle.std.proofs.lemmas.Bool.{eq-eqb, ne_eqb}
use Rattle.step_things.proofs.EntryLemmas.{source_there}
use Rattle.step_things.proofs.RowLemmas.{HasMoves, gave_back, marks_none}
use Rattle.step_things.specs.Answering.{Aim, Answered, IsReady}
use Rattle.sdr_stands.specs.Rows.{medium_of}
use Rattle.sdr_stands.specs.Standing.{HeapStandsFor, entries_of, other_entries, thing_entries, with_taken_marked}
use Rattle.sdr_stands.specs.Ties.{Ties, or_null, ties_of}
use Rattle.sdr_base.proofs.SectionLemmas.{section-gone}
use Rattle.sdr_base.proofs.StandingLemmas.{focused, swaps_before}
use Rattle.sdr_base.specs.Entries.{Changes, Entries, BlocksAre, Swaps}
use Rattle.sdr_base.specs.Making.{Made}
use Rattle.sdr_base.specs.Objects.{Heap}
use Rattle.sdr_base.specs.Raws.{raw_entries}
use Rattle.sdr_base.specs.Section.{section}
use Rattle.sdr_base.specs.declared.moves.Move.{Move}
use Rattle.sdr_base.specs.declared.moves.Move.TheVariants.{Gave}
use Rattle.law_steps.proofs.SourceViews.{apart_at, by_addr, here_at}
use Rattle.sdr_machine.proofs.WorkLemmas.{on_false, on_some, on_true}
use Rattle.sdr_model.proofs.ThingsLemmas.{get-removed}
use Rattle.sdr_model.specs.Rows.{ByRow}
use Rattle.sdr_model.specs.SourceSteps.{flagged}
use Rattle.sdr_model.specs.Steps.{Outcome, with_thing, without_thing}
use Rattle.sdr_model.specs.Valid.{FitTogether}
use Rattle.sdr_model.specs.World.{World, as_raw, thing_at}
use Rattle.sdr_model.specs.Zco.{as_object, as_source, is_of_raw, source_at, source_naming, taken_over, uses_of}
use Rattle.sdr_model.specs.declared.answer.Reply.TheVariants as replies
use Rattle.sdr_model.specs.declared.call.Call.TheVariants as calls
use Rattle.sdr_model.specs.declared.things.Thing.{Thing}
use Rattle.sdr_model.specs.declared.things.Thing.TheVariants as things
use Rattle.sdr_model.specs.declared.zco.Subject.{Subject}
use Rattle.sdr_model.specs.declared.zco.Subject.TheVariants as subjects
use Rattle.sdr_model.specs.declared.zco.ZcoSource.{ZcoSource}
use Rattle.zco_ref.specs.Going.{is_owner}
use Rattle.zco_ref.specs.Kept.{counted_entries}
use Rattle.step_zco.proofs.NamedLemmas.{SameSources, naming_of, named_at, same_named, ties_but}
use Rattle.step_zco.proofs.NamingCalls.{alike_but, put_here}
use Rattle.step_zco.proofs.RetiedLemmas.{retied}
use Rattle.step_zco.proofs.SourceLemmas.{counted_in}
use Rattle.step_zco.proofs.StepLemmas.{IsFree, all_changed, answered_later, fits_later, roots_kept}
use Rattle.step_zco.proofs.UsesLemmas.{same_counts}

-- a source has taken over a raw object by its medium or by its subject
pub owner_told : (subject : Subject) → is_some (taken_over subject) ≡ is_owner (medium_of subject)
owner_told (subjects.File path) = refl
owner_told (subjects.Bulk item) = refl
owner_told (subjects.Heap raw) = refl
owner_told (subjects.Obj raw) = refl

-- a source that may go
pub record MayGoAt (w : World) (addr : ℕ) (source : ZcoSource) : Type 0 where
  pub there : thing_at w addr ≡ Some (things.Source source)
  pub free : is_owner (medium_of source.subject) ≡ false
  pub unflagged : source.flagged ≡ false

-- the rows of a source that goes, and of one that is flagged
abbrev pub gone_outcome : World → ℕ → Outcome
gone_outcome w addr = record {
  moves = Gave addr ∷ [];
  after = with_taken_marked (without_thing w addr) (Gave addr ∷ []);
  reply = replies.Done;
}

abbrev pub flagged_outcome : World → ℕ → ZcoSource → Outcome
flagged_outcome w addr source = record {
  moves = [];
  after = with_taken_marked (with_thing w addr (things.Source (flagged source))) [];
  reply = replies.Done;
}

pub gone_row : (w : World) (addr : ℕ) (source : ZcoSource) → MayGoAt w addr source → (uses_of w addr == 0) ≡ true →
    ByRow w (gone_outcome w addr) (calls.DestroyRef addr)
gone_row w addr source m unused =
    on_some _ _ (source_at w addr) source (ap as_source m.there)
    (on_false _ _ _ (owner_told source.subject ∙ m.free)
    (on_false _ _ _ m.unflagged
    (on_true _ _ _ unused (refl, marks_none (without_thing w addr) (Gave addr ∷ []) refl, refl))))

pub flagged_row : (w : World) (addr : ℕ) (source : ZcoSource) → MayGoAt w addr source → (uses_of w addr == 0) ≡ false →
    ByRow w (flagged_outcome w addr source) (calls.DestroyRef addr)
flagged_row w addr source m used =
    on_some _ _ (source_at w addr) source (ap as_source m.there)
    (on_false _ _ _ (owner_told source.subject ∙ m.free)
    (on_false _ _ _ m.unflagged
    (on_false _ _ _ used (refl, marks_none (with_thing w addr (things.Source (flagged source))) [] refl, refl))))

-- so the call would be answered
pub aim : (w : World) (addr : ℕ) (source : ZcoSource) → MayGoAt w addr source → Aim w (calls.DestroyRef addr)
aim w addr source m = by (uses_of w addr == 0) refl
  where
    by : (b : Bool) → (uses_of w addr == 0) ≡ b → Aim w (calls.DestroyRef addr)
    by true is = record { to = gone_outcome w addr; row = gone_row w addr source m is; answered = refl }
    by false is = record { to = flagged_outcome w addr source; row = flagged_row w addr source m is; answered = refl }

pub free : (w : World) (addr : ℕ) → IsFree w (calls.DestroyRef addr)
free w addr = record { charge = λ acct space. omega arith; release = λ acct space. refl }

-- a call on a heap that stands for a world in which it is served
module _ (old new : Heap) (w : World) (unmoved : old.moves ≡ []) (s : HeapStandsFor old w) (served : IsReady w) where
  -- one of a raw object that stays with its owner is gone, and no source names that
  module _ (addr raw : ℕ) (bytes : List ℕ) (source : ZcoSource) (of : source.subject ≡ subjects.Obj raw) (m : MayGoAt w addr source)
      (unused : (uses_of w addr == 0) ≡ true) (there : thing_at w raw ≡ Some (things.Raw bytes))
      (changes : Changes old.blocks new.blocks (counted_entries addr (counted_in w addr source) ++ raw_entries raw addr bytes)
      (raw_entries raw 0 bytes))
      (made : Made (Gave addr ∷ []) old new) where
    abbrev pub after : World
    after = without_thing w addr

    abbrev pub moves : List Move
    moves = Gave addr ∷ []

    row : ByRow w (gone_outcome w addr) (calls.DestroyRef addr)
    row = gone_row w addr source m unused

    has : HasMoves w moves new
    has = (gave_back w (addr ∷ []) old new unmoved made).has

    fits : FitTogether after
    fits = fits_later w after.things (calls.DestroyRef addr) moves replies.Done served.whole has.fresh row refl

    named : source_naming w raw ≡ Some addr
    named =
        named_at w raw addr source served.whole.fits m.there
        (ap (is_of_raw raw) of ∙ eq-eqb raw raw refl)

    apart : raw ≢ addr
    apart same =
        let d : Some bytes ≡ None = sym (ap as_raw there) ∙ ap (λ (a : ℕ). as_raw (thing_at w a)) same ∙ ap as_raw m.there in cc

    -- no source of the raw object is left
    none : source_naming after raw ≡ None
    none = by (source_naming after raw) refl
      where
        by : (o : Option ℕ) → source_naming after raw ≡ o → source_naming after raw ≡ None
        by None is = is
        by (Some a) is =
            let n = source_there after raw a is in
            by_addr a addr
            (λ here.
            let d : None ≡ Some (things.Source n.source) =
            sym (here_at w.things addr None) ∙ ap (thing_at after) (sym here) ∙ n.there in cc)
            (λ other.
            let e : Some addr ≡ Some a =
            sym named
            ∙ named_at w raw a n.source served.whole.fits (sym (apart_at w.things addr None a other) ∙ n.there) n.named in
            absurd (other (let same : addr ≡ a = cc in sym same)))

    -- those of another raw object are the same
    same_sources : (q : ℕ) → q ≢ raw → SameSources w after q
    same_sources q other = record {
      there = λ a t at names.
          apart_at w.things addr None a
          (λ here.
          let d : Some source ≡ Some t = ap as_source (sym m.there ∙ ap (thing_at w) (sym here) ∙ at) in
          let e : source ≡ t = cc in
          true≢false (sym names ∙ ap (λ (u : ZcoSource). is_of_raw q u.subject) (sym e) ∙ ap (is_of_raw q) of
          ∙ ne_eqb raw q (λ same. other (sym same)))) ∙ at;
      back = λ a t at names.
          by_addr a addr
          (λ here.
          let d : None ≡ Some (things.Source t) = sym (here_at w.things addr None) ∙ ap (thing_at after) (sym here) ∙ at in cc)
          (λ away. sym (apart_at w.things addr None a away) ∙ at);
    }

    -- the things are tied as they were, but that no source names the raw object
    ties : ties_of after ≡ naming_of (ties_of w) raw 0
    ties =
        ties_but w after raw 0 (ap or_null none)
        (λ q other. same_named w after q served.whole.fits fits (same_sources q other))
        (λ q acct. same_counts w addr None q acct (ap as_object m.there) refl)

    abbrev f : ℕ → Thing → Entries
    f = thing_entries (ties_of w)

    abbrev g : ℕ → Thing → Entries
    g = thing_entries (naming_of (ties_of w) raw 0)

    -- the source's block goes, and the raw object's changes
    part : Changes old.blocks new.blocks (f addr (things.Source source) ++ f raw (things.Raw bytes)) ([] ++ g raw (things.Raw bytes))
    part =
        subst (λ (n : ℕ). Changes old.blocks new.blocks (f addr (things.Source source) ++ raw_entries raw n bytes) (g raw (things.Raw bytes)))
        (sym (ap or_null named))
        (subst (λ (n : ℕ). Changes old.blocks new.blocks (f addr (things.Source source) ++ raw_entries raw addr bytes) (raw_entries raw n bytes))
        (sym (put_here (ties_of w).named_by raw 0)) changes)

    becomes : (rest : Entries) → BlocksAre old.blocks (entries_of w ++ rest) → BlocksAre new.blocks
        (entries_of after ++ rest)
    becomes rest st =
        let others = other_entries w ++ rest in
        let one : BlocksAre old.blocks (section f w.things ++ others) =
        subst (λ (es : Entries). BlocksAre old.blocks es) (append_assoc (section f w.things) (other_entries w) rest)
        st in
        let swap : Swaps (section f w.things ++ others) (section f after.things ++ others) (f addr (things.Source source)) [] =
        swaps_before others (section-gone f w.things addr (things.Source source) m.there) in
        let two : BlocksAre old.blocks (f addr (things.Source source) ++ (section f after.things ++ others)) =
        subst (λ (es : Entries). BlocksAre old.blocks (f addr (things.Source source) ++ es)) (sym swap.is) (focused swap one) in
        let three : BlocksAre new.blocks ([] ++ (section g after.things ++ others)) =
        retied f g raw (alike_but w raw 0) after.things (things.Raw bytes) (f addr (things.Source source)) [] others
        (apart_at w.things addr None raw apart ∙ there) (get-removed after.things raw) part two in
        subst (λ (t : Ties). BlocksAre new.blocks ((section (thing_entries t) after.things ++ other_entries w) ++ rest)) (sym ties)
        (subst (λ (es : Entries). BlocksAre new.blocks es) (sym (append_assoc (section g after.things) (other_entries w) rest)) three)

    pub obj_gone : Answered w (calls.DestroyRef addr) new [] replies.Done
    obj_gone =
        answered_later w after.things (calls.DestroyRef addr) moves replies.Done served.whole has.fresh row refl has.is has.words
        (all_changed after moves s (record { kept = becomes }) made
        (roots_kept w after.things (calls.DestroyRef addr) moves replies.Done served.whole has.fresh row refl (free w addr)) refl)
