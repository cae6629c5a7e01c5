-- A source of a raw object that is made, as a step.
use Rattle.std.proofs.Common.{◌≡◌, ◌≢◌, ◌∙◌, ℕ, cond, List, [], ◌∷◌, ◌++◌, Bool, true≢false, Option, Some, None, inl, length, refl, sym, ap, subst, arith, append_assoc}
use Rattle.std.proofs.lemmas.Bool.{eq-eqb, ne_eqb}
use Rattle.step_things.proofs.EntryLemmas.{source_there}
use Rattle.step_things.proofs.ListLemmas.{IsSmall}
use Rattle.step_things.proofs.RawLemmas.{no_raw}
use Rattle.step_things.proofs.RowLemmas.{HasMoves, misnamed_refused, row_refused, short_refused, took_one}
use Rattle.step_things.specs.Answering.{Answered, IsRefused, IsReady}
use Rattle.sdr_stands.proofs.ChangeLemmas.{in_use, nothing_at}
use Rattle.sdr_stands.specs.Rows.{source_row}
use Rattle.sdr_stands.specs.Standing.{HeapStandsFor, entries_of, other_entries, thing_entries}
use Rattle.sdr_stands.specs.Ties.{Ties, or_null, ties_of}
use Rattle.sdr_base.proofs.SectionLemmas.{section-new}
use Rattle.sdr_base.proofs.StandingLemmas.{at-nowhere, swaps_before, unfocused}
use Rattle.sdr_base.specs.Blocks.{with_at}
use Rattle.sdr_base.specs.Entries.{Adds, Changes, Entries, BlocksAre, Swaps}
use Rattle.sdr_base.specs.Objects.{Heap}
use Rattle.sdr_base.specs.Raws.{raw_entries}
use Rattle.sdr_base.specs.Section.{section}
use Rattle.sdr_base.specs.Sources.{source_entries}
use Rattle.sdr_base.specs.declared.account.Acct.{Acct}
use Rattle.sdr_base.specs.declared.account.Acct.TheVariants as accts
use Rattle.sdr_base.specs.declared.kind.Kind.TheVariants as kinds
use Rattle.sdr_base.specs.declared.medium.Medium.TheVariants as media
use Rattle.sdr_base.specs.declared.moves.Move.{Move}
use Rattle.sdr_base.specs.declared.moves.Move.TheVariants.{Took}
use Rattle.sdr_base.specs.declared.refusal.Refusal.{Refusal}
use Rattle.sdr_base.specs.declared.refusal.Refusal.TheVariants as refusals
use Rattle.sdr_base.specs.declared.stop.Stop.TheVariants as stops
use Rattle.law_steps.proofs.SourceViews.{apart_at, by_addr, here_at}
use Rattle.sdr_machine.proofs.WorkLemmas.{on_none, on_some}
use Rattle.sdr_model.proofs.ThingsLemmas.{get-removed}
use Rattle.sdr_model.specs.Rows.{ByRow}
use Rattle.sdr_model.specs.SourceSteps.{new_source}
use Rattle.sdr_model.specs.Steps.{with_thing}
use Rattle.sdr_model.specs.Things.{source_need}
use Rattle.sdr_model.specs.Valid.{FitTogether}
use Rattle.sdr_model.specs.World.{World, as_raw, thing_at}
use Rattle.sdr_model.specs.Zco.{as_object, as_source, count_of, is_of_raw, source_naming, uses_of}
use Rattle.sdr_model.specs.declared.answer.Reply.TheVariants as replies
use Rattle.sdr_model.specs.declared.call.Call.TheVariants as calls
use Rattle.sdr_model.specs.declared.things.Thing.{Thing}
use Rattle.sdr_model.specs.declared.things.Thing.TheVariants as things
use Rattle.sdr_model.specs.declared.zco.Subject.TheVariants as subjects
use Rattle.sdr_model.specs.declared.zco.ZcoSource.{ZcoSource}
use Rattle.zco_ref.specs.Kept.{KeepsRaw, counted_entries}
use Rattle.zco_ref.specs.Making.{plain_row, unused}
use Rattle.zco_ref.specs.Naming.{IsNamed, HasUses, MakesRawSource, NamingStops}
use Rattle.step_zco.proofs.MakingCalls.{source_outcome}
use Rattle.step_zco.proofs.NamedLemmas.{SameSources, naming_of, named_at, same_named, ties_but}
use Rattle.step_zco.proofs.RetiedLemmas.{retied}
use Rattle.step_zco.proofs.SourceLemmas.{IsNamedAt, counted_in, named_is_at, source_stands}
use Rattle.step_zco.proofs.StepLemmas.{all_changed, answered_later, fits_later, roots_kept}
use Rattle.step_zco.proofs.UsesLemmas.{none_counted, same_counts}

-- what is put at a place of a function stands there
pub put_here : (values : ℕ → ℕ) (place value : ℕ) → with_at values place value place ≡ value
unfolding with_at
put_here values place value = ap (λ (b : Bool). cond b value (values place)) (eq-eqb place place refl)

pub put_apart : (values : ℕ → ℕ) (place value q : ℕ) → q ≢ place → with_at values place value q ≡ values q
unfolding with_at
put_apart values place value q apart = ap (λ (b : Bool). cond b value (values q)) (ne_eqb q place apart)

-- things are written alike but for one raw object, where another source names that
pub alike_but : (w : World) (raw named q : ℕ) (thing : Thing) → q ≢ raw →
    thing_entries (ties_of w) q thing ≡ thing_entries (naming_of (ties_of w) raw named) q thing
alike_but w raw named q (things.Raw bytes) apart =
    ap (λ (n : ℕ). raw_entries q n bytes) (sym (put_apart (ties_of w).named_by raw named q apart))
alike_but w raw named q thing apart = refl

-- the row of a source of a raw object that no source names
obj_row : (w : World) (raw addr : ℕ) (bytes : List ℕ) → thing_at w raw ≡ Some (things.Raw bytes) → source_naming w raw ≡ None →
    ByRow w (source_outcome w (source_need 0) (new_source (subjects.Obj raw) (length bytes)) addr) (calls.ObjRef raw)
obj_row w raw addr bytes there unnamed =
    on_some _ _ (as_raw (thing_at w raw)) bytes (ap as_raw there)
    (on_none _ _ (source_naming w raw) unnamed (refl, (refl, refl)))

-- a call on a heap that stands for a world in which it is served
module _ (old new : Heap) (w : World) (unmoved : old.moves ≡ []) (s : HeapStandsFor old w) (served : IsReady w) where
  -- nothing stands at 0, so where the word for the source of a raw object is 0, none names it
  pub unnamed_at : (raw : ℕ) → or_null (source_naming w raw) ≡ 0 → source_naming w raw ≡ None
  unnamed_at raw zero = by (source_naming w raw) refl zero
    where
      by : (o : Option ℕ) → source_naming w raw ≡ o → or_null o ≡ 0 → source_naming w raw ≡ None
      by None is none = is
      by (Some a) is none =
          let n = source_there w raw a is in
          let free : old.blocks a ≡ None =
          ap old.blocks none ∙ s.blocks.same 0 ∙ at-nowhere 0 (entries_of w) s.blocks.null in
          absurd (in_use a (things.Source n.source) s n.there free)

  -- a source of a raw object was made, and the raw object names it
  module _ (raw addr : ℕ) (m : MakesRawSource media.Obj raw addr old new) where
    r : IsNamedAt old w raw
    r = named_is_at old w raw s served m.unnamed.kind

    unnamed : source_naming w raw ≡ None
    unnamed = unnamed_at raw (m.unnamed.none (or_null (source_naming w raw)) r.bytes r.keeps)

    keeps : KeepsRaw (old.blocks raw) 0 r.bytes
    keeps = subst (λ (n : ℕ). KeepsRaw (old.blocks raw) n r.bytes) (ap or_null unnamed) r.keeps

    adds : Adds old.blocks new.blocks addr (raw_entries raw 0 r.bytes)
        (counted_entries addr (unused (plain_row media.Obj raw (length r.bytes))) ++ raw_entries raw addr r.bytes)
    adds = m.adds r.bytes keeps

    none : thing_at w addr ≡ None
    none = nothing_at addr s adds.fresh

    abbrev source : ZcoSource
    source = new_source (subjects.Obj raw) (length r.bytes)

    abbrev after : World
    after = with_thing w addr (things.Source source)

    abbrev moves : List Move
    moves = Took (source_need 0) addr ∷ []

    row : ByRow w (source_outcome w (source_need 0) source addr) (calls.ObjRef raw)
    row = obj_row w raw addr r.bytes r.there unnamed

    has : HasMoves w moves new
    has = (took_one w (source_need 0) addr old new s served.whole.valid unmoved adds.fresh adds.nonzero adds.small m.made).has

    fits : FitTogether after
    fits = fits_later w after.things (calls.ObjRef raw) moves (replies.At addr) served.whole has.fresh row refl

    -- the sources of another raw object are the same
    same_sources : (q : ℕ) → q ≢ raw → SameSources w after q
    same_sources q apart = record {
      there = λ a t at named.
          apart_at w.things addr (Some (things.Source source)) a
          (λ same. let d : None ≡ Some (things.Source t) = sym none ∙ ap (thing_at w) (sym same) ∙ at in cc) ∙ at;
      back = λ a t at named.
          by_addr a addr
          (λ here.
          let d : Some source ≡ Some t =
          ap as_source (sym (here_at w.things addr (Some (things.Source source))) ∙ ap (thing_at after) (sym here) ∙ at) in
          let e : source ≡ t = cc in
          absurd (true≢false (sym named ∙ ap (λ (u : ZcoSource). is_of_raw q u.subject) (sym e)
          ∙ ne_eqb raw q (λ other. apart (sym other)))))
          (λ other. sym (apart_at w.things addr (Some (things.Source source)) a other) ∙ at);
    }

    -- the things are tied as they were, but that the raw object is named
    ties : ties_of after ≡ naming_of (ties_of w) raw addr
    ties =
        ties_but w after raw addr
        (ap or_null (named_at after raw addr source fits (here_at w.things addr (Some (things.Source source))) (eq-eqb raw raw refl)))
        (λ q apart. same_named w after q served.whole.fits fits (same_sources q apart))
        (λ q acct. same_counts w addr (Some (things.Source source)) q acct (ap as_object none) refl)

    abbrev f : ℕ → Thing → Entries
    f = thing_entries (ties_of w)

    abbrev g : ℕ → Thing → Entries
    g = thing_entries (naming_of (ties_of w) raw addr)

    abbrev made : Entries
    made = source_entries addr 0 0 (source_row source)

    -- the raw object's block changes, and the source's comes
    part : Changes old.blocks new.blocks ([] ++ f raw (things.Raw r.bytes)) (made ++ g raw (things.Raw r.bytes))
    part =
        subst (λ (n : ℕ). Changes old.blocks new.blocks (raw_entries raw n r.bytes) (made ++ g raw (things.Raw r.bytes)))
        (sym (ap or_null unnamed))
        (subst (λ (n : ℕ). Changes old.blocks new.blocks (raw_entries raw 0 r.bytes) (made ++ raw_entries raw n r.bytes))
        (sym (put_here (ties_of w).named_by raw addr)) adds.changes)

    zero : (acct : Acct) → count_of w addr acct ≡ 0
    zero acct = none_counted w addr acct served.whole.fits (ap as_source none)

    becomes : (rest : Entries) → BlocksAre old.blocks (entries_of w ++ rest) → BlocksAre new.blocks
        (entries_of after ++ rest)
    becomes rest st =
        let others = other_entries w ++ rest in
        let one : BlocksAre old.blocks ([] ++ (section f w.things ++ others)) =
        subst (λ (es : Entries). BlocksAre old.blocks es) (append_assoc (section f w.things) (other_entries w) rest)
        st in
        let two : BlocksAre new.blocks (made ++ (section g w.things ++ others)) =
        retied f g raw (alike_but w raw addr) w.things (things.Raw r.bytes) [] made others r.there (get-removed w.things raw) part one in
        let swap : Swaps (section g w.things ++ others) (section g after.things ++ others) [] (g addr (things.Source source)) =
        swaps_before others (section-new g w.things addr (things.Source source) none) in
        let three : BlocksAre new.blocks (g addr (things.Source source) ++ (section g w.things ++ others)) =
        subst (λ (n : ℕ). BlocksAre new.blocks
        (source_entries addr n (count_of w addr accts.Outbound) (source_row source) ++ (section g w.things ++ others)))
        (sym (zero accts.Inbound))
        (subst (λ (n : ℕ). BlocksAre new.blocks (source_entries addr 0 n (source_row source) ++ (section g w.things ++ others)))
        (sym (zero accts.Outbound)) two) in
        let four : BlocksAre new.blocks (section g after.things ++ others) =
        unfocused swap (subst (λ (es : Entries). BlocksAre new.blocks (g addr (things.Source source) ++ es)) swap.was three) in
        subst (λ (t : Ties). BlocksAre new.blocks ((section (thing_entries t) after.things ++ other_entries w) ++ rest)) (sym ties)
        (subst (λ (es : Entries). BlocksAre new.blocks es) (sym (append_assoc (section g after.things) (other_entries w) rest)) four)

    pub obj_made : Answered w (calls.ObjRef raw) new [] (replies.At addr)
    obj_made =
        answered_later w after.things (calls.ObjRef raw) moves (replies.At addr) served.whole has.fresh row refl has.is has.words
        (all_changed after moves s (record { kept = becomes }) m.made
        (roots_kept w after.things (calls.ObjRef raw) moves (replies.At addr) served.whole has.fresh row refl
        (record { charge = λ acct space. omega arith; release = λ acct space. refl })) refl)

  -- the source that names a raw object, and how many extents name that
  pub used_as : (raw count : ℕ) → IsSmall old → IsNamed old.blocks raw count → (addr : ℕ) × (source_naming w raw ≡ Some addr) × (count ≡ uses_of w addr)
  used_as raw count small n =
      let r = named_is_at old w raw s served n.kind in
      by (source_naming w raw) refl (n.used (or_null (source_naming w raw)) r.bytes r.keeps)
    where
      by : (o : Option ℕ) → source_naming w raw ≡ o → HasUses old.blocks (or_null o) count →
          (addr : ℕ) × (source_naming w raw ≡ Some addr) × (count ≡ uses_of w addr)
      by None is u = absurd (u.some refl)
      by (Some a) is u =
          let t = source_there w raw a is in
          (a, is, u.counts (counted_in w a t.source) (source_stands old w a t.source s served small t.there))

  pub obj_unmade : (raw : ℕ) (was : List ℕ) (refusal : Refusal) → IsSmall old → NamingStops raw old new (stops.Refused refusal) →
      IsRefused w (calls.ObjRef raw) old new was was refusal
  obj_unmade raw was (refusals.BadAddress bad) small m =
      misnamed_refused w (calls.ObjRef raw) raw kinds.Raw (as_raw (thing_at w raw)) _ old new was (λ o h. h)
      (no_raw old w raw s served.whole.valid) unmoved m.1 s served.whole.valid (refusals.BadAddress bad) m.0
  obj_unmade raw was (refusals.WrongKind bad number) small m =
      misnamed_refused w (calls.ObjRef raw) raw kinds.Raw (as_raw (thing_at w raw)) _ old new was (λ o h. h)
      (no_raw old w raw s served.whole.valid) unmoved m.1 s served.whole.valid (refusals.WrongKind bad number) m.0
  obj_unmade raw was (refusals.InUse bad count) small m =
      let r = named_is_at old w raw s served m.0.1.kind in
      let u = used_as raw count small m.0.1 in
      record {
        step =
            inl (row_refused w (calls.ObjRef raw) new (refusals.InUse bad count) (ap (λ (h : Heap). h.moves) m.1 ∙ unmoved)
            (on_some _ _ (as_raw (thing_at w raw)) r.bytes (ap as_raw r.there)
            (on_some _ _ (source_naming w raw) u.0 u.1
            (refl, refl, λ i. replies.Refused (refusals.InUse (m.0.0 i) (u.2 i))))));
        left = λ reads. m.1;
        gave = refl;
      }
  obj_unmade raw was refusal small m =
      let r = named_is_at old w raw s served m.0.kind in
      let unnamed = unnamed_at raw (m.0.none (or_null (source_naming w raw)) r.bytes r.keeps) in
      short_refused w (calls.ObjRef raw) (source_need 0) old new was refusal refl
      (record { after = _; reply = _; row = obj_row w raw 0 r.bytes r.there unnamed; answered = refl }) unmoved m.1
