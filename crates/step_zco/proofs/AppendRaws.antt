-- An object and a raw object of a world beside each other, before and after a new source takes the raw object over and the object
-- gets an extent of that.
use Rattle.std.proofs.Common.{◌≡◌, ◌≢◌, ◌∙◌, ◌≤◌, ◌==◌, ◌++◌, ℕ, List, length, Option, Some, None, true, true≢false, refl, sym, ap, subst, arith}
use Rattle.std.proofs.lemmas.Bool.{eq-eqb, ne_eqb}
use Rattle.std.specs.FinMap as finite
use Rattle.std.specs.Prelude.{IfSome, if◌then◌else◌}
use Rattle.step_things.proofs.EntryLemmas.{source_there}
use Rattle.step_things.proofs.KindLemmas.{own_in_use}
use Rattle.step_things.proofs.ListLemmas.{IsSmall}
use Rattle.step_things.specs.Answering.{IsReady}
use Rattle.sdr_stands.proofs.TiesLemmas.{same_first}
use Rattle.sdr_stands.specs.Rows.{object_row, source_row}
use Rattle.sdr_stands.specs.Standing.{HeapStandsFor, thing_entries}
use Rattle.sdr_stands.specs.Ties.{names_raw_at, or_null, ties_of}
use Rattle.sdr_base.specs.Blocks.{IsKind}
use Rattle.sdr_base.specs.Entries.{Entries}
use Rattle.sdr_base.specs.Objects.{Heap}
use Rattle.sdr_base.specs.Raws.{raw_entries}
use Rattle.sdr_base.specs.Section.{section}
use Rattle.sdr_base.specs.ZcoObjects.{object_entries}
use Rattle.sdr_base.specs.declared.account.Acct.{Acct}
use Rattle.sdr_base.specs.declared.account.Acct.TheVariants as accts
use Rattle.sdr_base.specs.declared.kind.Kind.TheVariants as kinds
use Rattle.sdr_base.specs.declared.kind.Space.{Space}
use Rattle.sdr_base.specs.declared.kind.Space.TheVariants as spaces
use Rattle.law_steps.proofs.ChargeLemmas.{charge_source, count_new}
use Rattle.law_steps.proofs.ChargeMoves.{MovesCharge, after_same}
use Rattle.law_steps.proofs.OutcomeFits.{unnamed_from}
use Rattle.law_steps.proofs.SourceViews.{NoSpare, apart_at, by_addr, fits_from, here_at}
use Rattle.law_steps.proofs.SourceMoves.{nothing}
use Rattle.sdr_model.specs.Accounts.{tickets_of}
use Rattle.sdr_model.specs.Amounts.{in_space}
use Rattle.sdr_model.specs.Charges.{bytes_charge, extent_bytes}
use Rattle.sdr_model.specs.Limits.{longest_raw}
use Rattle.sdr_model.specs.ObjectSteps as object
use Rattle.sdr_model.specs.SourceSteps.{new_source}
use Rattle.sdr_model.specs.Steps.{with_thing}
use Rattle.sdr_model.specs.Things.{Things}
use Rattle.sdr_model.specs.Valid.{FitTogether, IsValidThing}
use Rattle.sdr_model.specs.World.{World, thing_at}
use Rattle.sdr_model.specs.Zco.{as_object, as_source, count_of, is_of_raw, source_naming}
use Rattle.sdr_model.specs.declared.things.Thing.{Thing}
use Rattle.sdr_model.specs.declared.things.Thing.TheVariants as things
use Rattle.sdr_model.specs.declared.zco.Extent.{Extent}
use Rattle.sdr_model.specs.declared.zco.Subject.TheVariants as subjects
use Rattle.sdr_model.specs.declared.zco.ZcoObject.{ZcoObject}
use Rattle.sdr_model.specs.declared.zco.ZcoSource.{ZcoSource}
use Rattle.step_zco.proofs.AlikeLemmas.{StandAlike, alike_behind, alike_then, one_first, section_alike}
use Rattle.step_zco.proofs.AppendLemmas.{counted_once, longer_row, lost_again, others_counted, put_and_lost, same_source_on, two_first, written_alike}
use Rattle.step_zco.proofs.AppendSources.{use_moves}
use Rattle.step_zco.proofs.ObjectLemmas.{object_beside, object_is_at}
use Rattle.zco_obj.specs.Appending.{taken_piece, taking_over}
use Rattle.zco_obj.specs.Beside.{IsWithRaw, KeepsWithRaw}
use Rattle.zco_obj.specs.Extents.{extent_of, with_extent}
use Rattle.zco_obj.specs.declared.extent.ExtentPiece.{ExtentPiece}
use Rattle.zco_ref.specs.Counting.{attached}
use Rattle.zco_ref.specs.Kept.{SomeFew, counted_entries}
use Rattle.step_zco.proofs.SourceLemmas.{counted_in, named_is_at, source_few}
use Rattle.step_zco.proofs.UsesLemmas.{same_counts}

-- an object and a raw object of a world
pub record IsWithRawAt (w : World) (addr raw : ℕ) : Type 0 where
  pub object : ZcoObject
  pub there : thing_at w addr ≡ Some (things.Object object)
  pub text : List ℕ
  pub raw_there : thing_at w raw ≡ Some (things.Raw text)

-- a source of a raw object that no other names is the one that names it
module _ (w : World) (raw addr : ℕ) (source : ZcoSource) (none : source_naming w raw ≡ None)
    (names : is_of_raw raw source.subject ≡ true) where
  abbrev with_source : World
  with_source = with_thing w addr (things.Source source)

  pub named_first : source_naming with_source raw ≡ Some addr
  named_first = by (source_naming with_source raw) refl
    where
      by : (o : Option ℕ) → source_naming with_source raw ≡ o → source_naming with_source raw ≡ Some addr
      by None is =
          absurd (true≢false (sym names
          ∙ unnamed_from with_source raw is addr source (ap as_source (here_at w.things addr (Some (things.Source source))))))
      by (Some a) is =
          by_addr a addr (λ here. is ∙ ap (λ (k : ℕ). Some k) here)
          (λ apart.
          let n = source_there with_source raw a is in
          absurd (true≢false (sym n.named
          ∙ unnamed_from w raw none a n.source
          (ap as_source (sym (apart_at w.things addr (Some (things.Source source)) a apart) ∙ n.there)))))

module _ (w : World) (addr raw : ℕ) (p : IsWithRawAt w addr raw) where
  -- they are at two addresses
  raw_apart : raw ≢ addr
  raw_apart same =
      let no : Some (things.Raw p.text) ≡ Some (things.Object p.object) = sym p.raw_there ∙ ap (thing_at w) same ∙ p.there in cc

  -- the other things
  abbrev pub raw_others : Things
  raw_others = finite.remove (finite.remove w.things addr) raw

  abbrev f : ℕ → Thing → Entries
  f = thing_entries (ties_of w)

  -- stand behind both
  pub raw_before : StandAlike (section f w.things)
      (object_entries addr (object_row p.object) ++ (raw_entries raw (or_null (source_naming w raw)) p.text ++ section f raw_others))
  raw_before = two_first f w.things addr raw (things.Object p.object) (things.Raw p.text) raw_apart p.there p.raw_there

  -- once a source has taken the raw object over and the object has an extent of that
  module _ (source block offset bytes : ℕ) where
    abbrev pub taking : ZcoSource
    taking = new_source (subjects.Heap raw) (length p.text)

    abbrev mid : World
    mid = with_thing w source (things.Source taking)

    abbrev pub raw_extent : Extent
    raw_extent = record { block = block; source = source; offset = offset; length = bytes }

    abbrev pub raw_object : ZcoObject
    raw_object = object.with_extent p.object raw_extent

    abbrev pub raw_things : Things
    raw_things = finite.insert mid.things addr (things.Object raw_object)

    abbrev after : World
    after = record w { things = raw_things }

    abbrev g : ℕ → Thing → Entries
    g = thing_entries (ties_of after)

    abbrev piece : ExtentPiece
    piece = record { of = raw; offset = offset; bytes = bytes }

    -- where no source names the raw object, and the one that takes it over comes where nothing was
    module _ (unnamed : source_naming w raw ≡ None) (fits : FitTogether w) (free : thing_at w source ≡ None) where
      -- nothing that was there is where it is
      new_apart : (q : ℕ) (thing : Thing) → thing_at w q ≡ Some thing → q ≢ source
      new_apart q thing there same =
          let no : None ≡ Some thing = sym free ∙ ap (thing_at w) (sym same) ∙ there in cc

      source_apart : source ≢ addr
      source_apart same = new_apart addr (things.Object p.object) p.there (sym same)

      mid_there : thing_at mid addr ≡ Some (things.Object p.object)
      mid_there =
          apart_at w.things source (Some (things.Source taking)) addr (new_apart addr (things.Object p.object) p.there) ∙ p.there

      -- it names the raw object
      named : source_naming after raw ≡ Some source
      named =
          same_source_on mid addr p.object raw_extent mid_there raw
          ∙ named_first w raw source taking unnamed (eq-eqb raw raw refl)

      -- and others are named by what named them
      others_named : (q : ℕ) → q ≢ raw → source_naming after q ≡ source_naming w q
      others_named q apart =
          same_source_on mid addr p.object raw_extent mid_there q
          ∙ same_first q w.things source (Some (things.Source taking))
          (ap (names_raw_at q) free ∙ sym (ne_eqb raw q (λ same. apart (sym same))))

      -- the extent names it, and else sources are named as often as before
      counted_apart : (q : ℕ) (acct : Acct) → q ≢ source → count_of after q acct ≡ count_of w q acct
      counted_apart q acct apart =
          others_counted mid addr p.object raw_extent mid_there q acct (λ same. apart (sym same))
          ∙ same_counts w source (Some (things.Source taking)) q acct (ap as_object free) refl

      new_unused : (acct : Acct) → count_of mid source acct ≡ 0
      new_unused acct = count_new NoSpare w.things (fits_from w fits) acct source taking free

      counted_new : counted_in mid source taking ≡ taking_over raw p.text
      counted_new = λ i. record {
        inbound = new_unused accts.Inbound i;
        outbound = new_unused accts.Outbound i;
        row = source_row taking;
      }

      -- the other things are written as before
      others_alike : section g raw_others ≡ section f raw_others
      others_alike =
          section_alike g f raw_others (λ q thing is.
          written_alike (ties_of after) (ties_of w) q thing (ap or_null (others_named q (not_raw q thing is)))
          (λ acct. counted_apart q acct (new_apart q thing (was_there q thing is))))
        where
          not_raw : (q : ℕ) (thing : Thing) → finite.get raw_others q ≡ Some thing → q ≢ raw
          not_raw q thing is same =
              let no : None ≡ Some thing =
              sym (here_at (finite.remove w.things addr) raw None) ∙ ap (finite.get raw_others) (sym same) ∙ is in cc

          not_object : (q : ℕ) (thing : Thing) → finite.get (finite.remove w.things addr) q ≡ Some thing → q ≢ addr
          not_object q thing is same =
              let no : None ≡ Some thing =
              sym (here_at w.things addr None) ∙ ap (finite.get (finite.remove w.things addr)) (sym same) ∙ is in cc

          was_there : (q : ℕ) (thing : Thing) → finite.get raw_others q ≡ Some thing → thing_at w q ≡ Some thing
          was_there q thing is =
              let left : finite.get (finite.remove w.things addr) q ≡ Some thing =
              sym (apart_at (finite.remove w.things addr) raw None q (not_raw q thing is)) ∙ is in
              sym (apart_at w.things addr None q (not_object q thing left)) ∙ left

      abbrev now : Thing
      now = things.Object raw_object

      source_stays : finite.get raw_things source ≡ Some (things.Source taking)
      source_stays =
          apart_at mid.things addr (Some now) source source_apart
          ∙ here_at w.things source (Some (things.Source taking))

      without_both : finite.remove (finite.remove raw_things addr) source ≡ finite.remove w.things addr
      without_both =
          ap (λ (m : Things). finite.remove m source) (lost_again mid.things addr now)
          ∙ put_and_lost w.things source addr (things.Source taking) source_apart free

      -- the object, the source and the raw object stand in front of them
      three_first : StandAlike (section g raw_things)
          (g addr now ++ (g source (things.Source taking) ++ (g raw (things.Raw p.text) ++ section g raw_others)))
      three_first =
          alike_then
          (subst (λ (m : Things). StandAlike (section g raw_things) (g addr now ++ (g source (things.Source taking) ++ section g m)))
          without_both
          (two_first g raw_things addr source now (things.Source taking)
          source_apart
          (here_at mid.things addr (Some now)) source_stays))
          (alike_behind (g addr now)
          (alike_behind (g source (things.Source taking))
          (one_first g (finite.remove w.things addr) raw (things.Raw p.text) (apart_at w.things addr None raw raw_apart ∙ p.raw_there))))

      pub raw_after : StandAlike (section g raw_things)
          (object_entries addr (with_extent (object_row p.object) (extent_of block (taken_piece source piece)))
          ++ (counted_entries source (attached p.object.account (taking_over raw p.text))
          ++ (raw_entries raw source p.text ++ section f raw_others)))
      raw_after =
          let counted : counted_in after source taking ≡ attached p.object.account (taking_over raw p.text) =
          counted_once mid addr p.object raw_extent mid_there taking ∙ ap (attached p.object.account) counted_new in
          let names = ap or_null named in
          subst (λ (es : Entries). StandAlike (section g raw_things) es)
          (λ i. object_entries addr (longer_row p.object raw_extent i)
          ++ (counted_entries source (counted i) ++ (raw_entries raw (names i) p.text ++ others_alike i)))
          three_first

      -- the account of the object is charged for the extent and the whole raw object
      pub raw_charge : MovesCharge w.things raw_things p.object.account (bytes_charge spaces.Heap (length p.text)) nothing
      raw_charge =
          let acct = p.object.account in
          subst (λ (charge : Space → ℕ). MovesCharge w.things raw_things acct charge nothing)
          (λ i space. if (new_unused acct i == 0) then bytes_charge spaces.Heap (length p.text) space
          else in_space spaces.Heap extent_bytes space)
          (after_same (λ b space. charge_source w.things source b space NoSpare (fits_from w fits) taking free)
          (use_moves mid.things addr p.object raw_extent taking mid_there (here_at w.things source (Some (things.Source taking)))))

-- in a heap that stands for a world in which calls are served
module _ (heap : Heap) (w : World) (s : HeapStandsFor heap w) (served : IsReady w) (small : IsSmall heap) (addr raw : ℕ) where
  -- the counts of the source that names the raw object can be added
  naming_few : (o : Option ℕ) → source_naming w raw ≡ o → or_null o ≢ 0 → SomeFew (heap.blocks (or_null o))
  naming_few None is some = absurd (some refl)
  naming_few (Some a) is some =
      let n = source_there w raw a is in source_few heap w a n.source s served small n.there

  -- both are kept
  pub raw_kept : (p : IsWithRawAt w addr raw) →
      KeepsWithRaw heap addr (object_row p.object) (tickets_of w.accounts p.object.account) raw (or_null (source_naming w raw)) p.text
  raw_kept p =
      let valid : length p.text ≤ longest_raw =
      subst (λ (o : Option Thing). IfSome o IsValidThing) p.raw_there (served.whole.valid.things raw) in
      record {
        beside = object_beside heap w addr p.object s served small p.there (raw_entries raw (or_null (source_naming w raw)) p.text)
            (section (thing_entries (ties_of w)) (raw_others w addr raw p)) (raw_before w addr raw p);
        small = (named_is_at heap w raw s served (own_in_use heap w raw (things.Raw p.text) s served.whole.valid p.raw_there)).keeps.small;
        named = naming_few (source_naming w raw) refl;
        short = omega (arith, valid);
      }

  -- where their blocks stand, they are there
  pub raw_at : IsKind (heap.blocks addr) kinds.Object → IsKind (heap.blocks raw) kinds.Raw → IsWithRawAt w addr raw
  raw_at object is_raw =
      let z = object_is_at heap w addr s served object in
      let r = named_is_at heap w raw s served is_raw in
      record { object = z.object; there = z.there; text = r.bytes; raw_there = r.there }

  pub with_raw : IsWithRaw heap addr raw
  with_raw object is_raw =
      let p = raw_at object is_raw in
      record {
        row = object_row p.object;
        tickets = tickets_of w.accounts p.object.account;
        named_by = or_null (source_naming w raw);
        bytes = p.text;
        keeps = raw_kept p;
      }
