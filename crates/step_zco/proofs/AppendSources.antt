-- An object and a source of a world beside each other, before and after the object gets an extent of the source.
use Rattle.std.proofs.Common.{◌≡◌, ◌≢◌, ◌∙◌, ◌<◌, ◌^◌, ◌++◌, ℕ, Some, None, refl, sym, ap, subst, arith}
use Rattle.std.specs.FinMap as finite
use Rattle.step_things.proofs.ListLemmas.{IsSmall}
use Rattle.step_things.specs.Answering.{IsReady}
use Rattle.sdr_stands.specs.Rows.{object_row}
use Rattle.sdr_stands.specs.Standing.{HeapStandsFor, thing_entries}
use Rattle.sdr_stands.specs.Ties.{or_null, ties_of}
use Rattle.sdr_base.specs.Blocks.{IsKind}
use Rattle.sdr_base.specs.Entries.{Entries}
use Rattle.sdr_base.specs.Objects.{Heap}
use Rattle.sdr_base.specs.Section.{section}
use Rattle.sdr_base.specs.ZcoObjects.{object_entries}
use Rattle.sdr_base.specs.declared.account.Acct.{Acct}
use Rattle.sdr_base.specs.declared.account.Acct.TheVariants as accts
use Rattle.sdr_base.specs.declared.kind.Kind.TheVariants as kinds
use Rattle.law_steps.proofs.ChargeMoves.{MovesCharge, object_moves}
use Rattle.law_steps.proofs.ObjectRows.{extent_charge_more}
use Rattle.law_steps.proofs.SourceMoves.{nothing, sources_use, use_parts}
use Rattle.law_steps.proofs.SourceViews.{apart_at, here_at, of}
use Rattle.sdr_model.specs.Accounts.{tickets_of}
use Rattle.sdr_model.specs.Charges.{use_charge}
use Rattle.sdr_model.specs.ObjectSteps as object
use Rattle.sdr_model.specs.Things.{Things}
use Rattle.sdr_model.specs.World.{World, thing_at}
use Rattle.sdr_model.specs.Zco.{as_source}
use Rattle.sdr_model.specs.declared.things.Thing.{Thing}
use Rattle.sdr_model.specs.declared.things.Thing.TheVariants as things
use Rattle.sdr_model.specs.declared.zco.Extent.{Extent}
use Rattle.sdr_model.specs.declared.zco.ZcoObject.{ZcoObject}
use Rattle.sdr_model.specs.declared.zco.ZcoSource.{ZcoSource}
use Rattle.step_zco.proofs.AlikeLemmas.{StandAlike, section_alike}
use Rattle.step_zco.proofs.AppendLemmas.{counted_once, longer_row, lost_again, others_counted, same_source_on, two_first, written_alike}
use Rattle.step_zco.proofs.ObjectLemmas.{object_beside, object_is_at, short_source}
use Rattle.zco_obj.specs.Beside.{IsWithSource, KeepsWithSource}
use Rattle.zco_obj.specs.Extents.{extent_of, with_extent}
use Rattle.zco_obj.specs.declared.extent.ExtentPiece.{ExtentPiece}
use Rattle.zco_ref.specs.Counting.{attached}
use Rattle.zco_ref.specs.Kept.{count_in, counted_entries}
use Rattle.step_zco.proofs.SourceLemmas.{counted_in, source_is_at, source_stands}
use Rattle.step_zco.proofs.UsesLemmas.{counts_small}

-- an object gets an extent more: its account is charged for that, and for the source where it named that by none
pub use_moves : (m : Things) (addr : ℕ) (z : ZcoObject) (e : Extent) (source : ZcoSource) →
    finite.get m addr ≡ Some (things.Object z) → finite.get m e.source ≡ Some (things.Source source) →
    MovesCharge m (finite.insert m addr (things.Object (object.with_extent z e))) z.account
    (use_charge (of m) z.account e.source source) nothing
use_moves m addr z e source there named =
    object_moves m addr z.account (Some z) (Some (object.with_extent z e)) (use_charge (of m) z.account e.source source) nothing
    there refl refl (sources_use m z.account z e)
    (λ space. omega (arith, extent_charge_more z e space, use_parts (of m) z.account e.source source (ap as_source named) space))

-- an object and a source of a world
pub record IsPair (w : World) (addr named : ℕ) : Type 0 where
  pub object : ZcoObject
  pub there : thing_at w addr ≡ Some (things.Object object)
  pub source : ZcoSource
  pub named_there : thing_at w named ≡ Some (things.Source source)

module _ (w : World) (addr named : ℕ) (p : IsPair w addr named) where
  -- they are at two addresses
  pair_apart : named ≢ addr
  pair_apart same =
      let no : Some (things.Source p.source) ≡ Some (things.Object p.object) =
      sym p.named_there ∙ ap (thing_at w) same ∙ p.there in cc

  -- the other things
  abbrev pub pair_others : Things
  pair_others = finite.remove (finite.remove w.things addr) named

  abbrev f : ℕ → Thing → Entries
  f = thing_entries (ties_of w)

  -- stand behind both
  pub pair_before : StandAlike (section f w.things)
      (object_entries addr (object_row p.object) ++ (counted_entries named (counted_in w named p.source) ++ section f pair_others))
  pair_before = two_first f w.things addr named (things.Object p.object) (things.Source p.source) pair_apart p.there p.named_there

  -- and they do so once the object has an extent of the source more
  module _ (block offset bytes : ℕ) where
    abbrev pub pair_extent : Extent
    pair_extent = record { block = block; source = named; offset = offset; length = bytes }

    abbrev pub pair_object : ZcoObject
    pair_object = object.with_extent p.object pair_extent

    abbrev pub pair_things : Things
    pair_things = finite.insert w.things addr (things.Object pair_object)

    abbrev after : World
    after = record w { things = pair_things }

    abbrev g : ℕ → Thing → Entries
    g = thing_entries (ties_of after)

    abbrev piece : ExtentPiece
    piece = record { of = named; offset = offset; bytes = bytes }

    -- the others are written as before
    others_alike : section g pair_others ≡ section f pair_others
    others_alike =
        section_alike g f pair_others (λ q thing is.
        written_alike (ties_of after) (ties_of w) q thing
        (ap or_null (same_source_on w addr p.object pair_extent p.there q))
        (λ acct. others_counted w addr p.object pair_extent p.there q acct (λ same.
        let no : None ≡ Some thing =
        sym (here_at (finite.remove w.things addr) named None) ∙ ap (finite.get pair_others) same ∙ is in cc)))

    pub pair_after : StandAlike (section g pair_things)
        (object_entries addr (with_extent (object_row p.object) (extent_of block piece))
        ++ (counted_entries named (attached p.object.account (counted_in w named p.source)) ++ section f pair_others))
    pair_after =
        let now = things.Object pair_object in
        let rest : section g (finite.remove (finite.remove pair_things addr) named) ≡ section f pair_others =
        ap (λ (m : Things). section g (finite.remove m named)) (lost_again w.things addr now) ∙ others_alike in
        subst (λ (es : Entries). StandAlike (section g pair_things) es)
        (λ i. object_entries addr (longer_row p.object pair_extent i)
        ++ (counted_entries named (counted_once w addr p.object pair_extent p.there p.source i) ++ rest i))
        (two_first g pair_things addr named now (things.Source p.source) pair_apart (here_at w.things addr (Some now))
        (apart_at w.things addr (Some now) named pair_apart ∙ p.named_there))

    -- the account of the object is charged for the extent, and for the source where it named that by none
    pub pair_charge : MovesCharge w.things pair_things p.object.account (use_charge w p.object.account named p.source) nothing
    pair_charge = use_moves w.things addr p.object pair_extent p.source p.there p.named_there

-- in a heap that stands for a world in which calls are served
module _ (heap : Heap) (w : World) (s : HeapStandsFor heap w) (served : IsReady w) (small : IsSmall heap) (addr named : ℕ) where
  few : (p : IsPair w addr named) (acct : Acct) → count_in acct (counted_in w named p.source) < 2 ^ 62
  few p accts.Inbound = counts_small heap w named accts.Inbound s small
  few p accts.Outbound = counts_small heap w named accts.Outbound s small

  -- both are kept
  pub pair_kept : (p : IsPair w addr named) →
      KeepsWithSource heap addr (object_row p.object) (tickets_of w.accounts p.object.account) named (counted_in w named p.source)
  pair_kept p = record {
    beside = object_beside heap w addr p.object s served small p.there (counted_entries named (counted_in w named p.source))
        (section (thing_entries (ties_of w)) (pair_others w addr named p)) (pair_before w addr named p);
    fits = (source_stands heap w named p.source s served small p.named_there).fits;
    below = few p p.object.account;
    short = short_source heap w s served small named p.source (ap as_source p.named_there);
  }

  -- where their blocks stand, they are there
  pub pair_at : IsKind (heap.blocks addr) kinds.Object → IsKind (heap.blocks named) kinds.Source → IsPair w addr named
  pair_at object source =
      let z = object_is_at heap w addr s served object in
      let f = source_is_at heap w named s served small source in
      record { object = z.object; there = z.there; source = f.source; named_there = f.there }

  pub with_source : IsWithSource heap addr named
  with_source object source =
      let p = pair_at object source in
      record {
        row = object_row p.object;
        tickets = tickets_of w.accounts p.object.account;
        source = counted_in w named p.source;
        keeps = pair_kept p;
      }
