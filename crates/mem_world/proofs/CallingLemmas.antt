-- What is known of a world on which a call can be made.
use Rattle.std.proofs.Common.{◌≡◌, ◌≤◌, ℕ, length, arith, None, Option, Some, subst}
use Rattle.std.proofs.lemmas.List.Elements.{All-weaker}
use Rattle.std.specs.Prelude.{IfSome}
use Rattle.sdr_base.specs.declared.kind.Space.TheVariants as spaces
use Rattle.mem_world.proofs.SumBounds.{object_charge-small}
use Rattle.mem_world.specs.Calling.{MayCall}
use Rattle.sdr_model.specs.Limits.{longest_raw, longest_source}
use Rattle.sdr_model.specs.Valid.{AreInside, IsValidObject, IsValidThing, LiesInside}
use Rattle.sdr_model.specs.World.{World, as_raw, thing_at}
use Rattle.sdr_model.specs.Zco.{as_object, as_source, object_at, source_at}
use Rattle.sdr_model.specs.declared.things.Thing.{Thing}
use Rattle.sdr_model.specs.declared.things.Thing.TheVariants as things
use Rattle.sdr_model.specs.declared.zco.Extent.{Extent}
use Rattle.sdr_model.specs.declared.zco.ZcoObject.{ZcoObject}
use Rattle.sdr_model.specs.declared.zco.ZcoSource.{ZcoSource}
use Rattle.mem_parts.proofs.BoundsLemmas.{capsules_length-charged, extents_length-each}
use Rattle.mem_parts.specs.Bounds.{EndsInTime, IsBounded}

-- the object that is there
pub object_there : (t : Option Thing) (z : ZcoObject) → as_object t ≡ Some z → t ≡ Some (things.Object z)
object_there None z is = cc
object_there (Some (things.Object y)) z is = cc
object_there (Some (things.Raw bytes)) z is = cc
object_there (Some (things.Text text)) z is = cc
object_there (Some (things.List row)) z is = cc
object_there (Some (things.Table table)) z is = cc
object_there (Some (things.Hash hash)) z is = cc
object_there (Some (things.Source source)) z is = cc

module _ (w : World) (may : MayCall w) where
  -- a source is at most as long as the longest
  pub source-small : (addr : ℕ) → IfSome (source_at w addr) (λ s. s.length ≤ longest_source)
  source-small addr = by (thing_at w addr) (may.whole.valid.things addr)
    where
      by : (t : Option Thing) → IfSome t IsValidThing → IfSome (as_source t) (λ s. s.length ≤ longest_source)
      by None valid = tt
      by (Some (things.Source source)) valid = valid.length
      by (Some t) valid = tt

  -- so is a raw object as the longest one
  pub raw-small : (addr : ℕ) → IfSome (as_raw (thing_at w addr)) (λ text. length text ≤ longest_raw)
  raw-small addr = by (thing_at w addr) (may.whole.valid.things addr)
    where
      by : (t : Option Thing) → IfSome t IsValidThing → IfSome (as_raw t) (λ text. length text ≤ longest_raw)
      by None valid = tt
      by (Some (things.Raw text)) valid = valid
      by (Some t) valid = tt

  -- an extent of an object ends where the longest source ends, or before
  ends_in_time : (e : Extent) → LiesInside e (source_at w e.source) → EndsInTime e
  ends_in_time e lies = by (source_at w e.source) lies (source-small e.source)
    where
      by : (o : Option ZcoSource) → LiesInside e o → IfSome o (λ s. s.length ≤ longest_source) → EndsInTime e
      by None lies small = absurd lies
      by (Some s) lies small = omega (arith, lies, small)

  -- an object there is valid and bounded
  module _ (addr : ℕ) (z : ZcoObject) (is : object_at w addr ≡ Some z) where
    there : thing_at w addr ≡ Some (things.Object z)
    there = object_there (thing_at w addr) z is

    pub valid_object : IsValidObject z
    valid_object = subst (λ t. IfSome t IsValidThing) there (may.whole.valid.things addr)

    pub bounded_object : IsBounded z
    bounded_object =
        let charges = object_charge-small w may.bound addr z there in
        let inside = subst (λ t. IfSome t (AreInside w)) there (may.whole.fits.inside addr) in
        let ends = All-weaker (λ e. LiesInside e (source_at w e.source)) EndsInTime ends_in_time z.extents inside in
        record {
          headers = omega (arith, capsules_length-charged z.headers, charges spaces.Heap);
          ends = ends;
          extents = omega (arith, extents_length-each z.extents ends, may.few.each addr z there);
          trailers = omega (arith, capsules_length-charged z.trailers, charges spaces.Heap);
          part = valid_object.part;
        }
