-- Objects that lose a header or trailer.
use Rattle.std.proofs.Common.{◌≡◌, ◌<◌, ◌++◌, ◌∷◌, ◌-◌, [], ℕ, List, Some, ap, sym, refl, subst, arith, drop, length, map, slice_get, take}
use Rattle.std.proofs.lemmas.List.Elements.{All-cons, All-head, All-map, All-tail, All-take}
use Rattle.std.proofs.lemmas.Option.{slice_get-get_or}
use Rattle.std.specs.List.{All}
use Rattle.sdr_model.specs.Dry.{StepsDry}
use Rattle.sdr_model.specs.ObjectSteps.{Discards, last_capsule, with_object, without_header, without_trailer}
use Rattle.sdr_model.specs.Queue.{with_served}
use Rattle.sdr_model.specs.RowMoves.{block_of_capsule, first_header, last_trailer}
use Rattle.sdr_model.specs.Rows.{ByRow}
use Rattle.sdr_model.specs.Steps.{On, Outcome, gave}
use Rattle.sdr_model.specs.Things.{Owners, block_for_capsule, block_for_extent}
use Rattle.sdr_model.specs.World.{World}
use Rattle.sdr_model.specs.Zco.{object_at}
use Rattle.sdr_model.specs.declared.answer.Reply.TheVariants as replies
use Rattle.sdr_model.specs.declared.call.Call.{Call}
use Rattle.sdr_model.specs.declared.call.Call.TheVariants as calls
use Rattle.sdr_model.specs.declared.things.UsedBlock.{UsedBlock}
use Rattle.sdr_model.specs.declared.things.Thing.TheVariants as things
use Rattle.sdr_model.specs.declared.zco.Capsule.{Capsule}
use Rattle.sdr_model.specs.declared.zco.ZcoObject.{ZcoObject}
use Rattle.mem_store.proofs.OwnersLemmas.{All-from_map}
use Rattle.mem_store.specs.Owners.{Owns, OwnsInside}

-- it still owns the others
module _ (owners : Owners) (next k : ℕ) (z : ZcoObject) (owns : OwnsInside owners next k (things.Object z)) where
  abbrev P : UsedBlock → Type 0
  P = Owns owners next k

  abbrev front : List Capsule → List UsedBlock
  front headers = map block_for_capsule headers ++ map block_for_extent z.extents

  pub owned-without_header : OwnsInside owners next k (things.Object (record z { headers = drop 1 z.headers }))
  owned-without_header = record { below = owns.below; inside = by z.headers owns.inside }
    where
      by : (headers : List Capsule) → All P (front headers ++ map block_for_capsule z.trailers)
          → All P (front (drop 1 headers) ++ map block_for_capsule z.trailers)
      by [] all = all
      by (c ∷ cs) all = All-tail P (block_for_capsule c) (front cs ++ map block_for_capsule z.trailers) all

  pub owned-without_trailers : (n : ℕ) → OwnsInside owners next k (things.Object (record z { trailers = take n z.trailers }))
  owned-without_trailers n = record { below = owns.below; inside = by (front z.headers) owns.inside }
    where
      by : (blocks : List UsedBlock) → All P (blocks ++ map block_for_capsule z.trailers)
          → All P (blocks ++ map block_for_capsule (take n z.trailers))
      by [] all =
          All-map P block_for_capsule (take n z.trailers) (All-take (λ c. P (block_for_capsule c)) n z.trailers (All-from_map P block_for_capsule z.trailers all))
      by (b ∷ bs) all =
          All-cons P b (bs ++ map block_for_capsule (take n z.trailers)) (All-head P b (bs ++ map block_for_capsule z.trailers) all)
          (by bs (All-tail P b (bs ++ map block_for_capsule z.trailers) all))

-- the call in which it goes
module _ (w w' : World) (addr : ℕ) (z : ZcoObject) (there : object_at w addr ≡ Some z) where
  -- the object is put as it is without it, and the queue is served
  abbrev pub Puts : ZcoObject → Type 0
  Puts after = w' ≡ record (with_served (with_object w addr after) z.account) { shown = [] }

  goes : (call : Call) (capsules : List Capsule) (place : ℕ) (after : ZcoObject)
      → ((o : Outcome) → Discards w o addr z (slice_get capsules place) after → ByRow w o call)
      → place < length capsules → Puts after → StepsDry w call (gave (block_of_capsule (slice_get capsules place))) w' replies.Done
  goes call capsules place after row inside put =
      subst (λ t. ((o : Outcome) → Discards w o addr z t after → ByRow w o call)
      → StepsDry w call (gave (block_of_capsule t)) w' replies.Done)
      (sym (slice_get-get_or capsules place (record { block = 0; text = [] }) inside))
      (λ row. record {
        step = row _ (refl, ap (λ (v : World). record v { taken = w.taken }) put, refl);
        in_order = tt;
        counted = omega (arith, ap (λ (v : World). v.taken) put);
      }) row

  pub first_discarded : 0 < length z.headers → Puts (without_header z)
      → StepsDry w (calls.DiscardFirstHeader addr) (gave (first_header (object_at w addr))) w' replies.Done
  first_discarded inside put =
      let call : Call = calls.DiscardFirstHeader addr in
      subst (λ t. StepsDry w call (gave (first_header t)) w' replies.Done) (sym there)
      (goes call z.headers 0 (without_header z)
      (λ o row. subst (λ t. On w o addr t (λ z. Discards w o addr z (slice_get z.headers 0) (without_header z))) (sym there) row)
      inside put)

  pub last-discarded : length z.trailers - 1 < length z.trailers → Puts (without_trailer z)
      → StepsDry w (calls.DiscardLastTrailer addr) (gave (last_trailer (object_at w addr))) w' replies.Done
  last-discarded inside put =
      let call : Call = calls.DiscardLastTrailer addr in
      subst (λ t. StepsDry w call (gave (last_trailer t)) w' replies.Done) (sym there)
      (goes call z.trailers (length z.trailers - 1) (without_trailer z)
      (λ o row. subst (λ t. On w o addr t (λ z. Discards w o addr z (last_capsule z.trailers) (without_trailer z))) (sym there) row)
      inside put)
