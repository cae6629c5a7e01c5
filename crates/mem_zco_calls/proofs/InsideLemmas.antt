-- The blocks inside an object: those of its headers, extents and trailers.
use Rattle.std.proofs.Common.{◌≡◌, ◌++◌, ℕ, List, map, subst, sym}
use Rattle.std.proofs.lemmas.List.Elements.{All-append}
use Rattle.std.specs.List.{All}
use Rattle.mem_world.proofs.ComponentLemmas.{All-back, All-front}
use Rattle.sdr_model.specs.Dry.{next_addr}
use Rattle.sdr_model.specs.PartSteps.{part_end, stripped}
use Rattle.sdr_model.specs.Things.{block_for_capsule, block_for_extent, object_blocks}
use Rattle.sdr_model.specs.declared.things.UsedBlock.{UsedBlock}
use Rattle.sdr_model.specs.declared.things.Thing.TheVariants as things
use Rattle.sdr_model.specs.declared.zco.Extent.{Extent}
use Rattle.sdr_model.specs.declared.zco.Part.{Part}
use Rattle.sdr_model.specs.declared.zco.ZcoObject.{ZcoObject}
use Rattle.mem_store.specs.Draft.{Draft}
use Rattle.mem_store.specs.Owners.{MayPut, Owns}
use Rattle.mem_zco_calls.proofs.CutLemmas.{All-cut_all}

module _ (P : UsedBlock → Type 0) (z : ZcoObject) where
  module _ (all : All P (object_blocks z)) where
    front : All P (map block_for_capsule z.headers ++ map block_for_extent z.extents)
    front = All-front P (map block_for_capsule z.headers ++ map block_for_extent z.extents)
        (map block_for_capsule z.trailers) all

    pub headers_of : All P (map block_for_capsule z.headers)
    headers_of = All-front P (map block_for_capsule z.headers) (map block_for_extent z.extents) front

    pub extents_of : All P (map block_for_extent z.extents)
    extents_of = All-back P (map block_for_capsule z.headers) (map block_for_extent z.extents) front

    pub trailers_of : All P (map block_for_capsule z.trailers)
    trailers_of = All-back P (map block_for_capsule z.headers ++ map block_for_extent z.extents) (map block_for_capsule z.trailers) all

  pub all_blocks : All P (map block_for_capsule z.headers) → All P (map block_for_extent z.extents)
      → All P (map block_for_capsule z.trailers) → All P (object_blocks z)
  all_blocks headers extents trailers =
      All-append P (map block_for_capsule z.headers ++ map block_for_extent z.extents)
      (map block_for_capsule z.trailers)
      (All-append P (map block_for_capsule z.headers) (map block_for_extent z.extents) headers extents) trailers

-- an object that is cut to its part has no blocks inside that it hadn't before
pub stripped-owned : (d : Draft) (addr : ℕ) (z : ZcoObject) (cuts : List Extent) (part : Part) → cuts ≡ (stripped z).extents
    → MayPut d addr (things.Object z) → MayPut d addr (things.Object (record z { extents = cuts; part = part }))
stripped-owned d addr z cuts part is owns = record {
  below = owns.below;
  inside = subst (λ es. All P (map block_for_capsule z.headers ++ map block_for_extent es ++ map block_for_capsule z.trailers)) (sym is)
      (all_blocks P (stripped z) (headers_of P z owns.inside)
      (All-cut_all P z.part.offset (part_end z) z.extents (extents_of P z owns.inside)) (trailers_of P z owns.inside));
}
  where
    P : UsedBlock → Type 0
    P = Owns d.owners (next_addr d.now.taken) addr
