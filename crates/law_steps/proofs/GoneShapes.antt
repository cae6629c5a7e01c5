-- The shapes of the rows in which extents go: an object is destroyed, or stripped.
use Rattle.std.proofs.Common.{◌≡◌, ◌≤◌, inr, ◌+◌, ◌-◌, ◌==◌, ℕ, List, [], ◌∷◌, ◌++◌, cond, Option, Some, None, map, refl, sym, ap, ◌∙◌, arith}
use Rattle.std.specs.List.{sum_by}
use Rattle.std.specs.Prelude.{IfSome}
use Rattle.std.proofs.lemmas.List.{map-append}
use Rattle.std.proofs.lemmas.List.Sums.{sum_by-append, sum_by-cons}
use Rattle.std.proofs.lemmas.Simd.{map-map}
use Rattle.law_steps.proofs.AccountLemmas.{alike-served}
use Rattle.law_steps.proofs.Changes.{Fewer, KeepsLimits, blocks_at, none_marked, same_limits, thing_limits}
use Rattle.law_steps.proofs.CloneShapes.{cut_long}
use Rattle.law_steps.proofs.DistinctLemmas.{on_test}
use Rattle.law_steps.proofs.GoneBlocks.{addresses_of-gone_given, gone_at, gone_given, gone_given-sums, gone_limits}
use Rattle.law_steps.proofs.GoneLemmas.{go_alone, gone_elsewhere, gone_lone, still_there}
use Rattle.law_steps.proofs.ObjectLemmas.{extents_sum, object_parts, object_sum}
use Rattle.law_steps.proofs.Shapes.{Shape, does, on_addr}
use Rattle.law_steps.proofs.ThingChanges.{given-gave, needs-gave, taken-gave}
use Rattle.law_steps.proofs.ThingLemmas.{object_is}
use Rattle.law_steps.proofs.WorldChanges.{same_sums, swapped, swapped_limits, swapped_sums}
use Rattle.law_steps.specs.Marks.{MarksTaken}
use Rattle.law_steps.specs.MovesBlocks.{MovesBlocks, given_addresses, taken_needs}
use Rattle.sdr_model.specs.Accounts.{ticket_blocks}
use Rattle.sdr_model.specs.Blocks.{addresses_of, blocks_of}
use Rattle.sdr_model.specs.Cuts.{cut, cut_all, left_out}
use Rattle.sdr_model.specs.Gone.{gone_blocks, gone_things, without_things}
use Rattle.sdr_model.specs.ObjectSteps as object
use Rattle.sdr_model.specs.PartSteps as part
use Rattle.sdr_model.specs.Queue.{with_served}
use Rattle.sdr_model.specs.RowMoves.{destroyed_blocks, stripped_blocks}
use Rattle.sdr_model.specs.Step.{is_answer}
use Rattle.sdr_model.specs.Steps.{Does, Outcome, gave, taken_addresses, without_thing}
use Rattle.sdr_model.specs.Things.{block_for_capsule, block_for_extent, own_block}
use Rattle.sdr_model.specs.Valid.{FitTogether, IsValidObject, IsValidThing}
use Rattle.sdr_model.specs.World.{World, as_raw, thing_at}
use Rattle.sdr_model.specs.Zco.{as_source, object_at}
use Rattle.sdr_model.specs.declared.answer.Reply.TheVariants as replies
use Rattle.sdr_model.specs.declared.call.Call.TheVariants as calls
use Rattle.sdr_model.specs.declared.things.UsedBlock.{UsedBlock}
use Rattle.sdr_model.specs.declared.things.Thing.{Thing}
use Rattle.sdr_model.specs.declared.things.Thing.TheVariants as things
use Rattle.sdr_model.specs.declared.zco.Capsule.{Capsule}
use Rattle.sdr_model.specs.declared.zco.Extent.{Extent}
use Rattle.sdr_model.specs.declared.zco.ZcoObject.{ZcoObject}

-- a world without things has else what it had
gone_rest : (w : World) (addrs : List ℕ)
    → without_things w addrs ≡ record w { things = (without_things w addrs).things }
gone_rest w [] = refl
gone_rest w (addr ∷ addrs) = gone_rest (without_thing w addr) addrs

-- the extents that are cut to a part and those that are left out have the blocks of all
cut_sums : (measure : UsedBlock → ℕ) (from to : ℕ) (es : List Extent)
    → sum_by measure (map block_for_extent (cut_all from to es))
    + sum_by measure (map block_for_extent (left_out from to es))
    ≡ sum_by measure (map block_for_extent es)
cut_sums measure from to [] = refl
cut_sums measure from to (e ∷ es) =
    let kept = cut_all (from - e.length) (to - e.length) es in
    let out = left_out (from - e.length) (to - e.length) es in
    let rest = cut_sums measure (from - e.length) (to - e.length) es in
    let whole = sum_by-cons measure (block_for_extent e) (map block_for_extent es) in
    on_test ((cut from to e).length == 0)
    (λ t. omega (
      arith,
      rest,
      whole,
      ap (λ b. sum_by measure (map block_for_extent (cond b kept (cut from to e ∷ kept)))) t,
      ap (λ b. sum_by measure (map block_for_extent (cond b (e ∷ out) out))) t,
      sum_by-cons measure (block_for_extent e) (map block_for_extent out),
    ))
    (λ t. omega (
      arith,
      rest,
      whole,
      ap (λ b. sum_by measure (map block_for_extent (cond b kept (cut from to e ∷ kept)))) t,
      ap (λ b. sum_by measure (map block_for_extent (cond b (e ∷ out) out))) t,
      sum_by-cons measure (block_for_extent e) (map block_for_extent kept),
    ))

-- a stripped object keeps its limits
valid_stripped : (z : ZcoObject) → IsValidObject z → IsValidObject (part.stripped z)
valid_stripped z valid = record {
  headers = valid.headers;
  trailers = valid.trailers;
  extents = cut_long z.part.offset (part.part_end z) z.extents;
  part = omega arith;
}

-- an object is still there where extents went
object_stays : (w : World) (addr : ℕ) (z : ZcoObject) (all : List Extent) → FitTogether w
    → thing_at w addr ≡ Some (things.Object z)
    → thing_at (without_things w (gone_things w all all)) addr ≡ Some (things.Object z)
object_stays w addr z all fit is =
    still_there w (gone_things w all all) addr (gone_elsewhere w fit all all addr (ap as_raw is) (ap as_source is)) ∙ is

-- the addresses of headers or trailers
capsule_addresses : (cs : List Capsule) → addresses_of (map block_for_capsule cs) ≡ map (λ c. c.block) cs
capsule_addresses cs = map-map (λ (b : UsedBlock). b.addr) block_for_capsule cs

-- What goes with extents leaves the world `mid`, and the object at an address is then another or none. The queue is served.
module _ (w : World) (o : Outcome) (addr : ℕ) (z : ZcoObject) (is : thing_at w addr ≡ Some (things.Object z))
    (all : List Extent) (after : Option Thing) (given : List ℕ)
    (did : Does o (gave given) (with_served (swapped (without_things w (gone_things w all all)) addr after) z.account)
    replies.Done) where
  abbrev mid : World
  mid = without_things w (gone_things w all all)

  rest : mid ≡ record w { things = mid.things }
  rest = gone_rest w (gone_things w all all)

  no_takes : taken_addresses o.moves ≡ []
  no_takes = ap taken_addresses did.0 ∙ taken-gave given

  its_marks : MarksTaken w o.moves o.after
  its_marks =
      none_marked w o _ did.1 no_takes (ap (λ (v : World). v.marks) rest) refl (ap (λ (v : World). v.taken) rest)

  -- the blocks after it
  after_sums : (measure : UsedBlock → ℕ)
      → sum_by measure (blocks_of o.after) + sum_by measure (blocks_at addr (thing_at mid addr))
      ≡ sum_by measure (blocks_of mid) + sum_by measure (blocks_at addr after)
  after_sums measure =
      let like = alike-served (swapped mid addr after) z.account in
      omega (
        arith,
        swapped_sums measure mid addr after,
        same_sums measure (swapped mid addr after) o.after
            (ap (λ (v : World). v.things) did.1)
            (ap (λ (v : World). v.names) did.1)
            (ap (λ (v : World). ticket_blocks v.accounts) did.1 ∙ like.tickets),
      )

  its_limits : (KeepsLimits w → IfSome after IsValidThing) → KeepsLimits w → KeepsLimits o.after
  its_limits valid limits =
      same_limits (ap (λ (v : World). v.things) did.1) (ap (λ (v : World). v.names) did.1)
      (swapped_limits mid addr after (valid limits) (gone_limits w (gone_things w all all) limits))

  -- there are fewer, where the object has no more than before
  fewer : ((measure : UsedBlock → ℕ) → sum_by measure (blocks_at addr after) ≤ object_sum measure addr z)
      → Fewer w o.moves o.after
  fewer less = record {
    none = no_takes;
    sums = λ measure.
        omega (
          arith,
          after_sums measure,
          less measure,
          gone_at measure w (gone_things w all all) addr,
          ap (λ t. sum_by measure (blocks_at addr t)) is,
        );
  }

  -- and they go with the moves, where sources and extents fit each other
  moved : FitTogether w → (blocks : List UsedBlock) → addresses_of blocks ≡ given
      → ((measure : UsedBlock → ℕ)
      → sum_by measure blocks + sum_by measure (blocks_at addr after) + extents_sum measure addr all
      ≡ sum_by measure (gone_given w w all all) + object_sum measure addr z)
      → MovesBlocks w o.moves o.after
  moved fit blocks begin sums = record {
    taken = [];
    given = blocks;
    needs = sym (ap taken_needs did.0 ∙ needs-gave given);
    takes = sym no_takes;
    gives = begin ∙ sym (ap given_addresses did.0 ∙ given-gave given);
    sums = λ measure.
        omega (
          arith,
          after_sums measure,
          sums measure,
          gone_given-sums measure w w all all,
          ap (λ t. sum_by measure (blocks_at addr t)) (object_stays w addr z all fit is),
        );
  }

module _ (w : World) where
  -- the blocks that are given back where an object goes
  abbrev destroyed : ℕ → ZcoObject → List UsedBlock
  destroyed addr z =
      map block_for_capsule z.headers ++ gone_given w w z.extents z.extents ++ map block_for_capsule z.trailers
      ++ own_block addr (things.Object z) ∷ []

  destroyed_begin : (addr : ℕ) (z : ZcoObject) → FitTogether w
      → addresses_of (destroyed addr z) ≡ object.destroy_blocks w addr z
  destroyed_begin addr z fit =
      let gone = gone_given w w z.extents z.extents in
      let alone = go_alone w (gone_things w z.extents z.extents) (gone_lone w fit z.extents z.extents) in
      let own = own_block addr (things.Object z) in
      map-append (λ (b : UsedBlock). b.addr) (map block_for_capsule z.headers ++ gone ++ map block_for_capsule z.trailers) (own ∷ [])
      ∙ ap (λ bs. bs ++ addr ∷ [])
      (map-append (λ (b : UsedBlock). b.addr) (map block_for_capsule z.headers ++ gone)
      (map block_for_capsule z.trailers)
      ∙ ap (λ bs. bs ++ addresses_of (map block_for_capsule z.trailers))
      (map-append (λ (b : UsedBlock). b.addr) (map block_for_capsule z.headers) gone
      ∙ ap (λ bs. bs ++ addresses_of gone) (capsule_addresses z.headers)
      ∙ ap (λ bs. map (λ c. c.block) z.headers ++ bs) (addresses_of-gone_given w w z.extents z.extents alone))
      ∙ ap (λ bs. map (λ c. c.block) z.headers ++ gone_blocks w z.extents z.extents ++ bs)
      (capsule_addresses z.trailers))

  destroyed_sums : (measure : UsedBlock → ℕ) (addr : ℕ) (z : ZcoObject)
      → sum_by measure (destroyed addr z) + 0 + extents_sum measure addr z.extents
      ≡ sum_by measure (gone_given w w z.extents z.extents) + object_sum measure addr z
  destroyed_sums measure addr z =
      let gone = gone_given w w z.extents z.extents in
      let own = own_block addr (things.Object z) in
      omega (
        arith,
        object_parts measure addr z,
        sum_by-append measure (map block_for_capsule z.headers ++ gone ++ map block_for_capsule z.trailers) (own ∷ []),
        sum_by-append measure (map block_for_capsule z.headers ++ gone) (map block_for_capsule z.trailers),
        sum_by-append measure (map block_for_capsule z.headers) gone,
        sum_by-cons measure own [],
      )

-- the blocks of an object that is stripped
stripped_sums : (measure : UsedBlock → ℕ) (addr : ℕ) (z : ZcoObject)
    → object_sum measure addr (part.stripped z) + extents_sum measure addr (part.outside_part z)
    ≡ object_sum measure addr z
stripped_sums measure addr z =
    omega (
      arith,
      object_parts measure addr z,
      object_parts measure addr (part.stripped z),
      cut_sums measure z.part.offset (part.part_end z) z.extents,
    )

module _ {w : World} {o : Outcome} where
  pub destroy : (addr : ℕ) → object.Destroy w o addr → Shape w (calls.Destroy addr) o
  destroy addr h =
      on_addr addr (object_at w addr) h (λ z is d.
      let there = object_is _ _ is in
      does d refl (λ at. ap (λ z. gave (destroyed_blocks w addr z)) is) (record {
        answered = ap is_answer d.2;
        marks = its_marks w o addr z there z.extents None (object.destroy_blocks w addr z) d;
        moved = λ valid fit fresh. moved w o addr z there z.extents None (object.destroy_blocks w addr z) d fit
            (destroyed w addr z) (destroyed_begin w addr z fit) (λ measure. destroyed_sums w measure addr z);
        kept = λ valid fresh. inr (fewer w o addr z there z.extents None (object.destroy_blocks w addr z) d
            (λ measure. omega arith));
        limits = its_limits w o addr z there z.extents None (object.destroy_blocks w addr z) d (λ limits. tt);
      }))

  pub strip : (addr : ℕ) → part.Strip w o addr → Shape w (calls.Strip addr) o
  strip addr h =
      on_addr addr (object_at w addr) h (λ z is d.
      let there = object_is _ _ is in
      let out = part.outside_part z in
      let after = Some (things.Object (part.stripped z)) in
      does d refl (λ at. ap (λ z. gave (stripped_blocks w z)) is) (record {
        answered = ap is_answer d.2;
        marks = its_marks w o addr z there out after (gone_blocks w out out) d;
        moved = λ valid fit fresh. moved w o addr z there out after (gone_blocks w out out) d fit
            (gone_given w w out out)
            (addresses_of-gone_given w w out out (go_alone w (gone_things w out out) (gone_lone w fit out out)))
            (λ measure. omega (arith, stripped_sums measure addr z));
        kept = λ valid fresh. inr (fewer w o addr z there out after (gone_blocks w out out) d
            (λ measure. omega (arith, stripped_sums measure addr z)));
        limits = its_limits w o addr z there out after (gone_blocks w out out) d
            (λ limits. valid_stripped z (thing_limits w addr (things.Object z) there limits));
      }))
