use Rattle.std.proofs.Common.{◌≡◌, ◌==◌, ◌++◌, ℕ, List, Option, map, ap, sym, ◌∙◌, refl}
use Rattle.std.proofs.lemmas.List.Folds.{find-append}
use Rattle.std.specs.Option.{option_or}
use Rattle.sdr_model.specs.Things.{block_among, block_for_capsule, block_for_extent, object_blocks}
use Rattle.sdr_model.specs.declared.things.UsedBlock.{UsedBlock}
use Rattle.sdr_model.specs.declared.zco.Capsule.{Capsule}
use Rattle.sdr_model.specs.declared.zco.Extent.{Extent}
use Rattle.sdr_model.specs.declared.zco.ZcoObject.{ZcoObject}
use Rattle.sdr_model.proofs.zco.ZcoObject.block.Goals as goal

-- the block among those of headers or trailers
abbrev of_capsules : ℕ → List Capsule → Option UsedBlock
of_capsules addr capsules = block_among addr (map block_for_capsule capsules)

-- the block among those of extents
abbrev of_extents : ℕ → List Extent → Option UsedBlock
of_extents addr extents = block_among addr (map block_for_extent extents)

-- with what was found in headers, among extents and in trailers
found : (addr : ℕ) (z : ZcoObject) (first second third : Option UsedBlock)
    → first ≡ of_capsules addr z.headers → second ≡ of_extents addr z.extents → third ≡ of_capsules addr z.trailers
    → option_or (option_or first second) third ≡ block_among addr (object_blocks z)
found addr z first second third headers extents trailers =
    ap (λ o. option_or (option_or o second) third) headers
    ∙ ap (λ o. option_or (option_or (of_capsules addr z.headers) o) third) extents
    ∙ ap (option_or (option_or (of_capsules addr z.headers) (of_extents addr z.extents))) trailers
    ∙ ap (λ o. option_or o (of_capsules addr z.trailers))
    (sym (find-append (λ b. b.addr == addr) (map block_for_capsule z.headers) (map block_for_extent z.extents)))
    ∙ sym (find-append (λ b. b.addr == addr) (map block_for_capsule z.headers ++ map block_for_extent z.extents) (map block_for_capsule z.trailers))

pub returns-in-Some : goal.returns-in-Some
returns-in-Some c =
    let addr = c.args.addr in
    let z = c.args.self.now in
    found addr z _ (of_extents addr z.extents) (of_capsules addr z.trailers)
    (c.in-Some.ensures ∙ ap (of_capsules addr) c.as_slice.ensures) refl refl

pub returns-in-Some-extent_among : goal.returns-in-Some-extent_among
returns-in-Some-extent_among c =
    let addr = c.args.addr in
    let z = c.args.self.now in
    found addr z _ _ (of_capsules addr z.trailers)
    (c.in_default.ensures ∙ ap (of_capsules addr) c.as_slice.ensures)
    (c.in-Some-extent_among.ensures ∙ ap (of_extents addr) c.as_slice-2.ensures) refl

pub returns : goal.returns
returns c =
    let addr = c.args.addr in
    let z = c.args.self.now in
    found addr z _ _ _
    (c.in_default.ensures ∙ ap (of_capsules addr) c.as_slice.ensures)
    (c.in_default-extent_among.ensures ∙ ap (of_extents addr) c.as_slice-2.ensures)
    (c.capsule_among-2.ensures ∙ ap (of_capsules addr) c.as_slice-3.ensures)
