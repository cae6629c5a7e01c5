-- The shape of the row that clones a part of an object.
use Rattle.std.proofs.Common.{◌≡◌, ◌≤◌, ◌+◌, ◌-◌, ◌==◌, ◌||◌, ℕ, suc, List, [], ◌∷◌, cond, Some, None, map, nat_lt, refl, sym, ap, ◌∙◌, subst, arith}
use Rattle.std.specs.Prelude.{All}
use Rattle.std.proofs.lemmas.Bool.{eqb-false}
use Rattle.std.proofs.lemmas.List.Elements.{All-cons, All-nil}
use Rattle.std.proofs.lemmas.List.Sums.{sum_by-cons}
use Rattle.sdr_base.specs.declared.account.Acct.{Acct}
use Rattle.law_steps.proofs.Alike.{Alike, alike-with_thing}
use Rattle.law_steps.proofs.Changes.{Changes, swaps_thing}
use Rattle.law_steps.proofs.ChargeShapes.{on_charges}
use Rattle.law_steps.proofs.DistinctLemmas.{on_test}
use Rattle.law_steps.proofs.ObjectLemmas.{object_parts}
use Rattle.law_steps.proofs.Shapes.{Shape, does_with, on_addr, on_failed}
use Rattle.law_steps.proofs.ThingChanges.{nothing_there}
use Rattle.law_steps.specs.Fresh.{AreFresh}
use Rattle.law_steps.specs.MovesBlocks.{given_addresses, taken_needs}
use Rattle.sdr_model.specs.Accounts.{ticket_blocks}
use Rattle.sdr_model.specs.Blocks.{addresses_of, blocks_of}
use Rattle.sdr_model.specs.Charges.{object_charge}
use Rattle.sdr_model.specs.Cuts.{cut, cut_all, placed}
use Rattle.sdr_model.specs.ObjectSteps.{with_object}
use Rattle.sdr_model.specs.PartSteps as part
use Rattle.sdr_model.specs.RowMoves.{clone_moves_of}
use Rattle.sdr_model.specs.Step.{is_answer}
use Rattle.sdr_model.specs.Steps.{DoesWith, Outcome, taken_addresses, taken_at, takes_from}
use Rattle.sdr_model.specs.Things.{block_for_extent, extent_need, own_block}
use Rattle.sdr_model.specs.Valid.{IsValidObject}
use Rattle.sdr_model.specs.World.{World}
use Rattle.sdr_model.specs.Zco.{object_at}
use Rattle.sdr_model.specs.declared.answer.Reply.TheVariants as replies
use Rattle.sdr_model.specs.declared.call.Call.TheVariants as calls
use Rattle.sdr_model.specs.declared.things.UsedBlock.{UsedBlock}
use Rattle.sdr_model.specs.declared.things.Thing.TheVariants as things
use Rattle.sdr_model.specs.declared.zco.Extent.{Extent}
use Rattle.sdr_model.specs.declared.zco.ZcoObject.{ZcoObject}

-- the blocks of placed extents are those that are taken for them
placed_needs : (at : ℕ → ℕ) (k : ℕ) (es : List Extent)
    → map (λ (b : UsedBlock). b.bytes) (map block_for_extent (placed at k es))
    ≡ taken_needs (takes_from at k (map (λ e. extent_need) es))
placed_needs at k [] = refl
placed_needs at k (e ∷ es) = ap (λ ns. extent_need ∷ ns) (placed_needs at (suc k) es)

placed_takes : (at : ℕ → ℕ) (k : ℕ) (es : List Extent)
    → addresses_of (map block_for_extent (placed at k es))
    ≡ taken_addresses (takes_from at k (map (λ e. extent_need) es))
placed_takes at k [] = refl
placed_takes at k (e ∷ es) = ap (λ ns. at k ∷ ns) (placed_takes at (suc k) es)

placed_gives : (at : ℕ → ℕ) (k : ℕ) (es : List Extent)
    → given_addresses (takes_from at k (map (λ e. extent_need) es)) ≡ []
placed_gives at k [] = refl
placed_gives at k (e ∷ es) = placed_gives at (suc k) es

-- cut extents have a byte each
pub cut_long : (from to : ℕ) (es : List Extent) → All (λ e. 1 ≤ e.length) (cut_all from to es)
cut_long from to [] = All-nil _
cut_long from to (e ∷ es) =
    let rest = cut_all (from - e.length) (to - e.length) es in
    let all = cut_long (from - e.length) (to - e.length) es in
    on_test ((cut from to e).length == 0)
    (λ none. subst (λ b. All (λ e. 1 ≤ e.length) (cond b rest (cut from to e ∷ rest))) (sym none) all)
    (λ some. subst (λ b. All (λ e. 1 ≤ e.length) (cond b rest (cut from to e ∷ rest))) (sym some)
    (All-cons (λ (e : Extent). 1 ≤ e.length) (cut from to e) rest
    (omega (arith, eqb-false (cut from to e).length 0 some)) all))

-- and so have placed ones
placed_long : (at : ℕ → ℕ) (k : ℕ) (es : List Extent) → All (λ e. 1 ≤ e.length) es
    → All (λ e. 1 ≤ e.length) (placed at k es)
placed_long at k [] all = All-nil _
placed_long at k (e ∷ es) all =
    All-cons (λ (e : Extent). 1 ≤ e.length) (record e { block = at k }) (placed at (suc k) es)
    (all 0 e (omega arith)) (placed_long at (suc k) es (λ i d within. all (suc i) d (omega (arith, within))))

-- an object of extents that have a byte each keeps its limits
pub valid_whole : (acct : Acct) (es : List Extent) → All (λ e. 1 ≤ e.length) es → IsValidObject (part.object_of acct es)
valid_whole acct es all = record { headers = All-nil _; trailers = All-nil _; extents = all; part = omega arith }

-- what a clone goes on with where its charge is allowed
abbrev pub Clones : World → Outcome → ZcoObject → List Extent → World → Type 0
Clones w o z extents used =
    DoesWith w o (λ at. part.clone_moves at extents)
    (λ at. with_object used (at 0) (part.object_of z.account (placed at 1 extents)))
    (λ at. replies.At (at 0))

module _ {w : World} {o : Outcome} where
  -- an object of extents is made
  cloned : (acct : Acct) (es : List Extent) (used : World) → Alike w used → All (λ e. 1 ≤ e.length) es
      → DoesWith w o (λ at. part.clone_moves at es)
      (λ at. with_object used (at 0) (part.object_of acct (placed at 1 es))) (λ at. replies.At (at 0)) → Changes w o
  cloned acct es used like long d =
      let at = taken_at o.moves in
      let z = part.object_of acct (placed at 1 es) in
      let like = alike-with_thing (at 0) (things.Object z) like in
      swaps_thing w o (record {
        addr = at 0;
        before = None;
        after = Some (things.Object z);
        taken = own_block (at 0) (things.Object z) ∷ map block_for_extent (placed at 1 es);
        given = [];
        answered = ap is_answer d.2;
        marks = record {
          marks = ap (λ (v : World). v.marks) d.1;
          shown = ap (λ (v : World). v.shown) d.1;
          taken = ap (λ (v : World). v.taken) d.1 ∙ like.taken;
        };
        needs = ap (λ ns. 72 ∷ ns) (placed_needs at 1 es) ∙ sym (ap taken_needs d.0);
        takes = ap (λ ns. at 0 ∷ ns) (placed_takes at 1 es) ∙ sym (ap taken_addresses d.0);
        gives = sym (ap given_addresses d.0 ∙ placed_gives at 1 es);
        was = λ fresh. nothing_there w (at 0) (subst (AreFresh (addresses_of (blocks_of w))) d.0 fresh).1;
        things = ap (λ (v : World). v.things) d.1 ∙ like.things;
        names = ap (λ (v : World). v.names) d.1 ∙ like.names;
        tickets = ap (λ (v : World). ticket_blocks v.accounts) d.1 ∙ like.tickets;
        sums = λ limits measure.
            omega (
              arith,
              sum_by-cons measure (own_block (at 0) (things.Object z)) (map block_for_extent (placed at 1 es)),
              object_parts measure (at 0) z,
            );
        valid = λ limits. valid_whole acct (placed at 1 es) (placed_long at 1 es long);
      })

  pub clone_part : (addr number offset bytes : ℕ) → part.ClonePart w o addr number offset bytes
      → Shape w (calls.ClonePart addr number offset bytes) o
  clone_part addr number offset bytes h =
      on_addr addr (object_at w addr) h (λ z is h.
      on_failed (bytes == 0 || nat_lt z.part.length (offset + bytes)) _ h refl (λ ranged h.
      let extents = part.asked_extents z offset bytes in
      on_charges z.account number (λ space. object_charge space (part.object_of z.account extents))
      (Clones w o z extents) h (λ used like d.
      does_with (λ at. part.clone_moves at extents) d.0 refl (λ at. ap (λ z. clone_moves_of z offset bytes at) is)
      (cloned z.account extents used like
      (cut_long (z.part.offset + offset) (z.part.offset + offset + bytes) z.extents) d))))
