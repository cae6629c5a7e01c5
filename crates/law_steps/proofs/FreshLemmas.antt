-- What a fresh block's address is not.
use Rattle.std.proofs.Common.{◌≡◌, ℕ, ◌+◌, ◌++◌, Option, Some, None, map, nat_eq, refl, sym, ap, ◌∙◌, subst, arith}
use Rattle.std.specs.Cmp.{nat_eq_equiv}
use Rattle.std.specs.FinMap.{entries, remove}
use Rattle.std.specs.List.{sum_by}
use Rattle.std.specs.Prelude.{Contains}
use Rattle.std.proofs.lemmas.List.Sums.{sum_by-append, sum_by-cons}
use Rattle.law_steps.proofs.DistinctLemmas.{absent, weight, weight_of}
use Rattle.sdr_model.proofs.SumLemmas.{counted_at, sum_by-flat_map, sum_by-map, sum_by-removed}
use Rattle.sdr_model.specs.Accounts.{ticket_blocks}
use Rattle.sdr_model.specs.Blocks.{addresses_of, blocks_of, thing_blocks, things_blocks}
use Rattle.sdr_model.specs.Things.{inner_blocks, block_for_name, own_block}
use Rattle.sdr_model.specs.World.{World, thing_at}
use Rattle.sdr_model.specs.declared.things.UsedBlock.{UsedBlock}
use Rattle.sdr_model.specs.declared.things.Thing.{Thing}
use Rattle.sdr_model.specs.declared.things.Thing.TheVariants as things

-- a thing's own block begins at its address
pub own_at : (addr : ℕ) (thing : Thing) → (own_block addr thing).addr ≡ addr
own_at addr (things.Raw bytes) = refl
own_at addr (things.Text text) = refl
own_at addr (things.List row) = refl
own_at addr (things.Table table) = refl
own_at addr (things.Hash hash) = refl
own_at addr (things.Source source) = refl
own_at addr (things.Object object) = refl

-- whether a block begins at an address, as a number, and how many of an entry's blocks do
abbrev at : ℕ → UsedBlock → ℕ
at addr b = weight (nat_eq addr b.addr)

abbrev of_entry : ℕ → ℕ × Thing → ℕ
of_entry addr e = sum_by (at addr) (thing_blocks e.0 e.1)

-- no thing is where no block of the world begins
pub none_there : (w : World) (addr : ℕ) → ¬ Contains (addresses_of (blocks_of w)) addr → thing_at w addr ≡ None
none_there w addr none = by (thing_at w addr) refl
  where
    by : (o : Option Thing) → thing_at w addr ≡ o → thing_at w addr ≡ None
    by None is = is
    by (Some thing) is =
        let no_block : sum_by (at addr) (blocks_of w) ≡ 0 =
        sym (sum_by-map (λ a. weight (nat_eq addr a)) (λ (b : UsedBlock). b.addr) (blocks_of w))
        ∙ absent addr (addresses_of (blocks_of w)) none in
        let own : at addr (own_block addr thing) ≡ 1 =
        weight_of (ap (nat_eq addr) (own_at addr thing) ∙ nat_eq_equiv.refl addr) in
        let behind : sum_by (at addr) (blocks_of w) ≡ sum_by (at addr)
        (things_blocks w.things ++ map block_for_name w.names)
        + sum_by (at addr) (ticket_blocks w.accounts) =
        sum_by-append (at addr) (things_blocks w.things ++ map block_for_name w.names) (ticket_blocks w.accounts) in
        let among : sum_by (at addr) (things_blocks w.things ++ map block_for_name w.names)
        ≡ sum_by (at addr) (things_blocks w.things) + sum_by (at addr) (map block_for_name w.names) =
        sum_by-append (at addr) (things_blocks w.things) (map block_for_name w.names) in
        let each : sum_by (at addr) (things_blocks w.things) ≡ sum_by (of_entry addr) (entries w.things) =
        sum_by-flat_map (at addr) (λ (e : ℕ × Thing). thing_blocks e.0 e.1) (entries w.things) in
        let less : sum_by (of_entry addr) (entries (remove w.things addr)) + sum_by (at addr) (thing_blocks addr thing)
        ≡ sum_by (of_entry addr) (entries w.things) =
        subst (λ t. sum_by (of_entry addr) (entries (remove w.things addr)) + counted_at (of_entry addr) addr t
        ≡ sum_by (of_entry addr) (entries w.things)) is (sum_by-removed (of_entry addr) w.things addr) in
        let first : sum_by (at addr) (thing_blocks addr thing) ≡ at addr (own_block addr thing) + sum_by (at addr)
        (inner_blocks thing) = sum_by-cons (at addr) (own_block addr thing) (inner_blocks thing) in
        absurd (omega (arith, no_block, own, behind, among, each, less, first))
