-- The blocks and the limits of a world with another thing at an address, or none.
use Rattle.std.proofs.Common.{◌≡◌, ◌≢◌, ◌+◌, ℕ, List, [], ◌++◌, Bool, true, false, cond, Option, Some, None, map, sym, ap, ◌∙◌, subst, arith}
use Rattle.std.specs.BTreeMap.{is_at}
use Rattle.std.specs.List.{sum_by}
use Rattle.std.specs.Ordering.{nat_cmp}
use Rattle.std.specs.Prelude.{IfSome}
use Rattle.law_steps.proofs.Alike.{Alike}
use Rattle.law_steps.proofs.Changes.{Changes, IsFresh, KeepsLimits, blocks_at, moves_blocks, same_limits, sum_by-blocks_of, things_blocks-with_at}
use Rattle.law_steps.specs.MovesBlocks.{given_addresses, taken_needs}
use Rattle.law_steps.proofs.DistinctLemmas.{on_test}
use Rattle.sdr_model.proofs.ThingsLemmas.{get-with_at, same_address}
use Rattle.sdr_model.specs.Accounts.{ticket_blocks}
use Rattle.sdr_model.specs.Blocks.{addresses_of, blocks_of, things_blocks}
use Rattle.sdr_model.specs.Step.{is_answer}
use Rattle.sdr_model.specs.Steps.{Outcome, taken_addresses}
use Rattle.sdr_model.specs.Things.{with_at, block_for_name}
use Rattle.sdr_model.specs.Valid.{IsValid, IsValidThing}
use Rattle.sdr_model.specs.World.{World, thing_at}
use Rattle.sdr_model.specs.declared.things.UsedBlock.{UsedBlock}
use Rattle.sdr_model.specs.declared.things.Thing.{Thing}

-- the world with this, or nothing, at an address
abbrev pub swapped : World → ℕ → Option Thing → World
swapped w addr o = record w { things = with_at w.things addr o }

-- what is at an address of it
pub thing_at-swapped : (w : World) (addr : ℕ) (o : Option Thing) (q : ℕ)
    → thing_at (swapped w addr o) q ≡ cond (is_at (nat_cmp q) addr) o (thing_at w q)
thing_at-swapped w addr o q = get-with_at w.things addr o q

-- at another address it is as before
pub thing_at-apart : (w : World) (addr : ℕ) (o : Option Thing) (q : ℕ) → q ≢ addr
    → thing_at (swapped w addr o) q ≡ thing_at w q
thing_at-apart w addr o q apart =
    thing_at-swapped w addr o q
    ∙ ap (λ b. cond b o (thing_at w q))
    (on_test (is_at (nat_cmp q) addr) (λ e. absurd (apart (same_address q addr e))) (λ e. e))

-- the blocks of worlds of which things, names and tickets are the same are as many
pub same_sums : (measure : UsedBlock → ℕ) (w v : World) → v.things ≡ w.things → v.names ≡ w.names
    → ticket_blocks v.accounts ≡ ticket_blocks w.accounts
    → sum_by measure (blocks_of v) ≡ sum_by measure (blocks_of w)
same_sums measure w v things names tickets =
    omega (
      arith,
      sum_by-blocks_of measure w,
      sum_by-blocks_of measure v,
      ap (λ m. sum_by measure (things_blocks m)) things,
      ap (λ ns. sum_by measure (map block_for_name ns)) names,
      ap (sum_by measure) tickets,
    )

-- the blocks of a world with this, or nothing, at an address
pub swapped_sums : (measure : UsedBlock → ℕ) (w : World) (addr : ℕ) (o : Option Thing)
    → sum_by measure (blocks_of (swapped w addr o)) + sum_by measure (blocks_at addr (thing_at w addr))
    ≡ sum_by measure (blocks_of w) + sum_by measure (blocks_at addr o)
swapped_sums measure w addr o =
    omega (
      arith,
      things_blocks-with_at measure w.things addr o,
      sum_by-blocks_of measure w,
      sum_by-blocks_of measure (swapped w addr o),
    )

-- and its limits
pub swapped_limits : (w : World) (addr : ℕ) (o : Option Thing) → IfSome o IsValidThing → KeepsLimits w
    → KeepsLimits (swapped w addr o)
swapped_limits w addr o valid limits = record {
  things = λ q. subst (λ t. IfSome t IsValidThing) (sym (thing_at-swapped w addr o q)) (at q (is_at (nat_cmp q) addr));
  names = limits.names;
  distinct_names = limits.distinct_names;
}
  where
    at : (q : ℕ) (b : Bool) → IfSome (cond b o (thing_at w q)) IsValidThing
    at q true = valid
    at q false = limits.things q

-- a thing is elsewhere than where nothing is
pub elsewhere : (w : World) (q addr : ℕ) (t : Thing) → thing_at w q ≡ Some t → thing_at w addr ≡ None → q ≢ addr
elsewhere w q addr t is none same =
    let both : Some t ≡ None = sym is ∙ ap (thing_at w) same ∙ none in cc

-- A call comes to the world `next`, but for marks and shown bytes, whose blocks are those of before, with those of the
-- moves.
pub record Builds (w : World) (o : Outcome) (next : World) : Type 0 where
  pub taken : List UsedBlock
  pub given : List UsedBlock
  pub answered : is_answer o.reply ≡ true
  pub marks : o.after.marks ≡ w.marks ++ taken_addresses o.moves
  pub shown : o.after.shown ≡ []
  pub like : Alike next (record o.after { marks = next.marks })
  pub counted : next.taken ≡ w.taken
  pub needs : map (λ b. b.bytes) taken ≡ taken_needs o.moves
  pub takes : addresses_of taken ≡ taken_addresses o.moves
  pub gives : addresses_of given ≡ given_addresses o.moves
  pub sums : IsValid w → IsFresh w o → (measure : UsedBlock → ℕ)
      → sum_by measure (blocks_of w) + sum_by measure taken ≡ sum_by measure (blocks_of next) + sum_by measure given
  pub limits : KeepsLimits w → KeepsLimits next

-- such a call is a change
pub builds : (w : World) (o : Outcome) (next : World) → Builds w o next → Changes w o
builds w o next b =
    moves_blocks w o b.answered
    (record { marks = b.marks; shown = b.shown; taken = b.like.taken ∙ b.counted })
    (λ valid fresh. record {
      taken = b.taken;
      given = b.given;
      needs = b.needs;
      takes = b.takes;
      gives = b.gives;
      sums = λ measure.
          omega (
            arith,
            b.sums valid fresh measure,
            same_sums measure next o.after b.like.things b.like.names b.like.tickets,
          );
    })
    (λ limits. same_limits b.like.things b.like.names (b.limits limits))
