-- Why the blocks of a world go with the moves, and a valid world stays valid.
use Rattle.std.proofs.Common.{◌≡◌, ◌≢◌, ◌⊎◌, ℕ, ◌+◌, ◌≤◌, List, [], ◌∷◌, true, false, inl, inr, nat_eq, refl, sym, ap, ◌∙◌, subst, arith}
use Rattle.std.specs.Cmp.{nat_eq_equiv}
use Rattle.std.specs.List.{count_by, sum_by}
use Rattle.std.proofs.lemmas.Bool.{eqb-true}
use Rattle.sdr_base.specs.declared.moves.Move.{Move}
use Rattle.sdr_base.specs.declared.moves.Move.TheVariants.{Took, Gave, Short}
use Rattle.law_steps.proofs.Changes.{Fewer, KeepsLimits, limits_of}
use Rattle.law_steps.proofs.DistinctLemmas.{absent, count_by-cons, from_once, none_counted, not_contained, on_test, once, others, others_counted, weight, weight_of}
use Rattle.law_steps.proofs.EditLemmas.{count_by-map}
use Rattle.law_steps.proofs.RowShapes.{row_shape}
use Rattle.law_steps.proofs.Shapes.{Shape}
use Rattle.law_steps.proofs.StepLemmas.{answered_shape}
use Rattle.law_steps.specs.Fresh.{AreFresh}
use Rattle.law_steps.specs.MovesBlocks.{MovesBlocks, taken_needs, given_addresses}
use Rattle.sdr_model.specs.Steps.{taken_addresses, Outcome}
use Rattle.law_steps.specs.Shows.{ShowsOnly}
use Rattle.sdr_model.specs.Blocks.{addresses_of, blocks_of}
use Rattle.sdr_model.specs.Rows.{ByRow}
use Rattle.sdr_model.specs.Step.{Step, is_answer}
use Rattle.sdr_model.specs.Valid.{FitTogether, IsValid}
use Rattle.sdr_model.specs.World.{World}
use Rattle.sdr_model.specs.declared.answer.Reply.{Reply}
use Rattle.sdr_model.specs.declared.call.Call.{Call}
use Rattle.sdr_model.specs.declared.call.Call.TheVariants as calls
use Rattle.sdr_model.specs.declared.things.UsedBlock.{UsedBlock}

-- what only shows bytes has the blocks of before
shows_blocks : (w w' : World) (call : Call) → ShowsOnly call w w' → blocks_of w' ≡ blocks_of w
shows_blocks w w' (calls.Stage addr count) only = ap blocks_of only
shows_blocks w w' call only = ap blocks_of only

-- and its limits
shows_limits : (w w' : World) (call : Call) → ShowsOnly call w w' → KeepsLimits w → KeepsLimits w'
shows_limits w w' (calls.Stage addr count) only limits =
    subst KeepsLimits (sym only)
    (record { things = limits.things; names = limits.names; distinct_names = limits.distinct_names })
shows_limits w w' call only limits =
    subst KeepsLimits (sym only)
    (record { things = limits.things; names = limits.names; distinct_names = limits.distinct_names })

-- no moves, and the blocks of before
moves_none : (w w' : World) (moves : List Move) → moves ≡ [] → blocks_of w' ≡ blocks_of w → MovesBlocks w moves w'
moves_none w w' moves none same = record {
  taken = [];
  given = [];
  needs = sym (ap taken_needs none);
  takes = sym (ap taken_addresses none);
  gives = sym (ap given_addresses none);
  sums = λ measure. omega (arith, ap (sum_by measure) same);
}

-- what a row comes to moves the blocks of a valid world, or leaves fewer, and keeps the limits
module _ (w : World) (call : Call) (o : Outcome) (valid : IsValid w)
    (fresh : AreFresh (addresses_of (blocks_of w)) o.moves) where
  shape_moves : FitTogether w → Shape w call o → MovesBlocks w o.moves o.after
  shape_moves fit (Shape.refuses refusal of_row h) = moves_none w o.after o.moves h.0 (ap blocks_of h.1)
  shape_moves fit (Shape.shows s) = moves_none w o.after o.moves s.moves (shows_blocks w o.after call s.only)
  shape_moves fit (Shape.acts a) = a.changes.moved valid fit fresh

  shape_keeps : Shape w call o → MovesBlocks w o.moves o.after ⊎ Fewer w o.moves o.after
  shape_keeps (Shape.refuses refusal of_row h) = inl (moves_none w o.after o.moves h.0 (ap blocks_of h.1))
  shape_keeps (Shape.shows s) = inl (moves_none w o.after o.moves s.moves (shows_blocks w o.after call s.only))
  shape_keeps (Shape.acts a) = a.changes.kept valid fresh

  shape_limits : Shape w call o → KeepsLimits o.after
  shape_limits (Shape.refuses refusal of_row h) = subst KeepsLimits (sym h.1) (limits_of w valid)
  shape_limits (Shape.shows s) = shows_limits w o.after call s.only (limits_of w valid)
  shape_limits (Shape.acts a) = a.changes.limits (limits_of w valid)

-- The blocks of the world go with the moves of an answered call.
pub blocks_move : (w w' : World) (call : Call) (moves : List Move) (reply : Reply)
    → IsValid w → FitTogether w → AreFresh (addresses_of (blocks_of w)) moves → Step w call moves w' reply
    → is_answer reply ≡ true → MovesBlocks w moves w'
blocks_move w w' call moves reply valid fit fresh step is =
    answered_shape w w' call moves reply step is
    (λ s. shape_moves w call (record { moves = moves; after = w'; reply = reply }) valid fresh fit (Shape.shows s))
    (λ a. shape_moves w call (record { moves = moves; after = w'; reply = reply }) valid fresh fit (Shape.acts a))

-- an address that is the same
pub same_addr : (k a : ℕ) (xs : List ℕ) → nat_eq k a ≡ true → count_by (nat_eq k) xs ≡ count_by (nat_eq a) xs
same_addr k a xs e = ap (λ i. count_by (nat_eq i) xs) (eqb-true k a e)

pub differ : (k a : ℕ) → nat_eq k a ≡ false → k ≢ a
differ k a e same = let itself : nat_eq k k ≡ true = nat_eq_equiv.refl k in
    let other : nat_eq k k ≡ false = ap (nat_eq k) same ∙ e in cc

-- fresh blocks leave no address twice
few_after : (used : List ℕ) (moves : List Move) → ((k : ℕ) → count_by (nat_eq k) used ≤ 1) → AreFresh used moves
    → (k : ℕ)
    → count_by (nat_eq k) used + count_by (nat_eq k) (taken_addresses moves) ≤ 1 + count_by (nat_eq k)
    (given_addresses moves)
few_after used [] few fresh k = omega (arith, few k)
few_after used (Took need addr ∷ moves) few fresh k =
    omega (
      arith,
      few_after (addr ∷ used) moves more fresh.2 k,
      count_by-cons (nat_eq k) addr used,
      count_by-cons (nat_eq k) addr (taken_addresses moves),
    )
  where
    more : (i : ℕ) → count_by (nat_eq i) (addr ∷ used) ≤ 1
    more i = on_test (nat_eq i addr)
        (λ e. omega (
          arith,
          count_by-cons (nat_eq i) addr used,
          weight_of e,
          same_addr i addr used e,
          absent addr used fresh.1,
        ))
        (λ e. omega (arith, count_by-cons (nat_eq i) addr used, weight_of e, few i))
few_after used (Gave addr ∷ moves) few fresh k =
    let rest = few_after (others addr used) moves less fresh k in
    on_test (nat_eq k addr)
    (λ e. omega (arith, rest, few k, count_by-cons (nat_eq k) addr (given_addresses moves), weight_of e))
    (λ e. omega (
      arith,
      rest,
      others_counted k addr used (differ k addr e),
      count_by-cons (nat_eq k) addr (given_addresses moves),
      weight_of e,
    ))
  where
    less : (i : ℕ) → count_by (nat_eq i) (others addr used) ≤ 1
    less i = on_test (nat_eq i addr)
        (λ e. omega (arith, same_addr i addr (others addr used) e, none_counted addr used))
        (λ e. omega (arith, others_counted i addr used (differ i addr e), few i))
few_after used (Short need ∷ moves) few fresh k = few_after used moves few fresh k

-- and none is at 0
nonzero_after : (used : List ℕ) (moves : List Move) → AreFresh used moves
    → count_by (nat_eq 0) (taken_addresses moves) ≡ 0
nonzero_after used [] fresh = refl
nonzero_after used (Took need addr ∷ moves) fresh =
    let rest = nonzero_after (addr ∷ used) moves fresh.2 in
    on_test (nat_eq 0 addr)
    (λ e. absurd (fresh.0 (sym (eqb-true 0 addr e))))
    (λ e. omega (arith, rest, count_by-cons (nat_eq 0) addr (taken_addresses moves), weight_of e))
nonzero_after used (Gave addr ∷ moves) fresh = nonzero_after (others addr used) moves fresh
nonzero_after used (Short need ∷ moves) fresh = nonzero_after used moves fresh

-- how often an address is that of a block, after the moves
counted_moved : (w w' : World) (moves : List Move) → MovesBlocks w moves w' → (k : ℕ)
    → count_by (nat_eq k) (addresses_of (blocks_of w)) + count_by (nat_eq k) (taken_addresses moves)
    ≡ count_by (nat_eq k) (addresses_of (blocks_of w')) + count_by (nat_eq k) (given_addresses moves)
counted_moved w w' moves m k =
    let at = count_by-map (λ (b : UsedBlock). b.addr) (nat_eq k) in
    omega (
      arith,
      m.sums (λ b. weight (nat_eq k b.addr)),
      at (blocks_of w),
      at (blocks_of w'),
      at m.taken,
      at m.given,
      ap (count_by (nat_eq k)) m.takes,
      ap (count_by (nat_eq k)) m.gives,
    )

-- an address is that of a block at most as often as before the moves and in what they take
pub counted_after : (w w' : World) (moves : List Move) → MovesBlocks w moves w' ⊎ Fewer w moves w' → (k : ℕ)
    → count_by (nat_eq k) (addresses_of (blocks_of w'))
    ≤ count_by (nat_eq k) (addresses_of (blocks_of w)) + count_by (nat_eq k) (taken_addresses moves)
counted_after w w' moves (inl m) k = omega (arith, counted_moved w w' moves m k)
counted_after w w' moves (inr f) k =
    let at = count_by-map (λ (b : UsedBlock). b.addr) (nat_eq k) in
    omega (arith, f.sums (λ b. weight (nat_eq k b.addr)), at (blocks_of w), at (blocks_of w'))

-- and at most once, where the blocks taken are fresh
once_after : (w w' : World) (moves : List Move) → IsValid w → AreFresh (addresses_of (blocks_of w)) moves
    → MovesBlocks w moves w' ⊎ Fewer w moves w' → (k : ℕ)
    → count_by (nat_eq k) (addresses_of (blocks_of w')) ≤ 1
once_after w w' moves valid fresh (inl m) k =
    omega (
      arith,
      counted_moved w w' moves m k,
      few_after (addresses_of (blocks_of w)) moves
          (once nat_eq_equiv (addresses_of (blocks_of w)) valid.distinct_addresses) fresh k,
    )
once_after w w' moves valid fresh (inr f) k =
    omega (
      arith,
      counted_after w w' moves (inr f) k,
      ap (count_by (nat_eq k)) f.none,
      once nat_eq_equiv (addresses_of (blocks_of w)) valid.distinct_addresses k,
    )

-- a world whose blocks went with the moves is valid again
valid_after : (w w' : World) (moves : List Move) → IsValid w → AreFresh (addresses_of (blocks_of w)) moves
    → MovesBlocks w moves w' ⊎ Fewer w moves w' → KeepsLimits w' → IsValid w'
valid_after w w' moves valid fresh m limits = record {
  things = limits.things;
  names = limits.names;
  distinct_names = limits.distinct_names;
  nonzero = not_contained 0 (addresses_of (blocks_of w'))
      (omega (
        arith,
        counted_after w w' moves m 0,
        nonzero_after (addresses_of (blocks_of w)) moves fresh,
        absent 0 (addresses_of (blocks_of w)) valid.nonzero,
      ));
  distinct_addresses = from_once nat_eq_equiv (addresses_of (blocks_of w')) (once_after w w' moves valid fresh m);
}

-- what a row comes to goes with its moves, and is valid
pub row_goes : (w : World) (call : Call) (o : Outcome) → IsValid w → AreFresh (addresses_of (blocks_of w)) o.moves
    → ByRow w o call → MovesBlocks w o.moves o.after ⊎ Fewer w o.moves o.after
row_goes w call o valid fresh row = shape_keeps w call o valid fresh (row_shape w call o row)

pub row_keeps : (w : World) (call : Call) (o : Outcome) → IsValid w → AreFresh (addresses_of (blocks_of w)) o.moves
    → ByRow w o call → IsValid o.after
row_keeps w call o valid fresh row =
    valid_after w o.after o.moves valid fresh (row_goes w call o valid fresh row)
    (shape_limits w call o valid fresh (row_shape w call o row))

-- A valid world stays valid.
pub valid_kept : (w w' : World) (call : Call) (moves : List Move) (reply : Reply)
    → IsValid w → AreFresh (addresses_of (blocks_of w)) moves → Step w call moves w' reply → IsValid w'
valid_kept w w' call moves reply valid fresh (inl row) =
    row_keeps w call (record { moves = moves; after = w'; reply = reply }) valid fresh row
valid_kept w w' call moves reply valid fresh (inr stops) = subst IsValid (sym stops.same) valid
