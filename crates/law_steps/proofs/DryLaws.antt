-- Why a valid world stays valid where there is no heap.
use Rattle.std.proofs.Common.{inl, sym, subst, ◌≡◌, ℕ, ◌+◌, ◌*◌, ◌<◌, ◌≤◌, List, [], ◌∷◌, nat_eq, nat_le, refl, ◌∙◌, arith, get_or}
use Rattle.std.specs.List.{count_by}
use Rattle.std.specs.Prelude.{All}
use Rattle.std.proofs.lemmas.Bool.{eqb-true, leb-false, leb-true}
use Rattle.std.proofs.lemmas.List.Elements.{Contains-get_or}
use Rattle.sdr_base.specs.declared.moves.Move.{Move}
use Rattle.sdr_base.specs.declared.moves.Move.TheVariants.{Took, Gave, Short}
use Rattle.law_steps.proofs.BlockLaws.{counted_after, row_goes, same_addr, differ}
use Rattle.law_steps.proofs.DistinctLemmas.{absent, count_by-cons, none_counted, not_contained, on_test, others, others_counted, weight_of}
use Rattle.law_steps.proofs.WholeLaws.{whole_kept, whole_same}
use Rattle.sdr_model.specs.Whole.{IsWhole}
use Rattle.law_steps.specs.Fresh.{AreFresh}
use Rattle.sdr_model.specs.Steps.{taken_addresses, Outcome}
use Rattle.law_steps.specs.ValidDry.{IsValidDry}
use Rattle.sdr_model.specs.Blocks.{addresses_of, blocks_of}
use Rattle.sdr_model.specs.Dry.{AreInOrder, StepsDry, blocks_taken}
use Rattle.sdr_model.specs.Valid.{IsValid}
use Rattle.sdr_model.specs.World.{World}
use Rattle.sdr_model.specs.declared.answer.Reply.{Reply}
use Rattle.sdr_model.specs.declared.call.Call.{Call}

-- no number above a bound is among these
abbrev IsUpTo : ℕ → List ℕ → Type 0
IsUpTo most xs = (k : ℕ) → most < k → count_by (nat_eq k) xs ≡ 0

-- as each is at most the bound
up_to : (most : ℕ) (xs : List ℕ) → All (λ x. x ≤ most) xs → IsUpTo most xs
up_to most xs all k above = absent k xs (λ has. omega (arith, all has.0 k has.1, has.2, above))

-- and the other way round
all_up_to : (most : ℕ) (xs : List ℕ) → IsUpTo most xs → All (λ x. x ≤ most) xs
all_up_to most xs none i d within =
    on_test (nat_le (get_or xs i d) most)
    (λ e. leb-true _ _ e)
    (λ e. absurd (not_contained (get_or xs i d) xs (none (get_or xs i d) (leb-false _ _ e))
    (Contains-get_or xs i d within)))

-- an address above those of all blocks is fresh
fresh_in_order : (taken : ℕ) (used : List ℕ) (moves : List Move) → IsUpTo (8 * taken) used → AreInOrder taken moves
    → AreFresh used moves
fresh_in_order taken used [] few order = tt
fresh_in_order taken used (Took need addr ∷ moves) few order = (
  (λ zero. omega (arith, zero, order.0)),
  not_contained addr used (few addr (omega (arith, order.0))),
  fresh_in_order (taken + 1) (addr ∷ used) moves more order.1,
)
  where
    more : IsUpTo (8 * (taken + 1)) (addr ∷ used)
    more k above = on_test (nat_eq k addr)
        (λ e. absurd (omega (arith, eqb-true k addr e, order.0, above)))
        (λ e. omega (arith, count_by-cons (nat_eq k) addr used, weight_of e, few k (omega (arith, above))))
fresh_in_order taken used (Gave addr ∷ moves) few order = fresh_in_order taken (others addr used) moves less order
  where
    less : IsUpTo (8 * taken) (others addr used)
    less k above = on_test (nat_eq k addr)
        (λ e. same_addr k addr (others addr used) e ∙ none_counted addr used)
        (λ e. others_counted k addr used (differ k addr e) ∙ few k above)
fresh_in_order taken used (Short need ∷ moves) few order = absurd order

-- the blocks taken have the next addresses, and none beyond
taken_up_to : (taken : ℕ) (moves : List Move) → AreInOrder taken moves
    → IsUpTo (8 * (taken + blocks_taken moves)) (taken_addresses moves)
taken_up_to taken [] order k above = refl
taken_up_to taken (Took need addr ∷ moves) order k above =
    let rest = taken_up_to (taken + 1) moves order.1 k (omega (arith, above)) in
    on_test (nat_eq k addr)
    (λ e. absurd (omega (arith, eqb-true k addr e, order.0, above)))
    (λ e. omega (arith, count_by-cons (nat_eq k) addr (taken_addresses moves), weight_of e, rest))
taken_up_to taken (Gave addr ∷ moves) order k above = taken_up_to taken moves order k above
taken_up_to taken (Short need ∷ moves) order k above = absurd order

-- a world with the things, names and accounts of a valid one is valid
valid_from : (w w' : World) → w'.things ≡ w.things → w'.names ≡ w.names → w'.accounts ≡ w.accounts → IsValid w
    → IsValid w'
valid_from w w' things names accounts valid = subst IsValid (sym parts) (record {
  things = valid.things;
  names = valid.names;
  distinct_names = valid.distinct_names;
  nonzero = valid.nonzero;
  distinct_addresses = valid.distinct_addresses;
})
  where
    parts : w' ≡ record w { marks = w'.marks; shown = w'.shown; taken = w'.taken }
    parts i = record {
      things = things i;
      names = names i;
      accounts = accounts i;
      marks = w'.marks;
      shown = w'.shown;
      taken = w'.taken;
    }

-- and where it is whole, this one is too
pub whole_from : (w w' : World) → w'.things ≡ w.things → w'.names ≡ w.names → w'.accounts ≡ w.accounts → IsWhole w
    → IsWhole w'
whole_from w w' things names accounts whole =
    whole_same w w' things accounts (valid_from w w' things names accounts whole.valid) whole

-- A valid world of a machine without a heap stays one.
pub valid_kept_dry : (w w' : World) (call : Call) (moves : List Move) (reply : Reply) → IsValidDry w
    → StepsDry w call moves w' reply → IsValidDry w'
valid_kept_dry w w' call moves reply dry steps = record {
  whole = whole_from o.after w' refl refl refl
      (whole_kept w o.after call moves reply dry.whole fresh (inl steps.step));
  given = all_up_to (8 * w'.taken) (addresses_of (blocks_of w')) (λ k above.
      omega (
        arith,
        counted_after w o.after moves (row_goes w call o dry.whole.valid fresh steps.step) k,
        few k (omega (arith, above, steps.counted)),
        taken_up_to w.taken moves steps.in_order k (omega (arith, above, steps.counted)),
      ));
}
  where
    o : Outcome
    o = record { moves = moves; after = record w' { taken = w.taken }; reply = reply }

    few : IsUpTo (8 * w.taken) (addresses_of (blocks_of w))
    few = up_to (8 * w.taken) (addresses_of (blocks_of w)) dry.given

    fresh : AreFresh (addresses_of (blocks_of w)) moves
    fresh = fresh_in_order w.taken (addresses_of (blocks_of w)) moves few steps.in_order
