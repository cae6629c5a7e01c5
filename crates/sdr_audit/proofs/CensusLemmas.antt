-- The blocks of a region are as many as the words that are told to begin with them.
use Rattle.std.proofs.Common.{◌≡◌, ◌≤◌, ◌<◌, ◌+◌, ◌-◌, ◌*◌, ◌/◌, ◌%◌, ℕ, Bool, suc, List, [], ◌∷◌, Option, Some, cond, not, true, false, length, get_or, take, drop, arith, ap, ◌∙◌, refl, sym, inl, inr}
use Rattle.std.specs.Prelude.{count_by}
use Rattle.std.specs.Option.{option_or}
use Rattle.std.proofs.lemmas.Bool.{cases_Bool, cases_eq}
use Rattle.std.proofs.lemmas.List.{get_or-drop, get_or-take, length-drop, length-take, take-append-drop}
use Rattle.sdr_base.proofs.PoolsLemmas.{count_by-append, count_by-no, count_by-yes}
use Rattle.sdr_base.specs.Pools.{PoolBlock}
use Rattle.sdr_base.specs.declared.control.TheConstants.{HIGH, LOW, START}
use Rattle.audit_blocks.proofs.BegunLemmas.{spaced_large, spaced_small}
use Rattle.audit_blocks.proofs.EdgeLemmas.{in_order}
use Rattle.audit_blocks.proofs.FollowLemmas.{large_begins, small_ends}
use Rattle.audit_blocks.proofs.SpacedLemmas.{Spaced, begun_first, begun_later, spaced_before, spaced_rises}
use Rattle.audit_blocks.proofs.WalkLemmas.{option_or-none}
use Rattle.audit_blocks.specs.Control.{ControlIsRight, control_word}
use Rattle.audit_blocks.specs.Spots.{AreSpots, begun_in, is_free_spot, is_used_spot, spot_of}
use Rattle.audit_blocks.specs.Walk.{AreBlocks}
use Rattle.audit_blocks.specs.declared.spot.Spot.{Spot}
use Rattle.audit_blocks.specs.declared.spot.Spot.TheVariants as spots
use Rattle.sdr_audit.specs.Census.{free_in, used_in}

-- the place behind blocks that follow from a whole word is one too
spaced_whole : (frame : ℕ) (blocks : List PoolBlock) (from to : ℕ) → Spaced frame blocks from to → to % 8 ≡ 0 → from % 8 ≡ 0
spaced_whole frame [] from to at whole = ap (λ (n : ℕ). n % 8) at ∙ whole
spaced_whole frame (block ∷ blocks) from to (at, here, more) whole = here

-- Words from one on are told what begins with them, of blocks that stand between them.
module _ (test : Spot → Bool) (passes : PoolBlock → Bool) (nothing : test spots.Nothing ≡ false)
    (same : (block : PoolBlock) → test (spot_of (Some block)) ≡ passes block) (frame : ℕ) where
  pub spots_count : (told : List Spot) (blocks : List PoolBlock) (word from to : ℕ) →
      ((i : ℕ) → i < length told → get_or told i spots.Nothing ≡ spot_of (begun_in frame blocks (8 * (word + i)))) →
      Spaced frame blocks from to → to % 8 ≡ 0 → 8 * word ≤ from → to ≤ 8 * (word + length told) →
      count_by test told ≡ count_by passes blocks
  spots_count [] [] word from to are s whole first last = refl
  spots_count [] (block ∷ blocks) word from to are (at, here, (next, later, more)) whole first last =
      absurd (omega (arith, first, last, later, spaced_rises frame blocks next to more))
  spots_count (x ∷ told) [] word from to are s whole first last =
      count_by-no test x told (ap test (are 0 (omega arith)) ∙ nothing)
      ∙ spots_count told [] (word + 1) (8 * (word + 1 + length told)) (8 * (word + 1 + length told)) later_none refl (omega arith)
      (omega arith) (omega arith)
    where
      later_none : (i : ℕ) → i < length told → get_or told i spots.Nothing ≡ spots.Nothing
      later_none i less = are (suc i) (omega (arith, less))
  spots_count (x ∷ told) (block ∷ blocks) word from to are (at, here, (next, later, more)) whole first last = elim (cases_eq from (8 * word)) [
    | inl begins ↦
        let next_whole = spaced_whole frame blocks next to more whole in
        let is : get_or (x ∷ told) 0 spots.Nothing ≡ spot_of (Some block) =
        are 0 (omega arith) ∙ ap spot_of (begun_first frame block blocks (8 * (word + 0)) (omega (arith, at, begins))) in
        let rest =
        spots_count told blocks (word + 1) next to (behind begins) more whole (omega (arith, begins, later, next_whole))
        (omega (arith, last)) in
        elim (cases_Bool (passes block)) [
          | inl holds ↦
              let e = count_by-yes test x told (ap test is ∙ same block ∙ holds) in
              let e' = count_by-yes passes block blocks holds in
              omega (arith, e, e', rest)
          | inr fails ↦
              count_by-no test x told (ap test is ∙ same block ∙ fails) ∙ rest ∙ sym (count_by-no passes block blocks fails)
        ]
    | inr apart ↦
        let before : 8 * word < from = omega (arith, apart, first) in
        count_by-no test x told
        (ap test (are 0 (omega arith)
        ∙ ap spot_of (spaced_before frame (block ∷ blocks) from to (8 * (word + 0)) (at, here, (next, later, more)) (omega (arith, before))))
        ∙ nothing)
        ∙ spots_count told (block ∷ blocks) (word + 1) from to onward (at, here, (next, later, more)) whole (omega (arith, before, here))
        (omega (arith, last))
  ]
    where
      onward : (i : ℕ) → i < length told → get_or told i spots.Nothing ≡ spot_of (begun_in frame (block ∷ blocks) (8 * (word + 1 + i)))
      onward i less =
          let e : word + suc i ≡ word + 1 + i = omega arith in
          are (suc i) (omega (arith, less)) ∙ ap (λ (n : ℕ). spot_of (begun_in frame (block ∷ blocks) (8 * n))) e

      behind : from ≡ 8 * word → (i : ℕ) → i < length told →
          get_or told i spots.Nothing ≡ spot_of (begun_in frame blocks (8 * (word + 1 + i)))
      behind begins i less =
          onward i less ∙ ap spot_of (begun_later frame block blocks (8 * (word + 1 + i)) (λ e. omega (arith, e, at, begins)))

used_same : (used : Bool) → is_used_spot (cond used spots.Used spots.Free) ≡ used
used_same true = refl
used_same false = refl

free_same : (used : Bool) → is_free_spot (cond used spots.Used spots.Free) ≡ not used
free_same true = refl
free_same false = refl

-- A region with these blocks, of which its words are told.
module _ (bytes : List ℕ) (small large : List PoolBlock) (right : ControlIsRight bytes) (are : AreBlocks bytes small large)
    (told : List Spot) (long : length told * 8 ≡ length bytes) (spots_are : AreSpots small large told) where
  -- the word at high
  abbrev edge : ℕ
  edge = control_word bytes HIGH / 8

  module _ (test : Spot → Bool) (passes : PoolBlock → Bool) (nothing : test spots.Nothing ≡ false)
      (same : (block : PoolBlock) → test (spot_of (Some block)) ≡ passes block) where
    below : count_by test (take edge told) ≡ count_by passes small
    below =
        let o = in_order bytes right in
        let high = o.high in
        let start = o.low in
        let end = o.end in
        let count : length (take edge told) ≡ edge = length-take edge told ∙ omega (arith, end, long) in
        spots_count test passes nothing same 8 (take edge told) small 0 (control_word bytes START) (control_word bytes LOW)
        (λ i less.
        let inside : i < edge = omega (arith, less, count) in
        let at : 8 * (0 + i) ≡ 8 * i = omega arith in
        get_or-take edge told i spots.Nothing inside ∙ spots_are i (omega (arith, inside, end, long))
        ∙ ap (λ (o : Option PoolBlock). spot_of (option_or (begun_in 8 small (8 * i)) o))
        (large_begins bytes large (control_word bytes HIGH) (length bytes) (8 * i) are.follow.above (omega (arith, inside)))
        ∙ ap spot_of (option_or-none (begun_in 8 small (8 * i))) ∙ ap (λ (n : ℕ). spot_of (begun_in 8 small n)) (sym at))
        (spaced_small bytes small large right are) o.low_whole (omega arith) (omega (arith, count, high, o.high_whole))

    above : count_by test (drop edge told) ≡ count_by passes large
    above =
        let o = in_order bytes right in
        let high = o.high in
        let whole = o.high_whole in
        let end = o.end in
        let count : length (drop edge told) ≡ length told - edge = length-drop edge told in
        spots_count test passes nothing same 16 (drop edge told) large edge (control_word bytes HIGH) (length bytes)
        (λ i less.
        get_or-drop edge told i spots.Nothing ∙ spots_are (edge + i) (omega (arith, less, count))
        ∙ ap (λ (o : Option PoolBlock). spot_of (option_or o (begun_in 16 large (8 * (edge + i)))))
        (small_ends bytes small (control_word bytes START) (control_word bytes LOW) (8 * (edge + i)) are.follow.below
        (omega (arith, high, whole))))
        (spaced_large bytes small large right are) (omega (arith, long)) (omega (arith, whole)) (omega (arith, count, end, long, whole))

  -- the free blocks of both pools are counted
  pub free_small : count_by is_free_spot (take (control_word bytes HIGH / 8) told) ≡ free_in small
  free_small = below is_free_spot (λ block. not block.used) refl (λ block. free_same block.used)

  pub free_large : count_by is_free_spot (drop (control_word bytes HIGH / 8) told) ≡ free_in large
  free_large = above is_free_spot (λ block. not block.used) refl (λ block. free_same block.used)

  -- and those in use
  pub all_used : count_by is_used_spot told ≡ used_in small + used_in large
  all_used =
      let a = below is_used_spot (λ block. block.used) refl (λ block. used_same block.used) in
      let b = above is_used_spot (λ block. block.used) refl (λ block. used_same block.used) in
      let whole = ap (count_by is_used_spot) (sym (take-append-drop (control_word bytes HIGH / 8) told)) in
      let parts = count_by-append is_used_spot (take (control_word bytes HIGH / 8) told) (drop (control_word bytes HIGH / 8) told) in
      omega (arith, a, b, whole, parts)
