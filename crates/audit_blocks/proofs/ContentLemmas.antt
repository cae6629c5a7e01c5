-- The contents of blocks that follow one another.
use Rattle.std.proofs.Common.{◌≡◌, ◌≤◌, ◌<◌, ◌+◌, ◌-◌, ◌*◌, ◌==◌, ◌||◌, ℕ, Bool, List, [], ◌∷◌, ◌++◌, None, Some, cond, not, true, false, length, arith, ap, ◌∙◌, refl, sym, subst, inl, inr}
use Rattle.std.specs.Prelude.{find}
use Rattle.std.specs.List.{All}
use Rattle.std.specs.Option.{option_map}
use Rattle.std.proofs.lemmas.Bool.{and_parts, cases_Bool, leb-true}
use Rattle.std.proofs.lemmas.List.Elements.{All-cons, All-head, All-nil, All-tail}
use Rattle.sdr_base.specs.LargePool.{extent_of}
use Rattle.sdr_base.specs.Pools.{PoolBlock}
use Rattle.sdr_base.specs.Rules.{words_for}
use Rattle.sdr_base.specs.Stored.{leader_kind, leader_length, leader_words}
use Rattle.sdr_base.specs.declared.control.TheConstants.{HIGH, LOW, START}
use Rattle.audit_blocks.proofs.BegunLemmas.{or_left, or_right}
use Rattle.audit_blocks.proofs.BitsLemmas.{large_same, small_same}
use Rattle.audit_blocks.proofs.EdgeLemmas.{in_order}
use Rattle.audit_blocks.proofs.FollowLemmas.{large_rises, large_then, small_rises, small_then}
use Rattle.audit_blocks.proofs.SpacedLemmas.{none_some}
use Rattle.audit_blocks.specs.Content.{ContentIsRight, IsWrongContent, LargeFilled, SmallFilled, is_filled, is_filled_at}
use Rattle.audit_blocks.specs.Control.{control_word}
use Rattle.audit_blocks.specs.Labels.{IsLabel, is_led}
use Rattle.audit_blocks.specs.Walk.{AreBlocks, LargeFollow, SmallFollow, first_wrong, is_large_at, is_small_at, large_at, large_holds, small_at, small_holds}
use Rattle.audit_blocks.specs.Walked.{IsBuilt}
use Rattle.audit_blocks.specs.declared.control.Edges.{Edges}
use Rattle.audit_blocks.specs.declared.label.Label.{Label}

-- what holds of blocks, and of one more
all_then : (P : PoolBlock → Type 0) (done : List PoolBlock) (block : PoolBlock) → All P done → P block → All P (done ++ (block ∷ []))
all_then P [] block all here = All-cons P block [] here (All-nil P)
all_then P (x ∷ done) block all here = All-cons P x (done ++ (block ∷ [])) (All-head P x done all) (all_then P done block (All-tail P x done all) here)

-- where none of some blocks is wrong, each is right
right_in : (right : PoolBlock → Bool) (frame : ℕ) (done behind : List PoolBlock) (block : PoolBlock) → first_wrong right frame (done ++ (block ∷ behind)) ≡ None →
    right block ≡ true
right_in right frame [] behind block none = elim (cases_Bool (right block)) [
  | inl holds ↦ holds
  | inr fails ↦
      absurd (none_some
      (sym (ap (λ (r : Bool). option_map (λ (b : PoolBlock). b.addr - frame) (cond (not r) (Some block) (find (λ b. not (right b)) behind))) fails) ∙ none) refl)
]
right_in right frame (x ∷ done) behind block none = elim (cases_Bool (right x)) [
  | inl holds ↦
      right_in right frame done behind block
      (sym (ap (λ (r : Bool). option_map (λ (b : PoolBlock). b.addr - frame) (cond (not r) (Some x) (find (λ b. not (right b)) (done ++ (block ∷ behind))))) holds) ∙ none)
  | inr fails ↦
      absurd (none_some
      (sym (ap (λ (r : Bool). option_map (λ (b : PoolBlock). b.addr - frame) (cond (not r) (Some x) (find (λ b. not (right b)) (done ++ (block ∷ behind))))) fails) ∙ none) refl)
]

-- some small blocks are those that come up to a place, the one whose leader stands there, and others
pub record SmallCut (bytes : List ℕ) (blocks done : List PoolBlock) (place : ℕ) : Type 0 where
  pub behind : List PoolBlock
  pub whole : blocks ≡ done ++ (small_at bytes place ∷ behind)
  pub here : is_small_at bytes place ≡ true

small_cut : (bytes : List ℕ) (blocks done : List PoolBlock) (from place to : ℕ) → SmallFollow bytes from blocks to → SmallFollow bytes from done place → place < to →
    SmallCut bytes blocks done place
small_cut bytes [] done from place to at follow before = let r = small_rises bytes done from place follow in absurd (omega (arith, at, r, before))
small_cut bytes (x ∷ blocks) [] from place to (here, is, more) at before =
    subst (SmallCut bytes (x ∷ blocks) []) at (record { behind = blocks; whole = ap (λ (b : PoolBlock). b ∷ blocks) is; here = here })
small_cut bytes (x ∷ blocks) (y ∷ done) from place to (here, is, more) (here', is', more') before =
    let same : x ≡ y = is ∙ sym is' in
    let c =
    small_cut bytes blocks done (from + 8 * (1 + x.words)) place to more
    (subst (λ (b : PoolBlock). SmallFollow bytes (from + 8 * (1 + b.words)) done place) (sym same) more') before in
    record { behind = c.behind; whole = λ i. same i ∷ c.whole i; here = c.here }

-- the same of large ones
pub record LargeCut (bytes : List ℕ) (blocks done : List PoolBlock) (place : ℕ) : Type 0 where
  pub behind : List PoolBlock
  pub whole : blocks ≡ done ++ (large_at bytes place ∷ behind)
  pub here : is_large_at bytes place ≡ true

large_cut : (bytes : List ℕ) (blocks done : List PoolBlock) (from place to : ℕ) → LargeFollow bytes from blocks to → LargeFollow bytes from done place → place < to →
    LargeCut bytes blocks done place
large_cut bytes [] done from place to at follow before = let r = large_rises bytes done from place follow in absurd (omega (arith, at, r, before))
large_cut bytes (x ∷ blocks) [] from place to (here, is, more) at before =
    subst (LargeCut bytes (x ∷ blocks) []) at (record { behind = blocks; whole = ap (λ (b : PoolBlock). b ∷ blocks) is; here = here })
large_cut bytes (x ∷ blocks) (y ∷ done) from place to (here, is, more) (here', is', more') before =
    let same : x ≡ y = is ∙ sym is' in
    let c =
    large_cut bytes blocks done (from + extent_of x.words) place to more
    (subst (λ (b : PoolBlock). LargeFollow bytes (from + extent_of b.words) done place) (sym same) more') before in
    record { behind = c.behind; whole = λ i. same i ∷ c.whole i; here = c.here }

module _ (bytes : List ℕ) {edges : Edges} (built : IsBuilt bytes edges) where
  low_is : edges.low ≡ control_word bytes LOW
  low_is = ap (λ (e : Edges). e.low) built.edged.between

  end_is : edges.end ≡ length bytes
  end_is = ap (λ (e : Edges). e.end) built.edged.between

  -- before any block is looked at
  pub none_filled : SmallFilled bytes edges.start
  none_filled =
      subst (λ (e : Edges). SmallFilled bytes e.start) (sym built.edged.between)
      (record { done = []; follow = refl; within = (in_order bytes built.edged.right).low; filled = All-nil (λ block. is_filled bytes 8 block ≡ true) })

  -- before any large block is looked at
  pub large_begin : SmallFilled bytes (control_word bytes LOW) → LargeFilled bytes edges.high
  large_begin f =
      subst (λ (e : Edges). LargeFilled bytes e.high) (sym built.edged.between)
      (record { below = f; done = []; follow = refl; within = (in_order bytes built.edged.right).end; filled = All-nil (λ block. is_filled bytes 16 block ≡ true) })

  -- all small blocks are filled, whatever the blocks are
  all_small : SmallFilled bytes (control_word bytes LOW) → (small large : List PoolBlock) → AreBlocks bytes small large → All (λ block. is_filled bytes 8 block ≡ true) small
  all_small f small large are =
      subst (All (λ block. is_filled bytes 8 block ≡ true)) (small_same bytes f.done small (control_word bytes START) (control_word bytes LOW) f.follow are.follow.below) f.filled

  -- behind the last block the contents of all are right
  pub content_right : (place : ℕ) → LargeFilled bytes place → edges.end ≤ place → (small large : List PoolBlock) → AreBlocks bytes small large → ContentIsRight bytes small large
  content_right place f end small large are =
      let e : place ≡ length bytes = (let w = f.within in omega (arith, w, end, end_is)) in
      record {
        below = all_small f.below small large are;
        above =
            subst (All (λ block. is_filled bytes 16 block ≡ true))
            (large_same bytes f.done large (control_word bytes HIGH) (length bytes) (subst (LargeFollow bytes (control_word bytes HIGH) f.done) e f.follow) are.follow.above)
            f.filled;
      }

  module _ (place : ℕ) (f : SmallFilled bytes place) (more : place < edges.low) where
    cut : (small large : List PoolBlock) → AreBlocks bytes small large → SmallCut bytes small f.done place
    cut small large are =
        small_cut bytes small f.done (control_word bytes START) place (control_word bytes LOW) are.follow.below f.follow (omega (arith, more, low_is))

    -- a small block begins there, which ends in time and holds its bytes
    pub small_inside : place + 8 + leader_length place bytes ≤ length bytes
    small_inside =
        let b = built.blocks in
        let c = cut b.small b.large b.are in
        let unfit = or_left _ _ (or_left _ _ (or_left _ _ b.are.right)) in
        let holds =
        right_in (small_holds bytes) 8 f.done c.behind (small_at bytes place)
        (subst (λ (l : List PoolBlock). first_wrong (small_holds bytes) 8 l ≡ None) c.whole (or_left _ _ unfit)) in
        let enough : words_for (leader_length (place + 8 - 8) bytes) ≤ leader_words place bytes = leb-true _ _ (and_parts _ _ holds).0 in
        let back : place + 8 - 8 ≡ place = omega arith in
        let enough' : words_for (leader_length place bytes) ≤ leader_words place bytes = subst (λ (n : ℕ). words_for (leader_length n bytes) ≤ leader_words place bytes) back enough in
        let ends : place + 8 * (1 + leader_words place bytes) ≤ control_word bytes LOW = leb-true _ _ (and_parts _ _ c.here).1 in
        let o = in_order bytes built.edged.right in
        let high = o.high in
        let end = o.end in
        omega (arith, enough', ends, high, end)

    module _ (label : Label) (is : IsLabel bytes place label) where
      filled_same : (not (is_led label) || is_filled_at bytes place (place + 8)) ≡ is_filled bytes 8 (small_at bytes place)
      filled_same =
          let back : place + 8 - 8 ≡ place = omega arith in
          (λ i. not (not (is.kind i == 0)) || is_filled_at bytes place (place + 8))
          ∙ ap (λ (n : ℕ). not (not (leader_kind place bytes == 0)) || is_filled_at bytes n (place + 8)) (sym back)

      -- one that is filled is one more
      pub small_next : {yes : Bool} → yes ≡ (not (is_led label) || is_filled_at bytes place (place + 8)) → yes ≡ true → SmallFilled bytes (place + 8 * (1 + label.words))
      small_next told filled =
          let b = built.blocks in
          let c = cut b.small b.large b.are in
          subst (λ (n : ℕ). SmallFilled bytes (place + 8 * (1 + n))) (sym is.words) (record {
            done = f.done ++ (small_at bytes place ∷ []);
            follow = small_then bytes f.done (control_word bytes START) place f.follow c.here;
            within = leb-true _ _ (and_parts _ _ c.here).1;
            filled = all_then (λ block. is_filled bytes 8 block ≡ true) f.done (small_at bytes place) f.filled (sym filled_same ∙ sym told ∙ filled);
          })

      -- one that isn't is the first whose content is wrong
      pub small_wrong : {yes : Bool} → yes ≡ (not (is_led label) || is_filled_at bytes place (place + 8)) → yes ≡ false → (small large : List PoolBlock) →
          AreBlocks bytes small large → IsWrongContent bytes small large (place + 8)
      small_wrong told unfilled small large are =
          let c = cut small large are in
          inl (record {
            before = f.done;
            block = small_at bytes place;
            behind = c.behind;
            whole = c.whole;
            right = f.filled;
            wrong = sym filled_same ∙ sym told ∙ unfilled;
            at = refl;
          })

  module _ (place : ℕ) (f : LargeFilled bytes place) (more : place < edges.end) where
    large_cut_at : (small large : List PoolBlock) → AreBlocks bytes small large → LargeCut bytes large f.done place
    large_cut_at small large are =
        large_cut bytes large f.done (control_word bytes HIGH) place (length bytes) are.follow.above f.follow (omega (arith, more, end_is))

    -- a large block begins there, which ends in time and holds its bytes
    pub large_inside : place + 16 + leader_length place bytes ≤ length bytes
    large_inside =
        let b = built.blocks in
        let c = large_cut_at b.small b.large b.are in
        let unfit = or_left _ _ (or_left _ _ (or_left _ _ b.are.right)) in
        let holds =
        right_in (large_holds bytes) 16 f.done c.behind (large_at bytes place)
        (subst (λ (l : List PoolBlock). first_wrong (large_holds bytes) 16 l ≡ None) c.whole (or_right _ _ unfit)) in
        let enough : words_for (leader_length (place + 16 - 16) bytes) ≤ leader_words place bytes = leb-true _ _ holds in
        let back : place + 16 - 16 ≡ place = omega arith in
        let enough' : words_for (leader_length place bytes) ≤ leader_words place bytes = subst (λ (n : ℕ). words_for (leader_length n bytes) ≤ leader_words place bytes) back enough in
        let ends : place + 8 * (4 + leader_words place bytes) ≤ length bytes = leb-true _ _ (and_parts _ _ (and_parts _ _ c.here).0).1 in
        omega (arith, enough', ends)

    module _ (label : Label) (is : IsLabel bytes place label) where
      large_same_filled : (not (is_led label) || is_filled_at bytes place (place + 16)) ≡ is_filled bytes 16 (large_at bytes place)
      large_same_filled =
          let back : place + 16 - 16 ≡ place = omega arith in
          (λ i. not (not (is.kind i == 0)) || is_filled_at bytes place (place + 16))
          ∙ ap (λ (n : ℕ). not (not (leader_kind place bytes == 0)) || is_filled_at bytes n (place + 16)) (sym back)

      pub large_next : {yes : Bool} → yes ≡ (not (is_led label) || is_filled_at bytes place (place + 16)) → yes ≡ true → LargeFilled bytes (place + 8 * (4 + label.words))
      large_next told filled =
          let b = built.blocks in
          let c = large_cut_at b.small b.large b.are in
          subst (λ (n : ℕ). LargeFilled bytes (place + 8 * (4 + n))) (sym is.words) (record {
            below = f.below;
            done = f.done ++ (large_at bytes place ∷ []);
            follow = large_then bytes f.done (control_word bytes HIGH) place f.follow c.here;
            within = leb-true _ _ (and_parts _ _ (and_parts _ _ c.here).0).1;
            filled = all_then (λ block. is_filled bytes 16 block ≡ true) f.done (large_at bytes place) f.filled (sym large_same_filled ∙ sym told ∙ filled);
          })

      pub large_wrong : {yes : Bool} → yes ≡ (not (is_led label) || is_filled_at bytes place (place + 16)) → yes ≡ false → (small large : List PoolBlock) →
          AreBlocks bytes small large → IsWrongContent bytes small large (place + 16)
      large_wrong told unfilled small large are =
          let c = large_cut_at small large are in
          inr (
            all_small f.below small large are,
            record {
              before = f.done;
              block = large_at bytes place;
              behind = c.behind;
              whole = c.whole;
              right = f.filled;
              wrong = sym large_same_filled ∙ sym told ∙ unfilled;
              at = refl;
            },
          )
