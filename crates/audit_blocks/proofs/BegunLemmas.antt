-- The block that begins at a place.
use Rattle.std.proofs.Common.{◌≡◌, ◌≤◌, ◌<◌, ◌+◌, ◌-◌, ◌*◌, ℕ, Bool, List, [], ◌∷◌, Option, None, Some, cond, not, true, length, arith, ap, ◌∙◌, refl, sym, subst, inl, inr}
use Rattle.std.specs.Prelude.{find}
use Rattle.std.specs.Option.{option_map, option_or}
use Rattle.std.proofs.lemmas.Bool.{and_parts, cases_Bool, cases_eq, cases_lt, eq-eqb, leb-true, ne_eqb}
use Rattle.std.proofs.lemmas.Option.{same_Some}
use Rattle.sdr_base.specs.Pools.{PoolBlock}
use Rattle.sdr_base.specs.Rules.{words_for}
use Rattle.sdr_base.specs.Stored.{leader_length}
use Rattle.sdr_base.specs.declared.control.TheConstants.{HIGH, LOW, START}
use Rattle.audit_blocks.proofs.EdgeLemmas.{in_order}
use Rattle.audit_blocks.proofs.FollowLemmas.{large_begins, small_ends}
use Rattle.audit_blocks.proofs.SpacedLemmas.{Spaced, large_spaced, none_some, small_spaced}
use Rattle.audit_blocks.proofs.WalkLemmas.{option_or-none}
use Rattle.audit_blocks.specs.Control.{ControlIsRight, control_word}
use Rattle.audit_blocks.specs.Spots.{begun_at, begun_in}
use Rattle.audit_blocks.specs.Walk.{AreBlocks, LargeFollow, SmallFollow, first_wrong, is_large_at, is_small_at, large_at, large_holds, small_at, small_holds}

-- the block that begins at a place has the address behind its leader
pub begun_addr : (frame : ℕ) (blocks : List PoolBlock) (place : ℕ) (block : PoolBlock) → begun_in frame blocks place ≡ Some block → block.addr ≡ place + frame
begun_addr frame [] place block is = absurd (none_some refl is)
begun_addr frame (x ∷ blocks) place block is = elim (cases_eq x.addr (place + frame)) [
  | inl same ↦
      let here = ap (λ (t : Bool). cond t (Some x) (begun_in frame blocks place)) (eq-eqb x.addr (place + frame) same) in
      ap (λ (b : PoolBlock). b.addr) (sym (same_Some x block (sym here ∙ is))) ∙ same
  | inr off ↦
      let later = ap (λ (t : Bool). cond t (Some x) (begun_in frame blocks place)) (ne_eqb x.addr (place + frame) off) in
      begun_addr frame blocks place block (sym later ∙ is)
]

-- where neither of two is there, each isn't
pub or_left : {X : Type 0} (a b : Option X) → option_or a b ≡ None → a ≡ None
or_left None b is = refl
or_left (Some x) b is = is

pub or_right : {X : Type 0} (a b : Option X) → option_or a b ≡ None → b ≡ None
or_right None b is = is
or_right (Some x) b is = absurd (none_some is refl)

-- where none is wrong, the one that begins at a place is right
pub begun_right : (right : PoolBlock → Bool) (frame : ℕ) (blocks : List PoolBlock) (place : ℕ) (block : PoolBlock) → first_wrong right frame blocks ≡ None →
    begun_in frame blocks place ≡ Some block → right block ≡ true
begun_right right frame [] place block none is = absurd (none_some refl is)
begun_right right frame (x ∷ blocks) place block none is = elim (cases_Bool (right x)) [
  | inl holds ↦
      let rest : first_wrong right frame blocks ≡ None =
      sym (ap (λ (r : Bool). option_map (λ (b : PoolBlock). b.addr - frame) (cond (not r) (Some x) (find (λ b. not (right b)) blocks))) holds) ∙ none in
      elim (cases_eq x.addr (place + frame)) [
        | inl same ↦
            let here = ap (λ (t : Bool). cond t (Some x) (begun_in frame blocks place)) (eq-eqb x.addr (place + frame) same) in
            ap right (sym (same_Some x block (sym here ∙ is))) ∙ holds
        | inr off ↦
            let later = ap (λ (t : Bool). cond t (Some x) (begun_in frame blocks place)) (ne_eqb x.addr (place + frame) off) in
            begun_right right frame blocks place block rest (sym later ∙ is)
      ]
  | inr fails ↦
      absurd (none_some
      (sym (ap (λ (r : Bool). option_map (λ (b : PoolBlock). b.addr - frame) (cond (not r) (Some x) (find (λ b. not (right b)) blocks))) fails) ∙ none) refl)
]

-- the small block that begins at a place is the one whose leader stands there
pub begun_small : (bytes : List ℕ) (blocks : List PoolBlock) (from to place : ℕ) (block : PoolBlock) → SmallFollow bytes from blocks to → begun_in 8 blocks place ≡ Some block →
    (is_small_at bytes place ≡ true) × (block ≡ small_at bytes place)
begun_small bytes [] from to place block f is = absurd (none_some refl is)
begun_small bytes (x ∷ blocks) from to place block (here, x_is, more) is = elim (cases_eq x.addr (place + 8)) [
  | inl same ↦
      let first = ap (λ (t : Bool). cond t (Some x) (begun_in 8 blocks place)) (eq-eqb x.addr (place + 8) same) in
      let addr : x.addr ≡ from + 8 = ap (λ (b : PoolBlock). b.addr) x_is in
      let at : from ≡ place = omega (arith, addr, same) in (
        subst (λ (n : ℕ). is_small_at bytes n ≡ true) at here,
        sym (same_Some x block (sym first ∙ is)) ∙ x_is ∙ ap (small_at bytes) at,
      )
  | inr off ↦
      let later = ap (λ (t : Bool). cond t (Some x) (begun_in 8 blocks place)) (ne_eqb x.addr (place + 8) off) in
      begun_small bytes blocks (from + 8 * (1 + x.words)) to place block more (sym later ∙ is)
]

-- the large block that begins at a place is the one whose leader stands there
pub begun_large : (bytes : List ℕ) (blocks : List PoolBlock) (from to place : ℕ) (block : PoolBlock) → LargeFollow bytes from blocks to → begun_in 16 blocks place ≡ Some block →
    (is_large_at bytes place ≡ true) × (block ≡ large_at bytes place)
begun_large bytes [] from to place block f is = absurd (none_some refl is)
begun_large bytes (x ∷ blocks) from to place block (here, x_is, more) is = elim (cases_eq x.addr (place + 16)) [
  | inl same ↦
      let first = ap (λ (t : Bool). cond t (Some x) (begun_in 16 blocks place)) (eq-eqb x.addr (place + 16) same) in
      let addr : x.addr ≡ from + 16 = ap (λ (b : PoolBlock). b.addr) x_is in
      let at : from ≡ place = omega (arith, addr, same) in (
        subst (λ (n : ℕ). is_large_at bytes n ≡ true) at here,
        sym (same_Some x block (sym first ∙ is)) ∙ x_is ∙ ap (large_at bytes) at,
      )
  | inr off ↦
      let later = ap (λ (t : Bool). cond t (Some x) (begun_in 16 blocks place)) (ne_eqb x.addr (place + 16) off) in
      begun_large bytes blocks (from + 8 * (4 + x.words)) to place block more (sym later ∙ is)
]

module _ (bytes : List ℕ) (small large : List PoolBlock) (right : ControlIsRight bytes) (are : AreBlocks bytes small large) where
  -- the blocks of each pool begin one behind another
  pub spaced_small : Spaced 8 small (control_word bytes START) (control_word bytes LOW)
  spaced_small = small_spaced bytes small (control_word bytes START) (control_word bytes LOW) are.follow.below (in_order bytes right).start_whole

  pub spaced_large : Spaced 16 large (control_word bytes HIGH) (length bytes)
  spaced_large = large_spaced bytes large (control_word bytes HIGH) (length bytes) are.follow.above (in_order bytes right).high_whole

module _ (bytes : List ℕ) (small large : List PoolBlock) (right : ControlIsRight bytes) (are : AreBlocks bytes small large) (place : ℕ) where
  -- a block that begins before low is no large one
  pub none_large : place < control_word bytes LOW → begun_in 16 large place ≡ None
  none_large below =
      let o = in_order bytes right in
      let high = o.high in
      large_begins bytes large (control_word bytes HIGH) (length bytes) place are.follow.above (omega (arith, below, high))

  -- one that begins from low on is no small one
  pub none_small : control_word bytes LOW ≤ place → begun_in 8 small place ≡ None
  none_small above = small_ends bytes small (control_word bytes START) (control_word bytes LOW) place are.follow.below above

  -- where a small block begins, it is before low
  pub begins_below : {block : PoolBlock} → begun_in 8 small place ≡ Some block → place < control_word bytes LOW
  begins_below is = elim (cases_lt place (control_word bytes LOW)) [
    | inl less ↦ less
    | inr ge ↦ absurd (none_some (none_small ge) is)
  ]

  -- where a large block begins, it isn't before low
  pub begins_above : {block : PoolBlock} → begun_in 16 large place ≡ Some block → control_word bytes LOW ≤ place
  begins_above is = elim (cases_lt place (control_word bytes LOW)) [
    | inl less ↦ absurd (none_some (none_large less) is)
    | inr ge ↦ ge
  ]

  -- a block that begins before low is a small one
  pub begun_below : {block : PoolBlock} → place < control_word bytes LOW → begun_at small large place ≡ Some block → begun_in 8 small place ≡ Some block
  begun_below below is = sym (option_or-none (begun_in 8 small place)) ∙ sym (ap (option_or (begun_in 8 small place)) (none_large below)) ∙ is

  -- one that begins from low on is a large one
  pub begun_above : {block : PoolBlock} → control_word bytes LOW ≤ place → begun_at small large place ≡ Some block → begun_in 16 large place ≡ Some block
  begun_above above is = sym (ap (λ (o : Option PoolBlock). option_or o (begun_in 16 large place)) (none_small above)) ∙ is

  -- a small block's bytes lie inside the region
  pub small_inside : {block : PoolBlock} → begun_in 8 small place ≡ Some block → place + 8 + leader_length place bytes ≤ length bytes
  small_inside {block} is =
      let b = begun_small bytes small (control_word bytes START) (control_word bytes LOW) place block are.follow.below is in
      let unfit = or_left _ _ (or_left _ _ (or_left _ _ are.right)) in
      let holds = begun_right (small_holds bytes) 8 small place block (or_left _ _ unfit) is in
      let here : small_holds bytes (small_at bytes place) ≡ true = subst (λ (x : PoolBlock). small_holds bytes x ≡ true) b.1 holds in
      let enough : words_for (leader_length (place + 8 - 8) bytes) ≤ (small_at bytes place).words = leb-true _ _ (and_parts _ _ here).0 in
      let ends : place + 8 * (1 + (small_at bytes place).words) ≤ control_word bytes LOW = leb-true _ _ (and_parts _ _ b.0).1 in
      let back : place + 8 - 8 ≡ place = omega arith in
      let enough' : words_for (leader_length place bytes) ≤ (small_at bytes place).words = subst (λ (n : ℕ). words_for (leader_length n bytes) ≤ (small_at bytes place).words) back enough in
      let o = in_order bytes right in
      let high = o.high in
      let end = o.end in
      omega (arith, enough', ends, high, end)

  -- a large block's bytes lie inside the region
  pub large_inside : {block : PoolBlock} → begun_in 16 large place ≡ Some block → place + 16 + leader_length place bytes ≤ length bytes
  large_inside {block} is =
      let b = begun_large bytes large (control_word bytes HIGH) (length bytes) place block are.follow.above is in
      let unfit = or_left _ _ (or_left _ _ (or_left _ _ are.right)) in
      let holds = begun_right (large_holds bytes) 16 large place block (or_right _ _ unfit) is in
      let here : large_holds bytes (large_at bytes place) ≡ true = subst (λ (x : PoolBlock). large_holds bytes x ≡ true) b.1 holds in
      let enough : words_for (leader_length (place + 16 - 16) bytes) ≤ (large_at bytes place).words = leb-true _ _ here in
      let ends : place + 8 * (4 + (large_at bytes place).words) ≤ length bytes = leb-true _ _ (and_parts _ _ (and_parts _ _ b.0).0).1 in
      let back : place + 16 - 16 ≡ place = omega arith in
      let enough' : words_for (leader_length place bytes) ≤ (large_at bytes place).words = subst (λ (n : ℕ). words_for (leader_length n bytes) ≤ (large_at bytes place).words) back enough in
      omega (arith, enough', ends)
