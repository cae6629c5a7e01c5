-- What one change does to blocks that stand as a list.
use Rattle.std.proofs.Common.{◌≡◌, ◌≢◌, ℕ, zero, suc, ◌+◌, ◌≤◌, [], ◌∷◌, ◌++◌, Bool, true, false, cond, eqb, Option}
use Rattle.std.proofs.Common.{Some, None, refl, sym, ap, ◌∙◌, arith, subst, append_assoc, eq-eqb}
use Rattle.std.proofs.lemmas.Bool.{eqb-true, ne_eqb}
use Rattle.sdr_base.specs.Blocks.{Block, Blocks, with_block}
use Rattle.sdr_base.specs.Entries.{Entries, at, times, BlocksAre, Changes, Swaps, entry}
use Rattle.sdr_base.proofs.ObjectsLemmas.{with_block-here, with_block-apart}

pub times-append : (q : ℕ) (xs ys : Entries) → times q (xs ++ ys) ≡ times q xs + times q ys
unfolding times
times-append q [] ys = omega arith
times-append q (x ∷ xs) ys = let ih = times-append q xs ys in omega (arith, ih)

pub at-none : (q : ℕ) (xs ys : Entries) → times q xs ≡ 0 → at (xs ++ ys) q ≡ at ys q
unfolding times at
at-none q [] ys h = refl
at-none q (x ∷ xs) ys h =
    elim (eqb x.0 q) as (λ v. cond v 1 0 + times q xs ≡ 0 → cond v (Some x.1) (at (xs ++ ys) q) ≡ at ys q) [
      | true ↦ λ k. absurd (omega arith)
      | false ↦ λ k. at-none q xs ys (omega arith)
    ] h

-- only the part behind is another
pub at-front : (q : ℕ) (xs ys zs : Entries) → at ys q ≡ at zs q → at (xs ++ ys) q ≡ at (xs ++ zs) q
unfolding at
at-front q [] ys zs e = e
at-front q (x ∷ xs) ys zs e = ap (λ o. cond (eqb x.0 q) (Some x.1) o) (at-front q xs ys zs e)

-- one that stands nowhere has no block
pub at-nowhere : (q : ℕ) (xs : Entries) → times q xs ≡ 0 → at xs q ≡ None
unfolding times at
at-nowhere q [] h = refl
at-nowhere q (x ∷ xs) h =
    elim (eqb x.0 q) as (λ v. cond v 1 0 + times q xs ≡ 0 → cond v (Some x.1) (at xs q) ≡ None) [
      | true ↦ λ k. absurd (omega arith)
      | false ↦ λ k. at-nowhere q xs (omega arith)
    ] h

pub nowhere-at : (q : ℕ) (xs : Entries) → at xs q ≡ None → times q xs ≡ 0
unfolding times at
nowhere-at q [] h = refl
nowhere-at q (x ∷ xs) h =
    elim (eqb x.0 q) as (λ v. cond v (Some x.1) (at xs q) ≡ None → cond v 1 0 + times q xs ≡ 0) [
      | true ↦ λ k. cc
      | false ↦ λ k. let ih = nowhere-at q xs k in omega (arith, ih)
    ] h

swapped_at : (q : ℕ) (xs part ys : Entries) (n : ℕ) → times q xs ≡ n → n + times q part ≤ 1 →
    at (xs ++ (part ++ ys)) q ≡ at (part ++ (xs ++ ys)) q
swapped_at q xs part ys zero e few =
    at-none q xs (part ++ ys) e ∙ at-front q part ys (xs ++ ys) (sym (at-none q xs ys e))
swapped_at q xs part ys (suc n) e few =
    let z : times q part ≡ 0 = omega arith in
    at-front q xs (part ++ ys) ys (at-none q part ys z) ∙ sym (at-none q part (xs ++ ys) z)

swapped : (q : ℕ) (xs part ys : Entries) → times q xs + (times q part + times q ys) ≤ 1 →
    at (xs ++ (part ++ ys)) q ≡ at (part ++ (xs ++ ys)) q
swapped q xs part ys few = swapped_at q xs part ys (times q xs) refl (omega arith)

-- a part may stand in front of the others, or where it stood
pub moved : {b : Blocks} (xs part ys : Entries) → BlocksAre b (xs ++ (part ++ ys)) → BlocksAre b (part ++ (xs ++ ys))
moved xs part ys s =
    let few : (q : ℕ) → times q xs + (times q part + times q ys) ≤ 1 =
    λ q. let l = times-append q xs (part ++ ys) in let r = times-append q part ys in let o = s.once q in omega arith in
    record {
      same = λ q. s.same q ∙ swapped q xs part ys (few q);
      once = λ q. let l = times-append q part (xs ++ ys) in let r = times-append q xs ys in let f = few q in
          omega arith;
      null = let l = times-append 0 part (xs ++ ys) in let r = times-append 0 xs ys in
          let l2 = times-append 0 xs (part ++ ys) in let r2 = times-append 0 part ys in let z = s.null in omega arith;
    }

pub moved_back : {b : Blocks} (xs part ys : Entries) → BlocksAre b (part ++ (xs ++ ys)) →
    BlocksAre b (xs ++ (part ++ ys))
moved_back xs part ys s = moved part xs ys s

none_before : (q p : ℕ) (x : Block) → (es : Entries) → eqb p q ≡ false → at ((p, x) ∷ es) q ≡ at es q
unfolding at
none_before q p x es e = rw e refl

at-entry : (p q : ℕ) (new : Option Block) (es : Entries) → eqb p q ≡ false → at (entry p new ++ es) q ≡ at es q
at-entry p q None es e = refl
at-entry p q (Some x) es e = none_before q p x es e

at-entry_here : (p q : ℕ) (new : Option Block) (es : Entries) → eqb p q ≡ true → times q es ≡ 0 →
    at (entry p new ++ es) q ≡ new
unfolding at
at-entry_here p q None es e h = at-nowhere q es h
at-entry_here p q (Some x) es e h = rw e refl

times-entry : (p q : ℕ) (new : Option Block) → times q (entry p new) ≤ cond (eqb p q) 1 0
unfolding times
times-entry p q None = omega arith
times-entry p q (Some x) = omega arith

counted : (v : Bool) → v ≡ true → 1 ≤ cond v 1 0
counted true t = omega arith
counted false t = cc

-- with no block or one at p, no other entry is at p
alone : (b : Blocks) (p : ℕ) (xs ys : Entries) (o : Option Block) → b p ≡ o → BlocksAre b (xs ++ (entry p o ++ ys)) →
    (q : ℕ) → eqb p q ≡ true → times q xs + times q ys ≡ 0
unfolding times at
alone b p xs ys None e s q t =
    let n = nowhere-at q (xs ++ ys) (sym (s.same q) ∙ ap b (sym (eqb-true p q t)) ∙ e) in
    let l = times-append q xs ys in omega arith
alone b p xs ys (Some x) e s q t =
    let o : times q (xs ++ ((p, x) ∷ ys)) ≤ 1 = s.once q in
    let l : times q (xs ++ ((p, x) ∷ ys)) ≡ times q xs + (cond (eqb p q) 1 0 + times q ys) =
    times-append q xs ((p, x) ∷ ys) in
    let c = counted (eqb p q) t in omega arith

differs : (p q : ℕ) → eqb p q ≡ false → q ≢ p
differs p q f e = let t : true ≡ false = sym (eq-eqb p q (sym e)) ∙ f in cc

-- what `put`, `take` and `give` do: the entry at p is another one, comes or goes
pub changed : (b : Blocks) (p : ℕ) (new : Option Block) (xs ys : Entries) → p ≢ 0 →
    BlocksAre b (xs ++ (entry p (b p) ++ ys)) → BlocksAre (with_block b p new) (xs ++ (entry p new ++ ys))
changed b p new xs ys nz s = record {
  same = λ q. elim (eqb p q) as (λ v. eqb p q ≡ v → with_block b p new q ≡ at (xs ++ (entry p new ++ ys)) q) [
    | true ↦ λ t. let z = alone b p xs ys (b p) refl s q t in
        ap (with_block b p new) (sym (eqb-true p q t)) ∙ with_block-here b p new
        ∙ sym (at-none q xs (entry p new ++ ys) (omega arith) ∙ at-entry_here p q new ys t (omega arith))
    | false ↦ λ f. with_block-apart b p new q (differs p q f) ∙ s.same q
        ∙ at-front q xs (entry p (b p) ++ ys) (entry p new ++ ys)
        (at-entry p q (b p) ys f ∙ sym (at-entry p q new ys f))
  ] refl;
  once = λ q.
      let l = times-append q xs (entry p new ++ ys) in let r = times-append q (entry p new) ys in
      let n = times-entry p q new in
      let l0 = times-append q xs (entry p (b p) ++ ys) in let r0 = times-append q (entry p (b p)) ys in
      let o = s.once q in
      elim (eqb p q) as (λ v. eqb p q ≡ v → times q (entry p new) ≤ cond v 1 0 →
      times q (xs ++ (entry p new ++ ys)) ≤ 1) [
        | true ↦ λ t k. let z = alone b p xs ys (b p) refl s q t in omega arith
        | false ↦ λ f k. omega arith
      ] refl n;
  null =
      let l = times-append 0 xs (entry p new ++ ys) in let r = times-append 0 (entry p new) ys in
      let n = times-entry p 0 new in
      let l0 = times-append 0 xs (entry p (b p) ++ ys) in let r0 = times-append 0 (entry p (b p)) ys in
      let o = s.null in
      let e = ne_eqb p 0 nz in
      let n2 : times 0 (entry p new) ≤ cond false 1 0 = subst (λ v. times 0 (entry p new) ≤ cond v 1 0) e n in
      omega arith;
}

-- an entry is what stands at its address
pub found : (b : Blocks) (p : ℕ) (x : Block) (xs ys : Entries) → BlocksAre b (xs ++ ((p, x) ∷ ys)) → b p ≡ Some x
unfolding times at
found b p x xs ys s =
    let o : times p (xs ++ ((p, x) ∷ ys)) ≤ 1 = s.once p in
    let l : times p (xs ++ ((p, x) ∷ ys)) ≡ times p xs + (cond (eqb p p) 1 0 + times p ys) =
    times-append p xs ((p, x) ∷ ys) in
    let c = counted (eqb p p) (eq-eqb p p refl) in
    let z : times p xs ≡ 0 = omega arith in
    s.same p ∙ at-none p xs ((p, x) ∷ ys) z ∙ ap (λ v. cond v (Some x) (at ys p)) (eq-eqb p p refl)

-- so its address is not 0
pub nonzero : (b : Blocks) (p : ℕ) (x : Block) (xs ys : Entries) → BlocksAre b (xs ++ ((p, x) ∷ ys)) → p ≢ 0
nonzero b p x xs ys s e =
    let n : b 0 ≡ None = s.same 0 ∙ at-nowhere 0 (xs ++ ((p, x) ∷ ys)) s.null in
    let h : b p ≡ Some x = found b p x xs ys s in
    let k : None ≡ Some x = sym n ∙ ap b (sym e) ∙ h in cc

-- another block at the address of an entry
pub written_at : (b : Blocks) (p : ℕ) (x y : Block) (xs ys : Entries) → BlocksAre b (xs ++ ((p, x) ∷ ys)) →
    BlocksAre (with_block b p (Some y)) (xs ++ ((p, y) ∷ ys))
written_at b p x y xs ys s =
    changed b p (Some y) xs ys (nonzero b p x xs ys s)
    (subst (λ o. BlocksAre b (xs ++ (entry p o ++ ys))) (sym (found b p x xs ys s)) s)

-- a new block
pub came : (b : Blocks) (p : ℕ) (y : Block) (xs ys : Entries) → p ≢ 0 → b p ≡ None → BlocksAre b (xs ++ ys) →
    BlocksAre (with_block b p (Some y)) (xs ++ ((p, y) ∷ ys))
came b p y xs ys nz e s = changed b p (Some y) xs ys nz (subst (λ o. BlocksAre b (xs ++ (entry p o ++ ys))) (sym e) s)

-- a block that is given back
pub went : (b : Blocks) (p : ℕ) (x : Block) (xs ys : Entries) → BlocksAre b (xs ++ ((p, x) ∷ ys)) →
    BlocksAre (with_block b p None) (xs ++ ys)
went b p x xs ys s =
    changed b p None xs ys (nonzero b p x xs ys s)
    (subst (λ o. BlocksAre b (xs ++ (entry p o ++ ys))) (sym (found b p x xs ys s)) s)

-- under one entry that stays in front
pub rotated : (b : Blocks) (h : ℕ × Block) (xs ys zs : Entries) → BlocksAre b (h ∷ (xs ++ (ys ++ zs))) →
    BlocksAre b (h ∷ (ys ++ (xs ++ zs)))
rotated b h xs ys zs s = moved ys (h ∷ []) (xs ++ zs) (moved (h ∷ xs) ys zs s)

-- a change of one part, wherever it stands
pub stands_swapped : {b b' : Blocks} {es es' part part' : Entries} → BlocksAre b es → Swaps es es' part part' →
    Changes b b' part part' → BlocksAre b' es'
stands_swapped {b} {b'} {es} {es'} {part} {part'} s w c =
    subst (λ xs. BlocksAre b' xs) (sym w.is)
    (moved_back w.before part' w.behind
    (c.kept (w.before ++ w.behind) (moved w.before part w.behind (subst (λ xs. BlocksAre b xs) w.was s))))

-- other entries may stand before and behind
pub swaps_after : {es es' part part' : Entries} (xs : Entries) → Swaps es es' part part' →
    Swaps (xs ++ es) (xs ++ es') part part'
swaps_after {part = part} {part' = part'} xs w = record {
  before = xs ++ w.before;
  behind = w.behind;
  was = ap (λ es. xs ++ es) w.was ∙ sym (append_assoc xs w.before (part ++ w.behind));
  is = ap (λ es. xs ++ es) w.is ∙ sym (append_assoc xs w.before (part' ++ w.behind));
}

pub swaps_before : {es es' part part' : Entries} (ys : Entries) → Swaps es es' part part' →
    Swaps (es ++ ys) (es' ++ ys) part part'
swaps_before {part = part} {part' = part'} ys w = record {
  before = w.before;
  behind = w.behind ++ ys;
  was = ap (λ es. es ++ ys) w.was ∙ append_assoc w.before (part ++ w.behind) ys
      ∙ ap (λ es. w.before ++ es) (append_assoc part w.behind ys);
  is = ap (λ es. es ++ ys) w.is ∙ append_assoc w.before (part' ++ w.behind) ys
      ∙ ap (λ es. w.before ++ es) (append_assoc part' w.behind ys);
}

-- a part in front, and back
pub focused : {b : Blocks} {es es' part part' : Entries} (w : Swaps es es' part part') → BlocksAre b es →
    BlocksAre b (part ++ (w.before ++ w.behind))
focused {b} {part = part} w s = moved w.before part w.behind (subst (λ xs. BlocksAre b xs) w.was s)

pub unfocused : {b : Blocks} {es es' part part' : Entries} (w : Swaps es es' part part') →
    BlocksAre b (part' ++ (w.before ++ w.behind)) → BlocksAre b es'
unfocused {b} {part' = part'} w s = subst (λ xs. BlocksAre b xs) (sym w.is) (moved_back w.before part' w.behind s)

-- one call may change two parts of two sections
pub stands_swapped_two : {b b' : Blocks} {xs xs' ys ys' p p' q q' : Entries} → BlocksAre b (xs ++ ys) →
    Swaps xs xs' p p' →
    Swaps ys ys' q q' → Changes b b' (p ++ q) (p' ++ q') → BlocksAre b' (xs' ++ ys')
unfolding swaps_before swaps_after
stands_swapped_two {b} {b'} {xs} {xs'} {ys} {ys'} {p} {p'} {q} {q'} s u v c =
    let z = u.before ++ u.behind in
    let r = v.before ++ v.behind in
    let one : BlocksAre b (p ++ (u.before ++ (u.behind ++ ys))) = focused (swaps_before ys u) s in
    let two : BlocksAre b ((p ++ z) ++ ys) =
    subst (λ es. BlocksAre b es)
    (ap (λ t. p ++ t) (sym (append_assoc u.before u.behind ys)) ∙ sym (append_assoc p z ys)) one in
    let three : BlocksAre b (q ++ (((p ++ z) ++ v.before) ++ v.behind)) = focused (swaps_after (p ++ z) v) two in
    let line : ((p ++ z) ++ v.before) ++ v.behind ≡ p ++ (z ++ r) =
    append_assoc (p ++ z) v.before v.behind ∙ append_assoc p z r in
    let line' : ((p' ++ z) ++ v.before) ++ v.behind ≡ p' ++ (z ++ r) =
    append_assoc (p' ++ z) v.before v.behind ∙ append_assoc p' z r in
    let four : BlocksAre b ((p ++ q) ++ (z ++ r)) =
    subst (λ es. BlocksAre b es) (sym (append_assoc p q (z ++ r)))
    (moved_back p q (z ++ r) (subst (λ es. BlocksAre b (q ++ es)) line three)) in
    let five : BlocksAre b' (p' ++ (q' ++ (z ++ r))) =
    subst (λ es. BlocksAre b' es) (append_assoc p' q' (z ++ r)) (c.kept (z ++ r) four) in
    let six : BlocksAre b' (q' ++ (((p' ++ z) ++ v.before) ++ v.behind)) =
    subst (λ es. BlocksAre b' (q' ++ es)) (sym line') (moved p' q' (z ++ r) five) in
    let seven : BlocksAre b' ((p' ++ z) ++ ys') = unfocused (swaps_after (p' ++ z) v) six in
    unfocused (swaps_before ys' u)
    (subst (λ es. BlocksAre b' es)
    (append_assoc p' z ys' ∙ ap (λ t. p' ++ t) (append_assoc u.before u.behind ys')) seven)
