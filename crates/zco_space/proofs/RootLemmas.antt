-- The control words of an account, set one after another.
use Rattle.std.proofs.Common.{◌≡◌, ℕ, zero, suc, ◌==◌, Bool, true, false, cond, List, refl, sym, ap, ◌∙◌, arith}
use Rattle.std.proofs.lemmas.Bool.{eq-eqb, eqb-true}
use Rattle.sdr_base.specs.Blocks.{with_at}
use Rattle.sdr_base.specs.Linked.{first_of, last_of}
use Rattle.sdr_base.specs.Making.{besides}
use Rattle.sdr_base.specs.Objects.{Heap, with_root}
use Rattle.sdr_base.specs.declared.account.Acct.{Acct}
use Rattle.sdr_base.specs.declared.account.Acct.TheVariants as accts
use Rattle.sdr_base.specs.declared.account.Amounts.{Amounts}
use Rattle.sdr_base.specs.declared.kind.Space.TheVariants as spaces
use Rattle.sdr_model.specs.declared.accounts.Ticket.{Ticket}
use Rattle.zco_acct.specs.Kept.{block_of}
use Rattle.zco_acct.specs.Words.{first_word, last_word, maxima_in, occupancy_word, occupied_in, with_occupied}
use Rattle.zco_space.specs.Links.{last_if, with_ends}

-- a value that was put at a place
pub at-here : (values : ℕ → ℕ) (place value : ℕ) → with_at values place value place ≡ value
unfolding with_at
at-here values place value = ap (λ v. cond v value (values place)) (eq-eqb place place refl)

-- the value that is there, put at its place
pub at-same : (values : ℕ → ℕ) (place : ℕ) → with_at values place (values place) ≡ values
unfolding with_at
at-same values place = λ i other. same other (other == place) refl i
  where
    same : (other : ℕ) (v : Bool) → (other == place) ≡ v → cond v (values place) (values other) ≡ values other
    same other true e = ap values (sym (eqb-true other place e))
    same other false e = refl

-- three words set again
three_again : (values : ℕ → ℕ) (p q r a b c x y z : ℕ) →
    with_at (with_at (with_at (with_at (with_at (with_at values p a) q b) r c) p x) q y) r z
    ≡ with_at (with_at (with_at values p x) q y) r z
unfolding with_at
three_again values p q r a b c x y z = λ i other. same (other == p) (other == q) (other == r) (values other) i
  where
    same : (d e f : Bool) (v : ℕ) → cond f z (cond e y (cond d x (cond f c (cond e b (cond d a v)))))
        ≡ cond f z (cond e y (cond d x v))
    same d e true v = refl
    same d true false v = refl
    same true false false v = refl
    same false false false v = refl

-- what is occupied, set again
pub occupied_again : (heap : Heap) (acct : Acct) (a b : Amounts) →
    with_occupied (with_occupied heap acct a) acct b ≡ with_occupied heap acct b
occupied_again heap acct a b =
    ap (λ (r : ℕ → ℕ). record heap { roots = r })
    (three_again heap.roots (occupancy_word acct spaces.File) (occupancy_word acct spaces.Bulk) (occupancy_word acct spaces.Heap)
    a.file a.bulk a.heap b.file b.bulk b.heap)

-- what is occupied, set as it is
pub occupied_same : (heap : Heap) (acct : Acct) → with_occupied heap acct (occupied_in heap acct) ≡ heap
occupied_same heap acct =
    let p = occupancy_word acct spaces.File in
    let q = occupancy_word acct spaces.Bulk in
    let r = occupancy_word acct spaces.Heap in
    let v = heap.roots in
    ap (λ (x : ℕ → ℕ). record heap { roots = x })
    (ap (λ (x : ℕ → ℕ). with_at (with_at x q (v q)) r (v r)) (at-same v p)
    ∙ ap (λ (x : ℕ → ℕ). with_at x r (v r)) (at-same v q) ∙ at-same v r)

-- the words of a queue, and what they leave
pub first_of_ends : (heap : Heap) (acct : Acct) (tickets : List Ticket) →
    (with_ends heap acct tickets).roots (first_word acct) ≡ first_of block_of 0 tickets
unfolding with_at
first_of_ends heap accts.Inbound tickets = refl
first_of_ends heap accts.Outbound tickets = refl

pub last_of_ends : (heap : Heap) (acct : Acct) (tickets : List Ticket) →
    (with_ends heap acct tickets).roots (last_word acct) ≡ last_of block_of 0 tickets
unfolding with_at
last_of_ends heap accts.Inbound tickets = refl
last_of_ends heap accts.Outbound tickets = refl

pub maxima_of_ends : (heap : Heap) (acct : Acct) (tickets : List Ticket) →
    maxima_in (with_ends heap acct tickets) acct ≡ maxima_in heap acct
unfolding with_at
maxima_of_ends heap accts.Inbound tickets = refl
maxima_of_ends heap accts.Outbound tickets = refl

pub occupied_of_ends : (heap : Heap) (acct : Acct) (tickets : List Ticket) →
    occupied_in (with_ends heap acct tickets) acct ≡ occupied_in heap acct
unfolding with_at
occupied_of_ends heap accts.Inbound tickets = refl
occupied_of_ends heap accts.Outbound tickets = refl

-- the next number's word, and what it leaves
pub first_of_next : (heap : Heap) (acct : Acct) (next : ℕ) →
    (with_root heap 108 next).roots (first_word acct) ≡ heap.roots (first_word acct)
unfolding with_at
first_of_next heap accts.Inbound next = refl
first_of_next heap accts.Outbound next = refl

pub last_of_next : (heap : Heap) (acct : Acct) (next : ℕ) →
    (with_root heap 108 next).roots (last_word acct) ≡ heap.roots (last_word acct)
unfolding with_at
last_of_next heap accts.Inbound next = refl
last_of_next heap accts.Outbound next = refl

pub maxima_of_next : (heap : Heap) (acct : Acct) (next : ℕ) → maxima_in (with_root heap 108 next) acct ≡ maxima_in heap acct
unfolding with_at
maxima_of_next heap accts.Inbound next = refl
maxima_of_next heap accts.Outbound next = refl

pub occupied_of_next : (heap : Heap) (acct : Acct) (next : ℕ) →
    occupied_in (with_root heap 108 next) acct ≡ occupied_in heap acct
unfolding with_at
occupied_of_next heap accts.Inbound next = refl
occupied_of_next heap accts.Outbound next = refl

-- what is occupied, and what it leaves
pub first_of_occupied : (heap : Heap) (acct : Acct) (a : Amounts) →
    (with_occupied heap acct a).roots (first_word acct) ≡ heap.roots (first_word acct)
unfolding with_at
first_of_occupied heap accts.Inbound a = refl
first_of_occupied heap accts.Outbound a = refl

pub last_of_occupied : (heap : Heap) (acct : Acct) (a : Amounts) →
    (with_occupied heap acct a).roots (last_word acct) ≡ heap.roots (last_word acct)
unfolding with_at
last_of_occupied heap accts.Inbound a = refl
last_of_occupied heap accts.Outbound a = refl

pub maxima_of_occupied : (heap : Heap) (acct : Acct) (a : Amounts) →
    maxima_in (with_occupied heap acct a) acct ≡ maxima_in heap acct
unfolding with_at
maxima_of_occupied heap accts.Inbound a = refl
maxima_of_occupied heap accts.Outbound a = refl

pub occupied_of_occupied : (heap : Heap) (acct : Acct) (a : Amounts) → occupied_in (with_occupied heap acct a) acct ≡ a
unfolding with_at
occupied_of_occupied heap accts.Inbound a = refl
occupied_of_occupied heap accts.Outbound a = refl

-- the first one's word is none of the last one's
last_apart : (values : ℕ → ℕ) (acct : Acct) (value : ℕ) →
    with_at values (first_word acct) value (last_word acct) ≡ values (last_word acct)
unfolding with_at
last_apart values accts.Inbound value = refl
last_apart values accts.Outbound value = refl

-- both words of a queue were set: the first one's, and the last one's where nothing follows
pub ends_set : (base lk : Heap) (acct : Acct) (queue : List Ticket) (prev next : ℕ) →
    besides lk ≡ besides (with_root base (first_word acct) (first_of block_of 0 queue)) →
    (next ≡ 0 → prev ≡ last_of block_of 0 queue) →
    ((next ≡ 0 → ⊥) → base.roots (last_word acct) ≡ last_of block_of 0 queue) →
    besides (last_if acct next prev lk) ≡ besides (with_ends base acct queue)
ends_set base lk acct queue prev zero b ended follows =
    ap (λ (h : Heap). with_root h (last_word acct) prev) b
    ∙ ap (λ v. besides (with_root (with_root base (first_word acct) (first_of block_of 0 queue)) (last_word acct) v)) (ended refl)
ends_set base lk acct queue prev (suc next) b ended follows =
    let values = with_at base.roots (first_word acct) (first_of block_of 0 queue) in
    let here : values (last_word acct) ≡ last_of block_of 0 queue =
    last_apart base.roots acct (first_of block_of 0 queue) ∙ follows (λ z. absurd (omega (arith, z))) in
    b ∙ ap (λ (r : ℕ → ℕ). record (besides base) { roots = r })
    (sym (ap (with_at values (last_word acct)) (sym here) ∙ at-same values (last_word acct)))

-- and the blocks stay
pub last_blocks : (acct : Acct) (next prev : ℕ) (heap : Heap) → (last_if acct next prev heap).blocks ≡ heap.blocks
last_blocks acct zero prev heap = refl
last_blocks acct (suc next) prev heap = refl
