-- What is free while moves are made, one after another, and by what stands before and after them.
use Rattle.std.proofs.Common.{◌≡◌, ◌≢◌, ◌∙◌, ◌+◌, ◌⊎◌, ◌++◌, ◌==◌, ℕ, List, [], ◌∷◌, Bool, true, false, cond, inl, inr, refl, sym, ap, arith, eq-eqb}
use Rattle.std.proofs.lemmas.Bool.{ne_eqb}
use Rattle.std.specs.Prelude.{if◌then◌else◌}
use Rattle.sdr_base.proofs.StandingLemmas.{at-nowhere, nowhere-at, times-append}
use Rattle.sdr_base.specs.Blocks.{Block, Blocks}
use Rattle.sdr_base.specs.Entries.{Entries, BlocksAre, times}
use Rattle.sdr_base.specs.Linked.{linked}
use Rattle.sdr_base.specs.ZcoObjects.{ExtentRow, extent_addr, extent_block}
use Rattle.sdr_base.specs.declared.account.Acct.{Acct}
use Rattle.sdr_base.specs.declared.account.Amounts.{Amounts}
use Rattle.sdr_base.specs.declared.moves.Move.{Move}
use Rattle.sdr_base.specs.declared.moves.Move.TheVariants.{Gave, Short, Took}
use Rattle.sdr_model.specs.Amounts.{minus}
use Rattle.sdr_model.specs.declared.accounts.Ticket.{Ticket}
use Rattle.zco_acct.specs.Charges.{charged, tickets_covered}
use Rattle.zco_acct.specs.Kept.{block_of, queue_entries, queued_block}
use Rattle.zco_bond.specs.Fresh.{Fresh, TakesFree, free_after, is_free}

given_more : {F G : ℕ → Type 0} (addr : ℕ) → ((q : ℕ) → F q → G q) → (q : ℕ) → (q ≡ addr) ⊎ F q → (q ≡ addr) ⊎ G q
given_more addr more q (inl e) = inl e
given_more addr more q (inr f) = inr (more q f)

-- where more is free, more is so afterwards
after_more : (ms : List Move) {F G : ℕ → Type 0} → ((q : ℕ) → F q → G q) → (q : ℕ) → free_after F ms q → free_after G ms q
after_more [] more q f = more q f
after_more (Took need addr ∷ ms) more q f = after_more ms (λ q p. (p.0, more q p.1)) q f
after_more (Gave addr ∷ ms) more q f = after_more ms (given_more addr more) q f
after_more (Short need ∷ ms) more q f = after_more ms more q f

-- and the moves take what is
pub takes_more : (ms : List Move) {F G : ℕ → Type 0} → ((q : ℕ) → F q → G q) → TakesFree F ms → TakesFree G ms
takes_more [] more t = tt
takes_more (Took need addr ∷ ms) more t = (t.0, more addr t.1, takes_more ms (λ q p. (p.0, more q p.1)) t.2)
takes_more (Gave addr ∷ ms) more t = takes_more ms (given_more addr more) t
takes_more (Short need ∷ ms) more t = takes_more ms more t

takes_append : (F : ℕ → Type 0) (xs ys : List Move) → TakesFree F xs → TakesFree (free_after F xs) ys → TakesFree F (xs ++ ys)
takes_append F [] ys t u = u
takes_append F (Took need addr ∷ xs) ys t u = (t.0, t.1, takes_append (λ q. (q ≢ addr) × F q) xs ys t.2 u)
takes_append F (Gave addr ∷ xs) ys t u = takes_append (λ q. (q ≡ addr) ⊎ F q) xs ys t u
takes_append F (Short need ∷ xs) ys t u = takes_append F xs ys t u

after_append : (F : ℕ → Type 0) (xs ys : List Move) (q : ℕ) → free_after (free_after F xs) ys q → free_after F (xs ++ ys) q
after_append F [] ys q f = f
after_append F (Took need addr ∷ xs) ys q f = after_append (λ q. (q ≢ addr) × F q) xs ys q f
after_append F (Gave addr ∷ xs) ys q f = after_append (λ q. (q ≡ addr) ⊎ F q) xs ys q f
after_append F (Short need ∷ xs) ys q f = after_append F xs ys q f

-- moves lead on from where others led
pub fresh_then : (xs ys : List Move) {a b c : Blocks} → Fresh xs a b → Fresh ys b c → Fresh (xs ++ ys) a c
fresh_then xs ys {a} {b} {c} f g = record {
  takes = takes_append (is_free a) xs ys f.takes (takes_more ys f.left g.takes);
  left = λ q free. after_append (is_free a) xs ys q (after_more ys f.left q (g.left q free));
}

pub fresh_none : (blocks : Blocks) → Fresh [] blocks blocks
fresh_none blocks = record { takes = tt; left = λ q free. free }

-- what is free isn't listed
pub unlisted : {b : Blocks} {es : Entries} (q : ℕ) → BlocksAre b es → is_free b q → times q es ≡ 0
unlisted {b} {es} q s free = nowhere-at q es (sym (s.same q) ∙ free)

-- what isn't listed is free
pub free_unlisted : {b : Blocks} {es : Entries} (q : ℕ) → BlocksAre b es → times q es ≡ 0 → is_free b q
free_unlisted {b} {es} q s none = s.same q ∙ at-nowhere q es none

-- an address that isn't listed is another one
pub apart_from : (q addr : ℕ) (block : Block) → times q ((addr, block) ∷ []) ≡ 0 → q ≢ addr
unfolding times
apart_from q addr block none same =
    let here = ap {B = ℕ} (λ (b : Bool). cond b 1 0) (eq-eqb addr q (sym same)) in absurd (omega (arith, none, here))

pub listed_none : (q addr : ℕ) (block : Block) → q ≢ addr → times q ((addr, block) ∷ []) ≡ 0
unfolding times
listed_none q addr block apart =
    let no = ap {B = ℕ} (λ (b : Bool). cond b 1 0) (ne_eqb addr q (λ same. apart (sym same))) in omega (arith, no)

-- a chain with one extent more lists its address besides
pub times_pushed : (q prev next : ℕ) (xs : List ExtentRow) (e : ExtentRow) (block : Block) →
    times q (linked extent_addr extent_block prev next (xs ++ e ∷ []))
    ≡ times q (linked extent_addr extent_block prev next xs) + times q ((e.addr, block) ∷ [])
unfolding times linked
times_pushed q prev next [] e block = omega arith
times_pushed q prev next (x ∷ xs) e block = let ih = times_pushed q x.addr next xs e block in omega (arith, ih)

-- a queue lists what it did once a grant was used
times_used : (q number : ℕ) (amounts : Amounts) (acct : Acct) (prev next : ℕ) (ts : List Ticket) →
    times q (linked block_of (queued_block acct) prev next (tickets_covered number amounts ts))
    ≡ times q (linked block_of (queued_block acct) prev next ts)
unfolding times linked tickets_covered
times_used q number amounts acct prev next [] = refl
times_used q number amounts acct prev next (t ∷ ts) =
    let ih = times_used q number amounts acct t.block next ts in
    elim (t.number == number) as (λ b. times q (linked block_of (queued_block acct) prev next
    (if b then record t { left = minus t.left amounts } ∷ ts else t ∷ tickets_covered number amounts ts))
    ≡ cond (t.block == q) 1 0 + times q (linked block_of (queued_block acct) t.block next ts)) [
      | true ↦ refl
      | false ↦ ap (λ (n : ℕ). cond (t.block == q) 1 0 + n) ih
    ]

times_charged : (q number : ℕ) (amounts : Amounts) (acct : Acct) (ts : List Ticket) →
    times q (queue_entries acct (charged ts number amounts)) ≡ times q (queue_entries acct ts)
times_charged q number amounts acct ts =
    elim (number == 0) as (λ b. times q (queue_entries acct (if b then ts else tickets_covered number amounts ts)) ≡ times q (queue_entries acct ts)) [
      | true ↦ refl
      | false ↦ times_used q number amounts acct 0 0 ts
    ]

-- what is free once an account was charged was so before
pub free_charged : {old new : Blocks} (q number : ℕ) (amounts : Amounts) (acct : Acct) (ts : List Ticket) (es rest : Entries) →
    BlocksAre old (es ++ (queue_entries acct ts ++ rest)) → BlocksAre new (es ++ (queue_entries acct (charged ts number amounts) ++ rest)) →
    is_free new q → is_free old q
free_charged q number amounts acct ts es rest s t free =
    let was = queue_entries acct ts in
    let now = queue_entries acct (charged ts number amounts) in
    free_unlisted q s
    (omega (
      arith,
      unlisted q t free,
      times_charged q number amounts acct ts,
      times-append q es (now ++ rest),
      times-append q now rest,
      times-append q es (was ++ rest),
      times-append q was rest,
    ))
