-- What the calls do, from what their parts do.
use Rattle.std.proofs.Common.{inl, inr, ◌≢◌, ◌<◌, ◌/◌, ◌+◌, ◌-◌, ◌*◌, arith, ap, sym, subst, ◌≡◌, ◌≤◌, ℕ, List}
use Rattle.std.specs.Prelude.{Option, Some, None, Result, Ok, Err, IfOk, OnOk}
use Rattle.std.specs.List.{count_by}
use Rattle.std.proofs.lemmas.Bool.{cases_eq}
use Rattle.sdr_base.specs.Pools.{IsUsed, is_used_at}
use Rattle.sdr_base.specs.SmallPool.{words_at}
use Rattle.sdr_base.specs.KeptLarge.{TilesLarge, is_used_of}
use Rattle.sdr_base.proofs.PoolsLemmas.{free-used-le-at}
use Rattle.sdr_base.proofs.SmallPoolLemmas.{words_at-is}
use Rattle.sdr_large.proofs.NeighbourLemmas.{free_or_used}
use Rattle.sdr_large.proofs.PlacesLemmas.{in_order, used_of-le-at}
use Rattle.sdr_base.specs.Pools.{Pools}
use Rattle.sdr_base.specs.SmallPool.{Taken}
use Rattle.sdr_base.specs.LargePool.{take_found, take_large, with_cut}
use Rattle.sdr_base.specs.KeptLarge.{KeepsLarge, KeepsSomeLarge}
use Rattle.sdr_large.specs.declared.block.Block.{Block}
use Rattle.sdr_large.specs.Calls.{Becomes, TakesBlock, TakesBy, TakesLarge, TakesNew, KeepsUsedLarge, KeepsOthers, IsGiveable}
use Rattle.sdr_large.specs.Calls.{CanCut, Cuts}
use Rattle.sdr_large.specs.Steps.{Finds}
use Rattle.sdr_large.proofs.FoundLemmas.{IsFound, found_is}
use Rattle.sdr_large.proofs.PlacesLemmas.{at_block, free_of}
use Rattle.sdr_large.proofs.WalkLemmas.{tiles_whole}

-- the block that was found is free, and has enough words
pub found_free : (x : List ℕ) (words : ℕ) (block : Block) (P : Pools) → KeepsLarge x P →
    Finds words (Some block) x → IsFound P words (block.addr, block.words)
found_free x words block P keeps finds =
    found_is P words (block.addr, block.words) keeps.tiles
    (λ w a f. (at_block P P.end P.end (tiles_whole P keeps.tiles) w a
    (free_of P P.end P.end (tiles_whole P keeps.tiles) w a f)).some)
    (sym (finds.rule P keeps))

-- so it can be cut
pub found_cut : (x y : List ℕ) (words : ℕ) (block : Block) → KeepsSomeLarge x → Finds words (Some block) x → y ≡ x →
    1 ≤ words → CanCut words block.words block.addr y
found_cut x y words block k finds same some =
    let f = found_free x words block k.pools k.keeps finds in
    subst (CanCut words block.words block.addr) (sym same)
    (record { pools = k.pools; keeps = k.keeps; free = f.free; some = some; enough = f.enough })

-- the block that was found was cut
pub takes_cut : (x y z : List ℕ) (words : ℕ) (block : Block) → Finds words (Some block) x → y ≡ x → 1 ≤ words →
    Cuts words block.words block.addr y z → TakesLarge words (Some block.addr) x z
takes_cut x y z words block finds same some cuts = record {
  rule = λ P keeps.
      let f = found_free x words block P keeps finds in
      subst (λ (o : Option (ℕ × ℕ)). TakesBy P (take_found P words o) (Some block.addr) x z) (finds.rule P keeps)
      (subst (λ (l : List ℕ). TakesBlock P (record {
        addr = block.addr;
        pools = with_cut P words (block.addr, block.words);
      }) (Some block.addr) l z) same
      (cuts.rule P (subst (λ (l : List ℕ). KeepsLarge l P) (sym same) keeps) f.free some f.enough));
}

-- none was found, and a new one was taken, or none
pub takes_new : (x y z : List ℕ) (words : ℕ) (found : Option ℕ) → Finds words None x → y ≡ x → 1 ≤ words →
    TakesNew words found y z → TakesLarge words found x z
takes_new x y z words found finds same some takes = record {
  rule = λ P keeps.
      subst (λ (o : Option (ℕ × ℕ)). TakesBy P (take_found P words o) found x z) (finds.rule P keeps)
      (subst (λ (l : List ℕ). TakesBy P (take_found P words None) found l z) same
      (takes.rule P (subst (λ (l : List ℕ). KeepsLarge l P) (sym same) keeps) some));
}

-- after a take the bytes keep a pool
pub TakesLarge-kept : (x y : List ℕ) (words : ℕ) (found : Option ℕ) → KeepsSomeLarge x → TakesLarge words found x y →
    KeepsSomeLarge y
TakesLarge-kept x y words found k takes = cases (take_large k.pools words) (takes.rule k.pools k.keeps)
  where
    cases : (t : Option Taken) → TakesBy k.pools t found x y → KeepsSomeLarge y
    cases None by = subst KeepsSomeLarge (sym by.1) k
    cases (Some taken) by = record { pools = taken.pools; keeps = by.becomes.keeps }

-- and the block that was answered is in use there
pub TakesLarge-used : (x y : List ℕ) (words : ℕ) (found : Option ℕ) → KeepsSomeLarge x → TakesLarge words found x y →
    IsGiveable found y
TakesLarge-used x y words None k takes = tt
TakesLarge-used x y words (Some addr) k takes = cases (take_large k.pools words) (takes.rule k.pools k.keeps)
  where
    cases : (t : Option Taken) → TakesBy k.pools t (Some addr) x y → KeepsUsedLarge addr y
    cases None by = let none : Some addr ≡ None = by.0 in cc
    cases (Some taken) by =
        let same : addr ≡ taken.addr = (let e : Some addr ≡ Some taken.addr = by.addr in cc) in
        subst (λ (a : ℕ). KeepsUsedLarge a y) (sym same)
        (record { pools = taken.pools; keeps = by.becomes.keeps; used = by.used })

-- what holds of the value in an Ok says this
pub OnOk-from : {T E P : Type 0} (Q : T → Type 0) (r : Result T E) → ((value : T) → Q value → P) → IfOk r Q → OnOk r P
OnOk-from Q (Ok value) says is = says value is
OnOk-from Q (Err stop) says is = tt

-- a block in use has the words that are found at its address
used_words : (P : Pools) (other : ℕ) → TilesLarge P → IsUsed P.large other →
    0 < count_by (is_used_of (words_at other P.large) other) P.large
used_words P other tiles used =
    let there = words_at-is other P.large used.used in
    elim (free_or_used (words_at other P.large) other P.large there) [
      | inr is ↦ is
      | inl free ↦ absurd (omega (
        arith,
        free,
        used.used,
        free-used-le-at (words_at other P.large) other P.large,
        (at_block P P.end P.end (tiles_whole P tiles) (words_at other P.large) other there).once,
      ))
    ]

-- another block in use goes on being in use
pub Becomes-others : (P Q : Pools) (addr other : ℕ) (x y : List ℕ) → Becomes P Q addr x y → KeepsLarge x P →
    IsUsed P.large other → other ≢ addr → KeepsUsedLarge other y
Becomes-others P Q addr other x y becomes keeps used differ = record {
  pools = Q;
  keeps = becomes.keeps;
  used = record {
    used = omega (
      arith,
      becomes.still (words_at other P.large) other (used_words P other keeps.tiles used) differ,
      used_of-le-at (words_at other P.large) other Q.large,
    );
  };
}

pub TakesLarge-others : (x y : List ℕ) (words : ℕ) (found : Option ℕ) → TakesLarge words found x y → KeepsOthers 0 x y
TakesLarge-others x y words found takes = record {
  still = λ other some k. cases other k (take_large k.pools words) (takes.rule k.pools k.keeps);
}
  where
    cases : (other : ℕ) → (k : KeepsUsedLarge other x) → (t : Option Taken) → TakesBy k.pools t found x y →
        KeepsUsedLarge other y
    cases other k None by = subst (KeepsUsedLarge other) (sym by.1) k
    cases other k (Some taken) by = elim (cases_eq other taken.addr) [
      | inl same ↦ record {
        pools = taken.pools;
        keeps = by.becomes.keeps;
        used = subst (λ (a : ℕ). IsUsed taken.pools.large a) (sym same) by.used;
      }
      | inr differ ↦ Becomes-others k.pools taken.pools taken.addr other x y by.becomes k.keeps k.used differ
    ]

-- whether a block is in use is told by its start bit, whatever pools the bytes keep
pub used_in : (x : List ℕ) (P Q : Pools) (addr : ℕ) → KeepsLarge x P → KeepsLarge x Q → IsUsed P.large addr →
    IsUsed Q.large addr
used_in x P Q addr p q used =
    let o = in_order P P.end P.end (tiles_whole P p.tiles) in
    let b = at_block P P.end P.end (tiles_whole P p.tiles) (words_at addr P.large) addr
    (words_at-is addr P.large used.used) in
    let start : Q.start ≡ P.start =
    omega (arith, p.tiles.bounds.start, q.tiles.bounds.start, p.holds.size, q.holds.size) in
    let here : 8 * ((addr - 16) / 8) + 16 ≡ addr = omega (arith, b.first, b.whole o.whole o.end) in
    let bit = o.bits (addr - 16) (omega (arith, b.last, b.some)) in
    let one = p.holds.bits ((addr - 16) / 8) (omega (arith, bit)) (omega (arith, here, b.first, o.order)) in
    let same = q.holds.bits ((addr - 16) / 8) (omega (arith, bit, start))
    (omega (arith, here, b.first, o.order, p.holds.low, q.holds.low)) in
    record {
      used = omega (
        arith,
        used.used,
        one,
        same,
        ap (λ (n : ℕ). count_by (is_used_at n) P.large) here,
        ap (λ (n : ℕ). count_by (is_used_at n) Q.large) here,
      );
    }
