-- What the two calls do, from what their steps do.
use Rattle.std.proofs.Common.{◌≡◌, ◌≢◌, ◌≤◌, ◌<◌, ℕ, ◌+◌, ◌-◌, ◌*◌, ◌/◌, Bool, true, false, cond, nat_lt}
use Rattle.std.proofs.Common.{List, [], ◌∷◌, length, refl, sym, ap, ◌∙◌, arith, subst}
use Rattle.std.specs.Prelude.{Option, Some, None, Result, Ok, Err, IfOk, OnOk}
use Rattle.std.specs.List.{count_by}
use Rattle.std.proofs.lemmas.Bool.{le-ltb, lt-ltb}
use Rattle.sdr_base.specs.Pools.{Pools, IsUsed, is_of}
use Rattle.sdr_base.specs.SmallPool.{Taken, take_small, take_from, with_front_taken, with_new_small, give_small}
use Rattle.sdr_base.specs.SmallPool.{words_at}
use Rattle.sdr_base.specs.KeptPools.{ChainFrom, KeepsSmall, KeepsSomeSmall, list_place}
use Rattle.sdr_base.specs.Stored.{number_at, with_number, leader_words, with_bare_leader, SetsStartBit}
use Rattle.sdr_base.proofs.SmallPoolLemmas.{words_at-is}
use Rattle.sdr_base.proofs.KeptPoolsLemmas.{in_order, is_block, free_is, front_free}
use Rattle.sdr_small.specs.Calls.{TakesBlock, TakesBy, TakesSmall, TakesListed, TakesNew, KeepsUsedSmall, IsGiveable, GivesSmall}
use Rattle.sdr_small.specs.Calls.{PutsFront}
use Rattle.sdr_small.proofs.TakeLemmas.{takes_listed}
use Rattle.sdr_small.proofs.NewLemmas.{takes_new}
use Rattle.sdr_small.proofs.GiveLemmas.{gives_block}

-- a list whose front is this
pub record HasFront (P : Pools) (words front : ℕ) : Type 0 where
  pub rest : List ℕ
  pub is : P.small_lists words ≡ front ∷ rest

-- a list whose control word is 0 is empty
pub empty_list : (x : List ℕ) (P : Pools) (words : ℕ) → KeepsSmall x P → 1 ≤ words → words ≤ 64 →
    number_at (list_place words) x ≡ 0 → P.small_lists words ≡ []
unfolding ChainFrom
empty_list x P words keeps some most none = cases (P.small_lists words) refl (keeps.lists words some most)
  where
    cases : (l : List ℕ) → P.small_lists words ≡ l → ChainFrom x (list_place words) l → P.small_lists words ≡ []
    cases [] is chain = is
    cases (a ∷ l) is chain =
        let block = is_block x P words a keeps (free_is P words a (front_free x P words a l keeps is)) in
        absurd (omega (arith, block.first, chain.0, none))

-- any other is the front of its list
pub has_front : (x : List ℕ) (P : Pools) (words front : ℕ) → KeepsSmall x P → 1 ≤ words → words ≤ 64 →
    front ≡ number_at (list_place words) x → front ≢ 0 → HasFront P words front
unfolding ChainFrom
has_front x P words front keeps some most given there = cases (P.small_lists words) refl (keeps.lists words some most)
  where
    cases : (l : List ℕ) → P.small_lists words ≡ l → ChainFrom x (list_place words) l → HasFront P words front
    cases [] is chain = absurd (there (given ∙ chain))
    cases (a ∷ l) is chain = record { rest = l; is = is ∙ ap (λ (n : ℕ). n ∷ l) (sym chain.0 ∙ sym given) }

-- what the calls need of an address
pub record FitsIn (x : List ℕ) (addr : ℕ) : Type 0 where
  pub control : 1024 ≤ length x
  pub least : 8 ≤ addr
  pub inside : addr + 8 ≤ length x
  pub bit : 1024 + (addr - 8) / 8 / 8 < length x

pub block_fits : (x : List ℕ) (P : Pools) (words addr : ℕ) → KeepsSmall x P → 0 < count_by (is_of words addr) P.small →
    FitsIn x addr
block_fits x P words addr keeps some =
    let b = is_block x P words addr keeps some in
    let o = in_order x P keeps in
    record {
      control = omega (arith, o.control, o.small, o.order, o.end);
      least = omega (arith, b.first);
      inside = omega (arith, b.last, b.some, o.order, o.end);
      bit = omega (arith, b.bit, o.small, o.order, o.end);
    }

pub front_fits : (x z : List ℕ) (P : Pools) (words front : ℕ) → z ≡ x → KeepsSmall x P → 1 ≤ words → words ≤ 64 →
    front ≡ number_at (list_place words) x → front ≢ 0 → FitsIn z front
front_fits x z P words front same keeps some most given there =
    let f = has_front x P words front keeps some most given there in
    subst (λ (l : List ℕ). FitsIn l front) (sym same)
    (block_fits x P words front keeps (free_is P words front (front_free x P words front f.rest keeps f.is)))

-- the rule, where the list isn't empty
take_small-front : (P : Pools) (words front : ℕ) (rest : List ℕ) → words ≤ 64 → P.small_lists words ≡ front ∷ rest →
    take_small P words ≡ Some (record { addr = front; pools = with_front_taken P words front rest })
take_small-front P words front rest most is =
    let small : nat_lt 64 words ≡ false = le-ltb 64 words most in
    ap (λ (v : Bool). cond v None (take_from P words (P.small_lists words))) small
    ∙ ap (λ (l : List ℕ). take_from P words l) is

-- the rule, where it is empty
take_small-empty : (P : Pools) (words : ℕ) (full : Bool) → words ≤ 64 → P.small_lists words ≡ [] →
    nat_lt P.high (P.low + 8 * (1 + words)) ≡ full →
    take_small P words ≡ cond full None (Some (record { addr = P.low + 8; pools = with_new_small P words }))
take_small-empty P words full most is fits =
    let small : nat_lt 64 words ≡ false = le-ltb 64 words most in
    ap (λ (v : Bool). cond v None (take_from P words (P.small_lists words))) small
    ∙ ap (λ (l : List ℕ). take_from P words l) is
    ∙ ap (λ (v : Bool). cond v None (Some (record { addr = P.low + 8; pools = with_new_small P words }))) fits

-- the front was taken
pub takes_front : (x z y : List ℕ) (words front : ℕ) → z ≡ x → 1 ≤ words → words ≤ 64 →
    front ≡ number_at (list_place words) x → front ≢ 0 → TakesListed words front z y → TakesSmall words (Some front) x y
takes_front x z y words front same some most given there takes = record {
  rule = λ P keeps.
      let f = has_front x P words front keeps some most given there in
      subst (λ (t : Option Taken). TakesBy P words t (Some front) x y)
      (sym (take_small-front P words front f.rest most f.is))
      (takes_listed x y P words front f.rest keeps some most f.is
      (subst (λ (l : List ℕ). TakesListed words front l y) same takes));
}

-- the list was empty: a new block was taken, or none
pub takes_cut : (x z y : List ℕ) (words low : ℕ) (found : Option ℕ) → z ≡ x → 1 ≤ words → words ≤ 64 →
    low ≡ number_at 16 x → number_at (list_place words) x ≡ 0 → TakesNew words low found z y → TakesSmall words found x y
takes_cut x z y words low None same some most given none takes = record {
  rule = λ P keeps.
      let empty = empty_list x P words keeps some most none in
      let high : number_at 24 z ≡ P.high = ap (λ (l : List ℕ). number_at 24 l) same ∙ keeps.high in
      let full : P.high < P.low + 8 * (1 + words) = omega (arith, takes.0, high, given, keeps.low) in
      subst (λ (t : Option Taken). TakesBy P words t None x y)
      (sym (take_small-empty P words true most empty (lt-ltb P.high (P.low + 8 * (1 + words)) full)))
      (refl, takes.1 ∙ same);
}
takes_cut x z y words low (Some addr) same some most given none takes = record {
  rule = λ P keeps.
      let empty = empty_list x P words keeps some most none in
      let high : number_at 24 z ≡ P.high = ap (λ (l : List ℕ). number_at 24 l) same ∙ keeps.high in
      let at : low ≡ P.low = given ∙ keeps.low in
      let fits : P.low + 8 * (1 + words) ≤ P.high = omega (arith, takes.0, high, at) in
      subst (λ (t : Option Taken). TakesBy P words t (Some addr) x y)
      (sym (take_small-empty P words false most empty (le-ltb P.high (P.low + 8 * (1 + words)) fits)))
      (subst (λ (n : ℕ). TakesBlock P words (record { addr = P.low + 8; pools = with_new_small P words }) (Some n) x y)
      (sym (takes.1 ∙ ap (λ (n : ℕ). n + 8) at))
      (takes_new x y P words keeps some most fits (put P.low at)));
}
  where
    put : (n : ℕ) → low ≡ n → SetsStartBit (n / 8) 1
        (with_number 16 (n + 8 * (1 + words)) (with_bare_leader n words x)) y
    put n at =
        subst (λ (m : ℕ). SetsStartBit (m / 8) 1
        (with_number 16 (m + 8 * (1 + words)) (with_bare_leader m words x)) y) at
        (subst (λ (l : List ℕ). SetsStartBit (low / 8) 1
        (with_number 16 (low + 8 * (1 + words)) (with_bare_leader low words l)) y) same takes.2)

-- the words that the leader of a block in use names
pub leader_is : (x : List ℕ) (P : Pools) (addr : ℕ) → KeepsSmall x P → IsUsed P.small addr →
    leader_words (addr - 8) x ≡ words_at addr P.small
leader_is x P addr keeps used = keeps.leaders (words_at addr P.small) addr (words_at-is addr P.small used.used)

-- what giving it back needs
pub record CanGive (x : List ℕ) (words addr : ℕ) : Type 0 where
  pub fits : FitsIn x addr
  pub few : words ≤ 64

pub can_give : (x z : List ℕ) (words addr : ℕ) → z ≡ x → KeepsUsedSmall addr x → words ≡ leader_words (addr - 8) x →
    CanGive z words addr
can_give x z words addr same k given =
    let P = k.pools in
    let is = words_at-is addr P.small k.used.used in
    let b = is_block x P (words_at addr P.small) addr k.keeps is in
    let named : words ≡ words_at addr P.small = given ∙ leader_is x P addr k.keeps k.used in
    subst (λ (l : List ℕ). CanGive l words addr) (sym same) (record {
      fits = block_fits x P (words_at addr P.small) addr k.keeps is;
      few = omega (arith, b.most, named);
    })

-- the block was given back
pub gives_back : (x z y : List ℕ) (words addr : ℕ) → z ≡ x → words ≡ leader_words (addr - 8) x →
    PutsFront words addr z y → GivesSmall addr x y
gives_back x z y words addr same given puts = record {
  rule = λ P keeps used.
      gives_block x y P addr keeps used
      (subst (λ (w : ℕ). PutsFront w addr x y) (given ∙ leader_is x P addr keeps used)
      (subst (λ (l : List ℕ). PutsFront words addr l y) same puts));
}

-- after a take the bytes keep a pool
pub TakesSmall-kept : (x y : List ℕ) (words : ℕ) (found : Option ℕ) → KeepsSomeSmall x → TakesSmall words found x y →
    KeepsSomeSmall y
TakesSmall-kept x y words found k takes = cases (take_small k.pools words) (takes.rule k.pools k.keeps)
  where
    cases : (t : Option Taken) → TakesBy k.pools words t found x y → KeepsSomeSmall y
    cases None by = subst KeepsSomeSmall (sym by.1) k
    cases (Some taken) by = record { pools = taken.pools; keeps = by.keeps }

-- and the block that was answered is in use there
pub TakesSmall-used : (x y : List ℕ) (words : ℕ) (found : Option ℕ) → KeepsSomeSmall x → TakesSmall words found x y →
    IsGiveable found y
TakesSmall-used x y words None k takes = tt
TakesSmall-used x y words (Some addr) k takes = cases (take_small k.pools words) (takes.rule k.pools k.keeps)
  where
    cases : (t : Option Taken) → TakesBy k.pools words t (Some addr) x y → KeepsUsedSmall addr y
    cases None by = let none : Some addr ≡ None = by.0 in cc
    cases (Some taken) by =
        let same : addr ≡ taken.addr = (let e : Some addr ≡ Some taken.addr = by.addr in cc) in
        subst (λ (a : ℕ). KeepsUsedSmall a y) (sym same)
        (record { pools = taken.pools; keeps = by.keeps; used = by.used })

-- after a give the bytes keep a pool
pub GivesSmall-kept : (x y : List ℕ) (addr : ℕ) → KeepsUsedSmall addr x → GivesSmall addr x y → KeepsSomeSmall y
GivesSmall-kept x y addr k gives =
    record { pools = give_small k.pools addr; keeps = (gives.rule k.pools k.keeps k.used).keeps }

-- what holds of the value in an Ok says this
pub OnOk-from : {T E P : Type 0} (Q : T → Type 0) (r : Result T E) → ((value : T) → Q value → P) → IfOk r Q → OnOk r P
OnOk-from Q (Ok value) says is = says value is
OnOk-from Q (Err stop) says is = tt
