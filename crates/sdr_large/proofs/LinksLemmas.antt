-- The links of a list of free blocks: what they name, and how they change when a block leaves or comes.
use Rattle.std.proofs.Common.{◌≡◌, ◌≢◌, ◌<◌, inl, inr, ℕ, ◌+◌, ◌-◌, ◌*◌, Bool, not, cond, ◌&&◌, ◌==◌}
use Rattle.std.proofs.Common.{List, [], ◌∷◌, refl, sym, ap, ◌∙◌, arith, subst}
use Rattle.std.specs.List.{count_by}
use Rattle.std.proofs.lemmas.Bool.{cases_Bool, eq-eqb, ne_eqb, eqb-true, and_from}
use Rattle.std.proofs.lemmas.List.Sums.{sum_by-cons}
use Rattle.sdr_base.specs.Pools.{PoolBlock, is_free_of}
use Rattle.sdr_base.specs.LargePool.{unlisted}
use Rattle.sdr_base.specs.KeptLarge.{Links, is_entry, large_place}
use Rattle.sdr_base.specs.Stored.{number_at}
use Rattle.sdr_base.proofs.PoolsLemmas.{count_by-yes, count_by-no}
use Rattle.sdr_large.specs.Steps.{link_place}
use Rattle.sdr_large.proofs.BlocksLemmas.{filter_all}

-- the first entry, and those behind it
pub first_entry : (e : ℕ × ℕ) (l : List (ℕ × ℕ)) → 0 < count_by (is_entry e.1 e.0) (e ∷ l)
first_entry e l =
    omega (
      arith,
      count_by-yes (is_entry e.1 e.0) e l
          (and_from (e.0 == e.0) (e.1 == e.1) (eq-eqb e.0 e.0 refl) (eq-eqb e.1 e.1 refl)),
    )

pub later_entry : (words addr : ℕ) (e : ℕ × ℕ) (l : List (ℕ × ℕ)) → 0 < count_by (is_entry words addr) l →
    0 < count_by (is_entry words addr) (e ∷ l)
later_entry words addr e l some = omega (arith, some, sum_by-cons (λ x. cond (is_entry words addr x) 1 0) e l)

-- no entry at an address, whatever its words
none_at : (addr : ℕ) (l : List (ℕ × ℕ)) → ((w : ℕ) → count_by (is_entry w addr) l ≡ 0) →
    count_by (λ e. e.0 == addr) l ≡ 0
none_at addr [] none = refl
none_at addr (e ∷ l) none = elim (cases_Bool (e.0 == addr)) [
  | inl here ↦ absurd (omega (
    arith,
    subst (λ (a : ℕ). 0 < count_by (is_entry e.1 a) (e ∷ l)) (eqb-true e.0 addr here) (first_entry e l),
    none e.1,
  ))
  | inr other ↦
      count_by-no (λ d. d.0 == addr) e l other
      ∙ none_at addr l (λ w. omega (arith, none w, sum_by-cons (λ d. cond (is_entry w addr d) 1 0) e l))
]

-- a list without an address has it not, and stays
pub unlisted-none : (addr : ℕ) (l : List (ℕ × ℕ)) → ((w : ℕ) → count_by (is_entry w addr) l ≡ 0) → unlisted addr l ≡ l
unfolding unlisted
unlisted-none addr l none =
    filter_all (λ e. not (e.0 == addr)) (λ e. e.0 == addr) (λ e other. ap not other) l (none_at addr l none)

-- a free block at an address
pub record FreeAt (bs : List PoolBlock) (addr : ℕ) : Type 0 where
  pub words : ℕ
  pub free : 0 < count_by (is_free_of words addr) bs

-- the links stay where the words stay that don't name one address
module _ (x y : List ℕ) (skip : ℕ) (nonzero : skip ≢ 0) where
  pub Links-same : (place before : ℕ) (l : List (ℕ × ℕ)) → Links x place before l →
      (number_at place x ≢ skip → number_at place y ≡ number_at place x) →
      ((w b : ℕ) → 0 < count_by (is_entry w b) l → number_at (b - 8) x ≢ skip →
      number_at (b - 8) y ≡ number_at (b - 8) x) →
      ((w b : ℕ) → 0 < count_by (is_entry w b) l → number_at (b + 8 * w) x ≢ skip →
      number_at (b + 8 * w) y ≡ number_at (b + 8 * w) x) →
      before ≢ skip → ((w b : ℕ) → 0 < count_by (is_entry w b) l → b ≢ skip) → Links y place before l
  unfolding Links
  Links-same place before [] chain front next back apart other =
      front (λ is. nonzero (sym is ∙ chain)) ∙ chain
  Links-same place before (e ∷ l) chain front next back apart other = (
    front (λ is. other e.1 e.0 (first_entry e l) (sym chain.0 ∙ is)) ∙ chain.0,
    back e.1 e.0 (first_entry e l) (λ is. apart (sym chain.1 ∙ is)) ∙ chain.1,
    Links-same (e.0 - 8) e.0 l chain.2 (next e.1 e.0 (first_entry e l))
        (λ w b there. next w b (later_entry w b e l there)) (λ w b there. back w b (later_entry w b e l there))
        (other e.1 e.0 (first_entry e l)) (λ w b there. other w b (later_entry w b e l there)),
  )

-- where the links to a block and from it stand
pub record IsLinked (x : List ℕ) (bs : List PoolBlock) (order words addr : ℕ) : Type 0 where
  pub to_here : number_at (link_place order (number_at (addr + 8 * words) x)) x ≡ addr
  pub before : number_at (addr + 8 * words) x ≢ 0 → FreeAt bs (number_at (addr + 8 * words) x)
  pub next : number_at (addr - 8) x ≢ 0 → FreeAt bs (number_at (addr - 8) x)
  pub back : (w : ℕ) → number_at (addr - 8) x ≢ 0 → 0 < count_by (is_free_of w (number_at (addr - 8) x)) bs →
      number_at (number_at (addr - 8) x + 8 * w) x ≡ addr

-- the links of a list of which each entry is a free block, one at an address
module _ (x : List ℕ) (bs : List PoolBlock) (order : ℕ)
    (nonzero : (w b : ℕ) → 0 < count_by (is_free_of w b) bs → b ≢ 0)
    (unique : (w w' b : ℕ) → 0 < count_by (is_free_of w b) bs → 0 < count_by (is_free_of w' b) bs → w ≡ w') where
  pub linked : (words addr place v : ℕ) (l : List (ℕ × ℕ)) → Links x place v l → place ≡ link_place order v →
      (v ≢ 0 → FreeAt bs v) →
      ((w b : ℕ) → 0 < count_by (is_entry w b) l → 0 < count_by (is_free_of w b) bs) →
      0 < count_by (is_entry words addr) l → IsLinked x bs order words addr
  unfolding Links
  linked words addr place v [] chain at free_before free some = absurd (omega (arith, some))
  linked words addr place v (e ∷ l) chain at free_before free some = elim (cases_Bool (e.0 == addr)) [
    | inl here ↦ found (eqb-true e.0 addr here)
        (unique e.1 words addr
        (subst (λ (a : ℕ). 0 < count_by (is_free_of e.1 a) bs) (eqb-true e.0 addr here)
        (free e.1 e.0 (first_entry e l))) (free words addr some))
    | inr other ↦
        linked words addr (e.0 - 8) e.0 l chain.2
        (sym (ap (λ (t : Bool). cond t (large_place order) (e.0 - 8))
        (ne_eqb e.0 0 (nonzero e.1 e.0 (free e.1 e.0 (first_entry e l))))))
        (λ some_before. record { words = e.1; free = free e.1 e.0 (first_entry e l) })
        (λ w b there. free w b (later_entry w b e l there))
        (omega (
          arith,
          some,
          count_by-no (is_entry words addr) e l
              (ap (λ (t : Bool). t && e.1 == words) other),
        ))
  ]
    where
      found : e.0 ≡ addr → e.1 ≡ words → IsLinked x bs order words addr
      found is_addr is_words =
          let v_is : number_at (addr + 8 * words) x ≡ v =
          ap (λ (n : ℕ). number_at (n + 8 * words) x) (sym is_addr)
          ∙ ap (λ (n : ℕ). number_at (e.0 + 8 * n) x) (sym is_words) ∙ chain.1 in
          let next_is : number_at (addr - 8) x ≡ number_at (e.0 - 8) x =
          ap (λ (n : ℕ). number_at (n - 8) x) (sym is_addr) in
          record {
            to_here = ap (λ (n : ℕ). number_at (link_place order n) x) v_is
                ∙ ap (λ (n : ℕ). number_at n x) (sym at) ∙ chain.0 ∙ is_addr;
            before = subst (λ (n : ℕ). n ≢ 0 → FreeAt bs n) (sym v_is) free_before;
            next = subst (λ (n : ℕ). n ≢ 0 → FreeAt bs n) (sym next_is) (after l chain.2 free);
            back = subst (λ (n : ℕ). (w : ℕ) → n ≢ 0 → 0 < count_by (is_free_of w n) bs → number_at (n + 8 * w) x ≡ addr)
                (sym next_is) (λ w some_next there. back_of l chain.2 free w some_next there ∙ is_addr);
          }
        where
          after : (l : List (ℕ × ℕ)) → Links x (e.0 - 8) e.0 l →
              ((w b : ℕ) → 0 < count_by (is_entry w b) (e ∷ l) → 0 < count_by (is_free_of w b) bs) →
              number_at (e.0 - 8) x ≢ 0 → FreeAt bs (number_at (e.0 - 8) x)
          after [] chain free some_next = absurd (some_next chain)
          after (n ∷ l) chain free some_next =
              subst (FreeAt bs) (sym chain.0) (record {
                words = n.1;
                free = free n.1 n.0 (later_entry n.1 n.0 e (n ∷ l) (first_entry n l));
              })

          back_of : (l : List (ℕ × ℕ)) → Links x (e.0 - 8) e.0 l →
              ((w b : ℕ) → 0 < count_by (is_entry w b) (e ∷ l) → 0 < count_by (is_free_of w b) bs) →
              (w : ℕ) → number_at (e.0 - 8) x ≢ 0 → 0 < count_by (is_free_of w (number_at (e.0 - 8) x)) bs →
              number_at (number_at (e.0 - 8) x + 8 * w) x ≡ e.0
          back_of [] chain free w some_next there = absurd (some_next chain)
          back_of (n ∷ l) chain free w some_next there =
              let same_words : w ≡ n.1 = unique w n.1 n.0
              (subst (λ (a : ℕ). 0 < count_by (is_free_of w a) bs) chain.0 there)
              (free n.1 n.0 (later_entry n.1 n.0 e (n ∷ l) (first_entry n l))) in
              ap (λ (a : ℕ). number_at (a + 8 * w) x) chain.0
              ∙ ap (λ (k : ℕ). number_at (n.0 + 8 * k) x) same_words ∙ chain.1
