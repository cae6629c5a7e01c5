-- The links of a list from which a block leaves, and of one to which a block comes.
use Rattle.std.proofs.Common.{◌≡◌, ◌≢◌, ◌≤◌, ◌<◌, inl, inr, ℕ, ◌+◌, ◌-◌, ◌*◌, Bool, true, false, not, cond, ◌==◌}
use Rattle.std.proofs.Common.{List, [], ◌∷◌, refl, sym, ap, ◌∙◌, arith, subst}
use Rattle.std.specs.List.{count_by}
use Rattle.std.proofs.lemmas.Bool.{cases_Bool, cases_lt, ne_eqb, eqb-true, eq-eqb, and_from}
use Rattle.std.proofs.lemmas.List.Sums.{sum_by-cons}
use Rattle.sdr_base.specs.Pools.{PoolBlock, is_free_of}
use Rattle.sdr_base.specs.LargePool.{unlisted}
use Rattle.sdr_base.specs.KeptLarge.{Links, is_entry, large_place}
use Rattle.sdr_base.specs.Stored.{number_at}
use Rattle.sdr_base.proofs.PoolsLemmas.{count_by-yes}
use Rattle.sdr_large.specs.Steps.{link_place}
use Rattle.sdr_large.proofs.LinksLemmas.{first_entry, later_entry, unlisted-none, Links-same}

-- behind the only entry of a block there is none at its address
behind_once : (bs : List PoolBlock) → ((w w' b : ℕ) → 0 < count_by (is_free_of w b) bs →
    0 < count_by (is_free_of w' b) bs → w ≡ w') →
    (e : ℕ × ℕ) (l : List (ℕ × ℕ)) → ((w b : ℕ) → 0 < count_by (is_entry w b) (e ∷ l) →
    0 < count_by (is_free_of w b) bs) →
    count_by (is_entry e.1 e.0) (e ∷ l) ≤ 1 → (w : ℕ) → count_by (is_entry w e.0) l ≡ 0
behind_once bs unique e l free once w = elim (cases_lt 0 (count_by (is_entry w e.0) l)) [
  | inr none ↦ omega (arith, none)
  | inl some ↦
      let same : w ≡ e.1 = unique w e.1 e.0 (free w e.0 (later_entry w e.0 e l some))
      (free e.1 e.0 (first_entry e l)) in
      absurd (omega (
        arith,
        once,
        subst (λ (k : ℕ). 0 < count_by (is_entry k e.0) l) same some,
        count_by-yes (is_entry e.1 e.0) e l
            (and_from (e.0 == e.0) (e.1 == e.1) (eq-eqb e.0 e.0 refl) (eq-eqb e.1 e.1 refl)),
      ))
]

module _ (x y : List ℕ) (bs : List PoolBlock) (order words addr : ℕ) (positive : addr ≢ 0)
    (nonzero : (w b : ℕ) → 0 < count_by (is_free_of w b) bs → b ≢ 0)
    (unique : (w w' b : ℕ) → 0 < count_by (is_free_of w b) bs → 0 < count_by (is_free_of w' b) bs → w ≡ w') where
  -- a list without the block: the one before it links to the next, and back
  module _ (here : 0 < count_by (is_free_of words addr) bs)
      (moved : number_at (link_place order (number_at (addr + 8 * words) x)) y ≡ number_at (addr - 8) x)
      (back : (w : ℕ) → number_at (addr - 8) x ≢ 0 → 0 < count_by (is_free_of w (number_at (addr - 8) x)) bs →
      number_at (number_at (addr - 8) x + 8 * w) y ≡ number_at (addr + 8 * words) x)
      (next_same : (w b : ℕ) → 0 < count_by (is_free_of w b) bs → number_at (b - 8) x ≢ addr →
      number_at (b - 8) y ≡ number_at (b - 8) x)
      (back_same : (w b : ℕ) → 0 < count_by (is_free_of w b) bs → number_at (b + 8 * w) x ≢ addr →
      number_at (b + 8 * w) y ≡ number_at (b + 8 * w) x) where
    pub links_without : (place v : ℕ) (l : List (ℕ × ℕ)) → Links x place v l → place ≡ link_place order v →
        v ≢ addr → (number_at place x ≢ addr → number_at place y ≡ number_at place x) →
        ((w b : ℕ) → 0 < count_by (is_entry w b) l → 0 < count_by (is_free_of w b) bs) →
        ((w b : ℕ) → count_by (is_entry w b) l ≤ 1) → Links y place v (unlisted addr l)
    unfolding Links unlisted
    links_without place v [] chain at apart front free once = front (λ is. positive (sym is ∙ chain)) ∙ chain
    links_without place v (e ∷ l) chain at apart front free once = elim (cases_Bool (e.0 == addr)) [
      | inr other ↦
          let differs : e.0 ≢ addr = (λ is. true_not_false (sym (eq-eqb e.0 addr is) ∙ other)) in
          subst (Links y place v)
          (sym (ap (λ (t : Bool). cond (not t) (e ∷ unlisted addr l) (unlisted addr l)) other)) (
            front (λ is. differs (sym chain.0 ∙ is)) ∙ chain.0,
            back_same e.1 e.0 (free e.1 e.0 (first_entry e l)) (λ is. apart (sym chain.1 ∙ is)) ∙ chain.1,
            links_without (e.0 - 8) e.0 l chain.2
                (sym (ap (λ (t : Bool). cond t (large_place order) (e.0 - 8))
                (ne_eqb e.0 0 (nonzero e.1 e.0 (free e.1 e.0 (first_entry e l))))))
                differs (next_same e.1 e.0 (free e.1 e.0 (first_entry e l)))
                (λ w b there. free w b (later_entry w b e l there))
                (λ w b. omega (arith, once w b, sum_by-cons (λ d. cond (is_entry w b d) 1 0) e l)),
          )
      | inl same ↦
          let is_addr = eqb-true e.0 addr same in
          let is_words : e.1 ≡ words = unique e.1 words addr
          (subst (λ (a : ℕ). 0 < count_by (is_free_of e.1 a) bs) is_addr (free e.1 e.0 (first_entry e l))) here in
          let rest_none : (w : ℕ) → count_by (is_entry w addr) l ≡ 0 =
          subst (λ (a : ℕ). (w : ℕ) → count_by (is_entry w a) l ≡ 0) is_addr
          (behind_once bs unique e l free (once e.1 e.0)) in
          subst (Links y place v)
          (sym (ap (λ (t : Bool). cond (not t) (e ∷ unlisted addr l) (unlisted addr l)) same
          ∙ unlisted-none addr l rest_none))
          (gone is_addr is_words l chain.2 (λ w b there. free w b (later_entry w b e l there)) rest_none)
    ]
      where
        true_not_false : true ≡ false → ⊥
        true_not_false is = cc

        gone : e.0 ≡ addr → e.1 ≡ words → (l : List (ℕ × ℕ)) → Links x (e.0 - 8) e.0 l →
            ((w b : ℕ) → 0 < count_by (is_entry w b) l → 0 < count_by (is_free_of w b) bs) →
            ((w : ℕ) → count_by (is_entry w addr) l ≡ 0) → Links y place v l
        gone is_addr is_words l links free_rest none =
            at_next l (subst (λ (a : ℕ). Links x (a - 8) a l) is_addr links) free_rest none
          where
            v_is : number_at (addr + 8 * words) x ≡ v
            v_is =
                ap (λ (n : ℕ). number_at (n + 8 * words) x) (sym is_addr)
                ∙ ap (λ (n : ℕ). number_at (e.0 + 8 * n) x) (sym is_words) ∙ chain.1

            front_is : number_at place y ≡ number_at (addr - 8) x
            front_is =
                ap (λ (n : ℕ). number_at n y) at
                ∙ ap (λ (n : ℕ). number_at (link_place order n) y) (sym v_is) ∙ moved

            at_next : (l : List (ℕ × ℕ)) → Links x (addr - 8) addr l →
                ((w b : ℕ) → 0 < count_by (is_entry w b) l → 0 < count_by (is_free_of w b) bs) →
                ((w : ℕ) → count_by (is_entry w addr) l ≡ 0) → Links y place v l
            at_next [] links free none = front_is ∙ links
            at_next (n ∷ l) links free none =
                let n_free = free n.1 n.0 (first_entry n l) in
                let n_some : number_at (addr - 8) x ≢ 0 = (λ is. nonzero n.1 n.0 n_free (sym links.0 ∙ is)) in (
                  front_is ∙ links.0,
                  ap (λ (a : ℕ). number_at (a + 8 * n.1) y) (sym links.0)
                      ∙ back n.1 n_some (subst (λ (a : ℕ). 0 < count_by (is_free_of n.1 a) bs) (sym links.0) n_free)
                      ∙ v_is,
                  Links-same x y addr positive (n.0 - 8) n.0 l links.2 (next_same n.1 n.0 n_free)
                      (λ w b there. next_same w b (free w b (later_entry w b n l there)))
                      (λ w b there. back_same w b (free w b (later_entry w b n l there)))
                      (not_here n.1 n.0 (first_entry n l))
                      (λ w b there. not_here w b (later_entry w b n l there)),
                )
              where
                not_here : (w b : ℕ) → 0 < count_by (is_entry w b) (n ∷ l) → b ≢ addr
                not_here w b there is =
                    let at_addr = subst (λ (a : ℕ). 0 < count_by (is_entry w a) (n ∷ l)) is there in
                    omega (arith, at_addr, none w)

  -- a list with the block as its front
  pub links_pushed : (l : List (ℕ × ℕ)) → Links x (large_place order) 0 l →
      ((w b : ℕ) → 0 < count_by (is_entry w b) l → 0 < count_by (is_free_of w b) bs) →
      ((w b : ℕ) → count_by (is_entry w b) l ≤ 1) →
      ((w b : ℕ) → 0 < count_by (is_free_of w b) bs → b ≢ addr) →
      number_at (large_place order) y ≡ addr → number_at (addr + 8 * words) y ≡ 0 →
      number_at (addr - 8) y ≡ number_at (large_place order) x →
      ((w : ℕ) → number_at (large_place order) x ≢ 0 →
      0 < count_by (is_free_of w (number_at (large_place order) x)) bs →
      number_at (number_at (large_place order) x + 8 * w) y ≡ addr) →
      ((w b : ℕ) → 0 < count_by (is_free_of w b) bs → number_at (b - 8) y ≡ number_at (b - 8) x) →
      ((w b : ℕ) → 0 < count_by (is_free_of w b) bs → b ≢ number_at (large_place order) x →
      number_at (b + 8 * w) y ≡ number_at (b + 8 * w) x) → Links y (large_place order) 0 ((addr, words) ∷ l)
  unfolding Links
  links_pushed [] chain free once other front before next back next_same back_same =
      (front, before, next ∙ chain)
  links_pushed (f ∷ l) chain free once other front before next back next_same back_same =
      let f_free = free f.1 f.0 (first_entry f l) in
      let some : number_at (large_place order) x ≢ 0 = (λ is. nonzero f.1 f.0 f_free (sym chain.0 ∙ is)) in (
        front,
        before,
        (
          next ∙ chain.0,
          ap (λ (a : ℕ). number_at (a + 8 * f.1) y) (sym chain.0)
              ∙ back f.1 some (subst (λ (a : ℕ). 0 < count_by (is_free_of f.1 a) bs) (sym chain.0) f_free),
          Links-same x y addr positive (f.0 - 8) f.0 l chain.2 (λ differs. next_same f.1 f.0 f_free)
              (λ w b there differs. next_same w b (free w b (later_entry w b f l there)))
              (λ w b there differs. back_same w b (free w b (later_entry w b f l there)) (behind w b there))
              (other f.1 f.0 f_free) (λ w b there. other w b (free w b (later_entry w b f l there))),
        ),
      )
    where
      behind : (w b : ℕ) → 0 < count_by (is_entry w b) l → b ≢ number_at (large_place order) x
      behind w b there is =
          let at_front : b ≡ f.0 = is ∙ chain.0 in
          let some = subst (λ (a : ℕ). 0 < count_by (is_entry w a) l) at_front there in
          omega (arith, some, behind_once bs unique f l free (once f.1 f.0) w)
