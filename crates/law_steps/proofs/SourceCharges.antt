-- What sources charge an account by how many extents of its objects name each, where these counts change.
use Rattle.std.proofs.Common.{◌≡◌, ◌≢◌, ℕ, zero, suc, ◌+◌, ◌≤◌, ◌==◌, ◌&&◌, List, [], ◌∷◌, false, Option, Some, None, nat_lt, refl, sym, ap, ◌∙◌, arith, eqb-true}
use Rattle.std.proofs.lemmas.Bool.Decides.{nat_tests}
use Rattle.std.specs.Cmp.{nat_eq_equiv}
use Rattle.std.specs.FinMap.{entries, get, remove as lose}
use Rattle.std.specs.List.{sum_by}
use Rattle.std.specs.Prelude.{if◌then◌else◌}
use Rattle.std.proofs.lemmas.List.Sums.{sum_by-cons}
use Rattle.sdr_base.specs.declared.account.Acct.{Acct}
use Rattle.sdr_base.specs.declared.kind.Space.{Space}
use Rattle.sdr_base.specs.declared.kind.Space.TheVariants as spaces
use Rattle.law_steps.proofs.DistinctLemmas.{on_test, weight}
use Rattle.law_steps.proofs.EntrySums.{sum_by-both, sum_by-there}
use Rattle.law_steps.proofs.SourceViews.{by_addr, here_at, of}
use Rattle.law_steps.specs.Charged.{source_less, sources_less}
use Rattle.sdr_model.proofs.SumLemmas.{counted_at, sum_by-removed}
use Rattle.sdr_model.specs.Amounts.{in_space}
use Rattle.sdr_model.specs.Things.{Things}
use Rattle.sdr_model.specs.Zco.{as_source, count_of, naming, source_at, space_of}
use Rattle.sdr_model.specs.declared.things.Thing.{Thing}
use Rattle.sdr_model.specs.declared.things.Thing.TheVariants as things
use Rattle.sdr_model.specs.declared.zco.Extent.{Extent}
use Rattle.sdr_model.specs.declared.zco.ZcoSource.{ZcoSource}

-- how many bytes of a source are in a space, where there is one
abbrev pub bytes_in : Space → Option ZcoSource → ℕ
bytes_in space None = 0
bytes_in space (Some source) = in_space (space_of source.subject) source.length space

-- what a thing charges of a space that this many extents name: a source its bytes, where one does
abbrev pub named_part : ℕ → Space → Thing → ℕ
named_part n space (things.Source source) = if n == 0 then 0 else in_space (space_of source.subject) source.length space
named_part n space thing = 0

-- what sources charge of a space, where so many extents name each
abbrev pub named_charge : (ℕ → ℕ) → Space → Things → ℕ
named_charge counts space m = sum_by (λ e. named_part (counts e.0) space e.1) (entries m)

-- how many extents of an account's objects name each source
abbrev pub counts : Things → Acct → ℕ → ℕ
counts m acct source = count_of (of m) source acct

module _ (m : Things) (space : Space) (c c' : ℕ → ℕ) where
  -- the same sources are named
  pub named_same : ((q : ℕ) → (c' q == 0) ≡ (c q == 0)) → named_charge c' space m ≡ named_charge c space m
  named_same same = sum_by-there _ _ m (λ q t is. each q t)
    where
      each : (q : ℕ) (t : Thing) → named_part (c' q) space t ≡ named_part (c q) space t
      each q (things.Source s) =
          ap (λ b. if b then 0 else in_space (space_of s.subject) s.length space) (same q)
      each q t = refl

  -- one source that no extent named is named: its bytes are charged
  pub named_first : (addr : ℕ) → c addr ≡ 0 → 1 ≤ c' addr → ((q : ℕ) → q ≢ addr → c' q ≡ c q)
      → named_charge c' space m ≡ named_charge c space m + bytes_in space (source_at (of m) addr)
  named_first addr none some others =
      let f = λ (e : ℕ × Thing). named_part (c e.0) space e.1 in
      let g = λ (e : ℕ × Thing). named_part (c' e.0) space e.1 in
      let rest : sum_by g (entries (lose m addr)) ≡ sum_by f (entries (lose m addr)) =
      sum_by-there g f (lose m addr) (λ q t is. by_addr q addr
      (λ here. let no : None ≡ Some t = sym (here_at m addr None) ∙ ap (get (lose m addr)) (sym here) ∙ is in cc)
      (λ apart. ap (λ n. named_part n space t) (others q apart))) in
      omega (
        arith,
        rest,
        sum_by-removed f m addr,
        sum_by-removed g m addr,
        before (get m addr),
        after (get m addr),
      )
    where
      before : (t : Option Thing) → counted_at (λ (e : ℕ × Thing). named_part (c e.0) space e.1) addr t ≡ 0
      before None = refl
      before (Some (things.Source s)) =
          ap (λ n. if n == 0 then 0 else in_space (space_of s.subject) s.length space) none
      before (Some t) = refl

      after : (t : Option Thing)
          → counted_at (λ (e : ℕ × Thing). named_part (c' e.0) space e.1) addr t ≡ bytes_in space (as_source t)
      after None = refl
      after (Some (things.Source s)) =
          let more : (c' addr == 0) ≡ false = grind (arith, nat_tests) in
          ap (λ b. if b then 0 else in_space (space_of s.subject) s.length space) more
      after (Some t) = refl

module _ (m : Things) (space : Space) (c c' : ℕ → ℕ) where
  -- one source that extents named is named no more: its bytes are charged no more
  pub named_last : (addr : ℕ) → 1 ≤ c addr → c' addr ≡ 0 → ((q : ℕ) → q ≢ addr → c' q ≡ c q)
      → named_charge c' space m + bytes_in space (source_at (of m) addr) ≡ named_charge c space m
  named_last addr some none others =
      sym (named_first m space c' c addr none some (λ q apart. sym (others q apart)))

  -- one source is named once more
  pub named_again : (addr : ℕ) → c' addr ≡ c addr + 1 → ((q : ℕ) → q ≢ addr → c' q ≡ c q)
      → named_charge c' space m
      ≡ named_charge c space m + (if c addr == 0 then bytes_in space (source_at (of m) addr) else 0)
  named_again addr more others =
      on_test (c addr == 0)
      (λ zero. omega (
        arith,
        named_first m space c c' addr (eqb-true _ _ zero) (omega (arith, more)) others,
        ap (λ b. if b then bytes_in space (source_at (of m) addr) else 0) zero,
      ))
      (λ some. omega (
        arith,
        named_same m space c c' (λ q. by_addr q addr
            (λ here. ap (λ i. c' i == 0) here ∙ above some ∙ sym (ap (λ i. c i == 0) here ∙ some))
            (λ apart. ap (λ n. n == 0) (others q apart))),
        ap (λ b. if b then bytes_in space (source_at (of m) addr) else 0) some,
      ))
    where
      above : (c addr == 0) ≡ false → (c' addr == 0) ≡ false
      above some = grind (arith, nat_tests)

-- these extents of an account are gone: it is charged less by the bytes of each source that no other extent of it names
pub named_less : (m : Things) (space : Space) (acct : Acct) (c : ℕ → ℕ) (out : List Extent)
    → ((q : ℕ) → c q + naming q out ≡ counts m acct q)
    → named_charge c space m + sources_less (of m) acct out space ≡ named_charge (counts m acct) space m
named_less m space acct c out gone = sum_by-both _ _ _ m (λ q t is. each q t)
  where
    parts : (k n b : ℕ) → (if k == 0 then 0 else b) + (if nat_lt 0 n && (k + n) == n then b else 0)
        ≡ (if (k + n) == 0 then 0 else b)
    parts zero zero b = refl
    parts zero (suc n) b = grind (arith, nat_tests)
    parts (suc k) zero b = grind (arith, nat_tests)
    parts (suc k) (suc n) b = grind (arith, nat_tests)

    each : (q : ℕ) (t : Thing) → named_part (c q) space t + source_less (of m) acct out space q t
        ≡ named_part (counts m acct q) space t
    each q (things.Source s) =
        let b = in_space (space_of s.subject) s.length space in
        ap (λ n. (if c q == 0 then 0 else b) + (if nat_lt 0 (naming q out) && n == naming q out then b else 0)) (sym (gone q))
        ∙ parts (c q) (naming q out) b
        ∙ ap (λ n. if n == 0 then 0 else b) (gone q)
    each q t = refl

-- these extents of an account are new, and each is the first that names its source
abbrev pub AreFirst : Things → (ℕ → ℕ) → List Extent → Type 0
AreFirst m c [] = Unit {0}
AreFirst m c (e ∷ es) =
    (c e.source ≡ 0) × (naming e.source es ≡ 0)
    × ((space : Space) → bytes_in space (source_at (of m) e.source) ≡ in_space spaces.Heap e.length space) × AreFirst m c es

pub named_firsts : (m : Things) (space : Space) (c c' : ℕ → ℕ) (es : List Extent)
    → ((q : ℕ) → c' q ≡ c q + naming q es) → AreFirst m c es
    → named_charge c' space m ≡ named_charge c space m + sum_by (λ e. in_space spaces.Heap e.length space) es
named_firsts m space c c' [] now firsts = omega (arith, named_same m space c c' (λ q. ap (λ n. n == 0) (omega (arith, now q))))
named_firsts m space c c' (e ∷ es) now firsts =
    let mid : ℕ → ℕ = λ q. c q + naming q es in
    let cons = λ (q : ℕ). sum_by-cons (λ (e : Extent). weight (e.source == q)) e es in
    omega (
      arith,
      named_firsts m space c mid es (λ q. refl) firsts.3,
      named_first m space mid c' e.source (omega (arith, firsts.0, firsts.1))
          (omega (arith, now e.source, cons e.source, ap weight (nat_eq_equiv.refl e.source)))
          (λ q apart. omega (
            arith,
            now q,
            cons q,
            on_test (e.source == q) (λ same. absurd (apart (sym (eqb-true e.source q same)))) (λ other. ap weight other),
          )),
      firsts.2 space,
      sum_by-cons (λ (e : Extent). in_space spaces.Heap e.length space) e es,
    )
