-- How many extents name a source, and when it goes with them.
use Rattle.std.proofs.Common.{◌≡◌, ◌≢◌, ◌+◌, ◌-◌, ◌≤◌, ℕ, Bool, List, [], ◌∷◌, ◌++◌, true, false, eqb, refl, sym, ap, ◌∙◌, arith, eq-eqb}
use Rattle.std.specs.Prelude.{◌==◌, ◌&&◌, nat_lt, if◌then◌else◌}
use Rattle.std.proofs.lemmas.Bool.{eqb-true, false≢true, lt-ltb, ne_eqb}
use Rattle.std.proofs.lemmas.List.Sums.{sum_by-append, sum_by-cons}
use Rattle.sdr_base.specs.Entries.{Entries}
use Rattle.sdr_base.specs.Sources.{SourceRow}
use Rattle.sdr_base.specs.ZcoObjects.{ExtentRow}
use Rattle.sdr_base.specs.declared.account.Acct.{Acct}
use Rattle.sdr_base.specs.declared.account.Acct.TheVariants as accts
use Rattle.zco_obj.specs.Uses.{left_next}
use Rattle.zco_obj.specs.Gone.{NamedSource, less_uses, naming}
use Rattle.zco_ref.specs.Counting.{detached, gone_next}
use Rattle.zco_ref.specs.Going.{gone_with, goes_next, is_passing, blocks_left}
use Rattle.zco_ref.specs.Kept.{CountedSource, count_in, tied_entries, uses_of}

-- whether an extent names a source
abbrev pub names : ℕ → ExtentRow → ℕ
names addr e = if e.source == addr then 1 else 0

pub naming-append : (addr : ℕ) (xs ys : List ExtentRow) → naming addr (xs ++ ys) ≡ naming addr xs + naming addr ys
naming-append addr xs ys = sum_by-append (names addr) xs ys

names_one : (addr : ℕ) (e : ExtentRow) → e.source ≡ addr → names addr e ≡ 1
names_one addr e is = ap (λ v. if v then 1 else 0) (eq-eqb e.source addr is)

names_none : (addr : ℕ) (e : ExtentRow) → e.source ≢ addr → names addr e ≡ 0
names_none addr e n = ap (λ v. if v then 1 else 0) (ne_eqb e.source addr n)

-- one extent more, which names it
pub naming_one : (addr : ℕ) (xs : List ExtentRow) (e : ExtentRow) → e.source ≡ addr →
    naming addr (xs ++ (e ∷ [])) ≡ naming addr xs + 1
naming_one addr xs e is =
    let a = naming-append addr xs (e ∷ []) in let c = sum_by-cons (names addr) e [] in let n = names_one addr e is in
    omega (arith, a, c, n)

-- or doesn't
pub naming_other : (addr : ℕ) (xs : List ExtentRow) (e : ExtentRow) → e.source ≢ addr →
    naming addr (xs ++ (e ∷ [])) ≡ naming addr xs
naming_other addr xs e n =
    let a = naming-append addr xs (e ∷ []) in let c = sum_by-cons (names addr) e [] in let m = names_none addr e n in
    omega (arith, a, c, m)

-- among all
pub naming_all : (addr : ℕ) (xs : List ExtentRow) (e : ExtentRow) (ys : List ExtentRow) → e.source ≡ addr →
    naming addr (xs ++ (e ∷ ys)) ≡ naming addr xs + 1 + naming addr ys
naming_all addr xs e ys is =
    let a = naming-append addr xs (e ∷ ys) in let c = sum_by-cons (names addr) e ys in let n = names_one addr e is in
    omega (arith, a, c, n)

-- two tests of numbers that hold together
pub same_test : (a b c d : ℕ) → (a ≡ b → c ≡ d) → (c ≡ d → a ≡ b) → (a == b) ≡ (c == d)
same_test a b c d f g =
    elim (eqb a b) as (λ v. eqb a b ≡ v → v ≡ eqb c d) [
      | true ↦ λ e. sym (eq-eqb c d (f (eqb-true a b e)))
      | false ↦ λ e. sym (ne_eqb c d (λ z. false≢true (sym e ∙ eq-eqb a b (g z))))
    ] refl

-- the source's account and its row
uses_more : (acct : Acct) (s : CountedSource) → count_in acct s ≤ uses_of s
uses_more accts.Inbound s = omega arith
uses_more accts.Outbound s = omega arith

pub less_row : (acct : Acct) (n : ℕ) (s : CountedSource) → (less_uses acct n s).row ≡ s.row
less_row accts.Inbound n s = refl
less_row accts.Outbound n s = refl

pub less_count : (acct : Acct) (n : ℕ) (s : CountedSource) → count_in acct (less_uses acct n s) ≡ count_in acct s - n
less_count accts.Inbound n s = refl
less_count accts.Outbound n s = refl

less_used : (acct : Acct) (n : ℕ) (s : CountedSource) → n ≤ count_in acct s → uses_of (less_uses acct n s) + n ≡ uses_of s
less_used accts.Inbound n s le = omega (arith, le)
less_used accts.Outbound n s le = omega (arith, le)

less_more : (acct : Acct) (n : ℕ) (s : CountedSource) → detached acct (less_uses acct n s) ≡ less_uses acct (n + 1) s
less_more accts.Inbound n s = ap (λ m. record s { inbound = m }) (omega arith)
less_more accts.Outbound n s = ap (λ m. record s { outbound = m }) (omega arith)

pub less_none : (acct : Acct) (s : CountedSource) → less_uses acct 0 s ≡ s
less_none accts.Inbound s = ap (λ m. record s { inbound = m }) (omega arith)
less_none accts.Outbound s = ap (λ m. record s { outbound = m }) (omega arith)

and_false : (a b : Bool) → (a && (b && false)) ≡ false
and_false true true = refl
and_false true false = refl
and_false false b = refl

-- what is left of a source, by how many of the account's extents that name it are gone
abbrev pub goes_after : ℕ → NamedSource → Bool
goes_after n s = is_passing s.source.row.medium s.source.row.flagged && (nat_lt 0 n && uses_of s.source == n)

abbrev pub left_after : Acct → ℕ → NamedSource → Entries
left_after acct n s =
    if goes_after n s then blocks_left s.source.row.medium s.source.row.subject s.bytes
    else tied_entries s.addr (less_uses acct n s.source) s.bytes

-- where none is gone it is there
pub left_none : (acct : Acct) (s : NamedSource) → left_after acct 0 s ≡ tied_entries s.addr s.source s.bytes
left_none acct s =
    ap (λ v. if v then blocks_left s.source.row.medium s.source.row.subject s.bytes
    else tied_entries s.addr (less_uses acct 0 s.source) s.bytes) (none (is_passing s.source.row.medium s.source.row.flagged))
    ∙ ap (λ t. tied_entries s.addr t s.bytes) (less_none acct s.source)
  where
    none : (a : Bool) → (a && false) ≡ false
    none true = refl
    none false = refl

-- an extent of the account names a source, `n` before it and `k` behind it do, and the source counts them all
module _ (acct : Acct) (s : NamedSource) (n k : ℕ) (enough : n + 1 + k ≤ count_in acct s.source) where
  now : CountedSource
  now = less_uses acct n s.source

  used : uses_of (less_uses acct n s.source) + n ≡ uses_of s.source
  used = less_used acct n s.source (omega (arith, enough))

  more : n + 1 + k ≤ uses_of s.source
  more = let u = uses_more acct s.source in omega (arith, u, enough)

  -- it is there still
  pub left_there : left_after acct n s ≡ tied_entries s.addr (less_uses acct n s.source) s.bytes
  left_there =
      let m = more in
      let no : (uses_of s.source == n) ≡ false = ne_eqb (uses_of s.source) n (λ z. absurd (omega (arith, m, z))) in
      ap (λ v. if v then blocks_left s.source.row.medium s.source.row.subject s.bytes
      else tied_entries s.addr (less_uses acct n s.source) s.bytes)
      (ap (λ v. is_passing s.source.row.medium s.source.row.flagged && (nat_lt 0 n && v)) no
      ∙ and_false (is_passing s.source.row.medium s.source.row.flagged) (nat_lt 0 n))

  pub still_counted : 1 ≤ count_in acct (less_uses acct n s.source)
  still_counted = let c = less_count acct n s.source in omega (arith, c, enough)

  -- it goes with this extent where it is gone after it
  goes_row : goes_next (less_uses acct n s.source)
      ≡ (is_passing s.source.row.medium s.source.row.flagged && (uses_of (less_uses acct n s.source) == 1))
  goes_row =
      ap (λ (r : SourceRow). is_passing r.medium r.flagged && (uses_of (less_uses acct n s.source) == 1)) (less_row acct n s.source)

  pub goes_now : goes_next (less_uses acct n s.source) ≡ goes_after (n + 1) s
  goes_now =
      let u = used in
      goes_row
      ∙ ap (λ v. is_passing s.source.row.medium s.source.row.flagged && v)
      (same_test (uses_of (less_uses acct n s.source)) 1 (uses_of s.source) (n + 1) (λ z. omega (arith, z, u)) (λ z. omega (arith, z, u))
      ∙ ap (λ v. v && (uses_of s.source == n + 1)) (sym (lt-ltb 0 (n + 1) (omega arith))))

  -- and these were all that name it
  pub goes_last : goes_next (less_uses acct n s.source) ≡ (goes_after (n + 1 + k) s && (k == 0))
  goes_last = goes_row ∙ by (is_passing s.source.row.medium s.source.row.flagged)
    where
      last : (uses_of (less_uses acct n s.source) == 1) ≡ ((uses_of s.source == n + 1 + k) && (k == 0))
      last =
          let u = used in
          let m = more in
          elim (eqb k 0) as (λ v. eqb k 0 ≡ v →
          (uses_of (less_uses acct n s.source) == 1) ≡ ((uses_of s.source == n + 1 + k) && v)) [
            | true ↦ λ e. let z = eqb-true k 0 e in
                same_test (uses_of (less_uses acct n s.source)) 1 (uses_of s.source) (n + 1 + k) (λ y. omega (arith, y, u, z))
                (λ y. omega (arith, y, u, z))
                ∙ and_true (uses_of s.source == n + 1 + k)
            | false ↦ λ e. let nz : k ≢ 0 = λ z. false≢true (sym e ∙ eq-eqb k 0 z) in
                ne_eqb (uses_of (less_uses acct n s.source)) 1 (λ y. absurd (not_one nz (omega (arith, y, u, m))))
                ∙ sym (all_false (uses_of s.source == n + 1 + k))
          ] refl
        where
          and_true : (b : Bool) → b ≡ (b && true)
          and_true true = refl
          and_true false = refl

          all_false : (b : Bool) → (b && false) ≡ false
          all_false true = refl
          all_false false = refl

          not_one : k ≢ 0 → k ≤ 0 → ⊥
          not_one nz le = nz (omega (arith, le))

      by : (p : Bool) → (p && (uses_of (less_uses acct n s.source) == 1))
          ≡ ((p && (nat_lt 0 (n + 1 + k) && uses_of s.source == n + 1 + k)) && (k == 0))
      by true = last ∙ ap (λ v. (v && (uses_of s.source == n + 1 + k)) && (k == 0)) (sym (lt-ltb 0 (n + 1 + k) (omega arith)))
      by false = refl

  -- what is left of it then
  pub left_then : left_next acct s.addr (less_uses acct n s.source) s.bytes ≡ left_after acct (n + 1) s
  left_then =
      ap (λ (r : SourceRow). if goes_next (less_uses acct n s.source) then blocks_left r.medium r.subject s.bytes
      else tied_entries s.addr (detached acct (less_uses acct n s.source)) s.bytes) (less_row acct n s.source)
      ∙ ap (λ t. if goes_next (less_uses acct n s.source) then blocks_left s.source.row.medium s.source.row.subject
      s.bytes
      else tied_entries s.addr t s.bytes) (less_more acct n s.source)
      ∙ ap (λ v. if v then blocks_left s.source.row.medium s.source.row.subject s.bytes
      else tied_entries s.addr (less_uses acct (n + 1) s.source) s.bytes) goes_now

  -- the blocks that go with this extent
  pub gone_then : gone_next s.addr (less_uses acct n s.source)
      ≡ (if goes_after (n + 1 + k) s && (k == 0) then gone_with s.source.row.medium s.source.row.subject s.addr else [])
  gone_then =
      ap (λ (r : SourceRow). if goes_next (less_uses acct n s.source) then gone_with r.medium r.subject s.addr else [])
      (less_row acct n s.source)
      ∙ ap (λ v. if v then gone_with s.source.row.medium s.source.row.subject s.addr else []) goes_last
