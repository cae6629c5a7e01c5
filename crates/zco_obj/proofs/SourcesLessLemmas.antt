-- What extents of an account charge no more, one by one: the last one that names a source gives its bytes back.
use Rattle.std.proofs.Common.{◌≡◌, ◌≢◌, ◌+◌, ◌*◌, ◌≤◌, ℕ, Bool, List, [], ◌∷◌, ◌++◌, length, true, false, refl, sym, ap, ◌∙◌, arith, length-append}
use Rattle.std.specs.Prelude.{◌==◌, ◌&&◌, nat_lt, sum_by, if◌then◌else◌}
use Rattle.std.proofs.lemmas.Bool.{lt-ltb, ne_eqb}
use Rattle.std.proofs.lemmas.List.Sums.{sum_by-append, sum_by-cons}
use Rattle.sdr_base.specs.Entries.{times}
use Rattle.sdr_base.specs.Sources.{SourceRow}
use Rattle.sdr_base.specs.ZcoObjects.{ExtentRow}
use Rattle.sdr_base.specs.declared.account.Acct.{Acct}
use Rattle.sdr_base.specs.declared.kind.Space.{Space}
use Rattle.sdr_base.specs.declared.kind.Space.TheVariants as spaces
use Rattle.sdr_base.proofs.StandingLemmas.{times-append}
use Rattle.sdr_model.specs.Amounts.{amount, amounts_by, in_space, plus}
use Rattle.sdr_model.specs.Charges.{bytes_charge}
use Rattle.zco_obj.specs.Amounts.{extent_amounts, heap_amounts, last_amounts, medium_space, naming_amounts, source_space}
use Rattle.zco_obj.specs.Gone.{NamedSource, extents_amounts, less_uses, naming, source_less, sources_entries}
use Rattle.zco_obj.proofs.CountLemmas.{less_count, less_row, naming_one, naming_other, same_test}
use Rattle.zco_obj.proofs.SpotLemmas.{SpotOf, amount_by, same_amounts, times_head}
use Rattle.zco_ref.specs.Kept.{count_in, counted_block, tied_entries}

-- what a source charges no more, by how many of the account's extents that name it are gone
abbrev pub less_after : Acct → ℕ → Space → NamedSource → ℕ
less_after acct n space s =
    if nat_lt 0 n && count_in acct s.source == n then in_space (source_space s.source) s.source.row.length space else 0

-- where no extent is gone nothing is charged less
sources_none : (acct : Acct) (space : Space) (ss : List NamedSource) → sum_by (source_less acct [] space) ss ≡ 0
sources_none acct space [] = refl
sources_none acct space (s ∷ ss) =
    let c = sum_by-cons (source_less acct [] space) s ss in let ih = sources_none acct space ss in omega (arith, c, ih)

pub extents_none : (acct : Acct) (ss : List NamedSource) → extents_amounts acct ss [] ≡ amounts_by (λ space. 0)
extents_none acct ss =
    same_amounts (λ space. in_space spaces.Heap 0 space + sum_by (source_less acct [] space) ss) (λ space. 0)
    (λ space. let z = sources_none acct space ss in let h = nothing space in omega (arith, z, h))
  where
    nothing : (space : Space) → in_space spaces.Heap 0 space ≡ 0
    nothing spaces.File = refl
    nothing spaces.Bulk = refl
    nothing spaces.Heap = refl

-- an extent names a source, `n` before it did, and the source counts more than those
module _ (acct : Acct) (s : NamedSource) (n : ℕ) (enough : n + 1 ≤ count_in acct s.source) (space : Space) where
  -- the source charges what it did before
  pub less_before : less_after acct n space s ≡ 0
  less_before =
      let no : (count_in acct s.source == n) ≡ false = ne_eqb (count_in acct s.source) n (λ z. absurd (omega (arith, enough, z))) in
      ap (λ v. if nat_lt 0 n && v then in_space (source_space s.source) s.source.row.length space else 0) no ∙ none (nat_lt 0 n)
    where
      none : (b : Bool) → (if b && false then in_space (source_space s.source) s.source.row.length space else 0) ≡ 0
      none true = refl
      none false = refl

  -- with it goes what the source charges no more, beside the extent itself
  pub less_then : amount (last_amounts acct (less_uses acct n s.source)) space
      ≡ less_after acct (n + 1) space s + in_space spaces.Heap 32 space
  less_then =
      let now = less_uses acct n s.source in
      let c = less_count acct n s.source in
      let last : (count_in acct now == 1) ≡ (nat_lt 0 (n + 1) && count_in acct s.source == n + 1) =
      same_test (count_in acct now) 1 (count_in acct s.source) (n + 1) (λ z. omega (arith, z, c, enough)) (λ z. omega (arith, z, c))
      ∙ ap (λ v. v && (count_in acct s.source == n + 1)) (sym (lt-ltb 0 (n + 1) (omega arith))) in
      ap (λ (r : SourceRow). amount (if count_in acct now == 1 then extent_amounts (medium_space r.medium) r.length else heap_amounts 32) space)
      (less_row acct n s.source)
      ∙ ap (λ v. amount (naming_amounts v s.source) space) last
      ∙ both (nat_lt 0 (n + 1) && count_in acct s.source == n + 1)
    where
      both : (b : Bool) → amount (naming_amounts b s.source) space
          ≡ (if b then in_space (source_space s.source) s.source.row.length space else 0) + in_space spaces.Heap 32 space
      both true = amount_by (bytes_charge (source_space s.source) s.source.row.length) space
      both false = let a = amount_by (in_space spaces.Heap 32) space in omega (arith, a)

-- the other sources charge what they did, where none is at this address
others_less : (acct : Acct) (addr : ℕ) (space : Space) (passed : List ExtentRow) (e : ExtentRow) → e.source ≡ addr →
    (ts : List NamedSource) → times addr (sources_entries ts) ≡ 0 →
    sum_by (source_less acct (passed ++ (e ∷ [])) space) ts ≡ sum_by (source_less acct passed space) ts
others_less acct addr space passed e is [] z = refl
others_less acct addr space passed e is (t ∷ ts) z =
    let a = times-append addr (tied_entries t.addr t.source t.bytes) (sources_entries ts) in
    let apart : e.source ≢ t.addr =
    λ y. let h : 1 ≤ times addr (tied_entries t.addr t.source t.bytes) = times_head t.addr addr (counted_block t.source) _ (sym y ∙ is) in absurd (omega (arith, a, z, h)) in
    let ih = others_less acct addr space passed e is ts (omega (arith, a, z)) in
    let one : source_less acct (passed ++ (e ∷ [])) space t ≡ source_less acct passed space t =
    ap (λ n. less_after acct n space t) (naming_other t.addr passed e apart) in
    let now = sum_by-cons (source_less acct (passed ++ (e ∷ [])) space) t ts in
    let was = sum_by-cons (source_less acct passed space) t ts in omega (arith, ih, one, now, was)

-- each extent charges its own block
blocks_charge : (n : ℕ) (space : Space) → in_space spaces.Heap (32 * (n + 1)) space
    ≡ in_space spaces.Heap (32 * n) space + in_space spaces.Heap 32 space
blocks_charge n spaces.File = refl
blocks_charge n spaces.Bulk = refl
blocks_charge n spaces.Heap = omega arith

-- one extent more is gone, which names the source at a spot
pub extents_push : (acct : Acct) (ss : List NamedSource) (passed : List ExtentRow) (e : ExtentRow) (spot : SpotOf e.source ss) →
    times e.source (sources_entries spot.before) ≡ 0 → times e.source (sources_entries spot.behind) ≡ 0 →
    naming spot.here.addr passed + 1 ≤ count_in acct spot.here.source →
    extents_amounts acct ss (passed ++ (e ∷ []))
    ≡ plus (extents_amounts acct ss passed) (last_amounts acct (less_uses acct (naming spot.here.addr passed) spot.here.source))
extents_push acct ss passed e spot before behind enough =
    let n = naming spot.here.addr passed in
    let gone = less_uses acct n spot.here.source in
    same_amounts
    (λ space. in_space spaces.Heap (32 * length (passed ++ (e ∷ []))) space + sum_by (source_less acct (passed ++ (e ∷ [])) space) ss)
    (λ space. amount (extents_amounts acct ss passed) space + amount (last_amounts acct gone) space) (λ space.
    let was = amount_by (λ z. in_space spaces.Heap (32 * length passed) z + sum_by (source_less acct passed z) ss) space in
    let one = less_then acct spot.here n enough space in
    let none = less_before acct spot.here n enough space in
    let here : source_less acct (passed ++ (e ∷ [])) space spot.here ≡ less_after acct (n + 1) space spot.here =
    ap (λ m. less_after acct m space spot.here) (naming_one spot.here.addr passed e (sym spot.at)) in
    let at_before = others_less acct e.source space passed e refl spot.before before in
    let at_behind = others_less acct e.source space passed e refl spot.behind behind in
    let sum_now = split (source_less acct (passed ++ (e ∷ [])) space) in
    let sum_was = split (source_less acct passed space) in
    let many : in_space spaces.Heap (32 * length (passed ++ (e ∷ []))) space
    ≡ in_space spaces.Heap (32 * length passed) space + in_space spaces.Heap 32 space =
    ap (λ m. in_space spaces.Heap (32 * m) space) (length-append passed (e ∷ [])) ∙ blocks_charge (length passed) space in
    omega (arith, was, one, none, here, at_before, at_behind, sum_now, sum_was, many))
  where
    split : (f : NamedSource → ℕ) → sum_by f ss ≡ sum_by f spot.before + (f spot.here + sum_by f spot.behind)
    split f =
        ap (sum_by f) spot.whole ∙ sum_by-append f spot.before (spot.here ∷ spot.behind)
        ∙ ap (λ m. sum_by f spot.before + m) (sum_by-cons f spot.here spot.behind)
