-- The source of an extent among others, and what is left of those.
use Rattle.std.proofs.Common.{◌≡◌, ◌≢◌, ◌+◌, ◌*◌, ◌≤◌, ℕ, Bool, List, [], ◌∷◌, ◌++◌, true, false, cond, eqb, Some, refl, sym, ap, ◌∙◌, arith, eq-eqb}
use Rattle.std.proofs.lemmas.Bool.{eqb-true}
use Rattle.sdr_base.specs.Blocks.{Block}
use Rattle.sdr_base.specs.Entries.{Entries, times}
use Rattle.sdr_base.specs.ZcoObjects.{ExtentRow}
use Rattle.sdr_base.specs.declared.account.Acct.{Acct}
use Rattle.sdr_base.specs.declared.account.Acct.TheVariants as accts
use Rattle.sdr_base.specs.declared.account.Amounts.{Amounts}
use Rattle.sdr_base.specs.declared.kind.Space.{Space}
use Rattle.sdr_base.specs.declared.kind.Space.TheVariants as spaces
use Rattle.sdr_base.proofs.StandingLemmas.{times-append}
use Rattle.sdr_model.specs.Amounts.{amount, amounts_by, plus}
use Rattle.zco_obj.specs.Giving.{AreAtMost}
use Rattle.zco_obj.specs.Uses.{IsThere}
use Rattle.zco_obj.specs.Gone.{NamedSource, left_of, less_uses, source_at, sources_entries, sources_left}
use Rattle.zco_obj.proofs.CountLemmas.{left_after, left_none, naming_other}
use Rattle.zco_ref.specs.Kept.{CountedSource, SourceFits, counted_block, tied_entries}

-- the source at an address, and those on either side of it
pub record SpotOf (addr : ℕ) (ss : List NamedSource) : Type 0 where
  pub before : List NamedSource
  pub here : NamedSource
  pub behind : List NamedSource
  pub whole : ss ≡ before ++ (here ∷ behind)
  pub at : here.addr ≡ addr
  pub is_found : source_at addr ss ≡ Some here

pub find_spot : (addr : ℕ) (ss : List NamedSource) → IsThere (source_at addr ss) → SpotOf addr ss
find_spot addr [] t = absurd t
find_spot addr (s ∷ ss) t =
    elim (eqb s.addr addr) as (λ v. eqb s.addr addr ≡ v → IsThere (cond v (Some s) (source_at addr ss)) → SpotOf addr (s ∷ ss)) [
      | true ↦ λ e t. record {
        before = [];
        here = s;
        behind = ss;
        whole = refl;
        at = eqb-true s.addr addr e;
        is_found = ap (λ v. cond v (Some s) (source_at addr ss)) e;
      }
      | false ↦ λ e t. let r = find_spot addr ss t in record {
        before = s ∷ r.before;
        here = r.here;
        behind = r.behind;
        whole = ap (λ (l : List NamedSource). s ∷ l) r.whole;
        at = r.at;
        is_found = ap (λ v. cond v (Some s) (source_at addr ss)) e ∙ r.is_found;
      }
    ] refl t

-- 1 for yes
abbrev bit : Bool → ℕ
bit b = cond b 1 0

-- an entry stands at its address
pub times_head : (p q : ℕ) (x : Block) (es : Entries) → p ≡ q → 1 ≤ times q ((p, x) ∷ es)
unfolding times
times_head p q x es e = let h : bit (eqb p q) ≡ bit true = ap bit (eq-eqb p q e) in omega (arith, h)

-- the others are left as they were, where none is at this address
pub others : (acct : Acct) (addr : ℕ) (passed : List ExtentRow) (e : ExtentRow) → e.source ≡ addr → (ts : List NamedSource) →
    times addr (sources_entries ts) ≡ 0 → sources_left acct (passed ++ (e ∷ [])) ts ≡ sources_left acct passed ts
others acct addr passed e is [] z = refl
others acct addr passed e is (t ∷ ts) z =
    let a = times-append addr (tied_entries t.addr t.source t.bytes) (sources_entries ts) in
    let apart : e.source ≢ t.addr =
    λ y. let h : 1 ≤ times addr (tied_entries t.addr t.source t.bytes) = times_head t.addr addr (counted_block t.source) _ (sym y ∙ is) in absurd (omega (arith, a, z, h)) in
    ap (λ n. left_after acct n t ++ sources_left acct (passed ++ (e ∷ [])) ts) (naming_other t.addr passed e apart)
    ∙ ap (λ (es : Entries). left_of acct passed t ++ es) (others acct addr passed e is ts (omega (arith, a, z)))

-- where no extent is gone all sources are there
pub none_gone : (acct : Acct) (ss : List NamedSource) → sources_left acct [] ss ≡ sources_entries ss
none_gone acct [] = refl
none_gone acct (s ∷ ss) =
    ap (λ (es : Entries). es ++ sources_left acct [] ss) (left_none acct s)
    ∙ ap (λ (es : Entries). tied_entries s.addr s.source s.bytes ++ es) (none_gone acct ss)

-- fewer uses of a source fit
pub less_fits : (acct : Acct) (n : ℕ) (s : CountedSource) → SourceFits s → SourceFits (less_uses acct n s)
less_fits accts.Inbound n s f =
    record { inbound = let i = f.inbound in omega (arith, i); outbound = f.outbound; subject = f.subject; length = f.length }
less_fits accts.Outbound n s f =
    record { inbound = f.inbound; outbound = let o = f.outbound in omega (arith, o); subject = f.subject; length = f.length }

-- amounts that are the same space by space
pub same_amounts : (f g : Space → ℕ) → ((space : Space) → f space ≡ g space) → amounts_by f ≡ amounts_by g
same_amounts f g e = λ i. record { file = e spaces.File i; bulk = e spaces.Bulk i; heap = e spaces.Heap i }

pub amount_by : (f : Space → ℕ) (space : Space) → amount (amounts_by f) space ≡ f space
amount_by f spaces.File = refl
amount_by f spaces.Bulk = refl
amount_by f spaces.Heap = refl

-- two amounts together
pub at_most_both : (i : ℕ) {a b : Amounts} → AreAtMost (1099511627808 * i) a → AreAtMost 1099511627808 b →
    AreAtMost (1099511627808 * (i + 1)) (plus a b)
at_most_both i {a} {b} m n = record {
  file = let x = m.file in let y = n.file in omega (arith, x, y);
  bulk = let x = m.bulk in let y = n.bulk in omega (arith, x, y);
  heap = let x = m.heap in let y = n.heap in omega (arith, x, y);
}
