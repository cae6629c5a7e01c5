-- What sources charge an account moves, where an object of it is another, comes or goes.
use Rattle.std.proofs.Common.{◌≡◌, ℕ, zero, suc, Bool, true, false, ◌+◌, ◌≤◌, ◌==◌, ◌++◌, List, [], ◌∷◌, Option, Some, None, sym, ap, ◌∙◌, arith, if◌then◌else◌, eqb-true}
use Rattle.std.proofs.lemmas.Bool.Decides.{nat_tests}
use Rattle.std.specs.Cmp.{nat_eq_equiv}
use Rattle.std.specs.List.{sum_by}
use Rattle.std.proofs.lemmas.List.Sums.{sum_by-append, sum_by-cons}
use Rattle.sdr_base.specs.declared.account.Acct.{Acct}
use Rattle.sdr_base.specs.declared.kind.Space.{Space}
use Rattle.sdr_base.specs.declared.kind.Space.TheVariants as spaces
use Rattle.law_steps.proofs.DistinctLemmas.{on_test, weight}
use Rattle.law_steps.proofs.SourceCharges.{AreFirst, bytes_in, counts, named_again, named_charge, named_firsts, named_less, named_same}
use Rattle.law_steps.proofs.SourceViews.{of}
use Rattle.law_steps.specs.Charged.{sources_less}
use Rattle.sdr_model.specs.Amounts.{in_space}
use Rattle.sdr_model.specs.Charges.{extent_bytes, use_charge}
use Rattle.sdr_model.specs.ObjectSteps.{with_extent}
use Rattle.sdr_model.specs.Things.{Things}
use Rattle.sdr_model.specs.Zco.{count_of, naming, source_at}
use Rattle.sdr_model.specs.World.{World}
use Rattle.sdr_model.specs.declared.zco.Extent.{Extent}
use Rattle.sdr_model.specs.declared.zco.ZcoObject.{ZcoObject}
use Rattle.sdr_model.specs.declared.zco.ZcoSource.{ZcoSource}

-- what is charged or released of each space where nothing is
abbrev pub nothing : Space → ℕ
nothing space = 0

-- how often the extents of an object name a source, where there is one
abbrev pub naming_in : ℕ → Option ZcoObject → ℕ
naming_in source None = 0
naming_in source (Some z) = naming source z.extents

-- so many extents of an account's objects name each source once an object of it is another, comes or goes
abbrev pub AreCounts : Things → Acct → Option ZcoObject → Option ZcoObject → (ℕ → ℕ) → Type 0
AreCounts m acct old new c = (q : ℕ) → c q + naming_in q old ≡ counts m acct q + naming_in q new

-- The sources charge the account this more then, and this less.
pub record SourcesMove (m : Things) (acct : Acct) (old new : Option ZcoObject) (more less : Space → ℕ) : Type 0 where
  pub moved : (c : ℕ → ℕ) → AreCounts m acct old new c → (space : Space)
      → named_charge c space m + less space ≡ named_charge (counts m acct) space m + more space

-- an extent more of an account's objects charges for itself, and the source's bytes where none of them names it yet
pub use_parts : (w : World) (acct : Acct) (addr : ℕ) (s : ZcoSource) → source_at w addr ≡ Some s → (space : Space)
    → use_charge w acct addr s space
    ≡ in_space spaces.Heap extent_bytes space + (if count_of w addr acct == 0 then bytes_in space (source_at w addr) else 0)
use_parts w acct addr s is space =
    ap (λ o. if count_of w addr acct == 0 then bytes_in space o + in_space spaces.Heap extent_bytes space
    else in_space spaces.Heap extent_bytes space) (sym is)
    ∙ parts (count_of w addr acct == 0) (bytes_in space (source_at w addr)) (in_space spaces.Heap extent_bytes space)
  where
    parts : (b : Bool) (n k : ℕ) → (if b then n + k else k) ≡ k + (if b then n else 0)
    parts true n k = omega arith
    parts false n k = omega arith

module _ (m : Things) (acct : Acct) where
  -- the object names each source as often
  pub sources_stay : (old new : Option ZcoObject) → ((q : ℕ) → naming_in q new ≡ naming_in q old)
      → SourcesMove m acct old new nothing nothing
  sources_stay old new same = record {
    moved = λ c now space.
        omega (
          arith,
          named_same m space (counts m acct) c
              (λ q. let stays : c q ≡ counts m acct q = omega (arith, now q, same q) in ap (λ n. n == 0) stays),
        );
  }

  -- the object names each source as often or more often, and none that no object of the account named
  pub sources_shared : (old new : Option ZcoObject) → ((q : ℕ) → naming_in q old ≤ naming_in q new)
      → ((q : ℕ) → 1 ≤ naming_in q new → 1 ≤ counts m acct q) → SourcesMove m acct old new nothing nothing
  sources_shared old new more shared = record {
    moved = λ c now space.
        omega (
          arith,
          named_same m space (counts m acct) c
              (λ q. tests (c q) (counts m acct q) (naming_in q old) (naming_in q new) (now q) (more q) (shared q)),
        );
  }
    where
      tests : (c k a b : ℕ) → c + a ≡ k + b → a ≤ b → (1 ≤ b → 1 ≤ k) → (c == 0) ≡ (k == 0)
      tests c k a b now more shared =
          on_test (k == 0)
          (λ zero. let none : k ≡ 0 = eqb-true k 0 zero in
          let same : c ≡ k = by b now more shared none in ap (λ n. n == 0) same)
          (λ some. let above : (c == 0) ≡ false = grind (arith, nat_tests) in above ∙ sym some)
        where
          by : (b : ℕ) → c + a ≡ k + b → a ≤ b → (1 ≤ b → 1 ≤ k) → k ≡ 0 → c ≡ k
          by zero now more shared none = omega (arith, now, more, none)
          by (suc b) now more shared none = absurd (omega (arith, shared (omega arith), none))

  -- the object gains an extent: where no extent of the account named its source, the source's bytes are charged
  pub sources_use : (z : ZcoObject) (e : Extent)
      → SourcesMove m acct (Some z) (Some (with_extent z e))
      (λ space. if counts m acct e.source == 0 then bytes_in space (source_at (of m) e.source) else 0) nothing
  sources_use z e = record {
    moved = λ c now space.
        omega (
          arith,
          named_again m space (counts m acct) c e.source
              (omega (arith, now e.source, one e.source, ap weight (nat_eq_equiv.refl e.source)))
              (λ q apart. omega (
                arith,
                now q,
                one q,
                on_test (e.source == q) (λ same. absurd (apart (sym (eqb-true e.source q same)))) (λ other. ap weight other),
              )),
        );
  }
    where
      one : (q : ℕ) → naming q (z.extents ++ e ∷ []) ≡ naming q z.extents + weight (e.source == q)
      one q =
          omega (
            arith,
            sum_by-append (λ (e : Extent). weight (e.source == q)) z.extents (e ∷ []),
            sum_by-cons (λ (e : Extent). weight (e.source == q)) e [],
          )

  -- the object gains extents, each the first that names its source
  pub sources_firsts : (old new : Option ZcoObject) (es : List Extent)
      → ((q : ℕ) → naming_in q new ≡ naming_in q old + naming q es) → AreFirst m (counts m acct) es
      → SourcesMove m acct old new (λ space. sum_by (λ e. in_space spaces.Heap e.length space) es) nothing
  sources_firsts old new es parts firsts = record {
    moved = λ c now space.
        omega (arith, named_firsts m space (counts m acct) c es (λ q. omega (arith, now q, parts q)) firsts);
  }

  -- extents go from the object: the bytes of each source that no other extent of the account names are charged no more
  pub sources_gone : (old new : Option ZcoObject) (out : List Extent)
      → ((q : ℕ) → naming_in q old ≡ naming_in q new + naming q out)
      → SourcesMove m acct old new nothing (sources_less (of m) acct out)
  sources_gone old new out parts = record {
    moved = λ c now space.
        omega (arith, named_less m space acct c out (λ q. omega (arith, now q, parts q)));
  }
