-- Chains that are walked.
use Rattle.std.proofs.Common.{◌≡◌, ◌≢◌, ◌+◌, ◌-◌, ◌≤◌, ◌<◌, ◌^◌, ℕ, List, [], ◌∷◌, ◌++◌, length, Option, Some, None, refl, sym, ap, ◌∙◌, arith, subst, append_assoc, append-nil, length-append}
use Rattle.std.specs.Prelude.{All, sum_by}
use Rattle.std.proofs.lemmas.List.Elements.{All-head, All-tail}
use Rattle.std.proofs.lemmas.List.Sums.{sum_by_push}
use Rattle.sdr_base.specs.Blocks.{Block, Blocks, Reaches, kind_length}
use Rattle.sdr_base.specs.Entries.{Entries, BlocksAre}
use Rattle.sdr_base.specs.Linked.{first_of, last_of, linked}
use Rattle.sdr_base.specs.Words.{HasWord}
use Rattle.sdr_base.specs.ZcoObjects.{CapsuleRow, ExtentRow, capsule_addr, capsule_block, extent_addr, extent_block}
use Rattle.sdr_base.specs.declared.kind.Kind.{Kind}
use Rattle.sdr_base.specs.declared.kind.Kind.TheVariants as kinds
use Rattle.sdr_base.proofs.ChainLemmas.{linked_found}
use Rattle.sdr_base.proofs.LayoutLemmas.{length-layout}
use Rattle.sdr_base.proofs.LinkedLemmas.{last-append}
use Rattle.sdr_base.proofs.StandingLemmas.{at-nowhere}
use Rattle.sdr_base.proofs.WritingLemmas.{reaches, word_is}
use Rattle.zco_obj.specs.Kept.{CapsuleFits, ExtentFits}
use Rattle.zco_obj.specs.Walks.{CapsulesAt, ChainAt, FindsLast, KeepsCapsule, KeepsExtent, SeesCapsule, SeesExtent, SomeCapsule, SomeExtent, Sums, TellsSum, WalksOne}
use Rattle.zco_obj.proofs.KeptLemmas.{first_capsule, first_extent}

-- what the blocks of a header or trailer and of an extent say
module _ {found : Option Block} {next : ℕ} {c : CapsuleRow} (k : KeepsCapsule found next c) where
  pub capsule_reaches : Reaches found 8
  capsule_reaches = reaches found kinds.Capsule (next ∷ []) c.text 8 k.block (omega arith)

  pub next_capsule_is : {value : ℕ} → HasWord found 0 value → value ≡ next
  next_capsule_is {value} h = word_is found kinds.Capsule (next ∷ []) c.text 0 value k.block (omega arith) k.small h

-- its bytes and its kind
abbrev bytes_of : Option (Kind × ℕ) → ℕ
bytes_of None = 0
bytes_of (Some one) = one.1

pub capsule_length : {found : Option Block} {next : ℕ} {c : CapsuleRow} (kind : Kind) (all : ℕ) → KeepsCapsule found next c →
    Some (kind, all) ≡ kind_length found → all ≡ 8 + length c.text
capsule_length {found} {next} {c} kind all k e =
    ap bytes_of e ∙ ap (λ (o : Option Block). bytes_of (kind_length o)) k.block ∙ length-layout (next ∷ []) c.text

module _ {found : Option Block} {next : ℕ} {e : ExtentRow} (k : KeepsExtent found next e) where
  pub extent_reaches : (end : ℕ) → end ≤ 32 → Reaches found end
  extent_reaches end le = reaches found kinds.Extent (e.source ∷ e.offset ∷ e.length ∷ next ∷ []) [] end k.block le

  pub source_is : {value : ℕ} → HasWord found 0 value → value ≡ e.source
  source_is {value} h =
      word_is found kinds.Extent (e.source ∷ e.offset ∷ e.length ∷ next ∷ []) [] 0 value k.block (omega arith) k.fits.source h

  pub length_is : {value : ℕ} → HasWord found 2 value → value ≡ e.length
  length_is {value} h =
      word_is found kinds.Extent (e.source ∷ e.offset ∷ e.length ∷ next ∷ []) [] 2 value k.block (omega arith)
      (let i = k.fits.inside in omega (arith, i)) h

  pub next_extent_is : {value : ℕ} → HasWord found 3 value → value ≡ next
  next_extent_is {value} h =
      word_is found kinds.Extent (e.source ∷ e.offset ∷ e.length ∷ next ∷ []) [] 3 value k.block (omega arith) k.small h

pub sees_capsule : {found : Option Block} (kind : Kind) (all next : ℕ) → Some (kind, all) ≡ kind_length found → HasWord found 0 next →
    SeesCapsule found (record { bytes = all - 8; next = next })
sees_capsule {found} kind all next e h = record {
  bytes = λ n c k. let l = capsule_length kind all k e in omega (arith, l);
  next = λ n c k. next_capsule_is k h;
}

pub capsule_short : {found : Option Block} (kind : Kind) (all : ℕ) → SomeCapsule found → Some (kind, all) ≡ kind_length found →
    all - 8 ≤ 1024
capsule_short kind all s e = let l = capsule_length kind all s.keeps e in let f = s.keeps.fits.short in omega (arith, l, f)

pub capsule_long : {found : Option Block} (kind : Kind) (all : ℕ) → SomeCapsule found → Some (kind, all) ≡ kind_length found → 8 ≤ all
capsule_long kind all s e = let l = capsule_length kind all s.keeps e in omega (arith, l)

pub sees_extent : {found : Option Block} (source length next : ℕ) → HasWord found 0 source → HasWord found 2 length →
    HasWord found 3 next → SeesExtent found (record { source = source; length = length; next = next })
sees_extent source length next s l n = record {
  source = λ m e k. source_is k s;
  length = λ m e k. length_is k l;
  next = λ m e k. next_extent_is k n;
}

pub extent_short : {found : Option Block} {length : ℕ} → SomeExtent found → HasWord found 2 length → length ≤ 2 ^ 40
extent_short {found} {length} s h = let e = length_is s.keeps h in let i = s.keeps.fits.inside in omega (arith, e, i)

-- one is there
pub record HasFirst {X : Type 0} (left : List X) : Type 0 where
  pub one : X
  pub behind : List X
  pub is : left ≡ one ∷ behind

-- one is at the cursor, and these follow
pub record AtCursor {X : Type 0} (P : X → Type 0) (addr : X → ℕ) (block : ℕ → ℕ → X → Block) (here : Option Block) : Type 0 where
  pub one : X
  pub behind : List X
  pub found : here ≡ Some (block 0 (first_of addr 0 behind) one)
  pub fits : All P (one ∷ behind)

pub has_first : {X : Type 0} (addr : X → ℕ) (left : List X) → first_of addr 0 left ≢ 0 → HasFirst left
has_first addr [] n = absurd (n refl)
has_first addr (x ∷ xs) n = record { one = x; behind = xs; is = refl }

pub fits_from : {X : Type 0} (P : X → Type 0) (xs ys : List X) → All P (xs ++ ys) → All P ys
fits_from P [] ys a = a
fits_from P (x ∷ xs) ys a = fits_from P xs ys (All-tail P x (xs ++ ys) a)

module _ {X : Type 0} (P : X → Type 0) (addr : X → ℕ) (block : ℕ → ℕ → X → Block) where
  -- where none is left the cursor is 0, and else it isn't
  pub none_at_zero : {blocks : Blocks} {first cursor : ℕ} {xs : List X} → ChainAt P addr block blocks first xs →
      (passed left : List X) → xs ≡ passed ++ left → cursor ≡ first_of addr 0 left → cursor ≡ 0 → left ≡ []
  none_at_zero c passed [] w a z = refl
  none_at_zero {blocks} {first} {cursor} {xs} c passed (y ∷ ys) w a z =
      let found =
      linked_found addr block blocks [] c.rest 0 0 passed y ys
      (subst (λ (l : List X). BlocksAre blocks (linked addr block 0 0 l ++ c.rest)) w c.stands) in
      absurd (null_free c.stands found (sym a ∙ z))
    where
      null_free : {es : Entries} {p : ℕ} {o : Block} → BlocksAre blocks es → blocks p ≡ Some o → p ≢ 0
      null_free {es} {p} {o} s f e =
          let n : blocks 0 ≡ None = s.same 0 ∙ at-nowhere 0 es s.null in
          let k : None ≡ Some o = sym n ∙ ap blocks (sym e) ∙ f in cc

  -- what is left, and its first one
  module _ {blocks : Blocks} {first : ℕ} {xs : List X} (c : ChainAt P addr block blocks first xs) where
    pub one_found : (passed : List X) (x : X) (behind : List X) → xs ≡ passed ++ (x ∷ behind) →
        blocks (addr x) ≡ Some (block (last_of addr 0 passed) (first_of addr 0 behind) x)
    one_found passed x behind w =
        linked_found addr block blocks [] c.rest 0 0 passed x behind
        (subst (λ (l : List X). BlocksAre blocks (linked addr block 0 0 l ++ c.rest)) w c.stands)

    pub fits_left : (passed left : List X) → xs ≡ passed ++ left → All P left
    fits_left passed left w = fits_from P passed left (subst (All P) w c.fits)

  pub sums_start : {blocks : Blocks} {first : ℕ} (f : X → ℕ) → Sums P addr block f blocks first first 0 0
  sums_start f = record {
    sums = λ xs c. record {
      walk = record { passed = []; left = xs; whole = refl; counted = refl; at_cursor = c.at_first };
      sum = refl;
    };
  }

  -- one more is summed
  pub sums_on : {blocks : Blocks} {first cursor i total value next : ℕ} (f : X → ℕ) → Sums P addr block f blocks first cursor i total →
      cursor ≢ 0 →
      ((x : X) (n : ℕ) → blocks cursor ≡ Some (block 0 n x) → P x → n < 2 ^ 64 → value ≡ f x) →
      ((x : X) (n : ℕ) → blocks cursor ≡ Some (block 0 n x) → P x → n < 2 ^ 64 → next ≡ n) →
      ((p n : ℕ) (x : X) → block p n x ≡ block 0 n x) →
      ((l : List X) → All P l → first_of addr 0 l < 2 ^ 64) →
      Sums P addr block f blocks first next (i + 1) (total + value)
  sums_on {blocks} {first} {cursor} {i} {total} {value} {next} f s nz told_value told_next any small = record {
    sums = λ xs c.
        let w = (s.sums xs c).walk in
        let h = has_first addr w.left (λ z. nz (w.at_cursor ∙ z)) in
        let whole : xs ≡ w.passed ++ (h.one ∷ h.behind) = w.whole ∙ ap (λ (l : List X). w.passed ++ l) h.is in
        let here : cursor ≡ addr h.one = w.at_cursor ∙ ap (first_of addr 0) h.is in
        let fits = fits_left c w.passed (h.one ∷ h.behind) whole in
        let n = first_of addr 0 h.behind in
        let found : blocks cursor ≡ Some (block 0 n h.one) =
        ap blocks here ∙ one_found c w.passed h.one h.behind whole ∙ ap (λ b. Some b) (any (last_of addr 0 w.passed) n h.one) in
        let one = All-head P h.one h.behind fits in
        let lt = small h.behind (All-tail P h.one h.behind fits) in
        let v = told_value h.one n found one lt in
        record {
          walk = record {
            passed = w.passed ++ (h.one ∷ []);
            left = h.behind;
            whole = whole ∙ sym (append_assoc w.passed (h.one ∷ []) h.behind);
            counted = let l = length-append w.passed (h.one ∷ []) in let k = w.counted in omega (arith, l, k);
            at_cursor = told_next h.one n found one lt;
          };
          sum =
              let p = sum_by_push f w.passed h.one in let t = (s.sums xs c).sum in omega (arith, p, t, v);
        };
  }

  -- all are summed
  pub sums_all : {blocks : Blocks} {first cursor i total : ℕ} (f : X → ℕ) → Sums P addr block f blocks first cursor i total → cursor ≡ 0 →
      TellsSum P addr block f blocks first total
  sums_all f s z = record {
    tells = λ xs c.
        let w = (s.sums xs c).walk in
        let none = none_at_zero c w.passed w.left w.whole w.at_cursor z in
        (s.sums xs c).sum
        ∙ ap (sum_by f) (sym (w.whole ∙ ap (λ (l : List X). w.passed ++ l) none ∙ append-nil w.passed));
  }

  -- no more are there
  pub sums_most : {blocks : Blocks} {first cursor i total : ℕ} (f : X → ℕ) → Sums P addr block f blocks first cursor i total →
      i ≡ 4194304 → TellsSum P addr block f blocks first total
  sums_most f s all = record {
    tells = λ xs c.
        let w = (s.sums xs c).walk in
        let l = length-append w.passed w.left in let e = ap (length {A = X}) w.whole in let k = w.counted in let few = c.few in
        absurd (omega (arith, l, e, k, few, all));
  }

  -- the cursor is at one that is there
  pub at_one : {blocks : Blocks} {first cursor i total : ℕ} (f : X → ℕ) {xs : List X} → ChainAt P addr block blocks first xs →
      Sums P addr block f blocks first cursor i total → cursor ≢ 0 → ((p n : ℕ) (x : X) → block p n x ≡ block 0 n x) →
      AtCursor P addr block (blocks cursor)
  at_one {blocks} {cursor = cursor} f {xs} c s nz any =
      let w = (s.sums xs c).walk in
      let h = has_first addr w.left (λ z. nz (w.at_cursor ∙ z)) in
      let whole : xs ≡ w.passed ++ (h.one ∷ h.behind) = w.whole ∙ ap (λ (l : List X). w.passed ++ l) h.is in
      let here : cursor ≡ addr h.one = w.at_cursor ∙ ap (first_of addr 0) h.is in
      let n = first_of addr 0 h.behind in
      record {
        one = h.one;
        behind = h.behind;
        found = ap blocks here ∙ one_found c w.passed h.one h.behind whole ∙ ap (λ b. Some b) (any (last_of addr 0 w.passed) n h.one);
        fits = fits_left c w.passed (h.one ∷ h.behind) whole;
      }

-- a header or trailer, or an extent, is there
pub capsule_at : {found : Option Block} → AtCursor CapsuleFits capsule_addr capsule_block found → SomeCapsule found
capsule_at a = record {
  next = first_of capsule_addr 0 a.behind;
  capsule = a.one;
  keeps = record {
    block = a.found;
    fits = All-head CapsuleFits a.one a.behind a.fits;
    small = first_capsule a.behind (All-tail CapsuleFits a.one a.behind a.fits);
  };
}

pub extent_at : {found : Option Block} → AtCursor ExtentFits extent_addr extent_block found → SomeExtent found
extent_at a = record {
  next = first_of extent_addr 0 a.behind;
  extent = a.one;
  keeps = record {
    block = a.found;
    fits = All-head ExtentFits a.one a.behind a.fits;
    small = first_extent a.behind (All-tail ExtentFits a.one a.behind a.fits);
  };
}

-- one in a chain is there
pub capsule_spot : {blocks : Blocks} {first : ℕ} {rows : List CapsuleRow} → CapsulesAt blocks first rows →
    (before : List CapsuleRow) (c : CapsuleRow) (behind : List CapsuleRow) → rows ≡ before ++ (c ∷ behind) →
    KeepsCapsule (blocks c.addr) (first_of capsule_addr 0 behind) c
capsule_spot a before c behind w =
    let fits = fits_left CapsuleFits capsule_addr capsule_block a before (c ∷ behind) w in
    record {
      block = one_found CapsuleFits capsule_addr capsule_block a before c behind w;
      fits = All-head CapsuleFits c behind fits;
      small = first_capsule behind (All-tail CapsuleFits c behind fits);
    }

-- the chain is walked from its first one
pub one_starts : {blocks : Blocks} {first : ℕ} → first ≢ 0 → WalksOne blocks first 0 first 0
one_starts nz = record {
  walks = λ rows c.
      let h = has_first capsule_addr rows (λ z. nz (c.at_first ∙ z)) in
      record {
        passed = [];
        capsule = h.one;
        behind = h.behind;
        whole = h.is;
        counted = refl;
        at_previous = refl;
        at_cursor = c.at_first ∙ ap (first_of capsule_addr 0) h.is;
      };
}

module _ {blocks : Blocks} {first previous cursor i : ℕ} (w : WalksOne blocks first previous cursor i) where
  pub one_keeps : {rows : List CapsuleRow} (c : CapsulesAt blocks first rows) →
      KeepsCapsule (blocks cursor) (first_of capsule_addr 0 (w.walks rows c).behind) (w.walks rows c).capsule
  one_keeps {rows} c =
      let a = w.walks rows c in
      let fits = fits_left CapsuleFits capsule_addr capsule_block c a.passed (a.capsule ∷ a.behind) a.whole in
      record {
        block = ap blocks a.at_cursor ∙ one_found CapsuleFits capsule_addr capsule_block c a.passed a.capsule a.behind a.whole;
        fits = All-head CapsuleFits a.capsule a.behind fits;
        small = first_capsule a.behind (All-tail CapsuleFits a.capsule a.behind fits);
      }

  pub one_on : {next : ℕ} → next ≢ 0 → HasWord (blocks cursor) 0 next → WalksOne blocks first cursor next (i + 1)
  one_on {next} nz h = record {
    walks = λ rows c.
        let a = w.walks rows c in
        let e : next ≡ first_of capsule_addr 0 a.behind = next_capsule_is (one_keeps c) h in
        let f = has_first capsule_addr a.behind (λ z. nz (e ∙ z)) in
        record {
          passed = a.passed ++ (a.capsule ∷ []);
          capsule = f.one;
          behind = f.behind;
          whole = a.whole ∙ ap (λ (l : List CapsuleRow). a.passed ++ (a.capsule ∷ l)) f.is
              ∙ sym (append_assoc a.passed (a.capsule ∷ []) (f.one ∷ f.behind));
          counted = let l = length-append a.passed (a.capsule ∷ []) in let k = a.counted in omega (arith, l, k);
          at_previous = a.at_cursor ∙ sym (last-append capsule_addr capsule_block 0 a.passed (a.capsule ∷ []));
          at_cursor = e ∙ ap (first_of capsule_addr 0) f.is;
        };
  }

  pub one_last : {next : ℕ} → HasWord (blocks cursor) 0 next → next ≡ 0 →
      FindsLast blocks first (record { previous = previous; addr = cursor })
  one_last {next} h z = record {
    finds = λ rows c.
        let a = w.walks rows c in
        let e : next ≡ first_of capsule_addr 0 a.behind = next_capsule_is (one_keeps c) h in
        let none = none_at_zero CapsuleFits capsule_addr capsule_block c (a.passed ++ (a.capsule ∷ [])) a.behind
        (a.whole ∙ sym (append_assoc a.passed (a.capsule ∷ []) a.behind)) e z in
        record {
          before = a.passed;
          capsule = a.capsule;
          whole = a.whole ∙ ap (λ (l : List CapsuleRow). a.passed ++ (a.capsule ∷ l)) none;
          at_previous = a.at_previous;
          at_addr = a.at_cursor;
        };
  }

  pub one_most : i ≡ 4194304 → FindsLast blocks first (record { previous = previous; addr = cursor })
  one_most all = record {
    finds = λ rows c.
        let a = w.walks rows c in
        let l = length-append a.passed (a.capsule ∷ a.behind) in
        let e = ap (length {A = CapsuleRow}) a.whole in let k = a.counted in let few = c.few in
        absurd (omega (arith, l, e, k, few, all));
  }
