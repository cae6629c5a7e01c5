-- A chain is given back, one after another, each with what goes with it.
use Rattle.std.proofs.Common.{◌≡◌, ◌≢◌, ◌+◌, ◌<◌, ◌≤◌, ℕ, List, [], ◌∷◌, ◌++◌, length, Some, refl, sym, ap, ◌∙◌, arith, subst, append_assoc, append-nil, length-append}
use Rattle.std.specs.Prelude.{All}
use Rattle.std.proofs.lemmas.List.Elements.{All-tail}
use Rattle.sdr_base.specs.Blocks.{Block, Blocks}
use Rattle.sdr_base.specs.Entries.{Entries, BlocksAre}
use Rattle.sdr_base.specs.Linked.{first_of, linked}
use Rattle.sdr_base.specs.Making.{GaveSome, Made, gave}
use Rattle.sdr_base.specs.Objects.{Heap}
use Rattle.sdr_base.proofs.GaveLemmas.{gave_spare, more_gave, none_made, some_then}
use Rattle.sdr_base.proofs.StandingLemmas.{found, moved, nonzero, rotated}
use Rattle.zco_obj.proofs.WalkLemmas.{HasFirst, has_first}

-- a chain whose members go: where each stands, and its block between two others; the blocks beside the chain once some first
-- ones are gone; the addresses of the blocks that go with some last ones; and what is told of some first ones
pub record Leaving (X T : Type 0) : Type 0 where
  pub addr : X → ℕ
  pub block : ℕ → ℕ → X → Block
  pub beside : List X → Entries
  pub blocks : List X → List ℕ
  pub told : List X → T

-- so many first ones are gone, and the cursor is at the first of those that are left
pub record PartLeft {X T : Type 0} (P : X → Type 0) (w : Leaving X T) (old now : Heap) (xs : List X) (rest : Entries) (cursor i : ℕ)
    (value : T) : Type 0 where
  pub passed : List X
  pub left : List X
  pub prev : ℕ
  pub given : List ℕ
  pub whole : xs ≡ passed ++ left
  pub counted : length passed ≡ i
  pub at_cursor : cursor ≡ first_of w.addr 0 left
  pub fits : All P left
  pub all_given : w.blocks xs ≡ given ++ w.blocks left
  pub stands : BlocksAre now.blocks (linked w.addr w.block prev 0 left ++ (w.beside passed ++ rest))
  pub made : Made (gave given) old now
  pub is : value ≡ w.told passed

-- the first one of a chain is in use
first_nonzero : {X : Type 0} (addr : X → ℕ) (block : ℕ → ℕ → X → Block) (b : Blocks) (prev : ℕ) (y : X) (ys : List X) (rest : Entries) →
    BlocksAre b (linked addr block prev 0 (y ∷ ys) ++ rest) → addr y ≢ 0
unfolding linked
first_nonzero addr block b prev y ys rest s = nonzero b (addr y) (block prev (first_of addr 0 ys) y) [] _ s

module _ {X T : Type 0} (P : X → Type 0) (w : Leaving X T) where
  pub part_begun : (old : Heap) (xs : List X) (rest : Entries) (first : ℕ) (value : T) → value ≡ w.told [] →
      BlocksAre old.blocks (linked w.addr w.block 0 0 xs ++ (w.beside [] ++ rest)) → first ≡ first_of w.addr 0 xs → All P xs →
      PartLeft P w old old xs rest first 0 value
  part_begun old xs rest first value e s f a = record {
    passed = [];
    left = xs;
    prev = 0;
    given = [];
    whole = refl;
    counted = refl;
    at_cursor = f;
    fits = a;
    all_given = refl;
    stands = s;
    made = none_made old;
    is = e;
  }

  module _ {old now : Heap} {xs : List X} {rest : Entries} {cursor i : ℕ} {value : T} (p : PartLeft P w old now xs rest cursor i value) where
    -- where the cursor isn't 0 one is left
    pub part_first : cursor ≢ 0 → HasFirst p.left
    part_first nz = has_first w.addr p.left (λ z. nz (p.at_cursor ∙ z))

    module _ (h : HasFirst p.left) where
      pub part_at : cursor ≡ w.addr h.one
      part_at = p.at_cursor ∙ ap (first_of w.addr 0) h.is

      pub part_stands : BlocksAre now.blocks
          ((w.addr h.one, w.block p.prev (first_of w.addr 0 h.behind) h.one)
          ∷ (linked w.addr w.block (w.addr h.one) 0 h.behind ++ (w.beside p.passed ++ rest)))
      unfolding linked
      part_stands = subst (λ (l : List X). BlocksAre now.blocks (linked w.addr w.block p.prev 0 l ++ (w.beside p.passed ++ rest))) h.is p.stands

      -- its block
      pub part_found : now.blocks cursor ≡ Some (w.block p.prev (first_of w.addr 0 h.behind) h.one)
      part_found = ap now.blocks part_at ∙ found now.blocks (w.addr h.one) _ [] _ part_stands

      pub part_fits : All P (h.one ∷ h.behind)
      part_fits = subst (All P) h.is p.fits

      -- it goes
      pub part_on : {new : Heap} (next : ℕ) (addrs : List ℕ) (told : T) → next ≡ first_of w.addr 0 h.behind →
          w.blocks (h.one ∷ h.behind) ≡ addrs ++ w.blocks h.behind →
          ((r : Entries) → BlocksAre now.blocks
          ((w.addr h.one, w.block p.prev (first_of w.addr 0 h.behind) h.one) ∷ (w.beside p.passed ++ r)) →
          BlocksAre new.blocks (w.beside (p.passed ++ (h.one ∷ [])) ++ r)) →
          Made (gave addrs) now new → told ≡ w.told (p.passed ++ (h.one ∷ [])) →
          PartLeft P w old new xs rest next (i + 1) told
      part_on {new} next addrs told at_next goes change made is =
          let one : ℕ × Block = (w.addr h.one, w.block p.prev (first_of w.addr 0 h.behind) h.one) in
          let C = linked w.addr w.block (w.addr h.one) 0 h.behind in
          let B = w.beside p.passed in
          let B' = w.beside (p.passed ++ (h.one ∷ [])) in
          record {
            passed = p.passed ++ (h.one ∷ []);
            left = h.behind;
            prev = w.addr h.one;
            given = p.given ++ addrs;
            whole = p.whole ∙ ap (λ (l : List X). p.passed ++ l) h.is ∙ sym (append_assoc p.passed (h.one ∷ []) h.behind);
            counted = let l = length-append p.passed (h.one ∷ []) in let k = p.counted in omega (arith, l, k);
            at_cursor = at_next;
            fits = All-tail P h.one h.behind part_fits;
            all_given =
                p.all_given ∙ ap (λ (l : List X). p.given ++ w.blocks l) h.is ∙ ap (λ (l : List ℕ). p.given ++ l) goes
                ∙ sym (append_assoc p.given addrs (w.blocks h.behind));
            stands = moved B' C rest (change (C ++ rest) (rotated now.blocks one C B rest part_stands));
            made = more_gave p.given addrs p.made made;
            is = is;
          }

      -- it stays, though some first ones of what goes with it are gone
      pub part_some : {new : Heap} (addrs : List ℕ) → w.blocks (h.one ∷ h.behind) ≡ addrs ++ w.blocks h.behind → GaveSome addrs now new →
          GaveSome (w.blocks xs) old new
      part_some {new} addrs goes s =
          subst (λ (l : List ℕ). GaveSome l old new)
          (sym (p.all_given ∙ ap (λ (l : List X). p.given ++ w.blocks l) h.is ∙ ap (λ (l : List ℕ). p.given ++ l) goes))
          (some_then p.given addrs (w.blocks h.behind) p.made s)

      -- there is room for what goes with it
      pub part_room : (addrs : List ℕ) → w.blocks (h.one ∷ h.behind) ≡ addrs ++ w.blocks h.behind → length (w.blocks xs) ≤ old.spare →
          length addrs ≤ now.spare
      part_room addrs goes enough =
          let e = gave_spare p.given p.made in
          let all = p.all_given ∙ ap (λ (l : List X). p.given ++ w.blocks l) h.is ∙ ap (λ (l : List ℕ). p.given ++ l) goes in
          let l : length (w.blocks xs) ≡ length (p.given ++ (addrs ++ w.blocks h.behind)) = ap length all in
          let a = length-append p.given (addrs ++ w.blocks h.behind) in
          let b = length-append addrs (w.blocks h.behind) in omega (arith, e, l, a, b, enough)

      -- so many were given back with it at most
      pub part_count : (addrs : List ℕ) → w.blocks (h.one ∷ h.behind) ≡ addrs ++ w.blocks h.behind →
          length p.given + length addrs ≤ length (w.blocks xs)
      part_count addrs goes =
          let all = p.all_given ∙ ap (λ (l : List X). p.given ++ w.blocks l) h.is ∙ ap (λ (l : List ℕ). p.given ++ l) goes in
          let l : length (w.blocks xs) ≡ length (p.given ++ (addrs ++ w.blocks h.behind)) = ap length all in
          let a = length-append p.given (addrs ++ w.blocks h.behind) in
          let b = length-append addrs (w.blocks h.behind) in omega (arith, l, a, b)

      pub part_below : i < length xs
      part_below =
          let n = ap (length {A = X}) (p.whole ∙ ap (λ (l : List X). p.passed ++ l) h.is) in
          let l = length-append p.passed (h.one ∷ h.behind) in
          let k = p.counted in omega (arith, n, l, k)

    -- where it is 0 none is left
    pub part_none : cursor ≡ 0 → p.left ≡ []
    part_none z = by p.left p.at_cursor p.stands
      where
        by : (left : List X) → cursor ≡ first_of w.addr 0 left →
            BlocksAre now.blocks (linked w.addr w.block p.prev 0 left ++ (w.beside p.passed ++ rest)) → left ≡ []
        by [] e s = refl
        by (y ∷ ys) e s = absurd (first_nonzero w.addr w.block now.blocks p.prev y ys _ s (sym e ∙ z))

    -- nor where so many are gone
    pub part_many : (most : ℕ) → i ≡ most → length xs < most → p.left ≡ []
    part_many most all few =
        let n = ap (length {A = X}) p.whole in let l = length-append p.passed p.left in let k = p.counted in
        absurd (omega (arith, n, l, k, all, few))

    module _ (none : p.left ≡ []) where
      all_passed : xs ≡ p.passed
      all_passed = p.whole ∙ ap (λ (l : List X). p.passed ++ l) none ∙ append-nil p.passed

      pub over_stands : BlocksAre now.blocks (w.beside xs ++ rest)
      unfolding linked
      over_stands =
          subst (λ (l : List X). BlocksAre now.blocks (w.beside l ++ rest)) (sym all_passed)
          (subst (λ (l : List X). BlocksAre now.blocks (linked w.addr w.block p.prev 0 l ++ (w.beside p.passed ++ rest))) none p.stands)

      pub over_made : w.blocks [] ≡ [] → Made (gave (w.blocks xs)) old now
      over_made e =
          subst (λ (l : List ℕ). Made (gave l) old now)
          (sym (p.all_given ∙ ap (λ (l : List X). p.given ++ w.blocks l) none ∙ ap (λ (l : List ℕ). p.given ++ l) e ∙ append-nil p.given)) p.made

      pub over_told : value ≡ w.told xs
      over_told = p.is ∙ ap w.told (sym all_passed)

    -- so many are gone at most
    pub passed_most : i ≤ length xs
    passed_most =
        let n = ap (length {A = X}) p.whole in let l = length-append p.passed p.left in let k = p.counted in omega (arith, n, l, k)

    pub given_most : length p.given ≤ length (w.blocks xs)
    given_most =
        let n : length (w.blocks xs) ≡ length (p.given ++ w.blocks p.left) = ap length p.all_given in
        let l = length-append p.given (w.blocks p.left) in omega (arith, n, l)
