-- A chain is cut, joined and linked anew.
use Rattle.std.proofs.Common.{◌≡◌, ◌≢◌, ℕ, List, [], ◌∷◌, ◌++◌, length, None, Some, refl, sym, ap, ◌∙◌, subst}
use Rattle.std.proofs.Common.{append_assoc, arith}
use Rattle.sdr_base.specs.Blocks.{Block, Blocks, with_block, overwritten}
use Rattle.sdr_base.specs.Entries.{Entries, BlocksAre}
use Rattle.sdr_base.proofs.StandingLemmas.{found, nonzero, went, written_at}
use Rattle.sdr_base.specs.Linked.{first_of, last_of, linked}

module _ {X : Type 0} (addr : X → ℕ) (block : ℕ → ℕ → X → Block) where
  pub first-append : (next : ℕ) (xs ys : List X) →
      first_of addr next (xs ++ ys) ≡ first_of addr (first_of addr next ys) xs
  first-append next [] ys = refl
  first-append next (x ∷ xs) ys = refl

  pub last-append : (prev : ℕ) (xs ys : List X) → last_of addr prev (xs ++ ys) ≡ last_of addr (last_of addr prev xs) ys
  last-append prev [] ys = refl
  last-append prev (x ∷ xs) ys = last-append (addr x) xs ys

  -- cut, or joined
  pub linked-append : (prev next : ℕ) (xs ys : List X) →
      linked addr block prev next (xs ++ ys)
      ≡ linked addr block prev (first_of addr next ys) xs ++ linked addr block (last_of addr prev xs) next ys
  unfolding linked
  linked-append prev next [] ys = refl
  linked-append prev next (x ∷ xs) ys =
      ap (λ n. (addr x, block prev n x) ∷ linked addr block (addr x) next (xs ++ ys)) (first-append next xs ys)
      ∙ ap (λ (es : Entries). (addr x, block prev (first_of addr (first_of addr next ys) xs) x) ∷ es)
      (linked-append (addr x) next xs ys)

  pub length-linked : (prev next : ℕ) (xs : List X) → length (linked addr block prev next xs) ≡ length xs
  unfolding linked
  length-linked prev next [] = refl
  length-linked prev next (x ∷ xs) = let ih = length-linked (addr x) next xs in omega (arith, ih)

  -- the last one of a chain is in use, so its address isn't 0
  pub last_nonzero : (b : Blocks) (before rest : Entries) (prev next : ℕ) (x : X) (xs : List X) →
      BlocksAre b (before ++ (linked addr block prev next (x ∷ xs) ++ rest)) → last_of addr (addr x) xs ≢ 0
  unfolding linked
  last_nonzero b before rest prev next x [] s = nonzero b (addr x) (block prev next x) before rest s
  last_nonzero b before rest prev next x (y ∷ ys) s =
      last_nonzero b (before ++ (addr x, block prev (addr y) x) ∷ []) rest (addr x) next y ys
      (subst (λ (es : Entries). BlocksAre b es)
      (sym (append_assoc before ((addr x, block prev (addr y) x) ∷ [])
      (linked addr block (addr x) next (y ∷ ys) ++ rest))) s)

  -- what follows the last one is another: its word for the next one was set
  pub relinked_next : (b b' : Blocks) (before rest : Entries) (place prev next next' : ℕ) (from : List ℕ) (x : X)
      (xs : List X) →
      ((prev : ℕ) (y : X) → overwritten (Some (block prev next y)) place from ≡ Some (block prev next' y)) →
      b' ≡ with_block b (last_of addr (addr x) xs) (overwritten (b (last_of addr (addr x) xs)) place from) →
      BlocksAre b (before ++ (linked addr block prev next (x ∷ xs) ++ rest)) →
      BlocksAre b' (before ++ (linked addr block prev next' (x ∷ xs) ++ rest))
  unfolding linked
  relinked_next b b' before rest place prev next next' from x [] sets is s =
      subst (λ (c : Blocks). BlocksAre c (before ++ ((addr x, block prev next' x) ∷ rest)))
      (ap (with_block b (addr x))
      (sym (ap (λ o. overwritten o place from) (found b (addr x) (block prev next x) before rest s)
      ∙ sets prev x)) ∙ sym is)
      (written_at b (addr x) (block prev next x) (block prev next' x) before rest s)
  relinked_next b b' before rest place prev next next' from x (y ∷ ys) sets is s =
      subst (λ (es : Entries). BlocksAre b' es)
      (append_assoc before ((addr x, block prev (addr y) x) ∷ [])
      (linked addr block (addr x) next' (y ∷ ys) ++ rest))
      (relinked_next b b' (before ++ (addr x, block prev (addr y) x) ∷ []) rest place
      (addr x) next next' from y ys sets is
      (subst (λ (es : Entries). BlocksAre b es)
      (sym (append_assoc before ((addr x, block prev (addr y) x) ∷ [])
      (linked addr block (addr x) next (y ∷ ys) ++ rest))) s))

  -- what stands before the first one is another: its word for the one before was set
  pub relinked_previous : (b b' : Blocks) (before rest : Entries) (place prev prev' next : ℕ) (from : List ℕ) (x : X)
      (xs : List X) →
      ((next : ℕ) (y : X) → overwritten (Some (block prev next y)) place from ≡ Some (block prev' next y)) →
      b' ≡ with_block b (addr x) (overwritten (b (addr x)) place from) →
      BlocksAre b (before ++ (linked addr block prev next (x ∷ xs) ++ rest)) →
      BlocksAre b' (before ++ (linked addr block prev' next (x ∷ xs) ++ rest))
  unfolding linked
  relinked_previous b b' before rest place prev prev' next from x xs sets is s =
      let N = first_of addr next xs in
      let more = linked addr block (addr x) next xs ++ rest in
      subst (λ (c : Blocks). BlocksAre c (before ++ ((addr x, block prev' N x) ∷ more)))
      (ap (with_block b (addr x))
      (sym (ap (λ o. overwritten o place from) (found b (addr x) (block prev N x) before more s) ∙ sets N x))
      ∙ sym is)
      (written_at b (addr x) (block prev N x) (block prev' N x) before more s)

  -- one between two parts is given back, once what stands on either side is linked past it
  pub taken_out : (b b' : Blocks) (before rest : Entries) (prev next : ℕ) (xs : List X) (gone : Block) (at : ℕ)
      (ys : List X) →
      b' ≡ with_block b at None →
      BlocksAre b (before ++ (linked addr block prev (first_of addr next ys) xs ++
      ((at, gone) ∷ (linked addr block (last_of addr prev xs) next ys ++ rest)))) →
      BlocksAre b' (before ++ (linked addr block prev next (xs ++ ys) ++ rest))
  taken_out b b' before rest prev next xs gone at ys is s =
      let A = linked addr block prev (first_of addr next ys) xs in
      let B = linked addr block (last_of addr prev xs) next ys in
      subst (λ (c : Blocks). BlocksAre c (before ++ (linked addr block prev next (xs ++ ys) ++ rest))) (sym is)
      (subst (λ (es : Entries). BlocksAre (with_block b at None) (before ++ es))
      (sym (append_assoc A B rest) ∙ ap (λ (es : Entries). es ++ rest) (sym (linked-append prev next xs ys)))
      (subst (λ (es : Entries). BlocksAre (with_block b at None) es) (append_assoc before A (B ++ rest))
      (went b at gone (before ++ A) (B ++ rest)
      (subst (λ (es : Entries). BlocksAre b es) (sym (append_assoc before A ((at, gone) ∷ (B ++ rest)))) s))))
