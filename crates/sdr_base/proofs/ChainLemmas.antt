-- One in a chain: what its block is, and the chain around it.
use Rattle.std.proofs.Common.{◌≡◌, ℕ, List, [], ◌∷◌, ◌++◌, Option, Some, sym, ap, ◌∙◌, subst, append_assoc}
use Rattle.sdr_base.specs.Blocks.{Block, Blocks}
use Rattle.sdr_base.specs.Entries.{Entries, BlocksAre}
use Rattle.sdr_base.specs.Linked.{first_of, last_of, linked}
use Rattle.sdr_base.proofs.LinkedLemmas.{linked-append}
use Rattle.sdr_base.proofs.StandingLemmas.{found}

module _ {X : Type 0} (addr : X → ℕ) (block : ℕ → ℕ → X → Block) where
  -- the chain on either side of one, and its block between them
  pub linked-around : (prev next : ℕ) (xs : List X) (x : X) (ys : List X) →
      linked addr block prev next (xs ++ (x ∷ ys))
      ≡ linked addr block prev (addr x) xs
      ++ ((addr x, block (last_of addr prev xs) (first_of addr next ys) x) ∷ linked addr block (addr x) next ys)
  unfolding linked
  linked-around prev next xs x ys = linked-append addr block prev next xs (x ∷ ys)

  -- the block of one in a chain
  pub linked_found : (b : Blocks) (before rest : Entries) (prev next : ℕ) (xs : List X) (x : X) (ys : List X) →
      BlocksAre b (before ++ (linked addr block prev next (xs ++ (x ∷ ys)) ++ rest)) →
      b (addr x) ≡ Some (block (last_of addr prev xs) (first_of addr next ys) x)
  linked_found b before rest prev next xs x ys s =
      let A = linked addr block prev (addr x) xs in
      let B = linked addr block (addr x) next ys in
      let one = block (last_of addr prev xs) (first_of addr next ys) x in
      found b (addr x) one (before ++ A) (B ++ rest)
      (subst (λ (es : Entries). BlocksAre b es)
      (ap (λ (es : Entries). before ++ (es ++ rest)) (linked-around prev next xs x ys)
      ∙ ap (λ (es : Entries). before ++ es) (append_assoc A ((addr x, one) ∷ B) rest)
      ∙ sym (append_assoc before A ((addr x, one) ∷ (B ++ rest)))) s)

  -- what holds of each block that may be last in a chain holds of the one that is
  pub last_holds : (P : Option Block → Type 0) (b : Blocks) (before rest : Entries) (prev next : ℕ) (x : X) (xs : List X) →
      ((prev : ℕ) (y : X) → P (Some (block prev next y))) →
      BlocksAre b (before ++ (linked addr block prev next (x ∷ xs) ++ rest)) → P (b (last_of addr (addr x) xs))
  unfolding linked
  last_holds P b before rest prev next x [] holds s =
      subst P (sym (found b (addr x) (block prev next x) before rest s)) (holds prev x)
  last_holds P b before rest prev next x (y ∷ ys) holds s =
      last_holds P b (before ++ ((addr x, block prev (addr y) x) ∷ [])) rest (addr x) next y ys holds
      (subst (λ (es : Entries). BlocksAre b es)
      (sym (append_assoc before ((addr x, block prev (addr y) x) ∷ [])
      (linked addr block (addr x) next (y ∷ ys) ++ rest))) s)
