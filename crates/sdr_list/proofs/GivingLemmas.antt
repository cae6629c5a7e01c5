-- A chain of any layout is given back, one after another.
use Rattle.std.proofs.Common.{◌≡◌, ℕ, suc, ◌+◌, ◌-◌, ◌<◌, List, [], ◌∷◌, ◌++◌, length, map, Some}
use Rattle.std.proofs.Common.{refl, sym, ap, ◌∙◌, subst, arith, append_assoc, append-nil, length-append}
use Rattle.std.specs.Prelude.{All}
use Rattle.std.proofs.lemmas.List.{map-append}
use Rattle.std.proofs.lemmas.List.Elements.{All-tail}
use Rattle.sdr_base.specs.Blocks.{Block, Blocks}
use Rattle.sdr_base.specs.Entries.{Entries, BlocksAre}
use Rattle.sdr_base.specs.Linked.{first_of, linked}
use Rattle.sdr_base.specs.Making.{GaveSome, Made, gave}
use Rattle.sdr_base.specs.Objects.{Heap, with_given}
use Rattle.sdr_base.specs.declared.moves.Move.TheVariants.{Gave}
use Rattle.sdr_base.proofs.GaveLemmas.{none_made, one_gave}
use Rattle.sdr_base.proofs.HeapLemmas.{given_blocks}
use Rattle.sdr_base.proofs.StandingLemmas.{found, went}
use Rattle.sdr_list.specs.Giving.{Part}

pub length-addrs : {X : Type 0} (addr : X → ℕ) (xs : List X) → length (gave (map addr xs)) ≡ length xs
length-addrs addr [] = refl
length-addrs addr (x ∷ xs) = ap suc (length-addrs addr xs)

-- there is one left
pub record NotDone {X : Type 0} (left : List X) : Type 0 where
  pub head : X
  pub tail : List X
  pub is : left ≡ head ∷ tail

not_empty : {X : Type 0} (left : List X) → 0 < length left → NotDone left
not_empty [] n = absurd (omega (arith, n))
not_empty (x ∷ xs) n = record { head = x; tail = xs; is = refl }

module _ {X : Type 0} (P : X → Type 0) (addr : X → ℕ) (block : ℕ → ℕ → X → Block) (next : ℕ) where
  pub part_begun : {old : Heap} {first : ℕ} (prev : ℕ) (xs : List X) (rest : Entries) → BlocksAre old.blocks (linked addr block prev next xs ++ rest) →
      first ≡ first_of addr next xs → All P xs → Part P addr block next old old first 0 xs rest
  part_begun {old} prev xs rest s f h = record {
    gone = [];
    left = xs;
    prev = prev;
    whole = refl;
    passed = refl;
    at_cursor = f;
    holds = h;
    stands = s;
    made = none_made old;
  }

  module _ {old now : Heap} {cursor i : ℕ} {xs : List X} {rest : Entries} (p : Part P addr block next old now cursor i xs rest) where
    pub part_more : i < length xs → NotDone p.left
    part_more more =
        let n = ap length p.whole in let l = length-append p.gone p.left in let q = p.passed in
        not_empty p.left (omega (arith, n, l, q, more))

    stands_from : (n : NotDone p.left) →
        BlocksAre now.blocks ((addr n.head, block p.prev (first_of addr next n.tail) n.head) ∷ (linked addr block (addr n.head) next n.tail ++ rest))
    unfolding linked
    stands_from n = subst (λ t. BlocksAre now.blocks (linked addr block p.prev next t ++ rest)) n.is p.stands

    -- the block of the next one
    pub part_found : (n : NotDone p.left) → now.blocks cursor ≡ Some (block p.prev (first_of addr next n.tail) n.head)
    part_found n =
        ap now.blocks (p.at_cursor ∙ ap (first_of addr next) n.is)
        ∙ found now.blocks (addr n.head) (block p.prev (first_of addr next n.tail) n.head) []
        (linked addr block (addr n.head) next n.tail ++ rest) (stands_from n)

    -- it is given back
    pub part_given : (new : Heap) (following : ℕ) (n : NotDone p.left) → following ≡ first_of addr next n.tail → new ≡ with_given now cursor →
        Part P addr block next old new following (i + 1) xs rest
    part_given new following n f g =
        let at : cursor ≡ addr n.head = p.at_cursor ∙ ap (first_of addr next) n.is in
        let given : new ≡ with_given now (addr n.head) = g ∙ ap (λ (a : ℕ). with_given now a) at in
        record {
          gone = p.gone ++ (n.head ∷ []);
          left = n.tail;
          prev = addr n.head;
          whole = p.whole ∙ ap (λ t. p.gone ++ t) n.is ∙ sym (append_assoc p.gone (n.head ∷ []) n.tail);
          passed = let l = length-append p.gone (n.head ∷ []) in let q = p.passed in omega (arith, l, q);
          at_cursor = f;
          holds = All-tail P n.head n.tail (subst (All P) n.is p.holds);
          stands =
              subst (λ (b : Blocks). BlocksAre b (linked addr block (addr n.head) next n.tail ++ rest)) (sym (given_blocks (addr n.head) now new given))
              (went now.blocks (addr n.head) (block p.prev (first_of addr next n.tail) n.head) []
              (linked addr block (addr n.head) next n.tail ++ rest) (stands_from n));
          made =
              subst (λ (addrs : List ℕ). Made (gave addrs) old new) (sym (map-append addr p.gone (n.head ∷ [])))
              (one_gave (map addr p.gone) (addr n.head) p.made given);
        }

    -- for as many more there is room
    pub part_spare : now.spare ≡ old.spare - i
    part_spare =
        let e : now.spare ≡ old.spare - length (gave (map addr p.gone)) = ap (λ (h : Heap). h.spare) p.made.all in
        let n = length-addrs addr p.gone in let q = p.passed in omega (arith, e, n, q)

    nothing : (left : List X) → length left ≡ 0 → left ≡ []
    nothing [] n = refl
    nothing (x ∷ left) n = absurd (omega (arith, n))

    -- none is left
    none_left : i ≡ length xs → p.left ≡ []
    none_left done =
        let n = ap length p.whole in let l = length-append p.gone p.left in let q = p.passed in
        nothing p.left (omega (arith, n, l, q, done))

    -- at the end the others stand
    pub part_stands : i ≡ length xs → BlocksAre now.blocks rest
    unfolding linked
    part_stands done = subst (λ t. BlocksAre now.blocks (linked addr block p.prev next t ++ rest)) (none_left done) p.stands

    -- and all were given back
    pub part_made : i ≡ length xs → Made (gave (map addr xs)) old now
    part_made done =
        subst (λ (ys : List X). Made (gave (map addr ys)) old now)
        (sym (p.whole ∙ ap (λ t. p.gone ++ t) (none_left done) ∙ append-nil p.gone)) p.made

    -- those that were given back are some first ones
    pub part_some : (new : Heap) → new.moves ≡ now.moves → new.spare ≡ now.spare → GaveSome (map addr xs) old new
    part_some new same spare = record {
      made = gave (map addr p.gone);
      first = record {
        rest = gave (map addr p.left);
        whole =
            ap (λ (ys : List X). gave (map addr ys)) p.whole ∙ ap gave (map-append addr p.gone p.left)
            ∙ map-append (λ (a : ℕ). Gave a) (map addr p.gone) (map addr p.left);
      };
      moves = same ∙ ap (λ (h : Heap). h.moves) p.made.all;
      spare = spare ∙ ap (λ (h : Heap). h.spare) p.made.all;
    }
