-- What the two links at a place do.
use Rattle.std.proofs.Common.{◌≡◌, ◌≢◌, ℕ, List, [], ◌∷◌, ◌++◌, Some}
use Rattle.std.proofs.Common.{sym, ap, ◌∙◌, arith, subst, append_assoc}
use Rattle.sdr_base.specs.Blocks.{Block}
use Rattle.sdr_base.specs.Entries.{Entries, BlocksAre}
use Rattle.sdr_base.specs.Linked.{first_of, last_of, linked}
use Rattle.sdr_base.specs.Lists.{ListElement, addr_of, element_block, elements_between, list_block}
use Rattle.sdr_base.specs.Objects.{Heap}
use Rattle.sdr_base.specs.Words.{with_word}
use Rattle.sdr_base.specs.declared.kind.Kind.TheVariants as kinds
use Rattle.sdr_base.proofs.HeapLemmas.{heap_blocks}
use Rattle.sdr_base.proofs.LayoutLemmas.{overwrite-layout}
use Rattle.sdr_base.proofs.LinkedLemmas.{last_nonzero, relinked_next, relinked_previous}
use Rattle.sdr_base.proofs.StandingLemmas.{nonzero}
use Rattle.sdr_base.proofs.WritingLemmas.{block, word_set}
use Rattle.sdr_list.specs.Gaps.{LinksNext, LinksPrevious, gap_entries}
use Rattle.sdr_list.proofs.KeptLemmas.{words}

-- the opened list, and others, by the parts of the gap
abbrev parts : ℕ → ℕ → ℕ → List ListElement → List ListElement → ℕ → ℕ → Entries → Entries → Entries
parts list user count xs ys next previous between rest =
    gap_entries list (record {
      user = user;
      count = count;
      before = xs;
      behind = ys;
      next = next;
      previous = previous;
      between = between;
    }) rest

first_linked : (old new : Heap) (list user count next next' previous : ℕ) (xs ys : List ListElement) (between rest : Entries) →
    last_of addr_of 0 xs ≡ 0 → new ≡ with_word old list 2 next' →
    BlocksAre old.blocks (parts list user count xs ys next previous between rest) →
    BlocksAre new.blocks (parts list user count xs ys next' previous between rest)
unfolding linked
first_linked old new list user count next next' previous [] ys between rest e w s =
    word_set old.blocks new.blocks list kinds.List (words user count next (last_of addr_of previous ys)) [] 2 next' []
    (between ++ (elements_between list previous 0 ys ++ rest)) (heap_blocks w) (omega arith) s
first_linked old new list user count next next' previous (x ∷ xs) ys between rest e w s =
    absurd (last_nonzero addr_of (element_block list) old.blocks
    ((list, list_block user count x.addr (last_of addr_of previous ys)) ∷ [])
    (between ++ (elements_between list previous 0 ys ++ rest)) 0 next x xs s e)

next_linked : (old new : Heap) (list prev user count next next' previous : ℕ) (xs ys : List ListElement) (between rest : Entries) →
    prev ≡ last_of addr_of 0 xs → prev ≢ 0 → new ≡ with_word old prev 2 next' →
    BlocksAre old.blocks (parts list user count xs ys next previous between rest) →
    BlocksAre new.blocks (parts list user count xs ys next' previous between rest)
next_linked old new list prev user count next next' previous [] ys between rest e nz w s = absurd (nz e)
next_linked old new list prev user count next next' previous (x ∷ xs) ys between rest e nz w s =
    relinked_next addr_of (element_block list) old.blocks new.blocks
    ((list, list_block user count x.addr (last_of addr_of previous ys)) ∷ [])
    (between ++ (elements_between list previous 0 ys ++ rest)) 16 0 next next' _ x xs
    (λ p y. ap (λ (bytes : List ℕ). Some (block kinds.Element bytes))
    (overwrite-layout (words list p next y.datum) [] 2 next' (omega arith)))
    (subst (λ p. new.blocks ≡ (with_word old p 2 next').blocks) e (heap_blocks w)) s

pub links_first : (old new : Heap) (list prev next : ℕ) → prev ≡ 0 → new ≡ with_word old list 2 next →
    LinksNext old.blocks new.blocks list prev next
links_first old new list prev next z w = record {
  links = λ gap rest e s. record {
    stands = first_linked old new list gap.user gap.count gap.next next gap.previous gap.before gap.behind gap.between rest
        (sym e ∙ z) w s.stands;
  };
}

pub links_next : (old new : Heap) (list prev next : ℕ) → prev ≢ 0 → new ≡ with_word old prev 2 next →
    LinksNext old.blocks new.blocks list prev next
links_next old new list prev next nz w = record {
  links = λ gap rest e s. record {
    stands = next_linked old new list prev gap.user gap.count gap.next next gap.previous gap.before gap.behind gap.between rest
        e nz w s.stands;
  };
}

-- the chain behind the place stands behind all that is before it
behind_all : (list user count first last next : ℕ) (xs : List ListElement) (between more : Entries) →
    (list, list_block user count first last) ∷ (elements_between list 0 next xs ++ (between ++ more))
    ≡ ((list, list_block user count first last) ∷ (elements_between list 0 next xs ++ between)) ++ more
behind_all list user count first last next xs between more =
    ap (λ (es : Entries). (list, list_block user count first last) ∷ es)
    (sym (append_assoc (elements_between list 0 next xs) between more))

last_linked : (old new : Heap) (list user count next previous previous' : ℕ) (xs ys : List ListElement) (between rest : Entries) →
    first_of addr_of 0 ys ≡ 0 → new ≡ with_word old list 3 previous' →
    BlocksAre old.blocks (parts list user count xs ys next previous between rest) →
    BlocksAre new.blocks (parts list user count xs ys next previous' between rest)
unfolding linked
last_linked old new list user count next previous previous' xs [] between rest e w s =
    word_set old.blocks new.blocks list kinds.List (words user count (first_of addr_of next xs) previous) [] 3 previous' []
    (elements_between list 0 next xs ++ (between ++ rest)) (heap_blocks w) (omega arith) s
last_linked old new list user count next previous previous' xs (y ∷ ys) between rest e w s =
    let H : ℕ × Block = (list, list_block user count (first_of addr_of next xs) (last_of addr_of y.addr ys)) in
    let E : Block = element_block list previous (first_of addr_of 0 ys) y in
    let more : Entries = elements_between list y.addr 0 ys ++ rest in
    absurd (nonzero old.blocks y.addr E (H ∷ (elements_between list 0 next xs ++ between)) more
    (subst (λ (es : Entries). BlocksAre old.blocks es)
    (behind_all list user count (first_of addr_of next xs) (last_of addr_of y.addr ys) next xs between ((y.addr, E) ∷ more)) s) e)

previous_linked : (old new : Heap) (list from user count next previous previous' : ℕ) (xs ys : List ListElement)
    (between rest : Entries) → from ≡ first_of addr_of 0 ys → from ≢ 0 → new ≡ with_word old from 1 previous' →
    BlocksAre old.blocks (parts list user count xs ys next previous between rest) →
    BlocksAre new.blocks (parts list user count xs ys next previous' between rest)
previous_linked old new list from user count next previous previous' xs [] between rest e nz w s = absurd (nz e)
previous_linked old new list from user count next previous previous' xs (y ∷ ys) between rest e nz w s =
    let first = first_of addr_of next xs in
    let last = last_of addr_of y.addr ys in
    let H : ℕ × Block = (list, list_block user count first last) in
    subst (λ (es : Entries). BlocksAre new.blocks es)
    (sym (behind_all list user count first last next xs between (elements_between list previous' 0 (y ∷ ys) ++ rest)))
    (relinked_previous addr_of (element_block list) old.blocks new.blocks
    (H ∷ (elements_between list 0 next xs ++ between)) rest 8 previous previous' 0 _ y ys
    (λ n x. ap (λ (bytes : List ℕ). Some (block kinds.Element bytes))
    (overwrite-layout (words list previous n x.datum) [] 1 previous' (omega arith)))
    (subst (λ p. new.blocks ≡ (with_word old p 1 previous').blocks) e (heap_blocks w))
    (subst (λ (es : Entries). BlocksAre old.blocks es)
    (behind_all list user count first last next xs between (elements_between list previous 0 (y ∷ ys) ++ rest)) s))

pub links_last : (old new : Heap) (list next prev : ℕ) → next ≡ 0 → new ≡ with_word old list 3 prev →
    LinksPrevious old.blocks new.blocks list next prev
links_last old new list next prev z w = record {
  links = λ gap rest e s. record {
    stands = last_linked old new list gap.user gap.count gap.next gap.previous prev gap.before gap.behind gap.between rest
        (sym e ∙ z) w s.stands;
  };
}

pub links_previous : (old new : Heap) (list next prev : ℕ) → next ≢ 0 → new ≡ with_word old next 1 prev →
    LinksPrevious old.blocks new.blocks list next prev
links_previous old new list next prev nz w = record {
  links = λ gap rest e s. record {
    stands = previous_linked old new list next gap.user gap.count gap.next gap.previous prev gap.before gap.behind gap.between
        rest e nz w s.stands;
  };
}
