-- What a link of a queue does.
use Rattle.std.proofs.Common.{◌≡◌, ◌≢◌, ℕ, zero, suc, List, [], ◌∷◌, Some, refl, sym, ap, ◌∙◌, arith, subst}
use Rattle.byteorder.specs.Endian.{big_bytes}
use Rattle.sdr_base.specs.Blocks.{Blocks, Reaches, with_at}
use Rattle.sdr_base.specs.Entries.{Entries, BlocksAre}
use Rattle.sdr_base.specs.Linked.{last_of, linked}
use Rattle.sdr_base.specs.Making.{besides}
use Rattle.sdr_base.specs.Objects.{Heap, with_root}
use Rattle.sdr_base.specs.Words.{with_word}
use Rattle.sdr_base.specs.declared.account.Acct.{Acct}
use Rattle.sdr_base.specs.declared.kind.Kind.TheVariants as kinds
use Rattle.sdr_base.proofs.ChainLemmas.{last_holds}
use Rattle.sdr_base.proofs.HeapLemmas.{heap_blocks}
use Rattle.sdr_base.proofs.LayoutLemmas.{length-layout, overwrite-layout}
use Rattle.sdr_base.proofs.LinkedLemmas.{last_nonzero, relinked_next}
use Rattle.sdr_model.specs.declared.accounts.Ticket.{Ticket}
use Rattle.zco_acct.specs.Kept.{block_of, queued_block}
use Rattle.zco_acct.specs.Words.{first_word, last_word}
use Rattle.zco_acct.proofs.TicketLemmas.{words}
use Rattle.zco_space.specs.Links.{QueueChain, LinksLast, LinksNext, last_if}
use Rattle.zco_space.proofs.RootLemmas.{at-here, at-same}

first_linked : {old new : Heap} {acct : Acct} {prev next : ℕ} → prev ≡ 0 → new ≡ with_root old (first_word acct) next →
    (tickets : List Ticket) (was : ℕ) (rest : Entries) → prev ≡ last_of block_of 0 tickets → QueueChain old acct tickets was rest →
    QueueChain new acct tickets next rest
unfolding linked
first_linked {old} {new} {acct} {prev} {next} z w [] was rest e c = record {
  stands = subst (λ (b : Blocks). BlocksAre b rest) (sym (heap_blocks w)) c.stands;
  first = ap (λ (h : Heap). h.roots (first_word acct)) w ∙ at-here old.roots (first_word acct) next;
}
first_linked {old} {new} {acct} z w (x ∷ xs) was rest e c =
    absurd (last_nonzero block_of (queued_block acct) old.blocks [] rest 0 was x xs c.stands (sym e ∙ z))

next_linked : {old new : Heap} {acct : Acct} {prev next : ℕ} → prev ≢ 0 → new ≡ with_word old prev 11 next →
    (tickets : List Ticket) (was : ℕ) (rest : Entries) → prev ≡ last_of block_of 0 tickets → QueueChain old acct tickets was rest →
    QueueChain new acct tickets next rest
next_linked n w [] was rest e c = absurd (n e)
next_linked {old} {new} {acct} {prev} {next} n w (x ∷ xs) was rest e c = record {
  stands =
      relinked_next block_of (queued_block acct) old.blocks new.blocks [] rest 88 0 was next (big_bytes 8 next) x xs
      (λ p y. ap (λ (bytes : List ℕ). Some (record { kind = kinds.Ticket; bytes = bytes }))
      (overwrite-layout (words acct was y) [] 11 next (omega arith)))
      (subst (λ p. new.blocks ≡ (with_word old p 11 next).blocks) e (heap_blocks w)) c.stands;
  first = ap (λ (h : Heap). h.roots (first_word acct)) w ∙ c.first;
}

pub links_first : {old new : Heap} {acct : Acct} {prev next : ℕ} → prev ≡ 0 → new ≡ with_root old (first_word acct) next →
    LinksNext acct prev next old new
links_first {old} {new} {acct} {prev} {next} z w = record {
  links = first_linked z w;
  same =
      ap besides w
      ∙ ap (λ v. besides (with_root old (first_word acct) v))
      (sym (ap (λ (h : Heap). h.roots (first_word acct)) w ∙ at-here old.roots (first_word acct) next));
}

pub links_next : {old new : Heap} {acct : Acct} {prev next : ℕ} → prev ≢ 0 → new ≡ with_word old prev 11 next →
    LinksNext acct prev next old new
links_next {old} {new} {acct} {prev} {next} n w = record {
  links = next_linked n w;
  same =
      ap besides w
      ∙ ap (λ (r : ℕ → ℕ). record (besides old) { roots = r })
      (sym (ap (λ v. with_at old.roots (first_word acct) v) (ap (λ (h : Heap). h.roots (first_word acct)) w)
      ∙ at-same old.roots (first_word acct)));
}

pub links_last : {old new : Heap} {acct : Acct} {next prev : ℕ} → next ≡ 0 → new ≡ with_root old (last_word acct) prev →
    LinksLast acct next prev old new
links_last {old} {new} {acct} {next} {prev} z w = record {
  links = w ∙ ap (λ n. last_if acct n prev old) (sym z);
}

-- some next one follows already
pub links_on : {old new : Heap} {acct : Acct} (next prev : ℕ) → next ≢ 0 → new ≡ old → LinksLast acct next prev old new
links_on zero prev n w = absurd (n refl)
links_on (suc next) prev n w = record { links = w }

-- the last ticket of some first ones is there
pub last_reaches : {heap : Heap} {acct : Acct} {prev was : ℕ} {rest : Entries} (tickets : List Ticket) →
    QueueChain heap acct tickets was rest → prev ≡ last_of block_of 0 tickets → prev ≢ 0 → Reaches (heap.blocks prev) 96
last_reaches [] c e n = absurd (n e)
last_reaches {heap} {acct} {prev} {was} {rest} (x ∷ xs) c e n =
    subst (λ p. Reaches (heap.blocks p) 96) (sym e)
    (last_holds block_of (queued_block acct) (λ o. Reaches o 96) heap.blocks [] rest 0 was x xs
    (λ p y. let l = length-layout (words acct was y) [] in omega (arith, l)) c.stands)

-- a ticket doesn't say which one is before it
pub any_previous : (acct : Acct) (p q next : ℕ) (tickets : List Ticket) →
    linked block_of (queued_block acct) p next tickets ≡ linked block_of (queued_block acct) q next tickets
unfolding linked
any_previous acct p q next [] = refl
any_previous acct p q next (x ∷ xs) = refl
