-- What a link of the catalogue does.
use Rattle.std.proofs.Common.{◌≡◌, ◌≢◌, ℕ, ◌==◌, Bool, true, false, cond, List, [], ◌∷◌, Some, refl, sym, ap, ◌∙◌, arith, subst}
use Rattle.std.proofs.lemmas.Bool.{eq-eqb, eqb-true}
use Rattle.byteorder.specs.Endian.{big_bytes}
use Rattle.sdr_base.specs.Blocks.{Blocks, with_at}
use Rattle.sdr_base.specs.Catalogue.{NameRow, name_addr, name_block, name_bytes}
use Rattle.sdr_base.specs.Entries.{Entries, BlocksAre}
use Rattle.sdr_base.specs.Linked.{last_of, linked}
use Rattle.sdr_base.specs.Making.{besides}
use Rattle.sdr_base.specs.Objects.{Heap, with_root}
use Rattle.sdr_base.specs.Words.{with_word}
use Rattle.sdr_base.specs.declared.kind.Kind.TheVariants as kinds
use Rattle.sdr_base.proofs.HeapLemmas.{heap_blocks}
use Rattle.sdr_base.proofs.LayoutLemmas.{overwrite-layout}
use Rattle.sdr_base.proofs.LinkedLemmas.{last_nonzero, relinked_next}
use Rattle.sdr_cat.specs.Links.{CatalogueChain, LinksNext}
use Rattle.sdr_cat.proofs.NameLemmas.{words}

-- a value that is put at a place again, and the one that is there
pub at-here : (values : ℕ → ℕ) (place value : ℕ) → with_at values place value place ≡ value
unfolding with_at
at-here values place value = ap (λ v. cond v value (values place)) (eq-eqb place place refl)

pub at-same : (values : ℕ → ℕ) (place : ℕ) → with_at values place (values place) ≡ values
unfolding with_at
at-same values place = λ i other. same other (other == place) refl i
  where
    same : (other : ℕ) (v : Bool) → (other == place) ≡ v → cond v (values place) (values other) ≡ values other
    same other true e = ap values (sym (eqb-true other place e))
    same other false e = refl

first_linked : {old new : Heap} {prev next : ℕ} → prev ≡ 0 → new ≡ with_root old 89 next → (rows : List NameRow) (was : ℕ) (rest : Entries) →
    prev ≡ last_of name_addr 0 rows → CatalogueChain old rows was rest → CatalogueChain new rows next rest
unfolding linked
first_linked {old} {new} {prev} {next} z w [] was rest e c = record {
  stands = subst (λ (b : Blocks). BlocksAre b rest) (sym (heap_blocks w)) c.stands;
  first = ap (λ (h : Heap). h.roots 89) w ∙ at-here old.roots 89 next;
}
first_linked {old} z w (x ∷ xs) was rest e c =
    absurd (last_nonzero name_addr name_block old.blocks [] rest 0 was x xs c.stands (sym e ∙ z))

next_linked : {old new : Heap} {prev next : ℕ} → prev ≢ 0 → new ≡ with_word old prev 0 next → (rows : List NameRow) (was : ℕ) (rest : Entries) →
    prev ≡ last_of name_addr 0 rows → CatalogueChain old rows was rest → CatalogueChain new rows next rest
next_linked n w [] was rest e c = absurd (n e)
next_linked {old} {new} {prev} {next} n w (x ∷ xs) was rest e c = record {
  stands =
      relinked_next name_addr name_block old.blocks new.blocks [] rest 0 0 was next (big_bytes 8 next) x xs
      (λ p y. ap (λ (bytes : List ℕ). Some (record { kind = kinds.Name; bytes = bytes }))
      (overwrite-layout (words was y) (name_bytes y.name) 0 next (omega arith)))
      (subst (λ p. new.blocks ≡ (with_word old p 0 next).blocks) e (heap_blocks w)) c.stands;
  first = ap (λ (h : Heap). h.roots 89) w ∙ c.first;
}

pub links_first : {old new : Heap} {prev next : ℕ} → prev ≡ 0 → new ≡ with_root old 89 next → LinksNext prev next old new
links_first {old} {new} {prev} {next} z w = record {
  links = first_linked z w;
  same =
      ap besides w
      ∙ ap (λ v. record (besides old) { roots = with_at old.roots 89 v }) (sym (ap (λ (h : Heap). h.roots 89) w ∙ at-here old.roots 89 next));
}

pub links_next : {old new : Heap} {prev next : ℕ} → prev ≢ 0 → new ≡ with_word old prev 0 next → LinksNext prev next old new
links_next {old} {new} {prev} {next} n w = record {
  links = next_linked n w;
  same =
      ap besides w
      ∙ ap (λ (r : ℕ → ℕ). record (besides old) { roots = r })
      (sym (ap (λ v. with_at old.roots 89 v) (ap (λ (h : Heap). h.roots 89) w) ∙ at-same old.roots 89));
}
