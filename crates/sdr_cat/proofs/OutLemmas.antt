-- An entry is taken out of the catalogue.
use Rattle.std.proofs.Common.{◌≡◌, ◌≢◌, ℕ, zero, suc, ◌-◌, true, false, cond, List, [], ◌∷◌, ◌++◌, Some, None, refl, sym, ap, ◌∙◌, arith, subst, append_assoc, append-nil}
use Rattle.std.specs.Prelude.{find}
use Rattle.sdr_base.specs.Blocks.{Blocks, Reaches, with_at, with_block}
use Rattle.sdr_base.specs.Catalogue.{NameRow, catalogue_entries, name_addr, name_block, name_bytes}
use Rattle.sdr_base.specs.Entries.{Entries, BlocksAre}
use Rattle.sdr_base.specs.Linked.{first_of, last_of, linked}
use Rattle.sdr_base.specs.Making.{besides, with_moves}
use Rattle.sdr_base.specs.Objects.{Heap, with_given}
use Rattle.sdr_base.specs.Words.{HasWord}
use Rattle.sdr_base.specs.declared.kind.Kind.TheVariants as kinds
use Rattle.sdr_base.specs.declared.moves.Move.TheVariants.{Gave}
use Rattle.sdr_base.proofs.HeapLemmas.{given_blocks}
use Rattle.sdr_base.proofs.LinkedLemmas.{first-append, last-append, taken_out}
use Rattle.sdr_base.proofs.StandingLemmas.{found}
use Rattle.sdr_base.proofs.WritingLemmas.{reaches}
use Rattle.sdr_base.proofs.ChainLemmas.{linked-around}
use Rattle.sdr_cat.specs.Changes.{LinksLast, SomeFirst, TakesOut, last_if}
use Rattle.sdr_cat.specs.Kept.{KeepsEntry, KeepsNames, SomeEntry}
use Rattle.sdr_cat.specs.Links.{CatalogueChain, LinksNext}
use Rattle.sdr_cat.specs.Names.{is_named, without_name}
use Rattle.sdr_cat.specs.Walks.{IsFirst}
use Rattle.sdr_cat.specs.declared.searching.Place.{Place}
use Rattle.sdr_cat.proofs.ChangeLemmas.{last_reaches}
use Rattle.sdr_cat.proofs.LinkLemmas.{at-same}
use Rattle.sdr_cat.proofs.NameLemmas.{next_is, words}
use Rattle.sdr_cat.proofs.WalkLemmas.{here, none_at_zero}

-- an entry doesn't say which one is before it
any_previous : (p q next : ℕ) (rows : List NameRow) → linked name_addr name_block p next rows ≡ linked name_addr name_block q next rows
unfolding linked
any_previous p q next [] = refl
any_previous p q next (x ∷ xs) = refl

-- the entries without the first of a name
without : (name : List ℕ) (xs : List NameRow) (x : NameRow) (ys : List NameRow) → find (is_named name) xs ≡ None → is_named name x ≡ true →
    without_name name (xs ++ (x ∷ ys)) ≡ xs ++ ys
unfolding without_name
without name [] x ys n is = ap (λ v. cond v ys (x ∷ without_name name ys)) is
without name (z ∷ xs) x ys n is =
    elim (is_named name z) as (λ v. cond v (Some z) (find (is_named name) xs) ≡ None → cond v (xs ++ (x ∷ ys)) (z ∷ without_name name (xs ++ (x ∷ ys))) ≡ z ∷ (xs ++ ys)) [
      | true ↦ λ k. let d : Some z ≡ None = k in cc
      | false ↦ λ k. ap (λ (l : List NameRow). z ∷ l) (without name xs x ys k is)
    ] n

pub without_is : {name : List ℕ} {names : List NameRow} {place : Place} → (f : IsFirst name names place) → without_name name names ≡ f.before ++ f.behind
without_is {name} f = ap (without_name name) f.whole ∙ without name f.before f.row f.behind f.none f.named

-- what stands behind those before it
abbrev pub from_it : List NameRow → NameRow → List NameRow → Entries → Entries
from_it xs x ys rest = (x.addr, name_block 0 (first_of name_addr 0 ys) x) ∷ (linked name_addr name_block (last_of name_addr 0 xs) 0 ys ++ rest)

-- the catalogue is opened at it
pub opened : {heap : Heap} {names : List NameRow} → KeepsNames heap names → (xs : List NameRow) (x : NameRow) (ys : List NameRow) → names ≡ xs ++ (x ∷ ys) →
    (rest : Entries) → BlocksAre heap.blocks (catalogue_entries names ++ rest) → CatalogueChain heap xs x.addr (from_it xs x ys rest)
opened {heap} {names} k xs x ys e rest s = record {
  stands =
      subst (λ (es : Entries). BlocksAre heap.blocks es)
      (ap (λ (rows : List NameRow). linked name_addr name_block 0 0 rows ++ rest) e
      ∙ ap (λ (es : Entries). es ++ rest) (linked-around name_addr name_block 0 0 xs x ys)
      ∙ append_assoc (linked name_addr name_block 0 x.addr xs)
      ((x.addr, name_block 0 (first_of name_addr 0 ys) x) ∷ linked name_addr name_block x.addr 0 ys) rest
      ∙ ap (λ (es : Entries). linked name_addr name_block 0 x.addr xs ++ ((x.addr, name_block 0 (first_of name_addr 0 ys) x) ∷ (es ++ rest)))
      (any_previous x.addr (last_of name_addr 0 xs) 0 ys)) s;
  first = k.first ∙ ap (first_of name_addr 0) e ∙ first-append name_addr name_block 0 xs (x ∷ ys);
}

-- so it does by cases
last_blocks : (next prev : ℕ) (heap : Heap) → (last_if next prev heap).blocks ≡ heap.blocks
last_blocks zero prev heap = refl
last_blocks (suc next) prev heap = refl

-- the last one's word afterwards
after_last : {heap : Heap} {names : List NameRow} (mid : Heap) → KeepsNames heap names → (xs : List NameRow) (x : NameRow) (ys : List NameRow) → names ≡ xs ++ (x ∷ ys) →
    mid.roots 90 ≡ heap.roots 90 → (next : ℕ) → next ≡ first_of name_addr 0 ys →
    besides (last_if next (last_of name_addr 0 xs) mid) ≡ record (besides mid) { roots = with_at mid.roots 90 (last_of name_addr 0 (xs ++ ys)) }
after_last mid k xs x [] e same zero n =
    ap (λ v. record (besides mid) { roots = with_at mid.roots 90 v }) (ap (last_of name_addr 0) (sym (append-nil xs)))
after_last {names = names} mid k xs x (y ∷ ys) e same zero n =
    absurd (none_at_zero k (here k (xs ++ x ∷ []) y ys (e ∙ sym (append_assoc xs (x ∷ []) (y ∷ ys)))) (sym n))
after_last mid k xs x [] e same (suc next) n = absurd (omega (arith, n))
after_last mid k xs x (y ∷ ys) e same (suc next) n =
    ap (λ (r : ℕ → ℕ). record (besides mid) { roots = r })
    (sym (ap (with_at mid.roots 90)
    (last-append name_addr name_block 0 xs (y ∷ ys) ∙ sym (last-append name_addr name_block 0 xs (x ∷ y ∷ ys))
    ∙ ap (last_of name_addr 0) (sym e) ∙ sym k.last ∙ sym same) ∙ at-same mid.roots 90))

-- the first one's word is none of the last one's
other_word : (values : ℕ → ℕ) (value : ℕ) → with_at values 89 value 90 ≡ values 90
unfolding with_at
other_word values value = refl

-- the last one's word leaves the blocks
same_blocks : {next previous : ℕ} {mid last : Heap} → LinksLast next previous mid last → last.blocks ≡ mid.blocks
same_blocks {next} {previous} {mid} e = ap (λ (x : Heap). x.blocks) e.links ∙ last_blocks next previous mid

-- the whole call
module _ {place : Place} {next : ℕ} {old mid last : Heap} (h : HasWord (old.blocks place.addr) 0 next) (l : LinksNext place.previous next old mid)
    (e : LinksLast next place.previous mid last) where
  next_at : {name : List ℕ} {names : List NameRow} → KeepsNames old names → (f : IsFirst name names place) → next ≡ first_of name_addr 0 f.behind
  next_at k f =
      let t = here k f.before f.row f.behind f.whole in
      next_is (first_of name_addr 0 f.behind) f.row t.small (ap old.blocks f.at_addr ∙ t.block) h

  linked_past : {name : List ℕ} {names : List NameRow} → KeepsNames old names → (f : IsFirst name names place) → (rest : Entries) →
      BlocksAre old.blocks (catalogue_entries names ++ rest) → CatalogueChain mid f.before next (from_it f.before f.row f.behind rest)
  linked_past k f rest s =
      l.links f.before f.row.addr (from_it f.before f.row f.behind rest) f.at_previous (opened k f.before f.row f.behind f.whole rest s)

  -- the entry is there still
  pub still : SomeFirst place old → Reaches (last.blocks place.addr) 0
  still k =
      let f = k.is in
      let c = linked_past k.keeps f k.keeps.rest k.keeps.stands in
      reaches (last.blocks place.addr) kinds.Name (words (first_of name_addr 0 f.behind) f.row) (name_bytes f.row.name) 0
      (ap last.blocks f.at_addr ∙ ap (λ (b : Blocks). b f.row.addr) (same_blocks e)
      ∙ found mid.blocks f.row.addr (name_block 0 (first_of name_addr 0 f.behind) f.row) (linked name_addr name_block 0 next f.before)
      (linked name_addr name_block (last_of name_addr 0 f.before) 0 f.behind ++ k.keeps.rest) c.stands) (omega arith)

  pub takes_out : (new : Heap) → new ≡ with_given last place.addr → TakesOut place old new
  takes_out new w = record {
    changes = λ names name k f. record {
      kept = λ rest s.
          let c = linked_past k f rest s in
          let gone : new.blocks ≡ with_block mid.blocks f.row.addr None =
          given_blocks place.addr last new w ∙ ap (λ p. with_block last.blocks p None) f.at_addr
          ∙ ap (λ (b : Blocks). with_block b f.row.addr None) (same_blocks e) in
          subst (λ (rows : List NameRow). BlocksAre new.blocks (catalogue_entries rows ++ rest)) (sym (without_is f))
          (taken_out name_addr name_block mid.blocks new.blocks [] rest 0 0 f.before (name_block 0 (first_of name_addr 0 f.behind) f.row) f.row.addr f.behind gone
          (subst (λ n. BlocksAre mid.blocks (linked name_addr name_block 0 n f.before ++ from_it f.before f.row f.behind rest)) (next_at k f) c.stands));
    };
    renamed = λ names name k f. record {
      all =
          let rows = f.before ++ f.behind in
          let c = linked_past k f k.rest k.stands in
          let roots : mid.roots ≡ with_at old.roots 89 (mid.roots 89) = ap (λ (x : Heap). x.roots) l.same in
          let same : mid.roots 90 ≡ old.roots 90 = ap (λ (r : ℕ → ℕ). r 90) roots ∙ other_word old.roots (mid.roots 89) in
          let front : mid.roots 89 ≡ first_of name_addr 0 rows =
          c.first ∙ ap (λ n. first_of name_addr n f.before) (next_at k f) ∙ sym (first-append name_addr name_block 0 f.before f.behind) in
          let lasts : besides last ≡ record (besides mid) { roots = with_at mid.roots 90 (last_of name_addr 0 rows) } =
          ap besides (e.links ∙ ap (λ p. last_if next p mid) f.at_previous)
          ∙ after_last mid k f.before f.row f.behind f.whole same next (next_at k f) in
          ap besides w
          ∙ ap (λ (x : Heap). record x { moves = x.moves ++ Gave place.addr ∷ []; spare = x.spare - 1 })
          (lasts ∙ ap (λ (x : Heap). record x { roots = with_at x.roots 90 (last_of name_addr 0 rows) }) l.same)
          ∙ ap (λ v. record (besides (with_moves old (Gave place.addr ∷ []))) { roots = with_at (with_at old.roots 89 v) 90 (last_of name_addr 0 rows) }) front
          ∙ ap (λ (rs : List NameRow). record (besides (with_moves old (Gave place.addr ∷ []))) { roots = with_at (with_at old.roots 89 (first_of name_addr 0 rs)) 90 (last_of name_addr 0 rs) })
          (sym (without_is f));
    };
  }

-- the entry before it is there
pub previous_reaches : {place : Place} {old : Heap} → SomeFirst place old → place.previous ≢ 0 → Reaches (old.blocks place.previous) 56
previous_reaches k n =
    let f = k.is in
    last_reaches f.before (opened k.keeps f.before f.row f.behind f.whole k.keeps.rest k.keeps.stands) f.at_previous n

-- and it itself
pub first_entry : {place : Place} {old : Heap} → SomeFirst place old → SomeEntry (old.blocks place.addr)
first_entry {place} {old} k =
    let f = k.is in
    record {
      row = f.row;
      next = first_of name_addr 0 f.behind;
      keeps = subst (λ p. KeepsEntry (old.blocks p) f.row (first_of name_addr 0 f.behind)) (sym f.at_addr) (here k.keeps f.before f.row f.behind f.whole);
    }
