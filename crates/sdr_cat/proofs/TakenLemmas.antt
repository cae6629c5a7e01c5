-- What a name that is there, or isn't, means for the calls that change the catalogue.
use Rattle.std.proofs.Common.{ℕ, List, Some, sym, ap, ◌∙◌, subst}
use Rattle.sdr_base.specs.Catalogue.{name_addr}
use Rattle.sdr_base.specs.Linked.{first_of}
use Rattle.sdr_base.specs.Objects.{Heap, OnlyShort, OnlyUnmoved}
use Rattle.sdr_base.specs.Words.{HasWord}
use Rattle.sdr_base.specs.declared.refusal.Refusal.TheVariants.{LogFull, NoBlock}
use Rattle.sdr_base.specs.declared.stop.Stop.{Stop}
use Rattle.sdr_base.specs.declared.stop.Stop.TheVariants.{Refused, DiskFault, MediaFault, Failed}
use Rattle.sdr_cat.specs.Calls.{LacksName}
use Rattle.sdr_cat.specs.Changes.{AddsLast, CataloguesName, CatlgStops, HasName, IsThere, SomeFirst, TakesOut, UncataloguesName, UncatlgStops, row_addr, object_of}
use Rattle.sdr_cat.specs.Kept.{KeepsEntry, SomeNames}
use Rattle.sdr_cat.specs.Names.{IsName}
use Rattle.sdr_cat.specs.Walks.{Searches}
use Rattle.sdr_cat.specs.declared.searching.Place.{Place}
use Rattle.sdr_cat.proofs.NameLemmas.{object_is}
use Rattle.sdr_cat.proofs.WalkLemmas.{here, place_found}

pub catalogues_stop : {name : List ℕ} {old : Heap} (new : Heap) (stop : Stop) → LacksName name old → OnlyShort 56 old new stop → CatlgStops name old new stop
catalogues_stop new (Refused (NoBlock need)) l u = (l, u)
catalogues_stop new (Refused (LogFull lines room)) l u = (l, u)
catalogues_stop new (Refused refusal) l u = absurd u
catalogues_stop new DiskFault l u = tt
catalogues_stop new MediaFault l u = absurd u
catalogues_stop new Failed l u = tt

pub uncatalogues_stop : {name : List ℕ} {old : Heap} (new : Heap) (stop : Stop) → IsThere name old → OnlyUnmoved old new stop → UncatlgStops name old new stop
uncatalogues_stop new (Refused (LogFull lines room)) l u = (l, u)
uncatalogues_stop new (Refused refusal) l u = absurd u
uncatalogues_stop new DiskFault l u = tt
uncatalogues_stop new MediaFault l u = absurd u
uncatalogues_stop new Failed l u = tt

pub has_name : {heap : Heap} {name : List ℕ} {place : Place} {object : ℕ} → IsName name → Searches heap name (Some place) →
    HasWord (heap.blocks place.addr) 2 object → HasName name object heap
has_name {heap} is s h = record {
  is = is;
  names_it = λ names k.
      let f = s.searched names k in
      let e = subst (λ p. KeepsEntry (heap.blocks p) f.row (first_of name_addr 0 f.behind)) (sym f.at_addr) (here k f.before f.row f.behind f.whole) in
      ap object_of (place_found f) ∙ ap (λ (v : ℕ). Some v) (sym (object_is (first_of name_addr 0 f.behind) f.row e.fits e.block h));
}

pub is_there : {heap : Heap} {name : List ℕ} {place : Place} → IsName name → Searches heap name (Some place) → IsThere name heap
is_there {place = place} is s = record {
  is = is;
  addr = place.addr;
  entry = λ names k.
      let f = s.searched names k in ap row_addr (place_found f) ∙ ap (λ (v : ℕ). Some v) (sym f.at_addr);
}

pub some_first : {heap : Heap} {name : List ℕ} {place : Place} → SomeNames heap → Searches heap name (Some place) → SomeFirst place heap
some_first {name = name} k s = record { names = k.names; name = name; keeps = k.keeps; is = s.searched k.names k.keeps }

pub uncatalogues : {old new : Heap} {name : List ℕ} {place : Place} → IsName name → Searches old name (Some place) → TakesOut place old new →
    UncataloguesName name old new
unfolding is_there
uncatalogues {name = name} {place = place} is s t = record {
  there = is_there is s;
  changes = λ names k. t.changes names name k (s.searched names k);
  renamed = λ names k. t.renamed names name k (s.searched names k);
}

pub catalogues : {old new : Heap} {name : List ℕ} {kind object : ℕ} → LacksName name old → AddsLast name kind object old new → CataloguesName name kind object old new
catalogues l a = record { lacks = l; adds = a }
