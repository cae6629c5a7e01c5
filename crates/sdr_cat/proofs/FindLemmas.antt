-- What is told of an entry.
use Rattle.std.proofs.Common.{ℕ, ◌<◌, ◌≤◌, ◌^◌, get_or, List, Some, None, Option, sym, ap, ◌∙◌, arith, subst}
use Rattle.sdr_base.specs.Blocks.{Block, HasBytes, Reaches}
use Rattle.sdr_base.specs.Catalogue.{name_addr}
use Rattle.sdr_base.specs.Linked.{first_of}
use Rattle.sdr_base.specs.Objects.{Heap}
use Rattle.sdr_base.specs.Words.{HasWord}
use Rattle.sdr_cat.specs.Calls.{FindsName, LacksName, row_told}
use Rattle.sdr_cat.specs.Kept.{KeepsEntry, SomeEntry}
use Rattle.sdr_cat.specs.Names.{IsName}
use Rattle.sdr_cat.specs.Walks.{Searches, TellsEntry}
use Rattle.sdr_cat.specs.declared.searching.Place.{Place}
use Rattle.sdr_cat.proofs.NameLemmas.{name_reaches, name_read, object_is, type_is}
use Rattle.sdr_cat.proofs.WalkLemmas.{here, place_found}

pub entry_reaches : {found : Option Block} → SomeEntry found → Reaches found 56
entry_reaches e = name_reaches e.next e.row e.keeps.fits.short e.keeps.block

pub type_fits : {found : Option Block} {value : ℕ} → SomeEntry found → HasWord found 1 value → value < 2 ^ 32
type_fits e h = let f = e.keeps.fits.type_number in let v = type_is e.next e.row e.keeps.fits e.keeps.block h in omega (arith, f, v)

-- the two words are the type and the object
pub tells : {found : Option Block} {kind object : ℕ} → HasWord found 1 kind → HasWord found 2 object → TellsEntry found (kind, object)
tells h o = record {
  tells = λ row next k. let a = type_is next row k.fits k.block h in let b = object_is next row k.fits k.block o in λ i. (a i, b i);
}

-- the name was found
pub finds : {heap : Heap} {name : List ℕ} {place : Place} {value : ℕ × ℕ} → IsName name → Searches heap name (Some place) → TellsEntry (heap.blocks place.addr) value →
    FindsName name heap value
finds {heap} {name} {place} {value} is s t = record {
  is = is;
  tells = λ names k.
      let f = s.searched names k in
      let e = subst (λ p. KeepsEntry (heap.blocks p) f.row (first_of name_addr 0 f.behind)) (sym f.at_addr) (here k f.before f.row f.behind f.whole) in
      ap row_told (place_found f) ∙ ap (λ (v : ℕ × ℕ). Some v) (sym (t.tells f.row (first_of name_addr 0 f.behind) e));
}

-- or it isn't there
pub lacks : {heap : Heap} {name : List ℕ} → IsName name → Searches heap name None → LacksName name heap
lacks is s = record { is = is; lacks = λ names k. s.searched names k }

-- the length of an entry's name as it was read
pub name_short : {found : Option Block} (bytes : List ℕ) → SomeEntry found → HasBytes found 24 32 bytes → get_or bytes 0 0 ≤ 31
name_short bytes e h =
    let b = ap (λ (x : List ℕ). get_or x 0 0) (name_read e.next e.row e.keeps.fits.short e.keeps.block h) in
    let s = e.keeps.fits.short in omega (arith, b, s)
