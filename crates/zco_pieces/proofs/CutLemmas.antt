-- An object is kept so that a piece of it may be cloned.
use Rattle.std.proofs.Common.{◌≡◌, ◌-◌, ◌*◌, ℕ, List, length, min, ap, arith}
use Rattle.sdr_base.specs.Objects.{Heap}
use Rattle.sdr_base.specs.ZcoObjects.{ObjectRow}
use Rattle.sdr_model.specs.declared.accounts.Ticket.{Ticket}
use Rattle.zco_obj.specs.Gone.{NamedSource}
use Rattle.zco_obj.specs.Kept.{KeepsObject}
use Rattle.zco_obj.proofs.ChargeLemmas.{object_of}
use Rattle.zco_part.specs.Cloning.{KeepsToClone, SomeToClone}
use Rattle.zco_part.specs.Pieces.{asked}
use Rattle.zco_pieces.specs.Cutting.{HasLength, SomeToCut}
use Rattle.zco_pieces.specs.Places.{cut_length}

pub kept_object : {heap : Heap} {object : ℕ} {row : ObjectRow} {tickets : List Ticket} {sources : List NamedSource} →
    KeepsToClone heap object row tickets sources → KeepsObject heap.blocks object row
kept_object k = object_of k.beside.keeps

-- the piece of a number has as many bytes as the code asks for
pub cut_is : (heap : Heap) {object total : ℕ} (most k : ℕ) {row : ObjectRow} → HasLength object total heap → KeepsObject heap.blocks object row →
    min most (total - k * most) ≡ cut_length row.part_length most k
cut_is heap most k {row} h o = ap (λ n. min most (n - k * most)) (h.told.tells row o)

pub to_clone : (heap : Heap) {object total : ℕ} (most k : ℕ) → HasLength object total heap → SomeToCut heap object most k →
    SomeToClone heap object (k * most) (min most (total - k * most))
to_clone heap most k h s = record {
  row = s.row;
  tickets = s.tickets;
  sources = s.sources;
  keeps = s.keeps;
  room =
      let e = ap (λ n. length (asked (k * most) n s.row)) (cut_is heap most k h (kept_object s.keeps)) in
      let r = s.room in omega (arith, e, r);
}
