-- How many pieces a chain of extents has.
use Rattle.std.proofs.Common.{◌≡◌, ◌≢◌, ◌+◌, ◌-◌, ℕ, List, [], length, refl, sym, ap, ◌∙◌, arith, subst, length-append}
use Rattle.sdr_base.specs.Blocks.{Blocks}
use Rattle.sdr_base.specs.Linked.{first_of}
use Rattle.sdr_base.specs.ZcoObjects.{ExtentRow, extent_addr, extent_block}
use Rattle.zco_obj.proofs.WalkLemmas.{HasFirst, none_at_zero}
use Rattle.zco_obj.specs.Kept.{ExtentFits}
use Rattle.zco_obj.specs.Links.{SeesLink, piece_of}
use Rattle.zco_obj.specs.Walks.{ExtentsAt, KeepsExtent, SomeExtent, SomeExtents}
use Rattle.zco_obj.specs.declared.extent.ExtentPiece.{ExtentPiece}
use Rattle.zco_obj.specs.declared.link.Link.{Link}
use Rattle.zco_part.proofs.LinkLemmas.{keeps_at}
use Rattle.zco_part.proofs.WalkLemmas.{here, walk_at, walk_begun, walk_first, walk_many, walk_on, walk_over, walk_whole}
use Rattle.zco_part.specs.Charging.{CountsPieces}
use Rattle.zco_part.specs.Pieces.{cut, filled}
use Rattle.zco_part.specs.Walking.{Walked}
use Rattle.zco_part.specs.declared.span.Span.{Span}

-- so many pieces have those that were passed
pub record CountedPieces (span : Span) (xs : List ExtentRow) (cursor i : ℕ) (now : Span) (count : ℕ) : Type 0 where
  pub walk : Walked span xs cursor i now
  pub sum : count ≡ length walk.done

-- so it is with whichever chain is there
pub record CountsSoFar (blocks : Blocks) (first : ℕ) (span : Span) (cursor i : ℕ) (now : Span) (count : ℕ) : Type 0 where
  pub so_far : (xs : List ExtentRow) → ExtentsAt blocks first xs → CountedPieces span xs cursor i now count

pub count_begun : (blocks : Blocks) (first : ℕ) (span : Span) → CountsSoFar blocks first span first 0 span 0
count_begun blocks first span = record {
  so_far = λ xs c. record { walk = walk_begun span xs first c.at_first; sum = refl };
}

module _ {blocks : Blocks} {first : ℕ} {span now : Span} {cursor i count : ℕ} (l : CountsSoFar blocks first span cursor i now count) where
  -- the next extent is there
  keeps_here : {xs : List ExtentRow} (c : ExtentsAt blocks first xs) (h : HasFirst (l.so_far xs c).walk.left) →
      KeepsExtent (blocks cursor) (first_of extent_addr 0 h.behind) h.one
  keeps_here {xs} c h =
      let w = (l.so_far xs c).walk in
      subst (λ a. KeepsExtent (blocks a) (first_of extent_addr 0 h.behind) h.one) (sym (walk_at w h))
      (keeps_at c w.passed h.one h.behind (walk_whole w h))

  pub extent_there : cursor ≢ 0 → SomeExtents blocks first → SomeExtent (blocks cursor)
  extent_there nz q =
      record { next = _; extent = _; keeps = keeps_here q.is (walk_first (l.so_far q.rows q.is).walk nz) }

  -- one more was passed
  pub count_on : (link : Link) (piece : ExtentPiece) (more count' : ℕ) (after : Span) → cursor ≢ 0 → SeesLink (blocks cursor) link →
      piece ≡ cut now.from now.to link.piece → more ≡ length (filled piece) → count' ≡ count + more →
      after.from ≡ now.from - link.piece.bytes → after.to ≡ now.to - link.piece.bytes →
      CountsSoFar blocks first span link.next (i + 1) after count'
  count_on link piece more count' after nz v e m p from to = record {
    so_far = λ xs c.
        let so = l.so_far xs c in
        let w = so.walk in
        let h = walk_first w nz in
        let k = keeps_here c h in
        let is : link.piece ≡ piece_of h.one = v.piece _ h.one k in
        record {
          walk = walk_on w h link.next after (v.next _ h.one k) (from ∙ ap (λ (q : ExtentPiece). now.from - q.bytes) is)
              (to ∙ ap (λ (q : ExtentPiece). now.to - q.bytes) is);
          sum =
              let both = length-append w.done (filled (here w h)) in
              let one : more ≡ length (filled (here w h)) =
              m ∙ ap (λ (q : ExtentPiece). length (filled q)) (e ∙ ap (cut now.from now.to) is) in
              let s = so.sum in omega (arith, both, one, s, p);
        };
  }

  counts_where : ((xs : List ExtentRow) (c : ExtentsAt blocks first xs) → (l.so_far xs c).walk.left ≡ []) →
      CountsPieces blocks first span.from span.to count
  counts_where none = record {
    counts = λ xs c.
        let so = l.so_far xs c in so.sum ∙ ap (length {A = ExtentPiece}) (sym (walk_over so.walk (none xs c)));
  }

  pub count_all : cursor ≡ 0 → CountsPieces blocks first span.from span.to count
  count_all z =
      counts_where (λ xs c. let w = (l.so_far xs c).walk in
      none_at_zero ExtentFits extent_addr extent_block c w.passed w.left w.whole w.at_cursor z)

  pub count_many : i ≡ 4194304 → CountsPieces blocks first span.from span.to count
  count_many all = counts_where (λ xs c. walk_many (l.so_far xs c).walk all c.few)
