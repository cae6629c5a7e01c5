-- Pieces of a chain of extents are named by a new object, one by one.
use Rattle.std.proofs.Common.{◌≡◌, ◌≢◌, ◌+◌, ◌-◌, ◌*◌, ◌≤◌, ◌<◌, ◌^◌, ℕ, Bool, List, [], ◌∷◌, ◌++◌, length, min, true, false, refl, sym, ap, ◌∙◌, arith, subst, append_assoc, append-nil, length-append, eq-eqb}
use Rattle.std.specs.Prelude.{◌==◌, All, MatchBool, if◌then◌else◌}
use Rattle.std.proofs.lemmas.Bool.{ne_eqb}
use Rattle.std.proofs.lemmas.List.{length-map, map-append}
use Rattle.std.proofs.lemmas.List.Elements.{All-nil, All-push}
use Rattle.std.proofs.lemmas.List.Sums.{sum_by_push}
use Rattle.sdr_base.specs.Blocks.{Blocks}
use Rattle.sdr_base.specs.Entries.{Entries, BlocksAre}
use Rattle.sdr_base.specs.Linked.{first_of}
use Rattle.sdr_base.specs.Making.{Made}
use Rattle.sdr_base.specs.Objects.{AreFirstOf, Heap}
use Rattle.sdr_base.specs.ZcoObjects.{ExtentRow, ObjectRow, extent_addr, extent_block, extent_entries, object_entries}
use Rattle.sdr_base.specs.declared.account.Acct.{Acct}
use Rattle.sdr_base.specs.declared.moves.Move.{Move}
use Rattle.sdr_base.specs.declared.moves.Move.TheVariants.{Short, Took}
use Rattle.sdr_base.specs.declared.refusal.Refusal.TheVariants as refusals
use Rattle.sdr_base.specs.declared.stop.Stop.{Stop}
use Rattle.sdr_base.specs.declared.stop.Stop.TheVariants.{Refused, DiskFault, MediaFault, Failed}
use Rattle.sdr_base.proofs.GaveLemmas.{made_then, none_made}
use Rattle.sdr_base.proofs.StandingLemmas.{moved}
use Rattle.zco_obj.specs.Appending.{NamesSource}
use Rattle.zco_obj.specs.Beside.{KeepsPair}
use Rattle.zco_obj.specs.Extents.{extent_of, grown, with_extent}
use Rattle.zco_obj.specs.Gone.{NamedSource, sources_entries}
use Rattle.zco_obj.specs.Kept.{CapsuleFits, ExtentFits, ObjectFits, extents_length}
use Rattle.zco_obj.specs.Walks.{ExtentsAt, KeepsExtent, SomeExtent}
use Rattle.zco_obj.specs.declared.extent.ExtentPiece.{ExtentPiece}
use Rattle.zco_obj.proofs.SpotLemmas.{SpotOf}
use Rattle.zco_obj.proofs.WalkLemmas.{HasFirst, none_at_zero}
use Rattle.zco_ref.specs.Counting.{attached}
use Rattle.zco_ref.specs.Kept.{counted_entries}
use Rattle.zco_part.specs.Copying.{CopiesChain, CopyAt, CopyStops, HasCopied, IsSmall, SomeCopy, TookSomeExtents, parts, takes_extents}
use Rattle.zco_part.specs.Naming.{NamesPiece, PieceStops, SomeWholePair}
use Rattle.zco_part.specs.Pieces.{cut, filled, extents_at, whole_row}
use Rattle.zco_part.specs.Sources.{all_counted, pieces_of}
use Rattle.zco_obj.specs.Links.{SeesLink}
use Rattle.zco_obj.specs.declared.link.Link.{Link}
use Rattle.zco_part.specs.Walking.{Walked}
use Rattle.zco_part.specs.declared.span.Span.{Span}
use Rattle.zco_part.proofs.LinkLemmas.{keeps_at}
use Rattle.zco_part.proofs.SourceLemmas.{focus, more_below, more_fits, none_counted, of_most, others_now, source_now, spot_counts, spot_of, unfocus}
use Rattle.zco_part.proofs.WalkLemmas.{done_most, here, walk_at, walk_begun, walk_below, walk_count, walk_first, walk_many, walk_on, walk_over, walk_whole}

-- a piece has a byte, or it is left out
pub has_byte : (p : ExtentPiece) → p.bytes ≢ 0 → filled p ≡ p ∷ []
has_byte p nz = ap (λ v. if v then [] else p ∷ []) (ne_eqb p.bytes 0 nz)

no_byte : (p : ExtentPiece) → (p.bytes == 0) ≡ true → filled p ≡ []
no_byte p e = ap (λ v. if v then [] else p ∷ []) e

a_byte : (p : ExtentPiece) → (p.bytes == 0) ≡ false → filled p ≡ p ∷ []
a_byte p e = ap (λ v. if v then [] else p ∷ []) e

-- extents of pieces, and one more
pub placed_more : (addrs : List ℕ) (ps : List ExtentPiece) (addr : ℕ) (p : ExtentPiece) → length addrs ≡ length ps →
    extents_at (addrs ++ (addr ∷ [])) (ps ++ (p ∷ [])) ≡ extents_at addrs ps ++ (extent_of addr p ∷ [])
placed_more [] [] addr p e = refl
placed_more [] (q ∷ qs) addr p e = absurd (omega (arith, e))
placed_more (a ∷ as') [] addr p e = absurd (omega (arith, e))
placed_more (a ∷ as') (q ∷ qs) addr p e = ap (λ (l : List ExtentRow). extent_of a q ∷ l) (placed_more as' qs addr p (omega (arith, e)))

pub length-extents_at : (addrs : List ℕ) (ps : List ExtentPiece) → length addrs ≡ length ps →
    length (extents_at addrs ps) ≡ length ps
length-extents_at [] [] e = refl
length-extents_at [] (q ∷ qs) e = absurd (omega (arith, e))
length-extents_at (a ∷ as') [] e = absurd (omega (arith, e))
length-extents_at (a ∷ as') (q ∷ qs) e = let n = length-extents_at as' qs (omega (arith, e)) in omega (arith, n)

-- a whole object with one extent more is whole
pub whole_longer : (acct : Acct) (es : List ExtentRow) (e : ExtentRow) → with_extent (whole_row acct es) e ≡ whole_row acct (es ++ (e ∷ []))
whole_longer acct es e =
    let L = extents_length es in
    let part : grown (whole_row acct es) e.length ≡ extents_length (es ++ (e ∷ [])) =
    ap (λ v. if v then L + e.length else L) (eq-eqb (0 + L) L (omega arith))
    ∙ sym (sum_by_push (λ (x : ExtentRow). x.length) es e) in
    λ i. record (whole_row acct (es ++ (e ∷ []))) { part_length = part i }

pub whole_fits : (acct : Acct) (es : List ExtentRow) → All ExtentFits es → length es < 2 ^ 22 → ObjectFits (whole_row acct es)
whole_fits acct es fits few = record {
  headers = All-nil CapsuleFits;
  extents = fits;
  trailers = All-nil CapsuleFits;
  few = omega (arith, few);
  part = omega arith;
}

length-takes : (addrs : List ℕ) → length (takes_extents addrs) ≡ length addrs
length-takes addrs = length-map addrs (λ a. Took 32 a)

-- so many of the pieces of a chain were named
pub record CopyLeft (copy : ℕ) (acct : Acct) (addrs : List ℕ) (span : Span) (xs : List ExtentRow) (ss : List NamedSource) (rest : Entries)
    (heap : Heap) (cursor i : ℕ) (now : Span) : Type 0 where
  pub walk : Walked span xs cursor i now
  pub has : HasCopied copy acct addrs walk.done xs ss rest heap

-- so it is with whichever chain is there
pub record CopiedSoFar (copy first : ℕ) (span : Span) (old heap : Heap) (cursor i : ℕ) (now : Span) : Type 0 where
  pub addrs : List ℕ
  pub small : All IsSmall addrs
  pub made : Made (takes_extents addrs) old heap
  pub left : (acct : Acct) (xs : List ExtentRow) (ss : List NamedSource) (c : CopyAt copy acct old.blocks first xs ss) →
      CopyLeft copy acct addrs span xs ss c.rest heap cursor i now

pub copy_begun : (copy first : ℕ) (span : Span) (old : Heap) → CopiedSoFar copy first span old old first 0 span
copy_begun copy first span old = record {
  addrs = [];
  small = All-nil IsSmall;
  made = none_made old;
  left = λ acct xs ss c. record {
    walk = walk_begun span xs first c.at_first;
    has = record {
      each = refl;
      fits = All-nil ExtentFits;
      stands =
          subst (λ (l : List NamedSource). BlocksAre old.blocks
          (object_entries copy (whole_row acct []) ++ (sources_entries l ++ (extent_entries xs ++ c.rest))))
          (sym (none_counted acct ss)) c.stands;
    };
  };
}

-- a chain, so far
module _ {copy : ℕ} {acct : Acct} {addrs : List ℕ} {span now : Span} {first : ℕ} {xs : List ExtentRow} {ss : List NamedSource} {blocks : Blocks} {heap : Heap}
    {cursor i : ℕ} (c : CopyAt copy acct blocks first xs ss) (l : CopyLeft copy acct addrs span xs ss c.rest heap cursor i now) where
  pub chain_now : ExtentsAt heap.blocks first xs
  chain_now =
      let M = object_entries copy (whole_row acct (extents_at addrs l.walk.done)) in
      let S = sources_entries (all_counted acct l.walk.done ss) in
      let X = extent_entries xs in
      record {
        rest = (M ++ S) ++ c.rest;
        stands = moved (M ++ S) X c.rest
            (subst (λ (es : Entries). BlocksAre heap.blocks es) (sym (append_assoc M S (X ++ c.rest))) l.has.stands);
        at_first = c.at_first;
        fits = c.fits;
        few = c.few;
      }

  pub none_left : cursor ≡ 0 → l.walk.left ≡ []
  none_left z = none_at_zero ExtentFits extent_addr extent_block chain_now l.walk.passed l.walk.left l.walk.whole l.walk.at_cursor z

  module _ (h : HasFirst l.walk.left) where
    pub keeps_here : KeepsExtent (heap.blocks cursor) (first_of extent_addr 0 h.behind) h.one
    keeps_here =
        subst (λ a. KeepsExtent (heap.blocks a) (first_of extent_addr 0 h.behind) h.one) (sym (walk_at l.walk h))
        (keeps_at chain_now l.walk.passed h.one h.behind (walk_whole l.walk h))

    module _ (p : ExtentPiece) (is : p ≡ here l.walk h) where
      pub spot : SpotOf p.of ss
      spot =
          subst (λ a. SpotOf a ss) (sym (ap (λ (q : ExtentPiece). q.of) is))
          (spot_of c.may l.walk.passed h.one h.behind (walk_whole l.walk h))

      pub done_few : length l.walk.done < 2 ^ 22
      done_few = let f = l.walk.few in let b = walk_below l.walk h in let k = c.few in omega (arith, f, b, k)

      -- the object, and the source that the piece is of
      abbrev pub pair : KeepsPair heap.blocks copy (whole_row acct (extents_at addrs l.walk.done)) p.of (source_now acct l.walk.done p spot)
      pair =
          let m = spot_counts c.may spot in
          let most = of_most spot.here.addr l.walk.done in
          let few : pieces_of spot.here.addr l.walk.done < 2 ^ 22 = let d = done_few in omega (arith, most, d) in
          record {
            rest = others_now acct l.walk.done p spot (extent_entries xs ++ c.rest);
            stands = focus acct l.walk.done p spot (object_entries copy (whole_row acct (extents_at addrs l.walk.done)))
                (extent_entries xs ++ c.rest) l.has.stands;
            object_fits = whole_fits acct (extents_at addrs l.walk.done) l.has.fits
                (let n = length-extents_at addrs l.walk.done l.has.each in let d = done_few in omega (arith, n, d));
            source_fits = more_fits acct (pieces_of spot.here.addr l.walk.done) spot.here m few;
            below = more_below acct (pieces_of spot.here.addr l.walk.done) spot.here m few;
          }

      -- an extent of it came, which its source counts
      pub named_more : {new : Heap} (n : NamesSource copy p heap new) →
          HasCopied copy acct (addrs ++ (n.addr ∷ [])) (l.walk.done ++ (p ∷ [])) xs ss c.rest new
      named_more {new} n =
          let done = l.walk.done in
          let M = object_entries copy (whole_row acct (extents_at addrs done)) in
          let E = extents_at addrs done ++ (extent_of n.addr p ∷ []) in
          let M' = object_entries copy (whole_row acct E) in
          let C = counted_entries p.of (source_now acct done p spot) in
          let C' = counted_entries p.of (attached acct (source_now acct done p spot)) in
          let O = others_now acct done p spot (extent_entries xs ++ c.rest) in
          let at_end = placed_more addrs done n.addr p l.has.each in
          let step : BlocksAre new.blocks (M' ++ (C' ++ O)) =
          subst (λ (es : Entries). BlocksAre new.blocks es) (append_assoc M' C' O)
          (subst (λ (r : ObjectRow). BlocksAre new.blocks ((object_entries copy r ++ C') ++ O)) (whole_longer acct (extents_at addrs done) (extent_of n.addr p))
          ((n.names (whole_row acct (extents_at addrs done)) (source_now acct done p spot) pair).kept O
          (subst (λ (es : Entries). BlocksAre heap.blocks es) (sym (append_assoc M C O)) pair.stands))) in
          record {
            each = let a = length-append addrs (n.addr ∷ []) in let b = length-append done (p ∷ []) in let e = l.has.each in omega (arith, a, b, e);
            fits = subst (All ExtentFits) (sym at_end) (All-push ExtentFits (extents_at addrs done) (extent_of n.addr p) l.has.fits new_fits);
            stands =
                subst (λ (es : List ExtentRow). BlocksAre new.blocks
                (object_entries copy (whole_row acct es) ++ (sources_entries (all_counted acct (done ++ (p ∷ [])) ss) ++ (extent_entries xs ++ c.rest))))
                (sym at_end)
                (unfocus acct done p spot M M' (extent_entries xs ++ c.rest) l.has.stands step);
          }
        where
          new_fits : ExtentFits (extent_of n.addr p)
          new_fits =
              let f = keeps_here.fits in
              let i = f.inside in
              let of = ap (λ (q : ExtentPiece). q.of) is in
              let s = f.source in
              let o = ap (λ (q : ExtentPiece). q.offset) is in
              let b = ap (λ (q : ExtentPiece). q.bytes) is in
              record {
                addr = let a = n.new_block.small in omega (arith, a);
                source = omega (arith, of, s);
                inside = within now.from now.to h.one.length p.offset p.bytes o b i;
              }
            where
              within : (from to all offset bytes : ℕ) → offset ≡ h.one.offset + min from all → bytes ≡ min to all - min from all →
                  h.one.offset + all ≤ 2 ^ 40 → offset + bytes ≤ 2 ^ 40
              within from to all offset bytes o b i = omega (arith, o, b, i)

module _ {copy first : ℕ} {span now : Span} {old heap : Heap} {cursor i : ℕ} (l : CopiedSoFar copy first span old heap cursor i now) where
  pub extent_there : cursor ≢ 0 → SomeCopy copy old first span → SomeExtent (heap.blocks cursor)
  extent_there nz q =
      let f = l.left q.acct q.extents q.sources q.is in
      record { next = _; extent = _; keeps = keeps_here q.is f (walk_first f.walk nz) }

  module _ (link : Link) (p : ExtentPiece) (nz : cursor ≢ 0) (v : SeesLink (heap.blocks cursor) link) (e : p ≡ cut now.from now.to link.piece) where
    module _ {acct : Acct} {xs : List ExtentRow} {ss : List NamedSource} (c : CopyAt copy acct old.blocks first xs ss) where
      abbrev f : CopyLeft copy acct l.addrs span xs ss c.rest heap cursor i now
      f = l.left acct xs ss c

      abbrev h : HasFirst f.walk.left
      h = walk_first f.walk nz

      is_here : p ≡ here f.walk h
      is_here = e ∙ ap (cut now.from now.to) (v.piece _ h.one (keeps_here c f h))

      abbrev walk_next : (after : Span) → after.from ≡ now.from - link.piece.bytes → after.to ≡ now.to - link.piece.bytes →
          Walked span xs link.next (i + 1) after
      walk_next after from to =
          let is = v.piece _ h.one (keeps_here c f h) in
          walk_on f.walk h link.next after (v.next _ h.one (keeps_here c f h)) (from ∙ ap (λ (q : ExtentPiece). now.from - q.bytes) is)
          (to ∙ ap (λ (q : ExtentPiece). now.to - q.bytes) is)

      -- with it there are so many pieces at least
      count_with : length l.addrs + length (filled p) ≤ length (parts span xs)
      count_with =
          let w = walk_count f.walk h in
          let n = ap (λ (q : ExtentPiece). length (filled q)) is_here in
          let k = f.has.each in omega (arith, w, n, k)

      copied : (ps : List ExtentPiece) (addrs : List ℕ) {new : Heap} (after : Span) (from : after.from ≡ now.from - link.piece.bytes)
          (to : after.to ≡ now.to - link.piece.bytes) → filled p ≡ ps →
          HasCopied copy acct addrs (f.walk.done ++ ps) xs ss c.rest new →
          CopyLeft copy acct addrs span xs ss c.rest new link.next (i + 1) after
      copied ps addrs {new} after from to e' has = record {
        walk = walk_next after from to;
        has =
            subst (λ (q : ExtentPiece). HasCopied copy acct addrs (f.walk.done ++ filled q) xs ss c.rest new) is_here
            (subst (λ (qs : List ExtentPiece). HasCopied copy acct addrs (f.walk.done ++ qs) xs ss c.rest new)
            (sym e') has);
      }

    pub pair_there : SomeCopy copy old first span → SomeWholePair heap.blocks copy p.of
    pair_there q = record {
      pair = record { row = _; source = _; keeps = pair q.is (f q.is) (h q.is) p (is_here q.is) };
      whole = refl;
    }

    pub room_there : SomeCopy copy old first span → length (filled p) ≤ heap.spare
    room_there q =
        let n = count_with q.is in
        let r = q.room in
        let m : heap.spare ≡ old.spare - length (takes_extents l.addrs) = ap (λ (x : Heap). x.spare) l.made.all in
        let k = length-takes l.addrs in omega (arith, n, r, m, k)

    -- it was named
    pub copy_on : {new : Heap} (after : Span) → after.from ≡ now.from - link.piece.bytes → after.to ≡ now.to - link.piece.bytes →
        NamesPiece copy p heap new → CopiedSoFar copy first span old new link.next (i + 1) after
    copy_on {new} after from to n = by (p.bytes == 0) refl n
      where
        by : (b : Bool) → (p.bytes == 0) ≡ b → MatchBool b (new ≡ heap) (NamesSource copy p heap new) →
            CopiedSoFar copy first span old new link.next (i + 1) after
        by true none same = record {
          addrs = l.addrs;
          small = l.small;
          made = subst (λ (x : Heap). Made (takes_extents l.addrs) old x) (sym same) l.made;
          left = λ acct xs ss c.
              copied c [] l.addrs after from to (no_byte p none)
              (subst (λ (x : Heap). HasCopied copy acct l.addrs ((f c).walk.done ++ []) xs ss c.rest x) (sym same)
              (subst (λ (qs : List ExtentPiece). HasCopied copy acct l.addrs qs xs ss c.rest heap) (sym (append-nil (f c).walk.done)) (f c).has));
        }
        by false some names = record {
          addrs = l.addrs ++ (names.addr ∷ []);
          small = All-push IsSmall l.addrs names.addr l.small names.new_block.small;
          made =
              subst (λ (ms : List Move). Made ms old new) (sym (map-append (λ a. Took 32 a) l.addrs (names.addr ∷ [])))
              (made_then (takes_extents l.addrs) (Took 32 names.addr ∷ []) l.made names.made);
          left = λ acct xs ss c.
              copied c (p ∷ []) (l.addrs ++ (names.addr ∷ [])) after from to (a_byte p some)
              (named_more c (f c) (h c) p (is_here c) names);
        }

    -- or it wasn't
    pub copy_stops : (new : Heap) (stop : Stop) → PieceStops p heap new stop → CopyStops copy first span old new stop
    copy_stops new (Refused (refusals.NoBlock missing)) s = record {
      is = s.1.0;
      addrs = l.addrs;
      few = λ acct xs ss c. let n = count_with c in let b = ap (length {A = ExtentPiece}) (has_byte p s.0) in omega (arith, n, b);
      moves =
          ap (λ (x : Heap). x.moves) s.1.1 ∙ ap (λ (ms : List Move). ms ++ (Short 32 ∷ [])) (ap (λ (x : Heap). x.moves) l.made.all)
          ∙ append_assoc old.moves (takes_extents l.addrs) (Short 32 ∷ []);
      spare =
          let a : new.spare ≡ heap.spare - 1 = ap (λ (x : Heap). x.spare) s.1.1 in
          let m : heap.spare ≡ old.spare - length (takes_extents l.addrs) = ap (λ (x : Heap). x.spare) l.made.all in
          let k = length-takes l.addrs in omega (arith, a, m, k);
    }
    copy_stops new (Refused (refusals.LogFull lines room)) s = by s.1.made s.1.first s.1.moves s.1.spare
      where
        by : (made : List Move) → AreFirstOf (Took 32 s.1.addr ∷ []) made → new.moves ≡ heap.moves ++ made → new.spare ≡ heap.spare - length made →
            TookSomeExtents copy first span old new
        by [] first' m r = record {
          addrs = l.addrs;
          few = λ acct xs ss c. let n = count_with c in omega (arith, n);
          moves = m ∙ append-nil heap.moves ∙ ap (λ (x : Heap). x.moves) l.made.all;
          spare =
              let a : heap.spare ≡ old.spare - length (takes_extents l.addrs) = ap (λ (x : Heap). x.spare) l.made.all in
              let k = length-takes l.addrs in omega (arith, a, r, k);
        }
        by (move ∷ moves) first' m r =
            let one = only moves first'.rest first'.whole in
            record {
              addrs = l.addrs ++ (s.1.addr ∷ []);
              few = λ acct xs ss c.
                  let n = count_with c in let b = ap (length {A = ExtentPiece}) (has_byte p s.0) in
                  let a = length-append l.addrs (s.1.addr ∷ []) in omega (arith, n, b, a);
              moves =
                  m ∙ ap (λ (ms : List Move). heap.moves ++ ms) one ∙ ap (λ (ms : List Move). ms ++ (Took 32 s.1.addr ∷ [])) (ap (λ (x : Heap). x.moves) l.made.all)
                  ∙ append_assoc old.moves (takes_extents l.addrs) (Took 32 s.1.addr ∷ [])
                  ∙ ap (λ (ms : List Move). old.moves ++ ms) (sym (map-append (λ a. Took 32 a) l.addrs (s.1.addr ∷ [])));
              spare =
                  let a : heap.spare ≡ old.spare - length (takes_extents l.addrs) = ap (λ (x : Heap). x.spare) l.made.all in
                  let k = length-takes l.addrs in
                  let n = ap (length {A = Move}) one in
                  let b = length-append l.addrs (s.1.addr ∷ []) in omega (arith, a, r, k, n, b);
            }
          where
            only : {x y : Move} (ys zs : List Move) → x ∷ [] ≡ (y ∷ ys) ++ zs → y ∷ ys ≡ x ∷ []
            only [] zs w = cc
            only (z ∷ ys) zs w = absurd (cc)
    copy_stops new (Refused refusal) s = absurd s.1
    copy_stops new DiskFault s = s
    copy_stops new MediaFault s = s
    copy_stops new Failed s = s

    -- so many moves were made with it
    pub moves_with : (new : Heap) → NamesPiece copy p heap new →
        length new.moves ≡ length heap.moves + length (filled p)
    moves_with new n = by (p.bytes == 0) refl n
      where
        by : (b : Bool) → (p.bytes == 0) ≡ b → MatchBool b (new ≡ heap) (NamesSource copy p heap new) →
            length new.moves ≡ length heap.moves + length (filled p)
        by true none same =
            let a = ap (λ (x : Heap). length x.moves) same in let b = ap (length {A = ExtentPiece}) (no_byte p none) in omega (arith, a, b)
        by false some names =
            let a : length new.moves ≡ length (heap.moves ++ (Took 32 names.addr ∷ [])) = ap (λ (x : Heap). length x.moves) names.made.all in
            let d = length-append heap.moves (Took 32 names.addr ∷ []) in
            let b = ap (length {A = ExtentPiece}) (a_byte p some) in omega (arith, a, b, d)

    -- and so many lines touched at most
    pub lines_with : {acct : Acct} {xs : List ExtentRow} {ss : List NamedSource} → CopyAt copy acct old.blocks first xs ss →
        33 * (length heap.moves - length old.moves) + 33 * length (filled p) ≤ 33 * length (parts span xs)
    lines_with c =
        let m : length heap.moves ≡ length (old.moves ++ takes_extents l.addrs) = ap (λ (x : Heap). length x.moves) l.made.all in
        let a = length-append old.moves (takes_extents l.addrs) in
        let k = length-takes l.addrs in
        let n = count_with c in omega (arith, m, a, k, n)

  pub moves_so_far : length heap.moves ≡ length old.moves + length l.addrs
  moves_so_far =
      let m : length heap.moves ≡ length (old.moves ++ takes_extents l.addrs) = ap (λ (x : Heap). length x.moves) l.made.all in
      let a = length-append old.moves (takes_extents l.addrs) in
      let k = length-takes l.addrs in omega (arith, m, a, k)

  pub lines_most : {acct : Acct} {xs : List ExtentRow} {ss : List NamedSource} → CopyAt copy acct old.blocks first xs ss →
      33 * (length heap.moves - length old.moves) ≤ 33 * length (parts span xs)
  lines_most {acct} {xs} {ss} c =
      let m = moves_so_far in
      let d = done_most (l.left acct xs ss c).walk in
      let e = (l.left acct xs ss c).has.each in omega (arith, m, d, e)

  copies_where : ((acct : Acct) (xs : List ExtentRow) (ss : List NamedSource) (c : CopyAt copy acct old.blocks first xs ss) →
      (l.left acct xs ss c).walk.left ≡ []) → CopiesChain copy first span old heap
  copies_where none = record {
    addrs = l.addrs;
    small = l.small;
    made = l.made;
    copies = λ acct xs ss c.
        let f = l.left acct xs ss c in
        subst (λ (ps : List ExtentPiece). HasCopied copy acct l.addrs ps xs ss c.rest heap) (sym (walk_over f.walk (none acct xs ss c))) f.has;
  }

  -- all are named
  pub copies_all : cursor ≡ 0 → CopiesChain copy first span old heap
  copies_all z = copies_where (λ acct xs ss c. none_left c (l.left acct xs ss c) z)

  pub copies_many : i ≡ 4194304 → CopiesChain copy first span old heap
  copies_many all = copies_where (λ acct xs ss c. walk_many (l.left acct xs ss c).walk all c.few)
