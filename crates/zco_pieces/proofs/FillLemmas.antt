-- Gaps are filled from an object, one after another.
use Rattle.std.proofs.Common.{◌≡◌, ◌≢◌, ◌+◌, ◌-◌, ◌≤◌, ◌<◌, ◌^◌, ℕ, Bool, true, false, List, [], ◌∷◌, ◌++◌, length, refl, sym, ap, ◌∙◌, subst, arith, append_assoc, append-nil, eq-eqb, get_or, length-append, set}
use Rattle.std.specs.Prelude.{◌==◌, All, MatchBool, if◌then◌else◌}
use Rattle.std.proofs.lemmas.Bool.{ne_eqb}
use Rattle.std.proofs.lemmas.List.{length-map}
use Rattle.std.proofs.lemmas.List.Elements.{All-cons, All-head, All-nil, All-tail, All-weaker}
use Rattle.std.proofs.lemmas.List.Sums.{sum_by-append, sum_by-cons}
use Rattle.sdr_base.specs.Entries.{BlocksAre, Entries}
use Rattle.sdr_base.specs.Objects.{Heap, OnlyFault}
use Rattle.sdr_base.specs.ZcoObjects.{ExtentRow, ObjectRow, object_entries}
use Rattle.sdr_base.specs.declared.account.Acct.{Acct}
use Rattle.sdr_base.specs.declared.moves.Move.TheVariants.{Took}
use Rattle.sdr_base.specs.declared.stop.Stop.{Stop}
use Rattle.sdr_base.specs.declared.stop.Stop.TheVariants.{DiskFault, Failed, MediaFault, Refused}
use Rattle.sdr_model.specs.declared.accounts.Ticket.{Ticket}
use Rattle.zco_acct.specs.Charges.{charged}
use Rattle.zco_acct.specs.Kept.{queue_entries}
use Rattle.zco_acct.specs.Words.{first_word, last_word, with_occupied}
use Rattle.zco_obj.specs.Gone.{NamedSource, sources_entries}
use Rattle.zco_obj.specs.Links.{piece_of}
use Rattle.zco_obj.specs.declared.extent.ExtentPiece.{ExtentPiece}
use Rattle.zco_part.specs.Charging.{clone_amounts}
use Rattle.zco_part.specs.Cloning.{ClonesPart, IsCloned, KeepsToClone, SomeToClone, takes_clone}
use Rattle.zco_part.specs.Copying.{takes_extents}
use Rattle.zco_part.specs.Pieces.{asked, cut, extents_at, filled, pieces, whole_row}
use Rattle.zco_part.specs.Sources.{MayCount, all_counted, counted, pieces_of}
use Rattle.zco_join.specs.Stocks.{CountsMore}
use Rattle.zco_join.proofs.SourceLemmas.{more_fits, of_most}
use Rattle.zco_join.proofs.WholeLemmas.{filled_most}
use Rattle.zco_pieces.specs.Adding.{BeginAt, FillsGap, FillsPart, FillsParts, FillsSome, KeepsToFill, SomeToFill, StopsFirst, StopsPart, moves_to_fill}
use Rattle.zco_join.specs.declared.filled.Filled.{Filled}
use Rattle.zco_join.proofs.CountedLemmas.{all_behind, all_less, all_there_still, counts_less}
use Rattle.zco_join.proofs.TicketLemmas.{first_charged, fits_charged, last_charged, occupied_first, occupied_last}
use Rattle.zco_join.proofs.TurnLemmas.{swapped, turn}

-- no more pieces are asked for than there are extents
pub pieces_most : (from to : ℕ) (es : List ExtentRow) → length (pieces from to es) ≤ length es
pieces_most from to [] = omega arith
pieces_most from to (e ∷ es) =
    let one = filled_most (cut from to (piece_of e)) in
    let ih = pieces_most (from - e.length) (to - e.length) es in
    let l = length-append (filled (cut from to (piece_of e))) (pieces (from - e.length) (to - e.length) es) in
    omega (arith, one, ih, l)

-- the moves for one part
abbrev pub part_moves : ℕ → ObjectRow → Filled → ℕ
part_moves offset row p = if p.object == 0 then 1 + length (asked (p.offset - offset) p.length row) else 0

pub moves_cons : (offset : ℕ) (row : ObjectRow) (p : Filled) (ps : List Filled) →
    moves_to_fill offset row (p ∷ ps) ≡ part_moves offset row p + moves_to_fill offset row ps
moves_cons offset row p ps = sum_by-cons (part_moves offset row) p ps

pub moves_append : (offset : ℕ) (row : ObjectRow) (ps qs : List Filled) →
    moves_to_fill offset row (ps ++ qs) ≡ moves_to_fill offset row ps + moves_to_fill offset row qs
moves_append offset row ps qs = sum_by-append (part_moves offset row) ps qs

pub gap_moves : (offset : ℕ) (row : ObjectRow) (p : Filled) → p.object ≡ 0 → part_moves offset row p ≡ 1 + length (asked (p.offset - offset) p.length row)
gap_moves offset row p e = ap (λ v. if v then 1 + length (asked (p.offset - offset) p.length row) else 0) (eq-eqb p.object 0 e)

pub kept_moves : (offset : ℕ) (row : ObjectRow) (p : Filled) → p.object ≢ 0 → part_moves offset row p ≡ 0
kept_moves offset row p e = ap (λ v. if v then 1 + length (asked (p.offset - offset) p.length row) else 0) (ne_eqb p.object 0 e)

-- fewer may be counted where more may
pub counts_fewer : (n m : ℕ) (ss : List NamedSource) → m ≤ n → All (CountsMore n) ss → All (CountsMore m) ss
counts_fewer n m ss le all =
    All-weaker (CountsMore n) (CountsMore m)
    (λ s c. record { inbound = let i = c.inbound in omega (arith, i, le); outbound = let o = c.outbound in omega (arith, o, le) }) ss all

-- some of the parts may be filled where all may
pub fill_fewer : {heap : Heap} {object offset : ℕ} {ps : List Filled} {row : ObjectRow} {tickets : List Ticket} {sources : List NamedSource} (qs : List Filled) →
    moves_to_fill offset row qs ≤ moves_to_fill offset row ps → KeepsToFill heap object offset ps row tickets sources →
    KeepsToFill heap object offset qs row tickets sources
fill_fewer {offset = offset} {ps = ps} {row = row} {sources = sources} qs le k = record {
  keeps = k.keeps;
  counts = counts_fewer (moves_to_fill offset row ps) (moves_to_fill offset row qs) sources le k.counts;
  room = let r = k.room in omega (arith, r, le);
}

pub fill_first : {heap : Heap} {object offset : ℕ} {row : ObjectRow} {tickets : List Ticket} {sources : List NamedSource} (p : Filled) (ps : List Filled) →
    KeepsToFill heap object offset (p ∷ ps) row tickets sources → KeepsToFill heap object offset (p ∷ []) row tickets sources
fill_first {offset = offset} {row = row} p ps k =
    let a = moves_cons offset row p ps in
    let b = moves_cons offset row p [] in
    fill_fewer (p ∷ []) (omega (arith, a, b)) k

pub fill_later : {heap : Heap} {object offset : ℕ} {row : ObjectRow} {tickets : List Ticket} {sources : List NamedSource} (p : Filled) (ps : List Filled) →
    KeepsToFill heap object offset (p ∷ ps) row tickets sources → KeepsToFill heap object offset ps row tickets sources
fill_later {offset = offset} {row = row} p ps k =
    let a = moves_cons offset row p ps in fill_fewer ps (omega (arith, a)) k

-- a gap may be filled: the object may be cloned
pub fill_clone : {heap : Heap} {object offset : ℕ} {row : ObjectRow} {tickets : List Ticket} {sources : List NamedSource} (p : Filled) → p.object ≡ 0 →
    KeepsToFill heap object offset (p ∷ []) row tickets sources → SomeToClone heap object (p.offset - offset) p.length
fill_clone {offset = offset} {row = row} p gap k = record {
  row = _;
  tickets = _;
  sources = _;
  keeps = k.keeps;
  room = let a = moves_cons offset row p [] in let g = gap_moves offset row p gap in let r = k.room in omega (arith, a, g, r);
}

length-takes : (addrs : List ℕ) → length (takes_extents addrs) ≡ length addrs
length-takes addrs = length-map addrs (λ a. Took 32 a)

-- A clone was made.
module _ {object number offset bytes clone : ℕ} {old mid : Heap} (c : ClonesPart object number offset bytes old mid clone)
    {row : ObjectRow} {tickets : List Ticket} {sources : List NamedSource} (k : KeepsToClone old object row tickets sources) where
  abbrev pub asked_for : List ExtentPiece
  asked_for = asked offset bytes row

  abbrev pub tickets_then : List Ticket
  tickets_then = charged tickets number (clone_amounts asked_for)

  abbrev pub sources_then : List NamedSource
  sources_then = all_counted row.account asked_for sources

  pub is_cloned : IsCloned object number offset bytes clone c.addrs old mid row tickets sources
  is_cloned = c.clones row tickets sources k

  abbrev pub clone_entries : Entries
  clone_entries = object_entries clone (whole_row row.account (extents_at c.addrs asked_for))

  pub pieces_few : length asked_for < 2 ^ 22
  pieces_few =
      let m = pieces_most (row.part_offset + offset) (row.part_offset + offset + bytes) row.extents in
      let f = k.beside.keeps.fits.few in omega (arith, m, f)

  -- the object and its queue stand, and the clone beside them
  pub clone_stands : BlocksAre mid.blocks
      (object_entries object row ++ (queue_entries row.account tickets_then ++ (sources_entries sources_then ++ (clone_entries ++ k.beside.behind))))
  clone_stands =
      let O = object_entries object row in
      let Q = queue_entries row.account tickets in
      let S = sources_entries sources in
      let Q' = queue_entries row.account tickets_then in
      let S' = sources_entries sources_then in
      let C = clone_entries in
      let X = k.beside.behind in
      let one : BlocksAre old.blocks (O ++ (Q ++ (S ++ X))) =
      subst (λ (rest : Entries). BlocksAre old.blocks (O ++ (Q ++ rest))) k.beside.whole k.beside.keeps.stands in
      let two : BlocksAre old.blocks (((O ++ S) ++ Q) ++ X) =
      subst (λ (es : Entries). BlocksAre old.blocks es) (sym (append_assoc (O ++ S) Q X ∙ append_assoc O S (Q ++ X))) (swapped O Q S X one) in
      let three : BlocksAre mid.blocks (((C ++ (O ++ S')) ++ Q') ++ X) = is_cloned.pays.changes.kept X two in
      let four : BlocksAre mid.blocks (C ++ (O ++ (S' ++ (Q' ++ X)))) =
      subst (λ (es : Entries). BlocksAre mid.blocks es) (append_assoc (C ++ (O ++ S')) Q' X ∙ append_assoc C (O ++ S') (Q' ++ X)
      ∙ ap (λ (es : Entries). C ++ es) (append_assoc O S' (Q' ++ X))) three in
      turn (2 ∷ 3 ∷ 3 ∷ []) (C ∷ O ∷ S' ∷ Q' ∷ []) X four

  roots_first : (acct : Acct) → mid.roots (first_word acct) ≡ old.roots (first_word acct)
  roots_first acct =
      let r : mid.roots ≡ (with_occupied old row.account _).roots = ap (λ (h : Heap). h.roots) is_cloned.pays.others in
      ap (λ (words : ℕ → ℕ). words (first_word acct)) r ∙ occupied_first old row.account acct _

  roots_last : (acct : Acct) → mid.roots (last_word acct) ≡ old.roots (last_word acct)
  roots_last acct =
      let r : mid.roots ≡ (with_occupied old row.account _).roots = ap (λ (h : Heap). h.roots) is_cloned.pays.others in
      ap (λ (words : ℕ → ℕ). words (last_word acct)) r ∙ occupied_last old row.account acct _

  pub clone_spare : mid.spare ≡ old.spare - (1 + length asked_for)
  clone_spare =
      let s : mid.spare ≡ old.spare - length (takes_clone clone c.addrs) = ap (λ (h : Heap). h.spare) is_cloned.pays.others in
      let l : length (takes_extents c.addrs) ≡ length c.addrs = length-takes c.addrs in
      let e = is_cloned.each in
      omega (arith, s, l, e)

  may_all : (n : ℕ) → length asked_for ≤ n → (ss : List NamedSource) → All MayCount ss → All (CountsMore n) ss → All MayCount (all_counted row.account asked_for ss)
  may_all n le [] m c = All-nil MayCount
  may_all n le (s ∷ ss) m c =
      let one = All-head MayCount s ss m in
      let few = counts_less row.account asked_for n 0 s (omega (arith, le)) (All-head (CountsMore n) s ss c) in
      All-cons MayCount (counted row.account asked_for s) (all_counted row.account asked_for ss)
      (record {
        fits = more_fits row.account (pieces_of s.addr asked_for) s one (let o = of_most s.addr asked_for in let f = pieces_few in omega (arith, o, f));
        inbound = let i = few.inbound in omega (arith, i);
        outbound = let o = few.outbound in omega (arith, o);
      })
      (may_all n le ss (All-tail MayCount s ss m) (All-tail (CountsMore n) s ss c))

  -- so the object may be cloned again
  pub keeps_clone : (n : ℕ) → length asked_for ≤ n → All (CountsMore n) sources → KeepsToClone mid object row tickets_then sources_then
  keeps_clone n le counts = record {
    beside = record {
      keeps = record {
        rest = sources_entries sources_then ++ (clone_entries ++ k.beside.behind);
        stands = clone_stands;
        fits = k.beside.keeps.fits;
        first = roots_first row.account ∙ k.beside.keeps.first ∙ sym (first_charged number (clone_amounts asked_for) tickets);
        last = roots_last row.account ∙ k.beside.keeps.last ∙ sym (last_charged number (clone_amounts asked_for) tickets);
        tickets_fit = fits_charged number (clone_amounts asked_for) tickets k.beside.keeps.tickets_fit;
      };
      behind = clone_entries ++ k.beside.behind;
      whole = refl;
    };
    may = record {
      there = all_there_still row.account asked_for sources row.extents k.may.there;
      counted = may_all n le sources k.may.counted counts;
    };
  }

-- a gap was filled, and the others may be
pub fill_on : (object number offset : ℕ) (p q : Filled) (ps : List Filled) (old mid : Heap) → FillsPart object number offset p q old mid →
    {row : ObjectRow} {tickets : List Ticket} {sources : List NamedSource} → KeepsToFill old object offset (p ∷ ps) row tickets sources →
    (tickets' : List Ticket) × (sources' : List NamedSource) × KeepsToFill mid object offset ps row tickets' sources'
fill_on object number offset p q ps old mid f {row} {tickets} {sources} k = by (p.object == 0) refl f
  where
    by : (b : Bool) → (p.object == 0) ≡ b → MatchBool b (FillsGap object number offset p q old mid) ((q ≡ p) × (mid ≡ old)) →
        (tickets' : List Ticket) × (sources' : List NamedSource) × KeepsToFill mid object offset ps row tickets' sources'
    by true e g =
        let A = asked (p.offset - offset) p.length row in
        let n = moves_cons offset row p ps in
        let m : part_moves offset row p ≡ 1 + length A = ap (λ v. if v then 1 + length A else 0) e in
        let s = clone_spare g.clones k.keeps in (
          tickets_then g.clones k.keeps,
          sources_then g.clones k.keeps,
          record {
            keeps = keeps_clone g.clones k.keeps (moves_to_fill offset row (p ∷ ps)) (omega (arith, n, m)) k.counts;
            counts = all_less row.account A (moves_to_fill offset row (p ∷ ps)) (moves_to_fill offset row ps) sources (omega (arith, n, m)) k.counts;
            room = let r = k.room in omega (arith, r, n, m, s);
          },
        )
    by false e g =
        (tickets, sources, subst (λ (h : Heap). KeepsToFill h object offset ps row tickets sources) (sym g.1) (fill_later p ps k))

-- one more is filled behind others
pub fills_more : (object number offset : ℕ) (xs ys : List Filled) (p q : Filled) (old mid new : Heap) →
    FillsParts object number offset xs ys old mid → FillsPart object number offset p q mid new →
    FillsParts object number offset (xs ++ (p ∷ [])) (ys ++ (q ∷ [])) old new
fills_more object number offset [] [] p q old mid new f g =
    (new, subst (λ (h : Heap). FillsPart object number offset p q h new) f g, refl)
fills_more object number offset [] (y ∷ ys) p q old mid new f g = absurd f
fills_more object number offset (x ∷ xs) [] p q old mid new f g = absurd f
fills_more object number offset (x ∷ xs) (y ∷ ys) p q old mid new f g =
    (f.0, f.1, fills_more object number offset xs ys p q f.0 mid new f.2 g)

pub fills_length : (object number offset : ℕ) (xs ys : List Filled) (old new : Heap) → FillsParts object number offset xs ys old new →
    length xs ≡ length ys
fills_length object number offset [] [] old new f = refl
fills_length object number offset [] (y ∷ ys) old new f = absurd f
fills_length object number offset (x ∷ xs) [] old new f = absurd f
fills_length object number offset (x ∷ xs) (y ∷ ys) old new f =
    let ih = fills_length object number offset xs ys f.0 new f.2 in omega (arith, ih)

-- a fault is a stop
pub fault_part : (object number offset : ℕ) (p : Filled) (old new : Heap) (stop : Stop) → OnlyFault stop → StopsPart object number offset p old new stop
fault_part object number offset p old new (Refused refusal) f = absurd f
fault_part object number offset p old new DiskFault f = f
fault_part object number offset p old new MediaFault f = f
fault_part object number offset p old new Failed f = f

pub fault_first : (object number offset : ℕ) (ps : List Filled) (old new : Heap) (stop : Stop) → OnlyFault stop → StopsFirst object number offset ps old new stop
fault_first object number offset [] old new stop f = f
fault_first object number offset (p ∷ ps) old new stop f = fault_part object number offset p old new stop f

pub none_filled : (object number offset : ℕ) (ps : List Filled) (old new : Heap) (stop : Stop) → OnlyFault stop →
    FillsSome object number offset ps ps old new stop
none_filled object number offset ps old new stop f = record {
  done = [];
  left = ps;
  whole = refl;
  filled = [];
  mid = old;
  fills = refl;
  stops = fault_first object number offset ps old new stop f;
  kept = refl;
}

pub put_at : (q : Filled) (xs : List Filled) (x : Filled) (ys : List Filled) → set (xs ++ (x ∷ ys)) (length xs) q ≡ xs ++ (q ∷ ys)
put_at q [] x ys = refl
put_at q (y ∷ xs) x ys = ap (λ (zs : List Filled). y ∷ zs) (put_at q xs x ys)

-- So many of the parts are filled, and of the others none.
pub record FilledSoFar (object number offset : ℕ) (all now : List Filled) (old heap : Heap) (i : ℕ) : Type 0 where
  pub done : List Filled
  pub left : List Filled
  pub filled : List Filled
  pub whole : all ≡ done ++ left
  pub kept : now ≡ filled ++ left
  pub passed : length done ≡ i
  pub fills : FillsParts object number offset done filled old heap

abbrev pub fill_begun : (object number offset : ℕ) (all : List Filled) (old heap : Heap) → heap ≡ old →
    FilledSoFar object number offset all all old heap 0
fill_begun object number offset all old heap same = record {
  done = [];
  left = all;
  filled = [];
  whole = refl;
  kept = refl;
  passed = refl;
  fills = same;
}

-- no more moves are made for those than for all
pub done_moves : {object number offset : ℕ} {all now : List Filled} {old heap : Heap} {i : ℕ} (l : FilledSoFar object number offset all now old heap i)
    (row : ObjectRow) → moves_to_fill offset row l.done ≤ moves_to_fill offset row all
done_moves {offset = offset} l row =
    let w = ap (moves_to_fill offset row) l.whole in
    let a = moves_append offset row l.done l.left in
    omega (arith, w, a)

-- where some are filled, the others may be
pub fill_steps : (object number offset : ℕ) (xs ys left : List Filled) (old new : Heap) → FillsParts object number offset xs ys old new →
    {row : ObjectRow} {tickets : List Ticket} {sources : List NamedSource} → KeepsToFill old object offset (xs ++ left) row tickets sources →
    (tickets' : List Ticket) × (sources' : List NamedSource) × KeepsToFill new object offset left row tickets' sources'
fill_steps object number offset [] [] left old new f {row} {tickets} {sources} k =
    (tickets, sources, subst (λ (h : Heap). KeepsToFill h object offset left row tickets sources) (sym f) k)
fill_steps object number offset [] (y ∷ ys) left old new f k = absurd f
fill_steps object number offset (x ∷ xs) [] left old new f k = absurd f
fill_steps object number offset (x ∷ xs) (y ∷ ys) left old new f k =
    let one = fill_on object number offset x y (xs ++ left) old f.0 f.1 k in fill_steps object number offset xs ys left f.0 new f.2 one.2

module _ {object number offset : ℕ} {all now : List Filled} {old heap : Heap} {i : ℕ} (l : FilledSoFar object number offset all now old heap i)
    (more : i < length now) where
  now_length : length now ≡ length all
  now_length =
      let a = ap (length {A = Filled}) l.kept in
      let b = length-append l.filled l.left in
      let c = ap (length {A = Filled}) l.whole in
      let d = length-append l.done l.left in
      let e = fills_length object number offset l.done l.filled old heap l.fills in
      omega (arith, a, b, c, d, e)

  -- the next one
  pub next_part : (p : Filled) × (later : List Filled) × (l.left ≡ p ∷ later)
  next_part = by l.left refl
    where
      by : (xs : List Filled) → l.left ≡ xs → (p : Filled) × (later : List Filled) × (l.left ≡ p ∷ later)
      by [] e =
          let a = ap (length {A = Filled}) l.whole in
          let b = length-append l.done l.left in
          let c = ap (length {A = Filled}) e in
          let n = now_length in
          let p = l.passed in
          absurd (omega (arith, a, b, c, n, p, more))
      by (p ∷ later) e = (p, later, e)

  pub part_is : (d : Filled) → get_or now i d ≡ next_part.0
  part_is d =
      let e = fills_length object number offset l.done l.filled old heap l.fills in
      let p = l.passed in
      let at : length l.filled ≡ i = omega (arith, e, p) in
      ap (λ xs. get_or xs i d) (l.kept ∙ ap (λ (xs : List Filled). l.filled ++ xs) next_part.2)
      ∙ ap (λ n. get_or (l.filled ++ (next_part.0 ∷ next_part.1)) n d) (sym at)
      ∙ here l.filled next_part.0 next_part.1
    where
      here : (xs : List Filled) (x : Filled) (ys : List Filled) → get_or (xs ++ (x ∷ ys)) (length xs) d ≡ x
      here [] x ys = refl
      here (y ∷ xs) x ys = here xs x ys

  abbrev pub fill_next : (q : Filled) (new : Heap) → FillsPart object number offset next_part.0 q heap new →
      FilledSoFar object number offset all (set now i q) old new (i + 1)
  fill_next q new f =
      let e = fills_length object number offset l.done l.filled old heap l.fills in
      let p = l.passed in
      let at : length l.filled ≡ i = omega (arith, e, p) in
      record {
        done = l.done ++ (next_part.0 ∷ []);
        left = next_part.1;
        filled = l.filled ++ (q ∷ []);
        whole = l.whole ∙ ap (λ (xs : List Filled). l.done ++ xs) next_part.2 ∙ sym (append_assoc l.done (next_part.0 ∷ []) next_part.1);
        kept =
            ap (λ (xs : List Filled). set xs i q) (l.kept ∙ ap (λ (xs : List Filled). l.filled ++ xs) next_part.2)
            ∙ ap (λ n. set (l.filled ++ (next_part.0 ∷ next_part.1)) n q) (sym at)
            ∙ put_at q l.filled next_part.0 next_part.1 ∙ sym (append_assoc l.filled (q ∷ []) next_part.1);
        passed = let a = length-append l.done (next_part.0 ∷ []) in omega (arith, a, p);
        fills = fills_more object number offset l.done l.filled next_part.0 q old heap new l.fills f;
      }

  pub fill_stopped : (new : Heap) (stop : Stop) → StopsPart object number offset next_part.0 heap new stop →
      FillsSome object number offset all now old new stop
  fill_stopped new stop s = record {
    done = l.done;
    left = l.left;
    whole = l.whole;
    filled = l.filled;
    mid = heap;
    fills = l.fills;
    stops = subst (λ (xs : List Filled). StopsFirst object number offset xs heap new stop) (sym next_part.2) s;
    kept = l.kept;
  }

  -- it begins where the piece does or behind that
  pub fill_behind : BeginAt offset all → next_part.0.object ≡ 0 → offset ≤ next_part.0.offset
  fill_behind b =
      let P : Filled → Type 0 = λ p. p.object ≡ 0 → offset ≤ p.offset in
      All-head P next_part.0 next_part.1
      (all_behind P l.done (next_part.0 ∷ next_part.1)
      (subst (All P) (l.whole ∙ ap (λ (xs : List Filled). l.done ++ xs) next_part.2) b))

  -- the object is kept still
  pub fill_kept : {row : ObjectRow} {tickets : List Ticket} {sources : List NamedSource} → KeepsToFill old object offset all row tickets sources →
      (tickets' : List Ticket) × (sources' : List NamedSource) × KeepsToFill heap object offset (next_part.0 ∷ []) row tickets' sources'
  fill_kept {row} {tickets} {sources} k =
      let rest =
      fill_steps object number offset l.done l.filled l.left old heap l.fills
      (subst (λ (xs : List Filled). KeepsToFill old object offset xs row tickets sources) l.whole k) in (
        rest.0,
        rest.1,
        fill_first next_part.0 next_part.1
            (subst (λ (xs : List Filled). KeepsToFill heap object offset xs row rest.0 rest.1) next_part.2 rest.2),
      )

  pub fill_some : SomeToFill old object offset all → SomeToFill heap object offset (next_part.0 ∷ [])
  fill_some s = let k = fill_kept s.keeps in record { row = s.row; tickets = k.0; sources = k.1; keeps = k.2 }

  pub next_moves : (row : ObjectRow) → moves_to_fill offset row l.done + moves_to_fill offset row (next_part.0 ∷ []) ≤ moves_to_fill offset row all
  next_moves row =
      let w = ap (moves_to_fill offset row) l.whole in
      let a = moves_append offset row l.done l.left in
      let x = ap (moves_to_fill offset row) next_part.2 in
      let c = moves_cons offset row next_part.0 next_part.1 in
      let d = moves_cons offset row next_part.0 [] in
      omega (arith, w, a, x, c, d)

-- all are
pub fill_all : {object number offset : ℕ} {all now : List Filled} {old heap : Heap} {i : ℕ} (l : FilledSoFar object number offset all now old heap i) →
    length now ≤ i → FillsParts object number offset all now old heap
fill_all {object} {number} {offset} {all} {now} {old} {heap} {i} l end = by l.left refl
  where
    by : (xs : List Filled) → l.left ≡ xs → FillsParts object number offset all now old heap
    by [] e =
        let w : l.done ≡ all = sym (l.whole ∙ ap (λ (xs : List Filled). l.done ++ xs) e ∙ append-nil l.done) in
        let k : l.filled ≡ now = sym (l.kept ∙ ap (λ (xs : List Filled). l.filled ++ xs) e ∙ append-nil l.filled) in
        subst (λ (xs : List Filled). FillsParts object number offset xs now old heap) w
        (subst (λ (xs : List Filled). FillsParts object number offset l.done xs old heap) k l.fills)
    by (x ∷ xs) e =
        let a = ap (length {A = Filled}) l.kept in
        let b = length-append l.filled l.left in
        let c = fills_length object number offset l.done l.filled old heap l.fills in
        let d = ap (length {A = Filled}) e in
        let p = l.passed in
        absurd (omega (arith, a, b, c, d, p, end))
