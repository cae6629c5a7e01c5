-- An object that stands among others is cloned.
use Rattle.std.proofs.Common.{◌≡◌, ◌+◌, ◌-◌, ◌≤◌, ◌<◌, ◌^◌, ℕ, Bool, true, false, List, [], ◌∷◌, ◌++◌, length, Option, Some, None, refl, sym, ap, ◌∙◌, subst, arith, append_assoc}
use Rattle.std.specs.Prelude.{◌==◌, All, if◌then◌else◌}
use Rattle.std.proofs.lemmas.List.Elements.{All-cons, All-head, All-nil, All-tail}
use Rattle.sdr_base.specs.Entries.{BlocksAre, Entries}
use Rattle.sdr_base.specs.Objects.{Heap}
use Rattle.sdr_base.specs.ZcoObjects.{ExtentRow, object_entries}
use Rattle.sdr_base.specs.declared.account.Acct.{Acct}
use Rattle.sdr_model.specs.declared.accounts.Ticket.{Ticket}
use Rattle.zco_acct.specs.Kept.{queue_entries}
use Rattle.zco_obj.specs.Charging.{IsFree}
use Rattle.zco_obj.specs.Gone.{NamedSource, source_at, sources_entries}
use Rattle.zco_obj.specs.Kept.{ExtentFits, ObjectFits}
use Rattle.zco_obj.specs.Links.{piece_of}
use Rattle.zco_obj.specs.Uses.{AreNamed, CountsUses, IsThere}
use Rattle.zco_obj.specs.declared.extent.ExtentPiece.{ExtentPiece}
use Rattle.zco_part.specs.Cloning.{ClonesPart, KeepsToClone}
use Rattle.zco_part.specs.Pieces.{asked, cut, extents_at, filled, pieces, whole_row}
use Rattle.zco_part.specs.Sources.{MayCount, all_counted, counted}
use Rattle.zco_join.specs.Stocks.{CountsMore, KeepsStock, Queue, Standing, TellsQueue, extents_for, objects_entries, queues_entries}
use Rattle.zco_join.proofs.AppendLemmas.{all_tell, pays_first, pays_last, pays_queue}
use Rattle.zco_join.proofs.ClonesLemmas.{PieceFits, all_both, own_all}
use Rattle.zco_join.proofs.CountedLemmas.{all_front, all_joined, all_less, may_count, named_placed}
use Rattle.zco_join.proofs.TurnLemmas.{turn}
use Rattle.zco_join.proofs.WholeLemmas.{length-extents_at, whole_fits}
use Rattle.zco_pieces.proofs.FillLemmas.{clone_spare, clone_stands, is_cloned, pieces_few, pieces_most, tickets_then}
use Rattle.law_pieces.specs.Texts.{HasAllBytes, HasBytes, Holds}
use Rattle.law_pieces.proofs.HoldLemmas.{all_kept, counted_same}

-- what holds of what extents name, and of each cut of it, holds of what is asked for
pub all_pieces_of : (P : ExtentPiece → Type 0) → ((from to : ℕ) (p : ExtentPiece) → P p → P (cut from to p)) → (from to : ℕ) (es : List ExtentRow) →
    All (λ e. P (piece_of e)) es → All P (pieces from to es)
all_pieces_of P cuts from to [] all = All-nil P
all_pieces_of P cuts from to (e ∷ es) all =
    let Q : ExtentRow → Type 0 = λ x. P (piece_of x) in
    all_joined P (filled (cut from to (piece_of e))) (pieces (from - e.length) (to - e.length) es)
    (one (cut from to (piece_of e)) (cuts from to (piece_of e) (All-head Q e es all)))
    (all_pieces_of P cuts (from - e.length) (to - e.length) es (All-tail Q e es all))
  where
    one : (p : ExtentPiece) → P p → All P (filled p)
    one p h = by (p.bytes == 0)
      where
        by : (b : Bool) → All P (if b then [] else p ∷ [])
        by true = All-nil P
        by false = All-cons P p [] h (All-nil P)

cut_fits : (from to : ℕ) (p : ExtentPiece) → PieceFits p → PieceFits (cut from to p)
cut_fits from to p f = record { source = f.source; inside = let i = f.inside in omega (arith, i) }

-- extents of pieces that fit, in blocks that were free, fit
placed_fit : (P : ℕ → Type 0) → ((addr : ℕ) → P addr → addr < 2 ^ 32) → (addrs : List ℕ) (ps : List ExtentPiece) → All P addrs → All PieceFits ps →
    All ExtentFits (extents_at addrs ps)
placed_fit P small [] ps a f = All-nil ExtentFits
placed_fit P small (addr ∷ addrs) [] a f = All-nil ExtentFits
placed_fit P small (addr ∷ addrs) (p ∷ ps) a f =
    let one = All-head PieceFits p ps f in
    let s = small addr (All-head P addr addrs a) in
    All-cons ExtentFits (record { addr = addr; source = p.of; offset = p.offset; length = p.bytes }) (extents_at addrs ps)
    (record { addr = omega (arith, s); source = one.source; inside = one.inside })
    (placed_fit P small addrs ps (All-tail P addr addrs a) (All-tail PieceFits p ps f))

row_pieces_fit : (es : List ExtentRow) → All ExtentFits es → All (λ e. PieceFits (piece_of e)) es
row_pieces_fit [] all = All-nil (λ (e : ExtentRow). PieceFits (piece_of e))
row_pieces_fit (e ∷ es) all =
    let f = All-head ExtentFits e es all in
    All-cons (λ (x : ExtentRow). PieceFits (piece_of x)) e es (record { source = f.source; inside = f.inside }) (row_pieces_fit es (All-tail ExtentFits e es all))

-- An object is the first of a stock, and its account's queue is the first one.
module _ {old : Heap} {z : Standing} {os : List Standing} {tickets : List Ticket} {qs : List Queue} {sources : List NamedSource} {rest : Entries}
    (k : KeepsStock old (record { objects = z ∷ os; queues = record { acct = z.row.account; tickets = tickets } ∷ qs; sources = sources; rest = rest })) where
  abbrev acct : Acct
  acct = z.row.account

  abbrev q : Queue
  q = record { acct = acct; tickets = tickets }

  pub told : TellsQueue old q
  told = All-head (TellsQueue old) q qs k.queues

  pub fits : ObjectFits z.row
  fits = All-head (λ (x : Standing). ObjectFits x.row) z os k.fits

  pub named : AreNamed acct (z.row.extents ++ extents_for acct os) sources
  named = subst (λ (es : List ExtentRow). AreNamed acct (es ++ extents_for acct os) sources) (own_all z) (k.named acct)

  pub there_own : All (λ e. IsThere (source_at e.source sources)) z.row.extents
  there_own = all_front (λ (e : ExtentRow). IsThere (source_at e.source sources)) z.row.extents (extents_for acct os) named.there

  pub stands : BlocksAre old.blocks (object_entries z.addr z.row ++ (queue_entries acct tickets ++ (sources_entries sources
      ++ (objects_entries os ++ (queues_entries qs ++ rest)))))
  stands =
      let O = object_entries z.addr z.row in
      let X = objects_entries os in
      let Q = queue_entries acct tickets in
      let M = queues_entries qs in
      let S = sources_entries sources in
      let one : BlocksAre old.blocks (O ++ (X ++ (Q ++ (M ++ (S ++ rest))))) =
      subst (BlocksAre old.blocks) (append_assoc O X ((Q ++ M) ++ (S ++ rest)) ∙ ap (λ (es : Entries). O ++ (X ++ es)) (append_assoc Q M (S ++ rest)))
      k.stands in
      turn (4 ∷ 3 ∷ 2 ∷ []) (O ∷ X ∷ Q ∷ M ∷ S ∷ []) rest one

  abbrev pub to_clone : {n : ℕ} → All (CountsMore n) sources → KeepsToClone old z.addr z.row tickets sources
  to_clone {n} counts = record {
    beside = record {
      keeps = record {
        rest = sources_entries sources ++ (objects_entries os ++ (queues_entries qs ++ rest));
        stands = stands;
        fits = fits;
        first = told.first;
        last = told.last;
        tickets_fit = told.fits;
      };
      behind = objects_entries os ++ (queues_entries qs ++ rest);
      whole = refl;
    };
    may = record {
      there = there_own;
      counted =
          all_both (CountsUses acct (z.row.extents ++ extents_for acct os)) (CountsMore n) MayCount (λ s u c. may_count n s u.fits c) sources named.counted counts;
    };
  }

  -- it was cloned
  module _ {number offset bytes clone n : ℕ} {new : Heap} (c : ClonesPart z.addr number offset bytes old new clone) (counts : All (CountsMore n) sources)
      (some : length (asked offset bytes z.row) ≤ n) where
    abbrev may : KeepsToClone old z.addr z.row tickets sources
    may = to_clone counts

    abbrev pub asked_now : List ExtentPiece
    asked_now = asked offset bytes z.row

    abbrev pub cloned : Standing
    cloned = record { addr = clone; row = whole_row acct (extents_at c.addrs asked_now) }

    each : length c.addrs ≡ length asked_now
    each = (is_cloned c may).each

    few : length asked_now < 2 ^ 22
    few = pieces_few c may

    pieces_fit : All PieceFits asked_now
    pieces_fit =
        all_pieces_of PieceFits cut_fits (z.row.part_offset + offset) (z.row.part_offset + offset + bytes) z.row.extents
        (row_pieces_fit z.row.extents fits.extents)

    pieces_there : All (λ p. IsThere (source_at p.of sources)) asked_now
    pieces_there =
        all_pieces_of (λ p. IsThere (source_at p.of sources)) (λ from to p h. h) (z.row.part_offset + offset) (z.row.part_offset + offset + bytes) z.row.extents
        there_own

    cloned_fits : ObjectFits cloned.row
    cloned_fits =
        whole_fits acct (extents_at c.addrs asked_now)
        (placed_fit (IsFree old.blocks) (λ addr f. f.small) c.addrs asked_now c.new_blocks pieces_fit)
        (let l = length-extents_at c.addrs asked_now each in let f = few in omega (arith, l, f))

    counts_here : All (CountsMore (length asked_now)) sources
    counts_here =
        all_both (CountsMore n) (CountsMore n) (CountsMore (length asked_now))
        (λ s a b. record { inbound = let i = a.inbound in omega (arith, i, some); outbound = let o = a.outbound in omega (arith, o, some) }) sources counts counts

    pub clone_step : KeepsStock new (record {
      objects = cloned ∷ z ∷ os;
      queues = record { acct = acct; tickets = tickets_then c may } ∷ qs;
      sources = all_counted acct asked_now sources;
      rest = rest;
    })
    clone_step = record {
      stands =
          let O = object_entries z.addr z.row in
          let X = objects_entries os in
          let Q = queue_entries acct (tickets_then c may) in
          let M = queues_entries qs in
          let S = sources_entries (all_counted acct asked_now sources) in
          let C = object_entries clone cloned.row in
          let one : BlocksAre new.blocks (C ++ (O ++ (X ++ (Q ++ (M ++ (S ++ rest)))))) =
          turn (2 ∷ 5 ∷ 3 ∷ 5 ∷ 4 ∷ 5 ∷ []) (O ∷ Q ∷ S ∷ C ∷ X ∷ M ∷ []) rest (clone_stands c may) in
          subst (BlocksAre new.blocks)
          (sym (append_assoc C (O ++ X) ((Q ++ M) ++ (S ++ rest)) ∙ ap (λ (es : Entries). C ++ es) (append_assoc O X ((Q ++ M) ++ (S ++ rest)))
          ∙ ap (λ (es : Entries). C ++ (O ++ (X ++ es))) (append_assoc Q M (S ++ rest)))) one;
      fits = All-cons (λ (x : Standing). ObjectFits x.row) cloned (z ∷ os) cloned_fits k.fits;
      queues =
          let p = (is_cloned c may).pays in
          All-cons (TellsQueue new) (record { acct = acct; tickets = tickets_then c may }) qs (pays_queue p told)
          (all_tell (pays_first p) (pays_last p) qs (All-tail (TellsQueue old) q qs k.queues));
      named = λ other. named_placed acct c.addrs asked_now each few other (extents_for other (z ∷ os)) sources counts_here pieces_there (k.named other);
    }

pub extents_have : (ss : List NamedSource) (addrs : List ℕ) (ps : List ExtentPiece) → All (λ p. HasBytes p (source_at p.of ss)) ps →
    All (λ e. HasBytes (piece_of e) (source_at e.source ss)) (extents_at addrs ps)
extents_have ss [] ps all = All-nil (λ (e : ExtentRow). HasBytes (piece_of e) (source_at e.source ss))
extents_have ss (a ∷ as') [] all = All-nil (λ (e : ExtentRow). HasBytes (piece_of e) (source_at e.source ss))
extents_have ss (a ∷ as') (p ∷ ps) all =
    let P : ExtentPiece → Type 0 = λ x. HasBytes x (source_at x.of ss) in
    All-cons (λ (e : ExtentRow). HasBytes (piece_of e) (source_at e.source ss)) (record { addr = a; source = p.of; offset = p.offset; length = p.bytes })
    (extents_at as' ps) (All-head P p ps all) (extents_have ss as' ps (All-tail P p ps all))

cut_has : (ss : List NamedSource) (from to : ℕ) (p : ExtentPiece) → HasBytes p (source_at p.of ss) → HasBytes (cut from to p) (source_at p.of ss)
cut_has ss from to p h = by (source_at p.of ss) h
  where
    by : (o : Option NamedSource) → HasBytes p o → HasBytes (cut from to p) o
    by None h = absurd h
    by (Some s) h = (h.0, h.1, let i = h.2 in omega (arith, i))

-- so the stock is held, with the clone in front
pub holds_clone : {old : Heap} {z : Standing} {os : List Standing} {tickets : List Ticket} {qs : List Queue} {sources : List NamedSource} {rest : Entries}
    {most room number offset bytes clone : ℕ} {new : Heap} →
    (h : Holds old most (room + (1 + most)) (record { objects = z ∷ os; queues = record { acct = z.row.account; tickets = tickets } ∷ qs; sources = sources; rest = rest })) →
    (c : ClonesPart z.addr number offset bytes old new clone) →
    Holds new most room (record {
      objects = record { addr = clone; row = whole_row z.row.account (extents_at c.addrs (asked offset bytes z.row)) } ∷ z ∷ os;
      queues = record { acct = z.row.account; tickets = tickets_then c (to_clone h.keeps h.counts) } ∷ qs;
      sources = all_counted z.row.account (asked offset bytes z.row) sources;
      rest = rest;
    })
holds_clone {old} {z} {os} {tickets} {qs} {sources} {rest} {most} {room} {number} {offset} {bytes} {clone} {new} h c =
    let may = to_clone h.keeps h.counts in
    let A = asked offset bytes z.row in
    let n = pieces_most (z.row.part_offset + offset) (z.row.part_offset + offset + bytes) z.row.extents in
    let S : Standing → Type 0 = λ x. length x.row.extents ≤ most in
    let m = All-head S z os h.short in
    let few : length A ≤ most = omega (arith, n, m) in
    let l = length-extents_at c.addrs A (is_cloned c may).each in
    let B = HasAllBytes sources in
    let have : All (λ p. HasBytes p (source_at p.of sources)) A =
    all_pieces_of (λ p. HasBytes p (source_at p.of sources)) (cut_has sources) (z.row.part_offset + offset) (z.row.part_offset + offset + bytes) z.row.extents
    (All-head B z os h.bytes) in
    let own : Standing = record { addr = clone; row = whole_row z.row.account (extents_at c.addrs A) } in
    record {
      keeps = clone_step h.keeps c h.counts (omega (arith, few));
      short = All-cons S own (z ∷ os) (omega (arith, few, l)) h.short;
      bytes =
          all_kept (counted z.row.account A) (counted_same z.row.account A) sources (own ∷ z ∷ os)
          (All-cons B own (z ∷ os) (extents_have sources c.addrs A have) h.bytes);
      counts = all_less z.row.account A (room + (1 + most)) room sources (omega (arith, few)) h.counts;
      spare = let s = clone_spare c may in let r = h.spare in omega (arith, s, r, few);
    }
