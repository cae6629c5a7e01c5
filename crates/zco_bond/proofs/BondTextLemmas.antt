-- A header or trailer becomes an extent at a place.
use Rattle.std.proofs.Common.{◌≡◌, ◌≢◌, ◌+◌, ◌-◌, ◌≤◌, ◌==◌, ◌⊎◌, ℕ, List, [], ◌∷◌, ◌++◌, Bool, true, false, true≢false, inl, inr, length, refl, sym, ap, ◌∙◌, arith, subst, append_assoc, eq-eqb, eqb-true}
use Rattle.std.specs.Prelude.{Option}
use Rattle.sdr_base.specs.Blocks.{Block, Blocks, Reaches}
use Rattle.sdr_base.specs.Entries.{Changes, Entries, BlocksAre, times}
use Rattle.sdr_base.specs.Making.{Made, besides}
use Rattle.sdr_base.specs.Objects.{Heap, OnlyShort, OnlyUnmoved, with_given}
use Rattle.sdr_base.specs.Raws.{raw_block, raw_entries}
use Rattle.sdr_base.specs.ZcoObjects.{CapsuleRow, ExtentRow, capsule_block}
use Rattle.sdr_base.specs.declared.account.Acct.{Acct}
use Rattle.sdr_base.specs.declared.moves.Move.{Move}
use Rattle.sdr_base.specs.declared.moves.Move.TheVariants.{Gave, Took}
use Rattle.sdr_base.specs.declared.stop.Stop.{Stop}
use Rattle.sdr_base.proofs.GaveLemmas.{made_then, none_made}
use Rattle.sdr_base.proofs.HeapLemmas.{given_blocks}
use Rattle.sdr_base.proofs.StandingLemmas.{found, moved, moved_back, times-append, went}
use Rattle.zco_obj.specs.Appending.{taking_over}
use Rattle.zco_obj.specs.Walks.{KeepsCapsule}
use Rattle.zco_obj.proofs.RawLemmas.{count_none}
use Rattle.zco_ref.specs.Counting.{Attaches, attached}
use Rattle.zco_ref.specs.Kept.{KeepsSource, SomeBelow, counted_block, counted_entries}
use Rattle.zco_bond.specs.Bonded.{bonded_extent, bonded_source, chained, first_bytes, moves_of}
use Rattle.zco_bond.specs.Fresh.{Fresh, is_free}
use Rattle.zco_bond.specs.Placing.{BondsText, InsertsExtent, IsTextRow, PlaceAt, SomePlace, bonded_at}
use Rattle.zco_bond.specs.Rows.{RowStops}
use Rattle.zco_bond.specs.Texts.{IsSourceRow, MakesSource, source_moves}
use Rattle.zco_bond.specs.declared.gap.Gap.{Gap}
use Rattle.zco_bond.specs.declared.text.Text.{Text}
use Rattle.zco_bond.proofs.FreshLemmas.{apart_from, free_unlisted, listed_none, times_pushed, unlisted}
use Rattle.zco_bond.proofs.PlaceLemmas.{front_reaches}
use Rattle.zco_bond.proofs.RowLemmas.{Goes, NoMove, TookOne, short_stops, stops_then, unmoved_stops}

-- the header or trailer at the place
pub place_kept : {blocks : Blocks} {text : Text} {gap : Gap} {front : List ExtentRow} {next : ℕ} {c : CapsuleRow} →
    PlaceAt blocks text gap front next c → KeepsCapsule (blocks text.of) next c
place_kept {blocks} {text} {gap} {front} {next} {c} p = record {
  block = ap blocks p.at_text ∙ found blocks c.addr (capsule_block 0 next c) (chained gap.next front) p.rest p.stands;
  fits = p.fits;
  small = p.small;
}

-- no source was made
pub text_sourceless : (text : Text) (old new : Heap) (stop : Stop) → RowStops (IsSourceRow text.bytes) old new stop →
    RowStops (IsTextRow text) old new stop
text_sourceless text old new stop s =
    stops_then (IsSourceRow text.bytes) (IsTextRow text) [] (none_made old)
    (λ t r. record {
      more = Took 32 0 ∷ Gave text.of ∷ [];
      is = record {
        raw = r.raw;
        source = r.source;
        extent = 0;
        is = ap (λ (l : List Move). l ++ (Took 32 0 ∷ Gave text.of ∷ [])) r.is;
      };
    }) new stop s

module _ {text : Text} {old one : Heap} {source : ℕ} (m : MakesSource text old one source) where
  pub spare_one : 4 ≤ old.spare → 1 ≤ one.spare
  spare_one le = let e : one.spare ≡ old.spare - 2 = ap (λ (h : Heap). h.spare) m.made.all in omega (arith, e, le)

  -- no block was taken for the extent
  pub text_extentless : (new : Heap) (stop : Stop) → OnlyShort 32 one new stop → RowStops (IsTextRow text) old new stop
  text_extentless new stop s =
      stops_then (TookOne 32) (IsTextRow text) (source_moves text.bytes m.raw source) m.made
      (λ t r. record {
        more = Gave text.of ∷ [];
        is = record {
          raw = m.raw;
          source = source;
          extent = r.addr;
          is = ap (λ (l : List Move). source_moves text.bytes m.raw source ++ (l ++ (Gave text.of ∷ []))) r.is;
        };
      }) new stop (short_stops 32 one new stop s)

  -- the chain in front and the source stand beside the header or trailer
  module _ {gap : Gap} {front : List ExtentRow} {next : ℕ} {c : CapsuleRow} (p : PlaceAt old.blocks text gap front next c) where
    abbrev C : Entries
    C = (c.addr, capsule_block 0 next c) ∷ []

    abbrev S : Entries
    S = counted_entries source (taking_over m.raw c.text)

    abbrev R : Entries
    R = raw_entries m.raw source c.text

    made_beside : (rest : Entries) → BlocksAre old.blocks (chained gap.next front ++ (C ++ rest)) →
        BlocksAre one.blocks (chained gap.next front ++ ((S ++ R) ++ (C ++ rest)))
    made_beside rest s =
        moved_back (chained gap.next front) (S ++ R) (C ++ rest)
        ((m.makes next c (place_kept p)).kept (chained gap.next front ++ (C ++ rest)) s)

    pub previous_reaches : gap.previous ≢ 0 → Reaches (one.blocks gap.previous) 32
    previous_reaches nz =
        front_reaches gap.next front ((S ++ R) ++ (C ++ p.rest)) (made_beside p.rest p.stands) p.at_previous nz

    module _ {two : Heap} {extent : ℕ} (i : InsertsExtent source text.bytes gap one two extent) where
      abbrev F : Entries
      F = chained gap.next (front ++ (first_bytes extent source text.bytes ∷ []))

      inserted : (rest : Entries) → BlocksAre old.blocks (chained gap.next front ++ (C ++ rest)) →
          BlocksAre two.blocks (S ++ (F ++ (R ++ (C ++ rest))))
      inserted rest s =
          moved F S (R ++ (C ++ rest))
          (subst (λ (es : Entries). BlocksAre two.blocks (F ++ es)) (append_assoc S R (C ++ rest))
          ((i.inserts front p.at_previous).kept ((S ++ R) ++ (C ++ rest)) (made_beside rest s)))

      source_there : KeepsSource (two.blocks source) (taking_over m.raw c.text)
      source_there = record {
        block = found two.blocks source (counted_block (taking_over m.raw c.text)) [] _ (inserted p.rest p.stands);
        fits = record {
          inbound = omega arith;
          outbound = omega arith;
          subject = let r = m.raw_small in omega (arith, r);
          length = let f = p.fits.short in omega (arith, f);
        };
      }

      pub source_below : {acct : Acct} → SomeBelow acct (two.blocks source)
      source_below {acct} = record {
        source = taking_over m.raw c.text;
        keeps = source_there;
        below = let n = count_none acct m.raw c.text in omega (arith, n);
      }

      module _ {acct : Acct} {three : Heap} (a : Attaches source acct two three) where
        abbrev S' : Entries
        S' = counted_entries source (attached acct (taking_over m.raw c.text))

        attached_then : (rest : Entries) → BlocksAre old.blocks (chained gap.next front ++ (C ++ rest)) →
            BlocksAre three.blocks ((F ++ (S' ++ R)) ++ (C ++ rest))
        attached_then rest s =
            subst (λ (es : Entries). BlocksAre three.blocks es)
            (ap (λ (es : Entries). F ++ es) (sym (append_assoc S' R (C ++ rest))) ∙ sym (append_assoc F (S' ++ R) (C ++ rest)))
            (moved_back F S' (R ++ (C ++ rest))
            ((a.becomes (taking_over m.raw c.text) source_there).changes.kept (F ++ (R ++ (C ++ rest))) (inserted rest s)))

        pub text_used : Reaches (three.blocks text.of) 0
        text_used =
            subst (λ (o : Option Block). Reaches o 0)
            (sym (ap three.blocks p.at_text
            ∙ found three.blocks c.addr (capsule_block 0 next c) (F ++ (S' ++ R)) p.rest (attached_then p.rest p.stands))) (omega arith)

        pub bonds_then : {new : Heap} → new ≡ with_given three text.of → text.bytes ≡ length c.text →
            Changes old.blocks new.blocks (chained gap.next front ++ C)
            (chained gap.next (front ++ (bonded_extent (bonded_at c m.raw source extent) ∷ []))
            ++ bonded_source acct (bonded_at c m.raw source extent))
        bonds_then {new} g e = record {
          kept = λ rest s.
              let given : new ≡ with_given three c.addr = g ∙ ap (λ (n : ℕ). with_given three n) p.at_text in
              subst (λ n. BlocksAre new.blocks ((chained gap.next (front ++ (first_bytes extent source n ∷ [])) ++ (S' ++ R)) ++ rest)) e
              (subst (λ (b : Blocks). BlocksAre b ((F ++ (S' ++ R)) ++ rest))
              (sym (given_blocks c.addr three new given))
              (went three.blocks c.addr (capsule_block 0 next c) (F ++ (S' ++ R)) rest
              (attached_then rest (subst (λ (es : Entries). BlocksAre old.blocks es) (append_assoc (chained gap.next front) C rest) s))));
        }

  -- each block came where nothing was
  module _ {gap : Gap} {front : List ExtentRow} {next : ℕ} {c : CapsuleRow} (p : PlaceAt old.blocks text gap front next c) {two : Heap}
      {extent : ℕ} (new : Heap) (acct : Acct) (i : InsertsExtent source text.bytes gap one two extent)
      (changes : Changes old.blocks new.blocks (chained gap.next front ++ ((c.addr, capsule_block 0 next c) ∷ []))
      (chained gap.next (front ++ (bonded_extent (bonded_at c m.raw source extent) ∷ []))
      ++ bonded_source acct (bonded_at c m.raw source extent))) where
    abbrev X : Entries
    X = chained gap.next front

    abbrev T : Entries
    T = (c.addr, capsule_block 0 next c) ∷ []

    abbrev E : ExtentRow
    E = bonded_extent (bonded_at c m.raw source extent)

    abbrev F' : Entries
    F' = chained gap.next (front ++ (E ∷ []))

    abbrev N' : Entries
    N' = counted_entries source (attached acct (taking_over m.raw c.text))

    abbrev R' : Entries
    R' = raw_entries m.raw source c.text

    abbrev block : Block
    block = capsule_block 0 next c

    -- the extent
    extent_free : (extent ≢ source) × ((extent ≢ m.raw) × is_free old.blocks extent)
    extent_free =
        let U = counted_entries source (taking_over m.raw c.text) in
        let none = unlisted extent (made_beside p p.rest p.stands) i.free in
        let all = times-append extent X ((U ++ R') ++ (T ++ p.rest)) in
        let made = times-append extent (U ++ R') (T ++ p.rest) in
        let both = times-append extent U R' in
        let was = times-append extent X (T ++ p.rest) in (
          apart_from extent source (counted_block (taking_over m.raw c.text)) (omega (arith, none, all, made, both)),
          (
            apart_from extent m.raw (raw_block source c.text) (omega (arith, none, all, made, both)),
            free_unlisted extent p.stands (omega (arith, none, all, made, was)),
          ),
        )

    -- and what is left
    left_free : (q : ℕ) → is_free new.blocks q →
        (q ≡ text.of) ⊎ ((q ≢ extent) × ((q ≢ source) × ((q ≢ m.raw) × is_free old.blocks q)))
    left_free q free = by (q == text.of) refl
      where
        stood : BlocksAre old.blocks ((X ++ T) ++ p.rest)
        stood = subst (λ (es : Entries). BlocksAre old.blocks es) (sym (append_assoc X T p.rest)) p.stands

        none : times q ((F' ++ (N' ++ R')) ++ p.rest) ≡ 0
        none = unlisted q (changes.kept p.rest stood) free

        all : times q ((F' ++ (N' ++ R')) ++ p.rest) ≡ times q F' + (times q N' + times q R') + times q p.rest
        all =
            omega (arith, times-append q (F' ++ (N' ++ R')) p.rest, times-append q F' (N' ++ R'), times-append q N' R')

        chain : times q F' ≡ times q X + times q ((extent, block) ∷ [])
        chain = times_pushed q 0 gap.next front E block

        by : (b : Bool) → (q == text.of) ≡ b → (q ≡ text.of) ⊎ ((q ≢ extent) × ((q ≢ source) × ((q ≢ m.raw) × is_free old.blocks q)))
        by true e = inl (eqb-true q text.of e)
        by false e =
            let other : q ≢ c.addr = λ same. true≢false (sym (eq-eqb q text.of (same ∙ sym p.at_text)) ∙ e) in
            let gone = listed_none q c.addr block other in
            let was = times-append q X (T ++ p.rest) in
            let behind = times-append q T p.rest in
            inr (
              apart_from q extent block (omega (arith, none, all, chain)),
              (
                apart_from q source (counted_block (attached acct (taking_over m.raw c.text))) (omega (arith, none, all)),
                (
                  apart_from q m.raw (raw_block source c.text) (omega (arith, none, all)),
                  free_unlisted q p.stands (omega (arith, none, all, chain, gone, was, behind)),
                ),
              ),
            )

    pub text_fresh : Fresh (moves_of text.bytes text.of m.raw source extent) old.blocks new.blocks
    text_fresh = record {
      takes = (m.takes.0, m.takes.1, (m.takes.2.0, m.takes.2.1, (i.nonzero, extent_free, tt)));
      left = left_free;
    }

  module _ {gap : Gap} {two : Heap} {extent : ℕ} (i : InsertsExtent source text.bytes gap one two extent) where
    abbrev pub three_moves : List Move
    three_moves = source_moves text.bytes m.raw source ++ (Took 32 extent ∷ [])

    pub made_two : Made three_moves old two
    made_two = made_then (source_moves text.bytes m.raw source) (Took 32 extent ∷ []) m.made i.made

    row_goes : (t : List Move) → NoMove t → Goes (IsTextRow text) three_moves t
    row_goes t r = record {
      more = Gave text.of ∷ [];
      is = record {
        raw = m.raw;
        source = source;
        extent = extent;
        is = ap (λ (l : List Move). three_moves ++ (l ++ (Gave text.of ∷ []))) r.is;
      };
    }

    -- the source doesn't count it
    pub text_uncounted : (new : Heap) (stop : Stop) → OnlyUnmoved two new stop → RowStops (IsTextRow text) old new stop
    text_uncounted new stop u = stops_then NoMove (IsTextRow text) three_moves made_two row_goes new stop (unmoved_stops two new stop u)

    module _ {acct : Acct} {three : Heap} (q : SomePlace old.blocks text gap) (a : Attaches source acct two three) where
      made_three : Made three_moves old three
      made_three = record { all = (a.becomes (taking_over m.raw q.capsule.text) (source_there q.is i)).same ∙ made_two.all }

      pub spare_three : 4 ≤ old.spare → 1 ≤ three.spare
      spare_three le = let e : three.spare ≡ old.spare - 3 = ap (λ (h : Heap). h.spare) made_three.all in omega (arith, e, le)

      -- or the header or trailer isn't given back
      pub text_stays : (new : Heap) (stop : Stop) → OnlyUnmoved three new stop → RowStops (IsTextRow text) old new stop
      text_stays new stop u =
          stops_then NoMove (IsTextRow text) three_moves made_three row_goes new stop (unmoved_stops three new stop u)

      -- it is
      pub bonds_text : {new : Heap} → new ≡ with_given three text.of → BondsText acct text gap old new extent
      bonds_text {new} g = record {
        raw = m.raw;
        source = source;
        raw_small = m.raw_small;
        source_small = m.small;
        small = i.small;
        bonds = λ front next c p. bonds_then p i a g (q.named.tells next c (place_kept p));
        made = made_then three_moves (Gave text.of ∷ []) made_three (record { all = ap besides g });
        fresh = text_fresh q.is new acct i (bonds_then q.is i a g (q.named.tells q.next q.capsule (place_kept q.is)));
      }
