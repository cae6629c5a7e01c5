-- The headers and the trailers of an object become extents, and all its extents one chain.
use Rattle.std.proofs.Common.{◌≡◌, ◌+◌, ◌-◌, ℕ, List, [], ◌∷◌, ◌++◌, length, refl, sym, ap, ◌∙◌, arith, subst, append_assoc, append-nil, length-append}
use Rattle.std.specs.Prelude.{sum_by}
use Rattle.std.proofs.lemmas.List.Concat.{flat_map-append}
use Rattle.std.proofs.lemmas.List.Sums.{sum_by-append}
use Rattle.sdr_base.specs.Blocks.{Blocks}
use Rattle.sdr_base.specs.Entries.{Entries, BlocksAre}
use Rattle.sdr_base.specs.Linked.{first_of, last_of, linked}
use Rattle.sdr_base.specs.Making.{Made}
use Rattle.sdr_base.specs.Objects.{Heap, OnlyFault}
use Rattle.sdr_base.specs.Words.{HasWord}
use Rattle.sdr_base.specs.ZcoObjects.{CapsuleRow, ExtentRow, ObjectRow, capsule_entries, extent_addr, extent_block, extent_entries, object_block, object_entries}
use Rattle.sdr_base.specs.declared.account.Acct.{Acct}
use Rattle.sdr_base.specs.declared.moves.Move.{Move}
use Rattle.sdr_base.specs.declared.stop.Stop.{Stop}
use Rattle.sdr_base.proofs.GaveLemmas.{made_then, none_made}
use Rattle.sdr_base.proofs.LinkedLemmas.{first-append, last-append}
use Rattle.sdr_base.proofs.StandingLemmas.{moved}
use Rattle.zco_obj.specs.Kept.{KeepsObject}
use Rattle.zco_obj.specs.Reading.{Tells, TellsFirsts}
use Rattle.zco_obj.specs.declared.linking.Side.TheVariants as sides
use Rattle.zco_obj.specs.declared.object.Firsts.{Firsts}
use Rattle.zco_obj.proofs.KeptLemmas.{object_word}
use Rattle.zco_obj.proofs.PairLemmas.{swapped}
use Rattle.zco_obj.proofs.PartsLemmas.{side_at}
use Rattle.zco_bond.specs.Bonded.{BondedCapsule, bonded_extents, bonded_source, bonded_sources, bonding_moves, capsules_of, chained, joined}
use Rattle.zco_bond.specs.Bonding.{BondsParts, PartsBonded, PartsStop, SomeToBond, ends_lines}
use Rattle.zco_bond.specs.Chaining.{BondsChain, ChainBonded, ChainsAt, ChainStops, IsBondRow, SomeChains, bond_lines}
use Rattle.zco_bond.specs.Fresh.{Fresh}
use Rattle.zco_bond.proofs.FreshLemmas.{fresh_then}
use Rattle.zco_bond.specs.Charging.{ends_of}
use Rattle.zco_bond.specs.declared.gap.Chain.{Chain}
use Rattle.zco_bond.specs.declared.gap.Gap.{Gap}
use Rattle.zco_bond.proofs.BondedLemmas.{capsules-append, capsules-unbonded, length-capsules, length-moves, moves-append, unbonded}
use Rattle.zco_bond.proofs.JoinLemmas.{either, either_first, either_last, in_two, opened}
use Rattle.zco_bond.proofs.RowLemmas.{Goes, fault_stops, stops_then}

-- how many headers and trailers there are, and how many lines are touched for them
many_ends : (row : ObjectRow) → length (ends_of row) ≡ length row.headers + length row.trailers
many_ends row = length-append row.headers row.trailers

pub lines_of : (row : ObjectRow) → ends_lines row ≡ sum_by bond_lines row.headers + sum_by bond_lines row.trailers
lines_of row = sum_by-append bond_lines row.headers row.trailers

-- the place before the extents
abbrev pub before : Firsts → Gap
before firsts = record { previous = 0; next = firsts.extent }

-- the headers are a chain beside none
pub headers_at : {blocks : Blocks} {object : ℕ} {firsts : Firsts} → TellsFirsts blocks object firsts → {row : ObjectRow} →
    KeepsObject blocks object row → ChainsAt blocks firsts.header (before firsts) [] row.headers
unfolding linked
headers_at {firsts = firsts} f {row} k =
    let c = side_at k sides.Headers firsts.header (f.told row k).header in
    record { rest = c.rest; stands = c.stands; at_previous = refl; at_first = c.at_first; fits = c.fits; few = c.few }

pub headers_there : {old : Heap} {object : ℕ} {firsts : Firsts} → TellsFirsts old.blocks object firsts → SomeToBond old object →
    SomeChains old firsts.header (before firsts)
headers_there f q = record {
  front = [];
  rows = q.row.headers;
  is = headers_at f q.keeps;
  room = let r = q.room in let n = many_ends q.row in omega (arith, r, n);
}

headers_row : (row : ObjectRow) (ms : List Move) → IsBondRow row.headers ms → Goes (IsBondRow (ends_of row)) [] ms
headers_row row ms r = record {
  more = bonding_moves (unbonded row.trailers);
  is = record {
    bonded = r.bonded ++ unbonded row.trailers;
    whole =
        capsules-append r.bonded (unbonded row.trailers)
        ∙ ap (λ (ys : List CapsuleRow). ys ++ capsules_of (unbonded row.trailers)) r.whole
        ∙ ap (λ (ys : List CapsuleRow). row.headers ++ ys) (capsules-unbonded row.trailers);
    is =
        ap (λ (l : List Move). l ++ bonding_moves (unbonded row.trailers)) r.is
        ∙ sym (moves-append r.bonded (unbonded row.trailers));
  };
}

-- not all headers became extents
pub headers_stop : {old : Heap} {object : ℕ} {firsts : Firsts} → TellsFirsts old.blocks object firsts → (new : Heap) (stop : Stop) →
    ChainStops firsts.header (before firsts) old new stop → PartsStop object old new stop
headers_stop {old} f new stop s = record {
  stops = λ row k.
      stops_then (IsBondRow row.headers) (IsBondRow (ends_of row)) [] (none_made old) (headers_row row) new stop
      (s.stops [] row.headers (headers_at f k));
}

module _ {object : ℕ} {acct : Acct} {firsts : Firsts} {old : Heap} (last : ℕ) (t : Tells old.blocks object (λ row. row.account) acct)
    (f : TellsFirsts old.blocks object firsts) (w : HasWord (old.blocks object) 2 last) where
  module _ {one : Heap} {head : Chain} (h : BondsChain acct firsts.header (before firsts) old one head) where
    abbrev pub behind : Gap
    behind = record { previous = either last head.last; next = 0 }

    module _ {row : ObjectRow} (k : KeepsObject old.blocks object row) where
      abbrev pub made_headers : ChainBonded acct (before firsts) [] row.headers old one head
      made_headers = h.bonds [] row.headers (headers_at f k)

      abbrev pub hs : List BondedCapsule
      hs = made_headers.bonded

      abbrev pub front : List ExtentRow
      front = bonded_extents hs ++ row.extents

      abbrev O : Entries
      O = (object, object_block row) ∷ []

      abbrev T : Entries
      T = capsule_entries row.trailers

      -- they stand before the others
      in_front : (rest : Entries) → BlocksAre old.blocks (object_entries object row ++ rest) →
          BlocksAre one.blocks (chained 0 front ++ (T ++ ((bonded_sources acct hs ++ O) ++ rest)))
      unfolding linked
      in_front rest s =
          let H = capsule_entries row.headers in
          let X = extent_entries row.extents in
          let S = bonded_sources acct hs in
          let A = chained firsts.extent (bonded_extents hs) in
          let s1 : BlocksAre old.blocks (H ++ (O ++ (X ++ (T ++ rest)))) =
          moved O H (X ++ (T ++ rest)) (subst (λ (es : Entries). BlocksAre old.blocks es) (opened object row rest) s) in
          let s2 : BlocksAre one.blocks ((A ++ S) ++ (O ++ (X ++ (T ++ rest)))) = made_headers.changes.kept (O ++ (X ++ (T ++ rest))) s1 in
          let s3 : BlocksAre one.blocks (A ++ ((S ++ O) ++ (X ++ (T ++ rest)))) =
          subst (λ (es : Entries). BlocksAre one.blocks es)
          (append_assoc A S (O ++ (X ++ (T ++ rest))) ∙ ap (λ (es : Entries). A ++ es) (sym (append_assoc S O (X ++ (T ++ rest))))) s2 in
          let s4 : BlocksAre one.blocks ((A ++ X) ++ ((S ++ O) ++ (T ++ rest))) =
          subst (λ (es : Entries). BlocksAre one.blocks es) (sym (append_assoc A X ((S ++ O) ++ (T ++ rest))))
          (swapped one.blocks A (S ++ O) X (T ++ rest) s3) in
          let s5 : BlocksAre one.blocks ((A ++ X) ++ (T ++ ((S ++ O) ++ rest))) = swapped one.blocks (A ++ X) (S ++ O) T rest s4 in
          subst (λ (es : Entries). BlocksAre one.blocks (es ++ (T ++ ((S ++ O) ++ rest))))
          (ap (λ n. chained n (bonded_extents hs) ++ X) (f.told row k).extent ∙ sym (in_two (bonded_extents hs) row.extents)) s5

      front_first : head.first ≡ first_of extent_addr 0 front
      front_first =
          made_headers.first ∙ ap (λ n. first_of extent_addr n (bonded_extents hs)) (f.told row k).extent
          ∙ sym (first-append extent_addr extent_block 0 (bonded_extents hs) row.extents)

      -- the extents of the object itself
      own_extents : BlocksAre old.blocks
          (chained 0 row.extents ++ (O ++ (capsule_entries row.headers ++ (T ++ k.rest))))
      own_extents =
          let H = capsule_entries row.headers in
          let X = extent_entries row.extents in
          subst (λ (es : Entries). BlocksAre old.blocks (X ++ es)) (append_assoc O H (T ++ k.rest))
          (moved (O ++ H) X (T ++ k.rest)
          (subst (λ (es : Entries). BlocksAre old.blocks es)
          (opened object row k.rest ∙ sym (append_assoc O H (X ++ (T ++ k.rest)))) k.stands))

      front_last : either last head.last ≡ last_of extent_addr 0 front
      front_last =
          either_last (bonded_extents hs) row.extents _ last head.last own_extents (object_word k 2 last (omega arith) w) made_headers.last

      pub trailers_at : ChainsAt one.blocks firsts.trailer behind front row.trailers
      trailers_at =
          let c = side_at k sides.Trailers firsts.trailer (f.told row k).trailer in
          record {
            rest = (bonded_sources acct hs ++ O) ++ k.rest;
            stands = in_front k.rest k.stands;
            at_previous = front_last;
            at_first = c.at_first;
            fits = c.fits;
            few = c.few;
          }

      -- the trailers didn't all become extents
      trailers_row : (ms : List Move) → IsBondRow row.trailers ms → Goes (IsBondRow (ends_of row)) (bonding_moves hs) ms
      trailers_row ms r = record {
        more = [];
        is = record {
          bonded = hs ++ r.bonded;
          whole =
              capsules-append hs r.bonded ∙ ap (λ (ys : List CapsuleRow). ys ++ capsules_of r.bonded) made_headers.whole
              ∙ ap (λ (ys : List CapsuleRow). row.headers ++ ys) r.whole;
          is =
              ap (λ (l : List Move). bonding_moves hs ++ l) (append-nil ms ∙ r.is) ∙ sym (moves-append hs r.bonded);
        };
      }

      -- or they did
      module _ {two : Heap} {tail : Chain} (u : BondsChain acct firsts.trailer behind one two tail) where
        abbrev made_trailers : ChainBonded acct behind front row.trailers one two tail
        made_trailers = u.bonds front row.trailers trailers_at

        abbrev ts : List BondedCapsule
        ts = made_trailers.bonded

        all_one : front ++ bonded_extents ts ≡ joined hs row.extents ts
        all_one = append_assoc (bonded_extents hs) row.extents (bonded_extents ts)

        all_there : (rest : Entries) → BlocksAre old.blocks (object_entries object row ++ rest) →
            BlocksAre two.blocks
            (((object, object_block row) ∷ (extent_entries (joined hs row.extents ts) ++ bonded_sources row.account (hs ++ ts))) ++ rest)
        all_there rest s =
            let S = bonded_sources acct hs in
            let U = bonded_sources acct ts in
            let F = chained 0 (front ++ bonded_extents ts) in
            let s1 : BlocksAre one.blocks ((chained 0 front ++ T) ++ ((S ++ O) ++ rest)) =
            subst (λ (es : Entries). BlocksAre one.blocks es) (sym (append_assoc (chained 0 front) T ((S ++ O) ++ rest))) (in_front rest s) in
            let s2 : BlocksAre two.blocks ((F ++ U) ++ ((S ++ O) ++ rest)) = made_trailers.changes.kept ((S ++ O) ++ rest) s1 in
            let s3 : BlocksAre two.blocks (F ++ (U ++ (S ++ (O ++ rest)))) =
            subst (λ (es : Entries). BlocksAre two.blocks es)
            (append_assoc F U ((S ++ O) ++ rest) ∙ ap (λ (es : Entries). F ++ (U ++ es)) (append_assoc S O rest)) s2 in
            let s4 : BlocksAre two.blocks (F ++ (S ++ (U ++ (O ++ rest)))) = swapped two.blocks F U S (O ++ rest) s3 in
            let s5 : BlocksAre two.blocks ((F ++ (S ++ U)) ++ (O ++ rest)) =
            subst (λ (es : Entries). BlocksAre two.blocks es)
            (ap (λ (es : Entries). F ++ es) (sym (append_assoc S U (O ++ rest))) ∙ sym (append_assoc F (S ++ U) (O ++ rest))) s4 in
            let s6 : BlocksAre two.blocks (O ++ ((F ++ (S ++ U)) ++ rest)) = moved (F ++ (S ++ U)) O rest s5 in
            subst (λ (a : Acct). BlocksAre two.blocks
            (((object, object_block row) ∷ (extent_entries (joined hs row.extents ts) ++ bonded_sources a (hs ++ ts))) ++ rest))
            (t.tells row k)
            (subst (λ (xs : List ExtentRow). BlocksAre two.blocks
            (((object, object_block row) ∷ (chained 0 xs ++ bonded_sources acct (hs ++ ts))) ++ rest)) all_one
            (subst (λ (es : Entries). BlocksAre two.blocks (((object, object_block row) ∷ (F ++ es)) ++ rest))
            (sym (flat_map-append (bonded_source acct) hs ts)) s6))

        pub parts_bonded : PartsBonded object row old two (record { first = either head.first tail.first; last = tail.last })
        parts_bonded = record {
          headers = hs;
          trailers = ts;
          are = record {
            of_headers = made_headers.whole;
            of_trailers = made_trailers.whole;
            headers_small = made_headers.small;
            trailers_small = made_trailers.small;
          };
          ends = record {
            first =
                either_first front (bonded_extents ts) _ head.first tail.first (in_front k.rest k.stands) front_first made_trailers.first
                ∙ ap (first_of extent_addr 0) all_one;
            last =
                made_trailers.last ∙ ap (λ n. last_of extent_addr n (bonded_extents ts)) front_last
                ∙ sym (last-append extent_addr extent_block 0 front (bonded_extents ts)) ∙ ap (last_of extent_addr 0) all_one;
          };
          changes = record { kept = λ rest s. all_there rest s };
          made =
              subst (λ (ms : List Move). Made ms old two) (sym (moves-append hs ts))
              (made_then (bonding_moves hs) (bonding_moves ts) made_headers.made made_trailers.made);
          fresh =
              subst (λ (ms : List Move). Fresh ms old.blocks two.blocks) (sym (moves-append hs ts))
              (fresh_then (bonding_moves hs) (bonding_moves ts) made_headers.fresh made_trailers.fresh);
        }

    pub trailers_there : SomeToBond old object → SomeChains one firsts.trailer behind
    trailers_there q = record {
      front = front q.keeps;
      rows = q.row.trailers;
      is = trailers_at q.keeps;
      room =
          let r = q.room in
          let n = many_ends q.row in
          let m = made_headers q.keeps in
          let e : one.spare ≡ old.spare - length (bonding_moves m.bonded) = ap (λ (x : Heap). x.spare) m.made.all in
          let l = length-moves m.bonded in
          let c = length-capsules m.bonded in
          let v = ap (length {A = CapsuleRow}) m.whole in omega (arith, r, n, e, l, c, v);
    }

    pub trailers_stop : (new : Heap) (stop : Stop) → ChainStops firsts.trailer behind one new stop → PartsStop object old new stop
    trailers_stop new stop s = record {
      stops = λ row k.
          stops_then (IsBondRow row.trailers) (IsBondRow (ends_of row)) (bonding_moves (hs k)) (made_headers k).made (trailers_row k) new stop
          (s.stops (front k) row.trailers (trailers_at k));
    }

    pub bonds_parts : {two : Heap} {tail : Chain} → BondsChain acct firsts.trailer behind one two tail →
        BondsParts object old two (record { first = either head.first tail.first; last = tail.last })
    bonds_parts u = record { bonds = λ row k. parts_bonded k u }

-- a fault
pub parts_fault : (object : ℕ) (old new : Heap) (stop : Stop) → OnlyFault stop → PartsStop object old new stop
parts_fault object old new stop e = record { stops = λ row k. fault_stops (IsBondRow (ends_of row)) old new stop e }
