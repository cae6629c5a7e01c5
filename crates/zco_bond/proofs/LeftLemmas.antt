-- Some first ones of the headers or trailers of a chain have become extents, and one more does.
use Rattle.std.proofs.Common.{◌≡◌, ◌≢◌, ◌+◌, ◌-◌, ◌*◌, ◌/◌, ◌≤◌, ℕ, List, [], ◌∷◌, ◌++◌, length, refl, sym, ap, ◌∙◌, arith, subst, append_assoc, append-nil, length-append}
use Rattle.std.specs.Prelude.{All, sum_by}
use Rattle.std.proofs.lemmas.List.Concat.{flat_map-append}
use Rattle.std.proofs.lemmas.List.Elements.{All-head, All-push, All-tail}
use Rattle.std.proofs.lemmas.List.Sums.{sum_by-append, sum_by-cons, sum_by_push}
use Rattle.sdr_base.specs.Entries.{Entries, BlocksAre}
use Rattle.sdr_base.specs.Linked.{first_of, last_of, linked}
use Rattle.sdr_base.specs.Making.{Made}
use Rattle.sdr_base.specs.Objects.{Heap}
use Rattle.sdr_base.specs.ZcoObjects.{CapsuleRow, ExtentRow, capsule_addr, capsule_block, capsule_entries, extent_addr, extent_block}
use Rattle.sdr_base.specs.declared.account.Acct.{Acct}
use Rattle.sdr_base.specs.declared.moves.Move.{Move}
use Rattle.sdr_base.specs.declared.stop.Stop.{Stop}
use Rattle.sdr_base.proofs.GaveLemmas.{made_then}
use Rattle.sdr_base.proofs.LinkedLemmas.{last-append}
use Rattle.sdr_base.proofs.StandingLemmas.{nonzero}
use Rattle.zco_obj.specs.Kept.{CapsuleFits}
use Rattle.zco_obj.specs.Walks.{KeepsCapsule, SeesCapsule}
use Rattle.zco_obj.specs.declared.seeing.SeenCapsule.{SeenCapsule}
use Rattle.zco_obj.proofs.ChainLemmas.{any_previous}
use Rattle.zco_obj.proofs.KeptLemmas.{first_capsule}
use Rattle.zco_obj.proofs.PairLemmas.{swapped}
use Rattle.zco_obj.proofs.WalkLemmas.{HasFirst, fits_from, has_first}
use Rattle.zco_bond.specs.Bonded.{BondedCapsule, IsSmall, bonded_extent, bonded_extents, bonded_source, bonded_sources, bonding, bonding_moves, capsules_of, chained, moves_of}
use Rattle.zco_bond.specs.Chaining.{ChainBonded, ChainsAt, IsBondRow, bond_lines}
use Rattle.zco_bond.specs.Fresh.{Fresh}
use Rattle.zco_bond.specs.Placing.{BondsText, IsTextRow, PlaceAt, bonded_at}
use Rattle.zco_bond.specs.Rows.{RowStops}
use Rattle.zco_bond.specs.declared.gap.Chain.{Chain}
use Rattle.zco_bond.specs.declared.gap.Gap.{Gap}
use Rattle.zco_bond.proofs.BondTextLemmas.{place_kept}
use Rattle.zco_bond.proofs.BondedLemmas.{capsules-append, capsules-unbonded, extents-append, first_more, last_more, length-capsules, length-moves, moves-append, unbonded}
use Rattle.zco_bond.proofs.FreshLemmas.{fresh_then}
use Rattle.zco_bond.proofs.RowLemmas.{Goes, stops_then}

-- so many first ones have become extents, and the cursor is at the first of those that are left; Touches says of a count of lines
-- that no more were touched
pub record BondLeft (acct : Acct) (gap : Gap) (front : List ExtentRow) (rows : List CapsuleRow) (Touches : ℕ → Type 0) (old now : Heap)
    (cursor i : ℕ) (chain : Chain) : Type 0 where
  pub bonded : List BondedCapsule
  pub left : List CapsuleRow
  pub whole : rows ≡ capsules_of bonded ++ left
  pub counted : length bonded ≡ i
  pub at_cursor : cursor ≡ first_of capsule_addr 0 left
  pub small : All IsSmall bonded
  pub first : chain.first ≡ first_of extent_addr gap.next (bonded_extents bonded)
  pub last : chain.last ≡ last_of extent_addr gap.previous (bonded_extents bonded)
  pub kept : (rest : Entries) → BlocksAre old.blocks (chained gap.next front ++ (capsule_entries rows ++ rest)) →
      BlocksAre now.blocks (chained gap.next (front ++ bonded_extents bonded) ++ (capsule_entries left ++ (bonded_sources acct bonded ++ rest)))
  pub made : Made (bonding_moves bonded) old now
  pub fresh : Fresh (bonding_moves bonded) old.blocks now.blocks
  pub lines : Touches (sum_by bond_lines (capsules_of bonded))

module _ {acct : Acct} {gap : Gap} {front : List ExtentRow} {rows : List CapsuleRow} {Touches : ℕ → Type 0} {old now : Heap}
    {cursor i first : ℕ} {chain : Chain} (c : ChainsAt old.blocks first gap front rows)
    (l : BondLeft acct gap front rows Touches old now cursor i chain) where
  -- as many are left as weren't passed
  many_left : length rows ≡ i + length l.left
  many_left =
      let w = ap (length {A = CapsuleRow}) l.whole in
      let a = length-append (capsules_of l.bonded) l.left in
      let n = length-capsules l.bonded in
      let k = l.counted in omega (arith, w, a, n, k)

  lines_split : sum_by bond_lines rows ≡ sum_by bond_lines (capsules_of l.bonded) + sum_by bond_lines l.left
  lines_split = ap (sum_by bond_lines) l.whole ∙ sum_by-append bond_lines (capsules_of l.bonded) l.left

  pub none_left : cursor ≡ 0 → l.left ≡ []
  unfolding linked
  none_left z = by l.left refl
    where
      by : (xs : List CapsuleRow) → l.left ≡ xs → l.left ≡ []
      by [] e = e
      by (x ∷ xs) e =
          let s : BlocksAre now.blocks (chained gap.next (front ++ bonded_extents l.bonded)
          ++ (capsule_entries (x ∷ xs) ++ (bonded_sources acct l.bonded ++ c.rest))) =
          subst (λ (ys : List CapsuleRow). BlocksAre now.blocks (chained gap.next (front ++ bonded_extents l.bonded)
          ++ (capsule_entries ys ++ (bonded_sources acct l.bonded ++ c.rest)))) e (l.kept c.rest c.stands) in
          absurd (nonzero now.blocks x.addr _ (chained gap.next (front ++ bonded_extents l.bonded)) _ s
          (ap (first_of capsule_addr 0) (sym e) ∙ sym l.at_cursor ∙ z))

  pub many_none : i ≡ 4194304 → l.left ≡ []
  many_none all = let m = many_left in let f = c.few in absurd (omega (arith, m, f, all))

  -- all are
  pub over : l.left ≡ [] → ChainBonded acct gap front rows old now chain
  unfolding linked
  over none = record {
    bonded = l.bonded;
    whole = whole;
    small = l.small;
    first = l.first;
    last = l.last;
    changes = record {
      kept = λ rest s.
          let F = chained gap.next front in
          let F' = chained gap.next (front ++ bonded_extents l.bonded) in
          let B = bonded_sources acct l.bonded in
          subst (λ (es : Entries). BlocksAre now.blocks es) (sym (append_assoc F' B rest))
          (subst (λ (ys : List CapsuleRow). BlocksAre now.blocks (F' ++ (capsule_entries ys ++ (B ++ rest)))) none
          (l.kept rest (subst (λ (es : Entries). BlocksAre old.blocks es) (append_assoc F (capsule_entries rows) rest) s)));
    };
    made = l.made;
    fresh = l.fresh;
  }
    where
      whole : capsules_of l.bonded ≡ rows
      whole = sym (l.whole ∙ ap (λ (ys : List CapsuleRow). capsules_of l.bonded ++ ys) none ∙ append-nil (capsules_of l.bonded))

  pub over_lines : l.left ≡ [] → Touches (sum_by bond_lines rows)
  over_lines none =
      subst Touches
      (ap (sum_by bond_lines)
      (sym (l.whole ∙ ap (λ (ys : List CapsuleRow). capsules_of l.bonded ++ ys) none ∙ append-nil (capsules_of l.bonded)))) l.lines

  pub lines_below : sum_by bond_lines (capsules_of l.bonded) ≤ sum_by bond_lines rows
  lines_below = let s = lines_split in omega (arith, s)

  module _ (nz : cursor ≢ 0) where
    abbrev pub one_left : HasFirst l.left
    one_left = has_first capsule_addr l.left (λ z. nz (l.at_cursor ∙ z))

    abbrev here : CapsuleRow
    here = one_left.one

    abbrev next : ℕ
    next = first_of capsule_addr 0 one_left.behind

    one_fits : All CapsuleFits (here ∷ one_left.behind)
    one_fits =
        fits_from CapsuleFits (capsules_of l.bonded) (here ∷ one_left.behind)
        (subst (All CapsuleFits) (l.whole ∙ ap (λ (ys : List CapsuleRow). capsules_of l.bonded ++ ys) one_left.is) c.fits)

    pub one_stands : (rest : Entries) → BlocksAre old.blocks
        (chained gap.next front ++ (capsule_entries rows ++ rest)) →
        BlocksAre now.blocks (chained gap.next (front ++ bonded_extents l.bonded)
        ++ ((here.addr, capsule_block 0 next here) ∷ (capsule_entries one_left.behind ++ (bonded_sources acct l.bonded ++ rest))))
    unfolding linked
    one_stands rest s =
        let F = chained gap.next (front ++ bonded_extents l.bonded) in
        let B = bonded_sources acct l.bonded in
        subst (λ (es : Entries). BlocksAre now.blocks (F ++ ((here.addr, capsule_block 0 next here) ∷ (es ++ (B ++ rest)))))
        (any_previous here.addr 0 0 one_left.behind)
        (subst (λ (ys : List CapsuleRow). BlocksAre now.blocks (F ++ (capsule_entries ys ++ (B ++ rest)))) one_left.is (l.kept rest s))

    -- the next one is at the place
    pub place_there : (bytes : ℕ) →
        PlaceAt now.blocks (record { of = cursor; bytes = bytes }) (record { previous = chain.last; next = gap.next })
        (front ++ bonded_extents l.bonded) next here
    place_there bytes = record {
      rest = _;
      stands = one_stands c.rest c.stands;
      at_previous =
          l.last ∙ ap (λ n. last_of extent_addr n (bonded_extents l.bonded)) c.at_previous
          ∙ sym (last-append extent_addr extent_block 0 front (bonded_extents l.bonded));
      at_text = l.at_cursor ∙ ap (first_of capsule_addr 0) one_left.is;
      fits = All-head CapsuleFits here one_left.behind one_fits;
      small = first_capsule one_left.behind (All-tail CapsuleFits here one_left.behind one_fits);
    }

    pub here_kept : KeepsCapsule (now.blocks cursor) next here
    here_kept = place_kept (place_there 0)

    with_one : i + 1 ≤ length rows
    with_one = let m = many_left in let e = ap (length {A = CapsuleRow}) one_left.is in omega (arith, m, e)

    pub one_room : 4 * length rows ≤ old.spare → 4 ≤ now.spare
    one_room le =
        let e : now.spare ≡ old.spare - length (bonding_moves l.bonded) = ap (λ (h : Heap). h.spare) l.made.all in
        let n = length-moves l.bonded in let k = l.counted in let w = with_one in omega (arith, le, e, n, k, w)

    pub one_lines : (seen : SeenCapsule) → SeesCapsule (now.blocks cursor) seen →
        sum_by bond_lines (capsules_of l.bonded) + (114 + (8 + seen.bytes) / 32) ≤ sum_by bond_lines rows
    one_lines seen v =
        let s = lines_split in
        let e = ap (sum_by bond_lines) one_left.is in
        let p = sum_by-cons bond_lines here one_left.behind in
        let b = ap (λ n. 114 + (8 + n) / 32) (v.bytes next here here_kept) in omega (arith, s, e, p, b)

    -- it has become an extent
    module _ (seen : SeenCapsule) (v : SeesCapsule (now.blocks cursor) seen) {new : Heap} {extent : ℕ}
        (t : BondsText acct (record { of = cursor; bytes = seen.bytes }) (record { previous = chain.last; next = gap.next }) now new extent) where
      abbrev b : BondedCapsule
      b = bonded_at here t.raw t.source extent

      abbrev bs : List BondedCapsule
      bs = l.bonded ++ (b ∷ [])

      whole_on : rows ≡ capsules_of bs ++ one_left.behind
      whole_on =
          l.whole ∙ ap (λ (ys : List CapsuleRow). capsules_of l.bonded ++ ys) one_left.is
          ∙ sym (append_assoc (capsules_of l.bonded) (here ∷ []) one_left.behind)
          ∙ ap (λ (ys : List CapsuleRow). ys ++ one_left.behind) (sym (capsules-append l.bonded (b ∷ [])))

      one_made : Made (bonding b) now new
      one_made =
          subst (λ n. Made (moves_of n here.addr t.raw t.source extent) now new) (v.bytes next here here_kept)
          (subst (λ n. Made (moves_of seen.bytes n t.raw t.source extent) now new) (place_there seen.bytes).at_text t.made)

      one_fresh : Fresh (bonding b) now.blocks new.blocks
      one_fresh =
          subst (λ n. Fresh (moves_of n here.addr t.raw t.source extent) now.blocks new.blocks) (v.bytes next here here_kept)
          (subst (λ n. Fresh (moves_of seen.bytes n t.raw t.source extent) now.blocks new.blocks) (place_there seen.bytes).at_text t.fresh)

      kept_on : (rest : Entries) → BlocksAre old.blocks (chained gap.next front ++ (capsule_entries rows ++ rest)) →
          BlocksAre new.blocks (chained gap.next (front ++ bonded_extents bs) ++ (capsule_entries one_left.behind ++ (bonded_sources acct bs ++ rest)))
      kept_on rest s =
          let E = front ++ bonded_extents l.bonded in
          let F = chained gap.next E in
          let X = chained gap.next (E ++ (bonded_extent b ∷ [])) in
          let C = (here.addr, capsule_block 0 next here) ∷ [] in
          let H = capsule_entries one_left.behind in
          let S = bonded_sources acct l.bonded in
          let B = bonded_source acct b in
          let one : BlocksAre now.blocks ((F ++ C) ++ (H ++ (S ++ rest))) =
          subst (λ (es : Entries). BlocksAre now.blocks es) (sym (append_assoc F C (H ++ (S ++ rest)))) (one_stands rest s) in
          let two : BlocksAre new.blocks (X ++ (B ++ (H ++ (S ++ rest)))) =
          subst (λ (es : Entries). BlocksAre new.blocks es) (append_assoc X B (H ++ (S ++ rest)))
          ((t.bonds E next here (place_there seen.bytes)).kept (H ++ (S ++ rest)) one) in
          let three : BlocksAre new.blocks (X ++ (H ++ (B ++ (S ++ rest)))) = swapped new.blocks X B H (S ++ rest) two
          in
          let four : BlocksAre new.blocks ((X ++ H) ++ (S ++ (B ++ rest))) =
          swapped new.blocks (X ++ H) B S rest
          (subst (λ (es : Entries). BlocksAre new.blocks es) (sym (append_assoc X H (B ++ (S ++ rest)))) three) in
          let five : BlocksAre new.blocks (X ++ (H ++ ((S ++ B) ++ rest))) =
          subst (λ (es : Entries). BlocksAre new.blocks es)
          (append_assoc X H (S ++ (B ++ rest)) ∙ ap (λ (es : Entries). X ++ (H ++ es)) (sym (append_assoc S B rest))) four in
          subst (λ (es : Entries). BlocksAre new.blocks (chained gap.next (front ++ bonded_extents bs) ++ (H ++ (es ++ rest)))) sources
          (subst (λ (fs : List ExtentRow). BlocksAre new.blocks (chained gap.next fs ++ (H ++ ((S ++ B) ++ rest)))) extents five)
        where
          extents : (front ++ bonded_extents l.bonded) ++ (bonded_extent b ∷ []) ≡ front ++ bonded_extents bs
          extents =
              append_assoc front (bonded_extents l.bonded) (bonded_extent b ∷ [])
              ∙ ap (λ (fs : List ExtentRow). front ++ fs) (sym (extents-append l.bonded (b ∷ [])))

          sources : bonded_sources acct l.bonded ++ bonded_source acct b ≡ bonded_sources acct bs
          sources =
              ap (λ (es : Entries). bonded_sources acct l.bonded ++ es) (sym (append-nil (bonded_source acct b)))
              ∙ sym (flat_map-append (bonded_source acct) l.bonded (b ∷ []))

      pub left_on : (Touched : ℕ → Type 0) (after : Chain) → after.last ≡ extent → (i ≡ 0 → after.first ≡ extent) →
          ((i ≡ 0 → ⊥) → after.first ≡ chain.first) → ((n : ℕ) → Touches n → Touched (n + (114 + (8 + seen.bytes) / 32))) →
          BondLeft acct gap front rows Touched old new seen.next (i + 1) after
      left_on Touched after last begun kept more = record {
        bonded = bs;
        left = one_left.behind;
        whole = whole_on;
        counted = let n = length-append l.bonded (b ∷ []) in let k = l.counted in omega (arith, n, k);
        at_cursor = v.next next here here_kept;
        small = All-push IsSmall l.bonded b l.small (record { raw = t.raw_small; source = t.source_small; extent = t.small });
        first =
            first_more gap.next extent after.first chain.first l.bonded b refl l.first (λ z. begun (sym l.counted ∙ z))
            (λ n. kept (λ z. n (l.counted ∙ z)));
        last = last ∙ last_more gap.previous l.bonded b;
        kept = kept_on;
        made =
            subst (λ (ms : List Move). Made ms old new) (sym (moves-append l.bonded (b ∷ [])))
            (made_then (bonding_moves l.bonded) (bonding b) l.made one_made);
        fresh =
            subst (λ (ms : List Move). Fresh ms old.blocks new.blocks) (sym (moves-append l.bonded (b ∷ [])))
            (fresh_then (bonding_moves l.bonded) (bonding b) l.fresh one_fresh);
        lines =
            subst Touched
            (ap (λ n. sum_by bond_lines (capsules_of l.bonded) + (114 + (8 + n) / 32)) (v.bytes next here here_kept)
            ∙ sym (sum_by_push bond_lines (capsules_of l.bonded) here)
            ∙ ap (sum_by bond_lines) (sym (capsules-append l.bonded (b ∷ []))))
            (more (sum_by bond_lines (capsules_of l.bonded)) l.lines);
      }

    -- or it hasn't
    pub left_stops : (seen : SeenCapsule) → SeesCapsule (now.blocks cursor) seen → (new : Heap) (stop : Stop) →
        RowStops (IsTextRow (record { of = cursor; bytes = seen.bytes })) now new stop → RowStops (IsBondRow rows) old new stop
    left_stops seen v new stop s =
        stops_then (IsTextRow (record { of = cursor; bytes = seen.bytes })) (IsBondRow rows) (bonding_moves l.bonded) l.made goes new stop s
      where
        goes : (t : List Move) → IsTextRow (record { of = cursor; bytes = seen.bytes }) t → Goes (IsBondRow rows) (bonding_moves l.bonded) t
        goes t r =
            let b0 = bonded_at here r.raw r.source r.extent in
            let more = unbonded one_left.behind in
            let is : t ≡ bonding b0 =
            r.is ∙ ap (λ n. moves_of n cursor r.raw r.source r.extent) (v.bytes next here here_kept)
            ∙ ap (λ n. moves_of (length here.text) n r.raw r.source r.extent) (place_there 0).at_text in
            record {
              more = bonding_moves more;
              is = record {
                bonded = l.bonded ++ (b0 ∷ more);
                whole =
                    capsules-append l.bonded (b0 ∷ more)
                    ∙ ap (λ (ys : List CapsuleRow). capsules_of l.bonded ++ (here ∷ ys)) (capsules-unbonded one_left.behind)
                    ∙ ap (λ (ys : List CapsuleRow). capsules_of l.bonded ++ ys) (sym one_left.is) ∙ sym l.whole;
                is =
                    ap (λ (ms : List Move). bonding_moves l.bonded ++ (ms ++ bonding_moves more)) is
                    ∙ sym (moves-append l.bonded (b0 ∷ more));
              };
            }
