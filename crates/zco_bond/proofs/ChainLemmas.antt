-- The headers or trailers of a chain become extents one by one.
use Rattle.std.proofs.Common.{◌≡◌, ◌≢◌, ◌+◌, ◌/◌, ◌≤◌, ℕ, List, [], ◌++◌, refl, sym, subst, append-nil}
use Rattle.std.specs.Prelude.{sum_by}
use Rattle.std.proofs.lemmas.List.Elements.{All-nil}
use Rattle.sdr_base.specs.Entries.{BlocksAre}
use Rattle.sdr_base.specs.Objects.{Heap, OnlyFault}
use Rattle.sdr_base.specs.ZcoObjects.{CapsuleRow, ExtentRow, capsule_entries}
use Rattle.sdr_base.specs.declared.account.Acct.{Acct}
use Rattle.sdr_base.specs.declared.stop.Stop.{Stop}
use Rattle.sdr_base.proofs.GaveLemmas.{none_made}
use Rattle.zco_obj.specs.Walks.{SeesCapsule, SomeCapsule}
use Rattle.zco_obj.specs.declared.seeing.SeenCapsule.{SeenCapsule}
use Rattle.zco_bond.specs.Bonded.{IsSmall, capsules_of, chained}
use Rattle.zco_bond.specs.Chaining.{BondsChain, ChainsAt, ChainStops, IsBondRow, SomeChains, bond_lines}
use Rattle.zco_bond.specs.Placing.{BondsText, IsTextRow, SomePlace}
use Rattle.zco_bond.specs.Rows.{RowStops}
use Rattle.zco_bond.specs.declared.gap.Chain.{Chain}
use Rattle.zco_bond.specs.declared.gap.Gap.{Gap}
use Rattle.zco_bond.proofs.FreshLemmas.{fresh_none}
use Rattle.zco_bond.proofs.LeftLemmas.{BondLeft, here_kept, left_on, left_stops, lines_below, many_none, none_left, one_lines, one_room, over, over_lines, place_there}
use Rattle.zco_bond.proofs.RowLemmas.{fault_stops}

-- so many first ones of whichever chain is there have become extents
pub record BondedSoFar (acct : Acct) (first : ℕ) (gap : Gap) (Touches : ℕ → Type 0) (old now : Heap) (cursor i : ℕ) (chain : Chain)
    : Type 0 where
  pub left : (front : List ExtentRow) (rows : List CapsuleRow) → ChainsAt old.blocks first gap front rows →
      BondLeft acct gap front rows Touches old now cursor i chain

pub chain_begun : (acct : Acct) (first : ℕ) (gap : Gap) (Touches : ℕ → Type 0) (old : Heap) → Touches 0 →
    BondedSoFar acct first gap Touches old old first 0 (record { first = gap.next; last = gap.previous })
chain_begun acct first gap Touches old none = record {
  left = λ front rows c. record {
    bonded = [];
    left = rows;
    whole = refl;
    counted = refl;
    at_cursor = c.at_first;
    small = All-nil IsSmall;
    first = refl;
    last = refl;
    kept = λ rest s.
        subst (λ (fs : List ExtentRow). BlocksAre old.blocks (chained gap.next fs ++ (capsule_entries rows ++ rest))) (sym (append-nil front)) s;
    made = none_made old;
    fresh = fresh_none old.blocks;
    lines = none;
  };
}

module _ {acct : Acct} {first : ℕ} {gap : Gap} {Touches : ℕ → Type 0} {old now : Heap} {cursor i : ℕ} {chain : Chain}
    (l : BondedSoFar acct first gap Touches old now cursor i chain) where
  pub capsule_there : cursor ≢ 0 → SomeChains old first gap → SomeCapsule (now.blocks cursor)
  capsule_there nz q = record { next = _; capsule = _; keeps = here_kept q.is (l.left q.front q.rows q.is) nz }

  pub chain_room : cursor ≢ 0 → SomeChains old first gap → 4 ≤ now.spare
  chain_room nz q = one_room q.is (l.left q.front q.rows q.is) nz q.room

  pub some_place : (seen : SeenCapsule) → cursor ≢ 0 → SeesCapsule (now.blocks cursor) seen → SomeChains old first gap →
      SomePlace now.blocks (record { of = cursor; bytes = seen.bytes }) (record { previous = chain.last; next = gap.next })
  some_place seen nz v q = record {
    front = _;
    next = _;
    capsule = _;
    is = place_there q.is (l.left q.front q.rows q.is) nz seen.bytes;
    named = record { some = capsule_there nz q; tells = v.bytes };
  }

  pub chain_on : (seen : SeenCapsule) → cursor ≢ 0 → SeesCapsule (now.blocks cursor) seen → {new : Heap} {extent : ℕ} →
      BondsText acct (record { of = cursor; bytes = seen.bytes }) (record { previous = chain.last; next = gap.next }) now new extent →
      (Touched : ℕ → Type 0) (after : Chain) → after.last ≡ extent → (i ≡ 0 → after.first ≡ extent) →
      ((i ≡ 0 → ⊥) → after.first ≡ chain.first) → ((n : ℕ) → Touches n → Touched (n + (114 + (8 + seen.bytes) / 32))) →
      BondedSoFar acct first gap Touched old new seen.next (i + 1) after
  chain_on seen nz v t Touched after last begun kept more = record {
    left = λ front rows c. left_on c (l.left front rows c) nz seen v t Touched after last begun kept more;
  }

  pub chain_stops : (seen : SeenCapsule) → cursor ≢ 0 → SeesCapsule (now.blocks cursor) seen → (new : Heap) (stop : Stop) →
      RowStops (IsTextRow (record { of = cursor; bytes = seen.bytes })) now new stop → ChainStops first gap old new stop
  chain_stops seen nz v new stop s = record { stops = λ front rows c. left_stops c (l.left front rows c) nz seen v new stop s }

  pub chain_all : cursor ≡ 0 → BondsChain acct first gap old now chain
  chain_all z = record { bonds = λ front rows c. over c (l.left front rows c) (none_left c (l.left front rows c) z) }

  pub chain_many : i ≡ 4194304 → BondsChain acct first gap old now chain
  chain_many all = record { bonds = λ front rows c. over c (l.left front rows c) (many_none c (l.left front rows c) all) }

  module _ {front : List ExtentRow} {rows : List CapsuleRow} (c : ChainsAt old.blocks first gap front rows) where
    pub lines_all : cursor ≡ 0 → Touches (sum_by bond_lines rows)
    lines_all z = over_lines c (l.left front rows c) (none_left c (l.left front rows c) z)

    pub lines_many : i ≡ 4194304 → Touches (sum_by bond_lines rows)
    lines_many all = over_lines c (l.left front rows c) (many_none c (l.left front rows c) all)

    -- so many were touched
    abbrev pub lines_so_far : ℕ
    lines_so_far = sum_by bond_lines (capsules_of (l.left front rows c).bonded)

    pub touched : Touches lines_so_far
    touched = (l.left front rows c).lines

    pub lines_most : lines_so_far ≤ sum_by bond_lines rows
    lines_most = lines_below c (l.left front rows c)

    pub lines_with : (seen : SeenCapsule) → cursor ≢ 0 → SeesCapsule (now.blocks cursor) seen →
        lines_so_far + (114 + (8 + seen.bytes) / 32) ≤ sum_by bond_lines rows
    lines_with seen nz v = one_lines c (l.left front rows c) nz seen v

-- a fault
pub chain_faults : (first : ℕ) (gap : Gap) (old new : Heap) (stop : Stop) → OnlyFault stop → ChainStops first gap old new stop
chain_faults first gap old new stop f = record { stops = λ front rows c. fault_stops (IsBondRow rows) old new stop f }
