-- Headers and trailers that have become extents, by the addresses that the moves take.
use Rattle.std.proofs.Common.{◌≡◌, ◌∙◌, ◌+◌, ◌*◌, ℕ, suc, List, [], ◌∷◌, ◌++◌, map, slice_index, length, refl, sym, ap, arith, append_assoc}
use Rattle.std.proofs.lemmas.List.{map-append}
use Rattle.sdr_stands.specs.Rows.{capsule_row, extent_row, object_row}
use Rattle.sdr_stands.specs.Standing.{thing_entries}
use Rattle.sdr_stands.specs.Ties.{Ties}
use Rattle.sdr_base.specs.Raws.{raw_entries}
use Rattle.sdr_base.specs.ZcoObjects.{ExtentRow}
use Rattle.sdr_base.specs.declared.account.Acct.{Acct}
use Rattle.sdr_base.specs.declared.moves.Move.{Move}
use Rattle.sdr_base.specs.declared.moves.Move.TheVariants.{Gave, Took}
use Rattle.sdr_model.proofs.SumLemmas.{sum_by-map}
use Rattle.sdr_model.specs.BondSteps as bonds
use Rattle.sdr_model.specs.BondSteps.{bond_extents, bond_moves, bonded}
use Rattle.sdr_model.specs.Steps.{taken_addresses}
use Rattle.sdr_model.specs.Things.{extent_need, raw_need, source_need}
use Rattle.sdr_model.specs.declared.zco.Capsule.{Capsule}
use Rattle.sdr_model.specs.declared.zco.ZcoObject.{ZcoObject}
use Rattle.zco_bond.specs.Bonded.{BondedCapsule, bonded_extents, bonded_sources, bonding_moves, capsules_of, joined, whole_of}
use Rattle.step_zco_parts.proofs.ThingsLemmas.{written}
use Rattle.step_zco_parts.proofs.TiesLemmas.{AreTied, source_written}

-- one by the addresses of its three blocks
abbrev one_by : (ℕ → ℕ) → ℕ → Capsule → BondedCapsule
one_by at k c = record { capsule = capsule_row c; raw = at k; source = at (k + 1); extent = at (k + 2) }

-- these are what headers or trailers have become
abbrev pub bonded_by : (ℕ → ℕ) → ℕ → List Capsule → List BondedCapsule
bonded_by at k [] = []
bonded_by at k (c ∷ cs) =
    record { capsule = capsule_row c; raw = at k; source = at (k + 1); extent = at (k + 2) } ∷ bonded_by at (k + 3) cs

-- the moves that they make
pub moves_by : (at : ℕ → ℕ) (k : ℕ) (cs : List Capsule) → bonding_moves (bonded_by at k cs) ≡ bond_moves at k cs
moves_by at k [] = refl
moves_by at k (c ∷ cs) =
    ap (λ (ms : List Move). Took (raw_need (length c.text)) (at k) ∷ Took (source_need 0) (at (k + 1)) ∷ Took extent_need (at (k + 2))
    ∷ Gave c.block ∷ ms) (moves_by at (k + 3) cs)

-- the extents that they are
pub extents_by : (at : ℕ → ℕ) (k : ℕ) (cs : List Capsule) →
    map extent_row (bonds.bonded_extents at k cs) ≡ bonded_extents (bonded_by at k cs)
extents_by at k [] = refl
extents_by at k (c ∷ cs) =
    ap (λ (es : List ExtentRow). record { addr = at (k + 2); source = at (k + 1); offset = 0; length = length c.text } ∷ es)
    (extents_by at (k + 3) cs)

pub append_by : (at : ℕ → ℕ) (k : ℕ) (xs ys : List Capsule) →
    bonded_by at k (xs ++ ys) ≡ bonded_by at k xs ++ bonded_by at (k + 3 * length xs) ys
append_by at k [] ys = ap (λ (i : ℕ). bonded_by at i ys) (omega arith)
append_by at k (x ∷ xs) ys =
    ap (λ (bs : List BondedCapsule). one_by at k x ∷ bs)
    (append_by at (k + 3) xs ys ∙ ap (λ (i : ℕ). bonded_by at (k + 3) xs ++ bonded_by at i ys) (omega arith))

-- what has become of these headers or trailers, wherever it is, is told by the addresses that the moves take
pub told_by : (bs : List BondedCapsule) (cs : List Capsule) → capsules_of bs ≡ map capsule_row cs → (at : ℕ → ℕ) (k : ℕ) →
    ((i : ℕ) → at (k + i) ≡ slice_index (taken_addresses (bonding_moves bs)) i) → bs ≡ bonded_by at k cs
told_by [] [] same at k is = refl
told_by [] (c ∷ cs) same at k is = absurd cc
told_by (b ∷ bs) [] same at k is = absurd cc
told_by (b ∷ bs) (c ∷ cs) same at k is =
    let capsule : b.capsule ≡ capsule_row c = cc in
    let others : capsules_of bs ≡ map capsule_row cs = cc in
    let raw : at k ≡ b.raw = ap at (omega arith) ∙ is 0 in
    let rest = told_by bs cs others at (k + 3) (λ i. ap at (omega arith) ∙ is (suc (suc (suc i)))) in
    λ j. record { capsule = capsule j; raw = sym raw j; source = sym (is 1) j; extent = sym (is 2) j } ∷ rest j

-- they are written as the things are that the headers and trailers become
pub written_by : (t : Ties) (acct : Acct) (at : ℕ → ℕ) (k : ℕ) (cs : List Capsule) → AreTied t.named_by t.counts acct at k cs →
    written (thing_entries t) at k cs ≡ bonded_sources acct (bonded_by at k cs)
written_by t acct at k [] tied = refl
written_by t acct at k (c ∷ cs) tied =
    let source = source_written acct (t.counts (at (k + 1))) (at (k + 1)) (at k) c tied.1 in
    let raw = ap (λ (n : ℕ). raw_entries (at k) n c.text) tied.0 in
    λ i. (source i ++ raw i) ++ written_by t acct at (k + 3) cs tied.2 i

-- the row of a bonded object
pub bonded_row : (at : ℕ → ℕ) (z : ZcoObject) →
    object_row (bonded at z)
    ≡ whole_of (object_row z)
    (joined (bonded_by at 0 z.headers) (map extent_row z.extents) (bonded_by at (3 * length z.headers) z.trailers))
bonded_row at z =
    let heads = bonds.bonded_extents at 0 z.headers in
    let tails = bonds.bonded_extents at (3 * length z.headers) z.trailers in
    let own = map extent_row z.extents in
    let all : map extent_row (bond_extents at z)
    ≡ joined (bonded_by at 0 z.headers) own (bonded_by at (3 * length z.headers) z.trailers) =
    map-append extent_row (heads ++ z.extents) tails
    ∙ ap (λ (es : List ExtentRow). es ++ map extent_row tails) (map-append extent_row heads z.extents)
    ∙ append_assoc (map extent_row heads) own (map extent_row tails)
    ∙ (λ i. extents_by at 0 z.headers i ++ (own ++ extents_by at (3 * length z.headers) z.trailers i)) in
    let bytes = sym (sum_by-map (λ (e : ExtentRow). e.length) extent_row (bond_extents at z)) in
    (λ i. record {
      account = z.account;
      headers = [];
      extents = map extent_row (bond_extents at z);
      trailers = [];
      part_offset = 0;
      part_length = bytes i;
    })
    ∙ ap (whole_of (object_row z)) all

pub length_by : (at : ℕ → ℕ) (k : ℕ) (cs : List Capsule) → length (bonded_by at k cs) ≡ length cs
length_by at k [] = refl
length_by at k (c ∷ cs) = let rest = length_by at (k + 3) cs in omega (arith, rest)
