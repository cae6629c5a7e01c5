-- Moves that take what is free take fresh blocks, so that what headers and trailers become comes where nothing is.
use Rattle.std.proofs.Common.{◌≡◌, ◌≢◌, ◌∙◌, ◌+◌, ◌⊎◌, ℕ, List, [], ◌∷◌, inl, inr, nat_eq, sym, ap, arith}
use Rattle.std.proofs.lemmas.Bool.{ne_eqb}
use Rattle.std.proofs.lemmas.List.Elements.{All-cons, All-head, All-nil, All-tail}
use Rattle.std.specs.Cmp.{nat_eq_equiv}
use Rattle.std.specs.List.{count_by}
use Rattle.std.specs.Prelude.{All}
use Rattle.sdr_base.specs.declared.moves.Move.{Move}
use Rattle.sdr_base.specs.declared.moves.Move.TheVariants.{Gave, Short, Took}
use Rattle.law_steps.proofs.BondLaws.{Tracks, tracks_next, with_one}
use Rattle.law_steps.proofs.DistinctLemmas.{absent, count_by-cons, none_counted, not_contained, others, others_counted, weight, weight_of}
use Rattle.law_steps.proofs.SourceViews.{by_addr}
use Rattle.law_steps.specs.Fresh.{AreFresh}
use Rattle.sdr_model.specs.BondSteps.{bond_moves}
use Rattle.sdr_model.specs.Fields.{IsWord}
use Rattle.sdr_model.specs.Steps.{taken_addresses}
use Rattle.sdr_model.specs.Things.{Things}
use Rattle.sdr_model.specs.declared.zco.Capsule.{Capsule}
use Rattle.zco_bond.specs.Bonded.{BondedCapsule, IsSmall, bonding_moves}
use Rattle.zco_bond.specs.Fresh.{TakesFree}
use Rattle.step_zco_parts.proofs.ThingsLemmas.{Come}

-- what is free isn't in use
abbrev pub Unused : (ℕ → Type 0) → List ℕ → Type 0
Unused Free used = (q : ℕ) → Free q → count_by (nat_eq q) used ≡ 0

taken_unused : (F : ℕ → Type 0) (used : List ℕ) (addr : ℕ) → Unused F used → Unused (λ q. (q ≢ addr) × F q) (addr ∷ used)
taken_unused F used addr unused q free =
    let sums = count_by-cons (nat_eq q) addr used in
    let none = unused q free.1 in by_addr q addr (λ same. absurd (free.0 same)) (λ apart.
    let no : weight (nat_eq q addr) ≡ 0 = weight_of {b = nat_eq q addr} (ne_eqb q addr apart) in omega (arith, sums, none, no))

gave_unused : (F : ℕ → Type 0) (used : List ℕ) (addr : ℕ) → Unused F used → Unused (λ q. (q ≡ addr) ⊎ F q) (others addr used)
gave_unused F used addr unused q (inl same) =
    ap (λ (a : ℕ). count_by (nat_eq a) (others addr used)) same ∙ none_counted addr used
gave_unused F used addr unused q (inr free) =
    by_addr q addr
    (λ same. ap (λ (a : ℕ). count_by (nat_eq a) (others addr used)) same ∙ none_counted addr used)
    (λ apart. others_counted q addr used apart ∙ unused q free)

pub fresh_moves : (F : ℕ → Type 0) (used : List ℕ) (ms : List Move) → Unused F used → TakesFree F ms → AreFresh used ms
fresh_moves F used [] unused t = tt
fresh_moves F used (Took need addr ∷ ms) unused t = (
  t.0,
  not_contained addr used (unused addr t.1),
  fresh_moves (λ q. (q ≢ addr) × F q) (addr ∷ used) ms (taken_unused F used addr unused) t.2,
)
fresh_moves F used (Gave addr ∷ ms) unused t =
    fresh_moves (λ q. (q ≡ addr) ⊎ F q) (others addr used) ms (gave_unused F used addr unused) t
fresh_moves F used (Short need ∷ ms) unused t = fresh_moves F used ms unused t

-- what headers and trailers become by fresh blocks comes where nothing is
pub fresh_come : (at : ℕ → ℕ) (m : Things) (used : List ℕ) (k : ℕ) (cs : List Capsule) → Tracks m used cs →
    AreFresh used (bond_moves at k cs) → Come m at k cs
fresh_come at m used k [] tracks fresh = tt
fresh_come at m used k (c ∷ cs) tracks fresh =
    let raw = at k in
    let addr = at (k + 1) in
    let block = at (k + 2) in
    let more = absent addr (raw ∷ used) fresh.2.1 in
    let sums = count_by-cons (nat_eq addr) raw used in (
      tracks.known raw (absent raw used fresh.1),
      tracks.known addr (omega (arith, more, sums)),
      λ same.
          absurd (omega (arith, more, sums, weight_of (ap (nat_eq addr) (sym same) ∙ nat_eq_equiv.refl addr))),
      fresh_come at (with_one m raw addr c) (others c.block (block ∷ addr ∷ raw ∷ used)) (k + 3) cs
          (tracks_next m used c cs raw addr block tracks (bond_moves at (k + 3) cs) fresh) fresh.2.2.2,
    )

-- the addresses of the blocks that are taken fit words
pub small_words : (bs : List BondedCapsule) → All IsSmall bs → All IsWord (taken_addresses (bonding_moves bs))
small_words [] small = All-nil IsWord
small_words (b ∷ bs) small =
    let one = All-head IsSmall b bs small in
    let raw = one.raw in
    let source = one.source in
    let extent = one.extent in
    let rest = taken_addresses (bonding_moves bs) in
    All-cons IsWord b.raw (b.source ∷ b.extent ∷ rest) (omega (arith, raw))
    (All-cons IsWord b.source (b.extent ∷ rest) (omega (arith, source))
    (All-cons IsWord b.extent rest (omega (arith, extent)) (small_words bs (All-tail IsSmall b bs small))))
