-- What is cloned of an object, as the world and the blocks have it: pieces, extents and moves.
use Rattle.std.proofs.Common.{◌≡◌, ◌∙◌, ◌+◌, ◌-◌, ◌==◌, ◌++◌, ℕ, suc, List, [], ◌∷◌, Bool, true, false, length, map, refl, sym, ap, arith, if◌then◌else◌}
use Rattle.std.specs.Prelude.{slice_index}
use Rattle.sdr_stands.specs.Rows.{extent_row, object_row}
use Rattle.sdr_base.specs.ZcoObjects.{ExtentRow}
use Rattle.sdr_base.specs.declared.account.Acct.{Acct}
use Rattle.sdr_base.specs.declared.moves.Move.{Move}
use Rattle.sdr_base.specs.declared.moves.Move.TheVariants.{Took}
use Rattle.sdr_model.proofs.SumLemmas.{sum_by-map}
use Rattle.sdr_model.specs.Cuts as model
use Rattle.sdr_model.specs.Cuts.{cut_all}
use Rattle.sdr_model.specs.PartSteps.{asked_extents, clone_moves, object_of}
use Rattle.sdr_model.specs.Steps.{taken_addresses, takes_from}
use Rattle.sdr_model.specs.Things.{extent_need, object_need}
use Rattle.sdr_model.specs.declared.zco.Extent.{Extent}
use Rattle.sdr_model.specs.declared.zco.ZcoObject.{ZcoObject}
use Rattle.zco_obj.specs.Extents.{extent_of}
use Rattle.zco_obj.specs.declared.extent.ExtentPiece.{ExtentPiece}
use Rattle.zco_part.specs.Cloning.{takes_clone}
use Rattle.zco_part.specs.Copying.{takes_extents}
use Rattle.zco_part.specs.Pieces.{asked, pieces, extents_at, whole_row}

-- what an extent names
abbrev pub named : Extent → ExtentPiece
named e = record { of = e.source; offset = e.offset; bytes = e.length }

-- the pieces of a part of some extents are those of the extents that are cut to it
pieces_cut : (from to : ℕ) (es : List Extent) → pieces from to (map extent_row es) ≡ map named (cut_all from to es)
pieces_cut from to [] = refl
pieces_cut from to (e ∷ es) = by ((model.cut from to e).length == 0) (pieces_cut (from - e.length) (to - e.length) es)
  where
    by : (b : Bool) → pieces (from - e.length) (to - e.length) (map extent_row es) ≡ map named (cut_all (from - e.length) (to - e.length) es) →
        (if b then [] else named (model.cut from to e) ∷ []) ++ pieces (from - e.length) (to - e.length) (map extent_row es)
        ≡ map named (if b then cut_all (from - e.length) (to - e.length) es
        else model.cut from to e ∷ cut_all (from - e.length) (to - e.length) es)
    by true same = same
    by false same = ap (λ (ps : List ExtentPiece). named (model.cut from to e) ∷ ps) same

pub asked_same : (z : ZcoObject) (offset bytes : ℕ) → asked offset bytes (object_row z) ≡ map named (asked_extents z offset bytes)
asked_same z offset bytes = pieces_cut (z.part.offset + offset) (z.part.offset + offset + bytes) z.extents

-- an address in front moves the others on by one
placed_later : (addr : ℕ) (addrs : List ℕ) (k : ℕ) (es : List Extent) →
    model.placed (slice_index (addr ∷ addrs)) (suc k) es ≡ model.placed (slice_index addrs) k es
placed_later addr addrs k [] = refl
placed_later addr addrs k (e ∷ es) =
    ap (λ (rest : List Extent). record e { block = slice_index addrs k } ∷ rest) (placed_later addr addrs (suc k) es)

takes_later : (addr : ℕ) (addrs : List ℕ) (k : ℕ) (needs : List ℕ) →
    takes_from (slice_index (addr ∷ addrs)) (suc k) needs ≡ takes_from (slice_index addrs) k needs
takes_later addr addrs k [] = refl
takes_later addr addrs k (need ∷ needs) =
    ap (λ (rest : List Move). Took need (slice_index addrs k) ∷ rest) (takes_later addr addrs (suc k) needs)

-- extents of pieces at these addresses are the extents placed there
placed_rows : (addrs : List ℕ) (es : List Extent) → length addrs ≡ length es →
    extents_at addrs (map named es) ≡ map extent_row (model.placed (slice_index addrs) 0 es)
placed_rows [] [] same = refl
placed_rows [] (e ∷ es) same = absurd (omega (arith, same))
placed_rows (addr ∷ addrs) [] same = absurd (omega (arith, same))
placed_rows (addr ∷ addrs) (e ∷ es) same =
    ap (λ (rest : List ExtentRow). extent_of addr (named e) ∷ rest)
    (placed_rows addrs es (omega (arith, same)) ∙ sym (ap (map extent_row) (placed_later addr addrs 0 es)))

takes_same : (addrs : List ℕ) (es : List Extent) → length addrs ≡ length es →
    takes_extents addrs ≡ takes_from (slice_index addrs) 0 (map (λ (e : Extent). extent_need) es)
takes_same [] [] same = refl
takes_same [] (e ∷ es) same = absurd (omega (arith, same))
takes_same (addr ∷ addrs) [] same = absurd (omega (arith, same))
takes_same (addr ∷ addrs) (e ∷ es) same =
    ap (λ (rest : List Move). Took extent_need addr ∷ rest)
    (takes_same addrs es (omega (arith, same)) ∙ sym (takes_later addr addrs 0 (map (λ (e : Extent). extent_need) es)))

-- those of a clone stand behind its own
module _ (clone : ℕ) (addrs : List ℕ) (es : List Extent) (same : length addrs ≡ length es) where
  abbrev pub spots : ℕ → ℕ
  spots = slice_index (clone ∷ addrs)

  pub clone_rows : extents_at addrs (map named es) ≡ map extent_row (model.placed spots 1 es)
  clone_rows = placed_rows addrs es same ∙ sym (ap (map extent_row) (placed_later clone addrs 0 es))

  -- the row of a clone is that of an object of these extents alone
  pub clone_row : (acct : Acct) → whole_row acct (extents_at addrs (map named es)) ≡ object_row (object_of acct (model.placed spots 1 es))
  clone_row acct =
      let z = object_of acct (model.placed spots 1 es) in
      let long = sum_by-map (λ (r : ExtentRow). r.length) extent_row z.extents in
      ap (whole_row acct) clone_rows ∙ (λ i. record (object_row z) { part_length = long i })

  pub takes_as_rows : takes_clone clone addrs ≡ clone_moves spots es
  takes_as_rows =
      ap (λ (rest : List Move). Took object_need clone ∷ rest)
      (takes_same addrs es same ∙ sym (takes_later clone addrs 0 (map (λ (e : Extent). extent_need) es)))

-- the addresses that the moves take
taken_extents : (addrs : List ℕ) → taken_addresses (takes_extents addrs) ≡ addrs
taken_extents [] = refl
taken_extents (addr ∷ addrs) = ap (λ (rest : List ℕ). addr ∷ rest) (taken_extents addrs)

pub taken_clone : (clone : ℕ) (addrs : List ℕ) → taken_addresses (takes_clone clone addrs) ≡ clone ∷ addrs
taken_clone clone addrs = ap (λ (rest : List ℕ). clone ∷ rest) (taken_extents addrs)
