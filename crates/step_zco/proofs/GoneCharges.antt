-- What sources, and an object that goes, charge an account less once extents are gone, by the world and by their rows.
use Rattle.std.proofs.Common.{◌≡◌, ◌∙◌, ◌+◌, ◌*◌, ◌==◌, ◌&&◌, ⊎_elim, ℕ, List, [], ◌∷◌, Bool, true, false, length, map, nat_lt, Some, None, refl, sym, ap, arith}
use Rattle.std.proofs.lemmas.List.{length-map}
use Rattle.std.proofs.lemmas.List.Sums.{sum_by-cons}
use Rattle.std.specs.FinMap.{entries, get, remove as lose}
use Rattle.std.specs.Prelude.{if◌then◌else◌, sum_by}
use Rattle.sdr_stands.specs.Rows.{capsule_row, extent_row, object_row}
use Rattle.sdr_base.specs.ZcoObjects.{CapsuleRow, ExtentRow}
use Rattle.sdr_base.specs.declared.account.Acct.{Acct}
use Rattle.sdr_base.specs.declared.account.Amounts.{Amounts}
use Rattle.sdr_base.specs.declared.kind.Space.{Space}
use Rattle.sdr_base.specs.declared.kind.Space.TheVariants as spaces
use Rattle.law_steps.proofs.EntrySums.{sum_by-none}
use Rattle.law_steps.proofs.GoneLaws.{without}
use Rattle.law_steps.proofs.GoneLemmas.{AreApart}
use Rattle.law_steps.proofs.SourceViews.{apart_at}
use Rattle.law_steps.proofs.ZcoOutcomes.{drop_release}
use Rattle.law_steps.specs.Charged.{source_less, sources_less}
use Rattle.sdr_model.proofs.AmountLemmas.{amount-by, amount-plus, same_amounts}
use Rattle.sdr_model.proofs.SumLemmas.{counted_at, sum_by-removed}
use Rattle.sdr_model.specs.Amounts.{amount, amounts_by, in_space}
use Rattle.sdr_model.specs.Charges.{capsule_bytes, capsule_charge, extent_bytes, object_bytes}
use Rattle.sdr_model.specs.Gone.{names_source}
use Rattle.sdr_model.specs.Things.{Things}
use Rattle.sdr_model.specs.World.{World, thing_at}
use Rattle.sdr_model.specs.Zco.{count_of, naming, space_of}
use Rattle.sdr_model.specs.declared.things.Thing.{Thing}
use Rattle.sdr_model.specs.declared.things.Thing.TheVariants as things
use Rattle.sdr_model.specs.declared.zco.Capsule.{Capsule}
use Rattle.sdr_model.specs.declared.zco.Extent.{Extent}
use Rattle.sdr_model.specs.declared.zco.ZcoObject.{ZcoObject}
use Rattle.step_zco.proofs.AppendLemmas.{same_space}
use Rattle.step_zco.proofs.GoneMaps.{AreDistinct, apart_or_gone}
use Rattle.step_zco.proofs.GoneMoves.{naming_rows}
use Rattle.step_zco.proofs.GoneTies.{unnamed}
use Rattle.step_zco.proofs.GoneUses.{AreUsed, IsFound, UsedSource, addresses, named_of, not_found}
use Rattle.step_zco.proofs.HeapAmounts.{in_heap-add, in_heap-none}
use Rattle.step_zco.proofs.SourceLemmas.{counts_told}
use Rattle.zco_obj.specs.Amounts.{heap_amounts, object_amounts}
use Rattle.zco_obj.specs.Destroying.{charges_of, parts_amounts}
use Rattle.zco_obj.specs.Giving.{capsules_charge}
use Rattle.zco_obj.specs.Gone as rows
use Rattle.zco_obj.specs.Gone.{NamedSource, extents_amounts}

module _ (f : ℕ × Thing → ℕ) where
  -- what is counted of the things at some addresses
  abbrev at_all : Things → List ℕ → ℕ
  at_all m ks = sum_by (λ k. counted_at f k (get m k)) ks

  same_at : (m : Things) (k : ℕ) (ks : List ℕ) → AreApart k ks → at_all (lose m k) ks ≡ at_all m ks
  same_at m k [] apart = refl
  same_at m k (q ∷ qs) apart =
      omega (
        arith,
        same_at m k qs apart.1,
        ap (counted_at f q) (apart_at m k None q apart.0),
        sum_by-cons (λ k. counted_at f k (get m k)) q qs,
        sum_by-cons (λ q. counted_at f q (get (lose m k) q)) q qs,
      )

  -- is part of what is counted of all, with that of the others
  sum_out : (m : Things) (ks : List ℕ) → AreDistinct ks →
      sum_by f (entries m) ≡ at_all m ks + sum_by f (entries (without m ks))
  sum_out m [] distinct = omega arith
  sum_out m (k ∷ ks) distinct =
      omega (
        arith,
        sum_out (lose m k) ks distinct.1,
        same_at m k ks distinct.0,
        sum_by-removed f m k,
        sum_by-cons (λ k. counted_at f k (get m k)) k ks,
      )

  -- so it is all, where the others count nothing
  sum_of_some : (m : Things) (ks : List ℕ) → AreDistinct ks →
      ((q : ℕ) (t : Thing) → get (without m ks) q ≡ Some t → f (q, t) ≡ 0) →
      sum_by f (entries m) ≡ at_all m ks
  sum_of_some m ks distinct none =
      omega (arith, sum_out m ks distinct, sum_by-none f (without m ks) none)

-- of a world, and extents of an account that go
module _ (w : World) (acct : Acct) (all : List Extent) where
  abbrev all_rows : List ExtentRow
  all_rows = map extent_row all

  module _ (space : Space) where
    abbrev less : ℕ × Thing → ℕ
    less e = source_less w acct all space e.0 e.1

    -- a source charges less by its row what it does by the world
    row_less : (u : UsedSource w all) →
        rows.source_less acct all_rows space (named_of w all u) ≡ source_less w acct all space u.addr (things.Source u.source)
    row_less u = λ i.
        if (nat_lt 0 (naming_rows u.addr all i) && counts_told w u.addr u.source acct i == naming_rows u.addr all i)
        then in_space (same_space u.source.subject i) u.source.length space else 0

    rows_less : (us : List (UsedSource w all)) →
        sum_by (rows.source_less acct all_rows space) (map (named_of w all) us) ≡ at_all less w.things (addresses w all us)
    rows_less [] = refl
    rows_less (u ∷ us) =
        omega (
          arith,
          rows_less us,
          row_less u,
          ap (counted_at less u.addr) u.there,
          sum_by-cons (rows.source_less acct all_rows space) (named_of w all u) (map (named_of w all) us),
          sum_by-cons (λ k. counted_at less k (thing_at w k)) u.addr (addresses w all us),
        )

    -- what none of them names charges no less
    others_less : (us : List (UsedSource w all)) → AreUsed w all all us → (q : ℕ) (t : Thing) →
        get (without w.things (addresses w all us)) q ≡ Some t → less (q, t) ≡ 0
    others_less us are q (things.Source s) is = by (names_source q all) refl
      where
        none : naming q all ≡ 0 → less (q, things.Source s) ≡ 0
        none zero =
            ap (λ (n : ℕ). if (nat_lt 0 n && count_of w q acct == n) then in_space (space_of s.subject) s.length space else 0) zero

        one_of_them : IsFound w all us q → ⊥
        one_of_them f =
            ⊎_elim
            (λ apart. let no : None ≡ Some (named_of w all f.used) = sym (not_found w all q us apart) ∙ f.is in cc)
            (λ gone. let no : None ≡ Some (things.Source s) = sym (gone w.things) ∙ is in cc)
            (apart_or_gone q (addresses w all us))

        by : (b : Bool) → names_source q all ≡ b → less (q, things.Source s) ≡ 0
        by true named = absurd (one_of_them (are.found q named))
        by false unused = none (unnamed q all unused)
    others_less us are q t is = refl

    -- the sources that they name charge less by their rows what all do by the world
    pub sources_told : (us : List (UsedSource w all)) → AreUsed w all all us →
        sum_by (rows.source_less acct all_rows space) (map (named_of w all) us) ≡ sources_less w acct all space
    sources_told us are =
        rows_less us ∙ sym (sum_of_some less w.things (addresses w all us) are.distinct (others_less us are))

  -- so it is for the extents with them
  extents_told : (us : List (UsedSource w all)) → AreUsed w all all us →
      extents_amounts acct (map (named_of w all) us) all_rows
      ≡ amounts_by (λ space. in_space spaces.Heap (extent_bytes * length all) space + sources_less w acct all space)
  extents_told us are = λ i.
      amounts_by (λ space.
      in_space spaces.Heap (extent_bytes * length-map all extent_row i) space + sources_told space us are i)

-- headers or trailers charge by their rows what they do by the world
capsules_told : (space : Space) (cs : List Capsule) →
    in_space spaces.Heap (capsules_charge (map capsule_row cs)) space ≡ sum_by (capsule_charge space) cs
capsules_told space [] = in_heap-none space
capsules_told space (c ∷ cs) =
    let own = capsule_bytes (length c.text) in
    let rest = capsules_charge (map capsule_row cs) in
    let all : in_space spaces.Heap (capsules_charge (map capsule_row (c ∷ cs))) space ≡ in_space spaces.Heap (own + rest) space =
    ap (λ (n : ℕ). in_space spaces.Heap n space)
    (sum_by-cons (λ (r : CapsuleRow). capsule_bytes (length r.text)) (capsule_row c) (map capsule_row cs)) in
    omega (arith, all, in_heap-add own rest space, capsules_told space cs, sum_by-cons (capsule_charge space) c cs)

-- an object that goes charges less by its row what it does by the world, with the sources that its extents name
pub charge_same : (w : World) (z : ZcoObject) (us : List (UsedSource w z.extents)) → AreUsed w z.extents z.extents us →
    charges_of (object_row z) (map (named_of w z.extents) us)
    ≡ amounts_by (drop_release w z None z.extents)
charge_same w z us are =
    let row = object_row z in
    let ss = map (named_of w z.extents) us in
    let capsules = capsules_charge row.headers + capsules_charge row.trailers in
    let extents : Space → ℕ = λ space.
    in_space spaces.Heap (extent_bytes * length z.extents) space + sources_less w z.account z.extents space in
    same_amounts (charges_of row ss) (amounts_by (drop_release w z None z.extents)) (λ space.
    omega (
      arith,
      amount-plus (parts_amounts row ss) object_amounts space,
      amount-plus (extents_amounts z.account ss row.extents) (heap_amounts capsules) space,
      amount-by (in_space spaces.Heap object_bytes) space,
      amount-by (in_space spaces.Heap capsules) space,
      ap (λ (a : Amounts). amount a space) (extents_told w z.account z.extents us are) ∙ amount-by extents space,
      in_heap-add (capsules_charge row.headers) (capsules_charge row.trailers) space,
      capsules_told space z.headers,
      capsules_told space z.trailers,
      amount-by (drop_release w z None z.extents) space,
    ))
