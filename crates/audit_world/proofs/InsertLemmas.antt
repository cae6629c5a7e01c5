-- The things of a heap, put into a map one after another by rising address.
use Rattle.std.proofs.Common.{◌≡◌, ◌≤◌, ◌+◌, ◌*◌, ◌∙◌, ℕ, Bool, zero, suc, List, [], ◌∷◌, ◌++◌, cond, map, ap, append-nil, arith, refl, sym}
use Rattle.std.specs.Prelude.{filter_map, Option, None, Some}
use Rattle.std.specs.Cmp.{nat_cmp_total}
use Rattle.std.specs.FinMap as finite
use Rattle.std.specs.List.{cons_option, range_with_len}
use Rattle.std.specs.Option.{option_map}
use Rattle.std.specs.Ordering.{nat_cmp}
use Rattle.std.proofs.lemmas.List.{map-append}
use Rattle.std.proofs.lemmas.List.Elements.{filter_map-append}
use Rattle.sdr_base.specs.KeptHeap.{block_in}
use Rattle.audit_owners.proofs.PlacesLemmas.{range_more}
use Rattle.audit_owners.proofs.ScanLemmas.{passed_over}
use Rattle.audit_owners.specs.Scan.{HasNoBlock, HasNoBlocks}
use Rattle.sdr_model.specs.declared.things.Thing.{Thing}
use Rattle.audit_world.proofs.RowLemmas.{listed, not_tied, row, row_sorted}
use Rattle.audit_world.specs.Made.{with_told}

module _ (f : ℕ → Option Thing) where
  -- nothing is found behind all places
  find_behind : (word a n : ℕ) → a + n ≤ word → finite.find nat_cmp (8 * word) (row f a n) ≡ None
  find_behind word a zero behind = refl
  find_behind word a (suc n) behind =
      let rest = find_behind word (a + 1) n (omega (arith, behind)) in
      elim (f (8 * a)) as (λ o. finite.find nat_cmp (8 * word) (cons_option (option_map (λ x. (8 * a, x)) o) (row f (a + 1) n)) ≡ None) [
        | None ↦ rest
        | Some x ↦
            ap (λ (t : Bool). cond t (Some x) (finite.find nat_cmp (8 * word) (row f (a + 1) n)))
            (not_tied (8 * word) (8 * a) (λ same. omega (arith, same, behind)))
            ∙ rest
      ]

  row_more : (n : ℕ) → row f 0 (n + 1) ≡ row f 0 n ++ cons_option (option_map (λ x. (8 * n, x)) (f (8 * n))) []
  row_more n =
      ap (λ (r : List ℕ). filter_map (listed f) (map (λ word. 8 * word) r)) (range_more n)
      ∙ ap (λ (l : List ℕ). filter_map (listed f) l) (map-append (λ word. 8 * word) (range_with_len 0 n) (n ∷ []))
      ∙ filter_map-append (listed f) (map (λ word. 8 * word) (range_with_len 0 n)) (8 * n ∷ [])

  -- the next one is put behind those before it
  pub told_more : (n : ℕ) → with_told (f (8 * n)) (8 * n) (finite.from_entries (row f 0 n)) ≡ finite.from_entries {R = nat_cmp} (row f 0 (n + 1))
  told_more n = by_thing (f (8 * n)) ∙ ap (λ (es : List (ℕ × Thing)). finite.from_entries {R = nat_cmp} es) (sym (row_more n))
    where
      by_thing : (o : Option Thing) → with_told o (8 * n) (finite.from_entries (row f 0 n))
          ≡ finite.from_entries {R = nat_cmp} (row f 0 n ++ cons_option (option_map (λ x. (8 * n, x)) o) [])
      by_thing None = ap (λ (es : List (ℕ × Thing)). finite.from_entries {R = nat_cmp} es) (sym (append-nil (row f 0 n)))
      by_thing (Some thing) =
          sym (finite.from_entries_push nat_cmp_total finite.nat_cmp-IsAntisymmetric (row f 0 n) (8 * n) thing
          (find_behind n 0 n (omega arith)))

  -- and where no block is, nothing is put
  pub told_over : (bytes : List ℕ) (from to : ℕ) → ((addr : ℕ) → block_in bytes addr ≡ None → f addr ≡ None) → from ≤ to → HasNoBlocks bytes from to →
      finite.from_entries {R = nat_cmp} (row f 0 from) ≡ finite.from_entries {R = nat_cmp} (row f 0 to)
  told_over bytes from to unused onward none =
      passed_over (HasNoBlock bytes) (λ n. finite.from_entries {R = nat_cmp} (row f 0 from) ≡ finite.from_entries {R = nat_cmp} (row f 0 n)) from to (λ n here before.
      before ∙ ap (λ (o : Option Thing). with_told o (8 * n) (finite.from_entries (row f 0 n))) (sym (unused (8 * n) here)) ∙ told_more n) onward none refl

  -- all together
  pub told_all : (n : ℕ) → finite.from_entries {R = nat_cmp} (row f 0 n) ≡ finite.from_sorted (row f 0 n)
  told_all n =
      finite.same_map nat_cmp_total finite.nat_cmp-IsAntisymmetric (finite.from_entries (row f 0 n)) (finite.from_sorted (row f 0 n))
      (λ q. finite.get-from_entries nat_cmp_total (row f 0 n) q ∙ sym (finite.get-from_sorted nat_cmp (row f 0 n) q (row_sorted f 0 n)))
