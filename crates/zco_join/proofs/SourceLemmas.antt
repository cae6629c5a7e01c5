-- Sources that count more extents.
use Rattle.std.proofs.Common.{◌≡◌, ◌≢◌, ◌+◌, ◌≤◌, ◌<◌, ◌^◌, ℕ, List, [], ◌∷◌, ◌++◌, length, true, false, refl, sym, ap, ◌∙◌, arith, subst, append_assoc, eq-eqb}
use Rattle.std.specs.Prelude.{◌==◌, All, if◌then◌else◌}
use Rattle.std.proofs.lemmas.Bool.{ne_eqb}
use Rattle.std.proofs.lemmas.List.{map-append}
use Rattle.std.proofs.lemmas.List.Concat.{flat_map-append}
use Rattle.std.proofs.lemmas.List.Elements.{All-head}
use Rattle.std.proofs.lemmas.List.Sums.{sum_by-append, sum_by-cons}
use Rattle.sdr_base.specs.Blocks.{Blocks}
use Rattle.sdr_base.specs.Entries.{Entries, BlocksAre, times}
use Rattle.sdr_base.specs.Sources.{SourceRow}
use Rattle.sdr_base.specs.ZcoObjects.{ExtentRow}
use Rattle.sdr_base.specs.declared.account.Acct.{Acct}
use Rattle.sdr_base.specs.declared.account.Acct.TheVariants as accts
use Rattle.sdr_base.proofs.StandingLemmas.{times-append}
use Rattle.zco_obj.specs.Gone.{NamedSource, source_at, sources_entries}
use Rattle.zco_obj.specs.Uses.{IsThere}
use Rattle.zco_obj.specs.declared.extent.ExtentPiece.{ExtentPiece}
use Rattle.zco_obj.proofs.PairLemmas.{swapped}
use Rattle.zco_obj.proofs.SpotLemmas.{SpotOf, find_spot, times_head}
use Rattle.zco_obj.proofs.WalkLemmas.{fits_from}
use Rattle.zco_ref.specs.Counting.{attached}
use Rattle.zco_ref.specs.Kept.{CountedSource, SourceFits, count_in, counted_block, counted_entries, raw_part, tied_entries}
use Rattle.zco_part.specs.Sources.{AreCountable, MayCount, all_counted, counted, more_uses, pieces_of}

-- whether a piece is of the source at an address
abbrev is_of : ℕ → ExtentPiece → ℕ
is_of addr p = if p.of == addr then 1 else 0

-- one piece more, which is of it
of_one : (addr : ℕ) (ps : List ExtentPiece) (p : ExtentPiece) → p.of ≡ addr → pieces_of addr (ps ++ (p ∷ [])) ≡ pieces_of addr ps + 1
of_one addr ps p is =
    let a = sum_by-append (is_of addr) ps (p ∷ []) in let c = sum_by-cons (is_of addr) p [] in
    let n : is_of addr p ≡ 1 = ap (λ v. if v then 1 else 0) (eq-eqb p.of addr is) in omega (arith, a, c, n)

-- or isn't
of_other : (addr : ℕ) (ps : List ExtentPiece) (p : ExtentPiece) → p.of ≢ addr → pieces_of addr (ps ++ (p ∷ []))
    ≡ pieces_of addr ps
of_other addr ps p is =
    let a = sum_by-append (is_of addr) ps (p ∷ []) in let c = sum_by-cons (is_of addr) p [] in
    let n : is_of addr p ≡ 0 = ap (λ v. if v then 1 else 0) (ne_eqb p.of addr is) in omega (arith, a, c, n)

-- so many are at most
pub of_most : (addr : ℕ) (ps : List ExtentPiece) → pieces_of addr ps ≤ length ps
of_most addr [] = omega arith
of_most addr (p ∷ ps) =
    let c = sum_by-cons (is_of addr) p ps in
    let m = of_most addr ps in
    let n : is_of addr p ≤ 1 = elim (p.of == addr) as (λ v. (if v then 1 else 0) ≤ 1) [
      | true ↦ omega arith
      | false ↦ omega arith
    ] in omega (arith, c, m, n)

-- a source that counts more
more_more : (acct : Acct) (n : ℕ) (s : CountedSource) → attached acct (more_uses acct n s) ≡ more_uses acct (n + 1) s
more_more accts.Inbound n s = ap (λ m. record s { inbound = m }) (omega arith)
more_more accts.Outbound n s = ap (λ m. record s { outbound = m }) (omega arith)

more_none : (acct : Acct) (s : CountedSource) → more_uses acct 0 s ≡ s
more_none accts.Inbound s = ap (λ m. record s { inbound = m }) (omega arith)
more_none accts.Outbound s = ap (λ m. record s { outbound = m }) (omega arith)

pub more_count : (acct : Acct) (n : ℕ) (s : CountedSource) → count_in acct (more_uses acct n s) ≡ count_in acct s + n
more_count accts.Inbound n s = refl
more_count accts.Outbound n s = refl

one_row : (acct : Acct) (s : CountedSource) → (attached acct s).row ≡ s.row
one_row accts.Inbound s = refl
one_row accts.Outbound s = refl

pub more_fits : (acct : Acct) (n : ℕ) (s : NamedSource) → MayCount s → n < 2 ^ 22 → SourceFits (more_uses acct n s.source)
more_fits accts.Inbound n s m lt = record {
  inbound = let i = m.inbound in omega (arith, i, lt);
  outbound = m.fits.outbound;
  subject = m.fits.subject;
  length = m.fits.length;
}
more_fits accts.Outbound n s m lt = record {
  inbound = m.fits.inbound;
  outbound = let o = m.outbound in omega (arith, o, lt);
  subject = m.fits.subject;
  length = m.fits.length;
}

pub more_below : (acct : Acct) (n : ℕ) (s : NamedSource) → MayCount s → n < 2 ^ 22 → count_in acct (more_uses acct n s.source) < 2 ^ 62
more_below accts.Inbound n s m lt = let i = m.inbound in omega (arith, i, lt)
more_below accts.Outbound n s m lt = let o = m.outbound in omega (arith, o, lt)

-- sources of which none is counted for these pieces
pub none_counted : (acct : Acct) (ss : List NamedSource) → all_counted acct [] ss ≡ ss
none_counted acct [] = refl
none_counted acct (s ∷ ss) =
    ap (λ (t : CountedSource). record s { source = t } ∷ all_counted acct [] ss) (more_none acct s.source)
    ∙ ap (λ (l : List NamedSource). s ∷ l) (none_counted acct ss)

-- the others are counted as they were, where none is at this address
others : (acct : Acct) (done : List ExtentPiece) (p : ExtentPiece) (ts : List NamedSource) →
    times p.of (sources_entries (all_counted acct done ts)) ≡ 0 → all_counted acct (done ++ (p ∷ [])) ts ≡ all_counted acct done ts
others acct done p [] z = refl
others acct done p (t ∷ ts) z =
    let T = tied_entries t.addr (counted acct done t).source t.bytes in
    let a = times-append p.of T (sources_entries (all_counted acct done ts)) in
    let apart : p.of ≢ t.addr =
    λ y. let h : 1 ≤ times p.of T = times_head t.addr p.of (counted_block (counted acct done t).source) _ (sym y) in absurd (omega (arith, a, z, h)) in
    ap (λ n. record t { source = more_uses acct n t.source } ∷ all_counted acct (done ++ (p ∷ [])) ts) (of_other t.addr done p apart)
    ∙ ap (λ (l : List NamedSource). counted acct done t ∷ l) (others acct done p ts (omega (arith, a, z)))

-- one source among others, once these pieces were counted, and the next piece is of it
module _ (acct : Acct) (done : List ExtentPiece) (p : ExtentPiece) {ss : List NamedSource} (s : SpotOf p.of ss) where
  -- as it is then
  abbrev pub source_now : CountedSource
  source_now = (counted acct done s.here).source

  -- its raw object, where it has one
  abbrev own : Entries
  own = raw_part source_now.row.medium source_now.row.subject s.here.addr s.here.bytes

  abbrev before : Entries
  before = sources_entries (all_counted acct done s.before)

  abbrev behind : Entries
  behind = sources_entries (all_counted acct done s.behind)

  -- what stands beside it
  abbrev pub others_now : Entries → Entries
  others_now rest = before ++ (own ++ (behind ++ rest))

  cut_at : (ps : List ExtentPiece) (rest : Entries) →
      sources_entries (all_counted acct ps ss) ++ rest
      ≡ sources_entries (all_counted acct ps s.before)
      ++ (tied_entries s.here.addr (counted acct ps s.here).source s.here.bytes
      ++ (sources_entries (all_counted acct ps s.behind) ++ rest))
  cut_at ps rest =
      let A = sources_entries (all_counted acct ps s.before) in
      let T = tied_entries s.here.addr (counted acct ps s.here).source s.here.bytes in
      let B = sources_entries (all_counted acct ps s.behind) in
      ap (λ (l : List NamedSource). sources_entries (all_counted acct ps l) ++ rest) s.whole
      ∙ ap (λ (l : List NamedSource). sources_entries l ++ rest) (map-append (counted acct ps) s.before (s.here ∷ s.behind))
      ∙ ap (λ (es : Entries). es ++ rest)
      (flat_map-append (λ (t : NamedSource). tied_entries t.addr t.source t.bytes) (all_counted acct ps s.before)
      (counted acct ps s.here ∷ all_counted acct ps s.behind))
      ∙ append_assoc A (T ++ B) rest ∙ ap (λ (es : Entries). A ++ es) (append_assoc T B rest)

  -- it is brought to the front
  pub focus : {b : Blocks} (front rest : Entries) → BlocksAre b (front ++ (sources_entries (all_counted acct done ss) ++ rest)) →
      BlocksAre b (front ++ (counted_entries p.of source_now ++ others_now rest))
  focus {b} front rest st =
      let C = counted_entries s.here.addr source_now in
      subst (λ a. BlocksAre b (front ++ (counted_entries a source_now ++ others_now rest))) s.at
      (swapped b front before C (own ++ (behind ++ rest))
      (subst (λ (es : Entries). BlocksAre b (front ++ es))
      (cut_at done rest ∙ ap (λ (es : Entries). before ++ es) (append_assoc C own (behind ++ rest))) st))

  -- the others are at other addresses
  apart : {b : Blocks} (front rest : Entries) → BlocksAre b (front ++ (sources_entries (all_counted acct done ss) ++ rest)) →
      (times p.of before ≡ 0) × (times p.of behind ≡ 0)
  apart {b} front rest st =
      let C = counted_entries p.of source_now in
      let one = (focus front rest st).once p.of in
      let x = times-append p.of front (C ++ others_now rest) in
      let y = times-append p.of C (others_now rest) in
      let z = times-append p.of before (own ++ (behind ++ rest)) in
      let u = times-append p.of own (behind ++ rest) in
      let v = times-append p.of behind rest in
      let h : 1 ≤ times p.of C = times_head p.of p.of (counted_block source_now) [] refl in
      (omega (arith, one, x, y, z, u, v, h), omega (arith, one, x, y, z, u, v, h))

  -- and brought back, where it counts one extent more
  pub unfocus : {b b' : Blocks} (front front' rest : Entries) → BlocksAre b (front ++ (sources_entries (all_counted acct done ss) ++ rest)) →
      BlocksAre b' (front' ++ (counted_entries p.of (attached acct source_now) ++ others_now rest)) →
      BlocksAre b' (front' ++ (sources_entries (all_counted acct (done ++ (p ∷ [])) ss) ++ rest))
  unfocus {b} {b'} front front' rest st st' =
      let more = done ++ (p ∷ []) in
      let now = attached acct source_now in
      let C = counted_entries s.here.addr now in
      let off = apart front rest st in
      let row : raw_part source_now.row.medium source_now.row.subject s.here.addr s.here.bytes
      ≡ raw_part now.row.medium now.row.subject s.here.addr s.here.bytes =
      ap (λ (r : SourceRow). raw_part r.medium r.subject s.here.addr s.here.bytes) (sym (one_row acct source_now)) in
      let source : now ≡ (counted acct more s.here).source =
      more_more acct (pieces_of s.here.addr done) s.here.source
      ∙ ap (λ n. more_uses acct n s.here.source) (sym (of_one s.here.addr done p (sym s.at))) in
      let whole : before ++ (C ++ (own ++ (behind ++ rest))) ≡ sources_entries (all_counted acct more ss) ++ rest =
      ap (λ (es : Entries). before ++ (C ++ (es ++ (behind ++ rest)))) row
      ∙ ap (λ (es : Entries). before ++ es)
      (sym (append_assoc C (raw_part now.row.medium now.row.subject s.here.addr s.here.bytes) (behind ++ rest)))
      ∙ ap (λ (t : CountedSource). before ++ (tied_entries s.here.addr t s.here.bytes ++ (behind ++ rest))) source
      ∙ ap (λ (l : List NamedSource). sources_entries l
      ++ (tied_entries s.here.addr (counted acct more s.here).source s.here.bytes ++ (behind ++ rest))) (sym (others acct done p s.before off.0))
      ∙ ap (λ (l : List NamedSource). sources_entries (all_counted acct more s.before)
      ++ (tied_entries s.here.addr (counted acct more s.here).source s.here.bytes ++ (sources_entries l ++ rest)))
      (sym (others acct done p s.behind off.1))
      ∙ sym (cut_at more rest) in
      subst (λ (es : Entries). BlocksAre b' (front' ++ es)) whole
      (swapped b' front' C before (own ++ (behind ++ rest))
      (subst (λ a. BlocksAre b' (front' ++ (counted_entries a now ++ others_now rest))) (sym s.at) st'))

-- the source of an extent among those that are there
pub spot_of : {xs : List ExtentRow} {ss : List NamedSource} → AreCountable xs ss → (passed : List ExtentRow) (e : ExtentRow)
    (behind : List ExtentRow) → xs ≡ passed ++ (e ∷ behind) → SpotOf e.source ss
spot_of {xs} {ss} m passed e behind whole =
    let P = λ (x : ExtentRow). IsThere (source_at x.source ss) in
    find_spot e.source ss (All-head P e behind (fits_from P passed (e ∷ behind) (subst (All P) whole m.there)))

-- it may count more
pub spot_counts : {xs : List ExtentRow} {ss : List NamedSource} {addr : ℕ} → AreCountable xs ss → (s : SpotOf addr ss) → MayCount s.here
spot_counts {xs} {ss} m s =
    All-head MayCount s.here s.behind (fits_from MayCount s.before (s.here ∷ s.behind) (subst (All MayCount) s.whole m.counted))
