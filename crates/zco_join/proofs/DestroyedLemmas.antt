-- Some first ones of clones are gone.
use Rattle.std.proofs.Common.{◌≡◌, ◌+◌, ◌*◌, ◌≤◌, ◌<◌, ℕ, List, [], ◌∷◌, ◌++◌, length, refl, sym, ap, ◌∙◌, subst, arith, append_assoc, append-nil, length-append}
use Rattle.std.specs.Prelude.{map, Ok, Result}
use Rattle.std.proofs.lemmas.List.{length-map, map-append}
use Rattle.sdr_base.specs.Making.{gave}
use Rattle.sdr_base.specs.Works.{Spends}
use Rattle.sdr_base.specs.ZcoObjects.{ObjectRow}
use Rattle.sdr_base.specs.declared.has_heap.HasHeap.{Ghosts}
use Rattle.sdr_base.proofs.WorksLemmas.{works_more, works_then}
use Rattle.sdr_base.specs.Objects.{Heap}
use Rattle.sdr_base.specs.declared.stop.Stop.{Stop}
use Rattle.sdr_base.specs.declared.moves.Move.{Move}
use Rattle.sdr_base.specs.declared.moves.Move.TheVariants.{Gave}
use Rattle.zco_obj.specs.Gone.{NamedSource}
use Rattle.zco_obj.specs.Destroying.{DestroysObject, DestroyStops, KeepsSources, SomeWithSources, parts_lines}
use Rattle.zco_obj.specs.Links.{piece_of}
use Rattle.zco_join.specs.Joining.{AreClones, DestroysEach, DestroysSomeOf, StopsDestroy, left_by, pieces_in}
use Rattle.zco_join.specs.Leaving.{Doomed, KeepsToDestroy}
use Rattle.zco_join.specs.Stocks.{Standing}
use Rattle.zco_join.specs.declared.filled.Filled.{Filled}
use Rattle.zco_join.proofs.PassedLemmas.{PassedParts, next_part, passed_all, passed_next, passed_none}
use Rattle.zco_join.proofs.DestroyLemmas.{addr_is, destroy_step, doomed_then, gone, gone_count, gone_moves, gone_spare, keeps_sources, lines_most, with_sources}

-- the objects of parts
abbrev pub objects_of : List Filled → List ℕ
objects_of = map (λ p. p.object)

-- where a part is left, so is its clone
pub next_clone : (p : Filled) (ps : List Filled) (zs : List Standing) → AreClones (p ∷ ps) zs → (z : Standing) × (more : List Standing) × (zs ≡ z ∷ more)
next_clone p ps [] a = absurd a
next_clone p ps (z ∷ zs) a = (z, zs, refl)

-- with no part left, no clone is
pub no_clone : (zs : List Standing) → AreClones [] zs → zs ≡ []
no_clone [] a = refl
no_clone (z ∷ zs) a = absurd a

-- what is kept once clones went from a heap: of those that were doomed these are left, and so many lines were touched
pub record Went (d : Doomed) (left : List Filled) (old now : Heap) (lines : ℕ) : Type 0 where
  pub doomed : Doomed
  pub keeps : KeepsToDestroy now left doomed
  pub same : (doomed.object ≡ d.object) × (doomed.others ≡ d.others) × (doomed.queues ≡ d.queues) × (doomed.rest ≡ d.rest)
  pub sources : left_by doomed.clones doomed.sources ≡ left_by d.clones d.sources
  pub gone : List ℕ
  pub moves : now.moves ≡ old.moves ++ gave gone
  pub spent : old.spare ≤ now.spare + length gone
  pub few : length gone + (length doomed.clones + length (pieces_in doomed.clones)) ≡ length d.clones + length (pieces_in d.clones)
  pub most : lines + (27 * length doomed.clones + 28 * length (pieces_in doomed.clones)) ≡ 27 * length d.clones + 28 * length (pieces_in d.clones)

-- nothing went yet
pub went_none : {d : Doomed} {parts : List Filled} {old now : Heap} → now ≡ old → KeepsToDestroy old parts d → Went d parts old now 0
went_none {d} {parts} {old} {now} e k = record {
  doomed = d;
  keeps = subst (λ (h : Heap). KeepsToDestroy h parts d) (sym e) k;
  same = (refl, refl, refl, refl);
  sources = refl;
  gone = [];
  moves = ap (λ (h : Heap). h.moves) e ∙ sym (append-nil old.moves);
  spent = let s = ap (λ (h : Heap). h.spare) e in omega (arith, s);
  few = omega arith;
  most = omega arith;
}

-- the next one goes
module _ {d : Doomed} {p : Filled} {ps : List Filled} {old now : Heap} {lines : ℕ} (w : Went d (p ∷ ps) old now lines) where
  abbrev pub next : (z : Standing) × (more : List Standing) × (w.doomed.clones ≡ z ∷ more)
  next = next_clone p ps w.doomed.clones w.keeps.clones

  pub went_with : SomeWithSources now p.object
  went_with = subst (SomeWithSources now) (addr_is w.keeps next.2) (with_sources w.keeps next.2)

  counted : (length w.doomed.clones ≡ 1 + length next.1) × (length (pieces_in w.doomed.clones) ≡ length next.0.row.extents + length (pieces_in next.1))
  counted =
      let c = ap (λ (zs : List Standing). length (pieces_in zs)) next.2 in
      let a = length-append (map piece_of next.0.row.extents) (pieces_in next.1) in
      let m = length-map next.0.row.extents piece_of in
      let one = ap (length {A = Standing}) next.2 in
      (omega (arith, one), omega (arith, c, a, m))

  -- so many lines more are touched
  abbrev pub lines_then : ℕ
  lines_then = lines + (27 + 28 * length next.0.row.extents)

  pub went_spends : {S T U : Type 0} {m : Ghosts S} {a b c : S} {v : T} {r : Result U Stop} → m.heap b ≡ now → Spends m lines a b (Ok v) →
      ((row : ObjectRow) (sources : List NamedSource) → KeepsSources now.blocks p.object row sources → Spends m (27 + parts_lines row sources) b c r) →
      Spends m lines_then a c r
  went_spends e s f =
      let k = subst (λ a. KeepsSources now.blocks a next.0.row w.doomed.sources) (addr_is w.keeps next.2) (keeps_sources w.keeps next.2) in
      let l = lines_most w.keeps next.2 in
      works_more (works_then s (f next.0.row w.doomed.sources k)) (omega (arith, l))

  pub lines_few : lines_then ≤ 27 * length d.clones + 28 * length (pieces_in d.clones)
  lines_few = let m = w.most in let c = counted.0 in let p = counted.1 in omega (arith, m, c, p)

  pub went_more : {new : Heap} → DestroysObject p.object now new → Went d ps old new lines_then
  went_more {new} g = record {
    doomed = doomed_then w.keeps next.2 g;
    keeps = destroy_step w.keeps next.2 g;
    same = w.same;
    sources = sym (ap (λ (zs : List Standing). left_by zs w.doomed.sources) next.2) ∙ w.sources;
    gone = w.gone ++ gone w.keeps next.2;
    moves =
        gone_moves w.keeps next.2 g ∙ ap (λ (ms : List Move). ms ++ gave (gone w.keeps next.2)) w.moves
        ∙ append_assoc old.moves (gave w.gone) (gave (gone w.keeps next.2))
        ∙ ap (λ (ms : List Move). old.moves ++ ms) (sym (map-append (λ a. Gave a) w.gone (gone w.keeps next.2)));
    spent =
        let s = gone_spare w.keeps next.2 g in
        let a = length-append w.gone (gone w.keeps next.2) in
        let n = gone_count w.keeps next.2 in
        let u = w.spent in omega (arith, s, a, n, u);
    few =
        let a = length-append w.gone (gone w.keeps next.2) in
        let n = gone_count w.keeps next.2 in
        let f = w.few in let c = counted.0 in let p = counted.1 in omega (arith, a, n, f, c, p);
    most = let m = w.most in let c = counted.0 in let p = counted.1 in omega (arith, m, c, p);
  }

-- so it is where several go
pub went_each : {d : Doomed} {old : Heap} (lines : ℕ) (ps left : List Filled) (now new : Heap) → Went d (ps ++ left) old now lines →
    DestroysEach (objects_of ps) now new → (all : ℕ) × Went d left old new all
went_each {d} {old} lines [] left now new w e = (lines, subst (λ (h : Heap). Went d left old h lines) (sym e) w)
went_each lines (p ∷ ps) left now new w e = went_each (lines_then w) ps left e.0 new (went_more w e.1) e.2

-- one more goes behind others
pub destroys_more : (as' bs : List ℕ) (old mid new : Heap) → DestroysEach as' old mid → DestroysEach bs mid new → DestroysEach (as' ++ bs) old new
destroys_more [] bs old mid new e f = subst (λ (h : Heap). DestroysEach bs h new) e f
destroys_more (a ∷ as') bs old mid new e f = (e.0, e.1, destroys_more as' bs e.0 mid new e.2 f)

-- Some first ones of parts were passed, so many, and their objects were destroyed.
pub record DestroyedSoFar (parts : List Filled) (old now : Heap) (i : ℕ) : Type 0 where
  pub passed : PassedParts parts i
  pub destroys : DestroysEach (objects_of passed.done) old now

abbrev pub destroyed_none : (parts : List Filled) (old now : Heap) → now ≡ old → DestroyedSoFar parts old now 0
destroyed_none parts old now e = record { passed = passed_none parts; destroys = e }

module _ {parts : List Filled} {old now : Heap} {i : ℕ} (l : DestroyedSoFar parts old now i) where
  pub destroyed_all : length parts ≤ i → DestroysEach (objects_of parts) old now
  destroyed_all over = subst (λ (ps : List Filled). DestroysEach (objects_of ps) old now) (sym (passed_all l.passed over)) l.destroys

  module _ (more : i < length parts) where
    abbrev pub destroyed_next : (new : Heap) → DestroysObject (next_part l.passed more).0.object now new → DestroyedSoFar parts old new (i + 1)
    destroyed_next new g = record {
      passed = passed_next l.passed more;
      destroys =
          subst (λ as'. DestroysEach as' old new) (sym (map-append (λ (p : Filled). p.object) l.passed.done ((next_part l.passed more).0 ∷ [])))
          (destroys_more (objects_of l.passed.done) ((next_part l.passed more).0.object ∷ []) old now new l.destroys (new, g, refl));
    }

    pub destroyed_stopped : (new : Heap) (stop : Stop) → DestroyStops (next_part l.passed more).0.object now new stop →
        DestroysSomeOf (objects_of parts) old new stop
    destroyed_stopped new stop s = record {
      done = objects_of l.passed.done;
      left = objects_of l.passed.left;
      whole = ap objects_of l.passed.whole ∙ map-append (λ (p : Filled). p.object) l.passed.done l.passed.left;
      mid = now;
      destroys = l.destroys;
      stops = subst (λ (ps : List Filled). StopsDestroy (objects_of ps) now new stop) (sym (next_part l.passed more).2) s;
    }
