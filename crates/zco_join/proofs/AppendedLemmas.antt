-- An object gets the extents of several clones.
use Rattle.std.proofs.Common.{◌≡◌, ◌+◌, ◌≤◌, ℕ, List, [], ◌∷◌, ◌++◌, length, refl, sym, ap, ◌∙◌, subst, arith, append_assoc, append-nil, length-append}
use Rattle.std.specs.Prelude.{map}
use Rattle.std.proofs.lemmas.List.{length-map}
use Rattle.std.proofs.lemmas.List.Concat.{flat_map-append}
use Rattle.sdr_base.specs.Objects.{Heap}
use Rattle.sdr_base.specs.declared.account.Acct.{Acct}
use Rattle.sdr_base.specs.declared.stop.Stop.{Stop}
use Rattle.zco_obj.specs.Links.{piece_of}
use Rattle.zco_obj.specs.declared.extent.ExtentPiece.{ExtentPiece}
use Rattle.zco_join.specs.Appending.{AppendsClone, CloneAt, HasAppended, SomeClone, StopsClone}
use Rattle.zco_join.specs.Joining.{AppendsEach, AppendsSome, AreClones, StopsAppend, Together, pieces_in}
use Rattle.zco_join.specs.Stocks.{Standing}
use Rattle.zco_join.specs.declared.filled.Filled.{Filled}
use Rattle.zco_join.proofs.AppendLemmas.{append_steps, appends_more}
use Rattle.zco_join.proofs.DestroyedLemmas.{next_clone, no_clone}
use Rattle.zco_join.proofs.ExtendLemmas.{stops_fault}

-- The extents of the clones of some first parts came; those of the parts that are left have these clones.
pub record Appended (object number : ℕ) (zs : List Standing) (left : List Filled) (old now : Heap) : Type 0 where
  pub before : List Standing
  pub behind : List Standing
  pub whole : zs ≡ before ++ behind
  pub clones : AreClones left behind
  pub appends : AppendsEach object number (pieces_in before) old now

abbrev pub appended_none : (object number : ℕ) (zs : List Standing) (parts : List Filled) (old now : Heap) → now ≡ old → AreClones parts zs →
    Appended object number zs parts old now
appended_none object number zs parts old now e c = record { before = []; behind = zs; whole = refl; clones = c; appends = e }

-- with those that are left told in another way
abbrev pub appended_as : {object number : ℕ} {zs : List Standing} {left left' : List Filled} {old now : Heap} → left ≡ left' → Appended object number zs left old now →
    Appended object number zs left' old now
appended_as e l = record {
  before = l.before;
  behind = l.behind;
  whole = l.whole;
  clones = subst (λ (ps : List Filled). AreClones ps l.behind) e l.clones;
  appends = l.appends;
}

pub most_before : {object number : ℕ} {zs : List Standing} {left : List Filled} {old now : Heap} (l : Appended object number zs left old now) →
    length (pieces_in l.before) ≤ length (pieces_in zs)
most_before l =
    let e = ap (λ (xs : List Standing). length (pieces_in xs)) l.whole in
    let f = ap (length {A = ExtentPiece}) (flat_map-append (λ (z : Standing). map piece_of z.row.extents) l.before l.behind) in
    let a = length-append (pieces_in l.before) (pieces_in l.behind) in
    omega (arith, e, f, a)

module _ {object number : ℕ} {zs : List Standing} {old now : Heap} (l : Appended object number zs [] old now) where
  pub all_before : zs ≡ l.before
  all_before = l.whole ∙ ap (λ (xs : List Standing). l.before ++ xs) (no_clone l.behind l.clones) ∙ append-nil l.before

  pub appended_all : AppendsEach object number (pieces_in zs) old now
  appended_all = subst (λ (xs : List Standing). AppendsEach object number (pieces_in xs) old now) (sym all_before) l.appends

module _ {start : Heap} {acct : Acct} {parts : List Filled} {t : Together} {object number : ℕ} {p : Filled} {ps : List Filled} {old now : Heap}
    (has : HasAppended start acct parts t object [] (pieces_in t.clones) old) (l : Appended object number t.clones (p ∷ ps) old now) where
  pub next : (z : Standing) × (more : List Standing) × (l.behind ≡ z ∷ more)
  next = next_clone p ps l.behind l.clones

  pub whole_next : t.clones ≡ l.before ++ (next.0 ∷ next.1)
  whole_next = l.whole ∙ ap (λ (xs : List Standing). l.before ++ xs) next.2

  pieces_next : pieces_in t.clones ≡ pieces_in l.before ++ (map piece_of next.0.row.extents ++ pieces_in next.1)
  pieces_next =
      ap (λ (xs : List Standing). pieces_in xs) whole_next
      ∙ flat_map-append (λ (z : Standing). map piece_of z.row.extents) l.before (next.0 ∷ next.1)

  pub clones_next : AreClones (p ∷ ps) (next.0 ∷ next.1)
  clones_next = subst (AreClones (p ∷ ps)) next.2 l.clones

  pub clone_at : CloneAt start acct parts t object p.object (pieces_in l.before) next.0 (pieces_in next.1) now
  clone_at = record {
    has =
        append_steps object number [] (pieces_in l.before) (map piece_of next.0.row.extents ++ pieces_in next.1) old now
        (subst (λ (qs : List ExtentPiece). HasAppended start acct parts t object [] qs old) pieces_next has) l.appends;
    before = l.before;
    behind = next.1;
    whole = whole_next;
    addr = clones_next.0;
  }

  pub some_clone : SomeClone now object p.object
  some_clone = record {
    start = start;
    acct = acct;
    parts = parts;
    t = t;
    done = pieces_in l.before;
    z = next.0;
    left = pieces_in next.1;
    is = clone_at;
  }

  pub pieces_then : pieces_in (l.before ++ (next.0 ∷ [])) ≡ pieces_in l.before ++ map piece_of next.0.row.extents
  pieces_then =
      flat_map-append (λ (z : Standing). map piece_of z.row.extents) l.before (next.0 ∷ [])
      ∙ ap (λ (qs : List ExtentPiece). pieces_in l.before ++ qs) (append-nil (map piece_of next.0.row.extents))

  abbrev pub appended_next : (new : Heap) → AppendsClone object number p.object now new → Appended object number t.clones ps old new
  appended_next new a = record {
    before = l.before ++ (next.0 ∷ []);
    behind = next.1;
    whole = whole_next ∙ sym (append_assoc l.before (next.0 ∷ []) next.1);
    clones = clones_next.2;
    appends =
        subst (λ (qs : List ExtentPiece). AppendsEach object number qs old new) (sym pieces_then)
        (appends_more object number (pieces_in l.before) (map piece_of next.0.row.extents) old now new l.appends
        (a.appends start acct parts t (pieces_in l.before) next.0 (pieces_in next.1) clone_at));
  }

  pub lines_then : length (pieces_in (l.before ++ (next.0 ∷ []))) ≡ length (pieces_in l.before) + length next.0.row.extents
  lines_then =
      let e = ap (length {A = ExtentPiece}) pieces_then in
      let a = length-append (pieces_in l.before) (map piece_of next.0.row.extents) in
      let m = length-map next.0.row.extents piece_of in
      omega (arith, e, a, m)

  pub lines_all : length (pieces_in l.before) + length next.0.row.extents ≤ length (pieces_in t.clones)
  lines_all =
      let e = ap (length {A = ExtentPiece}) pieces_next in
      let a = length-append (pieces_in l.before) (map piece_of next.0.row.extents ++ pieces_in next.1) in
      let b = length-append (map piece_of next.0.row.extents) (pieces_in next.1) in
      let m = length-map next.0.row.extents piece_of in
      omega (arith, e, a, b, m)

  pub appended_stopped : (new : Heap) (stop : Stop) → StopsClone object number p.object now new stop →
      AppendsSome object number (pieces_in t.clones) old new stop
  appended_stopped new stop s =
      let c = s.stops start acct parts t (pieces_in l.before) next.0 (pieces_in next.1) clone_at in
      record {
        done = pieces_in l.before ++ c.done;
        left = c.left ++ pieces_in next.1;
        whole =
            pieces_next ∙ ap (λ (qs : List ExtentPiece). pieces_in l.before ++ (qs ++ pieces_in next.1)) c.whole
            ∙ ap (λ (qs : List ExtentPiece). pieces_in l.before ++ qs) (append_assoc c.done c.left (pieces_in next.1))
            ∙ sym (append_assoc (pieces_in l.before) c.done (c.left ++ pieces_in next.1));
        mid = c.mid;
        appends = appends_more object number (pieces_in l.before) c.done old now c.mid l.appends c.appends;
        stops = later c.left (pieces_in next.1) c.mid c.stops;
      }
    where
      later : (qs more : List ExtentPiece) (mid : Heap) → StopsAppend object number qs mid new stop → StopsAppend object number (qs ++ more) mid new stop
      later [] more mid f = stops_fault object number more mid new stop f
      later (q ∷ qs) more mid f = f
