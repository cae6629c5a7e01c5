-- Sources and extents fit each other after each outcome.
use Rattle.std.proofs.Common.{◌≡◌, ◌⊎◌, inl, inr, ⊎_elim, ℕ, zero, suc, ◌+◌, ◌*◌, ◌≤◌, ◌==◌, List, [], ◌∷◌, ◌++◌, false, true≢false, cond, Option, Some, None, find, length, refl, sym, ap, ◌∙◌, subst, arith, eqb-true}
use Rattle.std.specs.Cmp.{nat_eq_equiv}
use Rattle.std.specs.FinMap as finite
use Rattle.std.specs.Option.{option_map}
use Rattle.std.specs.Ordering.{eq_by_cmp, nat_cmp}
use Rattle.std.specs.Prelude.{IfSome, unwrap_or}
use Rattle.std.proofs.lemmas.List.Elements.{All-from_recursion, recursion_from_All}
use Rattle.std.proofs.lemmas.List.Sums.{sum_by-append, sum_by-cons}
use Rattle.law_steps.proofs.BondLaws.{Bonded, all_bonded, bonded_extents-append, with_all, with_all_is}
use Rattle.law_steps.proofs.BondTracks.{tracks_from}
use Rattle.sdr_base.specs.declared.account.Acct.{Acct}
use Rattle.sdr_base.specs.declared.kind.Space.{Space}
use Rattle.law_steps.proofs.ChargeLemmas.{things_charge}
use Rattle.law_steps.proofs.DistinctLemmas.{on_test, weight}
use Rattle.law_steps.proofs.Effects.{IsFresh, IsNoZco, KeepsBytes, Plain}
use Rattle.law_steps.proofs.GoneLaws.{AllGone, Spare, all_go, change_first, gone_apart, named_once, without_is}
use Rattle.law_steps.proofs.FitChanges.{fits_object, fits_plain, fits_source}
use Rattle.law_steps.proofs.SourceViews.{AllLie, Fits, NoSpare, Unnamed, apart_at, fits_more, here_at, of, same_view, uses-with_at, uses_at}
use Rattle.law_steps.proofs.SourceMoves.{naming_in}
use Rattle.law_steps.proofs.ZcoOutcomes.{Bonds, Drops, NewObject, NewShape, NewSource, TakesOver}
use Rattle.law_steps.proofs.OutcomeLemmas.{first_fresh}
use Rattle.law_steps.proofs.ThingLemmas.{object_is, source_is}
use Rattle.law_steps.specs.Fresh.{AreFresh}
use Rattle.sdr_model.specs.Blocks.{addresses_of, blocks_of}
use Rattle.sdr_model.specs.BondSteps.{bonded, bonded_extents, capsules_of}
use Rattle.sdr_model.specs.Gone.{gone_things}
use Rattle.sdr_model.specs.ObjectSteps.{with_extent}
use Rattle.sdr_model.specs.SourceSteps.{new_source}
use Rattle.sdr_model.specs.Steps.{Outcome, taken_at}
use Rattle.sdr_model.specs.Things.{with_at, Things, source_need}
use Rattle.sdr_model.specs.Valid.{AreInside, FitTogether, HasBytes, IsValid, LiesInside}
use Rattle.sdr_model.specs.World.{World, as_raw, thing_at}
use Rattle.sdr_model.specs.Zco.{as_object, as_source, names_raw, naming, source_at, source_naming, uses_of}
use Rattle.sdr_model.specs.declared.call.Call.{Call}
use Rattle.sdr_model.specs.declared.things.Thing.{Thing}
use Rattle.sdr_model.specs.declared.things.Thing.TheVariants as things
use Rattle.sdr_model.specs.declared.zco.Extent.{Extent}
use Rattle.sdr_model.specs.declared.zco.Subject.TheVariants as subjects
use Rattle.sdr_model.specs.declared.zco.ZcoObject.{ZcoObject}
use Rattle.sdr_model.specs.declared.zco.ZcoSource.{ZcoSource}

-- where no source is found that names a raw object, none does
none_named : (raw : ℕ) (es : List (ℕ × Thing)) → find (λ e. names_raw raw e.1) es ≡ None
    → (q : ℕ) (t : Thing) → finite.find nat_cmp q es ≡ Some t → names_raw raw t ≡ false
none_named raw [] none q t is = let no : None ≡ Some t = is in cc
none_named raw (e ∷ es) none q t is =
    on_test (names_raw raw e.1)
    (λ named. let no : Some e ≡ None = sym (ap (λ b. cond b (Some e) (find (λ e. names_raw raw e.1) es)) named)
    ∙ none in cc)
    (λ not_named.
    let rest : find (λ e. names_raw raw e.1) es ≡ None =
    sym (ap (λ b. cond b (Some e) (find (λ e. names_raw raw e.1) es)) not_named) ∙ none in
    on_test (eq_by_cmp nat_cmp q e.0)
    (λ here. let same : Some e.1 ≡ Some t =
    sym (ap (λ b. cond b (Some e.1) (finite.find nat_cmp q es)) here) ∙ is in
    ap (λ o. names_raw raw (unwrap_or o t)) (sym same) ∙ not_named)
    (λ apart. none_named raw es rest q t
    (sym (ap (λ b. cond b (Some e.1) (finite.find nat_cmp q es)) apart) ∙ is)))

pub unnamed_from : (w : World) (raw : ℕ) → source_naming w raw ≡ None → Unnamed w.things raw
unnamed_from w raw none q s is =
    none_named raw (finite.entries w.things) (found (find (λ e. names_raw raw e.1) (finite.entries w.things)) none)
    q (things.Source s) (sym (finite.get-entries w.things q) ∙ source_is (thing_at w q) s is)
  where
    found : (o : Option (ℕ × Thing)) → option_map (λ e. e.0) o ≡ None → o ≡ None
    found None h = refl
    found (Some e) h = let no : Some e.0 ≡ None = h in cc

-- the extents that headers and trailers become, in one order
pub bonded_parts : (at : ℕ → ℕ) (z : ZcoObject) → bonded_extents at 0 (capsules_of z)
    ≡ bonded_extents at 0 z.headers ++ bonded_extents at (3 * length z.headers) z.trailers
bonded_parts at z =
    bonded_extents-append at 0 z.headers z.trailers
    ∙ ap (λ i. bonded_extents at 0 z.headers ++ bonded_extents at i z.trailers) (omega arith)

-- the source that takes a raw object over, and the things with it
abbrev pub over_source : {w : World} {call : Call} {o : Outcome} → TakesOver w call o → ZcoSource
over_source n = new_source (subjects.Heap n.raw) (length n.text)

abbrev pub over_things : {w : World} {call : Call} {o : Outcome} → TakesOver w call o → Things
over_things {w} {call} {o} n = with_at w.things (taken_at o.moves 0) (Some (things.Source (over_source n)))

pub over_none : {w : World} {call : Call} {o : Outcome} → TakesOver w call o → IsFresh w o
    → thing_at w (taken_at o.moves 0) ≡ None
over_none {w} {call} {o} n fresh = first_fresh w o (source_need 0) (taken_at o.moves 0) _ n.moves fresh

-- the object is there yet, and the source for its extent
pub over_there : {w : World} {call : Call} {o : Outcome} (n : TakesOver w call o) → IsFresh w o
    → finite.get (over_things n) n.addr ≡ Some (things.Object n.old)
over_there {w} {call} {o} n fresh =
    let was = object_is (thing_at w n.addr) n.old n.was in
    apart_at w.things (taken_at o.moves 0) (Some (things.Source (over_source n))) n.addr (λ same.
    (let no : Some (things.Object n.old) ≡ None = sym was ∙ ap (thing_at w) same ∙ over_none n fresh in cc)) ∙ was

pub over_here : {w : World} {call : Call} {o : Outcome} (n : TakesOver w call o)
    → source_at (of (over_things n)) n.extent.source ≡ Some (over_source n)
over_here {w} {call} {o} n =
    ap (λ i. source_at (of (over_things n)) i) n.source
    ∙ ap as_source (here_at w.things (taken_at o.moves 0) (Some (things.Source (over_source n))))

module _ {w : World} {o : Outcome} (fits : Fits w.things NoSpare) (fresh : IsFresh w o) where
  pub plain_fits : Plain w o → Fits o.after.things NoSpare
  plain_fits (Plain.leaves things accounts) = subst (λ m. Fits m NoSpare) (sym things) fits
  plain_fits (Plain.swaps addr before after was a b bytes things accounts) =
      subst (λ m. Fits m NoSpare) (sym things)
      (fits_plain w.things NoSpare fits addr after (subst IsNoZco (sym (was fresh)) a) b
      (inl (subst (λ t. KeepsBytes t after) (sym (was fresh)) bytes)))
  plain_fits (Plain.frees addr bytes is none things accounts) =
      subst (λ m. Fits m NoSpare) (sym things)
      (fits_plain w.things NoSpare fits addr None (subst IsNoZco (sym is) tt) tt (inr (unnamed_from w addr none)))

  pub source_fits : (n : NewSource w o) → Fits o.after.things NoSpare
  source_fits n =
      subst (λ m. Fits m NoSpare) (sym n.things)
      (fits_source w.things NoSpare fits n.addr n.source (n.fresh fresh) n.subject
      (λ raw named. unnamed_from w raw (n.alone raw named))
      (λ passing. absurd (true≢false (sym passing ∙ n.stays))))

  pub object_fits : {call : Call} (n : NewObject w call o) → FitTogether w → Fits o.after.things NoSpare
  object_fits n fit =
      let none = n.fresh fresh in
      subst (λ m. Fits m NoSpare) (sym n.things)
      (fits_object w.things NoSpare fits n.addr (Some n.object) (ap as_source none) (ap as_raw none)
      (λ z is. subst (λ (z : ZcoObject). AllLie w.things z.extents) (ap (λ o. unwrap_or o z) is)
      (recursion_from_All (λ e. LiesInside e (source_at w e.source)) n.object.extents (n.inside fit.inside)))
      NoSpare
      (λ q s is passing. ⊎_elim
      (λ u. inl (omega (
        arith,
        u,
        uses-with_at q w.things n.addr (Some (things.Object n.object)),
        ap (uses_at q) none,
      )))
      (λ spare. inr spare) (fits.used q s is passing)))

  pub shape_fits : {call : Call} (n : NewShape w call o) → Fits o.after.things NoSpare
  shape_fits n =
      let was = object_is (thing_at w n.addr) n.old n.was in
      subst (λ m. Fits m NoSpare) (sym n.things)
      (fits_object w.things NoSpare fits n.addr (Some n.new) (ap as_source was) (ap as_raw was)
      (λ z is. subst (λ (z : ZcoObject). AllLie w.things z.extents) (ap (λ o. unwrap_or o z) is)
      (recursion_from_All (λ e. LiesInside e (source_at w e.source)) n.new.extents
      (n.inside (All-from_recursion (λ e. LiesInside e (source_at w e.source)) n.old.extents
      (fits.inside n.addr n.old n.was)))))
      NoSpare
      (λ q s is passing. ⊎_elim
      (λ u. inl (omega (
        arith,
        u,
        n.names q,
        uses-with_at q w.things n.addr (Some (things.Object n.new)),
        ap (uses_at q) was,
      )))
      (λ spare. inr spare) (fits.used q s is passing)))

  -- a raw object's source, and an extent of it
  pub over_fits : {call : Call} (n : TakesOver w call o) → Fits o.after.things NoSpare
  over_fits n =
      let at = taken_at o.moves 0 in
      let mid = over_things n in
      let there = over_there n fresh in
      let here = over_here n in
      let mid_fits : Fits mid (λ q. q ≡ at) =
      fits_source w.things (λ q. q ≡ at) (fits_more NoSpare (λ q. q ≡ at) (λ q no. absurd no) fits) at (over_source n)
      (over_none n fresh) (subst (HasBytes (length n.text)) (sym n.bytes) refl)
      (λ raw named. subst (Unnamed w.things) (eqb-true n.raw raw named) (unnamed_from w n.raw n.unnamed))
      (λ pass. refl) in
      subst (λ m. Fits m NoSpare) (sym n.things)
      (fits_object mid (λ q. q ≡ at) mid_fits n.addr (Some (with_extent n.old n.extent)) (ap as_source there)
      (ap as_raw there)
      (λ z is. subst (λ (z : ZcoObject). AllLie mid z.extents) (ap (λ o. unwrap_or o z) is)
      (lie_more mid n.old.extents n.extent (mid_fits.inside n.addr n.old (ap as_object there))
      (subst (LiesInside n.extent) (sym here) n.inside)))
      NoSpare
      (λ q t is passing.
      let uses = uses-with_at q mid n.addr (Some (things.Object (with_extent n.old n.extent))) in
      let more = sum_by-append (λ (e : Extent). weight (e.source == q)) n.old.extents (n.extent ∷ []) in
      let last = sum_by-cons (λ (e : Extent). weight (e.source == q)) n.extent [] in
      ⊎_elim
      (λ u. inl (omega (arith, u, uses, more, ap (uses_at q) there)))
      (λ spare. inl (omega (
        arith,
        uses,
        more,
        last,
        ap (uses_at q) there,
        ap weight (ap (λ i. i == q) (n.source ∙ sym spare) ∙ nat_eq_equiv.refl q),
      )))
      (mid_fits.used q t is passing)))
    where
      lie_more : (m : Things) (es : List Extent) (e : Extent) → AllLie m es → LiesInside e (source_at (of m) e.source)
          → AllLie m (es ++ e ∷ [])
      lie_more m [] e all one = (one, tt)
      lie_more m (x ∷ es) e all one = (all.0, lie_more m es e all.1 one)

  -- what things charge where an object is another or goes
  abbrev pub charged_by : {call : Call} → Drops w call o → Acct → Space → ℕ
  charged_by n acct space =
      things_charge (with_at w.things n.addr (option_map (λ z. things.Object z) n.new)) acct space

  -- extents go from an object, with what goes with them
  pub drops_gone : {call : Call} (n : Drops w call o) → AllGone w n.out (charged_by n) o.after.things
  drops_gone n =
      let was = object_is (thing_at w n.addr) n.old n.was in
      let gone = gone_things w n.out n.out in
      let after = option_map (λ z. things.Object z) n.new in
      subst (AllGone w n.out (charged_by n))
      (sym (change_first w.things n.addr after gone
      (gone_apart w n.out (charged_by n) n.addr fits (ap as_source was) (ap as_raw was) n.out))
      ∙ ap (λ m. with_at m n.addr after) (sym (without_is w gone)) ∙ sym n.things)
      (all_go w n.out (charged_by n) (with_at w.things n.addr after) n.out (record {
        fits = fits_object w.things NoSpare fits n.addr n.new (ap as_source was) (ap as_raw was)
            (λ z is. recursion_from_All (λ e. LiesInside e (source_at w e.source)) z.extents
            (subst (λ o. IfSome o (λ z. AreInside w (things.Object z))) is
            (n.inside (All-from_recursion (λ e. LiesInside e (source_at w e.source)) n.old.extents
            (fits.inside n.addr n.old n.was)))))
            (Spare w n.out n.out) (λ q s is passing. ⊎_elim (λ u. left_or_spare n.out _ q (uses q n was) u)
            (λ spare. absurd spare) (fits.used q s is passing));
        sources = λ q named. same_view as_source w.things n.addr after (none_of n.new ∙ sym (ap as_source was)) q;
        uses = λ q. uses q n was;
        charges = λ acct space. refl;
      }))
    where
      none_of : (o : Option ZcoObject) → as_source (option_map (λ z. things.Object z) o) ≡ None
      none_of None = refl
      none_of (Some z) = refl

      named_in : (q : ℕ) (o : Option ZcoObject) → uses_at q (option_map (λ z. things.Object z) o) ≡ naming_in q o
      named_in q None = refl
      named_in q (Some z) = refl

      uses : {call : Call} (q : ℕ) (n : Drops w call o) → thing_at w n.addr ≡ Some (things.Object n.old)
          → uses_of (of (with_at w.things n.addr (option_map (λ z. things.Object z) n.new))) q + naming q n.out
          ≡ uses_of w q
      uses q n was =
          omega (
            arith,
            n.parts q,
            uses-with_at q w.things n.addr (option_map (λ z. things.Object z) n.new),
            ap (uses_at q) was,
            named_in q n.new,
          )

      left_or_spare : (out : List Extent) (k q : ℕ) → k + naming q out ≡ uses_of w q → 1 ≤ uses_of w q
          → (1 ≤ k) ⊎ Spare w out out q
      left_or_spare out zero q sum some = inr (omega (arith, sum), named_once q out (omega (arith, sum, some)))
      left_or_spare out (suc k) q sum some = inl (omega arith)

  pub drops_fit : {call : Call} (n : Drops w call o) → Fits o.after.things NoSpare
  drops_fit n = (drops_gone n).fits

  -- headers and trailers have become raw objects, sources and extents
  abbrev pub bonded_things : {call : Call} → Bonds w call o → Things
  bonded_things n = with_all w.things (taken_at o.moves) 0 (capsules_of n.old)

  abbrev pub named_by : {call : Call} → Bonds w call o → ℕ → Type 0
  named_by n q = 1 ≤ naming q (bonded_extents (taken_at o.moves) 0 (capsules_of n.old))

  pub bonds_done : {call : Call} → IsValid w → (n : Bonds w call o)
      → Bonded w.things (bonded_things n) (taken_at o.moves) 0 (capsules_of n.old) (named_by n)
  bonds_done valid n =
      all_bonded w.things (addresses_of (blocks_of w)) (taken_at o.moves) 0 (capsules_of n.old) (named_by n)
      (tracks_from w n.addr n.old valid (object_is (thing_at w n.addr) n.old n.was))
      (subst (AreFresh (addresses_of (blocks_of w))) n.moves fresh) (λ q some. some)
      (fits_more NoSpare (named_by n) (λ q spare. absurd spare) fits)

  -- and the object has the extents
  pub bonds_fit : {call : Call} → IsValid w → (n : Bonds w call o) → Fits o.after.things NoSpare
  bonds_fit valid n =
      let was = object_is (thing_at w n.addr) n.old n.was in
      let at = taken_at o.moves in
      let capsules = capsules_of n.old in
      let mid = bonded_things n in
      let done = bonds_done valid n in
      let there : finite.get mid n.addr ≡ Some (things.Object n.old) = done.keeps n.addr (things.Object n.old) was in
      let parts = sym (bonded_parts at n.old) in
      subst (λ m. Fits m NoSpare)
      (ap (λ m. with_at m n.addr (Some (things.Object (bonded at n.old)))) (sym (with_all_is w at 0 capsules))
      ∙ sym n.things)
      (fits_object mid (named_by n) done.fits n.addr (Some (bonded at n.old)) (ap as_source there) (ap as_raw there)
      (λ z is. subst (λ (z : ZcoObject). AllLie mid z.extents) (ap (λ o. unwrap_or o z) is)
      (lie_around mid (bonded_extents at 0 n.old.headers) n.old.extents
      (bonded_extents at (3 * length n.old.headers) n.old.trailers)
      (subst (AllLie mid) (bonded_parts at n.old) done.lie) (done.fits.inside n.addr n.old (ap as_object there))))
      NoSpare
      (λ q s is passing.
      let uses = uses-with_at q mid n.addr (Some (things.Object (bonded at n.old))) in
      let sums = names_around q (bonded_extents at 0 n.old.headers) n.old.extents
      (bonded_extents at (3 * length n.old.headers) n.old.trailers) in
      let of_parts = ap (naming q) (bonded_parts at n.old) in
      ⊎_elim
      (λ u. inl (omega (arith, u, uses, sums, ap (uses_at q) there)))
      (λ some. inl (omega (arith, some, uses, sums, of_parts, ap (uses_at q) there)))
      (done.fits.used q s is passing)))
    where
      -- extents between others
      lie_around : (m : Things) (xs es ys : List Extent) → AllLie m (xs ++ ys) → AllLie m es → AllLie m (xs ++ es ++ ys)
      lie_around m [] es ys outer inner = lie_before m es ys inner outer
        where
          lie_before : (m : Things) (es ys : List Extent) → AllLie m es → AllLie m ys → AllLie m (es ++ ys)
          lie_before m [] ys a b = b
          lie_before m (e ∷ es) ys a b = (a.0, lie_before m es ys a.1 b)
      lie_around m (x ∷ xs) es ys outer inner = (outer.0, lie_around m xs es ys outer.1 inner)

      names_around : (q : ℕ) (xs es ys : List Extent)
          → naming q (xs ++ es ++ ys) ≡ naming q (xs ++ ys) + naming q es
      names_around q xs es ys =
          omega (
            arith,
            sum_by-append (λ (e : Extent). weight (e.source == q)) (xs ++ es) ys,
            sum_by-append (λ (e : Extent). weight (e.source == q)) xs es,
            sum_by-append (λ (e : Extent). weight (e.source == q)) xs ys,
          )
