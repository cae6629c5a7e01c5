-- Headers and trailers that become raw objects, sources and extents.
use Rattle.std.proofs.Common.{◌≡◌, ◌≢◌, inl, ℕ, ◌+◌, ◌*◌, ◌≤◌, ◌==◌, List, [], ◌∷◌, ◌++◌, true, false, true≢false, Option, Some, None, length, nat_eq, refl, sym, ap, ◌∙◌, subst, arith, eqb-true}
use Rattle.std.specs.Cmp.{nat_eq_equiv}
use Rattle.std.specs.FinMap.{get}
use Rattle.std.specs.List.{AllByRecursion, count_by, sum_by}
use Rattle.std.specs.Prelude.{Contains}
use Rattle.std.proofs.lemmas.List.Sums.{sum_by-cons}
use Rattle.sdr_base.specs.declared.moves.Move.{Move}
use Rattle.sdr_base.specs.declared.moves.Move.TheVariants.{Took, Gave}
use Rattle.sdr_base.specs.declared.account.Acct.{Acct}
use Rattle.sdr_base.specs.declared.kind.Space.{Space}
use Rattle.law_steps.proofs.ChargeLemmas.{charge_plain, charge_source, count_moves, count_none, things_charge, uses_in_at}
use Rattle.law_steps.proofs.DistinctLemmas.{absent, count_by-cons, on_test, others, others_counted, weight, weight_of}
use Rattle.law_steps.proofs.SourceCharges.{AreFirst, bytes_in, counts}
use Rattle.law_steps.proofs.Effects.{IsNoZco}
use Rattle.law_steps.proofs.FitChanges.{fits_plain, fits_source}
use Rattle.law_steps.proofs.SourceViews.{AllLie, Fits, Unnamed, apart_at, by_addr, here_at, of, same_view}
use Rattle.law_steps.specs.Fresh.{AreFresh}
use Rattle.sdr_model.specs.BondSteps.{bond_moves, bonded_extents, with_bonded}
use Rattle.sdr_model.specs.SourceSteps.{new_source}
use Rattle.sdr_model.specs.Things.{with_at, Things}
use Rattle.sdr_model.specs.Valid.{HasBytes, HasSubject, LiesInside}
use Rattle.sdr_model.specs.World.{World, as_raw}
use Rattle.sdr_model.specs.Zco.{as_source, is_of_raw, naming}
use Rattle.sdr_model.specs.declared.things.Thing.{Thing}
use Rattle.sdr_model.specs.declared.things.Thing.TheVariants as things
use Rattle.sdr_model.specs.declared.zco.Capsule.{Capsule}
use Rattle.sdr_model.specs.declared.zco.Extent.{Extent}
use Rattle.sdr_model.specs.declared.zco.Subject.{Subject}
use Rattle.sdr_model.specs.declared.zco.Subject.TheVariants as subjects
use Rattle.sdr_model.specs.declared.zco.ZcoSource.{ZcoSource}

-- the source that a header or trailer becomes, whose raw object is at an address
abbrev pub capsule_source : ℕ → Capsule → ZcoSource
capsule_source raw c = new_source (subjects.Heap raw) (length c.text)

-- things with a raw object and its source
abbrev pub with_one : Things → ℕ → ℕ → Capsule → Things
with_one m raw addr c =
    with_at (with_at m raw (Some (things.Raw c.text))) addr (Some (things.Source (capsule_source raw c)))

-- things with the raw objects and sources that these headers and trailers become
abbrev pub with_all : Things → (ℕ → ℕ) → ℕ → List Capsule → Things
with_all m at k [] = m
with_all m at k (c ∷ cs) = with_all (with_one m (at k) (at (k + 1)) c) at (k + 3) cs

pub with_all_is : (w : World) (at : ℕ → ℕ) (k : ℕ) (cs : List Capsule)
    → (with_bonded w at k cs).things ≡ with_all w.things at k cs
with_all_is w at k [] = refl
with_all_is w at k (c ∷ cs) = with_all_is (record w { things = with_one w.things (at k) (at (k + 1)) c }) at (k + 3) cs

-- how many of these headers and trailers have their block at an address
abbrev pub caps : ℕ → List Capsule → ℕ
caps k = sum_by (λ c. weight (nat_eq k c.block))

caps-cons : (k : ℕ) (c : Capsule) (cs : List Capsule) → caps k (c ∷ cs) ≡ weight (nat_eq k c.block) + caps k cs
caps-cons k c cs = sum_by-cons (λ (c : Capsule). weight (nat_eq k c.block)) c cs

-- These addresses are in use, among them those of all things, and of the headers and trailers, where no thing is.
pub record Tracks (m : Things) (used : List ℕ) (cs : List Capsule) : Type 0 where
  pub known : (q : ℕ) → count_by (nat_eq q) used ≡ 0 → get m q ≡ None
  pub blocks : (k : ℕ) → 1 ≤ caps k cs → (get m k ≡ None) × (1 ≤ count_by (nat_eq k) used)
  pub few : (k : ℕ) → caps k cs ≤ 1

-- What headers and trailers have become: old things stay, each extent lies inside its source, is the first to name it and is
-- all of it, in heap space, and they charge nothing yet.
pub record Bonded (m n : Things) (at : ℕ → ℕ) (k : ℕ) (cs : List Capsule) (Spare : ℕ → Type 0) : Type 0 where
  pub fits : Fits n Spare
  pub lie : AllLie n (bonded_extents at k cs)
  pub fresh : AllByRecursion (λ e. get m e.source ≡ None) (bonded_extents at k cs)
  pub firsts : (acct : Acct) → AreFirst n (counts n acct) (bonded_extents at k cs)
  pub counted : (acct : Acct) (q : ℕ) → counts n acct q ≡ counts m acct q
  pub keeps : (q : ℕ) (t : Thing) → get m q ≡ Some t → get n q ≡ Some t
  pub charges : (acct : Acct) (space : Space) → things_charge n acct space ≡ things_charge m acct space

-- no source names what isn't there
unnamed_none : {P : ℕ → Type 0} (m : Things) (raw : ℕ) → Fits m P → get m raw ≡ None → Unnamed m raw
unnamed_none m raw fits none q s is =
    on_test (is_of_raw raw s.subject) (λ named. absurd (by s.subject named (fits.subjects q s is))) (λ no_name. no_name)
  where
    has_none : (r n : ℕ) → (r == raw) ≡ true → HasBytes n (as_raw (get m r)) → ⊥
    has_none r n same h =
        subst (HasBytes n) (ap (λ i. as_raw (get m i)) (eqb-true r raw same) ∙ ap as_raw none) h

    by : (t : Subject) → is_of_raw raw t ≡ true → HasSubject (of m) s.length t → ⊥
    by (subjects.Heap r) named h = has_none r s.length named h
    by (subjects.Obj r) named h = has_none r s.length named h
    by (subjects.File path) named h = true≢false (sym named)
    by (subjects.Bulk item) named h = true≢false (sym named)

count_one : (k : ℕ) (used : List ℕ) → count_by (nat_eq k) (k ∷ used) ≡ 1 + count_by (nat_eq k) used
count_one k used = omega (arith, count_by-cons (nat_eq k) k used, weight_of (nat_eq_equiv.refl k))

-- an address that is in use isn't a fresh one
used_apart : (k a : ℕ) (used : List ℕ) → ¬ Contains used a → 1 ≤ count_by (nat_eq k) used → k ≢ a
used_apart k a used fresh some same =
    absurd (omega (arith, some, absent a used fresh, ap (λ i. count_by (nat_eq i) used) same))

module _ (m : Things) (used : List ℕ) (c : Capsule) (cs : List Capsule) (raw addr block : ℕ)
    (tracks : Tracks m used (c ∷ cs)) (rest : List Move)
    (fresh : AreFresh used (Took 0 raw ∷ Took 0 addr ∷ Took 0 block ∷ Gave c.block ∷ rest)) where
  abbrev n : Things
  n = with_one m raw addr c

  raw_none : get m raw ≡ None
  raw_none = tracks.known raw (absent raw used fresh.1)

  addr_apart : addr ≢ raw
  addr_apart same =
      absurd (omega (
        arith,
        absent addr (raw ∷ used) fresh.2.1,
        ap (λ i. count_by (nat_eq addr) (i ∷ used)) same,
        count_one addr used,
      ))

  less_used : (q : ℕ) → count_by (nat_eq q) (raw ∷ used) ≡ 0 → count_by (nat_eq q) used ≡ 0
  less_used q none = omega (arith, none, count_by-cons (nat_eq q) raw used)

  addr_none : get (with_at m raw (Some (things.Raw c.text))) addr ≡ None
  addr_none =
      apart_at m raw (Some (things.Raw c.text)) addr addr_apart
      ∙ tracks.known addr (less_used addr (absent addr (raw ∷ used) fresh.2.1))

  -- what is elsewhere
  elsewhere : (q : ℕ) → q ≢ raw → q ≢ addr → get n q ≡ get m q
  elsewhere q away apart =
      apart_at (with_at m raw (Some (things.Raw c.text))) addr (Some (things.Source (capsule_source raw c))) q apart
      ∙ apart_at m raw (Some (things.Raw c.text)) q away

  -- the addresses in use afterwards
  abbrev after : List ℕ
  after = others c.block (block ∷ addr ∷ raw ∷ used)

  in_use : (q : ℕ) → count_by (nat_eq q) used ≤ count_by (nat_eq q) (block ∷ addr ∷ raw ∷ used)
  in_use q =
      omega (
        arith,
        count_by-cons (nat_eq q) raw used,
        count_by-cons (nat_eq q) addr (raw ∷ used),
        count_by-cons (nat_eq q) block (addr ∷ raw ∷ used),
      )

  still_none : (k : ℕ) → 1 ≤ caps k (c ∷ cs) → get n k ≡ None
  still_none k some =
      let old = tracks.blocks k some in
      elsewhere k (used_apart k raw used fresh.1 old.1)
      (used_apart k addr (raw ∷ used) fresh.2.1 (omega (arith, old.1, count_by-cons (nat_eq k) raw used))) ∙ old.0

  own : 1 ≤ caps c.block (c ∷ cs)
  own = omega (arith, caps-cons c.block c cs, weight_of (nat_eq_equiv.refl c.block))

  pub tracks_next : Tracks n after cs
  tracks_next = record {
    known = λ q none. by_addr q c.block
        (λ here. ap (get n) here ∙ still_none c.block own)
        (λ apart.
        let gone : count_by (nat_eq q) (block ∷ addr ∷ raw ∷ used) ≡ 0 =
        sym (others_counted q c.block (block ∷ addr ∷ raw ∷ used) apart) ∙ none in
        elsewhere q (λ same. not_in q raw (addr_raw_in q) gone same) (λ same. not_in q addr (addr_in q) gone same)
        ∙ tracks.known q (omega (arith, gone, in_use q)));
    blocks = λ k some.
        let more : 1 ≤ caps k (c ∷ cs) = omega (arith, some, caps-cons k c cs) in
        let apart : k ≢ c.block = λ same.
        absurd (omega (
          arith,
          some,
          tracks.few k,
          caps-cons k c cs,
          weight_of (ap (nat_eq k) (sym same) ∙ nat_eq_equiv.refl k),
        )) in (
          still_none k more,
          omega (arith, (tracks.blocks k more).1, in_use k, others_counted k c.block (block ∷ addr ∷ raw ∷ used) apart),
        );
    few = λ k. omega (arith, tracks.few k, caps-cons k c cs);
  }
    where
      not_in : (q a : ℕ) → weight (nat_eq q a) ≤ count_by (nat_eq q) (block ∷ addr ∷ raw ∷ used)
          → count_by (nat_eq q) (block ∷ addr ∷ raw ∷ used) ≡ 0 → q ≡ a → ⊥
      not_in q a le none same =
          absurd (omega (arith, le, none, weight_of (ap (nat_eq q) (sym same) ∙ nat_eq_equiv.refl q)))

      addr_in : (q : ℕ) → weight (nat_eq q addr) ≤ count_by (nat_eq q) (block ∷ addr ∷ raw ∷ used)
      addr_in q =
          omega (
            arith,
            count_by-cons (nat_eq q) addr (raw ∷ used),
            count_by-cons (nat_eq q) block (addr ∷ raw ∷ used),
          )

      addr_raw_in : (q : ℕ) → weight (nat_eq q raw) ≤ count_by (nat_eq q) (block ∷ addr ∷ raw ∷ used)
      addr_raw_in q =
          omega (
            arith,
            count_by-cons (nat_eq q) raw used,
            count_by-cons (nat_eq q) addr (raw ∷ used),
            count_by-cons (nat_eq q) block (addr ∷ raw ∷ used),
          )

  mid_fits : (Spare : ℕ → Type 0) → Fits m Spare → Fits (with_at m raw (Some (things.Raw c.text))) Spare
  mid_fits Spare fits =
      fits_plain m Spare fits raw (Some (things.Raw c.text)) (subst IsNoZco (sym raw_none) tt) tt
      (inl (λ k h. absurd (subst (HasBytes k) (ap as_raw raw_none) h)))

  pub one_fits : (Spare : ℕ → Type 0) → Spare addr → Fits m Spare → Fits n Spare
  one_fits Spare spare fits =
      let text = Some (things.Raw c.text) in
      fits_source (with_at m raw text) Spare (mid_fits Spare fits) addr (capsule_source raw c) addr_none
      (subst (λ t. HasBytes (length c.text) (as_raw t)) (sym (here_at m raw text)) refl)
      (λ other named q s is. subst (λ r. is_of_raw r s.subject ≡ false) (eqb-true raw other named)
      (unnamed_none m raw fits raw_none q s
      (sym (same_view as_source m raw text (sym (ap as_source raw_none)) q) ∙ is)))
      (λ passing. spare)

  pub one_charges : (Spare : ℕ → Type 0) → Fits m Spare → (acct : Acct) (space : Space)
      → things_charge n acct space ≡ things_charge m acct space
  one_charges Spare fits acct space =
      let text = Some (things.Raw c.text) in
      charge_source (with_at m raw text) addr acct space Spare (mid_fits Spare fits) (capsule_source raw c) addr_none
      ∙ charge_plain m raw acct space text (subst IsNoZco (sym raw_none) tt) tt

  pub one_counts : (acct : Acct) (q : ℕ) → counts n acct q ≡ counts m acct q
  one_counts acct q =
      let text = Some (things.Raw c.text) in
      omega (
        arith,
        count_moves m raw text acct q,
        count_moves (with_at m raw text) addr (Some (things.Source (capsule_source raw c))) acct q,
        ap (uses_in_at q acct) raw_none,
        ap (uses_in_at q acct) addr_none,
      )

  -- the source's address was a fresh one
  pub addr_fresh : get m addr ≡ None
  addr_fresh = tracks.known addr (less_used addr (absent addr (raw ∷ used) fresh.2.1))

  pub one_unnamed : (Spare : ℕ → Type 0) → Fits m Spare → (acct : Acct) → counts m acct addr ≡ 0
  one_unnamed Spare fits acct = count_none Spare m fits acct addr (ap as_source addr_fresh)

  pub one_there : get n addr ≡ Some (things.Source (capsule_source raw c))
  one_there = here_at (with_at m raw (Some (things.Raw c.text))) addr (Some (things.Source (capsule_source raw c)))

  pub one_keeps : (q : ℕ) (t : Thing) → get m q ≡ Some t → get n q ≡ Some t
  one_keeps q t is =
      elsewhere q (λ same. (let no : Some t ≡ None = sym is ∙ ap (get m) same ∙ raw_none in cc))
      (λ same.
      (let no : Some t ≡ None = sym is ∙ ap (get m) same
      ∙ sym (apart_at m raw (Some (things.Raw c.text)) addr addr_apart) ∙ addr_none in cc)) ∙ is

-- what isn't there wasn't, where what was is there
not_there : {X : Type 0} (o : Option X) (p : Option X) → ((x : X) → o ≡ Some x → p ≡ Some x) → p ≡ None → o ≡ None
not_there None p keeps none = refl
not_there (Some x) p keeps none = let no : Some x ≡ None = sym (keeps x refl) ∙ none in cc

-- extents of sources that aren't there name none that is
fresh_apart : (m : Things) (q : ℕ) (t : Thing) → get m q ≡ Some t → (es : List Extent)
    → AllByRecursion (λ e. get m e.source ≡ None) es → naming q es ≡ 0
fresh_apart m q t there [] fresh = refl
fresh_apart m q t there (e ∷ es) fresh =
    omega (
      arith,
      sum_by-cons (λ (e : Extent). weight (e.source == q)) e es,
      fresh_apart m q t there es fresh.1,
      on_test (e.source == q)
          (λ same. let no : None ≡ Some t = sym fresh.0 ∙ ap (get m) (eqb-true e.source q same) ∙ there in cc)
          (λ other. weight_of other),
    )

still_fresh : (m n : Things) (es : List Extent) → ((q : ℕ) (t : Thing) → get m q ≡ Some t → get n q ≡ Some t)
    → AllByRecursion (λ e. get n e.source ≡ None) es → AllByRecursion (λ e. get m e.source ≡ None) es
still_fresh m n [] keeps fresh = tt
still_fresh m n (e ∷ es) keeps fresh =
    (not_there (get m e.source) (get n e.source) (keeps e.source) fresh.0, still_fresh m n es keeps fresh.1)

-- each header and trailer becomes a raw object, a source and an extent
pub all_bonded : (m : Things) (used : List ℕ) (at : ℕ → ℕ) (k : ℕ) (cs : List Capsule) (Spare : ℕ → Type 0)
    → Tracks m used cs → AreFresh used (bond_moves at k cs)
    → ((q : ℕ) → 1 ≤ naming q (bonded_extents at k cs) → Spare q) → Fits m Spare
    → Bonded m (with_all m at k cs) at k cs Spare
all_bonded m used at k [] Spare tracks fresh covers fits =
    record {
      fits = fits;
      lie = tt;
      fresh = tt;
      firsts = λ acct. tt;
      counted = λ acct q. refl;
      keeps = λ q t is. is;
      charges = λ acct space. refl;
    }
all_bonded m used at k (c ∷ cs) Spare tracks fresh covers fits =
    let raw = at k in
    let addr = at (k + 1) in
    let block = at (k + 2) in
    let rest = bond_moves at (k + 3) cs in
    let n = with_one m raw addr c in
    let first : Extent = record { block = block; source = addr; offset = 0; length = length c.text } in
    let counts = λ (q : ℕ).
    sum_by-cons (λ (e : Extent). weight (e.source == q)) first (bonded_extents at (k + 3) cs) in
    let next = all_bonded n (others c.block (block ∷ addr ∷ raw ∷ used)) at (k + 3) cs Spare
    (tracks_next m used c cs raw addr block tracks rest fresh) fresh.2.2.2
    (λ q some. covers q (omega (arith, some, counts q)))
    (one_fits m used c cs raw addr block tracks rest fresh Spare
    (covers addr (omega (arith, counts addr, weight_of (nat_eq_equiv.refl addr)))) fits) in
    record {
      fits = next.fits;
      lie = (
        subst (LiesInside first) (sym (ap as_source (next.keeps addr _
            (one_there m used c cs raw addr block tracks rest fresh)))) (omega arith),
        next.lie,
      );
      fresh = (
        addr_fresh m used c cs raw addr block tracks rest fresh,
        still_fresh m n (bonded_extents at (k + 3) cs)
            (one_keeps m used c cs raw addr block tracks rest fresh) next.fresh,
      );
      firsts = λ acct. (
        next.counted acct addr ∙ one_counts m used c cs raw addr block tracks rest fresh acct addr
            ∙ one_unnamed m used c cs raw addr block tracks rest fresh Spare fits acct,
        fresh_apart n addr _ (one_there m used c cs raw addr block tracks rest fresh) (bonded_extents at (k + 3) cs)
            next.fresh,
        λ space. ap (λ t. bytes_in space (as_source t))
            (next.keeps addr _ (one_there m used c cs raw addr block tracks rest fresh)),
        next.firsts acct,
      );
      counted = λ acct q. next.counted acct q ∙ one_counts m used c cs raw addr block tracks rest fresh acct q;
      keeps = λ q t is. next.keeps q t (one_keeps m used c cs raw addr block tracks rest fresh q t is);
      charges = λ acct space. next.charges acct space
          ∙ one_charges m used c cs raw addr block tracks rest fresh Spare fits acct space;
    }

-- the extents of joined headers and trailers
pub bonded_extents-append : (at : ℕ → ℕ) (k : ℕ) (xs ys : List Capsule)
    → bonded_extents at k (xs ++ ys) ≡ bonded_extents at k xs ++ bonded_extents at (k + 3 * length xs) ys
bonded_extents-append at k [] ys = ap (λ i. bonded_extents at i ys) (omega arith)
bonded_extents-append at k (x ∷ xs) ys =
    ap (λ es. record { block = at (k + 2); source = at (k + 1); offset = 0; length = length x.text } ∷ es)
    (bonded_extents-append at (k + 3) xs ys
    ∙ ap (λ i. bonded_extents at (k + 3) xs ++ bonded_extents at i ys) (omega arith))
