-- What goes with extents, found by counting them one after another.
use Rattle.std.proofs.Common.{◌≡◌, ◌≤◌, ◌<◌, ◌+◌, ◌==◌, ◌&&◌, ◌||◌, ℕ, Bool, true, false, not, Option, None, Some, List, [], ◌∷◌, ◌++◌, cond, length, take, drop, get_or, ap, sym, ◌∙◌, refl, arith, true≢false}
use Rattle.std.proofs.lemmas.Bool.{eq-eqb}
use Rattle.std.proofs.lemmas.Bool.Decides.{nat_tests}
use Rattle.std.proofs.lemmas.List.{at_drop_more}
use Rattle.std.proofs.lemmas.List.Elements.{All-append, All-cons, All-head, All-nil, All-tail, All-weaker}
use Rattle.std.proofs.lemmas.List.Sums.{count_by-le-length, sum_by-cons, sum_by-take-drop, sum_by_more}
use Rattle.std.specs.BTreeMap.{is_at}
use Rattle.std.specs.FinMap.{get, insert, remove}
use Rattle.std.specs.List.{All}
use Rattle.std.specs.Option.{option_to_list}
use Rattle.std.specs.Ordering.{nat_cmp}
use Rattle.std.specs.Prelude.{if◌then◌else◌, IfSome}
use Rattle.sdr_base.specs.declared.account.Acct.{Acct}
use Rattle.sdr_base.specs.declared.account.Acct.TheVariants as accts
use Rattle.sdr_model.proofs.FewLemmas.{object_is}
use Rattle.sdr_model.proofs.SumLemmas.{counted_at, sum_by-removed}
use Rattle.sdr_model.proofs.ThingsLemmas.{get-with_at, same_address, same_things}
use Rattle.sdr_model.specs.Accounts.{is_same_account}
use Rattle.sdr_model.specs.Gone.{gone_things, gone_with, is_last_use, is_passing, names_source, source_blocks, without_things}
use Rattle.sdr_model.specs.ObjectSteps.{with_object}
use Rattle.sdr_model.specs.Steps.{without_thing}
use Rattle.sdr_model.specs.Things.{Things}
use Rattle.sdr_model.specs.Valid.{FitTogether, HasBytes, HasSubject}
use Rattle.sdr_model.specs.World.{World, as_raw, thing_at}
use Rattle.sdr_model.specs.Zco.{as_object, as_source, naming, object_at, owned_raw, source_at, taken_over, uses_in, uses_of}
use Rattle.sdr_model.specs.declared.things.Thing.{Thing}
use Rattle.sdr_model.specs.declared.things.Thing.TheVariants as things
use Rattle.sdr_model.specs.declared.zco.Extent.{Extent}
use Rattle.sdr_model.specs.declared.zco.Subject.{Subject}
use Rattle.sdr_model.specs.declared.zco.Subject.TheVariants as subjects
use Rattle.sdr_model.specs.declared.zco.ZcoObject.{ZcoObject}
use Rattle.sdr_model.specs.declared.zco.ZcoSource.{ZcoSource}

-- one or none, and others
one_more : (b names : Bool) (n : ℕ) → not names ≡ (n == 0) → not (b || names) ≡ ((if b then 1 else 0) + n == 0)
one_more true names n is = grind (arith, nat_tests)
one_more false names n is = is ∙ ap (λ m. m == 0) (let same : n ≡ 0 + n = omega arith in same)

-- none of the extents names a source where none is counted
pub none_names : (source : ℕ) (extents : List Extent) → not (names_source source extents) ≡ (naming source extents == 0)
none_names source [] = refl
none_names source (e ∷ es) =
    one_more (e.source == source) (names_source source es) (naming source es) (none_names source es)
    ∙ ap (λ n. n == 0) (sym (sum_by-cons (λ (e : Extent). if e.source == source then 1 else 0) e es))

-- where so many of all were counted, they are all where they are as many as all uses
last : (a b u n : ℕ) → n ≡ a + b → n ≤ u → (a == u) ≡ ((u == n) && (b == 0))
last a b u n is le = grind (arith, nat_tests)

-- an extent is the last use of its source where as many extents up to it name the source as all in the world
pub is_last_use-counted : (w : World) (all : List Extent) (i : ℕ) (e : Extent) → naming e.source all ≤ uses_of w e.source
    → (naming e.source (take (i + 1) all) == uses_of w e.source) ≡ is_last_use w all (drop (i + 1) all) e
is_last_use-counted w all i e used =
    let names = λ (x : Extent). if x.source == e.source then 1 else 0 in
    last (naming e.source (take (i + 1) all)) (naming e.source (drop (i + 1) all)) (uses_of w e.source)
    (naming e.source all) (sym (sum_by-take-drop names all (i + 1))) used
    ∙ ap (λ b. (uses_of w e.source == naming e.source all) && b) (sym (none_names e.source (drop (i + 1) all)))

-- what goes with the extents from a place on: what goes with the first of them, and with the others
pub gone_things-step : (w : World) (all : List Extent) (i : ℕ) (d : Extent) → i < length all
    → naming (get_or all i d).source all ≤ uses_of w (get_or all i d).source
    → gone_things w all (drop i all)
    ≡ (if naming (get_or all i d).source (take (i + 1) all) == uses_of w (get_or all i d).source
    then source_blocks (get_or all i d).source (source_at w (get_or all i d).source) else [])
    ++ gone_things w all (drop (i + 1) all)
gone_things-step w all i d inside used =
    let e = get_or all i d in
    at_drop_more (gone_things w all) all i d inside
    ∙ ap (λ b. (if b then source_blocks e.source (source_at w e.source) else []) ++ gone_things w all (drop (i + 1) all))
    (sym (is_last_use-counted w all i e used))

-- at most all extents name a source
pub naming-few : (source : ℕ) (extents : List Extent) → naming source extents ≤ length extents
naming-few source extents = count_by-le-length (λ (e : Extent). e.source == source) extents

-- one more extent that names a source
pub naming-more : (source : ℕ) (extents : List Extent) (i : ℕ) (d : Extent) → i < length extents
    → (get_or extents i d).source ≡ source → naming source (take i extents) + 1 ≡ naming source (take (i + 1) extents)
naming-more source extents i d inside is =
    ap (λ b. naming source (take i extents) + (if b then 1 else 0)) (sym (eq-eqb (get_or extents i d).source source is))
    ∙ sym (sum_by_more (λ (e : Extent). if e.source == source then 1 else 0) extents i d inside)

-- all uses of a source are at least those in one object
pub naming-used : (w : World) (addr : ℕ) (z : ZcoObject) → object_at w addr ≡ Some z → (source : ℕ)
    → naming source z.extents ≤ uses_of w source
naming-used w addr z is source =
    omega (
      arith,
      sum_by-removed (λ e. uses_in source accts.Inbound e.1) w.things addr,
      sum_by-removed (λ e. uses_in source accts.Outbound e.1) w.things addr,
      ap (counted_at (λ e. uses_in source accts.Inbound e.1) addr) (object_is (thing_at w addr) z is),
      ap (counted_at (λ e. uses_in source accts.Outbound e.1) addr) (object_is (thing_at w addr) z is),
      both z.account (naming source z.extents),
    )
  where
    both : (a : Acct) (n : ℕ) → cond (is_same_account accts.Inbound a) n 0 + cond (is_same_account accts.Outbound a) n 0 ≡ n
    both accts.Inbound n = omega arith
    both accts.Outbound n = omega arith

-- things go in two parts
pub without_things-append : (w : World) (front back : List ℕ)
    → without_things w (front ++ back) ≡ without_things (without_things w front) back
without_things-append w [] back = refl
without_things-append w (a ∷ front) back = without_things-append (without_thing w a) front back

-- a thing is put before another goes, or after it
remove-inserted : (m : Things) (a k : ℕ) (t : Thing) → is_at (nat_cmp a) k ≡ false
    → remove (insert m k t) a ≡ insert (remove m a) k t
remove-inserted m a k t away = same_things _ _ (λ q.
    get-with_at (insert m k t) a None q
    ∙ ap (cond (is_at (nat_cmp q) a) None) (get-with_at m k (Some t) q)
    ∙ at q (is_at (nat_cmp q) a) (is_at (nat_cmp q) k) refl refl
    ∙ sym (get-with_at (remove m a) k (Some t) q
    ∙ ap (cond (is_at (nat_cmp q) k) (Some t)) (get-with_at m a None q)))
  where
    at : (q : ℕ) (b c : Bool) → is_at (nat_cmp q) a ≡ b → is_at (nat_cmp q) k ≡ c
        → cond b None (cond c (Some t) (get m q)) ≡ cond c (Some t) (cond b None (get m q))
    at q false c x z = refl
    at q true false x z = refl
    at q true true x z = absurd (true≢false (sym z ∙ ap (λ n. is_at (nat_cmp n) k) (same_address q a x) ∙ away))

-- a source isn't an object
source_no_object : (t : Option Thing) (s : ZcoSource) → as_source t ≡ Some s → as_object t ≡ None
source_no_object None s is = refl
source_no_object (Some (things.Object z)) s is = let some : None ≡ Some s = is in absurd cc
source_no_object (Some thing) s is = refl

-- nor is a raw object
raw_no_object : (t : Option Thing) (bytes : ℕ) → HasBytes bytes (as_raw t) → as_object t ≡ None
raw_no_object None bytes has = refl
raw_no_object (Some (things.Object z)) bytes has = absurd has
raw_no_object (Some thing) bytes has = refl

module _ (w : World) (fits : FitTogether w) where
  abbrev NoObject : ℕ → Type 0
  NoObject addr = object_at w addr ≡ None

  raws_no_object : (bytes : ℕ) (subject : Subject) → HasSubject w bytes subject
      → All NoObject (option_to_list (taken_over subject))
  raws_no_object bytes (subjects.Heap raw) has =
      All-cons NoObject raw [] (raw_no_object (thing_at w raw) bytes has) (All-nil NoObject)
  raws_no_object bytes (subjects.File path) has = All-nil NoObject
  raws_no_object bytes (subjects.Bulk item) has = All-nil NoObject
  raws_no_object bytes (subjects.Obj raw) has = All-nil NoObject

  blocks_no_object : (addr : ℕ) (o : Option ZcoSource) → source_at w addr ≡ o
      → IfSome o (λ s. HasSubject w s.length s.subject) → All NoObject (source_blocks addr o)
  blocks_no_object addr None is has = All-nil NoObject
  blocks_no_object addr (Some s) is has = by (is_passing s)
    where
      by : (b : Bool) → All NoObject (cond b (option_to_list (owned_raw s) ++ addr ∷ []) [])
      by false = All-nil NoObject
      by true =
          All-append NoObject (option_to_list (owned_raw s)) (addr ∷ []) (raws_no_object s.length s.subject has)
          (All-cons NoObject addr [] (source_no_object (thing_at w addr) s is) (All-nil NoObject))

  -- what goes with extents is no object
  gone_no_object : (all es : List Extent) → All NoObject (gone_things w all es)
  gone_no_object all [] = All-nil NoObject
  gone_no_object all (e ∷ es) =
      All-append NoObject (gone_with w all es e) (gone_things w all es) (by (is_last_use w all es e)) (gone_no_object all es)
    where
      by : (b : Bool) → All NoObject (cond b (source_blocks e.source (source_at w e.source)) [])
      by false = All-nil NoObject
      by true = blocks_no_object e.source (source_at w e.source) refl (fits.subjects e.source)

  -- so an object is put in the place of another before it goes, or after it
  pub gone_things-with : (k : ℕ) (z y : ZcoObject) (all : List Extent) → object_at w k ≡ Some z
      → without_things (with_object w k y) (gone_things w all all) ≡ with_object (without_things w (gone_things w all all)) k y
  gone_things-with k z y all there = swap_all w (gone_things w all all)
      (All-weaker NoObject (λ a. is_at (nat_cmp a) k ≡ false) (λ a none. apart a none (is_at (nat_cmp a) k) refl)
      (gone_things w all all) (gone_no_object all all))
    where
      apart : (a : ℕ) → NoObject a → (b : Bool) → is_at (nat_cmp a) k ≡ b → is_at (nat_cmp a) k ≡ false
      apart a none false is = is
      apart a none true is = let some : Some z ≡ None = sym there ∙ ap (object_at w) (sym (same_address a k is)) ∙ none in absurd cc

      swap_all : (v : World) (addrs : List ℕ) → All (λ a. is_at (nat_cmp a) k ≡ false) addrs
          → without_things (with_object v k y) addrs ≡ with_object (without_things v addrs) k y
      swap_all v [] apart = refl
      swap_all v (a ∷ addrs) apart =
          ap (λ m. without_things (record v { things = m }) addrs)
          (remove-inserted v.things a k (things.Object y) (All-head (λ a. is_at (nat_cmp a) k ≡ false) a addrs apart))
          ∙ swap_all (without_thing v a) addrs (All-tail (λ a. is_at (nat_cmp a) k ≡ false) a addrs apart)
