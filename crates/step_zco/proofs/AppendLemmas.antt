-- An object that gets an extent more, as the world and the blocks have it, and what may stand beside it.
use Rattle.std.proofs.Common.{◌≡◌, ◌≢◌, ◌∙◌, ◌+◌, ◌≤◌, ◌<◌, ◌==◌, ◌||◌, ◌⊎◌, ◌++◌, ℕ, List, [], ◌∷◌, Bool, true, false, cond, inl, inr, map, nat_lt, Some, None, refl, sym, ap, arith, eq-eqb, if◌then◌else◌, MatchOption}
use Rattle.std.proofs.lemmas.Bool.{ne_eqb}
use Rattle.std.proofs.lemmas.Bool.Decides.{nat_tests}
use Rattle.std.proofs.lemmas.List.{map-append}
use Rattle.std.proofs.lemmas.List.Elements.{All-cons, All-nil, Contains-append_cases, Contains-push_cases}
use Rattle.std.proofs.lemmas.List.Sums.{sum_by-append, sum_by-cons}
use Rattle.std.specs.FinMap as finite
use Rattle.std.specs.List.{sum_by}
use Rattle.std.specs.Prelude.{Contains}
use Rattle.step_things.proofs.KindLemmas.{none_of}
use Rattle.step_things.proofs.RowLemmas.{HasMoves}
use Rattle.sdr_stands.proofs.TiesLemmas.{same_first}
use Rattle.sdr_stands.specs.Rows.{extent_row, medium_of, object_row, source_row}
use Rattle.sdr_stands.specs.Standing.{HeapStandsFor, thing_entries}
use Rattle.sdr_stands.specs.Ties.{Ties, names_raw_at}
use Rattle.sdr_base.proofs.StandingLemmas.{times-append}
use Rattle.sdr_base.specs.Blocks.{Blocks}
use Rattle.sdr_base.specs.Entries.{Entries, BlocksAre, times}
use Rattle.sdr_base.specs.Linked.{linked}
use Rattle.sdr_base.specs.Objects.{Heap}
use Rattle.sdr_base.specs.Raws.{raw_entries}
use Rattle.sdr_base.specs.Section.{section}
use Rattle.sdr_base.specs.Sources.{source_entries}
use Rattle.sdr_base.specs.ZcoObjects.{ExtentRow, ObjectRow, capsule_entries, extent_addr, extent_block, extent_entries, object_entries}
use Rattle.sdr_base.specs.declared.account.Acct.{Acct}
use Rattle.sdr_base.specs.declared.account.Acct.TheVariants as accts
use Rattle.sdr_base.specs.declared.kind.Space.TheVariants as spaces
use Rattle.sdr_base.specs.declared.moves.Move.TheVariants.{Took}
use Rattle.law_steps.proofs.SourceViews.{apart_at, by_addr, here_at, sum_by-with_at}
use Rattle.sdr_model.proofs.SumLemmas.{counted_at, sum_by-map}
use Rattle.sdr_model.proofs.ThingsLemmas.{same_things}
use Rattle.sdr_model.specs.Accounts.{is_same_account}
use Rattle.sdr_model.specs.Amounts.{amounts_by, in_space}
use Rattle.sdr_model.specs.Blocks.{addresses_of, blocks_of}
use Rattle.sdr_model.specs.Charges.{bytes_charge, extent_bytes, use_charge}
use Rattle.sdr_model.specs.Fields.{IsWord}
use Rattle.sdr_model.specs.ObjectSteps as object
use Rattle.sdr_model.specs.ObjectSteps.{with_object}
use Rattle.sdr_model.specs.Steps.{On, Outcome}
use Rattle.sdr_model.specs.Things.{Things}
use Rattle.sdr_model.specs.Valid.{IsValid}
use Rattle.sdr_model.specs.World.{World, as_raw, thing_at}
use Rattle.sdr_model.specs.Zco.{count_of, extents_length, naming, source_at, source_naming, space_of, uses_in}
use Rattle.sdr_model.specs.declared.things.Thing.{Thing}
use Rattle.sdr_model.specs.declared.things.Thing.TheVariants as things
use Rattle.sdr_model.specs.declared.zco.Extent.{Extent}
use Rattle.sdr_model.specs.declared.zco.Subject.{Subject}
use Rattle.sdr_model.specs.declared.zco.Subject.TheVariants as subjects
use Rattle.sdr_model.specs.declared.zco.ZcoObject.{ZcoObject}
use Rattle.sdr_model.specs.declared.zco.ZcoSource.{ZcoSource}
use Rattle.step_zco.proofs.AlikeLemmas.{StandAlike, alike_behind, alike_then, one_first}
use Rattle.zco_obj.specs.Amounts.{extent_amounts, heap_amounts, medium_space, use_amounts}
use Rattle.zco_obj.specs.Charging.{IsFree}
use Rattle.zco_obj.specs.Extents.{grown, with_extent}
use Rattle.zco_ref.specs.Counting.{attached}
use Rattle.zco_ref.specs.Kept.{CountedSource, counted_entries}
use Rattle.step_zco.proofs.SourceLemmas.{counted_in, counts_told}

-- two things of a map may stand in front of the others
pub two_first : (f : ℕ → Thing → Entries) (m : Things) (a c : ℕ) (x y : Thing) → c ≢ a → finite.get m a ≡ Some x →
    finite.get m c ≡ Some y →
    StandAlike (section f m) (f a x ++ (f c y ++ section f (finite.remove (finite.remove m a) c)))
two_first f m a c x y apart here there =
    alike_then (one_first f m a x here)
    (alike_behind (f a x) (one_first f (finite.remove m a) c y (apart_at m a None c apart ∙ there)))

-- without what is at an address, things are those that they were before it was put there
pub lost_again : (m : Things) (addr : ℕ) (thing : Thing) → finite.remove (finite.insert m addr thing) addr ≡ finite.remove m addr
lost_again m addr thing =
    same_things (finite.remove (finite.insert m addr thing) addr) (finite.remove m addr) (λ q.
    by_addr q addr
    (λ here. ap (finite.get (finite.remove (finite.insert m addr thing) addr)) here
    ∙ here_at (finite.insert m addr thing) addr None ∙ sym (here_at m addr None)
    ∙ sym (ap (finite.get (finite.remove m addr)) here))
    (λ apart. apart_at (finite.insert m addr thing) addr None q apart ∙ apart_at m addr (Some thing) q apart
    ∙ sym (apart_at m addr None q apart)))

-- what comes where nothing was, and goes, leaves them without what else goes
module _ (m : Things) (new addr : ℕ) (thing : Thing) (apart : new ≢ addr) (none : finite.get m new ≡ None) where
  abbrev put : Things
  put = finite.insert m new thing

  abbrev left : Things
  left = finite.remove put addr

  same_apart : (q : ℕ) → q ≢ new → finite.get left q ≡ finite.get (finite.remove m addr) q
  same_apart q other =
      by_addr q addr
      (λ here. ap (finite.get left) here ∙ here_at put addr None
      ∙ sym (ap (finite.get (finite.remove m addr)) here ∙ here_at m addr None))
      (λ off. apart_at put addr None q off ∙ apart_at m new (Some thing) q other ∙ sym (apart_at m addr None q off))

  pub put_and_lost : finite.remove (finite.remove (finite.insert m new thing) addr) new ≡ finite.remove m addr
  put_and_lost =
      same_things (finite.remove left new) (finite.remove m addr) (λ q.
      by_addr q new
      (λ here. ap (finite.get (finite.remove left new)) here ∙ here_at left new None
      ∙ sym (ap (finite.get (finite.remove m addr)) here ∙ apart_at m addr None new apart ∙ none))
      (λ other. apart_at left new None q other ∙ same_apart q other))

-- a thing is written alike where what names it, and how often it is named, is the same
pub written_alike : (t u : Ties) (q : ℕ) (thing : Thing) → t.named_by q ≡ u.named_by q →
    ((acct : Acct) → t.counts q acct ≡ u.counts q acct) → thing_entries t q thing ≡ thing_entries u q thing
written_alike t u q (things.Raw bytes) named counts = ap (λ (n : ℕ). raw_entries q n bytes) named
written_alike t u q (things.Source s) named counts =
    λ i. source_entries q (counts accts.Inbound i) (counts accts.Outbound i) (source_row s)
written_alike t u q thing named counts = refl

-- what an append goes on with where the object is there
abbrev pub AppendsNamed : World → Outcome → ℕ → ℕ → ℕ → ℕ → ℕ → ZcoObject → Type 0
AppendsNamed w o addr number named offset bytes z =
    MatchOption (source_at w named)
    (On w o named (as_raw (thing_at w named)) (λ text. object.AppendsRaw w o addr z number named text offset bytes))
    (λ s. object.AppendsSource w o addr z number named s offset bytes)

-- the bytes of a source are in one space by its block and in the world
pub same_space : (subject : Subject) → medium_space (medium_of subject) ≡ space_of subject
same_space (subjects.File path) = refl
same_space (subjects.Bulk item) = refl
same_space (subjects.Heap raw) = refl
same_space (subjects.Obj raw) = refl

-- an extent more that names a source charges by the source's block what it does by the world
pub use_told : (w : World) (addr : ℕ) (s : ZcoSource) (acct : Acct) →
    use_amounts acct (counted_in w addr s) ≡ amounts_by (use_charge w acct addr s)
use_told w addr s acct =
    (λ i. if (counts_told w addr s acct i == 0) then extent_amounts (same_space s.subject i) s.length else heap_amounts extent_bytes)
    ∙ by (count_of w addr acct == 0)
  where
    by : (b : Bool) →
        (if b then extent_amounts (space_of s.subject) s.length else heap_amounts extent_bytes)
        ≡ amounts_by (λ space. if b then bytes_charge (space_of s.subject) s.length space else in_space spaces.Heap extent_bytes space)
    by true = refl
    by false = refl

-- a range that lies within so many bytes, and one that doesn't
pub in_range : (offset bytes have : ℕ) → 1 ≤ bytes → offset + bytes ≤ have →
    (bytes == 0 || nat_lt have (offset + bytes)) ≡ false
in_range offset bytes have some within = grind (arith, nat_tests)

pub out_of_range : (offset bytes have : ℕ) → (bytes ≡ 0) ⊎ (have < offset + bytes) →
    (bytes == 0 || nat_lt have (offset + bytes)) ≡ true
out_of_range offset bytes have (inl none) = grind (arith, nat_tests)
out_of_range offset bytes have (inr long) = grind (arith, nat_tests)

-- the row of an object with an extent more has one more
module _ (z : ZcoObject) (e : Extent) where
  abbrev at_end : ℕ → Bool
  at_end sum = z.part.offset + z.part.length == sum

  same_offset : (b : Bool) → (if b then record z.part { length = z.part.length + e.length } else z.part).offset ≡ z.part.offset
  same_offset true = refl
  same_offset false = refl

  same_length : (b : Bool) → (if b then record z.part { length = z.part.length + e.length } else z.part).length
      ≡ (if b then z.part.length + e.length else z.part.length)
  same_length true = refl
  same_length false = refl

  pub longer_row : object_row (object.with_extent z e) ≡ with_extent (object_row z) (extent_row e)
  longer_row =
      let sum : sum_by (λ (r : ExtentRow). r.length) (map extent_row z.extents) ≡ extents_length z.extents =
      sum_by-map (λ (r : ExtentRow). r.length) extent_row z.extents in
      let offset = same_offset (at_end (extents_length z.extents)) in
      let part : (object.grown_part z e.length).length ≡ grown (object_row z) e.length =
      same_length (at_end (extents_length z.extents))
      ∙ ap (λ (n : ℕ). if at_end n then z.part.length + e.length else z.part.length) (sym sum) in
      let extents = map-append extent_row z.extents (e ∷ []) in
      λ i. record (object_row z) { extents = extents i; part_offset = offset i; part_length = part i }

-- how many extents name a source, where an object gets an extent more
module _ (w : World) (addr : ℕ) (z : ZcoObject) (e : Extent) (there : thing_at w addr ≡ Some (things.Object z)) where
  abbrev pub longer : World
  longer = with_object w addr (object.with_extent z e)

  -- one more where the extent names it, for the account of the object
  pub one_more : (source : ℕ) (acct : Acct) →
      count_of longer source acct
      ≡ count_of w source acct + cond (is_same_account acct z.account) (cond (e.source == source) 1 0) 0
  one_more source acct =
      let uses = λ (x : ℕ × Thing). uses_in source acct x.1 in
      let sums = sum_by-with_at uses w.things addr (Some (things.Object (object.with_extent z e))) in
      let was = ap (counted_at uses addr) there in
      let now = more (is_same_account acct z.account) in omega (arith, sums, was, now)
    where
      more : (b : Bool) → cond b (naming source (z.extents ++ e ∷ [])) 0
          ≡ cond b (naming source z.extents) 0 + cond b (cond (e.source == source) 1 0) 0
      more true =
          let all = sum_by-append (λ (x : Extent). if x.source == source then 1 else 0) z.extents (e ∷ []) in
          let last = sum_by-cons (λ (x : Extent). if x.source == source then 1 else 0) e [] in omega (arith, all, last)
      more false = refl

  -- so it is for the source that it names
  pub counted_once : (s : ZcoSource) → counted_in longer e.source s ≡ attached z.account (counted_in w e.source s)
  counted_once s =
      by z.account (λ acct. one_more e.source acct
      ∙ ap (λ (b : Bool). count_of w e.source acct + cond (is_same_account acct z.account) (cond b 1 0) 0)
      (eq-eqb e.source e.source refl))
    where
      by : (a : Acct) →
          ((acct : Acct) → count_of longer e.source acct ≡ count_of w e.source acct + cond (is_same_account acct a) 1 0) →
          counted_in longer e.source s ≡ attached a (counted_in w e.source s)
      by accts.Inbound counts =
          let other : count_of longer e.source accts.Outbound ≡ count_of w e.source accts.Outbound =
          omega (arith, counts accts.Outbound) in
          λ i. record { inbound = counts accts.Inbound i; outbound = other i; row = source_row s }
      by accts.Outbound counts =
          let other : count_of longer e.source accts.Inbound ≡ count_of w e.source accts.Inbound =
          omega (arith, counts accts.Inbound) in
          λ i. record { inbound = other i; outbound = counts accts.Outbound i; row = source_row s }

  -- and others are named as often as before
  pub others_counted : (source : ℕ) (acct : Acct) → e.source ≢ source → count_of longer source acct ≡ count_of w source acct
  others_counted source acct apart =
      let more = one_more source acct
      ∙ ap (λ (b : Bool). count_of w source acct + cond (is_same_account acct z.account) (cond b 1 0) 0)
      (ne_eqb e.source source apart) in
      let none = nothing (is_same_account acct z.account) in omega (arith, more, none)
    where
      nothing : (b : Bool) → ◌≡◌ {A = ℕ} (cond b (cond false 1 0) 0) 0
      nothing true = refl
      nothing false = refl

  -- no raw object is named otherwise
  pub same_source_on : (raw : ℕ) → source_naming longer raw ≡ source_naming w raw
  same_source_on raw =
      same_first raw w.things addr (Some (things.Object (object.with_extent z e))) (ap (names_raw_at raw) there)

-- an extent that is last among these is listed there
last_listed : (prev : ℕ) (rows : List ExtentRow) (e : ExtentRow) →
    1 ≤ times e.addr (linked extent_addr extent_block prev 0 (rows ++ e ∷ []))
unfolding times linked
last_listed prev [] e = let here = ap {B = ℕ} (λ (b : Bool). cond b 1 0) (eq-eqb e.addr e.addr refl) in omega (arith, here)
last_listed prev (row ∷ rows) e = let ih = last_listed row.addr rows e in omega (arith, ih)

-- the last extent of an object and a source beside it are at two addresses
pub last_apart : {b : Blocks} (addr : ℕ) (row : ObjectRow) (e : ExtentRow) (at : ℕ) (source : CountedSource) (rest : Entries) →
    BlocksAre b (object_entries addr (with_extent row e) ++ (counted_entries at source ++ rest)) → e.addr ≢ at
unfolding times
last_apart addr row e at source rest s same =
    let headers = capsule_entries row.headers in
    let extents = extent_entries (row.extents ++ e ∷ []) in
    let trailers = capsule_entries row.trailers in
    let once = s.once e.addr in
    let all = times-append e.addr (object_entries addr (with_extent row e)) (counted_entries at source ++ rest) in
    let outer = times-append e.addr (headers ++ extents) trailers in
    let inner = times-append e.addr headers extents in
    let last = last_listed 0 row.extents e in
    let here = ap {B = ℕ} (λ (b : Bool). cond b 1 0) (eq-eqb at e.addr (sym same)) in
    omega (arith, once, all, outer, inner, last, here)

-- two blocks were taken where none was
pub took_two : (w : World) (first second a c : ℕ) (old new : Heap) → HeapStandsFor old w → IsValid w → IsFree old.blocks a →
    IsFree old.blocks c → c ≢ a → new.moves ≡ Took first a ∷ Took second c ∷ [] →
    HasMoves w (Took first a ∷ Took second c ∷ []) new
took_two w first second a c old new s valid one two apart is = record {
  is = is;
  fresh = (
    one.nonzero,
    none_of old w a s valid one.free,
    (two.nonzero, λ listed. by (Contains-append_cases (a ∷ []) (addresses_of (blocks_of w)) c listed), tt),
  );
  words = All-cons IsWord a (c ∷ []) (let small = one.small in omega (arith, small))
      (All-cons IsWord c [] (let small = two.small in omega (arith, small)) (All-nil IsWord));
}
  where
    by : Contains (a ∷ []) c ⊎ Contains (addresses_of (blocks_of w)) c → ⊥
    by (inl listed) = at_one (Contains-push_cases [] a c listed)
      where
        at_one : Contains [] c ⊎ (a ≡ c) → ⊥
        at_one (inl none) = let below = none.1 in omega (arith, below)
        at_one (inr same) = apart (sym same)
    by (inr listed) = none_of old w c s valid two.free listed
