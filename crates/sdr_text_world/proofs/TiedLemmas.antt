-- What is told of things, one after another.
use Rattle.std.proofs.Common.{◌≡◌, ◌<◌, ◌+◌, ◌^◌, ◌++◌, ◌∷◌, [], ◌∙◌, ℕ, Bool, List, Option, None, Some, Result, Ok, Err, OnOk, ap, arith, cond, false, refl, sym, true, append_assoc, eq-eqb, is_some}
use Rattle.std.specs.BTreeMap.{BTreeMap, get, is_at}
use Rattle.std.specs.Option.{option_map, option_or}
use Rattle.std.specs.Ordering.{nat_cmp}
use Rattle.std.specs.Prelude.{find}
use Rattle.std.proofs.Math.Dec.{eqb}
use Rattle.std.proofs.lemmas.Bool.{both_ways, eqb-true, false≢true, ne_eqb, true≢false}
use Rattle.std.proofs.lemmas.List.Sums.{sum_by-append, sum_by-cons}
use Rattle.std.proofs.lemmas.Option.{none-some, same_Some}
use Rattle.sdr_base.specs.declared.account.Acct.{Acct}
use Rattle.sdr_base.specs.declared.account.Acct.TheVariants as accts
use Rattle.sdr_model.proofs.ThingsLemmas.{at_itself, same_address}
use Rattle.sdr_model.specs.Accounts.{is_same_account}
use Rattle.sdr_model.specs.Zco.{is_of_raw, names_raw, naming, raw_of, uses_in}
use Rattle.sdr_model.specs.declared.things.Thing.{Thing}
use Rattle.sdr_model.specs.declared.things.Thing.TheVariants as kinds
use Rattle.sdr_model.specs.declared.zco.Extent.{Extent}
use Rattle.sdr_model.specs.declared.zco.Subject.{Subject}
use Rattle.sdr_model.specs.declared.zco.Subject.TheVariants as subjects
use Rattle.sdr_model.specs.declared.zco.ZcoObject.{ZcoObject}
use Rattle.sdr_model.specs.declared.zco.ZcoSource.{ZcoSource}
use Rattle.sdr_text_world.specs.Tied.{TellsOf, counted_at, counted_by, first_source, uses_among}
use Rattle.sdr_text_world.specs.declared.tied.Tied.{Tied}

-- the address of a thing, where it is a source of the raw object
abbrev pub source_of : ℕ → ℕ × Thing → Option ℕ
source_of raw entry = cond (names_raw raw entry.1) (Some entry.0) None

one_source : (raw : ℕ) (entry : ℕ × Thing) → first_source raw (entry ∷ []) ≡ source_of raw entry
one_source raw entry = by_name (names_raw raw entry.1)
  where
    by_name : (b : Bool) → option_map (λ (e : ℕ × Thing). e.0) (cond b (Some entry) None) ≡ cond b (Some entry.0) None
    by_name true = refl
    by_name false = refl

-- what is found first among more things, where one stands in front
first_behind : (b : Bool) (x : ℕ × Thing) (more fewer : Option (ℕ × Thing)) (last : Option ℕ) →
    option_map (λ e. e.0) more ≡ option_or (option_map (λ e. e.0) fewer) last →
    option_map (λ e. e.0) (cond b (Some x) more) ≡ option_or (option_map (λ e. e.0) (cond b (Some x) fewer)) last
first_behind true x more fewer last same = refl
first_behind false x more fewer last same = same

first_then : (raw : ℕ) (things : List (ℕ × Thing)) (entry : ℕ × Thing) →
    first_source raw (things ++ (entry ∷ [])) ≡ option_or (first_source raw things) (source_of raw entry)
first_then raw [] entry = one_source raw entry
first_then raw (x ∷ things) entry =
    first_behind (names_raw raw x.1) x (find (λ e. names_raw raw e.1) (things ++ (entry ∷ []))) (find (λ e. names_raw raw e.1) things)
    (source_of raw entry) (first_then raw things entry)

uses_then : (source : ℕ) (acct : Acct) (things : List (ℕ × Thing)) (entry : ℕ × Thing) →
    uses_among source acct (things ++ (entry ∷ [])) ≡ uses_among source acct things + uses_in source acct entry.1
uses_then source acct things entry = omega (arith, sum_by-append (λ (e : ℕ × Thing). uses_in source acct e.1) things (entry ∷ []))

-- what is told of things, and of one more
pub told_then : (things : List (ℕ × Thing)) (entry : ℕ × Thing) (old new : Tied) → TellsOf things old →
    ((raw : ℕ) → get nat_cmp new.raws raw ≡ option_or (get nat_cmp old.raws raw) (source_of raw entry)) →
    ((acct : Acct) (source : ℕ) → counted_by new acct source ≡ counted_by old acct source + uses_in source acct entry.1) →
    TellsOf (things ++ (entry ∷ [])) new
told_then things entry old new told raws uses = record {
  raws = λ raw.
      raws raw ∙ ap (λ (o : Option ℕ). option_or o (source_of raw entry)) (told.raws raw) ∙ sym (first_then raw things entry);
  uses = λ acct source.
      let a = uses acct source in
      let b = told.uses acct source in
      let c = uses_then source acct things entry in
      omega (arith, a, b, c);
}

-- this is told of all these things but the last ones
pub record ToldUpTo (things : List (ℕ × Thing)) (tied : Tied) (rest : List (ℕ × Thing)) : Type 0 where
  pub done : List (ℕ × Thing)
  pub told : TellsOf done tied
  pub whole : things ≡ done ++ rest

-- of one more
pub told_more : {things : List (ℕ × Thing)} {old new : Tied} {entry : ℕ × Thing} {rest : List (ℕ × Thing)} →
    ToldUpTo things old (entry ∷ rest) →
    ((done : List (ℕ × Thing)) → TellsOf done old → TellsOf (done ++ (entry ∷ [])) new) → ToldUpTo things new rest
told_more {entry = entry} {rest = rest} t more = record {
  done = t.done ++ (entry ∷ []);
  told = more t.done t.told;
  whole = t.whole ∙ sym (append_assoc t.done (entry ∷ []) rest);
}

uses_parts : (source : ℕ) (acct : Acct) (done : List (ℕ × Thing)) (entry : ℕ × Thing) (rest : List (ℕ × Thing)) →
    uses_among source acct (done ++ (entry ∷ rest))
    ≡ uses_among source acct done + uses_in source acct entry.1 + uses_among source acct rest
uses_parts source acct done entry rest =
    let all = sum_by-append (λ (e : ℕ × Thing). uses_in source acct e.1) done (entry ∷ rest) in
    let first = sum_by-cons (λ (e : ℕ × Thing). uses_in source acct e.1) entry rest in
    omega (arith, all, first)

-- what is counted before a thing, and of it, is at most what is counted of all
pub few_here : {things : List (ℕ × Thing)} {tied : Tied} {entry : ℕ × Thing} {rest : List (ℕ × Thing)} →
    ToldUpTo things tied (entry ∷ rest) →
    ((source : ℕ) (acct : Acct) → uses_among source acct things < 2 ^ 63) → (acct : Acct) (source : ℕ) →
    counted_by tied acct source + uses_in source acct entry.1 < 2 ^ 63
few_here {entry = entry} {rest = rest} t few acct source =
    let a = t.told.uses acct source in
    let b = uses_parts source acct t.done entry rest in
    let c = ap (uses_among source acct) t.whole in
    let d = few source acct in
    omega (arith, a, b, c, d)

-- whether a subject is a raw object, where it is that of some source
is_of_raw-some : (subject : Subject) (raw q : ℕ) → raw_of subject ≡ Some raw → is_of_raw q subject ≡ eqb raw q
is_of_raw-some (subjects.File path) raw q is = absurd (none-some raw is)
is_of_raw-some (subjects.Bulk item) raw q is = absurd (none-some raw is)
is_of_raw-some (subjects.Heap addr) raw q is = ap (λ (a : ℕ). eqb a q) (same_Some addr raw is)
is_of_raw-some (subjects.Obj addr) raw q is = ap (λ (a : ℕ). eqb a q) (same_Some addr raw is)

-- and where it is none
is_of_raw-none : (subject : Subject) (q : ℕ) → raw_of subject ≡ None → is_of_raw q subject ≡ false
is_of_raw-none (subjects.File path) q is = refl
is_of_raw-none (subjects.Bulk item) q is = refl
is_of_raw-none (subjects.Heap addr) q is = absurd (none-some addr (sym is))
is_of_raw-none (subjects.Obj addr) q is = absurd (none-some addr (sym is))

option_or-none : (o : Option ℕ) → option_or o None ≡ o
option_or-none None = refl
option_or-none (Some x) = refl

option_or-some : (o p : Option ℕ) → is_some o ≡ true → o ≡ option_or o p
option_or-some None p some = absurd (false≢true some)
option_or-some (Some x) p some = refl

-- what is told of a raw object stays where a thing doesn't name it
not_named : (o : Option ℕ) (addr : ℕ) (b : Bool) → b ≡ false → o ≡ option_or o (cond b (Some addr) None)
not_named o addr b is = sym (ap (λ (b : Bool). option_or o (cond b (Some addr) None)) is ∙ option_or-none o)

none_from : (o : Option ℕ) → is_some o ≡ false → o ≡ None
none_from None none = refl
none_from (Some x) none = absurd (true≢false none)

-- nothing is counted of a thing that is no object
uncounted : (acct : Acct) (source : ℕ) (tied : Tied) (raws : BTreeMap ℕ ℕ) →
    counted_by (record tied { raws = raws }) acct source ≡ counted_by tied acct source + 0
uncounted accts.Inbound source tied raws = omega arith
uncounted accts.Outbound source tied raws = omega arith

module _ (things : List (ℕ × Thing)) (addr : ℕ) (source : ZcoSource) (tied : Tied) (told : TellsOf things tied) where
  -- of a source of a raw object that no earlier source names
  pub told_first : (raw : ℕ) (raws : BTreeMap ℕ ℕ) → raw_of source.subject ≡ Some raw → is_some (get nat_cmp tied.raws raw) ≡ false →
      ((q : ℕ) → get nat_cmp raws q ≡ cond (is_at (nat_cmp raw) q) (Some addr) (get nat_cmp tied.raws q)) →
      TellsOf (things ++ ((addr, kinds.Source source) ∷ [])) (record tied { raws = raws })
  told_first raw raws is none put =
      told_then things (addr, kinds.Source source) tied (record tied { raws = raws }) told (λ q. put q ∙ at q (is_at (nat_cmp raw) q) refl)
      (λ acct s. uncounted acct s tied raws)
    where
      at : (q : ℕ) (b : Bool) → is_at (nat_cmp raw) q ≡ b →
          cond b (Some addr) (get nat_cmp tied.raws q) ≡ option_or (get nat_cmp tied.raws q) (source_of q (addr, kinds.Source source))
      at q true here =
          let e = same_address raw q here in
          let found = is_of_raw-some source.subject raw q is ∙ eq-eqb raw q e in
          sym (ap (λ (b : Bool). option_or (get nat_cmp tied.raws q) (cond b (Some addr) None)) found
          ∙ ap (λ (o : Option ℕ). option_or o (Some addr)) (ap (get nat_cmp tied.raws) (sym e) ∙ none_from _ none))
      at q false apart =
          let other : (raw ≡ q → ⊥) = λ e. both_ways _ apart (ap (is_at (nat_cmp raw)) (sym e) ∙ at_itself raw) in
          not_named _ addr _ (is_of_raw-some source.subject raw q is ∙ ne_eqb raw q other)

  -- of a source of a raw object that an earlier source names
  pub told_again : (raw : ℕ) → raw_of source.subject ≡ Some raw → is_some (get nat_cmp tied.raws raw) ≡ true →
      TellsOf (things ++ ((addr, kinds.Source source) ∷ [])) tied
  told_again raw is some =
      told_then things (addr, kinds.Source source) tied tied told (λ q. at q (eqb raw q) refl) (λ acct s. uncounted acct s tied tied.raws)
    where
      at : (q : ℕ) (b : Bool) → eqb raw q ≡ b →
          get nat_cmp tied.raws q ≡ option_or (get nat_cmp tied.raws q) (source_of q (addr, kinds.Source source))
      at q true here =
          option_or-some (get nat_cmp tied.raws q) _ (ap (λ k. is_some (get nat_cmp tied.raws k)) (sym (eqb-true raw q here)) ∙ some)
      at q false apart = not_named _ addr _ (is_of_raw-some source.subject raw q is ∙ apart)

  -- of a source of a file or an item
  pub told_outside : raw_of source.subject ≡ None → TellsOf (things ++ ((addr, kinds.Source source) ∷ [])) tied
  told_outside is =
      told_then things (addr, kinds.Source source) tied tied told (λ q. not_named _ addr _ (is_of_raw-none source.subject q is))
      (λ acct s. uncounted acct s tied tied.raws)

-- how many extents of an object name a source, where it is of an account
pub uses_in-object : (source : ℕ) (acct account : Acct) (z : ZcoObject) → z.account ≡ account →
    uses_in source acct (kinds.Object z) ≡ cond (is_same_account acct account) (naming source z.extents) 0
uses_in-object source acct account z is = ap (λ (a : Acct). cond (is_same_account acct a) (naming source z.extents) 0) is

-- this is told with an object besides
abbrev pub TellsObject : ℕ → ZcoObject → Tied → Tied → Type 0
TellsObject addr z old new = (things : List (ℕ × Thing)) → TellsOf things old → TellsOf (things ++ ((addr, kinds.Object z) ∷ [])) new

counts_object : (addr : ℕ) (z : ZcoObject) (old new : Tied) → ((q : ℕ) → get nat_cmp new.raws q ≡ get nat_cmp old.raws q) →
    ((acct : Acct) (s : ℕ) → counted_by new acct s ≡ counted_by old acct s + uses_in s acct (kinds.Object z)) →
    TellsObject addr z old new
counts_object addr z old new same more things told =
    told_then things (addr, kinds.Object z) old new told (λ q. same q ∙ sym (option_or-none (get nat_cmp old.raws q))) more

module _ {T E : Type 0} (addr : ℕ) (z : ZcoObject) (tied : Tied) (counts : BTreeMap ℕ ℕ) (extents : List Extent)
    (all : extents ≡ z.extents) where
  -- of an inbound object
  pub told_inbound : (r : Result T E) → z.account ≡ accts.Inbound →
      OnOk r ((s : ℕ) → counted_at counts s ≡ counted_at tied.inbound s + naming s extents) →
      OnOk r (TellsObject addr z tied (record tied { inbound = counts }))
  told_inbound (Err e) is more = tt
  told_inbound (Ok x) is more = counts_object addr z tied (record tied { inbound = counts }) (λ q. refl) at
    where
      at : (acct : Acct) (s : ℕ) →
          counted_by (record tied { inbound = counts }) acct s ≡ counted_by tied acct s + uses_in s acct (kinds.Object z)
      at accts.Inbound s =
          let e = uses_in-object s accts.Inbound accts.Inbound z is in
          let f = ap (naming s) all in
          let m = more s in
          omega (arith, e, f, m)
      at accts.Outbound s = let e = uses_in-object s accts.Outbound accts.Inbound z is in omega (arith, e)

  -- of an outbound one
  pub told_outbound : (r : Result T E) → z.account ≡ accts.Outbound →
      OnOk r ((s : ℕ) → counted_at counts s ≡ counted_at tied.outbound s + naming s extents) →
      OnOk r (TellsObject addr z tied (record tied { outbound = counts }))
  told_outbound (Err e) is more = tt
  told_outbound (Ok x) is more = counts_object addr z tied (record tied { outbound = counts }) (λ q. refl) at
    where
      at : (acct : Acct) (s : ℕ) →
          counted_by (record tied { outbound = counts }) acct s ≡ counted_by tied acct s + uses_in s acct (kinds.Object z)
      at accts.Inbound s = let e = uses_in-object s accts.Inbound accts.Outbound z is in omega (arith, e)
      at accts.Outbound s =
          let e = uses_in-object s accts.Outbound accts.Outbound z is in
          let f = ap (naming s) all in
          let m = more s in
          omega (arith, e, f, m)

-- a thing that is no source names nothing
names_raw-other : (thing : Thing) (q : ℕ) → ((x : ZcoSource) → thing ≡ kinds.Source x → ⊥) → names_raw q thing ≡ false
names_raw-other (kinds.Source x) q other = absurd (other x refl)
names_raw-other (kinds.Raw x) q other = refl
names_raw-other (kinds.Text x) q other = refl
names_raw-other (kinds.List x) q other = refl
names_raw-other (kinds.Table x) q other = refl
names_raw-other (kinds.Hash x) q other = refl
names_raw-other (kinds.Object x) q other = refl

-- a thing that is no object has no extents
uses_in-other : (thing : Thing) (source : ℕ) (acct : Acct) → ((x : ZcoObject) → thing ≡ kinds.Object x → ⊥) → uses_in source acct thing ≡ 0
uses_in-other (kinds.Object x) source acct other = absurd (other x refl)
uses_in-other (kinds.Raw x) source acct other = refl
uses_in-other (kinds.Text x) source acct other = refl
uses_in-other (kinds.List x) source acct other = refl
uses_in-other (kinds.Table x) source acct other = refl
uses_in-other (kinds.Hash x) source acct other = refl
uses_in-other (kinds.Source x) source acct other = refl

-- of a thing that is no source and no object
pub told_other : (things : List (ℕ × Thing)) (addr : ℕ) (thing : Thing) (tied : Tied) → ((x : ZcoSource) → thing ≡ kinds.Source x → ⊥) →
    ((x : ZcoObject) → thing ≡ kinds.Object x → ⊥) → TellsOf things tied → TellsOf (things ++ ((addr, thing) ∷ [])) tied
told_other things addr thing tied not_source not_object told =
    told_then things (addr, thing) tied tied told (λ q. not_named _ addr _ (names_raw-other thing q not_source))
    (λ acct s. let e = uses_in-other thing s acct not_object in omega (arith, e))
