-- The sources that extents name, each once, and what goes with the extents.
use Rattle.std.proofs.Common.{◌≡◌, ◌≢◌, ◌∙◌, ◌≤◌, ℕ, ◌==◌, ◌&&◌, ◌||◌, not, List, [], ◌∷◌, ◌++◌, map, Bool, true, false, true≢false, cond, Option, Some, None, eq-eqb, refl, sym, ap, subst, arith}
use Rattle.std.proofs.lemmas.Bool.{ne_eqb}
use Rattle.std.proofs.lemmas.List.Sums.{sum_by-cons}
use Rattle.std.specs.List.{flat_map}
use Rattle.std.specs.Option.{option_to_list}
use Rattle.std.specs.Prelude.{if◌then◌else◌}
use Rattle.law_steps.proofs.DistinctLemmas.{weight}
use Rattle.law_steps.proofs.GoneLemmas.{AreApart}
use Rattle.law_steps.proofs.HashShapes.{neither}
use Rattle.law_steps.proofs.SourceViews.{AllLie, by_addr, fits_from}
use Rattle.law_steps.proofs.ThingLemmas.{raw_is, source_is}
use Rattle.sdr_model.specs.Gone.{gone_things, gone_with, is_passing, names_source, source_blocks}
use Rattle.sdr_model.specs.Valid.{FitTogether, HasBytes, HasSubject, LiesInside}
use Rattle.sdr_model.specs.World.{World, as_raw, thing_at}
use Rattle.sdr_model.specs.Zco.{naming, owned_raw, raw_of, source_at, uses_of}
use Rattle.sdr_model.specs.declared.things.Thing.TheVariants as things
use Rattle.sdr_model.specs.declared.zco.Extent.{Extent}
use Rattle.sdr_model.specs.declared.zco.Subject.{Subject}
use Rattle.sdr_model.specs.declared.zco.Subject.TheVariants as subjects
use Rattle.sdr_model.specs.declared.zco.ZcoSource.{ZcoSource}
use Rattle.step_zco.proofs.GoneMaps.{AreDistinct}
use Rattle.zco_obj.specs.Gone as rows
use Rattle.zco_obj.specs.Gone.{NamedSource}
use Rattle.step_zco.proofs.SourceLemmas.{IsRawOf, counted_in}

-- an extent names its source, and those behind it theirs
pub itself : (e : Extent) (es : List Extent) → names_source e.source (e ∷ es) ≡ true
itself e es = ap (λ (b : Bool). b || names_source e.source es) (eq-eqb e.source e.source refl)

pub named_later : (q : ℕ) (e : Extent) (es : List Extent) → names_source q es ≡ true → names_source q (e ∷ es) ≡ true
named_later q e es named = either (e.source == q) (names_source q es) named
  where
    either : (b c : Bool) → c ≡ true → (b || c) ≡ true
    either true c is = refl
    either false c is = is

other_names : (q : ℕ) (e : Extent) (es : List Extent) → names_source q (e ∷ es) ≡ true → q ≢ e.source →
    names_source q es ≡ true
other_names q e es named away =
    sym (ap (λ (b : Bool). b || names_source q es) (ne_eqb e.source q (λ same. away (sym same)))) ∙ named

-- extents that name a source do so at least once
pub some_naming : (q : ℕ) (es : List Extent) → names_source q es ≡ true → 1 ≤ naming q es
some_naming q [] named = absurd (true≢false (sym named))
some_naming q (e ∷ es) named = by (some_naming q es) (e.source == q) refl named
  where
    by : (names_source q es ≡ true → 1 ≤ naming q es) → (b : Bool) → (e.source == q) ≡ b → (b || names_source q es) ≡ true →
        1 ≤ naming q (e ∷ es)
    by others true is rest = omega (arith, sum_by-cons (λ (x : Extent). weight (x.source == q)) e es, ap weight is)
    by others false is rest =
        omega (arith, others rest, sum_by-cons (λ (x : Extent). weight (x.source == q)) e es, ap weight is)

-- the bytes that are there
text_of : (length : ℕ) (o : Option (List ℕ)) → HasBytes length o → (text : List ℕ) × (o ≡ Some text)
text_of length None has = absurd has
text_of length (Some text) has = (text, refl)

-- the raw object of a subject is there, where it is one
record HasRaw (w : World) (subject : Subject) : Type 0 where
  bytes : List ℕ
  raw : IsRawOf w subject bytes

raw_bytes : (w : World) (length : ℕ) (subject : Subject) → HasSubject w length subject → HasRaw w subject
raw_bytes w length (subjects.File path) has = record { bytes = []; raw = tt }
raw_bytes w length (subjects.Bulk item) has = record { bytes = []; raw = tt }
raw_bytes w length (subjects.Heap raw) has =
    let t = text_of length (as_raw (thing_at w raw)) has in record { bytes = t.0; raw = raw_is (thing_at w raw) t.0 t.1 }
raw_bytes w length (subjects.Obj raw) has =
    let t = text_of length (as_raw (thing_at w raw)) has in record { bytes = t.0; raw = raw_is (thing_at w raw) t.0 t.1 }

-- of a world and extents that go
module _ (w : World) (all : List Extent) where
  -- a source that some of them name, with the bytes of its raw object where it has one
  pub record UsedSource : Type 0 where
    pub addr : ℕ
    pub source : ZcoSource
    pub bytes : List ℕ
    pub there : thing_at w addr ≡ Some (things.Source source)
    pub raw : IsRawOf w source.subject bytes
    pub some : names_source addr all ≡ true

  -- with its counts
  abbrev pub named_of : UsedSource → NamedSource
  named_of u = record { addr = u.addr; source = counted_in w u.addr u.source; bytes = u.bytes }

  abbrev pub addresses : List UsedSource → List ℕ
  addresses us = map (λ (u : UsedSource). u.addr) us

  -- whether it goes with them
  abbrev pub goes : ℕ → ZcoSource → Bool
  goes addr source = is_passing source && (uses_of w addr == naming addr all)

  -- what goes with it
  abbrev pub gone_at : ℕ → ZcoSource → List ℕ
  gone_at addr source = if goes addr source then option_to_list (owned_raw source) ++ addr ∷ [] else []

  -- itself and the raw object that it is of
  abbrev pub keys_at : ℕ → ZcoSource → List ℕ
  keys_at addr source = addr ∷ option_to_list (raw_of source.subject)

  abbrev pub all_gone : List UsedSource → List ℕ
  all_gone us = flat_map (λ (u : UsedSource). gone_at u.addr u.source) us

  abbrev pub all_keys : List UsedSource → List ℕ
  all_keys us = flat_map (λ (u : UsedSource). keys_at u.addr u.source) us

  -- one at another address than theirs isn't found among these
  pub not_found : (q : ℕ) (us : List UsedSource) → AreApart q (addresses us) → rows.source_at q (map named_of us) ≡ None
  not_found q [] apart = refl
  not_found q (u ∷ us) apart =
      ap (λ (b : Bool). cond b (Some (named_of u)) (rows.source_at q (map named_of us))) (ne_eqb u.addr q apart.0)
      ∙ not_found q us apart.1

  -- the one at an address is found among these
  pub record IsFound (us : List UsedSource) (q : ℕ) : Type 0 where
    pub used : UsedSource
    pub here : used.addr ≡ q
    pub is : rows.source_at q (map named_of us) ≡ Some (named_of used)

  -- these are the ones that some extents name, each once
  pub record AreUsed (es : List Extent) (us : List UsedSource) : Type 0 where
    pub gone : gone_things w all es ≡ all_gone us
    pub found : (q : ℕ) → names_source q es ≡ true → IsFound us q
    pub apart : (q : ℕ) → names_source q es ≡ false → AreApart q (addresses us)
    pub distinct : AreDistinct (addresses us)

  pub record UsedBy (es : List Extent) : Type 0 where
    pub sources : List UsedSource
    pub are : AreUsed es sources

  -- nothing goes with an extent whose source another one names later
  none_last : (x n : Bool) (l : List ℕ) → n ≡ true → (if (x && not n) then l else []) ≡ []
  none_last true true l is = refl
  none_last true false l is = absurd (true≢false (sym is))
  none_last false n l is = refl

  last_one : (x n p : Bool) (l : List ℕ) → n ≡ false →
      (if (x && not n) then (if p then l else []) else []) ≡ (if (p && x) then l else [])
  last_one true false true l is = refl
  last_one true false false l is = refl
  last_one true true p l is = absurd (true≢false is)
  last_one false n true l is = refl
  last_one false n false l is = refl

  again : (e : Extent) (es : List Extent) → names_source e.source es ≡ true → UsedBy es → UsedBy (e ∷ es)
  again e es named u = record {
    sources = u.sources;
    are = record {
      gone = ap (λ (gone : List ℕ). gone ++ gone_things w all es)
          (none_last (uses_of w e.source == naming e.source all) (names_source e.source es)
          (source_blocks e.source (source_at w e.source)) named) ∙ u.are.gone;
      found = λ q is.
          by_addr q e.source (λ here. subst (IsFound u.sources) (sym here) (u.are.found e.source named))
          (λ away. u.are.found q (other_names q e es is away));
      apart = λ q none. u.are.apart q (neither (e.source == q) (names_source q es) none).1;
      distinct = u.are.distinct;
    };
  }

  -- the last extent that names a source
  last_with : (e : Extent) (es : List Extent) (s : ZcoSource) → source_at w e.source ≡ Some s →
      names_source e.source es ≡ false → gone_with w all es e ≡ gone_at e.source s
  last_with e es s is none =
      ap (λ (o : Option ZcoSource). if ((uses_of w e.source == naming e.source all) && not (names_source e.source es))
      then source_blocks e.source o else []) is
      ∙ last_one (uses_of w e.source == naming e.source all) (names_source e.source es) (is_passing s)
      (option_to_list (owned_raw s) ++ e.source ∷ []) none

  one_more : (e : Extent) (es : List Extent) (v : UsedSource) → v.addr ≡ e.source → gone_with w all es e ≡ gone_at v.addr v.source →
      names_source e.source es ≡ false → UsedBy es → UsedBy (e ∷ es)
  one_more e es v here goes none u =
      let tail : ℕ → Option NamedSource = λ q. rows.source_at q (map named_of u.sources) in record {
        sources = v ∷ u.sources;
        are = record {
          gone = λ i. goes i ++ u.are.gone i;
          found = λ q named.
              by_addr q e.source
              (λ at. record {
                used = v;
                here = here ∙ sym at;
                is = ap (λ (b : Bool). cond b (Some (named_of v)) (tail q)) (eq-eqb v.addr q (here ∙ sym at));
              })
              (λ away.
              let f = u.are.found q (other_names q e es named away) in record {
                used = f.used;
                here = f.here;
                is = ap (λ (b : Bool). cond b (Some (named_of v)) (tail q))
                    (ne_eqb v.addr q (λ same. away (sym same ∙ here))) ∙ f.is;
              });
          apart = λ q no.
              let both = neither (e.source == q) (names_source q es) no in (
                (λ same. true≢false (sym (eq-eqb e.source q (sym here ∙ same)) ∙ both.0)),
                u.are.apart q both.1,
              );
          distinct = (subst (λ (a : ℕ). AreApart a (addresses u.sources)) (sym here) (u.are.apart e.source none), u.are.distinct);
        };
      }

  -- in a world whose sources and extents fit each other
  module _ (fits : FitTogether w) where
    pub used_by : (es : List Extent) → AllLie w.things es → ((q : ℕ) → names_source q es ≡ true → names_source q all ≡ true) →
        UsedBy es
    used_by [] lie part = record {
      sources = [];
      are = record { gone = refl; found = λ q no. absurd (true≢false (sym no)); apart = λ q none. tt; distinct = tt };
    }
    used_by (e ∷ es) lie part =
        by (names_source e.source es) refl (source_at w e.source) refl lie.0
        (used_by es lie.1 (λ q named. part q (named_later q e es named)))
      where
        by : (b : Bool) → names_source e.source es ≡ b → (o : Option ZcoSource) → source_at w e.source ≡ o → LiesInside e o →
            UsedBy es → UsedBy (e ∷ es)
        by true named o is inside u = again e es named u
        by false none None is inside u = absurd inside
        by false none (Some source) is inside u =
            let raw = raw_bytes w source.length source.subject ((fits_from w fits).subjects e.source source is) in
            one_more e es
            (record {
              addr = e.source;
              source = source;
              bytes = raw.bytes;
              there = source_is (thing_at w e.source) source is;
              raw = raw.raw;
              some = part e.source (itself e es);
            }) refl (last_with e es source is none) none u
