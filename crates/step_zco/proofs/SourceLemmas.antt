-- Sources and raw objects in blocks.
use Rattle.std.proofs.Common.{◌≡◌, ℕ, ◌<◌, ◌^◌, List, [], Option, Some, None, refl, ap, ◌∙◌, arith, subst}
use Rattle.std.specs.Prelude.{IfSome}
use Rattle.std.proofs.lemmas.Bool.{eq-eqb}
use Rattle.step_things.specs.Answering.{IsReady}
use Rattle.step_things.proofs.EntryLemmas.{source_there}
use Rattle.step_things.proofs.KindLemmas.{own_in_use, thing_is_at}
use Rattle.step_things.proofs.ListLemmas.{IsSmall}
use Rattle.step_things.proofs.RawLemmas.{IsRawAt, raw_is_at, raw_stands}
use Rattle.sdr_stands.proofs.ChangeLemmas.{apart}
use Rattle.sdr_stands.specs.Rows.{source_row}
use Rattle.sdr_stands.specs.Standing.{HeapStandsFor}
use Rattle.sdr_stands.specs.Ties.{or_null}
use Rattle.sdr_base.proofs.StandingLemmas.{found}
use Rattle.sdr_base.specs.Blocks.{IsKind}
use Rattle.sdr_base.specs.Objects.{Heap}
use Rattle.sdr_base.specs.Raws.{raw_block}
use Rattle.sdr_base.specs.declared.account.Acct.{Acct}
use Rattle.sdr_base.specs.declared.account.Acct.TheVariants as accts
use Rattle.sdr_base.specs.declared.kind.Kind.TheVariants as kinds
use Rattle.sdr_model.specs.Fields.{FitsSubject, FitsThing, IsWord}
use Rattle.sdr_model.specs.Things.{own_block}
use Rattle.sdr_model.specs.Valid.{HasBytes, HasSubject, IsValid}
use Rattle.sdr_model.specs.World.{World, as_raw, thing_at}
use Rattle.sdr_model.specs.Zco.{as_source, count_of, source_at, source_naming}
use Rattle.sdr_model.specs.declared.things.Thing.{Thing}
use Rattle.sdr_model.specs.declared.things.Thing.TheVariants as things
use Rattle.sdr_model.specs.declared.zco.Subject.{Subject}
use Rattle.sdr_model.specs.declared.zco.Subject.TheVariants as subjects
use Rattle.sdr_model.specs.declared.zco.ZcoSource.{ZcoSource}
use Rattle.zco_ref.specs.Kept.{CountedSource, KeepsRaw, KeepsSource, KeepsTied, SomeFew, count_in, counted_block}
use Rattle.step_zco.proofs.NamedLemmas.{named_at}
use Rattle.step_zco.proofs.UsesLemmas.{counts_small}

-- a source of a world with the extents that name it
abbrev pub counted_in : World → ℕ → ZcoSource → CountedSource
counted_in w addr s =
    record { inbound = count_of w addr accts.Inbound; outbound = count_of w addr accts.Outbound; row = source_row s }

-- it counts in its block as many extents of an account as name it
pub counts_told : (w : World) (addr : ℕ) (s : ZcoSource) (acct : Acct) → count_in acct (counted_in w addr s) ≡ count_of w addr acct
counts_told w addr s accts.Inbound = refl
counts_told w addr s accts.Outbound = refl

-- a source, and its block
pub record IsSourceAt (heap : Heap) (w : World) (addr : ℕ) : Type 0 where
  pub source : ZcoSource
  pub there : thing_at w addr ≡ Some (things.Source source)
  pub keeps : KeepsSource (heap.blocks addr) (counted_in w addr source)

subject_word : (s : ZcoSource) (subject : Subject) → FitsSubject subject → (source_row (record s { subject = subject })).subject < 2 ^ 64
subject_word s (subjects.File path) fits = omega arith
subject_word s (subjects.Bulk item) fits = fits
subject_word s (subjects.Heap raw) fits = fits
subject_word s (subjects.Obj raw) fits = fits

-- the source's block stands at its address
pub source_stands : (heap : Heap) (w : World) (addr : ℕ) (s : ZcoSource) → HeapStandsFor heap w → IsReady w → IsSmall heap →
    thing_at w addr ≡ Some (things.Source s) → KeepsSource (heap.blocks addr) (counted_in w addr s)
source_stands heap w addr s stands served small there =
    let a = apart addr (things.Source s) stands there in
    let fits = subst (λ (o : Option Thing). IfSome o (λ thing. IsWord addr × FitsThing thing)) there (served.fits.things addr) in
    let i = counts_small heap w addr accts.Inbound stands small in
    let o = counts_small heap w addr accts.Outbound stands small in
    record {
      block = found heap.blocks addr (counted_block (counted_in w addr s)) [] a.rest a.stands;
      fits = record {
        inbound = omega (arith, i);
        outbound = omega (arith, o);
        subject = subject_word s s.subject fits.1.subject;
        length = fits.1.length;
      };
    }

own_source : (addr : ℕ) (thing : Thing) → (own_block addr thing).kind ≡ kinds.Source → (s : ZcoSource) × (thing ≡ things.Source s)
own_source addr (things.Source s) is = (s, refl)
own_source addr thing is = absurd cc

-- a block in use of the kind of sources is a source's
pub source_is_at : (heap : Heap) (w : World) (addr : ℕ) → HeapStandsFor heap w → IsReady w → IsSmall heap →
    IsKind (heap.blocks addr) kinds.Source → IsSourceAt heap w addr
source_is_at heap w addr s served small kind =
    let t = thing_is_at heap w addr kinds.Source s served.whole.valid refl kind in
    let source = own_source addr t.thing t.kind_is in
    let there = t.there ∙ ap Some source.1 in
    record { source = source.0; there = there; keeps = source_stands heap w addr source.0 s served small there }

-- and where there is none, no source is
pub no_source : (heap : Heap) (w : World) (addr : ℕ) → HeapStandsFor heap w → IsValid w → ¬ IsKind (heap.blocks addr) kinds.Source →
    source_at w addr ≡ None
no_source heap w addr s valid other = by (thing_at w addr) refl
  where
    by : (o : Option Thing) → thing_at w addr ≡ o → as_source o ≡ None
    by (Some (things.Source source)) at = absurd (other (own_in_use heap w addr (things.Source source) s valid at))
    by None at = refl
    by (Some thing) at = refl

-- the raw object of a subject is there, with these bytes, where the subject is one
abbrev pub IsRawOf : World → Subject → List ℕ → Type 0
IsRawOf w (subjects.Heap raw) bytes = thing_at w raw ≡ Some (things.Raw bytes)
IsRawOf w (subjects.Obj raw) bytes = thing_at w raw ≡ Some (things.Raw bytes)
IsRawOf w subject bytes = Unit {0}

-- the raw object that a source is of, where it is of one, and its block
pub record HasRawAt (heap : Heap) (w : World) (addr : ℕ) (s : ZcoSource) : Type 0 where
  pub bytes : List ℕ
  pub raw : IsRawOf w s.subject bytes
  pub tied : KeepsTied heap.blocks addr (counted_in w addr s) bytes

-- a raw object that has so many bytes is there
raw_there : (heap : Heap) (w : World) (raw bytes : ℕ) → HeapStandsFor heap w → (o : Option Thing) → thing_at w raw ≡ o →
    HasBytes bytes (as_raw o) → IsRawAt heap w raw
raw_there heap w raw bytes stands (Some (things.Raw text)) is has = raw_stands heap w raw text stands is
raw_there heap w raw bytes stands None is has = absurd has
raw_there heap w raw bytes stands (Some thing) is has = absurd has

-- a source is kept together with its raw object
pub source_tied : (heap : Heap) (w : World) (addr : ℕ) (s : ZcoSource) → HeapStandsFor heap w → IsReady w → IsSmall heap →
    thing_at w addr ≡ Some (things.Source s) → HasRawAt heap w addr s
source_tied heap w addr s stands served small there =
    by s.subject there
    (subst (λ (o : Option ZcoSource). IfSome o (λ source. HasSubject w source.length source.subject)) (ap as_source there)
    (served.whole.fits.subjects addr))
  where
    by : (subject : Subject) → thing_at w addr ≡ Some (things.Source (record s { subject = subject })) →
        HasSubject w s.length subject → HasRawAt heap w addr (record s { subject = subject })
    by (subjects.File path) at has = record {
      bytes = [];
      raw = tt;
      tied = record { keeps = source_stands heap w addr _ stands served small at; raw = tt };
    }
    by (subjects.Bulk item) at has = record {
      bytes = [];
      raw = tt;
      tied = record { keeps = source_stands heap w addr _ stands served small at; raw = tt };
    }
    by (subjects.Heap raw) at has =
        let n = named_at w raw addr _ served.whole.fits at (eq-eqb raw raw refl) in
        let r = raw_there heap w raw s.length stands (thing_at w raw) refl has in
        record {
          bytes = r.bytes;
          raw = r.there;
          tied = record {
            keeps = source_stands heap w addr _ stands served small at;
            raw = r.block ∙ ap (λ (n : ℕ). Some (raw_block n r.bytes)) (ap or_null n);
          };
        }
    by (subjects.Obj raw) at has =
        let n = named_at w raw addr _ served.whole.fits at (eq-eqb raw raw refl) in
        let r = raw_there heap w raw s.length stands (thing_at w raw) refl has in
        record {
          bytes = r.bytes;
          raw = r.there;
          tied = record {
            keeps = source_stands heap w addr _ stands served small at;
            raw = r.block ∙ ap (λ (n : ℕ). Some (raw_block n r.bytes)) (ap or_null n);
          };
        }

-- the counts of a source that is there can be added
pub source_few : (heap : Heap) (w : World) (addr : ℕ) (s : ZcoSource) → HeapStandsFor heap w → IsReady w → IsSmall heap →
    thing_at w addr ≡ Some (things.Source s) → SomeFew (heap.blocks addr)
source_few heap w addr s stands served small there = record {
  source = counted_in w addr s;
  keeps = source_stands heap w addr s stands served small there;
  inbound = counts_small heap w addr accts.Inbound stands small;
  outbound = counts_small heap w addr accts.Outbound stands small;
}

-- a raw object, the word for the source that names it, and that source
pub record IsNamedAt (heap : Heap) (w : World) (raw : ℕ) : Type 0 where
  pub bytes : List ℕ
  pub there : thing_at w raw ≡ Some (things.Raw bytes)
  pub keeps : KeepsRaw (heap.blocks raw) (or_null (source_naming w raw)) bytes

-- an address that the world has fits a word
address_word : (w : World) (addr : ℕ) (thing : Thing) → IsReady w → thing_at w addr ≡ Some thing → IsWord addr
address_word w addr thing served there =
    (subst (λ (o : Option Thing). IfSome o (λ thing. IsWord addr × FitsThing thing)) there (served.fits.things addr)).0

named_word : (w : World) (raw : ℕ) → IsReady w → or_null (source_naming w raw) < 2 ^ 64
named_word w raw served = by (source_naming w raw) refl
  where
    by : (o : Option ℕ) → source_naming w raw ≡ o → or_null o < 2 ^ 64
    by None is = omega arith
    by (Some a) is = let n = source_there w raw a is in address_word w a (things.Source n.source) served n.there

-- a block in use of the kind of raw objects is a raw object's
pub named_is_at : (heap : Heap) (w : World) (raw : ℕ) → HeapStandsFor heap w → IsReady w → IsKind (heap.blocks raw) kinds.Raw →
    IsNamedAt heap w raw
named_is_at heap w raw s served kind =
    let r = raw_is_at heap w raw s served.whole.valid kind in
    record { bytes = r.bytes; there = r.there; keeps = record { block = r.block; small = named_word w raw served } }
