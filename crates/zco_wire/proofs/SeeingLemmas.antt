-- What the blocks of extents, sources and raw objects say.
use Rattle.std.proofs.Common.{◌≡◌, ◌≤◌, ◌+◌, ◌*◌, ℕ, true, List, [], ◌∷◌, length, take, drop, Option, None, Some, refl, sym, ap, ◌∙◌, subst, arith}
use Rattle.std.proofs.lemmas.List.{drop_at, drop-drop, take_all}
use Rattle.sdr_base.specs.Blocks.{Block, Blocks, HasBytes, Reaches, kind_length}
use Rattle.sdr_base.specs.Parts.{part}
use Rattle.sdr_base.specs.Words.{HasWord, layout}
use Rattle.sdr_base.specs.ZcoObjects.{CapsuleRow}
use Rattle.sdr_base.specs.declared.kind.Kind.{Kind}
use Rattle.sdr_base.specs.declared.kind.Kind.TheVariants as kinds
use Rattle.sdr_base.specs.declared.medium.Medium.{Medium}
use Rattle.sdr_base.proofs.LayoutLemmas.{layout-append, length-layout}
use Rattle.zco_obj.specs.Walks.{KeepsCapsule, SeesCapsule, SomeCapsule}
use Rattle.zco_obj.specs.declared.seeing.SeenCapsule.{SeenCapsule}
use Rattle.zco_ref.specs.Kept.{CountedSource, KeepsSource}
use Rattle.zco_ref.specs.Seeing.{IsMediumOf}
use Rattle.zco_ref.proofs.KeptLemmas.{medium_is, source_words}
use Rattle.zco_wire.specs.Seeing.{SeesMedium, SeesRaw, is_raw}

-- a source's first word is the number of its medium
pub sees_medium : {found : Option Block} (number : ℕ) (m : Medium) → HasWord found 0 number → IsMediumOf number m → SeesMedium found m
sees_medium number m h of = record { sees = λ source k. of source.row.medium (medium_is k h) }

-- where the medium is no other, the bytes lie in a raw object
pub sees_raw : {blocks : Blocks} {addr : ℕ} (m : Medium) → SeesMedium (blocks addr) m → is_raw m ≡ true → SeesRaw blocks addr
sees_raw m s is = record { sees = λ source k. subst (λ (n : Medium). is_raw n ≡ true) (s.sees source k) is }

-- the whole block of a header or trailer, of a source and of a raw object
head_reaches : {found : Option Block} {next : ℕ} {c : CapsuleRow} (end : ℕ) → KeepsCapsule found next c → end ≤ 8 + length c.text →
    Reaches found end
head_reaches {found} {next} {c} end k le =
    subst (λ (o : Option Block). Reaches o end) (sym k.block) (let l = length-layout (next ∷ []) c.text in omega (arith, l, le))

pub some_head_reaches : {found : Option Block} {seen : SeenCapsule} (end : ℕ) → SomeCapsule found → SeesCapsule found seen →
    end ≤ 8 + seen.bytes → Reaches found end
some_head_reaches end some s le =
    head_reaches end some.keeps (let b = s.bytes some.next some.capsule some.keeps in omega (arith, b, le))

-- behind its words a block has its bytes
pub bytes_behind : (found : Option Block) (kind : Kind) (words rest : List ℕ) (from place count : ℕ) (bytes : List ℕ) →
    found ≡ Some (record { kind = kind; bytes = layout words rest }) → from ≡ 8 * length words → HasBytes found (from + place) count bytes →
    bytes ≡ part place count rest
bytes_behind found kind words rest from place count bytes is at h =
    let b : bytes ≡ part (from + place) count (layout words rest) =
    subst (λ (o : Option Block). HasBytes o (from + place) count bytes) is h in
    let l : length (layout words []) ≡ from = let n = length-layout words [] in omega (arith, n, at) in
    b ∙ ap (λ (xs : List ℕ). take count xs)
    (sym (drop-drop place from (layout words rest))
    ∙ ap (λ (xs : List ℕ). drop place xs) (ap (λ (xs : List ℕ). drop from xs) (sym (layout-append words rest)) ∙ drop_at (layout words []) rest from l))

pub head_bytes : {found : Option Block} {next : ℕ} {c : CapsuleRow} (place count : ℕ) (bytes : List ℕ) → KeepsCapsule found next c →
    HasBytes found (8 + place) count bytes → bytes ≡ part place count c.text
head_bytes {found} {next} {c} place count bytes k h =
    bytes_behind found kinds.Capsule (next ∷ []) c.text 8 place count bytes k.block refl h

-- a source's path
pub source_kind_length : {found : Option Block} {s : CountedSource} (kind : Kind) (all : ℕ) → KeepsSource found s →
    Some (kind, all) ≡ kind_length found → all ≡ 48 + length s.row.path
source_kind_length {found} {s} kind all k e =
    ap bytes_of e ∙ ap (λ (o : Option Block). bytes_of (kind_length o)) k.block ∙ length-layout (source_words s) s.row.path
  where
    bytes_of : Option (Kind × ℕ) → ℕ
    bytes_of None = 0
    bytes_of (Some one) = one.1

pub path_reaches : {found : Option Block} {s : CountedSource} (end : ℕ) → KeepsSource found s → end ≤ 48 + length s.row.path → Reaches found end
path_reaches {found} {s} end k le =
    subst (λ (o : Option Block). Reaches o end) (sym k.block) (let l = length-layout (source_words s) s.row.path in omega (arith, l, le))

pub path_bytes : {found : Option Block} {s : CountedSource} (count : ℕ) (bytes : List ℕ) → KeepsSource found s → count ≡ length s.row.path →
    HasBytes found 48 count bytes → bytes ≡ s.row.path
path_bytes {found} {s} count bytes k many h =
    bytes_behind found kinds.Source (source_words s) s.row.path 48 0 count bytes k.block refl h ∙ take_all count s.row.path (omega (arith, many))
