-- What the words of a block say of the source or the raw object that is kept there.
use Rattle.std.proofs.Common.{◌≡◌, ◌≢◌, ℕ, ◌+◌, ◌*◌, ◌≤◌, ◌<◌, ◌^◌, List, [], ◌∷◌, Bool, true, false, Option, Some, None, sym, ap, ◌∙◌, arith, subst}
use Rattle.sdr_base.specs.Blocks.{Block, Blocks, Reaches}
use Rattle.sdr_base.specs.Raws.{raw_block}
use Rattle.sdr_base.specs.Sources.{flag_word, medium_number}
use Rattle.sdr_base.specs.Words.{HasWord}
use Rattle.sdr_base.specs.declared.account.Acct.{Acct}
use Rattle.sdr_base.specs.declared.account.Acct.TheVariants as accts
use Rattle.sdr_base.specs.declared.kind.Kind.{Kind}
use Rattle.sdr_base.specs.declared.kind.Kind.TheVariants as kinds
use Rattle.sdr_base.specs.declared.medium.Medium.{Medium}
use Rattle.sdr_base.specs.declared.medium.Medium.TheVariants as media
use Rattle.sdr_base.proofs.WritingLemmas.{reaches, word_is}
use Rattle.zco_ref.specs.Counting.{count_field}
use Rattle.zco_ref.specs.Kept.{CountedSource, IsTiedRaw, KeepsRaw, KeepsSource, count_in, counted_block}

-- the words of a source's block
abbrev pub source_words : CountedSource → List ℕ
source_words s =
    medium_number s.row.medium ∷ flag_word s.row.flagged ∷ s.inbound ∷ s.outbound ∷ s.row.subject ∷ s.row.length ∷ []

medium_small : (m : Medium) → medium_number m < 2 ^ 64
medium_small media.File = omega arith
medium_small media.Bulk = omega arith
medium_small media.Heap = omega arith
medium_small media.Obj = omega arith

flag_small : (b : Bool) → flag_word b < 2 ^ 64
flag_small true = omega arith
flag_small false = omega arith

module _ {found : Option Block} {s : CountedSource} (k : KeepsSource found s) where
  -- the block has its words
  pub source_reaches : (end : ℕ) → end ≤ 48 → Reaches found end
  source_reaches end le = reaches found kinds.Source (source_words s) s.row.path end k.block le

  -- the numbers in the words of the block
  pub medium_is : {value : ℕ} → HasWord found 0 value → value ≡ medium_number s.row.medium
  medium_is {value} h =
      word_is found kinds.Source (source_words s) s.row.path 0 value k.block (omega arith) (medium_small s.row.medium) h

  pub flag_is : {value : ℕ} → HasWord found 1 value → value ≡ flag_word s.row.flagged
  flag_is {value} h =
      word_is found kinds.Source (source_words s) s.row.path 1 value k.block (omega arith) (flag_small s.row.flagged) h

  pub inbound_is : {value : ℕ} → HasWord found 2 value → value ≡ s.inbound
  inbound_is {value} h =
      word_is found kinds.Source (source_words s) s.row.path 2 value k.block (omega arith) k.fits.inbound h

  pub outbound_is : {value : ℕ} → HasWord found 3 value → value ≡ s.outbound
  outbound_is {value} h =
      word_is found kinds.Source (source_words s) s.row.path 3 value k.block (omega arith) k.fits.outbound h

  pub subject_is : {value : ℕ} → HasWord found 4 value → value ≡ s.row.subject
  subject_is {value} h =
      word_is found kinds.Source (source_words s) s.row.path 4 value k.block (omega arith) k.fits.subject h

  -- the count of an account's extents
  pub count_is : {value : ℕ} (acct : Acct) → HasWord found (count_field acct) value → value ≡ count_in acct s
  count_is accts.Inbound h = inbound_is h
  count_is accts.Outbound h = outbound_is h

  pub count_reaches : (acct : Acct) → Reaches found (8 * count_field acct + 8)
  count_reaches accts.Inbound = source_reaches 24 (omega arith)
  count_reaches accts.Outbound = source_reaches 32 (omega arith)

-- the block of a raw object has its source word, which says the source that names it
module _ {found : Option Block} {named_by : ℕ} {bytes : List ℕ} (k : KeepsRaw found named_by bytes) where
  pub raw_reaches : Reaches found 8
  raw_reaches = reaches found kinds.Raw (named_by ∷ []) bytes 8 k.block (omega arith)

  pub named_by_is : {value : ℕ} → HasWord found 0 value → value ≡ named_by
  named_by_is {value} h =
      word_is found kinds.Raw (named_by ∷ []) bytes 0 value k.block (omega arith) k.small h

-- the kind of a block
abbrev kind_in : Option Block → Kind
kind_in None = kinds.Raw
kind_in (Some block) = block.kind

-- the source and the raw object stand apart
pub stand_apart : (b : Blocks) (addr raw named_by : ℕ) (s : CountedSource) (bytes : List ℕ) →
    b addr ≡ Some (counted_block s) → b raw ≡ Some (raw_block named_by bytes) → addr ≢ raw
stand_apart b addr raw named_by s bytes p q e =
    let d : kinds.Source ≡ kinds.Raw = ap kind_in (sym p ∙ ap b e ∙ q) in cc

-- where a source has a raw object, it is there
pub tied_heap : (m : Medium) (found : Option Block) (source : ℕ) (bytes : List ℕ) → m ≡ media.Heap → IsTiedRaw m found source bytes →
    found ≡ Some (raw_block source bytes)
tied_heap m found source bytes e t = subst (λ (n : Medium). IsTiedRaw n found source bytes) e t

pub tied_obj : (m : Medium) (found : Option Block) (source : ℕ) (bytes : List ℕ) → m ≡ media.Obj → IsTiedRaw m found source bytes →
    found ≡ Some (raw_block source bytes)
tied_obj m found source bytes e t = subst (λ (n : Medium). IsTiedRaw n found source bytes) e t
