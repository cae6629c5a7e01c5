-- What a word that is set or read means for blocks that stand.
use Rattle.std.proofs.Common.{◌≡◌, ℕ, ◌*◌, ◌≤◌, ◌<◌, ◌^◌, List, ◌∷◌, ◌++◌, length, set, get_or, Option, Some, None}
use Rattle.std.proofs.Common.{sym, ap, ◌∙◌, arith, subst}
use Rattle.byteorder.specs.Endian.{big_bytes}
use Rattle.sdr_base.specs.declared.kind.Kind.{Kind}
use Rattle.sdr_base.specs.Blocks.{Block, Blocks, with_block, overwritten, Reaches}
use Rattle.sdr_base.specs.Stored.{number_at}
use Rattle.sdr_base.specs.Words.{layout, HasWord}
use Rattle.sdr_base.specs.Entries.{Entries, BlocksAre}
use Rattle.sdr_base.proofs.LayoutLemmas.{overwrite-layout, number_at-layout, length-layout}
use Rattle.sdr_base.proofs.StandingLemmas.{found, written_at}

-- a block of these words, and these bytes behind them
abbrev pub block : Kind → List ℕ → Block
block kind bytes = record { kind = kind; bytes = bytes }

-- a block of words reaches as far as its words
pub reaches : (o : Option Block) (kind : Kind) (ws rest : List ℕ) (end : ℕ) → o ≡ Some (block kind (layout ws rest)) →
    end ≤ 8 * length ws → Reaches o end
reaches o kind ws rest end e h = let l = length-layout ws rest in rw e (omega arith)

pub word_is : (o : Option Block) (kind : Kind) (ws rest : List ℕ) (n value : ℕ) →
    o ≡ Some (block kind (layout ws rest)) → n < length ws → get_or ws n 0 < 2 ^ 64 → HasWord o n value →
    value ≡ get_or ws n 0
word_is o kind ws rest n value e h fits is =
    let w : value ≡ number_at (8 * n) (layout ws rest) = subst (λ x. HasWord x n value) e is in
    w ∙ number_at-layout ws rest n h fits

pub word_set : (b b' : Blocks) (p : ℕ) (kind : Kind) (ws rest : List ℕ) (n value : ℕ) (xs ys : Entries)
    → b' ≡ with_block b p (overwritten (b p) (8 * n) (big_bytes 8 value)) → n < length ws
    → BlocksAre b (xs ++ ((p, block kind (layout ws rest)) ∷ ys)) →
    BlocksAre b' (xs ++ ((p, block kind (layout (set ws n value) rest)) ∷ ys))
word_set b b' p kind ws rest n value xs ys e h s =
    let o = found b p _ xs ys s in
    subst (λ c. BlocksAre c (xs ++ ((p, block kind (layout (set ws n value) rest)) ∷ ys)))
    (ap (λ bytes. with_block b p (Some (block kind bytes))) (sym (overwrite-layout ws rest n value h))
    ∙ ap (λ x. with_block b p (overwritten x (8 * n) (big_bytes 8 value))) (sym o) ∙ sym e)
    (written_at b p _ (block kind (layout (set ws n value) rest)) xs ys s)

-- a shorter range is reached too
pub reaches_less : (o : Option Block) (far end : ℕ) → Reaches o far → end ≤ far → Reaches o end
reaches_less None far end r h = r
reaches_less (Some x) far end r h = omega arith
