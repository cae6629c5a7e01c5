-- What calls on a heap do to it, one after another.
use Rattle.std.proofs.Common.{◌≡◌, ℕ, [], ◌∷◌, None, refl, ap, ◌∙◌}
use Rattle.std.specs.Prelude.{Result, Ok, Err, IfOk, OnOk}
use Rattle.sdr_base.specs.Blocks.{with_block}
use Rattle.sdr_base.specs.Making.{Made, besides}
use Rattle.sdr_base.specs.Objects.{Heap, OnlyShort, OnlyUnmoved, with_given}
use Rattle.sdr_base.specs.declared.moves.Move.TheVariants.{Took}
use Rattle.sdr_base.specs.declared.refusal.Refusal.TheVariants.{LogFull}
use Rattle.sdr_base.specs.declared.stop.Stop.{Stop}
use Rattle.sdr_base.specs.declared.stop.Stop.TheVariants.{Refused, DiskFault, MediaFault, Failed}

-- heaps that are the same have the same blocks
pub heap_blocks : {old new : Heap} → old ≡ new → old.blocks ≡ new.blocks
heap_blocks is = ap (λ (h : Heap). h.blocks) is

-- the block at an address is gone
pub given_blocks : (addr : ℕ) (old new : Heap) → new ≡ with_given old addr →
    new.blocks ≡ with_block old.blocks addr None
given_blocks addr old new is = ap (λ (h : Heap). h.blocks) is

-- a stop after a block was taken
pub short_after : {need addr : ℕ} {old mid : Heap} (last new : Heap) (stop : Stop) →
    Made (Took need addr ∷ []) old mid →
    besides last ≡ besides mid → OnlyUnmoved last new stop → OnlyShort need old new stop
short_after {need} {addr} {old} {mid} last new (Refused (LogFull lines room)) m same u = record {
  addr = addr;
  made = Took need addr ∷ [];
  first = record { rest = []; whole = refl };
  moves = u.moves ∙ ap (λ (h : Heap). h.moves) same ∙ ap (λ (h : Heap). h.moves) m.all;
  spare = u.spare ∙ ap (λ (h : Heap). h.spare) same ∙ ap (λ (h : Heap). h.spare) m.all;
}
short_after last new (Refused refusal) m same u = absurd u
short_after last new DiskFault m same u = tt
short_after last new MediaFault m same u = absurd u
short_after last new Failed m same u = tt

-- two facts of an answer
pub ok_both : {T E : Type 0} (r : Result T E) (P Q : T → Type 0) {R : T → Type 0} → ((v : T) → P v → Q v → R v) →
    IfOk r P → IfOk r Q → IfOk r R
ok_both (Ok v) P Q f p q = f v p q
ok_both (Err e) P Q f p q = tt

-- two facts of a call that has no answer but `Ok`
pub ok_two : {T E : Type 0} (r : Result T E) {P Q R : Type 0} → (P → Q → R) → OnOk r P → OnOk r Q → OnOk r R
ok_two (Ok v) f p q = f p q
ok_two (Err e) f p q = tt
