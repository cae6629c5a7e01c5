-- A thing of one block that was taken.
use Rattle.std.proofs.Common.{◌≡◌, ℕ, ◌+◌, ◌-◌, List, [], ◌∷◌, ◌++◌, length, Some, sym, ap, ◌∙◌, arith, subst, length-append}
use Rattle.std.specs.Prelude.{Option, replicate, true}
use Rattle.std.proofs.lemmas.List.{length-replicate, drop-replicate}
use Rattle.sdr_base.specs.Blocks.{Block, Blocks, overwritten, with_at, with_block}
use Rattle.sdr_base.specs.Entries.{BlocksAre}
use Rattle.sdr_base.specs.Making.{MakesThing, besides}
use Rattle.sdr_base.specs.Objects.{Heap, TakesZeros, with_bytes, with_move}
use Rattle.sdr_base.specs.Parts.{overwrite}
use Rattle.sdr_base.specs.Words.{TakesBytes}
use Rattle.sdr_base.specs.declared.kind.Kind.{Kind}
use Rattle.sdr_base.specs.declared.moves.Move.TheVariants.{Took}
use Rattle.sdr_base.proofs.ObjectsLemmas.{with_block-again, with_block-here}
use Rattle.sdr_base.proofs.StandingLemmas.{came}

-- a block that was taken is a thing that was made
pub taken_makes : {kind : Kind} {bytes : List ℕ} {addr : ℕ} {old new : Heap} → TakesBytes kind bytes addr old new →
    MakesThing (length bytes) addr ((addr, record { kind = kind; bytes = bytes }) ∷ []) old new
taken_makes {kind} {bytes} {addr} {old} {new} t = record {
  adds = record {
    nonzero = t.nonzero;
    small = t.small;
    fresh = t.fresh;
    changes = record {
      kept = λ rest s.
          subst (λ (b : Blocks). BlocksAre b ((addr, record { kind = kind; bytes = bytes }) ∷ rest))
          (sym (ap (λ (h : Heap). h.blocks) t.taken))
          (came old.blocks addr (record { kind = kind; bytes = bytes }) [] rest t.nonzero t.fresh s);
    };
  };
  made = record { all = ap besides t.taken };
}

-- bytes over the first ones of a block of zeros
overwrite-front : (from : List ℕ) (need more : ℕ) → need ≡ length from + more →
    overwrite 0 from (replicate need 0) ≡ from ++ replicate more 0
overwrite-front from need more e =
    let left : need - (0 + length from) ≡ more = omega (arith, e) in
    ap (λ (l : List ℕ). from ++ l)
    (drop-replicate (0 + length from) need 0 ∙ ap (λ (n : ℕ). replicate {A = ℕ} n 0) left)

-- a block that was taken, and whose first bytes were then written, is taken with these and with zeros behind them
pub taken_front : {kind : Kind} {need addr : ℕ} {old mid new : Heap} (from : List ℕ) (more : ℕ) → need ≡ length from + more →
    TakesZeros kind need addr old mid → new ≡ with_bytes mid addr 0 from → TakesBytes kind (from ++ replicate more 0) addr old new
taken_front {kind} {need} {addr} {old} {mid} {new} from more e t is = record {
  nonzero = t.nonzero;
  small = t.small;
  fresh = t.fresh;
  taken =
      is ∙ ap (λ (h : Heap). with_bytes h addr 0 from) t.taken
      ∙ ap (λ (b : Blocks). record (mid_heap need) { blocks = b })
      (with_block-again old.blocks addr zeros (overwritten (with_block old.blocks addr zeros addr) 0 from)
      ∙ ap (with_block old.blocks addr)
      (ap (λ (o : Option Block). overwritten o 0 from) (with_block-here old.blocks addr zeros)
      ∙ ap (λ (l : List ℕ). Some (record { kind = kind; bytes = l })) (overwrite-front from need more e)))
      ∙ ap (λ (n : ℕ). record (mid_heap n) {
        blocks = with_block old.blocks addr (Some (record { kind = kind; bytes = from ++ replicate more 0 }));
      }) counted;
}
  where
    zeros : Option Block
    zeros = Some (record { kind = kind; bytes = replicate need 0 })

    mid_heap : ℕ → Heap
    mid_heap n = record (with_move old (Took n addr)) { marks = with_at old.marks addr true }

    counted : need ≡ length (from ++ replicate {A = ℕ} more 0)
    counted =
        let l = length-append from (replicate {A = ℕ} more 0) in let z = length-replicate {A = ℕ} more 0 in
        omega (arith, e, l, z)
