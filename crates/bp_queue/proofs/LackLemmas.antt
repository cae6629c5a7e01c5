-- Why calls stop that take several blocks, one after another.
use Rattle.std.proofs.Common.{◌≡◌, ℕ, List, [], ◌∷◌, ◌++◌, refl, sym, ap, ◌∙◌, append_assoc, append-nil}
use Rattle.sdr_base.specs.Making.{Made}
use Rattle.sdr_base.specs.Objects.{Heap, OnlyShort, OnlyUnmoved, TookNoMore}
use Rattle.sdr_base.specs.declared.moves.Move.{Move}
use Rattle.sdr_base.specs.declared.moves.Move.TheVariants.{Short, Took}
use Rattle.sdr_base.specs.declared.refusal.Refusal.TheVariants as refusals
use Rattle.sdr_base.specs.declared.stop.Stop.{Stop}
use Rattle.sdr_base.specs.declared.stop.Stop.TheVariants.{Refused, DiskFault, MediaFault, Failed}
use Rattle.bp_queue.specs.Lacking.{LacksRoom, TakenBlock, TookSome, needs_of, took_blocks}

-- a first part of a list of one is empty or all
one_of : {X : Type 0} (x y : X) (ys rest : List X) → x ∷ [] ≡ (y ∷ ys) ++ rest → y ∷ ys ≡ x ∷ []
one_of x y [] rest e = let f : x ∷ [] ≡ y ∷ rest = e in cc
one_of x y (z ∷ zs) rest e = absurd (let f : x ∷ [] ≡ y ∷ z ∷ (zs ++ rest) = e in cc)

-- the first one of them
took_no_more : {need : ℕ} {old new : Heap} (more : List ℕ) → TookNoMore need old new → TookSome (need ∷ more) old new
took_no_more {need} {old} {new} more t = by t.made t.first.whole t.moves
  where
    by : (made : List Move) → Took need t.addr ∷ [] ≡ made ++ t.first.rest → new.moves ≡ old.moves ++ made → TookSome (need ∷ more) old new
    by [] whole moves = record { taken = []; more = need ∷ more; wanted = refl; moves = moves }
    by (m ∷ ms) whole moves = record {
      taken = record { need = need; addr = t.addr } ∷ [];
      more = more;
      wanted = refl;
      moves = moves ∙ ap (λ (xs : List Move). old.moves ++ xs) (one_of (Took need t.addr) m ms t.first.rest whole);
    }

pub first_lacks : (need : ℕ) (more : List ℕ) (old new : Heap) (stop : Stop) → OnlyShort need old new stop → LacksRoom (need ∷ more) old new stop
first_lacks need more old new (Refused (refusals.NoBlock missing)) s = record {
  taken = [];
  more = more;
  wanted = ap (λ n. n ∷ more) (sym s.0);
  moves = ap (λ (h : Heap). h.moves) s.1 ∙ ap (λ n. old.moves ++ (Short n ∷ [])) (sym s.0);
}
first_lacks need more old new (Refused (refusals.LogFull lines room)) s = took_no_more more s
first_lacks need more old new (Refused refusal) s = absurd s
first_lacks need more old new DiskFault s = tt
first_lacks need more old new MediaFault s = absurd s
first_lacks need more old new Failed s = tt

-- one was taken before
pub then_lacks : {need addr : ℕ} {old mid : Heap} (needs : List ℕ) (new : Heap) (stop : Stop) → Made (Took need addr ∷ []) old mid →
    LacksRoom needs mid new stop → LacksRoom (need ∷ needs) old new stop
then_lacks {need} {addr} {old} {mid} needs new (Refused (refusals.NoBlock missing)) m s = record {
  taken = record { need = need; addr = addr } ∷ s.taken;
  more = s.more;
  wanted = ap (λ ns. need ∷ ns) s.wanted;
  moves =
      s.moves ∙ ap (λ (xs : List Move). xs ++ (took_blocks s.taken ++ (Short missing ∷ []))) (ap (λ (h : Heap). h.moves) m.all)
      ∙ append_assoc old.moves (Took need addr ∷ []) (took_blocks s.taken ++ (Short missing ∷ []));
}
then_lacks {need} {addr} {old} {mid} needs new (Refused (refusals.LogFull lines room)) m s = record {
  taken = record { need = need; addr = addr } ∷ s.taken;
  more = s.more;
  wanted = ap (λ ns. need ∷ ns) s.wanted;
  moves =
      s.moves ∙ ap (λ (xs : List Move). xs ++ took_blocks s.taken) (ap (λ (h : Heap). h.moves) m.all)
      ∙ append_assoc old.moves (Took need addr ∷ []) (took_blocks s.taken);
}
then_lacks needs new (Refused refusal) m s = absurd s
then_lacks needs new DiskFault m s = s
then_lacks needs new MediaFault m s = s
then_lacks needs new Failed m s = s

-- all were taken, and no more was done to the pools
pub all_lack : {old last : Heap} (taken : List TakenBlock) → Made (took_blocks taken) old last → (new : Heap) (stop : Stop) →
    OnlyUnmoved last new stop → LacksRoom (needs_of taken) old new stop
all_lack {old} {last} taken m new (Refused (refusals.LogFull lines room)) u = record {
  taken = taken;
  more = [];
  wanted = sym (append-nil (needs_of taken));
  moves = u.moves ∙ ap (λ (h : Heap). h.moves) m.all;
}
all_lack taken m new (Refused refusal) u = absurd u
all_lack taken m new DiskFault u = tt
all_lack taken m new MediaFault u = absurd u
all_lack taken m new Failed u = tt
