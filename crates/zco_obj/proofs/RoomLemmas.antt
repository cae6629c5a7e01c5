-- Want of one of two blocks.
use Rattle.std.proofs.Common.{◌≡◌, ◌-◌, ℕ, List, [], ◌∷◌, ◌++◌, refl, sym, ap, ◌∙◌, arith, append_assoc, append-nil, inl, inr}
use Rattle.sdr_base.specs.Objects.{Heap, IsUnmoved, OnlyShort}
use Rattle.sdr_base.specs.declared.moves.Move.{Move}
use Rattle.sdr_base.specs.declared.moves.Move.TheVariants.{Short, Took}
use Rattle.sdr_base.specs.declared.refusal.Refusal.TheVariants as refusals
use Rattle.sdr_base.specs.declared.stop.Stop.{Stop}
use Rattle.sdr_base.specs.declared.stop.Stop.TheVariants.{Refused, DiskFault, MediaFault, Failed}
use Rattle.zco_obj.specs.AppendStops.{LacksRooms, TookNoMoreThanTwo}
use Rattle.zco_obj.specs.Charging.{LacksRoom}

-- neither of two blocks was taken
pub took_neither : {old new : Heap} (first second : ℕ) → IsUnmoved old new → TookNoMoreThanTwo first second old new
took_neither {old} first second u = record {
  addr = 0;
  next = 0;
  made = [];
  some = record { rest = Took first 0 ∷ Took second 0 ∷ []; whole = refl };
  moves = u.moves ∙ sym (append-nil old.moves);
  spare = let e = u.spare in omega (arith, e);
}

-- there is no room for the first one
pub first_lacks : (first second : ℕ) (old new : Heap) (stop : Stop) → LacksRoom first old new stop → LacksRooms first second old new stop
first_lacks first second old new (Refused (refusals.NoBlock missing)) l = inl l
first_lacks first second old new (Refused (refusals.LogFull lines room)) l = record {
  addr = l.addr;
  next = 0;
  made = l.made;
  some = record {
    rest = l.first.rest ++ Took second 0 ∷ [];
    whole = ap (λ (ms : List Move). ms ++ Took second 0 ∷ []) l.first.whole ∙ append_assoc l.made l.first.rest (Took second 0 ∷ []);
  };
  moves = l.moves;
  spare = l.spare;
}
first_lacks first second old new (Refused refusal) l = absurd l
first_lacks first second old new DiskFault l = l
first_lacks first second old new MediaFault l = l
first_lacks first second old new Failed l = l

-- there is none for the second one
pub second_lacks : (first second addr : ℕ) (old mid new : Heap) (stop : Stop) → mid.moves ≡ old.moves ++ Took first addr ∷ [] →
    mid.spare ≡ old.spare - 1 → OnlyShort second mid new stop → LacksRooms first second old new stop
second_lacks first second addr old mid new (Refused (refusals.NoBlock missing)) m p s =
    inr (record {
      addr = addr;
      is = s.0;
      moves = ap (λ (h : Heap). h.moves) s.1 ∙ ap (λ (ms : List Move). ms ++ Short second ∷ []) m
          ∙ append_assoc old.moves (Took first addr ∷ []) (Short second ∷ []);
      spare = let e : new.spare ≡ mid.spare - 1 = ap (λ (h : Heap). h.spare) s.1 in omega (arith, e, p);
    })
second_lacks first second addr old mid new (Refused (refusals.LogFull lines room)) m p s = record {
  addr = addr;
  next = s.addr;
  made = Took first addr ∷ s.made;
  some = record { rest = s.first.rest; whole = ap (λ (ms : List Move). Took first addr ∷ ms) s.first.whole };
  moves = s.moves ∙ ap (λ (ms : List Move). ms ++ s.made) m ∙ append_assoc old.moves (Took first addr ∷ []) s.made;
  spare = let e = s.spare in omega (arith, e, p);
}
second_lacks first second addr old mid new (Refused refusal) m p s = absurd s
second_lacks first second addr old mid new DiskFault m p s = s
second_lacks first second addr old mid new MediaFault m p s = absurd s
second_lacks first second addr old mid new Failed m p s = s
