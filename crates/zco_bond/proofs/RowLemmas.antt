-- A call of several moves stops in one of the calls that make them.
use Rattle.std.proofs.Common.{◌≡◌, ◌-◌, ℕ, List, [], ◌∷◌, ◌++◌, length, refl, sym, ap, ◌∙◌, arith, append_assoc, append-nil, length-append}
use Rattle.sdr_base.specs.Making.{Made}
use Rattle.sdr_base.specs.Objects.{Heap, OnlyFault, OnlyShort, OnlyUnmoved}
use Rattle.sdr_base.specs.Wanting.{OnlyWanting}
use Rattle.sdr_base.specs.declared.moves.Move.{Move}
use Rattle.sdr_base.specs.declared.moves.Move.TheVariants.{Short, Took}
use Rattle.sdr_base.specs.declared.refusal.Refusal.TheVariants as refusals
use Rattle.sdr_base.specs.declared.stop.Stop.{Stop}
use Rattle.sdr_base.specs.declared.stop.Stop.TheVariants.{Refused, DiskFault, MediaFault, Failed}
use Rattle.zco_bond.specs.Rows.{LacksAmong, MadeAmong, RowStops}

-- a list of moves that All allows has these first, then those, and some others behind
pub record Goes (All : List Move → Type 0) (ms t : List Move) : Type 0 where
  pub more : List Move
  pub is : All (ms ++ (t ++ more))

-- a block for so many bytes is taken
pub record TookOne (need : ℕ) (moves : List Move) : Type 0 where
  pub addr : ℕ
  pub is : moves ≡ Took need addr ∷ []

-- no move is made
pub record NoMove (moves : List Move) : Type 0 where
  pub is : moves ≡ []

-- a fault
pub fault_stops : (Row : List Move → Type 0) (old new : Heap) (stop : Stop) → OnlyFault stop → RowStops Row old new stop
fault_stops Row old new (Refused refusal) f = absurd f
fault_stops Row old new DiskFault f = f
fault_stops Row old new MediaFault f = f
fault_stops Row old new Failed f = f

-- a call that stops so stops for want alone
pub rows_want : (Row : List Move → Type 0) (old new : Heap) (stop : Stop) → RowStops Row old new stop → OnlyWanting stop
rows_want Row old new (Refused (refusals.NoBlock missing)) s = tt
rows_want Row old new (Refused (refusals.LogFull lines room)) s = tt
rows_want Row old new (Refused refusal) s = absurd s
rows_want Row old new DiskFault s = tt
rows_want Row old new MediaFault s = s
rows_want Row old new Failed s = tt

-- no block was taken
pub short_stops : (need : ℕ) (old new : Heap) (stop : Stop) → OnlyShort need old new stop → RowStops (TookOne need) old new stop
short_stops need old new (Refused (refusals.NoBlock missing)) s = record {
  all = Took need 0 ∷ [];
  row = record { addr = 0; is = refl };
  made = [];
  addr = 0;
  first = record { rest = []; whole = ap (λ n. Took n 0 ∷ []) (sym s.0) };
  moves = ap (λ (h : Heap). h.moves) s.1 ∙ ap (λ n. old.moves ++ Short n ∷ []) (sym s.0);
  spare = ap (λ (h : Heap). h.spare) s.1;
}
short_stops need old new (Refused (refusals.LogFull lines room)) s = record {
  all = Took need s.addr ∷ [];
  row = record { addr = s.addr; is = refl };
  made = s.made;
  first = s.first;
  moves = s.moves;
  spare = s.spare;
}
short_stops need old new (Refused refusal) s = absurd s
short_stops need old new DiskFault s = s
short_stops need old new MediaFault s = absurd s
short_stops need old new Failed s = s

-- no move was made
pub unmoved_stops : (old new : Heap) (stop : Stop) → OnlyUnmoved old new stop → RowStops NoMove old new stop
unmoved_stops old new (Refused (refusals.LogFull lines room)) u = record {
  all = [];
  row = record { is = refl };
  made = [];
  first = record { rest = []; whole = refl };
  moves = u.moves ∙ sym (append-nil old.moves);
  spare = let e = u.spare in omega (arith, e);
}
unmoved_stops old new (Refused refusal) u = absurd u
unmoved_stops old new DiskFault u = u
unmoved_stops old new MediaFault u = absurd u
unmoved_stops old new Failed u = u

-- some first ones of these are some first ones of more
longer : (ms all rest more made : List Move) → all ≡ made ++ rest → ms ++ (all ++ more) ≡ (ms ++ made) ++ (rest ++ more)
longer ms all rest more made e =
    ap (λ (l : List Move). ms ++ (l ++ more)) e ∙ ap (λ (l : List Move). ms ++ l) (append_assoc made rest more)
    ∙ sym (append_assoc ms made (rest ++ more))

module _ (Row All : List Move → Type 0) (ms : List Move) {old mid : Heap} (m : Made ms old mid)
    (goes : (t : List Move) → Row t → Goes All ms t) where
  spare_mid : mid.spare ≡ old.spare - length ms
  spare_mid = ap (λ (h : Heap). h.spare) m.all

  moves_mid : mid.moves ≡ old.moves ++ ms
  moves_mid = ap (λ (h : Heap). h.moves) m.all

  lacks_then : {new : Heap} (missing : ℕ) → LacksAmong Row missing mid new → LacksAmong All missing old new
  lacks_then {new} missing l =
      let g = goes l.all l.row in
      record {
        all = ms ++ (l.all ++ g.more);
        row = g.is;
        made = ms ++ l.made;
        addr = l.addr;
        first = record {
          rest = l.first.rest ++ g.more;
          whole =
              longer ms l.all l.first.rest g.more (l.made ++ Took missing l.addr ∷ []) l.first.whole
              ∙ ap (λ (xs : List Move). xs ++ (l.first.rest ++ g.more)) (sym (append_assoc ms l.made (Took missing l.addr ∷ [])));
        };
        moves =
            l.moves ∙ ap (λ (xs : List Move). xs ++ (l.made ++ Short missing ∷ [])) moves_mid
            ∙ append_assoc old.moves ms (l.made ++ Short missing ∷ [])
            ∙ ap (λ (xs : List Move). old.moves ++ xs) (sym (append_assoc ms l.made (Short missing ∷ [])));
        spare =
            let a = l.spare in let b = spare_mid in let n = length-append ms l.made in omega (arith, a, b, n);
      }

  made_then_some : {new : Heap} → MadeAmong Row mid new → MadeAmong All old new
  made_then_some {new} l =
      let g = goes l.all l.row in
      record {
        all = ms ++ (l.all ++ g.more);
        row = g.is;
        made = ms ++ l.made;
        first = record { rest = l.first.rest ++ g.more; whole = longer ms l.all l.first.rest g.more l.made l.first.whole };
        moves =
            l.moves ∙ ap (λ (xs : List Move). xs ++ l.made) moves_mid ∙ append_assoc old.moves ms l.made;
        spare = let a = l.spare in let b = spare_mid in let n = length-append ms l.made in omega (arith, a, b, n);
      }

  -- it stops after these moves
  pub stops_then : (new : Heap) (stop : Stop) → RowStops Row mid new stop → RowStops All old new stop
  stops_then new (Refused (refusals.NoBlock missing)) s = lacks_then missing s
  stops_then new (Refused (refusals.LogFull lines room)) s = made_then_some s
  stops_then new (Refused refusal) s = absurd s
  stops_then new DiskFault s = s
  stops_then new MediaFault s = s
  stops_then new Failed s = s
