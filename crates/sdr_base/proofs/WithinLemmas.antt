-- Which lines calls touch, one after another.
use Rattle.std.proofs.Common.{◌≡◌, ◌⊎◌, inl, inr, ℕ, List, [], ◌++◌, subst, sym}
use Rattle.std.proofs.lemmas.List.Elements.{Contains-append_left, Contains-append_right}
use Rattle.std.specs.Prelude.{Contains, Result, Ok, Err}
use Rattle.sdr_base.specs.Cells.{AddsLines, TouchesWithin}
use Rattle.sdr_base.specs.Transaction.{Transaction, UnlessFault}
use Rattle.sdr_base.specs.declared.stop.Stop.{Stop}
use Rattle.sdr_base.specs.declared.stop.Stop.TheVariants.{Refused, DiskFault, MediaFault, Failed}
use Rattle.sdr_base.proofs.CellsLemmas.{adds_none}

adds_more : {own more before after : List ℕ} → ((line : ℕ) → Contains own line → Contains more line) → AddsLines own before after →
    AddsLines more before after
adds_more {own} {more} {before} {after} among a = record {
  kept = a.kept;
  among = λ line has. elim (a.among line has) [
    | inl was ↦ inl was
    | inr new ↦ inr (among line new)
  ];
}

adds_then : {first second before mid after : List ℕ} → AddsLines first before mid → AddsLines second mid after →
    AddsLines (first ++ second) before after
adds_then {first} {second} {before} {mid} {after} f s = record {
  kept = λ line has. s.kept line (f.kept line has);
  among = λ line has. elim (s.among line has) [
    | inl then ↦ elim (f.among line then) [
      | inl was ↦ inl was
      | inr new ↦ inr (Contains-append_left first second line new)
    ]
    | inr new ↦ inr (Contains-append_right first second line new)
  ];
}

unless_fault : {T : Type 0} {P Q : Type 0} (r : Result T Stop) → (P → Q) → UnlessFault r P → UnlessFault r Q
unless_fault (Ok value) f h = f h
unless_fault (Err (Refused refusal)) f h = f h
unless_fault (Err DiskFault) f h = tt
unless_fault (Err MediaFault) f h = tt
unless_fault (Err Failed) f h = tt

always : {T : Type 0} {P : Type 0} (r : Result T Stop) → P → UnlessFault r P
always (Ok value) p = p
always (Err (Refused refusal)) p = p
always (Err DiskFault) p = tt
always (Err MediaFault) p = tt
always (Err Failed) p = tt

-- a call that touched no line more
pub within_none : {T : Type 0} {a b : Transaction} (own : List ℕ) (r : Result T Stop) → b.touched ≡ a.touched → TouchesWithin own a b r
within_none {T} {a} {b} own r same = record { adds = always r (adds_none own a.touched b.touched same) }

-- a call behind another touches the lines of both
pub within_then : {T U : Type 0} {first second : List ℕ} {a b c : Transaction} {v : U} {r : Result T Stop} →
    TouchesWithin first a b (Ok v) → TouchesWithin second b c r → TouchesWithin (first ++ second) a c r
within_then {T} {U} {first} {second} {a} {b} {c} {v} {r} f s = record { adds = unless_fault r (λ more. adds_then f.adds more) s.adds }

-- a call that touches lines of these touches lines of more
pub within_more : {T : Type 0} {own : List ℕ} {a b : Transaction} {r : Result T Stop} (more : List ℕ) →
    ((line : ℕ) → Contains own line → Contains more line) → TouchesWithin own a b r → TouchesWithin more a b r
within_more {T} {own} {a} {b} {r} more among t = record { adds = unless_fault r (adds_more among) t.adds }

-- more behind them
pub within_front : {T : Type 0} {own : List ℕ} {a b : Transaction} {r : Result T Stop} (others : List ℕ) → TouchesWithin own a b r →
    TouchesWithin (own ++ others) a b r
within_front {T} {own} others t = within_more (own ++ others) (Contains-append_left own others) t

-- which lines a stop touches doesn't depend on what would have been answered
pub within_stopped : {T U : Type 0} {own : List ℕ} {a b : Transaction} (stop : Stop) → TouchesWithin {T = T} own a b (Err stop) →
    TouchesWithin {T = U} own a b (Err stop)
within_stopped (Refused refusal) t = record { adds = t.adds }
within_stopped DiskFault t = record { adds = tt }
within_stopped MediaFault t = record { adds = tt }
within_stopped Failed t = record { adds = tt }

-- nor those of an answer on its value
pub within_ok : {T U : Type 0} {own : List ℕ} {a b : Transaction} {v : T} {u : U} → TouchesWithin own a b (Ok v) → TouchesWithin own a b (Ok u)
within_ok t = record { adds = t.adds }
