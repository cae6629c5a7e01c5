-- What follows one another in a ground.
use Rattle.std.proofs.Common.{◌≡◌, ◌∙◌, ◌≤◌, ◌+◌, ℕ, suc, List, Bool, true, false, true≢false, refl, subst, inl, arith}
use Rattle.std.proofs.Common.{nat_le}
use Rattle.std.proofs.lemmas.Bool.{leb-false, leb-true}
use Rattle.sdr_base.proofs.WrittenLemmas.{rose_later}
use Rattle.sdr_machine.specs.Crash.{LeavesBefore, LeavesEither, LeavesOr}
use Rattle.sdr_machine.specs.Lapses.{Lapses, LapsesLast}
use Rattle.sdr_machine.specs.Ground.{State, HasHeap}
use Rattle.sdr_machine.specs.Serving.{Brings, KeepsGround, MeetsFault, SameStates}
use Rattle.sdr_machine.specs.Standing.{GroundState}
use Rattle.sdr_machine.specs.declared.has_ground.HasGround.{Ghosts}

-- what was told of the two is told otherwise
pub brings_also : {T : Type 0} {stands : T → GroundState → Type 0} {old new : T}
    {P Q : GroundState → GroundState → Type 0}
    → ((v v' : GroundState) → P v v' → Q v v') → Brings stands old new P → Brings stands old new Q
brings_also also brings = record {
  each = λ v at. let s = brings.each v at in record { for = s.for; holds = s.holds; tells = also v s.for s.tells };
}

-- where nothing was done, it stands for the same
pub brings_same : {T : Type 0} {stands : T → GroundState → Type 0} {t : T} {P : GroundState → GroundState → Type 0}
    → ((v : GroundState) → P v v) → Brings stands t t P
brings_same tells = record { each = λ v at. record { for = v; holds = at; tells = tells v } }

-- one after another
pub brings_then : {T : Type 0} {stands : T → GroundState → Type 0} {a b c : T}
    {P Q R : GroundState → GroundState → Type 0}
    → ((v v' v'' : GroundState) → P v v' → Q v' v'' → R v v'') → Brings stands a b P → Brings stands b c Q → Brings stands a c R
brings_then both first second = record {
  each = λ v at.
      let s = first.each v at in
      let t = second.each s.for s.holds in
      record { for = t.for; holds = t.holds; tells = both v s.for t.for s.tells t.tells };
}

-- it stands still
pub still_same : (v : GroundState) → SameStates v v
still_same v = record { before = refl; now = refl }

pub still_then : (v v' v'' : GroundState) → SameStates v v' → SameStates v' v'' → SameStates v v''
still_then v v' v'' first second = record { before = second.before ∙ first.before; now = second.now ∙ first.now }

-- counts that didn't fall
pub lapses_same : (gaps : Lapses) → LapsesLast gaps gaps
lapses_same gaps = record { faults = omega arith; short = omega arith }

lapses_then : (a b c : Lapses) → LapsesLast a b → LapsesLast b c → LapsesLast a c
lapses_then a b c first second = record {
  faults = omega (arith, first.faults, second.faults);
  short = omega (arith, first.short, second.short);
}

module _ {T : Type 0} (g : Ghosts T) where
  -- where nothing is asked, a ground is kept
  pub keeps_same : (t : T) → KeepsGround g false t t
  keeps_same t = record {
    later = omega arith;
    lapses = lapses_same (g.lapses t);
    media = refl;
    unasked = λ _. refl;
    lasts = λ n lasts. lasts;
  }

  -- it is kept one after another
  pub keeps_then : {a b c : T} → KeepsGround g false a b → KeepsGround g false b c → KeepsGround g false a c
  keeps_then first second = record {
    later = omega (arith, first.later, second.later);
    lapses = lapses_then _ _ _ first.lapses second.lapses;
    media = second.media ∙ first.media;
    unasked = λ is. second.unasked is ∙ first.unasked is;
    lasts = λ n lasts. second.lasts n (first.lasts n lasts);
  }

  -- fewer calls are spent
  pub keeps_more : {a b : T} → KeepsGround g false a b → KeepsGround g true a b
  keeps_more {a} kept = record {
    later = kept.later;
    lapses = kept.lapses;
    media = kept.media;
    unasked = λ is. absurd (true≢false is);
    lasts = λ n lasts. kept.lasts n (g.lasts_less a n lasts);
  }

  -- a fault behind something that stood still
  pub fault_then : {a b c : T} → Brings g.stands a b SameStates → KeepsGround g false a b → MeetsFault g b c → MeetsFault g a c
  fault_then first kept fault = record {
    heap = λ v at. let s = first.each v at in subst (λ (x : State). HasHeap x.base) s.tells.before (fault.heap s.for s.holds);
    cause = rose_later _ _ _ kept.later fault.cause;
  }

  -- where nothing was done, a crash leaves the state before
  pub leaves_same : (t : T) → LeavesBefore g t t
  leaves_same t = record {
    each = λ v at. record {
      later = omega arith;
      each = λ m image ge le l. let same : m ≡ g.moment t = omega arith in g.crash_now t v image at (subst (λ (n : ℕ). g.left t n image) same l);
      past = λ m image le l. l;
    };
  }

  -- where the one before stood still, a crash leaves the same in both
  pub leaves_then : {a b c : T} → Brings g.stands a b SameStates → LeavesBefore g a b → LeavesBefore g b c → LeavesBefore g a c
  leaves_then {a} {b} {c} first one two = record {
    each = λ v at.
        let s = first.each v at in
        let e = one.each v at in
        let f = two.each s.for s.holds in
        record {
          later = omega (arith, e.later, f.later);
          each = λ m image ge le l. step v s.for s.tells.before e.each (e.past) f.each f.past m image ge le l (nat_le m (g.moment b)) refl;
          past = λ m image le l. e.past m image le (f.past m image (omega (arith, le, e.later)) l);
        };
  }
    where
      step : (v w : GroundState) → w.before ≡ v.before
          → ((m : ℕ) (image : List ℕ) → g.moment a ≤ m → m ≤ g.moment b → g.left b m image → g.opens image v.before)
          → ((m : ℕ) (image : List ℕ) → m ≤ g.moment a → g.left b m image → g.left a m image)
          → ((m : ℕ) (image : List ℕ) → g.moment b ≤ m → m ≤ g.moment c → g.left c m image → g.opens image w.before)
          → ((m : ℕ) (image : List ℕ) → m ≤ g.moment b → g.left c m image → g.left b m image)
          → (m : ℕ) (image : List ℕ) → g.moment a ≤ m → m ≤ g.moment c → g.left c m image → (b' : Bool) → nat_le m (g.moment b) ≡ b' → g.opens image v.before
      step v w same e_each e_past f_each f_past m image ge le l true is =
          e_each m image ge (leb-true _ _ is) (f_past m image (leb-true _ _ is) l)
      step v w same e_each e_past f_each f_past m image ge le l false is =
          let above = leb-false _ _ is in
          subst (λ (s : State). g.opens image s) same (f_each m image (omega (arith, above)) le l)

  -- what leaves the state before leaves one of the two
  pub leaves_either : {a b : T} → LeavesBefore g a b → LeavesEither g a b
  leaves_either before = record {
    each = λ v at. let a = before.each v at in record { later = a.later; each = λ m image ge le l. inl (a.each m image ge le l); past = a.past };
  }

  pub leaves_or : {a b : T} (keeps : Bool) → LeavesBefore g a b → LeavesOr keeps g a b
  leaves_or true before = leaves_either before
  leaves_or false before = before

-- what leaves room for one more leaves room
pub one_less : (made more most : ℕ) → made + suc more ≤ most → made + more ≤ most
one_less made more most within = omega (arith, within)
