-- What is neither a source nor an object is in no tally.
use Rattle.std.proofs.Common.{◌≡◌, ◌∙◌, ap, sym, subst, ℕ, true, List, Option, Some, None, refl, arith}
use Rattle.std.specs.BTreeMap.{BTreeMap}
use Rattle.std.specs.FinMap.{get, remove}
use Rattle.std.specs.Option.{option_and_then, option_map}
use Rattle.std.specs.Prelude.{IfSome}
use Rattle.sdr_base.specs.declared.account.Acct.{Acct}
use Rattle.sdr_base.specs.declared.kind.Space.{Space}
use Rattle.sdr_model.specs.Things.{Things}
use Rattle.sdr_model.specs.Zco.{naming}
use Rattle.sdr_model.specs.declared.things.Thing.{Thing}
use Rattle.sdr_model.specs.declared.things.Thing.TheVariants as things
use Rattle.mem_store.specs.Charged.{own_extents}
use Rattle.mem_store.specs.Store.{ChangesAt, begun_at, now_at, place_at, settled, things_at, with_thing}
use Rattle.mem_store.specs.Tallies.{AreNoted, AreTallied, Tallies, charge_named, counted, is_plain, raw_named}
use Rattle.mem_store.specs.declared.place.Place.{Place}
use Rattle.mem_store.specs.declared.place.Stays.TheVariants as stays
use Rattle.mem_store.specs.declared.tallied.Tallied.{Tallied}
use Rattle.mem_store.specs.declared.tally.Tally.{Tally}
use Rattle.mem_store.proofs.RawsLemmas.{AreNoted-other, noted-left}
use Rattle.mem_store.proofs.StoreLemmas.{thing_at, thing_at-here, things_at-others}
use Rattle.mem_store.proofs.TallyLemmas.{charges-rest, count-rest}

plain-charge : (n : ℕ) (acct : Acct) (space : Space) (o : Option Thing) → is_plain o ≡ true → charge_named n acct space o ≡ 0
plain-charge n acct space None is = refl
plain-charge n acct space (Some (things.Source s)) is = absurd cc
plain-charge n acct space (Some (things.Object z)) is = absurd cc
plain-charge n acct space (Some t) is = refl

plain-names : (at : ℕ) (acct : Acct) (o : Option Thing) → is_plain o ≡ true → naming at (own_extents acct o) ≡ 0
plain-names at acct None is = refl
plain-names at acct (Some (things.Source s)) is = absurd cc
plain-names at acct (Some (things.Object z)) is = absurd cc
plain-names at acct (Some t) is = refl

plain-raw : (o : Option Thing) → is_plain o ≡ true → raw_named o ≡ None
plain-raw None is = refl
plain-raw (Some (things.Source s)) is = absurd cc
plain-raw (Some (things.Object z)) is = absurd cc
plain-raw (Some t) is = refl

module _ (all : Things) (k : ℕ) (plain : is_plain (get all k) ≡ true) where
  entered : (acct : Acct) (o : Option Tally) → IfSome o (Tallies acct (remove all k)) → IfSome o (Tallies acct all)
  entered acct None are = are
  entered acct (Some t) are = record {
    counts = λ at. omega (arith, are.counts at, count-rest all acct k at, plain-names at acct (get all k) plain);
    sums = record {
      each = λ space.
          omega (
            arith,
            are.sums.each space,
            charges-rest all acct space (counted t) k,
            plain-charge (counted t k) acct space (get all k) plain,
          );
    };
  }

  left : (acct : Acct) (o : Option Tally) → IfSome o (Tallies acct all) → IfSome o (Tallies acct (remove all k))
  left acct None are = are
  left acct (Some t) are = record {
    counts = λ at. omega (arith, are.counts at, count-rest all acct k at, plain-names at acct (get all k) plain);
    sums = record {
      each = λ space.
          omega (
            arith,
            are.sums.each space,
            charges-rest all acct space (counted t) k,
            plain-charge (counted t k) acct space (get all k) plain,
          );
    };
  }

  noted-entered : (o : Option (BTreeMap ℕ ℕ)) → IfSome o (AreNoted (remove all k)) → IfSome o (AreNoted all)
  noted-entered None are = are
  noted-entered (Some raws) are = AreNoted-other all k raws (plain-raw (get all k) plain) are

  -- the tallies of the other things are those with it
  pub AreTallied-entered : (t : Tallied) → AreTallied (remove all k) t → AreTallied all t
  AreTallied-entered t are = record {
    inbound = entered _ t.inbound are.inbound;
    outbound = entered _ t.outbound are.outbound;
    raws = noted-entered t.raws are.raws;
  }

  -- those with it are of the other things
  pub AreTallied-left : (t : Tallied) → AreTallied all t → AreTallied (remove all k) t
  AreTallied-left t are = record {
    inbound = left _ t.inbound are.inbound;
    outbound = left _ t.outbound are.outbound;
    raws = noted-left all k t.raws are.raws;
  }

-- what is at a place where this was put is plain, where this is
pub plain-put : (thing : Option Thing) (o : Option Place) → is_plain thing ≡ true → is_plain (option_and_then now_at (option_map (with_thing thing) o)) ≡ true
plain-put thing None is = refl
plain-put thing (Some place) is = is

-- what is at a place behind a roll back is what was there at the begin
pub rolled_back : (o : Option Place) → option_and_then now_at (option_and_then (settled stays.Begun) o) ≡ option_and_then begun_at o
rolled_back o = grind arith

-- where something plain takes the place of something plain, the tallies stay
pub AreTallied-changed : (old new : List (ℕ × Place)) (k : ℕ) (f : Option Place → Option Place) → ChangesAt old new k f
    → is_plain (option_and_then now_at (f (place_at old k))) ≡ true → is_plain (option_and_then now_at (place_at old k)) ≡ true
    → (t : Tallied) → AreTallied (things_at now_at old) t → AreTallied (things_at now_at new) t
AreTallied-changed old new k f changes is was t are =
    AreTallied-entered (things_at now_at new) k (ap is_plain (thing_at-here old new k f changes now_at) ∙ is) t
    (subst (λ all. AreTallied all t) (sym (things_at-others old new k f changes now_at))
    (AreTallied-left (things_at now_at old) k (ap is_plain (thing_at now_at old k) ∙ was) t are))
