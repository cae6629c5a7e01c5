-- What things charge one account moves, and another's stays.
use Rattle.std.proofs.Common.{◌≡◌, ℕ, ◌+◌, ◌==◌, false, Option, Some, None, refl, ap, ◌∙◌, arith, if◌then◌else◌}
use Rattle.std.specs.FinMap as finite
use Rattle.std.specs.Option.{option_map}
use Rattle.std.specs.Prelude.{IfSome}
use Rattle.sdr_base.specs.declared.account.Acct.{Acct}
use Rattle.sdr_base.specs.declared.kind.Space.{Space}
use Rattle.law_steps.proofs.ChargeLemmas.{charge_moves, count_moves, named_part_at, object_part_at, same_account, things_charge, uses_in_at}
use Rattle.law_steps.proofs.SourceCharges.{counts, named_same}
use Rattle.law_steps.proofs.SourceMoves.{SourcesMove, naming_in, nothing}
use Rattle.law_steps.specs.Charged.{charge_in}
use Rattle.sdr_model.specs.Accounts.{is_same_account}
use Rattle.sdr_model.specs.Charges.{object_charge}
use Rattle.sdr_model.specs.Things.{with_at, Things}
use Rattle.sdr_model.specs.Zco.{naming}
use Rattle.sdr_model.specs.declared.things.Thing.{Thing}
use Rattle.sdr_model.specs.declared.things.Thing.TheVariants as things
use Rattle.sdr_model.specs.declared.zco.ZcoObject.{ZcoObject}

-- what things charge is the same, whichever the account
abbrev pub SameCharge : Things → Things → Type 0
SameCharge m n = (acct : Acct) (space : Space) → things_charge n acct space ≡ things_charge m acct space

-- what things charge one account moves by this, and another one's charge stays
pub record MovesCharge (m n : Things) (acct : Acct) (adds frees : Space → ℕ) : Type 0 where
  pub own : (space : Space)
      → things_charge n acct space + frees space ≡ things_charge m acct space + adds space
  pub other : (b : Acct) → is_same_account b acct ≡ false → (space : Space)
      → things_charge n b space ≡ things_charge m b space

pub same_moves : {m n : Things} (acct : Acct) → SameCharge m n → MovesCharge m n acct nothing nothing
same_moves acct same = record {
  own = λ space. omega (arith, same acct space);
  other = λ b apart space. same b space;
}

-- the object at an address, if there is one
abbrev thing_of : Option ZcoObject → Option Thing
thing_of z = option_map (λ z. things.Object z) z

-- what an object charges its account for itself, and how often it names a source there; another account is charged nothing
own_charge : (acct : Acct) (space : Space) (z : Option ZcoObject) → IfSome z (λ z. z.account ≡ acct)
    → object_part_at acct space (thing_of z) ≡ charge_in space z
own_charge acct space None h = refl
own_charge acct space (Some z) h =
    ap (λ b. if b then object_charge space z else 0) (ap (is_same_account acct) h ∙ same_account acct)

own_uses : (q : ℕ) (acct : Acct) (z : Option ZcoObject) → IfSome z (λ z. z.account ≡ acct)
    → uses_in_at q acct (thing_of z) ≡ naming_in q z
own_uses q acct None h = refl
own_uses q acct (Some z) h =
    ap (λ b. if b then naming q z.extents else 0) (ap (is_same_account acct) h ∙ same_account acct)

other_charge : (acct b : Acct) (space : Space) (z : Option ZcoObject) → IfSome z (λ z. z.account ≡ acct)
    → is_same_account b acct ≡ false → object_part_at b space (thing_of z) ≡ 0
other_charge acct b space None h apart = refl
other_charge acct b space (Some z) h apart =
    ap (λ t. if t then object_charge space z else 0) (ap (is_same_account b) h ∙ apart)

other_uses : (q : ℕ) (acct b : Acct) (z : Option ZcoObject) → IfSome z (λ z. z.account ≡ acct)
    → is_same_account b acct ≡ false → uses_in_at q b (thing_of z) ≡ 0
other_uses q acct b None h apart = refl
other_uses q acct b (Some z) h apart =
    ap (λ t. if t then naming q z.extents else 0) (ap (is_same_account b) h ∙ apart)

no_bytes : (n : ℕ) (space : Space) (z : Option ZcoObject) → named_part_at n space (thing_of z) ≡ 0
no_bytes n space None = refl
no_bytes n space (Some z) = refl

-- how many extents of an account's objects name each source, where this object is at an address
abbrev now : Things → ℕ → Option ZcoObject → Acct → ℕ → ℕ
now m addr z = counts (with_at m addr (thing_of z))

-- An object of an account is another, comes or goes: it charges this more for itself and for the sources that it names, and
-- this less.
pub object_moves : (m : Things) (addr : ℕ) (acct : Acct) (old new : Option ZcoObject) (adds frees : Space → ℕ)
    {more less : Space → ℕ} → finite.get m addr ≡ option_map (λ z. things.Object z) old
    → IfSome old (λ z. z.account ≡ acct) → IfSome new (λ z. z.account ≡ acct) → SourcesMove m acct old new more less
    → ((space : Space) → charge_in space new + more space + frees space ≡ charge_in space old + less space + adds space)
    → MovesCharge m (with_at m addr (option_map (λ z. things.Object z) new)) acct adds frees
object_moves m addr acct old new adds frees {more} {less} was of_old of_new sources charge = record {
  own = λ space.
      omega (
        arith,
        charge_moves m addr (thing_of new) acct space,
        ap (object_part_at acct space) was,
        own_charge acct space old of_old,
        own_charge acct space new of_new,
        ap (named_part_at (now m addr new acct addr) space) was,
        no_bytes (now m addr new acct addr) space old,
        no_bytes (now m addr new acct addr) space new,
        sources.moved (now m addr new acct)
            (λ q. omega (
              arith,
              count_moves m addr (thing_of new) acct q,
              ap (uses_in_at q acct) was,
              own_uses q acct old of_old,
              own_uses q acct new of_new,
            ))
            space,
        charge space,
      );
  other = λ b apart space.
      omega (
        arith,
        charge_moves m addr (thing_of new) b space,
        ap (object_part_at b space) was,
        other_charge acct b space old of_old apart,
        other_charge acct b space new of_new apart,
        ap (named_part_at (now m addr new b addr) space) was,
        no_bytes (now m addr new b addr) space old,
        no_bytes (now m addr new b addr) space new,
        named_same m space (counts m b) (now m addr new b) (λ q.
            let stays : now m addr new b q ≡ counts m b q =
            omega (
              arith,
              count_moves m addr (thing_of new) b q,
              ap (uses_in_at q b) was,
              other_uses q acct b old of_old apart,
              other_uses q acct b new of_new apart,
            ) in
            ap (λ n. n == 0) stays),
      );
}

-- one charge after another
pub after_same : {m n p : Things} {acct : Acct} {adds frees : Space → ℕ} → SameCharge m n
    → MovesCharge n p acct adds frees
    → MovesCharge m p acct adds frees
after_same {acct = acct} same moves = record {
  own = λ space. omega (arith, same acct space, moves.own space);
  other = λ b apart space. moves.other b apart space ∙ same b space;
}

pub before_same : {m n p : Things} {acct : Acct} {adds frees : Space → ℕ} → MovesCharge m n acct adds frees
    → SameCharge n p
    → MovesCharge m p acct adds frees
before_same {acct = acct} moves same = record {
  own = λ space. omega (arith, same acct space, moves.own space);
  other = λ b apart space. same b space ∙ moves.other b apart space;
}

-- the same things
pub same_things_charge : {m n : Things} → n ≡ m → SameCharge m n
same_things_charge same acct space = ap (λ m. things_charge m acct space) same

pub at_object : {m n p : Things} {acct : Acct} {adds frees : Space → ℕ} → p ≡ n → MovesCharge m n acct adds frees
    → MovesCharge m p acct adds frees
at_object is moves = before_same moves (same_things_charge is)
