-- Outcomes that are decided but for the addresses of the blocks taken.
use Rattle.std.proofs.Common.{◌≡◌, ◌+◌, ◌==◌, ℕ, suc, List, [], ◌∷◌, ◌++◌, map, Bool, true, false, Option, Some, None, MatchBool, MatchOption, length, sym, subst, ap, ap₂, ◌∙◌, refl, arith}
use Rattle.sdr_base.specs.declared.account.Acct.{Acct}
use Rattle.sdr_base.specs.declared.kind.Space.{Space}
use Rattle.sdr_base.specs.declared.moves.Move.{Move}
use Rattle.sdr_base.specs.declared.moves.Move.TheVariants.{Took, Gave}
use Rattle.sdr_base.specs.declared.refusal.Refusal.TheVariants as refusals
use Rattle.law_steps.proofs.ThingChanges.{in_takes}
use Rattle.law_steps.specs.Decided.{SameButShown}
use Rattle.law_steps.specs.TakesAt.{TakesAt}
use Rattle.sdr_model.specs.Accounts.{pending_in, tickets_of}
use Rattle.sdr_model.specs.Amounts.{amounts_by, first_above, minus}
use Rattle.sdr_model.specs.BondSteps.{bond_moves}
use Rattle.sdr_model.specs.Charges.{rooms}
use Rattle.sdr_model.specs.Charging.{Charges, grant_left, no_space, with_covered}
use Rattle.sdr_model.specs.ObjectSteps.{raw_append_moves}
use Rattle.sdr_model.specs.PartSteps.{clone_moves}
use Rattle.sdr_model.specs.Queue.{barrier}
use Rattle.sdr_model.specs.Steps.{DoesWith, Outcome, Refuses, TakesOne, taken_addresses, taken_at, takes_from}
use Rattle.sdr_model.specs.Things.{extent_need, raw_need, source_need}
use Rattle.sdr_model.specs.World.{World}
use Rattle.sdr_model.specs.declared.accounts.Pending.{Pending}
use Rattle.sdr_model.specs.declared.answer.Reply.{Reply}
use Rattle.sdr_model.specs.declared.zco.Capsule.{Capsule}
use Rattle.sdr_model.specs.declared.zco.Extent.{Extent}

-- two such outcomes are the same, where the blocks that they took begin at the same addresses
pub record IsDecided (R : Outcome → Type 0) : Type 0 where
  pub decides : (at : ℕ → ℕ) (o o' : Outcome) → R o → R o' → TakesAt at o.moves → TakesAt at o'.moves → o ≡ o'

pub same_outcome : {o o' : Outcome} → o.moves ≡ o'.moves → o.after ≡ o'.after → o.reply ≡ o'.reply → o ≡ o'
same_outcome moves after reply i = record { moves = moves i; after = after i; reply = reply i }

-- outcomes that are the same are so but for the bytes shown
pub but_shown : {o o' : Outcome} → o ≡ o' → SameButShown o o'
but_shown {o} {o'} same = record {
  moves = ap (λ (p : Outcome). p.moves) same;
  after = ap (λ (p : Outcome). record p.after { shown = o.after.shown }) same;
  reply = ap (λ (p : Outcome). p.reply) same;
}

-- an outcome that is told
pub told : {moves : List Move} {next : World} {reply : Reply}
    → IsDecided (λ o. (o.moves ≡ moves) × (o.after ≡ next) × (o.reply ≡ reply))
told = record { decides = λ at o o' a b _ _. same_outcome (a.0 ∙ sym b.0) (a.1 ∙ sym b.1) (a.2 ∙ sym b.2) }

-- the address of the one block that was taken
the_addr : (at : ℕ → ℕ) (moves : List Move) (need addr : ℕ) → moves ≡ Took need addr ∷ [] → TakesAt at moves
    → addr ≡ at 0
the_addr at moves need addr is takes = (subst (TakesAt at) is takes).0

-- an outcome that is told by the address of the one block that is taken
pub takes_one : {need : ℕ} {next : ℕ → World} {reply : ℕ → Reply}
    → IsDecided (λ o. TakesOne o.moves need (λ a. (o.after ≡ next a) × (o.reply ≡ reply a)))
takes_one {need} {next} {reply} = record {
  decides = λ at o o' h h' t t'.
      in_takes o.moves need _ h (λ a is d.
      in_takes o'.moves need _ h' (λ a' is' d'.
      let same : a ≡ a' = the_addr at o.moves need a is t ∙ sym (the_addr at o'.moves need a' is' t') in
      same_outcome (is ∙ ap (λ a. Took need a ∷ []) same ∙ sym is') (d.0 ∙ ap next same ∙ sym d'.0)
      (d.1 ∙ ap reply same ∙ sym d'.1)));
}

-- an outcome by a test
pub tested : {P Q : Outcome → Type 0} (b : Bool) → IsDecided P → IsDecided Q → IsDecided (λ o. MatchBool b (P o) (Q o))
tested true p q = p
tested false p q = q

-- an outcome by what is there
pub found : {X : Type 0} {P : Outcome → Type 0} {Q : X → Outcome → Type 0} (x : Option X) → IsDecided P
    → ((v : X) → IsDecided (Q v)) → IsDecided (λ o. MatchOption x (P o) (λ v. Q v o))
found None p q = p
found (Some v) p q = q v

-- an outcome by what a charge allows
pub charges : (w : World) (goes : Outcome → World → Type 0) (acct : Acct) (number : ℕ) (charge : Space → ℕ)
    → ((used : World) → IsDecided (λ o. goes o used)) → IsDecided (λ o. Charges w o acct number charge (goes o))
charges w goes acct number charge go =
    tested (number == 0) (covered None)
    (found (pending_in w.accounts acct number) told (λ p. tested p.ticket.granted (covered (Some p)) told))
  where
    covered : (p : Option Pending) → IsDecided (λ o.
        let uncovered = minus (amounts_by charge) (grant_left p) in
        MatchOption (barrier uncovered (tickets_of w.accounts acct))
        (MatchOption (first_above uncovered (rooms w acct))
        (goes o (with_covered w p (amounts_by charge)))
        (λ space. Refuses w o (no_space w acct uncovered space)))
        (λ t. Refuses w o (refusals.Queue t.number)))
    covered p =
        let uncovered = minus (amounts_by charge) (grant_left p) in
        found (barrier uncovered (tickets_of w.accounts acct))
        (found (first_above uncovered (rooms w acct)) (go (with_covered w p (amounts_by charge))) (λ space. told))
        (λ t. told)

-- moves that have no more than the addresses of the blocks that they take
abbrev pub AreOfTheir : ((ℕ → ℕ) → List Move) → Type 0
AreOfTheir moves = (f at : ℕ → ℕ) → TakesAt at (moves f) → moves f ≡ moves at

-- an outcome that is told by the addresses of all the blocks that are taken
pub does_with : (w : World) (moves : (ℕ → ℕ) → List Move) (next : (ℕ → ℕ) → World) (reply : (ℕ → ℕ) → Reply)
    → AreOfTheir moves → IsDecided (λ o. DoesWith w o moves next reply)
does_with w moves next reply of_their = record {
  decides = λ at o o' a b t t'.
      let one : (p : Outcome) → p.moves ≡ moves (taken_at p.moves) → TakesAt at p.moves → p.moves ≡ moves at =
      λ p is s. is ∙ of_their (taken_at p.moves) at (subst (TakesAt at) is s) in
      let same : o.moves ≡ o'.moves = one o a.0 t ∙ sym (one o' b.0 t') in
      same_outcome same
      (a.1 ∙ ap (λ ms. record (next (taken_at ms)) { marks = w.marks ++ taken_addresses ms; shown = [] }) same
      ∙ sym b.1)
      (a.2 ∙ ap (λ ms. reply (taken_at ms)) same ∙ sym b.2);
}

-- the moves of a source and an extent that are made
pub raw_append_of_their : AreOfTheir raw_append_moves
raw_append_of_their f at t = ap₂ (λ a b. Took (source_need 0) a ∷ Took extent_need b ∷ []) t.0 t.1.0

-- those of extents that are made from the k-th block on
takes_of_their : (f at h : ℕ → ℕ) (k : ℕ) (needs : List ℕ) → ((j : ℕ) → h j ≡ at (k + j))
    → TakesAt h (takes_from f k needs) → takes_from f k needs ≡ takes_from at k needs
takes_of_their f at h k [] same t = refl
takes_of_their f at h k (need ∷ needs) same t =
    let first : f k ≡ at k = t.0 ∙ same 0 ∙ ap at (omega arith) in
    ap₂ (λ a ms. Took need a ∷ ms) first
    (takes_of_their f at (λ j. h (suc j)) (suc k) needs
    (λ j. same (suc j) ∙ ap at (omega arith)) t.1)

pub clone_of_their : (es : List Extent) → AreOfTheir (λ at. clone_moves at es)
clone_of_their es f at t =
    ap₂ (λ a ms. Took 72 a ∷ ms) t.0
    (takes_of_their f at (λ j. at (suc j)) 1 (map (λ e. extent_need) es) (λ j. ap at (omega arith)) t.1)

-- and those of headers and trailers that are bonded, from the k-th block on
bonds_of_their : (f at h : ℕ → ℕ) (k : ℕ) (cs : List Capsule) → ((j : ℕ) → h j ≡ at (k + j))
    → TakesAt h (bond_moves f k cs) → bond_moves f k cs ≡ bond_moves at k cs
bonds_of_their f at h k [] same t = refl
bonds_of_their f at h k (c ∷ cs) same t =
    let first : f k ≡ at k = t.0 ∙ same 0 ∙ ap at (omega arith) in
    let second : f (k + 1) ≡ at (k + 1) = t.1.0 ∙ same 1 in
    let third : f (k + 2) ≡ at (k + 2) = t.1.1.0 ∙ same 2 in
    let rest = bonds_of_their f at (λ j. h (suc (suc (suc j)))) (k + 3) cs
    (λ j. same (suc (suc (suc j))) ∙ ap at (omega arith)) t.1.1.1 in
    ap₂ (λ a ms. Took (raw_need (length c.text)) a ∷ ms) first
    (ap₂ (λ a ms. Took (source_need 0) a ∷ ms) second
    (ap₂ (λ a ms. Took extent_need a ∷ Gave c.block ∷ ms) third rest))

pub bond_of_their : (cs : List Capsule) → AreOfTheir (λ at. bond_moves at 0 cs)
bond_of_their cs f at t = bonds_of_their f at at 0 cs (λ j. ap at (omega arith)) t
