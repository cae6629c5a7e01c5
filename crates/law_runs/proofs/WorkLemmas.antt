-- What is said in the open transactions, and what it leads to.
use Rattle.std.proofs.Common.{◌≡◌, ◌∙◌, ◌==◌, ℕ, List, [], ◌∷◌, ◌++◌, Bool, true, false, not, Option, None, Some, MatchBool, refl, sym, ap, subst, cond, append-nil}
use Rattle.std.specs.List.{filter, flat_map}
use Rattle.std.specs.Prelude.{if◌then◌else◌, ⊤}
use Rattle.sdr_base.specs.Media.{Told}
use Rattle.sdr_model.specs.declared.answer.Close.{Close}
use Rattle.sdr_model.specs.declared.journal.Said.{Said}
use Rattle.sdr_machine.specs.Agreeing.{AgreesWith}
use Rattle.sdr_machine.specs.Core.{Work, said_by, with_said, without_work}
use Rattle.sdr_machine.specs.Ground.{State}
use Rattle.sdr_machine.specs.Transaction.{Finishes, GoesOn, IsOpening, Runs, SaysThen, OpenTransaction, Transacts, begun_under, is_closing, transaction_of}
use Rattle.sdr_machine.specs.declared.daemon.Holding.{Holding}
use Rattle.sdr_machine.proofs.RollLemmas.{contrary, number_same, same_number, turned}

-- the open transactions are each another daemon's
abbrev pub AreApart : List Work → Type 0
AreApart [] = ⊤
AreApart (w ∷ works) = (said_by works w.daemon ≡ []) × AreApart works

said_here : (w : Work) (works : List Work) (id : ℕ) → (w.daemon == id) ≡ true → said_by (w ∷ works) id ≡ w.said ++ said_by works id
said_here w works id e = ap (λ b. flat_map (λ (x : Work). x.said) (cond b (w ∷ filter (λ (x : Work). x.daemon == id) works) (filter (λ (x : Work). x.daemon == id) works))) e

said_there : (w : Work) (works : List Work) (id : ℕ) → (w.daemon == id) ≡ false → said_by (w ∷ works) id ≡ said_by works id
said_there w works id e = ap (λ b. flat_map (λ (x : Work). x.said) (cond b (w ∷ filter (λ (x : Work). x.daemon == id) works) (filter (λ (x : Work). x.daemon == id) works))) e

with_here : (w : Work) (works : List Work) (id : ℕ) (said : Said) → (w.daemon == id) ≡ true → with_said (w ∷ works) id said ≡ record w { said = w.said ++ said ∷ [] } ∷ works
with_here w works id said e = ap (λ b. if b then record w { said = w.said ++ said ∷ [] } ∷ works else w ∷ with_said works id said) e

with_there : (w : Work) (works : List Work) (id : ℕ) (said : Said) → (w.daemon == id) ≡ false → with_said (w ∷ works) id said ≡ w ∷ with_said works id said
with_there w works id said e = ap (λ b. if b then record w { said = w.said ++ said ∷ [] } ∷ works else w ∷ with_said works id said) e

without_here : (w : Work) (works : List Work) (id : ℕ) → (w.daemon == id) ≡ true → without_work (w ∷ works) id ≡ without_work works id
without_here w works id e = ap (λ b. cond (not b) (w ∷ without_work works id) (without_work works id)) e

without_there : (w : Work) (works : List Work) (id : ℕ) → (w.daemon == id) ≡ false → without_work (w ∷ works) id ≡ w ∷ without_work works id
without_there w works id e = ap (λ b. cond (not b) (w ∷ without_work works id) (without_work works id)) e

-- what was said is last
pub said_more : (works : List Work) (id : ℕ) (said : Said) → AreApart works → said_by (with_said works id said) id ≡ said_by works id ++ said ∷ []
said_more [] id said apart = said_here (record { daemon = id; said = said ∷ [] }) [] id (number_same id id refl)
said_more (w ∷ works) id said apart = by (w.daemon == id) refl (said_more works id said apart.1)
  where
    by : (b : Bool) → (w.daemon == id) ≡ b → said_by (with_said works id said) id ≡ said_by works id ++ said ∷ []
        → said_by (with_said (w ∷ works) id said) id ≡ said_by (w ∷ works) id ++ said ∷ []
    by true e rest =
        let none : said_by works id ≡ [] = ap (said_by works) (sym (same_number w.daemon id e)) ∙ apart.0 in
        ap (λ ws. said_by ws id) (with_here w works id said e) ∙ said_here (record w { said = w.said ++ said ∷ [] }) works id e
        ∙ ap (λ more. (w.said ++ said ∷ []) ++ more) none ∙ append-nil (w.said ++ said ∷ [])
        ∙ ap (λ all. all ++ said ∷ []) (sym (append-nil w.said) ∙ ap (λ more. w.said ++ more) (sym none) ∙ sym (said_here w works id e))
    by false e rest =
        ap (λ ws. said_by ws id) (with_there w works id said e) ∙ said_there w (with_said works id said) id e ∙ rest
        ∙ ap (λ all. all ++ said ∷ []) (sym (said_there w works id e))

-- what others have said stays
pub said_other : (works : List Work) (id other : ℕ) (said : Said) → (id == other) ≡ false → said_by (with_said works id said) other ≡ said_by works other
said_other [] id other said apart = said_there (record { daemon = id; said = said ∷ [] }) [] other apart
said_other (w ∷ works) id other said apart = by (w.daemon == id) refl (w.daemon == other) refl (said_other works id other said apart)
  where
    by : (b : Bool) → (w.daemon == id) ≡ b → (c : Bool) → (w.daemon == other) ≡ c → said_by (with_said works id said) other ≡ said_by works other
        → said_by (with_said (w ∷ works) id said) other ≡ said_by (w ∷ works) other
    by true e c f rest =
        let there : (w.daemon == other) ≡ false = ap (λ n. n == other) (same_number w.daemon id e) ∙ apart in
        ap (λ ws. said_by ws other) (with_here w works id said e) ∙ said_there (record w { said = w.said ++ said ∷ [] }) works other there
        ∙ sym (said_there w works other there)
    by false e true f rest =
        ap (λ ws. said_by ws other) (with_there w works id said e) ∙ said_here w (with_said works id said) other f
        ∙ ap (λ more. w.said ++ more) rest ∙ sym (said_here w works other f)
    by false e false f rest =
        ap (λ ws. said_by ws other) (with_there w works id said e) ∙ said_there w (with_said works id said) other f
        ∙ rest ∙ sym (said_there w works other f)

pub said_none : (works : List Work) (id : ℕ) → said_by (without_work works id) id ≡ []
said_none [] id = refl
said_none (w ∷ works) id = by (w.daemon == id) refl (said_none works id)
  where
    by : (b : Bool) → (w.daemon == id) ≡ b → said_by (without_work works id) id ≡ [] → said_by (without_work (w ∷ works) id) id ≡ []
    by true e rest = ap (λ ws. said_by ws id) (without_here w works id e) ∙ rest
    by false e rest = ap (λ ws. said_by ws id) (without_there w works id e) ∙ said_there w (without_work works id) id e ∙ rest

pub said_without : (works : List Work) (id other : ℕ) → (id == other) ≡ false → said_by (without_work works id) other ≡ said_by works other
said_without [] id other apart = refl
said_without (w ∷ works) id other apart = by (w.daemon == id) refl (w.daemon == other) refl (said_without works id other apart)
  where
    by : (b : Bool) → (w.daemon == id) ≡ b → (c : Bool) → (w.daemon == other) ≡ c → said_by (without_work works id) other ≡ said_by works other
        → said_by (without_work (w ∷ works) id) other ≡ said_by (w ∷ works) other
    by true e c f rest =
        let there : (w.daemon == other) ≡ false = ap (λ n. n == other) (same_number w.daemon id e) ∙ apart in
        ap (λ ws. said_by ws other) (without_here w works id e) ∙ rest ∙ sym (said_there w works other there)
    by false e true f rest =
        ap (λ ws. said_by ws other) (without_there w works id e) ∙ said_here w (without_work works id) other f
        ∙ ap (λ more. w.said ++ more) rest ∙ sym (said_here w works other f)
    by false e false f rest =
        ap (λ ws. said_by ws other) (without_there w works id e) ∙ said_there w (without_work works id) other f
        ∙ rest ∙ sym (said_there w works other f)

-- the open transactions stay apart
pub apart_said : (works : List Work) (id : ℕ) (said : Said) → AreApart works → AreApart (with_said works id said)
apart_said [] id said apart = (refl, tt)
apart_said (w ∷ works) id said apart = by (w.daemon == id) refl (apart_said works id said apart.1)
  where
    by : (b : Bool) → (w.daemon == id) ≡ b → AreApart (with_said works id said) → AreApart (with_said (w ∷ works) id said)
    by true e rest = subst AreApart (sym (with_here w works id said e)) apart
    by false e rest =
        let other : (id == w.daemon) ≡ false = turned w.daemon id e in
        subst AreApart (sym (with_there w works id said e)) (said_other works id w.daemon said other ∙ apart.0, rest)

pub apart_without : (works : List Work) (id : ℕ) → AreApart works → AreApart (without_work works id)
apart_without [] id apart = tt
apart_without (w ∷ works) id apart = by (w.daemon == id) refl (id == w.daemon) refl (apart_without works id apart.1)
  where
    by : (b : Bool) → (w.daemon == id) ≡ b → (c : Bool) → (id == w.daemon) ≡ c → AreApart (without_work works id) → AreApart (without_work (w ∷ works) id)
    by true e c f rest = subst AreApart (sym (without_here w works id e)) rest
    by false e true f rest = contrary (number_same w.daemon id (sym (same_number id w.daemon f))) e
    by false e false f rest = subst AreApart (sym (without_there w works id e)) (said_without works id w.daemon f ∙ apart.0, rest)

-- from one transaction what was said leads to another
abbrev pub GoesTo : Option Told → OpenTransaction → List Said → OpenTransaction → Type 0
GoesTo told t [] t' = t' ≡ t
GoesTo told t (said ∷ more) t' = SaysThen told t said (λ next. GoesTo told next more t')

-- What was said since its first begin leads to the transaction, where the state was this before.
pub record SoFar (told : Option Told) (before : State) (number : ℕ) (said : List Said) (t : OpenTransaction) : Type 0 where
  pub begin : Said
  pub more : List Said
  pub all : said ≡ begin ∷ more
  pub opening : IsOpening number begin
  pub goes : GoesTo told (begun_under number before) more t

-- one more event of the transaction
pub goes_more : (told : Option Told) (t : OpenTransaction) (more : List Said) (t' : OpenTransaction) (said : Said) (t'' : OpenTransaction) → GoesTo told t more t'
    → is_closing t' said.event ≡ false → Transacts t' said.event said t'' → AgreesWith told t'.state.world said.event said.answer said.bytes
    → GoesTo told t (more ++ said ∷ []) t''
goes_more told t [] t' said t'' goes stays transacts media =
    subst (λ x. SaysThen told x said (λ next. t'' ≡ next)) goes (record { next = t''; goes_on = stays; transacts = transacts; media = media; rest = refl })
goes_more told t (first ∷ more) t' said t'' goes stays transacts media = record {
  next = goes.next;
  goes_on = goes.goes_on;
  transacts = goes.transacts;
  media = goes.media;
  rest = goes_more told goes.next more t' said t'' goes.rest stays transacts media;
}

pub so_far_more : (told : Option Told) (before : State) (number : ℕ) (all : List Said) (t : OpenTransaction) (said : Said) (t' : OpenTransaction)
    → SoFar told before number all t → is_closing t said.event ≡ false → Transacts t said.event said t'
    → AgreesWith told t.state.world said.event said.answer said.bytes → SoFar told before number (all ++ said ∷ []) t'
so_far_more told before number all t said t' far stays transacts media = record {
  begin = far.begin;
  more = far.more ++ said ∷ [];
  all = ap (λ xs. xs ++ said ∷ []) far.all;
  opening = far.opening;
  goes = goes_more told (begun_under number before) far.more t said t' far.goes stays transacts media;
}

-- the last event of the transaction
goes_last : (told : Option Told) (before : State) (t : OpenTransaction) (more : List Said) (t' : OpenTransaction) (said : Said) (close : Close) (left : State)
    → GoesTo told t more t' → Finishes before t' said close left → GoesOn told before t (more ++ said ∷ []) close left
goes_last told before t [] t' said close left goes last = subst (λ x. Finishes before x said close left) goes last
goes_last told before t (first ∷ []) t' said close left goes last = record {
  next = goes.next;
  goes_on = goes.goes_on;
  transacts = goes.transacts;
  media = goes.media;
  rest = subst (λ x. Finishes before x said close left) goes.rest last;
}
goes_last told before t (first ∷ second ∷ more) t' said close left goes last = record {
  next = goes.next;
  goes_on = goes.goes_on;
  transacts = goes.transacts;
  media = goes.media;
  rest = goes_last told before goes.next (second ∷ more) t' said close left goes.rest last;
}

pub runs_last : (told : Option Told) (before : State) (number : ℕ) (all : List Said) (t : OpenTransaction) (said : Said) (close : Close) (left : State)
    → SoFar told before number all t → Finishes before t said close left → Runs told before number (all ++ said ∷ []) close left
runs_last told before number all t said close left far last =
    subst (λ xs. Runs told before number (xs ++ said ∷ []) close left) (sym far.all) (by far.more far.goes)
  where
    by : (more : List Said) → GoesTo told (begun_under number before) more t → Runs told before number (far.begin ∷ more ++ said ∷ []) close left
    by [] goes = (far.opening, goes_last told before (begun_under number before) [] t said close left goes last)
    by (first ∷ more) goes = (far.opening, goes_last told before (begun_under number before) (first ∷ more) t said close left goes last)

-- a daemon has said nothing but in a transaction, and in that nothing has been done: it may begin from any state
abbrev pub Untouched : Option Told → List Said → Option Holding → Type 0
Untouched told said None = said ≡ []
Untouched told said (Some h) = MatchBool (h.nesting.depth == 0) (said ≡ []) ((s : State) → SoFar told s h.number said (transaction_of h s))
