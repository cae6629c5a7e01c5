-- Each transaction of a legal journal is framed by its first begin and its close.
use Rattle.std.proofs.Common.{◌≡◌, ◌∙◌, ◌&&◌, ℕ, List, [], ◌∷◌, ◌++◌, true, Option, Some, is_none, refl, sym, ap, inl, inr}
use Rattle.std.specs.Prelude.{All}
use Rattle.std.specs.List.{list_all}
use Rattle.std.proofs.lemmas.List.Elements.{All-cons, All-nil}
use Rattle.sdr_base.specs.Media.{Told}
use Rattle.sdr_model.specs.declared.answer.Close.{Close}
use Rattle.sdr_model.specs.declared.journal.Entry.{Entry}
use Rattle.sdr_model.specs.declared.journal.Said.{Said}
use Rattle.sdr_model.specs.declared.journal.What.{What}
use Rattle.sdr_model.specs.declared.journal.What.TheVariants as whats
use Rattle.sdr_machine.specs.Core.{closed_by}
use Rattle.sdr_machine.specs.Ground.{State}
use Rattle.sdr_machine.specs.Legal.{IsLegal, Lead, MayFollow}
use Rattle.sdr_machine.specs.Transaction.{Finishes, GoesOn, Runs, OpenTransaction, begun_under}
use Rattle.law_runs.specs.Framed.{FramesWork}
use Rattle.law_runs.proofs.TransactLemmas.{transacts_within}

-- what finishes a transaction closes it so
finish_closes : (before : State) (t : OpenTransaction) (said : Said) (close : Close) (left : State) → Finishes before t said close left → closed_by said.answer ≡ Some close
finish_closes before t said close left (Finishes.closed is so) = ap closed_by so.told.answer
finish_closes before t said close left (Finishes.faulted asks so) = ap closed_by so.told.answer ∙ ap Some (sym so.how)

-- the rest of a transaction: what doesn't close it, and what does
record Closing (more : List Said) (close : Close) : Type 0 where
  between : List Said
  last : Said
  all : more ≡ between ++ last ∷ []
  unclosed : list_all (λ (s : Said). is_none (closed_by s.answer)) between ≡ true
  closing : closed_by last.answer ≡ Some close

goes_on_closes : (told : Option Told) (before : State) (t : OpenTransaction) (more : List Said) (close : Close) (left : State) → GoesOn told before t more close left → Closing more close
goes_on_closes told before t [] close left goes = absurd goes
goes_on_closes told before t (said ∷ []) close left goes = record {
  between = [];
  last = said;
  all = refl;
  unclosed = refl;
  closing = finish_closes before t said close left goes;
}
goes_on_closes told before t (said ∷ second ∷ more) close left goes =
    let rest = goes_on_closes told before goes.next (second ∷ more) close left goes.rest in
    record {
      between = said ∷ rest.between;
      last = rest.last;
      all = ap (λ xs. said ∷ xs) rest.all;
      unclosed =
          ap (λ o. is_none o && list_all (λ (s : Said). is_none (closed_by s.answer)) rest.between) (transacts_within t said.event said goes.next goes.transacts).open_still
          ∙ rest.unclosed;
      closing = rest.closing;
    }

runs_framed : (told : Option Told) (before : State) (number : ℕ) (said : List Said) (close : Close) (left : State) → Runs told before number said close left
    → FramesWork number (whats.Work said close)
runs_framed told before number [] close left runs = absurd runs
runs_framed told before number (said ∷ []) close left runs =
    inr (record { look = said; all = refl; ticket = runs.ticket; event = runs.event; answer = runs.faults.told.answer; faulted = runs.faults.how })
runs_framed told before number (said ∷ second ∷ more) close left runs =
    let rest = goes_on_closes told before (begun_under number before) (second ∷ more) close left runs.1 in
    inl (record {
      begin = said;
      between = rest.between;
      last = rest.last;
      all = ap (λ xs. said ∷ xs) rest.all;
      opening = runs.0;
      unclosed = rest.unclosed;
      closing = rest.closing;
    })

stands_framed : (told : Option Told) (daemons : List ℕ) (journal : List Entry) (s : State) (number daemon : ℕ) (what : What) (s' : State)
    → MayFollow told daemons journal s number daemon what s' → FramesWork number what
stands_framed told daemons journal s number daemon (whats.Work said close) s' stands = runs_framed told s number said close s' stands
stands_framed told daemons journal s number daemon what s' stands = tt

lead_framed : (told : Option Told) (daemons : List ℕ) (before : List Entry) (s : State) (entries : List Entry) (s' : State) → Lead told daemons before s entries s'
    → All (λ (e : Entry). FramesWork e.number e.what) entries
lead_framed told daemons before s [] s' lead = All-nil (λ (e : Entry). FramesWork e.number e.what)
lead_framed told daemons before s (e ∷ entries) s' lead =
    All-cons (λ (e : Entry). FramesWork e.number e.what) e entries (stands_framed told daemons before s e.number e.daemon e.what lead.after lead.stands)
    (lead_framed told daemons (before ++ e ∷ []) lead.after entries s' lead.rest)

pub legal_framed : (told : Option Told) (daemons : List ℕ) (first : State) (journal : List Entry) → IsLegal told daemons first journal
    → All (λ (e : Entry). FramesWork e.number e.what) journal
legal_framed told daemons first journal legal = lead_framed told daemons [] first journal legal.last_state legal.leads
