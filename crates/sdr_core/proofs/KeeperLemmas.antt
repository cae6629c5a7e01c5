-- What a keeper keeps of one more that is said.
use Rattle.std.proofs.Common.{◌≡◌, ◌∙◌, ℕ, List, [], ◌∷◌, ◌++◌, Bool, true, false, None, Some, MatchOption, refl, sym, ap, subst}
use Rattle.std.specs.Option.{option_map, option_map_or, option_to_list}
use Rattle.std.specs.Prelude.{if◌then◌else◌, ⊤}
use Rattle.sdr_machine.specs.Core.{Log, Under, Work, all_said, closed_by, entry_of, was_outside, log_after, said_by, what_added, with_said, without_work, works_after}
use Rattle.sdr_machine.specs.Machine.{Made}
use Rattle.sdr_model.specs.declared.answer.Close.{Close}
use Rattle.sdr_model.specs.declared.journal.Said.{Said}
use Rattle.sdr_model.specs.declared.journal.What.TheVariants as whats
use Rattle.sdr_core.proofs.PlaceLemmas.{none_works}
use Rattle.sdr_core.proofs.SpokenLemmas.{apart-said, said_by-none, with_said-none, without_work-with_said}
use Rattle.law_runs.proofs.WorkLemmas as runs
use Rattle.sdr_core.specs.Keeping.{AreApart, spoken_of, work_of, works_of}
use Rattle.sdr_core.specs.Logging.{ClosesWithin}
use Rattle.sdr_core.specs.declared.spoken.Spoken.{Spoken}

works_push : (spoken : List Spoken) (s : Spoken) → works_of (spoken ++ s ∷ []) ≡ works_of spoken ++ work_of s ∷ []
works_push [] s = refl
works_push (x ∷ spoken) s = ap (λ ws. work_of x ∷ ws) (works_push spoken s)

-- a daemon in no transaction has said a first
pub begun : (old new : List Spoken) (s : Spoken) (daemon : ℕ) (said : Said) → new ≡ old ++ s ∷ [] → work_of s ≡ record { daemon = daemon; said = said ∷ [] } → spoken_of old daemon ≡ None
    → works_of new ≡ with_said (works_of old) daemon said
begun old new s daemon said is same none =
    ap works_of is ∙ works_push old s ∙ ap (λ w. works_of old ++ w ∷ []) same ∙ sym (with_said-none (works_of old) daemon said (none_works old daemon none))

-- no two are of one daemon, whether this was said in a transaction or not
pub apart_either : (outside : Bool) (works : List Work) (daemon : ℕ) (said : Said) → AreApart works → AreApart (if outside then works else with_said works daemon said)
apart_either true works daemon said apart = apart
apart_either false works daemon said apart = apart-said works daemon said apart

-- what closes a transaction takes it away, and adds its entry
pub closed_log : (u : Under) (log log' : Log) (e : Made) (close : Close) → closed_by e.said.answer ≡ Some close → ClosesWithin e.said
    → log'.works ≡ without_work (with_said log.works e.daemon e.said) e.daemon
    → log'.journal ≡ log.journal ++ entry_of u.number e (whats.Work (said_by (with_said log.works e.daemon e.said) e.daemon) close) ∷ [] → log' ≡ log_after u log e
closed_log u log log' e close closes within works journal =
    let inside : was_outside e.said ≡ false = subst (λ o. MatchOption o ⊤ (λ (c : Close). was_outside e.said ≡ false)) closes within in
    let kept : log'.works ≡ (if was_outside e.said then log.works else works_after log.works e.daemon e.said) =
    works ∙ without_work-with_said log.works e.daemon e.said
    ∙ sym (ap (λ b. if b then log.works else works_after log.works e.daemon e.said) inside
    ∙ ap (λ o. option_map_or (λ (c : Close). without_work log.works e.daemon) o (with_said log.works e.daemon e.said)) closes) in
    let added : log'.journal ≡ (log_after u log e).journal =
    journal
    ∙ sym (ap (λ o. log.journal ++ option_to_list (option_map (entry_of u.number e)
    (option_map_or (λ (c : Close). Some (whats.Work (all_said log.works e.daemon e.said) c)) o (what_added u e.said.event e.said.answer)))) closes) in
    λ i. record { works = kept i; journal = added i }

-- open transactions that are each another daemon's, as core runs see it
pub runs_apart : (works : List Work) → AreApart works → runs.AreApart works
runs_apart [] apart = tt
runs_apart (w ∷ works) apart = (said_by-none works w.daemon apart.0, runs_apart works apart.1)
