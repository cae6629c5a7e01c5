-- What is told is what the leader says.
use Rattle.std.proofs.Common.{◌≡◌, ◌==◌, ◌/◌, ℕ, List, ap, sym, ◌∙◌, rules}
use Rattle.std.specs.Prelude.{option_map}
use Rattle.sdr_base.specs.Kinds.{kind_of}
use Rattle.sdr_base.specs.Stored.{leader_kind, leader_length, start_bit}
use Rattle.sdr_base.specs.declared.kind.Kind.{Kind}
use Rattle.sdr_heap.proofs.RangeLemmas.{told_nowhere, told_clear, told_read}
use Rattle.sdr_heap.proofs.blocks.kind_of.Goals as goal

pub returns-in_default-clause-found : goal.returns-in_default-clause-found
returns-in_default-clause-found g c =
    sym (told_nowhere _ c.args.addr (sym c.in_ok-place.ensures.place ∙ c.in_default.is))

pub returns-then-not-branch-clause-found : goal.returns-then-not-branch-clause-found
returns-then-not-branch-clause-found g c =
    sym (told_clear _ c.args.addr c.in-Some.place (sym c.in_ok-place.ensures.place ∙ c.in-Some.is)
    (ap (λ (l : List ℕ). start_bit (c.in-Some.place / 8) l == 1) (sym c.in_ok-place.ensures.same)
    ∙ sym c.in_ok-read_start_bit.ensures.given ∙ c.if-not-branch.true))

pub returns-clause-found : goal.returns-clause-found
returns-clause-found g c =
    let place = c.in-Some.place in
    let leader = c.in_ok-leader.leader in
    let mapped : c.map.result ≡ option_map (λ (kind : Kind). (kind, leader.length)) leader.kind = search rules in
    let same = c.in_ok-read_start_bit.ensures.same ∙ c.in_ok-place.ensures.same in
    mapped
    ∙ told_read _ c.args.addr place leader.length leader.kind c.requires.kept
    (sym c.in_ok-place.ensures.place ∙ c.in-Some.is)
    (ap (λ (l : List ℕ). start_bit (place / 8) l == 1) (sym c.in_ok-place.ensures.same)
    ∙ sym c.in_ok-read_start_bit.ensures.given ∙ c.if-not-branch.false)
    (c.in_ok-leader.ensures.kind ∙ ap (λ (l : List ℕ). kind_of (leader_kind place l)) same)
    (c.in_ok-leader.ensures.length ∙ ap (leader_length place) same)
