use Rattle.std.proofs.Common.{◌≡◌, ◌∙◌, ◌<◌, ◌*◌, ◌/◌, ◌%◌, ℕ, Bool, List, length, true, arith, ap, sym}
use Rattle.sdr_base.specs.KeptHeap.{block_in}
use Rattle.sdr_base.specs.declared.kind.Kind.{Kind}
use Rattle.audit_owners.proofs.MarksLemmas.{fewer_unmarked}
use Rattle.audit_owners.proofs.RegionLemmas.{is_whole}
use Rattle.audit_owners.proofs.WalkLemmas.{chain_goes_on, leads_back, leads_nowhere, leads_to_other}
use Rattle.audit_owners.specs.Chains.{is_member}
use Rattle.audit_owners.specs.Owners.{kind_in}
use Rattle.audit_owners.specs.View.{is_kind, view_in, word_of}
use Rattle.audit_owners.specs.declared.owner.Owner.{Owner}
use Rattle.audit_owners.proofs.chain.follow.Goals as goal

-- the link leads to a block of the chain's kind, whose word can be marked
record IsHere (bytes : List ℕ) (owner : Owner) (link marks : ℕ) : Type 0 where
  pub member : is_member (view_in bytes) owner link ≡ true
  pub whole : link % 8 ≡ 0
  pub inside : link / 8 < marks

is_here : (bytes : List ℕ) (owner : Owner) (link marks : ℕ) (kind : Kind) (found : Bool) → kind ≡ kind_in owner → found ≡ is_kind kind (block_in bytes link) →
    found ≡ true → marks * 8 ≡ length bytes → IsHere bytes owner link marks
is_here bytes owner link marks kind found kind_is found_is holds long =
    let member : is_member (view_in bytes) owner link ≡ true =
    ap (λ (k : Kind). is_kind k (block_in bytes link)) (sym kind_is) ∙ sym found_is ∙ holds in
    let w = is_whole bytes link (kind_in owner) member in
    let least = w.inside in
    record { member = member; whole = w.whole; inside = omega (arith, least, long) }

pub returns-then-not-is_kind-clause-wrong : goal.returns-then-not-is_kind-clause-wrong
returns-then-not-is_kind-clause-wrong c owners w =
    leads_nowhere (view_in c.args.heap.now) owners c.args.step c.args.marks.now w c.holder.result c.requires.some
    (ap (λ (k : Kind). is_kind k (block_in c.args.heap.now c.args.step.link)) (sym c.kind.ensures) ∙ sym c.is_kind.ensures ∙ c.if-not-is_kind.true) c.holder.ensures

pub bounds-marks-number : goal.bounds-marks-number
bounds-marks-number c =
    (is_here c.args.heap.now c.args.step.owner c.args.step.link (length c.args.marks.now) c.kind.result c.is_kind.result c.kind.ensures c.is_kind.ensures
    c.if-not-is_kind.false c.requires.long).inside

pub bounds-marks-number-2 : goal.bounds-marks-number-2
bounds-marks-number-2 c =
    (is_here c.args.heap.now c.args.step.owner c.args.step.link (length c.args.marks.now) c.kind.result c.is_kind.result c.kind.ensures c.is_kind.ensures
    c.if-not-is_kind.false c.requires.long).inside

pub returns-then-marks-number-clause-wrong : goal.returns-then-marks-number-clause-wrong
returns-then-marks-number-clause-wrong c owners w =
    let h =
    is_here c.args.heap.now c.args.step.owner c.args.step.link (length c.args.marks.now) c.kind.result c.is_kind.result c.kind.ensures c.is_kind.ensures
    c.if-not-is_kind.false c.requires.long in
    leads_back (view_in c.args.heap.now) owners c.args.step c.args.marks.now w c.holder-then-marks-number.result c.requires.some h.whole c.if-marks-number.true c.holder-then-marks-number.ensures

pub returns-then-not-is_named-clause-wrong : goal.returns-then-not-is_named-clause-wrong
returns-then-not-is_named-clause-wrong c owners w =
    let h =
    is_here c.args.heap.now c.args.step.owner c.args.step.link (length c.args.marks.now) c.kind.result c.is_kind.result c.kind.ensures c.is_kind.ensures
    c.if-not-is_kind.false c.requires.long in
    leads_to_other (view_in c.args.heap.now) owners c.args.step c.args.marks.now w c.requires.some h.member h.whole c.if-marks-number.false
    (sym c.is_named.ensures ∙ c.if-not-is_named.true)

pub returns-clause-walking : goal.returns-clause-walking
returns-clause-walking c owners w =
    let h =
    is_here c.args.heap.now c.args.step.owner c.args.step.link (length c.args.marks.now) c.kind.result c.is_kind.result c.kind.ensures c.is_kind.ensures
    c.if-not-is_kind.false c.requires.long in
    chain_goes_on (view_in c.args.heap.now) owners c.args.step c.args.marks.now w c.word.result c.requires.some h.member
    (sym c.is_named.ensures ∙ c.if-not-is_named.false) h.whole h.inside c.if-marks-number.false
    (c.word.ensures ∙ ap (word_of (block_in c.args.heap.now c.args.step.link)) c.next_field.ensures)

pub returns-clause-fewer : goal.returns-clause-fewer
returns-clause-fewer c =
    let h =
    is_here c.args.heap.now c.args.step.owner c.args.step.link (length c.args.marks.now) c.kind.result c.is_kind.result c.kind.ensures c.is_kind.ensures
    c.if-not-is_kind.false c.requires.long in
    fewer_unmarked c.args.marks.now (c.args.step.link / 8) h.inside c.if-marks-number.false
