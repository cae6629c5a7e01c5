use Rattle.std.proofs.Common.{◌∙◌, ◌≤◌, ◌<◌, ◌+◌, ◌-◌, ◌/◌, ℕ, length, set, refl, subst, sym, ap}
use Rattle.sdr_base.specs.Stored.{number_at}
use Rattle.audit_blocks.proofs.StruckLemmas.{LeavesList, left_fewer, left_goes_on, left_told_so, left_wrong}
use Rattle.audit_blocks.proofs.ToldLemmas.{link_inside}
use Rattle.audit_blocks.specs.Listed.{free_left}
use Rattle.audit_blocks.specs.declared.spot.Spot.TheVariants as spots
use Rattle.audit_blocks.proofs.free.follow.Goals as goal

pub returns-then-not-may_follow-clause-damaged : goal.returns-then-not-may_follow-clause-damaged
returns-then-not-may_follow-clause-damaged c = (
  refl,
  λ small large are.
      left_wrong c.requires.left c.requires.built.edged.right c.requires.more (sym c.may_follow.ensures ∙ c.if-not-may_follow.true) small large are,
)

pub number_at-requires : goal.number_at-requires
number_at-requires c =
    let bytes = c.args.heap.now in
    let left = c.requires.left in
    let blocks = left.found in
    let inside =
    link_inside bytes left.told c.requires.built.edged.right left.long left.found blocks.small blocks.large blocks.blocks c.args.link.word c.args.link.addr
    (left_told_so left (sym c.may_follow.ensures ∙ c.if-not-may_follow.false)) in
    subst (λ (f : ℕ). c.args.link.addr - f + 8 + 8 ≤ length bytes) (sym c.frame_in.ensures) inside

pub returns-clause-left : goal.returns-clause-left
returns-clause-left c =
    let bytes = c.args.heap.now in
    let P = λ (f : ℕ). LeavesList bytes (set c.args.spots.now ((c.args.link.addr - f) / 8) spots.Nothing)
    (record { word = c.args.link.word; before = c.args.link.addr; addr = c.number_at.result }) in
    subst P (sym c.frame_in.ensures)
    (left_goes_on c.requires.left (sym c.may_follow.ensures ∙ c.if-not-may_follow.false)
    (c.number_at.ensures ∙ ap (λ (f : ℕ). number_at (c.args.link.addr - f + 8) bytes) c.frame_in.ensures))

pub returns-clause-fewer : goal.returns-clause-fewer
returns-clause-fewer c =
    subst (λ (f : ℕ). free_left (set c.args.spots.now ((c.args.link.addr - f) / 8) spots.Nothing) < free_left c.args.spots.now) (sym c.frame_in.ensures)
    (left_fewer c.requires.left (sym c.may_follow.ensures ∙ c.if-not-may_follow.false))
