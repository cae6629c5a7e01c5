use Rattle.std.proofs.Common.{◌≡◌, ◌+◌, ◌*◌, ◌++◌, ℕ, List, ap, ap₂, sym, subst, ◌∙◌, arith, length}
use Rattle.sdr_model.specs.BondSteps.{bond_extents, bonded_extents}
use Rattle.mem_parts.specs.Bounds.{AreFewBytes}
use Rattle.sdr_model.specs.PartSteps.{object_of}
use Rattle.sdr_model.specs.declared.zco.Capsule.{Capsule}
use Rattle.sdr_model.specs.declared.zco.Extent.{Extent}
use Rattle.mem_zco_calls.proofs.BondCallLemmas.{extents-shift, extents_length-bond}
use Rattle.mem_zco_calls.proofs.bond_calls.bonded.Goals as goal

pub object_of-requires : goal.object_of-requires
object_of-requires c =
    let z = c.args.object.now in
    let at = λ (k : ℕ). c.args.first + 8 * k in
    let behind : ℕ = c.args.first + 24 * c.len.result in
    let one : c.add_bonded.new.extents ≡ bonded_extents at 0 z.headers =
    c.in_ok-add_bonded.ensures
    ∙ ap₂ (λ (a : List Extent) (h : List Capsule). a ++ bonded_extents at 0 h) c.new-extents.ensures c.as_slice.ensures in
    let two : c.add_extents.new.extents ≡ bonded_extents at 0 z.headers ++ z.extents =
    c.in_ok-add_extents.ensures ∙ ap₂ (λ (a b : List Extent). a ++ b) one c.as_slice-2.ensures in
    let all : c.add_bonded-2.new.extents ≡ bond_extents at z =
    c.in_ok-add_bonded-2.ensures
    ∙ ap₂ (λ (a : List Extent) (t : List Capsule). a ++ bonded_extents (λ k. behind + 8 * k) 0 t) two c.as_slice-3.ensures
    ∙ ap (λ (l : List Extent). bonded_extents at 0 z.headers ++ z.extents ++ l)
    (extents-shift (λ k. behind + 8 * k) at z.trailers 0 (3 * length z.headers) (λ k. omega (arith, c.len.ensures))) in
    record { few = subst AreFewBytes (sym all) (omega (arith, extents_length-bond at z, c.requires.small)) }

pub returns : goal.returns
returns c =
    let z = c.args.object.now in
    let at = λ (k : ℕ). c.args.first + 8 * k in
    let behind : ℕ = c.args.first + 24 * c.len.result in
    let one : c.add_bonded.new.extents ≡ bonded_extents at 0 z.headers =
    c.in_ok-add_bonded.ensures
    ∙ ap₂ (λ (a : List Extent) (h : List Capsule). a ++ bonded_extents at 0 h) c.new-extents.ensures c.as_slice.ensures in
    let two : c.add_extents.new.extents ≡ bonded_extents at 0 z.headers ++ z.extents =
    c.in_ok-add_extents.ensures ∙ ap₂ (λ (a b : List Extent). a ++ b) one c.as_slice-2.ensures in
    let all : c.add_bonded-2.new.extents ≡ bond_extents at z =
    c.in_ok-add_bonded-2.ensures
    ∙ ap₂ (λ (a : List Extent) (t : List Capsule). a ++ bonded_extents (λ k. behind + 8 * k) 0 t) two c.as_slice-3.ensures
    ∙ ap (λ (l : List Extent). bonded_extents at 0 z.headers ++ z.extents ++ l)
    (extents-shift (λ k. behind + 8 * k) at z.trailers 0 (3 * length z.headers) (λ k. omega (arith, c.len.ensures))) in
    c.object_of.ensures ∙ ap (object_of z.account) all
