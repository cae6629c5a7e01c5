use Rattle.std.proofs.Common.{◌≡◌, ◌≤◌, ◌∙◌, [], ℕ, Some, ap, ap₂, arith, sym, subst}
use Rattle.std.specs.List.{All}
use Rattle.std.specs.Prelude.{Contains, IfSome}
use Rattle.sdr_model.specs.Gone.{gone_things, without_things}
use Rattle.sdr_model.specs.ObjectSteps.{with_object}
use Rattle.sdr_model.specs.PartSteps.{outside_part, part_end, stripped}
use Rattle.sdr_model.specs.Queue.{with_served}
use Rattle.sdr_model.specs.World.{World}
use Rattle.sdr_model.specs.Zco.{naming, object_at, uses_of}
use Rattle.mem_store.specs.Draft.{Draft}
use Rattle.mem_zco_calls.proofs.CutLemmas.{naming-left_out}
use Rattle.mem_zco_calls.proofs.DiscardLemmas.{strips}
use Rattle.mem_zco_calls.proofs.GoneLemmas.{gone_things-with, naming-used}
use Rattle.mem_zco_calls.proofs.strip_calls.strip.Goals as goal

pub gone_things-requires-clause-used : goal.gone_things-requires-clause-used
gone_things-requires-clause-used c =
    let w = c.args.world.now.now in
    let z = c.in-Some.object.now in
    subst (λ es. (source : ℕ) → naming source es ≤ uses_of w source) (sym (c.as_slice-2.ensures ∙ c.in_ok-lost.ensures))
    (λ source. omega (
      arith,
      naming-left_out source z.part.offset (part_end z) z.extents,
      naming-used w c.args.addr z (sym c.in-Some.ensures.is) source,
    ))

pub drop_all-requires : goal.drop_all-requires
drop_all-requires c = record {
  touched = λ k d inside. c.put_cuts.ensures.others _
      (subst (λ (d : Draft). All (Contains d.touched) c.as_slice-4.result.now) (sym c.in_ok-save_accounts.ensures.saved)
      (subst (All (Contains c.touch_all.new.world.touched)) (c.as_slice-3.ensures ∙ sym c.as_slice-4.ensures)
      c.in_ok-touch_all.ensures.touched) k d inside);
}

pub returns : goal.returns
returns c =
    let w : World = c.args.world.now.now in
    let addr = c.args.addr in
    let z = c.in-Some.object.now in
    let there : object_at w addr ≡ Some z = sym c.in-Some.ensures.is in
    let out = outside_part z in
    let gone = gone_things w out out in
    let saved = c.in_ok-save_accounts.ensures.saved in
    let now : c.save_accounts.new.self.now ≡ w = ap (λ (d : Draft). d.now) saved ∙ c.touch_all.ensures.now in
    let put : c.put_cuts.new.world.now ≡ with_object w addr (stripped z) =
    subst (λ o. IfSome o (λ z. c.put_cuts.new.world.now ≡ with_object c.save_accounts.new.self.now addr (stripped z)))
    (ap (λ v. object_at v addr) now ∙ there) c.in_ok-put_cuts.ensures.put
    ∙ ap (λ v. with_object v addr (stripped z)) now in
    let going : c.as_slice-4.result.now ≡ gone =
    c.as_slice-4.ensures ∙ c.in_ok-gone.ensures ∙ ap (λ es. gone_things w es es) (c.as_slice-2.ensures ∙ c.in_ok-lost.ensures) in
    let left : c.drop_all.new.world.now ≡ with_object (without_things w gone) addr (stripped z) =
    c.drop_all.ensures.dropped ∙ ap₂ without_things put going
    ∙ gone_things-with w c.requires.may.whole.fits addr z (stripped z) out there in
    record {
      step = strips w c.hide.new.self.now addr z c.in-Some.ensures.is
          (c.hide.ensures.hidden ∙ ap (λ (d : Draft). record d.now { shown = [] }) c.serve.ensures
          ∙ ap (λ v. record (with_served v z.account) { shown = [] }) left);
      begun = c.hide.ensures.keeps.begun ∙ ap (λ (d : Draft). d.begun) c.serve.ensures ∙ c.drop_all.ensures.keeps.begun
          ∙ c.put_cuts.ensures.keeps.begun ∙ ap (λ (d : Draft). d.begun) saved ∙ c.touch_all.ensures.keeps.begun;
      same = tt;
    }
