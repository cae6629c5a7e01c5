use Rattle.std.proofs.Common.{◌≡◌, ◌≤◌, ◌++◌, ◌∷◌, ◌∙◌, [], ℕ, ap, sym, subst}
use Rattle.std.specs.List.{All}
use Rattle.std.specs.Prelude.{Contains}
use Rattle.sdr_model.specs.Gone.{gone_things, without_things}
use Rattle.sdr_model.specs.Queue.{with_served}
use Rattle.sdr_model.specs.Steps.{without_thing}
use Rattle.sdr_model.specs.World.{World}
use Rattle.sdr_model.specs.Zco.{naming, uses_of}
use Rattle.mem_store.specs.Draft.{Draft}
use Rattle.mem_zco_calls.proofs.DiscardLemmas.{destroys}
use Rattle.mem_zco_calls.proofs.GoneLemmas.{naming-used, without_things-append}
use Rattle.mem_zco_calls.proofs.destroy_calls.destroy.Goals as goal

pub gone_things-requires-clause-used : goal.gone_things-requires-clause-used
gone_things-requires-clause-used c =
    let w = c.args.world.now.now in
    subst (λ es. (source : ℕ) → naming source es ≤ uses_of w source) (sym c.as_slice.ensures)
    (naming-used w c.args.addr c.in-Some.object.now (sym c.in-Some.ensures.is))

pub drop_all-requires : goal.drop_all-requires
drop_all-requires c = record {
  touched = subst (λ (d : Draft). All (Contains d.touched) c.as_slice-3.result.now) (sym c.in_ok-save_accounts.ensures.saved)
      (subst (All (Contains c.touch_all.new.world.touched)) (c.as_slice-2.ensures ∙ sym c.as_slice-3.ensures)
      c.in_ok-touch_all.ensures.touched);
}

pub returns : goal.returns
returns c =
    let w : World = c.args.world.now.now in
    let addr = c.args.addr in
    let z = c.in-Some.object.now in
    let saved = c.in_ok-save_accounts.ensures.saved in
    let gone = gone_things w z.extents z.extents in
    let now : c.save_accounts.new.self.now ≡ w = ap (λ (d : Draft). d.now) saved ∙ c.touch_all.ensures.now in
    let going : c.as_slice-3.result.now ≡ gone ++ addr ∷ [] =
    c.as_slice-3.ensures ∙ c.in_ok-push.ensures.ok
    ∙ ap (λ l. l ++ addr ∷ []) (c.in_ok-going.ensures ∙ ap (λ es. gone_things w es es) c.as_slice.ensures) in
    let left : c.drop_all.new.world.now ≡ without_thing (without_things w gone) addr =
    c.drop_all.ensures.dropped ∙ ap (λ v. without_things v c.as_slice-3.result.now) now ∙ ap (without_things w) going
    ∙ without_things-append w gone (addr ∷ []) in
    record {
      step = destroys w c.hide.new.self.now addr z c.in-Some.ensures.is
          (c.hide.ensures.hidden ∙ ap (λ (d : Draft). record d.now { shown = [] }) c.serve.ensures
          ∙ ap (λ v. record (with_served v z.account) { shown = [] }) left);
      begun = c.hide.ensures.keeps.begun ∙ ap (λ (d : Draft). d.begun) c.serve.ensures ∙ c.drop_all.ensures.keeps.begun
          ∙ ap (λ (d : Draft). d.begun) saved ∙ c.touch_all.ensures.keeps.begun;
      same = tt;
    }
