use Rattle.std.proofs.Common.{◌≡◌, ◌∙◌, ◌-◌, [], Some, ap, arith, length, subst, sym, take}
use Rattle.sdr_model.specs.ObjectSteps.{with_object, without_trailer}
use Rattle.sdr_model.specs.Queue.{with_served}
use Rattle.sdr_model.specs.Zco.{as_object, object_at}
use Rattle.sdr_model.specs.declared.things.Thing.TheVariants as things
use Rattle.sdr_model.specs.declared.zco.ZcoObject.{ZcoObject}
use Rattle.mem_store.specs.Draft.{Draft}
use Rattle.mem_store.specs.Owners.{MayPut}
use Rattle.mem_zco_calls.proofs.PartCallLemmas.{last-discarded, owned-without_trailers}
use Rattle.mem_zco_calls.proofs.part_calls.discard_last_trailer.Goals as goal

pub put_and_serve-requires-clause-may_put : goal.put_and_serve-requires-clause-may_put
put_and_serve-requires-clause-may_put c =
    let z = c.in-Object.object in
    subst (λ trailers. MayPut c.take.new.self c.args.addr (things.Object (record z { trailers = trailers }))) (sym c.truncate.ensures)
    (owned-without_trailers _ _ c.args.addr z
    (subst (MayPut c.take.new.self c.args.addr) c.in-Object.is c.in_ok-object.ensures.may_put) _)

pub returns : goal.returns
returns c =
    let w = c.args.world.now.now in
    let addr = c.args.addr in
    let z = c.in-Object.object in
    let saved = c.in_ok-save_accounts.ensures.saved in
    let there : object_at w addr ≡ Some z =
    ap (λ (d : Draft). object_at d.now addr) (sym saved)
    ∙ ap as_object (c.in_ok-object.ensures.taken ∙ ap Some c.in-Object.is) in
    let same : c.in-Some.object.now ≡ z = (let both : Some c.in-Some.object.now ≡ Some z = c.in-Some.ensures.is ∙ there in cc) in
    let trailers : c.len-trailers.result ≡ length z.trailers =
    c.len-trailers.ensures ∙ ap (λ (z : ZcoObject). length z.trailers) same in
    record {
      step = last-discarded w c.put_and_serve.new.world.now addr z there
          (omega (arith, c.if-trailers-eq0.false, trailers))
          (c.put_and_serve.ensures.put
          ∙ ap (λ trailers. record (with_served (with_object c.take.new.self.now addr (record z { trailers = trailers })) z.account) { shown = [] })
          (c.truncate.ensures ∙ ap (λ n. take (n - 1) z.trailers) trailers)
          ∙ ap (λ v. record (with_served v z.account) { shown = [] })
          (c.in_ok-object.ensures.again (things.Object (without_trailer z)) ∙ ap (λ (d : Draft). with_object d.now addr (without_trailer z)) saved));
      begun = c.put_and_serve.ensures.keeps.begun ∙ c.take.ensures.keeps.begun ∙ ap (λ (d : Draft). d.begun) saved;
      same = tt;
    }
