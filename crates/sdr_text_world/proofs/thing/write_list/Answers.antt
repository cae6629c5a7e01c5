use Rattle.std.proofs.Common.{◌∙◌, ◌++◌, ◌∷◌, [], subst}
use Rattle.std.proofs.KnownBytes.{Appends-trans}
use Rattle.std.specs.Io.KnownBytes.{Appends}
use Rattle.std.specs.Prelude.{flat_map}
use Rattle.sdr_base.specs.Written.{AppendsPart}
use Rattle.sdr_text.proofs.TextLemmas.{on_err, part_front, part_later}
use Rattle.sdr_text.proofs.PartLemmas.{part_behind, whole_behind}
use Rattle.sdr_text_world.specs.ThingText.{element_text, list_front_on}
use Rattle.sdr_text_world.proofs.thing.write_list.Goals as goal

pub returns-in_err-write_all-clause-err : goal.returns-in_err-write_all-clause-err
returns-in_err-write_all-clause-err g c =
    let front = list_front_on c.args.line c.args.list.now in
    let elements = flat_map element_text c.args.list.now.elements in
    on_err _
    (part_front _ _ (front ++ elements) (10 ∷ [])
    (part_front _ _ front elements
    (subst (AppendsPart (g.K.Sink.taken c.args.out.now) (g.K.Sink.taken c.write_all.new.out)) (c.as_slice.ensures ∙ c.add_list.ensures.text)
    c.in_err-write_all.ensures.err)))

pub returns-in_err-write_elements-clause-err : goal.returns-in_err-write_elements-clause-err
returns-in_err-write_elements-clause-err g c =
    let front = list_front_on c.args.line c.args.list.now in
    let elements = flat_map element_text c.args.list.now.elements in
    on_err _
    (part_front _ _ (front ++ elements) (10 ∷ [])
    (part_later _ _ _ front elements
    (subst (Appends (g.K.Sink.taken c.args.out.now) (g.K.Sink.taken c.write_all.new.out)) (c.as_slice.ensures ∙ c.add_list.ensures.text)
    c.in_ok-write_all.ensures.ok)
    (subst (λ l. AppendsPart (g.K.Sink.taken c.write_all.new.out) (g.K.Sink.taken c.write_elements.new.out) (flat_map element_text l))
    c.as_slice-2.ensures c.in_err-write_elements.ensures.err)))

pub returns-clause-ok : goal.returns-clause-ok
returns-clause-ok g c =
    let front = list_front_on c.args.line c.args.list.now in
    let elements = flat_map element_text c.args.list.now.elements in
    whole_behind c.write_all-2.result _ _ _ (front ++ elements) (10 ∷ [])
    (Appends-trans _ _ _ front elements
    (subst (Appends (g.K.Sink.taken c.args.out.now) (g.K.Sink.taken c.write_all.new.out)) (c.as_slice.ensures ∙ c.add_list.ensures.text)
    c.in_ok-write_all.ensures.ok)
    (subst (λ l. Appends (g.K.Sink.taken c.write_all.new.out) (g.K.Sink.taken c.write_elements.new.out) (flat_map element_text l))
    c.as_slice-2.ensures c.in_ok-write_elements.ensures.ok))
    c.write_all-2.ensures.ok

pub returns-clause-err : goal.returns-clause-err
returns-clause-err g c =
    let front = list_front_on c.args.line c.args.list.now in
    let elements = flat_map element_text c.args.list.now.elements in
    part_behind c.write_all-2.result _ _ _ (front ++ elements) (10 ∷ [])
    (Appends-trans _ _ _ front elements
    (subst (Appends (g.K.Sink.taken c.args.out.now) (g.K.Sink.taken c.write_all.new.out)) (c.as_slice.ensures ∙ c.add_list.ensures.text)
    c.in_ok-write_all.ensures.ok)
    (subst (λ l. Appends (g.K.Sink.taken c.write_all.new.out) (g.K.Sink.taken c.write_elements.new.out) (flat_map element_text l))
    c.as_slice-2.ensures c.in_ok-write_elements.ensures.ok))
    c.write_all-2.ensures.err
