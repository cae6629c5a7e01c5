use Rattle.std.proofs.Common.{OnOk, OnErr, ◌≡◌, ◌++◌, ◌∙◌, ap, codes, decimal, subst}
use Rattle.std.specs.Io.KnownBytes.{Appends}
use Rattle.sdr_base.specs.Written.{AppendsPart}
use Rattle.sdr_text.specs.Refused.{field_on}
use Rattle.sdr_text.specs.Text.{answer_text}
use Rattle.sdr_text.proofs.answer.write_answer.Goals as goal

pub returns-clause-ok : goal.returns-clause-ok
returns-clause-ok g c =
    let front : c.push.new.self ≡ field_on (decimal c.args.line) c.args.daemon ++ codes " " =
    c.push.ensures ∙ ap (λ t. t ++ codes " ") (c.field.ensures.text ∙ ap (λ t. t ++ codes " " ++ decimal c.from.result) (c.number.ensures.text ∙ ap (λ t. t ++ decimal c.args.line) c.new-text.ensures)
    ∙ ap (λ d. field_on (decimal c.args.line) d) c.from.ensures) in
    subst (λ t. OnOk c.write_behind.result (Appends (g.K.Sink.taken c.args.out.now) (g.K.Sink.taken c.write_behind.new.out) (answer_text t c.args.given.now c.args.bytes.now ++ codes "\n")))
    front c.write_behind.ensures.ok

pub returns-clause-err : goal.returns-clause-err
returns-clause-err g c =
    let front : c.push.new.self ≡ field_on (decimal c.args.line) c.args.daemon ++ codes " " =
    c.push.ensures ∙ ap (λ t. t ++ codes " ") (c.field.ensures.text ∙ ap (λ t. t ++ codes " " ++ decimal c.from.result) (c.number.ensures.text ∙ ap (λ t. t ++ decimal c.args.line) c.new-text.ensures)
    ∙ ap (λ d. field_on (decimal c.args.line) d) c.from.ensures) in
    subst (λ t. OnErr c.write_behind.result (AppendsPart (g.K.Sink.taken c.args.out.now) (g.K.Sink.taken c.write_behind.new.out) (answer_text t c.args.given.now c.args.bytes.now ++ codes "\n")))
    front c.write_behind.ensures.err
