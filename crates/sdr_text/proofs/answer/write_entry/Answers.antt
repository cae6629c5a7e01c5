use Rattle.std.proofs.Common.{OnOk, OnErr, ◌++◌, ◌∙◌, codes, ap, subst}
use Rattle.std.specs.Io.KnownBytes.{Appends}
use Rattle.sdr_base.specs.Written.{AppendsPart}
use Rattle.sdr_text.specs.Refused.{field_on}
use Rattle.sdr_text.specs.Text.{literal_text}
use Rattle.sdr_text.proofs.TextLemmas.{entry_behind}
use Rattle.sdr_text.proofs.answer.write_entry.Goals as goal

pub returns-clause-ok : goal.returns-clause-ok
returns-clause-ok g c =
    subst (λ l. OnOk c.write_literal.result (Appends (g.K.Sink.taken c.args.out.now) (g.K.Sink.taken c.write_literal.new.out) l))
    (ap (λ e. c.args.front ++ literal_text c.args.name.now ++ e) (c.as_slice.ensures ∙ c.entry_end.ensures.text ∙ ap (λ t. field_on (field_on t c.args.kind) c.args.addr ++ codes "\n") c.new-end.ensures)
    ∙ entry_behind (c.args.front ++ literal_text c.args.name.now) c.args.kind c.args.addr) c.write_literal.ensures.ok

pub returns-clause-err : goal.returns-clause-err
returns-clause-err g c =
    subst (λ l. OnErr c.write_literal.result (AppendsPart (g.K.Sink.taken c.args.out.now) (g.K.Sink.taken c.write_literal.new.out) l))
    (ap (λ e. c.args.front ++ literal_text c.args.name.now ++ e) (c.as_slice.ensures ∙ c.entry_end.ensures.text ∙ ap (λ t. field_on (field_on t c.args.kind) c.args.addr ++ codes "\n") c.new-end.ensures)
    ∙ entry_behind (c.args.front ++ literal_text c.args.name.now) c.args.kind c.args.addr) c.write_literal.ensures.err
