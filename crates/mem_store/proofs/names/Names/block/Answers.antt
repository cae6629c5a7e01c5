use Rattle.std.proofs.Common.{Some, None, ap, sym, ◌∙◌, cond}
use Rattle.sdr_base.specs.declared.kind.Kind.TheVariants as kinds
use Rattle.sdr_model.specs.Things.{name_need}
use Rattle.mem_store.proofs.NamesLemmas.{block_tested}
use Rattle.mem_store.proofs.names.Names.block.Goals as goal

pub returns-then-has_block : goal.returns-then-has_block
returns-then-has_block c =
    sym (block_tested c.args.addr c.self.inside.entries.entries c.args.self.now c.has_block.result c.self.view_is c.has_block.ensures
    ∙ ap (λ b. cond b (Some (record { addr = c.args.addr; kind = kinds.Name; bytes = name_need })) None) c.if-has_block.true)

pub returns : goal.returns
returns c =
    sym (block_tested c.args.addr c.self.inside.entries.entries c.args.self.now c.has_block.result c.self.view_is c.has_block.ensures
    ∙ ap (λ b. cond b (Some (record { addr = c.args.addr; kind = kinds.Name; bytes = name_need })) None) c.if-has_block.false)
