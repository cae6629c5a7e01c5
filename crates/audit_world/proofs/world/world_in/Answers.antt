use Rattle.audit_world.proofs.ReadyLemmas.{names_typed, tickets_short}
use Rattle.audit_world.proofs.world.world_in.Goals as goal

pub names_in-requires-clause-typed : goal.names_in-requires-clause-typed
names_in-requires-clause-typed c = names_typed c.args.heap.now c.requires.counted

pub accounts_in-requires-clause-short : goal.accounts_in-requires-clause-short
accounts_in-requires-clause-short c = tickets_short c.args.heap.now c.requires.counted
