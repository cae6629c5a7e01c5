-- One change of a world in the making after another.
use Rattle.std.proofs.Common.{◌∙◌}
use Rattle.mem_store.specs.Draft.{Draft}
use Rattle.mem_world.specs.Keeps.{SameBegin}

pub keeps_on : {a b c : Draft} → SameBegin a b → SameBegin b c → SameBegin a c
keeps_on first then = record { begun = then.begun ∙ first.begun; saved = λ is. then.saved (first.saved is) }
