-- The catalogue's entries under their names.
use Rattle.sdr_model.specs.declared.name.Name.{Name}
use Rattle.mem_store.specs.declared.names.Named.{Named}
use Rattle.std.specs.Prelude.{ℕ, List, map, Vec}
use Rattle.std.specs.declared.alloc.Global.{Global}

-- an entry without its name
abbrev pub named_of : Name → Named
named_of n = record { block = n.block; kind = n.kind; object = n.object }

-- the entries under these keys
abbrev pub names_in : List (Vec ℕ Global × Named) → List Name
names_in = map (λ e. record { block = e.1.block; name = e.0.items; kind = e.1.kind; object = e.1.object })
