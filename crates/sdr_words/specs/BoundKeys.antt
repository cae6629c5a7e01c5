-- The entries of an index map as bindings.
use Rattle.std.specs.Prelude.{ℕ, List, map}
use Rattle.sdr_words.specs.Bindings.{Binding}
use Rattle.sdr_words.specs.declared.bindings.Key.{Key}

-- the bindings that these entries are
abbrev pub bindings_in : List (Key × ℕ) → List Binding
bindings_in = map (λ e. record { daemon = e.0.daemon; name = e.0.name.items; value = e.1 })
