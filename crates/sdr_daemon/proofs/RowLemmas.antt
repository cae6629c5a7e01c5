-- Lines, entries and names as the worked rows write them, and an entry that is alone.
use Rattle.std.proofs.Common.{◌≡◌, ℕ, List, [], ◌∷◌, ◌++◌, refl}
use Rattle.sdr_model.specs.declared.journal.Entry.{Entry}
use Rattle.sdr_model.specs.declared.journal.What.{What}
use Rattle.sdr_model.specs.declared.script.Arg.{Arg}
use Rattle.sdr_model.specs.declared.script.ScriptStep.{ScriptStep}
use Rattle.sdr_words.specs.Bindings.{Binding}

-- a line of a daemon, with the name that it binds and the verb of a number
abbrev pub line : ℕ → ℕ → List ℕ → ℕ → List Arg → ScriptStep
line number daemon name verb args = record { line = number; daemon = daemon; name = name; verb = verb; args = args }

-- an entry of a number and a daemon: no row looks at its moments
abbrev pub entry : ℕ → ℕ → What → Entry
entry number daemon what = record { number = number; daemon = daemon; begun = 0; done = 0; what = what }

-- what a name of a daemon holds
abbrev pub holds : ℕ → List ℕ → ℕ → Binding
holds daemon name value = record { daemon = daemon; name = name; value = value }

-- of one entry the last is it, and there is none before
pub last_alone : (before : List Entry) (last e : Entry) → e ∷ [] ≡ before ++ last ∷ [] → (before ≡ []) × (last ≡ e)
last_alone [] last e is = let same : last ≡ e = cc in (refl, same)
last_alone (one ∷ []) last e is = absurd cc
last_alone (one ∷ two ∷ before) last e is = absurd cc
