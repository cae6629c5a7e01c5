-- The words of the verbs of a load.
use Rattle.std.specs.Prelude.{ℕ, List, codes}
use Rattle.sdr_load.specs.declared.verb.Verb.{Verb}
use Rattle.sdr_load.specs.declared.verb.Verb.TheVariants as verbs

-- the word of a verb
abbrev pub verb_word : Verb → List ℕ
verb_word verbs.Begin = codes "begin"
verb_word verbs.End = codes "end"
verb_word verbs.Cancel = codes "cancel"
verb_word verbs.Malloc = codes "malloc"
verb_word verbs.Free = codes "free"
verb_word verbs.Write = codes "write"
verb_word verbs.List = codes "list"
verb_word verbs.InsertLast = codes "insert_last"
verb_word verbs.Delete = codes "delete"
verb_word verbs.First = codes "first"
verb_word verbs.Datum = codes "data"
verb_word verbs.Catlg = codes "catlg"
verb_word verbs.Find = codes "find"
