use Rattle.std.proofs.Common.{inl, inr, refl, sym, ◌∙◌}
use Rattle.sdr_command.proofs.EndingLemmas.{sized_apart}
use Rattle.sdr_command.proofs.answering.file_of.Goals as goal

pub returns-in-Dry : goal.returns-in-Dry
returns-in-Dry c = inr c.in-Dry.is

pub returns-in-Memory : goal.returns-in-Memory
returns-in-Memory c = inl c.in-Memory.ensures

pub returns-in-File : goal.returns-in-File
returns-in-File c = (c.in-File.ensures.0, c.in_default.not-Dry)

pub returns-in-Sized : goal.returns-in-Sized
returns-in-Sized c = (λ same. sized_apart _ _ (sym c.in-Sized.ensures.spelled ∙ same), c.in_default.not-Dry)
