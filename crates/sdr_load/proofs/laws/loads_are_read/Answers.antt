use Rattle.std.proofs.Common.{◌≡◌, ◌∙◌, true, length, nat_le, arith}
use Rattle.std.proofs.lemmas.Bool.{cond-true}
use Rattle.std.proofs.lemmas.Bool.Decides.{nat_tests}
use Rattle.sdr_load.proofs.FollowLemmas.{script_follows}
use Rattle.sdr_load.proofs.ReadingLemmas.{text_is_read}
use Rattle.sdr_load.specs.Schedule.{script_for}
use Rattle.sdr_load.specs.Text.{text_of}
use Rattle.sdr_words.specs.Script.{longest_input}
use Rattle.sdr_load.proofs.laws.loads_are_read.Goals as goal

pub returns : goal.returns
returns c =
    let read = text_is_read c.canonical_lines_are_read.ensures in
    record {
      script = λ rounds. read (script_for rounds) (script_follows rounds);
      input = λ rounds short.
          let fits : nat_le (length (text_of (script_for rounds))) longest_input ≡ true = grind (arith, nat_tests) in
          cond-true _ _ _ fits ∙ read (script_for rounds) (script_follows rounds);
    }
