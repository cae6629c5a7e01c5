use Rattle.std.proofs.Common.{◌≡◌, take, true}
use Rattle.std.specs.List.{list_all}
use Rattle.sdr_words.specs.Script.{is_line_byte}
use Rattle.sdr_words.proofs.fields.are_line_bytes.Given as goal

abbrev pub invariant-loop-byte : goal.invariant-loop-byte
invariant-loop-byte l = list_all is_line_byte (take l.byte-index l.line) ≡ true
