-- What a printer has printed.
use Rattle.std.specs.Io.KnownBytes.{append_known}
use Rattle.sdr_run.specs.Playing.{Output}
use Rattle.sdr_run.specs.declared.printing.Printer.{Printer}

-- an output with the lines that wait for it behind what it took
abbrev pub behind : Output → Printer → Output
behind out printer = record { taken = append_known out.taken printer.waiting.bytes; faults = out.faults }
