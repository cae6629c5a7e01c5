use Rattle.std.proofs.Common.{◌∙◌, refl}
use Rattle.std.specs.Fmt.{digits}
use Rattle.hex.specs.Hex.{encode_with}
use Rattle.sdr_text_world.specs.Example.{mixed_census}
use Rattle.sdr_text_world.proofs.ExampleLemmas.{mixed_text}
use Rattle.sdr_text_world.proofs.example.mixed_world_is_printed_so.Goals as goal

pub returns : goal.returns
unfolding digits encode_with
returns c = mixed_text mixed_census ∙ refl
