use Rattle.std.proofs.Common.{◌∙◌, refl}
use Rattle.std.specs.Fmt.{digits}
use Rattle.hex.specs.Hex.{encode_with}
use Rattle.sdr_text_world.specs.Example.{bundle_census}
use Rattle.sdr_text_world.proofs.ExampleLemmas.{bundle_text}
use Rattle.sdr_text_world.proofs.example.bundle_is_printed_so.Goals as goal

pub returns : goal.returns
unfolding digits encode_with
returns c = bundle_text bundle_census ∙ refl
