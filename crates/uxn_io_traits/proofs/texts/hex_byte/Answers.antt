use Rattle.std.proofs.Common.{rules}
use Rattle.hex.specs.Hex.{encode_with}
use Rattle.uxn_io_traits.proofs.texts.hex_byte.Goals as goal

pub returns : goal.returns
unfolding encode_with
returns c = search rules
