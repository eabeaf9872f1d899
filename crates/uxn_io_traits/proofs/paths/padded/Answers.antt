use Rattle.std.proofs.Common.{refl}
use Rattle.uxn_io_traits.proofs.PathLemmas.{padded_text}
use Rattle.uxn_io_traits.proofs.paths.padded.Goals as goal

pub returns : goal.returns
returns c = padded_text c.args.text.now _ _ c.copy_from_slice.ensures.after refl c.requires
