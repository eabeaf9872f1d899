use Rattle.uxn_io_traits.specs.UnknownLaws.{ended}
use Rattle.uxn_cli_tests.proofs.outside.FilesTree.append.Goals as goal

pub returns-clause-ended : goal.returns-clause-ended
returns-clause-ended c = ended _ _ _ _ _ _ c.counted.ensures.counted
