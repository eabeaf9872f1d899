use Rattle.text_lines.proofs.Versions.{second_reads_first}
use Rattle.text_lines.proofs.script_reading.version_2_reads_version_1.Goals as goal

pub returns : goal.returns
returns c = second_reads_first
