use Rattle.std.proofs.Common.{[]}
use Rattle.text_lines.proofs.FirstFault.{refused_first, first_refused}
use Rattle.text_lines.proofs.reading.first_faulty_line.Goals as goal

pub returns-clause-first : goal.returns-clause-first
returns-clause-first g c = λ fault lines number kind. refused_first fault 1 [] lines number kind

pub returns-clause-refused : goal.returns-clause-refused
returns-clause-refused g c = λ fault lines number kind. first_refused fault 1 [] lines number kind
