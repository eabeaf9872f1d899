-- The summary of a workload (profile): lengths, counts, the bytes that it printed, and its exit code.
use Rattle.std.specs.Prelude.{ℕ, List, ◌++◌, codes, decimal}
use Rattle.std.specs.List.{flat_map}
use Rattle.uxn_io_traits.specs.NumberText.{hex_of_byte}
use Rattle.uxn_cli.specs.declared.summary.Ran.{Ran}

-- a line: a word, a space and a value
abbrev pub line : List ℕ → List ℕ → List ℕ
line name value = name ++ codes " " ++ value ++ codes "\n"

-- bytes as pairs of digits
abbrev pub digits : List ℕ → List ℕ
digits bytes = flat_map hex_of_byte bytes

-- what is said of a workload that ran: the lengths of its source and its ROM, what was counted of its run, the bytes that it wrote to
-- the standard output, and its exit code
pub record Summary : Type 0 where
  pub source : ℕ
  pub rom : ℕ
  pub instructions : ℕ
  pub vectors : ℕ
  pub cuts : ℕ
  pub frames : ℕ
  pub console : List ℕ
  pub exit : ℕ

abbrev pub summary_of : Ran → Summary
summary_of ran = record {
  source = ran.source;
  rom = ran.rom;
  instructions = ran.instructions;
  vectors = ran.vectors;
  cuts = ran.cuts;
  frames = ran.frames;
  console = ran.console.now;
  exit = ran.exit;
}

unfoldable pub summary_text : Summary → List ℕ
summary_text summary =
    line (codes "source") (decimal summary.source)
    ++ line (codes "rom") (decimal summary.rom)
    ++ line (codes "instructions") (decimal summary.instructions)
    ++ line (codes "vectors") (decimal summary.vectors)
    ++ line (codes "cuts") (decimal summary.cuts)
    ++ line (codes "frames") (decimal summary.frames)
    ++ line (codes "console") (digits summary.console)
    ++ line (codes "exit") (decimal summary.exit)
