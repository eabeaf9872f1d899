-- The run of a workload, and what is said of it (profile).
use Rattle.std.specs.Prelude.{◌≡◌, ℕ, List, length}
use Rattle.uxn_limits.specs.declared.limits.TheConstants.{USUAL_BUDGET}
use Rattle.uxn_opcodes.specs.declared.Core.{Core}
use Rattle.text_lines.specs.Scripts.{ScriptView}
use Rattle.vector_loop.specs.Trace.{Trace}
use Rattle.uxn_io_traits.specs.Outside.{put_by}
use Rattle.uxn_line.specs.Places.{no_outputs}
use Rattle.uxn_line.specs.Streams.{run_of}
use Rattle.uxn_cli.specs.Summary.{Summary, summary_text}
use Rattle.uxn_cli.specs.RunJob.{no_root_view, reference_trace, run_end}
use Rattle.uxn_cli.specs.declared.running.RunEnd.{RunEnd}

-- the run of a machine that stands alone: it has no root, and keeps neither pictures nor samples
abbrev pub lone_trace : Core → ScriptView → Trace
lone_trace core script = reference_trace USUAL_BUDGET no_outputs script no_root_view core

-- a run that is over, and the bytes that it put on an output of its own
pub record HasRunAlone (trace : Trace) (end : RunEnd) (put : List ℕ) : Type 0 where
  pub ends : end ≡ run_end trace.last
  pub bytes : put ≡ put_by trace.changes

abbrev pub run_summary : List ℕ → List ℕ → RunEnd → List ℕ → Summary
run_summary source rom end console = record {
  source = length source;
  rom = length rom;
  instructions = end.tally.instructions;
  vectors = end.tally.vectors;
  cuts = end.tally.cuts;
  frames = end.tally.frames;
  console = console;
  exit = end.exit;
}

-- the summary of a source, its ROM, and its run over a script, as a machine of a line runs
unfoldable pub workload_text : List ℕ → List ℕ → ScriptView → List ℕ
workload_text source rom script =
    let trace = run_of USUAL_BUDGET rom script in summary_text (run_summary source rom (run_end trace.last) (put_by trace.changes))
