use Rattle.uxn_cli.proofs.Common.{All, [], drop, length, ◌≡◌, ◌≤◌, Leads, gather, largest_rom, machine_of}
use Rattle.text_lines.specs.ScriptHeld.{bytes_in}
use Rattle.uxn_cli.proofs.task_files.machines.accept_roms.Given as goal

abbrev pub invariant-loop-path : goal.invariant-loop-path
invariant-loop-path g l = record {
  leads : Leads (gather machine_of [] l.paths) (gather machine_of (bytes_in l.roms.items) (drop l.path-index l.paths)) (g.T.Tree.state l.fn.tree) (g.T.Tree.state l.tree);
  count : length l.roms.items ≡ l.path-index;
  fit : All (λ rom. length rom.list ≤ largest_rom) l.roms.items;
}
