use Rattle.std.proofs.Common.{◌≡◌, ◌++◌, ◌+◌, ◌%◌, ℕ, List}
use Rattle.std.specs.List.{flat_map, range_with_len}
use Rattle.uxn_io_traits.specs.NumberText.{hex_of_short}
use Rattle.uxn_debugger.specs.Printing.{in_lines}
use Rattle.uxn_debugger.specs.Scenes.{view_in}
use Rattle.uxn_debugger.proofs.printing.put_memory.Given as goal

abbrev pub invariant-loop-at : goal.invariant-loop-at
invariant-loop-at l = (page : List ℕ) → l.log.items ≡ l.initial.log.items
    ++ flat_map (in_lines (λ at. hex_of_short ((l.address + at) % 65536)) (λ at. (view_in l.scene page).byte ((l.address + at) % 65536)) l.count)
    (range_with_len 0 l.at)
