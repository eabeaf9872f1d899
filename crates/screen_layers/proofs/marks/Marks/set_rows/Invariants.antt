use Rattle.std.proofs.Common.{◌≡◌, length}
use Rattle.screen_layers.proofs.MarkLemmas.{TileMarked}
use Rattle.screen_layers.proofs.marks.Marks.set_rows.Given as goal

abbrev pub invariant-loop-row : goal.invariant-loop-row
invariant-loop-row l =
    record {
      marked : TileMarked l.fn.self l.self-inside.rows.items l.y l.height l.row;
      length : length l.self-inside.rows.items ≡ 2047;
    }
