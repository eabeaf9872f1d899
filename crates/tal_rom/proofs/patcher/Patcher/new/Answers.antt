use Rattle.tal_rom.proofs.Common.{refl, added_fault, scope_after, labels_of, placed_of, open_ones}
use Rattle.tal_rom.proofs.patcher.Patcher.new.Goals as goal

pub returns : goal.returns
unfolding added_fault scope_after labels_of placed_of open_ones
returns c source = record {
  sound = refl;
  scope = c.first.ensures source;
  holds = c.in_ok-new.ensures source;
}
