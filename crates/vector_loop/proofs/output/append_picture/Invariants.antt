use Rattle.vector_loop.proofs.Common.{SameBus, flat_map, picture_bytes, picture_row_of, range_with_len, ◌-◌, ◌≡◌}
use Rattle.varvara_bus.specs.Bus.{meaning_of, screen_of}
use Rattle.vector_loop.proofs.Makings.{Putting}
use Rattle.vector_loop.proofs.output.append_picture.Given as goal

abbrev pub invariant-loop-y : goal.invariant-loop-y
invariant-loop-y g l = record {
  putting : Putting (meaning_of g.T.Tree g.O.Sink g.E.Sink) l.fn.bus l.bus l.path picture_bytes
      (λ s. flat_map (picture_row_of l.palette.colours s.picture) (range_with_len l.y (l.height - l.y)));
  same : SameBus g.T.Tree l.fn.bus l.bus;
  height : (screen_of l.bus).height ≡ (screen_of l.fn.bus).height;
}
