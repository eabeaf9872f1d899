-- The names that most proofs of this crate cite, passed on from one place. Declares nothing.
pub use Rattle.std.proofs.Common.{Err, List, None, Ok, Option, Some, [], ap, arith, cond, drop, false, inl, inr, length, length-append, map, refl}
pub use Rattle.std.proofs.Common.{rules, slice_index_or, suc, sym, take, true, ℕ, ◌*◌, ◌++◌, ◌+◌, ◌-◌, ◌<◌, ◌∙◌, ◌∷◌, ◌≡◌, ◌≢◌, ◌≤◌}
pub use Rattle.std.specs.List.{flat_map, range_with_len}
pub use Rattle.std.specs.Prelude.{Result}
pub use Rattle.audio_mixer.specs.Laws.{sample_short}
pub use Rattle.text_lines.specs.declared.script.Event.{Event}
pub use Rattle.screen_layers.specs.Pictures.{picture_row_of}
pub use Rattle.uxn_io_traits.specs.FaultLaws.{ledger-same, ledger-then}
pub use Rattle.uxn_io_traits.specs.Faults.{Ledger}
pub use Rattle.uxn_io_traits.specs.Files.{Nodes}
pub use Rattle.uxn_io_traits.specs.Outside.{Change}
unfoldable pub use Rattle.uxn_opcodes.specs.Instruction.{Instruction}
pub use Rattle.uxn_opcodes.specs.Ports.{result_blame}
pub use Rattle.uxn_opcodes.specs.declared.Core.{Core}
pub use Rattle.uxn_opcodes.specs.declared.Stop.{Stop}
pub use Rattle.uxn_opcodes.specs.declared.Stop.TheVariants.{NoMemory}
pub use Rattle.varvara_bus.specs.Bus.{BusRepresents, IsOutside, SameBus, bus_faults, bus_rules, contents_on}
pub use Rattle.varvara_bus.specs.History.{stored}
pub use Rattle.varvara_bus.specs.InstructionLaws.{same-again}
pub use Rattle.varvara_bus.specs.State.{DeviceState, storing}
pub use Rattle.varvara_bus.specs.declared.bus.Bus.{Bus}
pub use Rattle.vector_loop.specs.Answers.{Answers, Count, HasTallyRoom, SameRunner, none, of_events, of_vectors}
pub use Rattle.vector_loop.specs.Event.{ended_vectors, vector_where}
unfoldable pub use Rattle.vector_loop.specs.Event.{give_each, heard, unless_over, vector_in}
pub use Rattle.vector_loop.specs.Follows.{FollowsFrom, Models, Running, models_of, running, running_state}
pub use Rattle.vector_loop.specs.Making.{MadeOrCut}
pub use Rattle.vector_loop.specs.Outputs.{appended_to, samples_bytes}
unfoldable pub use Rattle.vector_loop.specs.Outputs.{picture_bytes}
pub use Rattle.vector_loop.specs.PendingInputs.{counts_of, given}
unfoldable pub use Rattle.vector_loop.specs.PendingInputs.{arguments_given}
pub use Rattle.vector_loop.specs.State.{State, counting_event, with_rendered, with_stored}
pub use Rattle.vector_loop.specs.Trace.{Trace, followed_by, makes, stays}
pub use Rattle.vector_loop.specs.Vector.{instruction}
unfoldable pub use Rattle.vector_loop.specs.Vector.{vector}
pub use Rattle.vector_loop.specs.Watch.{Page, page_in, shown_all}
pub use Rattle.vector_loop.specs.declared.output.Outputs.{Outputs}
pub use Rattle.vector_loop.specs.declared.pending_input.PendingInput.TheVariants.{OfEvent}
pub use Rattle.vector_loop.specs.declared.runner.Runner.{Runner}
pub use Rattle.vector_loop.specs.declared.tally.Tally.{Tally}
