-- The names that most proofs of this crate cite, passed on from one place. Declares nothing.
pub use Rattle.circular_buffer.proofs.Places.{slice_get-last, slice_get-push, slice_get-set_other, slice_get-set_same, slice_get-some}
pub use Rattle.circular_buffer.specs.Buffer.{Buffer, buffer}
pub use Rattle.text_lines.specs.ScriptHeld.{bytes_in}
pub use Rattle.std.proofs.Common.{Bool, List, [], add-one, ap, append-nil, append_assoc, arith, cond, drop, false, get_or, inl, inr, length}
pub use Rattle.std.proofs.Common.{length-append, map, pos, refl, rules, subst, suc, sym, true, zero, ℕ, ◌*◌, ◌++◌, ◌+◌, ◌-◌, ◌<◌, ◌==◌}
pub use Rattle.std.proofs.Common.{◌↔◌, ◌∙◌, ◌∷◌, ◌≡◌, ◌≢◌, ◌≤◌}
pub use Rattle.std.proofs.Math.Nat.{mul-le-mul_right}
pub use Rattle.std.proofs.lemmas.Bool.{and_parts, cases_Bool, cases_eq, eqb-true}
pub use Rattle.std.proofs.lemmas.Bool.Decides.{nat_tests}
pub use Rattle.std.proofs.lemmas.Grind.{common_steps}
pub use Rattle.std.proofs.lemmas.List.{append_cancel_left, get_or-map, length-map, length-set}
pub use Rattle.std.proofs.lemmas.Option.{get_or_from_slice_get, slice_get_read, slice_get_within}
pub use Rattle.std.specs.List.{AllByRecursion, list_all}
pub use Rattle.std.specs.Prelude.{Err, None, Ok, Option, Result, Some, is_err, is_none, is_some, not, option_to_list, slice_get}
pub use Rattle.std.specs.Prelude.{slice_index_or, slice_set}
pub use Rattle.uxn_io_traits.specs.ByteList.{ByteList}
pub use Rattle.uxn_io_traits.specs.Ended.{SinkEnded}
pub use Rattle.uxn_io_traits.specs.EndedLaws.{sink-as-it-was, sink-then}
pub use Rattle.uxn_io_traits.specs.ChangeLaws.{put_by-append}
pub use Rattle.uxn_io_traits.specs.Outside.{Change, Creates, Removes, ToErr, ToFile, ToOut, put_by}
pub use Rattle.uxn_io_traits.specs.State.{SinkState}
pub use Rattle.uxn_line.specs.Handing.{HandedOn, KeptBack, WasNotPut, put_from}
pub use Rattle.uxn_line.specs.Machines.{MachineHasDone, MachineRepresents, Rests, handed_in, handed_on}
pub use Rattle.uxn_line.specs.MemberTurns.{HasRun, KeepsRing, MemberWasGiven}
pub use Rattle.uxn_line.specs.Members.{BeginsWith, IsOpen, MemberAt, OpenAt, handed, handed_at, member_has_ended, next_pending}
pub use Rattle.uxn_line.specs.Moves.{Came, Cause, Fails, Goes, HasTurned, IsUnderWay, IsWaiting, IsStill, LineFinishes, LineReaches, LineStops}
pub use Rattle.uxn_line.specs.Moves.{MachineIsHeld, StaysUnderWay, TurnCame, WritesLast, is_move, last_machine, ring_before, ring_of}
pub use Rattle.uxn_line.specs.Moves.{turned_by, written_in}
pub use Rattle.uxn_line.specs.Places.{AreForConsole, IsForConsole, is_for_console, no_outputs, put_in, turn}
pub use Rattle.uxn_line.specs.Standing.{AreToCome, ComeAfter, InLine, LineRepresents, RingBefore, Turned, inputs, line_job, machine_place}
pub use Rattle.uxn_line.specs.Standing.{none_turned, one_more}
pub use Rattle.uxn_line.specs.Streams.{AreOfConsole, FollowsRun, IsJob, LineJob, after, clock_by, exit_code_at, first_place, is_of_console}
pub use Rattle.uxn_line.specs.Streams.{new_machine, rom_at, run_of_machine, script_at, stream}
pub use Rattle.uxn_line.specs.Work.{WorksOn, still_given, work, work_left, works}
pub use Rattle.uxn_line.specs.declared.line.Line.{Line}
pub use Rattle.uxn_line.specs.declared.line.Moved.{Moved}
pub use Rattle.uxn_line.specs.declared.line.Moved.TheVariants.{Ended, Gave, Held, Ran, Waits}
pub use Rattle.uxn_line.specs.declared.machine.Machine.{Machine}
pub use Rattle.uxn_line.specs.declared.member.Member.{Member}
pub use Rattle.uxn_opcodes.specs.Rule.{new_core, opcode_at}
pub use Rattle.uxn_opcodes.specs.declared.Core.{Core}
pub use Rattle.varvara_bus.specs.History.{stored_short}
pub use Rattle.varvara_bus.specs.InstructionLaws.{instruction-borrowed, instruction-done, instruction-fault}
pub use Rattle.varvara_bus.specs.Model.{instruction_effect}
pub use Rattle.varvara_bus.specs.State.{DeviceState, new_state}
pub use Rattle.varvara_bus.specs.declared.devices.Devices.{Devices}
pub use Rattle.vector_loop.specs.PendingInputs.{ConsoleByte, arguments_given, console_byte_of, counted_input, pending_inputs_of}
pub use Rattle.vector_loop.specs.Places.{Place, PlaceHasEnded, holding, place, run_left}
pub use Rattle.vector_loop.specs.State.{State, is_over}
pub use Rattle.vector_loop.specs.Trace.{Trace}
pub use Rattle.vector_loop.specs.declared.pending_input.PendingInput.{PendingInput}
pub use Rattle.vector_loop.specs.declared.pending_input.PendingInput.TheVariants.{OfEvent}
