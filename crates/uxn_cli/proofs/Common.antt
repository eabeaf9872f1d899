-- The names that the proofs of the files of a task cite, handed on from one place. Declares nothing.
pub use Rattle.std.proofs.Common.{All, Bool, Err, IfSome, IsSome, List, None, Ok, Option, Result, Some, [], ap, arith, bytes_eq, cond}
pub use Rattle.std.proofs.Common.{count_by, drop, false, find, get_or, if◌then◌else◌, inl, inr, length, map, not, option_map, option_to_list, refl}
pub use Rattle.std.proofs.Common.{IfOk, rules, subst, sym, take, take_all, true, true≢false, ℕ, ◌&&◌, ◌++◌, ◌+◌, ◌<◌, ◌∙◌, ◌∷◌, ◌≡◌, ◌≤◌, ◌⊎◌}
pub use Rattle.std.proofs.lemmas.Grind.{common_steps}
pub use Rattle.std.proofs.lemmas.List.{drop_all, drop_more, get_or-map, length-append, length-map, map-append, take_more}
pub use Rattle.std.proofs.lemmas.List.Elements.{All-cons, All-head, All-nil, All-push, All-tail, All-weaker}
pub use Rattle.std.proofs.lemmas.Slice.Eq.{bytes_eq-Decides}
pub use Rattle.std.specs.List.{AllByRecursion, list_any}
pub use Rattle.tal_words.specs.declared.name.Label.{Label}
pub use Rattle.uxn_io_traits.specs.ByteList.{ByteList}
pub use Rattle.uxn_io_traits.specs.Changes.{can_create, with_appended, with_created}
pub use Rattle.uxn_io_traits.specs.Ended.{TreeEnded, TreeLooked, appending, contents_after, creating_all}
pub use Rattle.uxn_io_traits.specs.EndedLaws.{looked-ended, looked-nothing, contents_after-map, contents_after-none, tree-first, tree-then}
pub use Rattle.uxn_io_traits.specs.Files.{File, Node, Nodes, file_at, has_parent}
pub use Rattle.uxn_io_traits.specs.NodeLaws.{get_put, put_elsewhere, put_other, same_or_other}
pub use Rattle.uxn_io_traits.specs.Outside.{Change, Creates, ToFile}
pub use Rattle.uxn_io_traits.specs.State.{TreeState}
pub use Rattle.uxn_io_traits.specs.declared.trees.FileBytes.{FileBytes}
pub use Rattle.uxn_memory.specs.Bytes.{largest_rom}
pub use Rattle.uxn_opcodes.specs.declared.Stop.TheVariants.{NoMemory, TreeFault}
pub use Rattle.uxn_arguments.specs.Options.{inputs_of, outputs_of, root_of}
pub use Rattle.uxn_arguments.specs.Places.{meets}
pub use Rattle.uxn_arguments.specs.Values.{then_steps}
unfoldable pub use Rattle.uxn_arguments.specs.Places.{clashes}
pub use Rattle.uxn_arguments.specs.declared.task.AssembleTask.{AssembleTask}
pub use Rattle.uxn_arguments.specs.declared.task.DebugTask.{DebugTask}
pub use Rattle.uxn_arguments.specs.declared.task.DisassembleTask.{DisassembleTask}
pub use Rattle.uxn_arguments.specs.declared.task.RunTask.{RunTask}
pub use Rattle.uxn_arguments.specs.declared.task.Task.{Task}
pub use Rattle.uxn_arguments.specs.declared.task.Task.TheVariants.{Assemble, Run}
pub use Rattle.uxn_cli.specs.Outputs.{paths_of, observed_text, observed_texts}
unfoldable pub use Rattle.uxn_cli.specs.Request.{request}
pub use Rattle.uxn_cli.specs.Writing.{Did, filling_all}
unfoldable pub use Rattle.uxn_cli.specs.Writing.{writing}
pub use Rattle.uxn_cli.specs.declared.task_files.outputs.Output.{Output}
pub use Rattle.uxn_cli.specs.declared.task_files.refusal.Halt.{Halt}
pub use Rattle.uxn_cli.specs.declared.task_files.refusal.Halt.TheVariants.{Refused}
pub use Rattle.uxn_cli.specs.declared.task_files.refusal.Refusal.{Refusal}
pub use Rattle.tal_include.specs.Sources.{Sourced, sourced_of}
unfoldable pub use Rattle.tal_include.specs.Sources.{source_inquiry}
pub use Rattle.uxn_io_traits.specs.Inquiry.{Inquiry, Answer, and_then, gather, answer_in, result_as}
pub use Rattle.uxn_io_traits.specs.Gives.{CanAnswer, Gives}
pub use Rattle.uxn_io_traits.specs.Inquires.{Inquires, Says}
pub use Rattle.uxn_io_traits.specs.Leads.{Leads}
pub use Rattle.uxn_io_traits.specs.AskingLaws.{inquires-stop, inquires-more, inquires-last, inquires-as, leads-stop, leads-more, leads-said, gather-stop, gather-more, gather-end}
pub use Rattle.uxn_cli.specs.Accepted.{SourceFiles, output_texts}
unfoldable pub use Rattle.uxn_cli.specs.Accepted.{source_of, program_of, symbols_of, script_of, commands_of, setup_of, machine_of, run_of, files_of, disassembly_of, machines_of, free_output}
pub use Rattle.uxn_cli.specs.Accepted.{free_outputs, said_output}
pub use Rattle.uxn_cli.specs.Inputs.{kind_text}
unfoldable pub use Rattle.uxn_cli.specs.Inputs.{text_of}
pub use Rattle.uxn_cli.specs.Made.{AreApart, AreFree, DoesPart, EndsMaking, HalfDone, IsUnmade, Made, MakesOutputs, Refuses, WritesOutputs}
pub use Rattle.uxn_cli.specs.World.{AreFiles, Text, text_paths, with_empty}
unfoldable pub use Rattle.uxn_cli.specs.World.{CanMake}
pub use Rattle.uxn_cli.specs.Request.{apart, word_refusal}
