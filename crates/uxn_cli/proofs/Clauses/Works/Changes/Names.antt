-- The names from elsewhere that proofs of this crate cite, passed on from one place. Declares nothing.
pub use Rattle.file_ports.specs.Device.{suits}
pub use Rattle.file_ports.specs.PartLaws.{below-same, same-part, parts-same}
pub use Rattle.file_ports.specs.RootPart.{below, parent_is_folder}
unfoldable pub use Rattle.file_ports.specs.RootPart.{is_in}
pub use Rattle.text_lines.specs.Scripts.{ScriptView}
pub use Rattle.text_lines.specs.declared.script.Version.TheVariants.{Second}
pub use Rattle.std.proofs.Common.{◌≡◌, ℕ, Bool, true, false, List, [], ◌∷◌, ◌++◌, refl, ap, sym, ◌∙◌, Some, ◌≤◌, ◌⊎◌, if◌then◌else◌, inl, inr, subst}
pub use Rattle.std.proofs.Common.{arith, ◌≢◌, map, length, append-nil, rules, true≢false, ◌+◌}
pub use Rattle.std.proofs.Math.Bool.{or-true}
pub use Rattle.std.proofs.lemmas.Bool.{or_parts, false_from_ne_true}
pub use Rattle.std.proofs.lemmas.Grind.{common_steps}
pub use Rattle.std.proofs.lemmas.List.{length-map}
pub use Rattle.std.proofs.lemmas.List.Folds.{list_any-append}
pub use Rattle.std.proofs.lemmas.Option.{IfSome_then}
pub use Rattle.std.proofs.lemmas.Result.{IfOk-weaker}
pub use Rattle.std.proofs.lemmas.Slice.Eq.{bytes_eq-Decides}
pub use Rattle.std.specs.FinMap as fin
pub use Rattle.std.specs.Global.{Vec}
pub use Rattle.std.specs.List.{list_any, list_all, AllByRecursion}
pub use Rattle.std.specs.Prelude.{Option, None, option_map, IfSome, Result, Ok, Err, IfOk, ◌||◌, option_to_list, is_err, OnOk, IsSome}
pub use Rattle.std.specs.Result.{result_and, result_or}
pub use Rattle.std.specs.Str.{bytes_eq}
pub use Rattle.system_port.specs.DebugText.{exit_code_of}
pub use Rattle.uxn_arguments.specs.Options.{outputs_of, root_of, run_outputs, log_of}
pub use Rattle.uxn_arguments.specs.Places.{HasApartOutputs, meets}
pub use Rattle.uxn_arguments.specs.declared.task.DebugTask.{DebugTask}
pub use Rattle.uxn_arguments.specs.declared.task.RunTask.{RunTask}
pub use Rattle.uxn_arguments.specs.declared.task.Task.{Task}
pub use Rattle.uxn_arguments.specs.declared.task.Task.TheVariants as tasks
pub use Rattle.uxn_cli.proofs.AnswerLemmas.{plays-given, run-refused, files-refused, same_ok}
pub use Rattle.uxn_cli.proofs.DidLemmas.{refused-then}
pub use Rattle.uxn_cli.proofs.GivesLemmas.{IsOfInputs, AsksFor, asks-then, asked-then, run-asked, disassembly-asked, machines-asked}
pub use Rattle.uxn_cli.proofs.GivesLemmas.{files-asked, outputs-asked, then-given, source-given, script-given}
pub use Rattle.uxn_cli.proofs.OutputLemmas.{observed_paths}
pub use Rattle.uxn_cli.proofs.PlaceLemmas.{meets_parts, all-apart, apart-outside, outputs-outside, log-outside}
pub use Rattle.uxn_cli.proofs.StatusLemmas.{refuses-no-exit, exit-not-early, refusal-not-early, blame_early, blameless, tree_rose, sink_rose}
pub use Rattle.uxn_cli.proofs.WordLemmas.{requested_apart, requests-both}
pub use Rattle.uxn_cli.proofs.WritingLemmas.{Fills, creating-keeps, filling-keeps, text-keeps, made-of-tree, filled-of-tree, written-of-tree}
pub use Rattle.uxn_cli.specs.Accepted.{free_outputs, first_source}
unfoldable pub use Rattle.uxn_cli.specs.Accepted.{run_of, files_of, disassembly_of, machines_of, free_output, source_of}
pub use Rattle.uxn_cli.specs.Answer.{HasUnknownContents, HasOutcome, HasDone, HasDoneWork, MayRunOut, MayStop, AnswersCall, Performs}
pub use Rattle.uxn_cli.specs.Blame.{stop_blame, status_blame, as_step, halted_by_tree, result_blame, OnRefused, halt_of_inquiry}
pub use Rattle.uxn_cli.specs.Call.{Call, call_request, step_status}
pub use Rattle.uxn_cli.specs.Causes.{tree_verdict, EndsWith, IsExactly, PutsLine, IsAside, KeepsOthers}
pub use Rattle.uxn_cli.specs.Clauses.{HasStatuses, EndsEarlyByFaults, IsCutShort, ComesOut, LeavesTheRest, GivesTheSame}
pub use Rattle.uxn_cli.specs.Held.{model_of_program}
pub use Rattle.uxn_cli.specs.Isolation.{LookSame, GivesAsOn}
pub use Rattle.uxn_cli.specs.Joined.{LineGoesOn, job_of_joined, LineHasDone, joined_plan}
pub use Rattle.uxn_cli.specs.Lines.{refusal_line, refusal_text}
pub use Rattle.uxn_cli.specs.Made.{MakesOutputs, WritesOutputs, AreFree, Refuses, EndsMaking}
pub use Rattle.uxn_cli.specs.Observation.{unwatched, watched, with_log, HaveSameItems, ComeToOneRun, ShowsWhatPlayDoes}
pub use Rattle.uxn_cli.specs.Outcome.{line_exit, Outcome, outcome_of, reporting, run_changes, line_bytes, written_paths, root_of_work, IsOutputOf, GivesOutcome}
unfoldable pub use Rattle.uxn_cli.specs.Outcome.{running}
pub use Rattle.uxn_cli.specs.Outputs.{paths_of, observed_texts}
pub use Rattle.uxn_cli.specs.Outside.{DoesWork, HostState, host_state, observed_outside}
pub use Rattle.uxn_cli.specs.Prepared.{IsPlanned, AreNew, IsPreparedRun, prepared_debugging, prepared_job, prepared_plan, printed_plan}
pub use Rattle.uxn_cli.specs.Puts.{Puts}
pub use Rattle.uxn_cli.specs.Refused.{HasNoRoot, AtMostOne, CountsRefusals, ReportsRefused}
pub use Rattle.uxn_cli.specs.Request.{request}
pub use Rattle.uxn_cli.specs.RunJob.{trace_of, RunJob, job_outputs, first_state, log_texts, RootView, Debugging, debugging, first_devices}
pub use Rattle.uxn_cli.specs.RunJob.{root_view_in, no_root_view, common_lines, wanted_outputs, run_end}
unfoldable pub use Rattle.uxn_cli.specs.RunJob.{reference_trace, report_text}
pub use Rattle.uxn_cli.specs.RunsFromRoot.{AtRootView, RunFiles, RunsFromRoot, RunsOverOutside, blame_if, task_trace, logged_changes}
pub use Rattle.uxn_cli.specs.Statuses.{early_status, IsRefusedWith, IsEarly, status_of, IsRefusing}
pub use Rattle.uxn_cli.specs.Summary.{summary_text}
pub use Rattle.uxn_cli.specs.Truncated.{HoldsPrefixes, LeavesPrefixes}
pub use Rattle.uxn_cli.specs.Verdict.{Work, Run, Write, Print, RunLine, accepted_summary, Plan, plan_of, inquiry_of, run_plan, planned, line_job}
pub use Rattle.uxn_cli.specs.Verdict.{run_job, given_debugging}
unfoldable pub use Rattle.uxn_cli.specs.Verdict.{run_plan_of, line_plan_of, work_of}
pub use Rattle.uxn_cli.specs.Workload.{lone_trace, HasRunAlone, run_summary}
unfoldable pub use Rattle.uxn_cli.specs.Workload.{workload_text}
pub use Rattle.uxn_cli.specs.World.{Text, world, requested_output}
pub use Rattle.uxn_cli.specs.Writing.{filling_all}
unfoldable pub use Rattle.uxn_cli.specs.Writing.{writing}
pub use Rattle.uxn_cli.specs.declared.playing.Prepared.{Prepared}
pub use Rattle.uxn_cli.specs.declared.running.RunEnd.{RunEnd}
pub use Rattle.uxn_cli.specs.declared.task_files.assembling.Written.{Written}
pub use Rattle.uxn_cli.specs.declared.task_files.refusal.Halt.{Halt}
pub use Rattle.uxn_cli.specs.declared.task_files.refusal.Halt.TheVariants.{Refused, Stopped}
pub use Rattle.uxn_cli.specs.declared.task_files.refusal.Refusal.{Refusal}
pub use Rattle.uxn_cli.specs.declared.task_files.refusal.Refusal.TheVariants.{OtherEvents, NoOutput}
pub use Rattle.uxn_debugger.specs.Log.{log_over}
pub use Rattle.uxn_debugger.specs.Watching.{Watching}
pub use Rattle.uxn_io_traits.specs.Along.{AgreeAlong}
pub use Rattle.uxn_io_traits.specs.Gives.{Gives}
pub use Rattle.uxn_io_traits.specs.GivesLaws.{always-gives, gives-answer, gives-bind, inquires-gives, answer-gives}
pub use Rattle.uxn_io_traits.specs.Inquires.{Inquires, Says}
pub use Rattle.uxn_io_traits.specs.Inquiry.{Inquiry, Answer, and_then, answer_in}
pub use Rattle.uxn_io_traits.specs.InquiryLaws.{answered, answer-more, same-answer, answer-refused}
pub use Rattle.uxn_io_traits.specs.AskingLaws.{inquires-looked, inquires-last, inquires-stop, inquires-said}
pub use Rattle.uxn_io_traits.specs.declared.halt.Halt.{Halt as InquiryHalt}
pub use Rattle.uxn_io_traits.specs.declared.halt.Halt.TheVariants.{Refused as Denied, TreeFault as TreeFailed, NoMemory as OutOfMemory}
pub use Rattle.uxn_io_traits.specs.AppendingLaws.{changed_by-file}
pub use Rattle.uxn_io_traits.specs.AtPath.{contents_at, Spares, Adds, HoldsFilePrefix}
pub use Rattle.uxn_io_traits.specs.AtPathLaws.{node_by, node-by, spared-by, spared, spared-prefix, kept-node, files-after}
pub use Rattle.uxn_io_traits.specs.CallLaws.{ended-as}
pub use Rattle.uxn_io_traits.specs.ChangeLaws.{files-contents, changed_by-err, changed_by-append, changed_by-adds, changed_by-puts, HaveSameOutputs}
pub use Rattle.uxn_io_traits.specs.ChangeLaws.{outputs-after}
pub use Rattle.uxn_io_traits.specs.Changes.{with_appended}
pub use Rattle.uxn_io_traits.specs.EachLaws.{each-of, each-append, each-parts, each-so, each-map}
pub use Rattle.uxn_io_traits.specs.Ended.{AreOfTree, TreeLooked, SinkEnded, Done, CutShort, Ended, blame_of_tree, to_err, to_out, creating_all}
pub use Rattle.uxn_io_traits.specs.Ended.{Refused as CreateRefused, RefusesNone}
pub use Rattle.uxn_io_traits.specs.EndedLaws.{outside-of-tree, outside-of-out, outside-of-err, short-of-out, short-of-err, files-same-outputs}
pub use Rattle.uxn_io_traits.specs.EndedLaws.{ended-then, ended-first, looked-ended, looked-nothing, refuses-then, refuses-nothing}
pub use Rattle.uxn_io_traits.specs.FaultLaws.{ledger-then, counted-same, ledger-same}
pub use Rattle.uxn_io_traits.specs.Faults.{Ledger, AllCounted, Nobody, TheTree, ASink, counts, Blame}
pub use Rattle.uxn_io_traits.specs.Files.{Nodes, Node, is_folder, is_folder_at}
pub use Rattle.uxn_io_traits.specs.Known.{extended, IsPrefixOf}
pub use Rattle.uxn_io_traits.specs.Outside.{Change, ToOut, ToErr, ToFile, World, changed_by, files_by, IsCutOff, put_by}
pub use Rattle.uxn_io_traits.specs.PathLaws.{parent_under}
pub use Rattle.uxn_io_traits.specs.PathText.{parent_of}
pub use Rattle.uxn_io_traits.specs.PrefixLaws.{made-by, file-prefix, spares-adds}
pub use Rattle.uxn_io_traits.specs.State.{Outside, SinkState, TreeState, outside}
pub use Rattle.uxn_io_traits.specs.Taking.{Guaranteed, Remains, WasNotGuaranteed}
pub use Rattle.uxn_io_traits.specs.TakingLaws.{not-guaranteed-first, not-guaranteed-later}
pub use Rattle.uxn_io_traits.specs.declared.sinks.Failed.{Failed}
pub use Rattle.uxn_limits.specs.declared.limits.TheConstants.{USUAL_BUDGET}
pub use Rattle.uxn_line.specs.Moves.{IsUnderWay}
pub use Rattle.uxn_line.specs.Streams.{is_of_console, exit_code_at, LineJob}
pub use Rattle.uxn_line.specs.declared.line.Line.{Line as LineOf}
pub use Rattle.uxn_opcodes.specs.Ports.{result_blame as blame_of_result}
pub use Rattle.uxn_opcodes.specs.Rule.{new_core}
pub use Rattle.uxn_opcodes.specs.declared.Stop.{Stop}
pub use Rattle.uxn_opcodes.specs.declared.Stop.TheVariants.{TreeFault, SinkFault, NoMemory}
pub use Rattle.varvara_bus.proofs.Appends.{appended-stays}
pub use Rattle.varvara_bus.specs.Bus.{IsOutside, BusRepresents, FilesStay, IsFileWhereKnown, contents_on}
pub use Rattle.varvara_bus.specs.State.{HasFiles}
pub use Rattle.varvara_bus.specs.Touching.{IsSeparateFrom}
pub use Rattle.varvara_bus.specs.declared.bus.Bus.{Bus}
pub use Rattle.varvara_bus.specs.declared.devices.Devices.{Devices}
pub use Rattle.vector_loop.specs.AppendingLaws.{run-keeps}
pub use Rattle.vector_loop.specs.Folders.{TraceTakesNames}
pub use Rattle.vector_loop.specs.Outputs.{appended_to, IsOutput}
pub use Rattle.vector_loop.specs.Trace.{Trace}
