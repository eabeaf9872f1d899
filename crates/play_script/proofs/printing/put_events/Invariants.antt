use Rattle.std.proofs.Common.{◌≡◌, ◌++◌, take}
use Rattle.std.specs.List.{flat_map}
use Rattle.play_script.specs.PlainText.{event_words, line_text}
use Rattle.play_script.proofs.printing.put_events.Given as goal

abbrev pub invariant-loop-event : goal.invariant-loop-event
invariant-loop-event l = l.text.items ≡ l.fn.text.items ++ flat_map (λ given. line_text (event_words given)) (take l.event-index l.events)
