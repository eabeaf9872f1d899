use Rattle.vector_loop.proofs.Common.{DeviceState, State, Tally, ap, arith, counting_event, none, of_events, of_vectors, picture_bytes, refl, stays}
use Rattle.std.proofs.Common.{lit≤}
use Rattle.text_lines.specs.declared.script.Event.TheVariants.{Device, EndInput, Frame, Input, Shot}
use Rattle.varvara_bus.specs.State.{screen_refreshed}
use Rattle.vector_loop.specs.State.{with_counted, with_next_frame}
use Rattle.vector_loop.specs.Event.{expected, frame, give, shot, shown_and_heard}
use Rattle.vector_loop.proofs.Counting.{grown-compared, grown-counted}
use Rattle.vector_loop.proofs.Frames.{pictured}
use Rattle.vector_loop.proofs.Events.{answers-given, one_event, with_compared}
use Rattle.vector_loop.proofs.Answering.{answers-change, answers-made, answers-stored, answers-then, answers-within}
use Rattle.vector_loop.proofs.runner.Runner.give_event.Goals as goal

pub returns-in-Input-clause-answers : goal.returns-in-Input-clause-answers
returns-in-Input-clause-answers g c = rw c.in-Input.is
    (answers-given _ c.args.self.now _ c.args.self.now.budget c.args.outputs.now (Input c.in-Input.byte) 1 _ (lit≤ tt) c.give_console.ensures)

pub returns-in-EndInput-clause-answers : goal.returns-in-EndInput-clause-answers
returns-in-EndInput-clause-answers g c = rw c.in-EndInput.is
    (answers-given _ c.args.self.now _ c.args.self.now.budget c.args.outputs.now EndInput 1 _ (lit≤ tt) c.give_console-in-EndInput.ensures)

pub returns-in-Device-clause-answers : goal.returns-in-Device-clause-answers
returns-in-Device-clause-answers g c = rw c.in-Device.is
    (answers-given _ c.args.self.now _ c.args.self.now.budget c.args.outputs.now (Device c.in-Device.input) 1 _ (lit≤ tt) c.give_device.ensures)

pub returns-in-Frame-clause-answers : goal.returns-in-Frame-clause-answers
unfolding give frame
returns-in-Frame-clause-answers g c = rw c.in-Frame.is
    (answers-then _ _ _ _ (λ s. stays (with_next_frame (with_counted Frame s))) (shown_and_heard c.args.self.now.budget c.args.outputs.now)
    one_event (of_vectors 5) (tt {0}) _
    (answers-change _ _ _ (λ s. with_next_frame (with_counted Frame s)) one_event (tt {0}) refl refl c.frame_begins.ensures.others
    (omega (arith, c.frame_begins.ensures.frames)) (grown-counted Frame c.args.self.now.tally c.args.self.now.budget)
    c.frame_begins.ensures.devices.bus (λ devices stands. refl))
    c.show_and_sound.ensures)

pub returns-in-Expect-clause-answers : goal.returns-in-Expect-clause-answers
unfolding give expected
returns-in-Expect-clause-answers g c =
    let now : DeviceState → Tally → State = λ devices tally. record { core = c.args.self.now.core.now; devices = devices; tally = tally } in
    rw c.in-Expect.is
    (answers-within _ _ _ _ one_event (of_events 1) _ (omega arith) (omega arith)
    (answers-change _ _ _ (with_compared c.in-Expect.port c.in-Expect.byte) one_event (tt {0}) refl refl
    (record { borrowed = record { devices = refl; tree = refl; out = refl; err = refl }; tree = refl; out = refl; err = refl; clock = refl; root = refl })
    (omega arith) (grown-compared c.args.self.now.tally _ c.args.self.now.budget c.compare.ensures.grown) (λ devices stands. stands)
    (λ devices stands. ap (now devices) (c.compare.ensures.counted devices stands))))

pub returns-in-Shot-clause-answers : goal.returns-in-Shot-clause-answers
unfolding shot picture_bytes
returns-in-Shot-clause-answers g c = rw c.in-Shot.is
    (answers-given _ c.args.self.now _ c.args.self.now.budget c.args.outputs.now Shot 0 _ (lit≤ tt)
    (answers-stored _ _ (record c.args.self.now {
      tally = counting_event Shot c.args.self.now.tally;
      bus = record c.args.self.now.bus { now = c.refresh.new.self };
    }) _ screen_refreshed (pictured c.args.outputs.now) none _ refl refl refl c.refresh.ensures.others c.refresh.ensures.frames
    c.refresh.ensures.devices.bus (answers-made _ _ _ c.args.outputs.now.frames picture_bytes _
    (rw (c.refresh.ensures.others.root, c.refresh.ensures.others.tree) c.requires.outputs.frames) refl refl c.keep_picture.ensures)))

pub returns-in-Shot-clause-shot : goal.returns-in-Shot-clause-shot
returns-in-Shot-clause-shot g c is = record {
  core = refl;
  devices = λ devices stands. c.keep_picture.ensures.devices (screen_refreshed devices) (c.refresh.ensures.devices.bus devices stands);
  tally = refl;
  watcher = refl;
}
