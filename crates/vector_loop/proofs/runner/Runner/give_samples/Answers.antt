use Rattle.vector_loop.proofs.Common.{Err, Ok, arith, ended_vectors, followed_by, heard, map, none, of_vectors, refl, rules, sample_short}
use Rattle.vector_loop.proofs.Common.{samples_bytes, with_rendered, ◌≡◌}
use Rattle.varvara_bus.specs.State.{rendered}
use Rattle.vector_loop.proofs.Frames.{heard-as, kept}
use Rattle.vector_loop.proofs.Answering.{answers-first, answers-made, answers-stored, answers-then, answers-where, answers-within}
use Rattle.vector_loop.proofs.runner.Runner.give_samples.Goals as goal

pub returns-in_err-keep_samples : goal.returns-in_err-keep_samples
returns-in_err-keep_samples g c =
    let stop = c.in_err-keep_samples.field-0.0 in
    let result : c.from_residual.result ≡ Err stop = search rules in
    let rendered_now = c.audio_frame-ended.ensures in
    let keeps = kept c.args.outputs.now c.audio_frame-ended.new.into in
    let ends = ended_vectors c.args.self.now.budget c.audio_frame-ended.result in
    rw result (answers-within _ _ _ _ none (of_vectors 4) _ (omega arith) (omega arith)
    (answers-where _ _ _ (λ s. followed_by (keeps (with_rendered s)) ends) (heard c.args.self.now.budget c.args.outputs.now) none _
    (λ devices stands. heard-as c.args.self.now.budget c.args.outputs.now _ c.audio_frame-ended.new.into c.audio_frame-ended.result
    (rendered_now.frame devices stands.devices) (rendered_now.ends devices stands.devices))
    (answers-first _ _ _ (λ s. keeps (with_rendered s)) ends none stop
    (answers-stored _ _ (record c.args.self.now { bus = record c.args.self.now.bus { now = c.audio_frame-ended.new.self } }) _ rendered keeps none
    (Err stop) refl refl refl rendered_now.others rendered_now.frames rendered_now.devices.bus
    (answers-made _ _ _ c.args.outputs.now.samples (λ d. samples_bytes (map sample_short c.audio_frame-ended.new.into)) (Err stop)
    (rw (rendered_now.others.root, rendered_now.others.tree) c.requires.outputs.samples) refl refl c.in_err-keep_samples.ensures)))))

pub returns : goal.returns
returns g c =
    let rendered_now = c.audio_frame-ended.ensures in
    let keeps = kept c.args.outputs.now c.audio_frame-ended.new.into in
    let ends = ended_vectors c.args.self.now.budget c.audio_frame-ended.result in
    answers-where _ _ _ (λ s. followed_by (keeps (with_rendered s)) ends) (heard c.args.self.now.budget c.args.outputs.now) (of_vectors 4) _
    (λ devices stands. heard-as c.args.self.now.budget c.args.outputs.now _ c.audio_frame-ended.new.into c.audio_frame-ended.result
    (rendered_now.frame devices stands.devices) (rendered_now.ends devices stands.devices))
    (answers-then _ _ _ _ (λ s. keeps (with_rendered s)) ends none (of_vectors 4) (tt {0}) _
    (answers-stored _ _ (record c.args.self.now { bus = record c.args.self.now.bus { now = c.audio_frame-ended.new.self } }) _ rendered keeps none
    (Ok (tt {0})) refl refl refl rendered_now.others rendered_now.frames rendered_now.devices.bus
    (answers-made _ _ _ c.args.outputs.now.samples (λ d. samples_bytes (map sample_short c.audio_frame-ended.new.into)) (Ok (tt {0}))
    (rw (rendered_now.others.root, rendered_now.others.tree) c.requires.outputs.samples) refl refl c.in_ok-keep_samples.ensures))
    c.run_all_ended.ensures)
