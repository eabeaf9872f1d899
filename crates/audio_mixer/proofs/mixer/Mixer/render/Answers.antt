use Rattle.std.specs.Prelude.{◌≡◌, All, replicate, pos, refl}
use Rattle.std.proofs.Common.{ap, ◌∙◌}
use Rattle.std.proofs.lemmas.List.Elements.{All-replicate}
use Rattle.audio_mixer.specs.Voices.{IsShort}
use Rattle.audio_mixer.proofs.Frames.{frame-of_sounds}
use Rattle.audio_mixer.proofs.mixer.Mixer.render.Goals as goal

pub returns-clause-frame : goal.returns-clause-frame
returns-clause-frame c = λ sounds stands.
    let zeros : c.fill.new.self ≡ replicate 1470 (pos 0) = c.fill.ensures.after (λ x e. e) ∙ ap (λ n. replicate n (pos 0)) c.told-into in
    let shorts : All IsShort c.fill.new.self = rw zeros (All-replicate IsShort 1470 (pos 0) refl) in
    let first = c.add_frame.ensures.adds (sounds 0) stands.first shorts in
    let second = c.add_frame-2.ensures.adds (sounds 1) stands.second first.shorts in
    let third = c.add_frame-3.ensures.adds (sounds 2) stands.third second.shorts in
    let fourth = c.add_frame-4.ensures.adds (sounds 3) stands.fourth third.shorts in
    frame-of_sounds c.args.memory.now sounds _ _ _ _ _ c.add_frame-4.array_long zeros first second third fourth
