-- What one more sample does to a note that is kept.
use Rattle.std.proofs.lemmas.Grind.{common_steps}
use Rattle.std.specs.Prelude.{◌≡◌, ℕ, ◌+◌, ◌*◌, ◌/◌, ◌%◌, ◌<◌, ◌≤◌, Bool, true, false, refl, if◌then◌else◌}
use Rattle.std.proofs.Common.{sym, ◌∙◌, ap, arith}
use Rattle.std.proofs.lemmas.Bool.Decides.{nat_tests}
use Rattle.std.proofs.Math.Nat.{div-add-mod, mul-add-div, mul-add-mod_self_left, mod-add-mod, mod-eq_of_lt, one-mul, zero-mul, zero-mod}
use Rattle.audio_mixer.specs.declared.notes.Start.{Start}
use Rattle.audio_mixer.specs.declared.voices.Playing.{Playing}
use Rattle.audio_mixer.specs.Notes.{advance_of, period_of, length_of, is_repeating, steps_of, wrapped, sample_place, is_played, loudness, envelope_at}
use Rattle.audio_mixer.specs.Voices.{Plays, IsAhead}
use Rattle.audio_mixer.specs.Laws.{loudness-kept}

-- several more advances, from the whole steps and the rests of those before and of each
many-more : (age more advance period : ℕ) → (age + more) * advance
    ≡ period * (age * advance / period + more * (advance / period)) + (age * advance % period + more * (advance % period))
many-more age more advance period =
    let each : more * (period * (advance / period) + advance % period) ≡ more * advance = ap (λ n. more * n) (div-add-mod advance period) in
    omega (arith, each, div-add-mod (age * advance) period)

rest-more : (age more advance period : ℕ) → (age + more) * advance % period ≡ (age * advance % period + more * (advance % period)) % period
rest-more age more advance period = rw (many-more age more advance period) (mul-add-mod_self_left period _ _)

steps-more : (age more advance period : ℕ) → 0 < period → (age + more) * advance / period
    ≡ age * advance / period + more * (advance / period) + (age * advance % period + more * (advance % period)) / period
steps-more age more advance period h = rw (many-more age more advance period) (mul-add-div h _ _)

-- going on from a wrapped place is going on and wrapping then
abbrev cond_place : Bool → ℕ → ℕ → ℕ
cond_place b len x = if b then x % len else x

pub wrapped-once : (note : Start) (x : ℕ) → is_repeating note ≡ false → wrapped note x ≡ x
unfolding wrapped
wrapped-once note x h = rw h refl

pub wrapped-small : (note : Start) (x : ℕ) → x < length_of note → wrapped note x ≡ x
unfolding wrapped
wrapped-small note x h = elim (is_repeating note) as (λ b. (cond_place b (length_of note) x) ≡ x) [ true ↦ mod-eq_of_lt h | false ↦ refl ]

pub wrapped-step : (note : Start) (x y : ℕ) → wrapped note (wrapped note x + y) ≡ wrapped note (x + y)
unfolding wrapped
wrapped-step note x y = grind (arith, common_steps, mod-add-mod)

-- no advance yet
pub rest-none : (note : Start) → 0 * advance_of note % period_of note ≡ 0
rest-none note = rw (zero-mul (advance_of note)) (zero-mod (period_of note))

pub place-none : (note : Start) → wrapped note (steps_of note 0) ≡ 0
unfolding steps_of wrapped
place-none note = grind (arith, common_steps)

-- the phase and the place after so many samples more
pub phase-passed : (p : Playing) (age more : ℕ) → Plays p p.start age
    → (p.phase + more * p.rest) % p.period ≡ (age + more) * advance_of p.start % period_of p.start
phase-passed p age more plays = grind (arith, common_steps, rest-more)

pub place-passed : (p : Playing) (age more steps : ℕ) → Plays p p.start age → steps ≡ more * p.whole + (p.phase + more * p.rest) / p.period
    → wrapped p.start (p.place + steps) ≡ wrapped p.start (steps_of p.start (age + more))
unfolding steps_of
place-passed p age more steps plays h = grind (arith, common_steps, steps-more, wrapped-step)

-- the place once the steps of one more advance are made
place-ahead : (p : Playing) (age carry : ℕ) → Plays p p.start age → carry ≡ (p.phase + p.rest) / p.period →
    wrapped p.start (p.place + (p.whole + carry)) ≡ sample_place p.start age
place-ahead p age carry plays h = place-passed p age 1 (p.whole + carry) plays (rw (h, one-mul p.whole, one-mul p.rest) refl)

pub ahead-some : (p : Playing) (age carry phase place : ℕ) → Plays p p.start age →
    carry ≡ (p.phase + p.rest) / p.period → phase ≡ (p.phase + p.rest) % p.period →
    place ≡ wrapped p.start (p.place + (p.whole + carry)) → place < p.len → IsAhead p.start age phase place
unfolding is_played
ahead-some p age carry phase place plays c r w h = grind (arith, common_steps, one-mul, phase-passed, place-ahead)

pub ahead-none : (p : Playing) (age carry : ℕ) → Plays p p.start age →
    carry ≡ (p.phase + p.rest) / p.period → is_repeating p.start ≡ false → p.len ≤ p.place + (p.whole + carry) → is_played p.start age ≡ true
unfolding is_played
ahead-none p age carry plays c once over =
    let at : p.place + (p.whole + carry) ≡ sample_place p.start age = sym (wrapped-once p.start _ once) ∙ place-ahead p age carry plays c in
    let past : length_of p.start ≤ sample_place p.start age = rw (← at, ← p.len_of_start) over in
    rw once (grind (arith, nat_tests))

-- an envelope that is over stays so, for what is kept
pub loudness-kept-of : (p : Playing) (age : ℕ) → Plays p p.start age →
    loudness p.envelope.attack p.envelope.decay p.envelope.sustain p.envelope.release p.age ≡ envelope_at p.start age
loudness-kept-of p age plays = grind (arith, common_steps, loudness-kept)
