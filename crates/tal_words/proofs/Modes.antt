-- Lists of modes, one at a time.
use Rattle.std.proofs.Common.{◌≡◌, ℕ, ◌+◌, ◌<◌, ◌≤◌, true, not, ◌&&◌, List, length, get_or, drop}
use Rattle.std.proofs.lemmas.List.{at_drop_more, at_drop_all}
use Rattle.tal_words.specs.Opcodes.{is_mode, has, are_modes}

pub are_modes-more : (modes : List ℕ) (at : ℕ) → at < length modes
    → are_modes (drop at modes) ≡ (is_mode (get_or modes at 0) && not (has (get_or modes at 0) (drop (at + 1) modes)) && are_modes (drop (at + 1) modes))
are_modes-more modes at within = at_drop_more are_modes modes at 0 within

pub are_modes-end : (modes : List ℕ) (at : ℕ) → length modes ≤ at → are_modes (drop at modes) ≡ true
are_modes-end modes at past = at_drop_all are_modes modes at past

pub ruleset mode_steps = (are_modes-more, are_modes-end)
