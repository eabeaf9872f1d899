-- The limits of what a call reads and holds (profile).
use Rattle.std.specs.Prelude.{◌≡◌}
use Rattle.uxn_limits.specs.declared.limits.TheConstants as limit

-- the limits that definitions cite, by their numbers
pub record AreLimits : Type 0 where
  pub text_limit : limit.TEXT_LIMIT ≡ 4_194_304
  pub word_limit : limit.WORD_LIMIT ≡ 255
  pub visit_limit : limit.VISIT_LIMIT ≡ 1_000_000
  pub macro_depth : limit.MACRO_DEPTH ≡ 32
  pub included_files : limit.INCLUDED_FILES ≡ 256
  pub include_depth : limit.INCLUDE_DEPTH ≡ 15
  pub bank_rom_limit : limit.BANK_ROM_LIMIT ≡ 65_280
  pub largest_rom : limit.LARGEST_ROM ≡ 1_048_320
  pub symbols_limit : limit.SYMBOLS_LIMIT ≡ 16_777_216
  pub most_events : limit.MOST_EVENTS ≡ 1_000_000
  pub most_times : limit.MOST_TIMES ≡ 1_000_000
  pub last_second : limit.LAST_SECOND ≡ 253_370_000_000
  pub last_offset : limit.LAST_OFFSET ≡ 840
  pub most_commands : limit.MOST_COMMANDS ≡ 65_536
  pub most_printed : limit.MOST_PRINTED ≡ 256
  pub most_steps : limit.MOST_STEPS ≡ 4_294_967_295
  pub most_moments : limit.MOST_MOMENTS ≡ 65_536
  pub most_held : limit.MOST_HELD ≡ 16_777_216
  pub fewest_machines : limit.FEWEST_MACHINES ≡ 2
  pub most_machines : limit.MOST_MACHINES ≡ 8
  pub turns_of_line : limit.TURNS_OF_LINE ≡ 1_000_000
  pub most_turns : limit.MOST_TURNS ≡ 10_000_000
  pub greatest_budget : limit.GREATEST_BUDGET ≡ 4_294_967_295
  pub usual_budget : limit.USUAL_BUDGET ≡ 4_000_000
  pub most_routines : limit.MOST_ROUTINES ≡ 8_000
