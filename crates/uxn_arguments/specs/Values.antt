-- What the values on the command line mean: numbers, and paths (profile).
use Rattle.std.specs.Prelude.{ℕ, List, Option, Some, option_and_then, option_map, ok_or, Result, Ok, Err}
use Rattle.std.specs.Option.{option_map_or, option_transpose}
use Rattle.std.specs.Result.{result_ok}
use Rattle.uxn_limits.specs.declared.limits.TheConstants.{GREATEST_BUDGET, USUAL_BUDGET, MOST_ROUTINES}
use Rattle.uxn_io_traits.specs.ByteList.{tight}
use Rattle.uxn_io_traits.specs.PathText.{path_of}
use Rattle.text_lines.specs.Numbers.{number_within}
use Rattle.uxn_arguments.specs.declared.words.WordFault.{WordFault}
use Rattle.uxn_arguments.specs.declared.words.WordFault.TheVariants.{NotUnderstood, NoPath}

-- the value that a line gives each name
abbrev pub Values : Type 0
Values = List ℕ → Option (List ℕ)

-- a step after another: the first fault counts
abbrev pub then_steps : {A B E : Type 0} → Result A E → (A → Result B E) → Result B E
then_steps (Ok value) next = next value
then_steps (Err fault) next = Err fault

-- the greatest number of instructions of a vector, at least 1
abbrev pub requested_budget : Option (List ℕ) → Option ℕ
requested_budget word = option_map_or (number_within 1 GREATEST_BUDGET) word (Some USUAL_BUDGET)

-- the count of a workload, at least 1
abbrev pub requested_count : Option (List ℕ) → Option ℕ
requested_count word = option_and_then (number_within 1 MOST_ROUTINES) word

-- each word that names a file is a path
abbrev pub requested_path : List ℕ → Result (List ℕ) WordFault
requested_path word = ok_or (result_ok (path_of word)) (NoPath (tight word))

-- one that has to be given, and one that may be missing
abbrev pub required_path : Values → List ℕ → Result (List ℕ) WordFault
required_path at name = then_steps (ok_or (at name) NotUnderstood) requested_path

abbrev pub optional_path : Values → List ℕ → Result (Option (List ℕ)) WordFault
optional_path at name = option_transpose (option_map requested_path (at name))
