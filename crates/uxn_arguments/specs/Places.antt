-- Which of the files that a task names clash (profile).
use Rattle.std.specs.Prelude.{◌≡◌, ℕ, Bool, nat_lt, ◌||◌, List, ◌++◌, count_by, find, Option, None, option_to_list}
use Rattle.std.specs.List.{list_any}
use Rattle.std.specs.Str.{bytes_eq}
use Rattle.uxn_io_traits.specs.PathText.{is_under}
use Rattle.uxn_arguments.specs.declared.task.Task.{Task}
use Rattle.uxn_arguments.specs.Options.{inputs_of, outputs_of, root_of}

-- the root and the outputs, none of which may meet another
abbrev pub places_of : Task → List (List ℕ)
places_of task = option_to_list (root_of task) ++ outputs_of task

-- two files meet where they are the same or one lies under the other
abbrev pub meets : List ℕ → List ℕ → Bool
meets path other = bytes_eq path other || is_under path other || is_under other path

-- an output clashes with another output or the root (it meets itself), or is an input
unfoldable pub clashes : List (List ℕ) → List (List ℕ) → List ℕ → Bool
clashes inputs places path = nat_lt 1 (count_by (meets path) places) || list_any (bytes_eq path) inputs

-- the first output that clashes
abbrev pub first_clash : Task → Option (List ℕ)
first_clash task = find (clashes (inputs_of task) (places_of task)) (outputs_of task)

abbrev pub HasApartOutputs : Task → Type 0
HasApartOutputs task = first_clash task ≡ None
