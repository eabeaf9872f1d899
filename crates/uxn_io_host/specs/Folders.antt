-- The current folder as a tree (profile).
use Rattle.std.specs.Prelude.{ℕ, ◌-◌, ◌^◌, min, None}
use Rattle.uxn_io_traits.specs.State.{TreeState}
use Rattle.uxn_io_traits.specs.Unknown.{unknown_tree}
use Rattle.uxn_io_traits.specs.declared.refused.RefusedFiles.{RefusedFiles}
use Rattle.uxn_io_host.specs.declared.folder.CurrentFolder.{CurrentFolder}

-- a count of 64 bits
abbrev pub count_of : ℕ → ℕ
count_of n = min n (2 ^ 64 - 1)

-- its contents are unknown; its faults and the files that it refused to create are counted
abbrev pub folder_state : {R F D : Type 0} → CurrentFolder R F D → TreeState
folder_state folder = unknown_tree (count_of folder.system.faults) folder.refused

-- no file was refused
abbrev pub none_refused : RefusedFiles
none_refused = record { count = 0; last = None }
