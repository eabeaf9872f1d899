-- The source of a workload of so many routines (profile): a number is pushed, each routine adds its own to it, the sum is printed,
-- and a frame is drawn over and over.
use Rattle.std.specs.Prelude.{ℕ, zero, suc, ◌+◌, ◌*◌, ◌%◌, List, [], ◌∷◌, ◌++◌, codes, decimal}
use Rattle.std.specs.List.{concat}
use Rattle.uxn_io_traits.specs.NumberText.{hex_of_short}

-- the numbers: x(0) is the count of routines, and x(i + 1) = 25173 * x(i) + 13849 modulo 65536
abbrev pub number : ℕ → ℕ → ℕ
number count zero = count
number count (suc i) = (25173 * number count i + 13849) % 65536

-- the name of a routine
unfoldable pub name_of : ℕ → List ℕ
name_of i = codes "w-" ++ decimal i

-- a line that calls a routine
abbrev pub drawn_call : ℕ → List ℕ
drawn_call i = name_of i ++ codes "\n"

-- the line of a routine, which adds a number
abbrev pub routine : ℕ → ℕ → List ℕ
routine i value = concat (codes "@" ∷ name_of i ∷ codes " #" ∷ hex_of_short value ∷ codes " ADD2 JMP2r\n" ∷ [])

-- the first so many of them
unfoldable pub calls : ℕ → List ℕ
calls zero = []
calls (suc i) = calls i ++ drawn_call i

unfoldable pub routines : ℕ → ℕ → List ℕ
routines count zero = []
routines count (suc i) = routines count i ++ routine i (number count i)

abbrev pub opening : List ℕ
opening = codes "|0100 #0000\n"

abbrev pub middle : List ℕ
middle = codes "#18 DEO #18 DEO\n;tick #20 DEO2 BRK\n@tick #01 #2e DEO BRK\n"

unfoldable pub workload_source : ℕ → List ℕ
workload_source count = opening ++ calls count ++ middle ++ routines count count
