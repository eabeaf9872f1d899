-- What is requested of a tree: its calls, each with its path (profile).
use Rattle.std.specs.Prelude.{◌≡◌, ℕ, zero, suc, ◌⊎◌, List, [], ◌∷◌, ◌++◌, Option, IsSome}
use Rattle.std.specs.Option.{option_map}
use Rattle.uxn_io_traits.specs.declared.requests.TreeRequest.{TreeRequest}
use Rattle.uxn_io_traits.specs.declared.requests.TreeRequest.TheVariants.{LooksAt, Reads}

-- a call that reads from the first byte on begins to read a file; from a later one it goes on with that
abbrev pub begins_reading : List ℕ → ℕ → List TreeRequest
begins_reading path zero = Reads path ∷ []
begins_reading path (suc from) = []

-- a tree has received these requests between two moments, in order, where it still tells them
abbrev pub Receives : List TreeRequest → Option (List TreeRequest) → Option (List TreeRequest) → Type 0
Receives requests before now = IsSome now → now ≡ option_map (λ earlier. earlier ++ requests) before

-- it was looked what is at a path, and then the file there was read, or not
abbrev pub ReceivesReading : List ℕ → Option (List TreeRequest) → Option (List TreeRequest) → Type 0
ReceivesReading path before now = Receives (LooksAt path ∷ []) before now ⊎ Receives (LooksAt path ∷ Reads path ∷ []) before now
