-- Words in their order.
use Rattle.std.specs.Prelude.{List, [], ◌∷◌, ◌++◌, Option, None}
use Rattle.std.specs.Option.{option_or}

-- what the words give, each by itself and by the words that stand before and after it, in order
abbrev pub collected : {X Y : Type 0} → (List X → X → List X → List Y) → List X → List X → List Y
collected give before [] = []
collected give before (word ∷ after) = give before word after ++ collected give (before ++ word ∷ []) after

-- the same, where each word gives one thing
abbrev pub each : {X Y : Type 0} → (List X → X → List X → Y) → List X → List X → List Y
each give before [] = []
each give before (word ∷ after) = give before word after ∷ each give (before ++ word ∷ []) after

-- the last thing that a test finds among items
abbrev pub last_of : {X Y : Type 0} → (X → Option Y) → List X → Option Y
last_of find [] = None
last_of find (item ∷ items) = option_or (last_of find items) (find item)
