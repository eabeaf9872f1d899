-- What the reading of a head answers.
use Rattle.std.specs.Prelude.{◌≡◌, ℕ, ◌+◌, ◌-◌, ◌<◌, ◌≤◌, Bool, List, [], length, take, drop}
use Rattle.std.specs.Prelude.{Option, Some, None, Result, Ok, Err}
use Rattle.std.specs.List.{find}
use Rattle.tal_words.specs.declared.span.Word.{Word}
use Rattle.tal_words.specs.declared.fault.AsmStop.{AsmStop}
use Rattle.tal_words.specs.Source.{begins, word_text}
use Rattle.tal_macros.specs.Expansion.{Macro, body_after, body_named, head_faults, parts_from}
use Rattle.tal_macros.specs.declared.body.Body.{Body}
use Rattle.tal_macros.specs.Bodies.{body_words, word_at}
use Rattle.tal_macros.specs.Passing.{Continues, StopsInSteps, rest}

-- a word begins a head; 37 is `%`
abbrev pub is_head : List ℕ → Word → Bool
is_head source word = begins 37 (word_text source word)

-- a closed body whose `{` has an index, and the first word behind this that begins a head
pub record IsBody (source : List ℕ) (words : List Word) (brace : ℕ) (body : Body) (nested : Option Word) : Type 0 where
  pub closed : body_after source (drop brace words) ≡ Some (body_words words body)
  pub from : body.from ≡ brace + 1
  pub ordered : body.from ≤ body.to
  pub within : body.to < length words
  pub heads : nested ≡ find (is_head source) (take (body.to + 1 - brace) (drop brace words))

-- a head without a fault of its own, whose macro is new: its body, and the first word there that begins a head
pub record IsClosedHead (source : List ℕ) (words : List Word) (at : ℕ) (known : List Macro) (body : Body) (nested : Option Word)
    : Type 0 where
  pub is_body : IsBody source words (at + 1) body nested
  pub faultless : head_faults source (word_at words at) known (Some (body_words words body)) ≡ []
  pub new : body_named known (drop 1 (word_text source (word_at words at))) ≡ None

-- a head without a fault: the expansion goes on behind its body, with its macro
pub record Defines (source : List ℕ) (words : List Word) (at : ℕ) (old new : List Macro) (body : Body) : Type 0 where
  pub ahead : at < body.to
  pub within : body.to < length words
  pub continues : (count : ℕ) → Continues (rest source old count (parts_from source 0 (drop at words)))
      (rest source new count (parts_from source 0 (drop (body.to + 1) words))) []

-- a head at which the pass stops, after which nothing is known anew
pub record StopsHead (source : List ℕ) (words : List Word) (at : ℕ) (old new : List Macro) (stop : AsmStop) : Type 0 where
  pub stops : (count : ℕ) → StopsInSteps (rest source old count (parts_from source 0 (drop at words))) stop
  pub known : new ≡ old

-- what the reading of a head answers: its body, or what stops the pass, as the first of its faults
abbrev pub HeadGives : List ℕ → List Word → ℕ → List Macro → List Macro → Result Body AsmStop → Type 0
HeadGives source words at old new (Ok body) = Defines source words at old new body
HeadGives source words at old new (Err stop) = StopsHead source words at old new stop
