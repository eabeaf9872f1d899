-- What is asked of a tree, one question after the other, and what is answered by the replies.
use Rattle.std.specs.Prelude.{ℕ, Bool, List, [], ◌∷◌, ◌++◌, Result, Ok, Err}
use Rattle.uxn_io_traits.specs.declared.trees.FileBytes.{FileBytes}
use Rattle.uxn_io_traits.specs.Files.{Nodes}
use Rattle.uxn_io_traits.specs.Question.{Question, WholeFile, CanCreate, Reply, reply_in}

-- an answer; or a question, and what is asked next by its reply
pub data Inquiry (A : Type 0) : Type 0 where
  Answer : A → Inquiry A
  Ask : (question : Question) → (Reply question → Inquiry A) → Inquiry A

-- an inquiry by the answer of another
abbrev pub bind : {A B : Type 0} → Inquiry A → (A → Inquiry B) → Inquiry B
bind (Answer value) next = next value
bind (Ask question more) next = Ask question (λ reply. bind (more reply) next)

-- the same, unless the other is refused: the first refusal counts
abbrev pub unless_refused : {A B E : Type 0} → (A → Inquiry (Result B E)) → Result A E → Inquiry (Result B E)
unless_refused next (Ok value) = next value
unless_refused next (Err refusal) = Answer (Err refusal)

abbrev pub and_then : {A B E : Type 0} → Inquiry (Result A E) → (A → Inquiry (Result B E)) → Inquiry (Result B E)
and_then inquiry next = bind inquiry (unless_refused next)

-- step after step through a list
abbrev pub through : {A P E : Type 0} → (P → A → Inquiry (Result A E)) → List P → A → Inquiry (Result A E)
through step [] value = Answer (Ok value)
through step (first ∷ rest) value = and_then (step first value) (through step rest)

-- one inquiry for each of a list, behind what was gathered so far
abbrev pub gather : {A P E : Type 0} → (P → Inquiry (Result A E)) → List A → List P → Inquiry (Result (List A) E)
gather ask done [] = Answer (Ok done)
gather ask done (first ∷ rest) = and_then (ask first) (λ value. gather ask (done ++ value ∷ []) rest)

-- the same, with other refusals
abbrev pub result_as : {A E F : Type 0} → (E → F) → Result A E → Result A F
result_as why (Ok value) = Ok value
result_as why (Err refusal) = Err (why refusal)

abbrev pub refused_as : {A E F : Type 0} → (E → F) → Inquiry (Result A E) → Inquiry (Result A F)
refused_as why inquiry = bind inquiry (λ said. Answer (result_as why said))

-- the answer over known contents
abbrev pub answer_in : {A : Type 0} → Nodes → Inquiry A → A
answer_in nodes (Answer value) = value
answer_in nodes (Ask question more) = answer_in nodes (more (reply_in nodes question))

-- the two kinds of questions
abbrev pub file_of : {E : Type 0} → List ℕ → ℕ → Inquiry (Result FileBytes E)
file_of path limit = Ask (WholeFile path limit) (λ file. Answer (Ok file))

abbrev pub creatable : {E : Type 0} → List ℕ → Inquiry (Result Bool E)
creatable path = Ask (CanCreate path) (λ can. Answer (Ok can))
