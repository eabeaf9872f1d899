-- Trees that reply the same along the way of an inquiry, and what every answer keeps to.
use Rattle.std.specs.Prelude.{◌≡◌, List, [], ◌∷◌}
use Rattle.std.specs.List.{AllByRecursion}
use Rattle.uxn_io_traits.specs.Files.{Nodes}
use Rattle.uxn_io_traits.specs.Question.{Question, Reply, reply_in, IsReply}
use Rattle.uxn_io_traits.specs.Inquiry.{Inquiry, Answer, Ask}

-- the questions that are asked over known contents
abbrev pub questions_in : {A : Type 0} → Nodes → Inquiry A → List Question
questions_in nodes (Answer value) = []
questions_in nodes (Ask question more) = question ∷ questions_in nodes (more (reply_in nodes question))

abbrev pub RepliesSame : Nodes → Nodes → Question → Type 0
RepliesSame nodes other question = reply_in nodes question ≡ reply_in other question

-- another tree replies the same to all of them
abbrev pub AgreeAlong : {A : Type 0} → Nodes → Nodes → Inquiry A → Type 0
AgreeAlong nodes other inquiry = AllByRecursion (RepliesSame nodes other) (questions_in nodes inquiry)

-- whatever is replied, this holds of the answer
abbrev pub Always : {A : Type 0} → (A → Type 0) → Inquiry A → Type 0
Always P (Answer value) = P value
Always P (Ask question more) = (reply : Reply question) → IsReply question reply → Always P (more reply)
