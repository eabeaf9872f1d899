-- What an inquiry can answer, by what is known of the contents of a tree.
use Rattle.std.specs.Prelude.{◌≡◌, Option, Some, None}
use Rattle.uxn_io_traits.specs.Files.{Nodes}
use Rattle.uxn_io_traits.specs.Question.{Reply, IsReply}
use Rattle.uxn_io_traits.specs.Inquiry.{Inquiry, Answer, Ask, answer_in}

-- some replies lead to the answer
abbrev pub CanAnswer : {A : Type 0} → Inquiry A → A → Type 0
CanAnswer (Answer value) answer = value ≡ answer
CanAnswer (Ask question more) answer = (reply : Reply question) × IsReply question reply × CanAnswer (more reply) answer

-- it is the answer over known contents; it can be, where they are unknown
abbrev pub Gives : {A : Type 0} → Option Nodes → Inquiry A → A → Type 0
Gives (Some nodes) inquiry answer = answer_in nodes inquiry ≡ answer
Gives None inquiry answer = CanAnswer inquiry answer
