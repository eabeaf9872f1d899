-- Laws of inquiries over known contents, and of what every answer keeps to.
use Rattle.std.specs.Prelude.{◌≡◌, List, [], ◌∷◌, Result, Ok, Err, IfOk, refl}
use Rattle.std.proofs.Common.{sym, ◌∙◌, ap}
use Rattle.std.specs.List.{AllByRecursion}
use Rattle.uxn_io_traits.specs.Files.{Nodes}
use Rattle.uxn_io_traits.specs.Question.{reply_in}
use Rattle.uxn_io_traits.specs.Inquiry.{Inquiry, Answer, Ask, bind, unless_refused, and_then, through, answer_in}
use Rattle.uxn_io_traits.specs.Along.{AgreeAlong, Always}

-- the answer of one inquiry, and then of the next
pub answer-bind : {A B : Type 0} (nodes : Nodes) (inquiry : Inquiry A) (next : A → Inquiry B)
    → answer_in nodes (bind inquiry next) ≡ answer_in nodes (next (answer_in nodes inquiry))
answer-bind nodes (Answer value) next = refl
answer-bind nodes (Ask question more) next = answer-bind nodes (more (reply_in nodes question)) next

pub answer-refused : {A B E : Type 0} (nodes : Nodes) (inquiry : Inquiry (Result A E)) (next : A → Inquiry (Result B E))
    (refusal : E)
    → answer_in nodes inquiry ≡ Err refusal → answer_in nodes (and_then inquiry next) ≡ Err refusal
answer-refused nodes inquiry next refusal is =
    answer-bind nodes inquiry (unless_refused next) ∙ ap (λ said. answer_in nodes (unless_refused next said)) is

pub answer-more : {A B E : Type 0} (nodes : Nodes) (inquiry : Inquiry (Result A E)) (next : A → Inquiry (Result B E)) (value : A)
    → answer_in nodes inquiry ≡ Ok value → answer_in nodes (and_then inquiry next) ≡ answer_in nodes (next value)
answer-more nodes inquiry next value is =
    answer-bind nodes inquiry (unless_refused next) ∙ ap (λ said. answer_in nodes (unless_refused next said)) is

-- an inquiry of two steps that is answered: the first was, and then the next
pub record Answered {A B E : Type 0} (nodes : Nodes) (inquiry : Inquiry (Result A E)) (next : A → Inquiry (Result B E))
    (answer : B) : Type 0 where
  pub value : A
  pub first : answer_in nodes inquiry ≡ Ok value
  pub rest : answer_in nodes (next value) ≡ Ok answer

pub answered : {A B E : Type 0} (nodes : Nodes) (inquiry : Inquiry (Result A E)) (next : A → Inquiry (Result B E)) (answer : B)
    → answer_in nodes (and_then inquiry next) ≡ Ok answer → Answered nodes inquiry next answer
answered {A} {B} {E} nodes inquiry next answer is =
    by (answer_in nodes inquiry) refl (sym (answer-bind nodes inquiry (unless_refused next)) ∙ is)
  where
    by : (said : Result A E) → answer_in nodes inquiry ≡ said → answer_in nodes (unless_refused next said) ≡ Ok answer
        → Answered nodes inquiry next answer
    by (Ok value) e rest = record { value = value; first = e; rest = rest }
    by (Err refusal) e rest = absurd cc

-- isolation: what is replied the same along the way is answered the same
pub same-answer : {A : Type 0} (nodes other : Nodes) (inquiry : Inquiry A) → AgreeAlong nodes other inquiry
    → answer_in nodes inquiry ≡ answer_in other inquiry
same-answer nodes other (Answer value) agree = refl
same-answer nodes other (Ask question more) agree =
    same-answer nodes other (more (reply_in nodes question)) agree.1 ∙ ap (λ reply. answer_in other (more reply)) agree.0

-- what follows from what always holds
pub always-mapped : {A : Type 0} (P Q : A → Type 0) (inquiry : Inquiry A) → ((value : A) → P value → Q value) → Always P inquiry
    → Always Q inquiry
always-mapped P Q (Answer value) then holds = then value holds
always-mapped P Q (Ask question more) then holds = λ reply is. always-mapped P Q (more reply) then (holds reply is)

-- what always holds of one inquiry, and then of the next
pub always-bind : {A B : Type 0} (Q : A → Type 0) (P : B → Type 0) (inquiry : Inquiry A) (next : A → Inquiry B) → Always Q inquiry
    → ((value : A) → Q value → Always P (next value)) → Always P (bind inquiry next)
always-bind Q P (Answer value) next holds more = more value holds
always-bind Q P (Ask question rest) next holds more = λ reply is. always-bind Q P (rest reply) next (holds reply is) more

-- the same of what is not refused; of a step that asks nothing; and step after step
module _ {B E : Type 0} (P : B → Type 0) where
  pub always-then : {A : Type 0} (Q : A → Type 0) (inquiry : Inquiry (Result A E)) (next : A → Inquiry (Result B E))
      → Always (λ answer. IfOk answer Q) inquiry → ((value : A) → Q value → Always (λ answer. IfOk answer P) (next value))
      → Always (λ answer. IfOk answer P) (and_then inquiry next)
  always-then {A} Q inquiry next holds more =
      always-bind (λ answer. IfOk answer Q) (λ answer. IfOk answer P) inquiry (unless_refused next) holds by
    where
      by : (answer : Result A E) → IfOk answer Q → Always (λ answer. IfOk answer P) (unless_refused next answer)
      by (Ok value) is = more value is
      by (Err refusal) is = tt

  pub always-said : {A : Type 0} (said : Result A E) (next : A → Inquiry (Result B E))
      → ((value : A) → said ≡ Ok value → Always (λ answer. IfOk answer P) (next value))
      → Always (λ answer. IfOk answer P) (and_then (Answer said) next)
  always-said (Ok value) next more = more value refl
  always-said (Err refusal) next more = tt

  pub always-through : {I : Type 0} (Q : I → Type 0) (step : I → B → Inquiry (Result B E))
      → ((item : I) (value : B) → Q item → P value → Always (λ answer. IfOk answer P) (step item value))
      → (items : List I) (value : B) → AllByRecursion Q items → P value
      → Always (λ answer. IfOk answer P) (through step items value)
  always-through Q step more [] value all is = is
  always-through Q step more (first ∷ rest) value all is =
      always-then P (step first value) (through step rest) (more first value all.0 is)
      (λ next holds. always-through Q step more rest next all.1 holds)
