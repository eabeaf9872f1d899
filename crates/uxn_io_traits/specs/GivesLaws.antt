-- Laws of what an inquiry can answer.
use Rattle.std.specs.Prelude.{◌≡◌, ℕ, List, Option, Some, None, Result, Ok, Err, refl}
use Rattle.std.proofs.Common.{sym, ◌∙◌, ap, subst, arith}
use Rattle.uxn_io_traits.specs.Files.{Nodes, file_at}
use Rattle.uxn_io_traits.specs.WholeFile.{whole_file, KeepsLimit}
use Rattle.uxn_io_traits.specs.Along.{Always}
use Rattle.uxn_io_traits.specs.Question.{Question, WholeFile, CanCreate, IsReply, reply_in}
use Rattle.uxn_io_traits.specs.State.{TreeState}
use Rattle.uxn_io_traits.specs.declared.halt.Halt.{Halt}
use Rattle.uxn_io_traits.specs.declared.halt.Halt.TheVariants.{Refused, TreeFault, NoMemory}
use Rattle.uxn_io_traits.specs.Inquiry.{Inquiry, Answer, Ask, bind, answer_in}
use Rattle.uxn_io_traits.specs.InquiryLaws.{answer-bind}
use Rattle.uxn_io_traits.specs.Inquires.{Inquires, IfAnswered}
use Rattle.uxn_io_traits.specs.Leads.{Here, Asked, Leads}
use Rattle.uxn_io_traits.specs.LeadsLaws.{leads-known}
use Rattle.uxn_io_traits.specs.Gives.{CanAnswer, Gives}

pub gives-answer : {A : Type 0} (contents : Option Nodes) (value answer : A) → value ≡ answer → Gives contents (Answer value) answer
gives-answer (Some nodes) value answer is = is
gives-answer None value answer is = is

pub answer-gives : {A : Type 0} (contents : Option Nodes) (value answer : A) → Gives contents (Answer value) answer → answer ≡ value
answer-gives (Some nodes) value answer is = sym is
answer-gives None value answer is = sym is

can-bind : {A B : Type 0} (inquiry : Inquiry A) (next : A → Inquiry B) (a : A) (b : B) → CanAnswer inquiry a → CanAnswer (next a) b
    → CanAnswer (bind inquiry next) b
can-bind (Answer value) next a b first then = subst (λ x. CanAnswer (next x) b) (sym first) then
can-bind (Ask question more) next a b first then = (first.0, first.1, can-bind (more first.0) next a b first.2 then)

-- the one, and then the next
pub gives-bind : {A B : Type 0} (contents : Option Nodes) (inquiry : Inquiry A) (next : A → Inquiry B) (a : A) (b : B) → Gives contents inquiry a
    → Gives contents (next a) b → Gives contents (bind inquiry next) b
gives-bind (Some nodes) inquiry next a b first then = answer-bind nodes inquiry next ∙ ap (λ x. answer_in nodes (next x)) first ∙ then
gives-bind None inquiry next a b first then = can-bind inquiry next a b first then

can-leads : {A : Type 0} (rest : Inquiry A) (now : TreeState) (answer : A) → CanAnswer rest answer → (whole : Inquiry A) (before : TreeState)
    → Leads whole rest before now → CanAnswer whole answer
can-leads rest now answer can _ _ Here = can
can-leads rest now answer can _ _ (Asked question more reply before middle replied p) =
    (reply, replied.is, can-leads rest now answer can (more reply) middle p)

-- what it leads to it can answer
pub gives-leads : {A : Type 0} (contents : Option Nodes) (whole : Inquiry A) (answer : A) (before now : TreeState) → before.contents ≡ contents
    → Leads whole (Answer answer) before now → Gives contents whole answer
gives-leads (Some nodes) whole answer before now is p = leads-known (Answer answer) now nodes whole before is p
gives-leads None whole answer before now is p = can-leads (Answer answer) now answer refl whole before p

pub inquires-gives : {A B E : Type 0} (view : B → A) (inquiry : Inquiry (Result A E)) (a b : TreeState) (r : Result B (Halt E))
    → Inquires view inquiry a b r → IfAnswered view (Gives a.contents inquiry) r
inquires-gives view inquiry a b (Ok value) p = gives-leads a.contents inquiry (Ok (view value)) a b refl p.answers
inquires-gives view inquiry a b (Err (Refused refusal)) p = gives-leads a.contents inquiry (Err refusal) a b refl p.answers
inquires-gives view inquiry a b (Err TreeFault) p = tt
inquires-gives view inquiry a b (Err NoMemory) p = tt

-- ---- what always holds of the answer

whole-keeps : (file : Option (List ℕ)) (limit : ℕ) → KeepsLimit limit (whole_file file limit)
whole-keeps None limit = tt
whole-keeps (Some bytes) limit = grind arith

reply-keeps : (nodes : Nodes) (question : Question) → IsReply question (reply_in nodes question)
reply-keeps nodes (WholeFile path limit) = whole-keeps (file_at nodes path) limit
reply-keeps nodes (CanCreate path) = tt

pub always-gives : {A : Type 0} (P : A → Type 0) (contents : Option Nodes) (inquiry : Inquiry A) (answer : A) → Always P inquiry
    → Gives contents inquiry answer → P answer
always-gives P contents (Answer value) answer holds is = subst P (sym (answer-gives contents value answer is)) holds
always-gives P (Some nodes) (Ask question more) answer holds is =
    always-gives P (Some nodes) (more (reply_in nodes question)) answer (holds (reply_in nodes question) (reply-keeps nodes question)) is
always-gives P None (Ask question more) answer holds can = always-gives P None (more can.0) answer (holds can.0 can.1) can.2
