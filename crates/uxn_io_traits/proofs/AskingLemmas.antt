-- Calls that put one question.
use Rattle.std.proofs.Common.{◌≡◌, ℕ, Bool, true, false, not, ◌&&◌, List, Option, Some, None, IfSome, Ok, Err}
use Rattle.uxn_io_traits.specs.Ended.{TreeLooked}
use Rattle.uxn_io_traits.specs.Changes.{can_create}
use Rattle.uxn_io_traits.specs.Files.{Nodes, has_parent, is_folder_at}
use Rattle.uxn_io_traits.specs.State.{TreeState}
use Rattle.uxn_io_traits.specs.WholeFile.{has_failed}
use Rattle.uxn_io_traits.specs.declared.trees.FileBytes.{FileBytes}
use Rattle.uxn_io_traits.specs.declared.trees.ReadStop.{ReadStop}
use Rattle.uxn_io_traits.specs.declared.trees.ReadStop.TheVariants.{Failed, NoMemory}
use Rattle.uxn_io_traits.specs.Question.{Question, Reply, reply_in, IsReply, IsPut, IsBegun}
use Rattle.uxn_io_traits.specs.Inquiry.{Answer, Ask}
use Rattle.uxn_io_traits.specs.Inquires.{Inquires, halt_of_read}
use Rattle.uxn_io_traits.specs.Leads.{Here, Asked}
use Rattle.uxn_io_traits.specs.LeadsLaws.{stops-first}

module _ {E : Type 0} (question : Question) where
  -- it was replied
  pub question-answered : (value : Reply question) (a b : TreeState)
      → IfSome a.contents (λ nodes. value ≡ reply_in nodes question)
      → IsReply question value → IsPut question a b → TreeLooked false a b
      → Inquires {E = E} (λ reply. reply) (Ask question (λ reply. Answer (Ok reply))) a b (Ok value)
  question-answered value a b known is put looked =
      record { answers = Asked question (λ reply. Answer (Ok reply)) value a b (record { known = known; is = is; put = put; looked = looked }) Here }

  -- or it was not
  pub question-stopped : (a b : TreeState) (stop : ReadStop) → TreeLooked (has_failed {T = FileBytes} (Err stop)) a b
      → IsBegun question a b
      → Inquires {E = E} (λ reply. reply) (Ask question (λ reply. Answer (Ok reply))) a b (Err (halt_of_read stop))
  question-stopped a b Failed looked begun =
      record { answers = stops-first true question (λ reply. Answer (Ok reply)) a b looked begun }
  question-stopped a b NoMemory looked begun =
      record { answers = stops-first false question (λ reply. Answer (Ok reply)) a b looked begun }

-- a file can be created where the parent is a folder and the path is none
pub both-are : (before middle : Option Nodes) (path : List ℕ) (parent here : Bool) → middle ≡ before
    → IfSome before (λ nodes. parent ≡ has_parent nodes path) → IfSome middle (λ nodes. here ≡ is_folder_at nodes (Some path))
    → IfSome before (λ nodes. (parent && not here) ≡ can_create nodes path)
both-are None middle path parent here same is_parent is_here = tt
both-are (Some nodes) middle path parent here same is_parent is_here =
    let is = rw same at is_here in λ i. is_parent i && not (is i)
