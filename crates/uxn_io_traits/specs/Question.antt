-- What is asked of a tree before it is changed, and how it is replied (profile).
use Rattle.std.specs.Prelude.{◌≡◌, ℕ, Bool, false, List, [], ◌∷◌, ◌++◌, ◌⊎◌, Option, Some, None, IfSome, ⊤}
use Rattle.uxn_io_traits.specs.declared.trees.FileBytes.{FileBytes}
use Rattle.uxn_io_traits.specs.Changes.{can_create}
use Rattle.uxn_io_traits.specs.Ended.{TreeLooked}
use Rattle.uxn_io_traits.specs.Files.{Nodes, file_at}
use Rattle.uxn_io_traits.specs.PathText.{parent_of}
use Rattle.uxn_io_traits.specs.Requests.{Receives, ReceivesReading}
use Rattle.uxn_io_traits.specs.declared.requests.TreeRequest.{TreeRequest}
use Rattle.uxn_io_traits.specs.declared.requests.TreeRequest.TheVariants.{LooksAt}
use Rattle.uxn_io_traits.specs.State.{TreeState}
use Rattle.uxn_io_traits.specs.WholeFile.{whole_file, KeepsLimit}

-- the whole file at a path, up to a limit; whether a file can be created at a path
pub data Question : Type 0 where
  WholeFile : (path : List ℕ) → (limit : ℕ) → Question
  CanCreate : (path : List ℕ) → Question

abbrev pub Reply : Question → Type 0
Reply (WholeFile path limit) = FileBytes
Reply (CanCreate path) = Bool

-- the reply by the contents of a tree
abbrev pub reply_in : Nodes → (question : Question) → Reply question
reply_in nodes (WholeFile path limit) = whole_file (file_at nodes path) limit
reply_in nodes (CanCreate path) = can_create nodes path

-- what each reply keeps to
abbrev pub IsReply : (question : Question) → Reply question → Type 0
IsReply (WholeFile path limit) reply = KeepsLimit limit reply
IsReply (CanCreate path) reply = ⊤

-- a tree received what a question asks: it was looked at the file and that was read, or not; it was looked at the parent of the path,
-- unless that is the current folder, and then at the path
abbrev pub at_parent : Option (List ℕ) → List TreeRequest
at_parent None = []
at_parent (Some folder) = LooksAt folder ∷ []

abbrev pub IsPut : Question → TreeState → TreeState → Type 0
IsPut (WholeFile path limit) before now = ReceivesReading path before.requests now.requests
IsPut (CanCreate path) before now = Receives (at_parent (parent_of path) ++ LooksAt path ∷ []) before.requests now.requests

-- or the first part of that
abbrev pub IsBegun : Question → TreeState → TreeState → Type 0
IsBegun (WholeFile path limit) before now = IsPut (WholeFile path limit) before now
IsBegun (CanCreate path) before now =
    IsPut (CanCreate path) before now ⊎ Receives (at_parent (parent_of path)) before.requests now.requests

-- a tree was asked a question, and replied
pub record Replied (question : Question) (reply : Reply question) (before now : TreeState) : Type 0 where
  pub known : IfSome before.contents (λ nodes. reply ≡ reply_in nodes question)
  pub is : IsReply question reply
  pub put : IsPut question before now
  pub looked : TreeLooked false before now
