-- A call that asks a tree.
use Rattle.std.specs.Prelude.{◌≡◌, Bool, true, false, Result, Ok, Err, ⊤}
use Rattle.uxn_io_traits.specs.State.{TreeState}
use Rattle.uxn_io_traits.specs.declared.trees.ReadStop.{ReadStop}
use Rattle.uxn_io_traits.specs.declared.trees.ReadStop.TheVariants.{Failed, NoMemory as OutOfMemory}
use Rattle.uxn_io_traits.specs.declared.halt.Halt.{Halt}
use Rattle.uxn_io_traits.specs.declared.halt.Halt.TheVariants.{Refused, TreeFault, NoMemory}
use Rattle.uxn_io_traits.specs.Inquiry.{Inquiry, Answer}
use Rattle.uxn_io_traits.specs.Leads.{Leads, Stops}

-- the inquiry leads to what the call answers, unless the tree fails or memory runs out on the way
abbrev pub Answers : {A B E : Type 0} → (B → A) → Inquiry (Result A E) → TreeState → TreeState → Result B (Halt E) → Type 0
Answers view inquiry before now (Ok value) = Leads inquiry (Answer (Ok (view value))) before now
Answers view inquiry before now (Err (Refused refusal)) = Leads inquiry (Answer (Err refusal)) before now
Answers view inquiry before now (Err TreeFault) = Stops true inquiry before now
Answers view inquiry before now (Err NoMemory) = Stops false inquiry before now

-- a call asks what the inquiry asks, and answers what it results in
pub record Inquires {A B E : Type 0} (view : B → A) (inquiry : Inquiry (Result A E)) (before now : TreeState)
    (result : Result B (Halt E)) : Type 0 where
  pub answers : Answers view inquiry before now result

-- a step that asks nothing has this result, unless memory runs out
abbrev pub Says : {A B E : Type 0} → (B → A) → Result A E → Result B (Halt E) → Type 0
Says view said (Ok value) = said ≡ Ok (view value)
Says view said (Err (Refused refusal)) = said ≡ Err refusal
Says view said (Err TreeFault) = ⊥
Says view said (Err NoMemory) = ⊤

-- this holds of what a call answers, unless it stopped
abbrev pub IfAnswered : {A B E : Type 0} → (B → A) → (Result A E → Type 0) → Result B (Halt E) → Type 0
IfAnswered view P (Ok value) = P (Ok (view value))
IfAnswered view P (Err (Refused refusal)) = P (Err refusal)
IfAnswered view P (Err TreeFault) = ⊤
IfAnswered view P (Err NoMemory) = ⊤

-- the tree failed in a call
abbrev pub tree_failed : {B E : Type 0} → Result B (Halt E) → Bool
tree_failed (Ok value) = false
tree_failed (Err (Refused refusal)) = false
tree_failed (Err TreeFault) = true
tree_failed (Err NoMemory) = false

-- a call that hands on other refusals
abbrev pub halt_as : {E F : Type 0} → (E → F) → Halt E → Halt F
halt_as why (Refused refusal) = Refused (why refusal)
halt_as why TreeFault = TreeFault
halt_as why NoMemory = NoMemory

abbrev pub halted_as : {B E F : Type 0} → (E → F) → Result B (Halt E) → Result B (Halt F)
halted_as why (Ok value) = Ok value
halted_as why (Err halt) = Err (halt_as why halt)

-- why a file was not read
abbrev pub halt_of_read : {E : Type 0} → ReadStop → Halt E
halt_of_read Failed = TreeFault
halt_of_read OutOfMemory = NoMemory
