-- What the first fault is, in the words of the faults themselves.
use denote.Enum.Declared.{tag_of}
use Rattle.std.specs.Prelude.{◌≡◌, ◌≤◌, ℕ, Bool, true, ◌&&◌, nat_lt, List, [], ◌∷◌, ◌++◌, slice_get, Some, MatchOption}
use Rattle.std.specs.List.{AllByRecursion, list_all}
use Rattle.tal_words.specs.contracts.fault.FaultKind.{the_type}
use Rattle.tal_words.specs.declared.fault.FaultKind.{FaultKind}
use Rattle.tal_words.specs.declared.fault.Fault.{Fault}
use Rattle.tal_words.specs.Faults.{Validated, fault_at, phase_fault}

-- no word has a fault
abbrev pub NoneFaulty : List Validated → Type 0
NoneFaulty words = AllByRecursion (λ word. word.kinds ≡ []) words

-- kinds stand in the order of their numbers, which are their places in the list of kinds
abbrev pub kind_number : FaultKind → ℕ
kind_number kind = tag_of the_type kind

abbrev pub are_in_order : List FaultKind → Bool
are_in_order [] = true
are_in_order (kind ∷ kinds) = list_all (λ other. nat_lt (kind_number kind) (kind_number other)) kinds && are_in_order kinds

-- no word before that of the fault has one, and the word has no fault before it: none of a lesser number, where its kinds are in order
pub record IsFirstFault (words : List Validated) (fault : Fault) : Type 0 where
  pub prefix : List Validated
  pub word : Validated
  pub back : List Validated
  pub parts : words ≡ prefix ++ word ∷ back
  pub faultless : NoneFaulty prefix
  pub reported : fault ≡ fault_at word.origin fault.kind
  pub first_kind : slice_get word.kinds 0 ≡ Some fault.kind
  pub least_kind : are_in_order word.kinds ≡ true → AllByRecursion (λ kind. kind_number fault.kind ≤ kind_number kind) word.kinds

-- the first fault is the first, and where there is none no word has a fault
abbrev pub IsFirst : List Validated → Type 0
IsFirst words = MatchOption (phase_fault words) (NoneFaulty words) (IsFirstFault words)
