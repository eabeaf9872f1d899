-- What the steps of the placing answer.
use Rattle.std.specs.Prelude.{◌≡◌, ℕ, ◌+◌, Bool, true, false, List, [], ◌∷◌, drop, Option, Some, None, Result, Ok, Err, slice_get}
use Rattle.tal_words.specs.declared.fault.FaultKind.{FaultKind}
use Rattle.tal_words.specs.declared.fault.Fault.{Fault}
use Rattle.tal_words.specs.declared.fault.AsmStop.{AsmStop}
use Rattle.tal_words.specs.declared.fault.AsmStop.TheVariants.{Refused, NoMemory}
use Rattle.tal_words.specs.declared.form.Form.{Form}
use Rattle.tal_words.specs.declared.form.Form.TheVariants.{Pad, LabelDef}
use Rattle.tal_words.specs.declared.name.Label.{Label}
use Rattle.tal_words.specs.Forms.{form}
use Rattle.tal_words.specs.Names.{scope_of}
use Rattle.tal_labels.specs.Places.{form_moves}
use Rattle.tal_labels.specs.Shapes.{shape_kinds}

-- a word whose shape has no fault has its form, and else the first fault of its shape is answered
abbrev pub IsShape : List ℕ → ℕ → Bool → Result Form FaultKind → Type 0
IsShape text depth is_closed (Ok shape) = (form text ≡ Ok shape) × (slice_get (shape_kinds (form text) text depth is_closed) 0 ≡ None)
IsShape text depth is_closed (Err kind) = slice_get (shape_kinds (form text) text depth is_closed) 0 ≡ Some kind

-- a search finds no fault, or the first, unless memory runs out
abbrev pub FindsNone : Result (Unit {0}) AsmStop → Option Fault → Type 0
FindsNone (Ok done) fault = fault ≡ None
FindsNone (Err (Refused found)) fault = fault ≡ Some found
FindsNone (Err NoMemory) fault = Unit {0}

-- the place after a word of a form that has this place
abbrev pub next_address : Form → List ℕ → ℕ → ℕ
next_address (Pad value) text place = value
next_address other text place = place + form_moves other text

-- the label of a name at an address
abbrev pub label_of : Option (List ℕ) → ℕ → List Label
label_of None address = []
label_of (Some name) address = record { name = name; address = address } ∷ []

-- the scope after a word
abbrev pub next_scope : Form → List ℕ → List ℕ → List ℕ
next_scope LabelDef scope text = scope_of (drop 1 text)
next_scope other scope text = scope

-- what waits for an opener from a word on: the indices of the `}` that close nothing after it, the next one first
abbrev pub waiting_step : ℕ → Bool → Bool → List ℕ → List ℕ
waiting_step at true closing rest = drop 1 rest
waiting_step at false true rest = at ∷ rest
waiting_step at false false rest = rest
