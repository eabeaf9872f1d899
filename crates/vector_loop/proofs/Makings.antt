-- What a run makes outside by itself: pictures and samples, piece by piece.
use Rattle.std.proofs.lemmas.Grind.{common_steps}
use Rattle.vector_loop.proofs.Common.{Bus, BusRepresents, Change, DeviceState, Err, IsOutside, Ledger, List, MadeOrCut, NoMemory, Nodes, Ok, Option}
use Rattle.vector_loop.proofs.Common.{Result, SameBus, Stop, [], ap, arith, contents_on, drop, flat_map, ledger-same, ledger-then}
use Rattle.vector_loop.proofs.Common.{length, map, picture_bytes, picture_row_of, range_with_len, refl, result_blame, rules}
use Rattle.vector_loop.proofs.Common.{same-again, take, ℕ, ◌++◌, ◌+◌, ◌-◌, ◌<◌, ◌∙◌, ◌∷◌, ◌≡◌, ◌≢◌, ◌≤◌}
use Rattle.std.proofs.lemmas.List.{map-append}
use Rattle.std.specs.Prelude.{OnErr, OnOk}
use Rattle.uxn_io_traits.specs.Ended.{Ended}
use Rattle.uxn_io_traits.specs.EndedLaws.{done-nothing, ended-first, ended-then}
use Rattle.uxn_io_traits.specs.State.{Outside}
use Rattle.uxn_io_traits.specs.Outside.{ToFile}
use Rattle.uxn_opcodes.specs.declared.Stop.TheVariants.{TreeFault}
use Rattle.screen_frame.specs.Colours.{colours_of}
use Rattle.screen_frame.specs.Ppm.{head_bytes}
use Rattle.varvara_bus.specs.History.{colour_bytes}
use Rattle.varvara_bus.specs.Bus.{BusModel, ChangesDevices, Makes, blame_for, outside_on}
use Rattle.varvara_bus.specs.FileActs.{piece_appended}
use Rattle.varvara_bus.specs.InstructionLaws.{same-itself}

-- a fault of the tree is no running out of memory
pub no-memory : (stop : Stop) → stop ≡ TreeFault → stop ≡ NoMemory → ⊥
no-memory stop fault wanted = cc

pub the-stop : (answer : Result (Unit {0}) Stop) (stop : Stop) → answer ≡ Err stop → answer ≡ Err TreeFault → stop ≡ TreeFault
the-stop answer stop is fault = cc

-- bytes for a file
abbrev pub to_file : List ℕ → List ℕ → List Change
to_file path bytes = map (λ byte. ToFile path byte) bytes

-- the prefix of a row that was put into a buffer
pub row-taken : (row before now : List ℕ) (count : ℕ) → now ≡ row ++ drop count before → length now ≡ length before → count ≤ length before
    → take count now ≡ row
row-taken = grind (arith, common_steps)

-- the picture file by what was read of the screen
pub picture-parts : (state : DeviceState) (width height : ℕ) (colours : List (List ℕ)) (head : List ℕ) → width ≡ state.picture.width
    → height ≡ state.picture.height
    → colours ≡ colours_of (colour_bytes state.history) → head ≡ head_bytes width height
    → picture_bytes state ≡ head ++ flat_map (picture_row_of colours state.picture) (range_with_len 0 (height - 0))
unfolding picture_bytes
picture-parts = search (arith, rules)

-- the rows from one on
pub rows-next : (row : ℕ → List ℕ) (y height : ℕ) → y < height
    → flat_map row (range_with_len y (height - y)) ≡ row y ++ flat_map row (range_with_len (y + 1) (height - (y + 1)))
rows-next = search (arith, rules)

-- a piece appended outside the root part leaves each state that the bus represented
pub appended-still : {T O E : Type 0} (contents_of_tree : T → Option Nodes) (a b : Bus T O E) (path piece : List ℕ) (r : Result (Unit {0}) Stop)
    → IsOutside a.devices.now.root path
    → OnOk r ((s : DeviceState) → BusRepresents contents_of_tree a s → BusRepresents contents_of_tree b (piece_appended path piece s))
    → OnOk r ((s : DeviceState) → BusRepresents contents_of_tree a s → BusRepresents contents_of_tree b s)
appended-still = search (arith, rules)

-- nothing is made of two parts only where nothing is of each
none-of : {A : Type 0} (first more : List A) → first ++ more ≡ [] → (first ≡ []) × (more ≡ [])
none-of [] more none = (refl, none)
none-of (x ∷ first) more none = cc

-- a byte makes a change
some-put : (path bytes : List ℕ) → 0 < length bytes → to_file path bytes ≢ []
some-put = grind (arith, common_steps)

module _ {T O E : Type 0} (meaning : BusModel T O E) where
  -- where nothing but what the devices represent changes nothing is made
  pub makes-nothing : (before now : Bus T O E) → ChangesDevices before now → Makes meaning before now []
  makes-nothing before now others = rw (others.tree, others.out, others.err) (done-nothing (outside_on meaning before))

  -- what the bus answered for a piece, with the stop that it names
  ended-ledger : (changes : List Change) (r : Result (Unit {0}) Stop) (before now : Outside) → Ended changes (blame_for r) before now
      → Ledger before.faults now.faults (result_blame r)
  ended-ledger = search (arith, rules)

  pub appended : (a b : Bus T O E) (path bytes : List ℕ) (r : Result (Unit {0}) Stop)
      → Ended (to_file path bytes) (blame_for r) (outside_on meaning a) (outside_on meaning b)
      → OnOk r ((s : DeviceState) → BusRepresents (contents_on meaning.tree) a s → BusRepresents (contents_on meaning.tree) b s)
      → OnErr r (r ≡ Err TreeFault)
      → OnErr r (0 < length bytes) → b.devices.now ≡ a.devices.now → SameBus meaning.tree a b
      → MadeOrCut meaning a b (λ s. to_file path bytes) r
  appended a b path bytes r ended kept fault some devices same = search (rules, some-put, ended-ledger)

  pub made-nothing : (bus : Bus T O E) → MadeOrCut meaning bus bus (λ s. []) (Ok (tt {0}))
  made-nothing bus = search (rules, done-nothing, ledger-same, same-itself)

  -- the same changes, in the states that the bus represented
  pub made-where : (a b : Bus T O E) (changes other : DeviceState → List Change) (r : Result (Unit {0}) Stop)
      → ((s : DeviceState) → BusRepresents (contents_on meaning.tree) a s → other s ≡ changes s)
      → MadeOrCut meaning a b changes r → MadeOrCut meaning a b other r
  made-where a b changes other r same p = search (rules, same)

  -- changes, and then others, whatever these answer
  pub made-then : (a b c : Bus T O E) (first more : DeviceState → List Change) (r : Result (Unit {0}) Stop)
      → MadeOrCut meaning a b first (Ok (tt {0})) → MadeOrCut meaning b c more r
      → MadeOrCut meaning a c (λ s. first s ++ more s) r
  made-then a b c first more r p q = search (rules, ended-then, ledger-then, same-again, none-of)

  -- not all of them, whatever would follow
  pub made-first : (a b : Bus T O E) (first more : DeviceState → List Change) (stop : Stop) → MadeOrCut meaning a b first (Err stop)
      → MadeOrCut meaning a b (λ s. first s ++ more s) (Err stop)
  made-first = grind (arith, common_steps, ended-first, none-of)

  -- whatever the rest of the bytes for a file answers, the whole does
  abbrev pub Putting : Bus T O E → Bus T O E → List ℕ → (DeviceState → List ℕ) → (DeviceState → List ℕ) → Type 0
  Putting before now path whole rest = (after : Bus T O E) (answer : Result (Unit {0}) Stop)
      → MadeOrCut meaning now after (λ s. to_file path (rest s)) answer → MadeOrCut meaning before after (λ s. to_file path (whole s)) answer

  -- the next of them are put, or not
  module _ (a b c : Bus T O E) (path : List ℕ) (whole rest piece later : DeviceState → List ℕ)
      (next : (s : DeviceState) → BusRepresents (contents_on meaning.tree) b s → rest s ≡ piece s ++ later s)
      (putting : Putting a b path whole rest) where
    parts : (s : DeviceState) → BusRepresents (contents_on meaning.tree) b s
        → to_file path (rest s) ≡ to_file path (piece s) ++ to_file path (later s)
    parts s stands = ap (to_file path) (next s stands) ∙ map-append (λ byte. ToFile path byte) (piece s) (later s)

    pub putting-more : MadeOrCut meaning b c (λ s. to_file path (piece s)) (Ok (tt {0})) → Putting a c path whole later
    putting-more made = λ after answer more.
        putting after answer (made-where b after (λ s. to_file path (piece s) ++ to_file path (later s)) (λ s. to_file path (rest s)) answer parts
        (made-then b c after (λ s. to_file path (piece s)) (λ s. to_file path (later s)) answer made more))

    pub putting-cut : (stop : Stop) → MadeOrCut meaning b c (λ s. to_file path (piece s)) (Err stop)
        → MadeOrCut meaning a c (λ s. to_file path (whole s)) (Err stop)
    putting-cut stop cut =
        putting c (Err stop) (made-where b c (λ s. to_file path (piece s) ++ to_file path (later s)) (λ s. to_file path (rest s)) (Err stop) parts
        (made-first b c (λ s. to_file path (piece s)) (λ s. to_file path (later s)) stop cut))
