-- Laws of the actions: they change nothing outside the root part, and a device goes on to suit its root.
use Rattle.std.specs.Prelude.{◌≡◌, ℕ, Bool, true, false, not, ◌&&◌, ◌||◌, List, [], ◌∷◌, take, drop, map as list_map}
use Rattle.std.specs.Prelude.{Option, Some, None, IfSome, Result, Ok, Err, IsTrue, if◌then◌else◌}
use Rattle.std.specs.Option.{option_map}
use Rattle.std.specs.Str.{bytes_eq}
use Rattle.std.specs.FinMap as map
use Rattle.std.proofs.Common.{refl, ap, sym, subst, ◌∙◌}
use Rattle.std.proofs.lemmas.Slice.Eq.{bytes_eq-Decides}
use Rattle.uxn_io_traits.specs.AtPath.{path_changed, Spares}
use Rattle.uxn_io_traits.specs.AtPathLaws.{node-by, spared-by}
use Rattle.uxn_io_traits.specs.EachLaws.{each-map, each-so}
use Rattle.uxn_io_traits.specs.PathText.{parent_of}
use Rattle.uxn_io_traits.specs.Files.{Nodes, is_folder, is_folder_at}
use Rattle.uxn_io_traits.specs.Outside.{Change, ToOut, ToErr, Creates, ToFile, Removes, files_by}
use Rattle.uxn_memory.specs.Bytes.{bank0}
use Rattle.file_ports.specs.RootPart.{is_in, LiesIn, below, parent_is_folder, is_in_part, IsIn, LieIn}
use Rattle.file_ports.specs.Device.{FileState, idle_at, suits, Suits, is_writing}
use Rattle.file_ports.specs.Actions.{FileAction, FileOutcome, Name, Read, Write, Stat, Delete, is_file, begun, adds, quiet, acts}
use Rattle.file_ports.specs.Actions.{act, observed_in, observed_file, count_from}
use Rattle.file_ports.specs.AnswersAction.{file_outcome_of, changes_unknown, changes_by, device_left, ActedOrStopped}
use Rattle.file_ports.specs.declared.stop.FileStop.{FileStop}
use Rattle.uxn_io_traits.specs.Ended.{IsOfTree, AreOfTree}
use Rattle.file_ports.specs.BeneathLaws.{is_in-Decides, parent_outside}
use Rattle.file_ports.specs.PartLaws.{named-suits, outcome-same}

in_part : (root : Option (List ℕ)) (path : List ℕ) → IsTrue (suits root (Some path)) → IsTrue (is_in_part root (Some path))
in_part None path lies = lies
in_part (Some root) path lies = lies

pub pieces_lie : (root : Option (List ℕ)) (path piece : List ℕ) → IsTrue (suits root (Some path))
    → LieIn root (list_map (λ byte. ToFile path byte) piece)
pieces_lie root path piece lies = each-map (IsIn root) (λ byte. ToFile path byte) piece (λ byte. in_part root path lies)

added_lie : (root : Option (List ℕ)) (on writes can : Bool) (path memory piece : List ℕ) → IsTrue (suits root (Some path))
    → LieIn root (adds path memory piece (if on then Some [] else if not writes && can then Some (Creates path ∷ []) else None)).changes
added_lie root true writes can path memory piece lies = pieces_lie root path piece lies
added_lie root false true can path memory piece lies = tt
added_lie root false false true path memory piece lies = (in_part root path lies, pieces_lie root path piece lies)
added_lie root false false false path memory piece lies = tt

-- what a delete does, where a file is there or none
abbrev removes : Bool → List ℕ → List ℕ → FileOutcome
removes there path memory =
    if there then record { success = 1; device = idle_at (Some path); memory = memory; changes = Removes path ∷ [] }
    else quiet 0 (idle_at (Some path)) memory

removed_lie : (root : Option (List ℕ)) (there : Bool) (path memory : List ℕ) → IsTrue (suits root (Some path))
    → LieIn root (removes there path memory).changes
removed_lie root true path memory lies = (in_part root path lies, tt)
removed_lie root false path memory lies = tt

added_at : (root : Option (List ℕ)) (first : Option (List Change)) (path memory piece : List ℕ) → IsTrue (suits root (Some path))
    → Suits root (adds path memory piece first).device
added_at root None path memory piece lies = lies
added_at root (Some first) path memory piece lies = lies

removed_at : (root : Option (List ℕ)) (there : Bool) (path memory : List ℕ) → IsTrue (suits root (Some path))
    → Suits root (removes there path memory).device
removed_at root true path memory lies = lies
removed_at root false path memory lies = lies

-- an action changes nothing but files in the root part
at_path : (action : FileAction) (root : Option (List ℕ)) (part : Nodes) (parent : Bool) (device : FileState) (memory : List ℕ)
    (path : Option (List ℕ)) → IsTrue (suits root path)
    → LieIn root (acts action root device memory (option_map (observed_in root part parent) path)).changes
at_path (Name at) root part parent device memory path lies = tt
at_path (Read at length) root part parent device memory None lies = tt
at_path (Read at length) root part parent device memory (Some path) lies = tt
at_path (Write at length keep) root part parent device memory None lies = tt
at_path (Write at length keep) root part parent device memory (Some path) lies =
    let observed = observed_in root part parent path in
    added_lie root ((is_writing device.mode || keep) && is_file observed.kind) (is_writing device.mode) observed.can_make path memory
    (take (count_from at length) (drop at (bank0 memory))) lies
at_path (Stat at length) root part parent device memory None lies = tt
at_path (Stat at length) root part parent device memory (Some path) lies = tt
at_path Delete root part parent device memory None lies = tt
at_path Delete root part parent device memory (Some path) lies =
    removed_lie root (is_file (observed_in root part parent path).kind) path memory lies

pub act-lies : (action : FileAction) (root : Option (List ℕ)) (part : Nodes) (parent : Bool) (device : FileState) (memory : List ℕ)
    → Suits root device → LieIn root (act action root part parent device memory).changes
act-lies action root part parent device memory suits = at_path action root part parent device memory device.path suits

-- after an action a device suits its root
kept_at : (action : FileAction) (root : Option (List ℕ)) (part : Nodes) (parent : Bool) (device : FileState) (memory : List ℕ)
    (path : Option (List ℕ)) → device.path ≡ path → IsTrue (suits root path)
    → Suits root (acts action root device memory (option_map (observed_in root part parent) path)).device
kept_at (Name at) root part parent device memory path e lies = named-suits root memory at
kept_at (Read at length) root part parent device memory None e lies = ap (suits root) e ∙ lies
kept_at (Read at length) root part parent device memory (Some path) e lies = lies
kept_at (Write at length keep) root part parent device memory None e lies = ap (suits root) e ∙ lies
kept_at (Write at length keep) root part parent device memory (Some path) e lies =
    added_at root (begun (is_writing device.mode) keep (observed_in root part parent path)) path memory
    (take (count_from at length) (drop at (bank0 memory))) lies
kept_at (Stat at length) root part parent device memory None e lies = ap (suits root) e ∙ lies
kept_at (Stat at length) root part parent device memory (Some path) e lies = ap (suits root) e ∙ lies
kept_at Delete root part parent device memory None e lies = ap (suits root) e ∙ lies
kept_at Delete root part parent device memory (Some path) e lies =
    removed_at root (is_file (observed_in root part parent path).kind) path memory lies

pub act-suits : (action : FileAction) (root : Option (List ℕ)) (part : Nodes) (parent : Bool) (device : FileState) (memory : List ℕ)
    → Suits root device → Suits root (act action root part parent device memory).device
act-suits action root part parent device memory suits = kept_at action root part parent device memory device.path refl suits

no_path : (path : Option (List ℕ)) → IsTrue (suits None path) → path ≡ None
no_path None suits = refl
no_path (Some path) suits = cc

-- where there is no root a device has no path, and without a path it sees nothing
pub rootless : (device : FileState) → Suits None device → device.path ≡ None
rootless device suits = no_path device.path suits

pub act-nowhere : (action : FileAction) (root : Option (List ℕ)) (part : Nodes) (parent : Bool) (device : FileState) (memory : List ℕ)
    → device.path ≡ None
    → act action root part parent device memory ≡ acts action root device memory None
act-nowhere action root part parent device memory e =
    ap (λ (p : Option (List ℕ)). acts action root device memory (option_map (observed_in root part parent) p)) e

-- changes in the root part are of other paths than those outside it
apart : (root path other : List ℕ) (same : Bool) → bytes_eq path other ≡ same → is_in root other ≡ true → is_in root path ≡ false
    → same ≡ false
apart root path other true e lies out =
    let no : false ≡ true = sym out ∙ ap (is_in root) ((bytes_eq-Decides path other).0 e) ∙ lies in cc
apart root path other false e lies out = refl

elsewhere : (root : Option (List ℕ)) (path : List ℕ) (other : Option (List ℕ)) → IsTrue (is_in_part root other)
    → suits root (Some path) ≡ false → IfSome other (λ other. bytes_eq path other ≡ false)
elsewhere root path None lies out = tt
elsewhere None path (Some other) lies out = cc
elsewhere (Some root) path (Some other) lies out = apart root path other (bytes_eq path other) refl lies out

pub lies-elsewhere : (root : Option (List ℕ)) (path : List ℕ) → suits root (Some path) ≡ false → (change : Change) → IsIn root change
    → Spares path change
lies-elsewhere root path out change lies = elsewhere root path (path_changed change) lies out

-- so every path outside the root part keeps its node
pub outside-kept : (root : Option (List ℕ)) (q : List ℕ) (changes : List Change) (nodes : Nodes) → LieIn root changes
    → suits root (Some q) ≡ false → map.get (files_by nodes changes) q ≡ map.get nodes q
outside-kept root q changes nodes lie out =
    node-by q nodes changes ∙ spared-by q changes (map.get nodes q) (each-so (IsIn root) (Spares q) changes (lies-elsewhere root q out) lie)

-- the root's parent is a folder as before
outside_part : (root p : List ℕ) (b : Bool) → is_in root p ≡ b → (LiesIn root p → ⊥) → b ≡ false
outside_part root p true e out = absurd (out ((is_in-Decides root p).0 e))
outside_part root p false e out = refl

parent_same : (root : List ℕ) (parent : Option (List ℕ)) (changes : List Change) (nodes : Nodes) → parent_of root ≡ parent
    → LieIn (Some root) changes → is_folder_at (files_by nodes changes) parent ≡ is_folder_at nodes parent
parent_same root None changes nodes e lie = refl
parent_same root (Some parent) changes nodes e lie =
    ap is_folder (outside-kept (Some root) parent changes nodes lie (outside_part root parent _ refl (parent_outside root parent e)))

pub parent-kept : (root : Option (List ℕ)) (changes : List Change) (nodes : Nodes) → LieIn root changes
    → parent_is_folder root (files_by nodes changes) ≡ parent_is_folder root nodes
parent-kept None changes nodes lie = refl
parent-kept (Some root) changes nodes lie = parent_same root (parent_of root) changes nodes refl lie

-- changes in the root part touch files alone
no_output : (root : Option (List ℕ)) → IsTrue (is_in_part root None) → ⊥
no_output None lies = cc
no_output (Some root) lies = cc

one-of-tree : (root : Option (List ℕ)) (change : Change) → IsIn root change → IsOfTree change
one-of-tree root (ToOut byte) lies = no_output root lies
one-of-tree root (ToErr byte) lies = no_output root lies
one-of-tree root (Creates path) lies = tt
one-of-tree root (ToFile path byte) lies = tt
one-of-tree root (Removes path) lies = tt

pub of-tree : (root : Option (List ℕ)) (changes : List Change) → LieIn root changes → AreOfTree changes
of-tree root changes lie = each-so (IsIn root) IsOfTree changes (one-of-tree root) lie

-- so do those of a call
changes-at : (action : FileAction) (root : Option (List ℕ)) (nodes : Nodes) (device : FileState) (memory : List ℕ)
    → (acts action None device memory (option_map (observed_file nodes) device.path)).changes
    ≡ (acts action root device memory (option_map (observed_file nodes) device.path)).changes
changes-at (Name at) root nodes device memory = refl
changes-at (Read at length) root nodes device memory = refl
changes-at (Write at length keep) root nodes device memory = refl
changes-at (Stat at length) root nodes device memory = refl
changes-at Delete root nodes device memory = refl

pub changes-of : (action : FileAction) (root : Option (List ℕ)) (nodes : Nodes) (device : FileState) (memory : List ℕ) → Suits root device
    → changes_by action (Some nodes) device memory ≡ (file_outcome_of action root nodes device memory).changes
changes-of action root nodes device memory suits =
    changes-at action root nodes device memory
    ∙ ap (λ (outcome : FileOutcome). outcome.changes) (sym (outcome-same action root nodes device memory suits))

unknown-lies : (action : FileAction) (root path : Option (List ℕ)) → IsTrue (suits root path) → LieIn root (changes_unknown action path)
unknown-lies (Name at) root path lies = tt
unknown-lies (Read at length) root path lies = tt
unknown-lies (Write at length keep) root None lies = tt
unknown-lies (Write at length keep) root (Some path) lies = (in_part root path lies, tt)
unknown-lies (Stat at length) root path lies = tt
unknown-lies Delete root path lies = tt

pub changes-lie : (action : FileAction) (root : Option (List ℕ)) (contents : Option Nodes) (device : FileState) (memory : List ℕ)
    → Suits root device
    → LieIn root (changes_by action contents device memory)
changes-lie action root None device memory suits = unknown-lies action root device.path suits
changes-lie action root (Some nodes) device memory suits =
    subst (LieIn root) (sym (changes-of action root nodes device memory suits))
    (act-lies action root (below root nodes) (parent_is_folder root nodes) device memory suits)

-- without a root there are none
pub lie-none : (changes : List Change) → LieIn None changes → changes ≡ []
lie-none [] lie = refl
lie-none (change ∷ changes) lie = absurd (nowhere (path_changed change) lie.0)
  where
    nowhere : (path : Option (List ℕ)) → IsTrue (is_in_part None path) → ⊥
    nowhere None lies = cc
    nowhere (Some path) lies = cc

-- a device keeps its path
left-at : (action : FileAction) (device : FileState) → (device_left action device).path ≡ device.path
left-at (Name at) device = refl
left-at (Read at length) device = refl
left-at (Write at length keep) device = refl
left-at (Stat at length) device = refl
left-at Delete device = refl

pub path-kept : (action : FileAction) (device : FileState) (memory : List ℕ) (contents : Option Nodes) (result : Result ℕ FileStop)
    (device_now : FileState) (memory_now : List ℕ) → ActedOrStopped action device memory contents result device_now memory_now
    → device_now.path ≡ device.path
path-kept action device memory contents (Ok success) device_now memory_now acted = acted.path
path-kept action device memory contents (Err stop) device_now memory_now stopped =
    ap (λ (d : FileState). d.path) stopped.device ∙ left-at action device
