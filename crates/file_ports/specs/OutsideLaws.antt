-- Laws of files outside the root part: actions leave them alone, and what is added to them leaves the root part alone.
use Rattle.std.specs.Prelude.{◌≡◌, ℕ, Bool, true, false, IsSome, is_some, List, [], ◌∷◌, ◌++◌, Option, Some, None}
use Rattle.std.specs.Str.{bytes_eq}
use Rattle.std.specs.FinMap as map
use Rattle.std.proofs.Common.{refl, ap, sym, ◌∙◌}
use Rattle.std.proofs.lemmas.Slice.Eq.{bytes_eq-Decides}
use Rattle.uxn_io_traits.specs.PathText.{parent_of}
use Rattle.uxn_io_traits.specs.Files.{Node, File, Folder, Nodes, bytes_of, file_bytes_at, file_at, is_folder, is_folder_at}
use Rattle.uxn_io_traits.specs.Changes.{with_appended}
use Rattle.uxn_io_traits.specs.NodeLaws.{get_put, put_elsewhere}
use Rattle.uxn_io_traits.specs.Outside.{Change, files_by}
use Rattle.file_ports.specs.RootPart.{is_in, below, parent_is_folder, LieIn}
use Rattle.file_ports.specs.Device.{suits}
use Rattle.file_ports.specs.PartLaws.{below-same}
use Rattle.file_ports.specs.ActLaws.{outside-kept}

-- a file outside the root part is there still after them, with its bytes
pub file-kept : (root : Option (List ℕ)) (path : List ℕ) (changes : List Change) (nodes : Nodes) → LieIn root changes
    → suits root (Some path) ≡ false → file_at (files_by nodes changes) path ≡ file_at nodes path
file-kept root path changes nodes lie out = ap bytes_of (outside-kept root path changes nodes lie out)

pub still-there : (root : Option (List ℕ)) (path : List ℕ) (changes : List Change) (nodes : Nodes) → LieIn root changes
    → suits root (Some path) ≡ false → IsSome (file_at nodes path) → IsSome (file_at (files_by nodes changes) path)
still-there root path changes nodes lie out there = ap is_some (file-kept root path changes nodes lie out) ∙ there

-- bytes added to a file leave what stands at every other path
appended_elsewhere : (nodes : Nodes) (path text q : List ℕ) → (q ≡ path → ⊥)
    → map.get (with_appended path text nodes) q ≡ map.get nodes q
appended_elsewhere nodes path [] q other = refl
appended_elsewhere nodes path (byte ∷ text) q other = put_elsewhere nodes path q (File (file_bytes_at nodes path ++ byte ∷ text)) other

-- so outside the root part they leave it as it was
pub below-appended : (root : Option (List ℕ)) (path text : List ℕ) (nodes : Nodes) → suits root (Some path) ≡ false
    → below root (with_appended path text nodes) ≡ below root nodes
below-appended None path text nodes out = refl
below-appended (Some root) path text nodes out =
    below-same root (with_appended path text nodes) nodes
    (λ q inside. appended_elsewhere nodes path text q (λ e. let no : false ≡ true = sym out ∙ ap (is_in root) (sym e) ∙ inside in cc))

-- and a file is no folder before or after
no_folder : (node : Option Node) → IsSome (bytes_of node) → is_folder node ≡ false
no_folder None file = refl
no_folder (Some (File bytes)) file = refl
no_folder (Some Folder) file = cc

folder_appended : (same : Bool) (path text q : List ℕ) (nodes : Nodes) → bytes_eq q path ≡ same → IsSome (file_at nodes path)
    → is_folder (map.get (with_appended path text nodes) q) ≡ is_folder (map.get nodes q)
folder_appended same path [] q nodes e file = refl
folder_appended true path (byte ∷ text) q nodes e file =
    let at = (bytes_eq-Decides q path).0 e in
    ap (λ (p : List ℕ). is_folder (map.get (with_appended path (byte ∷ text) nodes) p)) at
    ∙ ap is_folder (get_put nodes path (File (file_bytes_at nodes path ++ byte ∷ text)))
    ∙ sym (no_folder (map.get nodes path) file)
    ∙ ap (λ (p : List ℕ). is_folder (map.get nodes p)) (sym at)
folder_appended false path (byte ∷ text) q nodes e file =
    ap is_folder
    (appended_elsewhere nodes path (byte ∷ text) q (λ at. let no : false ≡ true = sym e ∙ (bytes_eq-Decides q path).1 at in cc))

parent_appended : (parent : Option (List ℕ)) (path text : List ℕ) (nodes : Nodes) → IsSome (file_at nodes path)
    → is_folder_at (with_appended path text nodes) parent ≡ is_folder_at nodes parent
parent_appended None path text nodes file = refl
parent_appended (Some parent) path text nodes file = folder_appended (bytes_eq parent path) path text parent nodes refl file

pub parent-appended : (root : Option (List ℕ)) (path text : List ℕ) (nodes : Nodes) → IsSome (file_at nodes path)
    → parent_is_folder root (with_appended path text nodes) ≡ parent_is_folder root nodes
parent-appended None path text nodes file = refl
parent-appended (Some root) path text nodes file = parent_appended (parent_of root) path text nodes file
