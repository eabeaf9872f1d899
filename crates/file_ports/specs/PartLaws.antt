-- Laws of the root part: what is observed in it is what is observed in the whole tree, and changes in it are changes of it.
use Rattle.std.specs.Prelude.{◌≡◌, ℕ, Bool, true, false, not, ◌&&◌, List, [], ◌∷◌, ◌++◌}
use Rattle.std.specs.Prelude.{Option, Some, None, IfSome, IsTrue, codes}
use Rattle.std.specs.Prelude.{map as list_map, if◌then◌else◌}
use Rattle.std.specs.List.{filter_map, cons_option}
use Rattle.std.specs.Option.{unwrap_or, option_map, option_and_then, option_eq}
use Rattle.std.specs.Result.{result_ok}
use Rattle.std.specs.Ordering.{nat_cmp, eq_by_cmp}
use Rattle.std.specs.Cmp.Lexicographic.{slice_cmp, nat_list_cmp_total}
use Rattle.std.specs.Str.{bytes_eq}
use Rattle.std.specs.FinMap as map
use Rattle.std.specs.FinMap.Entries.{where_key, is_sorted-where_key, find-where_key}
use Rattle.std.proofs.Common.{cond, refl, ap, sym, ◌∙◌, inl, inr, arith}
use Rattle.std.proofs.lemmas.Grind.{common_steps}
use Rattle.std.proofs.lemmas.Slice.Eq.{bytes_eq-Decides}
use Rattle.uxn_io_traits.specs.PathText.{path_of, joined, parent_of, child_name}
use Rattle.uxn_io_traits.specs.Files.{Node, File, Nodes, bytes_of, file_bytes_at, kind_of, is_folder, is_folder_at, has_parent}
use Rattle.uxn_io_traits.specs.Changes.{can_create, with_appended}
use Rattle.uxn_io_traits.specs.AppendingLaws.{appended_both}
use Rattle.uxn_io_traits.specs.Children.{children, entry_in}
use Rattle.uxn_io_traits.specs.AtPath.{contents_at}
use Rattle.uxn_io_traits.specs.AtPathLaws.{node_by, node-by}
use Rattle.uxn_io_traits.specs.ChangeLaws.{files-contents}
use Rattle.uxn_io_traits.specs.Outside.{Change, ToOut, ToErr, Creates, ToFile, Removes, World, changed_files, changed_by, files_by}
use Rattle.uxn_io_traits.specs.NodeLaws.{tied_path, same_path, same_nodes}
use Rattle.file_ports.specs.RootPart.{is_in, LiesIn, below, parent_is_folder, IsIn, LieIn}
use Rattle.file_ports.specs.Device.{FileState, idle_at, suits, Suits}
use Rattle.file_ports.specs.Names.{bytes_around, before_zero, named_in, path_named}
use Rattle.file_ports.specs.Actions.{FileAction, Observed, can_make_in, observed_in, observed_file, acts}
use Rattle.file_ports.specs.AnswersAction.{file_outcome_of}
use Rattle.file_ports.specs.BeneathLaws.{is_in-Decides, root_in, joined_in, in_deeper, parent_in}
use Rattle.uxn_io_traits.specs.PathLaws.{parent_before}

-- the node at a path of the root part, and at any other
get-below : (root : List ℕ) (nodes : Nodes) (q : List ℕ) → map.get (below (Some root) nodes) q ≡ cond (is_in root q) (map.get nodes q) None
get-below root nodes q = map.get-retain_keys nodes (is_in root) q (λ x tied. ap (is_in root) (sym (tied_path q x tied)))

pub get_in : (root : List ℕ) (nodes : Nodes) (q : List ℕ) → is_in root q ≡ true → map.get (below (Some root) nodes) q ≡ map.get nodes q
get_in root nodes q in_root = get-below root nodes q ∙ ap (λ (b : Bool). cond b (map.get nodes q) None) in_root

-- the root part is told by the nodes in it
kept : (b : Bool) (x y : Option Node) → (b ≡ true → x ≡ y) → cond b x None ≡ cond b y None
kept true x y is = is refl
kept false x y is = refl

pub below-same : (root : List ℕ) (m n : Nodes) → ((q : List ℕ) → is_in root q ≡ true → map.get m q ≡ map.get n q)
    → below (Some root) m ≡ below (Some root) n
below-same root m n is =
    same_nodes (below (Some root) m) (below (Some root) n)
    (λ q. get-below root m q ∙ kept (is_in root q) (map.get m q) (map.get n q) (is q) ∙ sym (get-below root n q))

-- a folder's children in the root part
entries-below : (root : List ℕ) (nodes : Nodes)
    → map.entries (below (Some root) nodes) ≡ where_key (slice_cmp nat_cmp) (is_in root) (map.entries nodes)
entries-below root nodes =
    let listed = where_key (slice_cmp nat_cmp) (is_in root) (map.entries nodes) in
    let sorted = is_sorted-where_key (slice_cmp nat_cmp) (is_in root) (map.entries nodes) (map.entries_sorted nodes) in
    let one : below (Some root) nodes ≡ map.from_sorted listed =
    same_nodes (below (Some root) nodes) (map.from_sorted listed)
    (λ q.
    get-below root nodes q
    ∙ ap (λ (o : Option Node). cond (is_in root q) o None) (map.get-entries nodes q)
    ∙ sym (find-where_key (slice_cmp nat_cmp) (is_in root) q (λ x tied. ap (is_in root) (sym (tied_path q x tied))) (map.entries nodes))
    ∙ sym (map.get-from_sorted (slice_cmp nat_cmp) listed q sorted)) in
    ap (λ (m : Nodes). map.entries m) one ∙ map.entries-from_sorted (slice_cmp nat_cmp) listed sorted

no_name : (same : Bool) (parent folder name : List ℕ) → bytes_eq parent folder ≡ same → (parent ≡ folder → ⊥)
    → (if same then Some name else None) ≡ None
no_name true parent folder name e other = absurd (other ((bytes_eq-Decides parent folder).0 e))
no_name false parent folder name e other = refl

no_child : (parent : Option (List ℕ)) (folder name : List ℕ) → (parent ≡ Some folder → ⊥)
    → (if option_eq bytes_eq parent (Some folder) then Some name else None) ≡ None
no_child None folder name other = refl
no_child (Some parent) folder name other =
    no_name (bytes_eq parent folder) parent folder name refl (λ e. other (ap (λ (p : List ℕ). Some p) e))

-- what lies outside the root is no child of a folder in it
stranger : (root folder path : List ℕ) → is_in root folder ≡ true → is_in root path ≡ false → child_name folder path ≡ None
stranger root folder path in_root out =
    no_child (parent_of path) folder _
    (λ e.
    let inside : is_in root path ≡ true =
    (is_in-Decides root path).1 (in_deeper root folder path ((is_in-Decides root folder).0 in_root) (parent_before path folder e)) in
    let no : true ≡ false = sym inside ∙ out in
    cc)

unlisted : (root folder : List ℕ) (listed : List (List ℕ × Node)) → is_in root folder ≡ true
    → filter_map (entry_in folder) (where_key (slice_cmp nat_cmp) (is_in root) listed) ≡ filter_map (entry_in folder) listed
unlisted root folder [] in_root = refl
unlisted root folder (entry ∷ listed) in_root =
    let rest = where_key (slice_cmp nat_cmp) (is_in root) listed in
    elim (is_in root entry.0) as (λ b. is_in root entry.0 ≡ b → filter_map (entry_in folder) (cond b (entry ∷ rest) rest)
    ≡ cons_option (entry_in folder entry) (filter_map (entry_in folder) listed)) [
      | true ↦ λ e. ap (cons_option (entry_in folder entry)) (unlisted root folder listed in_root)
      | false ↦ λ e.
          unlisted root folder listed in_root
          ∙ sym (ap (λ (o : Option (List ℕ)). cons_option (option_map (λ name. record { name = name; kind = kind_of (Some entry.1) }) o)
          (filter_map (entry_in folder) listed)) (stranger root folder entry.0 in_root e))
    ] refl

pub children_in : (root folder : List ℕ) (nodes : Nodes) → is_in root folder ≡ true
    → children (below (Some root) nodes) folder ≡ children nodes folder
children_in root folder nodes in_root =
    ap (filter_map (entry_in folder)) (entries-below root nodes) ∙ unlisted root folder (map.entries nodes) in_root

-- whether a file can be made at a path of the root part
parent_observed : (same : Bool) (root path : List ℕ) (nodes : Nodes) → bytes_eq root path ≡ same → LiesIn root path
    → (if same then has_parent nodes root else has_parent (below (Some root) nodes) path) ≡ has_parent nodes path
parent_observed true root path nodes e in_root = ap (has_parent nodes) ((bytes_eq-Decides root path).0 e)
parent_observed false root path nodes e (inl same) = let no : true ≡ false = sym ((bytes_eq-Decides root path).1 (sym same)) ∙ e in cc
parent_observed false root path nodes e (inr deep) =
    let up = parent_in root path deep in
    ap (is_folder_at (below (Some root) nodes)) up.1
    ∙ ap is_folder (get_in root nodes up.0 ((is_in-Decides root up.0).1 up.2))
    ∙ sym (ap (is_folder_at nodes) up.1)

can_make_same : (root path : List ℕ) (nodes : Nodes) → is_in root path ≡ true
    → can_make_in (Some root) (below (Some root) nodes) (has_parent nodes root) path ≡ can_create nodes path
can_make_same root path nodes in_root = λ i.
    parent_observed (bytes_eq root path) root path nodes refl ((is_in-Decides root path).0 in_root) i
    && not (is_folder (get_in root nodes path in_root i))

-- what a device sees in the root part
pub observed-same : (root path : List ℕ) (nodes : Nodes) → is_in root path ≡ true
    → observed_in (Some root) (below (Some root) nodes) (has_parent nodes root) path ≡ observed_file nodes path
observed-same root path nodes in_root = λ i. record {
  path = path;
  kind = kind_of (get_in root nodes path in_root i);
  bytes = unwrap_or (bytes_of (get_in root nodes path in_root i)) [];
  entries = children_in root path nodes in_root i;
  can_make = can_make_same root path nodes in_root i;
}

-- an action sees nothing of a tree but its root part, and whether the root's parent is a folder
observed_by : (root path : Option (List ℕ)) (nodes : Nodes) → IsTrue (suits root path)
    → option_map (observed_in root (below root nodes) (parent_is_folder root nodes)) path ≡ option_map (observed_file nodes) path
observed_by root None nodes suits = refl
observed_by None (Some path) nodes suits = cc
observed_by (Some root) (Some path) nodes suits = ap (λ (s : Observed). Some s) (observed-same root path nodes suits)

pub outcome-same : (action : FileAction) (root : Option (List ℕ)) (nodes : Nodes) (device : FileState) (memory : List ℕ) → Suits root device
    → file_outcome_of action root nodes device memory ≡ acts action root device memory (option_map (observed_file nodes) device.path)
outcome-same action root nodes device memory suits = ap (acts action root device memory) (observed_by root device.path nodes suits)

-- a node put in the root part is put in the tree
either_first : (p q : Bool) (x : Node) (o : Option Node) → (q ≡ true → p ≡ true)
    → cond p (cond q (Some x) o) None ≡ cond q (Some x) (cond p o None)
either_first true true x o is = refl
either_first true false x o is = refl
either_first false true x o is = let no = is refl in cc
either_first false false x o is = refl

below-insert : (root path : List ℕ) (nodes : Nodes) (node : Node) → is_in root path ≡ true
    → below (Some root) (map.insert nodes path node) ≡ map.insert (below (Some root) nodes) path node
below-insert root path nodes node in_root =
    same_nodes (below (Some root) (map.insert nodes path node)) (map.insert (below (Some root) nodes) path node)
    (λ q.
    get-below root (map.insert nodes path node) q
    ∙ ap (λ (o : Option Node). cond (is_in root q) o None) (map.get-insert nat_list_cmp_total nodes path node q)
    ∙ either_first (is_in root q) (eq_by_cmp (slice_cmp nat_cmp) q path) node (map.get nodes q)
    (λ e. ap (is_in root) (same_path q path e) ∙ in_root)
    ∙ sym (map.get-insert nat_list_cmp_total (below (Some root) nodes) path node q
    ∙ ap (λ (o : Option Node). cond (eq_by_cmp (slice_cmp nat_cmp) q path) (Some node) o) (get-below root nodes q)))

either_none : (p q : Bool) (o : Option Node) → cond p (cond q None o) None ≡ cond q None (cond p o None)
either_none true true o = refl
either_none true false o = refl
either_none false true o = refl
either_none false false o = refl

below-remove : (root path : List ℕ) (nodes : Nodes) → below (Some root) (map.remove nodes path) ≡ map.remove (below (Some root) nodes) path
below-remove root path nodes =
    same_nodes (below (Some root) (map.remove nodes path)) (map.remove (below (Some root) nodes) path)
    (λ q.
    get-below root (map.remove nodes path) q
    ∙ ap (λ (o : Option Node). cond (is_in root q) o None) (map.get-remove nat_list_cmp_total nodes path q)
    ∙ either_none (is_in root q) (eq_by_cmp (slice_cmp nat_cmp) q path) (map.get nodes q)
    ∙ sym (map.get-remove nat_list_cmp_total (below (Some root) nodes) path q
    ∙ ap (λ (o : Option Node). cond (eq_by_cmp (slice_cmp nat_cmp) q path) None o) (get-below root nodes q)))

nowhere_in : (change : Change) → IsIn None change → ⊥
nowhere_in (ToOut byte) lies = cc
nowhere_in (ToErr byte) lies = cc
nowhere_in (Creates path) lies = cc
nowhere_in (ToFile path byte) lies = cc
nowhere_in (Removes path) lies = cc

-- a change in the root part is one of the root part
pub below-change : (root : List ℕ) (change : Change) (nodes : Nodes) → IsIn (Some root) change
    → below (Some root) (changed_files change nodes) ≡ changed_files change (below (Some root) nodes)
below-change root (ToOut byte) nodes lies = refl
below-change root (ToErr byte) nodes lies = refl
below-change root (Creates path) nodes lies = below-insert root path nodes (File []) lies
below-change root (ToFile path byte) nodes lies =
    below-insert root path nodes (File (file_bytes_at nodes path ++ byte ∷ [])) lies
    ∙ ap (λ (o : Option Node). map.insert (below (Some root) nodes) path (File (unwrap_or (bytes_of o) [] ++ byte ∷ [])))
    (sym (get_in root nodes path lies))
below-change root (Removes path) nodes lies = below-remove root path nodes

pub below-files_by : (root : Option (List ℕ)) (changes : List Change) (nodes : Nodes) → LieIn root changes
    → below root (files_by nodes changes) ≡ files_by (below root nodes) changes
below-files_by root [] nodes lie = refl
below-files_by None (change ∷ changes) nodes lie = absurd (nowhere_in change lie.0)
below-files_by (Some root) (change ∷ changes) nodes lie =
    below-files_by (Some root) changes (changed_files change nodes) lie.1
    ∙ ap (λ (m : Nodes). files_by m changes) (below-change root change nodes lie.0)

-- bytes added one after the other
pub files_by-file : (nodes : Nodes) (path piece : List ℕ)
    → files_by nodes (list_map (λ byte. ToFile path byte) piece) ≡ with_appended path piece nodes
files_by-file nodes path [] = refl
files_by-file nodes path (byte ∷ piece) =
    files_by-file (with_appended path (byte ∷ []) nodes) path piece ∙ appended_both nodes path (byte ∷ []) piece

-- a name names a path of the root part
suited : (root : List ℕ) (path : Option (List ℕ)) → ((p : List ℕ) → path ≡ Some p → is_in root p ≡ true)
    → IsTrue (suits (Some root) path)
suited root None is = refl
suited root (Some p) is = is p refl

chosen_path : (dot : Bool) (root name : List ℕ) (path : Option (List ℕ))
    → IsTrue (suits (Some root) (if dot then Some root else option_and_then (joined root) path))
chosen_path true root name path = root_in root
chosen_path false root name None = refl
chosen_path false root name (Some path) = suited root (joined root path) (λ p e. joined_in root path p e)

named_suits : (root : List ℕ) (name : Option (List ℕ)) → IsTrue (suits (Some root) (option_and_then (named_in root) name))
unfolding named_in
named_suits root None = refl
named_suits root (Some name) = chosen_path (bytes_eq name (codes ".")) root name (result_ok (path_of name))

pub named-suits : (root : Option (List ℕ)) (memory : List ℕ) (at : ℕ) → Suits root (idle_at (path_named root memory at))
named-suits None memory at = refl
named-suits (Some root) memory at = named_suits root (before_zero (bytes_around memory at))

-- what is the same beneath a root is so after the same changes
same-below : (root : Option (List ℕ)) (m n : Nodes)
    → IfSome root (λ r. (path : List ℕ) → is_in r path ≡ true → map.get m path ≡ map.get n path)
    → below root m ≡ below root n
same-below None m n e = refl
same-below (Some root) m n e = below-same root m n e

pub same-part : (root : Option (List ℕ)) (m n : Nodes) (changes : List Change) → below root m ≡ below root n
    → below root (files_by m changes) ≡ below root (files_by n changes)
same-part None m n changes e = refl
same-part (Some root) m n changes e =
    below-same root (files_by m changes) (files_by n changes)
    (λ path inside. node-by path m changes
    ∙ ap (node_by path changes) (sym (get_in root m path inside) ∙ ap (λ part. map.get part path) e ∙ get_in root n path inside)
    ∙ sym (node-by path n changes))

-- changes that leave the same at each path beneath a root leave the same root part
pub parts-same : (before : World) (root : Option (List ℕ)) (xs ys : List Change)
    → IfSome root (λ r. (path : List ℕ) → is_in r path ≡ true
    → contents_at path (changed_by before xs).files ≡ contents_at path (changed_by before ys).files)
    → option_map (below root) (changed_by before xs).files ≡ option_map (below root) (changed_by before ys).files
parts-same = grind (arith, common_steps, files-contents, same-below)
