-- Laws of bytes appended to files.
use Rattle.std.specs.Prelude.{◌≡◌, ℕ, List, [], ◌∷◌, ◌++◌, map, Option, Some, None, refl}
use Rattle.std.specs.Option.{option_map}
use Rattle.std.specs.FinMap as nodes_map
use Rattle.std.proofs.Common.{ap, sym, ◌∙◌, append_assoc}
use Rattle.std.proofs.lemmas.List.{append-nil, map-append}
use Rattle.uxn_io_traits.specs.Files.{File, Nodes, file_bytes_at}
use Rattle.uxn_io_traits.specs.Changes.{with_appended}
use Rattle.uxn_io_traits.specs.Outside.{ToFile, World, changed, changed_by}
use Rattle.uxn_io_traits.specs.EachLaws.{each-map}
use Rattle.uxn_io_traits.specs.Ended.{contents_after, appending, IsOfTree, AreOfTree}
use Rattle.uxn_io_traits.specs.NodeLaws.{bytes_put, put_again}

-- to append twice is to append both
pub appended_both : (nodes : Nodes) (path xs ys : List ℕ)
    → with_appended path ys (with_appended path xs nodes) ≡ with_appended path (xs ++ ys) nodes
appended_both nodes path [] ys = refl
appended_both nodes path (x ∷ xs) [] = ap (λ (z : List ℕ). with_appended path z nodes) (sym (append-nil (x ∷ xs)))
appended_both nodes path (x ∷ xs) (y ∷ ys) =
    ap (λ (z : List ℕ). nodes_map.insert (nodes_map.insert nodes path (File (file_bytes_at nodes path ++ x ∷ xs))) path (File (z ++ y ∷ ys)))
    (bytes_put nodes path (file_bytes_at nodes path ++ x ∷ xs))
    ∙ put_again nodes path _ _
    ∙ ap (λ (z : List ℕ). nodes_map.insert nodes path (File z)) (append_assoc (file_bytes_at nodes path) (x ∷ xs) (y ∷ ys))

pub appended_known : (contents : Option Nodes) (path xs ys : List ℕ)
    → option_map (with_appended path ys) (option_map (with_appended path xs) contents) ≡ option_map (with_appended path (xs ++ ys)) contents
appended_known None path xs ys = refl
appended_known (Some nodes) path xs ys = ap (λ (z : Nodes). Some z) (appended_both nodes path xs ys)

appended-nothing : (path : List ℕ) (contents : Option Nodes) → option_map (with_appended path []) contents ≡ contents
appended-nothing path None = refl
appended-nothing path (Some nodes) = refl

-- a text appended to a file, byte after byte
pub changed_by-file : (world : World) (path text : List ℕ) → changed_by world (map (λ byte. ToFile path byte) text)
    ≡ record world { files = option_map (with_appended path text) world.files }
changed_by-file world path [] = ap (λ contents. record world { files = contents }) (sym (appended-nothing path world.files))
changed_by-file world path (byte ∷ text) =
    changed_by-file (changed world (ToFile path byte)) path text
    ∙ ap (λ contents. record world { files = contents }) (appended_known world.files path (byte ∷ []) text)

-- the same of the known contents of a tree
pub contents_after-file : (contents : Option Nodes) (path text : List ℕ)
    → contents_after (appending path text) contents ≡ option_map (with_appended path text) contents
contents_after-file contents path [] = sym (appended-nothing path contents)
contents_after-file contents path (byte ∷ text) =
    contents_after-file (option_map (with_appended path (byte ∷ [])) contents) path text ∙ appended_known contents path (byte ∷ []) text

-- texts appended one after the other
pub appending-both : (path first more : List ℕ) → appending path (first ++ more) ≡ appending path first ++ appending path more
appending-both path first more = map-append (λ byte. ToFile path byte) first more

pub appending-of-tree : (path piece : List ℕ) → AreOfTree (appending path piece)
appending-of-tree path piece = each-map IsOfTree (λ byte. ToFile path byte) piece (λ byte. tt)
