-- Bytes that are appended to a file.
use Rattle.std.proofs.Common.{◌≡◌, ℕ, Bool, true, false, cond, List, [], ◌∷◌, ◌++◌, map, ap, rules, sym, ◌∙◌, refl}
use Rattle.std.specs.Prelude.{Option, Some, None, IsSome, Result, Err, OnOk, OnErr, is_err, if◌then◌else◌}
use Rattle.std.specs.Option.{option_map}
use Rattle.std.specs.Ordering.{nat_cmp, eq_by_cmp}
use Rattle.std.specs.Cmp.Lexicographic.{slice_cmp, nat_list_cmp_total}
use Rattle.std.specs.FinMap as nodes_map
use Rattle.uxn_io_traits.specs.declared.sinks.Failed.{Failed}
use Rattle.uxn_io_traits.specs.Files.{Node, File, Nodes, bytes_of, file_bytes_at}
use Rattle.uxn_io_traits.specs.Changes.{with_appended}
use Rattle.std.proofs.lemmas.List.{append-nil}
use Rattle.uxn_io_traits.specs.AppendingLaws.{contents_after-file}
use Rattle.uxn_io_traits.specs.Outside.{Change, ToFile, files_by}
use Rattle.uxn_io_traits.specs.State.{TreeState, Outside}
use Rattle.uxn_io_traits.specs.Ended.{TreeEnded, Ended, contents_after, appending, blame_of_tree}
use Rattle.uxn_opcodes.specs.declared.Stop.{Stop}
use Rattle.uxn_opcodes.specs.declared.Stop.TheVariants.{TreeFault}
use Rattle.file_ports.specs.Device.{suits}
use Rattle.file_ports.specs.RootPart.{below}
use Rattle.file_ports.specs.PartLaws.{below-files_by, files_by-file}
use Rattle.file_ports.specs.ActLaws.{pieces_lie}
use Rattle.file_ports.specs.OutsideLaws.{below-appended, parent-appended}
use Rattle.varvara_bus.specs.declared.bus.Bus.{Bus}
use Rattle.varvara_bus.specs.State.{DeviceState, DevicesRepresent, HasFiles}
use Rattle.varvara_bus.specs.FileActs.{piece_appended}
use Rattle.varvara_bus.specs.Bus.{BusRepresents, IsFileWhereKnown, FilesStay, blame_for}
use Rattle.varvara_bus.specs.Laws.{stand-part}

-- what stands at a path once a file was put there, or elsewhere
put-there : (b : Bool) (bytes : List ℕ) (before : Option Node) → IsSome (bytes_of before) → IsSome (bytes_of (cond b (Some (File bytes)) before))
put-there = search rules

-- files stay where bytes are appended to one
pub appended-stays : (root : Option (List ℕ)) (contents : Option Nodes) (path text : List ℕ) → FilesStay root contents (option_map (with_appended path text) contents)
appended-stays root None path text = record { stays = λ other outside there. tt }
appended-stays root (Some nodes) path [] = record { stays = λ other outside there. there }
appended-stays root (Some nodes) path (byte ∷ text) = record {
  stays = λ other outside there.
      rw (nodes_map.get-insert nat_list_cmp_total nodes path (File (file_bytes_at nodes path ++ byte ∷ text)) other)
      (put-there (eq_by_cmp (slice_cmp nat_cmp) other path) (file_bytes_at nodes path ++ byte ∷ text) (nodes_map.get nodes other) there);
}

-- and where a prefix of them was
prefixes-stay : (root : Option (List ℕ)) (path piece : List ℕ) (made rest : List Change) (contents : Option Nodes) → appending path piece ≡ made ++ rest
    → FilesStay root contents (contents_after made contents)
prefixes-stay root path piece [] rest contents parts = record { stays = λ other outside there. there }
prefixes-stay root path [] (change ∷ made) rest contents parts = cc
prefixes-stay root path (byte ∷ piece) (change ∷ made) rest contents parts =
    let first : ToFile path byte ≡ change = cc in
    let more : appending path piece ≡ made ++ rest = cc in
    let one = appended-stays root contents path (byte ∷ []) in
    let later = prefixes-stay root path piece made rest (option_map (with_appended path (byte ∷ [])) contents) more in
    rw (sym first) (record { stays = λ other outside there. later.stays other outside (one.stays other outside there) })

pub append-stays : (root : Option (List ℕ)) (path piece : List ℕ) (failed : Bool) (a b : TreeState) → TreeEnded (appending path piece) failed a b
    → FilesStay root a.contents b.contents
append-stays root path piece false a b ended = rw ended.stands (prefixes-stay root path piece (appending path piece) [] a.contents (sym (append-nil _)))
append-stays root path piece true a b ended = rw ended.stands.contents (prefixes-stay root path piece ended.stands.made ended.stands.rest a.contents ended.stands.parts)

-- a failed call is a fault of the tree
pub append-ended : (changes : List Change) (answer : Result (Unit {0}) Stop) (put : Result (Unit {0}) Failed) (before now : Outside)
    → is_err answer ≡ is_err put → OnErr answer (answer ≡ Err TreeFault) → Ended changes (blame_of_tree (is_err put)) before now
    → Ended changes (blame_for answer) before now
append-ended = search rules

-- to a file of the root part they are appended there too, and else the root part stays
part-appended : (contents now : Option Nodes) (path text : List ℕ) (inside : Bool) (root : Option (List ℕ)) (part : Nodes) (parent : Bool)
    → now ≡ option_map (with_appended path text) contents → IsFileWhereKnown contents path → suits root (Some path) ≡ inside
    → HasFiles contents root part parent → HasFiles now root (if inside then files_by part (map (λ byte. ToFile path byte) text) else part) parent
part-appended None now path text false root part parent is there lies has = rw is has
part-appended None now path text true root part parent is there lies has =
    let no : false ≡ true = ap (λ (r : Option (List ℕ)). suits r (Some path)) (sym has.0) ∙ lies in cc
part-appended (Some nodes) now path text false root part parent is there lies has =
    rw is (has.0 ∙ sym (below-appended root path text nodes lies), has.1 ∙ sym (parent-appended root path text nodes there))
part-appended (Some nodes) now path text true root part parent is there lies has =
    let changes = map (λ byte. ToFile path byte) text in
    rw is (
      ap (λ files. files_by files changes) has.0 ∙ sym (below-files_by root changes nodes (pieces_lie root path text lies)) ∙ ap (below root) (files_by-file nodes path text),
      has.1 ∙ sym (parent-appended root path text nodes there),
    )

module _ {T O E : Type 0} (contents_of_tree : T → Option Nodes) where
  after-append : (now : Bus T O E) (inside : Bool) (state : DeviceState) (part : Nodes) → DevicesRepresent now.devices.now state
      → HasFiles (contents_of_tree now.tree.now) state.root (if inside then part else state.part) state.parent
      → BusRepresents contents_of_tree now (if inside then record state { part = part } else state)
  after-append = search (rules, stand-part)

  bus-appended : (before now : Bus T O E) (path text : List ℕ) → now.devices.now ≡ before.devices.now
      → contents_of_tree now.tree.now ≡ option_map (with_appended path text) (contents_of_tree before.tree.now) → IsFileWhereKnown (contents_of_tree before.tree.now) path
      → (state : DeviceState) → BusRepresents contents_of_tree before state → BusRepresents contents_of_tree now (piece_appended path text state)
  bus-appended before now path text same is there state stands =
      after-append now (suits state.root (Some path)) state (files_by state.part (map (λ byte. ToFile path byte) text)) (rw same stands.devices)
      (part-appended (contents_of_tree before.tree.now) (contents_of_tree now.tree.now) path text (suits state.root (Some path)) state.root state.part state.parent is there refl stands.files)

  pub append-stands : (before now : Bus T O E) (path text : List ℕ) (answer : Result (Unit {0}) Stop) (put : Result (Unit {0}) Failed) (a b : TreeState)
      → is_err answer ≡ is_err put → now.devices.now ≡ before.devices.now → a.contents ≡ contents_of_tree before.tree.now → b.contents ≡ contents_of_tree now.tree.now
      → TreeEnded (appending path text) (is_err put) a b → IsFileWhereKnown (contents_of_tree before.tree.now) path
      → OnOk answer ((state : DeviceState) → BusRepresents contents_of_tree before state → BusRepresents contents_of_tree now (piece_appended path text state))
  append-stands = search (rules, bus-appended, contents_after-file)
