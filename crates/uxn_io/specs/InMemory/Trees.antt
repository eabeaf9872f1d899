-- A tree in memory, call by call.
use Rattle.std.specs.Prelude.{◌≡◌, ℕ, zero, suc, ◌+◌, ◌-◌, ◌==◌, ◌&&◌, ◌||◌, Bool, true, false}
use Rattle.std.specs.Prelude.{nat_le, nat_lt, min}
use Rattle.std.specs.Prelude.{List, ◌++◌, length, take, drop, count_by, Option, Some, None, Result, Ok, Err}
use Rattle.std.specs.Prelude.{is_some, refl, if◌then◌else◌}
use Rattle.std.specs.List.{list_any, list_all}
use Rattle.std.specs.Str.{bytes_eq}
use Rattle.std.specs.Coded.{Coded, code_by, coded×, coded_ℕ, coded_list, coded_option}
use Rattle.uxn_io_traits.specs.declared.refused.RefusedFiles.{RefusedFiles}
use Rattle.uxn_io_traits.specs.declared.sinks.Failed.{Failed}
use Rattle.uxn_io_traits.specs.Ended.{refused_also}
use Rattle.uxn_io.specs.declared.memory.trees.Node.{Node as StoredNode}
use Rattle.uxn_io.specs.declared.memory.trees.TreeCall.{TreeCall}
use Rattle.uxn_io.specs.declared.memory.trees.TreeCall.TheVariants.{Kind, Read, Create, Append, Remove, Names}
use Rattle.uxn_io_traits.specs.Files.{Nodes, file_at, file_bytes_at, file_bytes_from, has_parent}
use Rattle.uxn_io_traits.specs.Changes.{can_create, makes_file, with_created, new_files, with_appended, with_removed}
use Rattle.uxn_io.specs.InMemory.Places.{Places, nodes_of, places_code}
use Rattle.uxn_io_traits.specs.Faults.{one_more}
use Rattle.uxn_io_traits.specs.Room.{Room}
use Rattle.uxn_io_traits.specs.State.{TreeState}

-- how many calls of each variant there were
pub record Calls : Type 0 where
  pub kind : ℕ
  pub read : ℕ
  pub create : ℕ
  pub append : ℕ
  pub remove : ℕ
  pub names : ℕ

abbrev pub no_calls : Calls
no_calls = record { kind = 0; read = 0; create = 0; append = 0; remove = 0; names = 0 }

-- no file was refused
abbrev pub none_refused : RefusedFiles
none_refused = record { count = 0; last = None }

abbrev pub call_number : TreeCall → Calls → ℕ
call_number Kind calls = calls.kind
call_number Read calls = calls.read
call_number Create calls = calls.create
call_number Append calls = calls.append
call_number Remove calls = calls.remove
call_number Names calls = calls.names

-- one call more
abbrev pub with_call : TreeCall → Calls → Calls
with_call Kind calls = record calls { kind = one_more calls.kind }
with_call Read calls = record calls { read = one_more calls.read }
with_call Create calls = record calls { create = one_more calls.create }
with_call Append calls = record calls { append = one_more calls.append }
with_call Remove calls = record calls { remove = one_more calls.remove }
with_call Names calls = record calls { names = one_more calls.names }

-- its nodes and free places, the calls that fail by their variant and number from 0, how many calls of each
-- variant there were, how many calls failed, and the files that it refused to create
pub record TreeInMemory : Type 0 where
  pub held : Places
  pub fails : List (TreeCall × ℕ)
  pub calls : Calls
  pub faults : ℕ
  pub refused : RefusedFiles

abbrev pub same_call : TreeCall → TreeCall → Bool
same_call Kind Kind = true
same_call Read Read = true
same_call Create Create = true
same_call Append Append = true
same_call Remove Remove = true
same_call Names Names = true
same_call _ _ = false

-- the next call of this variant is among those that fail
abbrev pub is_listed : TreeInMemory → TreeCall → Bool
is_listed tree call = list_any (λ e. same_call e.0 call && e.1 == call_number call tree.calls) tree.fails

-- some later call is
abbrev pub is_listed_later : TreeInMemory → Bool
is_listed_later tree = list_any (λ e. nat_le (call_number e.0 tree.calls) e.1) tree.fails

-- where no later call is listed, none fails while places and room are there
abbrev pub guaranteed_of : TreeInMemory → Room
guaranteed_of tree = record { files = if is_listed_later tree then 0 else tree.held.free + 1; bytes = tree.held.room }

-- what stands at each path is known, and is exact
abbrev pub state_of : TreeInMemory → TreeState
state_of tree = record {
  contents = Some tree.held.nodes;
  tally = record { faults = tree.faults; exact = true };
  refused = tree.refused;
  requests = None;
  guaranteed = guaranteed_of tree;
}

-- the tree after a call that failed, and after one that left these places
abbrev pub failed : TreeCall → TreeInMemory → TreeInMemory
failed call tree = record tree { calls = with_call call tree.calls; faults = one_more tree.faults }

abbrev pub call_answered : TreeCall → Places → TreeInMemory → TreeInMemory
call_answered call held tree = record tree { held = held; calls = with_call call tree.calls }

-- a call fails where something is lacking for it, or it is listed: what it answers, and the tree after it
abbrev pub answer_of : {A : Type 0} → TreeCall → TreeInMemory → Bool → A → Result A Failed
answer_of call tree lacking answer = if lacking || is_listed tree call then Err (record {}) else Ok answer

abbrev pub after : TreeCall → TreeInMemory → Bool → Places → TreeInMemory
after call tree lacking held = if lacking || is_listed tree call then failed call tree else call_answered call held tree

-- how many bytes `read` puts into a buffer: as many as there are and fit
abbrev pub read_count : Nodes → List ℕ → ℕ → List ℕ → ℕ
read_count nodes path from into = min (length into) (length (file_bytes_from nodes path from))

-- the buffer after `read`
abbrev pub read_into : Nodes → List ℕ → ℕ → List ℕ → List ℕ
read_into nodes path from into =
    take (read_count nodes path from into) (file_bytes_from nodes path from) ++ drop (read_count nodes path from into) into

-- `create` wants a place for a file that it makes
abbrev pub lacks_place : Places → List ℕ → Bool
lacks_place held path = held.free == 0 && makes_file held.nodes path

abbrev pub created : Places → List ℕ → Places
created held path = record held { nodes = with_created path held.nodes; free = held.free - new_files held.nodes path }

-- where it makes none it refused that file
abbrev pub after_create : TreeInMemory → List ℕ → TreeInMemory
after_create tree path =
    if lacks_place tree.held path || is_listed tree Create then failed Create tree
    else if can_create tree.held.nodes path then call_answered Create (created tree.held path) tree
    else record (call_answered Create (created tree.held path) tree) { refused = refused_also (Some path) tree.refused }

-- how many bytes of a piece `append` takes: as many as the room has
abbrev pub fitting : Places → List ℕ → List ℕ → ℕ
fitting held path piece = min (length piece) (held.room - length (file_bytes_at held.nodes path))

-- `append` wants room for a byte, unless the piece is empty
abbrev pub lacks_room : Places → List ℕ → List ℕ → Bool
lacks_room held path piece = nat_lt 0 (length piece) && nat_le held.room (length (file_bytes_at held.nodes path))

abbrev pub appended : Places → List ℕ → List ℕ → Places
appended held path piece = record held { nodes = with_appended path (take (fitting held path piece) piece) held.nodes }

-- `remove` frees the place of a file
abbrev pub removed : Places → List ℕ → Places
removed held path =
    record held { nodes = with_removed path held.nodes; free = if is_some (file_at held.nodes path) then held.free + 1 else held.free }

-- a file has no more bytes than the room, and a folder none
abbrev pub fits : ℕ → StoredNode → Bool
fits room node = if node.folder then length node.bytes.list == 0 else nat_le (length node.bytes.list) room

-- the entry's path stands once, its parent is there as a folder, and its node fits
abbrev pub is_sound : List (List ℕ × StoredNode) → ℕ → List ℕ × StoredNode → Bool
is_sound nodes room entry =
    (count_by (λ e. bytes_eq e.0 entry.0) nodes == 1) && has_parent (nodes_of nodes) entry.0 && fits room entry.1

-- a tree in memory can hold these nodes, with this room in each file
abbrev pub can_hold : List (List ℕ × StoredNode) → ℕ → Bool
can_hold nodes room = list_all (is_sound nodes room) nodes

-- codes, by which proofs tell values apart
abbrev pub call_to : TreeCall → ℕ
call_to Kind = 0
call_to Read = 1
call_to Create = 2
call_to Append = 3
call_to Remove = 4
call_to Names = 5

abbrev pub call_from : ℕ → TreeCall
call_from zero = Kind
call_from (suc zero) = Read
call_from (suc (suc zero)) = Create
call_from (suc (suc (suc zero))) = Append
call_from (suc (suc (suc (suc zero)))) = Remove
call_from (suc (suc (suc (suc (suc n))))) = Names

pub call_back : (call : TreeCall) → call_from (call_to call) ≡ call
call_back Kind = refl
call_back Read = refl
call_back Create = refl
call_back Append = refl
call_back Remove = refl
call_back Names = refl

abbrev pub call_code : Coded TreeCall
call_code = code_by ℕ coded_ℕ call_to call_from call_back

abbrev pub calls_code : Coded Calls
calls_code =
    code_by (ℕ × (ℕ × (ℕ × (ℕ × (ℕ × ℕ)))))
    (coded× coded_ℕ (coded× coded_ℕ (coded× coded_ℕ (coded× coded_ℕ (coded× coded_ℕ coded_ℕ)))))
    (λ c. (c.kind, (c.read, (c.create, (c.append, (c.remove, c.names))))))
    (λ p. record { kind = p.0; read = p.1.0; create = p.1.1.0; append = p.1.1.1.0; remove = p.1.1.1.1.0; names = p.1.1.1.1.1 })
    (λ _. refl)

abbrev pub tree_code : Coded TreeInMemory
tree_code =
    code_by (Places × (List (TreeCall × ℕ) × (Calls × (ℕ × (ℕ × Option (List ℕ))))))
    (coded× places_code (coded× (coded_list (coded× call_code coded_ℕ))
    (coded× calls_code (coded× coded_ℕ (coded× coded_ℕ (coded_option (coded_list coded_ℕ)))))))
    (λ t. (t.held, (t.fails, (t.calls, (t.faults, (t.refused.count, t.refused.last))))))
    (λ p. record {
      held = p.0;
      fails = p.1.0;
      calls = p.1.1.0;
      faults = p.1.1.1.0;
      refused = record { count = p.1.1.1.1.0; last = p.1.1.1.1.1 };
    })
    (λ _. refl)
