-- Laws of memory: an action changes no other bytes than those that a stat or a read puts there.
use Rattle.std.specs.Prelude.{◌≡◌, ◌≢◌, ℕ, zero, suc, ◌+◌, ◌-◌, ◌/◌, ◌^◌, ◌<◌}
use Rattle.std.specs.Prelude.{◌≤◌, min, nat_lt, true, false, List, [], ◌++◌}
use Rattle.std.specs.Prelude.{take, drop, length, replicate, Option, Some, None, slice_index, refl}
use Rattle.std.proofs.Common.{cond, ap, ◌∙◌, arith, inl, inr}
use Rattle.std.proofs.lemmas.Bool.{cases_Bool, cases_lt}
use Rattle.std.proofs.lemmas.List.{append-nil, get_or-drop, get_or-take, get_or_append_left, get_or-append_right, length-append, length-drop}
use Rattle.std.proofs.lemmas.List.{length-replicate, length-take, length-take-le, nil_from_length, take-append-drop}
use Rattle.uxn_io_traits.specs.declared.trees.Kind.{Kind}
use Rattle.uxn_io_traits.specs.declared.trees.Kind.TheVariants.{Missing, File, Folder}
use Rattle.uxn_memory.specs.Bytes.{bank0, with_bytes}
use Rattle.file_ports.specs.declared.mode.Mode.{Mode}
use Rattle.file_ports.specs.declared.mode.Mode.TheVariants.{Idle, ReadingFile, ReadingListing, Writing}
use Rattle.file_ports.specs.Signs.{signs, hex_digits}
use Rattle.file_ports.specs.Place.{last_place, bytes_on}
use Rattle.file_ports.specs.Device.{FileState, is_writing}
use Rattle.file_ports.specs.Actions.{FileAction, Name, Read, Write, Stat, Delete, Observed, given, reading, is_file, begun, adds, count_from}
use Rattle.file_ports.specs.Actions.{acts}

-- the places of memory that an action may change: so many from an address on
abbrev pub places_touched : FileAction → ℕ × ℕ
places_touched (Read at length) = (at, count_from at length)
places_touched (Stat at length) = (at, count_from at length)
places_touched _ = (0, 0)

-- memory changes at no other place, and keeps its size
pub record ChangesAt (places : ℕ × ℕ) (before after : List ℕ) : Type 0 where
  pub size : length after ≡ length before
  pub same : (place : ℕ) → ((k : ℕ) → k < places.1 → place ≢ places.0 + k) → slice_index after place ≡ slice_index before place

stays : (places : ℕ × ℕ) (memory : List ℕ) → ChangesAt places memory memory
stays places memory = record { size = refl; same = λ place out. refl }

-- the parts of memory once bytes were put there
record HasParts (memory : List ℕ) (first : ℕ) (bytes : List ℕ) : Type 0 where
  front : length (take first memory) ≡ first
  both : length (take first memory ++ bytes) ≡ first + length bytes
  whole : length (with_bytes memory first bytes) ≡ length memory

parts : (memory : List ℕ) (first : ℕ) (bytes : List ℕ) → first + length bytes ≤ length memory → HasParts memory first bytes
parts memory first bytes fits =
    let front : length (take first memory) ≡ first = length-take-le first memory (omega arith) in
    let both : length (take first memory ++ bytes) ≡ first + length bytes =
    length-append (take first memory) bytes ∙ ap (λ n. n + length bytes) front in
    record {
      front = front;
      both = both;
      whole = omega (
        arith,
        length-append (take first memory ++ bytes) (drop (first + length bytes) memory),
        both,
        length-drop (first + length bytes) memory,
      );
    }

put-all : (memory : List ℕ) (first count : ℕ) (bytes : List ℕ) → first + length bytes ≤ length memory → length bytes ≤ count
    → ChangesAt (first, count) memory (with_bytes memory first bytes)
put-all memory first count bytes fits few =
    let has = parts memory first bytes fits in
    let front = take first memory in
    let rest = drop (first + length bytes) memory in
    record {
      size = has.whole;
      same = λ place out. elim (cases_lt place first) [
        | inl before ↦
            get_or_append_left (front ++ bytes) rest 0 place (omega (arith, has.both))
            ∙ get_or_append_left front bytes 0 place (omega (arith, has.front)) ∙ get_or-take first memory place 0 before
        | inr not ↦ elim (cases_lt place (first + length bytes)) [
          | inl within ↦ absurd (out (place - first) (omega arith) (omega arith))
          | inr behind ↦
              let far : first + length bytes + (place - (first + length bytes)) ≡ place = omega arith in
              get_or-append_right (front ++ bytes) rest (first + length bytes) place 0 has.both behind
              ∙ get_or-drop (first + length bytes) memory (place - (first + length bytes)) 0 ∙ ap (λ n. slice_index memory n) far
        ]
      ];
    }

-- bytes put into bank 0, as many as are meant
put-changes : (memory : List ℕ) (first room : ℕ) (bytes : List ℕ) → 65536 ≤ length memory → length bytes ≤ count_from first room
    → ChangesAt (first, count_from first room) memory (with_bytes memory first bytes)
put-changes memory first room bytes size few = elim (cases_lt first 65536) [
  | inl low ↦ put-all memory first (count_from first room) bytes (omega arith) few
  | inr high ↦
      let none : bytes ≡ [] = nil_from_length bytes (omega arith) in
      let same : with_bytes memory first [] ≡ memory =
      ap (λ (z : List ℕ). z ++ drop (first + 0) memory) (append-nil (take first memory))
      ∙ ap (λ n. take first memory ++ drop n memory) (omega arith) ∙ take-append-drop first memory in
      rw (none, same) (stays (first, count_from first room) memory)
]

-- a stat gives as many signs as are meant
length-digits : (count value : ℕ) → length (hex_digits count value) ≡ count
unfolding hex_digits
length-digits zero value = refl
length-digits (suc count) value =
    length-append (hex_digits count (value / 16)) _ ∙ ap (λ n. n + 1) (length-digits count (value / 16)) ∙ omega arith

length-signs : (count : ℕ) (kind : Kind) → length (signs count kind) ≡ count
unfolding signs
length-signs count Missing = length-replicate count 33
length-signs count (File size) =
    elim (nat_lt size (16 ^ count)) as (λ b. length (cond b (hex_digits count size) (replicate count 63)) ≡ count)
    [ true ↦ length-digits count size | false ↦ length-replicate count 63 ]
length-signs count Folder = length-replicate count 45

-- and a read no more bytes
length-on : (bytes : List ℕ) (place count : ℕ) → length (bytes_on bytes place count) ≤ count
length-on bytes place count = omega (arith, length-take (min count (last_place - place)) (drop place bytes))

length-given : (mode : Mode) (observed : Observed) (count : ℕ) → length (given mode observed count) ≤ count
length-given Idle observed count = omega arith
length-given (ReadingFile place) observed count = length-on observed.bytes place count
length-given (ReadingListing place listing) observed count = length-on listing place count
length-given Writing observed count = omega arith

pub acts-change : (action : FileAction) (root : Option (List ℕ)) (device : FileState) (memory : List ℕ) (observed : Option Observed)
    → 65536 ≤ length memory → ChangesAt (places_touched action) memory (acts action root device memory observed).memory
acts-change (Name at) root device memory observed size = stays (0, 0) memory
acts-change (Read at room) root device memory None size = stays (at, count_from at room) memory
acts-change (Read at room) root device memory (Some seen) size =
    let piece = given (reading device.mode seen) seen (count_from at room) in
    put-changes memory at room piece size (length-given (reading device.mode seen) seen (count_from at room))
acts-change (Write at room keep) root device memory None size = stays (0, 0) memory
acts-change (Write at room keep) root device memory (Some seen) size =
    elim (begun (is_writing device.mode) keep seen)
    as (λ first. ChangesAt (0, 0) memory (adds seen.path memory (take (count_from at room) (drop at (bank0 memory))) first).memory)
    [ None ↦ stays (0, 0) memory | Some first ↦ stays (0, 0) memory ]
acts-change (Stat at room) root device memory None size =
    put-changes memory at room (signs (count_from at room) Missing) size (omega (arith, length-signs (count_from at room) Missing))
acts-change (Stat at room) root device memory (Some seen) size =
    put-changes memory at room (signs (count_from at room) seen.kind) size (omega (arith, length-signs (count_from at room) seen.kind))
acts-change Delete root device memory None size = stays (0, 0) memory
acts-change Delete root device memory (Some seen) size =
    elim (cases_Bool (is_file seen.kind)) [ inl there ↦ rw there (stays (0, 0) memory) | inr gone ↦ rw gone (stays (0, 0) memory) ]
