-- The bytes at an address, by the words that cover it or are laid there, and references that get their target.
use Rattle.tal_rom.proofs.Common.{◌≡◌, ℕ, ◌+◌, ◌<◌, ◌≤◌, Bool, true, false, not, ◌&&◌, List, [], ◌∷◌, ◌++◌, length, get_or, map, Option, Some, None}
use Rattle.tal_rom.proofs.Common.{cond, find, refl, ◌∙◌, arith, slice_set, fold, unwrap_or, AllByRecursion, filter, list_any, list_all, nat_tests}
use Rattle.tal_rom.proofs.Common.{map-append, length-set, get_or-set_other, Refer, Rune, size, reaches, all_joined, length-encoded, Hole, Piece}
use Rattle.tal_rom.proofs.Common.{covers, byte_of_piece, overlaid, filled_hole, Added, waits, is_far, known_piece, added_span, IsAbove, IsBelow}
use Rattle.tal_rom.proofs.Common.{AreAscending, find-append}
use Rattle.std.proofs.lemmas.Grind.{get_or-set_at, get_or_head, get_or_tail}
use Rattle.tal_rom.proofs.Checking.{some_bytes}

-- a word covers the addresses of its bytes, and none before or past them
pub covers-true : (address : ℕ) (piece : Piece) → covers address piece ≡ true
    → (piece.address ≤ address) × (address < piece.address + length piece.bytes)
covers-true address piece e = grind (arith, nat_tests)

pub covers-before : (address : ℕ) (piece : Piece) → address < piece.address → covers address piece ≡ false
covers-before address piece before = grind (arith, nat_tests)

pub covers-past : (address : ℕ) (piece : Piece) → (0 < length piece.bytes → piece.address + length piece.bytes ≤ address)
    → covers address piece ≡ false
covers-past address piece past = grind (arith, nat_tests)

-- the byte at an address where a word lies over what stood there
abbrev pub read_over : ℕ → Piece → ℕ → ℕ
read_over address piece value = cond (covers address piece) (byte_of_piece address (Some piece)) value

abbrev pub read_of : ℕ → List Piece → ℕ
read_of address pieces = byte_of_piece address (find (covers address) pieces)

pub read_first : (address : ℕ) (piece : Piece) (pieces : List Piece)
    → read_of address (piece ∷ pieces) ≡ read_over address piece (read_of address pieces)
read_first address piece pieces = grind arith

-- with one word more, which covers no address that one before it covers
pub more_over : (pieces : List Piece) (piece : Piece) (address value : ℕ) → value ≡ read_of address pieces
    → (covers address piece ≡ true → find (covers address) pieces ≡ None) → read_over address piece value ≡ read_of address (pieces ++ piece ∷ [])
more_over pieces piece address value e none = rw (find-append (covers address) pieces (piece ∷ [])) (grind arith)

pub length-overlaid : (memory : List ℕ) (at : ℕ) (bytes : List ℕ) → length (overlaid memory at bytes) ≡ length memory
length-overlaid memory at [] = refl
length-overlaid memory at (byte ∷ bytes) = length-overlaid (slice_set memory at byte) (at + 1) bytes ∙ length-set memory at byte

-- what is read at an index is a byte that was laid there, or what stood there
one_laid : (memory : List ℕ) (at byte : ℕ) (bytes : List ℕ) (i : ℕ) → i < length memory
    → read_over i (record { address = at + 1; bytes = bytes }) (get_or (slice_set memory at byte) i 0)
    ≡ read_over i (record { address = at; bytes = byte ∷ bytes }) (get_or memory i 0)
one_laid memory at byte bytes i within = grind (arith, nat_tests, get_or-set_at, get_or-set_other, get_or_head, get_or_tail)

overlaid-read : (memory : List ℕ) (at : ℕ) (bytes : List ℕ) (i : ℕ) → i < length memory
    → get_or (overlaid memory at bytes) i 0 ≡ read_over i (record { address = at; bytes = bytes }) (get_or memory i 0)
overlaid-read memory at [] i within = grind (arith, nat_tests)
overlaid-read memory at (byte ∷ bytes) i within =
    overlaid-read (slice_set memory at byte) (at + 1) bytes i (omega (arith, length-set memory at byte)) ∙ one_laid memory at byte bytes i within

-- one byte more
pub overlaid-push : (memory : List ℕ) (at : ℕ) (bytes : List ℕ) (byte : ℕ)
    → overlaid memory at (bytes ++ byte ∷ []) ≡ slice_set (overlaid memory at bytes) (at + length bytes) byte
overlaid-push memory at [] byte = (let here : at + 0 ≡ at = omega arith in rw here refl)
overlaid-push memory at (first ∷ bytes) byte = grind (arith, overlaid-push (slice_set memory at first) (at + 1) bytes byte)

abbrev pub reference : Rune → List ℕ → ℕ → Option ℕ → Added
reference rune text address target = record { form = Refer rune; text = text; address = address; target = target }

-- words that stay as they are, and references that get their target, with the holes of these
pub data Settles (target : ℕ) : List Added → List Added → List Hole → Type 0 where
  nothing : Settles target [] [] []
  stays : {old new : List Added} {holes : List Hole} (word : Added) → Settles target old new holes → Settles target (word ∷ old) (word ∷ new) holes
  fills : {old new : List Added} {holes : List Hole} (rune : Rune) (text : List ℕ) (address : ℕ) → Settles target old new holes → Settles target
      (reference rune text address None ∷ old) (reference rune text address (Some target) ∷ new) (record { rune = rune; address = address } ∷ holes)

-- memory at an address, by the bytes that are known
abbrev pub read_at : List Added → ℕ → ℕ
read_at words at = read_of at (map known_piece words)

short_piece : (word : Added) → length (known_piece word).bytes ≤ size word.form word.text
short_piece word = grind (arith, length-encoded word.form word.text word.address (unwrap_or word.target 0))

module _ (target : ℕ) where
  -- fewer words wait, and those that got their target have to fit
  pub fewer_wait : {old new : List Added} {holes : List Hole} → Settles target old new holes
      → length (filter waits old) ≡ length (filter waits new) + length holes
  fewer_wait nothing = refl
  fewer_wait (stays word rest) = grind (arith, fewer_wait rest)
  fewer_wait (fills rune text address rest) = omega (arith, fewer_wait rest)

  pub fit_too : {old new : List Added} {holes : List Hole} → Settles target old new holes
      → not (list_any is_far new) ≡ (not (list_any is_far old) && list_all (λ hole. reaches hole.rune hole.address target) holes)
  fit_too nothing = refl
  fit_too (stays word rest) = grind (arith, fit_too rest)
  fit_too (fills rune text address rest) = grind (arith, fit_too rest)

  -- the bytes that are put into a hole are those of the reference with its target
  pub hole_filled : (rune : Rune) (text : List ℕ) (address : ℕ) (memory : List ℕ)
      → filled_hole target memory (record { rune = rune; address = address })
      ≡ overlaid memory address (known_piece (reference rune text address (Some target))).bytes
  hole_filled rune text address memory = grind arith

  -- memory at an address once holes are filled
  abbrev filled : List Hole → List ℕ → ℕ → ℕ
  filled holes memory at = get_or (fold (filled_hole target) memory holes) at 0

  -- words above it leave it
  stays_filled : (at low : ℕ) {old new : List Added} {holes : List Hole} → Settles target old new holes → (memory : List ℕ) → at < low
      → at < length memory
      → AllByRecursion (IsAbove low) (map added_span old) → filled holes memory at ≡ get_or memory at 0
  stays_filled at low nothing memory below within above = refl
  stays_filled at low (stays word rest) memory below within above = stays_filled at low rest memory below within above.1
  stays_filled at low (fills rune text address rest) memory below within above =
      let piece : Piece = known_piece (reference rune text address (Some target)) in
      let none = covers-before at piece (omega (arith, above.0 (some_bytes rune))) in
      let long = length-overlaid memory address piece.bytes in
      rw (hole_filled rune text address memory)
      (stays_filled at low rest (overlaid memory address piece.bytes) below (omega (arith, within, long)) above.1
      ∙ overlaid-read memory address piece.bytes at within ∙ rw none refl)

  -- it is read from the first word, which covers it, or from the others
  first_filled : (at : ℕ) {old new : List Added} {holes : List Hole} → Settles target old new holes
      → (word : Added) (memory : List ℕ) (covered : Bool)
      → (0 < size word.form word.text → AllByRecursion (IsAbove (word.address + size word.form word.text)) (map added_span old))
      → at < length memory → covers at (known_piece word) ≡ covered → (get_or memory at 0 ≡ read_at old at → filled holes memory at ≡ read_at new at)
      → get_or memory at 0 ≡ cond covered (byte_of_piece at (Some (known_piece word))) (read_at old at)
      → filled holes memory at ≡ cond covered (byte_of_piece at (Some (known_piece word))) (read_at new at)
  first_filled at rest word memory true above within c later e =
      let bounds = covers-true at (known_piece word) c in
      let short = short_piece word in
      stays_filled at (word.address + size word.form word.text) rest memory (omega arith) within (above (omega arith)) ∙ e
  first_filled at rest word memory false above within c later e = later e

  pub filled_read : (at : ℕ) {old new : List Added} {holes : List Hole} → Settles target old new holes → (memory : List ℕ)
      → AreAscending (map added_span old)
      → at < length memory → get_or memory at 0 ≡ read_at old at → filled holes memory at ≡ read_at new at
  filled_read at nothing memory above within e = e
  filled_read at (stays word rest) memory above within e =
      let first = rw (read_first at (known_piece word)) at e in
      rw (read_first at (known_piece word)) (first_filled at rest word memory _ above.0 within refl (filled_read at rest memory above.1 within) first)
  filled_read at (fills rune text address rest) memory above within e =
      let word : Added = reference rune text address (Some target) in
      let more : List ℕ = overlaid memory address (known_piece word).bytes in
      let long : at < length more = omega (arith, within, length-overlaid memory address (known_piece word).bytes) in
      let none = covers-past at (record { address = address; bytes = [] }) (λ some. omega arith) in
      let first = rw (rw none at e) at (overlaid-read memory address (known_piece word).bytes at within) in
      rw (hole_filled rune text address memory, read_first at (known_piece word))
      (first_filled at rest word more _ above.0 long refl (filled_read at rest more above.1 long) first)

-- one word more behind the others
pub ascending_push : (spans : List (ℕ × ℕ)) (span : ℕ × ℕ) → AreAscending spans → (0 < span.1 → AllByRecursion (IsBelow span.0) spans)
    → AreAscending (spans ++ span ∷ [])
ascending_push [] span above below = (λ some. tt, tt)
ascending_push (first ∷ spans) span above below = (
  λ some. all_joined (IsAbove (first.0 + first.1)) spans (span ∷ []) (above.0 some) (λ more. (below more).0 some, tt),
  ascending_push spans span above.1 (λ more. (below more).1),
)

none_below : (at place : ℕ) (words : List Added) → place ≤ at → AllByRecursion (IsBelow place) (map added_span words)
    → find (covers at) (map known_piece words) ≡ None
none_below at place [] h below = refl
none_below at place (word ∷ words) h below =
    let short = short_piece word in
    let none = covers-past at (known_piece word) (λ some. (let end = below.0 (omega arith) in omega arith)) in
    rw none (none_below at place words h below.1)

pub pushed_read : (at : ℕ) (words : List Added) (word : Added) (memory : List ℕ)
    → (0 < size word.form word.text → AllByRecursion (IsBelow word.address) (map added_span words)) → at < length memory
    → get_or memory at 0 ≡ read_at words at
    → get_or (overlaid memory word.address (known_piece word).bytes) at 0 ≡ read_at (words ++ word ∷ []) at
pushed_read at words word memory below within e =
    let short = short_piece word in
    let none : covers at (known_piece word) ≡ true → find (covers at) (map known_piece words) ≡ None =
    λ c. (let bounds = covers-true at (known_piece word) c in none_below at word.address words bounds.0 (below (omega arith))) in
    rw (map-append known_piece words (word ∷ []))
    (overlaid-read memory word.address (known_piece word).bytes at within
    ∙ more_over (map known_piece words) (known_piece word) at (get_or memory at 0) e none)
