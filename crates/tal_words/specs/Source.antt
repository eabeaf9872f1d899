-- How a source is cut into tokens (Uxntal syntax reference).
use Rattle.std.specs.Prelude.{ℕ, zero, suc, ◌+◌, ◌-◌, Bool, true, false, not, ◌&&◌, ◌||◌, ◌==◌, nat_lt}
use Rattle.std.specs.Prelude.{if◌then◌else◌, List, [], ◌∷◌, ◌++◌, length, take, drop, slice_index}
use Rattle.std.specs.List.{prefix_len, count_by}
use Rattle.tal_words.specs.declared.span.Span.{Span}
use Rattle.tal_words.specs.declared.span.Word.{Word}
use Rattle.tal_words.specs.declared.span.Expanded.{Expanded}

-- a byte that parts tokens is a space or below
abbrev pub is_blank : ℕ → Bool
is_blank byte = nat_lt byte 33

abbrev pub is_newline : ℕ → Bool
is_newline byte = byte == 10

-- the text begins with this byte
abbrev pub begins : ℕ → List ℕ → Bool
begins byte [] = false
begins byte (first ∷ rest) = first == byte

-- the text is this byte alone
abbrev pub is_only : ℕ → List ℕ → Bool
is_only byte [] = false
is_only byte (first ∷ []) = first == byte
is_only byte (first ∷ second ∷ rest) = false

-- the bytes of the source that a span covers
abbrev pub bytes_at : List ℕ → Span → List ℕ
bytes_at source span = take (span.end - span.start) (drop span.start source)

-- the bytes of a word, and those of a word of the expanded list
abbrev pub word_text : List ℕ → Word → List ℕ
word_text source word = bytes_at source word.span

abbrev pub expanded_text : List ℕ → Expanded → List ℕ
expanded_text source word = bytes_at source word.text

-- a line begins after each newline, and the lines count from 1
unfoldable pub line_at : List ℕ → ℕ → ℕ
line_at source at = 1 + count_by is_newline (take at source)

-- column 1 stands at the start of a line, and each byte adds one
unfoldable pub column_at : List ℕ → ℕ → ℕ
column_at source zero = 1
column_at source (suc at) = if is_newline (slice_index source at) then 1 else column_at source at + 1

-- how many bytes stand from an offset up to the next blank, or up to the end
abbrev pub run_length : List ℕ → ℕ → ℕ
run_length source at = prefix_len (λ byte. not (is_blank byte)) (drop at source)

-- these bytes
abbrev pub bytes_run_at : List ℕ → ℕ → List ℕ
bytes_run_at source at = take (run_length source at) (drop at source)

-- an offset is the start of the source, or stands after a blank
abbrev pub is_after_blank : List ℕ → ℕ → Bool
is_after_blank source zero = true
is_after_blank source (suc before) = is_blank (slice_index source before)

-- no token goes on at an offset: it is the start or the end of the source, or a blank stands before or at it
abbrev pub is_between : List ℕ → ℕ → Bool
is_between source at = is_after_blank source at || is_blank (slice_index source at)

-- a token begins at a byte that is no blank, at the start of the source or after a blank
abbrev pub begins_token : List ℕ → ℕ → Bool
begins_token source at = is_after_blank source at && not (is_blank (slice_index source at))

-- the token that begins at an offset reaches up to the next blank
unfoldable pub token_at : List ℕ → ℕ → Word
token_at source at = record {
  span = record { start = at; end = at + run_length source at };
  line = line_at source at;
  column = column_at source at;
}

-- the tokens that begin below an offset, in order
unfoldable pub tokens_below : List ℕ → ℕ → List Word
tokens_below source zero = []
tokens_below source (suc at) = tokens_below source at ++ (if begins_token source at then token_at source at ∷ [] else [])

-- all tokens of a source
unfoldable pub tokens_of : List ℕ → List Word
tokens_of source = tokens_below source (length source)
