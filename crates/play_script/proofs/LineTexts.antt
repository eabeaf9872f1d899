-- How lines are put together from their words.
use Rattle.std.proofs.Common.{◌≡◌, ℕ, ◌<◌, List, [], ◌∷◌, ◌++◌, length, append_assoc, append-nil, map, refl, sym, ap, arith}
use Rattle.std.specs.Prelude.{codes}
use Rattle.std.specs.List.{flat_map, join_with_byte}
use Rattle.std.proofs.lemmas.Simd.{map-map}
use Rattle.std.proofs.lemmas.List.Concat.{flat_map-append}
use Rattle.std.proofs.lemmas.List.Folds.{flat_map-map}
use Rattle.uxn_io_traits.specs.ByteList.{ByteList}
use Rattle.text_lines.specs.ScriptHeld.{bytes_in}
use Rattle.text_lines.specs.declared.values.Value.{Value}
use Rattle.play_script.specs.PlainText.{line_text, text_word, argument_words, clock_words, event_words, value_word, version_words, plain_lines, plain_text}
use Rattle.text_lines.specs.Scripts.{ScriptView}

-- words with a space before each but the first
spaced : (first : List ℕ) (words : List (List ℕ)) → join_with_byte 32 (first ∷ words) ≡ first ++ flat_map (λ word. 32 ∷ word) words
spaced first [] = sym (append-nil first)
spaced first (word ∷ words) = ap (λ more. first ++ 32 ∷ more) (spaced word words)

-- a line that is put word by word
pub put_words : {A : Type 0} (word_of : A → List ℕ) (text name : List ℕ) (values : List A)
    → ((text ++ name) ++ flat_map (λ value. 32 ∷ word_of value) values) ++ (10 ∷ []) ≡ text ++ line_text (name ∷ map word_of values)
put_words word_of text name values =
    rw (spaced name (map word_of values), flat_map-map (λ word. 32 ∷ word) word_of values) (simp append_assoc refl)

pub put_values : (text name : List ℕ) (values : List Value)
    → ((text ++ name) ++ flat_map (λ value. 32 ∷ value_word value) values) ++ (10 ∷ []) ≡ text ++ line_text (name ∷ map value_word values)
put_values = put_words value_word

pub put_arguments : (text : List ℕ) (held : List ByteList) → 0 < length held
    → ((text ++ codes "args") ++ flat_map (λ each. 32 ∷ text_word each.list) held) ++ (10 ∷ []) ≡ text ++ flat_map line_text (argument_words (bytes_in held))
put_arguments text [] some = absurd (omega arith)
put_arguments text (first ∷ more) some =
    rw (append-nil (line_text (codes "args" ∷ map text_word (bytes_in (first ∷ more)))), map-map text_word (λ (t : ByteList). t.list) more)
    (put_words (λ (t : ByteList). text_word t.list) text (codes "args") (first ∷ more))

-- the whole text by its parts
pub plain_parts : (script : ScriptView)
    → ((flat_map line_text (version_words script.version) ++ line_text (clock_words script.clock)) ++ flat_map line_text (argument_words script.arguments)) ++ flat_map (λ given. line_text (event_words given)) script.events ≡ plain_text script
unfolding plain_text plain_lines
plain_parts script = simp (append_assoc, flat_map-append, flat_map-map) refl
