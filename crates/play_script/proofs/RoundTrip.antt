-- A printed script is read back.
use Rattle.std.proofs.lemmas.Grind.{common_steps}
use Rattle.std.proofs.Common.{◌≡◌, ℕ, ◌+◌, ◌<◌, ◌≤◌, Bool, true, false, eqb, ltb, leb, ℤ, pos, negsuc, neg_ℤ, ◌≤ℤ◌, List, [], ◌∷◌, ◌++◌, length, map}
use Rattle.std.proofs.Common.{Option, Some, None, Ok, append_assoc, append-nil, refl, sym, ap, ◌∙◌, arith}
use Rattle.std.specs.Prelude.{codes, decimal}
use Rattle.std.specs.Fmt.{signed_decimal}
use Rattle.std.specs.List.{All, list_all, flat_map, join_with_byte}
use Rattle.std.specs.Option.{option_map, option_zip}
use Rattle.std.proofs.lemmas.Bool.{and_from, and_parts, ltb-true}
use Rattle.std.proofs.lemmas.List.{length-append}
use Rattle.std.proofs.lemmas.List.Concat.{flat_map-append}
use Rattle.std.proofs.lemmas.List.Elements.{All-head, All-tail}
use Rattle.std.proofs.lemmas.List.Folds.{list_all-append}
use Rattle.std.proofs.lemmas.List.Splits.{slice_split_at}
use Rattle.uxn_limits.specs.declared.limits.TheConstants.{TEXT_LIMIT, MOST_EVENTS, LAST_SECOND, LAST_OFFSET}
use Rattle.hex.specs.Hex.{encode_lower}
use Rattle.text_lines.specs.Lines.{is_blank, is_newline, lines_of, words_of}
use Rattle.text_lines.specs.Numbers.{number_within, integer_within}
use Rattle.text_lines.specs.Reading.{Line, given, made, each_line}
use Rattle.text_lines.proofs.Cutting.{no_words, after_blank, prefix_word, not_lt}
use Rattle.input_ports.specs.declared.Input.TheVariants.{Key, Down, Up, Mouse, Press, Release, Scroll, DownOf, UpOf}
use Rattle.text_lines.specs.declared.script.Clock.{Clock}
use Rattle.text_lines.specs.declared.script.Event.{Event}
use Rattle.text_lines.specs.declared.script.Event.TheVariants.{Input, EndInput, Frame, Device, Shot, Expect}
use Rattle.text_lines.specs.declared.script.ScriptKind.{ScriptKind}
use Rattle.text_lines.specs.declared.script.Version.{Version}
use Rattle.text_lines.specs.declared.script.Version.TheVariants.{First, Second}
use Rattle.text_lines.specs.ScriptLimits.{IsEvent, IsScript, IsTime}
use Rattle.play_script.specs.PlainText.{text_word, value_word, event_words, clock_values, clock_words, argument_words, plain_lines}
use Rattle.play_script.specs.PlainText.{line_text, plain_text}
use Rattle.text_lines.specs.ScriptRows.{Meaning, version, clock, arguments, event, rows_of, device_of, events_of_line, script_meaning_of, version_of}
use Rattle.text_lines.specs.ScriptRows.{clock_of_values, keys_of, expect_of, buttons_of, mouse_buttons_of, mouse_of, scroll_of, script_line_of}
use Rattle.text_lines.specs.PlainEvents.{plain_event}
use Rattle.text_lines.specs.Scripts.{ScriptView, script_with, arguments_in, events_in, script_fault, script_from, script_of, version_at, version_in}
use Rattle.text_lines.specs.ScriptValues.{texts_of_values, one_or}
use Rattle.text_lines.specs.Named.{value_named}
use Rattle.text_lines.specs.Rows.{keyword_of}
use Rattle.play_script.proofs.PrintedWords.{is_plain, weaker, number_back, integer_back, pairs_back, text_back, plain_text_word, one_byte, byte_back}
use Rattle.play_script.proofs.PrintedWords.{button_back, mouse_button_back, plain_values}
use Rattle.text_lines.proofs.ScriptStepping.{script_by, short_script}
use Rattle.text_lines.proofs.Versions.{lift}
use borrow.Author.Differences.{le_out}

-- lines of plain words
abbrev are_plain : List (List ℕ) → Bool
are_plain words = list_all is_plain words

no_blanks : (word : List ℕ) → is_plain word ≡ true → All (λ byte. is_blank byte ≡ false) word
no_blanks word plain = grind (arith, common_steps)

some_bytes : (word : List ℕ) → is_plain word ≡ true → 0 < length word
some_bytes word plain = ltb-true 0 (length word) (and_parts (ltb 0 (length word)) (list_all (λ byte. ltb 32 byte) word) plain).0

-- the words of a line are read back
pub joined_words : (words : List (List ℕ)) → are_plain words ≡ true → words_of (join_with_byte 32 words) ≡ words
joined_words [] plain = no_words
joined_words (word ∷ []) plain =
    let here = (and_parts (is_plain word) true plain).0 in
    ap words_of (sym (append-nil word)) ∙ prefix_word word [] (some_bytes word here) (no_blanks word here) (λ more. absurd (omega arith)) ∙ ap (λ none. word ∷ none) no_words
joined_words (word ∷ next ∷ words) plain =
    let parts = and_parts (is_plain word) (are_plain (next ∷ words)) plain in
    prefix_word word (32 ∷ join_with_byte 32 (next ∷ words)) (some_bytes word parts.0) (no_blanks word parts.0) (λ more. refl)
    ∙ ap (λ rest. word ∷ rest) (after_blank 32 (join_with_byte 32 (next ∷ words)) refl ∙ joined_words (next ∷ words) parts.1)

-- they part no lines
high_word : (word : List ℕ) → is_plain word ≡ true → list_all (λ byte. leb 32 byte) word ≡ true
high_word word plain = grind (arith, common_steps, and_parts, weaker)

high_bytes : (words : List (List ℕ)) → are_plain words ≡ true → list_all (λ byte. leb 32 byte) (join_with_byte 32 words) ≡ true
high_bytes [] plain = refl
high_bytes (word ∷ []) plain = high_word word (and_parts (is_plain word) true plain).0
high_bytes (word ∷ next ∷ words) plain =
    let parts = and_parts (is_plain word) (are_plain (next ∷ words)) plain in
    rw (list_all-append (λ byte. leb 32 byte) word (32 ∷ join_with_byte 32 (next ∷ words))) (and_from _ _ (high_word word parts.0) (high_bytes (next ∷ words) parts.1))

no_newlines : (line : List ℕ) → list_all (λ byte. leb 32 byte) line ≡ true → All (λ byte. is_newline byte ≡ false) line
no_newlines line high = grind (arith, common_steps)

-- the lines of a text are read back
cut_line : (line : List (List ℕ)) (lines : List (List (List ℕ))) → are_plain line ≡ true
    → lines_of (flat_map line_text (line ∷ lines)) ≡ join_with_byte 32 line ∷ lines_of (flat_map line_text lines)
cut_line line lines plain = grind (arith, common_steps, append_assoc, high_bytes, no_newlines, slice_split_at)

empty_line : (number : Version) → script_line_of number (words_of []) ∷ [] ≡ Ok None ∷ []
unfolding script_line_of keyword_of words_of
empty_line number = refl

printed_lines : (number : Version) (lines : List (List (List ℕ))) → list_all are_plain lines ≡ true → each_line (script_line_of number) (lines_of (flat_map line_text lines)) ≡ map (script_line_of number) lines ++ Ok None ∷ []
printed_lines number [] plain = empty_line number
printed_lines number (line ∷ lines) plain =
    let parts = and_parts (are_plain line) (list_all are_plain lines) plain in
    ap (each_line (script_line_of number)) (cut_line line lines parts.0)
    ∙ ap (λ words. script_line_of number words ∷ each_line (script_line_of number) (lines_of (flat_map line_text lines))) (joined_words line parts.0)
    ∙ ap (λ more. script_line_of number line ∷ more) (printed_lines number lines parts.1)

-- the line of the clock
seconds_back : (seconds : ℤ) → pos 0 ≤ℤ seconds → seconds ≤ℤ pos LAST_SECOND → option_map pos (number_within 0 LAST_SECOND (signed_decimal seconds)) ≡ Some seconds
seconds_back (pos n) from to = ap (option_map pos) (number_back 0 LAST_SECOND n (omega arith) (omega (arith, le_out, to)) (omega (arith, le_out, to)))
seconds_back (negsuc n) from to = absurd (omega (arith, le_out, from))

with_seconds : (time : Clock) (first : Option ℕ) (second : Option ℤ) → option_map pos first ≡ Some time.seconds → second ≡ Some time.offset
    → option_map (λ both. record { seconds = pos both.0; offset = both.1 }) (option_zip first second) ≡ Some time
with_seconds time None second found other = grind (arith, found)
with_seconds time (Some n) second found other = let is : pos n ≡ time.seconds = grind (arith, found) in rw (other, is) refl

abbrev ReadsScript : Version → List (List ℕ) → Meaning → Type 0
ReadsScript number words m = script_line_of number words ≡ Ok (Some m)

clock_line : (time : Clock) → IsTime time → ReadsScript First (clock_words time) (clock time)
unfolding script_line_of keyword_of rows_of value_named script_meaning_of clock_of_values value_word
clock_line time is =
    rw (with_seconds time (number_within 0 LAST_SECOND (signed_decimal time.seconds)) (integer_within LAST_OFFSET LAST_OFFSET (signed_decimal time.offset)) (seconds_back time.seconds is.seconds_from is.seconds_to)
    (integer_back LAST_OFFSET LAST_OFFSET time.offset (omega arith) (omega arith) is.offset_from is.offset_to)) refl

-- the line of the arguments
abbrev AreBytes : List (List ℕ) → Type 0
AreBytes texts = All (All (λ byte. byte < 256)) texts

texts_back : (texts : List (List ℕ)) → AreBytes texts → texts_of_values (map text_word texts) ≡ Some texts
texts_back [] small = refl
texts_back (text ∷ texts) small =
    rw (text_back text (All-head (All (λ byte. byte < 256)) text texts small), texts_back texts (All-tail (All (λ byte. byte < 256)) text texts small)) refl

args_line : (text : List ℕ) (texts : List (List ℕ)) → AreBytes (text ∷ texts) → ReadsScript First (codes "args" ∷ map text_word (text ∷ texts)) (arguments (text ∷ texts))
unfolding script_line_of keyword_of rows_of value_named script_meaning_of
args_line text texts small =
    rw (not_lt (length (map text_word (text ∷ texts))) 1 (omega arith), text_back text (All-head (All (λ byte. byte < 256)) text texts small), texts_back texts (All-tail (All (λ byte. byte < 256)) text texts small)) refl

plain_texts : (texts : List (List ℕ)) → AreBytes texts → are_plain (map text_word texts) ≡ true
plain_texts [] small = refl
plain_texts (text ∷ texts) small =
    and_from _ _ (plain_text_word text (All-head (All (λ byte. byte < 256)) text texts small)) (plain_texts texts (All-tail (All (λ byte. byte < 256)) text texts small))

-- the line of an event
one_text : (byte : ℕ) → byte < 256 → texts_of_values (encode_lower (byte ∷ []) ∷ []) ≡ Some ((byte ∷ []) ∷ [])
one_text byte small = rw (pairs_back (byte ∷ []) (one_byte byte small)) refl

player_back : (player : ℕ) → (2 ≤ player) × (player ≤ 4) → number_within 1 4 (decimal player) ≡ Some player
player_back player is = number_back 1 4 player (omega (arith, is.0)) is.1 (omega (arith, is.1))

pixel_back : (at : ℕ) → at < 65536 → number_within 0 65535 (decimal at) ≡ Some at
pixel_back at is = number_back 0 65535 at (omega arith) (omega (arith, is)) (omega (arith, is))

turn_back : (steps : ℤ) → (neg_ℤ (pos 32768) ≤ℤ steps) × (steps ≤ℤ pos 32767) → integer_within 32768 32767 (signed_decimal steps) ≡ Some steps
turn_back steps is = integer_back 32768 32767 steps (omega arith) (omega arith) is.0 is.1

further_player : (player : ℕ) → 2 ≤ player → eqb player 1 ≡ false
further_player player from = grind arith

-- what version 1 reads, in each version
in_version : (number : Version) (words : List (List ℕ)) (m : Meaning) → ReadsScript First words m → ReadsScript number words m
in_version First words m is = is
in_version Second words m is = (lift words (Some m) is).0

abbrev ReadsEvent : Version → Event → Type 0
ReadsEvent number e = ReadsScript number (event_words e) (event e)

old : (number : Version) (e : Event) → ReadsEvent First e → ReadsEvent number e
old number e is = in_version number (event_words e) (event e) is

event_line : (number : Version) (e : Event) → IsEvent number e → ReadsEvent number e
unfolding script_line_of keyword_of rows_of value_named script_meaning_of events_of_line device_of keys_of expect_of buttons_of mouse_buttons_of mouse_of scroll_of value_word one_or
event_line number (Input byte) is = old number (Input byte) (rw (one_text byte is.within.0) refl)
event_line number EndInput is = old number EndInput refl
event_line number Frame is = old number Frame refl
event_line number (Device (Key byte)) is = old number (Device (Key byte)) (rw (byte_back byte is.within.0) refl)
event_line number (Device (Down mask)) is = old number (Device (Down mask)) (rw (button_back mask is.within.0).0 refl)
event_line number (Device (Up mask)) is = old number (Device (Up mask)) (rw (button_back mask is.within.0).0 refl)
event_line number (Device (Mouse x y)) is = old number (Device (Mouse x y)) (rw (pixel_back x is.within.0, pixel_back y is.within.1.0) refl)
event_line number (Device (Press mask)) is = old number (Device (Press mask)) (rw (mouse_button_back mask is.within.0).0 refl)
event_line number (Device (Release mask)) is = old number (Device (Release mask)) (rw (mouse_button_back mask is.within.0).0 refl)
event_line number (Device (Scroll x y)) is = old number (Device (Scroll x y)) (rw (turn_back x is.within.0, turn_back y is.within.1.0) refl)
event_line number Shot is = old number Shot refl
event_line First (Device (DownOf player mask)) is = absurd is.belongs
event_line Second (Device (DownOf player mask)) is = rw ((button_back mask is.within.0).0, player_back player is.within.1.0, further_player player is.within.1.0.0) refl
event_line First (Device (UpOf player mask)) is = absurd is.belongs
event_line Second (Device (UpOf player mask)) is = rw ((button_back mask is.within.0).0, player_back player is.within.1.0, further_player player is.within.1.0.0) refl
event_line First (Expect port byte) is = absurd is.belongs
event_line Second (Expect port byte) is = rw (byte_back port is.within.0, byte_back byte is.within.1.0) refl

-- the words of events are plain
plain_name : (e : Event) → is_plain (plain_event e).1 ≡ true
plain_name (Device (Key byte)) = refl
plain_name _ = refl

plain_words : (number : Version) (e : Event) → IsEvent number e → are_plain (event_words e) ≡ true
plain_words number e is = and_from _ _ (plain_name e) (plain_values (plain_event e).2 is.within)

-- events in a row
abbrev ok_event : Event → Line Meaning ScriptKind
ok_event e = Ok (Some (event e))

given_events : (number : Version) (n : ℕ) (before : List Meaning) (more : List Event) → length (flat_map events_in before) + length more ≤ MOST_EVENTS
    → given (script_fault number) n before (map ok_event more ++ Ok None ∷ []) ≡ Ok (before ++ map event more)
given_events number n before [] few = ap Ok (sym (append-nil before))
given_events number n before (e ∷ more) few =
    let fits = not_lt MOST_EVENTS (length (flat_map events_in before) + 1) (omega (arith, few)) in
    let grown : length (flat_map events_in (before ++ event e ∷ [])) ≡ length (flat_map events_in before) + 1 =
    ap length (flat_map-append events_in before (event e ∷ [])) ∙ length-append (flat_map events_in before) (e ∷ []) in
    rw fits (given_events number (n + 1) (before ++ event e ∷ []) more (omega (arith, grown, few)) ∙ ap Ok (append_assoc before (event e ∷ []) (map event more)))

events_read : (number : Version) (more : List Event) → All (IsEvent number) more → map (script_line_of number) (map event_words more) ≡ map ok_event more
events_read number [] valid = refl
events_read number (e ∷ more) valid =
    rw (event_line number e (All-head (IsEvent number) e more valid), events_read number more (All-tail (IsEvent number) e more valid)) refl

-- what the printed lines give
start : Version → Clock → List (List ℕ) → List Meaning
start First time [] = clock time ∷ []
start First time (text ∷ texts) = clock time ∷ arguments (text ∷ texts) ∷ []
start Second time [] = version ∷ clock time ∷ []
start Second time (text ∷ texts) = version ∷ clock time ∷ arguments (text ∷ texts) ∷ []

version_line : ReadsScript Second (codes "script" ∷ codes "2" ∷ []) version
unfolding script_line_of keyword_of rows_of value_named script_meaning_of version_of
version_line = refl

all_given : (number : Version) (time : Clock) (texts : List (List ℕ)) (more : List Event) → IsTime time → AreBytes texts → All (IsEvent number) more → length more ≤ MOST_EVENTS
    → given (script_fault number) 1 [] (map (script_line_of number) (plain_lines (script_with number time texts more)) ++ Ok None ∷ []) ≡ Ok (start number time texts ++ map event more)
unfolding plain_lines start
all_given First time [] more is small valid few =
    rw (clock_line time is, events_read First more valid) (given_events First 2 (clock time ∷ []) more (omega (arith, few)))
all_given First time (text ∷ texts) more is small valid few =
    rw (clock_line time is, args_line text texts small, events_read First more valid) (given_events First 3 (clock time ∷ arguments (text ∷ texts) ∷ []) more (omega (arith, few)))
all_given Second time [] more is small valid few =
    rw (version_line, in_version Second _ _ (clock_line time is), events_read Second more valid) (given_events Second 3 (version ∷ clock time ∷ []) more (omega (arith, few)))
all_given Second time (text ∷ texts) more is small valid few =
    rw (version_line, in_version Second _ _ (clock_line time is), in_version Second _ _ (args_line text texts small), events_read Second more valid)
    (given_events Second 4 (version ∷ clock time ∷ arguments (text ∷ texts) ∷ []) more (omega (arith, few)))

-- what they give makes the same script
events_only : (more : List Event) → flat_map events_in (map event more) ≡ more
events_only [] = refl
events_only (e ∷ more) = ap (λ rest. e ∷ rest) (events_only more)

no_arguments : (more : List Event) → flat_map arguments_in (map event more) ≡ []
no_arguments [] = refl
no_arguments (e ∷ more) = no_arguments more

same_script : (number : Version) (time : Clock) (texts : List (List ℕ)) (more : List Event) → script_from number (start number time texts ++ map event more) ≡ script_with number time texts more
unfolding start
same_script First time [] more = rw (events_only more, no_arguments more) refl
same_script First time (text ∷ texts) more = rw (events_only more) refl
same_script Second time [] more = rw (events_only more, no_arguments more) refl
same_script Second time (text ∷ texts) more = rw (events_only more) refl

-- the printed lines are plain, and tell their version
plain_clock : (time : Clock) → IsTime time → are_plain (clock_words time) ≡ true
plain_clock time is = and_from _ _ refl (plain_values (clock_values time) ((is.seconds_from, is.seconds_to), ((is.offset_from, is.offset_to), tt)))

plain_events : (number : Version) (more : List Event) → All (IsEvent number) more → list_all are_plain (map event_words more) ≡ true
plain_events number [] valid = refl
plain_events number (e ∷ more) valid = and_from _ _ (plain_words number e (All-head (IsEvent number) e more valid)) (plain_events number more (All-tail (IsEvent number) e more valid))

plain_args : (texts : List (List ℕ)) (lines : List (List (List ℕ))) → AreBytes texts → list_all are_plain lines ≡ true → list_all are_plain (argument_words texts ++ lines) ≡ true
plain_args [] lines small plain = plain
plain_args (text ∷ texts) lines small plain = and_from _ _ (and_from _ _ refl (plain_texts (text ∷ texts) small)) plain

all_plain : (number : Version) (time : Clock) (texts : List (List ℕ)) (more : List Event) → IsTime time → AreBytes texts → All (IsEvent number) more
    → list_all are_plain (plain_lines (script_with number time texts more)) ≡ true
unfolding plain_lines
all_plain First time texts more is small valid = and_from _ _ (plain_clock time is) (plain_args texts (map event_words more) small (plain_events First more valid))
all_plain Second time texts more is small valid =
    and_from _ _ refl (and_from _ _ (plain_clock time is) (plain_args texts (map event_words more) small (plain_events Second more valid)))

contents : (number : Version) (line : List (List ℕ)) (lines : List (List (List ℕ))) → are_plain line ≡ true → version_at line ≡ Some number → version_in (lines_of (flat_map line_text (line ∷ lines))) ≡ number
contents number line lines plain is = ap version_in (cut_line line lines plain) ∙ rw (joined_words line plain, is) refl

version_back : (number : Version) (time : Clock) (texts : List (List ℕ)) (more : List Event) → IsTime time → version_in (lines_of (plain_text (script_with number time texts more))) ≡ number
unfolding plain_text plain_lines
version_back First time texts more is = contents First (clock_words time) (argument_words texts ++ map event_words more) (plain_clock time is) refl
version_back Second time texts more is =
    contents Second (codes "script" ∷ codes "2" ∷ []) (clock_words time ∷ (argument_words texts ++ map event_words more)) refl refl

text_read : (number : Version) (script : ScriptView) → list_all are_plain (plain_lines script) ≡ true → each_line (script_line_of number) (lines_of (plain_text script)) ≡ map (script_line_of number) (plain_lines script) ++ Ok None ∷ []
unfolding plain_text
text_read number script plain = printed_lines number (plain_lines script) plain

pub printed_scripts : (script : ScriptView) → IsScript script → length (plain_text script) ≤ TEXT_LIMIT → script_of (plain_text script) ≡ Ok script
unfolding script_of
printed_scripts script is short =
    let number = script.version in
    let small = is.arguments.1 in
    let lines = lines_of (plain_text script) in
    short_script (version_in lines) (plain_text script) (not_lt TEXT_LIMIT (length (plain_text script)) short)
    ∙ ap (λ v. script_by v lines) (version_back number script.clock script.arguments script.events is.time)
    ∙ ap (λ read. made (script_from number) (given (script_fault number) 1 [] read)) (text_read number script (all_plain number script.clock script.arguments script.events is.time small is.events_given))
    ∙ ap (made (script_from number)) (all_given number script.clock script.arguments script.events is.time small is.events_given is.events_few)
    ∙ ap Ok (same_script number script.clock script.arguments script.events)
