-- That a disassembly assembles to its ROM.
use Rattle.std.proofs.Common.{◌≡◌, ℕ, zero, suc, ◌+◌, ◌-◌, ◌/◌, ◌%◌, ◌<◌, ◌≤◌, inl, inr, true, false, List, [], ◌∷◌, ◌++◌, length, take, drop, get_or}
use Rattle.std.proofs.Common.{map, refl, ap, sym, ◌∙◌, arith, append_assoc, append-nil, length-take, length-drop, ◌*◌, Ok}
use Rattle.std.proofs.Math.Seq.{drop-append_seam}
use Rattle.std.specs.Prelude.{◌==◌, slice_index}
use Rattle.std.specs.List.{flat_map, list_any, AllByRecursion}
use Rattle.std.proofs.lemmas.Grind.{common_steps}
use Rattle.std.proofs.lemmas.Bool.{cases_Bool, agree_below_at, eqb-true}
use Rattle.std.proofs.lemmas.List.{drop_all, take-append-drop, map-append, get_or-take, get_or-drop, drop_more, drop-drop}
use Rattle.std.proofs.lemmas.List.Concat.{flat_map-append}
use Rattle.tal_words.specs.declared.form.Form.TheVariants.{Op, Raw1, Raw2}
use Rattle.tal_words.specs.declared.name.Label.{Label}
use Rattle.tal_words.specs.Source.{is_blank, is_only}
use Rattle.uxn_limits.specs.declared.limits.TheConstants.{TEXT_LIMIT}
use Rattle.tal_words.specs.Opcodes.{name_of_op}
use Rattle.tal_words.specs.PlainTexts.{Item, Comment, PlainWord, words_of_item, words_of_items, text_of_items, IsItem, IsComment, AreItems}
use Rattle.tal_words.specs.PlainTexts.{IsPlainWord}
use Rattle.tal_words.proofs.BlankFree.{all_joined}
use Rattle.tal_words.proofs.PlainNames.{name_plain, form-name}
use Rattle.tal_labels.specs.PlainWords.{Coded, texts_of_coded, bytes_of_coded, pad_text, RepresentsWord}
use Rattle.tal_symbols.specs.SymbolFile.{are_readable}
use Rattle.tal_rom.specs.PlainWords.{AssemblesTo}
use Rattle.tal_rom.proofs.PlainLemmas.{plain_assembles}
use Rattle.uxn_io_traits.specs.NumberText.{hex_of_short, hex_digit, hex_of_byte}
use Rattle.tal_listing.specs.Texts.{hex_of_bytes, behind_name}
use Rattle.tal_listing.specs.LabelChains.{labels_of_address}
use Rattle.uxn_limits.specs.declared.addresses.TheConstants.{FIRST_ADDRESS}
use Rattle.tal_listing.specs.Disassembly.{ListedInstruction, immediate_length, instructions_from, immediate_items, instruction_items, label_item}
use Rattle.tal_listing.specs.Disassembly.{label_items, items_of_instruction, disassembly_items, disassembly}
use Rattle.std.proofs.lemmas.Bool.Decides.{nat_tests}
use Rattle.tal_words.specs.Forms.{form, bare, short_bytes}
use Rattle.tal_words.specs.Digits.{is_digit, digit_value, number_of_digits}
use Rattle.tal_rom.specs.Rom.{rom_limit}

-- what the texts of digits are as words
digit_known : (n : ℕ) → n < 16 → (is_digit (hex_digit n) ≡ true) × (digit_value (hex_digit n) ≡ n)
digit_known n below = (
  agree_below_at (λ k. is_digit (hex_digit k)) (λ _. true) 16 n refl below,
  eqb-true (digit_value (hex_digit n)) n (agree_below_at (λ k. digit_value (hex_digit k) == k) (λ _. true) 16 n refl below),
)

digit_plain : (digit : ℕ) → is_digit digit ≡ true → is_blank digit ≡ false
digit_plain digit is = grind (arith, nat_tests)

-- a word that begins with a digit is a number, an opcode or a name
form-digit : (digit : ℕ) (rest : List ℕ) → is_digit digit ≡ true → form (digit ∷ rest) ≡ Ok (bare (digit ∷ rest))
unfolding form
form-digit digit rest is = grind (arith, common_steps)

-- two digits or more, as a word
digits_plain : (first second : ℕ) (rest : List ℕ) → is_digit first ≡ true → is_digit second ≡ true → list_any is_blank rest ≡ false → length rest ≤ 2
    → IsPlainWord (first ∷ second ∷ rest)
digits_plain first second rest is_first is_second plain short = grind (arith, common_steps)

-- a byte as two digits
byte_digits : (byte : ℕ) → byte < 256
    → (is_digit (hex_digit (byte / 16)) ≡ true) × (is_digit (hex_digit (byte % 16)) ≡ true) × (number_of_digits (hex_of_byte byte) ≡ byte)
byte_digits byte below =
    let high = digit_known (byte / 16) (omega arith) in
    let low = digit_known (byte % 16) (omega arith) in
    (high.0, low.0, omega (arith, high.1, low.1))

byte_stands : (byte : ℕ) → byte < 256 → RepresentsWord (record { text = hex_of_byte byte; bytes = byte ∷ [] })
byte_stands byte below =
    let digits = byte_digits byte below in
    let plain = digits_plain (hex_digit (byte / 16)) (hex_digit (byte % 16)) [] digits.0 digits.1 refl (omega arith) in
    let begins = form-digit (hex_digit (byte / 16)) (hex_digit (byte % 16) ∷ []) digits.0 in
    let formed = begins ∙ rw (digits.0, digits.1) (ap (λ (n : ℕ). Ok (Raw1 n)) digits.2) in
    record { plain = plain; shape = Raw1 byte; formed = formed; bare = refl; encodes = refl }

-- two bytes as four digits
module _ (high low : ℕ) (high_below : high < 256) (low_below : low < 256) where
  short_plain : IsPlainWord (hex_of_byte high ++ hex_of_byte low)
  short_plain =
      let digits = byte_digits low low_below in
      digits_plain (hex_digit (high / 16)) (hex_digit (high % 16)) (hex_of_byte low) (byte_digits high high_below).0 (byte_digits high high_below).1
      (rw (digit_plain _ digits.0, digit_plain _ digits.1) refl) (omega arith)

  short_stands : RepresentsWord (record { text = hex_of_byte high ++ hex_of_byte low; bytes = high ∷ low ∷ [] })
  short_stands =
      let first = byte_digits high high_below in
      let second = byte_digits low low_below in
      let value : number_of_digits (hex_of_byte high ++ hex_of_byte low) ≡ 256 * high + low = omega (arith, first.2, second.2) in
      let top : (256 * high + low) / 256 % 256 ≡ high = omega arith in
      let rest : (256 * high + low) % 256 ≡ low = omega arith in
      let again : short_bytes (256 * high + low) ≡ high ∷ low ∷ [] = rw (top, rest) refl in
      let begins = form-digit (hex_digit (high / 16)) (hex_digit (high % 16) ∷ hex_of_byte low) first.0 in
      let formed = begins ∙ rw (first.0, first.1, second.0, second.1) (ap (λ (n : ℕ). Ok (Raw2 n)) value) in
      record { plain = short_plain; shape = Raw2 (256 * high + low); formed = formed; bare = refl; encodes = again }

-- the words of an instruction with their bytes
abbrev coded_immediate : List ℕ → List Coded
coded_immediate [] = []
coded_immediate (byte ∷ bytes) = record { text = hex_of_bytes (byte ∷ bytes); bytes = byte ∷ bytes } ∷ []

abbrev coded_of : ListedInstruction → List Coded
coded_of i = record { text = name_of_op i.opcode; bytes = i.opcode ∷ [] } ∷ coded_immediate i.immediate

immediate_stands : (bytes : List ℕ) → length bytes ≤ 2 → ((k : ℕ) → k < length bytes → get_or bytes k 0 < 256) → AllByRecursion RepresentsWord (coded_immediate bytes)
immediate_stands [] short small = tt
immediate_stands (byte ∷ []) short small = (byte_stands byte (small 0 (omega arith)), tt)
immediate_stands (byte ∷ next ∷ []) short small = (short_stands byte next (small 0 (omega arith)) (small 1 (omega arith)), tt)
immediate_stands (byte ∷ next ∷ last ∷ bytes) short small = absurd (omega arith)

-- the comment with the name of a label
at_sign : (byte : ℕ) (name : List ℕ) → (64 == byte) ≡ false → is_only byte (64 ∷ name) ≡ false
at_sign byte [] differ = differ
at_sign byte (first ∷ rest) differ = refl

label_comments : (labels : List Label) (address : ℕ) → are_readable labels ≡ true → AreItems (map label_item (labels_of_address address labels))
label_comments [] address readable = tt
label_comments (label ∷ labels) address readable =
    let rest = label_comments labels address (grind arith) in
    elim (cases_Bool (label.address == address)) [
      | inl here ↦ rw here ((record { some = omega arith; blank_free = grind arith; unopened = at_sign 40 label.name refl; unclosed = at_sign 41 label.name refl }, refl), rest)
      | inr other ↦ rw other rest
    ]

no_label_words : (labels : List Label) → words_of_items (map label_item labels) ≡ []
no_label_words [] = refl
no_label_words (label ∷ labels) = no_label_words labels

-- the items behind the name of an instruction, their words and their bytes
immediate_known : (name address immediate : List ℕ) → AllByRecursion RepresentsWord (coded_immediate immediate) → IsComment address
    → AreItems (immediate_items immediate ++ Comment address 10 ∷ [])
    × (name ∷ words_of_items (immediate_items immediate ++ Comment address 10 ∷ []) ≡ name ∷ texts_of_coded (coded_immediate immediate))
    × (bytes_of_coded (coded_immediate immediate) ≡ immediate)
immediate_known name address [] stand comment = (((comment, refl), tt), refl, refl)
immediate_known name address (byte ∷ bytes) stand comment = (((stand.0.plain, refl), ((comment, refl), tt)), refl, append-nil (byte ∷ bytes))

-- the items of instructions are sound, and have the words that represent their bytes
record AreSound (labels : List Label) (is : List ListedInstruction) (whole : List ℕ) : Type 0 where
  pub items : AreItems (flat_map (items_of_instruction labels) is)
  pub stand : AllByRecursion RepresentsWord (flat_map coded_of is)
  pub words : words_of_items (flat_map (items_of_instruction labels) is) ≡ texts_of_coded (flat_map coded_of is)
  pub bytes : bytes_of_coded (flat_map coded_of is) ≡ whole

none-from : (n address : ℕ) → instructions_from n address [] ≡ []
unfolding instructions_from
none-from zero address = refl
none-from (suc n) address = refl

module _ (labels : List Label) (readable : are_readable labels ≡ true) where
  sound_more : (i : ListedInstruction) (is : List ListedInstruction) (rest : List ℕ) → i.address < 65536 → i.opcode < 256
      → AllByRecursion RepresentsWord (coded_immediate i.immediate) → AreSound labels is rest → AreSound labels (i ∷ is) (i.opcode ∷ (i.immediate ++ rest))
  sound_more i is rest place byte stands up =
      let digits = short_plain (i.address / 256) (i.address % 256) (omega arith) (omega arith) in
      let comment : IsComment (hex_of_short i.address) = record { some = omega arith; blank_free = digits.blank_free; unopened = refl; unclosed = refl } in
      let name = name_plain i.opcode byte in
      let known = immediate_known (name_of_op i.opcode) (hex_of_short i.address) i.immediate stands comment in
      let items : AreItems (instruction_items i) = ((name, refl), known.0) in
      record {
        items =
            all_joined IsItem (items_of_instruction labels i) (flat_map (items_of_instruction labels) is)
            (all_joined IsItem (label_items labels i.address) (instruction_items i) (label_comments labels i.address readable) items) up.items;
        stand = (
          record { plain = name; shape = Op i.opcode; formed = form-name i.opcode byte; bare = refl; encodes = refl },
          all_joined RepresentsWord (coded_immediate i.immediate) (flat_map coded_of is) stands up.stand,
        );
        words =
            flat_map-append words_of_item (items_of_instruction labels i) (flat_map (items_of_instruction labels) is)
            ∙ rw (flat_map-append words_of_item (label_items labels i.address) (instruction_items i), no_label_words (labels_of_address i.address labels), up.words, map-append)
            (ap (λ (texts : List (List ℕ)). texts ++ texts_of_coded (flat_map coded_of is)) known.1);
        bytes =
            ap (λ (bytes : List ℕ). i.opcode ∷ bytes)
            (flat_map-append (λ (word : Coded). word.bytes) (coded_immediate i.immediate) (flat_map coded_of is) ∙ rw (known.2, up.bytes) refl);
      }

  all_sound : (more address : ℕ) (bytes : List ℕ) → ((k : ℕ) → k < length bytes → get_or bytes k 0 < 256) → length bytes ≤ more
      → address + length bytes ≤ 65536 → AreSound labels (instructions_from more address bytes) bytes
  unfolding instructions_from
  all_sound more address [] small enough room = rw (none-from more address) (record { items = tt; stand = tt; words = refl; bytes = refl })
  all_sound zero address (opcode ∷ bytes) small enough room = absurd (omega arith)
  all_sound (suc more) address (opcode ∷ bytes) small enough room =
      let prefix = take (immediate_length opcode) bytes in
      let most : immediate_length opcode ≤ 2 = grind arith in
      let size = length-take (immediate_length opcode) bytes in
      let left = length-drop (length prefix) bytes in
      let stands = immediate_stands prefix (omega (arith, size))
      (λ k within. rw (get_or-take (immediate_length opcode) bytes k 0 (omega (arith, size))) (small (suc k) (omega (arith, size)))) in
      let rest = all_sound more (address + 1 + length prefix) (drop (length prefix) bytes)
      (λ k within. rw (get_or-drop (length prefix) bytes k 0) (small (suc (length prefix + k)) (omega (arith, left)))) (omega (arith, left)) (omega (arith, left, size)) in
      let whole = rw (take-append-drop (immediate_length opcode) bytes) at (ap (λ (all : List ℕ). prefix ++ all) (drop-append_seam prefix (drop (immediate_length opcode) bytes))) in
      rw whole at (sound_more (record { address = address; opcode = opcode; immediate = prefix }) _ _ (omega arith) (small 0 (omega arith)) stands rest)

pub disassembly_assembles : (rom : List ℕ) (labels : List Label) → ((i : ℕ) → i < length rom → slice_index rom i < 256) → length rom ≤ rom_limit → are_readable labels ≡ true
    → length (disassembly rom labels) ≤ TEXT_LIMIT → AssemblesTo (disassembly rom labels) rom
unfolding disassembly
disassembly_assembles rom labels small room readable short =
    let known = all_sound labels readable (length rom) FIRST_ADDRESS rom small (omega arith) (omega arith) in
    let coded = flat_map coded_of (instructions_from (length rom) FIRST_ADDRESS rom) in
    let sound : AreItems (disassembly_items rom labels) =
    ((record { some = omega arith; short = omega arith; blank_free = refl; no_comment = refl; no_paren = refl; no_head = refl; unopened = refl; unclosed = refl }, refl), known.items) in
    let words : words_of_items (disassembly_items rom labels) ≡ pad_text ∷ texts_of_coded coded = ap (λ (texts : List (List ℕ)). pad_text ∷ texts) known.words in
    rw known.bytes at (plain_assembles (disassembly_items rom labels) coded sound words known.stand short (omega (arith, ap length known.bytes)))

long_text : (before name digits address : List ℕ) → ((before ++ name) ++ 32 ∷ digits) ++ 32 ∷ 40 ∷ 32 ∷ (address ++ 32 ∷ 41 ∷ 10 ∷ [])
    ≡ before ++ text_of_items (PlainWord name 32 ∷ PlainWord digits 32 ∷ Comment address 10 ∷ [])
long_text before name digits address = simp (append_assoc, append-nil) refl

-- the line of an instruction
pub line_text : (before name immediate address : List ℕ)
    → ((before ++ name) ++ behind_name immediate) ++ 32 ∷ 40 ∷ 32 ∷ (address ++ 32 ∷ 41 ∷ 10 ∷ [])
    ≡ before ++ text_of_items (PlainWord name 32 ∷ (immediate_items immediate ++ Comment address 10 ∷ []))
line_text before name [] address = simp (append_assoc, append-nil) refl
line_text before name (byte ∷ bytes) address = long_text before name (hex_of_bytes (byte ∷ bytes)) address

-- the text of the items of an instruction, and of those behind them
text_more : (text labelled more : List ℕ) (labels line rest : List Item) (whole : List ℕ) → labelled ≡ text ++ text_of_items labels → more ≡ labelled ++ text_of_items line
    → text ++ text_of_items ((labels ++ line) ++ rest) ≡ whole → more ++ text_of_items rest ≡ whole
text_more text labelled more labels line rest whole is_labelled is_more so = grind (arith, common_steps)

-- the text so far, and the instructions from an offset on, of which there are at most so many
pub record DisassembledTo (rom : List ℕ) (labels : List Label) (text : List ℕ) (offset : ℕ) : Type 0 where
  pub most : ℕ
  pub enough : length rom ≤ offset + most
  pub rest : text ++ text_of_items (flat_map (items_of_instruction labels) (instructions_from most (FIRST_ADDRESS + offset) (drop offset rom))) ≡ disassembly rom labels

pub disassembled_start : (rom : List ℕ) (labels : List Label) (text : List ℕ) → text ≡ pad_text ++ 10 ∷ [] → DisassembledTo rom labels text 0
unfolding disassembly
disassembled_start rom labels text is = record { most = length rom; enough = omega arith; rest = rw is refl }

pub disassembled_end : (rom : List ℕ) (labels : List Label) (text : List ℕ) (offset : ℕ) → length rom ≤ offset → DisassembledTo rom labels text offset → text ≡ disassembly rom labels
disassembled_end rom labels text offset past up = sym (append-nil text) ∙ rw (drop_all offset rom past, none-from) at up.rest

module _ (rom : List ℕ) (labels : List Label) (text : List ℕ) (offset : ℕ) (within : offset < length rom) (up : DisassembledTo rom labels text offset) where
  abbrev pub instruction_at : ListedInstruction
  instruction_at = record {
    address = FIRST_ADDRESS + offset;
    opcode = get_or rom offset 0;
    immediate = take (immediate_length (get_or rom offset 0)) (drop (offset + 1) rom);
  }

  -- the next instruction, and those behind it
  instructions_more : (most less next : ℕ) → most ≡ suc less → next ≡ offset + 1 + length instruction_at.immediate
      → instructions_from most (FIRST_ADDRESS + offset) (drop offset rom) ≡ instruction_at ∷ instructions_from less (FIRST_ADDRESS + next) (drop next rom)
  unfolding instructions_from
  instructions_more most less next is_most is_next =
      grind (arith, drop_more rom offset 0 within, drop-drop (length instruction_at.immediate) (offset + 1) rom)

  pub disassembled_more : (labelled more : List ℕ) (next : ℕ) → labelled ≡ text ++ text_of_items (label_items labels (FIRST_ADDRESS + offset))
      → more ≡ labelled ++ text_of_items (instruction_items instruction_at) → next ≡ offset + 1 + length instruction_at.immediate → DisassembledTo rom labels more next
  disassembled_more labelled more next is_labelled is_more is_next =
      let so = rw (instructions_more up.most (up.most - 1) next (omega (arith, up.enough)) is_next) at up.rest in
      let line = instruction_items instruction_at in
      let rest = text_more text labelled more (label_items labels (FIRST_ADDRESS + offset)) line _ _ is_labelled is_more so in
      record { most = up.most - 1; enough = omega (arith, up.enough); rest = rest }
