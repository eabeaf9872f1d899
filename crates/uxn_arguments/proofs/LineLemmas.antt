-- A line of words as the parser walks over it, and the items that it gives.
use Rattle.std.proofs.Common.{◌≡◌, ◌∙◌, ◌&&◌, ◌||◌, ◌⊎◌, inl, inr, ℕ, Bool, cond, true, false, not, true≢false, refl, sym, ap, ap₂, List, [], ◌∷◌}
use Rattle.std.proofs.Common.{◌++◌, map, Option, Some, None, append-nil, codes, option_map, arith}
use Rattle.std.specs.List.{find, list_any, list_all, fold}
use Rattle.std.specs.Option.{option_map_or}
use Rattle.std.specs.Prelude.{option_and_then}
use Rattle.std.specs.Str.{bytes_eq}
use Rattle.std.proofs.lemmas.Bool.{and_parts, and_right, cases_Bool, not-true, or_right}
use Rattle.std.proofs.lemmas.List.Folds.{list_any-append}
use Rattle.std.proofs.lemmas.Slice.Eq.{bytes_eq-Decides}
use Rattle.clap.specs.Lexer.{long_of, short_of}
use Rattle.clap.specs.Walk.{Held, option_word, plain_word as plain_met, Row, Rule, Step as WordStep, Text, Waiting, Walk, after_flag, after_step}
use Rattle.clap.specs.Walk.{arg_by_id, arg_by_index, finished, idle, is_empty, nothing_held, rows_after, is_pending, long_met, option, pushed}
use Rattle.clap.specs.Walk.{settled, subcommand_met, used, used_by_id, walked}
use Rattle.clap.specs.Simple.{Shape, built, matches_of, names_of, new_shape}
use Rattle.clap.specs.Kinds.{Kinds, or_else}
use Rattle.clap.specs.Faults.{built_fault, check_fault, fault_of, defaults_fault, long_fault, settle_fault, step_fault, turn_fault, walk_fault}
use Rattle.clap.specs.Faults.{use_fault}
use Rattle.clap.specs.declared.error.kind.ErrorKind.TheVariants as kind
use Rattle.clap.proofs.FaultLemmas.{leaf_fault}
use Rattle.clap.proofs.WalkLemmas.{list_any-map}
use Rattle.uxn_arguments.specs.Parsing.{parser_for}
use Rattle.uxn_arguments.specs.Choices.{Choice, GivenArgument, choice_named, choice_step, operand, follow, given, is_given, is_legal, is_plain}
use Rattle.uxn_arguments.specs.Choices.{arguments_of, each_once, lacks_some, name_before, option_text, value_behind, values_in}
use Rattle.uxn_arguments.proofs.ArgumentLemmas.{Fits, IsKnown, by_long, choice_rule, conflict, defaults_pass, filled_rules, known, operand_rule}
use Rattle.uxn_arguments.proofs.ArgumentLemmas.{or_none, row, rows_given, rows_known, ruled, rules_for, same-sym, contents, use_faults, use_rows}
use Rattle.uxn_arguments.proofs.ArgumentLemmas.{values_for, with_defaults}
use Rattle.std.proofs.lemmas.Grind.{common_steps}

-- ---- words

pub record PlainWord (word : Text) : Type 0 where
  pub plain : is_plain word ≡ true
  pub dashes : bytes_eq word (45 ∷ 45 ∷ []) ≡ false
  pub long : long_of word ≡ None
  pub short : short_of word ≡ None

pub record LongWord (word text : Text) : Type 0 where
  pub plain : is_plain word ≡ false
  pub says : option_text word ≡ Some text
  pub dashes : bytes_eq word (45 ∷ 45 ∷ []) ≡ false
  pub long : long_of word ≡ Some (name_before text, value_behind text)
  pub named : bytes_eq (name_before text) operand ≡ false

legal_word : (word : Text) → is_legal word ≡ true → PlainWord word ⊎ ((text : Text) × LongWord word text)
legal_word word e = grind (arith, common_steps)

-- ---- items

-- one more item
once-push : (items : List GivenArgument) (item : GivenArgument) → each_once (items ++ item ∷ []) ≡ (each_once items && not (is_given item.name items))
once-push [] item = refl
once-push (first ∷ items) item = grind (arith, common_steps, once-push items item, list_any-append, same-sym)

-- items of which two have one name, before others
once-prefix : (items later : List GivenArgument) → each_once items ≡ false → each_once (items ++ later) ≡ false
once-prefix [] later e = grind (arith, common_steps)
once-prefix (first ∷ items) later e = grind (arith, common_steps, once-prefix items later, list_any-append)

operand-push : (items : List GivenArgument) (name value : Text) → is_given operand (items ++ given name value ∷ []) ≡ (is_given operand items || (bytes_eq name operand || false))
operand-push items name value = list_any-append (λ (i : GivenArgument). bytes_eq i.name operand) items (given name value ∷ [])

-- items before others
abbrev before : List GivenArgument → Option (List GivenArgument) → Option (List GivenArgument)
before items more = option_map (λ later. items ++ later) more

before-item : (items : List GivenArgument) (item : GivenArgument) (more : Option (List GivenArgument)) → before (items ++ item ∷ []) more ≡ before items (option_map (λ later. item ∷ later) more)
before-item items item more = grind (arith, common_steps)

-- the values that rows tell, and those of items
abbrev pub values_at : List Row → Text → Option Text
values_at rows name = contents (find (λ r. bytes_eq r.id name) rows)

-- the rows that a parse is to give for items
module _ (choices : List Choice) where
  abbrev rows_when : Bool → List GivenArgument → Option (List Row)
  rows_when whole items = cond whole (Some (with_defaults choices (map row items))) None

  abbrev pub wanted : Option (List GivenArgument) → Option (List Row)
  wanted items = option_and_then (λ all. rows_when (each_once all && not (lacks_some choices all)) all) items

  unwanted : (items : List GivenArgument) (more : Option (List GivenArgument)) → each_once items ≡ false → wanted (before items more) ≡ None
  unwanted items more e = grind (arith, common_steps, once-prefix)

  unwanted_again : (items : List GivenArgument) (item : GivenArgument) (more : Option (List GivenArgument)) → is_given item.name items ≡ true → wanted (before items (option_map (λ later. item ∷ later) more)) ≡ None
  unwanted_again items item more again =
      ap wanted (sym (before-item items item more)) ∙ unwanted (items ++ item ∷ []) more (once-push items item ∙ and_right (each_once items) (not (is_given item.name items)) (ap not again))

  -- they tell the values of the items
  pub values-wanted : (items : Option (List GivenArgument)) → option_and_then (values_in choices) items ≡ option_map values_at (wanted items)
  values-wanted items = grind (arith, common_steps, rows_known)

module _ (choices : List Choice) where
  abbrev rules : List Rule
  rules = rules_for choices

  -- the command, as it is built
  abbrev pub shape : Shape
  shape = record (new_shape []) {
    rules = rules;
    no_binary_name = true;
    disable_help_flag = true;
    disable_help_subcommand = true;
    disable_version_flag = true;
    is_built = true;
  }

  -- what is wrong after the walk
  abbrev end_fault : Held → Kinds
  end_fault h = or_else (settle_fault rules false h) (or_else (defaults_fault (settled rules h).rows rules) (check_fault shape (finished rules h) false))

  -- the rows of a parse, where nothing is wrong
  abbrev pub outcome : Kinds → List Row → Option (List Row)
  outcome kinds rows = cond (is_empty kinds) (Some rows) None

  abbrev read_from : Walk → List Text → Option (List Row)
  read_from w words = let end = (fold (walked rules []) w words).held in outcome (or_else (walk_fault shape [] w words) (end_fault end)) (finished rules end)

  nonempty_first : (a b : Kinds) → is_empty a ≡ false → is_empty (or_else a b) ≡ false
  nonempty_first a b e = grind (arith, common_steps)

  -- ---- one word

  abbrev turn : Walk → Text → Kinds × Walk
  turn w word = (turn_fault shape [] w word, walked rules [] w word)

  goes_on : (w after : Walk) (word : Text) (words : List Text) → turn w word ≡ ([], after) → read_from w (word ∷ words) ≡ read_from after words
  unfolding walk_fault
  goes_on w after word words e = ap (λ (p : Kinds × Walk). let end = (fold (walked rules []) p.1 words).held in
      outcome (or_else (or_else p.0 (walk_fault shape [] p.1 words)) (end_fault end)) (finished rules end)) e

  stops : (w : Walk) (word : Text) (words : List Text) → is_empty (turn_fault shape [] w word) ≡ false → read_from w (word ∷ words) ≡ None
  unfolding walk_fault
  stops w word words e = ap (λ b. cond b (Some (finished rules (fold (walked rules []) w (word ∷ words)).held)) None) (nonempty_first _ _ (nonempty_first (turn_fault shape [] w word) _ e))

  -- what a word comes to that has this fault and was met so
  abbrev turned : Walk → Text → Kinds → Held × WordStep → Kinds × Walk
  turned w word fault met = (or_else fault (step_fault shape w.position met.0 met.1), after_step rules word w met.0 met.1)

  -- the walk between two words: what is held, what waits for a value, and whether the operand was observed
  abbrev walk_at : Held → Waiting → Bool → Walk
  walk_at h waiting observed = record { held = h; waiting = waiting; position = cond observed 2 1; is_trailing = false; stopped = None }

  quiet : (waiting : Waiting) (word : Text) → subcommand_met [] waiting word ≡ None
  quiet waiting word = grind (arith, common_steps)

  plain_turn : (waiting : Waiting) (observed : Bool) (word : Text) (h : Held) → PlainWord word
      → turn (walk_at h waiting observed) word ≡ turned (walk_at h waiting observed) word [] (plain_met rules waiting word h)
  unfolding walked
  plain_turn waiting observed word h w = grind (arith, common_steps, quiet)

  abbrev fault_by : Option Choice → Option Text → Held → Kinds
  fault_by o v h = long_fault rules false (option_map choice_rule o) v h

  abbrev met_by : Waiting → Text → Option Choice → Option Text → Held → Held × WordStep
  met_by waiting word o v h = after_flag rules waiting word (long_met rules (option_map choice_rule o) v h).0 (long_met rules (option_map choice_rule o) v h).1

  long_turn : (waiting : Waiting) (observed : Bool) (word text : Text) (h : Held) (o : Option Choice) (v : Option Text) → LongWord word text
      → choice_named choices (name_before text) ≡ o → value_behind text ≡ v
      → turn (walk_at h waiting observed) word ≡ turned (walk_at h waiting observed) word (fault_by o v h) (met_by waiting word o v h)
  unfolding walked
  long_turn waiting observed word text h o v w named valued =
      rw (quiet waiting word, w.dashes, w.long, ← by_long choices (name_before text)) refl
      ∙ ap₂ (λ o v. turned (walk_at h waiting observed) word (fault_by o v h) (met_by waiting word o v h)) named valued

  -- ---- the states between two words

  abbrev held_at : List GivenArgument → Option (Text × List Text) → Held
  held_at items pending = record { rows = map row items; pending = pending; skip = 0 }

  abbrev held_rows : List Row → Held
  held_rows rs = record { rows = rs; pending = None; skip = 0 }

  -- what is pending is read without a fault where no two items have one name, and then the rows are those of the items
  record IsReady (h : Held) (items : List GivenArgument) : Type 0 where
    pub fault : settle_fault rules false h ≡ conflict (each_once items)
    pub rows : each_once items ≡ true → settled rules h ≡ held_at items None

  ready_at : (items : List GivenArgument) → each_once items ≡ true → IsReady (held_at items None) items
  ready_at items once = record { fault = sym (ap conflict once); rows = λ all. refl }

  once-fresh : (items : List GivenArgument) (item : GivenArgument) → each_once items ≡ true → each_once (items ++ item ∷ []) ≡ not (is_given item.name items)
  once-fresh items item once = grind (arith, common_steps, once-push)

  pending_ready : (items : List GivenArgument) (id : Text) (long : Option Text) (index : Option ℕ) (required : Bool) (value : Text) → each_once items ≡ true
      → arg_by_id rules id ≡ Some (ruled id long index true required) → IsReady (held_at items (Some (id, value ∷ []))) (items ++ given id value ∷ [])
  pending_ready items id long index required value once found = record {
    fault = ap (λ o. option_map_or (λ a. use_fault false a (value ∷ []) (map row items)) o []) found ∙ use_faults id long index true required value items
        ∙ ap conflict (sym (once-fresh items (given id value) once));
    rows = λ all. ap (λ o. held_rows (used_by_id o (value ∷ []) (map row items))) found
        ∙ ap held_rows (use_rows id long index true required value items (λ e. absurd (true≢false e)) (not-true (is_given id items) (sym (once-fresh items (given id value) once) ∙ all)));
  }

  faulty : (h : Held) (items : List GivenArgument) → IsReady h items → each_once items ≡ false → is_empty (settle_fault rules false h) ≡ false
  faulty h items ready twice = grind (arith, common_steps)

  -- ---- the end of the words

  check-is : (items : List GivenArgument) → check_fault shape (with_defaults choices (map row items)) false ≡ cond (lacks_some choices items) (kind.MissingRequiredArgument ∷ []) []
  check-is items =
      ap (λ b. cond b (kind.MissingRequiredArgument ∷ []) [])
      ((λ i. (not (rows_given choices operand items i) || list_any (λ (a : Rule). a.required && not (rows_given choices a.id items i)) (map choice_rule choices)))
      ∙ ap (λ b. not (is_given operand items) || b) (sym (list_any-map (λ (a : Rule). a.required && not (is_given a.id items)) choice_rule choices)))

  ended : (h : Held) (items : List GivenArgument) → IsReady h items → outcome (end_fault h) (finished rules h) ≡ wanted choices (Some items)
  ended h items ready = grind (arith, common_steps, faulty, nonempty_first, defaults_pass, check-is)

  -- ---- a plain word

  no_second : (choices : List Choice) → arg_by_index (map choice_rule choices) 2 ≡ None
  no_second [] = refl
  no_second (choice ∷ choices) = no_second choices

  and_false : (b : Bool) → (b && false) ≡ false
  and_false b = and_right b false refl

  -- the operand
  first_turn : (word : Text) (h : Held) → PlainWord word → turn (walk_at h idle false) word ≡ (settle_fault rules false h, walk_at (pushed operand word (settled rules h)) idle true)
  first_turn word h w = plain_turn idle false word h w
      ∙ ap (λ b. (cond b [] (settle_fault rules false h), walk_at (pushed operand word (cond b h (settled rules h))) idle true)) (and_false (is_pending operand_rule h.pending))

  second_fault : (word : Text) (h : Held) → PlainWord word → turn_fault shape [] (walk_at h idle true) word ≡ kind.UnknownArgument ∷ []
  second_fault word h w = grind (arith, common_steps, plain_turn, no_second)

  -- the value of an option
  value_turn : (name word : Text) (items : List GivenArgument) (observed required : Bool) → PlainWord word → IsKnown choices name true required
      → turn (walk_at (held_at items (Some (name, []))) (option name) observed) word ≡ ([], walk_at (held_at items (Some (name, word ∷ []))) idle observed)
  value_turn name word items observed required w k =
      let h = held_at items (Some (name, [])) in
      let met : (m : Option Rule) → m ≡ Some (ruled name (Some name) None true required)
      → walk_at (option_word m name word h).0 (option_word m name word h).1 observed ≡ walk_at (held_at items (Some (name, word ∷ []))) idle observed =
      λ m e. rw (e, (bytes_eq-Decides name name).1 refl) refl in
      plain_turn (option name) observed word h w ∙ ap (λ after. ([], after)) (met (arg_by_id rules name) k.found)

  -- ---- a long word where what is pending is refused

  blocked : (o : Option Choice) (v : Option Text) (h : Held) → is_empty (settle_fault rules false h) ≡ false → is_empty (fault_by o v h) ≡ false
  blocked o v h e = grind (arith, common_steps, nonempty_first)

  long_stops : (waiting : Waiting) (observed : Bool) (word text : Text) (words : List Text) (h : Held) → LongWord word text → is_empty (settle_fault rules false h) ≡ false
      → read_from (walk_at h waiting observed) (word ∷ words) ≡ None
  long_stops waiting observed word text words h w e =
      stops (walk_at h waiting observed) word words (ap (λ (p : Kinds × Walk). is_empty p.0) (long_turn waiting observed word text h _ _ w refl refl)
      ∙ nonempty_first (fault_by (choice_named choices (name_before text)) (value_behind text) h) _ (blocked (choice_named choices (name_before text)) (value_behind text) h e))

  -- ---- the whole line

  -- from each state the words are read
  abbrev Readies : List Text → Type 0
  Readies words = (h : Held) (items : List GivenArgument) (observed : Bool) → observed ≡ is_given operand items → IsReady h items
      → read_from (walk_at h idle observed) words ≡ wanted choices (before items (arguments_of choices words None))

  abbrev Waits : List Text → Type 0
  Waits words = (name : Text) (required : Bool) (items : List GivenArgument) (observed : Bool) → IsKnown choices name true required → observed ≡ is_given operand items → each_once items ≡ true
      → read_from (walk_at (held_at items (Some (name, []))) (option name) observed) words ≡ wanted choices (before items (arguments_of choices words (Some name)))

  -- an option still waits for its value
  waiting_fault : (name : Text) (required : Bool) (items : List GivenArgument) → IsKnown choices name true required → settle_fault rules false (held_at items (Some (name, []))) ≡ kind.InvalidValue ∷ []
  waiting_fault name required items k = ap (λ o. option_map_or (λ a. use_fault false a [] (map row items)) o []) k.found

  module _ (word : Text) (words : List Text) (next : Readies words × Waits words) where
    abbrev later : Option (List GivenArgument)
    later = arguments_of choices words None

    abbrev Gives : Walk → List GivenArgument → GivenArgument → Type 0
    Gives w items item = read_from w (word ∷ words) ≡ wanted choices (before items (option_map (λ more. item ∷ more) later))

    -- the word gives an item
    gives_one : (w : Walk) (h : Held) (items : List GivenArgument) (item : GivenArgument) (observed : Bool) → turn w word ≡ ([], walk_at h idle observed) → observed ≡ is_given operand (items ++ item ∷ [])
        → IsReady h (items ++ item ∷ []) → Gives w items item
    gives_one w h items item observed turns is ready =
        goes_on w (walk_at h idle observed) word words turns ∙ next.0 h (items ++ item ∷ []) observed is ready ∙ ap (wanted choices) (before-item items item later)

    -- the operand was observed as before
    still : (name value : Text) (items : List GivenArgument) (observed : Bool) → bytes_eq name operand ≡ false → observed ≡ is_given operand items → observed ≡ is_given operand (items ++ given name value ∷ [])
    still name value items observed other is = is ∙ sym (operand-push items name value ∙ ap (λ b. is_given operand items || (b || false)) other ∙ or_none (is_given operand items))

    ready_plain : (h : Held) (items : List GivenArgument) (observed : Bool) → PlainWord word → observed ≡ is_given operand items → IsReady h items → Gives (walk_at h idle observed) items (given operand word)
    ready_plain h items true w is ready =
        stops (walk_at h idle true) word words (ap is_empty (second_fault word h w)) ∙ sym (unwanted_again choices items (given operand word) later (sym is))
    ready_plain h items false w is ready = elim (cases_Bool (each_once items)) [
      | inr twice ↦ stops (walk_at h idle false) word words (ap (λ (p : Kinds × Walk). is_empty p.0) (first_turn word h w) ∙ faulty h items ready twice)
          ∙ sym (unwanted choices items (option_map (λ more. given operand word ∷ more) later) twice)
      | inl once ↦ gives_one (walk_at h idle false) (held_at items (Some (operand, word ∷ []))) items (given operand word) true
          (first_turn word h w ∙ ap₂ (λ f k. (f, walk_at (pushed operand word k) idle true)) (ready.fault ∙ ap conflict once) (ready.rows once))
          (sym (operand-push items operand word ∙ or_right (is_given operand items) true refl)) (pending_ready items operand None (Some 1) true word once refl)
    ]

    waits_plain : (name : Text) (required : Bool) (items : List GivenArgument) (observed : Bool) → PlainWord word → IsKnown choices name true required → observed ≡ is_given operand items → each_once items ≡ true
        → Gives (walk_at (held_at items (Some (name, []))) (option name) observed) items (given name word)
    waits_plain name required items observed w k is once =
        gives_one (walk_at (held_at items (Some (name, []))) (option name) observed) (held_at items (Some (name, word ∷ []))) items (given name word) observed
        (value_turn name word items observed required w k) (still name word items observed k.other is) (pending_ready items name (Some name) None required word once k.found)

    module _ (text : Text) (w : LongWord word text) (h : Held) (items : List GivenArgument) (observed : Bool) (is : observed ≡ is_given operand items) (once : each_once items ≡ true) (ready : IsReady h items) where
      -- a use of an option that is whole
      reacts : (name : Text) (has_value required : Bool) (value : Text) → Fits has_value value → IsKnown choices name has_value required
          → turn (walk_at h idle observed) word
          ≡ (
            or_else (or_else (settle_fault rules false h) (use_fault false (ruled name (Some name) None has_value required) (values_for has_value value) (settled rules h).rows)) [],
            walk_at (record (settled rules h) { rows = used (ruled name (Some name) None has_value required) (values_for has_value value) (settled rules h).rows }) idle observed,
          )
          → Gives (walk_at h idle observed) items (given name value)
      reacts name has_value required value fits k turns =
          let r = ruled name (Some name) None has_value required in
          let item = given name value in
          let turn_is : turn (walk_at h idle observed) word
          ≡ (or_else (conflict (not (is_given name items))) [], walk_at (held_rows (used r (values_for has_value value) (map row items))) idle observed) =
          turns ∙ ap₂ (λ f (s : Held). (or_else (or_else f (use_fault false r (values_for has_value value) s.rows)) [], walk_at (record s { rows = used r (values_for has_value value) s.rows }) idle observed))
          (ready.fault ∙ ap conflict once) (ready.rows once)
          ∙ ap (λ f. (or_else f [], walk_at (held_rows (used r (values_for has_value value) (map row items))) idle observed)) (use_faults name (Some name) None has_value required value items) in
          elim (cases_Bool (is_given name items)) [
            | inl again ↦ stops (walk_at h idle observed) word words (ap (λ (p : Kinds × Walk). is_empty p.0) turn_is ∙ ap (λ b. is_empty (or_else (conflict (not b)) [])) again)
                ∙ sym (unwanted_again choices items item later again)
            | inr fresh ↦ gives_one (walk_at h idle observed) (held_at (items ++ item ∷ []) None) items item observed
                (turn_is ∙ ap₂ (λ b rs. (or_else (conflict (not b)) [], walk_at (held_rows rs) idle observed)) fresh (use_rows name (Some name) None has_value required value items fits fresh))
                (still name value items observed k.other is) (ready_at (items ++ item ∷ []) (once-fresh items item once ∙ ap not fresh))
          ]

      abbrev Here : Option Choice → Option Text → Type 0
      Here o v = read_from (walk_at h idle observed) (word ∷ words) ≡ wanted choices (before items (follow (choice_step o v) (arguments_of choices words)))

      long_choice : (name : Text) (has_value required : Bool) (v : Option Text)
          → choice_named choices (name_before text) ≡ Some (record { name = name; has_value = has_value; is_required = required }) → value_behind text ≡ v
          → IsKnown choices name has_value required → Here (Some (record { name = name; has_value = has_value; is_required = required })) v
      long_choice name true required None here valued k =
          goes_on (walk_at h idle observed) (walk_at (held_at items (Some (name, []))) (option name) observed) word words
          (long_turn idle observed word text h _ None w here valued
          ∙ ap₂ (λ f (s : Held). (or_else f [], walk_at (record s { pending = Some (name, []) }) (option name) observed)) (ready.fault ∙ ap conflict once) (ready.rows once))
          ∙ next.1 name required items observed k is once
      long_choice name true required (Some v) here valued k =
          reacts name true required v (λ e. absurd (true≢false e)) k (long_turn idle observed word text h _ (Some v) w here valued)
      long_choice name false required None here valued k =
          reacts name false required (codes "true") (λ e. refl) k (long_turn idle observed word text h _ None w here valued)
      long_choice name false required (Some v) here valued k =
          stops (walk_at h idle observed) word words (ap (λ (p : Kinds × Walk). is_empty p.0) (long_turn idle observed word text h _ (Some v) w here valued))

      sound_long : (o : Option Choice) → choice_named choices (name_before text) ≡ o → Here o (value_behind text)
      sound_long None here = stops (walk_at h idle observed) word words (ap (λ (p : Kinds × Walk). is_empty p.0) (long_turn idle observed word text h None (value_behind text) w here refl))
      sound_long (Some choice) here =
          long_choice choice.name choice.has_value choice.is_required (value_behind text) here refl (known choices (name_before text) choice w.named here)

    ready_long : (text : Text) (h : Held) (items : List GivenArgument) (observed : Bool) → LongWord word text → observed ≡ is_given operand items → IsReady h items
        → read_from (walk_at h idle observed) (word ∷ words) ≡ wanted choices (before items (follow (choice_step (choice_named choices (name_before text)) (value_behind text)) (arguments_of choices words)))
    ready_long text h items observed w is ready = elim (cases_Bool (each_once items)) [
      | inl once ↦ sound_long text w h items observed is once ready (choice_named choices (name_before text)) refl
      | inr twice ↦ long_stops idle observed word text words h w (faulty h items ready twice) ∙ sym (unwanted choices items _ twice)
    ]

    one_more : is_legal word ≡ true → Readies (word ∷ words) × Waits (word ∷ words)
    unfolding arguments_of
    one_more legal = go (legal_word word legal)
      where
        go : PlainWord word ⊎ ((text : Text) × LongWord word text) → Readies (word ∷ words) × Waits (word ∷ words)
        go (inl w) = (
          λ h items observed is ready. rw (w.plain) (ready_plain h items observed w is ready),
          λ name required items observed k is once. rw (w.plain) (waits_plain name required items observed w k is once),
        )
        go (inr t) = (
          λ h items observed is ready. rw (t.1.plain, t.1.says) (ready_long t.0 h items observed t.1 is ready),
          λ name required items observed k is once. rw (t.1.plain) (long_stops (option name) observed word t.0 words (held_at items (Some (name, []))) t.1 (ap is_empty (waiting_fault name required items k))),
        )

  each_line : (words : List Text) → list_all is_legal words ≡ true → Readies words × Waits words
  unfolding walk_fault arguments_of
  each_line [] legal = (
    λ h items observed is ready. ended h items ready ∙ ap (λ all. wanted choices (Some all)) (sym (append-nil items)),
    λ name required items observed k is once. let h = held_at items (Some (name, [])) in
        ap (λ b. cond b (Some (finished rules h)) None) (nonempty_first (settle_fault rules false h) _ (ap is_empty (waiting_fault name required items k))),
  )
  each_line (word ∷ words) legal =
      let parts = and_parts (is_legal word) (list_all is_legal words) legal in
      one_more word words (each_line words parts.1) parts.0

  -- ---- what a parse gives

  pub built_is : built (parser_for choices) ≡ record { top = shape; subs = [] }
  built_is = ap (λ rs. record { top = record shape { rules = rs }; subs = [] }) (filled_rules choices)

  pub parsed : (words : List Text) → list_all is_legal words ≡ true
      → outcome (fault_of (parser_for choices) words) (matches_of (parser_for choices) words) ≡ wanted choices (arguments_of choices words None)
  parsed words legal =
      let fault = ap (λ a. built_fault a nothing_held words) built_is ∙ leaf_fault (record { top = shape; subs = [] }) nothing_held words refl in
      ap₂ outcome fault (ap (λ a. rows_after a.top.rules (names_of a) words) built_is)
      ∙ (each_line words legal).0 nothing_held [] false refl (ready_at [] refl) ∙ ap (wanted choices) (before-nothing (arguments_of choices words None))
    where
      before-nothing : (o : Option (List GivenArgument)) → before [] o ≡ o
      before-nothing None = refl
      before-nothing (Some items) = refl
