-- The pass over the tokens, one token at a time.
use Rattle.std.proofs.Common.{◌≡◌, ℕ, ◌+◌, ◌<◌, ◌≤◌, Bool, true, false, List, [], ◌∷◌, ◌++◌, length, get_or, take, drop, Option, Some, None, refl, ap}
use Rattle.std.proofs.Common.{sym, ◌∙◌, arith, append-nil}
use Rattle.std.specs.Prelude.{if◌then◌else◌, nat_lt, fold, ◌||◌, ◌==◌}
use Rattle.std.proofs.lemmas.List.{drop_more, take_more, drop_all}
use Rattle.std.proofs.lemmas.Bool.{le-ltb, lt-ltb, ne_eqb, eq-eqb}
use Rattle.uxn_limits.specs.declared.limits.TheConstants.{WORD_LIMIT}
use Rattle.tal_words.specs.declared.span.Word.{Word}
use Rattle.tal_words.specs.declared.fault.Fault.{Fault}
use Rattle.tal_words.specs.declared.fault.FaultKind.TheVariants.{OpenComment, LongWord, StrayParen}
use Rattle.tal_words.specs.Order.{each, collected}
use Rattle.tal_words.specs.Source.{begins, word_text}
use Rattle.tal_words.specs.Faults.{phase_fault, fault_at}
use Rattle.tal_words.specs.Comments.{depth_after, comment_depth, closed_comment, validated_token, word_given}
use Rattle.tal_words.proofs.PassLemmas.{given-more, given-all}

fold-more : {X Y : Type 0} (step : Y → X → Y) (start : Y) (items : List X) (last : X) → fold step start (items ++ last ∷ []) ≡ step (fold step start items) last
fold-more step start [] last = refl
fold-more step start (item ∷ items) last = fold-more step (step start item) items last

module _ (source : List ℕ) where
  comment_depth-more : (before : List Word) (token : Word) → comment_depth source (before ++ token ∷ []) ≡ depth_after (comment_depth source before) (word_text source token)
  unfolding comment_depth
  comment_depth-more before token = fold-more (λ depth token. depth_after depth (word_text source token)) 0 before token

  -- the first fault of what is left, where a token has opened the comment around it, if there is one
  unfoldable pub fault_left : Word → List Word → List Word → Option Fault
  fault_left opener before left =
      if comment_depth source before == 0 || closed_comment source before left then phase_fault (each (validated_token source) before left)
      else Some (fault_at opener OpenComment)

  module _ (before : List Word) (token : Word) (after : List Word) (opener : Word) where
    -- a token inside comments
    within_left : (comment_depth source before == 0) ≡ false → fault_left opener before (token ∷ after) ≡ fault_left opener (before ++ token ∷ []) after
    unfolding fault_left
    within_left inside = rw inside refl

    module _ (outside : (comment_depth source before == 0) ≡ true) where
      -- one that opens a comment
      opener_left : begins 40 (word_text source token) ≡ true → (comment_depth source (before ++ token ∷ []) == 0) ≡ false
          → (closed : Bool) → closed_comment source (before ++ token ∷ []) after ≡ closed
          → fault_left opener before (token ∷ after) ≡ fault_left token (before ++ token ∷ []) after
      unfolding fault_left
      opener_left opens inside true closed = rw (outside, opens, inside, closed) refl
      opener_left opens inside false closed = rw (outside, opens, inside, closed) refl

      module _ (plain : begins 40 (word_text source token) ≡ false) where
        -- a word without a fault
        word_left : (comment_depth source (before ++ token ∷ []) == 0) ≡ true → nat_lt WORD_LIMIT (length (word_text source token)) ≡ false
            → begins 41 (word_text source token) ≡ false → fault_left opener before (token ∷ after) ≡ fault_left opener (before ++ token ∷ []) after
        unfolding fault_left
        word_left still short unstray = rw (outside, plain, short, unstray, still) refl

        -- a word that is too long
        long_left : nat_lt WORD_LIMIT (length (word_text source token)) ≡ true
            → fault_left opener before (token ∷ after) ≡ Some (fault_at token LongWord)
        unfolding fault_left
        long_left long = rw (outside, plain, long) refl

        -- a word that closes no comment
        stray_left : nat_lt WORD_LIMIT (length (word_text source token)) ≡ false → begins 41 (word_text source token) ≡ true
            → fault_left opener before (token ∷ after) ≡ Some (fault_at token StrayParen)
        unfolding fault_left
        stray_left short stray = rw (outside, plain, short, stray) refl

-- what represents the token past the end
abbrev pub no_token : Word
no_token = record { span = record { start = 0; end = 0 }; line = 0; column = 0 }

-- the state of the pass: the words so far, the comments that are open, and the token that opened the outermost
pub record Passes (source : List ℕ) (all : List Word) (k : ℕ) (words : List Word) (depth : ℕ) (opener : Word) : Type 0 where
  pub so_far : words ++ collected (word_given source) (take k all) (drop k all) ≡ collected (word_given source) [] all
  pub first : phase_fault (each (validated_token source) [] all) ≡ fault_left source opener (take k all) (drop k all)
  pub depth_now : depth ≡ comment_depth source (take k all)
  pub bound : depth ≤ k

pub pass_start : (source : List ℕ) (all : List Word) (opener : Word) → Passes source all 0 [] 0 opener
unfolding fault_left comment_depth
pass_start source all opener = record { so_far = refl; first = refl; depth_now = refl; bound = omega arith }

module _ (source : List ℕ) (all : List Word) (k : ℕ) (words : List Word) (depth : ℕ) (opener : Word) (text : List ℕ) (token : Word)
    (within : k < length all) (is_token : get_or all k no_token ≡ token) (is_text : text ≡ word_text source token)
    (pass : Passes source all k words depth opener) where
  left : phase_fault (each (validated_token source) [] all) ≡ fault_left source opener (take k all) (token ∷ drop (k + 1) all)
  left =
      pass.first
      ∙ ap (fault_left source opener (take k all)) (drop_more all k no_token within ∙ ap (λ first. first ∷ drop (k + 1) all) is_token)

  taken : take (k + 1) all ≡ take k all ++ token ∷ []
  taken = take_more all k no_token within ∙ ap (λ last. take k all ++ last ∷ []) is_token

  inside : 0 < depth → (comment_depth source (take k all) == 0) ≡ false
  inside above = ne_eqb _ 0 (λ none. omega (arith, pass.depth_now))

  outside : depth ≤ 0 → (comment_depth source (take k all) == 0) ≡ true
  outside low = eq-eqb _ 0 (omega (arith, pass.depth_now))

  next_depth : depth_after depth text ≡ comment_depth source (take k all ++ token ∷ [])
  next_depth =
      ap (depth_after depth) is_text ∙ ap (λ n. depth_after n (word_text source token)) pass.depth_now ∙ sym (comment_depth-more source (take k all) token)

  read : (byte : ℕ) (answer result : Bool) → result ≡ begins byte text → result ≡ answer → begins byte (word_text source token) ≡ answer
  read byte answer result ensured tested = ap (begins byte) (sym is_text) ∙ sym ensured ∙ tested

  -- one token more
  next : (more piece : List Word) (next_opener : Word) (now : ℕ) → word_given source (take k all) token (drop (k + 1) all) ≡ piece → more ≡ words ++ piece
      → fault_left source opener (take k all) (token ∷ drop (k + 1) all) ≡ fault_left source next_opener (take k all ++ token ∷ []) (drop (k + 1) all)
      → now ≡ depth_after depth text → now ≤ depth + 1 → Passes source all (k + 1) more now next_opener
  next more piece next_opener now here added step is_now low = record {
    so_far =
        given-more (word_given source) all k words (collected (word_given source) [] all) no_token piece more within pass.so_far
        (ap (λ first. word_given source (take k all) first (drop (k + 1) all)) is_token ∙ here) added;
    first = left ∙ step ∙ ap (λ before. fault_left source next_opener before (drop (k + 1) all)) (sym taken);
    depth_now = is_now ∙ next_depth ∙ ap (comment_depth source) (sym taken);
    bound = omega (arith, pass.bound);
  }

  pub step_within : 0 < depth → (now : ℕ) → now ≡ depth_after depth text → now ≤ depth + 1 → Passes source all (k + 1) words now opener
  step_within above now is_now low =
      let here : word_given source (take k all) token (drop (k + 1) all) ≡ [] = rw (inside above) refl in
      next words [] opener now here (sym (append-nil words)) (within_left source (take k all) token (drop (k + 1) all) opener (inside above)) is_now low

  module _ (low : depth ≤ 0) (result : Bool) (ensured : result ≡ begins 40 text) where
    none : depth ≡ 0
    none = omega arith

    pub step_opener : result ≡ true → Passes source all (k + 1) words 1 token
    step_opener tested =
        let opens : begins 40 (word_text source token) ≡ true = read 40 true result ensured tested in
        let here : word_given source (take k all) token (drop (k + 1) all) ≡ [] = rw (outside low, opens) refl in
        let one : 1 ≡ depth_after depth text = rw (none, sym ensured ∙ tested) refl in
        next words [] token 1 here (sym (append-nil words))
        (opener_left source (take k all) token (drop (k + 1) all) opener (outside low) opens
        (ne_eqb _ 0 (λ never. omega (arith, one, next_depth))) (closed_comment source (take k all ++ token ∷ []) (drop (k + 1) all)) refl)
        one (omega arith)

    module _ (tested : result ≡ false) where
      plain : begins 40 (word_text source token) ≡ false
      plain = read 40 false result ensured tested

      pub step_word : (closes : Bool) → length text ≤ WORD_LIMIT → closes ≡ begins 41 text → closes ≡ false → Passes source all (k + 1) (words ++ token ∷ []) depth opener
      step_word closes short ensured_closes tested_closes =
          let here : word_given source (take k all) token (drop (k + 1) all) ≡ token ∷ [] = rw (outside low, plain) refl in
          let same : depth ≡ depth_after depth text = rw (none, sym ensured ∙ tested) refl in
          next (words ++ token ∷ []) (token ∷ []) opener depth here refl
          (word_left source (take k all) token (drop (k + 1) all) opener (outside low) plain (eq-eqb _ 0 (omega (arith, same, next_depth)))
          (le-ltb WORD_LIMIT _ (rw is_text at short)) (read 41 false closes ensured_closes tested_closes)) same (omega arith)

      pub step_long : WORD_LIMIT < length text → phase_fault (each (validated_token source) [] all) ≡ Some (fault_at token LongWord)
      step_long long =
          left ∙ long_left source (take k all) token (drop (k + 1) all) opener (outside low) plain
          (lt-ltb WORD_LIMIT _ (rw is_text at long))

      pub step_stray : (closes : Bool) → length text ≤ WORD_LIMIT → closes ≡ begins 41 text → closes ≡ true
          → phase_fault (each (validated_token source) [] all) ≡ Some (fault_at token StrayParen)
      step_stray closes short ensured_closes tested_closes =
          left ∙ stray_left source (take k all) token (drop (k + 1) all) opener (outside low) plain
          (le-ltb WORD_LIMIT _ (rw is_text at short)) (read 41 true closes ensured_closes tested_closes)

-- all tokens have passed: the open comment is the fault, or there is none
module _ (source : List ℕ) (all : List Word) (k : ℕ) (words : List Word) (depth : ℕ) (opener : Word) (past : length all ≤ k)
    (pass : Passes source all k words depth opener) where
  pub step_open : 0 < depth → phase_fault (each (validated_token source) [] all) ≡ Some (fault_at opener OpenComment)
  unfolding fault_left
  step_open above =
      let inside : (comment_depth source (take k all) == 0) ≡ false = ne_eqb _ 0 (λ none. omega (arith, pass.depth_now)) in
      let first = pass.first in
      rw (drop_all k all past, inside) at first

  pub step_end : depth ≤ 0 → (phase_fault (each (validated_token source) [] all) ≡ None) × (words ≡ collected (word_given source) [] all)
  unfolding fault_left
  step_end low =
      let outside : (comment_depth source (take k all) == 0) ≡ true = eq-eqb _ 0 (omega (arith, pass.depth_now)) in
      let first = pass.first in
      (rw (drop_all k all past, outside) at first, given-all (word_given source) all k words (collected (word_given source) [] all) past pass.so_far)
