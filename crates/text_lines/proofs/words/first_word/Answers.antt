use Rattle.std.proofs.lemmas.Grind.{common_steps}
use Rattle.std.proofs.Common.{◌≡◌, ◌<◌, ◌-◌, ℕ, List, take, drop, length, arith, rules, tests}
use Rattle.std.proofs.lemmas.List.{length-drop, take_all, nil_from_length}
use Rattle.text_lines.proofs.Cutting.{after_blanks, no_words, some_word, cut_is}
use Rattle.text_lines.proofs.words.first_word.Goals as goal

-- what is left behind the first so many
whole : (line : List ℕ) (n : ℕ) → take (length line - n) (drop n line) ≡ drop n line
whole line n = take_all _ (drop n line) (omega (arith, length-drop n line))

pub returns-then-is_empty-clause-words : goal.returns-then-is_empty-clause-words
returns-then-is_empty-clause-words c = grind (arith, common_steps, after_blanks, nil_from_length, no_words, whole)

pub returns-clause-words : goal.returns-clause-words
returns-clause-words c =
    let n = c.prefix.result in
    let m = c.prefix-2.result in
    let line = c.args.line.now in
    let left = whole line n in
    let inside = rw left at c.prefix-2.ensures in
    let cut = rw left at c.split_at.ensures in
    let empty = rw left at c.is_empty.ensures in
    let more : 0 < length (drop n line) = search (rules, tests) in
    let some = some_word n m line c.prefix.ensures.last more inside.last in
    rw (cut.front, cut.back) (cut_is n m line c.prefix.ensures.within c.prefix.ensures.each some inside.within inside.each inside.last)
