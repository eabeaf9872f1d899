-- What is wrong with a word stands in the order of its kinds.
use Rattle.std.proofs.Common.{◌≡◌, ℕ, Bool, true, false, List, [], ◌∷◌, ◌++◌, ◌+◌, Some, None, refl}
use Rattle.std.specs.List.{AllByRecursion}
use Rattle.std.specs.Option.{option_to_list}
use Rattle.std.specs.Prelude.{if◌then◌else◌}
use Rattle.tal_words.specs.declared.fault.FaultKind.TheVariants.{BadName, NoName, MacroTwice, MacroBody, MacroDeep, ManyWords}
use Rattle.tal_words.specs.Faults.{Validated, when}
use Rattle.tal_words.specs.FirstFault.{are_in_order}
use Rattle.tal_words.specs.Names.{name_fault}
use Rattle.tal_words.proofs.FirstLemmas.{two_in_order, three_in_order}
use Rattle.tal_macros.specs.Expansion.{Part, Plain, Head, Inside, Visited, validated_part, validated_visits}

abbrev pub AreInOrder : List Validated → Type 0
AreInOrder words = AllByRecursion (λ word. are_in_order word.kinds ≡ true) words

visits_in_order : (before : ℕ) (words : List Visited) → AreInOrder (validated_visits before words)
visits_in_order before [] = tt
visits_in_order before (word ∷ words) =
    (two_in_order _ _ true true MacroDeep ManyWords MacroDeep MacroDeep refl, visits_in_order (before + 1) words)

named_in_order : (bad twice bare : Bool)
    → are_in_order (option_to_list (if bad then Some BadName else None) ++ when twice MacroTwice ++ when bare MacroBody) ≡ true
named_in_order true twice bare = three_in_order true twice bare true BadName MacroTwice MacroBody BadName refl
named_in_order false twice bare = three_in_order false twice bare true BadName MacroTwice MacroBody BadName refl

head_in_order : (name : List ℕ) (twice bare : Bool)
    → are_in_order (option_to_list (name_fault name) ++ when twice MacroTwice ++ when bare MacroBody) ≡ true
unfolding name_fault
head_in_order [] twice bare = three_in_order true twice bare true NoName MacroTwice MacroBody NoName refl
head_in_order (first ∷ rest) twice bare = named_in_order _ twice bare

inside_in_order : (begins : Bool) → are_in_order (when begins MacroBody) ≡ true
inside_in_order true = refl
inside_in_order false = refl

pub part_in_order : (source : List ℕ) (before after : List Part) (part : Part) → AreInOrder (validated_part source before part after)
part_in_order source before after (Plain word) = visits_in_order _ _
part_in_order source before after (Head word body) = (head_in_order _ _ _, tt)
part_in_order source before after (Inside word) = (inside_in_order _, tt)
