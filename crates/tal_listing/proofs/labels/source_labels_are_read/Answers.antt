use Rattle.std.proofs.Common.{◌≡◌, true, List, [], ◌∷◌, refl, arith}
use Rattle.std.specs.List.{AllByRecursion}
use Rattle.std.proofs.lemmas.Bool.{and_from}
use Rattle.std.proofs.lemmas.Bool.Decides.{nat_tests}
use Rattle.tal_words.specs.declared.name.Label.{Label}
use Rattle.tal_macros.specs.Expansion.{expanded_of}
use Rattle.tal_macros.proofs.BlankLemmas.{expanded_free}
use Rattle.tal_labels.specs.Labels.{IsNamed}
use Rattle.tal_labels.proofs.LabelNames.{all_named}
use Rattle.tal_rom.specs.Assembly.{layout}
use Rattle.tal_symbols.specs.SymbolFile.{is_readable, are_readable}
use Rattle.tal_symbols.proofs.WritingLemmas.{read_back}
use Rattle.tal_listing.proofs.labels.source_labels_are_read.Goals as goal

named_readable : (labels : List Label) → AllByRecursion IsNamed labels → are_readable labels ≡ true
named_readable [] all = refl
named_readable (label ∷ labels) all =
    and_from (is_readable label) (are_readable labels) (grind (arith, nat_tests, all.0.some, all.0.blank_free)) (named_readable labels all.1)

pub returns-clause-readable : goal.returns-clause-readable
unfolding layout
returns-clause-readable c = λ source. named_readable (layout source).labels (all_named source (expanded_of source) (expanded_free source))

pub returns-clause-read_back : goal.returns-clause-read_back
returns-clause-read_back c = λ source short. read_back (layout source).labels (returns-clause-readable c source) short
