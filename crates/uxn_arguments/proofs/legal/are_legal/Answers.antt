use Rattle.std.proofs.Common.{◌∙◌, string_bytes, rules, tests}
use Rattle.std.proofs.lemmas.Iterator.{YieldsList-from_slice}
use Rattle.std.proofs.lemmas.Iterator.Search.{all_from_yields_List}
use Rattle.uxn_arguments.specs.Choices.{is_legal}
use Rattle.uxn_arguments.proofs.ReadingLemmas.{list_all-map}
use Rattle.uxn_arguments.proofs.legal.are_legal.Goals as goal

pub returns : goal.returns
returns c =
    all_from_yields_List (λ word. is_legal (string_bytes word)) _ _ _ c.all.ensures.ran (YieldsList-from_slice _ c.iter.ensures.rest) (λ x b q k. search (rules, tests))
    ∙ list_all-map is_legal string_bytes c.args.words.now
