use Rattle.std.proofs.Common.{◌++◌, ◌∷◌, ap, ◌∙◌}
use Rattle.std.specs.Result.{result_ok}
use Rattle.uxn_io_traits.specs.PathText.{path_of}
use Rattle.uxn_io_traits.proofs.ComponentLemmas.{joined_answer}
use Rattle.uxn_io_traits.proofs.paths.Path.join.Goals as goal

pub returns : goal.returns
returns c =
    let text = c.as_slice.ensures.value ∙ c.with_slash-text.ensures ∙ (λ i. c.bytes.ensures.text i ++ 47 ∷ c.bytes-2.ensures.text i) in
    c.ok.ensures.value
    ∙ ap result_ok (c.read.ensures ∙ ap path_of text)
    ∙ joined_answer c.args.self.now c.args.tail.now c.bytes.ensures.path c.bytes-2.ensures.path
