use Rattle.tal_macros.proofs.Common.{ap, ◌∙◌, option_map, body_words}
use Rattle.tal_macros.proofs.Known.{known-lookup}
use Rattle.tal_macros.proofs.body.body_named.Goals as goal

pub returns : goal.returns
returns c = λ words. ap (option_map (body_words words)) (c.copied.ensures ∙ c.get.ensures.value) ∙ known-lookup words c.args.macros.now.entries c.args.name.now
