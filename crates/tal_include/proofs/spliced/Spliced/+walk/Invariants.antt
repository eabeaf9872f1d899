use Rattle.std.proofs.Common.{◌+◌, ◌*◌, drop}
use Rattle.uxn_io_traits.specs.Inquiry.{through}
use Rattle.uxn_io_traits.specs.Leads.{Leads}
use Rattle.tal_include.specs.Splice.{at_word, through_words, walk}
use Rattle.tal_include.proofs.spliced.Spliced.+walk.Given as goal

abbrev pub decreases-add_include : goal.decreases-add_include
decreases-add_include g l = 2 * l.deeper

abbrev pub decreases-add_words : goal.decreases-add_words
decreases-add_words g l = 2 * l.deeper + 1

-- the walk through all words leads to the walk through those that are left
abbrev pub invariant-add_words-loop-word : goal.invariant-add_words-loop-word
invariant-add_words-loop-word g l =
    Leads (through_words l.deeper (walk l.deeper) l.file.path.now l.file.source.now l.fn.self l.file.words.now)
    (through (at_word l.deeper (walk l.deeper) l.file.path.now l.file.source.now l.number) (drop l.word-index l.file.words.now) l.self)
    (g.T.Tree.state l.fn.tree) (g.T.Tree.state l.tree)
