use Rattle.tal_macros.proofs.Common.{◌≡◌, [], ◌∷◌, ◌++◌, drop, refl, ap, ◌∙◌, arith, body_named, body_words, known_macros}
use Rattle.tal_macros.proofs.HeadLemmas.{head-refuses, head-continues, body-refuses}
use Rattle.tal_macros.proofs.Known.{known-insert}
use Rattle.tal_macros.proofs.head.define.Goals as goal

pub returns-in-Err : goal.returns-in-Err
returns-in-Err c = record {
  stops = λ count. rw c.new.ensures (head-refuses c.args.source.now c.args.words.now c.args.at _ c.requires.within c.requires.head c.in-Err.kind c.in-Err.ensures count);
  known = refl;
}

pub returns-in-Some : goal.returns-in-Some
returns-in-Some c =
    let closed = c.in-Ok.ensures in
    record {
      stops = λ count. rw c.new-in-Some.ensures
          (body-refuses c.args.source.now c.args.words.now c.args.at _ c.requires.within c.requires.head c.in-Ok.closed.body _ closed.is_body closed.faultless count c.in-Some.nested c.in-Some.is);
      known = refl;
    }

pub returns : goal.returns
returns c =
    let closed = c.in-Ok.ensures in
    let words = c.args.words.now in
    let known = known_macros words c.args.macros.now.entries in
    let name = c.name_of-name.ensures ∙ ap (drop 1) c.text.ensures in
    let key : c.in_ok-key.key.items ≡ c.name_of-name.result.now = c.in_ok-key.ensures.items in
    let inserted = ap (known_macros words) c.in_ok-insert.ensures.entries
    ∙ known-insert words _ c.args.macros.now.entries c.in_ok-key.key c.in-Ok.closed.body (λ one other. refl) (ap (body_named known) (key ∙ name) ∙ closed.new)
    ∙ ap (λ text. known ++ record { name = text; body = body_words words c.in-Ok.closed.body } ∷ []) (key ∙ name) in
    record {
      ahead = omega (arith, closed.is_body.from, closed.is_body.ordered);
      within = closed.is_body.within;
      continues = λ count. rw inserted
          (head-continues c.args.source.now words c.args.at known c.requires.within c.requires.head c.in-Ok.closed.body _ closed.is_body closed.faultless count c.in_default.is);
    }
