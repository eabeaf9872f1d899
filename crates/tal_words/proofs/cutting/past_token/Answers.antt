use Rattle.std.proofs.Common.{arith, sym, ◌∙◌}
use Rattle.tal_words.proofs.Tokens.{token_fields, past_token, column_bound}
use Rattle.tal_words.proofs.cutting.past_token.Goals as goal

pub overflow_sub-result : goal.overflow_sub-result
overflow_sub-result c = omega (arith, token_fields c.args.source.now c.args.place.at c.args.token c.requires.token)

pub overflow_add-result : goal.overflow_add-result
overflow_add-result c =
    let token = token_fields c.args.source.now c.args.place.at c.args.token c.requires.token in
    omega (arith, token, c.requires.end, c.requires.short, column_bound c.args.source.now c.args.place.at)

pub returns : goal.returns
returns c =
    let token = token_fields c.args.source.now c.args.place.at c.args.token c.requires.token in
    let past = past_token c.args.source.now c.args.place.at c.requires.within c.requires.begins in
    rw token.1 (record {
      within = rw token.1 at c.requires.end;
      line = token.2 ∙ sym past.0;
      column = omega (arith, token, past.1);
      between = past.2;
      tokens = past.3;
      later = omega (arith, past.4);
    })
