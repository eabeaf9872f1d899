use Rattle.tal_rom.proofs.Common.{ap, sym, ◌∙◌, err_from_is_err_and, expanded_text, next_scope, scope_after-append, model_of}
use Rattle.tal_labels.specs.Scopes.{scope_text}
use Rattle.tal_labels.proofs.NextWord.{given_next}
use Rattle.tal_rom.proofs.patcher.Patcher.add.Goals as goal

pub after-self-requires : goal.after-self-requires
after-self-requires c = (given_next c.args.source.now c.requires.given.0 c.args.word.now c.requires.given.1).formed

pub returns-clause-added : goal.returns-clause-added
returns-clause-added c words few so given =
    let source = c.args.source.now in
    let placed = c.args.word.now in
    let next = given_next source words placed given in
    record {
      sound = next.sound_all;
      scope = c.after-self.ensures
          ∙ ap (λ s. next_scope placed.form (scope_text source s) (expanded_text source placed.word)) c.in_ok-take.ensures.scope
          ∙ ap (λ s. next_scope placed.form s (expanded_text source placed.word)) so.scope
          ∙ sym (scope_after-append source words placed.word placed.form next.formed);
      holds = c.in_ok-take.ensures.added words few so given;
    }

pub returns-in_err-take-clause-err : goal.returns-in_err-take-clause-err
returns-in_err-take-clause-err c =
    let p = err_from_is_err_and c.from_residual.result c.from_residual.ensures.1 in
    rw p.1 (λ words so. record {
      sound = so.sound;
      scope = ap (scope_text c.args.source.now) c.in_err-take.ensures.scope ∙ so.scope;
      holds = c.in_err-take.ensures.err (model_of c.args.source.now words) so.holds;
    })
