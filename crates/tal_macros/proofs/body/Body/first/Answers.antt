use Rattle.tal_macros.proofs.Common.{◌≡◌, ◌+◌, ◌-◌, suc, refl, arith, drop_more}
use Rattle.tal_macros.proofs.body.Body.first.Goals as goal

pub returns-then-self-to-clause-word : goal.returns-then-self-to-clause-word
returns-then-self-to-clause-word c =
    let left = drop_more c.args.words.now c.args.self.from (record { span = record { start = 0; end = 0 }; line = 0; column = 0 }) (omega arith) in
    let size : c.args.self.to - c.args.self.from ≡ suc (c.args.self.to - (c.args.self.from + 1)) = omega arith in
    rw (left, size) refl
