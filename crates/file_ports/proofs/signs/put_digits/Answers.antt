use Rattle.std.proofs.lemmas.Grind.{common_steps}
use Rattle.std.proofs.Common.{ℕ, ◌≡◌, ◌∙◌, ap, sym, arith}
use Rattle.std.proofs.lemmas.List.{length-set}
use Rattle.uxn_memory.specs.Bytes.{with_bytes}
use Rattle.file_ports.specs.Signs.{hex_digits}
use Rattle.file_ports.proofs.MemoryLemmas.{with_nothing}
use Rattle.file_ports.proofs.SignLemmas.{digit_put, digits-none}
use Rattle.file_ports.proofs.signs.put_digits.Goals as goal

pub loop-left-preserved : goal.loop-left-preserved
loop-left-preserved c = grind (arith, common_steps, digit_put, length-set)

pub returns : goal.returns
returns c =
    let none : c.loop-left.left ≡ 0 = omega arith in
    sym (with_nothing c.loop-left.memory c.args.span.at)
    ∙ ap (with_bytes c.loop-left.memory c.args.span.at) (sym (digits-none c.loop-left.rest) ∙ ap (λ (n : ℕ). hex_digits n c.loop-left.rest) (sym none))
    ∙ c.loop-left.invariant.digits
