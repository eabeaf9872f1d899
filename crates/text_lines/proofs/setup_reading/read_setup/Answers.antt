use Rattle.std.proofs.Common.{◌≡◌, false, ltb, length, sym, arith, ◌∙◌, ap}
use Rattle.std.specs.Prelude.{Ok}
use Rattle.uxn_limits.specs.declared.limits.TheConstants.{TEXT_LIMIT}
use Rattle.text_lines.specs.Setups.{setup_of, setup_by}
use Rattle.text_lines.proofs.SetupStepping.{taken, refused}
use Rattle.text_lines.proofs.setup_reading.read_setup.Goals as goal

pub loop-line-preserved-in-Continue-1 : goal.loop-line-preserved-in-Continue-1
loop-line-preserved-in-Continue-1 c =
    taken c.args.text.now c.in-Some.line.now c.loop-line.lines c.next_line.new.self c.loop-line.gathered c.push.new.self c.in-Ok-Some.given
    c.loop-line.invariant c.in-Some.ensures.left c.in-Some.ensures.number (ap Ok (sym c.in-Ok-Some.field-0-is) ∙ c.in-Ok-Some.ensures.line) c.in_ok-push-in-Ok-Some.ensures

pub returns-in-Err : goal.returns-in-Err
unfolding setup_of
returns-in-Err c =
    let short : ltb TEXT_LIMIT (length c.args.text.now) ≡ false = grind (arith, c.if-text-gt-TEXT_LIMIT.false) in
    let line = refused c.args.text.now c.in-Some.line.now c.loop-line.lines c.next_line.new.self c.loop-line.gathered c.in-Err.kind
    c.loop-line.invariant c.in-Some.ensures.left c.in-Some.ensures.number c.in-Err.ensures.line in
    rw (short, c.number-line.ensures) (ap setup_by line)
