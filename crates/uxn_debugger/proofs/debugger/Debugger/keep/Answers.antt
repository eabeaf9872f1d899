use Rattle.std.proofs.Common.{◌≡◌, length, rules, sym, ap, ◌∙◌, arith}
use Rattle.std.proofs.lemmas.List.{ext_get_or}
use Rattle.uxn_debugger.proofs.debugger.Debugger.keep.Goals as goal

pub returns : goal.returns
returns g c page moment is_page =
    let size : length (g.P.Ports.stored c.args.ports.now) ≡ 256 = sym (ap length c.stored_page.ensures) ∙ c.has_all_ports.ensures in
    let stored = ext_get_or 0 _ page.stored (size ∙ sym is_page.stored_size) (λ i less. is_page.holds i (omega (arith, size))) in
    search (rules, stored, c.keep.ensures, c.in-Some.is)
