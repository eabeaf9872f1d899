use Rattle.uxn_undo.proofs.Common.{◌-◌, refl, arith}
use Rattle.uxn_undo.proofs.Joined.{at_moment, length_held}
use Rattle.uxn_undo.proofs.undo.Undo.address.Goals as goal

pub nth-requires : goal.nth-requires
nth-requires c = omega (arith, length_held c.self.inside.rows.items c.self.inside.records.items c.self.inside.bytes.items c.args.self.now c.self.view_is)

pub returns : goal.returns
returns c =
    rw (← c.self.view_is) (at_moment c.self.inside.rows.items (λ kept. kept.at) (λ r. r.at) (λ r bytes. refl) c.self.inside.records.items
    c.self.inside.bytes.items (c.args.back - 1) c.nth.result.now c.nth.ensures)
