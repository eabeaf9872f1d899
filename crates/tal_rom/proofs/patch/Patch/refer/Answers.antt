use Rattle.tal_rom.proofs.Common.{◌≡◌, ◌+◌, refl, ap, sym, ◌∙◌, arith, false, append-nil, address_named}
use Rattle.std.proofs.Math.Bool.{and-true}
use Rattle.tal_rom.proofs.Holding.{holds_more, named_waits, waiting_small}
use Rattle.tal_rom.proofs.Moving.{hole_filled}
use Rattle.tal_rom.proofs.patch.Patch.refer.Goals as goal

pub returns-in-Some-clause-ok : goal.returns-in-Some-clause-ok
returns-in-Some-clause-ok c model placed text closed named next so =
    let old = c.args.self.now in
    let filled = c.fill.ensures in
    let looked = c.in_ok-target.ensures in
    let known = ap (address_named model.labels) (sym named) ∙ sym (so.known c.args.name.items) ∙ sym looked.value ∙ c.in-Some.is in
    let wanted = rw (so.known c.args.name.items, named) at looked.ok in
    holds_more model placed _ text _ next false old c.fill.new.self
    (record {
      memory = rw (closed, known) (filled.memory ∙ hole_filled c.in-Some.target c.args.hole.rune text c.args.hole.address old.memory.items);
      waiting = rw (closed, known) (omega (arith, filled.waiting));
      fits = rw (closed, known) (filled.fits ∙ grind arith);
      known = λ name. rw filled.names (looked.known name);
      wanted = λ name. rw (closed, filled.names, named_waits model.labels c.args.hole _ name) (wanted name);
      openers = rw (filled.openers, append-nil) refl;
    })
    so

pub returns-in-None-clause-ok : goal.returns-in-None-clause-ok
returns-in-None-clause-ok c model placed text closed named next so =
    let old = c.args.self.now in
    let looked = c.in_ok-target.ensures in
    let small = waiting_small model placed _ text _ next old so in
    let unknown = ap (address_named model.labels) (sym named) ∙ sym (so.known c.args.name.items) ∙ sym looked.value ∙ c.in-None.is in
    let wanted = rw (so.known c.args.name.items, named) at looked.ok in
    let raised : c.saturating_add-self.result ≡ old.waiting + 1 = omega (arith, small, c.saturating_add-self.ensures) in
    holds_more model placed _ text _ next false old _
    (record {
      memory = rw (closed, unknown) refl;
      waiting = rw (closed, unknown) raised;
      fits = rw (closed, unknown) (sym (and-true old.fits));
      known = looked.known;
      wanted = λ name. rw (closed, named_waits model.labels c.args.hole _ name) (wanted name);
      openers = rw append-nil refl;
    })
    so
