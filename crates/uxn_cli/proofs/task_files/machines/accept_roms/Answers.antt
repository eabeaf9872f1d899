use Rattle.uxn_cli.proofs.Common.{Err, [], ap, arith, length, refl, rules, ◌+◌, ◌∙◌, ◌∷◌, ◌≡◌, ◌≤◌, length-append}
use Rattle.uxn_cli.proofs.Common.{All-push, ByteList, largest_rom, map-append, machine_of, gather-stop, gather-more, gather-end, leads-more, drop_more}
use Rattle.uxn_io_traits.specs.AskingLaws.{leads-start, leads-no-memory}
use Rattle.uxn_io_traits.specs.declared.halt.Halt.TheVariants.{NoMemory}
use Rattle.uxn_cli.proofs.task_files.machines.accept_roms.Goals as goal

pub loop-path-init : goal.loop-path-init
loop-path-init g c = record {
  leads = rw c.new-roms.ensures.items (leads-start _ _);
  count = ap length c.new-roms.ensures.items;
  fit = λ k d less. absurd (let none = ap length c.new-roms.ensures.items in omega (arith, less, none));
}

pub returns-in_err-rom-clause-roms : goal.returns-in_err-rom-clause-roms
returns-in_err-rom-clause-roms g c =
    let result : c.from_residual.result ≡ Err c.in_err-rom.field-0.0 = search rules in
    rw result (gather-stop machine_of _ _ _ _ _ _ c.loop-path.invariant.leads _ _ _ _ _ c.loop-path-test.true c.path-item.is c.in_err-rom.ensures.rom)

pub returns-in_err-push-clause-roms : goal.returns-in_err-push-clause-roms
returns-in_err-push-clause-roms g c =
    let left = drop_more c.args.paths.now c.loop-path.path-index c.path-item.result c.loop-path-test.true in
    let result : c.from_residual-in_err-push.result ≡ Err NoMemory = search rules in
    let leads = rw (left, ← c.path-item.is) at c.loop-path.invariant.leads in
    rw result (leads-no-memory _ _ _ _ _ (leads-more (λ (text : ByteList). text.list) _ (machine_of c.path-item.result) _ _ _ _ c.in_ok-rom.rom leads c.in_ok-rom.ensures.rom))

pub loop-path-preserved : goal.loop-path-preserved
loop-path-preserved g c =
    let rom = c.in_ok-rom.rom in
    record {
      leads = gather-more machine_of _ _ _ _ _ _ c.loop-path.invariant.leads (λ (text : ByteList). text.list) _ _ rom _ c.loop-path-test.true c.path-item.is
          (rw c.in_ok-push.ensures.items (map-append (λ (text : ByteList). text.list) c.loop-path.roms.items (rom ∷ []))) c.in_ok-rom.ensures.rom;
      count = rw c.in_ok-push.ensures.items (length-append c.loop-path.roms.items (rom ∷ []) ∙ ap (λ n. n + 1) c.loop-path.invariant.count);
      fit = rw c.in_ok-push.ensures.items (All-push (λ (r : ByteList). length r.list ≤ largest_rom) c.loop-path.roms.items rom c.loop-path.invariant.fit c.in_ok-rom.ensures.fits);
    }

pub returns-clause-roms : goal.returns-clause-roms
returns-clause-roms g c = gather-end machine_of _ _ _ _ _ _ c.loop-path.invariant.leads _ c.loop-path.roms c.loop-path-test.false refl
