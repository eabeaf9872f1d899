use Rattle.tal_rom.proofs.Common.{◌≡◌, ◌-◌, ◌&&◌, take, fold, list_all, reaches, filled_hole}
use Rattle.tal_rom.proofs.patch.Patch.fill_all.Given as goal

abbrev pub invariant-loop-hole : goal.invariant-loop-hole
invariant-loop-hole l = record {
  memory : l.self.memory.items ≡ fold (filled_hole l.target) l.fn.self.memory.items (take l.hole-index l.holes);
  fits : l.self.fits ≡ (l.fn.self.fits && list_all (λ hole. reaches hole.rune hole.address l.target) (take l.hole-index l.holes));
  waiting : l.self.waiting ≡ l.fn.self.waiting - l.hole-index;
  names : l.self.names ≡ l.fn.self.names;
  openers : l.self.openers ≡ l.fn.self.openers;
}
