-- The program is put where all bytes that it needs are kept.
use Rattle.std.proofs.Common.{List, ℕ, ap, sym, ◌∙◌, arith}
use Rattle.uxn_memory.specs.Bytes.{all_bytes, with_bytes}
use Rattle.uxn_memory.proofs.Kept.{all_bytes-with}
use Rattle.uxn_memory.proofs.Memory.load.Goals as goal

pub returns : goal.returns
returns c =
    let items = rw c.from-2.ensures at c.put_bytes.ensures.items in
    ap all_bytes items
    ∙ sym (all_bytes-with c.reach.new.bytes.items 256 c.args.rom.now (omega arith))
    ∙ ap (λ (memory : List ℕ). with_bytes memory 256 c.args.rom.now) (c.reach.ensures.same ∙ c.self.view_is)
