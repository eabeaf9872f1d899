use Rattle.std.proofs.Common.{◌≡◌, ℕ, ◌*◌, ◌+◌, ◌-◌, ◌≤◌, List, take, drop, replicate, length, ap, sym, arith}
use Rattle.std.proofs.lemmas.List.{take-replicate, drop-replicate, length-replicate}
use Rattle.screen_layers.proofs.Rows.{row_within}
use Rattle.screen_layers.proofs.lazy_plane.LazyPlane.row.Goals as goal

-- a row of pixels that are 0 is the start of a row of the greatest width
blank-row : (kept row plane : List ℕ) (count at width size : ℕ) → replicate count 0 ≡ plane → at + width ≤ length plane → width ≤ 2047 → size ≡ width
    → kept ≡ replicate 2047 0 → row ≡ take 2047 (drop 0 kept) → take size row ≡ take width (drop at plane)
blank-row kept row plane count at width size view room most is blank taken =
    let long : at + width ≤ count = omega (arith, ap length view, length-replicate {A = ℕ} count 0) in
    rw (is, taken, blank, drop-replicate {X = ℕ} 0 2047 0, take-replicate {X = ℕ} 2047 2047 0 (omega arith), take-replicate {X = ℕ} width 2047 0 most)
    (sym (rw (← view, drop-replicate {X = ℕ} at count 0) (take-replicate {X = ℕ} width (count - at) 0 (omega arith))))

pub returns-else-self-clause-pixels : goal.returns-else-self-clause-pixels
returns-else-self-clause-pixels c =
    let view = rw c.if-self.false at c.self.view_is in
    blank-row c.self.inside.plane _ c.args.self.now c.self.inside.count (c.args.y * c.args.size.width) c.args.size.width _ view
    (omega (arith, row_within c.args.y c.args.size.height c.args.size.width c.requires.row, c.requires.plane)) c.requires.width c.from.ensures (c.self.invariant c.if-self.false) c.row-else-self.ensures.pixels
