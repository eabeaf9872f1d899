use Rattle.std.proofs.Common.{◌≡◌, Bool, true, false, cond, List, [], Option, Some, None, refl, rules}
use Rattle.std.specs.Prelude.{is_some}
use Rattle.uxn_undo.specs.Kept.{Kept}
use Rattle.uxn_debugger.specs.Watching.{held_in}
use Rattle.uxn_debugger.proofs.debugger.Debugger.with_undo.Goals as goal

-- there is something that keeps moments where some command goes back, and it holds none yet
abbrev kept_by : Bool → Option (List Kept)
kept_by back = cond back (Some []) None

goes_back : (back : Bool) → is_some (kept_by back) ≡ back
goes_back true = refl
goes_back false = refl

holds_none : (back : Bool) → held_in (kept_by back) ≡ []
holds_none true = refl
holds_none false = refl

pub returns : goal.returns
returns c = search (rules, c.requires, goes_back, holds_none)
