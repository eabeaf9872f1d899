-- A new line represents no turns.
use Rattle.uxn_line.proofs.Common.{rules, common_steps, arith, pos, slice_index_or, get_or-map, slice_get-last, slice_get-push, BeginsWith, ◌≡◌, ◌≢◌, ℕ}
use Rattle.uxn_line.proofs.Common.{zero, suc, ◌<◌, inl, inr, Bool, true, false, List, [], ◌∷◌, ◌++◌, get_or, length, refl, sym, ap, ◌∙◌, Some}
use Rattle.uxn_line.proofs.Common.{slice_get, cases_eq, buffer, ByteList, bytes_in, Member, LineJob, script_at, rom_at, first_place, stream, MemberAt}
use Rattle.uxn_line.proofs.Common.{none_turned, RingBefore, InLine, inputs, Result, Ok, Err}
use Rattle.std.specs.Prelude.{IfOk}
use Rattle.text_lines.specs.Scripts.{ScriptView}
use Rattle.text_lines.specs.declared.script.Clock.{Clock}
use Rattle.uxn_line.proofs.Coming.{all-inputs, inputs-some}

-- nothing was given yet
new-ring : (over : Bool) (job : LineJob) (machine : ℕ) (ring : List ℕ) → ring ≡ [] → RingBefore over job none_turned machine ring
new-ring = grind (arith, common_steps, all-inputs)

pub new-in-line : (job : LineJob) (machine : ℕ) (member : Member)
    → MemberAt member (first_place job.budget (rom_at job machine) (script_at job machine)) → member.ring ≡ buffer [] 256
    → InLine job none_turned machine member
new-in-line = grind (arith, common_steps, new-ring)

-- the same by an equal budget and an equal ROM
place-is : (member : Member) (script : ScriptView) (budget other : ℕ) (rom text : List ℕ) → budget ≡ other → rom ≡ text
    → MemberAt member (first_place other text script) → MemberAt member (first_place budget rom script)
place-is member script budget other rom text same equal at = rw (same, equal) at

-- what a new machine of a ROM begins with is what a line gives it at a place
pub begins-in-line : {E : Type 0} (result : Result Member E) (script : ScriptView) (budget machine : ℕ) (rom : List ℕ)
    (texts : List (List ℕ)) (clock : Clock) (all_given : Bool)
    → IfOk result (λ member. (own : ScriptView) → BeginsWith own texts clock all_given → MemberAt member (first_place budget rom own))
    → IfOk result (λ member. member.ring ≡ buffer [] 256)
    → ((job : LineJob) → job.script ≡ script → BeginsWith (script_at job machine) texts clock all_given)
    → IfOk result (λ member. (job : LineJob) → job.script ≡ script → job.budget ≡ budget → rom_at job machine ≡ rom → InLine job none_turned machine member)
begins-in-line = search (rules, new-in-line, place-is)

-- a machine behind another begins with nothing of the script, and is given something
pub behind-begins : (job : LineJob) (machine : ℕ) → machine ≢ 0
    → BeginsWith (script_at job machine) [] (record { seconds = pos 0; offset = pos 0 }) false
behind-begins = grind (arith, common_steps, all-inputs, inputs-some)

-- the ROM at a place
pub rom-there : (roms : List ByteList) (place : ℕ) (rom : ByteList) → place < length roms → rom ≡ get_or roms place rom
    → slice_index_or (bytes_in roms) place [] ≡ rom.list
rom-there roms place rom within is =
    get_or-map (λ (r : ByteList). r.list) roms place rom [] within ∙ ap (λ (r : ByteList). r.list) (sym is)

-- one machine more is in line
pub member-more : (job : LineJob) (items : List Member) (member : Member) (count : ℕ) → length items ≡ count
    → ((machine : ℕ) (other : Member) → slice_get items machine ≡ Some other → InLine job none_turned machine other)
    → InLine job none_turned count member
    → (machine : ℕ) (other : Member) → slice_get (items ++ member ∷ []) machine ≡ Some other → InLine job none_turned machine other
member-more job items member count size each last machine other there = elim (cases_eq machine (length items)) [
  | inl here ↦
      let same : member ≡ other = (let at = sym (slice_get-last items member machine here) ∙ there in cc) in
      rw (here ∙ size, ← same) last
  | inr apart ↦ each machine other (sym (slice_get-push items member machine apart) ∙ there)
]
