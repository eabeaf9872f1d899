-- What calls of the system count, and what they answer (profile).
use Rattle.std.specs.Prelude.{◌≡◌, ℕ, true, Result, Ok, Err, is_err}
use Rattle.uxn_io_traits.specs.Faults.{one_more}
use Rattle.uxn_io_traits.specs.declared.trees.NamesStop.{NamesStop}
use Rattle.uxn_io_traits.specs.declared.trees.NamesStop.TheVariants.{Failed, NoMemory}

-- the count after a call: one more exactly where it failed
abbrev pub faults_after : {T E : Type 0} → Result T E → ℕ → ℕ
faults_after (Ok value) faults = faults
faults_after (Err error) faults = one_more faults

-- the same of a listing, where running out of memory is no fault
abbrev pub faults_listed : {T : Type 0} → Result T NamesStop → ℕ → ℕ
faults_listed (Ok value) faults = faults
faults_listed (Err Failed) faults = one_more faults
faults_listed (Err NoMemory) faults = faults

-- the answer is what the system answered: its value, or an error where it gave one
abbrev pub Answers : {T D E : Type 0} → Result T D → Result T E → Type 0
Answers (Ok value) answer = answer ≡ Ok value
Answers (Err error) answer = is_err answer ≡ true
