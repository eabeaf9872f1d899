-- What a call of a tree counts, by what the system counted.
use Rattle.std.specs.Prelude.{◌≡◌, ℕ, ◌-◌, ◌^◌, ◌≤◌, List, true, false, Result, Ok, Err, is_err}
use Rattle.std.proofs.Common.{arith}
use Rattle.uxn_io_traits.specs.Faults.{Counted, one_more}
use Rattle.uxn_io_traits.specs.Ended.{TreeEnded, TreeLooked}
use Rattle.uxn_io_traits.specs.Outside.{Change}
use Rattle.uxn_io_traits.specs.declared.refused.RefusedFiles.{RefusedFiles}
use Rattle.uxn_io_traits.specs.Unknown.{exactly, unknown_tree}
use Rattle.uxn_io_traits.specs.UnknownLaws.{nothing_counted, fault_counted, looked, ended}
use Rattle.uxn_io_traits.specs.Children.{has_failed}
use Rattle.uxn_io_traits.specs.declared.trees.NamesStop.{NamesStop}
use Rattle.uxn_io_traits.specs.declared.trees.NamesStop.TheVariants.{Failed, NoMemory}
use Rattle.uxn_io_host.specs.Calls.{faults_after, faults_listed}
use Rattle.uxn_io_host.specs.Folders.{count_of}

pub counted_one : (before now : ℕ) → now ≡ one_more before → Counted (exactly (count_of before)) (exactly (count_of now)) true
counted_one before now is =
    let fits : count_of before ≤ 2 ^ 64 - 1 = omega arith in
    let one : count_of now ≡ one_more (count_of before) = omega (arith, is) in
    fault_counted (count_of before) (count_of now) fits one

pub counted_call : {T E : Type 0} (result : Result T E) (before now : ℕ) → now ≡ faults_after result before
    → Counted (exactly (count_of before)) (exactly (count_of now)) (is_err result)
counted_call (Ok value) before now is = rw is (nothing_counted (count_of before))
counted_call (Err error) before now is = counted_one before now is

pub counted_listing : {T : Type 0} (result : Result T NamesStop) (before now : ℕ) → now ≡ faults_listed result before
    → Counted (exactly (count_of before)) (exactly (count_of now)) (has_failed result)
counted_listing (Ok value) before now is = rw is (nothing_counted (count_of before))
counted_listing (Err Failed) before now is = counted_one before now is
counted_listing (Err NoMemory) before now is = rw is (nothing_counted (count_of before))

-- a call of a tree: it looks, or is to make changes
pub call_looked : {T E : Type 0} (result : Result T E) (before now : ℕ) (refused later : RefusedFiles)
    → now ≡ faults_after result before → later ≡ refused
    → TreeLooked (is_err result) (unknown_tree (count_of before) refused) (unknown_tree (count_of now) later)
call_looked result before now refused later is same =
    looked (is_err result) (count_of before) (count_of now) refused later (counted_call result before now is) same

pub call_ended : {T E : Type 0} (changes : List Change) (result : Result T E) (before now : ℕ) (refused later : RefusedFiles)
    → now ≡ faults_after result before
    → TreeEnded changes (is_err result) (unknown_tree (count_of before) refused) (unknown_tree (count_of now) later)
call_ended changes result before now refused later is =
    ended changes (is_err result) (count_of before) (count_of now) refused later (counted_call result before now is)

pub listing_looked : {T : Type 0} (result : Result T NamesStop) (before now : ℕ) (refused later : RefusedFiles)
    → now ≡ faults_listed result before → later ≡ refused
    → TreeLooked (has_failed result) (unknown_tree (count_of before) refused) (unknown_tree (count_of now) later)
listing_looked result before now refused later is same =
    looked (has_failed result) (count_of before) (count_of now) refused later (counted_listing result before now is) same

-- the same where it fails
pub fault_looked : (before now : ℕ) (refused later : RefusedFiles) → now ≡ one_more before → later ≡ refused
    → TreeLooked true (unknown_tree (count_of before) refused) (unknown_tree (count_of now) later)
fault_looked before now refused later is same = looked true (count_of before) (count_of now) refused later (counted_one before now is) same

pub fault_ended : (changes : List Change) (before now : ℕ) (refused later : RefusedFiles) → now ≡ one_more before
    → TreeEnded changes true (unknown_tree (count_of before) refused) (unknown_tree (count_of now) later)
fault_ended changes before now refused later is = ended changes true (count_of before) (count_of now) refused later (counted_one before now is)

-- the same where it did not fail
pub still_looked : (before now : ℕ) (refused later : RefusedFiles) → now ≡ before → later ≡ refused
    → TreeLooked false (unknown_tree (count_of before) refused) (unknown_tree (count_of now) later)
still_looked before now refused later is same =
    rw is (looked false (count_of before) (count_of before) refused later (nothing_counted (count_of before)) same)

pub still_ended : (changes : List Change) (before now : ℕ) (refused later : RefusedFiles) → now ≡ before
    → TreeEnded changes false (unknown_tree (count_of before) refused) (unknown_tree (count_of now) later)
still_ended changes before now refused later is =
    rw is (ended changes false (count_of before) (count_of before) refused later (nothing_counted (count_of before)))
