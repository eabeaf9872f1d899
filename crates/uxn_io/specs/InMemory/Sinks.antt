-- A sink in memory, call by call.
use Rattle.std.specs.Prelude.{ℕ, ◌+◌, ◌-◌, ◌==◌, ◌&&◌, ◌||◌, Bool, true, nat_lt, nat_le, min, List}
use Rattle.std.specs.Prelude.{◌++◌, Some}
use Rattle.std.specs.Prelude.{length, take, Result, Ok, Err, if◌then◌else◌}
use Rattle.std.specs.List.{list_any}
use Rattle.uxn_io_traits.specs.declared.sinks.Failed.{Failed}
use Rattle.uxn_io_traits.specs.Faults.{one_more}
use Rattle.uxn_io_traits.specs.State.{SinkState}

-- the bytes taken, the room for bytes in all, the numbers of the calls that fail, how many calls there
-- were and how many of them failed
pub record SinkInMemory : Type 0 where
  pub taken : List ℕ
  pub room : ℕ
  pub fails : List ℕ
  pub calls : ℕ
  pub faults : ℕ

-- where no later call is listed, none fails while room is there
abbrev pub guaranteed_of : SinkInMemory → ℕ
guaranteed_of sink = if list_any (λ n. nat_le sink.calls n) sink.fails then 0 else sink.room - length sink.taken + 1

-- what it has taken is known, and is exact
abbrev pub state_of : SinkInMemory → SinkState
state_of sink = record { contents = Some sink.taken; tally = record { faults = sink.faults; exact = true }; guaranteed = guaranteed_of sink }

-- a put fails where its number is listed, or it has bytes and no room is left
abbrev pub fails_at : SinkInMemory → List ℕ → Bool
fails_at sink piece =
    list_any (λ n. n == sink.calls) sink.fails || (nat_lt 0 (length piece) && nat_le sink.room (length sink.taken))

-- how many bytes of a piece fit
abbrev pub fitting : SinkInMemory → List ℕ → ℕ
fitting sink piece = min (length piece) (sink.room - length sink.taken)

-- what a put answers
abbrev pub put_answer : SinkInMemory → List ℕ → Result ℕ Failed
put_answer sink piece = if fails_at sink piece then Err (record {}) else Ok (fitting sink piece)

-- the sink after a put
abbrev pub after_put : SinkInMemory → List ℕ → SinkInMemory
after_put sink piece =
    if fails_at sink piece then record sink { calls = one_more sink.calls; faults = one_more sink.faults }
    else record sink { calls = one_more sink.calls; taken = sink.taken ++ take (fitting sink piece) piece }
