-- A sink in memory, and what a put into it answers.
use Rattle.std.specs.Prelude.{ℕ, ◌==◌, ◌-◌, List, [], ◌++◌, length, take, min, Bool, ◌||◌, if◌then◌else◌, Result, Ok, Err}
use Rattle.swan_outside.specs.declared.answer.Failed.{Failed}
use Rattle.swan_outside.specs.Counts.{next_count}
use Rattle.swan_outside.specs.FilesState.{fails_next}

-- the bytes so far, the most that one put takes, the room for all bytes, the numbers of the calls that fail, the
-- number of calls so far, and the count of faults
pub record SinkState : Type 0 where
  pub written : List ℕ
  pub most : ℕ
  pub room : ℕ
  pub fail : List ℕ
  pub calls : ℕ
  pub faults : ℕ

-- a sink with nothing in it, and no call so far
abbrev pub empty_sink : ℕ → ℕ → List ℕ → SinkState
empty_sink most room fail =
    record { written = []; most = most; room = room; fail = fail; calls = 0; faults = 0 }

-- whether the next put fails: it is one of those that fail, or no room is left
abbrev pub put_fails : SinkState → Bool
put_fails state = fails_next state.fail state.calls || (length state.written == state.room)

-- how many bytes of a piece a put takes that doesn't fail: the most that it may, as far as there is room
abbrev pub bytes_taken : SinkState → List ℕ → ℕ
bytes_taken state piece = min state.most (min (state.room - length state.written) (length piece))

-- what a put answers
abbrev pub put_answer : SinkState → List ℕ → Result ℕ Failed
put_answer state piece = if put_fails state then Err (record {}) else Ok (bytes_taken state piece)

-- the state after a put
abbrev pub after_put : SinkState → List ℕ → SinkState
after_put state piece =
    if put_fails state
    then record state { calls = next_count state.calls; faults = next_count state.faults }
    else record state { calls = next_count state.calls; written = state.written ++ take (bytes_taken state piece) piece }
