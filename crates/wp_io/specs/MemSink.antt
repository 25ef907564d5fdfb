-- A sink in memory.
use Rattle.std.specs.Prelude.{◌≡◌, ℕ, ◌-◌, Bool, List, [], vec_len}
use Rattle.wp_io.specs.declared.in_memory.MemSink.{MemSink}
use Rattle.wp_io.specs.Faults.{count_after}
use Rattle.wp_io.specs.Memory.{is_failing}

-- nothing was taken, and there was no call
pub record IsFresh (sink : MemSink) : Type 0 where
  pub taken : sink.taken.items ≡ []
  pub calls : sink.calls ≡ 0
  pub faults : sink.faults ≡ 0

-- it takes and fails as it was told to
pub record HasSettings (sink : MemSink) (room piece : ℕ) (fail : List ℕ) : Type 0 where
  pub same_room : sink.room ≡ room
  pub same_piece : sink.piece ≡ piece
  pub same_fail : sink.fail ≡ fail

-- whether the next call is one of those that fail
abbrev pub fails_next : MemSink → Bool
fails_next sink = is_failing sink.fail (count_after sink.calls)

-- how many bytes there is room for
abbrev pub room_left : MemSink → ℕ
room_left sink = sink.room - vec_len sink.taken
