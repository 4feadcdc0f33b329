-- The two streams of a process.
use Rattle.std.specs.Prelude.{◌≡◌, ℕ, List, length, take}
use Rattle.std.specs.Str.Lossy.{utf8_valid_len}
use Rattle.swan_outside.specs.declared.os_sink.Stream.{Stream}
use Rattle.swan_outside.specs.declared.os_sink.Stream.TheVariants as stream
use Rattle.swan_outside.specs.declared.os_sink.TheConstants.{ERR_PIECE_MOST}

-- the stream of a sink, and its count of faults
pub record StreamState : Type 0 where
  pub stream : Stream
  pub faults : ℕ

-- the longest front of a piece that is whole characters, of at most the bytes that standard error takes at once
abbrev pub text_front : List ℕ → List ℕ
text_front piece = let front = take ERR_PIECE_MOST piece in take (utf8_valid_len front) front

-- how many bytes of a piece a stream may take: standard error takes its front of whole characters
abbrev pub IsTakenBy : Stream → List ℕ → ℕ → Type 0
IsTakenBy stream.Output piece n = Unit {0}
IsTakenBy stream.Error piece n = n ≡ length (text_front piece)
