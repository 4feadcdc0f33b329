-- Ends that serve nothing.
use Rattle.std.specs.Prelude.{ℕ, List, []}
use Rattle.queues.specs.Asks.{LentEnds}
use Rattle.queues.specs.Ends.{EndCounts}

-- the ends of a frame that has done so many queue deeds: there are none
abbrev pub no_ends : (frame deeds : ℕ) → (path : List ℕ) → LentEnds
no_ends frame deeds path = record { frame = frame; path = path; before = deeds; deeds = deeds; list = [] }

-- what an end shows that isn't there
abbrev pub no_counts : EndCounts
no_counts = record { moved = 0; tested = 0; size = 0; looks = 0; glances = 0; found = 0 }
