-- A segment has no more items before it than before its end.
use Rattle.std.proofs.Common.{◌≡◌, ℕ, ◌≤◌, List, [], ◌∷◌, arith, length, refl}
use Rattle.std.specs.Prelude.{Option, Some, None, find, nat_le, ◌&&◌}
use Rattle.std.specs.Option.{option_map_or}
use Rattle.swan_model.specs.declared.origin.Origin.{Origin}
use Rattle.swan_model.specs.declared.script.Script.{Script}
use Rattle.swan_model.specs.QueueFollows.{queue_time}
use Rattle.swan_model.specs.QueueState.{SegmentTag, first_of, pushed_by}
use Rattle.swan_model.specs.Segments.{base, count_until_empty, empty_look, is_empty_at, look_times, looks_from, segment_end, segment_queue}
use Rattle.swan_model.specs.Told.{count, pushes}
use Rattle.swan_model.proofs.ScriptCounts.{count_mono, count_le}
use Rattle.ring_segments.specs.Tags.{SegmentId, HasRoomFor}

-- what is found in a list isn't before the time from which on it is looked for
found_from : (s : Script) (queue : Origin) (from t : ℕ) (times : List ℕ) → find (λ u. nat_le from u && is_empty_at s queue u) times ≡ Some t → from ≤ t
found_from s queue from t [] e = absurd (cc)
found_from s queue from t (u ∷ times) e = grind (arith, found_from s queue from t times)

-- what was pushed before a time is at most what is pushed until the first empty look from then on
count_until : (s : Script) (queue : Origin) (time from : ℕ) → time ≤ from → (look : Option ℕ) → ((t : ℕ) → look ≡ Some t → from ≤ t) → count s queue time ≤ option_map_or (count s queue) look (length (pushes s queue))
count_until s queue time from le None later = count_le s queue time
count_until s queue time from le (Some t) later = let h = later t refl in count_mono s queue time t (omega arith)

base_on : (s : Script) (time from : ℕ) → time ≤ from → (queue : Option Origin) → option_map_or (λ q. count s q time) queue 0 ≤ option_map_or (λ q. count_until_empty s q from) queue 0
base_on s time from le None = omega arith
base_on s time from le (Some queue) = count_until s queue time from le (empty_look s queue from) (λ t e. found_from s queue from t (look_times s queue) e)

base_le_end : (s : Script) (tag : SegmentTag) → base s tag ≤ segment_end s tag
base_le_end s (first_of maker) = omega arith
base_le_end s (pushed_by path deeds) = base_on s (queue_time s path deeds) (looks_from s (pushed_by path deeds)) (omega arith) (segment_queue s (pushed_by path deeds))

pub room_for_none : (id : SegmentId) → HasRoomFor id 0
room_for_none id s is = let h = base_le_end s id.tag in omega arith
