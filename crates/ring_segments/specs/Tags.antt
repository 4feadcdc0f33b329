-- Segments by the name of their run and by their tag, and what they owe.
use Rattle.std.specs.Prelude.{◌≡◌, ℕ, ◌≤◌, Option, Some, List, drop, slice_get}
use Rattle.std.specs.Option.{ForSome, option_map}
use Rattle.swan_model.specs.declared.script.Script.{Script}
use Rattle.swan_model.specs.declared.value.Value.{Value}
use Rattle.swan_model.specs.QueueState.{SegmentTag, first_of, pushed_by, planned, made_by}
use Rattle.swan_model.specs.Segments.{IsBeforeEnd, index_of_end, owed, segment_end}
use Rattle.ring_segments.specs.declared.tag.Tag.{Tag}
use Rattle.ring_segments.specs.declared.tag.Tag.TheVariants.{Root, Made, Step}

-- what a tag names, in the words of the model
abbrev pub tag_of : Tag → SegmentTag
tag_of (Root index) = first_of (planned index)
tag_of (Made path step) = first_of (made_by path step)
tag_of (Step path step) = pushed_by path step

-- which segment it is: of the run with this name, the one that has this tag
pub record SegmentId : Type 0 where
  pub name : Option Script
  pub tag : SegmentTag

-- the list that a segment owes, where its name has a script
abbrev pub owed_by : SegmentId → Option (List Value)
owed_by id = option_map (λ s. owed s id.tag) id.name

-- Where the segment owes a list, this item stands there at this index, and before the segment's end.
abbrev pub IsItem : SegmentId → (index : ℕ) → Value → Type 0
IsItem id index item = ForSome id.name (λ s. (slice_get (owed s id.tag) index ≡ Some item) × IsBeforeEnd s id.tag index)

-- Where the segment owes a list, an end that has moved so many items is before the segment's end.
abbrev pub IsInside : SegmentId → (moved : ℕ) → Type 0
IsInside id moved = ForSome id.name (λ s. IsBeforeEnd s id.tag moved)

-- Where the segment owes a list, so many items of it are at most those before the segment's end.
abbrev pub HasRoomFor : SegmentId → (many : ℕ) → Type 0
HasRoomFor id many = ForSome id.name (λ s. index_of_end s id.tag many ≤ segment_end s id.tag)

-- Where the segment owes a list, the next one owes what is left of it after so many items.
abbrev pub OwesRest : SegmentId → (many : ℕ) → (next : SegmentId) → Type 0
OwesRest id many next = ForSome id.name (λ s. owed_by next ≡ Some (drop many (owed s id.tag)))
