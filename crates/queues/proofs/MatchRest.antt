-- Where no chunk has an owner any more, the chunks have all that is left of the queue.
use Rattle.std.proofs.Common.{◌≡◌, ℕ, suc, ◌+◌, ◌-◌, ◌≤◌, [], ◌∷◌, ◌++◌, length, drop, Option, Some, None, refl, sym, ap, ◌∙◌, arith, length-append}
use Rattle.std.proofs.lemmas.List.{take_all, take_rest}
use Rattle.std.proofs.lemmas.Option.{slice_get_within}
use Rattle.std.specs.Option.{option_and_then}
use Rattle.swan_model.specs.declared.origin.Origin.{Origin}
use Rattle.swan_model.specs.declared.script.Script.{Script}
use Rattle.swan_model.specs.Lawful.{IsLawful}
use Rattle.swan_model.specs.Nested.{IsEntryOf}
use Rattle.swan_model.specs.QueueState.{QueueState, active}
use Rattle.swan_model.specs.Readings.{end_time}
use Rattle.swan_model.specs.Told.{count, first_items, pushed, pushes, taken}
use Rattle.swan_model.proofs.TaskEntries.{end_at}
use Rattle.queues.specs.Chunks.{Chunk, Chunks, HasItems, HasTaken, IsOwner, Matches, goes_on_at, goes_on_popping, items_in, owner_of}
use Rattle.queues.specs.Chunks.HasItems.{over as items_over, chunk as items_chunk}
use Rattle.queues.specs.Chunks.HasTaken.{over as taken_over, chunk as taken_chunk}
use Rattle.queues.specs.Tells.{rest_of}
use Rattle.queues.proofs.Segments.{segment, segment_joined, segment_none}

-- no chunk has an owner
abbrev pub AreLeft : QueueState → Chunks → Type 0
AreLeft state chunks = (index number : ℕ) → IsOwner state chunks index number → ⊥

first_left : (state : QueueState) (first : Chunk) (chunks : Chunks) → AreLeft state (first ∷ chunks) → owner_of state first ≡ None
first_left state first chunks left = by first.owner refl where
  by : (owner : Option ℕ) → first.owner ≡ owner → option_and_then (active state) owner ≡ None
  by None is = refl
  by (Some number) is = absurd (left 0 number (record { chunk = first; stands = refl; owns = is }))

rest_left : (state : QueueState) (first : Chunk) (chunks : Chunks) → AreLeft state (first ∷ chunks) → AreLeft state chunks
rest_left state first chunks left index number is = left (suc index) number (record { chunk = is.chunk; stands = is.stands; owns = is.owns })

module _ (s : Script) (state : QueueState) (number : ℕ) (queue : Origin) (end : ℕ) where
  record IsAll (chunks : Chunks) (at : ℕ) : Type 0 where
    pub order : at ≤ count s queue end
    pub content : items_in chunks ≡ segment at (count s queue end) (pushes s queue)

  all_items : (chunks : Chunks) (at : ℕ) → HasItems s state queue end chunks at → AreLeft state chunks → IsAll chunks at
  all_items _ _ (items_over at is) left = record { order = omega (arith, is); content = sym (segment_none (pushes s queue) at (count s queue end) is) }
  all_items _ _ (items_chunk first chunks at upto order within content ends rest) left =
      let none = first_left state first chunks left in
      let on : goes_on_at s queue (owner_of state first) upto ≡ upto = ap (λ o. goes_on_at s queue o upto) none in
      let further = all_items chunks (goes_on_at s queue (owner_of state first) upto) rest (rest_left state first chunks left) in
      let after = further.order in
      record {
        order = omega (arith, order, on, after);
        content = ap (λ items. items ++ items_in chunks) content
            ∙ ap (λ items. segment at upto (pushes s queue) ++ items) (further.content ∙ ap (λ k. segment k (count s queue end) (pushes s queue)) on)
            ∙ segment_joined (pushes s queue) at upto (count s queue end) order (omega (arith, on, after));
      }

  all_taken : (chunks : Chunks) (at : ℕ) → HasTaken s state number queue end chunks at → AreLeft state chunks → at ≡ taken s queue end
  all_taken _ _ (taken_over at is) left = is
  all_taken _ _ (taken_chunk first chunks at pops rest) left =
      let on : goes_on_popping s number queue (owner_of state first) at ≡ at = ap (λ o. goes_on_popping s number queue o at) (first_left state first chunks left) in
      sym on ∙ all_taken chunks (goes_on_popping s number queue (owner_of state first) at) rest (rest_left state first chunks left)

-- the root ends with the last entry
root_end : (s : Script) → IsLawful s → end_time s [] ≡ length s.entries
root_end s lawful =
    let last = length s.entries - 1 in
    let some = lawful.some in
    let ends = lawful.last last (omega (arith, some)) in
    let own : IsEntryOf s [] last = record { entry = ends.entry; stands = ends.stands; own = ends.own } in
    let over = end_at s [] last own (λ v there. let within = slice_get_within s.entries v there.entry there.stands in omega (arith, within)) in
    omega (arith, over, some)

count_all : (s : Script) (queue : Origin) → count s queue (length s.entries) ≡ length (pushes s queue)
count_all s queue =
    let whole = take_all (length s.entries) s.entries (omega arith) in
    let same : count s queue (length s.entries) ≡ length (first_items s queue) + length (pushed queue s.entries) = ap (λ es. length (first_items s queue) + length (pushed queue es)) whole in
    omega (arith, same, length-append (first_items s queue) (pushed queue s.entries))

-- What is left of a queue that the root made is what its chunks have in the end.
pub rest_told : (s : Script) → IsLawful s → (state : QueueState) (number : ℕ) (queue : Origin) (chunks : Chunks) → Matches s state number queue (end_time s []) chunks → AreLeft state chunks
    → items_in chunks ≡ rest_of s queue
rest_told s lawful state number queue chunks matches left =
    let over = root_end s lawful in
    let all = all_items s state number queue (end_time s []) chunks matches.left matches.items left in
    let out = all_taken s state number queue (end_time s []) chunks matches.left matches.taken left in
    let whole : count s queue (end_time s []) ≡ length (pushes s queue) = ap (count s queue) over ∙ count_all s queue in
    let popped : matches.left ≡ taken s queue (length s.entries) = out ∙ ap (taken s queue) over in
    all.content
    ∙ ap (λ k. segment matches.left k (pushes s queue)) whole
    ∙ take_rest (pushes s queue) matches.left
    ∙ ap (λ k. drop k (pushes s queue)) popped
