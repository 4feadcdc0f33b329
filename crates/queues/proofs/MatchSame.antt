-- A match asks for no more than what the owners of the chunks tell: where two states tell the same of each owner, chunks
-- that match in the one match in the other.
use Rattle.std.proofs.Common.{◌≡◌, ℕ, suc, cond, Option, Some, None, refl, sym, ap, subst, ◌∙◌}
use Rattle.std.specs.Prelude.{slice_get}
use Rattle.swan_model.specs.declared.origin.Origin.{Origin}
use Rattle.swan_model.specs.declared.rights.Mode.TheVariants.{Pop}
use Rattle.swan_model.specs.declared.script.Script.{Script}
use Rattle.swan_model.specs.QueueFollows.{count_at, taken_at}
use Rattle.swan_model.specs.QueueState.{ActiveFrame, QueueState, holds_queue}
use Rattle.swan_model.specs.Readings.{end_time}
use Rattle.swan_model.specs.Told.{count, taken}
use Rattle.queues.specs.Chunks.{Chunk, Chunks, HasItems, HasTaken, Matches, ends_at, goes_on_at, goes_on_popping, owner_of, pops_at}
use Rattle.queues.specs.Chunks.HasItems.{over as items_over, chunk as items_chunk}
use Rattle.queues.specs.Chunks.HasTaken.{over as taken_over, chunk as taken_chunk}

-- two frames of one task, by whose points as much was pushed to a queue
pub record CountsSame (s : Script) (queue : Origin) (a b : ActiveFrame) : Type 0 where
  pub path : b.path ≡ a.path
  pub counts : count_at s b queue ≡ count_at s a queue

-- two frames of one task, by whose points as much was popped of it, and that both may pop it or both may not
pub record PopsSame (s : Script) (number : ℕ) (queue : Origin) (a b : ActiveFrame) : Type 0 where
  pub path : b.path ≡ a.path
  pub takes : taken_at s b queue ≡ taken_at s a queue
  pub pops : holds_queue b number Pop ≡ holds_queue a number Pop

-- two owners of which one tells what the other does
abbrev pub Tell : (ActiveFrame → ActiveFrame → Type 0) → Option ActiveFrame → Option ActiveFrame → Type 0
Tell Same None None = Unit {0}
Tell Same None (Some b) = ⊥
Tell Same (Some a) None = ⊥
Tell Same (Some a) (Some b) = Same a b

pub tell_equal : (Same : ActiveFrame → ActiveFrame → Type 0) → ((a : ActiveFrame) → Same a a) → (a b : Option ActiveFrame) → b ≡ a → Tell Same a b
tell_equal Same itself a b same = subst (Tell Same a) (sym same) (by a) where
  by : (o : Option ActiveFrame) → Tell Same o o
  by None = tt
  by (Some a) = itself a

module _ (state after : QueueState) (Same : ActiveFrame → ActiveFrame → Type 0) where
  -- two states tell the same of each owner
  abbrev pub AreSame : Chunks → Type 0
  AreSame chunks = (index : ℕ) (chunk : Chunk) → slice_get chunks index ≡ Some chunk → Tell Same (owner_of state chunk) (owner_of after chunk)

module _ (s : Script) (queue : Origin) where
  pub counts_itself : (a : ActiveFrame) → CountsSame s queue a a
  counts_itself a = record { path = refl; counts = refl }

  pub ends_same : (a b : Option ActiveFrame) (upto : ℕ) → Tell (CountsSame s queue) a b → ends_at s queue a upto → ends_at s queue b upto
  ends_same None None upto same ends = ends
  ends_same None (Some b) upto same ends = absurd same
  ends_same (Some a) None upto same ends = absurd same
  ends_same (Some a) (Some b) upto same ends = ends ∙ sym same.counts

  pub goes_same : (a b : Option ActiveFrame) (upto : ℕ) → Tell (CountsSame s queue) a b → goes_on_at s queue a upto ≡ goes_on_at s queue b upto
  goes_same None None upto same = refl
  goes_same None (Some b) upto same = absurd same
  goes_same (Some a) None upto same = absurd same
  goes_same (Some a) (Some b) upto same = ap (λ p. count s queue (end_time s p)) (sym same.path)

  module _ (state after : QueueState) (end : ℕ) where
    pub items_same : (chunks : Chunks) (at : ℕ) → HasItems s state queue end chunks at → AreSame state after (CountsSame s queue) chunks → HasItems s after queue end chunks at
    items_same _ _ (items_over at is) same = items_over at is
    items_same _ _ (items_chunk first chunks at upto order within content ends rest) same =
        let one = same 0 first refl in
        let next = items_same chunks (goes_on_at s queue (owner_of state first) upto) rest (λ index chunk is. same (suc index) chunk is) in
        items_chunk first chunks at upto order within content (ends_same (owner_of state first) (owner_of after first) upto one ends)
        (subst (HasItems s after queue end chunks) (goes_same (owner_of state first) (owner_of after first) upto one) next)

module _ (s : Script) (number : ℕ) (queue : Origin) where
  pub pops_itself : (a : ActiveFrame) → PopsSame s number queue a a
  pops_itself a = record { path = refl; takes = refl; pops = refl }

  pub pops_same : (a b : Option ActiveFrame) (at : ℕ) → Tell (PopsSame s number queue) a b → pops_at s number queue a at → pops_at s number queue b at
  pops_same None None at same pops = pops
  pops_same None (Some b) at same pops = absurd same
  pops_same (Some a) None at same pops = absurd same
  pops_same (Some a) (Some b) at same pops = λ may. pops (sym same.pops ∙ may) ∙ sym same.takes

  pub goes_popping : (a b : Option ActiveFrame) (at : ℕ) → Tell (PopsSame s number queue) a b → goes_on_popping s number queue a at ≡ goes_on_popping s number queue b at
  goes_popping None None at same = refl
  goes_popping None (Some b) at same = absurd same
  goes_popping (Some a) None at same = absurd same
  goes_popping (Some a) (Some b) at same =
      ap (λ p. cond (holds_queue a number Pop) (taken s queue (end_time s p)) at) (sym same.path)
      ∙ ap (λ may. cond may (taken s queue (end_time s b.path)) at) (sym same.pops)

  module _ (state after : QueueState) (end : ℕ) where
    pub taken_same : (chunks : Chunks) (at : ℕ) → HasTaken s state number queue end chunks at → AreSame state after (PopsSame s number queue) chunks → HasTaken s after number queue end chunks at
    taken_same _ _ (taken_over at is) same = taken_over at is
    taken_same _ _ (taken_chunk first chunks at pops rest) same =
        let one = same 0 first refl in
        let next = taken_same chunks (goes_on_popping s number queue (owner_of state first) at) rest (λ index chunk is. same (suc index) chunk is) in
        taken_chunk first chunks at (pops_same (owner_of state first) (owner_of after first) at one pops)
        (subst (HasTaken s after number queue end chunks) (goes_popping (owner_of state first) (owner_of after first) at one) next)

    pub matches_same : (chunks : Chunks) → Matches s state number queue end chunks → AreSame state after (CountsSame s queue) chunks → AreSame state after (PopsSame s number queue) chunks
        → Matches s after number queue end chunks
    matches_same chunks matches counts pops =
        record { left = matches.left; items = items_same s queue state after end chunks matches.left matches.items counts; taken = taken_same chunks matches.left matches.taken pops }
