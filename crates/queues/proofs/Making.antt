-- Calls that make a queue leave hyperqueues that follow.
use Rattle.std.proofs.Common.{◌≡◌, ◌⊎◌, inl, inr, ℕ, ◌<◌, Bool, true, nat_eq, [], ◌∷◌, ◌++◌, length, Some, refl, sym, ap, subst, ◌∙◌, append-nil, arith}
use Rattle.std.proofs.lemmas.Bool.{and_from, and_parts, eq-eqb, eqb-true, ne_eqb, and_left}
use Rattle.std.proofs.lemmas.Option.{slice_get_within}
use Rattle.std.specs.Option.{option_map}
use Rattle.std.specs.Prelude.{◌&&◌, slice_get}
use Rattle.swan_model.specs.declared.origin.Origin.{Origin}
use Rattle.swan_model.specs.declared.origin.Origin.TheVariants.{Root, Step}
use Rattle.swan_model.specs.declared.rights.Mode.{Mode}
use Rattle.swan_model.specs.declared.rights.Mode.TheVariants.{PushPop}
use Rattle.swan_model.specs.declared.script.Script.{Script}
use Rattle.swan_model.specs.QueueFollows.{QueuesFollow, is_done_among, is_reached, origin_in, queue_origin, queue_point, queue_time, queue_times}
use Rattle.swan_model.specs.QueueState.{ActiveFrame, QueueMaker, planned, made_by, QueueRight, QueueState, active, holds_queue, with_made}
use Rattle.swan_model.specs.Rights.{allows, is_queue_mode}
use Rattle.swan_model.specs.declared.script.Entry.{Entry}
use Rattle.swan_model.specs.Nested.{IsEntryOf}
use Rattle.swan_model.specs.PathOrder.{is_under}
use Rattle.swan_model.proofs.ScriptSteps.{one_entry}
use Rattle.queues.proofs.Between.{queue_point-own}
use Rattle.queues.proofs.Changing.{done_is}
use Rattle.queues.proofs.Done.{reached_under}
use Rattle.queues.proofs.Frames.{both_on}
use Rattle.swan_model.proofs.Elements.{all_each, found_is, mapped_is, more_cases, any_before, any_either, any_last}
use Rattle.queues.proofs.Holders.{all_allowed}
use Rattle.queues.proofs.Under.{under_from}

-- ---- rights on a queue that was made

abbrev pub is_right : ℕ → Mode → QueueRight → Bool
is_right queue mode right = nat_eq right.queue queue && allows right.mode mode

pub holds_before : (frame : ActiveFrame) (made queue : ℕ) (mode : Mode) → queue < made → holds_queue (with_made made frame) queue mode ≡ holds_queue frame queue mode
holds_before frame made queue mode less =
    any_before (is_right queue mode) frame.rights (both_on made) (and_left (nat_eq made queue) (allows PushPop mode) (ne_eqb made queue (λ same. omega (arith, less, same))))

pub holds_made : (frame : ActiveFrame) (made : ℕ) (mode : Mode) → is_queue_mode mode ≡ true → holds_queue (with_made made frame) made mode ≡ true
holds_made frame made mode is =
    any_last (is_right made mode) frame.rights (both_on made) (and_from (nat_eq made made) (allows PushPop mode) (eq-eqb made made refl) (all_allowed mode is))

pub holds_cases : (frame : ActiveFrame) (made queue : ℕ) (mode : Mode) → holds_queue (with_made made frame) queue mode ≡ true → (holds_queue frame queue mode ≡ true) ⊎ (queue ≡ made)
holds_cases frame made queue mode is = elim (any_either (is_right queue mode) frame.rights (both_on made) is) [
  | inl before ↦ inl before
  | inr it ↦ inr (sym (eqb-true made queue (and_parts (nat_eq made queue) (allows PushPop mode) it).0))
]

-- ---- origins, with a queue more

-- the queue of an origin stood before, or is the new one
pub data IsOrigin (s : Script) (state : QueueState) (maker : QueueMaker) (queue : ℕ) (origin : Origin) : Type 0 where
  stood : (old : QueueMaker) → slice_get state.makers queue ≡ Some old → origin_in s old ≡ origin → IsOrigin s state maker queue origin
  new : queue ≡ length state.makers → origin ≡ origin_in s maker → IsOrigin s state maker queue origin

module _ (s : Script) (state after : QueueState) (maker : QueueMaker) (makers : after.makers ≡ state.makers ++ maker ∷ []) where
  pub origin_is : (queue : ℕ) (origin : Origin) → queue_origin s after queue ≡ Some origin → IsOrigin s state maker queue origin
  origin_is queue origin is =
      let found = mapped_is (origin_in s) (slice_get after.makers queue) origin is in
      let at : slice_get (state.makers ++ maker ∷ []) queue ≡ Some found.0 = ap (λ xs. slice_get xs queue) (sym makers) ∙ found.1 in
      elim (more_cases state.makers maker queue found.0 at) [
        | inl before ↦ stood found.0 before found.2
        | inr last ↦ new last.0 (sym found.2 ∙ ap (origin_in s) last.1)
      ]

  -- no two queues have one origin, where the new one's is new
  pub once_more : ((queue other : ℕ) (origin : Origin) → queue_origin s state queue ≡ Some origin → queue_origin s state other ≡ Some origin → queue ≡ other)
      → ((queue : ℕ) (old : QueueMaker) → slice_get state.makers queue ≡ Some old → origin_in s old ≡ origin_in s maker → ⊥)
      → (queue other : ℕ) (origin : Origin) → queue_origin s after queue ≡ Some origin → queue_origin s after other ≡ Some origin → queue ≡ other
  once_more once fresh queue other origin one two = by (origin_is queue origin one) (origin_is other origin two)
    where
      by : IsOrigin s state maker queue origin → IsOrigin s state maker other origin → queue ≡ other
      by (stood a at is) (stood b there also) = once queue other origin (ap (option_map (origin_in s)) at ∙ ap Some is) (ap (option_map (origin_in s)) there ∙ ap Some also)
      by (stood a at is) (new last made) = absurd (fresh queue a at (is ∙ made))
      by (new last made) (stood b there also) = absurd (fresh other b there (also ∙ made))
      by (new last made) (new end also) = last ∙ sym end

-- ---- the origin of a queue that is made next is new

module _ (s : Script) (state : QueueState) (follows : QueuesFollow s state) where
  -- the next queue deed of an active frame isn't done
  pub not_done : (number : ℕ) (frame : ActiveFrame) → active state number ≡ Some frame → IsEntryOf s frame.path (queue_point s frame.path frame.deeds) → is_done_among s state (queue_point s frame.path frame.deeds) ≡ true → ⊥
  not_done number frame live own done =
      let t = queue_point s frame.path frame.deeds in
      let by = done_is s state t done in
      let same = one_entry s t by.entry own.entry by.stands own.stands in
      let path : by.entry.path ≡ frame.path ++ [] = ap (λ (e : Entry). e.path) same ∙ own.own ∙ sym (append-nil frame.path) in
      let under : is_under frame.path by.entry.path ≡ true = ap (is_under frame.path) path ∙ under_from frame.path [] in
      let found = found_is (λ (f : ActiveFrame). nat_eq f.number number) state.frames frame live in
      let before = reached_under s frame by.entry.path t under (all_each (is_reached s t by.entry.path) state.frames found.index frame by.reached found.stands) in
      omega (arith, before)

  pub fresh_step : (number : ℕ) (frame : ActiveFrame) → active state number ≡ Some frame → frame.deeds < length (queue_times s frame.path)
      → (queue : ℕ) (old : QueueMaker) → slice_get state.makers queue ≡ Some old → origin_in s old ≡ Step (queue_point s frame.path frame.deeds) → ⊥
  fresh_step number frame live left queue (planned index) at is = absurd (cc)
  fresh_step number frame live left queue (made_by path deeds) at is =
      let t = queue_point s frame.path frame.deeds in
      let same : queue_time s path deeds ≡ t = cc in
      let own = queue_point-own s frame.path frame.deeds (follows.tasks number frame live).some in
      let made = follows.queues queue (made_by path deeds) at in
      not_done number frame live own (subst (λ k. is_done_among s state k ≡ true) same made.2)

  pub fresh_root : (queue : ℕ) (old : QueueMaker) → slice_get state.makers queue ≡ Some old → origin_in s old ≡ Root (length state.makers) → ⊥
  fresh_root queue (made_by path deeds) at is = absurd (cc)
  fresh_root queue (planned index) at is =
      let same : index ≡ length state.makers = cc in
      let made = follows.queues queue (planned index) at in
      let within = slice_get_within state.makers queue (planned index) at in
      omega (arith, same, made.0, within)
