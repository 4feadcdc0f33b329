-- Lists of frames of one run, as frames come and go.
use Rattle.std.proofs.Common.{◌≡◌, ℕ, ◌<◌, Bool, Option, Some, None, List, [], ◌∷◌, ◌++◌, All, IfNone, IfSome, MatchOption, OnErr, OnOk, Result, Ok, Err, length, option_to_list, slice_index_or, subst, sym, ◌∙◌}
use Rattle.std.proofs.lemmas.List.{nil_from_length}
use Rattle.std.specs.BTreeMap.{insert_entry}
use Rattle.std.specs.List.{swap_remove}
use Rattle.std.specs.Map.{lookup, remove_entry, set_value, values_of}
use Rattle.std.specs.Ordering.{nat_cmp}
use Rattle.std.proofs.lemmas.List.Elements.{All-append, All-head, All-nil, All-pop, All-push, All-same, All-tail}
use Rattle.std.proofs.lemmas.List.Sorted.{All-permutation, IsPermutation-swap_remove}
use Rattle.std.proofs.lemmas.Map.Views.{All-map-remove_entry, All-values-insert_entry, All-values-set_value, IfSome-lookup_from_All}
use Rattle.swan_model.specs.declared.plan.Plan.{Plan}
use Rattle.queues.specs.declared.answers.WaitFor.{WaitFor}
use Rattle.queues.specs.declared.answers.WaitFor.TheVariants as wait
use Rattle.task_frames.specs.Cores.{CoreView}
use Rattle.task_frames.specs.Frames.{FrameView}
use Rattle.task_frames.specs.Resumes.{EndsOf}
use Rattle.swan_runtime.specs.declared.asleep.Asleep.{Asleep}
use Rattle.swan_runtime.specs.declared.sleepers.Popper.{Popper}
use Rattle.swan_runtime.specs.declared.sleepers.Sleepers.{Sleepers}
use Rattle.swan_runtime.specs.Shared.{AreOfRun, ArePoppersOfRun, AreSleepersOfRun, AsleepIsOfRun, HasTakenIn, IsOfRun, IsShared, KeepsOfRun}

module _ {B L E : Type 0} (of : EndsOf E) (plan : Plan B L) (run : List ℕ) where
  pub none : AreOfRun of plan run []
  none = record { each = All-nil (IsOfRun of plan run) }

  pub pushed : (frames : List (FrameView B L E)) (frame : FrameView B L E) → AreOfRun of plan run frames → IsOfRun of plan run frame
      → AreOfRun of plan run (frames ++ frame ∷ [])
  pushed frames frame are is = record { each = All-push (IsOfRun of plan run) frames frame are.each is }

  pub appended : (frames more : List (FrameView B L E)) → AreOfRun of plan run frames → AreOfRun of plan run more → AreOfRun of plan run (frames ++ more)
  appended frames more are too = record { each = All-append (IsOfRun of plan run) frames more are.each too.each }

  pub popped : (frames left : List (FrameView B L E)) (frame : Option (FrameView B L E)) → frames ≡ left ++ option_to_list frame → AreOfRun of plan run frames
      → AreOfRun of plan run left × IfSome frame (IsOfRun of plan run)
  popped frames left frame is are = let both = All-pop (IsOfRun of plan run) frames left frame is are.each in (record { each = both.0 }, both.1)

  -- one alone
  pub alone : (frame : FrameView B L E) → IsOfRun of plan run frame → AreOfRun of plan run (frame ∷ [])
  alone frame is = pushed [] frame none is

  pub that_one : (frame : FrameView B L E) → AreOfRun of plan run (frame ∷ []) → IsOfRun of plan run frame
  that_one frame are = All-head (IsOfRun of plan run) frame [] are.each

  module _ {Q : Type 0} where
    abbrev Sleeps : Popper B Q L E → Type 0
    Sleeps popper = IsOfRun of plan run popper.frame

    pub popper_pushed : (poppers : List (Popper B Q L E)) (popper : Popper B Q L E) → ArePoppersOfRun of plan run poppers → IsOfRun of plan run popper.frame
        → ArePoppersOfRun of plan run (poppers ++ popper ∷ [])
    popper_pushed poppers popper are is = record { each = All-push Sleeps poppers popper are.each is }

    -- one was taken out, and the last one came to its place
    pub poppers_left : (poppers left : List (Popper B Q L E)) (i : ℕ) (popper : Popper B Q L E) → i < length poppers → popper ≡ slice_index_or poppers i popper
        → left ≡ swap_remove poppers i popper → ArePoppersOfRun of plan run poppers → ArePoppersOfRun of plan run left
    poppers_left poppers left i popper within is same are = record {
      each = All-same Sleeps left _ same (All-tail Sleeps popper _ (All-permutation Sleeps poppers _ (IsPermutation-swap_remove poppers i popper within is) are.each));
    }

    pub popper_taken : (poppers : List (Popper B Q L E)) (i : ℕ) (popper : Popper B Q L E) → i < length poppers → popper ≡ slice_index_or poppers i popper
        → ArePoppersOfRun of plan run poppers → IsOfRun of plan run popper.frame
    popper_taken poppers i popper within is are =
        All-head Sleeps popper _ (All-permutation Sleeps poppers _ (IsPermutation-swap_remove poppers i popper within is) are.each)

    pub popper_popped : (poppers left : List (Popper B Q L E)) (popper : Popper B Q L E) → poppers ≡ left ++ popper ∷ [] → ArePoppersOfRun of plan run poppers
        → ArePoppersOfRun of plan run left × IsOfRun of plan run popper.frame
    popper_popped poppers left popper is are = let both = All-pop Sleeps poppers left (Some popper) is are.each in (record { each = both.0 }, both.1)

    -- ---- who sleeps under one frame

    abbrev OfRun : Sleepers B Q L E → Type 0
    OfRun sleepers = AreSleepersOfRun of plan run sleepers

    pub sleepers_same : (before after : Sleepers B Q L E) → after.at_end.items ≡ before.at_end.items → after.at_push.items ≡ before.at_push.items → OfRun before → OfRun after
    sleepers_same before after end push is = record {
      at_end = subst (AreOfRun of plan run) (sym end) is.at_end;
      at_push = subst (ArePoppersOfRun of plan run) (sym push) is.at_push;
    }

    pub no_sleepers : (sleepers : Sleepers B Q L E) → sleepers.at_end.items ≡ [] → sleepers.at_push.items ≡ [] → OfRun sleepers
    no_sleepers sleepers end push = record {
      at_end = subst (AreOfRun of plan run) (sym end) none;
      at_push = subst (ArePoppersOfRun of plan run) (sym push) (record { each = All-nil Sleeps });
    }

    at_end_too : (before after : Sleepers B Q L E) (frame : FrameView B L E) → after.at_end.items ≡ before.at_end.items ++ frame ∷ [] → after.at_push.items ≡ before.at_push.items
        → OfRun before → IsOfRun of plan run frame → OfRun after
    at_end_too before after frame end push is own = record {
      at_end = subst (AreOfRun of plan run) (sym end) (pushed before.at_end.items frame is.at_end own);
      at_push = subst (ArePoppersOfRun of plan run) (sym push) is.at_push;
    }

    taken_in : (before after : Sleepers B Q L E) (frame : FrameView B L E) (wait_for : WaitFor) (asked : Option ℕ) → HasTakenIn before after frame wait_for asked
        → OfRun before → IsOfRun of plan run frame → OfRun after
    taken_in before after frame (wait.Pusher n) (Some queue) takes is own = record {
      at_end = subst (AreOfRun of plan run) (sym takes.0) is.at_end;
      at_push = subst (ArePoppersOfRun of plan run) (sym takes.1) (popper_pushed before.at_push.items (record { queue = queue; frame = frame }) is.at_push own);
    }
    taken_in before after frame (wait.Pusher n) None takes is own = at_end_too before after frame takes.0 takes.1 is own
    taken_in before after frame (wait.Child n) asked takes is own = at_end_too before after frame takes.0 takes.1 is own
    taken_in before after frame (wait.Version n) asked takes is own = at_end_too before after frame takes.0 takes.1 is own
    taken_in before after frame (wait.PopTurn n) asked takes is own = at_end_too before after frame takes.0 takes.1 is own

    -- whether memory was found or not
    pub tried_to_sleep : {X F : Type 0} (before after : Sleepers B Q L E) (frame : FrameView B L E) (wait_for : WaitFor) (asked : Option ℕ) (result : Result X F)
        → OnOk result (HasTakenIn before after frame wait_for asked)
        → OnErr result ((after.at_end.items ≡ before.at_end.items) × (after.at_push.items ≡ before.at_push.items))
        → OfRun before → IsOfRun of plan run frame → OfRun after
    tried_to_sleep before after frame wait_for asked (Ok x) ok err is own = taken_in before after frame wait_for asked ok is own
    tried_to_sleep before after frame wait_for asked (Err f) ok err is own = sleepers_same before after err.0 err.1 is

    -- ---- who sleeps at all

    pub sleepers_found : (entries : List (ℕ × Sleepers B Q L E)) (test : ℕ → Bool) (sleepers : Sleepers B Q L E) → Some sleepers ≡ lookup test entries → All OfRun (values_of entries) → OfRun sleepers
    sleepers_found entries test sleepers found are = subst (λ (r : Option (Sleepers B Q L E)). IfSome r OfRun) (sym found) (IfSome-lookup_from_All OfRun test entries are)

    pub sleepers_set : (entries after : List (ℕ × Sleepers B Q L E)) (test : ℕ → Bool) (sleepers : Sleepers B Q L E) → after ≡ set_value test entries sleepers → All OfRun (values_of entries) → OfRun sleepers
        → All OfRun (values_of after)
    sleepers_set entries after test sleepers set are own = subst (λ (es : List (ℕ × Sleepers B Q L E)). All OfRun (values_of es)) (sym set) (All-values-set_value test OfRun entries sleepers are own)

    pub sleepers_removed : (entries after : List (ℕ × Sleepers B Q L E)) (test : ℕ → Bool) → after ≡ remove_entry test entries → All OfRun (values_of entries) → All OfRun (values_of after)
    sleepers_removed entries after test removed are =
        subst (λ (es : List (ℕ × Sleepers B Q L E)). All OfRun (values_of es)) (sym removed) (All-map-remove_entry test (λ (e : ℕ × Sleepers B Q L E). e.1) OfRun entries are)

    pub sleepers_inserted : (entries after : List (ℕ × Sleepers B Q L E)) (number : ℕ) (sleepers : Sleepers B Q L E) → after ≡ insert_entry nat_cmp entries number sleepers → All OfRun (values_of entries) → OfRun sleepers
        → All OfRun (values_of after)
    sleepers_inserted entries after number sleepers inserted are own =
        subst (λ (es : List (ℕ × Sleepers B Q L E)). All OfRun (values_of es)) (sym inserted) (All-values-insert_entry nat_cmp number sleepers OfRun entries are own)

    pub all_same : (entries after : List (ℕ × Sleepers B Q L E)) → after ≡ entries → All OfRun (values_of entries) → All OfRun (values_of after)
    all_same entries after same are = subst (λ (es : List (ℕ × Sleepers B Q L E)). All OfRun (values_of es)) (sym same) are

  -- ---- what is shared

  pub last_taken : (frames left : List (FrameView B L E)) (frame : Option (FrameView B L E)) → frames ≡ left ++ option_to_list frame → AreOfRun of plan run frames
      → AreOfRun of plan run left
  last_taken frames left frame is are = (popped frames left frame is are).0

  pub last_is_of_run : (frames left : List (FrameView B L E)) (frame : Option (FrameView B L E)) → frames ≡ left ++ option_to_list frame → AreOfRun of plan run frames
      → IfSome frame (IsOfRun of plan run)
  last_is_of_run frames left frame is are = (popped frames left frame is are).1

module _ {B Q L E : Type 0} (of : EndsOf E) (came : List (FrameView B L E)) where
  -- nothing moved
  pub still_kept : (asleep : Asleep B Q L E) (ready : List (FrameView B L E)) → KeepsOfRun of came asleep asleep ready ready
  still_kept asleep ready = record { asleep = λ plan run new are. are; ready = λ plan run new are too. too }

  -- one after the other, of which the first takes nothing in
  pub kept_on : (a b c : Asleep B Q L E) (r s t : List (FrameView B L E)) → KeepsOfRun of [] a b r s → KeepsOfRun of came b c s t → KeepsOfRun of came a c r t
  kept_on a b c r s t first second = record {
    asleep = λ plan run new are. second.asleep plan run new (first.asleep plan run (none of plan run) are);
    ready = λ plan run new are too. second.ready plan run new (first.asleep plan run (none of plan run) are) (first.ready plan run (none of plan run) are too);
  }

pub none_left : {X : Type 0} (Z W : Type 0) (xs : List X) (n : ℕ) (last : Option X) → n ≡ length xs → MatchOption last ((n ≡ 0) × Z) (λ _. W) → IfNone last (xs ≡ [])
none_left Z W xs n None same is = nil_from_length xs (sym same ∙ is.0)
none_left Z W xs n (Some x) same is = tt

-- The same run, with other frames.
pub still_shared : {B Q L E : Type 0} (of : EndsOf E) (core after : CoreView B L) (ready : List (FrameView B L E)) (asleep : Asleep B Q L E) → after.plan ≡ core.plan → after.run ≡ core.run
    → AreOfRun of core.plan core.run ready → AsleepIsOfRun of core.plan core.run asleep → IsShared of (record { core = after; ready = ready }) asleep
still_shared of core after ready asleep plan run are sleep = record {
  ready = subst (λ (r : List ℕ). AreOfRun of after.plan r ready) (sym run) (subst (λ (p : Plan _ _). AreOfRun of p core.run ready) (sym plan) are);
  asleep = subst (λ (r : List ℕ). AsleepIsOfRun of after.plan r asleep) (sym run) (subst (λ (p : Plan _ _). AsleepIsOfRun of p core.run asleep) (sym plan) sleep);
}
