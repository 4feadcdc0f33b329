-- Going through the roots of a plan in their order, and the core that has the root alone.
use Rattle.std.proofs.Common.{◌≡◌, ◌≢◌, ℕ, suc, ◌+◌, ◌≤◌, List, [], ◌∷◌, Some, None, length, drop, map, ◌++◌, refl, sym, ap, ◌∙◌, subst, arith, length-drop}
use Rattle.std.specs.Option.{option_map}
use Rattle.std.specs.Prelude.{slice_get}
use Rattle.std.proofs.lemmas.List.{length-map}
use Rattle.std.proofs.lemmas.Option.{same_Some, slice_get-map, slice_get_within}
use Rattle.swan_model.specs.declared.body.Answer.TheVariants as answer
use Rattle.swan_model.specs.declared.body.Body.{Ghosts}
use Rattle.swan_model.specs.declared.origin.Origin.TheVariants.{Root}
use Rattle.swan_model.specs.declared.plan.Plan.{Plan}
use Rattle.swan_model.specs.declared.plan.RootQueue.{RootQueue}
use Rattle.swan_model.specs.declared.script.Script.{Script}
use Rattle.swan_model.specs.Elision.{root, root_holdings}
use Rattle.swan_model.specs.QueueState.{ActiveFrame}
use Rattle.swan_model.specs.Readings.{at_start}
use Rattle.swan_model.specs.Script.{script}
use Rattle.serial_elision.proofs.Lawful.{lawful}
use Rattle.swan_model.proofs.RootLists.{length-root_holdings}
use Rattle.serial_elision.proofs.TaskSteps.{root_stands}
use Rattle.task_frames.specs.declared.stage.Stage.TheVariants.{Ready}
use Rattle.task_frames.specs.Cores.{AreBooked, AreCounted, AreFrames, AreObjects, AreQueues, HasIt, IsAtCore, IsCore, KeptView}
use Rattle.task_frames.specs.Frames.{IsPlan, TaskView, root_task}
use Rattle.task_frames.specs.Opened.{AreFirstObjects, AreFirstQueues, IsKeptAtFirst, roots_to}
use Rattle.task_frames.specs.Records.{live_at}
use Rattle.task_frames.proofs.Opening.{booked-open, counted-open, frames-open, objects-open, queues-open}
use Rattle.swan_model.proofs.Lists.{get-drop, drop_next}

-- the next one, and what is left behind it
pub record IsNextOf {X : Type 0} (xs : List X) (n : ℕ) (x : X) (left : List X) : Type 0 where
  pub stands : slice_get xs n ≡ Some x
  pub rest : left ≡ drop (n + 1) xs
  pub more : n + 1 ≤ length xs

pub next-of : {X : Type 0} (xs : List X) (n : ℕ) (x : X) (left : List X) → drop n xs ≡ x ∷ left → IsNextOf xs n x left
next-of xs n x left is =
    let stands = sym (get-drop n xs) ∙ ap (λ ys. slice_get ys 0) is in
    let whole : x ∷ drop (n + 1) xs ≡ x ∷ left = sym (drop_next xs n x stands) ∙ is in
    let rest : left ≡ drop (n + 1) xs = cc in
    record { stands = stands; rest = rest; more = omega (arith, slice_get_within xs n x stands) }

-- the reading with one root more
pub roots-more : (n : ℕ) → roots_to n ++ Root n ∷ [] ≡ roots_to (n + 1)
roots-more n = let one : suc n ≡ n + 1 = omega arith in ap roots_to one

-- none is left
pub all-of : {X : Type 0} (xs : List X) (n : ℕ) → n ≤ length xs → length (drop n xs) ≡ 0 → n ≡ length xs
all-of xs n less none = omega (arith, length-drop n xs, less, none)

-- the first items of a root queue are the script's
pub items-at : (queues : List RootQueue) (n : ℕ) (queue : RootQueue) → slice_get queues n ≡ Some queue → slice_get (map (λ (q : RootQueue). q.items) queues) n ≡ Some queue.items
items-at queues n queue is = slice_get-map (λ (q : RootQueue). q.items) queues n ∙ ap (option_map (λ (q : RootQueue). q.items)) is

-- ---- the core with the root alone

module _ {B L : Type 0} (G : Ghosts B L) (plan : Plan B L) (sound : IsPlan plan) where
  abbrev s : Script
  s = script G plan

  many-queues : length s.queues ≡ length plan.roots.queues
  many-queues = length-map plan.roots.queues (λ (queue : RootQueue). queue.items)

  root-at-core : (fuel : ℕ) → fuel ≡ plan.fuel → IsAtCore G (record { task = record (root_task plan (root_holdings plan.roots)) { fuel = fuel }; stage = Ready plan.root_local answer.Start })
  root-at-core fuel same =
      let few = sound.lists.roots in
      let most = sound.fuel in
      record {
        plan = sound;
        alone = record { top = root plan; stands = root_stands G plan; stage = (refl, same, refl); modes = refl; children = refl };
        within = record { holds = omega (arith, length-root_holdings plan.roots, few, most); spawned = omega (arith, most) };
        since = refl;
      }

  module _ (kept : KeptView) (first : IsKeptAtFirst s (length plan.roots.queues) (length plan.roots.objects) (root_holdings plan.roots) kept) where
    first-queues : AreFirstQueues s kept.state (length s.queues)
    first-queues = subst (AreFirstQueues s kept.state) (sym many-queues) first.queues_are

    first-objects : AreFirstObjects s kept.versions (length s.queues) (length s.objects)
    first-objects = subst (λ n. AreFirstObjects s kept.versions n (length s.objects)) (sym many-queues) first.objects_are

    reading-is : at_start (roots_to (length s.queues)) (roots_to (length s.objects)) ≡ kept.reading
    reading-is = ap (λ n. at_start (roots_to n) (roots_to (length s.objects))) many-queues ∙ sym first.reading

    root-kept : IsCore G plan kept
    root-kept =
        let lawful-is = lawful G plan sound.lists in
        let none : (n : ℕ) → n ≢ 0 → live_at kept.live n ≡ None = λ n other. first.live.others n other in
        record {
          sound = sound;
          name = first.name;
          queues = subst (λ r. AreQueues s r kept.state) reading-is (queues-open G plan sound lawful-is kept.state kept.versions kept.live first-queues first-objects first.live.changed none);
          objects = subst (AreObjects s kept.reading kept.versions kept.live) (sym first.count)
              (subst (λ r. AreObjects s r kept.versions kept.live (length s.objects)) reading-is (objects-open G plan sound lawful-is kept.state kept.versions kept.live first-queues first-objects first.live.changed none));
          frames = subst (AreFrames G plan kept.reading kept.state kept.live) (sym first.frames)
              (subst (λ r. AreFrames G plan r kept.state kept.live 1) reading-is (frames-open G plan sound lawful-is kept.state kept.versions kept.live first-queues first-objects first.live.changed none));
          booked = subst (AreBooked G plan kept.reading) (sym first.faults)
              (subst (λ r. AreBooked G plan r []) reading-is (booked-open G plan sound lawful-is kept.state kept.versions kept.live first-queues first-objects first.live.changed none));
          counted = subst (AreCounted s kept.live) (sym first.faults) (counted-open G plan sound lawful-is kept.state kept.versions kept.live first-queues first-objects first.live.changed none);
        }

    root-here : (fuel : ℕ) → fuel ≡ plan.fuel → HasIt G kept (record { task = record (root_task plan (root_holdings plan.roots)) { fuel = fuel }; stage = Ready plan.root_local answer.Start })
    root-here fuel same = record {
      core = root-kept;
      is = root-at-core fuel same;
      of = record { frame = record { parent = None; path = []; done = 0; holdings = root_holdings plan.roots; failed = 0 }; live = first.live.changed; path = refl; done = refl; holdings = refl };
      back = λ own active-is.
          let untouched = first.queues_are.untouched in
          let it = same_Some untouched.root own (sym untouched.live ∙ active-is) in
          ap (λ (f : ActiveFrame). f.lent) (sym it) ∙ untouched.back;
    }

    pub opened-has : (task : TaskView B L) (local : L) (fuel : ℕ) → fuel ≡ plan.fuel → task ≡ record (root_task plan (root_holdings plan.roots)) { fuel = fuel } → local ≡ plan.root_local
        → HasIt G kept (record { task = task; stage = Ready local answer.Start })
    opened-has task local fuel same is begins =
        subst (λ t. HasIt G kept (record { task = t; stage = Ready local answer.Start })) (sym is)
        (subst (λ l. HasIt G kept (record { task = record (root_task plan (root_holdings plan.roots)) { fuel = fuel }; stage = Ready l answer.Start })) (sym begins) (root-here fuel same))
