-- A frame that has no live child may end: it may join, and each of its versions has its value.
use Rattle.std.proofs.Common.{◌≡◌, inl, inr, ℕ, ◌+◌, false, [], ◌∷◌, ◌++◌, None, Some, length, refl, sym, ap, ◌∙◌}
use Rattle.std.proofs.lemmas.Bool.{cases_eq}
use Rattle.std.proofs.lemmas.Option.{same_Some}
use Rattle.swan_model.specs.declared.body.Body.{Ghosts}
use Rattle.swan_model.specs.declared.origin.Origin.{Origin}
use Rattle.swan_model.specs.declared.plan.Plan.{Plan}
use Rattle.swan_model.specs.declared.script.Deed.{Deed}
use Rattle.swan_model.specs.declared.script.Deed.TheVariants.{Pop}
use Rattle.swan_model.specs.declared.script.Script.{Script}
use Rattle.swan_model.specs.Lawful.{IsLawful}
use Rattle.swan_model.specs.QueueFollows.{next_queue_deed}
use Rattle.swan_model.specs.QueueState.{ActiveFrame, IsActiveChild, QueueState, active, after_deed, with_deed}
use Rattle.swan_model.specs.Script.{script}
use Rattle.swan_model.specs.SerialTime.{Progress, Reading, frame_of, is_queue_deed, time, times}
use Rattle.swan_model.specs.Told.{deed_at}
use Rattle.swan_model.specs.Versions.{IsSettled, Placed, VersionState, placed_at}
use Rattle.swan_model.proofs.Elements.{option_cases}
use Rattle.object_versions.proofs.EndedChildren.{ended_children}
use Rattle.queues.specs.Asks.{MayJoin}
use Rattle.pop_order.specs.OneChange.{IsOnlyChange}
use Rattle.queues.proofs.ActiveAfter.{one_changed}
use Rattle.queues.proofs.NextDeeds.{none_after, none_then}
use Rattle.queues.proofs.Rereading.{fit_of}
use Rattle.task_frames.specs.Cores.{AreFrames, AreObjects, AreQueues}
use Rattle.object_versions.specs.Following.{WaitsForNone}
use Rattle.task_frames.specs.Records.{IsLiveChild, LiveFrame, NumberedFrames, live_at}
use Rattle.task_frames.proofs.Queues.{next-does}
use Rattle.task_frames.proofs.Waiting.{active-child}
use Rattle.swan_model.proofs.Paths.{not_root}

module _ {B L : Type 0} (G : Ghosts B L) (plan : Plan B L) (lawful : IsLawful (script G plan)) (r : Reading) (state : QueueState) (live : NumberedFrames) (frames : ℕ)
    (queues : AreQueues (script G plan) r state) (are : AreFrames G plan r state live frames) (n : ℕ) (f : LiveFrame) (there : live_at live n ≡ Some f)
    (alone : (m : ℕ) → ¬ IsLiveChild live n m) where
  abbrev s : Script
  s = script G plan

  abbrev p : Progress
  p = record { number = n; path = f.path; done = f.done }

  -- no child is active
  pub none-active : (m : ℕ) → ¬ IsActiveChild state n m
  none-active m child =
      let g = are.live_is m child.frame child.live in
      let own = are.active_is m g.0 g.1 in
      let same = same_Some own.0 child.frame (sym own.1 ∙ child.live) in
      alone m (record { frame = g.0; live = g.1; of = sym own.2 ∙ ap (λ (x : ActiveFrame). x.parent) same ∙ child.of })

  pub may-join : (a : ActiveFrame) → active state n ≡ Some a → a.lent ≡ None → MayJoin state n
  may-join a own back = record { frame = a; may = record { live = own; back = back }; alone = none-active }

  -- after a pop that the queues have counted too
  pub may-join_dry : (a : ActiveFrame) → active state n ≡ Some a → a.lent ≡ None → MayJoin (after_deed state n) n
  may-join_dry a own back = record { frame = with_deed a; may = record { live = changed.changed; back = back }; alone = alone-then } where
    changed : IsOnlyChange (active state) (active (after_deed state n)) n (Some (with_deed a))
    changed = one_changed state n with_deed (λ x. refl) a own

    alone-then : (m : ℕ) → ¬ IsActiveChild (after_deed state n) n m
    alone-then m child = elim (cases_eq m n) [
      | inl same ↦
          let it : with_deed a ≡ child.frame = same_Some (with_deed a) child.frame (sym changed.changed ∙ ap (active (after_deed state n)) (sym same) ∙ child.live) in
          none-active n (record { frame = a; live = own; of = ap (λ (x : ActiveFrame). x.parent) it ∙ child.of })
      | inr other ↦ none-active m (record { frame = child.frame; live = sym (changed.others m other) ∙ child.live; of = child.of })
    ]

  -- no queue deed is left after the last entry
  pub over-next : (a : ActiveFrame) → active state n ≡ Some a → (does : Deed) → deed_at s (time s f.path f.done) ≡ does → is_queue_deed does ≡ false → f.done + 1 ≡ length (times s f.path)
      → next_queue_deed s a.path a.deeds ≡ None
  over-next a own does is quiet last =
      let told = are.told n f there in
      none_then s a p (fit_of s lawful state r queues.fit n p told.progress a own) does (next-does s n f.path f.done does told.stands.left is) last lawful quiet

  pub over-next_dry : (a : ActiveFrame) → active state n ≡ Some a → (queue : Origin) → deed_at s (time s f.path f.done) ≡ Pop queue → f.done + 1 ≡ length (times s f.path)
      → next_queue_deed s a.path (a.deeds + 1) ≡ None
  over-next_dry a own queue is last =
      let told = are.told n f there in
      none_after s a p (fit_of s lawful state r queues.fit n p told.progress a own) (Pop queue) (next-does s n f.path f.done (Pop queue) told.stands.left is) last

  module _ (versions : VersionState) (objects : ℕ) (have : AreObjects s r versions live objects) where
    -- whoever has an object is in the reading
    owner-read : (m place : ℕ) (object : Placed) → placed_at versions m place ≡ Some object → (progress : Progress) × (frame_of r m ≡ Some progress)
    owner-read m place object stands = elim (option_cases (live_at live m)) [
      | inr found ↦ (record { number = m; path = found.0.path; done = found.0.done }, (are.told m found.0 found.1).progress)
      | inl none ↦ elim (cases_eq m 0) [
        | inl root ↦ let it = have.follow.root in (it.0, ap (frame_of r) root ∙ it.1)
        | inr other ↦ absurd (have.gone m place object none other stands)
      ]
    ]

    pub may-end : WaitsForNone versions n → IsSettled versions n
    may-end ready =
        ended_children s r versions n p have.follow (are.told n f there).progress ready children
        (λ place owing object stands owes. let other = have.follow.owing n place owing object stands (inl owes) in owner-read owing other.0 other.1 other.2)
      where
        children : (m index : ℕ) (below : Progress) → frame_of r m ≡ Some below → below.path ≡ f.path ++ index ∷ [] → (place : ℕ) → placed_at versions m place ≡ None
        children m index below known path place = elim (option_cases (placed_at versions m place)) [
          | inl none ↦ none
          | inr has ↦ elim (option_cases (live_at live m)) [
            | inr found ↦
                let told = are.told m found.0 found.1 in
                let same : record { number = m; path = found.0.path; done = found.0.done } ≡ below = same_Some _ below (sym told.progress ∙ known) in
                absurd (none-active m (active-child G plan lawful r state live frames queues are n f there m index found.0 found.1 (ap (λ (q : Progress). q.path) same ∙ path)))
            | inl none ↦ elim (cases_eq m 0) [
              | inl root ↦
                  let it = have.follow.root in
                  let same : it.0 ≡ below = same_Some it.0 below (sym it.1 ∙ ap (frame_of r) (sym root) ∙ known) in
                  absurd (not_root f.path [] index (sym path ∙ ap (λ (q : Progress). q.path) (sym same) ∙ it.2))
              | inr other ↦ absurd (have.gone m place has.0 none other has.1)
            ]
          ]
        ]
