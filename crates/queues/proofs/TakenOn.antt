-- What has left a queue goes on with the calls, apart from its items.
use Rattle.std.proofs.Common.{◌≡◌, ◌≢◌, ℕ, zero, suc, ◌+◌, ◌-◌, ◌<◌, ◌≤◌, true, false, None, Some, List, length, refl, sym, ap, ◌∙◌, arith}
use Rattle.std.proofs.lemmas.Option.{same_Some}
use Rattle.std.proofs.lemmas.Bool.{false_from_ne_true}
use Rattle.swan_model.specs.declared.origin.Origin.{Origin}
use Rattle.swan_model.specs.declared.rights.Mode.TheVariants.{Pop}
use Rattle.swan_model.specs.declared.script.Deed.{Deed}
use Rattle.swan_model.specs.declared.script.Deed.TheVariants as deed
use Rattle.swan_model.specs.declared.script.Script.{Script}
use Rattle.swan_model.specs.Granted.{is_spawn}
use Rattle.swan_model.specs.Lawful.{IsLawful}
use Rattle.swan_model.specs.QueueFollows.{AreByEnds, is_by_end, next_queue_deed, queue_point, taken_at}
use Rattle.swan_model.specs.QueueState.{ActiveFrame, LentEnd, QueueState, active, after_back, after_create, after_create_root, after_deed, after_finish, after_lend, after_take_rest, holds_queue, with_deed, with_made}
use Rattle.swan_model.specs.SerialTime.{times}
use Rattle.swan_model.specs.Told.{is_pop_of, taken}
use Rattle.swan_model.proofs.Origins.{is_same-equal}
use Rattle.swan_model.proofs.ScriptCounts.{taken_kept, taken_rises}
use Rattle.queues.specs.Chunks.{Chunks, HasOwners, HasTaken, IsOwner, after_close}
use Rattle.queues.specs.Tells.{FindsItem, FindsNone}
use Rattle.queues.specs.Tree.{has_queue}
use Rattle.queues.proofs.ActiveAfter.{one_changed, one_goes_on, one_gone}
use Rattle.queues.proofs.Making.{holds_before}
use Rattle.queues.proofs.MatchDeed.{HasDone, does, done_deed, pops_stay, taken_told, taken_unowned, takes_later}
use Rattle.queues.proofs.MatchFinish.{taken_finish}
use Rattle.queues.proofs.MatchOwners.{other_owners, owns_once}
use Rattle.queues.proofs.MatchParts.{NonePops, left_is, owns_at}
use Rattle.queues.proofs.MatchPop.{taken_moved}
use Rattle.queues.proofs.MatchSame.{PopsSame, pops_itself, taken_same, tell_equal}
use Rattle.queues.proofs.QueuePoints.{moved_counts, next_is}

pop_is : (queue : Origin) (d : Deed) → is_pop_of queue d ≡ true → d ≡ deed.Pop queue
pop_is queue (deed.Pop other) is = ap deed.Pop (is_same-equal other queue is)
pop_is queue deed.Quiet is = absurd (cc)
pop_is queue deed.Sync is = absurd (cc)
pop_is queue deed.MakeQueue is = absurd (cc)
pop_is queue (deed.MakeObject first) is = absurd (cc)
pop_is queue (deed.Spawn gives) is = absurd (cc)
pop_is queue (deed.Push other value) is = absurd (cc)
pop_is queue (deed.Test other) is = absurd (cc)
pop_is queue (deed.Read object) is = absurd (cc)
pop_is queue (deed.Write object value) is = absurd (cc)

by_end-no_spawn : (d : Deed) → is_by_end d ≡ true → is_spawn d ≡ false
by_end-no_spawn (deed.Push queue value) is = refl
by_end-no_spawn (deed.Pop queue) is = refl
by_end-no_spawn deed.Quiet is = absurd (cc)
by_end-no_spawn deed.Sync is = absurd (cc)
by_end-no_spawn deed.MakeQueue is = absurd (cc)
by_end-no_spawn (deed.MakeObject first) is = absurd (cc)
by_end-no_spawn (deed.Spawn gives) is = absurd (cc)
by_end-no_spawn (deed.Test queue) is = refl
by_end-no_spawn (deed.Read object) is = absurd (cc)
by_end-no_spawn (deed.Write object value) is = absurd (cc)

-- Where a task's deeds from one number up to another are done by ends, and none of them pops a queue, as much has left
-- the queue by the one point as by the other.
module _ (s : Script) (lawful : IsLawful s) (queue : Origin) (path : List ℕ) (from to : ℕ) (are : AreByEnds s path from to)
    (none : (k : ℕ) → from ≤ k → k < to → next_queue_deed s path k ≢ Some (deed.Pop queue)) where
  taken_further : (many : ℕ) → from + many ≤ to → taken s queue (queue_point s path (from + many)) ≡ taken s queue (queue_point s path from)
  taken_further zero within =
      let same : from + 0 ≡ from = omega arith in
      ap (λ k. taken s queue (queue_point s path k)) same
  taken_further (suc many) within =
      let k = from + many in
      let one = are.each k (omega arith) (omega (arith, within)) in
      let next = next_is s path k one.0 one.1 in
      let other : is_pop_of queue one.0 ≡ false =
      false_from_ne_true (is_pop_of queue one.0) (λ pops. none k (omega arith) (omega (arith, within)) (one.1 ∙ ap Some (pop_is queue one.0 pops))) in
      let here : from + suc many ≡ k + 1 = omega arith in
      ap (λ m. taken s queue (queue_point s path m)) here
      ∙ (moved_counts s lawful queue path k one.0 one.1 (by_end-no_spawn one.0 one.2)).takes
      ∙ taken_kept s queue (queue_point s path k) (ap (is_pop_of queue) next.does ∙ other)
      ∙ taken_further many (omega (arith, within))

  taken_by_ends : taken s queue (queue_point s path to) ≡ taken s queue (queue_point s path from)
  taken_by_ends =
      let all : from + (to - from) ≡ to = omega (arith, are.order) in
      sym (ap (λ k. taken s queue (queue_point s path k)) all) ∙ taken_further (to - from) (omega (arith, are.order))

module _ (s : Script) (state : QueueState) (number : ℕ) (queue : Origin) (end at : ℕ) (chunks : Chunks) (has : HasTaken s state number queue end chunks at) where
  -- who takes the rest of a queue leaves the frames
  pub taken_rest : (emptied : ℕ) → HasTaken s (after_take_rest state emptied) number queue end chunks at
  taken_rest emptied =
      taken_same s number queue state (after_take_rest state emptied) end chunks at has (λ index chunk stands. tell_equal (PopsSame s number queue) (pops_itself s number queue) _ _ refl)

  -- another queue that is made
  pub taken_root_aside : (root : ActiveFrame) → active state 0 ≡ Some root → number < length state.makers → HasTaken s (after_create_root state) number queue end chunks at
  taken_root_aside root live old =
      let made = length state.makers in
      let after = after_create_root state in
      let one = one_changed state 0 (with_made made) (λ f. refl) root live in
      taken_told s state after number queue end 0 chunks at has (other_owners state after 0 (Some (with_made made root)) chunks one) root (with_made made root) live one.changed (record { path = refl; takes = refl; pops = holds_before root made number Pop old })

module _ (s : Script) (state : QueueState) (number : ℕ) (queue : Origin) (end at n : ℕ) (frame : ActiveFrame) (live : active state n ≡ Some frame) (chunks : Chunks)
    (has : HasTaken s state number queue end chunks at) where
  pub taken_made_aside : IsLawful s → next_queue_deed s frame.path frame.deeds ≡ Some deed.MakeQueue → number < length state.makers → HasTaken s (after_create state frame) number queue end chunks at
  taken_made_aside lawful next old =
      let made = length state.makers in
      let after = after_create state frame in
      let change : ActiveFrame → ActiveFrame = λ f. with_deed (with_made made f) in
      let one = one_goes_on state n frame change (λ f. refl) live in
      let done : HasDone number frame (change frame) = record { path = refl; deeds = refl; pops = holds_before frame made number Pop old } in
      taken_told s state after number queue end n chunks at has (other_owners state after n (Some (change frame)) chunks one) frame (change frame) live one.changed
      (pops_stay s lawful number queue frame (change frame) done deed.MakeQueue next refl (λ pops. absurd (cc)))

  -- a deed by which nothing leaves the queue
  pub taken_deed : IsLawful s → (d : Deed) → next_queue_deed s frame.path frame.deeds ≡ Some d → is_spawn d ≡ false → (d ≡ deed.Pop queue → FindsNone frame s queue)
      → HasTaken s (after_deed state n) number queue end chunks at
  taken_deed lawful d next quiet none =
      let after = after_deed state n in
      let one = one_changed state n with_deed (λ f. refl) frame live in
      taken_told s state after number queue end n chunks at has (other_owners state after n (Some (with_deed frame)) chunks one) frame (with_deed frame) live one.changed
      (pops_stay s lawful number queue frame (with_deed frame) (done_deed number frame) d next quiet (λ pops. none (pop_is queue d pops)))

  pub taken_lend : (ends : List LentEnd) → HasTaken s (after_lend state frame ends) number queue end chunks at
  taken_lend ends =
      let change : ActiveFrame → ActiveFrame = λ f. record f { lent = Some (record { deeds = frame.deeds; ends = ends }) } in
      let after = after_lend state frame ends in
      let one = one_goes_on state n frame change (λ f. refl) live in
      taken_told s state after number queue end n chunks at has (other_owners state after n (Some (change frame)) chunks one) frame (change frame) live one.changed (record { path = refl; takes = refl; pops = refl })

  -- ends that come back, by which nothing left the queue
  pub taken_back_aside : IsLawful s → (deeds : ℕ) → AreByEnds s frame.path frame.deeds deeds → ((k : ℕ) → frame.deeds ≤ k → k < deeds → next_queue_deed s frame.path k ≢ Some (deed.Pop queue))
      → HasTaken s (after_back state n deeds) number queue end chunks at
  taken_back_aside lawful deeds are none =
      let change : ActiveFrame → ActiveFrame = λ f. record f { deeds = deeds; lent = None } in
      let after = after_back state n deeds in
      let one = one_changed state n change (λ f. refl) frame live in
      taken_told s state after number queue end n chunks at has (other_owners state after n (Some (change frame)) chunks one) frame (change frame) live one.changed
      (record { path = refl; takes = taken_by_ends s lawful queue frame.path frame.deeds deeds are none; pops = refl })

  pub taken_end_aside : HasOwners state number chunks → has_queue frame number ≡ false → HasTaken s (after_finish state n) number queue end chunks at
  taken_end_aside owners lacks =
      let after = after_finish state n in
      taken_unowned s state after number queue end n chunks at has (other_owners state after n None chunks (one_gone state n)) (λ index is.
      let owner = owners.owners index n is in
      let same : owner.0 ≡ frame = same_Some owner.0 frame (sym owner.1 ∙ live) in
      let both : true ≡ false = sym owner.2 ∙ ap (λ f. has_queue f number) same ∙ lacks in
      absurd (cc))

  module _ (index : ℕ) (own : IsOwner state chunks index n) (pops : holds_queue frame number Pop ≡ true) (none : NonePops state number chunks index) where
    pub taken_at_point : at ≡ taken_at s frame queue
    taken_at_point = left_is s state number queue end chunks at index frame has (owns_at state chunks index n frame own live) none pops

    pub taken_pop : IsLawful s → HasOwners state number chunks → next_queue_deed s frame.path frame.deeds ≡ Some (deed.Pop queue) → FindsItem frame s queue
        → HasTaken s (after_deed state n) number queue end chunks (at + 1)
    taken_pop lawful owners next finds =
        let after = after_deed state n in
        let later = with_deed frame in
        let done = done_deed number frame in
        let rises = taken_rises s queue (queue_point s frame.path frame.deeds) (does s lawful number queue frame later done (deed.Pop queue) next refl) finds in
        let takes = takes_later s lawful number queue frame later done (deed.Pop queue) next refl in
        let here = taken_at_point in
        let one = one_changed state n with_deed (λ f. refl) frame live in
        taken_moved s state after number queue end n frame later live one.changed refl refl pops chunks at (at + 1) index has
        (other_owners state after n (Some later) chunks one) (owns_once state number chunks n owners) own none
        (omega (arith, here, rises, takes))

    -- ends that come back, by which the frame may have popped
    pub taken_back : HasOwners state number chunks → (deeds : ℕ) → HasTaken s (after_back state n deeds) number queue end chunks (taken s queue (queue_point s frame.path deeds))
    taken_back owners deeds =
        let change : ActiveFrame → ActiveFrame = λ f. record f { deeds = deeds; lent = None } in
        let after = after_back state n deeds in
        let one = one_changed state n change (λ f. refl) frame live in
        taken_moved s state after number queue end n frame (change frame) live one.changed refl refl pops chunks at (taken s queue (queue_point s frame.path deeds)) index has
        (other_owners state after n (Some (change frame)) chunks one) (owns_once state number chunks n owners) own none refl

  pub taken_end : IsLawful s → HasOwners state number chunks → next_queue_deed s frame.path frame.deeds ≡ None → 0 < length (times s frame.path)
      → HasTaken s (after_finish state n) number queue end (after_close n chunks) at
  taken_end lawful owners over some =
      taken_finish s lawful state (after_finish state n) number queue end n frame live over some chunks
      (other_owners state (after_finish state n) n None chunks (one_gone state n)) (owns_once state number chunks n owners) at has
