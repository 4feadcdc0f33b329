-- Calls that make no queue and no frame leave hyperqueues that follow.
use Rattle.queues.proofs.ActiveAfter.{KeepsTask}
use Rattle.std.proofs.lemmas.Option.{same_Some}
use Rattle.std.proofs.Common.{◌≡◌, inl, ℕ, zero, suc, ◌+◌, ◌-◌, ◌≤◌, true, false, nat_eq, List, [], ◌∷◌, Some, None, refl, sym, ap, subst, ◌∙◌, arith}
use Rattle.std.proofs.lemmas.Bool.{eqb-true}
use Rattle.std.specs.Prelude.{slice_get}
use Rattle.swan_model.specs.declared.script.Deed.{Deed}
use Rattle.swan_model.specs.declared.script.Deed.TheVariants as deed
use Rattle.swan_model.specs.declared.script.Script.{Script}
use Rattle.swan_model.specs.Granted.{is_spawn}
use Rattle.swan_model.specs.Lawful.{IsLawful}
use Rattle.swan_model.specs.Nested.{IsEntryOf}
use Rattle.swan_model.specs.QueueFollows.{AreByEnds, IsTask, QueuesFollow, is_by_end, next_queue_deed, queue_point}
use Rattle.swan_model.specs.QueueState.{ActiveFrame, LentEnd, QueueState, active, after_back, after_deed, after_lend, after_take_rest, new_state, root_frame, with_deed}
use Rattle.swan_model.proofs.Lists.{some_within}
use Rattle.queues.proofs.Changing.{changed_follows, made_on, task_on}
use Rattle.swan_model.proofs.Elements.{found_is}
use Rattle.queues.proofs.Moving.{is_making, point_next, used_task}
use Rattle.queues.proofs.QueuePoints.{next_is}
use Rattle.swan_model.proofs.TaskEntries.{some_own}

-- ---- deeds that are answered

pub deed_change : KeepsTask with_deed
deed_change = record { number = λ f. refl; parent = λ f. refl; path = λ f. refl; children = λ f. omega arith }

pub used_follows : (s : Script) → IsLawful s → (state : QueueState) → QueuesFollow s state → (number : ℕ) (frame : ActiveFrame) (d : Deed) → active state number ≡ Some frame
    → next_queue_deed s frame.path frame.deeds ≡ Some d → is_making d ≡ false → QueuesFollow s (after_deed state number)
used_follows s lawful state follows number frame d live next not =
    let new = after_deed state number in
    let deed = next_is s frame.path frame.deeds d next in
    let task = used_task s lawful state frame d (follows.tasks number frame live) deed not in
    changed_follows s state follows new number with_deed frame live deed_change refl (point_next s frame.path frame.deeds (queue_point s frame.path frame.deeds) deed.at)
    (task_on s state new (with_deed frame) (λ queue. refl) (omega arith) task)
    (λ n other at apart. task_on s state new other (λ queue. refl) (omega arith) (follows.tasks n other at))
    (λ queue maker at. inl at) follows.once

pub no_making : (d : Deed) → is_spawn d ≡ false → (d ≡ deed.MakeQueue → ⊥) → is_making d ≡ false
no_making deed.MakeQueue still other = absurd (other refl)
no_making (deed.Spawn gives) still other = absurd (cc)
no_making (deed.MakeObject value) still other = refl
no_making (deed.Push queue value) still other = refl
no_making (deed.Pop queue) still other = refl
no_making (deed.Test queue) still other = refl
no_making (deed.Read object) still other = refl
no_making (deed.Write object value) still other = refl
no_making deed.Sync still other = refl
no_making deed.Quiet still other = refl

-- ---- ends that are lent and come back

pub lent_follows : (s : Script) (state : QueueState) → QueuesFollow s state → (number : ℕ) (frame : ActiveFrame) (ends : List LentEnd) → active state number ≡ Some frame → QueuesFollow s (after_lend state frame ends)
lent_follows s state follows number frame ends live =
    let new = after_lend state frame ends in
    let lend : ActiveFrame → ActiveFrame = λ f. record f { lent = Some (record { deeds = frame.deeds; ends = ends }) } in
    let task = follows.tasks number frame live in
    let found = found_is (λ (f : ActiveFrame). nat_eq f.number number) state.frames frame live in
    let here : active state frame.number ≡ Some frame = follows.known found.index frame found.stands in
    let change : KeepsTask lend = record { number = λ f. refl; parent = λ f. refl; path = λ f. refl; children = λ f. omega arith } in
    changed_follows s state follows new frame.number lend frame here change refl (omega arith)
    (record { some = task.some; deeds = task.deeds; children = task.children; rights = task.rights; made = task.made })
    (λ n other at apart. task_on s state new other (λ queue. refl) (omega arith) (follows.tasks n other at))
    (λ queue maker at. inl at) follows.once

pub by_end_makes : (d : Deed) → is_by_end d ≡ true → is_making d ≡ false
by_end_makes (deed.Push queue value) is = refl
by_end_makes (deed.Pop queue) is = refl
by_end_makes deed.MakeQueue is = absurd (cc)
by_end_makes (deed.MakeObject value) is = absurd (cc)
by_end_makes (deed.Spawn gives) is = absurd (cc)
by_end_makes (deed.Test queue) is = refl
by_end_makes (deed.Read object) is = absurd (cc)
by_end_makes (deed.Write object value) is = absurd (cc)
by_end_makes deed.Sync is = absurd (cc)
by_end_makes deed.Quiet is = absurd (cc)

-- a frame that has done so many queue deeds
abbrev come : ActiveFrame → ℕ → ActiveFrame
come frame deeds = record frame { deeds = deeds }

module _ (s : Script) (lawful : IsLawful s) (state : QueueState) (frame : ActiveFrame) (to : ℕ) (ends : AreByEnds s frame.path frame.deeds to) where
  record HasCome (deeds : ℕ) : Type 0 where
    pub task : IsTask s state (come frame deeds)
    pub later : queue_point s frame.path frame.deeds ≤ queue_point s frame.path deeds

  has_come : IsTask s state frame → (many deeds : ℕ) → deeds ≡ frame.deeds + many → deeds ≤ to → HasCome deeds
  has_come task zero deeds is within =
      let same : frame.deeds ≡ deeds = omega (arith, is) in
      subst HasCome same (record { task = record { some = task.some; deeds = task.deeds; children = task.children; rights = task.rights; made = task.made }; later = omega arith })
  has_come task (suc many) deeds is within =
      let before = frame.deeds + many in
      let rest = has_come task many before refl (omega (arith, is, within)) in
      let each = ends.each before (omega arith) (omega (arith, is, within)) in
      let deed = next_is s frame.path before each.0 each.1 in
      let further = point_next s frame.path before (queue_point s frame.path before) deed.at in
      let same : before + 1 ≡ deeds = omega (arith, is) in
      let used : IsTask s state (come frame (before + 1)) = used_task s lawful state (come frame before) each.0 rest.task deed (by_end_makes each.0 each.2) in
      subst HasCome same (record { task = used; later = omega (arith, rest.later, further) })

  pub back_follows : (follows : QueuesFollow s state) (number : ℕ) → active state number ≡ Some frame → QueuesFollow s (after_back state number to)
  back_follows follows number live =
      let new = after_back state number to in
      let back : ActiveFrame → ActiveFrame = λ f. record f { deeds = to; lent = None } in
      let all = has_come (follows.tasks number frame live) (to - frame.deeds) to (omega (arith, ends.order)) (omega arith) in
      let task = all.task in
      let change : KeepsTask back = record { number = λ f. refl; parent = λ f. refl; path = λ f. refl; children = λ f. omega arith } in
      changed_follows s state follows new number back frame live change refl all.later
      (record { some = task.some; deeds = task.deeds; children = task.children; rights = task.rights; made = task.made })
      (λ n other at apart. task_on s state new other (λ queue. refl) (omega arith) (follows.tasks n other at))
      (λ queue maker at. inl at) follows.once

-- ---- what is left of a queue

pub rest_follows : (s : Script) (state : QueueState) → QueuesFollow s state → (queue : ℕ) → QueuesFollow s (after_take_rest state queue)
rest_follows s state follows queue =
    let new = after_take_rest state queue in
    record {
      known = follows.known;
      root = follows.root;
      others = follows.others;
      tasks = λ n frame live. task_on s state new frame (λ q. refl) (omega arith) (follows.tasks n frame live);
      children = λ n parent frame live of.
          let up = follows.children n parent frame live of in
          record { above = up.above; live = up.live; index = up.index; path = up.path; spawned = up.spawned };
      different = follows.different;
      queues = λ q maker at. made_on s state new (λ t done. done) q maker (follows.queues q maker at);
      once = follows.once;
    }

-- ---- before the first call

pub at_root : (i : ℕ) (frame : ActiveFrame) → slice_get (root_frame ∷ []) i ≡ Some frame → root_frame ≡ frame
at_root zero frame is = same_Some root_frame frame is
at_root (suc i) frame is = absurd (cc)

pub only_root : (n : ℕ) (frame : ActiveFrame) → active new_state n ≡ Some frame → (root_frame ≡ frame) × (n ≡ 0)
only_root n frame is =
    let found = found_is (λ (f : ActiveFrame). nat_eq f.number n) (root_frame ∷ []) frame is in
    let same = at_root found.index frame found.stands in
    let number : frame.number ≡ n = eqb-true frame.number n found.passes in
    (same, sym number ∙ ap (λ (f : ActiveFrame). f.number) (sym same))

root_task : (s : Script) → IsLawful s → IsTask s new_state root_frame
root_task s lawful =
    let first = some_within s.entries 0 (let some = lawful.some in omega (arith, some)) in
    let own : IsEntryOf s [] 0 = record { entry = first.0; stands = first.1; own = lawful.first first.0 first.1 } in
    record {
      some = some_own s [] 0 own;
      deeds = omega arith;
      children = refl;
      rights = λ queue mode origin queues made. absurd (cc);
      made = λ queue mode queues holds. absurd (cc);
    }

pub new_follows : (s : Script) → IsLawful s → QueuesFollow s new_state
new_follows s lawful =
    record {
      known = λ i frame at.
          let same = at_root i frame at in
          subst (λ f. active new_state f.number ≡ Some f) same refl;
      root = λ frame live.
          let same = (only_root 0 frame live).0 in
          (ap (λ (f : ActiveFrame). f.path) (sym same), ap (λ (f : ActiveFrame). f.parent) (sym same));
      others = λ n frame live apart. absurd (apart (only_root n frame live).1);
      tasks = λ n frame live. subst (IsTask s new_state) (only_root n frame live).0 (root_task s lawful);
      children = λ n parent frame live of.
          let none : None ≡ Some parent = ap (λ (f : ActiveFrame). f.parent) (only_root n frame live).0 ∙ of in
          absurd (cc);
      different = λ n m a b one two same. (only_root n a one).1 ∙ sym (only_root m b two).1;
      queues = λ queue maker at. absurd (cc);
      once = λ queue other origin one two. absurd (cc);
    }
