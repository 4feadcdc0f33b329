-- A state in which one frame has gone on follows, where that frame is still a task of the script.
use Rattle.queues.proofs.ActiveAfter.{KeepsTask}
use Rattle.std.proofs.Common.{◌≡◌, ◌⊎◌, inl, inr, ℕ, ◌≤◌, Bool, true, false, nat_eq, nat_lt, cond, List, [], ◌∷◌, ◌++◌, length, map, Option, Some, None, refl, sym, ap, subst, ◌∙◌, arith}
use Rattle.std.proofs.lemmas.Bool.{cases_eq, eq-eqb, eqb-true, lt-ltb, ltb-true, ne_eqb, or_cases, or_left, or_right}
use Rattle.std.proofs.lemmas.Option.{slice_get-map, same_Some}
use Rattle.std.specs.List.{find, list_all}
use Rattle.std.specs.Option.{option_map, option_map_or}
use Rattle.std.specs.Prelude.{not, slice_get}
use Rattle.swan_model.specs.declared.origin.Origin.{Origin}
use Rattle.swan_model.specs.declared.script.Entry.{Entry}
use Rattle.swan_model.specs.declared.script.Script.{Script}
use Rattle.swan_model.specs.PathOrder.{is_under}
use Rattle.swan_model.specs.QueueFollows.{IsChildOf, IsMade, IsTask, QueuesFollow, is_done_among, is_reached, queue_origin, queue_point, queue_time}
use Rattle.swan_model.specs.QueueState.{ActiveFrame, QueueMaker, planned, made_by, QueueState, active, frame_after_change}
use Rattle.swan_model.proofs.Elements.{all_each, all_from, find_map, mapped_is}
use Rattle.queues.proofs.Frames.{active_number}

kept : {Y : Type 0} (get : ActiveFrame → Y) (change : ActiveFrame → ActiveFrame) → ((f : ActiveFrame) → get (change f) ≡ get f) → (b : Bool) (f : ActiveFrame) → get (cond b (change f) f) ≡ get f
kept get change same true f = same f
kept get change same false f = refl

-- ---- what is done stays done

module _ (s : Script) where
  reached_on : (t : ℕ) (path : List ℕ) (x y : ActiveFrame) → y.path ≡ x.path → queue_point s x.path x.deeds ≤ queue_point s y.path y.deeds → is_reached s t path x ≡ true → is_reached s t path y ≡ true
  reached_on t path x y same later is = elim (or_cases (not (is_under x.path path)) (nat_lt t (queue_point s x.path x.deeds)) is) [
    | inl aside ↦ or_left (not (is_under y.path path)) (nat_lt t (queue_point s y.path y.deeds)) (ap (λ q. not (is_under q path)) same ∙ aside)
    | inr past ↦
        let before = ltb-true t (queue_point s x.path x.deeds) past in
        or_right (not (is_under y.path path)) (nat_lt t (queue_point s y.path y.deeds)) (lt-ltb t (queue_point s y.path y.deeds) (omega (arith, before, later)))
  ]

  -- what is done is done by an entry that all have reached
  pub record IsDoneBy (state : QueueState) (t : ℕ) : Type 0 where
    pub entry : Entry
    pub stands : slice_get s.entries t ≡ Some entry
    pub reached : list_all (is_reached s t entry.path) state.frames ≡ true

  pub done_is : (state : QueueState) (t : ℕ) → is_done_among s state t ≡ true → IsDoneBy state t
  done_is state t is = by (slice_get s.entries t) refl is
    where
      by : (found : Option Entry) → slice_get s.entries t ≡ found → option_map_or (λ (e : Entry). list_all (is_reached s t e.path) state.frames) found false ≡ true → IsDoneBy state t
      by None stands is = absurd (cc)
      by (Some entry) stands is = record { entry = entry; stands = stands; reached = is }

  pub done_from : (state : QueueState) (t : ℕ) (entry : Entry) → slice_get s.entries t ≡ Some entry → list_all (is_reached s t entry.path) state.frames ≡ true → is_done_among s state t ≡ true
  done_from state t entry stands all = ap (λ o. option_map_or (λ (e : Entry). list_all (is_reached s t e.path) state.frames) o false) stands ∙ all

  -- a queue stays made where what was done is done
  pub made_on : (state new : QueueState) → ((t : ℕ) → is_done_among s state t ≡ true → is_done_among s new t ≡ true) → (queue : ℕ) (maker : QueueMaker) → IsMade s state queue maker → IsMade s new queue maker
  made_on state new on queue (planned index) made = made
  made_on state new on queue (made_by path deeds) made = (made.0, made.1, on (queue_time s path deeds) made.2)

  -- a task stays one where the queues are the same
  pub task_on : (state new : QueueState) (frame : ActiveFrame) → ((queue : ℕ) → queue_origin s new queue ≡ queue_origin s state queue) → length state.makers ≤ length new.makers → IsTask s state frame → IsTask s new frame
  task_on state new frame same more task =
      record {
        some = task.some;
        deeds = task.deeds;
        children = task.children;
        rights = λ queue mode origin queues made. task.rights queue mode origin queues (sym (same queue) ∙ made);
        made = λ queue mode queues holds. let within = task.made queue mode queues holds in omega (arith, within, more);
      }

module _ (s : Script) (state : QueueState) (follows : QueuesFollow s state) (new : QueueState) (number : ℕ) (change : ActiveFrame → ActiveFrame) (frame : ActiveFrame)
    (live : active state number ≡ Some frame) (is : KeepsTask change) (frames : new.frames ≡ map (frame_after_change number change) state.frames)
    (later : queue_point s frame.path frame.deeds ≤ queue_point s (change frame).path (change frame).deeds) where
  pub active_new : (n : ℕ) → active new n ≡ option_map (frame_after_change number change) (active state n)
  active_new n =
      ap (find (λ (f : ActiveFrame). nat_eq f.number n)) frames
      ∙ find_map (λ (f : ActiveFrame). nat_eq f.number n) (frame_after_change number change) (λ f. ap (λ k. nat_eq k n) (kept (λ (x : ActiveFrame). x.number) change is.number (nat_eq f.number number) f)) state.frames

  -- an active frame as it was
  pub record Was (n : ℕ) (y : ActiveFrame) : Type 0 where
    pub old : ActiveFrame
    pub before : active state n ≡ Some old
    pub becomes : frame_after_change number change old ≡ y

  pub was : (n : ℕ) (y : ActiveFrame) → active new n ≡ Some y → Was n y
  was n y now =
      let found = mapped_is (frame_after_change number change) (active state n) y (sym (active_new n) ∙ now) in
      record { old = found.0; before = found.1; becomes = found.2 }

  pub now_is : (n : ℕ) (x : ActiveFrame) → active state n ≡ Some x → active new n ≡ Some (frame_after_change number change x)
  now_is n x before = active_new n ∙ ap (option_map (frame_after_change number change)) before

  pub path_kept : (x y : ActiveFrame) → frame_after_change number change x ≡ y → y.path ≡ x.path
  path_kept x y e = ap (λ (f : ActiveFrame). f.path) (sym e) ∙ kept (λ (f : ActiveFrame). f.path) change is.path (nat_eq x.number number) x

  parent_kept : (x y : ActiveFrame) → frame_after_change number change x ≡ y → y.parent ≡ x.parent
  parent_kept x y e = ap (λ (f : ActiveFrame). f.parent) (sym e) ∙ kept (λ (f : ActiveFrame). f.parent) change is.parent (nat_eq x.number number) x

  number_kept : (x y : ActiveFrame) → frame_after_change number change x ≡ y → y.number ≡ x.number
  number_kept x y e = ap (λ (f : ActiveFrame). f.number) (sym e) ∙ kept (λ (f : ActiveFrame). f.number) change is.number (nat_eq x.number number) x

  children_kept : (x : ActiveFrame) → x.children ≤ (frame_after_change number change x).children
  children_kept x = by (nat_eq x.number number)
    where
      by : (b : Bool) → x.children ≤ (cond b (change x) x).children
      by true = is.children x
      by false = omega arith

  later_kept : (x : ActiveFrame) → active state x.number ≡ Some x → queue_point s x.path x.deeds ≤ queue_point s (frame_after_change number change x).path (frame_after_change number change x).deeds
  later_kept x here = by (nat_eq x.number number) refl
    where
      by : (b : Bool) → nat_eq x.number number ≡ b → queue_point s x.path x.deeds ≤ queue_point s (cond b (change x) x).path (cond b (change x) x).deeds
      by false other = omega arith
      by true same =
          let at : active state number ≡ Some x = ap (active state) (sym (eqb-true x.number number same)) ∙ here in
          let one : frame ≡ x = same_Some frame x (sym live ∙ at) in
          subst (λ (f : ActiveFrame). queue_point s f.path f.deeds ≤ queue_point s (change f).path (change f).deeds) one later

  pub done_on : (t : ℕ) → is_done_among s state t ≡ true → is_done_among s new t ≡ true
  done_on t done =
      let by = done_is s state t done in
      done_from s new t by.entry by.stands (all_from (is_reached s t by.entry.path) new.frames (λ i y at.
      let mapped : option_map (frame_after_change number change) (slice_get state.frames i) ≡ Some y = sym (slice_get-map (frame_after_change number change) state.frames i) ∙ ap (λ xs. slice_get xs i) (sym frames) ∙ at in
      let x = mapped_is (frame_after_change number change) (slice_get state.frames i) y mapped in
      let reached = all_each (is_reached s t by.entry.path) state.frames i x.0 by.reached x.1 in
      let here = reached_on s t by.entry.path x.0 (frame_after_change number change x.0) (path_kept x.0 (frame_after_change number change x.0) refl) (later_kept x.0 (follows.known i x.0 x.1)) reached in
      ap (is_reached s t by.entry.path) (sym x.2) ∙ here))

  module _ (task : IsTask s new (change frame)) (others : (n : ℕ) (other : ActiveFrame) → active state n ≡ Some other → (n ≡ number → ⊥) → IsTask s new other)
      (queues : (queue : ℕ) (maker : QueueMaker) → slice_get new.makers queue ≡ Some maker → (slice_get state.makers queue ≡ Some maker) ⊎ IsMade s new queue maker)
      (once : (queue other : ℕ) (origin : Origin) → queue_origin s new queue ≡ Some origin → queue_origin s new other ≡ Some origin → queue ≡ other) where
    task_now : (n : ℕ) (old : ActiveFrame) → active state n ≡ Some old → IsTask s new (frame_after_change number change old)
    task_now n old before = elim (cases_eq n number) [
      | inl same ↦
          let at : active state number ≡ Some old = ap (active state) (sym same) ∙ before in
          let one : frame ≡ old = same_Some frame old (sym live ∙ at) in
          let own : nat_eq old.number number ≡ true = eq-eqb old.number number (active_number state n old before ∙ same) in
          let here : IsTask s new (change old) = subst (λ f. IsTask s new (change f)) one task in
          subst (λ b. IsTask s new (cond b (change old) old)) (sym own) here
      | inr apart ↦
          let own : nat_eq old.number number ≡ false = ne_eqb old.number number (λ e. apart (sym (active_number state n old before) ∙ e)) in
          subst (λ b. IsTask s new (cond b (change old) old)) (sym own) (others n old before apart)
    ]

    child_now : (n parent : ℕ) (x y : ActiveFrame) → active state n ≡ Some x → frame_after_change number change x ≡ y → x.parent ≡ Some parent → IsChildOf new y parent
    child_now n parent x y before e of =
        let up = follows.children n parent x before of in
        let more = children_kept up.above in
        record {
          above = frame_after_change number change up.above;
          live = now_is parent up.above up.live;
          index = up.index;
          path = path_kept x y e ∙ up.path ∙ ap (λ q. q ++ up.index ∷ []) (sym (path_kept up.above (frame_after_change number change up.above) refl));
          spawned = omega (arith, more, up.spawned);
        }

    pub changed_follows : QueuesFollow s new
    changed_follows =
        record {
          known = λ i y at.
              let mapped : option_map (frame_after_change number change) (slice_get state.frames i) ≡ Some y = sym (slice_get-map (frame_after_change number change) state.frames i) ∙ ap (λ xs. slice_get xs i) (sym frames) ∙ at in
              let x = mapped_is (frame_after_change number change) (slice_get state.frames i) y mapped in
              ap (active new) (number_kept x.0 y x.2) ∙ now_is x.0.number x.0 (follows.known i x.0 x.1) ∙ ap Some x.2;
          root = λ y now.
              let old = was 0 y now in
              let root = follows.root old.old old.before in
              (path_kept old.old y old.becomes ∙ root.0, parent_kept old.old y old.becomes ∙ root.1);
          others = λ n y now apart.
              let old = was n y now in
              let parent = follows.others n old.old old.before apart in
              (parent.0, parent_kept old.old y old.becomes ∙ parent.1);
          tasks = λ n y now.
              let old = was n y now in
              subst (IsTask s new) old.becomes (task_now n old.old old.before);
          children = λ n parent y now of.
              let old = was n y now in
              child_now n parent old.old y old.before old.becomes (sym (parent_kept old.old y old.becomes) ∙ of);
          different = λ n m a b one two same.
              let x = was n a one in
              let y = was m b two in
              follows.different n m x.old y.old x.before y.before (sym (path_kept x.old a x.becomes) ∙ same ∙ path_kept y.old b y.becomes);
          queues = λ queue maker at. elim (queues queue maker at) [
            | inl before ↦ made_on s state new done_on queue maker (follows.queues queue maker before)
            | inr here ↦ here
          ];
          once = once;
        }
