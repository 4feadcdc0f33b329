-- The calls that make a queue leave hyperqueues that follow.
use Rattle.queues.proofs.ActiveAfter.{KeepsTask}
use Rattle.std.proofs.Common.{◌≡◌, inl, inr, ℕ, ◌+◌, ◌<◌, Bool, true, false, nat_eq, nat_lt, cond, List, [], ◌∷◌, ◌++◌, length, map, Some, refl, sym, ap, subst, ◌∙◌, append-nil, arith}
use Rattle.std.proofs.lemmas.Bool.{and_parts, cases_Bool, cases_eq, eq-eqb, ne_eqb, false_from_ne_true, lt-ltb, ltb-true, or_cases, or_left, or_right}
use Rattle.std.proofs.lemmas.List.{length_push}
use Rattle.std.proofs.lemmas.Option.{slice_get-map, slice_get_within, same_Some}
use Rattle.std.specs.Option.{option_map}
use Rattle.std.specs.Prelude.{◌&&◌, not, slice_get}
use Rattle.swan_model.specs.declared.origin.Origin.{Origin}
use Rattle.swan_model.specs.declared.origin.Origin.TheVariants.{Root, Step}
use Rattle.swan_model.specs.declared.rights.Mode.{Mode}
use Rattle.swan_model.specs.declared.rights.Mode.TheVariants.{PushPop}
use Rattle.swan_model.specs.declared.script.Deed.{Deed}
use Rattle.swan_model.specs.declared.script.Deed.TheVariants as deed
use Rattle.swan_model.specs.declared.script.Script.{Script}
use Rattle.swan_model.specs.declared.value.Value.{Value}
use Rattle.swan_model.specs.Granted.{granted, holds, is_spawn, may_use}
use Rattle.swan_model.specs.Lawful.{IsLawful}
use Rattle.swan_model.specs.Nested.{IsEntryOf}
use Rattle.swan_model.specs.PathOrder.{is_under}
use Rattle.swan_model.specs.QueueFollows.{IsMade, IsTask, QueuesFollow, is_done_among, is_reached, next_queue_deed, origin_in, queue_origin, queue_point}
use Rattle.swan_model.specs.QueueState.{ActiveFrame, IsUntouched, QueueMaker, planned, made_by, QueueState, active, after_create, after_create_root, frame_after_change, holds_queue, with_deed, with_made}
use Rattle.swan_model.specs.Rights.{allows, is_queue_mode}
use Rattle.swan_model.specs.Told.{deed_at, is_same}
use Rattle.swan_model.proofs.Origins.{is_same-equal}
use Rattle.swan_model.proofs.ScriptRights.{held_later, held_older, maker_holds}
use Rattle.swan_model.proofs.ScriptSteps.{deed_is, own_under}
use Rattle.swan_model.proofs.Uses.{may_use-less}
use Rattle.queues.proofs.Between.{point_left, queue_point-own}
use Rattle.queues.proofs.Changing.{changed_follows, done_from}
use Rattle.swan_model.proofs.Elements.{all_from, found_is, mapped_is, more_cases, one_if}
use Rattle.queues.proofs.Holders.{all_allowed, maker_above, root_may}
use Rattle.queues.proofs.Kept.{use_kept}
use Rattle.queues.proofs.Lineage.{child_spawned, entries_before}
use Rattle.queues.proofs.Making.{IsOrigin, stood, new, fresh_root, fresh_step, holds_before, holds_cases, holds_made, once_more, origin_is}
use Rattle.queues.proofs.Moving.{children_next, grants_next}
use Rattle.queues.proofs.QueuePoints.{IsNextDeed, at_own, goes_to, last_makes_none, next_is}
use Rattle.queues.proofs.Under.{under_rest}

-- a queue that stood has its number below that of the new one
stood_within : (s : Script) (state : QueueState) (queue : ℕ) (old : QueueMaker) (origin : Origin) → slice_get state.makers queue ≡ Some old → origin_in s old ≡ origin → (queue < length state.makers) × (queue_origin s state queue ≡ Some origin)
stood_within s state queue old origin at is = (slice_get_within state.makers queue old at, ap (option_map (origin_in s)) at ∙ ap Some is)

-- the queue that an entry makes is no other's
made_grants : (own child : Bool) (t : ℕ) (d : Deed) (mode : Mode) (origin : Origin) → d ≡ deed.MakeQueue → (Step t ≡ origin → ⊥) → may_use (granted own child t d) mode origin ≡ false
made_grants own child t d mode origin makes other = ap (λ x. may_use (granted own child t x) mode origin) makes ∙ by own
  where
    by : (own : Bool) → may_use (granted own child t deed.MakeQueue) mode origin ≡ false
    by false = refl
    by true = false_from_ne_true (may_use ((record { origin = Step t; mode = PushPop }) ∷ []) mode origin) (λ is.
        elim (or_cases (allows PushPop mode && is_same (Step t) origin) false is) [
          | inl here ↦ other (is_same-equal (Step t) origin (and_parts (allows PushPop mode) (is_same (Step t) origin) here).1)
          | inr never ↦ absurd (cc)
        ])

module _ (s : Script) (lawful : IsLawful s) (state : QueueState) (follows : QueuesFollow s state) (frame : ActiveFrame) (live : active state frame.number ≡ Some frame) (next : IsNextDeed s frame.path frame.deeds deed.MakeQueue) where
  abbrev here : ℕ
  here = queue_point s frame.path frame.deeds

  abbrev beyond : ℕ
  beyond = queue_point s frame.path (frame.deeds + 1)

  abbrev maker : QueueMaker
  maker = made_by frame.path frame.deeds

  abbrev change : ActiveFrame → ActiveFrame
  change = λ f. with_deed (with_made (length state.makers) f)

  no_spawn_here : is_spawn (deed_at s here) ≡ false
  no_spawn_here = ap is_spawn next.does

  own_here : IsEntryOf s frame.path here
  own_here = at_own s frame.path frame.deeds here next.at

  -- the origin of the new queue
  origin_here : origin_in s maker ≡ Step here
  origin_here = ap Step (sym (point_left s frame.path frame.deeds next.left))

  fresh : (queue : ℕ) (old : QueueMaker) → slice_get state.makers queue ≡ Some old → origin_in s old ≡ origin_in s maker → ⊥
  fresh queue old at is = fresh_step s state follows frame.number frame live next.left queue old at (is ∙ origin_here)

  after_here : here < beyond
  after_here = elim (goes_to s lawful frame.path frame.deeds here next.at no_spawn_here) [
    | inl still ↦ omega (arith, still.order)
    | inr last ↦ absurd (last_makes_none s lawful frame.path here own_here last.last next.does)
  ]

  -- the maker holds both rights on what it made
  made_may : (mode : Mode) → is_queue_mode mode ≡ true → may_use (holds s frame.path beyond) mode (Step here) ≡ true
  made_may mode queues =
      let does : own_here.entry.deed ≡ deed.MakeQueue = sym (deed_is s here own_here.entry own_here.stands) ∙ next.does in
      let both = maker_holds s frame.path here own_here.entry own_here.stands own_here.own does in
      held_later s frame.path (here + 1) beyond mode (Step here) (may_use-less (holds s frame.path (here + 1)) PushPop mode (Step here) (all_allowed mode queues) both) (omega (arith, after_here))

  -- no other active frame may use it
  others_not : (n : ℕ) (other : ActiveFrame) (mode : Mode) → active state n ≡ Some other → (n ≡ frame.number → ⊥) → may_use (holds s other.path (queue_point s other.path other.deeds)) mode (Step here) ≡ false
  others_not n other mode at apart = false_from_ne_true (may_use (holds s other.path (queue_point s other.path other.deeds)) mode (Step here)) (λ may.
      let u = queue_point s other.path other.deeds in
      let below = maker_above s lawful frame.path here own_here u other.path mode may in
      let older = ltb-true here u (held_older s lawful other.path u mode (Step here) may) in
      by below.rest below.is older)
    where
      by : (rest : List ℕ) → other.path ≡ frame.path ++ rest → here < queue_point s other.path other.deeds → ⊥
      by [] is older = apart (follows.different n frame.number other frame at live (is ∙ append-nil frame.path))
      by (child ∷ rest) is older =
          let u = queue_point s other.path other.deeds in
          let before = entries_before s lawful state follows n frame.number other frame child rest at live is u (own_under s other.path u (queue_point-own s other.path other.deeds (follows.tasks n other at).some)) in
          omega (arith, before, older)

  module _ (after : QueueState) (frames : after.frames ≡ map (frame_after_change frame.number change) state.frames) (makers : after.makers ≡ state.makers ++ maker ∷ []) where
    longer : length after.makers ≡ length state.makers + 1
    longer = ap length makers ∙ length_push state.makers maker

    own_task : IsTask s after (change frame)
    own_task =
        let task = follows.tasks frame.number frame live in
        let none : one_if (is_spawn (deed_at s here)) ≡ 0 = ap one_if no_spawn_here in
        let many = children_next s lawful frame.path frame.deeds here next.at in
        record {
          some = task.some;
          deeds = omega (arith, next.left);
          children = omega (arith, task.children, many, none);
          rights = λ queue mode origin queues is. by queue mode origin queues (origin_is s state after maker makers queue origin is);
          made = λ queue mode queues holds. elim (holds_cases frame (length state.makers) queue mode holds) [
            | inl before ↦ let within = task.made queue mode queues before in omega (arith, within, longer)
            | inr it ↦ omega (arith, it, longer)
          ];
        }
      where
        by : (queue : ℕ) (mode : Mode) (origin : Origin) → is_queue_mode mode ≡ true → IsOrigin s state maker queue origin → holds_queue (with_made (length state.makers) frame) queue mode ≡ may_use (holds s frame.path beyond) mode origin
        by queue mode origin queues (stood old at is) =
            let both = stood_within s state queue old origin at is in
            let grants = grants_next s lawful frame.path frame.deeds here mode origin next.at no_spawn_here queues (λ entry stands.
            made_grants _ _ here entry.deed mode origin (sym (deed_is s here entry stands) ∙ next.does) (λ same. fresh queue old at (is ∙ sym same ∙ sym origin_here))) in
            holds_before frame (length state.makers) queue mode both.0
            ∙ (follows.tasks frame.number frame live).rights queue mode origin queues both.1
            ∙ sym (use_kept s frame.path mode origin here beyond grants)
        by queue mode origin queues (new last made) =
            let to : origin ≡ Step here = made ∙ origin_here in
            ap (λ q. holds_queue (with_made (length state.makers) frame) q mode) last
            ∙ holds_made frame (length state.makers) mode queues
            ∙ sym (ap (may_use (holds s frame.path beyond) mode) to ∙ made_may mode queues)

    other_task : (n : ℕ) (other : ActiveFrame) → active state n ≡ Some other → (n ≡ frame.number → ⊥) → IsTask s after other
    other_task n other at apart =
        let task = follows.tasks n other at in
        record {
          some = task.some;
          deeds = task.deeds;
          children = task.children;
          rights = λ queue mode origin queues is. by queue mode origin queues (origin_is s state after maker makers queue origin is);
          made = λ queue mode queues holds. let within = task.made queue mode queues holds in omega (arith, within, longer);
        }
      where
        by : (queue : ℕ) (mode : Mode) (origin : Origin) → is_queue_mode mode ≡ true → IsOrigin s state maker queue origin → holds_queue other queue mode ≡ may_use (holds s other.path (queue_point s other.path other.deeds)) mode origin
        by queue mode origin queues (stood old stands is) =
            (follows.tasks n other at).rights queue mode origin queues (stood_within s state queue old origin stands is).1
        by queue mode origin queues (new last made) =
            let to : origin ≡ Step here = made ∙ origin_here in
            let none : holds_queue other queue mode ≡ false = false_from_ne_true (holds_queue other queue mode) (λ holds.
            let within = (follows.tasks n other at).made queue mode queues holds in
            omega (arith, within, last)) in
            none ∙ sym (ap (may_use (holds s other.path (queue_point s other.path other.deeds)) mode) to ∙ others_not n other mode at apart)

    -- the entry that made the queue is done
    reached_here : (i : ℕ) (x : ActiveFrame) → slice_get state.frames i ≡ Some x → is_reached s here own_here.entry.path (frame_after_change frame.number change x) ≡ true
    reached_here i x at = elim (cases_eq x.number frame.number) [
      | inl same ↦ own x (follows.known i x at) same
      | inr apart ↦ other x (follows.known i x at) apart
    ]
      where
        by : (x : ActiveFrame) → active state x.number ≡ Some x → (x.number ≡ frame.number → ⊥) → (rest : List ℕ) → frame.path ≡ x.path ++ rest → here < queue_point s x.path x.deeds
        by x known apart [] is = absurd (apart (follows.different x.number frame.number x frame known live (sym (is ∙ append-nil x.path))))
        by x known apart (child ∷ rest) is =
            entries_before s lawful state follows frame.number x.number frame x child rest live known is here (own_under s frame.path here own_here)

        own : (x : ActiveFrame) → active state x.number ≡ Some x → x.number ≡ frame.number → is_reached s here own_here.entry.path (frame_after_change frame.number change x) ≡ true
        own x known same =
            let one : frame ≡ x = same_Some frame x (sym live ∙ ap (active state) (sym same) ∙ known) in
            let reached : is_reached s here own_here.entry.path (change frame) ≡ true = or_right (not (is_under frame.path own_here.entry.path)) (nat_lt here beyond) (lt-ltb here beyond after_here) in
            let moved : is_reached s here own_here.entry.path (change x) ≡ true = subst (λ f. is_reached s here own_here.entry.path (change f) ≡ true) one reached in
            subst (λ b. is_reached s here own_here.entry.path (cond b (change x) x) ≡ true) (sym (eq-eqb x.number frame.number same)) moved

        other : (x : ActiveFrame) → active state x.number ≡ Some x → (x.number ≡ frame.number → ⊥) → is_reached s here own_here.entry.path (frame_after_change frame.number change x) ≡ true
        other x known apart =
            let u = queue_point s x.path x.deeds in
            let reached : is_reached s here own_here.entry.path x ≡ true = elim (cases_Bool (is_under x.path own_here.entry.path)) [
              | inr aside ↦ or_left (not (is_under x.path own_here.entry.path)) (nat_lt here u) (ap not aside)
              | inl under ↦
                  let rest = under_rest x.path own_here.entry.path under in
                  or_right (not (is_under x.path own_here.entry.path)) (nat_lt here u) (lt-ltb here u (by x known apart rest.0 (sym own_here.own ∙ rest.1)))
            ] in
            subst (λ b. is_reached s here own_here.entry.path (cond b (change x) x) ≡ true) (sym (ne_eqb x.number frame.number apart)) reached

    done_here : is_done_among s after here ≡ true
    done_here =
        done_from s after here own_here.entry own_here.stands (all_from (is_reached s here own_here.entry.path) after.frames (λ i y at.
        let mapped : option_map (frame_after_change frame.number change) (slice_get state.frames i) ≡ Some y = sym (slice_get-map (frame_after_change frame.number change) state.frames i) ∙ ap (λ xs. slice_get xs i) (sym frames) ∙ at in
        let x = mapped_is (frame_after_change frame.number change) (slice_get state.frames i) y mapped in
        ap (is_reached s here own_here.entry.path) (sym x.2) ∙ reached_here i x.0 x.1))

    created : QueuesFollow s after
    created =
        let is : KeepsTask change = record { number = λ f. refl; parent = λ f. refl; path = λ f. refl; children = λ f. omega arith } in
        let time = point_left s frame.path frame.deeds next.left in
        changed_follows s state follows after frame.number change frame live is frames (omega (arith, after_here)) own_task other_task
        (λ queue one at. elim (more_cases state.makers maker queue one (ap (λ xs. slice_get xs queue) (sym makers) ∙ at)) [
          | inl before ↦ inl before
          | inr last ↦
              let made : IsMade s after queue maker = (ap (deed_at s) (sym time) ∙ next.does, next.left, ap (is_done_among s after) (sym time) ∙ done_here) in
              inr (subst (IsMade s after queue) (sym last.1) made)
        ])
        (once_more s state after maker makers follows.once fresh)

pub created_follows : (s : Script) → IsLawful s → (state : QueueState) → QueuesFollow s state → (number : ℕ) (frame : ActiveFrame) → active state number ≡ Some frame
    → next_queue_deed s frame.path frame.deeds ≡ Some deed.MakeQueue → QueuesFollow s (after_create state frame)
created_follows s lawful state follows number frame live next =
    let found = found_is (λ (f : ActiveFrame). nat_eq f.number number) state.frames frame live in
    created s lawful state follows frame (follows.known found.index frame found.stands) (next_is s frame.path frame.deeds deed.MakeQueue next) (after_create state frame) refl refl

-- ---- root queues

module _ (s : Script) (lawful : IsLawful s) (state : QueueState) (follows : QueuesFollow s state) (untouched : IsUntouched state) (within : length state.makers < length s.queues) where
  abbrev root_maker : QueueMaker
  root_maker = planned (length state.makers)

  abbrev root_after : QueueState
  root_after = after_create_root state

  -- only the root is active
  alone : (n : ℕ) (other : ActiveFrame) → active state n ≡ Some other → (n ≡ 0 → ⊥) → ⊥
  alone n other at apart = by other.path refl
    where
      by : (path : List ℕ) → other.path ≡ path → ⊥
      by [] is = apart (follows.different n 0 other untouched.root at untouched.live (is ∙ sym (follows.root untouched.root untouched.live).0))
      by (child ∷ rest) is =
          let under : other.path ≡ untouched.root.path ++ child ∷ rest = is ∙ ap (λ q. q ++ child ∷ rest) (sym (follows.root untouched.root untouched.live).0) in
          let less = child_spawned s lawful state follows (length rest) n 0 other untouched.root child rest refl at untouched.live under in
          omega (arith, less, untouched.children)

  root_task : IsTask s root_after (with_made (length state.makers) untouched.root)
  root_task =
      let task = follows.tasks 0 untouched.root untouched.live in
      record {
        some = task.some;
        deeds = task.deeds;
        children = task.children;
        rights = λ queue mode origin queues is. by queue mode origin queues (origin_is s state root_after root_maker refl queue origin is);
        made = λ queue mode queues holds. elim (holds_cases untouched.root (length state.makers) queue mode holds) [
          | inl before ↦ let less = task.made queue mode queues before in omega (arith, less, length_push state.makers root_maker)
          | inr it ↦ omega (arith, it, length_push state.makers root_maker)
        ];
      }
    where
      by : (queue : ℕ) (mode : Mode) (origin : Origin) → is_queue_mode mode ≡ true → IsOrigin s state root_maker queue origin
          → holds_queue (with_made (length state.makers) untouched.root) queue mode ≡ may_use (holds s untouched.root.path (queue_point s untouched.root.path untouched.root.deeds)) mode origin
      by queue mode origin queues (stood old at is) =
          let both = stood_within s state queue old origin at is in
          holds_before untouched.root (length state.makers) queue mode both.0
          ∙ (follows.tasks 0 untouched.root untouched.live).rights queue mode origin queues both.1
      by queue mode origin queues (new last made) =
          let u = queue_point s untouched.root.path untouched.root.deeds in
          ap (λ q. holds_queue (with_made (length state.makers) untouched.root) q mode) last
          ∙ holds_made untouched.root (length state.makers) mode queues
          ∙ sym (ap (may_use (holds s untouched.root.path u) mode) made
          ∙ ap (λ p. may_use (holds s p u) mode (Root (length state.makers))) (follows.root untouched.root untouched.live).0
          ∙ root_may s (length state.makers) u mode queues within)

  root_created : QueuesFollow s root_after
  root_created =
      let is : KeepsTask (with_made (length state.makers)) = record { number = λ f. refl; parent = λ f. refl; path = λ f. refl; children = λ f. omega arith } in
      changed_follows s state follows root_after 0 (with_made (length state.makers)) untouched.root untouched.live is refl (omega arith) root_task
      (λ n other at apart. absurd (alone n other at apart))
      (λ queue one at. elim (more_cases state.makers root_maker queue one at) [
        | inl before ↦ inl before
        | inr last ↦
            let made : IsMade s root_after queue root_maker = (last.0, within) in
            inr (subst (IsMade s root_after queue) (sym last.1) made)
      ])
      (once_more s state root_after root_maker refl follows.once (fresh_root s state follows))

pub root_created_follows : (s : Script) → IsLawful s → (state : QueueState) → QueuesFollow s state → (first : List Value) → IsUntouched state → slice_get s.queues (length state.makers) ≡ Some first → QueuesFollow s (after_create_root state)
root_created_follows s lawful state follows first untouched is =
    root_created s lawful state follows untouched (slice_get_within s.queues (length state.makers) first is)
