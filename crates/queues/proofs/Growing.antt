-- A state with one frame more follows, where that frame is a new task of the script.
use Rattle.std.proofs.Common.{◌≡◌, ◌⊎◌, inl, inr, ℕ, zero, suc, ◌+◌, Bool, true, false, nat_eq, cond, List, [], ◌∷◌, ◌++◌, length, Option, Some, None, refl, sym, ap, subst, ◌∙◌, arith, length-append}
use Rattle.std.proofs.lemmas.Option.{same_Some}
use Rattle.std.proofs.lemmas.Bool.{cases_eq, eq-eqb, eqb-true}
use Rattle.std.proofs.lemmas.List.Folds.{find-append}
use Rattle.std.specs.List.{find}
use Rattle.std.specs.Option.{option_or}
use Rattle.std.specs.Prelude.{slice_get}
use Rattle.swan_model.specs.declared.script.Entry.{Entry}
use Rattle.swan_model.specs.declared.script.Script.{Script}
use Rattle.swan_model.specs.QueueFollows.{IsChildOf, IsMade, IsTask, QueuesFollow, is_reached, queue_time}
use Rattle.swan_model.specs.QueueState.{ActiveFrame, QueueMaker, planned, made_by, QueueState, active}
use Rattle.queues.proofs.Changing.{done_from, done_is, task_on}
use Rattle.swan_model.proofs.Elements.{all_each, all_from, more_cases}

module _ (s : Script) (state : QueueState) (follows : QueuesFollow s state) where
  -- while any frame is active the root is
  pub record IsRootLive : Type 0 where
    pub root : ActiveFrame
    pub live : active state 0 ≡ Some root

  pub root_live : (many n : ℕ) (frame : ActiveFrame) → length frame.path ≡ many → active state n ≡ Some frame → IsRootLive
  root_live zero n frame long live = elim (cases_eq n 0) [
    | inl root ↦ record { root = frame; live = ap (active state) (sym root) ∙ live }
    | inr other ↦
        let parent = follows.others n frame live other in
        let up = follows.children n parent.0 frame live parent.1 in
        let longer : length frame.path ≡ length up.above.path + 1 = ap length up.path ∙ length-append up.above.path (up.index ∷ []) in
        absurd (omega (arith, long, longer))
  ]
  root_live (suc many) n frame long live = elim (cases_eq n 0) [
    | inl root ↦ record { root = frame; live = ap (active state) (sym root) ∙ live }
    | inr other ↦
        let parent = follows.others n frame live other in
        let up = follows.children n parent.0 frame live parent.1 in
        let longer : length frame.path ≡ length up.above.path + 1 = ap length up.path ∙ length-append up.above.path (up.index ∷ []) in
        root_live many parent.0 up.above (omega (arith, long, longer)) up.live
  ]

module _ (s : Script) (state : QueueState) (follows : QueuesFollow s state) (child : ActiveFrame) (latest : ℕ) where
  abbrev grown : QueueState
  grown = record state { frames = state.frames ++ child ∷ []; latest = latest }

  still_active : (n : ℕ) (x : ActiveFrame) → active state n ≡ Some x → active grown n ≡ Some x
  still_active n x live =
      find-append (λ (f : ActiveFrame). nat_eq f.number n) state.frames (child ∷ [])
      ∙ ap (λ o. option_or o (find (λ (f : ActiveFrame). nat_eq f.number n) (child ∷ []))) live

  new_active : active state child.number ≡ None → active grown child.number ≡ Some child
  new_active free =
      find-append (λ (f : ActiveFrame). nat_eq f.number child.number) state.frames (child ∷ [])
      ∙ ap (λ o. option_or o (find (λ (f : ActiveFrame). nat_eq f.number child.number) (child ∷ []))) free
      ∙ ap (λ b. cond b (Some child) None) (eq-eqb child.number child.number refl)

  active_cases : (n : ℕ) (y : ActiveFrame) → active grown n ≡ Some y → (active state n ≡ Some y) ⊎ ((n ≡ child.number) × (child ≡ y))
  active_cases n y now =
      by (active state n) refl (sym (find-append (λ (f : ActiveFrame). nat_eq f.number n) state.frames (child ∷ [])) ∙ now)
    where
      own : (b : Bool) → nat_eq child.number n ≡ b → cond b (Some child) None ≡ Some y → (n ≡ child.number) × (child ≡ y)
      own true same is = (sym (eqb-true child.number n same), same_Some child y is)
      own false same is = absurd (cc)

      by : (o : Option ActiveFrame) → active state n ≡ o → option_or o (find (λ (f : ActiveFrame). nat_eq f.number n) (child ∷ [])) ≡ Some y → (active state n ≡ Some y) ⊎ ((n ≡ child.number) × (child ≡ y))
      by (Some x) live is = inl (live ∙ is)
      by None live is = inr (own (nat_eq child.number n) refl is)

  module _ (free : active state child.number ≡ None) (parent : ℕ) (of : child.parent ≡ Some parent) (spawned : IsChildOf state child parent) (task : IsTask s state child)
      (apart : (n : ℕ) (other : ActiveFrame) → active state n ≡ Some other → other.path ≡ child.path → ⊥)
      (reached : (queue : ℕ) (path : List ℕ) (deeds : ℕ) (entry : Entry) → slice_get state.makers queue ≡ Some (made_by path deeds) → slice_get s.entries (queue_time s path deeds) ≡ Some entry → is_reached s (queue_time s path deeds) entry.path child ≡ true) where
    child_on : (frame : ActiveFrame) (p : ℕ) → IsChildOf state frame p → IsChildOf grown frame p
    child_on frame p up = record { above = up.above; live = still_active p up.above up.live; index = up.index; path = up.path; spawned = up.spawned }

    made_still : (queue : ℕ) (maker : QueueMaker) → slice_get state.makers queue ≡ Some maker → IsMade s state queue maker → IsMade s grown queue maker
    made_still queue (planned index) at made = made
    made_still queue (made_by path deeds) at made =
        let t = queue_time s path deeds in
        let done = done_is s state t made.2 in (
          made.0,
          made.1,
          done_from s grown t done.entry done.stands (all_from (is_reached s t done.entry.path) (state.frames ++ child ∷ []) (λ i y stands.
              elim (more_cases state.frames child i y stands) [
                | inl before ↦ all_each (is_reached s t done.entry.path) state.frames i y done.reached before
                | inr last ↦ subst (λ f. is_reached s t done.entry.path f ≡ true) (sym last.1) (reached queue path deeds done.entry at done.stands)
              ])),
        )

    different_now : (n m : ℕ) (a b : ActiveFrame) → active grown n ≡ Some a → active grown m ≡ Some b → a.path ≡ b.path → n ≡ m
    different_now n m a b one two same = by (active_cases n a one) (active_cases m b two)
      where
        by : (active state n ≡ Some a) ⊎ ((n ≡ child.number) × (child ≡ a)) → (active state m ≡ Some b) ⊎ ((m ≡ child.number) × (child ≡ b)) → n ≡ m
        by (inl x) (inl y) = follows.different n m a b x y same
        by (inl x) (inr y) = absurd (apart n a x (same ∙ ap (λ (f : ActiveFrame). f.path) (sym y.1)))
        by (inr x) (inl y) = absurd (apart m b y (sym same ∙ ap (λ (f : ActiveFrame). f.path) (sym x.1)))
        by (inr x) (inr y) = x.0 ∙ sym y.0

    not_zero : child.number ≡ 0 → ⊥
    not_zero zero_is =
        let root = root_live s state follows (length spawned.above.path) parent spawned.above refl spawned.live in
        let both : None ≡ Some root.root = sym free ∙ ap (active state) zero_is ∙ root.live in
        absurd (cc)

    pub grown_follows : QueuesFollow s grown
    grown_follows =
        record {
          known = λ i y at. elim (more_cases state.frames child i y at) [
            | inl before ↦ still_active y.number y (follows.known i y before)
            | inr last ↦ subst (λ f. active grown f.number ≡ Some f) (sym last.1) (new_active free)
          ];
          root = λ y now. elim (active_cases 0 y now) [
            | inl before ↦ follows.root y before
            | inr here ↦ absurd (not_zero (sym here.0))
          ];
          others = λ n y now other. elim (active_cases n y now) [
            | inl before ↦ follows.others n y before other
            | inr here ↦ (parent, ap (λ (f : ActiveFrame). f.parent) (sym here.1) ∙ of)
          ];
          tasks = λ n y now. elim (active_cases n y now) [
            | inl before ↦ task_on s state grown y (λ queue. refl) (omega arith) (follows.tasks n y before)
            | inr here ↦ subst (IsTask s grown) here.1 (task_on s state grown child (λ queue. refl) (omega arith) task)
          ];
          children = λ n p y now up. elim (active_cases n y now) [
            | inl before ↦ child_on y p (follows.children n p y before up)
            | inr here ↦
                let parents : Some parent ≡ Some p = sym of ∙ ap (λ (f : ActiveFrame). f.parent) here.1 ∙ up in
                let one : parent ≡ p = same_Some parent p parents in
                subst (λ f. IsChildOf grown f p) here.1 (subst (IsChildOf grown child) one (child_on child parent spawned))
          ];
          different = different_now;
          queues = λ queue maker at. made_still queue maker at (follows.queues queue maker at);
          once = follows.once;
        }
