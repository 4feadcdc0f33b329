-- How the frames of a stack stand once its top has taken a turn.
use Rattle.std.proofs.Common.{◌≡◌, ◌≢◌, inl, inr, ℕ, ◌<◌, true, false, nat_eq, Some, None, List, [], ◌∷◌, ◌++◌, length, refl, sym, ap, ◌∙◌, subst, arith, append-nil, append_assoc}
use Rattle.std.proofs.lemmas.Bool.{cases_Bool, eq-eqb, eqb-true}
use Rattle.std.proofs.lemmas.Option.{slice_get_within, same_Some}
use Rattle.std.specs.Prelude.{slice_get}
use Rattle.swan_model.specs.PathOrder.{comes_before}
use Rattle.swan_model.proofs.Elements.{before_more, last_more, more_cases}
use Rattle.swan_model.proofs.PathOrder.{not_before-under}
use Rattle.task_frames.specs.Cores.{CoreView, KeptView}
use Rattle.task_frames.specs.Frames.{FrameView}
use Rattle.task_frames.specs.Records.{LiveFrame, live_at}
use Rattle.task_frames.specs.Resumes.{EndsOf, HasNone, IsGivenBy}
use Rattle.task_frames.proofs.AsGiven.{OthersKeptAsGiven, WasGiven, was-given}
use Rattle.swan_runtime.specs.Stacks.{AreStacked, IsAbove, IsOn, IsStack}
use Rattle.swan_model.proofs.Paths.{not_below-itself}

-- ---- paths

-- no task is above itself
pub not_itself : (path : List ℕ) → IsAbove path path → ⊥
not_itself path above = not_below-itself path above.rest above.child above.is

-- who is above a task is above its children
pub above-child : (path below : List ℕ) (last : ℕ) → IsAbove path below → IsAbove path (below ++ last ∷ [])
above-child path below last above =
    record { child = above.child; rest = above.rest ++ last ∷ []; is = ap (λ p. p ++ last ∷ []) above.is ∙ append_assoc path (above.child ∷ above.rest) (last ∷ []) }

pub above-own : (path : List ℕ) (last : ℕ) → IsAbove path (path ++ last ∷ [])
above-own path last = record { child = last; rest = []; is = refl }

-- who is above a task doesn't come before it
pub not_before : (path below : List ℕ) → IsAbove path below → comes_before path below ≡ true → ⊥
not_before path below above is = not_before-under path (above.child ∷ above.rest) (ap (comes_before path) (sym above.is) ∙ is)

-- ---- stacks

module _ {B L E : Type 0} (of : EndsOf E) where
  -- a frame that the core gave stands in its record, by its number
  pub given-path : (core : CoreView B L) (a b : FrameView B L E) → IsGivenBy of core a → IsGivenBy of core b → a.task.number ≡ b.task.number → a.task.path ≡ b.task.path
  given-path core a b one two same =
      let kept : one.kept ≡ two.kept = same_Some one.kept two.kept (sym one.keeps ∙ two.keeps) in
      let live : Some one.given.of.frame ≡ Some two.given.of.frame =
      sym one.given.of.live ∙ ap (λ (k : KeptView). live_at k.live a.task.number) kept ∙ ap (live_at two.kept.live) same ∙ two.given.of.live in
      sym one.given.of.path ∙ ap (λ (f : LiveFrame). f.path) (same_Some _ _ live) ∙ two.given.of.path

  module _ (core after : CoreView B L) where
    -- a frame that a call left alone is as the core gave it last
    pub still-given : (IsOther : ℕ → Type 0) → OthersKeptAsGiven core after IsOther → (now : KeptView) → after.kept ≡ Some now → after.plan ≡ core.plan → after.run ≡ core.run
        → (a : FrameView B L E) → IsGivenBy of core a → IsOther a.task.number → IsGivenBy of after a
    still-given IsOther stay now keeps plan run a given other =
        let others = stay given.kept given.keeps now keeps in
        let recorded = given.given.lent in
        let there = was-given now.live given.kept.live a.task.number given.given.of.frame (sym (others.live a.task.number other)) given.given.of.live in
        record {
          kept = now;
          keeps = keeps;
          given = record {
            of = record {
              frame = there.was;
              live = there.live;
              path = ap (λ (f : LiveFrame). f.path) there.same ∙ given.given.of.path;
              done = ap (λ (f : LiveFrame). f.done) there.same ∙ given.given.of.done;
              holdings = ap (λ (f : LiveFrame). f.holdings) there.same ∙ given.given.of.holdings;
            };
            lent = record {
              frame = recorded.frame;
              live = others.active_are a.task.number other ∙ recorded.live;
              lent = recorded.lent;
              has = recorded.has;
              own = recorded.own;
              deeds = recorded.deeds;
              list = recorded.list;
            };
          };
          mark = given.mark;
          whole = given.whole;
          plan = given.plan ∙ sym plan;
          run = given.run ∙ sym run;
        }

  module _ (core : CoreView B L) (stack : List (FrameView B L E)) (top : FrameView B L E) where
    module _ (are : AreStacked of core (stack ++ top ∷ [])) where
      -- the top, and those below it
      pub top-given : IsGivenBy of core top
      top-given = are.given (length stack) top (last_more stack top)

      pub below-given : (index : ℕ) (a : FrameView B L E) → slice_get stack index ≡ Some a → IsGivenBy of core a
      below-given index a is = are.given index a (before_more stack top index a is)

      pub below-top : (index : ℕ) (a : FrameView B L E) → slice_get stack index ≡ Some a → IsAbove a.task.path top.task.path
      below-top index a is =
          are.nested index (length stack) a top (slice_get_within stack index a is) (before_more stack top index a is) (last_more stack top)

      pub below-nested : (low high : ℕ) (a b : FrameView B L E) → low < high → slice_get stack low ≡ Some a → slice_get stack high ≡ Some b → IsAbove a.task.path b.task.path
      below-nested low high a b less one two = are.nested low high a b less (before_more stack top low a one) (before_more stack top high b two)

      -- they are other frames
      pub below-other : (index : ℕ) (a : FrameView B L E) → slice_get stack index ≡ Some a → a.task.number ≢ top.task.number
      below-other index a is same =
          let path = given-path core a top (below-given index a is) top-given same in
          not_itself top.task.path (subst (λ p. IsAbove p top.task.path) path (below-top index a is))

    -- one frame more on top
    pub stacked-more : AreStacked of core stack → IsGivenBy of core top → ((index : ℕ) (a : FrameView B L E) → slice_get stack index ≡ Some a → IsAbove a.task.path top.task.path)
        → AreStacked of core (stack ++ top ∷ [])
    stacked-more are given above = record {
      given = λ index frame is. elim (more_cases stack top index frame is) [
        | inl below ↦ are.given index frame below
        | inr last ↦ subst (IsGivenBy of core) (sym last.1) given
      ];
      nested = λ low high a b less one two. elim (more_cases stack top high b two) [
        | inl below ↦ elim (more_cases stack top low a one) [
          | inl lower ↦ are.nested low high a b less lower below
          | inr last ↦ let within = slice_get_within stack high b below in absurd (omega (arith, last.0))
        ]
        | inr last ↦ elim (more_cases stack top low a one) [
          | inl lower ↦ subst (λ (f : FrameView B L E). IsAbove a.task.path f.task.path) (sym last.1) (above low a lower)
          | inr also ↦ absurd (omega (arith, last.0, also.0))
        ]
      ];
    }

    -- who is on the stack with a top
    pub on-cases : (number : ℕ) → IsOn (stack ++ top ∷ []) number → number ≢ top.task.number → IsOn stack number
    on-cases number on other = elim (more_cases stack top on.index on.frame on.stands) [
      | inl below ↦ record { index = on.index; frame = on.frame; stands = below; same = on.same }
      | inr last ↦ absurd (other (sym on.same ∙ ap (λ (f : FrameView B L E). f.task.number) last.1))
    ]

    pub on-more : (number : ℕ) → IsOn stack number → IsOn (stack ++ top ∷ []) number
    on-more number on = record { index = on.index; frame = on.frame; stands = before_more stack top on.index on.frame on.stands; same = on.same }

    pub on-top : IsOn (stack ++ top ∷ []) top.task.number
    on-top = record { index = length stack; frame = top; stands = last_more stack top; same = refl }

  -- ---- a turn

  module _ (core after : CoreView B L) (stack : List (FrameView B L E)) (top : FrameView B L E) (is : IsStack of core (stack ++ top ∷ []))
      (plan : after.plan ≡ core.plan) (run : after.run ≡ core.run) (now : KeptView) (keeps : after.kept ≡ Some now) where
    -- those below the top, after a call that left them alone
    below-after : (IsOther : ℕ → Type 0) → OthersKeptAsGiven core after IsOther → ((index : ℕ) (a : FrameView B L E) → slice_get stack index ≡ Some a → IsOther a.task.number)
        → AreStacked of after stack
    below-after IsOther stay others = record {
      given = λ index a stands. still-given core after IsOther stay now keeps plan run a (below-given core stack top is.stacked index a stands) (others index a stands);
      nested = below-nested core stack top is.stacked;
    }

    others-were : (IsOther : ℕ → Type 0) → OthersKeptAsGiven core after IsOther → (number : ℕ) → IsOther number → (live : LiveFrame) → live_at now.live number ≡ Some live → WasGiven is.kept.live number live
    others-were IsOther stay number other live stands = was-given is.kept.live now.live number live ((stay is.kept is.keeps now keeps).live number other) stands

    -- so it is a frame of the stack
    others-on : (IsOther : ℕ → Type 0) → OthersKeptAsGiven core after IsOther → (number : ℕ) → IsOther number → (live : LiveFrame) → live_at now.live number ≡ Some live → IsOn (stack ++ top ∷ []) number
    others-on IsOther stay number other live stands = let before = others-were IsOther stay number other live stands in is.all number before.was before.live

    -- it goes on
    pub after-runs : (next : FrameView B L E) → next.task.number ≡ top.task.number → next.task.path ≡ top.task.path → IsGivenBy of after next
        → OthersKeptAsGiven core after (λ other. other ≢ top.task.number) → IsStack of after (stack ++ next ∷ [])
    after-runs next number path given stay = record {
      kept = now;
      keeps = keeps;
      stacked = stacked-more after stack next
          (below-after (λ other. other ≢ top.task.number) stay (below-other core stack top is.stacked)) given
          (λ index a stands. subst (IsAbove a.task.path) (sym path) (below-top core stack top is.stacked index a stands));
      all = λ n live stands. elim (cases_Bool (nat_eq n top.task.number)) [
        | inl same ↦ subst (IsOn (stack ++ next ∷ [])) (number ∙ sym (eqb-true n top.task.number same)) (on-top after stack next)
        | inr apart ↦
            let other : n ≢ top.task.number = λ e. let no : true ≡ false = sym (eq-eqb n top.task.number e) ∙ apart in absurd (cc) in
            on-more after stack next n
            (on-cases core stack top n (others-on (λ o. o ≢ top.task.number) stay n other live stands) other)
      ];
    }

    -- it has ended
    pub after-ends : HasNone after top.task.number → OthersKeptAsGiven core after (λ other. other ≢ top.task.number) → IsStack of after stack
    after-ends none stay = record {
      kept = now;
      keeps = keeps;
      stacked = below-after (λ other. other ≢ top.task.number) stay (below-other core stack top is.stacked);
      all = λ n live stands.
          let other : n ≢ top.task.number = λ e. let no : None ≡ Some live = sym (none now keeps) ∙ ap (live_at now.live) (sym e) ∙ stands in absurd (cc) in
          on-cases core stack top n (others-on (λ o. o ≢ top.task.number) stay n other live stands) other;
    }

    -- it has spawned a child
    pub after-spawns : (parent child : FrameView B L E) → parent.task.number ≡ top.task.number → parent.task.path ≡ top.task.path → IsGivenBy of after parent
        → (index : ℕ) → child.task.path ≡ top.task.path ++ index ∷ [] → IsGivenBy of after child → HasNone core child.task.number
        → OthersKeptAsGiven core after (λ other. (other ≢ top.task.number) × (other ≢ child.task.number)) → IsStack of after ((stack ++ parent ∷ []) ++ child ∷ [])
    after-spawns parent child number path given index child-path begins none stay =
        let IsOther : ℕ → Type 0 = λ other. (other ≢ top.task.number) × (other ≢ child.task.number) in
        let known : (i : ℕ) (a : FrameView B L E) → slice_get stack i ≡ Some a → IsOther a.task.number = λ i a stands. (
          below-other core stack top is.stacked i a stands,
          λ same.
              let there = below-given core stack top is.stacked i a stands in
              let no : None ≡ Some there.given.of.frame = sym (none there.kept there.keeps) ∙ ap (live_at there.kept.live) (sym same) ∙ there.given.of.live in
              absurd (cc),
        ) in
        let below = below-after IsOther stay known in
        let above : (i : ℕ) (a : FrameView B L E) → slice_get stack i ≡ Some a → IsAbove a.task.path parent.task.path =
        λ i a stands. subst (IsAbove a.task.path) (sym path) (below-top core stack top is.stacked i a stands) in
        let with-parent = stacked-more after stack parent below given above in
        let own : child.task.path ≡ parent.task.path ++ index ∷ [] = child-path ∙ ap (λ p. p ++ index ∷ []) (sym path) in
        let all-above : (i : ℕ) (a : FrameView B L E) → slice_get (stack ++ parent ∷ []) i ≡ Some a → IsAbove a.task.path child.task.path =
        λ i a stands. subst (IsAbove a.task.path) (sym own) (elim (more_cases stack parent i a stands) [
          | inl lower ↦ above-child a.task.path parent.task.path index (above i a lower)
          | inr last ↦ subst (λ (f : FrameView B L E). IsAbove f.task.path (parent.task.path ++ index ∷ [])) (sym last.1) (above-own parent.task.path index)
        ]) in
        record {
          kept = now;
          keeps = keeps;
          stacked = stacked-more after (stack ++ parent ∷ []) child with-parent begins all-above;
          all = λ n live stands. elim (cases_Bool (nat_eq n child.task.number)) [
            | inl same ↦ subst (IsOn ((stack ++ parent ∷ []) ++ child ∷ [])) (sym (eqb-true n child.task.number same)) (on-top after (stack ++ parent ∷ []) child)
            | inr apart ↦
                let not_child : n ≢ child.task.number = λ e. let no : true ≡ false = sym (eq-eqb n child.task.number e) ∙ apart in absurd (cc) in
                on-more after (stack ++ parent ∷ []) child n
                (elim (cases_Bool (nat_eq n top.task.number)) [
                  | inl same ↦ subst (IsOn (stack ++ parent ∷ [])) (number ∙ sym (eqb-true n top.task.number same)) (on-top after stack parent)
                  | inr far ↦
                      let not_top : n ≢ top.task.number = λ e. let no : true ≡ false = sym (eq-eqb n top.task.number e) ∙ far in absurd (cc) in
                      on-more after stack parent n
                      (on-cases core stack top n (others-on IsOther stay n (not_top, not_child) live stands) not_top)
                ])
          ];
        }

    -- a live frame doesn't come before the top
    pub none-before : (number : ℕ) (live : LiveFrame) → live_at now.live number ≡ Some live → OthersKeptAsGiven core after (λ other. other ≢ top.task.number)
        → (same : FrameView B L E) → IsGivenBy of after same → same.task.number ≡ top.task.number → same.task.path ≡ top.task.path
        → comes_before live.path top.task.path ≡ true → ⊥
    none-before number live stands stay same given own path before = elim (cases_Bool (nat_eq number top.task.number)) [
      | inl is-top ↦
          let kept : given.kept ≡ now = same_Some given.kept now (sym given.keeps ∙ keeps) in
          let both : Some live ≡ Some given.given.of.frame =
          sym stands ∙ ap (live_at now.live) (eqb-true number top.task.number is-top ∙ sym own) ∙ ap (λ (k : KeptView). live_at k.live same.task.number) (sym kept) ∙ given.given.of.live in
          let it : live.path ≡ top.task.path = ap (λ (f : LiveFrame). f.path) (same_Some _ _ both) ∙ given.given.of.path ∙ path in
          not_before-under top.task.path []
          (ap (comes_before top.task.path) (append-nil top.task.path) ∙ ap (λ p. comes_before p top.task.path) (sym it) ∙ before)
      | inr apart ↦
          let other : number ≢ top.task.number = λ e. let no : true ≡ false = sym (eq-eqb number top.task.number e) ∙ apart in absurd (cc) in
          let was = others-were (λ o. o ≢ top.task.number) stay number other live stands in
          let on = on-cases core stack top number (is.all number was.was was.live) other in
          let there = below-given core stack top is.stacked on.index on.frame on.stands in
          let kept : there.kept ≡ is.kept = same_Some there.kept is.kept (sym there.keeps ∙ is.keeps) in
          let both : Some there.given.of.frame ≡ Some was.was =
          sym there.given.of.live ∙ ap (λ (k : KeptView). live_at k.live on.frame.task.number) kept ∙ ap (live_at is.kept.live) on.same ∙ was.live in
          let path-is : on.frame.task.path ≡ live.path = sym there.given.of.path ∙ ap (λ (f : LiveFrame). f.path) (same_Some _ _ both) ∙ ap (λ (f : LiveFrame). f.path) was.same in
          not_before on.frame.task.path top.task.path (below-top core stack top is.stacked on.index on.frame on.stands)
          (ap (λ p. comes_before p top.task.path) path-is ∙ before)
    ]
