-- What the core keeps of its live frames: it stays through each call, as the reading goes on.
use Rattle.std.proofs.Common.{◌≡◌, ◌≢◌, ◌⊎◌, inl, inr, ℕ, suc, ◌+◌, ◌<◌, Bool, true, false, nat_eq, cond, List, [], ◌∷◌, ◌++◌, Option, None, Some, length, map, refl, sym, ap, subst, ◌∙◌, arith, length-append}
use Rattle.std.proofs.lemmas.Bool.{cases_eq, cases_lt, eqb-true}
use Rattle.std.proofs.lemmas.List.{length-map, map-append}
use Rattle.std.proofs.lemmas.Option.{same_Some, slice_get-map, slice_get_within}
use Rattle.std.specs.List.{find}
use Rattle.std.specs.Option.{option_map}
use Rattle.std.specs.Prelude.{slice_get}
use Rattle.swan_model.specs.declared.body.Body.{Ghosts}
use Rattle.swan_model.specs.declared.origin.Origin.{Origin}
use Rattle.swan_model.specs.declared.origin.Origin.TheVariants.{Step}
use Rattle.swan_model.specs.declared.plan.Plan.{Plan}
use Rattle.swan_model.specs.declared.rights.Mode.TheVariants.{InOut, PushPop}
use Rattle.swan_model.specs.declared.script.OriginGive.{OriginGive}
use Rattle.swan_model.specs.declared.script.Script.{Script}
use Rattle.swan_model.specs.QueueState.{ActiveFrame, HasTurn, LentEnd, QueueRight, QueueState, active, after_back, after_create, after_deed, after_finish, after_lend, after_spawn, child_of, with_deed, with_made}
use Rattle.swan_model.specs.Readings.{with_object, with_queue}
use Rattle.swan_model.specs.Rights.{is_queue_mode}
use Rattle.swan_model.specs.Roots.{IsWithinBounds}
use Rattle.swan_model.specs.Script.{give_of, script}
use Rattle.swan_model.specs.SerialState.{Activation, Holding}
use Rattle.swan_model.specs.SerialTime.{Progress, Reading, frame_of, time}
use Rattle.swan_model.specs.TrueFrames.{StandsAt, give_in, gives_at, state_at}
use Rattle.queues.specs.Asks.{MayDo, MayJoin, MaySpawn}
use Rattle.swan_model.specs.Readings.{gone_on_by, more_by}
use Rattle.queues.specs.Tree.{IsOnlyFrame, IsTree, TurnsGoOn}
use Rattle.swan_model.proofs.Elements.{before_more, found_is, last_more, more_cases}
use Rattle.queues.proofs.ActiveAfter.{child_spawned, one_changed, one_goes_on, one_gone, others_spawned, parent_spawned}
use Rattle.queues.proofs.Frames.{active_number}
use Rattle.queues.proofs.Match.{not_active}
use Rattle.queues.proofs.TreeKept.{tree_deed}
use Rattle.queues.proofs.TurnsGoOn.{go_on-back, go_on-create, go_on-deed, go_on-finish, go_on-lend, go_on-spawn}
use Rattle.serial_elision.proofs.NamesStay.{held-named}
use Rattle.serial_elision.proofs.TaskSteps.{stands-one}
use Rattle.task_frames.specs.Cores.{HasQueuesOnce, AreFrames, IsAsRead}
use Rattle.task_frames.specs.Frames.{AreLocal}
use Rattle.task_frames.specs.Records.{AreGivenSo, IsOnlyLive, LiveFrame, NumberedFrames, as_given, live_at}
use Rattle.task_frames.proofs.AsGiven.{WasGiven, was-given}
use Rattle.task_frames.proofs.LocalNames.{local-names}
use Rattle.task_frames.proofs.Names.{name-origin, origin_in}
use Rattle.task_frames.proofs.GoneOn.{child-spawned, number-by, other-gone_by, other-spawned, own-gone_by, parent-spawned, with-child}

-- ---- names, as the lists of queues and objects grow

-- whatever a reading names, the other one names so too
pub record NamesGrow (r then_r : Reading) : Type 0 where
  pub queues : (i : ℕ) (origin : Origin) → slice_get r.queues i ≡ Some origin → slice_get then_r.queues i ≡ Some origin
  pub objects : (i : ℕ) (origin : Origin) → slice_get r.objects i ≡ Some origin → slice_get then_r.objects i ≡ Some origin

name-grows : (r then_r : Reading) (h : Holding) (give : OriginGive) → NamesGrow r then_r → give_in r h ≡ Some give → give_in then_r h ≡ Some give
name-grows r then_r h give grow is = by (is_queue_mode h.mode) refl is where
  named : Option Origin → Option OriginGive
  named found = option_map (λ origin. let g : OriginGive = record { origin = origin; mode = h.mode } in g) found

  go : (found other : Option Origin) → ((origin : Origin) → found ≡ Some origin → other ≡ Some origin) → named found ≡ Some give → named other ≡ Some give
  go None other grows none = absurd (cc)
  go (Some origin) other grows some = ap named (grows origin refl) ∙ some

  by : (b : Bool) → is_queue_mode h.mode ≡ b → give_in r h ≡ Some give → give_in then_r h ≡ Some give
  by true kind is = ap (λ b. named (cond b (slice_get then_r.queues h.number) (slice_get then_r.objects h.number))) kind
      ∙ go (slice_get r.queues h.number) (slice_get then_r.queues h.number) (grow.queues h.number) (sym (ap (λ b. named (cond b (slice_get r.queues h.number) (slice_get r.objects h.number))) kind) ∙ is)
  by false kind is = ap (λ b. named (cond b (slice_get then_r.queues h.number) (slice_get then_r.objects h.number))) kind
      ∙ go (slice_get r.objects h.number) (slice_get then_r.objects h.number) (grow.objects h.number) (sym (ap (λ b. named (cond b (slice_get r.queues h.number) (slice_get r.objects h.number))) kind) ∙ is)

names-grow : (r then_r : Reading) (hs : List Holding) (names : List (Option OriginGive)) → NamesGrow r then_r
    → ((i : ℕ) (name : Option OriginGive) → slice_get names i ≡ Some name → (give : OriginGive) × (name ≡ Some give)) → map (give_in r) hs ≡ names → map (give_in then_r) hs ≡ names
names-grow r then_r [] names grow some is = is
names-grow r then_r (h ∷ hs) [] grow some is = absurd (cc)
names-grow r then_r (h ∷ hs) (name ∷ names) grow some is =
    let one = some 0 name refl in
    let head : give_in r h ≡ name = cc in
    let tail : map (give_in r) hs ≡ names = cc in
    let here : give_in then_r h ≡ name = name-grows r then_r h one.0 grow (head ∙ one.1) ∙ sym one.1 in
    ap {B = List (Option OriginGive)} (λ g. g ∷ map (give_in then_r) hs) here
    ∙ ap {B = List (Option OriginGive)} (λ gs. name ∷ gs) (names-grow r then_r hs names grow (λ i x at. some (suc i) x at) tail)

-- no queue stands at two places where the last one is another one than all before
once-more : (hs : List Holding) (h : Holding) → HasQueuesOnce hs → ((place : ℕ) (x : Holding) → slice_get hs place ≡ Some x → is_queue_mode x.mode ≡ true → is_queue_mode h.mode ≡ true → x.number ≢ h.number)
    → HasQueuesOnce (hs ++ h ∷ [])
once-more hs h once fresh place other a b one two queue also same = elim (more_cases hs h place a one) [
  | inl first ↦ elim (more_cases hs h other b two) [
    | inl second ↦ once place other a b first second queue also same
    | inr last ↦ absurd (fresh place a first queue (ap (λ (x : Holding). is_queue_mode x.mode) (sym last.1) ∙ also) (same ∙ ap (λ (x : Holding). x.number) last.1))
  ]
  | inr end ↦ elim (more_cases hs h other b two) [
    | inl second ↦ absurd (fresh other b second also (ap (λ (x : Holding). is_queue_mode x.mode) (sym end.1) ∙ queue) (sym same ∙ ap (λ (x : Holding). x.number) end.1))
    | inr last ↦ end.0 ∙ sym last.0
  ]
]

-- a queue that is held was made
held-queue : (r : Reading) (hs : List Holding) (names : List (Option OriginGive)) (place : ℕ) (h : Holding) → map (give_in r) hs ≡ names
    → ((i : ℕ) (name : Option OriginGive) → slice_get names i ≡ Some name → (give : OriginGive) × (name ≡ Some give)) → slice_get hs place ≡ Some h → is_queue_mode h.mode ≡ true → h.number < length r.queues
held-queue r hs names place h are some at queue =
    let name : slice_get names place ≡ Some (give_in r h) = ap (λ xs. slice_get xs place) (sym are) ∙ slice_get-map (give_in r) hs place ∙ ap (option_map (give_in r)) at in
    let give = some place (give_in r h) name in
    let known : origin_in r h.mode h.number ≡ Some give.0.origin = name-origin h.mode (origin_in r h.mode h.number) give.0 give.1 in
    let found : slice_get r.queues h.number ≡ Some give.0.origin = sym (ap (λ b. cond b (slice_get r.queues h.number) (slice_get r.objects h.number)) queue) ∙ known in
    slice_get_within r.queues h.number give.0.origin found

module _ {B L : Type 0} (G : Ghosts B L) (plan : Plan B L) where
  abbrev s : Script
  s = script G plan

  -- all that a task holds has a name
  all-some : IsWithinBounds plan.roots.queues plan.roots.objects → (path : List ℕ) (k : ℕ) (top : Activation L) → StandsAt G plan path k top
      → (i : ℕ) (name : Option OriginGive) → slice_get (gives_at G plan path k top) i ≡ Some name → (give : OriginGive) × (name ≡ Some give)
  all-some bounds path k top at i name is = by (slice_get top.holdings i) refl (sym (slice_get-map (give_of (state_at G plan path k).store) top.holdings i) ∙ is) where
    by : (found : Option Holding) → slice_get top.holdings i ≡ found → option_map (give_of (state_at G plan path k).store) found ≡ Some name → (give : OriginGive) × (name ≡ Some give)
    by None none never = absurd (cc)
    by (Some h) here named_so =
        let named = held-named G plan bounds path k top at i h here in
        (record { origin = named.0; mode = h.mode }, same_Some name _ (sym is ∙ named.1))

  module _ (r : Reading) (state : QueueState) (live : NumberedFrames) (frames : ℕ) (are : AreFrames G plan r state live frames) where
    -- ---- from frame to frame

    module _ (then_r : Reading) (after : QueueState) (then_live : NumberedFrames) where
      -- a frame that is changed, or new
      pub record IsNewAt (m : ℕ) : Type 0 where
        pub frame : LiveFrame
        pub live_now : live_at then_live m ≡ Some frame
        pub told : IsAsRead G plan then_r m frame
        pub own : ActiveFrame
        pub active_now : active after m ≡ Some own
        pub parent : own.parent ≡ frame.parent
        pub turn : 0 < frame.done → HasTurn after own

      -- a frame that is gone
      pub record IsGoneAt (m : ℕ) : Type 0 where
        pub live_none : live_at then_live m ≡ None
        pub active_none : active after m ≡ None

      -- a frame that is as it was
      pub record IsSameAt (m : ℕ) : Type 0 where
        pub live_same : live_at then_live m ≡ live_at live m
        pub active_same : active after m ≡ active state m
        pub read_same : frame_of then_r m ≡ frame_of r m

      module _ (each : (m : ℕ) → IsNewAt m ⊎ (IsGoneAt m ⊎ IsSameAt m)) (turns : TurnsGoOn state after)
          (names : (m : ℕ) (frame : LiveFrame) → live_at live m ≡ Some frame → map (give_in then_r) frame.holdings ≡ map (give_in r) frame.holdings) where
        told-then : (m : ℕ) (frame : LiveFrame) → live_at then_live m ≡ Some frame → IsAsRead G plan then_r m frame
        told-then m frame at = elim (each m) [
          | inl new ↦ subst (IsAsRead G plan then_r m) (same_Some new.frame frame (sym new.live_now ∙ at)) new.told
          | inr rest ↦ elim rest [
            | inl gone ↦ let both : None ≡ Some frame = sym gone.live_none ∙ at in absurd (cc)
            | inr same ↦
                let there = sym same.live_same ∙ at in
                let was = are.told m frame there in
                record { progress = same.read_same ∙ was.progress; top = was.top; stands = was.stands; named = names m frame there ∙ was.named; once = was.once }
          ]
        ]

        active-then : (m : ℕ) (frame : LiveFrame) → live_at then_live m ≡ Some frame → (own : ActiveFrame) × (active after m ≡ Some own) × (own.parent ≡ frame.parent)
        active-then m frame at = elim (each m) [
          | inl new ↦
              let it = same_Some new.frame frame (sym new.live_now ∙ at) in
              (new.own, new.active_now, new.parent ∙ ap (λ (f : LiveFrame). f.parent) it)
          | inr rest ↦ elim rest [
            | inl gone ↦ let both : None ≡ Some frame = sym gone.live_none ∙ at in absurd (cc)
            | inr same ↦ let was = are.active_is m frame (sym same.live_same ∙ at) in (was.0, same.active_same ∙ was.1, was.2)
          ]
        ]

        live-then : (m : ℕ) (own : ActiveFrame) → active after m ≡ Some own → (frame : LiveFrame) × (live_at then_live m ≡ Some frame)
        live-then m own at = elim (each m) [
          | inl new ↦ (new.frame, new.live_now)
          | inr rest ↦ elim rest [
            | inl gone ↦ let both : None ≡ Some own = sym gone.active_none ∙ at in absurd (cc)
            | inr same ↦ let was = are.live_is m own (sym same.active_same ∙ at) in (was.0, same.live_same ∙ was.1)
          ]
        ]

        turns-then : (m : ℕ) (frame : LiveFrame) (own : ActiveFrame) → live_at then_live m ≡ Some frame → active after m ≡ Some own → 0 < frame.done → HasTurn after own
        turns-then m frame own at now begun = elim (each m) [
          | inl new ↦
              let it = same_Some new.frame frame (sym new.live_now ∙ at) in
              let same = same_Some new.own own (sym new.active_now ∙ now) in
              subst (HasTurn after) same (new.turn (subst (λ (f : LiveFrame). 0 < f.done) (sym it) begun))
          | inr rest ↦ elim rest [
            | inl gone ↦ let both : None ≡ Some frame = sym gone.live_none ∙ at in absurd (cc)
            | inr same ↦
                let was = sym same.active_same ∙ now in
                turns m own own was now (are.turns m frame own (sym same.live_same ∙ at) was begun)
          ]
        ]

        pub frames-then : (many : ℕ) → after.latest < many → ((i : ℕ) (progress : Progress) → slice_get then_r.frames i ≡ Some progress → progress.number < many) → length then_r.frames ≡ many
            → AreFrames G plan then_r after then_live many
        frames-then many latest known count = record {
          told = told-then;
          active_is = active-then;
          live_is = live-then;
          turns = turns-then;
          latest = latest;
          known = known;
          count = count;
        }

    -- ---- one frame that goes on

    known-by : (n many : ℕ) (i : ℕ) (progress : Progress) → slice_get (map (more_by n many) r.frames) i ≡ Some progress → progress.number < frames
    known-by n many i progress at = by (slice_get r.frames i) refl (sym (slice_get-map (more_by n many) r.frames i) ∙ at) where
      by : (found : Option Progress) → slice_get r.frames i ≡ found → option_map (more_by n many) found ≡ Some progress → progress.number < frames
      by None none is = absurd (cc)
      by (Some was) here is =
          let same : was.number ≡ progress.number = sym (number-by n many was) ∙ ap (λ (p : Progress). p.number) (same_Some (more_by n many was) progress is) in
          subst (λ m. m < frames) same (are.known i was here)

    module _ (n : ℕ) (f : LiveFrame) (there : live_at live n ≡ Some f) (a : ActiveFrame) (own : active state n ≡ Some a) (then_live : NumberedFrames) where
      parent-is : a.parent ≡ f.parent
      parent-is = let it = are.active_is n f there in ap (λ (x : ActiveFrame). x.parent) (same_Some a it.0 (sym own ∙ it.1)) ∙ it.2

      -- the frame is this one afterwards, in the record, in the reading and among the queues; all others are as before
      pub goes-on-so : (many : ℕ) (g : LiveFrame) (then_r : Reading) (after : QueueState) (b : ActiveFrame) → IsOnlyLive live then_live n (Some g) → g.parent ≡ f.parent → IsAsRead G plan then_r n g
          → then_r.frames ≡ map (more_by n many) r.frames → ((m : ℕ) (frame : LiveFrame) → live_at live m ≡ Some frame → map (give_in then_r) frame.holdings ≡ map (give_in r) frame.holdings)
          → IsOnlyFrame state after n (Some b) → b.parent ≡ a.parent → after.latest ≡ state.latest → TurnsGoOn state after → (0 < g.done → HasTurn state a)
          → AreFrames G plan then_r after then_live frames
      goes-on-so many g then_r after b only parent told moved names changed parent_now latest turns turn =
          let each : (m : ℕ) → IsNewAt then_r after then_live m ⊎ (IsGoneAt then_r after then_live m ⊎ IsSameAt then_r after then_live m) =
          λ m. elim (cases_eq m n) [
            | inl same ↦
                inl (subst (IsNewAt then_r after then_live) (sym same) (record {
                  frame = g;
                  live_now = only.changed;
                  told = told;
                  own = b;
                  active_now = changed.changed;
                  parent = parent_now ∙ parent-is ∙ sym parent;
                  turn = λ begun. turns n a b own changed.changed (turn begun);
                }))
            | inr other ↦
                inr (inr (record {
                  live_same = only.others m other;
                  active_same = changed.others m other;
                  read_same = ap {B = Option Progress} (λ fs. find (λ (p : Progress). nat_eq p.number m) fs) moved ∙ other-gone_by r n many m other;
                }))
          ] in
          frames-then then_r after then_live each turns names frames
          (subst (λ k. k < frames) (sym latest) are.latest)
          (λ i progress at. known-by n many i progress (ap (λ fs. slice_get fs i) (sym moved) ∙ at))
          (ap length moved ∙ length-map r.frames (more_by n many) ∙ are.count)

      -- what it holds has the same names at a later step
      told-same : (many : ℕ) (path : List ℕ) (k : ℕ) (top next : Activation L) → f.path ≡ path → f.done ≡ k → StandsAt G plan path k top → StandsAt G plan path (k + many) next
          → gives_at G plan path (k + many) next ≡ gives_at G plan path k top → IsAsRead G plan (gone_on_by r n many) n (record f { done = k + many })
      told-same many path k top next path_is done_is at then same =
          let was = are.told n f there in
          let here : StandsAt G plan path k was.top = subst (λ q. StandsAt G plan q k was.top) path_is (subst (λ j. StandsAt G plan f.path j was.top) done_is was.stands) in
          let one = stands-one G plan path k was.top top here at in
          record {
            progress = own-gone_by r n many (record { number = n; path = f.path; done = f.done }) was.progress ∙ ap {B = Option Progress} (λ j. Some (record { number = n; path = f.path; done = j + many })) done_is;
            top = next;
            stands = subst (λ q. StandsAt G plan q (k + many) next) (sym path_is) then;
            named = was.named
                ∙ ap (λ q. gives_at G plan q f.done was.top) path_is ∙ ap (λ j. gives_at G plan path j was.top) done_is ∙ ap (gives_at G plan path k) one
                ∙ sym same
                ∙ ap (λ q. gives_at G plan q (k + many) next) (sym path_is);
            once = was.once;
          }

      -- its ends come back, and with them all that it did since it was given
      pub back : IsWithinBounds plan.roots.queues plan.roots.objects → IsTree state → (many : ℕ) (path : List ℕ) (k deeds : ℕ) (top next : Activation L) (after : QueueState) → f.path ≡ path → f.done ≡ k
          → StandsAt G plan path k top → StandsAt G plan path (k + many) next → AreLocal s path k (k + many) → (k ≡ 0 → many ≡ 0) → after ≡ after_back state n deeds
          → IsOnlyLive live then_live n (Some (record f { done = k + many })) → AreFrames G plan (gone_on_by r n many) after then_live frames
      back bounds tree many path k deeds top next after path_is done_is at then local first is only =
          let whole : AreFrames G plan (gone_on_by r n many) (after_back state n deeds) then_live frames =
          goes-on-so many (record f { done = k + many }) (gone_on_by r n many) (after_back state n deeds) (record a { deeds = deeds; lent = None }) only refl
          (told-same many path k top next path_is done_is at then (local-names G plan bounds path many k top next at then local)) refl (λ m frame at. refl)
          (one_changed state n (λ x. record x { deeds = deeds; lent = None }) (λ x. refl) a own) refl refl (go_on-back state n deeds tree)
          (λ some. are.turns n f a there own (begun some)) in
          subst (λ q. AreFrames G plan (gone_on_by r n many) q then_live frames) (sym is) whole
        where
          begun : 0 < k + many → 0 < f.done
          begun some = elim (cases_lt 0 k) [
            | inl less ↦ omega (arith, less, done_is)
            | inr least ↦ let none : k ≡ 0 = omega arith in let all = first none in absurd (omega (arith, some, none, all))
          ]

      -- it takes a step that leaves what it holds, and of which the queues hear nothing
      pub goes : (path : List ℕ) (k : ℕ) (top next : Activation L) → f.path ≡ path → f.done ≡ k → StandsAt G plan path k top → StandsAt G plan path (k + 1) next
          → gives_at G plan path (k + 1) next ≡ gives_at G plan path k top → HasTurn state a → IsOnlyLive live then_live n (Some (record f { done = k + 1 }))
          → AreFrames G plan (gone_on_by r n 1) state then_live frames
      goes path k top next path_is done_is at then same turn only =
          goes-on-so 1 (record f { done = k + 1 }) (gone_on_by r n 1) state a only refl (told-same 1 path k top next path_is done_is at then same) refl (λ m frame at. refl)
          (record { changed = own; others = λ m other. refl }) refl refl (λ m x y was now has. subst (HasTurn state) (same_Some x y (sym was ∙ now)) has) (λ some. turn)

      -- or a push, a pop or a test
      pub goes-used : IsTree state → MayDo state n → (path : List ℕ) (k : ℕ) (top next : Activation L) (after : QueueState) → f.path ≡ path → f.done ≡ k → StandsAt G plan path k top
          → StandsAt G plan path (k + 1) next → gives_at G plan path (k + 1) next ≡ gives_at G plan path k top → HasTurn state a → after ≡ after_deed state n
          → IsOnlyLive live then_live n (Some (record f { done = k + 1 })) → AreFrames G plan (gone_on_by r n 1) after then_live frames
      goes-used tree act path k top next after path_is done_is at then same turn is only =
          subst (λ q. AreFrames G plan (gone_on_by r n 1) q then_live frames) (sym is)
          (goes-on-so 1 (record f { done = k + 1 }) (gone_on_by r n 1) (after_deed state n) (with_deed a) only refl (told-same 1 path k top next path_is done_is at then same) refl (λ m frame at. refl)
          (one_changed state n with_deed (λ x. refl) a own) refl refl (go_on-deed state n tree act) (λ some. turn))

      -- ---- a place more

      -- the names of what it holds, with one more
      more-names : (then_r : Reading) (names : List (Option OriginGive)) (h : Holding) (give : OriginGive) → map (give_in then_r) f.holdings ≡ names → give_in then_r h ≡ Some give
          → map (give_in then_r) (f.holdings ++ h ∷ []) ≡ names ++ Some give ∷ []
      more-names then_r names h give are_so one =
          map-append (give_in then_r) f.holdings (h ∷ []) ∙ ap {B = List (Option OriginGive)} (λ x. map (give_in then_r) f.holdings ++ x ∷ []) one ∙ ap (λ xs. xs ++ Some give ∷ []) are_so

      placed-so : IsWithinBounds plan.roots.queues plan.roots.objects → (path : List ℕ) (k : ℕ) (top next : Activation L) (h : Holding) (then_r : Reading) (after : QueueState) (b : ActiveFrame)
          → f.path ≡ path → f.done ≡ k → StandsAt G plan path k top → StandsAt G plan path (k + 1) next
          → gives_at G plan path (k + 1) next ≡ gives_at G plan path k top ++ Some (record { origin = Step (time s path k); mode = h.mode }) ∷ []
          → NamesGrow r then_r → then_r.frames ≡ map (more_by n 1) r.frames → give_in then_r h ≡ Some (record { origin = Step (time s path k); mode = h.mode })
          → ((place : ℕ) (x : Holding) → slice_get f.holdings place ≡ Some x → is_queue_mode x.mode ≡ true → is_queue_mode h.mode ≡ true → x.number ≢ h.number)
          → IsOnlyFrame state after n (Some b) → b.parent ≡ a.parent → after.latest ≡ state.latest → TurnsGoOn state after → HasTurn state a
          → IsOnlyLive live then_live n (Some (record f { done = k + 1; holdings = f.holdings ++ h ∷ [] })) → AreFrames G plan then_r after then_live frames
      placed-so bounds path k top next h then_r after b path_is done_is at then more grow moved new fresh changed parent_now latest turns turn only =
          let was = are.told n f there in
          let here : StandsAt G plan path k was.top = subst (λ q. StandsAt G plan q k was.top) path_is (subst (λ j. StandsAt G plan f.path j was.top) done_is was.stands) in
          let one = stands-one G plan path k was.top top here at in
          let names : map (give_in r) f.holdings ≡ gives_at G plan path k top =
          was.named ∙ ap (λ q. gives_at G plan q f.done was.top) path_is ∙ ap (λ j. gives_at G plan path j was.top) done_is ∙ ap (gives_at G plan path k) one in
          let still : map (give_in then_r) f.holdings ≡ gives_at G plan path k top = names-grow r then_r f.holdings (gives_at G plan path k top) grow (all-some bounds path k top at) names in
          let told : IsAsRead G plan then_r n (record f { done = k + 1; holdings = f.holdings ++ h ∷ [] }) = record {
            progress = ap {B = Option Progress} (λ fs. find (λ (p : Progress). nat_eq p.number n) fs) moved
                ∙ own-gone_by r n 1 (record { number = n; path = f.path; done = f.done }) was.progress ∙ ap {B = Option Progress} (λ j. Some (record { number = n; path = f.path; done = j + 1 })) done_is;
            top = next;
            stands = subst (λ q. StandsAt G plan q (k + 1) next) (sym path_is) then;
            named = more-names then_r (gives_at G plan path k top) h (record { origin = Step (time s path k); mode = h.mode }) still new ∙ sym more ∙ ap (λ q. gives_at G plan q (k + 1) next) (sym path_is);
            once = once-more f.holdings h was.once fresh;
          } in
          goes-on-so 1 (record f { done = k + 1; holdings = f.holdings ++ h ∷ [] }) then_r after b only refl told moved
          (λ m frame live_there.
          let old = are.told m frame live_there in
          names-grow r then_r frame.holdings (map (give_in r) frame.holdings) grow
          (λ i name is. all-some bounds frame.path frame.done old.top old.stands i name (ap (λ xs. slice_get xs i) (sym old.named) ∙ is)) refl)
          changed parent_now latest turns (λ some. turn)

      -- a queue that it made
      pub made-queue : IsWithinBounds plan.roots.queues plan.roots.objects → IsTree state → (act : MayDo state n) → (path : List ℕ) (k : ℕ) (top next : Activation L) (after : QueueState)
          → f.path ≡ path → f.done ≡ k → StandsAt G plan path k top → StandsAt G plan path (k + 1) next
          → gives_at G plan path (k + 1) next ≡ gives_at G plan path k top ++ Some (record { origin = Step (time s path k); mode = PushPop }) ∷ []
          → length r.queues ≡ length state.makers → HasTurn state a → after ≡ after_create state act.frame
          → IsOnlyLive live then_live n (Some (record f { done = k + 1; holdings = f.holdings ++ record { mode = PushPop; number = length state.makers } ∷ [] }))
          → AreFrames G plan (with_queue (gone_on_by r n 1) (Step (time s path k))) after then_live frames
      made-queue bounds tree act path k top next after path_is done_is at then more count turn is only =
          let o = Step (time s path k) in
          let then_r = with_queue (gone_on_by r n 1) o in
          let h : Holding = record { mode = PushPop; number = length state.makers } in
          let one : act.frame ≡ a = same_Some act.frame a (sym act.may.live ∙ own) in
          let found : slice_get then_r.queues (length state.makers) ≡ Some o = ap (slice_get then_r.queues) (sym count) ∙ last_more r.queues o in
          let new : give_in then_r h ≡ Some (record { origin = o; mode = PushPop }) = ap (option_map (λ origin. let g : OriginGive = record { origin = origin; mode = PushPop } in g)) found in
          let was = are.told n f there in
          let fresh : (place : ℕ) (x : Holding) → slice_get f.holdings place ≡ Some x → is_queue_mode x.mode ≡ true → is_queue_mode h.mode ≡ true → x.number ≢ h.number = λ place x at_place queue also same.
          let within = held-queue r f.holdings (gives_at G plan f.path f.done was.top) place x was.named (all-some bounds f.path f.done was.top was.stands) at_place queue in
          absurd (omega (arith, within, same, count)) in
          subst (λ q. AreFrames G plan then_r q then_live frames) (sym (is ∙ ap (after_create state) one))
          (placed-so bounds path k top next h then_r (after_create state a) (with_deed (with_made (length state.makers) a)) path_is done_is at then more
          (record { queues = λ i origin there. before_more r.queues o i origin there; objects = λ i origin there. there }) refl new fresh
          (one_goes_on state n a (λ x. with_deed (with_made (length state.makers) x)) (λ x. refl) own) refl refl
          (subst (λ x. TurnsGoOn state (after_create state x)) one (go_on-create state n tree act)) turn only)

      -- and an object
      pub made-object : IsWithinBounds plan.roots.queues plan.roots.objects → (path : List ℕ) (k objects : ℕ) (top next : Activation L)
          → f.path ≡ path → f.done ≡ k → StandsAt G plan path k top → StandsAt G plan path (k + 1) next
          → gives_at G plan path (k + 1) next ≡ gives_at G plan path k top ++ Some (record { origin = Step (time s path k); mode = InOut }) ∷ []
          → length r.objects ≡ objects → HasTurn state a
          → IsOnlyLive live then_live n (Some (record f { done = k + 1; holdings = f.holdings ++ record { mode = InOut; number = objects } ∷ [] }))
          → AreFrames G plan (with_object (gone_on_by r n 1) (Step (time s path k))) state then_live frames
      made-object bounds path k objects top next path_is done_is at then more count turn only =
          let o = Step (time s path k) in
          let then_r = with_object (gone_on_by r n 1) o in
          let h : Holding = record { mode = InOut; number = objects } in
          let found : slice_get then_r.objects objects ≡ Some o = ap (slice_get then_r.objects) (sym count) ∙ last_more r.objects o in
          let new : give_in then_r h ≡ Some (record { origin = o; mode = InOut }) = ap (option_map (λ origin. let g : OriginGive = record { origin = origin; mode = InOut } in g)) found in
          placed-so bounds path k top next h then_r state a path_is done_is at then more
          (record { queues = λ i origin there. there; objects = λ i origin there. before_more r.objects o i origin there }) refl new (λ place x at_place queue also same. absurd (cc))
          (record { changed = own; others = λ m other. refl }) refl refl (λ m x y was now has. subst (HasTurn state) (same_Some x y (sym was ∙ now)) has) turn only

    -- ---- a record in which each frame was given as before

    read-as : (m : ℕ) (was frame : LiveFrame) → as_given was ≡ as_given frame → IsAsRead G plan r m was → IsAsRead G plan r m frame
    read-as m was frame same told =
        let bare : IsAsRead G plan r m (as_given was) = record { progress = told.progress; top = told.top; stands = told.stands; named = told.named; once = told.once } in
        let now = subst (IsAsRead G plan r m) same bare in
        record { progress = now.progress; top = now.top; stands = now.stands; named = now.named; once = now.once }

    pub as-before : (then_live : NumberedFrames) → AreGivenSo live then_live → AreFrames G plan r state then_live frames
    as-before then_live same =
        let was : (m : ℕ) (frame : LiveFrame) → live_at then_live m ≡ Some frame → WasGiven live m frame = λ m frame at. was-given live then_live m frame (same m) at in
        record {
          told = λ m frame at. let it = was m frame at in read-as m it.was frame it.same (are.told m it.was it.live);
          active_is = λ m frame at.
              let it = was m frame at in
              let own = are.active_is m it.was it.live in
              (own.0, own.1, own.2 ∙ ap (λ (x : LiveFrame). x.parent) it.same);
          live_is = λ m own at.
              let found = are.live_is m own at in
              let it = was-given then_live live m found.0 (sym (same m)) found.1 in
              (it.was, it.live);
          turns = λ m frame own at now begun.
              let it = was m frame at in
              are.turns m it.was own it.live now (subst (λ (x : LiveFrame). 0 < x.done) (sym it.same) begun);
          latest = are.latest;
          known = are.known;
          count = are.count;
        }

    -- ---- ends that are lent

    pub lent : IsTree state → (n : ℕ) (f : LiveFrame) → live_at live n ≡ Some f → (a : ActiveFrame) → active state n ≡ Some a → (list : List LentEnd) (after : QueueState) → after ≡ after_lend state a list
        → AreFrames G plan r after live frames
    lent tree n f there a own list after is =
        subst (λ q. AreFrames G plan r q live frames) (sym is)
        (frames-then r then live each turns (λ m frame at. refl) frames are.latest are.known are.count)
      where
        then : QueueState
        then = after_lend state a list

        b : ActiveFrame
        b = record a { lent = Some (record { deeds = a.deeds; ends = list }) }

        changed : IsOnlyFrame state then n (Some b)
        changed = one_goes_on state n a (λ x. record x { lent = Some (record { deeds = a.deeds; ends = list }) }) (λ x. refl) own

        turns : TurnsGoOn state then
        turns = go_on-lend state a list tree

        each : (m : ℕ) → IsNewAt r then live m ⊎ (IsGoneAt r then live m ⊎ IsSameAt r then live m)
        each m = elim (cases_eq m n) [
          | inl same ↦
              let it = are.active_is n f there in
              inl (subst (IsNewAt r then live) (sym same) (record {
                frame = f;
                live_now = there;
                told = are.told n f there;
                own = b;
                active_now = changed.changed;
                parent = ap (λ (x : ActiveFrame). x.parent) (same_Some a it.0 (sym own ∙ it.1)) ∙ it.2;
                turn = λ begun. turns n a b own changed.changed (are.turns n f a there own begun);
              }))
          | inr other ↦ inr (inr (record { live_same = refl; active_same = changed.others m other; read_same = refl }))
        ]

    -- ---- a frame that ends

    pub leaves : (n : ℕ) (after : QueueState) (then_live : NumberedFrames) → IsOnlyLive live then_live n None → IsOnlyFrame state after n None → after.latest ≡ state.latest → TurnsGoOn state after
        → AreFrames G plan (gone_on_by r n 1) after then_live frames
    leaves n after then_live only changed latest turns =
        let each : (m : ℕ) → IsNewAt (gone_on_by r n 1) after then_live m ⊎ (IsGoneAt (gone_on_by r n 1) after then_live m ⊎ IsSameAt (gone_on_by r n 1) after then_live m) =
        λ m. elim (cases_eq m n) [
          | inl same ↦ inr (inl (record { live_none = ap (live_at then_live) same ∙ only.changed; active_none = ap (active after) same ∙ changed.changed }))
          | inr other ↦ inr (inr (record { live_same = only.others m other; active_same = changed.others m other; read_same = other-gone_by r n 1 m other }))
        ] in
        frames-then (gone_on_by r n 1) after then_live each turns (λ m frame at. refl) frames
        (subst (λ k. k < frames) (sym latest) are.latest)
        (λ i progress at. known-by n 1 i progress at)
        (length-map r.frames (more_by n 1) ∙ are.count)

    pub leaves-finish : IsTree state → (n : ℕ) (after : QueueState) (then_live : NumberedFrames) → MayJoin state n → after ≡ after_finish state n → IsOnlyLive live then_live n None
        → AreFrames G plan (gone_on_by r n 1) after then_live frames
    leaves-finish tree n after then_live may is only =
        subst (λ q. AreFrames G plan (gone_on_by r n 1) q then_live frames) (sym is)
        (leaves n (after_finish state n) then_live only (one_gone state n) refl (go_on-finish state n tree may))

    -- by the pop of an empty queue
    pub leaves-dry : IsTree state → (n : ℕ) (a : ActiveFrame) (after : QueueState) (then_live : NumberedFrames) → active state n ≡ Some a → MayDo state n → MayJoin (after_deed state n) n
        → after ≡ after_finish (after_deed state n) n → IsOnlyLive live then_live n None → AreFrames G plan (gone_on_by r n 1) after then_live frames
    leaves-dry tree n a after then_live own act may is only =
        let popped = one_changed state n with_deed (λ x. refl) a own in
        let gone = one_gone (after_deed state n) n in
        let changed : IsOnlyFrame state (after_finish (after_deed state n) n) n None = record {
          changed = gone.changed;
          others = λ m other. gone.others m other ∙ popped.others m other;
        } in
        let turns : TurnsGoOn state (after_finish (after_deed state n) n) = λ m x z was now has.
        let other : m ≢ n = λ same. let both : None ≡ Some z = sym gone.changed ∙ ap (active (after_finish (after_deed state n) n)) (sym same) ∙ now in absurd (cc) in
        let between : active (after_deed state n) m ≡ Some z = sym (gone.others m other) ∙ now in
        go_on-finish (after_deed state n) n (tree_deed state n tree act) may m z z between now (go_on-deed state n tree act m x z was between has) in
        subst (λ q. AreFrames G plan (gone_on_by r n 1) q then_live frames) (sym is) (leaves n (after_finish (after_deed state n) n) then_live only changed refl turns)

    -- ---- a spawn

    module _ (n : ℕ) (f : LiveFrame) (there : live_at live n ≡ Some f) (a : ActiveFrame) (own : active state n ≡ Some a) (then_live : NumberedFrames) where
      -- the child is the next frame
      pub spawns : (bounds : IsWithinBounds plan.roots.queues plan.roots.objects) → IsTree state → (path : List ℕ) (k : ℕ) (top next child_top : Activation L) (index : ℕ) (hs : List Holding)
          (gives : List QueueRight) (may : MaySpawn state n frames gives) (after : QueueState)
          → f.path ≡ path → f.done ≡ k → StandsAt G plan path k top → StandsAt G plan path (k + 1) next → gives_at G plan path (k + 1) next ≡ gives_at G plan path k top
          → StandsAt G plan (path ++ index ∷ []) 0 child_top → map (give_in r) hs ≡ gives_at G plan (path ++ index ∷ []) 0 child_top → HasQueuesOnce hs
          → HasTurn state a → after ≡ after_spawn state a frames gives
          → live_at then_live n ≡ Some (record f { done = k + 1 }) → live_at then_live frames ≡ Some (record { parent = Some n; path = path ++ index ∷ []; done = 0; holdings = hs; failed = 0 })
          → ((m : ℕ) → m ≢ n → m ≢ frames → live_at then_live m ≡ live_at live m)
          → AreFrames G plan (with-child r n (record { number = frames; path = path ++ index ∷ []; done = 0 })) after then_live (frames + 1)
      spawns bounds tree path k top next child_top index hs gives may after path_is done_is at then same begins names once turn is parent_live child_live others_live =
          subst (λ q. AreFrames G plan then_r q then_live (frames + 1)) (sym is)
          (frames-then then_r spawned then_live each turns (λ m frame at_m. refl) (frames + 1) (omega arith) known count)
        where
          new : Progress
          new = record { number = frames; path = path ++ index ∷ []; done = 0 }

          then_r : Reading
          then_r = with-child r n new

          spawned : QueueState
          spawned = after_spawn state a frames gives

          free : active state frames ≡ None
          free = not_active state tree frames may.newest

          one : may.act.frame ≡ a
          one = same_Some may.act.frame a (sym may.act.may.live ∙ own)

          turns : TurnsGoOn state spawned
          turns = subst (λ x. TurnsGoOn state (after_spawn state x frames gives)) one (go_on-spawn state n frames gives tree may)

          was : IsAsRead G plan r n f
          was = are.told n f there

          here : StandsAt G plan path k was.top
          here = subst (λ q. StandsAt G plan q k was.top) path_is (subst (λ j. StandsAt G plan f.path j was.top) done_is was.stands)

          differ : frames ≢ n
          differ e = let none : None ≡ Some a = sym free ∙ ap (active state) e ∙ own in absurd (cc)

          -- no frame of the reading has the child's number
          unread : frame_of r frames ≡ None
          unread = by (frame_of r frames) refl where
            by : (found : Option Progress) → frame_of r frames ≡ found → found ≡ None
            by None none = refl
            by (Some p) found =
                let it = found_is (λ (q : Progress). nat_eq q.number frames) r.frames p found in
                let less = are.known it.index p it.stands in
                let number : p.number ≡ frames = eqb-true p.number frames it.passes in
                absurd (omega (arith, less, number))

          parent-now : IsNewAt then_r spawned then_live n
          parent-now = record {
            frame = record f { done = k + 1 };
            live_now = parent_live;
            told = record {
              progress = parent-spawned r n new (record { number = n; path = f.path; done = f.done }) was.progress ∙ ap {B = Option Progress} (λ j. Some (record { number = n; path = f.path; done = j + 1 })) done_is;
              top = next;
              stands = subst (λ q. StandsAt G plan q (k + 1) next) (sym path_is) then;
              named = was.named
                  ∙ ap (λ q. gives_at G plan q f.done was.top) path_is ∙ ap (λ j. gives_at G plan path j was.top) done_is ∙ ap (gives_at G plan path k) (stands-one G plan path k was.top top here at)
                  ∙ sym same ∙ ap (λ q. gives_at G plan q (k + 1) next) (sym path_is);
              once = was.once;
            };
            own = with_deed (record a { children = a.children + 1 });
            active_now = parent_spawned state n frames a gives own free;
            parent = let it = are.active_is n f there in ap (λ (x : ActiveFrame). x.parent) (same_Some a it.0 (sym own ∙ it.1)) ∙ it.2;
            turn = λ begun. turns n a _ own (parent_spawned state n frames a gives own free) turn;
          }

          child-now : IsNewAt then_r spawned then_live frames
          child-now = record {
            frame = record { parent = Some n; path = path ++ index ∷ []; done = 0; holdings = hs; failed = 0 };
            live_now = child_live;
            told = record {
              progress = child-spawned r n new unread differ;
              top = child_top;
              stands = begins;
              named = names;
              once = once;
            };
            own = child_of a frames gives;
            active_now = child_spawned state n frames a gives own free;
            parent = ap Some (active_number state n a own);
            turn = λ begun. absurd (omega (arith, begun));
          }

          each : (m : ℕ) → IsNewAt then_r spawned then_live m ⊎ (IsGoneAt then_r spawned then_live m ⊎ IsSameAt then_r spawned then_live m)
          each m = elim (cases_eq m n) [
            | inl e ↦ inl (subst (IsNewAt then_r spawned then_live) (sym e) parent-now)
            | inr other ↦ elim (cases_eq m frames) [
              | inl e ↦ inl (subst (IsNewAt then_r spawned then_live) (sym e) child-now)
              | inr old ↦ inr (inr (record {
                live_same = others_live m other old;
                active_same = others_spawned state n frames a gives own free m other old;
                read_same = other-spawned r n new m other old;
              }))
            ]
          ]

          known : (i : ℕ) (progress : Progress) → slice_get then_r.frames i ≡ Some progress → progress.number < frames + 1
          known i progress at_i = elim (more_cases (map (more_by n 1) r.frames) new i progress at_i) [
            | inl before ↦ let less = known-by n 1 i progress before in omega (arith, less)
            | inr last ↦ let e : progress.number ≡ frames = ap (λ (p : Progress). p.number) last.1 in omega (arith, e)
          ]

          count : length then_r.frames ≡ frames + 1
          count = length-append (map (more_by n 1) r.frames) (new ∷ []) ∙ ap (λ j. j + 1) (length-map r.frames (more_by n 1) ∙ are.count)
