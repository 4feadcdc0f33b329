-- What is done among active frames is done in each full reading that fits.
use Rattle.std.proofs.Common.{◌≡◌, inl, inr, ℕ, ◌<◌, true, false, nat_eq, nat_lt, List, [], ◌∷◌, ◌++◌, length, Option, Some, None, refl, sym, ap, subst, ◌∙◌, append_assoc, append-nil, arith}
use Rattle.std.proofs.lemmas.Bool.{and_parts, cases_Bool, lt-ltb, ltb-true, not-true, or_cases, or_left, or_right}
use Rattle.std.specs.List.{list_all, list_any}
use Rattle.std.specs.Option.{option_map_or}
use Rattle.std.specs.Prelude.{not, slice_get}
use Rattle.swan_model.specs.declared.script.Entry.{Entry}
use Rattle.swan_model.specs.declared.script.Script.{Script}
use Rattle.swan_model.specs.Granted.{is_spawn}
use Rattle.swan_model.specs.Lawful.{IsLawful}
use Rattle.swan_model.specs.Nested.{spawn_time, IsEntryOf}
use Rattle.swan_model.specs.PathOrder.{is_under}
use Rattle.swan_model.specs.QueueFollows.{Fits, QueuesFollow, is_done_among, is_reached, queue_point}
use Rattle.swan_model.specs.QueueState.{ActiveFrame, QueueState, active}
use Rattle.swan_model.specs.SerialTime.{Progress, Reading, is_done, is_of, is_past, is_queue_deed, point}
use Rattle.swan_model.specs.Told.{deed_at}
use Rattle.swan_model.proofs.Places.{placed}
use Rattle.swan_model.proofs.Points.{past_above, same_frame, done_by}
use Rattle.swan_model.proofs.ScriptSteps.{deed_is}
use Rattle.swan_model.proofs.TaskEntries.{is_spawn_of, point_over, spawn_own}
use Rattle.queues.proofs.Between.{own_last}
use Rattle.swan_model.proofs.Elements.{all_each, all_from, answers_same, found_is, option_cases}
use Rattle.queues.proofs.Fitting.{same_side}
use Rattle.queues.proofs.QueuePoints.{spawn-gives}
use Rattle.queues.proofs.Refitting.{past_done}
use Rattle.queues.proofs.SerialPoints.{IsRead, is_read}
use Rattle.queues.proofs.Under.{led_to, under_from, under_rest}
use Rattle.swan_model.proofs.MovedFrames.{frame_in}

-- the spawn of a child is a queue deed
pub spawn_deed : (s : Script) (path : List ℕ) (child spawn : ℕ) → spawn_time s path child ≡ Some spawn → is_queue_deed (deed_at s spawn) ≡ true
spawn_deed s path child spawn is =
    let found = placed (is_spawn_of path) 0 s.entries child spawn is in
    let here : found.i ≡ spawn = omega (arith, found.is) in
    let both = and_parts (is_of path found.entry) (is_spawn found.entry.deed) found.passes in
    let gives = spawn-gives found.entry.deed both.1 in
    ap is_queue_deed (deed_is s spawn found.entry (ap (slice_get s.entries) (sym here) ∙ found.stands) ∙ gives.1)

-- an active frame at or above a task has come past an entry of it
pub reached_under : (s : Script) (frame : ActiveFrame) (path : List ℕ) (t : ℕ) → is_under frame.path path ≡ true → is_reached s t path frame ≡ true → t < queue_point s frame.path frame.deeds
reached_under s frame path t under reached = elim (or_cases (not (is_under frame.path path)) (nat_lt t (queue_point s frame.path frame.deeds)) reached) [
  | inl aside ↦ absurd (by (not-true (is_under frame.path path) aside))
  | inr past ↦ ltb-true t (queue_point s frame.path frame.deeds) past
]
  where
    by : is_under frame.path path ≡ false → ⊥
    by not = let both : true ≡ false = sym under ∙ not in cc

module _ (s : Script) (lawful : IsLawful s) (state : QueueState) (follows : QueuesFollow s state) (r : Reading) (fits : Fits s state r) where
  -- a frame of the reading has come past each queue deed that the active frames have reached
  past_by : (index : ℕ) (p : Progress) (v : ℕ) → slice_get r.frames index ≡ Some p → IsEntryOf s p.path v → is_queue_deed (deed_at s v) ≡ true
      → ((frame : ActiveFrame) → active state p.number ≡ Some frame → frame.path ≡ p.path → v < queue_point s frame.path frame.deeds) → v < point s p
  past_by index p v stands own deed reached = elim (option_cases (active state p.number)) [
    | inl over ↦
        let all = fits.ended index p stands over in
        let end = point_over s p (omega (arith, all)) in
        let last = own_last s p.path v own in
        omega (arith, end, last)
    | inr live ↦
        let read = is_read s lawful state r fits p.number live.0 p live.1 (fits.numbers index p stands) in
        let before = reached live.0 live.1 (sym read.fit.path) in
        ltb-true v (point s p)
        (sym (same_side s live.0.path (point s p) (queue_point s live.0.path live.0.deeds) v read.still deed)
        ∙ lt-ltb v (queue_point s live.0.path live.0.deeds) before)
  ]

  -- the frame of the reading that is the task of an entry
  record HasFrame (path : List ℕ) : Type 0 where
    pub index : ℕ
    pub progress : Progress
    pub stands : slice_get r.frames index ≡ Some progress
    pub own : progress.path ≡ path

  -- each task above an entry that is reached has its frame
  has_frame : (t : ℕ) (entry : Entry) → slice_get s.entries t ≡ Some entry → list_all (is_reached s t entry.path) state.frames ≡ true
      → (front rest : List ℕ) → entry.path ≡ front ++ rest → HasFrame front → HasFrame entry.path
  has_frame t entry stands all front [] is frame =
      record { index = frame.index; progress = frame.progress; stands = frame.stands; own = frame.own ∙ sym (is ∙ append-nil front) }
  has_frame t entry stands all front (child ∷ rest) is frame =
      let led = led_to s lawful t entry front child rest stands is in
      let p = frame.progress in
      let own = spawn_own s front child led.spawn led.known in
      let here : IsEntryOf s p.path led.spawn = subst (λ q. IsEntryOf s q led.spawn) (sym frame.own) own in
      let past = past_by frame.index p led.spawn frame.stands here (spawn_deed s front child led.spawn led.known) (λ f live path.
      let found = found_is (λ (x : ActiveFrame). nat_eq x.number p.number) state.frames f live in
      let whole : entry.path ≡ f.path ++ child ∷ rest = is ∙ ap (λ q. q ++ child ∷ rest) (sym (path ∙ frame.own)) in
      let under : is_under f.path entry.path ≡ true = ap (is_under f.path) whole ∙ under_from f.path (child ∷ rest) in
      let late = reached_under s f entry.path t under (all_each (is_reached s t entry.path) state.frames found.index f all found.stands) in
      omega (arith, late, led.before)) in
      let next = fits.all front child led.spawn led.known (past_done s r frame.index p led.spawn frame.stands here past) in
      has_frame t entry stands all (front ++ child ∷ []) rest (is ∙ sym (append_assoc front (child ∷ []) rest))
      (record { index = next.0; progress = next.1; stands = next.2; own = next.3 })

  done_there : (t : ℕ) (entry : Entry) → slice_get s.entries t ≡ Some entry → is_queue_deed (deed_at s t) ≡ true → list_all (is_reached s t entry.path) state.frames ≡ true → is_done s r t ≡ true
  done_there t entry stands deed all =
      let root : HasFrame [] = record { index = fits.root.0; progress = fits.root.1; stands = fits.root.2; own = fits.root.3 } in
      let frame = has_frame t entry stands all [] entry.path refl root in
      let p = frame.progress in
      let own : IsEntryOf s p.path t = record { entry = entry; stands = stands; own = sym frame.own } in
      let past = past_by frame.index p t frame.stands own deed (λ f live path.
      let found = found_is (λ (x : ActiveFrame). nat_eq x.number p.number) state.frames f live in
      let whole : entry.path ≡ f.path ++ [] = sym (path ∙ frame.own) ∙ sym (append-nil f.path) in
      let under : is_under f.path entry.path ≡ true = ap (is_under f.path) whole ∙ under_from f.path [] in
      reached_under s f entry.path t under (all_each (is_reached s t entry.path) state.frames found.index f all found.stands)) in
      past_done s r frame.index p t frame.stands own past

  -- what is done in the reading is reached by each active frame
  reached_by : (t : ℕ) (entry : Entry) (index : ℕ) (p : Progress) → slice_get s.entries t ≡ Some entry → is_queue_deed (deed_at s t) ≡ true → slice_get r.frames index ≡ Some p → entry.path ≡ p.path → t < point s p
      → (frame : ActiveFrame) → active state frame.number ≡ Some frame → is_under frame.path entry.path ≡ true → t < queue_point s frame.path frame.deeds
  reached_by t entry index p stands deed there own past frame live under =
      let q = fits.frames frame.number frame live in
      let read = is_read s lawful state r fits frame.number frame q.0 live q.1 in
      let place = frame_in r.frames frame.number q.0 q.1 in
      let further = under_rest frame.path entry.path under in
      by q.0 place.index place.stands read further.0 further.1
    where
      by : (q : Progress) (at : ℕ) → slice_get r.frames at ≡ Some q → IsRead s lawful state r fits frame.number frame q → (rest : List ℕ) → entry.path ≡ frame.path ++ rest → t < queue_point s frame.path frame.deeds
      by q at here read [] is =
          let same : p ≡ q = same_frame s r fits.tasks index at p q there here (sym own ∙ is ∙ append-nil frame.path ∙ sym read.fit.path) in
          let before : t < point s q = subst (λ x. t < point s x) same past in
          omega (arith, before, read.still.order)
      by q at here read (child ∷ rest) is =
          let above = past_above s r fits.tasks (length rest) frame.path rest child index p refl there (sym own ∙ is) in
          let same : above.parent ≡ q = same_frame s r fits.tasks above.index at above.parent q above.stands here (above.own ∙ sym read.fit.path) in
          let before : above.spawn < point s q = subst (λ x. above.spawn < point s x) same above.past in
          let m = queue_point s frame.path frame.deeds in
          lawful.nested.whole frame.path child above.spawn t m above.known
          (record { entry = entry; stands = stands; rest = rest; under = is ∙ sym (append_assoc frame.path (child ∷ []) rest) })
          (read.still.own m read.still.order (omega arith)) (omega (arith, before, read.still.order))

  there_done : (t : ℕ) (entry : Entry) → slice_get s.entries t ≡ Some entry → is_queue_deed (deed_at s t) ≡ true → is_done s r t ≡ true → list_all (is_reached s t entry.path) state.frames ≡ true
  there_done t entry stands deed done =
      let by = done_by s r t entry stands done in
      all_from (is_reached s t entry.path) state.frames (λ i frame at. elim (cases_Bool (is_under frame.path entry.path)) [
        | inl under ↦
            let before = reached_by t entry by.index by.frame stands deed by.stands (sym by.own) by.past frame (follows.known i frame at) under in
            or_right (not (is_under frame.path entry.path)) (nat_lt t (queue_point s frame.path frame.deeds)) (lt-ltb t (queue_point s frame.path frame.deeds) before)
        | inr aside ↦ or_left (not (is_under frame.path entry.path)) (nat_lt t (queue_point s frame.path frame.deeds)) (ap not aside)
      ])

  pub done_same : (t : ℕ) → is_queue_deed (deed_at s t) ≡ true → is_done_among s state t ≡ is_done s r t
  done_same t deed = by (slice_get s.entries t) refl
    where
      by : (found : Option Entry) → slice_get s.entries t ≡ found → is_done_among s state t ≡ is_done s r t
      by None stands =
          ap (λ o. option_map_or (λ (e : Entry). list_all (is_reached s t e.path) state.frames) o false) stands
          ∙ sym (ap (λ o. option_map_or (λ (e : Entry). list_any (is_past s t e) r.frames) o false) stands)
      by (Some entry) stands =
          let among : is_done_among s state t ≡ list_all (is_reached s t entry.path) state.frames = ap (λ o. option_map_or (λ (e : Entry). list_all (is_reached s t e.path) state.frames) o false) stands in
          answers_same (is_done_among s state t) (is_done s r t) (λ is. done_there t entry stands deed (sym among ∙ is)) (λ is. among ∙ there_done t entry stands deed is)
