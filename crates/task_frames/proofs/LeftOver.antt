-- Once the root has ended: no frame is live, each task of the script has ended, and what is left is the elision's outcome.
use Rattle.std.proofs.Common.{◌≡◌, inl, inr, ℕ, suc, ◌+◌, ◌-◌, ◌<◌, nat_eq, List, [], ◌∷◌, ◌++◌, None, Some, length, refl, sym, ap, subst, ◌∙◌, append_assoc, arith}
use Rattle.std.proofs.lemmas.List.{append-nil}
use Rattle.std.proofs.lemmas.Option.{same_Some, slice_get-get_or, slice_get_within}
use Rattle.std.specs.List.{find}
use Rattle.std.specs.Option.{option_map}
use Rattle.std.specs.List.Sorted.{IsPermutation, IsSortedBy}
use Rattle.std.specs.Prelude.{slice_get}
use Rattle.swan_model.specs.declared.body.Body.{Ghosts}
use Rattle.swan_model.specs.declared.fault.Fault.{Fault}
use Rattle.swan_model.specs.declared.origin.Origin.TheVariants.{Root}
use Rattle.swan_model.specs.declared.plan.Plan.{Plan}
use Rattle.swan_model.specs.declared.script.Entry.{Entry}
use Rattle.swan_model.specs.declared.script.Script.{Script}
use Rattle.swan_model.specs.declared.value.Value.{Value}
use Rattle.swan_model.specs.Elision.{outcome}
use Rattle.swan_model.specs.Lawful.{IsLawful}
use Rattle.swan_model.specs.Nested.{IsEntryOf}
use Rattle.swan_model.specs.QueueFollows.{Fits, origin_in, queue_origin}
use Rattle.swan_model.specs.QueueState.{ActiveFrame, IsOfRoot, QueueState, active, planned}
use Rattle.swan_model.specs.Readings.{end_time}
use Rattle.swan_model.specs.Script.{script}
use Rattle.swan_model.specs.SerialTime.{Progress, Reading, point, time, times}
use Rattle.swan_model.specs.Told.{cell}
use Rattle.swan_model.specs.Versions.{Placed, VersionState, placed_at, settled}
use Rattle.swan_model.specs.VersionsFollow.{IsVersionAt}
use Rattle.swan_model.proofs.Elements.{found_is, option_cases}
use Rattle.swan_model.proofs.Lists.{some_within}
use Rattle.swan_model.proofs.TaskEntries.{end_at, own_before, point_over, spawn_own}
use Rattle.queues.specs.Asks.{IsRestLeft}
use Rattle.queues.specs.Tells.{rest_of}
use Rattle.queues.specs.Tree.{IsTree}
use Rattle.queues.proofs.Above.{none_active}
use Rattle.queues.proofs.Between.{own_last}
use Rattle.queues.proofs.Refitting.{past_done}
use Rattle.queues.proofs.Under.{led_to}
use Rattle.serial_elision.proofs.OutcomeTold.{objects_told, rest_told}
use Rattle.task_frames.specs.Cores.{AreBooked, AreFrames, AreObjects, AreQueues, HasEnded}
use Rattle.task_frames.specs.Records.{NumberedFrames, live_at}
use Rattle.task_frames.proofs.FaultsSorted.{is_earlier_fault, sorted-faults}

-- ---- nobody is live

-- where the root isn't active, no frame is
none-active : (state : QueueState) → IsTree state → active state 0 ≡ None → (n : ℕ) → active state n ≡ None
none-active state tree none n = elim (option_cases (active state n)) [
  | inl gone ↦ gone
  | inr found ↦ absurd (none_active state tree none n found.0 found.1)
]

-- ---- each task has ended

module _ (s : Script) (lawful : IsLawful s) (state : QueueState) (r : Reading) (fits : Fits s state r) (over : (n : ℕ) → active state n ≡ None) where
  all-done : (i : ℕ) (p : Progress) → slice_get r.frames i ≡ Some p → p.done ≡ length (times s p.path)
  all-done i p at = fits.ended i p at (over p.number)

  -- the frame of the reading that is the task of a path
  pub record HasFrame (path : List ℕ) : Type 0 where
    pub index : ℕ
    pub progress : Progress
    pub stands : slice_get r.frames index ≡ Some progress
    pub own : progress.path ≡ path

  task-read : (t : ℕ) (entry : Entry) → slice_get s.entries t ≡ Some entry → (front rest : List ℕ) → entry.path ≡ front ++ rest → HasFrame front → HasFrame entry.path
  task-read t entry stands front [] is frame = record { index = frame.index; progress = frame.progress; stands = frame.stands; own = frame.own ∙ sym (is ∙ append-nil front) }
  task-read t entry stands front (child ∷ rest) is frame =
      let led = led_to s lawful t entry front child rest stands is in
      let p = frame.progress in
      let own : IsEntryOf s p.path led.spawn = subst (λ q. IsEntryOf s q led.spawn) (sym frame.own) (spawn_own s front child led.spawn led.known) in
      let end = point_over s p (omega (arith, all-done frame.index p frame.stands)) in
      let last = own_last s p.path led.spawn own in
      let next = fits.all front child led.spawn led.known (past_done s r frame.index p led.spawn frame.stands own (omega (arith, end, last))) in
      task-read t entry stands (front ++ child ∷ []) rest (is ∙ sym (append_assoc front (child ∷ []) rest)) (record { index = next.0; progress = next.1; stands = next.2; own = next.3 })

  pub each-read : (path : List ℕ) (t : ℕ) → IsEntryOf s path t → HasFrame path
  each-read path t own =
      let root : HasFrame [] = record { index = fits.root.0; progress = fits.root.1; stands = fits.root.2; own = fits.root.3 } in
      let it = task-read t own.entry own.stands [] own.entry.path refl root in
      record { index = it.index; progress = it.progress; stands = it.stands; own = it.own ∙ own.own }

module _ {B L : Type 0} (G : Ghosts B L) (plan : Plan B L) (lawful : IsLawful (script G plan)) (r : Reading) (state : QueueState) (live : NumberedFrames) (frames : ℕ)
    (queues : AreQueues (script G plan) r state) (are : AreFrames G plan r state live frames) (gone : live_at live 0 ≡ None) where
  abbrev s : Script
  s = script G plan

  pub root-inactive : active state 0 ≡ None
  root-inactive = elim (option_cases (active state 0)) [
    | inl none ↦ none
    | inr found ↦
        let it = are.live_is 0 found.0 found.1 in
        let both : None ≡ Some it.0 = sym gone ∙ it.1 in
        absurd (cc)
  ]

  over : (n : ℕ) → active state n ≡ None
  over = none-active state queues.tree root-inactive

  -- no frame is live
  pub none-live : (n : ℕ) → live_at live n ≡ None
  none-live n = elim (option_cases (live_at live n)) [
    | inl none ↦ none
    | inr found ↦
        let it = are.active_is n found.0 found.1 in
        let both : None ≡ Some it.0 = sym (over n) ∙ it.1 in
        absurd (cc)
  ]

  -- each task of the script has ended
  pub each-ended : (path : List ℕ) (k : ℕ) → k < length (times s path) → HasEnded G plan r path
  each-ended path k left =
      let t = time s path k in
      let own = own_before s path k t (slice_get-get_or (times s path) k 0 left) in
      let it = each-read s lawful state r queues.fit over path t own.0 in
      record {
        number = it.progress.number;
        progress = it.progress;
        known = queues.fit.numbers it.index it.progress it.stands;
        own = it.own;
        all = queues.fit.ended it.index it.progress it.stands (over it.progress.number) ∙ ap (λ q. length (times s q)) it.own;
      }

  -- the booked faults, sorted, are those that the elision leaves
  pub faults-left : (booked sorted : List Fault) → AreBooked G plan r booked → IsPermutation booked sorted → IsSortedBy is_earlier_fault sorted → sorted ≡ (outcome G plan).faults
  faults-left booked sorted have same rise =
      sorted-faults booked sorted same have.once rise G plan
      (λ i fault at. (have.only i fault at).0)
      (λ fault is. have.all fault is (each-ended fault.path is.k is.stands.left))

  -- the entries end with the root's
  root-end : end_time s [] ≡ length s.entries
  root-end =
      let last = length s.entries - 1 in
      let some = lawful.some in
      let end = lawful.last last (omega (arith, some)) in
      omega (arith, some, end_at s [] last (record { entry = end.entry; stands = end.stands; own = end.own }) (λ v own. let less = slice_get_within s.entries v own.entry own.stands in omega (arith, less)))

  -- the value of a root object is the one that the elision leaves
  pub object-left : (versions : VersionState) (objects : ℕ) (have : AreObjects s r versions live objects) (i : ℕ) → i < length s.objects → (object : Placed) (value : Value)
      → placed_at versions 0 (length s.queues + i) ≡ Some object → object.present ≡ settled value → slice_get (outcome G plan).objects i ≡ Some value
  object-left versions objects have i less object value stands is =
      let root = have.roots i less in
      let same : root.object ≡ object = same_Some root.object object (sym root.stands ∙ stands) in
      let named : slice_get r.objects object.object ≡ Some (Root i) = ap (λ (o : Placed). slice_get r.objects o.object) (sym same) ∙ ap (slice_get r.objects) root.same ∙ root.named in
      let top = have.follow.root in
      let at = have.follow.follows 0 (length s.queues + i) top.0 object (Root i) top.1 stands named in
      let place = found_is (λ (q : Progress). nat_eq q.number 0) r.frames top.0 top.1 in
      let done = queues.fit.ended place.index top.0 place.stands (over top.0.number) in
      let now : point s top.0 ≡ length s.entries = point_over s top.0 (omega (arith, done)) ∙ ap (end_time s) top.2 ∙ root-end in
      objects_told G plan i ∙ subst (λ t. cell s (Root i) t ≡ Some value) now (subst (IsVersionAt s r (Root i) (point s top.0)) is at.present)

  -- a root queue is the script's, and its rest may be taken
  pub queue-root : (i : ℕ) → i < length s.queues → queue_origin s state i ≡ Some (Root i)
  queue-root i less = ap (option_map (origin_in s)) (queues.roots i less)

  pub rest-may : (now : QueueState) → now.frames ≡ state.frames → now.makers ≡ state.makers → (i : ℕ) → i < length s.queues → IsRestLeft now i
  rest-may now same makers i less = record {
    known = let within = slice_get_within state.makers i (planned i) (queues.roots i less) in subst (λ ms. i < length ms) (sym makers) within;
    made = subst IsOfRoot (sym (ap (λ ms. slice_get ms i) makers ∙ queues.roots i less)) tt;
    over = ap (find (λ (f : ActiveFrame). nat_eq f.number 0)) same ∙ root-inactive;
  }

  -- and it is what the elision leaves
  pub rest-left : (i : ℕ) → i < length s.queues → slice_get (outcome G plan).queues i ≡ Some (rest_of s (Root i))
  rest-left i less =
      let first = some_within s.queues i less in
      rest_told G plan i ∙ ap (option_map (λ (first : List Value). rest_of s (Root i))) first.1

-- lists that have the same at each index
pub lists-same : {X : Type 0} (xs ys : List X) → length xs ≡ length ys → ((i : ℕ) (x : X) → slice_get xs i ≡ Some x → slice_get ys i ≡ Some x) → xs ≡ ys
lists-same [] [] many each = refl
lists-same [] (y ∷ ys) many each = absurd (omega (arith, many))
lists-same (x ∷ xs) [] many each = absurd (omega (arith, many))
lists-same (x ∷ xs) (y ∷ ys) many each =
    let first : y ≡ x = same_Some y x (each 0 x refl) in
    ap (λ z. z ∷ xs) (sym first) ∙ ap (λ zs. y ∷ zs) (lists-same xs ys (omega (arith, many)) (λ i z at. each (suc i) z at))
