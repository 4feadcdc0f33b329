-- A run that opens: its root queues and root objects are made one after the other, and then the core has the root.
use Rattle.std.proofs.Common.{◌≡◌, ◌≢◌, inl, inr, ℕ, zero, suc, ◌+◌, ◌<◌, true, false, cond, List, [], ◌∷◌, ◌++◌, Option, None, Some, length, map, refl, sym, ap, subst, ◌∙◌, arith, length-append}
use Rattle.std.proofs.lemmas.Bool.{cases_eq, cases_lt, ne_eqb}
use Rattle.std.proofs.lemmas.List.{length-map}
use Rattle.std.proofs.lemmas.Option.{get_or_from_slice_get, none-some, same_Some, slice_get-map, slice_get_within}
use Rattle.std.specs.Option.{option_map}
use Rattle.std.specs.Prelude.{slice_get}
use Rattle.swan_model.specs.declared.body.Body.{Ghosts}
use Rattle.swan_model.specs.declared.fault.Fault.{Fault}
use Rattle.swan_model.specs.declared.origin.Origin.{Origin}
use Rattle.swan_model.specs.declared.origin.Origin.TheVariants.{Root}
use Rattle.swan_model.specs.declared.plan.Plan.{Plan}
use Rattle.swan_model.specs.declared.plan.RootQueue.{RootQueue}
use Rattle.swan_model.specs.declared.rights.Mode.TheVariants.{InOut}
use Rattle.swan_model.specs.declared.script.OriginGive.{OriginGive}
use Rattle.swan_model.specs.declared.script.Script.{Script}
use Rattle.swan_model.specs.declared.value.Value.{Value}
use Rattle.swan_model.specs.Elision.{object_holdings, queue_holdings, root, root_holdings}
use Rattle.swan_model.specs.Lawful.{IsLawful}
use Rattle.swan_model.specs.QueueFollows.{Fits}
use Rattle.swan_model.specs.QueueState.{ActiveFrame, QueueState, active, after_create_root, new_state, planned, root_frame, with_made}
use Rattle.swan_model.specs.Readings.{at_start, with_object, with_queue}
use Rattle.swan_model.specs.Rights.{is_queue_mode}
use Rattle.swan_model.specs.Script.{script}
use Rattle.swan_model.specs.SerialState.{Holding}
use Rattle.swan_model.specs.SerialTime.{Progress, Reading, frame_of, times}
use Rattle.swan_model.specs.TrueFrames.{give_in, gives_at}
use Rattle.swan_model.specs.Values.{kind_of}
use Rattle.swan_model.specs.Versions.{Placed, VersionState, objects_after_create, new_versions, placed_at, settled}
use Rattle.swan_model.specs.VersionsFollow.{ObjectsFollow}
use Rattle.swan_model.proofs.Elements.{append_cases, before_more, last_more, option_cases}
use Rattle.swan_model.proofs.Lists.{some_within}
use Rattle.object_versions.proofs.CallsFollow.{create_root, new_follows}
use Rattle.object_versions.proofs.PlacesAfter.{at_placed}
use Rattle.object_versions.proofs.PlacesStay.{create_keeps}
use Rattle.pop_order.specs.OneChange.{IsOnlyChange}
use Rattle.queues.proofs.ActiveAfter.{one_changed}
use Rattle.queues.proofs.Calls.{new_follows as new_queues_follow}
use Rattle.queues.proofs.Creating.{root_created_follows}
use Rattle.queues.proofs.ReadingStart.{start_fits}
use Rattle.queues.proofs.Rereading.{root_queue_fits}
use Rattle.queues.proofs.TreeKept.{only_root, tree_new, tree_root}
use Rattle.serial_elision.specs.Laws.{IsObjectOf}
use Rattle.swan_model.proofs.RootLists.{length-queue_holdings}
use Rattle.serial_elision.proofs.RootNames.{root-object_name, root-queue_name}
use Rattle.serial_elision.proofs.TaskSteps.{root_stands}
use Rattle.serial_elision.specs.Caught.{children_by, children_by_sync, failed_children}
use Rattle.task_frames.specs.Cores.{HasQueuesOnce, AreBooked, AreCounted, AreFrames, AreObjects, AreQueues, HasEnded, HasObjects, IsPlacedSo, IsAsRead}
use Rattle.task_frames.specs.Frames.{IsPlan}
use Rattle.task_frames.specs.Opened.{AreFirstObjects, AreFirstQueues, roots_to}
use Rattle.task_frames.specs.Records.{LiveFrame, NumberedFrames, live_at}
use Rattle.task_frames.proofs.LeftOver.{lists-same}

-- ---- the first origins

length-roots : (n : ℕ) → length (roots_to n) ≡ n
length-roots zero = refl
length-roots (suc n) = omega (arith, length-roots n, length-append (roots_to n) (Root n ∷ []))

pub root-at : (n i : ℕ) → i < n → slice_get (roots_to n) i ≡ Some (Root i)
root-at zero i less = absurd (omega (arith, less))
root-at (suc n) i less = elim (cases_lt i n) [
  | inl before ↦ before_more (roots_to n) (Root n) i (Root i) (root-at n i before)
  | inr last ↦
      let here : i ≡ n = omega (arith, less, last) in
      let place : i ≡ length (roots_to n) = here ∙ sym (length-roots n) in
      ap (slice_get (roots_to n ++ Root n ∷ [])) place ∙ last_more (roots_to n) (Root n) ∙ ap {B = Option Origin} (λ j. Some (Root j)) (sym here)
]

root-only : (n i : ℕ) (origin : Origin) → slice_get (roots_to n) i ≡ Some origin → (i < n) × (origin ≡ Root i)
root-only n i origin at =
    let within = slice_get_within (roots_to n) i origin at in
    let less : i < n = omega (arith, within, length-roots n) in
    (less, same_Some origin (Root i) (sym at ∙ root-at n i less))

-- ---- the root queues

pub queues-start : (s : Script) → IsLawful s → AreFirstQueues s new_state 0
queues-start s lawful = record {
  follow = new_queues_follow s lawful;
  fit = λ objects. start_fits s lawful objects;
  tree = tree_new;
  many = refl;
  roots = λ j less. absurd (omega (arith, less));
  whole = refl;
  untouched = record { root = root_frame; live = refl; deeds = refl; children = refl; back = refl };
  latest = refl;
  only = λ n frame live. let it = only_root n frame live in (it.0, ap (λ (f : ActiveFrame). f.parent) it.1);
}

pub queues-next : (s : Script) → IsLawful s → (state after : QueueState) (i : ℕ) (first : List Value) → AreFirstQueues s state i → slice_get s.queues i ≡ Some first → after ≡ after_create_root state
    → AreFirstQueues s after (i + 1)
queues-next s lawful state after i first are at same = subst (λ q. AreFirstQueues s q (i + 1)) (sym same) whole where
  one : suc i ≡ i + 1
  one = omega arith

  at_now : slice_get s.queues (length state.makers) ≡ Some first
  at_now = ap (slice_get s.queues) are.many ∙ at

  changed : IsOnlyChange (active state) (active (after_create_root state)) 0 (Some (with_made (length state.makers) are.untouched.root))
  changed = one_changed state 0 (with_made (length state.makers)) (λ f. refl) are.untouched.root are.untouched.live

  whole : AreFirstQueues s (after_create_root state) (i + 1)
  whole = record {
    follow = root_created_follows s lawful state are.follow first are.untouched at_now;
    fit = λ objects.
        let next : Fits s (after_create_root state) (with_queue (at_start (roots_to i) objects) (Root (length state.makers))) = root_queue_fits s state (at_start (roots_to i) objects) (are.fit objects) in
        let named : Fits s (after_create_root state) (at_start (roots_to i ++ Root i ∷ []) objects) = subst (λ j. Fits s (after_create_root state) (at_start (roots_to i ++ Root j ∷ []) objects)) are.many next in
        subst (λ j. Fits s (after_create_root state) (at_start (roots_to j) objects)) one named;
    tree = tree_root state are.tree are.untouched;
    many = length-append state.makers (planned (length state.makers) ∷ []) ∙ ap (λ j. j + 1) are.many;
    roots = λ j less. elim (cases_lt j i) [
      | inl before ↦ before_more state.makers (planned (length state.makers)) j (planned j) (are.roots j before)
      | inr last ↦
          let here : j ≡ length state.makers = omega (arith, less, last, are.many) in
          ap (slice_get (state.makers ++ planned (length state.makers) ∷ [])) here ∙ last_more state.makers (planned (length state.makers)) ∙ ap {B = Option _} (λ k. Some (planned k)) (sym here)
    ];
    whole = are.whole;
    untouched = record {
      root = with_made (length state.makers) are.untouched.root;
      live = changed.changed;
      deeds = are.untouched.deeds;
      children = are.untouched.children;
      back = are.untouched.back;
    };
    latest = are.latest;
    only = λ n frame live. elim (cases_eq n 0) [
      | inl root ↦
          let it = same_Some (with_made (length state.makers) are.untouched.root) frame (sym changed.changed ∙ ap (active (after_create_root state)) (sym root) ∙ live) in
          (root, ap (λ (f : ActiveFrame). f.parent) (sym it) ∙ (are.only 0 are.untouched.root are.untouched.live).1)
      | inr other ↦ are.only n frame (sym (changed.others n other) ∙ live)
    ];
  }

-- ---- the root objects

pub objects-start : (s : Script) → IsLawful s → (first : ℕ) → AreFirstObjects s new_versions first 0
objects-start s lawful first = record {
  follow = λ queues. new_follows new_versions refl s queues lawful;
  made = refl;
  each = λ j less. absurd (omega (arith, less));
  all = λ n place object at. absurd (cc);
}

-- the next place is free
pub free-next : (s : Script) (versions : VersionState) (first i : ℕ) → AreFirstObjects s versions first i → placed_at versions 0 (first + i) ≡ None
free-next s versions first i are = elim (option_cases (placed_at versions 0 (first + i))) [
  | inl none ↦ none
  | inr found ↦ let it = are.all 0 (first + i) found.0 found.1 in absurd (omega (arith, it.1.1, it.1.2))
]

pub objects-next : (s : Script) → IsLawful s → (versions after : VersionState) (first i : ℕ) (value : Value) → AreFirstObjects s versions first i → slice_get s.objects i ≡ Some value
    → after ≡ objects_after_create versions 0 (first + i) value → AreFirstObjects s after first (i + 1)
objects-next s lawful versions after first i value are at same = record {
  follow = λ queues.
      let next : ObjectsFollow s (with_object (at_start queues (roots_to i)) (Root versions.made)) after =
      create_root versions after 0 (first + i) value (free-next s versions first i are) same s (at_start queues (roots_to i)) (record { number = 0; path = []; done = 0 }) lawful (are.follow queues) refl refl refl
      (ap (slice_get s.objects) are.made ∙ at) in
      let named : ObjectsFollow s (at_start queues (roots_to i ++ Root i ∷ [])) after = subst (λ j. ObjectsFollow s (at_start queues (roots_to i ++ Root j ∷ [])) after) are.made next in
      subst (λ j. ObjectsFollow s (at_start queues (roots_to j)) after) one named;
  made = ap (λ (v : VersionState). v.made) same ∙ ap (λ j. j + 1) are.made;
  each = λ j less. elim (cases_lt j i) [
    | inl before ↦
        let was = are.each j before in
        let apart : first + j ≢ first + i = λ e. omega (arith, e, before) in
        (was.0, ap (λ v. placed_at v 0 (first + j)) same ∙ create_keeps versions 0 (first + i) value 0 (first + j) (inr apart) ∙ was.1, was.2, was.3)
    | inr last ↦
        let here : j ≡ i = omega (arith, less, last) in
        (new, ap (λ v. placed_at v 0 (first + j)) same ∙ ap (λ k. placed_at made 0 (first + k)) here ∙ at_placed versions 0 (first + i) new, are.made ∙ sym here, refl)
  ];
  all = λ n place object there. elim (cases_eq n 0) [
    | inr other ↦
        let was = are.all n place object (sym (create_keeps versions 0 (first + i) value n place (inl other)) ∙ ap (λ v. placed_at v n place) (sym same) ∙ there) in
        absurd (other was.0)
    | inl root ↦ elim (cases_eq place (first + i)) [
      | inl here ↦ (root, (i, omega arith, here))
      | inr aside ↦
          let was = are.all n place object (sym (create_keeps versions 0 (first + i) value n place (inr aside)) ∙ ap (λ v. placed_at v n place) (sym same) ∙ there) in
          (root, (was.1.0, omega (arith, was.1.1), was.1.2))
    ]
  ];
} where
  one : suc i ≡ i + 1
  one = omega arith

  made : VersionState
  made = objects_after_create versions 0 (first + i) value

  new : Placed
  new = record { object = versions.made; kind = kind_of value; mode = InOut; given = None; present = settled value }

-- ---- what the root holds

-- a holding of the root is of a queue, or of an object behind them
data IsRootHolding (queues : List RootQueue) (objects : List Value) (place : ℕ) (h : Holding) : Type 0 where
  of_queue : (queue : RootQueue) → slice_get queues place ≡ Some queue → h ≡ record { mode = queue.mode; number = place } → IsRootHolding queues objects place h
  of_object : (i : ℕ) (value : Value) → slice_get objects i ≡ Some value → place ≡ length queues + i → h ≡ record { mode = InOut; number = i } → IsRootHolding queues objects place h

held-queues : (k : ℕ) (queues : List RootQueue) (i : ℕ) (h : Holding) → slice_get (queue_holdings k queues) i ≡ Some h → (queue : RootQueue) × (slice_get queues i ≡ Some queue) × (h ≡ record { mode = queue.mode; number = k + i })
held-queues k [] i h at = absurd (cc)
held-queues k (q ∷ queues) zero h at =
    let none : k ≡ k + 0 = omega arith in
    let own : Holding = record { mode = q.mode; number = k } in
    (q, refl, same_Some h own (sym at) ∙ ap {B = Holding} (λ n. record { mode = q.mode; number = n }) none)
held-queues k (q ∷ queues) (suc i) h at =
    let rest = held-queues (k + 1) queues i h at in
    let later : k + 1 + i ≡ k + suc i = omega arith in
    (rest.0, rest.1, rest.2 ∙ ap {B = Holding} (λ n. record { mode = rest.0.mode; number = n }) later)

held-objects : (k : ℕ) (values : List Value) (i : ℕ) (h : Holding) → slice_get (object_holdings k values) i ≡ Some h → (value : Value) × (slice_get values i ≡ Some value) × (h ≡ record { mode = InOut; number = k + i })
held-objects k [] i h at = absurd (cc)
held-objects k (v ∷ values) zero h at =
    let none : k ≡ k + 0 = omega arith in
    let own : Holding = record { mode = InOut; number = k } in
    (v, refl, same_Some h own (sym at) ∙ ap {B = Holding} (λ n. record { mode = InOut; number = n }) none)
held-objects k (v ∷ values) (suc i) h at =
    let rest = held-objects (k + 1) values i h at in
    let later : k + 1 + i ≡ k + suc i = omega arith in
    (rest.0, rest.1, rest.2 ∙ ap {B = Holding} (λ n. record { mode = InOut; number = n }) later)

root-holding : (queues : List RootQueue) (objects : List Value) (place : ℕ) (h : Holding) → slice_get (queue_holdings 0 queues ++ object_holdings 0 objects) place ≡ Some h → IsRootHolding queues objects place h
root-holding queues objects place h at = elim (append_cases (queue_holdings 0 queues) (object_holdings 0 objects) place h at) [
  | inl first ↦
      let it = held-queues 0 queues place h first in
      let none : 0 + place ≡ place = omega arith in
      of_queue it.0 it.1 (it.2 ∙ ap {B = Holding} (λ n. record { mode = it.0.mode; number = n }) none)
  | inr rest ↦
      let it = held-objects 0 objects rest.0 h rest.2 in
      let none : 0 + rest.0 ≡ rest.0 = omega arith in
      of_object rest.0 it.0 it.1 (omega (arith, rest.1, length-queue_holdings 0 queues)) (it.2 ∙ ap {B = Holding} (λ n. record { mode = InOut; number = n }) none)
]

-- ---- the core as it opens

module _ {B L : Type 0} (G : Ghosts B L) (plan : Plan B L) (sound : IsPlan plan) (lawful : IsLawful (script G plan)) (state : QueueState) (versions : VersionState) (live : NumberedFrames)
    (queues : AreFirstQueues (script G plan) state (length (script G plan).queues)) (objects : AreFirstObjects (script G plan) versions (length (script G plan).queues) (length (script G plan).objects))
    (own : live_at live 0 ≡ Some (record { parent = None; path = []; done = 0; holdings = root_holdings plan.roots; failed = 0 })) (others : (n : ℕ) → n ≢ 0 → live_at live n ≡ None) where
  abbrev s : Script
  s = script G plan

  abbrev pub first-reading : Reading
  first-reading = at_start (roots_to (length s.queues)) (roots_to (length s.objects))

  abbrev first-frame : LiveFrame
  first-frame = record { parent = None; path = []; done = 0; holdings = root_holdings plan.roots; failed = 0 }

  -- only the root is live
  root-one : (n : ℕ) (frame : LiveFrame) → live_at live n ≡ Some frame → (n ≡ 0) × (frame ≡ first-frame)
  root-one n frame at = elim (cases_eq n 0) [
    | inl root ↦ (root, same_Some frame first-frame (sym at ∙ ap (live_at live) root ∙ own))
    | inr other ↦ let both : None ≡ Some frame = sym (others n other) ∙ at in absurd (cc)
  ]

  many-queues : length s.queues ≡ length plan.roots.queues
  many-queues = length-map plan.roots.queues (λ (queue : RootQueue). queue.items)

  queue-mode : (i : ℕ) (queue : RootQueue) → slice_get plan.roots.queues i ≡ Some queue → is_queue_mode queue.mode ≡ true
  queue-mode i queue at =
      let within = slice_get_within plan.roots.queues i queue at in
      let each = sound.lists.each i queue within in
      ap (λ (q : RootQueue). is_queue_mode q.mode) (sym (get_or_from_slice_get plan.roots.queues i queue queue at)) ∙ each.mode

  -- ---- its names

  one-name : (place : ℕ) (h : Holding) → slice_get (root_holdings plan.roots) place ≡ Some h → slice_get (gives_at G plan [] 0 (root plan)) place ≡ Some (give_in first-reading h)
  one-name place h at = by (root-holding plan.roots.queues plan.roots.objects place h at) where
    by : IsRootHolding plan.roots.queues plan.roots.objects place h → slice_get (gives_at G plan [] 0 (root plan)) place ≡ Some (give_in first-reading h)
    by (of_queue queue there is) =
        let within = slice_get_within plan.roots.queues place queue there in
        let known = root-at (length s.queues) place (omega (arith, within, many-queues)) in
        let give : give_in first-reading h ≡ Some (record { origin = Root place; mode = queue.mode }) =
        ap (give_in first-reading) is
        ∙ ap (λ b. option_map (λ origin. let g : OriginGive = record { origin = origin; mode = queue.mode } in g) (cond b (slice_get first-reading.queues place) (slice_get first-reading.objects place))) (queue-mode place queue there)
        ∙ ap (option_map (λ origin. let g : OriginGive = record { origin = origin; mode = queue.mode } in g)) known in
        root-queue_name G plan sound.lists place queue there ∙ ap Some (sym give)
    by (of_object i value there place_is is) =
        let within = slice_get_within plan.roots.objects i value there in
        let known = root-at (length s.objects) i within in
        let give : give_in first-reading h ≡ Some (record { origin = Root i; mode = InOut }) =
        ap (give_in first-reading) is ∙ ap (option_map (λ origin. let g : OriginGive = record { origin = origin; mode = InOut } in g)) known in
        ap (slice_get (gives_at G plan [] 0 (root plan))) place_is ∙ root-object_name G plan sound.lists i value there ∙ ap Some (sym give)

  pub root-names : map (give_in first-reading) (root_holdings plan.roots) ≡ gives_at G plan [] 0 (root plan)
  root-names =
      lists-same (map (give_in first-reading) (root_holdings plan.roots)) (gives_at G plan [] 0 (root plan))
      (length-map (root_holdings plan.roots) (give_in first-reading) ∙ sym (length-map (root_holdings plan.roots) _))
      (λ i x at. by i x (slice_get (root_holdings plan.roots) i) refl (sym (slice_get-map (give_in first-reading) (root_holdings plan.roots) i) ∙ at))
    where
      by : (i : ℕ) (x : Option OriginGive) (found : Option Holding) → slice_get (root_holdings plan.roots) i ≡ found → option_map (give_in first-reading) found ≡ Some x → slice_get (gives_at G plan [] 0 (root plan)) i ≡ Some x
      by i x None none is = absurd (cc)
      by i x (Some h) here is = one-name i h here ∙ is

  queue-number : (place : ℕ) (h : Holding) → slice_get (root_holdings plan.roots) place ≡ Some h → is_queue_mode h.mode ≡ true → h.number ≡ place
  queue-number place h at kind = by (root-holding plan.roots.queues plan.roots.objects place h at) where
    by : IsRootHolding plan.roots.queues plan.roots.objects place h → h.number ≡ place
    by (of_queue queue there is) = ap (λ (x : Holding). x.number) is
    by (of_object i value there place_is is) = let both : false ≡ true = sym (ap (λ (x : Holding). is_queue_mode x.mode) is) ∙ kind in absurd (cc)

  root-once : HasQueuesOnce (root_holdings plan.roots)
  root-once place other a b one two queue also same = sym (queue-number place a one queue) ∙ same ∙ queue-number other b two also

  -- ---- its parts

  pub queues-open : AreQueues s first-reading state
  queues-open = record {
    follow = queues.follow;
    fit = queues.fit (roots_to (length s.objects));
    tree = queues.tree;
    roots = queues.roots;
    whole = queues.whole;
  }

  root-objects : HasObjects versions 0 (root_holdings plan.roots)
  root-objects = record { each = each; all = all } where
    each : (place : ℕ) (h : Holding) → slice_get (root_holdings plan.roots) place ≡ Some h → is_queue_mode h.mode ≡ false → IsPlacedSo versions 0 place h
    each place h at kind = by (root-holding plan.roots.queues plan.roots.objects place h at) where
      by : IsRootHolding plan.roots.queues plan.roots.objects place h → IsPlacedSo versions 0 place h
      by (of_queue queue there is) =
          let both : true ≡ false = sym (queue-mode place queue there) ∙ sym (ap (λ (x : Holding). is_queue_mode x.mode) is) ∙ kind in absurd (cc)
      by (of_object i value there place_is is) =
          let within = slice_get_within plan.roots.objects i value there in
          let it = objects.each i within in
          let here : length s.queues + i ≡ place = omega (arith, place_is, many-queues) in
          record {
            object = it.0;
            stands = ap (placed_at versions 0) (sym here) ∙ it.1;
            same = it.2 ∙ ap (λ (x : Holding). x.number) (sym is);
            mode = it.3 ∙ ap (λ (x : Holding). x.mode) (sym is);
          }

    all : (place : ℕ) (object : Placed) → placed_at versions 0 place ≡ Some object → (h : Holding) × (slice_get (root_holdings plan.roots) place ≡ Some h) × (is_queue_mode h.mode ≡ false)
    all place object at =
        let it = (objects.all 0 place object at).1 in
        let value = some_within plan.roots.objects it.0 it.1 in
        let name = root-object_name G plan sound.lists it.0 value.0 value.1 in
        let here : place ≡ length plan.roots.queues + it.0 = omega (arith, it.2, many-queues) in
        let named : slice_get (map (give_in first-reading) (root_holdings plan.roots)) place ≡ Some (Some (record { origin = Root it.0; mode = InOut })) =
        ap (λ xs. slice_get xs place) root-names ∙ ap (slice_get (gives_at G plan [] 0 (root plan))) here ∙ name in
        by (slice_get (root_holdings plan.roots) place) refl (sym (slice_get-map (give_in first-reading) (root_holdings plan.roots) place) ∙ named) it.0 here
      where
        by : (found : Option Holding) → slice_get (root_holdings plan.roots) place ≡ found → {g : OriginGive} → option_map (give_in first-reading) found ≡ Some (Some g) → (i : ℕ) → place ≡ length plan.roots.queues + i
            → (h : Holding) × (slice_get (root_holdings plan.roots) place ≡ Some h) × (is_queue_mode h.mode ≡ false)
        by None none is i here = absurd (cc)
        by (Some h) there is i here = (h, there, kind (root-holding plan.roots.queues plan.roots.objects place h there)) where
          kind : IsRootHolding plan.roots.queues plan.roots.objects place h → is_queue_mode h.mode ≡ false
          kind (of_queue queue at_queue h_is) = let within = slice_get_within plan.roots.queues place queue at_queue in absurd (omega (arith, within, here))
          kind (of_object j value at_object place_is h_is) = ap (λ (x : Holding). is_queue_mode x.mode) h_is

  pub objects-open : AreObjects s first-reading versions live (length s.objects)
  objects-open = record {
    follow = objects.follow (roots_to (length s.queues));
    known = λ i origin at. let it = root-only (length s.objects) i origin at in subst (IsObjectOf s) (sym it.1) it.0;
    count = objects.made;
    each = λ n frame at.
        let it = root-one n frame at in
        subst (λ (x : LiveFrame). HasObjects versions n x.holdings) (sym it.1) (subst (λ j. HasObjects versions j (root_holdings plan.roots)) (sym it.0) root-objects);
    begun = λ n frame at some. let it = root-one n frame at in let none : frame.done ≡ 0 = ap (λ (x : LiveFrame). x.done) it.1 in absurd (omega (arith, some, none));
    gone = λ n place object none some at. some (objects.all n place object at).0;
    roots = λ i less. let it = objects.each i less in record { named = root-at (length s.objects) i less; object = it.0; stands = it.1; same = it.2 };
    over = λ none. let both : None ≡ Some first-frame = sym none ∙ own in absurd (cc);
  }

  pub frames-open : AreFrames G plan first-reading state live 1
  frames-open = record {
    told = λ n frame at.
        let it = root-one n frame at in
        subst (IsAsRead G plan first-reading n) (sym it.1) (subst (λ j. IsAsRead G plan first-reading j first-frame) (sym it.0) (record {
          progress = refl;
          top = root plan;
          stands = root_stands G plan;
          named = root-names;
          once = root-once;
        }));
    active_is = λ n frame at.
        let it = root-one n frame at in
        let root = queues.untouched in
        (root.root, ap (active state) it.0 ∙ root.live, (queues.only 0 root.root root.live).1 ∙ sym (ap (λ (x : LiveFrame). x.parent) it.1));
    live_is = λ n frame at. let it = queues.only n frame at in (first-frame, ap (live_at live) it.0 ∙ own);
    turns = λ n frame a at now some. let it = root-one n frame at in let none : frame.done ≡ 0 = ap (λ (x : LiveFrame). x.done) it.1 in absurd (omega (arith, some, none));
    latest = omega (arith, queues.latest);
    known = known;
    count = refl;
  } where
    known : (i : ℕ) (progress : Progress) → slice_get first-reading.frames i ≡ Some progress → progress.number < 1
    known zero progress at = let it : progress.number ≡ 0 = ap (λ (q : Progress). q.number) (sym (same_Some _ progress at)) in omega (arith, it)
    known (suc i) progress at = absurd (cc)

  -- nobody has failed children
  pub counted-open : AreCounted s live []
  counted-open = record {
    counts = λ m frame at.
        subst (λ (x : LiveFrame). x.failed ≡ failed_children [] x.path (children_by_sync s x.path x.done) (children_by s x.path x.done)) (sym (root-one m frame at).1) refl;
    since = λ m above child frame at of above_at.
        let none : None ≡ Some above = ap (λ (x : LiveFrame). x.parent) (sym (root-one m child at).1) ∙ of in
        absurd (cc);
  }

  pub booked-open : AreBooked G plan first-reading []
  booked-open = record {
    only = λ i fault at. absurd (cc);
    all = λ fault is over. absurd (not-over fault over);
    once = λ i j a b one two same. absurd (cc);
  } where
    not-over : (fault : Fault) → HasEnded G plan first-reading fault.path → ⊥
    not-over fault over =
        let top : Progress = record { number = 0; path = []; done = 0 } in
        elim (cases_eq over.number 0) [
          | inl root ↦
              let it : over.progress ≡ top = same_Some over.progress top (sym over.known ∙ ap (frame_of first-reading) root) in
              let path : fault.path ≡ [] = sym over.own ∙ ap (λ (q : Progress). q.path) it in
              let done : over.progress.done ≡ 0 = ap (λ (q : Progress). q.done) it in
              let many : length (times s fault.path) ≡ length (times s []) = ap (λ q. length (times s q)) path in
              let left = (root_stands G plan).left in
              let all = over.all in
              omega (arith, done, all, many, left)
          | inr other ↦
              let none : None ≡ Some over.progress = sym (ap {B = Option Progress} (λ b. cond b (Some top) None) (ne_eqb 0 over.number (λ same. other (sym same)))) ∙ over.known in
              absurd (none-some over.progress none)
        ]
