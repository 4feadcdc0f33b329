-- A spawn whose accesses are all made: what the child was given is what the elision has as the child begins, and what it owes is
-- what its parent has when the spawn is done.
use Rattle.std.proofs.Common.{◌≡◌, ◌≢◌, ◌⊎◌, inl, inr, ℕ, ◌+◌, ◌≤◌, true, false, None, Some, List, [], ◌∷◌, ◌++◌, filter, map, refl, sym, ap, subst, ◌∙◌, arith}
use Rattle.std.proofs.lemmas.Bool.{cases_eq, false≢true, false_from_ne_true}
use Rattle.std.proofs.lemmas.List.{append-nil}
use Rattle.std.specs.Prelude.{slice_get}
use Rattle.std.specs.List.{list_any}
use Rattle.std.specs.Option.{option_map}
use Rattle.swan_model.specs.declared.origin.Origin.{Origin}
use Rattle.swan_model.specs.declared.rights.Mode.{Mode}
use Rattle.swan_model.specs.declared.rights.Mode.TheVariants.{In, Out, InOut, Push, Pop, PushPop}
use Rattle.swan_model.specs.declared.script.Deed.TheVariants as deed
use Rattle.swan_model.specs.declared.script.OriginGive.{OriginGive}
use Rattle.swan_model.specs.declared.script.Script.{Script}
use Rattle.swan_model.specs.Granted.{child_path, children_before, holds, may_use}
use Rattle.swan_model.specs.Lawful.{IsLawful}
use Rattle.swan_model.specs.Readings.{end_time, next_deed, one_more, reading_after_spawn}
use Rattle.swan_model.specs.Rights.{allows}
use Rattle.swan_model.specs.SerialTime.{Progress, Reading, frame_of, point, time}
use Rattle.swan_model.specs.Told.{cell, deed_at, is_given_out, is_out}
use Rattle.swan_model.specs.Values.{kind_of, zero_of}
use Rattle.swan_model.specs.Versions.{Version, settled, owed, Placed, VersionState, owing, placed_at}
use Rattle.swan_model.specs.VersionsFollow.{Access, Begins, ObjectsFollow, FollowsAt, IsGiving, IsVersionAt, is_object_give, object_give}
use Rattle.object_versions.proofs.Differ.{owing_owed, reads_not-out, settled_not-owed}
use Rattle.swan_model.proofs.MovedFrames.{IsMoved, child_progress, frame_number, own_moves, other_stays, path_kept, spawned_back, spawned_there, done_spawned}
use Rattle.object_versions.proofs.GivingAccess.{no_frame}
use Rattle.object_versions.proofs.Moves.{IsSameTask, Owes, at_moves, held_on, one_object, same_task, version_moves}
use Rattle.object_versions.proofs.SpawnGives.{giving_out, may_by, out_by, writing}
use Rattle.object_versions.proofs.Tasks.{tasks_spawned}
use Rattle.swan_model.proofs.ScriptCells.{cell_given, cell_lent, cell_through}
use Rattle.swan_model.proofs.ScriptRights.{child_holds, held_older}
use Rattle.swan_model.proofs.ScriptSteps.{IsSpawnOf, does_now, spawn_moves}
use Rattle.swan_model.proofs.TaskEntries.{point_is}

-- a version is owed by this frame, or it isn't
owed_or_not : (version : Version) (frame : ℕ) → (version ≡ owed frame) ⊎ (version ≢ owed frame)
owed_or_not (settled value) frame = inr (settled_not-owed value frame)
owed_or_not (owed other) frame = elim (cases_eq other frame) [
  | inl same ↦ inl (ap owed same)
  | inr apart ↦ inr (λ (e : owed other ≡ owed frame). let same : other ≡ frame = cc in apart same)
]

-- what a child begins with that may only write, and what another one begins with
record IsZeroed (mode : Mode) (object : Placed) : Type 0 where
  pub out : is_out mode ≡ true
  pub zero : object.present ≡ settled (zero_of object.kind)
  pub none : object.given ≡ None

record IsLent (s : Script) (r : Reading) (origin : Origin) (t : ℕ) (mode : Mode) (object : Placed) : Type 0 where
  pub reads : is_out mode ≡ false
  pub at : IsVersionAt s r origin t object.present
  pub given : object.given ≡ owing object.present

begins_by : (s : Script) (r : Reading) (origin : Origin) (t : ℕ) (object : Placed) (mode : Mode) → Begins s r origin t mode object → IsZeroed mode object ⊎ IsLent s r origin t mode object
begins_by s r origin t object Out is = inl (record { out = refl; zero = is.0; none = is.1 })
begins_by s r origin t object In is = inr (record { reads = refl; at = is.0; given = is.1 })
begins_by s r origin t object InOut is = inr (record { reads = refl; at = is.0; given = is.1 })
begins_by s r origin t object Push is = inr (record { reads = refl; at = is.0; given = is.1 })
begins_by s r origin t object Pop is = inr (record { reads = refl; at = is.0; given = is.1 })
begins_by s r origin t object PushPop is = inr (record { reads = refl; at = is.0; given = is.1 })

module _ (s : Script) (r : Reading) (state : VersionState) (giver : Progress) (child : ℕ) (accesses : List Access) (lawful : IsLawful s)
    (known : frame_of r giver.number ≡ Some giver) (giving : IsGiving s r state giver child accesses []) where
  abbrev follows : ObjectsFollow s r state
  follows = giving.follows

  abbrev gives : List OriginGive
  gives = giving.spawn.gives

  abbrev after : Reading
  after = reading_after_spawn s r giver child

  abbrev path : List ℕ
  path = child_path s giver.path (point s giver)

  abbrev start : Progress
  start = child_progress s giver child

  next : next_deed s giver ≡ Some (deed.Spawn gives)
  next = giving.spawn.next

  objects : map (object_give r state giver.number) accesses ≡ map Some (filter is_object_give gives)
  objects = ap (map (object_give r state giver.number)) (sym (append-nil accesses)) ∙ giving.spawn.objects

  spawn : IsSpawnOf s giver path
  spawn = spawn_moves s lawful giver gives next

  differ : giver.number ≢ child
  differ same = no_frame r child giver giving.unread (ap (frame_of r) (sym same) ∙ known)

  -- a frame other than the child was the same task before
  task_before : (k : ℕ) (owing : Progress) → frame_of after k ≡ Some owing → k ≢ child → IsSameTask r k owing
  task_before k owing there apart = elim (spawned_back s r giver child k owing there) [
    | inl m ↦ same_task r giver.number k owing m
    | inr c ↦ absurd (apart c.same)
  ]

  -- the child's number is the child's
  child_is : (owing : Progress) → frame_of after child ≡ Some owing → owing.path ≡ path
  child_is owing there = elim (spawned_back s r giver child child owing there) [
    | inl m ↦ absurd (no_frame r child m.was giving.unread m.stood)
    | inr c ↦ ap (λ (f : Progress). f.path) c.is
  ]

  -- ---- other frames

  others_task : (number place : ℕ) (has : Placed) → number ≢ giver.number → placed_at state number place ≡ Some has → (k : ℕ) (owing : Progress) → Owes has k
      → frame_of after k ≡ Some owing → IsSameTask r k owing
  others_task number place has apart stands k owing owes there = task_before k owing there (λ same. elim owes [
    | inl present ↦ apart (giving.owed_by number place has stands (present ∙ ap owed same)).0
    | inr given ↦ giving.ungiven number place has stands (given ∙ ap Some same)
  ])

  follows_other : (number place : ℕ) (frame : Progress) (has : Placed) (origin : Origin) → number ≢ giver.number → IsMoved r giver.number number frame
      → placed_at state number place ≡ Some has → slice_get r.objects has.object ≡ Some origin → FollowsAt s after frame has origin
  follows_other number place frame has origin apart m stands made =
      let own = frame_number r.frames number m.was m.stood in
      let same : frame ≡ m.was = m.moved ∙ other_stays giver.number m.was (λ e. apart (sym own ∙ e)) in
      let was = follows.follows number place m.was has origin m.stood stands made in
      at_moves s r after m.was frame has origin (ap (λ (f : Progress). f.path) same) (subst (λ f. point s m.was ≤ point s f) (sym same) (omega arith))
      (ap (λ f. cell s origin (point s f)) same) (others_task number place has apart stands) was

  -- ---- the parent

  -- an object of which the child doesn't owe the parent's version isn't given to be written
  kept_through : (origin : Origin) (place : ℕ) (has : Placed) → placed_at state giver.number place ≡ Some has → slice_get r.objects has.object ≡ Some origin
      → has.present ≢ owed child → may_use gives Out origin ≡ false
  kept_through origin place has stands made none = false_from_ne_true (may_use gives Out origin) (λ may.
      let w = writing r state giver.number accesses gives objects origin may in
      let u = giving.each w.by.among.index w.by.access w.by.among.stands in
      let out : allows w.by.access.mode Out ≡ true = ap (λ m. allows m Out) w.by.mode ∙ w.may in
      let one : u.above ≡ w.by.object = let e : Some u.above ≡ Some w.by.object = sym u.stands ∙ w.by.stands in cc in
      let number : w.by.object.object ≡ has.object = one_object s r state follows w.by.object.object has.object origin (w.by.made ∙ ap Some w.origin_is) made in
      elim (cases_eq w.by.access.place place) [
        | inl e ↦
            let same : u.above ≡ has = let f : Some u.above ≡ Some has = sym u.stands ∙ ap (placed_at state giver.number) e ∙ stands in cc in
            none (ap (λ (o : Placed). o.present) (sym same) ∙ u.owes out)
        | inr apart ↦
            let both = follows.alone giver.number w.by.access.place place w.by.object has w.by.stands stands apart number in
            let mode : allows In w.by.access.mode ≡ true = ap (λ m. allows m w.by.access.mode) (sym both.0) ∙ ap (λ (o : Placed). allows o.mode w.by.access.mode) (sym one) ∙ u.held in
            reads_not-out w.by.access.mode mode out
      ])

  -- the parent once the spawn is done
  record IsThen (frame : Progress) : Type 0 where
    pub ends : point s frame ≡ end_time s path
    pub same_path : frame.path ≡ giver.path
    pub later : point s giver ≤ point s frame

  then : (frame : Progress) → IsMoved r giver.number giver.number frame → IsThen frame
  then frame m =
      let self : m.was ≡ giver = let e : Some m.was ≡ Some giver = sym m.stood ∙ known in cc in
      let moved : frame ≡ record giver { done = giver.done + 1 } = m.moved ∙ ap (one_more giver.number) self ∙ own_moves giver.number giver refl in
      let ends : point s frame ≡ end_time s path = ap (point s) moved ∙ spawn.ends in
      let long = spawn.long in
      record { ends = ends; same_path = ap (λ (f : Progress). f.path) moved; later = subst (λ t. point s giver ≤ t) (sym ends) (omega arith) }

  parent_owed : (frame : Progress) (has : Placed) (origin : Origin) (place : ℕ) → IsThen frame → placed_at state giver.number place ≡ Some has
      → FollowsAt s r giver has origin → has.present ≡ owed child → FollowsAt s after frame has origin
  parent_owed frame has origin place at stands was owes = record {
    present = subst (IsVersionAt s after origin (point s frame)) (sym owes) (λ owing there.
        let e : end_time s owing.path ≡ point s frame = ap (end_time s) (child_is owing there) ∙ sym at.ends in
        (omega (arith, e), ap (cell s origin) e));
    given = λ number given.
        let begins : time s frame.path 0 ≡ time s giver.path 0 = ap (λ p. time s p 0) at.same_path in
        subst (λ t. IsVersionAt s after origin t (owed number)) (sym begins)
        (version_moves s r after origin (time s giver.path 0) (time s giver.path 0) (owed number) (omega arith) refl
        (λ other owing e there. task_before other owing there (λ same.
        let number_is : number ≡ other = cc in
        giving.ungiven giver.number place has stands (given ∙ ap Some (number_is ∙ same))))
        (was.given number given));
    owed_by = λ number owing owes_too there.
        let e : owed child ≡ owed number = sym owes ∙ owes_too in
        let same : number ≡ child = cc in
        inr (
          children_before s giver.path (point s giver),
          child_is owing (ap (frame_of after) (sym same) ∙ there) ∙ ap (λ p. p ++ children_before s giver.path (point s giver) ∷ []) (sym at.same_path),
        );
    held = held_on s giver frame has.mode origin at.same_path at.later was.held;
    first = was.first;
    begins = was.begins;
    kind = was.kind;
  }

  parent_kept : (frame : Progress) (has : Placed) (origin : Origin) (place : ℕ) → IsThen frame → placed_at state giver.number place ≡ Some has → slice_get r.objects has.object ≡ Some origin
      → FollowsAt s r giver has origin → has.present ≢ owed child → FollowsAt s after frame has origin
  parent_kept frame has origin place at stands made was none =
      let older = held_older s lawful giver.path (point s giver) has.mode origin was.held in
      let through = cell_through s lawful giver gives next origin older (kept_through origin place has stands made none) in
      at_moves s r after giver frame has origin at.same_path at.later (ap (cell s origin) at.ends ∙ through)
      (λ k owing owes there. task_before k owing there (λ same. elim owes [
        | inl present ↦ none (present ∙ ap owed same)
        | inr given ↦ giving.ungiven giver.number place has stands (given ∙ ap Some same)
      ])) was

  follows_parent : (place : ℕ) (frame : Progress) (has : Placed) (origin : Origin) → IsMoved r giver.number giver.number frame
      → placed_at state giver.number place ≡ Some has → slice_get r.objects has.object ≡ Some origin → FollowsAt s after frame has origin
  follows_parent place frame has origin m stands made =
      let was = follows.follows giver.number place giver has origin known stands made in
      elim (owed_or_not has.present child) [
        | inl owes ↦ parent_owed frame has origin place (then frame m) stands was owes
        | inr none ↦ parent_kept frame has origin place (then frame m) stands made was none
      ]

  -- ---- the child

  -- an object that the child got by another mode than Out is given by Out to nobody
  no_out : (place : ℕ) (has : Placed) (origin : Origin) → placed_at state child place ≡ Some has → slice_get r.objects has.object ≡ Some origin → is_out has.mode ≡ false
      → list_any (is_given_out origin) gives ≡ true → ⊥
  no_out place has origin stands made reads any =
      let o = giving_out r state giver.number accesses gives objects origin any in
      let u = giving.each o.by.among.index o.by.access o.by.among.stands in
      let one : u.above ≡ o.by.object = let e : Some u.above ≡ Some o.by.object = sym u.stands ∙ o.by.stands in cc in
      let number : u.object.object ≡ has.object =
      u.same ∙ ap (λ (w : Placed). w.object) one ∙ one_object s r state follows o.by.object.object has.object origin (o.by.made ∙ ap Some o.origin_is) made in
      let out : is_out u.object.mode ≡ true = ap is_out (u.mode ∙ o.by.mode) ∙ o.out in
      elim (cases_eq o.by.access.child_place place) [
        | inl e ↦
            let same : u.object ≡ has = let f : Some u.object ≡ Some has = sym u.got ∙ ap (placed_at state child) e ∙ stands in cc in
            false≢true (sym reads ∙ ap (λ (w : Placed). is_out w.mode) (sym same) ∙ out)
        | inr apart ↦
            let both = follows.alone child o.by.access.child_place place u.object has u.got stands apart number in
            false≢true (ap is_out (sym both.0) ∙ out)
      ]

  -- an access by which the child got what it has at a place
  record IsGotBy (place : ℕ) (has : Placed) (origin : Origin) : Type 0 where
    pub access : Access
    pub index : ℕ
    pub among : slice_get accesses index ≡ Some access
    pub above : Placed
    pub stands : placed_at state giver.number access.place ≡ Some above
    pub made : slice_get r.objects above.object ≡ Some origin
    pub kind : has.kind ≡ above.kind
    pub mode : has.mode ≡ access.mode
    pub begins : Begins s r origin (point s giver) access.mode has

  got_by : (place : ℕ) (has : Placed) (origin : Origin) → placed_at state child place ≡ Some has → slice_get r.objects has.object ≡ Some origin → IsGotBy place has origin
  got_by place has origin stands made =
      let by = giving.all place has stands in
      let a = giving.each by.0 by.1 by.2 in
      let same : a.object ≡ has = let e : Some a.object ≡ Some has = sym a.got ∙ ap (placed_at state child) by.3 ∙ stands in cc in
      let origin_is : a.origin ≡ origin = let e : Some a.origin ≡ Some origin = sym a.known ∙ ap (λ (o : Placed). slice_get r.objects o.object) same ∙ made in cc in
      record {
        access = by.1;
        index = by.0;
        among = by.2;
        above = a.above;
        stands = a.stands;
        made = ap (slice_get r.objects) (sym a.same ∙ ap (λ (o : Placed). o.object) same) ∙ made;
        kind = ap (λ (o : Placed). o.kind) (sym same) ∙ a.kind;
        mode = ap (λ (o : Placed). o.mode) (sym same) ∙ a.mode;
        begins = subst (λ o. Begins s r origin (point s giver) by.1.mode o) same (subst (λ of. Begins s r of (point s giver) by.1.mode a.object) origin_is a.begins);
      }

  starts : point s start ≡ point s giver + 1
  starts = spawn.starts child

  start_first : point s start ≡ time s path 0
  start_first = point_is s start spawn.some

  does : deed_at s (point s giver) ≡ deed.Spawn gives
  does = does_now s giver (deed.Spawn gives) next

  child_held : (place : ℕ) (has : Placed) (origin : Origin) → (g : IsGotBy place has origin) → may_use (holds s path (point s start)) has.mode origin ≡ true
  child_held place has origin g =
      let m = g.mode in
      (λ i. may_use (holds s path (starts i)) (m i) origin)
      ∙ ap (λ held. may_use held g.access.mode origin) (child_holds s lawful giver gives next)
      ∙ may_by r state giver.number accesses gives objects g.access (record { index = g.index; stands = g.among }) g.above origin g.stands g.made

  child_zeroed : (place : ℕ) (has : Placed) (origin : Origin) (g : IsGotBy place has origin) → FollowsAt s r giver g.above origin → IsZeroed g.access.mode has → FollowsAt s after start has origin
  child_zeroed place has origin g was z =
      let any = out_by r state giver.number accesses gives objects g.access (record { index = g.index; stands = g.among }) g.above origin g.stands g.made z.out in
      let value : cell s origin (point s start) ≡ Some (zero_of has.kind) =
      ap (cell s origin) starts ∙ cell_given s origin (point s giver) gives does any
      ∙ ap (option_map (λ first. zero_of (kind_of first))) was.begins ∙ ap (λ k. Some (zero_of k)) (sym (g.kind ∙ was.kind)) in
      record {
        present = subst (IsVersionAt s after origin (point s start)) (sym z.zero) value;
        given = λ number given. absurd (let e : None ≡ Some number = sym z.none ∙ given in cc);
        owed_by = λ number owing owes there. absurd (settled_not-owed (zero_of has.kind) number (sym z.zero ∙ owes));
        held = child_held place has origin g;
        first = was.first;
        begins = was.begins;
        kind = g.kind ∙ was.kind;
      }

  child_lent : (place : ℕ) (has : Placed) (origin : Origin) (g : IsGotBy place has origin) → FollowsAt s r giver g.above origin → placed_at state child place ≡ Some has
      → slice_get r.objects has.object ≡ Some origin → IsLent s r origin (point s giver) g.access.mode has → FollowsAt s after start has origin
  child_lent place has origin g was stands made l =
      let none : list_any (is_given_out origin) gives ≡ false = false_from_ne_true (list_any (is_given_out origin) gives) (no_out place has origin stands made (ap is_out g.mode ∙ l.reads)) in
      let kept : cell s origin (point s start) ≡ cell s origin (point s giver) = ap (cell s origin) starts ∙ cell_lent s origin (point s giver) gives does none in
      let later : point s giver ≤ point s start = omega (arith, starts) in
      let present = version_moves s r after origin (point s giver) (point s start) has.present later kept (λ k owing owes there. others_task child place has (λ e. differ (sym e)) stands k owing (inl owes) there) l.at in
      record {
        present = present;
        given = λ number given.
            let owes = owing_owed has.present number (sym l.given ∙ given) in
            subst (λ t. IsVersionAt s after origin t (owed number)) start_first (subst (IsVersionAt s after origin (point s start)) owes present);
        owed_by = λ number owing_frame owes there. inl (l.given ∙ ap owing owes);
        held = child_held place has origin g;
        first = was.first;
        begins = was.begins;
        kind = g.kind ∙ was.kind;
      }

  follows_child : (place : ℕ) (has : Placed) (origin : Origin) → placed_at state child place ≡ Some has → slice_get r.objects has.object ≡ Some origin → FollowsAt s after start has origin
  follows_child place has origin stands made =
      let g = got_by place has origin stands made in
      let was = follows.follows giver.number g.access.place giver g.above origin known g.stands g.made in
      elim (begins_by s r origin (point s giver) has g.access.mode g.begins) [
        | inl zeroed ↦ child_zeroed place has origin g was zeroed
        | inr lent ↦ child_lent place has origin g was stands made lent
      ]

  -- ---- all of them

  follows_spawned : (number place : ℕ) (frame : Progress) (has : Placed) (origin : Origin) → frame_of after number ≡ Some frame → placed_at state number place ≡ Some has
      → slice_get r.objects has.object ≡ Some origin → FollowsAt s after frame has origin
  follows_spawned number place frame has origin read stands made = elim (spawned_back s r giver child number frame read) [
    | inl m ↦ elim (cases_eq number giver.number) [
      | inl own ↦
          follows_parent place frame has origin (record { was = m.was; stood = ap (frame_of r) (sym own) ∙ m.stood; moved = m.moved })
          (ap (λ k. placed_at state k place) (sym own) ∙ stands) made
      | inr apart ↦ follows_other number place frame has origin apart m stands made
    ]
    | inr c ↦ subst (λ f. FollowsAt s after f has origin) (sym c.is) (follows_child place has origin (ap (λ k. placed_at state k place) (sym c.same) ∙ stands) made)
  ]

  pub ends_given : ObjectsFollow s (reading_after_spawn s r giver child) state
  ends_given = record {
    tasks = tasks_spawned s r lawful follows.tasks giver child gives known next;
    root = (one_more giver.number follows.root.0, spawned_there s r giver child 0 follows.root.0 follows.root.1, path_kept giver.number follows.root.0 ∙ follows.root.2);
    objects = follows.objects;
    roots = follows.roots;
    made = λ object n step. done_spawned s r giver child n (follows.made object n step);
    different = follows.different;
    follows = follows_spawned;
    known = follows.known;
    sorted = follows.sorted;
    alone = follows.alone;
    owing = follows.owing;
  }
