-- A new object: whoever made it has it at a place, by its first value, and may read and write it.
use Rattle.std.proofs.Common.{◌≡◌, ◌≢◌, ◌⊎◌, inl, inr, ℕ, zero, suc, ◌+◌, ◌-◌, ◌<◌, ◌≤◌, nat_eq, ◌&&◌, ◌||◌, Bool, true, false, cond, None, Some, List, [], ◌∷◌, ◌++◌, length, refl, sym, ap, subst, ◌∙◌, arith, length-append}
use Rattle.std.proofs.lemmas.Bool.{eq-eqb, lt-ltb, or_right}
use Rattle.std.proofs.lemmas.List.Folds.{list_any-append}
use Rattle.std.proofs.lemmas.Option.{slice_get_within}
use Rattle.std.specs.Prelude.{slice_get, slice_index, IsTrue}
use Rattle.std.specs.Cmp.Lexicographic.{pointwise}
use Rattle.std.specs.List.Sorted.{IsStrictlySortedBy}
use Rattle.std.specs.Option.{option_map}
use Rattle.swan_model.specs.declared.origin.Origin.{Origin}
use Rattle.swan_model.specs.declared.origin.Origin.TheVariants.{Root, Step}
use Rattle.swan_model.specs.declared.rights.Mode.TheVariants.{In, InOut, PushPop}
use Rattle.swan_model.specs.declared.script.Deed.TheVariants as deed
use Rattle.swan_model.specs.declared.script.Entry.{Entry}
use Rattle.swan_model.specs.declared.script.OriginGive.{OriginGive}
use Rattle.swan_model.specs.declared.script.Script.{Script}
use Rattle.swan_model.specs.declared.value.Value.{Value}
use Rattle.swan_model.specs.Granted.{holds, may_use, roots_from}
use Rattle.swan_model.specs.Lawful.{IsLawful}
use Rattle.swan_model.specs.Nested.{HasTasks}
use Rattle.swan_model.specs.Readings.{at_start, gone_on, next_deed, one_more, with_object}
use Rattle.swan_model.specs.Rights.{allows}
use Rattle.swan_model.specs.SerialTime.{Progress, Reading, frame_of, is_done, is_of, places_from, point, time, times}
use Rattle.swan_model.specs.Told.{cell, cell_from, is_same, made}
use Rattle.swan_model.specs.Versions.{Placed, VersionState, placed_at, new_versions, objects_after_create}
use Rattle.swan_model.specs.VersionsFollow.{ObjectsFollow, FollowsAt}
use Rattle.swan_model.proofs.MovedFrames.{frame_number, gone_back, gone_there, path_kept, done_stays}
use Rattle.swan_model.proofs.Elements.{last_more, more_cases}
use Rattle.object_versions.specs.Following.{MayWrite}
use Rattle.object_versions.proofs.PlacesAfter.{after_placed, made_object, sorted_in, still_placed}
use Rattle.object_versions.proofs.Moves.{Owes, acting, at_gone, at_moves}
use Rattle.swan_model.proofs.ScriptCells.{cell_made}
use Rattle.swan_model.proofs.ScriptRights.{maker_holds_object}
use Rattle.swan_model.proofs.ScriptSteps.{at_next, does_now}
use Rattle.object_versions.proofs.Tasks.{done_then, not_done, tasks_gone}
use Rattle.object_versions.proofs.Differ.{settled_not-owed}
use Rattle.swan_model.proofs.Paths.{not_root}

-- ---- before the first step

one_frame : (frame : Progress) (i : ℕ) (other : Progress) → slice_get (frame ∷ []) i ≡ Some other → (i ≡ 0) × (other ≡ frame)
one_frame frame zero other is = (refl, let e : other ≡ frame = cc in e)
one_frame frame (suc i) other is = absurd (cc)

abbrev start : Progress
start = record { number = 0; path = []; done = 0 }

pub new_follow : (s : Script) (queues : List Origin) → IsLawful s → ObjectsFollow s (at_start queues []) new_versions
unfolding IsStrictlySortedBy
new_follow s queues lawful = record {
  tasks = record {
    different = λ i j frame other is also same. (one_frame start i frame is).0 ∙ sym (one_frame start j other also).0;
    spawned = λ i frame path child is ends. absurd (not_root path [] child (sym (sym (ap (λ f. f.path) (one_frame start i frame is).1) ∙ ends)));
  };
  root = (start, refl, refl);
  objects = refl;
  roots = λ object index is. absurd (cc);
  made = λ object n is. absurd (cc);
  different = λ object other n is also. absurd (cc);
  follows = λ number place frame object origin is stands has. absurd (cc);
  known = λ number place object stands. absurd (cc);
  sorted = tt;
  alone = λ number place other a b is also apart same. absurd (cc);
  owing = λ number place frame object stands owes. absurd (cc);
}

-- ---- an object more

module _ (s : Script) (r after : Reading) (state : VersionState) (follows : ObjectsFollow s r state) (n place : ℕ) (first : Value) (origin : Origin)
    (free : placed_at state n place ≡ None) (objects : after.objects ≡ r.objects ++ origin ∷ []) (tasks : HasTasks s after)
    (root : (frame : Progress) × (frame_of after 0 ≡ Some frame) × (frame.path ≡ []))
    (done : (k : ℕ) → IsTrue (is_done s r k) → IsTrue (is_done s after k))
    (still : (number other : ℕ) (now : Progress) (object : Placed) (of : Origin) → frame_of after number ≡ Some now → placed_at state number other ≡ Some object
    → slice_get r.objects object.object ≡ Some of → FollowsAt s after now object of)
    (new : (now : Progress) → frame_of after n ≡ Some now → FollowsAt s after now (made_object state first) origin)
    (number_of : (index : ℕ) → origin ≡ Root index → state.made ≡ index)
    (is_done_now : (k : ℕ) → origin ≡ Step k → IsTrue (is_done s after k))
    (unmade : (k object : ℕ) → origin ≡ Step k → slice_get r.objects object ≡ Some (Step k) → ⊥) where
  -- an object is one of those before, or the new one
  which : (object : ℕ) (of : Origin) → slice_get after.objects object ≡ Some of → (slice_get r.objects object ≡ Some of) ⊎ ((object ≡ length r.objects) × (of ≡ origin))
  which object of is = more_cases r.objects origin object of (ap (λ os. slice_get os object) (sym objects) ∙ is)

  old_number : (object : ℕ) (of : Origin) → object < state.made → slice_get after.objects object ≡ Some of → slice_get r.objects object ≡ Some of
  old_number object of less is = elim (which object of is) [
    | inl before ↦ before
    | inr last ↦ let count = follows.objects in let place = last.0 in absurd (omega arith)
  ]

  made_follows_at : (number other : ℕ) (now : Progress) (has : Placed) (of : Origin) → frame_of after number ≡ Some now
      → placed_at (objects_after_create state n place first) number other ≡ Some has → slice_get after.objects has.object ≡ Some of → FollowsAt s after now has of
  made_follows_at number other now has of moved at made = elim (after_placed state n place (made_object state first) number other has at) [
    | inl here ↦
        let number_now : slice_get after.objects state.made ≡ Some of = ap (λ o. slice_get after.objects o.object) (sym here.objects) ∙ made in
        let count = follows.objects in
        let found : slice_get after.objects state.made ≡ Some origin =
        ap (λ os. slice_get os state.made) objects ∙ ap (slice_get (r.objects ++ origin ∷ [])) (sym count) ∙ last_more r.objects origin in
        let same : origin ≡ of = let e : Some origin ≡ Some of = sym found ∙ number_now in cc in
        subst (λ o. FollowsAt s after now o of) (sym here.objects) (subst (λ f. FollowsAt s after now (made_object state first) f) same
        (new now (ap (frame_of after) (sym here.frames) ∙ moved)))
    | inr there ↦ still number other now has of moved there.was (old_number has.object of (follows.known number other has there.was) made)
  ]

  made_roots : (object index : ℕ) → slice_get after.objects object ≡ Some (Root index) → object ≡ index
  made_roots object index is = elim (which object (Root index) is) [
    | inl before ↦ follows.roots object index before
    | inr last ↦ last.0 ∙ follows.objects ∙ number_of index (sym last.1)
  ]

  made_made : (object k : ℕ) → slice_get after.objects object ≡ Some (Step k) → IsTrue (is_done s after k)
  made_made object k is = elim (which object (Step k) is) [
    | inl before ↦ done k (follows.made object k before)
    | inr last ↦ is_done_now k (sym last.1)
  ]

  made_different : (object other k : ℕ) → slice_get after.objects object ≡ Some (Step k) → slice_get after.objects other ≡ Some (Step k) → object ≡ other
  made_different object other k is also = elim (which object (Step k) is) [
    | inl before ↦ elim (which other (Step k) also) [
      | inl early ↦ follows.different object other k before early
      | inr last ↦ absurd (unmade k object (sym last.1) before)
    ]
    | inr last ↦ elim (which other (Step k) also) [
      | inl early ↦ absurd (unmade k other (sym last.1) early)
      | inr late ↦ last.0 ∙ sym late.0
    ]
  ]

  made_known : (number other : ℕ) (has : Placed) → placed_at (objects_after_create state n place first) number other ≡ Some has → has.object < state.made + 1
  made_known number other has at = elim (after_placed state n place (made_object state first) number other has at) [
    | inl here ↦ let e : has.object ≡ state.made = ap (λ o. o.object) here.objects in omega arith
    | inr there ↦ let less = follows.known number other has there.was in omega arith
  ]

  made_alone : (number one two : ℕ) (a b : Placed) → placed_at (objects_after_create state n place first) number one ≡ Some a
      → placed_at (objects_after_create state n place first) number two ≡ Some b → one ≢ two → a.object ≡ b.object → (a.mode ≡ In) × (b.mode ≡ In)
  made_alone number one two a b is also apart same = elim (after_placed state n place (made_object state first) number one a is) [
    | inl here ↦
        let e : a.object ≡ state.made = ap (λ o. o.object) here.objects in
        elim (after_placed state n place (made_object state first) number two b also) [
          | inl too ↦ absurd (apart (here.places ∙ sym too.places))
          | inr there ↦ let less = follows.known number two b there.was in absurd (omega arith)
        ]
    | inr there ↦ elim (after_placed state n place (made_object state first) number two b also) [
      | inl here ↦
          let e : b.object ≡ state.made = ap (λ o. o.object) here.objects in
          let less = follows.known number one a there.was in absurd (omega arith)
      | inr too ↦ follows.alone number one two a b there.was too.was apart same
    ]
  ]

  made_owing : (number other frame : ℕ) (has : Placed) → placed_at (objects_after_create state n place first) number other ≡ Some has → Owes has frame
      → MayWrite (objects_after_create state n place first) frame has.object
  made_owing number other frame has at owes = elim (after_placed state n place (made_object state first) number other has at) [
    | inl here ↦ elim owes [
      | inl present ↦ absurd (settled_not-owed first frame (sym (ap (λ o. o.present) here.objects) ∙ present))
      | inr given ↦ absurd (let e : None ≡ Some frame = sym (ap (λ (o : Placed). o.given) here.objects) ∙ given in cc)
    ]
    | inr there ↦
        let own = follows.owing number other frame has there.was owes in
        (own.0, own.1, still_placed state n place (made_object state first) frame own.0 own.1 free own.2, own.3, own.4)
  ]

  made_follow : ObjectsFollow s after (objects_after_create state n place first)
  made_follow = record {
    tasks = tasks;
    root = root;
    objects = ap length objects ∙ length-append r.objects (origin ∷ []) ∙ ap (λ k. k + 1) follows.objects;
    roots = made_roots;
    made = made_made;
    different = made_different;
    follows = made_follows_at;
    known = made_known;
    sorted = sorted_in state.places (n, place) (made_object state first) follows.sorted;
    alone = made_alone;
    owing = made_owing;
  }

-- ---- an object of the plan

first_place : (es : List Entry) → 1 ≤ length es → ((entry : Entry) → slice_get es 0 ≡ Some entry → entry.path ≡ [])
    → (0 < length (places_from (is_of []) 0 es)) × (slice_index (places_from (is_of []) 0 es) 0 ≡ 0)
first_place [] some first = absurd (omega arith)
first_place (entry ∷ es) some first = by (is_of [] entry) (ap (λ p. pointwise nat_eq p []) (first entry refl)) where
  by : (b : Bool) → b ≡ true → (0 < length (cond b (0 ∷ places_from (is_of []) 1 es) (places_from (is_of []) 1 es)))
      × (slice_index (cond b (0 ∷ places_from (is_of []) 1 es) (places_from (is_of []) 1 es)) 0 ≡ 0)
  by true is = (omega arith, refl)
  by false is = absurd (cc)

point_start : (s : Script) → IsLawful s → (root : Progress) → root.path ≡ [] → root.done ≡ 0 → point s root ≡ 0
point_start s lawful root path done =
    let at = first_place s.entries lawful.some lawful.first in
    let same : root ≡ record { number = root.number; path = []; done = 0 } = λ i. record { number = root.number; path = path i; done = done i } in
    ap (point s) same
    ∙ ap (λ b. cond b (time s [] 0) (time s [] (length (times s []) - 1) + 1)) (lt-ltb 0 (length (times s [])) at.0)
    ∙ at.1

root_among : (many from k : ℕ) → k < many → may_use (roots_from InOut from many) InOut (Root (from + k)) ≡ true
root_among zero from k less = absurd (omega arith)
root_among (suc many) from zero less =
    let e : from ≡ from + 0 = omega arith in
    ap (λ b. b || may_use (roots_from InOut (from + 1) many) InOut (Root (from + 0))) (eq-eqb from (from + 0) e)
root_among (suc many) from (suc k) less =
    let e : (from + 1) + k ≡ from + suc k = omega arith in
    or_right (nat_eq from (from + suc k)) _ (ap (λ j. may_use (roots_from InOut (from + 1) many) InOut (Root j)) (sym e) ∙ root_among many (from + 1) k (omega arith))

root_holds_object : (s : Script) (path : List ℕ) (index : ℕ) → path ≡ [] → index < length s.objects → may_use (holds s path 0) InOut (Root index) ≡ true
root_holds_object s path index is less =
    let e : index ≡ 0 + index = omega arith in
    ap (λ p. may_use (holds s p 0) InOut (Root index)) is
    ∙ list_any-append (λ (has : OriginGive). allows has.mode InOut && is_same has.origin (Root index)) (roots_from PushPop 0 (length s.queues)) (roots_from InOut 0 (length s.objects))
    ∙ or_right _ _ (ap (λ j. may_use (roots_from InOut 0 (length s.objects)) InOut (Root j)) e ∙ root_among (length s.objects) 0 index less)

pub root_object_follows : (s : Script) (r : Reading) (state : VersionState) (n place : ℕ) (first : Value) (root : Progress) → placed_at state n place ≡ None → IsLawful s
    → ObjectsFollow s r state → n ≡ 0 → frame_of r 0 ≡ Some root → root.done ≡ 0 → slice_get s.objects state.made ≡ Some first
    → ObjectsFollow s (with_object r (Root state.made)) (objects_after_create state n place first)
root_object_follows s r state n place first root free lawful follows own known done object =
    made_follow s r (with_object r (Root state.made)) state follows n place first (Root state.made) free refl
    (record {
      different = follows.tasks.different;
      spawned = λ i frame path child is ends.
          let spawn = follows.tasks.spawned i frame path child is ends in record { spawn = spawn.spawn; known = spawn.known; done = spawn.done };
    })
    follows.root (λ k is. is)
    (λ number other now has of is stands made.
    at_moves s r (with_object r (Root state.made)) now now has of refl (omega arith) refl (λ k owing owes at. record { was = owing; stood = at; path = refl })
    (follows.follows number other now has of is stands made))
    (λ now is.
    let same : now ≡ root = let e : Some now ≡ Some root = sym is ∙ ap (frame_of r) own ∙ known in cc in
    let first_root : root ≡ follows.root.0 = let e : Some root ≡ Some follows.root.0 = sym known ∙ follows.root.1 in cc in
    let path : now.path ≡ [] = ap (λ f. f.path) (same ∙ first_root) ∙ follows.root.2 in
    let at = point_start s lawful now path (ap (λ f. f.done) same ∙ done) in
    record {
      present = ap (cell s (Root state.made)) at ∙ ap (option_map (λ first. cell_from s (Root state.made) first 0)) object;
      given = λ version given. absurd (cc);
      owed_by = λ number owing owes. absurd (settled_not-owed first number owes);
      held = ap (λ t. may_use (holds s now.path t) InOut (Root state.made)) at ∙ root_holds_object s now.path state.made path (slice_get_within s.objects state.made first object);
      first = first;
      begins = object;
      kind = refl;
    })
    (λ index is. let e : state.made ≡ index = cc in e)
    (λ k is. absurd (cc))
    (λ k other is. absurd (cc))

-- ---- an object that a step makes

pub made_object_follows : (s : Script) (r : Reading) (state : VersionState) (n place : ℕ) (first : Value) (maker : Progress) → placed_at state n place ≡ None → IsLawful s
    → ObjectsFollow s r state → frame_of r n ≡ Some maker → next_deed s maker ≡ Some (deed.MakeObject first)
    → ObjectsFollow s (with_object (gone_on r n) (Step (point s maker))) (objects_after_create state n place first)
made_object_follows s r state n place first maker free lawful follows known next =
    let t : ℕ = point s maker in
    let own = frame_number r.frames n maker known in
    let known_too : frame_of r maker.number ≡ Some maker = ap (frame_of r) own ∙ known in
    made_follow s r (with_object (gone_on r n) (Step t)) state follows n place first (Step t) free refl
    (let gone = tasks_gone s r n follows.tasks in record {
      different = gone.different;
      spawned = λ i frame path child is ends.
          let spawn = gone.spawned i frame path child is ends in record { spawn = spawn.spawn; known = spawn.known; done = spawn.done };
    })
    (one_more n follows.root.0, gone_there r n 0 follows.root.0 follows.root.1, path_kept n follows.root.0 ∙ follows.root.2)
    (λ k is. done_stays s r n k is)
    (λ number other now has of is stands made.
    let m = gone_back r n number now is in
    at_gone s r (with_object (gone_on r n) (Step t)) lawful n maker (deed.MakeObject first) known next refl (gone_back r n) number now has of m (λ _. refl)
    (follows.follows number other m.was has of m.stood stands made))
    (λ now is.
    let m = gone_back r n n now is in
    let act = acting s r lawful n maker (deed.MakeObject first) known next refl now m in
    let does = does_now s maker (deed.MakeObject first) next in
    let step = at_next s maker (deed.MakeObject first) next in
    record {
      present = ap (cell s (Step t)) act.point ∙ cell_made s lawful t first does;
      given = λ version given. absurd (cc);
      owed_by = λ number owing owes. absurd (settled_not-owed first number owes);
      held = (λ i. may_use (holds s (act.path i) (act.point i)) InOut (Step t)) ∙ maker_holds_object s maker.path t step.entry first step.stands step.own step.does;
      first = first;
      begins = ap made does;
      kind = refl;
    })
    (λ index is. absurd (cc))
    (λ k is.
    let e : t ≡ k = cc in
    ap (is_done s (gone_on r n)) (sym e) ∙ ap (λ j. is_done s (gone_on r j) t) (sym own) ∙ done_then s r maker (deed.MakeObject first) known_too next)
    (λ k other is before.
    let e : t ≡ k = cc in
    not_done s r follows.tasks maker (deed.MakeObject first) known_too next (ap (is_done s r) e ∙ follows.made other k before))
