-- One access more for a child that is being given its objects.
use Rattle.std.proofs.Common.{◌≡◌, ◌≢◌, ◌⊎◌, inl, inr, ℕ, ◌<◌, Bool, true, false, cond, None, Some, List, [], ◌∷◌, ◌++◌, length, refl, sym, ap, subst, ◌∙◌, append_assoc, arith}
use Rattle.std.proofs.lemmas.Option.{slice_get-get_or}
use Rattle.std.specs.Prelude.{slice_get}
use Rattle.swan_model.specs.declared.origin.Origin.{Origin}
use Rattle.swan_model.specs.declared.origin.Origin.TheVariants.{Root}
use Rattle.swan_model.specs.declared.rights.Mode.{Mode}
use Rattle.swan_model.specs.declared.rights.Mode.TheVariants.{In, Out, InOut, Push, Pop, PushPop}
use Rattle.swan_model.specs.declared.script.Script.{Script}
use Rattle.swan_model.specs.Rights.{allows}
use Rattle.swan_model.specs.SerialTime.{Progress, Reading, frame_of, point}
use Rattle.swan_model.specs.Versions.{Holds, MayGet, owed, Placed, VersionState, placed_at, after_access, got, left_with}
use Rattle.swan_model.specs.VersionsFollow.{Access, Begins, ObjectsFollow, FollowsAt, IsAccessMade, IsGiving, NextSpawnGivesObjects, IsVersionAt}
use Rattle.swan_model.proofs.Elements.{before_more, last_more, more_cases}
use Rattle.object_versions.specs.Following.{MayWrite}
use Rattle.object_versions.proofs.Differ.{writes_not-in}
use Rattle.object_versions.proofs.GivingKept.{IsAboveKept, IsBelowKept, IsUngiven, access_kept, next_spawn_kept}
use Rattle.object_versions.proofs.GivingPlaces.{IsBack, StillStands, after_is, child_has, given_now, got_given, got_kind, got_mode, got_object, got_owed, got_present, left, middle, parent_has, which}
use Rattle.object_versions.proofs.PlacesAfter.{IsHere, sorted_in, sorted_set}

-- a frame that the reading doesn't have isn't one that it has
pub no_frame : (r : Reading) (number : ℕ) (frame : Progress) → frame_of r number ≡ None → frame_of r number ≡ Some frame → ⊥
no_frame r number frame none some = let e : None ≡ Some frame = sym none ∙ some in cc

-- what a child gets begins as the parent's object is
begins_with : (s : Script) (r : Reading) (origin : Origin) (t : ℕ) (mode : Mode) (object : Placed) → IsVersionAt s r origin t object.present → Begins s r origin t mode (got object mode)
begins_with s r origin t Out object is = (refl, refl)
begins_with s r origin t In object is = (is, refl)
begins_with s r origin t InOut object is = (is, refl)
begins_with s r origin t Push object is = (is, refl)
begins_with s r origin t Pop object is = (is, refl)
begins_with s r origin t PushPop object is = (is, refl)

module _ (s : Script) (r : Reading) (state : VersionState) (giver : Progress) (child : ℕ) (made rest : List Access) (access : Access)
    (known : frame_of r giver.number ≡ Some giver) (giving : IsGiving s r state giver child made (access ∷ rest))
    (held : Holds state giver.number access.place access.mode) (free : placed_at state child access.child_place ≡ None)
    (alone : MayGet state child held.object.object access.mode) where
  abbrev object : Placed
  object = held.object

  abbrev parent : ℕ
  parent = giver.number

  abbrev follows : ObjectsFollow s r state
  follows = giving.follows

  abbrev after : VersionState
  after = given_now state parent access.place child access.child_place access.mode object held.stands free

  differ : parent ≢ child
  differ same = no_frame r child giver giving.unread (ap (frame_of r) (sym same) ∙ known)

  back : (f p : ℕ) (has : Placed) → placed_at after f p ≡ Some has
      → IsHere child access.child_place (got object access.mode) f p has ⊎ IsBack state parent access.place child access.child_place f p object has (left_with object child access.mode)
  back = which state parent access.place child access.child_place access.mode object held.stands free

  stays : (f p : ℕ) (has : Placed) → placed_at state f p ≡ Some has → StillStands after parent access.place f p has (λ was. left_with was child access.mode)
  stays = left state parent access.place child access.child_place access.mode object held.stands free

  -- the child owes nothing of this object yet
  not_owed : object.present ≢ owed child
  not_owed owes =
      let by = (giving.owed_by parent access.place object held.stands owes).1 in
      let one = giving.each by.0 by.1 by.2 in
      let same : one.above ≡ object = let e : Some one.above ≡ Some object = sym one.stands ∙ ap (placed_at state parent) by.3 ∙ held.stands in cc in
      let number : one.object.object ≡ object.object = one.same ∙ ap (λ (o : Placed). o.object) same in
      writes_not-in one.object.mode (ap (λ m. allows m Out) one.mode ∙ by.4) (alone.alone by.1.child_place one.object one.got number).0

  -- ---- a place is still there

  pub record IsThereStill (f p : ℕ) (has : Placed) : Type 0 where
    pub now : Placed
    pub stands : placed_at after f p ≡ Some now
    pub object : now.object ≡ has.object
    pub mode : now.mode ≡ has.mode

  still : (f p : ℕ) (has : Placed) → placed_at state f p ≡ Some has → IsThereStill f p has
  still f p has is =
      let l = stays f p has is in
      elim l.how [
        | inl same ↦ record { now = l.now_has; stands = l.stands; object = ap (λ (o : Placed). o.object) same; mode = ap (λ (o : Placed). o.mode) same }
        | inr changed ↦ record { now = l.now_has; stands = l.stands; object = ap (λ (o : Placed). o.object) changed.2; mode = ap (λ (o : Placed). o.mode) changed.2 }
      ]

  record IsThereBefore (f p : ℕ) (has : Placed) : Type 0 where
    pub was : Placed
    pub stood : placed_at state f p ≡ Some was
    pub object : was.object ≡ has.object
    pub mode : was.mode ≡ has.mode

  before : (f p : ℕ) (has : Placed) → IsBack state parent access.place child access.child_place f p object has (left_with object child access.mode) → IsThereBefore f p has
  before f p has b = elim b.how [
    | inl here ↦ record {
      was = object;
      stood = (λ i. placed_at state (here.frames i) (here.places i)) ∙ held.stands;
      object = sym (ap (λ o. o.object) here.objects);
      mode = sym (ap (λ o. o.mode) here.objects);
    }
    | inr there ↦ record { was = has; stood = there.was; object = refl; mode = refl }
  ]

  -- ---- the objects follow

  parent_follows : (b : Bool) (frame : Progress) (origin : Origin) → FollowsAt s r frame object origin → FollowsAt s r frame (record object { present = cond b (owed child) object.present }) origin
  parent_follows true frame origin f =
      let same : (number : ℕ) → owed child ≡ owed number → child ≡ number = λ number e. cc in
      record {
        present = λ owing there. absurd (no_frame r child owing giving.unread there);
        given = f.given;
        owed_by = λ number owing owes there. absurd (no_frame r child owing giving.unread (ap (frame_of r) (same number owes) ∙ there));
        held = f.held;
        first = f.first;
        begins = f.begins;
        kind = f.kind;
      }
  parent_follows false frame origin f = f

  follows_after : (number place : ℕ) (frame : Progress) (has : Placed) (origin : Origin) → frame_of r number ≡ Some frame → placed_at after number place ≡ Some has
      → slice_get r.objects has.object ≡ Some origin → FollowsAt s r frame has origin
  follows_after number place frame has origin read is of = elim (back number place has is) [
    | inl here ↦ absurd (no_frame r child frame giving.unread (ap (frame_of r) (sym here.frames) ∙ read))
    | inr b ↦ elim b.how [
      | inl here ↦
          let was = follows.follows parent access.place frame object origin (ap (frame_of r) (sym here.frames) ∙ read) held.stands (ap (λ o. slice_get r.objects o.object) (sym here.objects) ∙ of) in
          subst (λ o. FollowsAt s r frame o origin) (sym here.objects) (parent_follows (allows access.mode Out) frame origin was)
      | inr there ↦ follows.follows number place frame has origin read there.was of
    ]
  ]

  known_after : (number place : ℕ) (has : Placed) → placed_at after number place ≡ Some has → has.object < state.made
  known_after number place has is = elim (back number place has is) [
    | inl here ↦
        let e : has.object ≡ object.object = ap (λ o. o.object) here.objects ∙ got_object object access.mode in
        subst (λ k. k < state.made) (sym e) (follows.known parent access.place object held.stands)
    | inr b ↦
        let was = before number place has b in
        subst (λ k. k < state.made) was.object (follows.known number place was.was was.stood)
  ]

  -- the place that the child got now, and another one of the child with the same object
  new_alone : (number place : ℕ) (new other : Placed) → number ≡ child → new ≡ got object access.mode → IsThereBefore number place other → new.object ≡ other.object → (new.mode ≡ In) × (other.mode ≡ In)
  new_alone number place new other own is was same =
      let there : placed_at state child place ≡ Some was.was = ap (λ k. placed_at state k place) (sym own) ∙ was.stood in
      let e : was.was.object ≡ object.object = was.object ∙ sym same ∙ ap (λ o. o.object) is ∙ got_object object access.mode in
      let both = alone.alone place was.was there e in
      (ap (λ o. o.mode) is ∙ got_mode object access.mode ∙ both.1, sym was.mode ∙ both.0)

  alone_after : (number place other : ℕ) (a b : Placed) → placed_at after number place ≡ Some a → placed_at after number other ≡ Some b
      → place ≢ other → a.object ≡ b.object → (a.mode ≡ In) × (b.mode ≡ In)
  alone_after number place other a b is also apart same = elim (back number place a is) [
    | inl here ↦ elim (back number other b also) [
      | inl too ↦ absurd (apart (here.places ∙ sym too.places))
      | inr y ↦ new_alone number other a b here.frames here.objects (before number other b y) same
    ]
    | inr x ↦ elim (back number other b also) [
      | inl too ↦
          let both = new_alone number place b a too.frames too.objects (before number place a x) (sym same) in
          (both.1, both.0)
      | inr y ↦
          let p = before number place a x in
          let q = before number other b y in
          let both = follows.alone number place other p.was q.was p.stood q.stood apart (p.object ∙ same ∙ sym q.object) in
          (sym p.mode ∙ both.0, sym q.mode ∙ both.1)
    ]
  ]

  -- who owes a version of the object may write it still
  owing_still : (number place frame : ℕ) (was : Placed) (of : ℕ) → placed_at state number place ≡ Some was → (was.present ≡ owed frame) ⊎ (was.given ≡ Some frame) → was.object ≡ of
      → MayWrite after frame of
  owing_still number place frame was of is owes same =
      let own = follows.owing number place frame was is owes in
      let now = still frame own.0 own.1 own.2 in
      (own.0, now.now, now.stands, now.object ∙ own.3 ∙ same, ap (λ m. allows m Out) now.mode ∙ own.4)

  owing_left : (b : Bool) → allows access.mode Out ≡ b → (frame : ℕ) → cond b (owed child) object.present ≡ owed frame → MayWrite after frame object.object
  owing_left true may frame owes =
      let e : child ≡ frame = cc in
      let gets = child_has state parent access.place child access.child_place access.mode object held.stands free in (
        access.child_place,
        got object access.mode,
        ap (λ f. placed_at after f access.child_place) (sym e) ∙ gets,
        got_object object access.mode,
        ap (λ m. allows m Out) (got_mode object access.mode) ∙ may,
      )
  owing_left false may frame owes = owing_still parent access.place frame object object.object held.stands (inl owes) refl

  owing_after : (number place frame : ℕ) (has : Placed) → placed_at after number place ≡ Some has → (has.present ≡ owed frame) ⊎ (has.given ≡ Some frame) → MayWrite after frame has.object
  owing_after number place frame has is owes = elim (back number place has is) [
    | inl here ↦
        let e : object.object ≡ has.object = sym (got_object object access.mode) ∙ sym (ap (λ o. o.object) here.objects) in
        let of_got : ((got object access.mode).present ≡ owed frame) ⊎ ((got object access.mode).given ≡ Some frame) =
        subst (λ (o : Placed). (o.present ≡ owed frame) ⊎ (o.given ≡ Some frame)) here.objects owes in
        owing_still parent access.place frame object has.object held.stands (inl (got_owed object access.mode frame of_got)) e
    | inr b ↦ elim b.how [
      | inl here ↦
          let e : object.object ≡ has.object = sym (ap (λ o. o.object) here.objects) in
          elim owes [
            | inl present ↦ subst (MayWrite after frame) e (owing_left (allows access.mode Out) refl frame (sym (ap (λ o. o.present) here.objects) ∙ present))
            | inr given ↦ owing_still parent access.place frame object has.object held.stands (inr (sym (ap (λ o. o.given) here.objects) ∙ given)) e
          ]
      | inr there ↦ owing_still number place frame has has.object there.was owes refl
    ]
  ]

  follow : ObjectsFollow s r after
  follow = record {
    tasks = follows.tasks;
    root = follows.root;
    objects = follows.objects;
    roots = follows.roots;
    made = follows.made;
    different = follows.different;
    follows = follows_after;
    known = known_after;
    sorted = sorted_in (middle state parent access.place child access.child_place access.mode object held.stands free).places (child, access.child_place) (got object access.mode)
        (sorted_set state.places (parent, access.place) (record object { present = left_with object child access.mode }) follows.sorted);
    alone = alone_after;
    owing = owing_after;
  }

  -- ---- the accesses

  owes_still : (b : Bool) (was : Placed) → was.present ≡ owed child → cond b (owed child) was.present ≡ owed child
  owes_still true was owes = refl
  owes_still false was owes = owes

  above_kept : (place : ℕ) (was : Placed) → placed_at state parent place ≡ Some was → IsAboveKept after parent place child was
  above_kept place was is =
      let l = stays parent place was is in
      elim l.how [
        | inl same ↦ record {
          now = l.now_has;
          stands = l.stands;
          object = ap (λ (o : Placed). o.object) same;
          kind = ap (λ (o : Placed). o.kind) same;
          mode = ap (λ (o : Placed). o.mode) same;
          owes = λ owes. ap (λ (o : Placed). o.present) same ∙ owes;
        }
        | inr changed ↦ record {
          now = l.now_has;
          stands = l.stands;
          object = ap (λ (o : Placed). o.object) changed.2;
          kind = ap (λ (o : Placed). o.kind) changed.2;
          mode = ap (λ (o : Placed). o.mode) changed.2;
          owes = λ owes. ap (λ (o : Placed). o.present) changed.2 ∙ owes_still (allows access.mode Out) was owes;
        }
      ]

  below_kept : (place : ℕ) (was : Placed) → placed_at state child place ≡ Some was → IsBelowKept s r r after child place (point s giver) was
  below_kept place was is =
      let l = stays child place was is in
      elim l.how [
        | inl same ↦ record {
          now = l.now_has;
          stands = l.stands;
          object = ap (λ (o : Placed). o.object) same;
          kind = ap (λ (o : Placed). o.kind) same;
          mode = ap (λ (o : Placed). o.mode) same;
          begins = λ origin mode _ begins. subst (Begins s r origin (point s giver) mode) (sym same) begins;
        }
        | inr changed ↦ absurd (differ (sym changed.0))
      ]

  this_made : IsAccessMade s r after giver child access
  this_made =
      let less = follows.known parent access.place object held.stands in
      let count = follows.objects in
      let of = slice_get-get_or r.objects object.object (Root 0) (omega arith) in
      let was = follows.follows parent access.place giver object _ known held.stands of in
      record {
        above = record object { present = left_with object child access.mode };
        stands = parent_has state parent access.place child access.child_place access.mode object held.stands free;
        held = held.may;
        owes = λ may. ap (λ b. cond b (owed child) object.present) may;
        object = got object access.mode;
        got = child_has state parent access.place child access.child_place access.mode object held.stands free;
        same = got_object object access.mode;
        kind = got_kind object access.mode;
        mode = got_mode object access.mode;
        origin = _;
        known = ap (slice_get r.objects) (got_object object access.mode) ∙ of;
        begins = begins_with s r _ (point s giver) access.mode object was.present;
      }

  all_after : (place : ℕ) (has : Placed) → placed_at after child place ≡ Some has
      → (i : ℕ) × (one : Access) × (slice_get (made ++ access ∷ []) i ≡ Some one) × (one.child_place ≡ place)
  all_after place has is = elim (back child place has is) [
    | inl here ↦ (length made, access, last_more made access, sym here.places)
    | inr b ↦ elim b.how [
      | inl here ↦ absurd (differ (sym here.frames))
      | inr there ↦ let by = giving.all place has there.was in (by.0, by.1, before_more made access by.0 by.1 by.2, by.3)
    ]
  ]

  abbrev IsOwedFor : (number place : ℕ) → Type 0
  IsOwedFor number place = (number ≡ parent) × ((i : ℕ) × (one : Access) × (slice_get (made ++ access ∷ []) i ≡ Some one) × (one.place ≡ place) × (allows one.mode Out ≡ true))

  owed_for_this : (b : Bool) → allows access.mode Out ≡ b → (number place : ℕ) → number ≡ parent → place ≡ access.place → cond b (owed child) object.present ≡ owed child → IsOwedFor number place
  owed_for_this true may number place own at owes = (own, (length made, access, last_more made access, sym at, may))
  owed_for_this false may number place own at owes = absurd (not_owed owes)

  owed_after : (number place : ℕ) (has : Placed) → placed_at after number place ≡ Some has → has.present ≡ owed child → IsOwedFor number place
  owed_after number place has is owes = elim (back number place has is) [
    | inl here ↦ absurd (not_owed (got_present object access.mode child (sym (ap (λ o. o.present) here.objects) ∙ owes)))
    | inr b ↦ elim b.how [
      | inl here ↦ owed_for_this (allows access.mode Out) refl number place here.frames here.places (sym (ap (λ o. o.present) here.objects) ∙ owes)
      | inr there ↦
          let by = giving.owed_by number place has there.was owes in
          (by.0, (by.1.0, by.1.1, before_more made access by.1.0 by.1.1 by.1.2, by.1.3, by.1.4))
    ]
  ]

  ungiven_after : IsUngiven after child
  ungiven_after number place has is given = elim (back number place has is) [
    | inl here ↦ not_owed (got_given object access.mode child (sym (ap (λ o. o.given) here.objects) ∙ given))
    | inr b ↦ elim b.how [
      | inl here ↦ giving.ungiven parent access.place object held.stands (sym (ap (λ o. o.given) here.objects) ∙ given)
      | inr there ↦ giving.ungiven number place has there.was given
    ]
  ]

  made_after : (i : ℕ) (one : Access) → slice_get (made ++ access ∷ []) i ≡ Some one → IsAccessMade s r after giver child one
  made_after i one is = elim (more_cases made access i one is) [
    | inl earlier ↦ access_kept s r r state after giver child (λ object origin is. is) above_kept below_kept one (giving.each i one earlier)
    | inr last ↦ subst (IsAccessMade s r after giver child) (sym last.1) this_made
  ]

  given_after : IsGiving s r after giver child (made ++ access ∷ []) rest
  given_after = record {
    follows = follow;
    unread = giving.unread;
    spawn =
        let kept = next_spawn_kept s r r state after giver child (λ object origin is. is) above_kept (made ++ access ∷ rest) giving.spawn in
        subst (λ accesses. NextSpawnGivesObjects s r after giver accesses) (sym (append_assoc made (access ∷ []) rest)) kept;
    each = made_after;
    all = all_after;
    owed_by = owed_after;
    ungiven = ungiven_after;
  }

  pub one_more_given : IsGiving s r (after_access state giver.number access.place child access.child_place access.mode) giver child (made ++ access ∷ []) rest
  one_more_given =
      let same = after_is state parent access.place child access.child_place access.mode object held.stands free in
      subst (λ now. IsGiving s r now giver child (made ++ access ∷ []) rest) (sym same) given_after
