-- A write: the frame's version has the value then, and no other place of the frame has the object.
use Rattle.std.proofs.Common.{◌≡◌, inl, inr, ℕ, ◌<◌, true, Some, refl, sym, ap, subst, ◌∙◌, arith}
use Rattle.std.proofs.lemmas.Bool.{false_from_ne_true}
use Rattle.std.specs.Prelude.{slice_get}
use Rattle.swan_model.specs.declared.origin.Origin.{Origin}
use Rattle.swan_model.specs.declared.rights.Mode.TheVariants.{Out}
use Rattle.swan_model.specs.declared.script.Deed.TheVariants as deed
use Rattle.swan_model.specs.declared.script.Script.{Script}
use Rattle.swan_model.specs.declared.value.Value.{Value}
use Rattle.swan_model.specs.Lawful.{IsLawful}
use Rattle.swan_model.specs.Readings.{gone_on, next_deed, one_more}
use Rattle.swan_model.specs.Rights.{allows}
use Rattle.swan_model.specs.SerialTime.{Progress, Reading, frame_of, point}
use Rattle.swan_model.specs.Told.{cell, is_same}
use Rattle.swan_model.specs.Versions.{settled, Placed, VersionState, placed_at, with_present, written_at, after_write}
use Rattle.swan_model.specs.VersionsFollow.{ObjectsFollow, FollowsAt}
use Rattle.swan_model.proofs.MovedFrames.{gone_back, gone_there, path_kept, done_stays}
use Rattle.object_versions.specs.Following.{MayWrite}
use Rattle.object_versions.proofs.Differ.{settled_not-owed, writes_not-in}
use Rattle.object_versions.proofs.PlacesAfter.{IsThere, after_present, back_present, sorted_set, still_present}
use Rattle.object_versions.proofs.Moves.{Owes, acting, at_gone, given_stays, held_on, one_object, same_task}
use Rattle.swan_model.proofs.Origins.{is_same-equal}
use Rattle.swan_model.proofs.ScriptCells.{cell_written}
use Rattle.swan_model.proofs.ScriptSteps.{does_now}
use Rattle.object_versions.proofs.Tasks.{tasks_gone}

module _ (s : Script) (r : Reading) (state : VersionState) (lawful : IsLawful s) (follows : ObjectsFollow s r state) (n place : ℕ) (writer : Progress) (object : Placed)
    (origin : Origin) (value : Value) (known : frame_of r n ≡ Some writer) (stands : placed_at state n place ≡ Some object) (may : allows object.mode Out ≡ true)
    (is : slice_get r.objects object.object ≡ Some origin) (next : next_deed s writer ≡ Some (deed.Write origin value)) where
  -- at the place of the write
  written_here : (now : Progress) → frame_of (gone_on r n) n ≡ Some now → FollowsAt s (gone_on r n) now (record object { present = settled value }) origin
  written_here now moved =
      let m = gone_back r n n now moved in
      let was = follows.follows n place m.was object origin m.stood stands is in
      let act = acting s r lawful n writer (deed.Write origin value) known next refl now m in
      let self : m.was ≡ writer = let e : Some m.was ≡ Some writer = sym m.stood ∙ known in cc in
      let at = act.point in
      let from : point s m.was ≡ point s writer = ap (point s) self in
      let path : now.path ≡ m.was.path = act.path ∙ sym (ap (λ f. f.path) self) in
      record {
        present = ap (cell s origin) act.point ∙ cell_written s origin (point s writer) value was.first (does_now s writer (deed.Write origin value) next) was.begins;
        given = given_stays s r (gone_on r n) m.was now object origin path (λ k owing _ there. same_task r n k owing (gone_back r n k owing there)) was;
        owed_by = λ number owing owes. absurd (settled_not-owed value number owes);
        held = held_on s m.was now object.mode origin path (omega arith) was.held;
        first = was.first;
        begins = was.begins;
        kind = was.kind;
      }

  -- at another place
  written_there : (number other : ℕ) (now : Progress) (has : Placed) (of : Origin) → frame_of (gone_on r n) number ≡ Some now → IsThere state n place number other has
      → slice_get r.objects has.object ≡ Some of → FollowsAt s (gone_on r n) now has of
  written_there number other now has of moved there made =
      let m = gone_back r n number now moved in
      at_gone s r (gone_on r n) lawful n writer (deed.Write origin value) known next refl (gone_back r n) number now has of m
      (λ own. false_from_ne_true (is_same origin of) (λ same.
      let e : origin ≡ of = is_same-equal origin of same in
      let one = one_object s r state follows object.object has.object of (is ∙ ap Some e) made in
      let at : placed_at state n other ≡ Some has = ap (λ k. placed_at state k other) (sym own) ∙ there.was in
      writes_not-in object.mode may (follows.alone n place other object has stands at (λ p. there.apart own (sym p)) one).0))
      (follows.follows number other m.was has of m.stood there.was made)

  follows_at : (number other : ℕ) (now : Progress) (has : Placed) (of : Origin) → frame_of (gone_on r n) number ≡ Some now
      → placed_at (with_present state n place object (settled value)) number other ≡ Some has → slice_get r.objects has.object ≡ Some of → FollowsAt s (gone_on r n) now has of
  follows_at number other now has of moved at made = elim (after_present state n place object (settled value) number other has stands at) [
    | inl here ↦
        let same : origin ≡ of = let e : Some origin ≡ Some of = sym is ∙ ap (λ o. slice_get r.objects o.object) (sym here.objects) ∙ made in cc in
        let P : Placed → Origin → Type 0 = λ o. λ f. FollowsAt s (gone_on r n) now o f in
        subst (λ o. P o of) (sym here.objects) (subst (P (record object { present = settled value })) same
        (written_here now (ap (frame_of (gone_on r n)) (sym here.frames) ∙ moved)))
    | inr there ↦ written_there number other now has of moved there made
  ]

  owing_still : (frame of : ℕ) → MayWrite state frame of → MayWrite (with_present state n place object (settled value)) frame of
  owing_still frame of own =
      let still = still_present state n place object (settled value) frame own.0 own.1 stands own.2 in
      (own.0, still.now, still.stands, still.object ∙ own.3, ap (λ m. allows m Out) still.mode ∙ own.4)

  owing_at : (number other frame : ℕ) (has : Placed) → placed_at (with_present state n place object (settled value)) number other ≡ Some has → Owes has frame
      → MayWrite (with_present state n place object (settled value)) frame has.object
  owing_at number other frame has at owes = elim (after_present state n place object (settled value) number other has stands at) [
    | inl here ↦ elim owes [
      | inl present ↦ absurd (settled_not-owed value frame (sym (ap (λ o. o.present) here.objects) ∙ present))
      | inr given ↦
          owing_still frame has.object
          (subst (MayWrite state frame) (sym (ap (λ (o : Placed). o.object) here.objects))
          (follows.owing n place frame object stands (inr (sym (ap (λ (o : Placed). o.given) here.objects) ∙ given))))
    ]
    | inr there ↦ owing_still frame has.object (follows.owing number other frame has there.was owes)
  ]

  written : ObjectsFollow s (gone_on r n) (with_present state n place object (settled value))
  written = record {
    tasks = tasks_gone s r n follows.tasks;
    root = (one_more n follows.root.0, gone_there r n 0 follows.root.0 follows.root.1, path_kept n follows.root.0 ∙ follows.root.2);
    objects = follows.objects;
    roots = follows.roots;
    made = λ object k is. done_stays s r n k (follows.made object k is);
    different = follows.different;
    follows = λ number other now has of moved at made. follows_at number other now has of moved at made;
    known = λ number other has at.
        let still = back_present state n place object (settled value) number other has stands at in
        subst (λ k. k < state.made) still.object (follows.known number other still.now still.stands);
    sorted = sorted_set state.places (n, place) (record object { present = settled value }) follows.sorted;
    alone = λ number at other a b is also apart same.
        let x = back_present state n place object (settled value) number at a stands is in
        let y = back_present state n place object (settled value) number other b stands also in
        let both = follows.alone number at other x.now y.now x.stands y.stands apart (x.object ∙ same ∙ sym y.object) in
        (sym x.mode ∙ both.0, sym y.mode ∙ both.1);
    owing = owing_at;
  }

  pub write_follows : ObjectsFollow s (gone_on r n) (after_write state n place value)
  write_follows =
      let same : after_write state n place value ≡ with_present state n place object (settled value) = ap (written_at state n place value) stands in
      subst (λ now. ObjectsFollow s (gone_on r n) now) (sym same) written
