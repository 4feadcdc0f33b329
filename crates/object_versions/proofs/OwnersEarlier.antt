-- Whoever owes a version that a frame has, or was given, comes before that frame in serial order.
use Rattle.std.proofs.Common.{◌≡◌, ◌≢◌, ◌⊎◌, inl, inr, ℕ, ◌-◌, ◌<◌, ◌≤◌, true, List, [], Some, length, ap, subst, ◌∙◌, arith}
use Rattle.std.proofs.lemmas.Bool.{cases_order, lt-ltb}
use Rattle.std.proofs.lemmas.Option.{slice_get-get_or, slice_get_within}
use Rattle.swan_model.specs.declared.script.Script.{Script}
use Rattle.swan_model.specs.Lawful.{IsLawful}
use Rattle.swan_model.specs.PathOrder.{comes_before}
use Rattle.swan_model.specs.Readings.{end_time}
use Rattle.swan_model.specs.SerialTime.{Progress, Reading, frame_of, is_earlier, point, time, times}
use Rattle.swan_model.specs.Versions.{Placed, VersionState, owed, placed_at}
use Rattle.swan_model.specs.VersionsFollow.{FollowsAt, IsVersionAt, ObjectsFollow}
use Rattle.swan_model.proofs.Lists.{some_within}
use Rattle.swan_model.proofs.Points.{earlier_before}
use Rattle.swan_model.proofs.TaskEntries.{end_at, own_before, point_is}
use Rattle.swan_model.proofs.Times.{times_rise}
use Rattle.swan_model.proofs.MovedFrames.{frame_in}

module _ (s : Script) (lawful : IsLawful s) where
  -- a task's entries don't come before its first one
  not_before : (path : List ℕ) (k : ℕ) → k < length (times s path) → time s path 0 ≤ time s path k
  not_before path k left = elim (cases_order 0 k) [
    | inl same ↦ let e : time s path 0 ≡ time s path k = ap (time s path) same in omega (arith, e)
    | inr differ ↦ elim differ [
      | inl less ↦ let rise = times_rise s path 0 k less left in omega (arith, rise)
      | inr more ↦ absurd (omega arith)
    ]
  ]

  -- nor after its last one
  not_after : (path : List ℕ) (k : ℕ) → k < length (times s path) → time s path k < end_time s path
  not_after path k left =
      let last = length (times s path) - 1 in
      elim (cases_order k last) [
        | inl same ↦ let e : time s path k ≡ time s path last = ap (time s path) same in omega (arith, e)
        | inr differ ↦ elim differ [
          | inl less ↦ let rise = times_rise s path k last less (omega arith) in omega (arith, rise)
          | inr more ↦ absurd (omega arith)
        ]
      ]

  -- no entry comes once the root has ended
  root_last : (path : List ℕ) (k : ℕ) → k < length (times s path) → end_time s [] ≤ time s path k → ⊥
  root_last path k left over =
      let last = length s.entries - 1 in
      let some = lawful.some in
      let end = lawful.last last (omega arith) in
      let at = end_at s [] last (record { entry = end.entry; stands = end.stands; own = end.own }) (λ v own. let less = slice_get_within s.entries v own.entry own.stands in omega arith) in
      let own = own_before s path k (time s path k) (slice_get-get_or (times s path) k 0 left) in
      let within = slice_get_within s.entries (time s path k) own.0.entry own.0.stands in
      omega (arith, at, within, over)

  module _ (r : Reading) (state : VersionState) (follows : ObjectsFollow s r state) (n : ℕ) (frame : Progress) (known : frame_of r n ≡ Some frame) (left : frame.done < length (times s frame.path)) where
    -- the frame owes a version that another one has, or was given
    abbrev pub IsOwner : ℕ → Type 0
    IsOwner owing = (place : ℕ) × (object : Placed) × (placed_at state n place ≡ Some object) × ((object.present ≡ owed owing) ⊎ (object.given ≡ Some owing))

    -- it ends by the frame's point
    ends_by : (owing : ℕ) (owner : Progress) → frame_of r owing ≡ Some owner → IsOwner owing → end_time s owner.path ≤ time s frame.path frame.done
    ends_by owing owner there owns =
        let object = owns.1 in
        let less = follows.known n owns.0 object owns.2 in
        let count = follows.objects in
        let origin = some_within r.objects object.object (omega (arith, less, count)) in
        let at : FollowsAt s r frame object origin.0 = follows.follows n owns.0 frame object origin.0 known owns.2 origin.1 in
        let here = point_is s frame left in
        elim owns.3 [
          | inl present ↦
              let is : IsVersionAt s r origin.0 (point s frame) (owed owing) = subst (IsVersionAt s r origin.0 (point s frame)) present at.present in
              let over = (is owner there).0 in
              omega (arith, over, here)
          | inr given ↦
              let over = (at.given owing given owner there).0 in
              omega (arith, over, not_before frame.path frame.done left)
        ]

    -- so it is no root
    pub owner_other : (owing : ℕ) → IsOwner owing → owing ≢ 0
    owner_other owing owns zero =
        let root = follows.root in
        let over = ends_by owing root.0 (ap (frame_of r) zero ∙ root.1) owns in
        root_last frame.path frame.done left (subst (λ p. end_time s p ≤ time s frame.path frame.done) root.2 over)

    -- and comes before the frame, as long as it has an entry left
    pub owner_earlier : (owing : ℕ) (owner : Progress) → frame_of r owing ≡ Some owner → owner.done < length (times s owner.path) → IsOwner owing
        → (is_earlier s owner frame ≡ true) × (comes_before owner.path frame.path ≡ true)
    owner_earlier owing owner there more owns =
        let over = ends_by owing owner there owns in
        let early = not_after owner.path owner.done more in
        let one = point_is s owner more in
        let two = point_is s frame left in
        let before : is_earlier s owner frame ≡ true = lt-ltb (point s owner) (point s frame) (omega (arith, over, early, one, two)) in
        let a = frame_in r.frames owing owner there in
        let b = frame_in r.frames n frame known in
        (before, earlier_before s r lawful.nested follows.tasks a.index b.index owner frame (record { stands = a.stands; left = more }) (record { stands = b.stands; left = left }) before)
