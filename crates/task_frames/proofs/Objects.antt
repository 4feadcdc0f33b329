-- What the core keeps of its objects: it stays through each call, as the reading goes on.
use Rattle.std.proofs.Common.{◌≡◌, ◌≢◌, ◌⊎◌, inl, inr, ℕ, ◌+◌, ◌<◌, ◌≤◌, true, false, List, [], ◌∷◌, ◌++◌, Option, None, Some, length, refl, sym, ap, subst, ◌∙◌, arith}
use Rattle.std.proofs.lemmas.Bool.{cases_eq, cases_lt}
use Rattle.std.proofs.lemmas.Option.{same_Some, slice_get_within}
use Rattle.std.specs.Option.{option_map}
use Rattle.std.specs.Prelude.{slice_get}
use Rattle.swan_model.specs.declared.origin.Origin.{Origin}
use Rattle.swan_model.specs.declared.origin.Origin.TheVariants.{Root, Step}
use Rattle.swan_model.specs.declared.rights.Mode.TheVariants.{InOut, Out}
use Rattle.swan_model.specs.declared.script.Deed.{Deed}
use Rattle.swan_model.specs.declared.script.Deed.TheVariants as deed
use Rattle.swan_model.specs.declared.script.Script.{Script}
use Rattle.swan_model.specs.declared.value.Value.{Value}
use Rattle.swan_model.specs.Granted.{is_spawn}
use Rattle.swan_model.specs.Lawful.{IsLawful}
use Rattle.swan_model.specs.Readings.{with_object}
use Rattle.swan_model.specs.Rights.{allows, is_queue_mode}
use Rattle.swan_model.specs.SerialState.{Holding}
use Rattle.swan_model.specs.SerialTime.{Progress, Reading, frame_of, point, time, times}
use Rattle.swan_model.specs.Told.{deed_at}
use Rattle.swan_model.specs.Values.{kind_of}
use Rattle.swan_model.specs.Versions.{IsSettled, Placed, VersionState, objects_after_create, objects_after_finish, after_write, placed_at, settle, settle_placed, settled, written_at}
use Rattle.swan_model.specs.VersionsFollow.{ObjectsFollow, is_object_deed}
use Rattle.swan_model.proofs.Elements.{before_more, last_more, more_cases, option_cases}
use Rattle.swan_model.proofs.TaskEntries.{point_is}
use Rattle.object_versions.proofs.CallsFollow.{create_made, finish_told, write_told}
use Rattle.object_versions.proofs.NoMoreWaits.{create_waits, finish_waits, write_waits}
use Rattle.object_versions.proofs.PassFollows.{others_pass}
use Rattle.object_versions.proofs.PlacesAfter.{at_placed}
use Rattle.object_versions.proofs.PlacesStay.{create_keeps, finish_forgets, finish_keeps, write_keeps, write_leaves}
use Rattle.swan_model.specs.Readings.{gone_on_by}
use Rattle.serial_elision.specs.Laws.{IsObjectOf}
use Rattle.task_frames.specs.Cores.{AreObjects, HasObjects, IsPlacedSo, IsRootObject}
use Rattle.object_versions.specs.Following.{WaitsForNone}
use Rattle.task_frames.specs.Frames.{AreLocal}
use Rattle.task_frames.specs.Records.{AreGivenSo, IsOnlyLive, LiveFrame, NumberedFrames, live_at}
use Rattle.task_frames.proofs.AsGiven.{WasGiven, none-given, was-given}
use Rattle.task_frames.proofs.CatchUp.{caught-up}
use Rattle.task_frames.proofs.Queues.{next-does}
use Rattle.task_frames.proofs.GoneOn.{own-gone}

-- ---- places that keep their objects

-- each frame has the same objects at the same places by the same modes, whatever their versions
pub record KeepPlaces (before after : VersionState) : Type 0 where
  pub on : (number place : ℕ) (object : Placed) → placed_at before number place ≡ Some object
      → (now : Placed) × (placed_at after number place ≡ Some now) × (now.object ≡ object.object) × (now.mode ≡ object.mode)
  pub back : (number place : ℕ) (object : Placed) → placed_at after number place ≡ Some object → (was : Placed) × (placed_at before number place ≡ Some was)

pub keep-same : (versions : VersionState) → KeepPlaces versions versions
keep-same versions = record { on = λ number place object at. (object, at, refl, refl); back = λ number place object at. (object, at) }

placed-kept : (before after : VersionState) (number place : ℕ) (holding : Holding) → KeepPlaces before after → IsPlacedSo before number place holding → IsPlacedSo after number place holding
placed-kept before after number place holding keep has =
    let now = keep.on number place has.object has.stands in
    record { object = now.0; stands = now.1; same = now.2 ∙ has.same; mode = now.3 ∙ has.mode }

objects-kept : (before after : VersionState) (number : ℕ) (holdings : List Holding) → KeepPlaces before after → HasObjects before number holdings → HasObjects after number holdings
objects-kept before after number holdings keep has = record {
  each = λ place holding at kind. placed-kept before after number place holding keep (has.each place holding at kind);
  all = λ place object at. has.all place (keep.back number place object at).0 (keep.back number place object at).1;
}

root-kept : (s : Script) (r then_r : Reading) (before after : VersionState) (i : ℕ)
    → ((place : ℕ) (object : Placed) → placed_at before 0 place ≡ Some object → (now : Placed) × (placed_at after 0 place ≡ Some now) × (now.object ≡ object.object)) → ((j : ℕ) (origin : Origin) → slice_get r.objects j ≡ Some origin → slice_get then_r.objects j ≡ Some origin)
    → IsRootObject s r before i → IsRootObject s then_r after i
root-kept s r then_r before after i on grow has =
    let now = on (length s.queues + i) has.object has.stands in
    record { named = grow i (Root i) has.named; object = now.0; stands = now.1; same = now.2 ∙ has.same }

written-keep : (before : VersionState) (n place : ℕ) (value : Value) (object : Placed) → placed_at before n place ≡ Some object → KeepPlaces before (after_write before n place value)
written-keep before n place value object stands = record { on = on; back = back } where
  on : (m at : ℕ) (has : Placed) → placed_at before m at ≡ Some has
      → (now : Placed) × (placed_at (after_write before n place value) m at ≡ Some now) × (now.object ≡ has.object) × (now.mode ≡ has.mode)
  on m at has there = elim (cases_eq m n) [
    | inr other ↦ (has, write_keeps before n place value m at (inl other) ∙ there, refl, refl)
    | inl own ↦ elim (cases_eq at place) [
      | inr aside ↦ (has, write_keeps before n place value m at (inr aside) ∙ there, refl, refl)
      | inl here ↦
          let same : object ≡ has = same_Some object has (sym stands ∙ ap (placed_at before n) (sym here) ∙ ap (λ k. placed_at before k at) (sym own) ∙ there) in (
            record object { present = settled value },
            ap (λ k. placed_at (after_write before n place value) k at) own ∙ ap (placed_at (after_write before n place value) n) here ∙ write_leaves before n place value object stands,
            ap (λ (o : Placed). o.object) same,
            ap (λ (o : Placed). o.mode) same,
          )
    ]
  ]

  back : (m at : ℕ) (has : Placed) → placed_at (after_write before n place value) m at ≡ Some has → (was : Placed) × (placed_at before m at ≡ Some was)
  back m at has there = elim (cases_eq m n) [
    | inr other ↦ (has, sym (write_keeps before n place value m at (inl other)) ∙ there)
    | inl own ↦ elim (cases_eq at place) [
      | inr aside ↦ (has, sym (write_keeps before n place value m at (inr aside)) ∙ there)
      | inl here ↦ (object, ap (λ k. placed_at before k at) own ∙ ap (placed_at before n) here ∙ stands)
    ]
  ]

-- in a record in which each frame was given as before
pub as-before : (s : Script) (r : Reading) (versions : VersionState) (live then_live : NumberedFrames) (objects : ℕ) → AreGivenSo live then_live → AreObjects s r versions live objects
    → AreObjects s r versions then_live objects
as-before s r versions live then_live objects same are =
    let was : (m : ℕ) (frame : LiveFrame) → live_at then_live m ≡ Some frame → WasGiven live m frame = λ m frame at. was-given live then_live m frame (same m) at in
    let none : (m : ℕ) → live_at then_live m ≡ None → live_at live m ≡ None = λ m gone. none-given live then_live m (same m) gone in
    record {
      follow = are.follow;
      known = are.known;
      count = are.count;
      each = λ m frame at. let it = was m frame at in subst (λ (x : LiveFrame). HasObjects versions m x.holdings) it.same (are.each m it.was it.live);
      begun = λ m frame at some. let it = was m frame at in are.begun m it.was it.live (subst (λ (x : LiveFrame). 0 < x.done) (sym it.same) some);
      gone = λ m place object gone some at. are.gone m place object (none m gone) some at;
      roots = are.roots;
      over = λ gone. are.over (none 0 gone);
    }

module _ (s : Script) (lawful : IsLawful s) (r : Reading) (versions : VersionState) (live : NumberedFrames) (objects : ℕ) (are : AreObjects s r versions live objects)
    (n : ℕ) (path : List ℕ) (k : ℕ) (known : frame_of r n ≡ Some (record { number = n; path = path; done = k }))
    (f : LiveFrame) (there : live_at live n ≡ Some f) (then_live : NumberedFrames) where
  -- who is not in the record then was not there before
  gone-before : (g : LiveFrame) → IsOnlyLive live then_live n (Some g) → (m : ℕ) → live_at then_live m ≡ None → live_at live m ≡ None
  gone-before g only m none = elim (cases_eq m n) [
    | inl own ↦ let both : None ≡ Some g = sym none ∙ ap (live_at then_live) own ∙ only.changed in absurd (cc)
    | inr other ↦ sym (only.others m other) ∙ none
  ]

  not-root : (g : LiveFrame) → IsOnlyLive live then_live n (Some g) → live_at then_live 0 ≡ None → 0 ≢ n
  not-root g only none same = let both : None ≡ Some g = sym none ∙ ap (live_at then_live) same ∙ only.changed in absurd (cc)

  -- a call that leaves every place with its object
  keeps-by : (g : LiveFrame) → IsOnlyLive live then_live n (Some g) → (then_r : Reading) (after : VersionState) → ObjectsFollow s then_r after
      → then_r.objects ≡ r.objects → after.made ≡ versions.made → KeepPlaces versions after → ((m : ℕ) → WaitsForNone versions m → WaitsForNone after m)
      → (0 < g.done → WaitsForNone versions n) → (0 ≢ n → IsSettled versions 0 → IsSettled after 0) → HasObjects after n g.holdings → AreObjects s then_r after then_live objects
  keeps-by g only then_r after follow names made keep waits begun settle held = record {
    follow = follow;
    known = λ i origin at. are.known i origin (ap (λ os. slice_get os i) (sym names) ∙ at);
    count = made ∙ are.count;
    each = λ m frame at. elim (cases_eq m n) [
      | inl own ↦
          let it : g ≡ frame = same_Some g frame (sym only.changed ∙ ap (live_at then_live) (sym own) ∙ at) in
          subst (λ (x : LiveFrame). HasObjects after m x.holdings) it (subst (λ j. HasObjects after j g.holdings) (sym own) held)
      | inr other ↦ objects-kept versions after m frame.holdings keep (are.each m frame (sym (only.others m other) ∙ at))
    ];
    begun = λ m frame at some. elim (cases_eq m n) [
      | inl own ↦
          let it : g ≡ frame = same_Some g frame (sym only.changed ∙ ap (live_at then_live) (sym own) ∙ at) in
          waits m (subst (WaitsForNone versions) (sym own) (begun (subst (λ (x : LiveFrame). 0 < x.done) (sym it) some)))
      | inr other ↦ waits m (are.begun m frame (sym (only.others m other) ∙ at) some)
    ];
    gone = λ m place object none some at. are.gone m place (keep.back m place object at).0 (gone-before g only m none) some (keep.back m place object at).1;
    roots = λ i less. root-kept s r then_r versions after i (λ place object at. let now = keep.on 0 place object at in (now.0, now.1, now.2)) (λ j origin at. ap (λ os. slice_get os j) names ∙ at) (are.roots i less);
    over = λ none. settle (not-root g only none) (are.over (gone-before g only 0 none));
  }

  -- and where it holds the same
  keeps : (g : LiveFrame) → g.holdings ≡ f.holdings → IsOnlyLive live then_live n (Some g) → (then_r : Reading) (after : VersionState) → ObjectsFollow s then_r after
      → then_r.objects ≡ r.objects → after.made ≡ versions.made → KeepPlaces versions after → ((m : ℕ) → WaitsForNone versions m → WaitsForNone after m)
      → (0 < g.done → WaitsForNone versions n) → (0 ≢ n → IsSettled versions 0 → IsSettled after 0) → AreObjects s then_r after then_live objects
  keeps g same only then_r after follow names made keep waits begun settle =
      keeps-by g only then_r after follow names made keep waits begun settle (subst (HasObjects after n) (sym same) (objects-kept versions after n f.holdings keep (are.each n f there)))

  -- a frame's ends come back, and with them all that it did since it was given
  pub back : (many : ℕ) → f.done ≡ k → IsOnlyLive live then_live n (Some (record f { done = k + many })) → (k ≡ 0 → many ≡ 0) → AreLocal s path k (k + many) → k + many ≤ length (times s path)
      → AreObjects s (gone_on_by r n many) versions then_live objects
  back many done only first local left =
      keeps (record f { done = k + many }) refl only (gone_on_by r n many) versions
      (caught-up s lawful r versions n (record { number = n; path = path; done = k }) known many are.follow local left) refl refl (keep-same versions) (λ m none. none)
      (λ some. are.begun n f there (begun some)) (λ other all. all)
    where
      begun : 0 < k + many → 0 < f.done
      begun some = elim (cases_lt 0 k) [
        | inl less ↦ omega (arith, less, done)
        | inr least ↦ let none : k ≡ 0 = omega arith in let all = first none in absurd (omega (arith, some, none, all))
      ]

  -- an entry that neither makes nor writes an object
  pub others : (does : Deed) → deed_at s (time s path k) ≡ does → k < length (times s path) → is_object_deed does ≡ false → is_spawn does ≡ false
      → WaitsForNone versions n → IsOnlyLive live then_live n (Some (record f { done = k + 1 })) → AreObjects s (gone_on_by r n 1) versions then_live objects
  others does is left quiet still none only =
      keeps (record f { done = k + 1 }) refl only (gone_on_by r n 1) versions
      (others_pass s r versions (record { number = n; path = path; done = k }) does lawful are.follow known (next-does s n path k does left is) quiet still r.queues)
      refl refl (keep-same versions) (λ m waits. waits) (λ some. none) (λ other all. all)

  -- a write
  pub written : (place : ℕ) (value : Value) (object : Placed) (origin : Origin) (after : VersionState) → deed_at s (time s path k) ≡ deed.Write origin value → k < length (times s path)
      → placed_at versions n place ≡ Some object → allows object.mode Out ≡ true → slice_get r.objects object.object ≡ Some origin
      → after ≡ after_write versions n place value → WaitsForNone versions n → IsOnlyLive live then_live n (Some (record f { done = k + 1 }))
      → AreObjects s (gone_on_by r n 1) after then_live objects
  written place value object origin after is left stands may made same none only =
      keeps (record f { done = k + 1 }) refl only (gone_on_by r n 1) after
      (write_told versions after n place value same s r (record { number = n; path = path; done = k }) object origin lawful are.follow known stands may made (next-does s n path k (deed.Write origin value) left is))
      refl (ap (λ (v : VersionState). v.made) same ∙ made-same) (subst (KeepPlaces versions) (sym same) (written-keep versions n place value object stands))
      (λ m waits. subst (λ v. WaitsForNone v m) (sym same) (write_waits versions n place value m waits)) (λ some. none)
      (λ other all. subst (λ v. IsSettled v 0) (sym same) (record { values = λ at has here. all.values at has (sym (write_keeps versions n place value 0 at (inl other)) ∙ here) }))
    where
      made-same : (after_write versions n place value).made ≡ versions.made
      made-same = by (placed_at versions n place) where
        by : (found : Option Placed) → (written_at versions n place value found).made ≡ versions.made
        by None = refl
        by (Some o) = refl

  -- a queue that is made
  pub queue-made : (h : Holding) (queues : List Origin) → deed_at s (time s path k) ≡ deed.MakeQueue → k < length (times s path) → is_queue_mode h.mode ≡ true
      → WaitsForNone versions n → IsOnlyLive live then_live n (Some (record f { done = k + 1; holdings = f.holdings ++ h ∷ [] }))
      → AreObjects s (record (gone_on_by r n 1) { queues = queues }) versions then_live objects
  queue-made h queues is left kind none only =
      keeps-by (record f { done = k + 1; holdings = f.holdings ++ h ∷ [] }) only (record (gone_on_by r n 1) { queues = queues }) versions
      (others_pass s r versions (record { number = n; path = path; done = k }) deed.MakeQueue lawful are.follow known (next-does s n path k deed.MakeQueue left is) refl refl queues)
      refl refl (keep-same versions) (λ m waits. waits) (λ some. none) (λ other all. all) held
    where
      old : HasObjects versions n f.holdings
      old = are.each n f there

      held : HasObjects versions n (f.holdings ++ h ∷ [])
      held = record {
        each = λ place holding at kind_is. elim (more_cases f.holdings h place holding at) [
          | inl before ↦ old.each place holding before kind_is
          | inr last ↦ let both : true ≡ false = sym kind ∙ ap (λ (x : Holding). is_queue_mode x.mode) (sym last.1) ∙ kind_is in absurd (cc)
        ];
        all = λ place object at. let has = old.all place object at in (has.0, before_more f.holdings h place has.0 has.1, has.2);
      }

  -- ---- an object that is made

  -- the next place of a frame has none
  pub free-place : placed_at versions n (length f.holdings) ≡ None
  free-place = elim (option_cases (placed_at versions n (length f.holdings))) [
    | inl none ↦ none
    | inr has ↦
        let held = (are.each n f there).all (length f.holdings) has.0 has.1 in
        let within = slice_get_within f.holdings (length f.holdings) held.0 held.1 in
        absurd (omega (arith, within))
  ]

  module _ (value : Value) (after : VersionState) (is : deed_at s (time s path k) ≡ deed.MakeObject value) (left : k < length (times s path))
      (same : after ≡ objects_after_create versions n (length f.holdings) value) (none : WaitsForNone versions n)
      (only : IsOnlyLive live then_live n (Some (record f { done = k + 1; holdings = f.holdings ++ record { mode = InOut; number = objects } ∷ [] }))) where
    abbrev made : VersionState
    made = objects_after_create versions n (length f.holdings) value

    abbrev new : Placed
    new = record { object = versions.made; kind = kind_of value; mode = InOut; given = None; present = settled value }

    abbrev g : LiveFrame
    g = record f { done = k + 1; holdings = f.holdings ++ record { mode = InOut; number = objects } ∷ [] }

    abbrev then_r : Reading
    then_r = with_object (gone_on_by r n 1) (Step (time s path k))

    still-there : (m at : ℕ) (object : Placed) → placed_at versions m at ≡ Some object → placed_at made m at ≡ Some object
    still-there m at object here = elim (cases_eq m n) [
      | inr other ↦ create_keeps versions n (length f.holdings) value m at (inl other) ∙ here
      | inl own ↦ elim (cases_eq at (length f.holdings)) [
        | inr aside ↦ create_keeps versions n (length f.holdings) value m at (inr aside) ∙ here
        | inl last ↦
            let both : None ≡ Some object = sym free-place ∙ ap (placed_at versions n) (sym last) ∙ ap (λ j. placed_at versions j at) (sym own) ∙ here in
            absurd (cc)
      ]
    ]

    own-objects : HasObjects made n g.holdings
    own-objects = record { each = each; all = all } where
      old : HasObjects versions n f.holdings
      old = are.each n f there

      each : (place : ℕ) (holding : Holding) → slice_get g.holdings place ≡ Some holding → is_queue_mode holding.mode ≡ false → IsPlacedSo made n place holding
      each place holding at kind = elim (more_cases f.holdings (record { mode = InOut; number = objects }) place holding at) [
        | inl before ↦
            let has = old.each place holding before kind in
            record { object = has.object; stands = still-there n place has.object has.stands; same = has.same; mode = has.mode }
        | inr last ↦ record {
          object = new;
          stands = ap (placed_at made n) last.0 ∙ at_placed versions n (length f.holdings) new;
          same = are.count ∙ ap (λ (h : Holding). h.number) (sym last.1);
          mode = ap (λ (h : Holding). h.mode) (sym last.1);
        }
      ]

      all : (place : ℕ) (object : Placed) → placed_at made n place ≡ Some object → (holding : Holding) × (slice_get g.holdings place ≡ Some holding) × (is_queue_mode holding.mode ≡ false)
      all place object at = elim (cases_eq place (length f.holdings)) [
        | inl last ↦ (record { mode = InOut; number = objects }, ap (slice_get g.holdings) last ∙ last_more f.holdings (record { mode = InOut; number = objects }), refl)
        | inr other ↦
            let has = old.all place object (sym (create_keeps versions n (length f.holdings) value n place (inr other)) ∙ at) in
            (has.0, before_more f.holdings (record { mode = InOut; number = objects }) place has.0 has.1, has.2)
      ]

    other-objects : (m : ℕ) (holdings : List Holding) → m ≢ n → HasObjects versions m holdings → HasObjects made m holdings
    other-objects m holdings other has = record {
      each = λ place holding at kind.
          let h = has.each place holding at kind in
          record { object = h.object; stands = still-there m place h.object h.stands; same = h.same; mode = h.mode };
      all = λ place object at. has.all place object (sym (create_keeps versions n (length f.holdings) value m place (inl other)) ∙ at);
    }

    pub created : AreObjects s then_r after then_live (objects + 1)
    created = record {
      follow =
          let now : point s (record { number = n; path = path; done = k }) ≡ time s path k = point_is s (record { number = n; path = path; done = k }) left in
          subst (λ t. ObjectsFollow s (with_object (gone_on_by r n 1) (Step t)) after) now
          (create_made versions after n (length f.holdings) value free-place same s r (record { number = n; path = path; done = k }) lawful are.follow known (next-does s n path k (deed.MakeObject value) left is));
      known = λ i origin at. elim (more_cases r.objects (Step (time s path k)) i origin at) [
        | inl before ↦ are.known i origin before
        | inr last ↦ subst (IsObjectOf s) (sym last.1) (value, is)
      ];
      count = ap (λ (v : VersionState). v.made) same ∙ ap (λ m. m + 1) are.count;
      each = λ m frame at. subst (λ v. HasObjects v m frame.holdings) (sym same) (elim (cases_eq m n) [
        | inl own ↦
            let it : g ≡ frame = same_Some g frame (sym only.changed ∙ ap (live_at then_live) (sym own) ∙ at) in
            subst (λ (x : LiveFrame). HasObjects made m x.holdings) it (subst (λ j. HasObjects made j g.holdings) (sym own) own-objects)
        | inr other ↦ other-objects m frame.holdings other (are.each m frame (sym (only.others m other) ∙ at))
      ]);
      begun = λ m frame at some. subst (λ v. WaitsForNone v m) (sym same) (create_waits versions n (length f.holdings) value m (elim (cases_eq m n) [
        | inl own ↦ subst (WaitsForNone versions) (sym own) none
        | inr other ↦ are.begun m frame (sym (only.others m other) ∙ at) some
      ]));
      gone = λ m place object absent some at. elim (cases_eq m n) [
        | inl own ↦ let both : None ≡ Some g = sym absent ∙ ap (live_at then_live) own ∙ only.changed in absurd (cc)
        | inr other ↦
            are.gone m place object (gone-before g only m absent) some
            (sym (create_keeps versions n (length f.holdings) value m place (inl other)) ∙ ap (λ v. placed_at v m place) (sym same) ∙ at)
      ];
      roots = λ i less. root-kept s r then_r versions after i (λ place object at. (object, ap (λ v. placed_at v 0 place) same ∙ still-there 0 place object at, refl))
          (λ j origin at. before_more r.objects (Step (time s path k)) j origin at) (are.roots i less);
      over = λ absent. subst (λ v. IsSettled v 0) (sym same) (record {
        values = λ at has here.
            (are.over (gone-before g only 0 absent)).values at has (sym (create_keeps versions n (length f.holdings) value 0 at (inl (not-root g only absent))) ∙ here);
      });
    }

  -- ---- a frame that ends

  module _ (does : Deed) (after : VersionState) (is : deed_at s (time s path k) ≡ does) (quiet : is_object_deed does ≡ false) (still : is_spawn does ≡ false) (last : k + 1 ≡ length (times s path))
      (all : IsSettled versions n) (same : after ≡ objects_after_finish versions n) (only : IsOnlyLive live then_live n None) where
    abbrev over : VersionState
    over = objects_after_finish versions n

    goes : (m at : ℕ) (object : Placed) → (m ≢ n) ⊎ (n ≡ 0) → placed_at versions m at ≡ Some object → placed_at over m at ≡ Some (settle_placed versions n object)
    goes m at object stays here = finish_keeps versions n m at stays ∙ ap (option_map (settle_placed versions n)) here

    came : (m at : ℕ) (object : Placed) → (m ≢ n) ⊎ (n ≡ 0) → placed_at over m at ≡ Some object → (was : Placed) × (placed_at versions m at ≡ Some was) × (object ≡ settle_placed versions n was)
    came m at object stays here = by (placed_at versions m at) refl (sym (finish_keeps versions n m at stays) ∙ here) where
      by : (found : Option Placed) → placed_at versions m at ≡ found → option_map (settle_placed versions n) found ≡ Some object → (was : Placed) × (placed_at versions m at ≡ Some was) × (object ≡ settle_placed versions n was)
      by None none now = absurd (cc)
      by (Some was) stood now = (was, stood, sym (same_Some _ object now))

    others-kept : (m : ℕ) (holdings : List Holding) → m ≢ n → HasObjects versions m holdings → HasObjects over m holdings
    others-kept m holdings other has = record {
      each = λ place holding at kind.
          let h = has.each place holding at kind in
          record { object = settle_placed versions n h.object; stands = goes m place h.object (inl other) h.stands; same = h.same; mode = h.mode };
      all = λ place object at. let was = came m place object (inl other) at in has.all place was.0 was.1;
    }

    settled-still : IsSettled versions 0 → (0 ≢ n) ⊎ (n ≡ 0) → IsSettled over 0
    settled-still values stays = record {
      values = λ at object here.
          let was = came 0 at object stays here in
          let value = values.values at was.0 was.1 in
          (value.0, ap (λ (o : Placed). o.present) was.2 ∙ ap (settle versions n was.0.object) value.1);
    }

    pub finished : AreObjects s (gone_on_by r n 1) after then_live objects
    finished = record {
      follow =
          let p : Progress = record { number = n; path = path; done = k } in
          let passed : ObjectsFollow s (gone_on_by r n 1) versions = others_pass s r versions p does lawful are.follow known (next-does s n path k does (omega (arith, last)) is) quiet still r.queues in
          finish_told versions after n all same s (gone_on_by r n 1) (record p { done = k + 1 }) lawful passed (own-gone r n p known) last;
      known = are.known;
      count = ap (λ (v : VersionState). v.made) same ∙ are.count;
      each = λ m frame at. elim (cases_eq m n) [
        | inl own ↦ let both : None ≡ Some frame = sym only.changed ∙ ap (live_at then_live) (sym own) ∙ at in absurd (cc)
        | inr other ↦ subst (λ v. HasObjects v m frame.holdings) (sym same) (others-kept m frame.holdings other (are.each m frame (sym (only.others m other) ∙ at)))
      ];
      begun = λ m frame at some. elim (cases_eq m n) [
        | inl own ↦ let both : None ≡ Some frame = sym only.changed ∙ ap (live_at then_live) (sym own) ∙ at in absurd (cc)
        | inr other ↦ subst (λ v. WaitsForNone v m) (sym same) (finish_waits versions n m (are.begun m frame (sym (only.others m other) ∙ at) some))
      ];
      gone = λ m place object none some at.
          let now : placed_at over m place ≡ Some object = ap (λ v. placed_at v m place) (sym same) ∙ at in
          elim (cases_eq m n) [
            | inl own ↦
                let forgot = finish_forgets versions n place (λ root. some (own ∙ root)) in
                let both : None ≡ Some object = sym forgot ∙ ap (λ j. placed_at over j place) (sym own) ∙ now in
                absurd (cc)
            | inr other ↦
                let was = came m place object (inl other) now in
                are.gone m place was.0 (sym (only.others m other) ∙ none) some was.1
          ];
      roots = λ i less. root-kept s r (gone_on_by r n 1) versions after i
          (λ place object at. (settle_placed versions n object, ap (λ v. placed_at v 0 place) same ∙ goes 0 place object root-stays at, refl)) (λ j origin at. at) (are.roots i less);
      over = λ none. subst (λ v. IsSettled v 0) (sym same) (elim (cases_eq 0 n) [
        | inl own ↦ settled-still (subst (IsSettled versions) (sym own) all) (inr (sym own))
        | inr other ↦ settled-still (are.over (sym (only.others 0 other) ∙ none)) (inl other)
      ]);
    } where
      root-stays : (0 ≢ n) ⊎ (n ≡ 0)
      root-stays = elim (cases_eq 0 n) [ inl own ↦ inr (sym own) | inr other ↦ inl other ]
