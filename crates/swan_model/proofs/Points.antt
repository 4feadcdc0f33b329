-- In a nested script the frames that have an entry left stand in serial order: the one that comes before has
-- the earlier point.
use Rattle.std.proofs.Common.{◌≡◌, inl, inr, ℕ, zero, suc, ◌<◌, true, false, nat_lt, List, [], ◌∷◌, ◌++◌, Some, length, refl, sym, ap, subst, ◌∙◌, append_assoc, arith}
use Rattle.std.proofs.lemmas.Bool.{and_parts, lt-ltb, ltb-true}
use Rattle.std.specs.List.{list_any}
use Rattle.std.specs.Option.{option_map_or}
use Rattle.std.specs.Prelude.{slice_get}
use Rattle.swan_model.specs.declared.script.Script.{Script}
use Rattle.swan_model.specs.declared.script.Entry.{Entry}
use Rattle.swan_model.specs.Nested.{spawn_time, IsEntryUnder, IsNested, IsLeft, IsSpawned, HasTasks}
use Rattle.swan_model.specs.SerialTime.{Progress, Reading, is_of, times, point, is_earlier, is_past, is_done}
use Rattle.swan_model.specs.PathOrder.{comes_before}
use Rattle.swan_model.proofs.PathOrder.{IsBelow, IsAside, how_before, either_before}
use Rattle.swan_model.proofs.Lists.{last_of}
use Rattle.swan_model.proofs.Paths.{same_path}
use Rattle.swan_model.proofs.TaskEntries.{is_spawn_of, point_own, spawn_own}
use Rattle.swan_model.proofs.Elements.{any_found}
use Rattle.swan_model.proofs.Places.{placed-rise}

-- who has done the entry of a time: a frame of its task, which has come past it
pub record IsDoneBy (s : Script) (r : Reading) (t : ℕ) (path : List ℕ) : Type 0 where
  pub index : ℕ
  pub frame : Progress
  pub stands : slice_get r.frames index ≡ Some frame
  pub own : frame.path ≡ path
  pub past : t < point s frame

pub done_by : (s : Script) (r : Reading) (t : ℕ) (entry : Entry) → slice_get s.entries t ≡ Some entry → is_done s r t ≡ true → IsDoneBy s r t entry.path
done_by s r t entry stands is =
    let among : list_any (is_past s t entry) r.frames ≡ true = ap (λ o. option_map_or (λ e. list_any (is_past s t e) r.frames) o false) (sym stands) ∙ is in
    let found = any_found (is_past s t entry) r.frames among in
    let both = and_parts (is_of found.0.path entry) (nat_lt t (point s found.0)) found.1.passes in
    record { index = found.1.index; frame = found.0; stands = found.1.stands; own = sym (same_path entry.path found.0.path both.0); past = ltb-true t (point s found.0) both.1 }

module _ (s : Script) where
  -- children are spawned by their numbers
  pub spawns_rise : (path : List ℕ) (child later spawn after : ℕ) → child < later → spawn_time s path child ≡ Some spawn → spawn_time s path later ≡ Some after → spawn < after
  spawns_rise path child later spawn after less is also = placed-rise (is_spawn_of path) 0 s.entries child later spawn after less is also

  point_under : (frame : Progress) (path rest : List ℕ) (child : ℕ) → frame.done < length (times s frame.path) → frame.path ≡ path ++ child ∷ rest → IsEntryUnder s (path ++ child ∷ []) (point s frame)
  point_under frame path rest child left is =
      let own = point_own s frame left in
      record { entry = own.entry; stands = own.stands; rest = rest; under = own.own ∙ is ∙ sym (append_assoc path (child ∷ []) rest) }

module _ (s : Script) (r : Reading) (tasks : HasTasks s r) where
  -- a frame of the reading has come past the spawn of this child, whose parent it is
  pub record IsPast (path : List ℕ) (child : ℕ) : Type 0 where
    pub spawn : ℕ
    pub known : spawn_time s path child ≡ Some spawn
    pub index : ℕ
    pub parent : Progress
    pub stands : slice_get r.frames index ≡ Some parent
    pub own : parent.path ≡ path
    pub past : spawn < point s parent

  pub is_past-child : (path : List ℕ) (child : ℕ) → IsSpawned s r path child → IsPast path child
  is_past-child path child spawned =
      let own = spawn_own s path child spawned.spawn spawned.known in
      let by = done_by s r spawned.spawn own.entry own.stands spawned.done in
      record { spawn = spawned.spawn; known = spawned.known; index = by.index; parent = by.frame; stands = by.stands; own = by.own ∙ own.own; past = by.past }

  -- so it is for each task above a frame
  pub past_above : (many : ℕ) (path rest : List ℕ) (child index : ℕ) (frame : Progress) → length rest ≡ many → slice_get r.frames index ≡ Some frame → frame.path ≡ path ++ child ∷ rest → IsPast path child
  past_above many path [] child index frame long stands is = is_past-child path child (tasks.spawned index frame path child stands is)
  past_above zero path (x ∷ xs) child index frame long stands is = absurd (omega arith)
  past_above (suc many) path (x ∷ xs) child index frame long stands is =
      let last = last_of x xs in
      let named : frame.path ≡ (path ++ child ∷ last.front) ++ last.last ∷ [] =
      is ∙ ap (λ p. path ++ child ∷ p) last.is ∙ sym (append_assoc path (child ∷ last.front) (last.last ∷ [])) in
      let up = is_past-child (path ++ child ∷ last.front) last.last (tasks.spawned index frame (path ++ child ∷ last.front) last.last stands named) in
      past_above many path last.front child up.index up.parent (omega (arith, last.shorter)) up.stands up.own

  pub same_frame : (i j : ℕ) (frame other : Progress) → slice_get r.frames i ≡ Some frame → slice_get r.frames j ≡ Some other → frame.path ≡ other.path → frame ≡ other
  same_frame i j frame other stands also path =
      let e : i ≡ j = tasks.different i j frame other stands also path in
      let same : Some frame ≡ Some other = sym stands ∙ ap (slice_get r.frames) e ∙ also in
      cc

  module _ (nested : IsNested s) where
    below-first : (i j : ℕ) (a b : Progress) → IsLeft s r i a → IsLeft s r j b → IsBelow a.path b.path → point s a < point s b
    below-first i j a b here there below =
        let past = past_above (length below.rest) b.path below.rest below.number i a refl here.stands below.is in
        let same : past.parent ≡ b = same_frame past.index j past.parent b past.stands there.stands past.own in
        let done : past.spawn < point s b = subst (λ p. past.spawn < point s p) same past.past in
        nested.whole b.path below.number past.spawn (point s a) (point s b) past.known
        (point_under s a b.path below.rest below.number here.left below.is) (point_own s b there.left) done

    aside-first : (i j : ℕ) (a b : Progress) → IsLeft s r i a → IsLeft s r j b → IsAside a.path b.path → point s a < point s b
    aside-first i j a b here there aside =
        let one = past_above (length aside.rest) aside.above aside.rest aside.number i a refl here.stands aside.is in
        let two = past_above (length aside.more) aside.above aside.more aside.later j b refl there.stands aside.also in
        let rise = spawns_rise s aside.above aside.number aside.later one.spawn two.spawn aside.less one.known two.known in
        let before = nested.whole aside.above aside.number one.spawn (point s a) two.spawn one.known
        (point_under s a aside.above aside.rest aside.number here.left aside.is) (spawn_own s aside.above aside.later two.spawn two.known) rise in
        let after = nested.after aside.above aside.later two.spawn (point s b) two.known
        (point_under s b aside.above aside.more aside.later there.left aside.also) in
        omega (arith, before, after)

    before-first : (i j : ℕ) (a b : Progress) → IsLeft s r i a → IsLeft s r j b → comes_before a.path b.path ≡ true → point s a < point s b
    before-first i j a b here there is = elim (how_before a.path b.path is) [
      | inl below ↦ below-first i j a b here there below
      | inr aside ↦ aside-first i j a b here there aside
    ]

-- who comes before another has the earlier point
pub before_earlier : (s : Script) (r : Reading) → IsNested s → HasTasks s r → (i j : ℕ) (a b : Progress) → IsLeft s r i a → IsLeft s r j b → comes_before a.path b.path ≡ true → is_earlier s a b ≡ true
before_earlier s r nested tasks i j a b here there is =
    lt-ltb (point s a) (point s b) (before-first s r tasks nested i j a b here there is)

-- and who has the earlier point comes before the other
pub earlier_before : (s : Script) (r : Reading) → IsNested s → HasTasks s r → (i j : ℕ) (a b : Progress) → IsLeft s r i a → IsLeft s r j b → is_earlier s a b ≡ true → comes_before a.path b.path ≡ true
earlier_before s r nested tasks i j a b here there is =
    let less = ltb-true (point s a) (point s b) is in
    elim (either_before a.path b.path) [
      | inl same ↦
          let one : a ≡ b = same_frame s r tasks i j a b here.stands there.stands same in
          let still : point s a ≡ point s b = ap (point s) one in
          absurd (omega (arith, less, still))
      | inr differ ↦ elim differ [
        | inl before ↦ before
        | inr after ↦
            let back = before-first s r tasks nested j i b a there here after in
            absurd (omega (arith, less, back))
      ]
    ]

-- no two have the same point
pub points_differ : (s : Script) (r : Reading) → IsNested s → HasTasks s r → (i j : ℕ) (a b : Progress) → IsLeft s r i a → IsLeft s r j b → (i ≡ j → ⊥) → point s a ≡ point s b → ⊥
points_differ s r nested tasks i j a b here there apart same = elim (either_before a.path b.path) [
  | inl path ↦ apart (tasks.different i j a b here.stands there.stands path)
  | inr differ ↦ elim differ [
    | inl before ↦ let less = before-first s r tasks nested i j a b here there before in absurd (omega (arith, less, same))
    | inr after ↦ let less = before-first s r tasks nested j i b a there here after in absurd (omega (arith, less, same))
  ]
]
