-- What a child may use at its first entry its parent may use at the spawn.
use Rattle.std.proofs.Common.{◌≡◌, ℕ, zero, suc, ◌+◌, ◌<◌, ◌≤◌, inl, inr, ◌⊎◌, Bool, true, false, nat_eq, nat_lt, cond, List, [], length, Option, Some, None, refl, sym, ap, subst, ◌∙◌, arith}
use Rattle.std.proofs.lemmas.Bool.{cases_lt, cases_order, ltb-true}
use Rattle.std.proofs.lemmas.List.{same_from_push}
use Rattle.std.proofs.lemmas.Option.{slice_get_within, slice_get-get_or}
use Rattle.std.specs.Cmp.Lexicographic.{pointwise}
use Rattle.std.specs.Option.{option_map_or}
use Rattle.std.specs.Prelude.{slice_get}
use Rattle.swan_model.specs.declared.origin.Origin.{Origin}
use Rattle.swan_model.specs.declared.rights.Mode.{Mode}
use Rattle.swan_model.specs.declared.rights.Mode.TheVariants.{Push}
use Rattle.swan_model.specs.declared.script.Deed.{Deed}
use Rattle.swan_model.specs.declared.script.Deed.TheVariants as deed
use Rattle.swan_model.specs.declared.script.Entry.{Entry}
use Rattle.swan_model.specs.declared.script.OriginGive.{OriginGive}
use Rattle.swan_model.specs.declared.script.Script.{Script}
use Rattle.swan_model.specs.Granted.{child_path, children_before, holds, is_spawn, may_use, root_holds}
use Rattle.swan_model.specs.Lawful.{IsLawful, IsNextPath, of_child, of_parent, of_same}
use Rattle.swan_model.specs.Nested.{spawn_time, IsEndOf, IsEntryOf}
use Rattle.swan_model.specs.Readings.{next_deed}
use Rattle.swan_model.specs.SerialTime.{Progress, is_of, point, time, times}
use Rattle.swan_model.specs.Told.{deed_at}
use Rattle.swan_model.proofs.TaskEntries.{spawn_is_next, some_own, point_is, point_own}
use Rattle.serial_elision.proofs.MadeAbove.{given_from-parent}
use Rattle.swan_model.proofs.Paths.{path_is-itself, same_path, not_root}
use Rattle.swan_model.proofs.Times.{times_rise, times_all}
use Rattle.swan_model.proofs.Uses.{IsGrantedBy, holds-cases}
use Rattle.swan_model.proofs.MovedFrames.{child_progress}

-- ---- a frame whose next deed is a spawn

-- at a frame's point its task has a spawn with these gives
pub record IsSpawning (s : Script) (parent : Progress) (gives : List OriginGive) : Type 0 where
  pub left : parent.done < length (times s parent.path)
  pub entry : Entry
  pub stands : slice_get s.entries (point s parent) ≡ Some entry
  pub own : entry.path ≡ parent.path
  pub deed_is : entry.deed ≡ deed.Spawn gives

pub spawning : (s : Script) (parent : Progress) (gives : List OriginGive) → next_deed s parent ≡ Some (deed.Spawn gives) → IsSpawning s parent gives
spawning s parent gives is = by-test (nat_lt parent.done (length (times s parent.path))) refl is where
  at : parent.done < length (times s parent.path) → deed_at s (point s parent) ≡ deed.Spawn gives → IsSpawning s parent gives
  at left deed_is =
      let own = point_own s parent left in
      let same : own.entry.deed ≡ deed.Spawn gives = ap (λ o. option_map_or (λ (e : Entry). e.deed) o deed.Quiet) (sym own.stands) ∙ deed_is in
      record { left = left; entry = own.entry; stands = own.stands; own = own.own; deed_is = same }

  by-test : (b : Bool) → nat_lt parent.done (length (times s parent.path)) ≡ b → ◌≡◌ {A = Option Deed} (cond b (Some (deed_at s (point s parent))) None) (Some (deed.Spawn gives)) → IsSpawning s parent gives
  by-test true less some =
      let left : parent.done < length (times s parent.path) = ltb-true parent.done (length (times s parent.path)) less in
      let deed_is : deed_at s (point s parent) ≡ deed.Spawn gives = cc in
      at left deed_is
  by-test false less some = absurd (cc)

-- ---- the child's first entry

-- none of its entries comes before the first one
none-first : (s : Script) (path : List ℕ) (m : ℕ) → m < time s path 0 → IsEntryOf s path m → ⊥
none-first s path m before own =
    let passes : is_of path own.entry ≡ true = ap (λ p. pointwise nat_eq p path) own.own ∙ path_is-itself path in
    let place = times_all s path m own.entry own.stands passes in
    let here : time s path place.0 ≡ m = place.2 in
    elim (cases_order 0 place.0) [
      | inl same ↦
          let e : time s path 0 ≡ time s path place.0 = ap (time s path) same in
          omega (arith, here, e)
      | inr differ ↦ elim differ [
        | inl later ↦ let rise = times_rise s path 0 place.0 later place.1 in omega (arith, here, rise)
        | inr never ↦ absurd (omega arith)
      ]
    ]

-- after a spawn comes an entry of the child
child-next : (s : Script) → IsLawful s → (n : ℕ) (entry : Entry) (gives : List OriginGive) → slice_get s.entries n ≡ Some entry → entry.deed ≡ deed.Spawn gives → IsEntryOf s (child_path s entry.path n) (n + 1)
child-next s lawful n entry gives stands is = by (slice_get s.entries (n + 1)) refl where
  spawns : is_spawn entry.deed ≡ true
  spawns = ap is_spawn is

  not-end : (end : Entry) → slice_get s.entries n ≡ Some end → end.ends ≡ true → ⊥
  not-end end also over =
      let same : end ≡ entry = cc in
      let spawn : end.deed ≡ deed.Spawn gives = ap (λ (e : Entry). e.deed) same ∙ is in
      elim (lawful.ending n end also over) [
        | inl quiet ↦ let no : deed.Spawn gives ≡ deed.Quiet = sym spawn ∙ quiet in absurd (cc)
        | inr pop ↦ let no : deed.Spawn gives ≡ deed.Pop pop.0 = sym spawn ∙ pop.1 in absurd (cc)
      ]

  then : (other : Entry) → slice_get s.entries (n + 1) ≡ Some other → IsNextPath s n entry other.path → IsEntryOf s (child_path s entry.path n) (n + 1)
  then other also (of_child spawn ends path) = record { entry = other; stands = also; own = path }
  then other also (of_parent quiet ends child path) = absurd (cc)
  then other also (of_same quiet ends path) = absurd (cc)

  by : (found : Option Entry) → slice_get s.entries (n + 1) ≡ found → IsEntryOf s (child_path s entry.path n) (n + 1)
  by (Some other) also = then other also (lawful.next n entry other stands also)
  by None none =
      let within = slice_get_within s.entries n entry stands in
      let last : length s.entries ≡ n + 1 = past (cases_lt (n + 1) (length s.entries)) in
      let end : IsEndOf s [] n = lawful.last n last in
      absurd (not-end end.entry end.stands end.ends)
    where
      past : ((n + 1 < length s.entries) ⊎ (length s.entries ≤ n + 1)) → length s.entries ≡ n + 1
      past (inr over) = omega (arith, slice_get_within s.entries n entry stands)
      past (inl more) = let some = slice_get-get_or s.entries (n + 1) entry more in absurd (cc)

-- the child's first entry is the frame's point
first-own : (s : Script) → IsLawful s → (parent : Progress) (gives : List OriginGive) (number : ℕ) → IsSpawning s parent gives → IsEntryOf s (child_path s parent.path (point s parent)) (point s (child_progress s parent number)) × (point s (child_progress s parent number) ≡ time s (child_path s parent.path (point s parent)) 0)
first-own s lawful parent gives number now =
    let n = point s parent in
    let path = child_path s parent.path n in
    let child = child_progress s parent number in
    let then : IsEntryOf s path (n + 1) = subst (λ p. IsEntryOf s (child_path s p n) (n + 1)) now.own (child-next s lawful n now.entry gives now.stands now.deed_is) in
    let some = some_own s path (n + 1) then in
    (point_own s child some, point_is s child some)

-- what the child may use before an entry, no later than its first one, its parent may use at the spawn
record IsFromParent (s : Script) (parent : Progress) (m : ℕ) (mode : Mode) (origin : Origin) : Type 0 where
  pub may : may_use (holds s parent.path (point s parent)) mode origin ≡ true
  pub before : point s parent < m

given-newly : (s : Script) → IsLawful s → (parent : Progress) (gives : List OriginGive) → IsSpawning s parent gives → (m : ℕ) (mode : Mode) (origin : Origin) → (IsEntryOf s (child_path s parent.path (point s parent)) m → ⊥) → (entry : Entry) → slice_get s.entries m ≡ Some entry → IsGrantedBy s (child_path s parent.path (point s parent)) m entry mode origin → IsFromParent s parent (suc m) mode origin
given-newly s lawful parent gives now m mode origin none entry stands (inl own) =
    absurd (none (record { entry = entry; stands = stands; own = same_path entry.path (child_path s parent.path (point s parent)) own.0 }))
given-newly s lawful parent gives now m mode origin none entry stands (inr gift) =
    let n = point s parent in
    let child = children_before s parent.path n in
    let other = children_before s entry.path m in
    let same = same_from_push entry.path parent.path other child (same_path (child_path s entry.path m) (child_path s parent.path n) gift.to) in
    let here : spawn_time s entry.path other ≡ Some m = spawn_is_next s m entry stands (ap is_spawn gift.is) in
    let there : spawn_time s now.entry.path (children_before s now.entry.path n) ≡ Some n = spawn_is_next s n now.entry now.stands (ap is_spawn now.deed_is) in
    let known : spawn_time s parent.path child ≡ Some n = subst (λ p. spawn_time s p (children_before s p n) ≡ Some n) now.own there in
    let also : spawn_time s parent.path child ≡ Some m = ap (λ p. spawn_time s p child) (sym same.0) ∙ ap (spawn_time s entry.path) (sym same.1) ∙ here in
    let both : Some n ≡ Some m = sym known ∙ also in
    let e : m ≡ n = cc in
    let there_may = given_from-parent s lawful m entry gift.gives mode origin stands gift.is gift.may in
    let path : may_use (holds s parent.path m) mode origin ≡ true = subst (λ p. may_use (holds s p m) mode origin ≡ true) same.0 there_may in
    record { may = subst (λ t. may_use (holds s parent.path t) mode origin ≡ true) e path; before = omega (arith, e) }

from-parent : (s : Script) → IsLawful s → (parent : Progress) (gives : List OriginGive) → IsSpawning s parent gives → (m : ℕ) (mode : Mode) (origin : Origin) → m ≤ time s (child_path s parent.path (point s parent)) 0 → may_use (holds s (child_path s parent.path (point s parent)) m) mode origin ≡ true → IsFromParent s parent m mode origin
from-parent s lawful parent gives now zero mode origin early may = by (pointwise nat_eq path []) refl may where
  path : List ℕ
  path = child_path s parent.path (point s parent)

  by : (b : Bool) → pointwise nat_eq path [] ≡ b → may_use (cond b (root_holds s) []) mode origin ≡ true → IsFromParent s parent zero mode origin
  by true root held = absurd (not_root parent.path [] (children_before s parent.path (point s parent)) (same_path path [] root))
  by false root held = absurd (cc)
from-parent s lawful parent gives now (suc m) mode origin early may =
    let path = child_path s parent.path (point s parent) in
    elim (holds-cases s path m mode origin may) [
      | inl before ↦
          let from = from-parent s lawful parent gives now m mode origin (omega arith) before in
          record { may = from.may; before = omega (arith, from.before) }
      | inr newly ↦ given-newly s lawful parent gives now m mode origin (none-first s path m (omega arith)) newly.entry newly.stands newly.how
    ]

-- where a child may push to a queue at its first entry, its parent may at the spawn, which comes before
pub child_pushes : (s : Script) → IsLawful s → (parent : Progress) (gives : List OriginGive) (number : ℕ) → IsSpawning s parent gives → (queue : Origin) → let child = child_progress s parent number in may_use (holds s child.path (point s child)) Push queue ≡ true → (may_use (holds s parent.path (point s parent)) Push queue ≡ true) × (point s parent < point s child)
child_pushes s lawful parent gives number now queue may =
    let child = child_progress s parent number in
    let first = first-own s lawful parent gives number now in
    let from = from-parent s lawful parent gives now (point s child) Push queue (omega (arith, first.1)) may in
    (from.may, from.before)
