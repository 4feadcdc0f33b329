-- What a lawful script tells of the value of an object from one time to another.
use Rattle.std.proofs.Common.{◌≡◌, ℕ, zero, suc, ◌+◌, ◌<◌, ◌≤◌, inl, inr, true, false, cond, List, Option, Some, None, refl, ap, ◌∙◌, arith}
use Rattle.std.proofs.lemmas.Bool.{cases_lt, le-ltb}
use Rattle.std.specs.List.{list_any}
use Rattle.std.specs.Option.{option_map}
use Rattle.std.specs.Prelude.{slice_get}
use Rattle.swan_model.specs.declared.origin.Origin.{Origin}
use Rattle.swan_model.specs.declared.origin.Origin.TheVariants.{Root, Step}
use Rattle.swan_model.specs.declared.rights.Mode.TheVariants.{Out}
use Rattle.swan_model.specs.declared.script.Deed.{Deed}
use Rattle.swan_model.specs.declared.script.Deed.TheVariants as deed
use Rattle.swan_model.specs.declared.script.OriginGive.{OriginGive}
use Rattle.swan_model.specs.declared.script.Script.{Script}
use Rattle.swan_model.specs.declared.value.Kind.{Kind}
use Rattle.swan_model.specs.declared.value.Value.{Value}
use Rattle.swan_model.specs.Granted.{child_path, is_spawn, may_use}
use Rattle.swan_model.specs.Lawful.{IsLawful}
use Rattle.swan_model.specs.Readings.{end_time, next_deed}
use Rattle.swan_model.specs.SerialTime.{Progress, point}
use Rattle.swan_model.specs.Told.{cell, cell_from, changed_by, deed_at, first_value, is_given_out, made}
use Rattle.swan_model.specs.Values.{kind_of, zero_of}
use Rattle.swan_model.proofs.Origins.{is_same-self}
use Rattle.swan_model.proofs.ScriptDeeds.{change_needs, is_change_of, is_write_to, not_before, not_through}
use Rattle.swan_model.proofs.ScriptRights.{is_older}
use Rattle.swan_model.proofs.ScriptSteps.{spawn_moves}

unchanged : (object : Origin) (kind : Kind) (d : Deed) (value : Value) → is_change_of object d ≡ false → changed_by object kind d value ≡ value
unchanged object kind (deed.Write origin written) value not = ap (λ b. cond b written value) not
unchanged object kind (deed.Spawn gives) value not = ap (λ b. cond b (zero_of kind) value) not
unchanged object kind deed.MakeQueue value not = refl
unchanged object kind (deed.MakeObject first) value not = refl
unchanged object kind (deed.Push queue item) value not = refl
unchanged object kind (deed.Pop queue) value not = refl
unchanged object kind (deed.Test queue) value not = refl
unchanged object kind (deed.Read other) value not = refl
unchanged object kind deed.Sync value not = refl
unchanged object kind deed.Quiet value not = refl

neither : (object : Origin) (d : Deed) → is_write_to object d ≡ false → is_spawn d ≡ false → is_change_of object d ≡ false
neither object (deed.Write origin written) write spawn = write
neither object (deed.Spawn gives) write spawn = absurd (cc)
neither object deed.MakeQueue write spawn = refl
neither object (deed.MakeObject first) write spawn = refl
neither object (deed.Push queue item) write spawn = refl
neither object (deed.Pop queue) write spawn = refl
neither object (deed.Test queue) write spawn = refl
neither object (deed.Read other) write spawn = refl
neither object deed.Sync write spawn = refl
neither object deed.Quiet write spawn = refl

module _ (s : Script) (object : Origin) where
  -- what changes the value of no object leaves it
  next-kept : (t : ℕ) → is_change_of object (deed_at s t) ≡ false → cell s object (suc t) ≡ cell s object t
  next-kept t not = by (first_value s object) where
    by : (first : Option Value) → option_map (λ value. cell_from s object value (suc t)) first ≡ option_map (λ value. cell_from s object value t) first
    by None = refl
    by (Some first) = ap Some (unchanged object (kind_of first) (deed_at s t) (cell_from s object first t) not)

  pub cell_unchanged : (t : ℕ) → is_change_of object (deed_at s t) ≡ false → cell s object (t + 1) ≡ cell s object t
  cell_unchanged t not =
      let one : t + 1 ≡ suc t = omega arith in
      ap (cell s object) one ∙ next-kept t not

  pub cell_kept : (t : ℕ) → is_write_to object (deed_at s t) ≡ false → is_spawn (deed_at s t) ≡ false → cell s object (t + 1) ≡ cell s object t
  cell_kept t write spawn = cell_unchanged t (neither object (deed_at s t) write spawn)

  -- so it is over several entries
  pub cell_over : (n m : ℕ) → n ≤ m → ((v : ℕ) → n ≤ v → v < m → is_change_of object (deed_at s v) ≡ false) → cell s object m ≡ cell s object n
  cell_over n zero less none =
      let e : zero ≡ n = omega arith in
      ap (cell s object) e
  cell_over n (suc m) less none = elim (cases_lt m n) [
    | inl past ↦
        let e : suc m ≡ n = omega arith in
        ap (cell s object) e
    | inr before ↦
        next-kept m (none m before (omega arith))
        ∙ cell_over n m before (λ v from below. none v from (omega arith))
  ]

  -- an object has what was written last
  pub cell_written : (t : ℕ) (value first : Value) → deed_at s t ≡ deed.Write object value → first_value s object ≡ Some first → cell s object (t + 1) ≡ Some value
  cell_written t value first does is =
      let one : t + 1 ≡ suc t = omega arith in
      let kind = kind_of first in
      let before = cell_from s object first t in
      ap (cell s object) one
      ∙ ap (option_map (λ v. cell_from s object v (suc t))) is
      ∙ ap (λ d. Some (changed_by object kind d before)) does
      ∙ ap (λ b. Some (cond b value before)) (is_same-self object)

  -- an object that is given by Out is zeroed
  pub cell_given : (t : ℕ) (gives : List OriginGive) → deed_at s t ≡ deed.Spawn gives → list_any (is_given_out object) gives ≡ true → cell s object (t + 1) ≡ option_map (λ first. zero_of (kind_of first)) (first_value s object)
  cell_given t gives does out = ap (cell s object) one ∙ by (first_value s object) where
    one : t + 1 ≡ suc t
    one = omega arith

    by : (first : Option Value) → option_map (λ value. cell_from s object value (suc t)) first ≡ option_map (λ value. zero_of (kind_of value)) first
    by None = refl
    by (Some first) =
        let kind = kind_of first in
        let before = cell_from s object first t in
        ap (λ d. Some (changed_by object kind d before)) does
        ∙ ap (λ b. Some (cond b (zero_of kind) before)) out

  -- and otherwise a spawn leaves it
  pub cell_lent : (t : ℕ) (gives : List OriginGive) → deed_at s t ≡ deed.Spawn gives → list_any (is_given_out object) gives ≡ false → cell s object (t + 1) ≡ cell s object t
  cell_lent t gives does out = cell_unchanged t (ap (is_change_of object) does ∙ out)

  -- an object with a value has a first value
  pub cell_has : (n : ℕ) (value : Value) → cell s object n ≡ Some value → (first : Value) × (first_value s object ≡ Some first)
  cell_has n value is = by (first_value s object) is where
    by : (found : Option Value) → option_map (λ first. cell_from s object first n) found ≡ Some value → (first : Value) × (found ≡ Some first)
    by None is = absurd (cc)
    by (Some first) is = (first, refl)

-- the values with which the objects begin
pub cell_first : (s : Script) (i : ℕ) → cell s (Root i) 0 ≡ slice_get s.objects i
cell_first s i = by (slice_get s.objects i) where
  by : (first : Option Value) → option_map (λ value. cell_from s (Root i) value 0) first ≡ first
  by None = refl
  by (Some value) = refl

pub cell_made : (s : Script) → IsLawful s → (t : ℕ) (value : Value) → deed_at s t ≡ deed.MakeObject value → cell s (Step t) (t + 1) ≡ Some value
cell_made s lawful t value does =
    let none : (v : ℕ) → 0 ≤ v → v < t + 1 → is_change_of (Step t) (deed_at s v) ≡ false =
    λ v from before. not_before s lawful (is_change_of (Step t)) Out (Step t) (change_needs (Step t)) v (le-ltb t v (omega arith)) in
    cell_over s (Step t) 0 (t + 1) (omega arith) none
    ∙ ap (λ d. option_map (λ first. cell_from s (Step t) first 0) (made d)) does

-- through a spawn an object that isn't given for writing keeps its value
pub cell_through : (s : Script) → IsLawful s → (p : Progress) (gives : List OriginGive) → next_deed s p ≡ Some (deed.Spawn gives) → (origin : Origin) → is_older origin (point s p) ≡ true → may_use gives Out origin ≡ false → cell s origin (end_time s (child_path s p.path (point s p))) ≡ cell s origin (point s p)
cell_through s lawful p gives next origin old lacks =
    let long = (spawn_moves s lawful p gives next).long in
    cell_over s origin (point s p) (end_time s (child_path s p.path (point s p))) (omega arith)
    (λ v from before. not_through s lawful (is_change_of origin) Out origin (change_needs origin) p gives next old lacks v from before)
