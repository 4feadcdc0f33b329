-- Deeds that need a right on what an origin made. In a lawful script none of them is done before it is made, and
-- none through a spawn whose gives lack the right.
use Rattle.std.proofs.Common.{◌≡◌, ℕ, ◌<◌, ◌≤◌, inl, inr, Bool, true, false, ◌&&◌, List, [], ◌∷◌, Option, Some, None, refl, sym, ap, subst, ◌∙◌, arith}
use Rattle.std.proofs.lemmas.Bool.{and_from, and_parts, both_ways, cases_lt, false_from_ne_true, or_cases, or_left, or_right}
use Rattle.std.specs.List.{list_any}
use Rattle.std.specs.Option.{option_map_or}
use Rattle.std.specs.Prelude.{slice_get}
use Rattle.swan_model.specs.declared.origin.Origin.{Origin}
use Rattle.swan_model.specs.declared.rights.Mode.{Mode}
use Rattle.swan_model.specs.declared.rights.Mode.TheVariants.{In, Out, InOut, Push, Pop, PushPop}
use Rattle.swan_model.specs.declared.script.Deed.{Deed}
use Rattle.swan_model.specs.declared.script.Deed.TheVariants as deed
use Rattle.swan_model.specs.declared.script.Entry.{Entry}
use Rattle.swan_model.specs.declared.script.OriginGive.{OriginGive}
use Rattle.swan_model.specs.declared.script.Script.{Script}
use Rattle.swan_model.specs.Granted.{child_path, holds, is_within, may_use}
use Rattle.swan_model.specs.Lawful.{IsLawful}
use Rattle.swan_model.specs.Readings.{end_time, next_deed}
use Rattle.swan_model.specs.Ripe.{is_push_to}
use Rattle.swan_model.specs.Rights.{allows}
use Rattle.swan_model.specs.SerialTime.{Progress, point}
use Rattle.swan_model.specs.Told.{deed_at, is_given_out, is_out, is_pop_of, is_same}
use Rattle.swan_model.proofs.Origins.{is_same-equal}
use Rattle.swan_model.proofs.ScriptRights.{below, held_older, is_older}
use Rattle.swan_model.proofs.ScriptSteps.{at_next, deed_is, spawn_moves}
use Rattle.swan_model.proofs.Uses.{may_use-given}

-- such a deed is within what one holds only where that has the right
pub record Needs (does : Deed → Bool) (mode : Mode) (origin : Origin) : Type 0 where
  pub quiet : does deed.Quiet ≡ false
  pub right : (held : List OriginGive) (d : Deed) → does d ≡ true → is_within held d ≡ true → may_use held mode origin ≡ true
  pub gives : (given : List OriginGive) → does (deed.Spawn given) ≡ true → may_use given mode origin ≡ true

-- what holds of a deed that does nothing, and of each entry's, holds of what is done at a time
pub at_entry : (s : Script) (P : Deed → Type 0) (t : ℕ) → P deed.Quiet → ((entry : Entry) → slice_get s.entries t ≡ Some entry → P entry.deed) → P (deed_at s t)
at_entry s P t quiet each = by (slice_get s.entries t) refl where
  by : (found : Option Entry) → slice_get s.entries t ≡ found → P (option_map_or (λ (e : Entry). e.deed) found deed.Quiet)
  by None stands = quiet
  by (Some entry) stands = each entry stands

-- ---- the deeds

-- whether a deed writes this object
abbrev pub is_write_to : Origin → Deed → Bool
is_write_to object (deed.Write origin value) = is_same origin object
is_write_to object _ = false

-- whether a deed changes the value of this object
abbrev pub is_change_of : Origin → Deed → Bool
is_change_of object (deed.Write origin value) = is_same origin object
is_change_of object (deed.Spawn gives) = list_any (is_given_out object) gives
is_change_of object _ = false

out_allows : (mode : Mode) → is_out mode ≡ true → allows mode Out ≡ true
out_allows Out is = refl
out_allows In is = absurd (cc)
out_allows InOut is = absurd (cc)
out_allows Push is = absurd (cc)
out_allows Pop is = absurd (cc)
out_allows PushPop is = absurd (cc)

given-out : (object : Origin) (gives : List OriginGive) → list_any (is_given_out object) gives ≡ true → may_use gives Out object ≡ true
given-out object [] is = absurd (cc)
given-out object (give ∷ gives) is = elim (or_cases (is_given_out object give) (list_any (is_given_out object) gives) is) [
  | inl here ↦
      let both = and_parts (is_out give.mode) (is_same give.origin object) here in
      or_left (allows give.mode Out && is_same give.origin object) (may_use gives Out object)
      (and_from (allows give.mode Out) (is_same give.origin object) (out_allows give.mode both.0) both.1)
  | inr later ↦ or_right (allows give.mode Out && is_same give.origin object) (may_use gives Out object) (given-out object gives later)
]

same-use : (held : List OriginGive) (mode : Mode) (origin other : Origin) → is_same origin other ≡ true → may_use held mode origin ≡ true → may_use held mode other ≡ true
same-use held mode origin other same may = subst (λ o. may_use held mode o ≡ true) (is_same-equal origin other same) may

change-right : (object : Origin) (held : List OriginGive) (d : Deed) → is_change_of object d ≡ true → is_within held d ≡ true → may_use held Out object ≡ true
change-right object held (deed.Write origin value) is within = same-use held Out origin object is within
change-right object held (deed.Spawn gives) is within = may_use-given held gives Out object within (given-out object gives is)
change-right object held deed.MakeQueue is within = absurd (cc)
change-right object held (deed.MakeObject value) is within = absurd (cc)
change-right object held (deed.Push queue value) is within = absurd (cc)
change-right object held (deed.Pop queue) is within = absurd (cc)
change-right object held (deed.Test queue) is within = absurd (cc)
change-right object held (deed.Read other) is within = absurd (cc)
change-right object held deed.Sync is within = absurd (cc)
change-right object held deed.Quiet is within = absurd (cc)

pub change_needs : (object : Origin) → Needs (is_change_of object) Out object
change_needs object = record { quiet = refl; right = change-right object; gives = given-out object }

-- who pushes may
pub push-right : (queue : Origin) (held : List OriginGive) (d : Deed) → is_push_to queue d ≡ true → is_within held d ≡ true → may_use held Push queue ≡ true
push-right queue held (deed.Push origin value) is within = same-use held Push origin queue is within
push-right queue held deed.MakeQueue is within = absurd (cc)
push-right queue held (deed.MakeObject value) is within = absurd (cc)
push-right queue held (deed.Spawn gives) is within = absurd (cc)
push-right queue held (deed.Pop origin) is within = absurd (cc)
push-right queue held (deed.Test origin) is within = absurd (cc)
push-right queue held (deed.Read object) is within = absurd (cc)
push-right queue held (deed.Write object value) is within = absurd (cc)
push-right queue held deed.Sync is within = absurd (cc)
push-right queue held deed.Quiet is within = absurd (cc)

pub push_needs : (queue : Origin) → Needs (is_push_to queue) Push queue
push_needs queue = record { quiet = refl; right = push-right queue; gives = λ given is. absurd (cc) }

pop-right : (queue : Origin) (held : List OriginGive) (d : Deed) → is_pop_of queue d ≡ true → is_within held d ≡ true → may_use held Pop queue ≡ true
pop-right queue held (deed.Pop origin) is within = same-use held Pop origin queue is within
pop-right queue held deed.MakeQueue is within = absurd (cc)
pop-right queue held (deed.MakeObject value) is within = absurd (cc)
pop-right queue held (deed.Spawn gives) is within = absurd (cc)
pop-right queue held (deed.Push origin value) is within = absurd (cc)
pop-right queue held (deed.Test origin) is within = absurd (cc)
pop-right queue held (deed.Read object) is within = absurd (cc)
pop-right queue held (deed.Write object value) is within = absurd (cc)
pop-right queue held deed.Sync is within = absurd (cc)
pop-right queue held deed.Quiet is within = absurd (cc)

pub pop_needs : (queue : Origin) → Needs (is_pop_of queue) Pop queue
pop_needs queue = record { quiet = refl; right = pop-right queue; gives = λ given is. absurd (cc) }

-- ---- where they are not done

module _ (s : Script) (lawful : IsLawful s) (does : Deed → Bool) (mode : Mode) (origin : Origin) (needs : Needs does mode origin) where
  -- not before what they are done to is made
  pub not_before : (v : ℕ) → is_older origin v ≡ false → does (deed_at s v) ≡ false
  not_before v new = at_entry s (λ d. does d ≡ false) v needs.quiet (λ entry stands.
      false_from_ne_true (does entry.deed) (λ is.
      let may = needs.right (holds s entry.path v) entry.deed is (lawful.within v entry stands) in
      both_ways (is_older origin v) new (held_older s lawful entry.path v mode origin may)))

  -- and not from a spawn to the end of its child, where the gives lack the right
  pub not_through : (p : Progress) (given : List OriginGive) → next_deed s p ≡ Some (deed.Spawn given) → is_older origin (point s p) ≡ true → may_use given mode origin ≡ false → (v : ℕ) → point s p ≤ v → v < end_time s (child_path s p.path (point s p)) → does (deed_at s v) ≡ false
  not_through p given next old lacks v from before = elim (cases_lt (point s p) v) [
    | inl after ↦ at_entry s (λ d. does d ≡ false) v needs.quiet (λ entry stands.
        false_from_ne_true (does entry.deed) (λ is.
        let child = child_path s p.path (point s p) in
        let under = (spawn_moves s lawful p given next).under v entry after before stands in
        let may = needs.right (holds s entry.path v) entry.deed is (lawful.within v entry stands) in
        let there = subst (λ q. may_use (holds s q v) mode origin ≡ true) under.1 may in
        both_ways (may_use given mode origin) lacks (below s lawful p given next v under.0 mode origin before old there)))
    | inr at ↦
        let step = at_next s p (deed.Spawn given) next in
        let same : point s p ≡ v = omega arith in
        let done : deed_at s v ≡ deed.Spawn given = ap (deed_at s) (sym same) ∙ deed_is s (point s p) step.entry step.stands ∙ step.does in
        ap does done ∙ false_from_ne_true (does (deed.Spawn given)) (λ is. both_ways (may_use given mode origin) lacks (needs.gives given is))
  ]
