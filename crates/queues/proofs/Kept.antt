-- Rights that entries leave as they were.
use Rattle.std.proofs.Common.{◌≡◌, ℕ, zero, suc, ◌<◌, ◌≤◌, inl, inr, Bool, true, false, List, [], ◌++◌, Option, Some, None, refl, sym, ap, subst, ◌∙◌, arith}
use Rattle.std.proofs.lemmas.Bool.{both_ways, cases_lt}
use Rattle.std.specs.Option.{option_map_or}
use Rattle.std.specs.Prelude.{slice_get}
use Rattle.swan_model.specs.declared.origin.Origin.{Origin}
use Rattle.swan_model.specs.declared.rights.Mode.{Mode}
use Rattle.swan_model.specs.declared.rights.Mode.TheVariants.{In, Out, InOut, Push, Pop, PushPop}
use Rattle.swan_model.specs.declared.script.Deed.{Deed}
use Rattle.swan_model.specs.declared.script.Deed.TheVariants as deed
use Rattle.swan_model.specs.declared.script.Entry.{Entry}
use Rattle.swan_model.specs.declared.script.Script.{Script}
use Rattle.swan_model.specs.Granted.{granted, granted_by, holds, may_use}
use Rattle.swan_model.specs.Rights.{is_queue_mode}
use Rattle.swan_model.specs.SerialTime.{is_queue_deed}
use Rattle.swan_model.proofs.ScriptRights.{held_later}
use Rattle.swan_model.proofs.ScriptSteps.{deed_is}
use Rattle.swan_model.proofs.Uses.{may_use-either}
use Rattle.queues.proofs.Between.{IsStill}
use Rattle.swan_model.proofs.Elements.{answers_same}

-- from one time to another no entry grants a task this use
pub record GrantsNone (s : Script) (path : List ℕ) (mode : Mode) (origin : Origin) (n m : ℕ) : Type 0 where
  pub order : n ≤ m
  pub none : (v : ℕ) (entry : Entry) → n ≤ v → v < m → slice_get s.entries v ≡ Some entry → may_use (granted_by s path v entry) mode origin ≡ false

use_back : (s : Script) (path : List ℕ) (mode : Mode) (origin : Origin) (n m : ℕ) → GrantsNone s path mode origin n m → may_use (holds s path m) mode origin ≡ true → may_use (holds s path n) mode origin ≡ true
use_back s path mode origin n zero none is =
    let same : zero ≡ n = omega (arith, none.order) in
    subst (λ k. may_use (holds s path k) mode origin ≡ true) same is
use_back s path mode origin n (suc m) none is = elim (cases_lt m n) [
  | inl past ↦
      let same : suc m ≡ n = omega (arith, none.order, past) in
      subst (λ k. may_use (holds s path k) mode origin ≡ true) same is
  | inr before ↦ by (slice_get s.entries m) refl is before (λ held. use_back s path mode origin n m (record { order = before; none = λ v entry from below. none.none v entry from (omega (arith, below)) }) held)
]
  where
    by : (found : Option Entry) → slice_get s.entries m ≡ found → may_use (holds s path m ++ option_map_or (granted_by s path m) found []) mode origin ≡ true → n ≤ m
        → (may_use (holds s path m) mode origin ≡ true → may_use (holds s path n) mode origin ≡ true) → may_use (holds s path n) mode origin ≡ true
    by None stands is from further = elim (may_use-either (holds s path m) [] mode origin is) [ inl held ↦ further held | inr never ↦ absurd (cc) ]
    by (Some entry) stands is from further = elim (may_use-either (holds s path m) (granted_by s path m entry) mode origin is) [
      | inl held ↦ further held
      | inr granted ↦ absurd (both_ways (may_use (granted_by s path m entry) mode origin) (none.none m entry from (omega arith) stands) granted)
    ]

-- what a task may use stays the same
pub use_kept : (s : Script) (path : List ℕ) (mode : Mode) (origin : Origin) (n m : ℕ) → GrantsNone s path mode origin n m → may_use (holds s path m) mode origin ≡ may_use (holds s path n) mode origin
use_kept s path mode origin n m none =
    answers_same (may_use (holds s path m) mode origin) (may_use (holds s path n) mode origin) (use_back s path mode origin n m none)
    (λ is. held_later s path n m mode origin is none.order)

-- what isn't a queue deed grants no use of a queue
pub quiet_grants : (own child : Bool) (n : ℕ) (d : Deed) (mode : Mode) (origin : Origin) → is_queue_deed d ≡ false → is_queue_mode mode ≡ true → may_use (granted own child n d) mode origin ≡ false
quiet_grants own child n deed.MakeQueue mode origin quiet queues = absurd (cc)
quiet_grants own child n (deed.Spawn gives) mode origin quiet queues = absurd (cc)
quiet_grants own child n (deed.Push queue value) mode origin quiet queues = absurd (cc)
quiet_grants own child n (deed.Pop queue) mode origin quiet queues = absurd (cc)
quiet_grants own child n (deed.Test queue) mode origin quiet queues = absurd (cc)
quiet_grants false child n (deed.MakeObject value) mode origin quiet queues = refl
quiet_grants true child n (deed.MakeObject value) Push origin quiet queues = refl
quiet_grants true child n (deed.MakeObject value) Pop origin quiet queues = refl
quiet_grants true child n (deed.MakeObject value) PushPop origin quiet queues = refl
quiet_grants true child n (deed.MakeObject value) In origin quiet queues = absurd (cc)
quiet_grants true child n (deed.MakeObject value) Out origin quiet queues = absurd (cc)
quiet_grants true child n (deed.MakeObject value) InOut origin quiet queues = absurd (cc)
quiet_grants own child n (deed.Read object) mode origin quiet queues = refl
quiet_grants own child n (deed.Write object value) mode origin quiet queues = refl
quiet_grants own child n deed.Sync mode origin quiet queues = refl
quiet_grants own child n deed.Quiet mode origin quiet queues = refl

pub still_grants : (s : Script) (path : List ℕ) (mode : Mode) (origin : Origin) (n m : ℕ) → IsStill s path n m → is_queue_mode mode ≡ true → GrantsNone s path mode origin n m
still_grants s path mode origin n m still queues =
    record {
      order = still.order;
      none = λ v entry from before stands.
          quiet_grants _ _ v entry.deed mode origin (ap is_queue_deed (sym (deed_is s v entry stands)) ∙ still.quiet v from before) queues;
    }
