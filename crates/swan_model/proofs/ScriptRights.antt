-- What the tasks of a lawful script may use: nothing that is made later, and below a spawn nothing that stood
-- before it but by its gives.
use Rattle.std.proofs.Common.{◌≡◌, ℕ, zero, suc, ◌+◌, ◌<◌, ◌≤◌, inl, inr, Bool, true, false, ◌&&◌, nat_eq, nat_lt, cond, List, [], ◌∷◌, ◌++◌, Option, Some, None, length, refl, sym, ap, subst, ◌∙◌, append_assoc, add-one, arith}
use Rattle.std.proofs.lemmas.Bool.{and_parts, both_ways, cases_lt, false_from_ne_true, lt-ltb, ltb-true, or_cases, or_left}
use Rattle.std.proofs.lemmas.List.{append-nil, same_from_push}
use Rattle.std.specs.Cmp.Lexicographic.{pointwise}
use Rattle.std.specs.Option.{option_map_or}
use Rattle.std.specs.Prelude.{slice_get}
use Rattle.swan_model.specs.declared.origin.Origin.{Origin}
use Rattle.swan_model.specs.declared.origin.Origin.TheVariants.{Root, Step}
use Rattle.swan_model.specs.declared.rights.Mode.{Mode}
use Rattle.swan_model.specs.declared.rights.Mode.TheVariants.{InOut, PushPop}
use Rattle.swan_model.specs.declared.script.Deed.TheVariants as deed
use Rattle.swan_model.specs.declared.script.Entry.{Entry}
use Rattle.swan_model.specs.declared.script.OriginGive.{OriginGive}
use Rattle.swan_model.specs.declared.script.Script.{Script}
use Rattle.swan_model.specs.declared.value.Value.{Value}
use Rattle.swan_model.specs.Granted.{child_path, children_before, granted, granted_by, holds, is_spawn, is_within, may_use, roots_from, root_holds}
use Rattle.swan_model.specs.Lawful.{IsLawful}
use Rattle.swan_model.specs.Nested.{spawn_time}
use Rattle.swan_model.specs.Readings.{end_time, next_deed}
use Rattle.swan_model.specs.Rights.{allows}
use Rattle.swan_model.specs.SerialTime.{Progress, is_of, point}
use Rattle.swan_model.specs.Told.{is_same}
use Rattle.swan_model.proofs.Lists.{last_of}
use Rattle.swan_model.proofs.Origins.{is_same-equal, is_same-self}
use Rattle.swan_model.proofs.Paths.{path_is-itself, same_path}
use Rattle.swan_model.proofs.ScriptSteps.{at_next, one_entry, spawn_moves}
use Rattle.swan_model.proofs.TaskEntries.{spawn_is_next}
use Rattle.swan_model.proofs.Uses.{granted-none, holds-cases, holds-next, may_use-either, may_use-given, more-append, own-made}

-- whether an origin stood before the entry n
abbrev pub is_older : Origin → ℕ → Bool
is_older (Root i) t = true
is_older (Step n) t = nat_lt n t

pub older_later : (origin : Origin) (n m : ℕ) → is_older origin n ≡ true → n ≤ m → is_older origin m ≡ true
older_later (Root i) n m is less = refl
older_later (Step k) n m is less = let before = ltb-true k n is in lt-ltb k m (omega arith)

roots-older : (mode : Mode) (k many n : ℕ) (asks : Mode) (origin : Origin) → may_use (roots_from mode k many) asks origin ≡ true → is_older origin n ≡ true
roots-older mode k zero n asks origin is = absurd (cc)
roots-older mode k (suc many) n asks origin is =
    elim (or_cases (allows mode asks && is_same (Root k) origin) (may_use (roots_from mode (k + 1) many) asks origin) is) [
      | inl here ↦
          let both = and_parts (allows mode asks) (is_same (Root k) origin) here in
          let same = is_same-equal (Root k) origin both.1 in
          ap (λ o. is_older o n) (sym same)
      | inr later ↦ roots-older mode (k + 1) many n asks origin later
    ]

root-older : (s : Script) (path : List ℕ) (mode : Mode) (origin : Origin) → may_use (holds s path zero) mode origin ≡ true → is_older origin zero ≡ true
root-older s path mode origin is = by (pointwise nat_eq path []) is where
  by : (b : Bool) → may_use (cond b (root_holds s) []) mode origin ≡ true → is_older origin zero ≡ true
  by false is = absurd (cc)
  by true is = elim (may_use-either (roots_from PushPop 0 (length s.queues)) (roots_from InOut 0 (length s.objects)) mode origin is) [
    | inl queue ↦ roots-older PushPop 0 (length s.queues) zero mode origin queue
    | inr object ↦ roots-older InOut 0 (length s.objects) zero mode origin object
  ]

-- what a task holds it holds on
pub held_later : (s : Script) (path : List ℕ) (m n : ℕ) (mode : Mode) (origin : Origin) → may_use (holds s path m) mode origin ≡ true → m ≤ n → may_use (holds s path n) mode origin ≡ true
held_later s path m zero mode origin is less =
    let e : m ≡ zero = omega arith in
    subst (λ k. may_use (holds s path k) mode origin ≡ true) e is
held_later s path m (suc n) mode origin is less = elim (cases_lt n m) [
  | inl at ↦
      let e : m ≡ suc n = omega arith in
      subst (λ k. may_use (holds s path k) mode origin ≡ true) e is
  | inr before ↦
      (more-append (holds s path n) (option_map_or (granted_by s path n) (slice_get s.entries n) [])).may mode origin
      (held_later s path m n mode origin is before)
]

-- a maker holds both rights on what it made
pub maker_holds : (s : Script) (path : List ℕ) (t : ℕ) (entry : Entry) → slice_get s.entries t ≡ Some entry → entry.path ≡ path → entry.deed ≡ deed.MakeQueue → may_use (holds s path (t + 1)) PushPop (Step t) ≡ true
maker_holds s path t entry stands own does =
    rw add-one (own-made s path t entry PushPop stands own (λ is_child.
    ap (λ d. may_use (granted true is_child t d) PushPop (Step t)) does
    ∙ or_left (is_same (Step t) (Step t)) false (is_same-self (Step t))))

pub maker_holds_object : (s : Script) (path : List ℕ) (t : ℕ) (entry : Entry) (value : Value) → slice_get s.entries t ≡ Some entry → entry.path ≡ path → entry.deed ≡ deed.MakeObject value → may_use (holds s path (t + 1)) InOut (Step t) ≡ true
maker_holds_object s path t entry value stands own does =
    rw add-one (own-made s path t entry InOut stands own (λ is_child.
    ap (λ d. may_use (granted true is_child t d) InOut (Step t)) does
    ∙ or_left (is_same (Step t) (Step t)) false (is_same-self (Step t))))

-- a path with an element in it is not the root's
no_root : (xs rest : List ℕ) (x : ℕ) → pointwise nat_eq ((xs ++ x ∷ []) ++ rest) [] ≡ false
no_root [] rest x = refl
no_root (y ∷ xs) rest x = refl

module _ (s : Script) (lawful : IsLawful s) where
  -- what a child may use by its gives its parent may use
  pub given_within : (n : ℕ) (entry : Entry) (gives : List OriginGive) (mode : Mode) (origin : Origin) → slice_get s.entries n ≡ Some entry → entry.deed ≡ deed.Spawn gives → may_use gives mode origin ≡ true → may_use (holds s entry.path n) mode origin ≡ true
  given_within n entry gives mode origin stands does may =
      let within : is_within (holds s entry.path n) entry.deed ≡ true = lawful.within n entry stands in
      may_use-given (holds s entry.path n) gives mode origin (ap (is_within (holds s entry.path n)) (sym does) ∙ within) may

  -- no task may use what is made later
  pub held_older : (path : List ℕ) (n : ℕ) (mode : Mode) (origin : Origin) → may_use (holds s path n) mode origin ≡ true → is_older origin n ≡ true
  held_older path zero mode origin is = root-older s path mode origin is
  held_older path (suc n) mode origin is = elim (holds-cases s path n mode origin is) [
    | inl before ↦ older_later origin n (suc n) (held_older path n mode origin before) (omega arith)
    | inr here ↦ elim here.how [
      | inl made ↦ ap (λ o. is_older o (suc n)) made.1 ∙ lt-ltb n (suc n) (omega arith)
      | inr gift ↦
          let may = given_within n here.entry gift.gives mode origin here.stands gift.is gift.may in
          older_later origin n (suc n) (held_older here.entry.path n mode origin may) (omega arith)
    ]
  ]

module _ (s : Script) (lawful : IsLawful s) (p : Progress) (gives : List OriginGive) (next : next_deed s p ≡ Some (deed.Spawn gives)) where
  -- only the spawn itself makes this child
  made_once : (v : ℕ) (entry : Entry) → slice_get s.entries v ≡ Some entry → is_spawn entry.deed ≡ true → child_path s entry.path v ≡ child_path s p.path (point s p) → v ≡ point s p
  made_once v entry stands spawns same =
      let t = point s p in
      let moves = spawn_moves s lawful p gives next in
      let both = same_from_push entry.path p.path (children_before s entry.path v) (children_before s p.path t) same in
      let here : spawn_time s p.path (children_before s p.path t) ≡ Some v =
      ap (λ k. spawn_time s p.path k) (sym both.1) ∙ ap (λ q. spawn_time s q (children_before s entry.path v)) (sym both.0) ∙ spawn_is_next s v entry stands spawns in
      let times : Some v ≡ Some t = sym here ∙ moves.known in
      cc

  -- what the child is given at its spawn are the gives
  same_gives : (v : ℕ) (entry : Entry) (given : List OriginGive) → slice_get s.entries v ≡ Some entry → entry.deed ≡ deed.Spawn given → v ≡ point s p → given ≡ gives
  same_gives v entry given stands does at =
      let step = at_next s p (deed.Spawn gives) next in
      let same = one_entry s (point s p) entry step.entry (ap (slice_get s.entries) (sym at) ∙ stands) step.stands in
      let deeds : deed.Spawn given ≡ deed.Spawn gives = sym does ∙ ap (λ (e : Entry). e.deed) same ∙ step.does in
      cc

  -- What the tasks below a spawn may do with what stood before it, they may by its gives.
  pub below : (v : ℕ) (rest : List ℕ) (mode : Mode) (origin : Origin) → v < end_time s (child_path s p.path (point s p)) → is_older origin (point s p) ≡ true → may_use (holds s (child_path s p.path (point s p) ++ rest) v) mode origin ≡ true → may_use gives mode origin ≡ true
  below zero rest mode origin within old is =
      let none = no_root p.path rest (children_before s p.path (point s p)) in
      absurd (both_ways (may_use [] mode origin) refl (sym (ap (λ b. may_use (cond b (root_holds s) []) mode origin) none) ∙ is))
  below (suc v) rest mode origin within old is =
      let t = point s p in
      let child = child_path s p.path t in
      elim (holds-cases s (child ++ rest) v mode origin is) [
        | inl before ↦ below v rest mode origin (omega arith) old before
        | inr here ↦ elim here.how [
          | inl made ↦
              let own = same_path here.entry.path (child ++ rest) made.0 in
              let after = (spawn_moves s lawful p gives next).all v here.entry rest here.stands own in
              let before = ltb-true v t (ap (λ o. is_older o t) (sym made.1) ∙ old) in
              absurd (omega (arith, after.0, before))
          | inr gift ↦
              let to = same_path (child_path s here.entry.path v) (child ++ rest) gift.to in
              by rest v here.entry gift.gives here.stands gift.is to gift.may (λ front. below v front mode origin (omega arith) old)
        ]
      ]
    where
      by : (rest : List ℕ) (v : ℕ) (entry : Entry) (given : List OriginGive) → slice_get s.entries v ≡ Some entry → entry.deed ≡ deed.Spawn given → child_path s entry.path v ≡ child_path s p.path (point s p) ++ rest → may_use given mode origin ≡ true
          → ((front : List ℕ) → may_use (holds s (child_path s p.path (point s p) ++ front) v) mode origin ≡ true → may_use gives mode origin ≡ true) → may_use gives mode origin ≡ true
      by [] v entry given stands does to may further =
          let at = made_once v entry stands (ap is_spawn does) (to ∙ append-nil (child_path s p.path (point s p))) in
          subst (λ g. may_use g mode origin ≡ true) (same_gives v entry given stands does at) may
      by (y ∷ ys) v entry given stands does to may further =
          let child = child_path s p.path (point s p) in
          let last = last_of y ys in
          let named : entry.path ++ children_before s entry.path v ∷ [] ≡ (child ++ last.front) ++ last.last ∷ [] =
          to ∙ ap (λ q. child ++ q) last.is ∙ sym (append_assoc child last.front (last.last ∷ [])) in
          let both = same_from_push entry.path (child ++ last.front) (children_before s entry.path v) last.last named in
          further last.front (subst (λ q. may_use (holds s q v) mode origin ≡ true) both.0 (given_within s lawful v entry given mode origin stands does may))

  -- before its spawn a child holds nothing
  holds_nothing : (v : ℕ) → v ≤ point s p → holds s (child_path s p.path (point s p)) v ≡ []
  holds_nothing zero within =
      let none = no_root p.path [] (children_before s p.path (point s p)) in
      let path : child_path s p.path (point s p) ++ [] ≡ child_path s p.path (point s p) = append-nil (child_path s p.path (point s p)) in
      ap (λ b. cond b (root_holds s) []) (ap (λ q. pointwise nat_eq q []) (sym path) ∙ none)
  holds_nothing (suc v) within = by (slice_get s.entries v) refl (holds_nothing v (omega arith)) where
    by : (found : Option Entry) → slice_get s.entries v ≡ found → holds s (child_path s p.path (point s p)) v ≡ [] → holds s (child_path s p.path (point s p)) v ++ option_map_or (granted_by s (child_path s p.path (point s p)) v) found [] ≡ []
    by None stands before = append-nil (holds s (child_path s p.path (point s p)) v) ∙ before
    by (Some entry) stands before =
        let child = child_path s p.path (point s p) in
        let moves = spawn_moves s lawful p gives next in
        let own = false_from_ne_true (is_of child entry) (λ is.
        let after = moves.all v entry [] stands (same_path entry.path child is ∙ sym (append-nil child)) in
        absurd (omega (arith, after.0))) in
        let other : is_spawn entry.deed ≡ true → pointwise nat_eq (child_path s entry.path v) child ≡ false =
        λ spawns. false_from_ne_true (pointwise nat_eq (child_path s entry.path v) child) (λ is.
        let at = made_once v entry stands spawns (same_path (child_path s entry.path v) child is) in
        absurd (omega (arith, at))) in
        ap (λ h. holds s child v ++ h) (granted-none (is_of child entry) (pointwise nat_eq (child_path s entry.path v) child) v entry.deed own other)
        ∙ append-nil (holds s child v) ∙ before

  -- and at its first entry it holds its gives
  pub child_holds : holds s (child_path s p.path (point s p)) (point s p + 1) ≡ gives
  child_holds =
      let t = point s p in
      let child = child_path s p.path t in
      let step = at_next s p (deed.Spawn gives) next in
      let to : pointwise nat_eq (child_path s step.entry.path t) child ≡ true = ap (λ q. pointwise nat_eq (child_path s q t) child) step.own ∙ path_is-itself child in
      let here : granted_by s child t step.entry ≡ gives =
      ap (λ d. granted (is_of child step.entry) (pointwise nat_eq (child_path s step.entry.path t) child) t d) step.does
      ∙ ap (λ b. cond b gives []) to in
      let one : t + 1 ≡ suc t = omega arith in
      ap (holds s child) one ∙ holds-next s child t step.entry step.stands ∙ (ap (λ h. h ++ granted_by s child t step.entry) (holds_nothing t (omega arith)) ∙ here)
