-- The order of a tree of frames is the serial order.
use Rattle.std.proofs.Common.{inl, inr, ◌≡◌, ◌≢◌, ℕ, ◌<◌, true, Some, List, [], ◌∷◌, ◌++◌, sym, ap, subst, ◌∙◌, append_assoc, arith}
use Rattle.std.proofs.lemmas.Bool.{cases_eq, lt-ltb, ltb-true}
use Rattle.std.proofs.lemmas.List.{append-nil}
use Rattle.swan_model.specs.declared.script.Script.{Script}
use Rattle.swan_model.specs.Nested.{spawn_time, IsEntryUnder, IsNested}
use Rattle.swan_model.specs.SerialTime.{Progress, Reading, frame_of, point, is_earlier}
use Rattle.pop_order.specs.Frames.{Frames}
use Rattle.pop_order.specs.Order.{IsChild, IsAtOrBelow, at, below, ComesBefore, inside, aside}
use Rattle.pop_order.specs.Readings.{IsAt, HasOrderOf}
use Rattle.pop_order.proofs.Before.{one_is_before}
use Rattle.pop_order.proofs.Lineage.{through}
use Rattle.swan_model.proofs.TaskEntries.{point_own, spawn_own}
use Rattle.swan_model.proofs.Points.{spawns_rise}

module _ (s : Script) (r : Reading) where
  same_progress : (n : ℕ) (a b : IsAt s r n) → a.progress ≡ b.progress
  same_progress n a b = let e : Some a.progress ≡ Some b.progress = sym a.known ∙ b.known in cc

module _ (frames : Frames) (s : Script) (r : Reading) (nested : IsNested s) (read : HasOrderOf frames s r) where
  is_there : (c n : ℕ) → IsAt s r c → IsAtOrBelow frames c n → IsAt s r n
  is_there c n a at = a
  is_there c n a (below parent _ child q) = (read.spawned parent n child).here

  -- the path of a frame begins with that of a frame above it
  path_under : (c n : ℕ) (a : IsAt s r c) (b : IsAt s r n) → IsAtOrBelow frames c n → (rest : List ℕ) × (b.progress.path ≡ a.progress.path ++ rest)
  path_under c n a b at = ([], ap (λ (p : Progress). p.path) (same_progress s r c b a) ∙ sym (append-nil a.progress.path))
  path_under c n a b (below parent _ child q) =
      let sp = read.spawned parent n child in
      let up = path_under c parent a sp.above q in (
        up.0 ++ sp.index ∷ [],
        ap (λ (p : Progress). p.path) (same_progress s r n b sp.here) ∙ sp.path
            ∙ ap (λ (xs : List ℕ). xs ++ sp.index ∷ []) up.1 ∙ append_assoc a.progress.path up.0 (sp.index ∷ []),
      )

  -- the next step of a frame at or below a child, as an entry below the child's parent
  under_child : (p c n : ℕ) (child : IsChild frames p c) (b : IsAt s r n) → IsAtOrBelow frames c n
      → IsEntryUnder s ((read.spawned p c child).above.progress.path ++ (read.spawned p c child).index ∷ []) (point s b.progress)
  under_child p c n child b q =
      let sp = read.spawned p c child in
      let own = point_own s b.progress b.left in
      let rest = path_under c n sp.here b q in
      record { entry = own.entry; stands = own.stands; rest = rest.0; under = own.own ∙ rest.1 ∙ ap (λ (xs : List ℕ). xs ++ rest.0) sp.path }

  inside_first : (n m : ℕ) (a : IsAt s r n) (b : IsAt s r m) → n ≢ m → IsAtOrBelow frames m n → point s a.progress < point s b.progress
  inside_first n m a b apart q =
      let step = through frames m n q apart in
      let sp = read.spawned m step.0 step.1 in
      let P : Progress → Type 0 = λ p. point s a.progress < point s p in
      subst P (same_progress s r m sp.above b)
      (nested.whole sp.above.progress.path sp.index sp.spawn (point s a.progress) (point s sp.above.progress) sp.spawned
      (under_child m step.0 n step.1 a step.2) (point_own s sp.above.progress sp.above.left) sp.done)

  aside_first : (p older younger n m : ℕ) (c : IsChild frames p older) (d : IsChild frames p younger) (a : IsAt s r n) (b : IsAt s r m)
      → older < younger → IsAtOrBelow frames older n → IsAtOrBelow frames younger m → point s a.progress < point s b.progress
  aside_first p older younger n m c d a b lt x y =
      let one = read.spawned p older c in
      let two = read.spawned p younger d in
      let path : two.above.progress.path ≡ one.above.progress.path = ap (λ (q : Progress). q.path) (same_progress s r p two.above one.above) in
      let P : List ℕ → Type 0 = λ q. spawn_time s q two.index ≡ Some two.spawn in
      let spawned = subst P path two.spawned in
      let order = spawns_rise s one.above.progress.path one.index two.index one.spawn two.spawn (read.siblings p older younger c d lt) one.spawned spawned in
      let before = nested.whole one.above.progress.path one.index one.spawn (point s a.progress) two.spawn one.spawned
      (under_child p older n c a x) (spawn_own s one.above.progress.path two.index two.spawn spawned) order in
      let later = nested.after two.above.progress.path two.index two.spawn (point s b.progress) two.spawned (under_child p younger m d b y) in
      omega arith

  -- both have an entry left
  there_first : (n m : ℕ) → ComesBefore frames n m → IsAt s r n
  there_first n m (inside apart up) = let step = through frames m n up apart in is_there step.0 n (read.spawned m step.0 step.1).here step.2
  there_first n m (aside p older younger c d lt x y) = is_there older n (read.spawned p older c).here x

  there_second : (n m : ℕ) → ComesBefore frames n m → IsAt s r m
  there_second n m (inside apart up) = let step = through frames m n up apart in (read.spawned m step.0 step.1).above
  there_second n m (aside p older younger c d lt x y) = is_there younger m (read.spawned p younger d).here y

  points_rise : (n m : ℕ) (a : IsAt s r n) (b : IsAt s r m) → ComesBefore frames n m → point s a.progress < point s b.progress
  points_rise n m a b (inside apart up) = inside_first n m a b apart up
  points_rise n m a b (aside p older younger c d lt x y) = aside_first p older younger n m c d a b lt x y

  earlier_points : (n m : ℕ) (a b : Progress) → ComesBefore frames n m → frame_of r n ≡ Some a → frame_of r m ≡ Some b → is_earlier s a b ≡ true
  earlier_points n m a b before h k =
      let x = there_first n m before in
      let y = there_second n m before in
      let e : Some x.progress ≡ Some a = sym x.known ∙ h in
      let f : Some y.progress ≡ Some b = sym y.known ∙ k in
      let one : x.progress ≡ a = cc in
      let two : y.progress ≡ b = cc in
      let P : Progress → Type 0 = λ p. is_earlier s p b ≡ true in
      let Q : Progress → Type 0 = λ p. is_earlier s x.progress p ≡ true in
      subst P one (subst Q two (lt-ltb (point s x.progress) (point s y.progress) (points_rise n m x y before)))

-- who comes before another in a tree is earlier in serial time
pub order_is_serial : (frames : Frames) (s : Script) (r : Reading) → IsNested s → HasOrderOf frames s r → (n m : ℕ) (a b : Progress)
    → ComesBefore frames n m → frame_of r n ≡ Some a → frame_of r m ≡ Some b → is_earlier s a b ≡ true
order_is_serial = earlier_points

-- Of two frames of one tree the one that is earlier in serial time comes before the other.
pub serial_is_order : (frames : Frames) (s : Script) (r : Reading) → IsNested s → HasOrderOf frames s r → (top n m : ℕ) (a b : Progress)
    → IsAtOrBelow frames top n → IsAtOrBelow frames top m → frame_of r n ≡ Some a → frame_of r m ≡ Some b → is_earlier s a b ≡ true
    → ComesBefore frames n m
serial_is_order frames s r nested read top n m a b x y h k earlier =
    let lt = ltb-true (point s a) (point s b) earlier in
    elim (cases_eq n m) [
      | inl same ↦
          let P : ℕ → Type 0 = λ z. frame_of r z ≡ Some a in
          let e : Some a ≡ Some b = sym (subst P same h) ∙ k in
          let one : a ≡ b = cc in
          let Q : Progress → Type 0 = λ p. point s a < point s p in
          let never = subst Q (sym one) lt in
          absurd (omega (arith, never))
      | inr apart ↦ elim (one_is_before frames top n m apart x y) [
        | inl before ↦ before
        | inr after ↦
            let back = ltb-true (point s b) (point s a) (order_is_serial frames s r nested read m n b a after k h) in
            absurd (omega arith)
      ]
    ]
