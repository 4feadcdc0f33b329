-- Where the next item of a queue is ripe, all that is pushed to the queue before it is pushed already.
use Rattle.std.proofs.Common.{◌≡◌, ℕ, suc, ◌-◌, ◌<◌, ◌≤◌, inl, inr, Bool, true, false, ◌&&◌, nat_eq, nat_lt, List, [], ◌∷◌, ◌++◌, length, take, Some, refl, sym, ap, subst, ◌∙◌, append_assoc, arith, length-append}
use Rattle.std.proofs.lemmas.Bool.{and_from, and_parts, cases_eq, cases_lt, cases_order, lt-ltb, ltb-true, ne_eqb, not_from_false, or_cases}
use Rattle.std.proofs.lemmas.List.{append-nil}
use Rattle.std.proofs.lemmas.Map.Keys.{any_passes_from_place}
use Rattle.std.specs.Cmp.Lexicographic.{pointwise}
use Rattle.std.specs.List.{list_any, list_all}
use Rattle.std.specs.Option.{option_map_or}
use Rattle.std.specs.Prelude.{filter, not, slice_get}
use Rattle.swan_model.specs.declared.origin.Origin.{Origin}
use Rattle.swan_model.specs.declared.origin.Origin.TheVariants.{Step}
use Rattle.swan_model.specs.declared.rights.Mode.TheVariants.{Push}
use Rattle.swan_model.specs.declared.script.Entry.{Entry}
use Rattle.swan_model.specs.declared.script.Script.{Script}
use Rattle.swan_model.specs.Granted.{holds, may_use}
use Rattle.swan_model.specs.Lawful.{IsLawful}
use Rattle.swan_model.specs.Nested.{HasTasks, IsEntryOf, IsEntryUnder, spawn_time}
use Rattle.swan_model.specs.Ripe.{is_push_to, is_ripe, may_push_too, push_time}
use Rattle.swan_model.specs.SerialTime.{Progress, Reading, is_done, is_of, is_past, point, time, times}
use Rattle.swan_model.specs.Told.{first_items, pushed, taken}
use Rattle.serial_elision.specs.Laws.{HasActive}
use Rattle.serial_elision.proofs.Holders.{IsHeldSince, before_it, made_since, held_at, known_above, IsPushedFrom, from_above, made_below, pushed_from}
use Rattle.serial_elision.proofs.ItemsTold.{le-taken}
use Rattle.serial_elision.proofs.MadeAbove.{made_above}
use Rattle.swan_model.proofs.Paths.{path_is-itself}
use Rattle.swan_model.proofs.Places.{passing, passing-more, passing-rises, placed}
use Rattle.swan_model.proofs.Points.{IsPast, past_above, same_frame, done_by}
use Rattle.swan_model.proofs.TaskEntries.{point_own, spawn_own, point_over}
use Rattle.serial_elision.proofs.RipeStays.{done_under, IsPushAt, push-at}
use Rattle.swan_model.proofs.Times.{times_rise, times_all}
use Rattle.swan_model.proofs.Elements.{filtered_each, one_if}
use Rattle.swan_model.proofs.ScriptDeeds.{push-right}
use Rattle.swan_model.proofs.ScriptCounts.{more-pushed}

-- ---- what is done, and what is left

-- an entry of a frame's task is done where the frame has come past it
done-past : (s : Script) (r : Reading) (u : ℕ) (entry : Entry) (index : ℕ) (frame : Progress) → slice_get s.entries u ≡ Some entry → slice_get r.frames index ≡ Some frame → entry.path ≡ frame.path → u < point s frame → is_done s r u ≡ true
done-past s r u entry index frame at stands own past =
    let mine : is_of frame.path entry ≡ true = ap (λ p. pointwise nat_eq p frame.path) own ∙ path_is-itself frame.path in
    ap (λ o. option_map_or (λ e. list_any (is_past s u e) r.frames) o false) at
    ∙ any_passes_from_place (is_past s u entry) r.frames index frame stands (and_from (is_of frame.path entry) (nat_lt u (point s frame)) mine (lt-ltb u (point s frame) past))

-- where a frame has an entry from its point on, it has one left
left-by : (s : Script) (frame : Progress) (u : ℕ) → IsEntryOf s frame.path u → point s frame ≤ u → frame.done < length (times s frame.path)
left-by s frame u own late = elim (cases_lt frame.done (length (times s frame.path))) [
  | inl left ↦ left
  | inr over ↦
      let passes : is_of frame.path own.entry ≡ true = ap (λ p. pointwise nat_eq p frame.path) own.own ∙ path_is-itself frame.path in
      let place = times_all s frame.path u own.entry own.stands passes in
      let here : time s frame.path place.0 ≡ u = place.2 in
      let last = length (times s frame.path) - 1 in
      let end = point_over s frame over in
      elim (cases_order place.0 last) [
        | inl same ↦
            let e : time s frame.path place.0 ≡ time s frame.path last = ap (time s frame.path) same in
            absurd (omega (arith, here, e, end, late))
        | inr differ ↦ elim differ [
          | inl less ↦
              let rise = times_rise s frame.path place.0 last less (omega (arith, place.1)) in
              absurd (omega (arith, here, rise, end, late))
          | inr more ↦ absurd (omega (arith, place.1))
        ]
      ]
]

-- ---- how many are pushed

length-pushed : (queue : Origin) (es : List Entry) → length (pushed queue es) ≡ length (filter (λ (entry : Entry). is_push_to queue entry.deed) es)
length-pushed queue [] = refl
length-pushed queue (entry ∷ es) =
    more-pushed queue entry.deed (pushed queue es) entry (filter (λ (e : Entry). is_push_to queue e.deed) es) (length-pushed queue es)

-- no item that is pushed from a frame's point on comes before the next one that it takes
none-since : (s : Script) (queue : Origin) (n t u : ℕ) → IsPushAt s queue u → n ≤ u → u < t → length (first_items s queue) ≤ taken s queue n → push_time s queue (taken s queue n) ≡ Some t → ⊥
none-since s queue n t u push late less more at =
    let test : Entry → Bool = λ entry. is_push_to queue entry.deed in
    let found = placed test 0 s.entries (taken s queue n - length (first_items s queue)) t at in
    let here : found.i ≡ t = omega (arith, found.is) in
    let before : passing test t s.entries ≡ taken s queue n - length (first_items s queue) = ap (λ k. passing test k s.entries) (sym here) ∙ found.before in
    let come = length-append (first_items s queue) (pushed queue (take n s.entries)) in
    let count = length-pushed queue (take n s.entries) in
    let rise = passing-rises test s.entries n u late in
    let one : one_if (test push.entry) ≡ 1 = ap one_if push.pushes in
    let next = passing-more test s.entries u push.entry push.stands in
    let last = passing-rises test s.entries (suc u) t (omega arith) in
    omega (arith, le-taken s queue n, come, count, rise, one, next, last, before)

module _ (s : Script) (r : Reading) (lawful : IsLawful s) (tasks : HasTasks s r) (active : List Progress) (whole : HasActive s r active) (frame : Progress) (i : ℕ) (is_active : slice_get active i ≡ Some frame) (queue : Origin) (t : ℕ) (push : IsPushAt s queue t) (done : is_done s r t ≡ true)
    (others : list_all (λ (other : Progress). nat_lt t (point s other)) (filter (may_push_too s frame queue) active) ≡ true)
    (more : length (first_items s queue) ≤ taken s queue (point s frame)) (next : push_time s queue (taken s queue (point s frame)) ≡ Some t) (u : ℕ) (earlier : IsPushAt s queue u) (less : u < t) where
  pushes : may_use (holds s push.entry.path t) Push queue ≡ true
  pushes = push-right queue (holds s push.entry.path t) push.entry.deed push.pushes (lawful.within t push.entry push.stands)

  -- no frame that may push to the queue at its point has a push left before the item
  held-none : (index n : ℕ) (other : Progress) → slice_get r.frames index ≡ Some other → other.done < length (times s other.path) → point s other ≤ n → n ≤ u → may_use (holds s other.path (point s other)) Push queue ≡ true → ⊥
  held-none index n other stands left late early may =
      let at = whole.left index other stands left in
      elim (cases_eq other.number frame.number) [
        | inl same ↦
            let it : other ≡ frame = whole.numbers at.0 i other frame at.1 is_active same in
            let e : point s other ≡ point s frame = ap (point s) it in
            none-since s queue (point s frame) t u earlier (omega (arith, late, early, e)) less more next
        | inr apart ↦
            let differ : not (nat_eq other.number frame.number) ≡ true = not_from_false (nat_eq other.number frame.number) (ne_eqb other.number frame.number apart) in
            let also = and_from (not (nat_eq other.number frame.number)) (may_use (holds s other.path (point s other)) Push queue) differ may in
            let before = ltb-true t (point s other) (filtered_each (may_push_too s frame queue) (λ x. nat_lt t (point s x)) active at.0 other others at.1 also) in
            omega (arith, before, late, early, less)
      ]

  -- nor has one that has still to make the queue
  made-none : (index m : ℕ) (other : Progress) → slice_get r.frames index ≡ Some other → other.done < length (times s other.path) → point s other ≤ m → queue ≡ Step m → IsEntryOf s other.path m → ⊥
  made-none index m other stands left late made own =
      let may : may_use (holds s push.entry.path t) Push (Step m) ≡ true = subst (λ o. may_use (holds s push.entry.path t) Push o ≡ true) made pushes in
      let above = made_above s lawful t push.entry.path Push m may in
      let both : Some above.entry ≡ Some own.entry = sym above.stands ∙ own.stands in
      let maker : above.entry.path ≡ other.path = let e : above.entry ≡ own.entry = cc in ap (λ (x : Entry). x.path) e ∙ own.own in
      let early = done_under s r lawful tasks index other stands left t push.entry above.rest push.stands done (above.under ∙ ap (λ p. p ++ above.rest) maker) in
      omega (arith, above.earlier, early, late)

  blocked : (index n : ℕ) (other : Progress) → slice_get r.frames index ≡ Some other → other.done < length (times s other.path) → point s other ≤ n → n ≤ u → may_use (holds s other.path n) Push queue ≡ true → ⊥
  blocked index n other stands left late early may =
      by (held_at s lawful other.path (point s other) n queue (point_own s other left) late may)
    where
      by : IsHeldSince s other.path (point s other) n queue → ⊥
      by (before_it held) = held-none index n other stands left late early held
      by (made_since m since made own) = made-none index m other stands left since made own

  -- a child whose spawn is still to come is above no frame
  still-unspawned : (index k : ℕ) (other : Progress) (child : ℕ) → slice_get r.frames index ≡ Some other → spawn_time s other.path child ≡ Some k → point s other ≤ k → IsPast s r tasks other.path child → ⊥
  still-unspawned index k other child stands known late past =
      let same : past.parent ≡ other = same_frame s r tasks past.index index past.parent other past.stands stands past.own in
      let point_same : point s past.parent ≡ point s other = ap (point s) same in
      let equal : Some past.spawn ≡ Some k = sym past.known ∙ known in
      let e : past.spawn ≡ k = cc in
      omega (arith, past.past, point_same, late, e)

  -- nor has a child that is still to be spawned made the queue
  below-none : (index k : ℕ) (other : Progress) (child m : ℕ) (entry : Entry) (rest : List ℕ) → slice_get r.frames index ≡ Some other → spawn_time s other.path child ≡ Some k → point s other ≤ k → queue ≡ Step m → slice_get s.entries m ≡ Some entry → entry.path ≡ other.path ++ child ∷ rest → ⊥
  below-none index k other child m entry rest stands known late made at own =
      let may : may_use (holds s push.entry.path t) Push (Step m) ≡ true = subst (λ o. may_use (holds s push.entry.path t) Push o ≡ true) made pushes in
      let above = made_above s lawful t push.entry.path Push m may in
      let both : Some above.entry ≡ Some entry = sym above.stands ∙ at in
      let maker : above.entry.path ≡ other.path ++ child ∷ rest = let e : above.entry ≡ entry = cc in ap (λ (x : Entry). x.path) e ∙ own in
      let by = done_by s r t push.entry push.stands done in
      let path : by.frame.path ≡ other.path ++ child ∷ (rest ++ above.rest) =
      by.own ∙ above.under ∙ ap (λ p. p ++ above.rest) maker ∙ append_assoc other.path (child ∷ rest) above.rest in
      still-unspawned index k other child stands known late
      (past_above s r tasks (length (rest ++ above.rest)) other.path (rest ++ above.rest) child by.index by.frame refl by.stands path)

  may-earlier : may_use (holds s earlier.entry.path u) Push queue ≡ true
  may-earlier = push-right queue (holds s earlier.entry.path u) earlier.entry.deed earlier.pushes (lawful.within u earlier.entry earlier.stands)

  unspawned : (index : ℕ) (other : Progress) (child k : ℕ) (rest : List ℕ) → slice_get r.frames index ≡ Some other → earlier.entry.path ≡ other.path ++ child ∷ rest → spawn_time s other.path child ≡ Some k → point s other ≤ k → ⊥
  unspawned index other child k rest stands is known late =
      by (pushed_from s lawful u earlier.entry.path other.path child rest queue may-earlier is)
    where
      own : IsEntryOf s other.path k
      own = spawn_own s other.path child k known

      under : IsEntryUnder s (other.path ++ child ∷ []) u
      under = record { entry = earlier.entry; stands = earlier.stands; rest = rest; under = is ∙ sym (append_assoc other.path (child ∷ []) rest) }

      by : IsPushedFrom s other.path child queue → ⊥
      by (from_above spawn also may) =
          let both : Some spawn ≡ Some k = sym also ∙ known in
          let e : spawn ≡ k = cc in
          let after : k < u = lawful.nested.after other.path child k u known under in
          blocked index k other stands (left-by s other k own late) late (omega arith) (subst (λ n. may_use (holds s other.path n) Push queue ≡ true) e may)
      by (made_below m made entry at rest' path) = below-none index k other child m entry rest' stands known late made at path

  -- so the earlier push is done: down from the frame of the root to that of its task
  down : (rest : List ℕ) (index : ℕ) (other : Progress) → slice_get r.frames index ≡ Some other → earlier.entry.path ≡ other.path ++ rest → is_done s r u ≡ true
  down [] index other stands is =
      let own : earlier.entry.path ≡ other.path = is ∙ append-nil other.path in
      elim (cases_lt u (point s other)) [
        | inl past ↦ done-past s r u earlier.entry index other earlier.stands stands own past
        | inr late ↦
            let left = left-by s other u (record { entry = earlier.entry; stands = earlier.stands; own = own }) late in
            absurd (blocked index u other stands left late (omega arith) (subst (λ p. may_use (holds s p u) Push queue ≡ true) own may-earlier))
      ]
  down (child ∷ rest) index other stands is =
      let known = known_above s lawful u earlier.entry other.path child rest earlier.stands is in
      let spawn = spawn_own s other.path child known.spawn known.is in
      elim (cases_lt known.spawn (point s other)) [
        | inl past ↦
            let below = whole.children other.path child known.spawn known.is (done-past s r known.spawn spawn.entry index other spawn.stands stands spawn.own past) in
            let path : earlier.entry.path ≡ below.1.path ++ rest = is ∙ sym (append_assoc other.path (child ∷ []) rest) ∙ ap (λ p. p ++ rest) (sym below.3) in
            down rest below.0 below.1 below.2 path
        | inr late ↦ absurd (unspawned index other child known.spawn rest stands is known.is late)
      ]

  pub earlier_done : is_done s r u ≡ true
  earlier_done =
      let root = whole.root in
      down earlier.entry.path root.0 root.1 root.2 (ap (λ p. p ++ earlier.entry.path) (sym root.3))

pub ripe_before : (s : Script) (r : Reading) (active : List Progress) (frame : Progress) (queue : Origin) (i t u : ℕ) (entry : Entry) → IsLawful s → HasTasks s r → HasActive s r active → slice_get active i ≡ Some frame → is_ripe s r active frame queue ≡ true → length (first_items s queue) ≤ taken s queue (point s frame) → push_time s queue (taken s queue (point s frame)) ≡ Some t → slice_get s.entries u ≡ Some entry → is_push_to queue entry.deed ≡ true → u < t → is_done s r u ≡ true
ripe_before s r active frame queue i t u entry lawful tasks whole is_active ripe more next stands pushes less =
    let index = taken s queue (point s frame) in
    let first = nat_lt index (length (first_items s queue)) in
    let all = λ (time : ℕ). list_all (λ (other : Progress). nat_lt time (point s other)) (filter (may_push_too s frame queue) active) in
    let pushed = option_map_or (λ time. is_done s r time && all time) (push_time s queue index) false in
    elim (or_cases first pushed ripe) [
      | inl early ↦ let below = ltb-true index (length (first_items s queue)) early in absurd (omega (arith, below, more))
      | inr is ↦
          let both = and_parts (is_done s r t) (all t) (ap (λ o. option_map_or (λ time. is_done s r time && all time) o false) (sym next) ∙ is) in
          let push = push-at s queue index t next in
          let earlier : IsPushAt s queue u = record { entry = entry; stands = stands; pushes = pushes } in
          earlier_done s r lawful tasks active whole frame i is_active queue t push both.0 both.1 more next u earlier less
    ]
