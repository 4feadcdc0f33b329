-- How the points of a lawful script move: from entry to entry of a task, and by a spawn.
use Rattle.std.proofs.Common.{◌≡◌, ℕ, zero, suc, ◌+◌, ◌-◌, ◌<◌, ◌≤◌, ◌⊎◌, inl, inr, true, false, nat_lt, List, [], ◌∷◌, ◌++◌, Some, length, sym, ap, subst, ◌∙◌, append_assoc, arith}
use Rattle.std.proofs.lemmas.Bool.{both_ways, false_from_ne_true, cases_Bool, cases_lt, ltb-true}
use Rattle.std.proofs.lemmas.List.{append-nil, same_from_push}
use Rattle.std.proofs.lemmas.Option.{slice_get-get_or, slice_get_within, cond_some}
use Rattle.std.specs.Option.{option_map_or}
use Rattle.std.specs.Prelude.{slice_get}
use Rattle.swan_model.specs.declared.script.Deed.{Deed}
use Rattle.swan_model.specs.declared.script.Deed.TheVariants as deed
use Rattle.swan_model.specs.declared.script.Entry.{Entry}
use Rattle.swan_model.specs.declared.script.OriginGive.{OriginGive}
use Rattle.swan_model.specs.declared.script.Script.{Script}
use Rattle.swan_model.specs.Granted.{child_path, children_before, is_spawn}
use Rattle.swan_model.specs.Lawful.{IsLawful, IsNextPath, of_child, of_parent, of_same}
use Rattle.swan_model.specs.Nested.{spawn_time, IsEntryUnder, IsEntryOf, IsEndOf}
use Rattle.swan_model.specs.Readings.{end_time, next_deed}
use Rattle.swan_model.specs.SerialTime.{Progress, times, time, point}
use Rattle.swan_model.specs.Told.{deed_at}
use Rattle.swan_model.proofs.Lists.{last_of, some_within}
use Rattle.swan_model.proofs.Paths.{not_below-itself}
use Rattle.swan_model.proofs.TaskEntries.{end_at, first_time, last_time, next_time, point_at, point_is, point_over, point_own, spawn_is_next}
use Rattle.swan_model.proofs.Times.{times_rise}

-- the next entry of a frame's task, which does this
pub record IsStepOf (s : Script) (p : Progress) (d : Deed) : Type 0 where
  pub left : p.done < length (times s p.path)
  pub entry : Entry
  pub stands : slice_get s.entries (point s p) ≡ Some entry
  pub own : entry.path ≡ p.path
  pub does : entry.deed ≡ d
  pub at : point s p ≡ time s p.path p.done

-- what stands at a time is what is done there
pub deed_is : (s : Script) (t : ℕ) (entry : Entry) → slice_get s.entries t ≡ Some entry → deed_at s t ≡ entry.deed
deed_is s t entry stands = ap (λ found. option_map_or (λ (e : Entry). e.deed) found deed.Quiet) stands

pub at_next : (s : Script) (p : Progress) (d : Deed) → next_deed s p ≡ Some d → IsStepOf s p d
at_next s p d next =
    let both = cond_some (nat_lt p.done (length (times s p.path))) (deed_at s (point s p)) d next in
    let left = ltb-true p.done (length (times s p.path)) both.0 in
    let own = point_own s p left in
    record { left = left; entry = own.entry; stands = own.stands; own = own.own; does = sym (deed_is s (point s p) own.entry own.stands) ∙ both.1; at = point_is s p left }

-- what a frame does next is what is done at its point
pub does_now : (s : Script) (p : Progress) (d : Deed) → next_deed s p ≡ Some d → deed_at s (point s p) ≡ d
does_now s p d next =
    let step = at_next s p d next in
    deed_is s (point s p) step.entry step.stands ∙ step.does

-- the time of its next entry is the one after those that it has done
pub next_stands : (s : Script) (p : Progress) → p.done < length (times s p.path) → slice_get (times s p.path) p.done ≡ Some (point s p)
next_stands s p left = slice_get-get_or (times s p.path) p.done 0 left ∙ ap Some (sym (point_is s p left))

-- a frame that has done all stands after its task's last entry
pub point_end : (s : Script) (p : Progress) → p.done ≡ length (times s p.path) → 0 < length (times s p.path) → point s p ≡ end_time s p.path
point_end s p all some = point_over s p (omega arith)

-- the more a task has done, the later it stands
pub point_rises : (s : Script) (path : List ℕ) (before after : Progress) → before.path ≡ path → after.path ≡ path → before.done < after.done → after.done ≤ length (times s path) → point s before < point s after
point_rises s path before after one two less within =
    let many : length (times s before.path) ≡ length (times s path) = ap (λ p. length (times s p)) one in
    let more : length (times s after.path) ≡ length (times s path) = ap (λ p. length (times s p)) two in
    let here = point_is s before (omega (arith, many)) in
    let from : time s before.path before.done ≡ time s path before.done = ap (λ p. time s p before.done) one in
    elim (cases_lt after.done (length (times s after.path))) [
      | inl left ↦
          let there = point_is s after left in
          let to : time s after.path after.done ≡ time s path after.done = ap (λ p. time s p after.done) two in
          let rise = times_rise s path before.done after.done less (omega (arith, more)) in
          omega (arith, here, there, from, to, rise)
      | inr over ↦
          let there = point_over s after over in
          let last : end_time s after.path ≡ end_time s path = ap (end_time s) two in
          elim (cases_lt before.done (length (times s path) - 1)) [
            | inl earlier ↦
                let rise = times_rise s path before.done (length (times s path) - 1) earlier (omega (arith, within)) in
                omega (arith, here, there, from, last, rise)
            | inr latest ↦
                let index : before.done ≡ length (times s path) - 1 = omega (arith, more, many) in
                let same : time s path before.done ≡ time s path (length (times s path) - 1) = ap (time s path) index in
                omega (arith, here, there, from, last, same)
          ]
    ]

-- what an entry of a task is to those who look from above
pub own_under : (s : Script) (path : List ℕ) (t : ℕ) → IsEntryOf s path t → IsEntryUnder s path t
own_under s path t own = record { entry = own.entry; stands = own.stands; rest = []; under = own.own ∙ sym (append-nil path) }

-- two entries at one time are the same
pub one_entry : (s : Script) (t : ℕ) (e f : Entry) → slice_get s.entries t ≡ Some e → slice_get s.entries t ≡ Some f → e ≡ f
one_entry s t e f is also = let same : Some e ≡ Some f = sym is ∙ also in cc

-- whose entry comes next, by what the entry before it does
after_spawn : (s : Script) (n : ℕ) (entry : Entry) (path : List ℕ) → IsNextPath s n entry path → is_spawn entry.deed ≡ true → path ≡ child_path s entry.path n
after_spawn s n entry path (of_child spawns stays is) spawning = is
after_spawn s n entry path (of_parent quiet ends child is) spawning = absurd (both_ways (is_spawn entry.deed) quiet spawning)
after_spawn s n entry path (of_same quiet stays is) spawning = absurd (both_ways (is_spawn entry.deed) quiet spawning)

after_quiet : (s : Script) (n : ℕ) (entry : Entry) (path : List ℕ) → IsNextPath s n entry path → is_spawn entry.deed ≡ false → entry.ends ≡ false → path ≡ entry.path
after_quiet s n entry path (of_child spawns stays is) quiet on = absurd (both_ways (is_spawn entry.deed) quiet spawns)
after_quiet s n entry path (of_parent still ends child is) quiet on = absurd (both_ways entry.ends on ends)
after_quiet s n entry path (of_same still stays is) quiet on = is

after_end : (s : Script) (n : ℕ) (entry : Entry) (path : List ℕ) → IsNextPath s n entry path → entry.ends ≡ true → (child : ℕ) × (entry.path ≡ path ++ child ∷ [])
after_end s n entry path (of_child spawns stays is) ends = absurd (both_ways entry.ends stays ends)
after_end s n entry path (of_parent quiet over child is) ends = (child, is)
after_end s n entry path (of_same quiet stays is) ends = absurd (both_ways entry.ends stays ends)

module _ (s : Script) (lawful : IsLawful s) where
  -- no task ends by a spawn
  pub spawn_stays : (t : ℕ) (entry : Entry) → slice_get s.entries t ≡ Some entry → is_spawn entry.deed ≡ true → entry.ends ≡ false
  spawn_stays t entry stands spawns = false_from_ne_true entry.ends (λ ends. elim (lawful.ending t entry stands ends) [
    | inl quiet ↦ both_ways (is_spawn entry.deed) (ap is_spawn quiet) spawns
    | inr pop ↦ both_ways (is_spawn entry.deed) (ap is_spawn pop.1) spawns
  ])

  -- after an entry that isn't an end of the root comes another one
  goes_on : (t : ℕ) (entry : Entry) → slice_get s.entries t ≡ Some entry → (IsEndOf s [] t → ⊥) → (other : Entry) × (slice_get s.entries (t + 1) ≡ Some other)
  goes_on t entry stands not = elim (cases_lt (t + 1) (length s.entries)) [
    | inl more ↦ some_within s.entries (t + 1) more
    | inr over ↦
        let within = slice_get_within s.entries t entry stands in
        absurd (not (lawful.last t (omega (arith, within))))
  ]

  -- no entry of a task comes after its end
  own_over : (path : List ℕ) (end : ℕ) → IsEndOf s path end → (v : ℕ) → IsEntryOf s path v → v ≤ end
  own_over path end ends v own = lawful.over path end v ends (own_under s path v own)

  moved-on : (p : Progress) (d : Deed) (step : IsStepOf s p d) → is_spawn d ≡ false → step.entry.ends ≡ false → point s (record p { done = p.done + 1 }) ≡ point s p + 1
  moved-on p d step quiet on =
      let t = point s p in
      let more = goes_on t step.entry step.stands (λ end. both_ways step.entry.ends on (ap (λ (e : Entry). e.ends) (one_entry s t step.entry end.entry step.stands end.stands) ∙ end.ends)) in
      let still : is_spawn step.entry.deed ≡ false = ap is_spawn step.does ∙ quiet in
      let path = after_quiet s t step.entry more.0.path (lawful.next t step.entry more.0 step.stands more.1) still on in
      let own : IsEntryOf s p.path (t + 1) = record { entry = more.0; stands = more.1; own = path ∙ step.own } in
      let next = next_time s p.path p.done t (t + 1) (next_stands s p step.left) own (omega arith) (λ v from below _. omega arith) in
      point_at s (record p { done = p.done + 1 }) (t + 1) next

  moved-over : (p : Progress) (d : Deed) (step : IsStepOf s p d) → step.entry.ends ≡ true → point s (record p { done = p.done + 1 }) ≡ point s p + 1
  moved-over p d step ends =
      let t = point s p in
      let end : IsEndOf s p.path t = record { entry = step.entry; stands = step.stands; own = step.own; ends = ends } in
      let last = own_over p.path t end in
      let many = last_time s p.path p.done t (next_stands s p step.left) last in
      let own : IsEntryOf s p.path t = record { entry = step.entry; stands = step.stands; own = step.own } in
      point_over s (record p { done = p.done + 1 }) (omega (arith, many)) ∙ end_at s p.path t own last

  -- what is no spawn takes a frame to the next time
  pub moved : (p : Progress) (d : Deed) → next_deed s p ≡ Some d → is_spawn d ≡ false → point s (record p { done = p.done + 1 }) ≡ point s p + 1
  moved p d next quiet =
      let step = at_next s p d next in
      elim (cases_Bool step.entry.ends) [
        | inl ends ↦ moved-over p d step ends
        | inr on ↦ moved-on p d step quiet on
      ]

-- what a spawn of this child by a frame's task means for the times
pub record IsSpawnOf (s : Script) (p : Progress) (child : List ℕ) : Type 0 where
  -- the child's first entry comes next
  pub starts : (number : ℕ) → point s (record { number = number; path = child; done = 0 }) ≡ point s p + 1
  pub some : 0 < length (times s child)
  -- after the child comes the parent's next entry
  pub ends : point s (record p { done = p.done + 1 }) ≡ end_time s child
  pub long : point s p + 1 < end_time s child
  -- between the two stand the entries of the child and of those below it, and they stand nowhere else
  pub under : (v : ℕ) (entry : Entry) → point s p < v → v < end_time s child → slice_get s.entries v ≡ Some entry → (rest : List ℕ) × (entry.path ≡ child ++ rest)
  pub all : (v : ℕ) (entry : Entry) (rest : List ℕ) → slice_get s.entries v ≡ Some entry → entry.path ≡ child ++ rest → (point s p < v) × (v < end_time s child)
  pub known : spawn_time s p.path (children_before s p.path (point s p)) ≡ Some (point s p)
  pub stands : (v : ℕ) → v < end_time s child → (entry : Entry) × (slice_get s.entries v ≡ Some entry)

-- a list with an element in it is not empty
not_empty : (xs rest : List ℕ) (x : ℕ) → (xs ++ x ∷ []) ++ rest ≡ [] → ⊥
not_empty [] rest x is = absurd (cc)
not_empty (y ∷ xs) rest x is = absurd (cc)

module _ (s : Script) (lawful : IsLawful s) where
  -- all entries after one time up to another are those of a task and of the tasks below it
  record GoesOn (path : List ℕ) (t last : ℕ) : Type 0 where
    pub each : (v : ℕ) → t < v → v ≤ last → IsEntryUnder s path v

  record HasRun (path : List ℕ) (t : ℕ) : Type 0 where
    pub end : ℕ
    pub after : t < end
    pub ends : IsEndOf s path end
    pub each : (v : ℕ) → t < v → v ≤ end → IsEntryUnder s path v

  goes_on-more : (path : List ℕ) (t last : ℕ) → GoesOn path t last → IsEntryUnder s path (last + 1) → GoesOn path t (last + 1)
  goes_on-more path t last on here =
      record {
        each = λ v after within. elim (cases_lt v (last + 1)) [
          | inl before ↦ on.each v after (omega arith)
          | inr at ↦
              let same : last + 1 ≡ v = omega arith in
              subst (IsEntryUnder s path) same here
        ];
      }

  -- after an entry of a task below a child comes another one there, or the child has ended
  next-under : (parent : List ℕ) (child u : ℕ) → IsEntryUnder s (parent ++ child ∷ []) u → IsEntryUnder s (parent ++ child ∷ []) (u + 1) ⊎ IsEndOf s (parent ++ child ∷ []) u
  next-under parent child u under =
      let path = parent ++ child ∷ [] in
      let more = goes_on s lawful u under.entry under.stands (λ end.
      not_empty parent under.rest child (sym under.under ∙ ap (λ (e : Entry). e.path) (one_entry s u under.entry end.entry under.stands end.stands) ∙ end.own)) in
      let next = lawful.next u under.entry more.0 under.stands more.1 in
      by under.rest under.under more.0 more.1 next
    where
      up : (rest : List ℕ) (other : Entry) (x : ℕ) → under.entry.path ≡ (parent ++ child ∷ []) ++ rest → slice_get s.entries (u + 1) ≡ Some other → under.entry.path ≡ other.path ++ x ∷ [] → under.entry.ends ≡ true → IsEntryUnder s (parent ++ child ∷ []) (u + 1) ⊎ IsEndOf s (parent ++ child ∷ []) u
      up [] other x own stands above ends =
          inr (record { entry = under.entry; stands = under.stands; own = own ∙ append-nil (parent ++ child ∷ []); ends = ends })
      up (y ∷ ys) other x own stands above ends =
          let last = last_of y ys in
          let named : ((parent ++ child ∷ []) ++ last.front) ++ last.last ∷ [] ≡ other.path ++ x ∷ [] =
          append_assoc (parent ++ child ∷ []) last.front (last.last ∷ []) ∙ ap (λ p. (parent ++ child ∷ []) ++ p) (sym last.is) ∙ sym own ∙ above in
          let both = same_from_push ((parent ++ child ∷ []) ++ last.front) other.path last.last x named in
          inl (record { entry = other; stands = stands; rest = last.front; under = sym both.0 })

      by : (rest : List ℕ) → under.entry.path ≡ (parent ++ child ∷ []) ++ rest → (other : Entry) → slice_get s.entries (u + 1) ≡ Some other → IsNextPath s u under.entry other.path → IsEntryUnder s (parent ++ child ∷ []) (u + 1) ⊎ IsEndOf s (parent ++ child ∷ []) u
      by rest own other stands (of_child spawns stays is) =
          let k = children_before s under.entry.path u in
          inl (record { entry = other; stands = stands; rest = rest ++ k ∷ []; under = is ∙ ap (λ p. p ++ k ∷ []) own ∙ append_assoc (parent ++ child ∷ []) rest (k ∷ []) })
      by rest own other stands (of_same quiet stays is) =
          inl (record { entry = other; stands = stands; rest = rest; under = is ∙ own })
      by rest own other stands (of_parent quiet ends x above) = up rest other x own stands above ends

  -- so the child runs to its end, or on and on
  runs : (parent : List ℕ) (child t : ℕ) → IsEntryUnder s (parent ++ child ∷ []) (t + 1) → (many : ℕ) → HasRun (parent ++ child ∷ []) t ⊎ GoesOn (parent ++ child ∷ []) t (t + 1 + many)
  runs parent child t first zero =
      inr (record {
        each = λ v after within.
            let same : t + 1 ≡ v = omega arith in
            subst (IsEntryUnder s (parent ++ child ∷ [])) same first;
      })
  runs parent child t first (suc many) = elim (runs parent child t first many) [
    | inl run ↦ inl run
    | inr on ↦ elim (next-under parent child (t + 1 + many) (on.each (t + 1 + many) (omega arith) (omega arith))) [
      | inl more ↦
          let same : t + 1 + many + 1 ≡ t + 1 + suc many = omega arith in
          inr (subst (GoesOn (parent ++ child ∷ []) t) same (goes_on-more (parent ++ child ∷ []) t (t + 1 + many) on more))
      | inr ends ↦ inl (record { end = t + 1 + many; after = omega arith; ends = ends; each = on.each })
    ]
  ]

  has_run : (parent : List ℕ) (child t : ℕ) → IsEntryUnder s (parent ++ child ∷ []) (t + 1) → HasRun (parent ++ child ∷ []) t
  has_run parent child t first = elim (runs parent child t first (length s.entries)) [
    | inl run ↦ run
    | inr on ↦
        let last = t + 1 + length s.entries in
        let far = on.each last (omega arith) (omega arith) in
        let within = slice_get_within s.entries last far.entry far.stands in
        absurd (omega (arith, within))
  ]

  -- an entry below a child is none of its parent
  not_own-under : (parent : List ℕ) (child v : ℕ) → IsEntryUnder s (parent ++ child ∷ []) v → IsEntryOf s parent v → ⊥
  not_own-under parent child v under own =
      let same : under.entry.path ≡ own.entry.path = ap (λ (e : Entry). e.path) (one_entry s v under.entry own.entry under.stands own.stands) in
      not_below-itself parent under.rest child (sym own.own ∙ sym same ∙ under.under ∙ append_assoc parent (child ∷ []) under.rest)

  first_under : (p : Progress) (gives : List OriginGive) (step : IsStepOf s p (deed.Spawn gives)) → IsEntryOf s (child_path s p.path (point s p)) (point s p + 1)
  first_under p gives step =
      let t = point s p in
      let spawns : is_spawn step.entry.deed ≡ true = ap is_spawn step.does in
      let on = spawn_stays s lawful t step.entry step.stands spawns in
      let more = goes_on s lawful t step.entry step.stands (λ end. both_ways step.entry.ends on (ap (λ (e : Entry). e.ends) (one_entry s t step.entry end.entry step.stands end.stands) ∙ end.ends)) in
      let path = after_spawn s t step.entry more.0.path (lawful.next t step.entry more.0 step.stands more.1) spawns in
      record { entry = more.0; stands = more.1; own = path ∙ ap (λ q. child_path s q t) step.own }

  -- after the end of a child comes an entry of its parent
  parent_next : (parent : List ℕ) (child end : ℕ) → IsEndOf s (parent ++ child ∷ []) end → IsEntryOf s parent (end + 1)
  parent_next parent child end ends =
      let more = goes_on s lawful end ends.entry ends.stands (λ root.
      not_empty parent [] child (append-nil (parent ++ child ∷ []) ∙ sym ends.own ∙ ap (λ (e : Entry). e.path) (one_entry s end ends.entry root.entry ends.stands root.stands) ∙ root.own)) in
      let up = after_end s end ends.entry more.0.path (lawful.next end ends.entry more.0 ends.stands more.1) ends.ends in
      let both = same_from_push parent more.0.path child up.0 (sym ends.own ∙ up.1) in
      record { entry = more.0; stands = more.1; own = sym both.0 }

  path_there : (path : List ℕ) (v : ℕ) (entry : Entry) → IsEntryUnder s path v → slice_get s.entries v ≡ Some entry → (rest : List ℕ) × (entry.path ≡ path ++ rest)
  path_there path v entry here stands =
      (here.rest, ap (λ (e : Entry). e.path) (one_entry s v entry here.entry stands here.stands) ∙ here.under)

  pub spawn_moves : (p : Progress) (gives : List OriginGive) → next_deed s p ≡ Some (deed.Spawn gives) → IsSpawnOf s p (child_path s p.path (point s p))
  spawn_moves p gives next =
      let step = at_next s p (deed.Spawn gives) next in
      let t = point s p in
      let number = children_before s p.path t in
      let child = p.path ++ number ∷ [] in
      let spawns : is_spawn step.entry.deed ≡ true = ap is_spawn step.does in
      let known : spawn_time s p.path number ≡ Some t =
      ap (λ q. spawn_time s q (children_before s q t)) (sym step.own) ∙ spawn_is_next s t step.entry step.stands spawns in
      let first = first_under p gives step in
      let run = has_run p.path number t (own_under s child (t + 1) first) in
      let last = own_over s lawful child run.end run.ends in
      let own_end : IsEntryOf s child run.end = record { entry = run.ends.entry; stands = run.ends.stands; own = run.ends.own } in
      let after : (v : ℕ) → IsEntryUnder s child v → t < v = λ v under. lawful.nested.after p.path number t v known under in
      let end : end_time s child ≡ run.end + 1 = end_at s child run.end own_end last in
      let start = first_time s child (t + 1) first (λ v before own. let late : t < v = after v (own_under s child v own) in absurd (omega arith)) in
      let up = parent_next p.path number run.end run.ends in
      let beyond = next_time s p.path p.done t (run.end + 1) (next_stands s p step.left) up (omega (arith, run.after)) (λ v from below own. not_own-under p.path number v (run.each v from (omega arith)) own) in
      record {
        starts = λ name. point_at s (record { number = name; path = child; done = 0 }) (t + 1) start;
        some = slice_get_within (times s child) 0 (t + 1) start;
        ends = let there = point_at s (record p { done = p.done + 1 }) (run.end + 1) beyond in omega (arith, there, end);
        long = omega (arith, end, run.after);
        under = λ v entry from before stands. path_there child v entry (run.each v from (omega (arith, end))) stands;
        all = λ v entry rest stands under.
            let here : IsEntryUnder s child v = record { entry = entry; stands = stands; rest = rest; under = under } in
            let late = lawful.over child run.end v run.ends here in
            (after v here, omega (arith, end, late));
        known = known;
        stands = λ v before.
            let within = slice_get_within s.entries run.end run.ends.entry run.ends.stands in
            some_within s.entries v (omega (arith, end, within));
      }
