-- Who sleeps under a frame as it is looked up, and as it changes.
use Rattle.std.proofs.Common.{◌≡◌, ◌≢◌, ◌==◌, ◌&&◌, ◌||◌, ℕ, ◌+◌, ◌<◌, Bool, true, false, cond, Option, Some, None, List, [], ◌∷◌, ◌++◌, All, IfSome, IsSomeAnd, MatchOption, OnOk, Result, inl, inr, length, drop, take, get_or, slice_index_or, vec_len, if◌then◌else◌, suc, refl, sym, ap, subst, ◌∙◌, arith}
use Rattle.std.proofs.Math.Seq.{drop-cons}
use Rattle.std.proofs.lemmas.Bool.Decides.{nat_tests}
use Rattle.std.proofs.lemmas.List.{take-append-drop, take_more}
use Rattle.std.proofs.lemmas.List.Elements.{All-same, All-tail, filter_map-append}
use Rattle.std.proofs.lemmas.List.Folds.{find-append, list_any-append}
use Rattle.std.proofs.lemmas.List.Sorted.{All-permutation, IsPermutation-swap_remove}
use Rattle.std.proofs.lemmas.Option.{slice_get_read}
use Rattle.std.proofs.lemmas.Result.{on_ok_weaker}
use Rattle.std.specs.BTreeMap.{UpdatesBy, get, is_at}
use Rattle.std.specs.List.{filter_map, find, swap_remove}
use Rattle.std.specs.Map.{lookup}
use Rattle.std.specs.Option.{option_or, option_to_list}
use Rattle.std.specs.Ordering.{nat_cmp}
use Rattle.pop_order.specs.Frames.{lets_use}
use Rattle.pop_order.specs.OneChange.{IsOnlyChange}
use Rattle.pop_order.proofs.Holders.{holds_more as holds_one_more}
use Rattle.swan_model.specs.Rights.{allows}
use Rattle.swan_model.specs.SerialState.{Holding}
use Rattle.swan_model.specs.declared.rights.Mode.TheVariants.{Pop, Push}
use Rattle.swan_model.proofs.Lists.{take_next}
use Rattle.swan_model.proofs.Lookups.{untied}
use Rattle.queues.specs.declared.answers.WaitFor.{WaitFor}
use Rattle.task_frames.specs.Asked.{asked_queue}
use Rattle.task_frames.specs.Frames.{FrameView}
use Rattle.swan_runtime.specs.declared.asleep.Asleep.{Asleep}
use Rattle.swan_runtime.specs.declared.sleepers.Popper.{Popper}
use Rattle.swan_runtime.specs.declared.sleepers.Sleepers.{Sleepers}
use Rattle.swan_runtime.specs.Beds.{AreNewSleepers, AreOnlySleepers, HasEntered, HasGoneToBed, HasNoted, HasNotedAt, HasSameNotes, HasSameNotesAt, IsNoted, NoneAwaits, OnlyWoke, OtherSleepersStay, SleepsUnder, before_child, popper_at, poppers_of}
use Rattle.swan_runtime.specs.Shared.{HasTakenIn, sleeper_count, sleepers_at}

-- ---- one place more

one_found : (found : Option ℕ) (P : Holding → Option ℕ) (h : Holding) → found ≡ P h → filter_map P (h ∷ []) ≡ option_to_list found
one_found None P h is = grind arith
one_found (Some x) P h is = grind arith

pub poppers_more : {B Q L E : Type 0} (sleepers : Sleepers B Q L E) (hs : List Holding) (i : ℕ) (h : Holding) (found : Option ℕ) → i < length hs → h ≡ get_or hs i h
    → found ≡ popper_at sleepers h → poppers_of sleepers (take (i + 1) hs) ≡ poppers_of sleepers (take i hs) ++ option_to_list found
poppers_more sleepers hs i h found within is found_is =
    ap (poppers_of sleepers) (take_next hs i h (slice_get_read hs (length hs) i h refl within is)) ∙ filter_map-append (popper_at sleepers) (take i hs) (h ∷ [])
    ∙ ap (λ o. poppers_of sleepers (take i hs) ++ o) (one_found found (popper_at sleepers) h found_is)

at_is : (k q : ℕ) → is_at (nat_cmp k) q ≡ (k == q)
at_is k q = grind (arith, nat_tests)

-- what is noted of a queue, once this place is noted too
chosen : (held own : Bool) (child : ℕ) (first : Option ℕ) → cond own (Some child) (if held then Some child else first) ≡ (if held || ((own && true) || false) then Some child else first)
chosen true true child first = refl
chosen true false child first = refl
chosen false true child first = refl
chosen false false child first = refl

not_chosen : (held own : Bool) → (held || ((own && false) || false)) ≡ held
not_chosen true own = refl
not_chosen false true = refl
not_chosen false false = refl

holds_more : (hs : List Holding) (i : ℕ) (h : Holding) (q : ℕ) → i < length hs → h ≡ get_or hs i h
    → lets_use (take (i + 1) hs) q Pop ≡ (lets_use (take i hs) q Pop || (((h.number == q) && allows h.mode Pop) || false))
holds_more hs i h q within is =
    ap (λ (some : List Holding). lets_use some q Pop) (take_next hs i h (slice_get_read hs (length hs) i h refl within is)) ∙ list_any-append (λ (x : Holding). (x.number == q) && allows x.mode Pop) (take i hs) (h ∷ [])

pub noted_more : (first was now : ℕ → Option ℕ) (child : ℕ) (hs : List Holding) (i : ℕ) (h : Holding) → i < length hs → h ≡ get_or hs i h → allows h.mode Pop ≡ true
    → ((q : ℕ) → was q ≡ (if lets_use (take i hs) q Pop then Some child else first q)) → ((q : ℕ) → now q ≡ cond (is_at (nat_cmp h.number) q) (Some child) (was q))
    → (q : ℕ) → now q ≡ (if lets_use (take (i + 1) hs) q Pop then Some child else first q)
noted_more first was now child hs i h within is pops so moves q =
    moves q ∙ ap (λ b. cond b (Some child) (was q)) (at_is h.number q) ∙ ap (λ o. cond (h.number == q) (Some child) o) (so q)
    ∙ chosen (lets_use (take i hs) q Pop) (h.number == q) child (first q)
    ∙ ap (λ b. if lets_use (take i hs) q Pop || (((h.number == q) && b) || false) then Some child else first q) (sym pops)
    ∙ ap (λ b. if b then Some child else first q) (sym (holds_more hs i h q within is))

pub noted_none : (first was : ℕ → Option ℕ) (child : ℕ) (hs : List Holding) (i : ℕ) (h : Holding) → i < length hs → h ≡ get_or hs i h → allows h.mode Pop ≡ false
    → ((q : ℕ) → was q ≡ (if lets_use (take i hs) q Pop then Some child else first q))
    → (q : ℕ) → was q ≡ (if lets_use (take (i + 1) hs) q Pop then Some child else first q)
noted_none first was child hs i h within is pops so q =
    so q ∙ ap (λ b. if b then Some child else first q)
    (sym (holds_more hs i h q within is ∙ ap (λ b. lets_use (take i hs) q Pop || (((h.number == q) && b) || false)) pops ∙ not_chosen (lets_use (take i hs) q Pop) (h.number == q)))

-- ---- the first that passes

pub found_at : (test : ℕ → Bool) (xs : List ℕ) (i : ℕ) → find test (take i xs) ≡ None → i < length xs → test (get_or xs i 0) ≡ true → find test xs ≡ Some (get_or xs i 0)
found_at test xs i none within passes =
    ap (find test) (sym (take-append-drop i xs)) ∙ find-append test (take i xs) (drop i xs) ∙ ap (λ o. option_or o (find test (drop i xs))) none
    ∙ ap (find test) (drop-cons xs i 0 within) ∙ ap (λ b. cond b (Some (get_or xs i 0)) (find test (drop (suc i) xs))) passes

pub found_later : (test : ℕ → Bool) (xs : List ℕ) (i : ℕ) → find test (take i xs) ≡ None → i < length xs → test (get_or xs i 0) ≡ false → find test (take (i + 1) xs) ≡ None
found_later test xs i none within fails =
    ap (find test) (take_more xs i 0 within) ∙ find-append test (take i xs) (get_or xs i 0 ∷ []) ∙ ap (λ o. option_or o (find test (get_or xs i 0 ∷ []))) none
    ∙ ap (λ b. cond b (Some (get_or xs i 0)) None) fails

-- ---- what stands under frames

module _ {B Q L E : Type 0} where
  pub noted_at : {X F : Type 0} (result : Result X F) (old new : Option (Sleepers B Q L E)) (before after : Sleepers B Q L E) (child : ℕ) (hs : List Holding) → Some before ≡ old → new ≡ Some after
      → OnOk result (HasNoted before after child hs) → OnOk result (HasNotedAt old new child hs)
  noted_at result old new before after child hs was is noted = on_ok_weaker result
      (λ (n : HasNoted before after child hs). subst (λ o. HasNotedAt o new child hs) was (subst (λ o. HasNotedAt (Some before) o child hs) (sym is) n)) noted

  abbrev IsPut : ℕ → (before after : Asleep B Q L E) → (ready left : List (FrameView B L E)) → FrameView B L E → WaitFor → Option (Sleepers B Q L E) → Type 0
  IsPut bed before after ready left frame wait_for at = MatchOption at ((after.sleepers.entries ≡ before.sleepers.entries) × (left ≡ ready ++ frame ∷ []))
      (λ sleepers. SleepsUnder bed sleepers before after frame wait_for × (left ≡ ready))

  pub put_to_bed : {X F : Type 0} (result : Result X F) (found bed : ℕ) (before after : Asleep B Q L E) (ready : List (FrameView B L E)) (frame : FrameView B L E) (wait_for : WaitFor) (asked : Option ℕ)
      (sleepers within : Sleepers B Q L E) → found ≡ bed → asked ≡ asked_queue frame → Some sleepers ≡ sleepers_at before found → AreOnlySleepers before after found (Some within)
      → HasSameNotes sleepers within → OnOk result (HasTakenIn sleepers within frame wait_for asked) → OnOk result (HasGoneToBed bed before after ready ready frame wait_for)
  put_to_bed result found bed before after ready frame wait_for asked sleepers within same about was only notes taken = on_ok_weaker result
      (λ (taken : HasTakenIn sleepers within frame wait_for asked).
      subst (λ (b : ℕ). HasGoneToBed b before after ready ready frame wait_for) same
      (subst (IsPut found before after ready ready frame wait_for) was
      (record { within = within; only = only; taken_in = subst (HasTakenIn sleepers within frame wait_for) about taken; notes = notes }, refl))) taken

  pub left_ready : (found bed : ℕ) (before after : Asleep B Q L E) (ready left : List (FrameView B L E)) (frame : FrameView B L E) (wait_for : WaitFor) → found ≡ bed → None ≡ sleepers_at before found
      → after.sleepers.entries ≡ before.sleepers.entries → left ≡ ready ++ frame ∷ [] → HasGoneToBed bed before after ready left frame wait_for
  left_ready found bed before after ready left frame wait_for equal none same is =
      subst (λ (b : ℕ). HasGoneToBed b before after ready left frame wait_for) equal (subst (IsPut found before after ready left frame wait_for) none (same, is))

  abbrev found_in : List (ℕ × Sleepers B Q L E) → ℕ → Option (Sleepers B Q L E)
  found_in entries number = lookup (is_at (nat_cmp number)) entries

  -- what stands under a frame was written or taken out
  pub only_sleepers : (before after : List (ℕ × Sleepers B Q L E)) (number : ℕ) (sleepers : Option (Sleepers B Q L E)) → found_in after number ≡ sleepers
      → ((other : ℕ) → is_at (nat_cmp number) other ≡ false → found_in after other ≡ found_in before other) → IsOnlyChange (found_in before) (found_in after) number sleepers
  only_sleepers before after number sleepers own others = record { changed = own; others = λ other ne. others other (untied number other ne) }

  pub others_stay : (before after : List (ℕ × Sleepers B Q L E)) (number : ℕ) (sleepers : Option (Sleepers B Q L E)) → IsOnlyChange (found_in before) (found_in after) number sleepers
      → IsOnlyChange (found_in before) (found_in after) number (found_in after number)
  others_stay before after number sleepers only = record { changed = refl; others = only.others }

  pub none_moved : (before after : Asleep B Q L E) (number : ℕ) → after.sleepers.entries ≡ before.sleepers.entries → OtherSleepersStay before after number
  none_moved before after number same = record { changed = refl; others = λ other ne. ap (lookup (is_at (nat_cmp other))) same }

  -- ---- wakes

  abbrev Awaits : ℕ → Popper B Q L E → Type 0
  Awaits queue popper = popper.queue ≢ queue

  -- one was taken out, and the last one came to its place
  pub none_left_more : (queue : ℕ) (poppers left : List (Popper B Q L E)) (i : ℕ) (popper : Popper B Q L E) → i < length poppers → popper ≡ slice_index_or poppers i popper
      → left ≡ swap_remove poppers i popper → All (Awaits queue) poppers → All (Awaits queue) left
  none_left_more queue poppers left i popper within is same are =
      All-same (Awaits queue) left _ same (All-tail (Awaits queue) popper _ (All-permutation (Awaits queue) poppers _ (IsPermutation-swap_remove poppers i popper within is) are))

  pub same_notes : (sleepers : Option (Sleepers B Q L E)) → HasSameNotesAt sleepers sleepers
  same_notes None = refl
  same_notes (Some sleepers) = record { newest = refl; poppers = refl; given_before = refl }

  notes_on : (a b c : Option (Sleepers B Q L E)) → HasSameNotesAt a b → HasSameNotesAt b c → HasSameNotesAt a c
  notes_on None b c first second = lemma b first second where
    lemma : (b : Option (Sleepers B Q L E)) → b ≡ None → HasSameNotesAt b c → c ≡ None
    lemma None is second = second
    lemma (Some sleepers) is second = absurd (cc)
  notes_on (Some x) None c first second = absurd first
  notes_on (Some x) (Some y) None first second = absurd second
  notes_on (Some x) (Some y) (Some z) first second =
      record { newest = second.newest ∙ first.newest; poppers = second.poppers ∙ first.poppers; given_before = second.given_before ∙ first.given_before }

  pub none_woke : (number : ℕ) (before after : Asleep B Q L E) → after.sleepers.entries ≡ before.sleepers.entries → OnlyWoke number before after
  none_woke number before after same = record {
    notes = subst (λ (sleepers : Option (Sleepers B Q L E)). HasSameNotesAt (sleepers_at before number) sleepers) (sym (ap (lookup (is_at (nat_cmp number))) same)) (same_notes (sleepers_at before number));
    none_more = λ queue none. subst (NoneAwaits queue) (sym (ap (lookup (is_at (nat_cmp number))) same)) none;
    others = none_moved before after number same;
  }

  pub woke_on : (number : ℕ) (a b c : Asleep B Q L E) → OnlyWoke number a b → OnlyWoke number b c → OnlyWoke number a c
  woke_on number a b c first second = record {
    notes = notes_on (sleepers_at a number) (sleepers_at b number) (sleepers_at c number) first.notes second.notes;
    none_more = λ queue none. second.none_more queue (first.none_more queue none);
    others = record { changed = refl; others = λ other ne. second.others.others other ne ∙ first.others.others other ne };
  }

  -- under one frame
  pub sleepers_woke : (number : ℕ) (before after : Asleep B Q L E) (was now : Sleepers B Q L E) → Some was ≡ sleepers_at before number → AreOnlySleepers before after number (Some now) → HasSameNotes was now
      → ((queue : ℕ) → NoneAwaits queue (Some was) → NoneAwaits queue (Some now)) → OnlyWoke number before after
  sleepers_woke number before after was now stood only notes none_more = record {
    notes = subst (λ (sleepers : Option (Sleepers B Q L E)). HasSameNotesAt sleepers (sleepers_at after number)) stood (subst (HasSameNotesAt (Some was)) (sym only.changed) notes);
    none_more = λ queue none. subst (NoneAwaits queue) (sym only.changed) (none_more queue (subst (NoneAwaits queue) (sym stood) none));
    others = others_stay before.sleepers.entries after.sleepers.entries number (Some now) only;
  }

  pub woken_there : {X F : Type 0} (result : Result X F) (queue : ℕ) (at : Option (Sleepers B Q L E)) (now : Sleepers B Q L E) → at ≡ Some now → OnOk result (NoneAwaits queue (Some now))
      → OnOk result (NoneAwaits queue at)
  woken_there result queue at now is none = on_ok_weaker result (λ (n : NoneAwaits queue (Some now)). subst (NoneAwaits queue) (sym is) n) none

  pub nobody : (queue : ℕ) (sleepers : Option (Sleepers B Q L E)) → None ≡ sleepers → NoneAwaits queue sleepers
  nobody queue sleepers is = subst (NoneAwaits queue) is (record { each = tt })

  -- one place more of what a child was given
  pub woken_more : (hs : List Holding) (i : ℕ) (h : Holding) (before after : Option (Sleepers B Q L E)) → i < length hs → h ≡ get_or hs i h
      → ((queue : ℕ) → NoneAwaits queue before → NoneAwaits queue after) → ((queue : ℕ) → lets_use (take i hs) queue Push ≡ true → NoneAwaits queue before)
      → (allows h.mode Push ≡ true → NoneAwaits h.number after) → (queue : ℕ) → lets_use (take (i + 1) hs) queue Push ≡ true → NoneAwaits queue after
  woken_more hs i h before after within is still so here queue held = elim (holds_one_more hs i queue Push h within is held) [
    | inl earlier ↦ still queue (so queue earlier)
    | inr now ↦ subst (λ (q : ℕ). NoneAwaits q after) now.0 (here now.1)
  ]

  -- ---- a child that comes in

  same_before : (a b : Option (Sleepers B Q L E)) (hs : List Holding) → HasSameNotesAt a b → before_child b hs ≡ before_child a hs
  same_before None b hs notes = ap (λ (sleepers : Option (Sleepers B Q L E)). before_child sleepers hs) notes
  same_before (Some x) None hs notes = absurd notes
  same_before (Some x) (Some y) hs notes = ap (λ m. filter_map (λ (h : Holding). if allows h.mode Pop then get nat_cmp m h.number else None) hs) notes.poppers

  noted_on : (a b c : Option (Sleepers B Q L E)) (child : ℕ) (hs : List Holding) → HasSameNotesAt a b → HasNotedAt b c child hs
      → IfSome a (λ was. IsSomeAnd c (λ now. IsNoted was now child hs))
  noted_on None b c child hs notes noted = tt
  noted_on (Some x) None c child hs notes noted = absurd notes
  noted_on (Some x) (Some y) None child hs notes noted = absurd noted
  noted_on (Some x) (Some y) (Some z) child hs notes noted = record {
    newest = noted.notes.newest;
    poppers = λ queue. noted.notes.poppers queue ∙ ap (λ m. if lets_use hs queue Pop then Some child else get nat_cmp m queue) notes.poppers;
    given_before = noted.notes.given_before ∙ notes.given_before;
  }

  awaits_on : (queue : ℕ) (b c : Option (Sleepers B Q L E)) (child : ℕ) (hs : List Holding) → HasNotedAt b c child hs → NoneAwaits queue b → NoneAwaits queue c
  awaits_on queue None c child hs noted none = subst (NoneAwaits queue) (sym noted) (record { each = tt })
  awaits_on queue (Some y) None child hs noted none = absurd noted
  awaits_on queue (Some y) (Some z) child hs noted none =
      record { each = subst (λ v. All (Awaits queue) v.items) (sym noted.sleepers.at_push) none.each }

  -- first some were woken, then the child was noted, and then what stands under it was put in
  pub has_entered : (a b c d : Asleep B Q L E) (parent child : ℕ) (hs : List Holding) (before : List ℕ) (sleepers : Sleepers B Q L E) → OnlyWoke parent a b
      → ((queue : ℕ) → lets_use hs queue Push ≡ true → NoneAwaits queue (sleepers_at b parent)) → HasNotedAt (sleepers_at b parent) (sleepers_at c parent) child hs → OtherSleepersStay b c parent
      → before ≡ before_child (sleepers_at b parent) hs → AreNewSleepers sleepers before → UpdatesBy nat_cmp (nat_cmp child) c.sleepers d.sleepers (Some sleepers) → HasEntered a d parent child hs
  has_entered a b c d parent child hs before sleepers woke woken noted others given is put =
      let stays : (other : ℕ) → other ≢ child → sleepers_at d other ≡ sleepers_at c other = λ other ne. put.2 other (untied child other ne) in
      record {
        own = subst (λ (at : Option (Sleepers B Q L E)). IsSomeAnd at (λ new. AreNewSleepers new (before_child (sleepers_at a parent) hs))) (sym put.1)
            (subst (AreNewSleepers sleepers) (given ∙ same_before (sleepers_at a parent) (sleepers_at b parent) hs woke.notes) is);
        noted = λ ne. subst (λ (at : Option (Sleepers B Q L E)). IfSome (sleepers_at a parent) (λ was. IsSomeAnd at (λ now. IsNoted was now child hs))) (sym (stays parent ne))
            (noted_on (sleepers_at a parent) (sleepers_at b parent) (sleepers_at c parent) child hs woke.notes noted);
        woken = λ ne queue held. subst (NoneAwaits queue) (sym (stays parent ne)) (awaits_on queue (sleepers_at b parent) (sleepers_at c parent) child hs noted (woken queue held));
        others = λ other not_parent not_child. stays other not_child ∙ others.others other not_parent ∙ woke.others.others other not_parent;
      }

  -- as many sleep under the parent as before the child was noted
  noted_count : (b c : Option (Sleepers B Q L E)) (child : ℕ) (hs : List Holding) → HasNotedAt b c child hs → sleeper_count c ≡ sleeper_count b
  noted_count None c child hs noted = ap sleeper_count noted
  noted_count (Some y) None child hs noted = absurd noted
  noted_count (Some y) (Some z) child hs noted =
      ap (λ v. vec_len v + vec_len z.at_push) noted.sleepers.at_end ∙ ap (λ v. vec_len y.at_end + vec_len v) noted.sleepers.at_push

  -- so none was lost since before some were woken, if none was by that
  pub entered_count : (b c d : Option (Sleepers B Q L E)) (child : ℕ) (hs : List Holding) (left ready before : ℕ) → left + sleeper_count b ≡ ready + before
      → HasNotedAt b c child hs → d ≡ c → left + sleeper_count d ≡ ready + before
  entered_count b c d child hs left ready before lost noted same =
      ap (λ s. left + sleeper_count s) same ∙ ap (λ n. left + n) (noted_count b c child hs noted) ∙ lost
