-- The record of live frames after a call, and its set of children.
use Rattle.std.proofs.Common.{◌≡◌, ◌≢◌, ◌≤◌, inl, inr, ℕ, true, false, cond, Option, None, Some, is_some, IsSome, Result, Ok, Err, IfSome, IfNone, OnOk, OnErr, List, [], refl, sym, ap, subst, ◌∙◌, arith}
use Rattle.std.proofs.lemmas.Bool.{cases_eq, false≢true, or_right}
use Rattle.std.proofs.lemmas.Bool.Decides.{nat_tests}
use Rattle.std.proofs.lemmas.Map.Steps.{set_value_same}
use Rattle.std.proofs.lemmas.Option.{same_Some}
use Rattle.std.specs.BTreeMap.{is_at}
use Rattle.std.specs.Map.{set_value}
use Rattle.std.specs.Option.{option_map}
use Rattle.std.specs.Ordering.{nat_cmp}
use Rattle.swan_model.proofs.Lookups.{at_set, by_set, untied}
use Rattle.swan_model.specs.SerialState.{Holding}
use Rattle.pop_order.specs.NumberPairs.{IsNext, IsWithPair, IsWithoutPair, NumberPair, has_pair}
use Rattle.task_frames.specs.Records.{HasChildren, IsLiveChild, IsOldestChild, IsOnlyLive, LiveFrame, NumberedFrames, come_at, come_to, holding_too, live_at, with_newest}

-- ---- entries

pub changed : (before after : NumberedFrames) (number : ℕ) (was frame : LiveFrame) → live_at before number ≡ Some was
    → after ≡ set_value (is_at (nat_cmp number)) before frame → IsOnlyLive before after number (Some frame)
changed before after number was frame there is = record {
  changed = ap (λ es. live_at es number) is ∙ at_set before number was frame there;
  others = λ other differs. ap (λ es. live_at es other) is ∙ by_set before number was frame other there differs;
}

-- the newest frame is there where its number is live and the older ones have none under it
pub newest-live : (number : ℕ) (newest : Option LiveFrame) (older : NumberedFrames) → live_at older number ≡ None → IsSome (live_at (with_newest number newest older) number) → IsSome newest
newest-live number None older none is = absurd (false≢true (sym (ap is_some none) ∙ is))
newest-live number (Some frame) older none is = refl

-- and one that is live under another number is an older one
pub older-live : (newest_number : ℕ) (newest : Option LiveFrame) (older : NumberedFrames) (number : ℕ) → number ≢ newest_number
    → IsSome (live_at (with_newest newest_number newest older) number) → IsSome (live_at older number)
older-live newest_number None older number differs is = is
older-live newest_number (Some frame) older number differs is =
    subst (λ b. IsSome (cond b (Some frame) (live_at older number))) (untied number newest_number (λ same. differs (sym same))) is

-- a frame that is noted so is there still
pub mapped-some : {X Y : Type 0} (f : X → Y) (o : Option X) → IsSome o → IsSome (option_map f o)
mapped-some f None is = is
mapped-some f (Some x) is = refl

-- a record that is the same
pub same : (frames : NumberedFrames) (number : ℕ) (frame : Option LiveFrame) → live_at frames number ≡ frame → IsOnlyLive frames frames number frame
same frames number frame is = record { changed = is; others = λ other differs. refl }

-- ---- children

-- a child that is found is the oldest live one
pub oldest_is : (frames : NumberedFrames) (pairs : List NumberPair) (parent oldest : ℕ) → HasChildren frames pairs → IsNext pairs parent 0 oldest → IsOldestChild frames parent oldest
oldest_is frames pairs parent oldest kept is = record {
  child = kept.known parent oldest is.known;
  least = λ other child. is.least other (omega arith) (kept.all parent other child);
}

pub none_is : (frames : NumberedFrames) (pairs : List NumberPair) (parent : ℕ) → HasChildren frames pairs → ((child : ℕ) → 0 ≤ child → has_pair pairs parent child ≡ false) → (other : ℕ) → ¬ IsLiveChild frames parent other
none_is frames pairs parent kept none other child = false≢true (sym (none other (omega arith)) ∙ kept.all parent other child)

module _ (before after : NumberedFrames) (pairs : List NumberPair) (number : ℕ) (kept : HasChildren before pairs) where
  module _ (others : (other : ℕ) → other ≢ number → live_at after other ≡ live_at before other) where
    -- a child of another number is one before and after
    there : (parent other : ℕ) → other ≢ number → IsLiveChild before parent other → IsLiveChild after parent other
    there parent other differs child = record { frame = child.frame; live = others other differs ∙ child.live; of = child.of }

    back : (parent other : ℕ) → other ≢ number → IsLiveChild after parent other → IsLiveChild before parent other
    back parent other differs child = record { frame = child.frame; live = sym (others other differs) ∙ child.live; of = child.of }

  -- a frame that is the child of the same parent as before
  pub changed_keeps : (was frame : LiveFrame) → live_at before number ≡ Some was → IsOnlyLive before after number (Some frame) → frame.parent ≡ was.parent → HasChildren after pairs
  changed_keeps was frame there_was only parent_is = record {
    known = λ parent other in_set. elim (cases_eq other number) [
      | inl is ↦
          let child = kept.known parent other in_set in
          let one : was ≡ child.frame = same_Some was child.frame (sym there_was ∙ ap (live_at before) (sym is) ∙ child.live) in
          record { frame = frame; live = ap (live_at after) is ∙ only.changed; of = parent_is ∙ ap (λ (f : LiveFrame). f.parent) one ∙ child.of }
      | inr differs ↦ there only.others parent other differs (kept.known parent other in_set)
    ];
    all = λ parent other child. elim (cases_eq other number) [
      | inl is ↦
          let one : frame ≡ child.frame = same_Some frame child.frame (sym only.changed ∙ ap (live_at after) (sym is) ∙ child.live) in
          kept.all parent other (record { frame = was; live = ap (live_at before) is ∙ there_was; of = sym parent_is ∙ ap (λ (f : LiveFrame). f.parent) one ∙ child.of })
      | inr differs ↦ kept.all parent other (back only.others parent other differs child)
    ];
  }

  -- a frame that has no parent, where none was
  pub entered_root_keeps : (frame : LiveFrame) → live_at before number ≡ None → IsOnlyLive before after number (Some frame) → frame.parent ≡ None → HasChildren after pairs
  entered_root_keeps frame free only root = record {
    known = λ parent other in_set. elim (cases_eq other number) [
      | inl is ↦ let child = kept.known parent other in_set in let no : None ≡ Some child.frame = sym free ∙ ap (live_at before) (sym is) ∙ child.live in absurd (cc)
      | inr differs ↦ there only.others parent other differs (kept.known parent other in_set)
    ];
    all = λ parent other child. elim (cases_eq other number) [
      | inl is ↦
          let one : frame ≡ child.frame = same_Some frame child.frame (sym only.changed ∙ ap (live_at after) (sym is) ∙ child.live) in
          let no : None ≡ Some parent = sym root ∙ ap (λ (f : LiveFrame). f.parent) one ∙ child.of in absurd (cc)
      | inr differs ↦ kept.all parent other (back only.others parent other differs child)
    ];
  }

  module _ (own : ℕ) (then_pairs : List NumberPair) where
    -- a child of a parent, where none was
    pub entered_keeps : (frame : LiveFrame) → live_at before number ≡ None → IsOnlyLive before after number (Some frame) → frame.parent ≡ Some own → IsWithPair pairs own number then_pairs → HasChildren after then_pairs
    entered_keeps frame free only of set = record {
      known = λ parent other in_set. elim (cases_eq other number) [
        | inl is ↦ record {
          frame = frame;
          live = ap (live_at after) is ∙ only.changed;
          of = of ∙ ap Some (elim (cases_eq own parent) [
            | inl e ↦ e
            | inr differs ↦
                let was : has_pair pairs parent other ≡ true = grind (arith, nat_tests, set parent other, in_set, differs) in
                let child = kept.known parent other was in let none : None ≡ Some child.frame = sym free ∙ ap (live_at before) (sym is) ∙ child.live in absurd (cc)
          ]);
        }
        | inr differs ↦
            let was : has_pair pairs parent other ≡ true = grind (arith, nat_tests, set parent other, in_set, differs) in
            there only.others parent other differs (kept.known parent other was)
      ];
      all = λ parent other child. elim (cases_eq other number) [
        | inl is ↦
            let one : frame ≡ child.frame = same_Some frame child.frame (sym only.changed ∙ ap (live_at after) (sym is) ∙ child.live) in
            let same_parent : Some own ≡ Some parent = sym of ∙ ap (λ (f : LiveFrame). f.parent) one ∙ child.of in
            let e : own ≡ parent = same_Some own parent same_parent in
            grind (arith, nat_tests, set parent other, e, is)
        | inr differs ↦ let was = kept.all parent other (back only.others parent other differs child) in set parent other ∙ or_right _ _ was
      ];
    }

    -- a child that goes
    pub left_keeps : (was : LiveFrame) → live_at before number ≡ Some was → IsOnlyLive before after number None → was.parent ≡ Some own → IsWithoutPair pairs own number then_pairs → HasChildren after then_pairs
    left_keeps was there_was only of set = record {
      known = λ parent other in_set. elim (cases_eq other number) [
        | inl is ↦
            let in_both : has_pair pairs parent other ≡ true = grind (arith, nat_tests, set parent other, in_set) in
            let child = kept.known parent other in_both in
            let one : was ≡ child.frame = same_Some was child.frame (sym there_was ∙ ap (live_at before) (sym is) ∙ child.live) in
            let same_parent : Some own ≡ Some parent = sym of ∙ ap (λ (f : LiveFrame). f.parent) one ∙ child.of in
            let e : own ≡ parent = same_Some own parent same_parent in
            let no : has_pair then_pairs parent other ≡ false = grind (arith, nat_tests, set parent other, e, is) in
            absurd (false≢true (sym no ∙ in_set))
        | inr differs ↦
            let in_both : has_pair pairs parent other ≡ true = grind (arith, nat_tests, set parent other, in_set) in
            there only.others parent other differs (kept.known parent other in_both)
      ];
      all = λ parent other child. elim (cases_eq other number) [
        | inl is ↦ let no : None ≡ Some child.frame = sym only.changed ∙ ap (live_at after) (sym is) ∙ child.live in absurd (cc)
        | inr differs ↦ let in_set = kept.all parent other (back only.others parent other differs child) in grind (arith, nat_tests, set parent other, in_set, differs)
      ];
    }

  -- a root that goes, or nobody
  pub left_root_keeps : IsOnlyLive before after number None → ((parent : ℕ) → ¬ IsLiveChild before parent number) → HasChildren after pairs
  left_root_keeps only root = record {
    known = λ parent other in_set. elim (cases_eq other number) [
      | inl is ↦ absurd (root parent (subst (IsLiveChild before parent) is (kept.known parent other in_set)))
      | inr differs ↦ there only.others parent other differs (kept.known parent other in_set)
    ];
    all = λ parent other child. elim (cases_eq other number) [
      | inl is ↦ let no : None ≡ Some child.frame = sym only.changed ∙ ap (live_at after) (sym is) ∙ child.live in absurd (cc)
      | inr differs ↦ kept.all parent other (back only.others parent other differs child)
    ];
  }

-- ---- what the calls find

nothing-live : HasChildren [] []
unfolding has_pair
nothing-live = record { known = λ parent number in_set. absurd (cc); all = λ parent number child. let no : None ≡ Some child.frame = child.live in absurd (cc) }

-- no frames, no children
pub none-live : (frames : NumberedFrames) (pairs : List NumberPair) → frames ≡ [] → pairs ≡ [] → HasChildren frames pairs
none-live frames pairs no_frames no_pairs =
    subst (λ fs. HasChildren fs pairs) (sym no_frames) (subst (HasChildren []) (sym no_pairs) nothing-live)

pub found-oldest : (frames kept : NumberedFrames) (pairs : List NumberPair) (parent : ℕ) (found : Option ℕ) → frames ≡ kept → HasChildren frames pairs → IfSome found (IsNext pairs parent 0) → IfSome found (IsOldestChild kept parent)
found-oldest frames kept pairs parent None same has is = tt
found-oldest frames kept pairs parent (Some oldest) same has is = subst (λ fs. IsOldestChild fs parent oldest) same (oldest_is frames pairs parent oldest has is)

pub found-none : (frames kept : NumberedFrames) (pairs : List NumberPair) (parent : ℕ) (found : Option ℕ) → frames ≡ kept → HasChildren frames pairs → IfNone found ((child : ℕ) → 0 ≤ child → has_pair pairs parent child ≡ false)
    → IfNone found ((other : ℕ) → ¬ IsLiveChild kept parent other)
found-none frames kept pairs parent None same has is = λ other. subst (λ fs. ¬ IsLiveChild fs parent other) same (none_is frames pairs parent has is other)
found-none frames kept pairs parent (Some oldest) same has is = tt

-- a frame that is given with so many steps done, where there is one
pub come-only : (before after : NumberedFrames) (number done : ℕ) (found : Option LiveFrame) → live_at before number ≡ found → after ≡ come_at before number done found
    → IsOnlyLive before after number (option_map (come_to done) found)
come-only before after number done None none is = subst (λ fs. IsOnlyLive before fs number None) (sym is) (same before number None none)
come-only before after number done (Some was) there is = changed before after number was (come_to done was) there is

-- and its children are children still
pub child-comes : (before after : NumberedFrames) (number done parent other : ℕ) → IsOnlyLive before after number (option_map (come_to done) (live_at before number))
    → IsLiveChild before parent other → IsLiveChild after parent other
child-comes before after number done parent other only child = elim (cases_eq other number) [
  | inl same ↦ record {
    frame = come_to done child.frame;
    live = ap (live_at after) same ∙ only.changed ∙ ap (option_map (come_to done)) (ap (live_at before) (sym same) ∙ child.live);
    of = child.of;
  }
  | inr differs ↦ record { frame = child.frame; live = only.others other differs ∙ child.live; of = child.of }
]

-- and none is one that wasn't
pub child-came : (before after : NumberedFrames) (number done parent other : ℕ) → IsOnlyLive before after number (option_map (come_to done) (live_at before number))
    → IsLiveChild after parent other → IsLiveChild before parent other
child-came before after number done parent other only child = elim (cases_eq other number) [
  | inl same ↦ by same (live_at before number) refl (sym only.changed ∙ ap (live_at after) (sym same) ∙ child.live)
  | inr differs ↦ record { frame = child.frame; live = sym (only.others other differs) ∙ child.live; of = child.of }
]
  where
    by : other ≡ number → (found : Option LiveFrame) → live_at before number ≡ found → option_map (come_to done) found ≡ Some child.frame → IsLiveChild before parent other
    by same None none is = absurd (cc)
    by same (Some was) there is =
        record { frame = was; live = ap (live_at before) same ∙ there; of = ap (λ (f : LiveFrame). f.parent) (same_Some (come_to done was) child.frame is) ∙ child.of }

pub come-keeps : (before after : NumberedFrames) (pairs : List NumberPair) (number done : ℕ) (found : Option LiveFrame) → live_at before number ≡ found → HasChildren before pairs
    → after ≡ come_at before number done found → HasChildren after pairs
come-keeps before after pairs number done None none kept is = subst (λ fs. HasChildren fs pairs) (sym is) kept
come-keeps before after pairs number done (Some was) there kept is =
    changed_keeps before after pairs number kept was (come_to done was) there (changed before after number was (come_to done was) there is) refl

pub nobody-left : (before after : NumberedFrames) (pairs : List NumberPair) (number : ℕ) → HasChildren before pairs → IsOnlyLive before after number None
    → live_at before number ≡ None → HasChildren after pairs
nobody-left before after pairs number kept only none =
    left_root_keeps before after pairs number kept only (λ parent child. let both : None ≡ Some child.frame = sym none ∙ child.live in absurd (cc))

-- a frame that may hold one place more, where there is one
pub held-keeps : {T E : Type 0} (before after : NumberedFrames) (pairs : List NumberPair) (number : ℕ) (holding : Holding) (found : Option LiveFrame) (result : Result T E) → live_at before number ≡ found → HasChildren before pairs
    → OnOk result (IsOnlyLive before after number (option_map (holding_too holding) found)) → OnErr result (IsOnlyLive before after number found) → HasChildren after pairs
held-keeps before after pairs number holding None (Ok done) none kept ok err = nobody-left before after pairs number kept ok none
held-keeps before after pairs number holding None (Err want) none kept ok err = nobody-left before after pairs number kept err none
held-keeps before after pairs number holding (Some was) (Ok done) there kept ok err = changed_keeps before after pairs number kept was (holding_too holding was) there ok refl
held-keeps before after pairs number holding (Some was) (Err want) there kept ok err = changed_keeps before after pairs number kept was was there err refl

-- a root that may be entered, where there is no frame
pub root-keeps : {T E : Type 0} (before after : NumberedFrames) (pairs : List NumberPair) (number : ℕ) (frame : LiveFrame) (result : Result T E) → before ≡ [] → HasChildren before pairs → frame.parent ≡ None
    → OnOk result (IsOnlyLive before after number (Some frame)) → OnErr result (after ≡ []) → HasChildren after pairs
root-keeps before after pairs number frame (Ok done) none kept root ok err = entered_root_keeps before after pairs number kept frame (ap (λ fs. live_at fs number) none) ok root
root-keeps before after pairs number frame (Err want) none kept root ok err = subst (λ fs. HasChildren fs pairs) (none ∙ sym err) kept

-- ---- a frame that is given as it was

come-as-it-was : (f : LiveFrame) (done : ℕ) → f.done ≡ done → come_to done f ≡ f
come-as-it-was f done is = ap (λ n. come_to n f) (sym is)

pub same-at : (frames : NumberedFrames) (number done : ℕ) (found : Option LiveFrame) → live_at frames number ≡ found
    → ((live : LiveFrame) → found ≡ Some live → live.done ≡ done) → frames ≡ come_at frames number done found
same-at frames number done None there is = refl
same-at frames number done (Some f) there is =
    sym (ap (set_value (is_at (nat_cmp number)) frames) (come-as-it-was f done (is f refl)) ∙ set_value_same (is_at (nat_cmp number)) frames f there)

pub same-found : (found : Option LiveFrame) (done : ℕ) → ((live : LiveFrame) → found ≡ Some live → live.done ≡ done)
    → found ≡ option_map (come_to done) found
same-found None done is = refl
same-found (Some f) done is = ap Some (sym (come-as-it-was f done (is f refl)))

pub come_same : (frames : NumberedFrames) (number done : ℕ) → ((live : LiveFrame) → live_at frames number ≡ Some live → live.done ≡ done)
    → frames ≡ come_at frames number done (live_at frames number)
come_same frames number done is = same-at frames number done (live_at frames number) refl is

pub only_same : (frames : NumberedFrames) (number done : ℕ) → ((live : LiveFrame) → live_at frames number ≡ Some live → live.done ≡ done)
    → IsOnlyLive frames frames number (option_map (come_to done) (live_at frames number))
only_same frames number done is = record { changed = same-found (live_at frames number) done is; others = λ other differs. refl }
