-- The turns of frames with one entry more, or another one for a number.
use Rattle.std.proofs.Common.{◌≡◌, ◌≢◌, ℕ, ◌≤◌, Bool, true, false, cond, Option, None, Some, [], ◌∷◌, refl, sym, ap, ◌∙◌, inl, inr}
use Rattle.std.proofs.lemmas.Bool.{cases_Bool, cases_eq, false≢true, and_from, le-leb}
use Rattle.std.specs.List.{list_all}
use Rattle.std.specs.Map.{set_value}
use Rattle.std.specs.BTreeMap.{is_at, insert_entry}
use Rattle.std.specs.Ordering.{nat_cmp, is_eq, match_ordering}
use Rattle.std.specs.declared.cmp.Ordering.{Ordering}
use Rattle.std.specs.declared.cmp.Ordering.TheVariants.{Less, Equal, Greater}
use Rattle.std.specs.Prelude.{nat_le}
use Rattle.pop_order.specs.Frames.{TurnFrame, Frames, frames_after_enlist, frames_after_enlist_at, frame_at, AreUpTo}
use Rattle.swan_model.specs.SerialState.{Holding}
use Rattle.queues.specs.Turned.{AreApart}
use Rattle.swan_model.proofs.Lookups.{by_inserted, tied, untied}

apart_inserted : (es : Frames) (k : ℕ) (v : TurnFrame) → frame_at es k ≡ None → AreApart es → AreApart (insert_entry nat_cmp es k v)
apart_inserted [] k v fresh apart = (refl, tt)
apart_inserted (e ∷ es) k v fresh (first, apart) = by (nat_cmp k e.0) refl (apart_inserted es k v) where
  by : (o : Ordering) → nat_cmp k e.0 ≡ o → (frame_at es k ≡ None → AreApart es → AreApart (insert_entry nat_cmp es k v))
      → AreApart (match_ordering o ((k, v) ∷ e ∷ es) ((e.0, v) ∷ es) (e ∷ insert_entry nat_cmp es k v))
  by Less is rest = (fresh, (first, apart))
  by Equal is rest = (first, apart)
  by Greater is rest =
      let past : is_at (nat_cmp k) e.0 ≡ false = ap is_eq is in
      let ne : e.0 ≢ k = λ same. false≢true (sym past ∙ tied k e.0 (sym same)) in (
        by_inserted es k v e.0 ne ∙ first,
        rest (ap (λ b. cond b (Some e.1) (frame_at es k)) (sym past) ∙ fresh) apart,
      )

none_set : (es : Frames) (k n : ℕ) (v : TurnFrame) → frame_at es n ≡ None → frame_at (set_value (is_at (nat_cmp k)) es v) n ≡ None
none_set [] k n v none = refl
none_set (e ∷ es) k n v none = by (is_at (nat_cmp n) e.0) refl none (none_set es k n v) where
  by : (b : Bool) → is_at (nat_cmp n) e.0 ≡ b → cond b (Some e.1) (frame_at es n) ≡ None → (frame_at es n ≡ None → frame_at (set_value (is_at (nat_cmp k)) es v) n ≡ None)
      → frame_at (cond (is_at (nat_cmp k) e.0) ((e.0, v) ∷ es) (e ∷ set_value (is_at (nat_cmp k)) es v)) n ≡ None
  by true is h rest = let never : Some e.1 ≡ None = h in absurd (cc)
  by false is h rest = elim (cases_Bool (is_at (nat_cmp k) e.0)) [
    | inl here ↦ ap (λ c. frame_at (cond c ((e.0, v) ∷ es) (e ∷ set_value (is_at (nat_cmp k)) es v)) n) here ∙ ap (λ b. cond b (Some v) (frame_at es n)) is ∙ h
    | inr other ↦
        ap (λ c. frame_at (cond c ((e.0, v) ∷ es) (e ∷ set_value (is_at (nat_cmp k)) es v)) n) other
        ∙ ap (λ b. cond b (Some e.1) (frame_at (set_value (is_at (nat_cmp k)) es v) n)) is ∙ rest h
  ]

pub apart_set : (es : Frames) (k : ℕ) (v : TurnFrame) → AreApart es → AreApart (set_value (is_at (nat_cmp k)) es v)
apart_set [] k v apart = tt
apart_set (e ∷ es) k v (first, apart) = by (is_at (nat_cmp k) e.0) (apart_set es k v apart) where
  by : (b : Bool) → AreApart (set_value (is_at (nat_cmp k)) es v) → AreApart (cond b ((e.0, v) ∷ es) (e ∷ set_value (is_at (nat_cmp k)) es v))
  by true rest = (first, apart)
  by false rest = (none_set es k e.0 v first, rest)

-- no number stands twice once a child was given one more queue
pub apart_enlisted : (turns : Frames) (parent child : ℕ) (holding : Holding) → AreApart turns → AreApart (frames_after_enlist turns parent child holding)
apart_enlisted turns parent child holding apart = by (frame_at turns child) refl where
  by : (o : Option TurnFrame) → frame_at turns child ≡ o → AreApart (frames_after_enlist_at turns parent child holding o)
  by None fresh = apart_inserted turns child (record { parent = parent; holdings = holding ∷ []; lent = false }) fresh apart
  by (Some frame) found = apart_set turns child _ apart

-- what is found of no newer number tells that there is none
pub up_to : (es : Frames) (child : ℕ) → AreApart es → ((m : ℕ) (turn : TurnFrame) → frame_at es m ≡ Some turn → m ≤ child) → AreUpTo es child
up_to [] child apart all = refl
up_to (e ∷ es) child (first, apart) all =
    let here : frame_at (e ∷ es) e.0 ≡ Some e.1 = ap (λ b. cond b (Some e.1) (frame_at es e.0)) (tied e.0 e.0 refl) in
    and_from (nat_le e.0 child) (list_all (λ f. nat_le f.0 child) es) (le-leb e.0 child (all e.0 e.1 here))
    (up_to es child apart (λ m turn at. all m turn (elim (cases_eq m e.0) [
      | inl same ↦ let never : None ≡ Some turn = sym first ∙ ap (λ k. frame_at es k) (sym same) ∙ at in absurd (cc)
      | inr other ↦ ap (λ b. cond b (Some e.1) (frame_at es m)) (untied m e.0 (λ s. other (sym s))) ∙ at
    ])))
