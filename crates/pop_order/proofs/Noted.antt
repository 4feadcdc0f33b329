-- The sets after a child was noted, or taken out.
use Rattle.std.proofs.Common.{◌≡◌, ◌≢◌, ℕ, Bool, true, false, List, refl, sym, ap, subst, ◌⊎◌, inl, inr}
use Rattle.swan_model.specs.Rights.{allows}
use Rattle.swan_model.specs.SerialState.{Holding}
use Rattle.swan_model.specs.declared.rights.Mode.{Mode}
use Rattle.swan_model.specs.declared.rights.Mode.TheVariants.{Push, Pop}
use Rattle.pop_order.specs.Children.{ChildEntry, IsWith, IsWithout}
use Rattle.pop_order.specs.Frames.{Frames}
use Rattle.pop_order.specs.Kept.{HasHolders, IsKeptFor}
use Rattle.pop_order.specs.Givers.{IsGiverSettled, stays, goes}
use Rattle.pop_order.specs.NumberPairs.{NumberPair, has_pair}
use Rattle.pop_order.specs.Steps.{IsGrown, IsShrunk}
use Rattle.pop_order.proofs.Changes.{others_without, other_givers}
use Rattle.pop_order.proofs.Growing.{same_givers, same_holders, holders_with, holders_kept}
use Rattle.pop_order.proofs.Shrinking.{holders_without, holders_again, givers_without, givers_again}

module _ (before after : Frames) (parent child : ℕ) (holding : Holding) (grown : IsGrown before after parent child holding) where
  holders_by : (m : Mode) (q : ℕ) (set more : List ChildEntry) (b : Bool) → allows holding.mode m ≡ b → HasHolders before m q set
      → (allows holding.mode m ≡ true → IsWith set parent holding.number child more) → (allows holding.mode m ≡ false → more ≡ set)
      → HasHolders after m q more
  holders_by m q set more true e holders noted kept = holders_with before after parent child holding grown m q set more holders e (noted e)
  holders_by m q set more false e holders noted kept =
      let P : List ChildEntry → Type 0 = λ s. HasHolders after m q s in
      subst P (sym (kept e)) (holders_kept before after parent child holding grown m q set holders e)

  pub holders_noted : (m : Mode) (q : ℕ) (set more : List ChildEntry) → HasHolders before m q set
      → (allows holding.mode m ≡ true → IsWith set parent holding.number child more) → (allows holding.mode m ≡ false → more ≡ set)
      → HasHolders after m q more
  holders_noted m q set more = holders_by m q set more (allows holding.mode m) refl

module _ (before after : Frames) (parent child : ℕ) (shrunk : IsShrunk before after parent child) where
  -- the sets of a queue after a child was taken out, whether or not it was out before
  pub taken_out : (q : ℕ) (poppers pushers fewer_pop fewer_push : List ChildEntry) (givers now : List NumberPair)
      → IsWithout poppers parent q child fewer_pop → IsWithout pushers parent q child fewer_push → IsGiverSettled fewer_push parent q givers now
      → IsKeptFor before poppers pushers givers q ⊎ IsKeptFor after poppers pushers givers q
      → IsKeptFor after fewer_pop fewer_push now q
  taken_out q poppers pushers fewer_pop fewer_push givers now a b settled (inl kept) =
      let pushes = holders_without before after parent child shrunk Push q pushers fewer_push kept.pushes b in
      record {
        pops = holders_without before after parent child shrunk Pop q poppers fewer_pop kept.pops a;
        pushes = pushes;
        gives = givers_without before after parent child shrunk q pushers fewer_push givers now pushes kept.pushes settled kept.gives;
      }
  taken_out q poppers pushers fewer_pop fewer_push givers now a b settled (inr kept) =
      let pushes = holders_again before after parent child shrunk Push q pushers fewer_push kept.pushes b in
      record {
        pops = holders_again before after parent child shrunk Pop q poppers fewer_pop kept.pops a;
        pushes = pushes;
        gives = givers_again before after parent child shrunk q pushers fewer_push givers now pushes kept.pushes settled kept.gives;
      }

other_settled : (pushers : List ChildEntry) (parent q other : ℕ) (givers now : List NumberPair) → other ≢ q → IsGiverSettled pushers parent q givers now
    → (n : ℕ) → has_pair now other n ≡ has_pair givers other n
other_settled pushers parent q other givers now apart (stays c h same) n = ap (λ m. has_pair m other n) same
other_settled pushers parent q other givers now apart (goes none change) n = other_givers givers now q parent change other apart n

-- the sets of another queue
pub left_alone : (frames : Frames) (parent child q other : ℕ) (poppers pushers fewer_pop fewer_push : List ChildEntry) (givers now : List NumberPair)
    → IsWithout poppers parent q child fewer_pop → IsWithout pushers parent q child fewer_push → IsGiverSettled fewer_push parent q givers now
    → other ≢ q → IsKeptFor frames poppers pushers givers other → IsKeptFor frames fewer_pop fewer_push now other
left_alone frames parent child q other poppers pushers fewer_pop fewer_push givers now a b settled apart kept =
    let same = others_without pushers fewer_push parent q child b other apart in
    record {
      pops = same_holders frames Pop other poppers fewer_pop (others_without poppers fewer_pop parent q child a other apart) kept.pops;
      pushes = same_holders frames Push other pushers fewer_push same kept.pushes;
      gives = same_givers frames other pushers fewer_push givers now same (other_settled fewer_push parent q other givers now apart settled) kept.gives;
    }
