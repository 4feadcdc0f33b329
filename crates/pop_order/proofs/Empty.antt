-- Nothing is kept of no frames.
use Rattle.std.proofs.Common.{◌≡◌, ℕ, true, None, Some, List, []}
use Rattle.std.proofs.lemmas.Bool.{false≢true}
use Rattle.std.specs.List.Sorted.{IsStrictlySortedBy}
use Rattle.std.specs.Ordering.{nat_cmp}
use Rattle.std.specs.Map.{keys_of}
use Rattle.swan_model.specs.declared.rights.Mode.{Mode}
use Rattle.pop_order.specs.Children.{ChildEntry, has}
use Rattle.pop_order.specs.Frames.{Frames}
use Rattle.pop_order.specs.Order.{IsChild}
use Rattle.pop_order.specs.Kept.{AreBelowParents, HasHolders, HasGivers, IsKeptFor, IsKept}
use Rattle.pop_order.specs.NumberPairs.{NumberPair, has_pair}

no_child : {p n : ℕ} → IsChild [] p n → ⊥
no_child child = let e : None ≡ Some child.frame = child.active in cc

no_entry : (p q n : ℕ) → has [] p q n ≡ true → ⊥
unfolding has
no_entry p q n h = false≢true h

no_holders : (mode : Mode) (queue : ℕ) → HasHolders [] mode queue []
no_holders mode queue = record {
  holders = λ p n h. absurd (no_entry p queue n h);
  all = λ p n child holder. absurd (no_child child);
}

no_giver : (q n : ℕ) → has_pair [] q n ≡ true → ⊥
unfolding has_pair
no_giver q n h = false≢true h

no_givers : (queue : ℕ) → HasGivers [] queue [] []
no_givers queue = record {
  gave = λ n k. absurd (no_giver queue n k);
  apart = λ n k. absurd (no_giver queue n k);
  all = λ n c h never. absurd (no_entry n queue c h);
}

none_below : AreBelowParents []
none_below = λ p n child. absurd (no_child child)

none_for : (queue : ℕ) → IsKeptFor [] [] [] [] queue
none_for queue = record { pops = no_holders _ queue; pushes = no_holders _ queue; gives = no_givers queue }

pub empty_kept : (frames : Frames) (poppers pushers : List ChildEntry) (givers : List NumberPair) → IsStrictlySortedBy nat_cmp (keys_of frames)
    → frames ≡ [] → poppers ≡ [] → pushers ≡ [] → givers ≡ [] → IsKept frames poppers pushers givers
empty_kept frames poppers pushers givers sorted f a b c = record {
  sorted = sorted;
  below = rw f none_below;
  sets = λ queue. rw (f, a, b, c) (none_for queue);
}
