-- What a child is given, one after the other: the next one each time.
use Rattle.std.proofs.Common.{◌≡◌, ℕ, ◌+◌, ◌<◌, true, false, List, None, Some, get_or, length, sym, ap, subst, ◌∙◌}
use Rattle.std.proofs.lemmas.Option.{slice_get-get_or}
use Rattle.std.specs.Prelude.{slice_get}
use Rattle.swan_model.specs.declared.rights.Give.{Give}
use Rattle.swan_model.specs.Rights.{is_queue_mode}
use Rattle.swan_model.specs.Versions.{Holds, MayGet, Placed, VersionState, after_access, placed_at}
use Rattle.task_frames.specs.Giving.{AreMade, GivesObjects}
use Rattle.task_frames.proofs.Giving.{alone-access, free-access, giving-object, giving-queue, may-access}

module _ (before now : VersionState) (parent child : ℕ) (gives items : List Give) (same : items ≡ gives) (may : GivesObjects before parent child gives) (i : ℕ)
    (are : AreMade may.s may.r before now may.giver child gives i) (d : Give) (less : i < length items) where
  abbrev give : Give
  give = get_or items i d

  at : slice_get gives i ≡ Some give
  at = ap (λ xs. slice_get xs i) (sym same) ∙ slice_get-get_or items i d less

  pub next-queue : is_queue_mode give.mode ≡ true → AreMade may.s may.r before now may.giver child gives (i + 1)
  next-queue queue = giving-queue may.s may.r before now may.giver child gives i give at queue are

  module _ (object : is_queue_mode give.mode ≡ false) where
    pub next-holds : Holds now parent give.place give.mode
    next-holds =
        subst (λ n. Holds now n give.place give.mode) may.own
        (may-access may.s may.lawful may.r before now may.giver may.known may.held may.has child may.differ gives may.hs may.given_is may.alone i are give at object)

    pub next-free : placed_at now child i ≡ None
    next-free = free-access may.s may.lawful may.r before now may.giver may.known may.held may.has child may.differ gives may.hs may.given_is may.alone i are give at object

    pub next-alone : (it : Placed) → placed_at now parent give.place ≡ Some it → MayGet now child it.object give.mode
    next-alone it there =
        alone-access may.s may.lawful may.r before now may.giver may.known may.held may.has child may.differ gives may.hs may.given_is may.alone i are give at object it
        (ap (λ n. placed_at now n give.place) may.own ∙ there)

    pub next-object : (then : VersionState) (place : ℕ) → place ≡ i → then ≡ after_access now parent give.place child place give.mode → AreMade may.s may.r before then may.giver child gives (i + 1)
    next-object then place here is =
        giving-object may.s may.lawful may.r before now may.giver may.known may.held may.has child may.differ gives may.hs may.given_is may.alone i are give at object then
        (is ∙ ap (λ k. after_access now parent give.place child k give.mode) here ∙ ap (λ n. after_access now n give.place child i give.mode) (sym may.own))
