-- Whom a frame waits for: a live frame, which comes before it in serial order.
use Rattle.std.proofs.Common.{◌≡◌, ◌≢◌, ◌⊎◌, inl, inr, ℕ, ◌<◌, true, List, [], ◌∷◌, ◌++◌, Some, sym, ap, ◌∙◌, arith}
use Rattle.std.proofs.lemmas.List.{same_from_push}
use Rattle.std.proofs.lemmas.Option.{same_Some}
use Rattle.swan_model.specs.declared.body.Body.{Ghosts}
use Rattle.swan_model.specs.declared.plan.Plan.{Plan}
use Rattle.swan_model.specs.declared.script.Script.{Script}
use Rattle.swan_model.specs.Lawful.{IsLawful}
use Rattle.swan_model.specs.PathOrder.{comes_before}
use Rattle.swan_model.specs.QueueState.{ActiveFrame, IsActiveChild, IsEarlierPusher, IsOlderPopper, IsPoppingChild, QueueState, active}
use Rattle.swan_model.specs.Script.{script}
use Rattle.swan_model.specs.SerialTime.{Progress, Reading}
use Rattle.swan_model.specs.Versions.{Awaits, Placed, VersionState, owed, placed_at}
use Rattle.swan_model.proofs.Elements.{one_answer, option_cases}
use Rattle.swan_model.proofs.PathOrder.{before-parent, left-before, left-sibling}
use Rattle.swan_model.proofs.Paths.{not_root}
use Rattle.object_versions.proofs.OwnersEarlier.{owner_earlier, owner_other}
use Rattle.queues.specs.Tells.{IsBlockedBy}
use Rattle.queues.specs.Tree.{IsTree}
use Rattle.queues.proofs.Frames.{active_number}
use Rattle.queues.proofs.Rereading.{fit_of}
use Rattle.task_frames.specs.Cores.{AreFrames, AreObjects, AreQueues}
use Rattle.task_frames.specs.Records.{IsLiveChild, IsOldestChild, LiveFrame, NumberedFrames, live_at}
use Rattle.task_frames.specs.Resumes.{IsLiveBefore}

-- an older sibling that is active comes before, in serial order
sibling-before : (state : QueueState) → IsTree state → (number older : ℕ) (frame : ActiveFrame) → active state number ≡ Some frame → (is : IsOlderPopper state frame older)
    → comes_before is.older.path frame.path ≡ true
sibling-before state tree number older frame live is =
    let mine = tree.spawned number is.parent frame live is.of in
    let theirs = tree.spawned older is.parent is.older is.live is.sibling in
    let above = mine.above.path in
    let path : is.older.path ≡ above ++ theirs.index ∷ [] =
    theirs.path ∙ ap (λ (f : ActiveFrame). f.path ++ theirs.index ∷ []) (one_answer (active state is.parent) theirs.above mine.above theirs.live mine.live) in
    let before = is.before in
    let own = active_number state number frame live in
    let less : older < number = omega (arith, before, own) in
    let order = tree.siblings older number theirs.index mine.index is.older frame above is.live live path mine.path less in
    ap (λ p. comes_before p frame.path) path ∙ ap (comes_before (above ++ theirs.index ∷ [])) mine.path
    ∙ left-before (above ++ theirs.index ∷ []) (above ++ mine.index ∷ []) (left-sibling above theirs.index mine.index order)

module _ {B L : Type 0} (G : Ghosts B L) (plan : Plan B L) (lawful : IsLawful (script G plan)) (r : Reading) (state : QueueState) (live : NumberedFrames) (frames : ℕ)
    (queues : AreQueues (script G plan) r state) (are : AreFrames G plan r state live frames) where
  abbrev s : Script
  s = script G plan

  -- a frame has the same path in the record and among the queues
  pub same-path : (m : ℕ) (frame : LiveFrame) (own : ActiveFrame) → live_at live m ≡ Some frame → active state m ≡ Some own → frame.path ≡ own.path
  same-path m frame own there now =
      let told = are.told m frame there in
      (fit_of s lawful state r queues.fit m (record { number = m; path = frame.path; done = frame.done }) told.progress own now).path

  -- an active frame that comes before this one is a live one
  active-before : (m : ℕ) (other : ActiveFrame) (path : List ℕ) → active state m ≡ Some other → comes_before other.path path ≡ true → IsLiveBefore live path m
  active-before m other path now before =
      let found = are.live_is m other now in
      record { frame = found.0; live = found.1; earlier = ap (λ q. comes_before q path) (same-path m found.0 other found.1 now) ∙ before }

  module _ (n : ℕ) (f : LiveFrame) (there : live_at live n ≡ Some f) where
    own : (a : ActiveFrame) × (active state n ≡ Some a) × (f.path ≡ a.path)
    own = let it = are.active_is n f there in (it.0, it.1, same-path n f it.0 there it.1)

    -- a live frame right below this one is an active child, and its parent in the record is this one
    pub active-child : (m index : ℕ) (g : LiveFrame) → live_at live m ≡ Some g → g.path ≡ f.path ++ index ∷ [] → IsActiveChild state n m
    active-child m index g at path =
        let it = are.active_is m g at in
        let theirs = same-path m g it.0 at it.1 in
        let some : m ≢ 0 = λ root.
        let top = queues.follow.root it.0 (ap (active state) (sym root) ∙ it.1) in
        not_root f.path [] index (sym path ∙ theirs ∙ top.0) in
        let parent = queues.follow.others m it.0 it.1 some in
        let of = queues.follow.children m parent.0 it.0 it.1 parent.1 in
        let same = same_from_push of.above.path f.path of.index index (sym of.path ∙ sym theirs ∙ path) in
        let one : parent.0 ≡ n = queues.follow.different parent.0 n of.above own.0 of.live own.1 (same.0 ∙ own.2) in
        record { frame = it.0; live = it.1; of = parent.1 ∙ ap Some one }

    pub parent-is : (m index : ℕ) (g : LiveFrame) → live_at live m ≡ Some g → g.path ≡ f.path ++ index ∷ [] → g.parent ≡ Some n
    parent-is m index g at path =
        let child = active-child m index g at path in
        let it = are.active_is m g at in
        sym it.2 ∙ ap (λ (x : ActiveFrame). x.parent) (same_Some it.0 child.frame (sym it.1 ∙ child.live)) ∙ child.of

    -- an active child
    child-before : (m : ℕ) (other : ActiveFrame) → active state m ≡ Some other → other.parent ≡ Some n → IsLiveBefore live f.path m
    child-before m other now of =
        let it = queues.follow.children m n other now of in
        let above : it.above ≡ own.0 = same_Some it.above own.0 (sym it.live ∙ own.1) in
        let path : other.path ≡ f.path ++ it.index ∷ [] = it.path ∙ ap (λ (x : ActiveFrame). x.path ++ it.index ∷ []) above ∙ ap (λ q. q ++ it.index ∷ []) (sym own.2) in
        active-before m other f.path now (ap (λ q. comes_before q f.path) path ∙ before-parent f.path it.index)

    pub child-live : (m : ℕ) → IsLiveChild live n m → IsLiveBefore live f.path m
    child-live m child =
        let it = are.active_is m child.frame child.live in
        child-before m it.0 it.1 (it.2 ∙ child.of)

    pub oldest-live : (m : ℕ) → IsOldestChild live n m → IsLiveBefore live f.path m
    oldest-live m oldest = child-live m oldest.child

    pub popping-live : (queue m : ℕ) → IsPoppingChild state n queue m → IsLiveBefore live f.path m
    popping-live queue m child = child-before m child.frame child.live child.of

    -- an earlier frame that may push
    pub pusher-live : (a : ActiveFrame) → active state n ≡ Some a → (queue m : ℕ) → IsEarlierPusher state a queue m → IsLiveBefore live f.path m
    pusher-live a now queue m pusher =
        active-before m pusher.other f.path pusher.live (ap (comes_before pusher.other.path) (same-path n f a there now) ∙ pusher.earlier)

    -- an older sibling that keeps it from starting
    pub blocker-live : (m : ℕ) → IsBlockedBy state n m → IsLiveBefore live f.path m
    blocker-live m blocks =
        let it = blocks.by in
        active-before m it.older f.path it.live
        (ap (comes_before it.older.path) (same-path n f blocks.frame there blocks.live) ∙ sibling-before state queues.tree n m blocks.frame blocks.live it)

    -- who owes a version
    module _ (versions : VersionState) (objects : ℕ) (have : AreObjects s r versions live objects) where
      pub owner-live : (m place : ℕ) (object : Placed) → placed_at versions n place ≡ Some object → (object.present ≡ owed m) ⊎ (object.given ≡ Some m) → IsLiveBefore live f.path m
      owner-live m place object stands owes =
          let told = are.told n f there in
          let p : Progress = record { number = n; path = f.path; done = f.done } in
          let other = owner_other s lawful r versions have.follow n p told.progress told.stands.left m (place, object, stands, owes) in
          let has = have.follow.owing n place m object stands owes in
          elim (option_cases (live_at live m)) [
            | inl none ↦ absurd (have.gone m has.0 has.1 none other has.2)
            | inr found ↦
                let owner = are.told m found.0 found.1 in
                let q : Progress = record { number = m; path = found.0.path; done = found.0.done } in
                let earlier = owner_earlier s lawful r versions have.follow n p told.progress told.stands.left m q owner.progress owner.stands.left (place, object, stands, owes) in
                record { frame = found.0; live = found.1; earlier = earlier.1 }
          ]

      pub awaited-live : (m place : ℕ) → Awaits versions n place m → IsLiveBefore live f.path m
      awaited-live m place waits = owner-live m place waits.object waits.stands (inr waits.owes)
