-- The frames above an active one: all are active, and who uses a queue below its maker uses it by right of each of them.
use Rattle.std.proofs.Common.{◌≡◌, ◌⊎◌, inl, inr, ℕ, zero, suc, ◌<◌, ◌≤◌, true, None, Some, List, [], ◌∷◌, ◌++◌, refl, sym, ap, subst, ◌∙◌, append_assoc, append-nil, arith}
use Rattle.std.proofs.lemmas.Bool.{cases_eq}
use Rattle.std.proofs.lemmas.List.{same_from_push}
use Rattle.std.proofs.lemmas.Option.{same_Some}
use Rattle.std.specs.Prelude.{slice_get}
use Rattle.swan_model.specs.declared.rights.Mode.{Mode}
use Rattle.swan_model.specs.QueueState.{ActiveFrame, QueueMaker, QueueState, active, holds_queue}
use Rattle.swan_model.proofs.Lists.{last_of, some_within}
use Rattle.swan_model.proofs.Paths.{not_below-itself, not_root}
use Rattle.queues.specs.Tree.{IsHeld, made, given, IsTree, has_queue, maker_path}
use Rattle.queues.proofs.Frames.{active_number, has_held}
use Rattle.swan_model.proofs.Elements.{one_answer}

-- who is active has the root above it
root_active : (most : ℕ) (state : QueueState) → IsTree state → (m : ℕ) (frame : ActiveFrame) → m ≤ most → active state m ≡ Some frame → (root : ActiveFrame) × (active state 0 ≡ Some root)
root_active zero state tree m frame less live = (frame, ap (active state) (omega arith) ∙ live)
root_active (suc most) state tree m frame less live = elim (cases_eq m 0) [
  | inl same ↦ (frame, ap (active state) (sym same) ∙ live)
  | inr other ↦
      let parent = tree.others m frame live other in
      let above = tree.spawned m parent.0 frame live parent.1 in
      let number : frame.number ≡ m = active_number state m frame live in
      let older : parent.0 < frame.number = tree.older m parent.0 frame live parent.1 in
      root_active most state tree parent.0 above.above (omega (arith, number, older)) above.live
]

-- once the root has finished, nobody is active
pub none_active : (state : QueueState) → IsTree state → active state 0 ≡ None → (m : ℕ) (frame : ActiveFrame) → active state m ≡ Some frame → ⊥
none_active state tree over m frame live =
    let root = root_active m state tree m frame (omega arith) live in
    let never : None ≡ Some root.0 = sym over ∙ root.1 in
    cc

-- paths with one front that go on by the same part
pub same_front : (top : List ℕ) (a b : ℕ) (rest more : List ℕ) → top ++ a ∷ rest ≡ top ++ b ∷ more → a ≡ b
same_front [] a b rest more is = cc
same_front (part ∷ parts) a b rest more is =
    let tail : parts ++ a ∷ rest ≡ parts ++ b ∷ more = cc in
    same_front parts a b rest more tail

module _ (state : QueueState) (tree : IsTree state) where
  -- who has a queue is its maker, or below it
  below_maker : (fuel number queue : ℕ) (frame : ActiveFrame) (maker : QueueMaker) → number < fuel → active state number ≡ Some frame → has_queue frame queue ≡ true
      → slice_get state.makers queue ≡ Some maker → (below : List ℕ) × (frame.path ≡ maker_path maker ++ below)
  below_maker zero number queue frame maker less live has at = absurd (omega arith)
  below_maker (suc fuel) number queue frame maker less live has at =
      by (tree.held number queue frame live has).1 (λ parent above older alive too. below_maker fuel parent queue above maker (omega arith) alive too at)
    where
      by : IsHeld state frame queue
          → ((parent : ℕ) (above : ActiveFrame) → parent < number → active state parent ≡ Some above → has_queue above queue ≡ true
          → (below : List ℕ) × (above.path ≡ maker_path maker ++ below))
          → (below : List ℕ) × (frame.path ≡ maker_path maker ++ below)
      by (made other there own) higher =
          let same : other ≡ maker = same_Some other maker (sym there ∙ at) in
          ([], own ∙ ap maker_path same ∙ sym (append-nil (maker_path maker)))
      by (given parent above of alive too modes apart) higher =
          let from = tree.spawned number parent frame live of in
          let one = one_answer (active state parent) from.above above from.live alive in
          let own = active_number state number frame live in
          let older = tree.older number parent frame live of in
          let upper = higher parent above (omega arith) alive too in
          let parts : above.path ++ from.index ∷ [] ≡ maker_path maker ++ (upper.0 ++ from.index ∷ []) =
          ap (λ p. p ++ from.index ∷ []) upper.1 ∙ append_assoc (maker_path maker) upper.0 (from.index ∷ []) in
          (upper.0 ++ from.index ∷ [], from.path ∙ ap (λ (g : ActiveFrame). g.path ++ from.index ∷ []) one ∙ parts)

  pub under_maker : (number queue : ℕ) (frame : ActiveFrame) (maker : QueueMaker) → active state number ≡ Some frame → has_queue frame queue ≡ true
      → slice_get state.makers queue ≡ Some maker → (below : List ℕ) × (frame.path ≡ maker_path maker ++ below)
  under_maker number queue frame maker live has at = below_maker (suc number) number queue frame maker (omega arith) live has at

  -- the maker of a queue that an active frame has
  pub maker_of : (number queue : ℕ) (frame : ActiveFrame) → active state number ≡ Some frame → has_queue frame queue ≡ true
      → (maker : QueueMaker) × (slice_get state.makers queue ≡ Some maker)
  maker_of number queue frame live has = some_within state.makers queue (tree.held number queue frame live has).0

  -- What is told of a frame is told of its parent too, where that is below a path towards its child of this index.
  abbrev pub Climbs : (Told : ActiveFrame → Type 0) (top : List ℕ) (part : ℕ) → Type 0
  Climbs Told top part =
      (number parent : ℕ) (frame above : ActiveFrame) (rest : List ℕ) → active state number ≡ Some frame → frame.parent ≡ Some parent
      → active state parent ≡ Some above → above.path ≡ top ++ part ∷ rest → Told frame → Told above

  -- the frame on the way from a path to an active frame below it, and what is told of it
  pub record IsOnWay (Told : ActiveFrame → Type 0) (top : List ℕ) (part from : ℕ) : Type 0 where
    pub number : ℕ
    pub child : ActiveFrame
    pub live : active state number ≡ Some child
    pub path : child.path ≡ top ++ part ∷ []
    pub told : Told child
    pub parent : ℕ
    pub of : child.parent ≡ Some parent
    pub above : ActiveFrame
    pub above_live : active state parent ≡ Some above
    pub above_path : above.path ≡ top
    -- it is that frame, or it has spawned one
    pub reached : (number ≡ from) ⊎ (0 < child.children)

  -- the parent of a frame that isn't the root
  pub parent_of : (number : ℕ) (frame : ActiveFrame) (top rest : List ℕ) (part : ℕ) → active state number ≡ Some frame → frame.path ≡ top ++ part ∷ rest
      → (parent : ℕ) × (frame.parent ≡ Some parent)
  parent_of number frame top rest part live path =
      tree.others number frame live (λ zero.
      let P : ℕ → Type 0 = λ n. active state n ≡ Some frame in
      not_root top rest part (sym path ∙ (tree.root frame (subst P zero live)).0))

  climbs : (Told : ActiveFrame → Type 0) (top : List ℕ) (part : ℕ) → Climbs Told top part → (fuel number : ℕ) (frame : ActiveFrame) (rest : List ℕ)
      → number < fuel → active state number ≡ Some frame → frame.path ≡ top ++ part ∷ rest → Told frame → IsOnWay Told top part number
  climbs Told top part up zero number frame rest less live path told = absurd (omega arith)
  climbs Told top part up (suc fuel) number frame [] less live path told =
      let parent = parent_of number frame top [] part live path in
      let from = tree.spawned number parent.0 frame live parent.1 in
      record {
        number = number;
        child = frame;
        live = live;
        path = path;
        told = told;
        parent = parent.0;
        of = parent.1;
        above = from.above;
        above_live = from.live;
        above_path = (same_from_push from.above.path top from.index part (sym from.path ∙ path)).0;
        reached = inl refl;
      }
  climbs Told top part up (suc fuel) number frame (next ∷ rest) less live path told =
      let parent = parent_of number frame top (next ∷ rest) part live path in
      let from = tree.spawned number parent.0 frame live parent.1 in
      let own = active_number state number frame live in
      let older = tree.older number parent.0 frame live parent.1 in
      let last = last_of next rest in
      let whole : top ++ part ∷ next ∷ rest ≡ (top ++ part ∷ last.front) ++ last.last ∷ [] =
      ap (λ p. top ++ part ∷ p) last.is ∙ sym (append_assoc top (part ∷ last.front) (last.last ∷ [])) in
      let higher = (same_from_push from.above.path (top ++ part ∷ last.front) from.index last.last (sym from.path ∙ path ∙ whole)).0 in
      let way = climbs Told top part up fuel parent.0 from.above last.front (omega arith) from.live higher
      (up number parent.0 frame from.above last.front live parent.1 from.live higher told) in
      record {
        number = way.number;
        child = way.child;
        live = way.live;
        path = way.path;
        told = way.told;
        parent = way.parent;
        of = way.of;
        above = way.above;
        above_live = way.above_live;
        above_path = way.above_path;
        reached = inr (spawned way.number way.child way.live parent.0 from.above from.live from.index from.spawned way.reached);
      }
    where
      spawned : (other : ℕ) (child : ActiveFrame) → active state other ≡ Some child → (parent : ℕ) (above : ActiveFrame) → active state parent ≡ Some above
          → (index : ℕ) → index < above.children → (other ≡ parent) ⊎ (0 < child.children) → 0 < child.children
      spawned other child alive parent above there index fewer (inl same) =
          let P : ℕ → Type 0 = λ n. active state n ≡ Some above in
          let one = one_answer (active state other) child above alive (subst P (sym same) there) in
          let as_many : child.children ≡ above.children = ap (λ (g : ActiveFrame). g.children) one in
          omega arith
      spawned other child alive parent above there index fewer (inr some) = some

  pub climb : (Told : ActiveFrame → Type 0) (top : List ℕ) (part : ℕ) → Climbs Told top part → (number : ℕ) (frame : ActiveFrame) (rest : List ℕ)
      → active state number ≡ Some frame → frame.path ≡ top ++ part ∷ rest → Told frame → IsOnWay Told top part number
  climb Told top part up number frame rest live path told = climbs Told top part up (suc number) number frame rest (omega arith) live path told

  -- who uses a queue that was made elsewhere uses it by right of its parent
  pub held_above : (queue : ℕ) (mode : Mode) (maker : QueueMaker) (top : List ℕ) (part : ℕ) → slice_get state.makers queue ≡ Some maker
      → ((rest : List ℕ) → maker_path maker ≡ top ++ part ∷ rest → ⊥) → Climbs (λ frame. holds_queue frame queue mode ≡ true) top part
  held_above queue mode maker top part at elsewhere number parent frame above rest live of alive path held =
      by (tree.held number queue frame live (has_held frame queue mode held)).1
    where
      by : IsHeld state frame queue → holds_queue above queue mode ≡ true
      by (made other there own) =
          let same : other ≡ maker = same_Some other maker (sym there ∙ at) in
          let from = tree.spawned number parent frame live of in
          let one = one_answer (active state parent) from.above above from.live alive in
          let whole : maker_path maker ≡ top ++ part ∷ (rest ++ from.index ∷ []) =
          ap maker_path (sym same) ∙ sym own ∙ from.path ∙ ap (λ (g : ActiveFrame). g.path ++ from.index ∷ []) one
          ∙ ap (λ p. p ++ from.index ∷ []) path ∙ append_assoc top (part ∷ rest) (from.index ∷ []) in
          absurd (elsewhere (rest ++ from.index ∷ []) whole)
      by (given other upper here there too modes apart) =
          let same : other ≡ parent = same_Some other parent (sym here ∙ of) in
          let P : ℕ → Type 0 = λ n. active state n ≡ Some upper in
          let one = one_answer (active state parent) upper above (subst P same there) alive in
          let Q : ActiveFrame → Type 0 = λ g. holds_queue g queue mode ≡ true in
          subst Q one (modes mode held)

  -- ---- where its maker is not

  -- the maker of a queue isn't beside a frame that has it
  pub maker_aside : (queue number : ℕ) (frame : ActiveFrame) (maker : QueueMaker) (top more : List ℕ) (part other : ℕ) → active state number ≡ Some frame → has_queue frame queue ≡ true
      → slice_get state.makers queue ≡ Some maker → frame.path ≡ top ++ other ∷ more → (part ≡ other → ⊥) → (rest : List ℕ) → maker_path maker ≡ top ++ part ∷ rest → ⊥
  maker_aside queue number frame maker top more part other live has at path apart rest there =
      let under = under_maker number queue frame maker live has at in
      apart (same_front top part other (rest ++ under.0) more
      (sym (append_assoc top (part ∷ rest) under.0) ∙ ap (λ p. p ++ under.0) (sym there) ∙ sym under.1 ∙ path))

  -- nor below it
  pub maker_below : (queue number : ℕ) (frame : ActiveFrame) (maker : QueueMaker) (part : ℕ) → active state number ≡ Some frame → has_queue frame queue ≡ true
      → slice_get state.makers queue ≡ Some maker → (rest : List ℕ) → maker_path maker ≡ frame.path ++ part ∷ rest → ⊥
  maker_below queue number frame maker part live has at rest there =
      let under = under_maker number queue frame maker live has at in
      not_below-itself frame.path (rest ++ under.0) part
      (under.1 ∙ ap (λ p. p ++ under.0) there ∙ append_assoc frame.path (part ∷ rest) under.0)
