-- What a step of a checked job does to the serial state: it meets no fault of rights, and each
-- activation stands where it holds what the check knows there.
use Rattle.std.proofs.Common.{◌≡◌, ℕ, ◌+◌, ◌-◌, ◌<◌, ◌≤◌, Bool, true, false, List, [], ◌∷◌, ◌++◌, length, nat_lt, nat_le, if◌then◌else◌, refl, sym, subst, arith}
use Rattle.swan_model.specs.declared.body.Answer.{Answer}
use Rattle.swan_model.specs.declared.body.Answer.TheVariants as answer
use Rattle.swan_model.specs.declared.body.Ask.TheVariants as ask
use Rattle.swan_model.specs.declared.body.Child.{Child}
use Rattle.swan_model.specs.declared.fault.FaultKind.TheVariants as kind
use Rattle.swan_model.specs.declared.origin.Origin.TheVariants as origin
use Rattle.swan_model.specs.declared.path.TheConstants.{PATH_MOST}
use Rattle.swan_model.specs.declared.rights.Mode.{Mode}
use Rattle.swan_model.specs.declared.rights.Mode.TheVariants.{In, Out, InOut, Push, Pop, PushPop}
use Rattle.swan_model.specs.declared.value.Value.{Value}
use Rattle.swan_model.specs.Rights.{is_aliased, is_queue_mode}
use Rattle.swan_model.specs.SerialState.{Activation, Cell, Holding, Queue, Store}
use Rattle.swan_model.specs.SerialStep as serial
use Rattle.swan_model.specs.SerialStep.{Effect, goes_on, spawns, ends, faults, effect, number_at, on_cell, on_list, on_object, on_queue, popped, spawn_effect, with_answer, cells_with_zeros}
use Rattle.swan_model.specs.Values.{kind_of}
use Rattle.job_reader.specs.declared.line.Line.{Line}
use Rattle.job_body.specs.RightsKept.{is_of_rights}
use Rattle.job_body.specs.Standing.{Standing}
use Rattle.std.proofs.lemmas.List.{map-append, length_push}
use Rattle.swan_model.proofs.Lists.{some_within}
use Rattle.swan_model.proofs.Stores.{HasGrown, grown-items, grown-same, grown-value}
use Rattle.swan_model.proofs.ZeroedCells.{length-zeroed}
use Rattle.job_body.proofs.RightsSpawns.{ChildHolds, HeldAt, InStore, held-stored, held_modes_of, number-held, room}
use Rattle.job_body.proofs.RightsStands.{Stands}

-- an activation stands where it holds what it holds, all of which stands in the store
pub record FitsStore (job : List Line) (store : Store) (a : Activation Standing) : Type 0 where
  pub stands : Stands job a.local.at (held_modes_of a.holdings)
  pub stored : InStore (length store.cells) (length store.queues) a.holdings

-- an effect leaves activations that fit, and is no fault of rights
abbrev pub EffectFits : List Line → Store → Effect Standing → Type 0
EffectFits job store (goes_on a after) = HasGrown store after × FitsStore job after a
EffectFits job store (spawns parent child after) = HasGrown store after × FitsStore job after parent × FitsStore job after child
EffectFits job store ends = Unit {0}
EffectFits job store (faults kind) = is_of_rights kind ≡ false

-- ---- stores that have grown

in_store-grown : (c q d r : ℕ) (holdings : List Holding) → c ≤ d → q ≤ r → InStore c q holdings → InStore d r holdings
in_store-grown c q d r [] cells queues stored = tt
in_store-grown c q d r (holding ∷ holdings) cells queues stored =
    (go (is_queue_mode holding.mode) stored.0, in_store-grown c q d r holdings cells queues stored.1) where
      go : (b : Bool) → holding.number < (if b then q else c) → holding.number < (if b then r else d)
      go true less = omega (arith, less, queues)
      go false less = omega (arith, less, cells)

pub fits-grown : (job : List Line) (before after : Store) (a : Activation Standing) → HasGrown before after → FitsStore job before a → FitsStore job after a
fits-grown job before after a grows fits =
    record {
      stands = fits.stands;
      stored = in_store-grown (length before.cells) (length before.queues) (length after.cells) (length after.queues) a.holdings grows.cells grows.queues fits.stored;
    }

-- ---- asks for what is held

object-held : (P : Effect Standing → Type 0) (store : Store) (holdings : List Holding) (place : ℕ) (mode : Mode) (f : ℕ → Cell → Effect Standing) → is_queue_mode mode ≡ false → HeldAt holdings place mode → InStore (length store.cells) (length store.queues) holdings → ((n : ℕ) (cell : Cell) → P (f n cell)) → P (on_object store (number_at holdings place mode) f)
object-held P store holdings place mode f sort h stored each =
    let n = h.holding.number in
    let there = some_within store.cells n (subst (λ b. n < (if b then length store.queues else length store.cells)) sort (held-stored (length store.cells) (length store.queues) holdings place mode h stored)) in
    subst (λ at. P (on_object store at f)) (sym (number-held holdings place mode h))
    (subst (λ cell. P (on_cell cell (f n))) (sym there.1) (each n there.0))

queue-held : (P : Effect Standing → Type 0) (store : Store) (holdings : List Holding) (place : ℕ) (mode : Mode) (f : ℕ → Queue → Effect Standing) → is_queue_mode mode ≡ true → HeldAt holdings place mode → InStore (length store.cells) (length store.queues) holdings → ((n : ℕ) (queue : Queue) → P (f n queue)) → P (on_queue store (number_at holdings place mode) f)
queue-held P store holdings place mode f sort h stored each =
    let n = h.holding.number in
    let there = some_within store.queues n (subst (λ b. n < (if b then length store.queues else length store.cells)) sort (held-stored (length store.cells) (length store.queues) holdings place mode h stored)) in
    subst (λ at. P (on_queue store at f)) (sym (number-held holdings place mode h))
    (subst (λ queue. P (on_list queue (f n))) (sym there.1) (each n there.0))

fits-told : (job : List Line) (store after : Store) (a : Activation Standing) (said : Answer) → HasGrown store after → FitsStore job store a → EffectFits job store (goes_on (with_answer a said) after)
fits-told job store after a said grows fits =
    let now = fits-grown job store after a grows fits in
    (grows, record { stands = now.stands; stored = now.stored })

pub work-fits : (job : List Line) (n : ℕ) (store : Store) (a : Activation Standing) → FitsStore job store a → EffectFits job store (effect n store a ask.Work)
work-fits job n store a fits = fits-told job store store a answer.Nothing (grown-same store) fits

pub sync-fits : (job : List Line) (n : ℕ) (store : Store) (a : Activation Standing) → FitsStore job store a → EffectFits job store (effect n store a ask.Sync)
sync-fits job n store a fits = (grown-same store, record { stands = fits.stands; stored = fits.stored })

pub read-fits : (job : List Line) (n : ℕ) (store : Store) (a : Activation Standing) (place : ℕ) → HeldAt a.holdings place In → FitsStore job store a → EffectFits job store (effect n store a (ask.Read place))
read-fits job n store a place h fits =
    object-held (EffectFits job store) store a.holdings place In _ refl h fits.stored
    (λ number cell. fits-told job store store a (answer.Item cell.value) (grown-same store) fits)

pub write-fits : (job : List Line) (n : ℕ) (store : Store) (a : Activation Standing) (place : ℕ) (value : Value) → HeldAt a.holdings place Out → FitsStore job store a → EffectFits job store (effect n store a (ask.Write place value))
write-fits job n store a place value h fits =
    object-held (EffectFits job store) store a.holdings place Out _ refl h fits.stored
    (λ number cell. fits-told job store (serial.with_value store number cell value) a answer.Nothing (grown-value store number cell value) fits)

pub push-fits : (job : List Line) (n : ℕ) (store : Store) (a : Activation Standing) (place : ℕ) (value : Value) → HeldAt a.holdings place Push → FitsStore job store a → EffectFits job store (effect n store a (ask.Push place value))
push-fits job n store a place value h fits =
    queue-held (EffectFits job store) store a.holdings place Push _ refl h fits.stored
    (λ number queue. fits-told job store (serial.with_items store number queue (queue.items ++ value ∷ [])) a answer.Nothing (grown-items store number queue (queue.items ++ value ∷ [])) fits)

popped-fits : (job : List Line) (store : Store) (a : Activation Standing) (number : ℕ) (queue : Queue) (items : List Value) → FitsStore job store a → EffectFits job store (popped store a number queue items)
popped-fits job store a number queue [] fits = refl
popped-fits job store a number queue (item ∷ items) fits =
    fits-told job store (serial.with_items store number queue items) a (answer.Item item) (grown-items store number queue items) fits

pub pop-fits : (job : List Line) (n : ℕ) (store : Store) (a : Activation Standing) (place : ℕ) → HeldAt a.holdings place Pop → FitsStore job store a → EffectFits job store (effect n store a (ask.Pop place))
pop-fits job n store a place h fits =
    queue-held (EffectFits job store) store a.holdings place Pop _ refl h fits.stored
    (λ number queue. popped-fits job store a number queue queue.items fits)

pub empty-fits : (job : List Line) (n : ℕ) (store : Store) (a : Activation Standing) (place : ℕ) → HeldAt a.holdings place Pop → FitsStore job store a → EffectFits job store (effect n store a (ask.Empty place))
empty-fits job n store a place h fits =
    queue-held (EffectFits job store) store a.holdings place Pop _ refl h fits.stored
    (λ number queue. fits-told job store store a _ (grown-same store) fits)

-- ---- what is made

in_store-more : (c q : ℕ) (holdings : List Holding) (holding : Holding) → holding.number < room c q holding.mode → InStore c q holdings → InStore c q (holdings ++ holding ∷ [])
in_store-more c q [] holding less stored = (less, tt)
in_store-more c q (first ∷ holdings) holding less stored = (stored.0, in_store-more c q holdings holding less stored.1)

modes-more : (holdings : List Holding) (holding : Holding) → held_modes_of holdings ++ holding.mode ∷ [] ≡ held_modes_of (holdings ++ holding ∷ [])
modes-more holdings holding = sym (map-append (λ (h : Holding). h.mode) holdings (holding ∷ []))

made-fits : (job : List Line) (store after : Store) (a : Activation Standing) (holding : Holding) → HasGrown store after → Stands job a.local.at (held_modes_of a.holdings ++ holding.mode ∷ []) → InStore (length store.cells) (length store.queues) a.holdings → holding.number < room (length after.cells) (length after.queues) holding.mode → EffectFits job store (goes_on (serial.with_place a holding) after)
made-fits job store after a holding grows stands stored less = (
  grows,
  record {
    stands = subst (Stands job a.local.at) (modes-more a.holdings holding) stands;
    stored = in_store-more (length after.cells) (length after.queues) a.holdings holding less
        (in_store-grown (length store.cells) (length store.queues) (length after.cells) (length after.queues) a.holdings grows.cells grows.queues stored);
  },
)

pub queue-fits : (job : List Line) (n : ℕ) (store : Store) (a : Activation Standing) → Stands job a.local.at (held_modes_of a.holdings ++ PushPop ∷ []) → InStore (length store.cells) (length store.queues) a.holdings → EffectFits job store (effect n store a ask.NewQueue)
queue-fits job n store a stands stored =
    let queue : Queue = record { origin = origin.Step n; items = [] } in
    let after : Store = record store { queues = store.queues ++ queue ∷ [] } in
    made-fits job store after a (record { mode = PushPop; number = length store.queues }) (record { cells = omega arith; queues = omega (arith, length_push store.queues queue) }) stands stored (omega (arith, length_push store.queues queue))

pub object-fits : (job : List Line) (n : ℕ) (store : Store) (a : Activation Standing) (value : Value) → Stands job a.local.at (held_modes_of a.holdings ++ InOut ∷ []) → InStore (length store.cells) (length store.queues) a.holdings → EffectFits job store (effect n store a (ask.NewObject value))
object-fits job n store a value stands stored =
    let cell : Cell = record { origin = origin.Step n; kind = kind_of value; value = value } in
    let after : Store = record store { cells = store.cells ++ cell ∷ [] } in
    made-fits job store after a (record { mode = InOut; number = length store.cells }) (record { cells = omega (arith, length_push store.cells cell); queues = omega arith }) stands stored (omega (arith, length_push store.cells cell))

-- ---- a spawn

either-fits : (P : Effect Standing → Type 0) (b : Bool) (x y : Effect Standing) → P x → P y → P (if b then x else y)
either-fits P true x y p q = p
either-fits P false x y p q = q

pub spawn-fits : (job : List Line) (n : ℕ) (store : Store) (a : Activation Standing) (child : Child Standing) (held : List Mode) → is_aliased child.gives ≡ false → ChildHolds (length store.cells) (length store.queues) a.holdings child.gives held → Stands job child.local.at held → FitsStore job store a → EffectFits job store (effect n store a (ask.Spawn child))
spawn-fits job n store a child held apart holds stands fits =
    subst (λ given. EffectFits job store (spawn_effect store a child given)) (sym holds.given)
    (subst (λ b. EffectFits job store (if b then faults kind.Alias else rest)) (sym apart)
    (either-fits (EffectFits job store) (nat_le PATH_MOST (length a.path)) (faults kind.Depth) more refl
    (either-fits (EffectFits job store) (nat_lt a.fuel child.fuel) (faults kind.Fuel) goes refl (
      grows,
      record { stands = parent_now.stands; stored = parent_now.stored },
      record {
        stands = subst (Stands job child.local.at) (sym holds.modes) stands;
        stored = in_store-grown (length store.cells) (length store.queues) (length after.cells) (length after.queues) holds.child grows.cells grows.queues holds.stored;
      },
    )))) where
      after : Store
      after = record store { cells = cells_with_zeros store.cells holds.child }

      grows : HasGrown store after
      grows = record { cells = omega (arith, length-zeroed store.cells holds.child); queues = omega arith }

      parent_now : FitsStore job after a
      parent_now = fits-grown job store after a grows fits

      goes : Effect Standing
      goes = spawns
          (record a { answer = answer.Nothing; fuel = a.fuel - child.fuel; children = a.children + 1 })
          (record { path = a.path ++ a.children ∷ []; local = child.local; answer = answer.Start; fuel = child.fuel; holdings = holds.child; children = 0; failed = 0 })
          after

      more : Effect Standing
      more = if nat_lt a.fuel child.fuel then faults kind.Fuel else goes

      rest : Effect Standing
      rest = if nat_le PATH_MOST (length a.path) then faults kind.Depth else more
