-- What an ask makes of the objects and the queues, told by its deed.
use Rattle.std.proofs.Common.{◌≡◌, ℕ, nat_lt, nat_le, List, [], ◌∷◌, ◌++◌, length, Option, Some, None, refl, sym, ap, subst, ◌∙◌}
use Rattle.std.specs.Option.{option_and_then, option_map}
use Rattle.std.specs.Prelude.{slice_get, slice_set}
use Rattle.swan_model.specs.declared.body.Ask.{Ask}
use Rattle.swan_model.specs.declared.body.Ask.TheVariants as ask
use Rattle.swan_model.specs.declared.body.Child.{Child}
use Rattle.swan_model.specs.declared.origin.Origin.{Origin}
use Rattle.swan_model.specs.declared.path.TheConstants.{PATH_MOST}
use Rattle.swan_model.specs.declared.rights.Mode.{Mode}
use Rattle.swan_model.specs.declared.rights.Mode.TheVariants.{In, Out, Push, Pop}
use Rattle.swan_model.specs.declared.script.Deed.{Deed}
use Rattle.swan_model.specs.declared.script.Deed.TheVariants as deed
use Rattle.swan_model.specs.declared.value.Value.{Value}
use Rattle.swan_model.specs.Rights.{is_aliased}
use Rattle.swan_model.specs.Script.{about, asked, origin_at, origin_of, spawn_of, deed_of}
use Rattle.swan_model.specs.SerialState.{Activation, Cell, Holding, Queue, Store}
use Rattle.swan_model.specs.SerialStep.{Effect, goes_on, spawns, ends, faults, effect, number_at, popped, spawn_effect, given, with_value, with_items}
use Rattle.serial_elision.proofs.Asks.{on_object-either, on_queue-either, if-either}
use Rattle.serial_elision.proofs.Becomes.{HasOrigins, Becomes, becomes-still, quiet-still, about-still, push-becomes, pop-becomes, write-becomes, queue-becomes, object-becomes}
use Rattle.serial_elision.proofs.ItemsTold.{without_first}
use Rattle.serial_elision.proofs.Pops.{set-found}
use Rattle.serial_elision.proofs.Zeroed.{spawn-becomes}

-- the store that an effect leaves is what the deed makes of the one before
abbrev pub IsDeedOf : {L : Type 0} → ℕ → Store → Deed → Effect L → Type 0
IsDeedOf n store does (goes_on a after) = Becomes n does store after
IsDeedOf n store does (spawns parent child after) = Becomes n does store after
IsDeedOf n store does ends = Becomes n does store store
IsDeedOf {L} n store does (faults kind) = Becomes n (deed_of {L = L} does (faults kind)) store store

still : (n : ℕ) (store : Store) → Becomes n deed.Quiet store store
still n store = becomes-still n deed.Quiet store quiet-still

-- the deed about what a place names
pub named : (store : Store) (held : List Holding) (place : ℕ) (mode : Mode) (number : ℕ) (origin : Origin) → number_at held place mode ≡ Some number → origin_of store mode number ≡ Some origin → (does : Origin → Deed) → does origin ≡ about (origin_at store held place mode) does
named store held place mode number origin at is does =
    sym (ap (λ n. about (option_and_then (origin_of store mode) n) does) at ∙ ap (λ o. about o does) is)

popped-does : {L : Type 0} (n : ℕ) (store : Store) (a : Activation L) (number : ℕ) (q : Queue) (items : List Value) → HasOrigins n store → slice_get store.queues number ≡ Some q → q.items ≡ items → IsDeedOf n store (deed.Pop q.origin) (popped store a number q items)
popped-does n store a number q (item ∷ items) has found is =
    pop-becomes n store number q items has found (ap without_first (sym is))
popped-does n store a number q [] has found is =
    subst (λ queues. Becomes n (deed.Pop q.origin) store (record store { queues = queues })) (set-found store.queues number q found)
    (subst (λ items. Becomes n (deed.Pop q.origin) store (record store { queues = slice_set store.queues number (record q { items = items }) })) (sym is) (pop-becomes n store number q [] has found (ap without_first (sym is))))

spawned-does : {L : Type 0} (n : ℕ) (store : Store) (a : Activation L) (child : Child L) (holdings : Option (List Holding)) → HasOrigins n store → IsDeedOf n store (spawn_of store holdings) (spawn_effect store a child holdings)
spawned-does n store a child None has = still n store
spawned-does n store a child (Some holdings) has =
    let does = spawn_of store (Some holdings) in
    if-either (IsDeedOf n store does) (is_aliased child.gives) _ _ (still n store)
    (if-either (IsDeedOf n store does) (nat_le PATH_MOST (length a.path)) _ _ (still n store)
    (if-either (IsDeedOf n store does) (nat_lt a.fuel child.fuel) _ _ (still n store) (spawn-becomes store n holdings has)))

pub effect-does : {L : Type 0} (n : ℕ) (store : Store) (a : Activation L) (asking : Ask L) → HasOrigins n store → IsDeedOf n store (asked store a.holdings asking) (effect n store a asking)
effect-does n store a ask.Work has = still n store
effect-does n store a (ask.Read place) has =
    let does = about (origin_at store a.holdings place In) deed.Read in
    on_object-either (IsDeedOf n store does) (still n store) store (number_at a.holdings place In) _ (λ number c at found.
    becomes-still n does store (about-still (origin_at store a.holdings place In) deed.Read (λ o. record { items = λ p xs. refl; value = λ p k v. refl })))
effect-does n store a (ask.Write place value) has =
    let name : Origin → Deed = λ o. deed.Write o value in
    let does = about (origin_at store a.holdings place Out) name in
    on_object-either (IsDeedOf n store does) (still n store) store (number_at a.holdings place Out) _ (λ number c at found.
    subst (λ d. Becomes n d store (with_value store number c value)) (named store a.holdings place Out number c.origin at (ap (option_map (λ (x : Cell). x.origin)) found) name)
    (write-becomes n store number c value has found))
effect-does n store a (ask.Push place value) has =
    let name : Origin → Deed = λ o. deed.Push o value in
    let does = about (origin_at store a.holdings place Push) name in
    on_queue-either (IsDeedOf n store does) (still n store) store (number_at a.holdings place Push) _ (λ number q at found.
    subst (λ d. Becomes n d store (with_items store number q (q.items ++ value ∷ []))) (named store a.holdings place Push number q.origin at (ap (option_map (λ (x : Queue). x.origin)) found) name)
    (push-becomes n store number q value has found))
effect-does n store a (ask.Pop place) has =
    let does = about (origin_at store a.holdings place Pop) deed.Pop in
    on_queue-either (IsDeedOf n store does) (still n store) store (number_at a.holdings place Pop) _ (λ number q at found.
    subst (λ d. IsDeedOf n store d (popped store a number q q.items)) (named store a.holdings place Pop number q.origin at (ap (option_map (λ (x : Queue). x.origin)) found) deed.Pop)
    (popped-does n store a number q q.items has found refl))
effect-does n store a (ask.Empty place) has =
    let does = about (origin_at store a.holdings place Pop) deed.Test in
    on_queue-either (IsDeedOf n store does) (still n store) store (number_at a.holdings place Pop) _ (λ number q at found.
    becomes-still n does store (about-still (origin_at store a.holdings place Pop) deed.Test (λ o. record { items = λ p xs. refl; value = λ p k v. refl })))
effect-does n store a ask.NewQueue has = queue-becomes n store
effect-does n store a (ask.NewObject value) has = object-becomes n store value
effect-does n store a (ask.Spawn child) has = spawned-does n store a child (given a.holdings child.gives) has
effect-does n store a ask.Sync has = becomes-still n deed.Sync store (record { items = λ p xs. refl; value = λ p k v. refl })
effect-does n store a ask.Finish has = still n store
effect-does n store a (ask.Fail trouble) has = still n store
