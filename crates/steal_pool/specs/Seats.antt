-- What clauses say of the seats of a pool.
use Rattle.std.specs.Prelude.{◌≡◌, ℕ, List, [], ◌∷◌, ◌++◌, Some, ◌+◌, ◌<◌, drop, length, map, slice_get, slice_set, take}
use Rattle.crossbeam_deque.specs.Handles.{worker_capacity, worker_deque, worker_index, worker_port, worker_view}
use Rattle.crossbeam_utils.specs.Padded.{padded_value}
use Rattle.named_lock.specs.declared.named.Named.{Ghosts}
use Rattle.steal_pool.specs.declared.rule.PoolView.{PoolView}
use Rattle.steal_pool.specs.declared.rule.DequeStage.TheVariants.{Open}
use Rattle.steal_pool.specs.declared.dry.Dry.{Dry}
use Rattle.steal_pool.specs.declared.seat.PoolSeat.{PoolSeat}
use Rattle.steal_pool.specs.Deques.{Deque}
use Rattle.steal_pool.specs.Rule.{IsAtStage, one_more}
use Rattle.steal_pool.specs.Kept.{frames}
use Rattle.steal_pool.specs.Peers.{deques_of, stolen_by}

-- the deques at which the take tried to steal, in order
abbrev pub tried_at : Dry → List Deque
tried_at dry = dry.tried

-- all but the one at this index, as it comes to them in a ring: those behind it, and then those before it
abbrev pub others_of : {X : Type 0} → List X → ℕ → List X
others_of all index = drop (index + 1) all ++ take index all

-- each of these lists, one for each of all, has so many of the others, the next ones
abbrev pub HaveNext : {X : Type 0} → List X → ℕ → List (List X) → Type 0
HaveNext all count lists = (index : ℕ) → index < length all → slice_get lists index ≡ Some (take count (others_of all index))

-- the list at one place has one more, which stands among all at another place
pub record HasMet {X : Type 0} (all : List X) (place from : ℕ) (before after : List (List X)) : Type 0 where
  pub met : List X
  pub other : X
  pub had : slice_get before place ≡ Some met
  pub stands : slice_get all from ≡ Some other
  pub now : after ≡ slice_set before place (met ++ other ∷ [])

module _ {T N : Type 0} {G : Ghosts T N} where
  -- the name of the pool
  abbrev pub pool_name : PoolSeat T N G → N
  pool_name seat = seat.name

  -- which deque is the seat's own
  abbrev pub own_deque : PoolSeat T N G → Deque
  own_deque seat = worker_deque (padded_value seat.own)

  -- how many frames the seat's deque has room for, before it grows
  abbrev pub own_room : PoolSeat T N G → ℕ
  own_room seat = worker_capacity (padded_value seat.own)

  -- how far the seat's deque is filled: each put there counts it up by one, and a take leaves it or, as far as clauses say,
  -- takes it down
  abbrev pub next_put : PoolSeat T N G → ℕ
  next_put seat = worker_index (padded_value seat.own)

  -- the frames on the seat's own list, the next one first
  abbrev pub listed : PoolSeat T N G → List T
  listed seat = frames seat.list

  -- the seat's place at its deque
  abbrev pub own_port : PoolSeat T N G → ℕ
  own_port seat = worker_port (padded_value seat.own)

  -- what the seat knows of its deque, and how many frames it took there
  abbrev pub own_view : PoolSeat T N G → PoolView N
  own_view seat = worker_view (padded_value seat.own)

  -- how many frames the seat stole from others
  abbrev pub stolen : PoolSeat T N G → ℕ
  stolen seat = stolen_by seat.peers

  -- the deques of the other seats that it knows, in the order in which it tries them
  abbrev pub known : PoolSeat T N G → List Deque
  known seat = deques_of seat.peers

  -- each of these seats knows each other one, the next one first
  abbrev pub KnowEachOther : List (PoolSeat T N G) → Type 0
  KnowEachOther seats =
      (index : ℕ) (seat : PoolSeat T N G) → slice_get seats index ≡ Some seat → known seat ≡ others_of (map own_deque seats) index

  -- a seat of the pool with this name, which knows the name, and whose own list is empty
  abbrev pub IsNewSeat : N → PoolSeat T N G → Type 0
  IsNewSeat name seat = (pool_name seat ≡ name) × IsAtStage Open (Some name) (own_view seat) × (listed seat ≡ [])

  -- it is the same seat of the same pool: the pool's name, the seat's own deque, its place there and the other seats that it knows
  -- are the same
  abbrev pub IsSameSeat : PoolSeat T N G → PoolSeat T N G → Type 0
  IsSameSeat old new =
      (pool_name new ≡ pool_name old) × (own_deque new ≡ own_deque old) × (own_port new ≡ own_port old) × (known new ≡ known old)

  -- no frame left the seat's deque or was stolen by its steps
  abbrev pub IsSameView : PoolSeat T N G → PoolSeat T N G → Type 0
  IsSameView old new = (own_view new ≡ own_view old) × (stolen new ≡ stolen old)

  -- one frame left the seat's deque, and nothing else left
  abbrev pub GivesFirst : PoolSeat T N G → PoolSeat T N G → Type 0
  GivesFirst old new = (own_view new ≡ one_more (own_view old)) × (listed new ≡ listed old) × (stolen new ≡ stolen old)

  -- this frame, the first of the seat's own list, left it, and nothing else left
  abbrev pub GivesListed : T → PoolSeat T N G → PoolSeat T N G → Type 0
  GivesListed frame old new = IsSameView old new × (listed old ≡ frame ∷ listed new)

  -- one frame was stolen, where the list was empty, and nothing else left
  abbrev pub GivesStolen : PoolSeat T N G → PoolSeat T N G → Type 0
  GivesStolen old new = (own_view new ≡ own_view old) × ((listed old ≡ []) × (listed new ≡ [])) × (stolen new ≡ stolen old + 1)
