-- What clauses say of a seat's own list.
use Rattle.std.specs.Prelude.{List, map}
use Rattle.named_lock.specs.declared.named.Named.{Ghosts}
use Rattle.steal_pool.specs.declared.kept.KeptList.{KeptList}

module _ {T N : Type 0} {G : Ghosts T N} where
  -- the frames, the next one first
  abbrev pub frames : KeptList T N G → List T
  frames list = map (λ one. one.frame) list.kept.items
