use Rattle.std.proofs.Common.{rules}
use Rattle.named_lock.proofs.Keeps.{looks}
use Rattle.named_lock.proofs.lock.NamedLock.is_stopped.Goals as goal

pub load-requires : goal.load-requires
load-requires g c = (search rules, search rules, looks _ _ _ _ _ _ _ _)
