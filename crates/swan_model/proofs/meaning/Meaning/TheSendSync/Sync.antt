use denote.RattleType.{RattleType}
use denote.Param.Send.{IsSync, whole-keyless}
use Rattle.swan_model.specs.contracts.meaning.Meaning.{the_row}
use Rattle.swan_model.proofs.meaning.Meaning.TheSendSync.Send.{send}

pub sync : (N : RattleType) → IsSync (the_row N)
sync N = record { shared = λ x b o κ q. whole-keyless _ _ (λ z vs. (send N).owned z vs) q x b o }
