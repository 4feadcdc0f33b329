use denote.RattleType.{RattleType}
use denote.Param.Send.{IsSend}
use Rattle.swan_model.specs.contracts.meaning.Meaning.{the_row}

pub send : (N : RattleType) → IsSend (the_row N)
send N = record { owned = λ d vs. ((λ vss. (tt, ((λ uss. (tt, tt)), tt))), tt); leaving = λ k f vs. tt }
