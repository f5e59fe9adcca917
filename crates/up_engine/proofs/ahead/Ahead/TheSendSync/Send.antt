-- A count may cross threads, since it has no bytes.
use denote.Param.Send.{IsSend}
use Rattle.up_engine.specs.contracts.ahead.Ahead.{the_row}

pub send : IsSend the_row
send = record { owned = λ n vs. ((λ vss. (tt, ((λ uss. (tt, tt)), tt))), tt); leaving = λ k d w. tt }
