use Rattle.engine_queues.proofs.GivenBack.{names-go-back, names-leave}
use Rattle.engine_queues.proofs.laws.names_go_back.Goals as goal

pub returns : goal.returns
returns c = record { back = names-go-back; leave = names-leave }
