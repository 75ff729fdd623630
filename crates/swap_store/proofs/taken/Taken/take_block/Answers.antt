use Rattle.swap_store.proofs.Refused.{no_step}
use Rattle.swap_store.proofs.taken.Taken.take_block.Goals as goal

pub returns-in-None-clause-unfit : goal.returns-in-None-clause-unfit
returns-in-None-clause-unfit c = λ form. no_step c.args.self.now.files.items c.args.kind c.args.payload.now c.in-None.ensures.none
