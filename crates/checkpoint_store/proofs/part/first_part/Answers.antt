use Rattle.checkpoint_store.proofs.Parts.{no_first}
use Rattle.checkpoint_store.proofs.part.first_part.Goals as goal

pub returns-in-None-clause-unfit : goal.returns-in-None-clause-unfit
returns-in-None-clause-unfit c = λ form. no_first c.args.kind c.in-None.ensures.none c.args.payload.now c.args.version
