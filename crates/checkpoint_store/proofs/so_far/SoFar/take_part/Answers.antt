use Rattle.flowfile_record.specs.Stored.{kept_of}
use Rattle.checkpoint_store.proofs.Parts.{no_next}
use Rattle.checkpoint_store.proofs.so_far.SoFar.take_part.Goals as goal

pub returns-in-None-clause-unfit : goal.returns-in-None-clause-unfit
returns-in-None-clause-unfit c = λ form. no_next c.args.kind c.in-None.ensures.none c.args.payload.now (kept_of c.args.self.now.state)
