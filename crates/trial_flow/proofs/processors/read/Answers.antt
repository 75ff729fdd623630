use Rattle.std.specs.Prelude.{Err}
use Rattle.expr_lang.specs.Gives.{GivesTree}
use Rattle.trial_flow.proofs.processors.read.Goals as goal

pub unreachable-requires : goal.unreachable-requires
unreachable-requires c =
    let gives : GivesTree (Err c.in-Err-Bad.field-0) c.requires.0 = c.in-Err-Bad.ensures.every_tree c.requires.0 c.requires.1 in
    rw c.in-Err-Bad.field-0-is at gives
