use Rattle.std.proofs.Common.{rules, tests}
use Rattle.std.proofs.lemmas.Iterator.{YieldsList-from_slice}
use Rattle.std.proofs.lemmas.Iterator.Search.{all_from_yields_List}
use Rattle.flow_definition.specs.OwnPatterns.{is_read}
use Rattle.flow_definition.proofs.own_patterns.are_read.Goals as goal

pub returns : goal.returns
returns c =
    all_from_yields_List is_read _ _ _ c.all.ensures.ran (YieldsList-from_slice c.args.attempts.now (cc)) (λ x b q k. search (rules, tests))
