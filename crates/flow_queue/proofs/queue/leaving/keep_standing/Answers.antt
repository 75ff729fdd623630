use Rattle.std.proofs.Common.{rules}
use Rattle.std.proofs.lemmas.Fn.{filter_same}
use Rattle.flow_queue.specs.Leaving.{is_held}
use Rattle.flow_queue.proofs.queue.leaving.keep_standing.Goals as goal

pub returns-clause-notes : goal.returns-clause-notes
returns-clause-notes c = filter_same _ (is_held c.args.files.now.items) _ (λ x b q called. search rules) _ _ c.retain.ensures.filtered
