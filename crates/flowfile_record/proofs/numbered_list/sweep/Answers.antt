use Rattle.std.proofs.Common.{rules, is_some}
use Rattle.std.proofs.lemmas.Fn.{filter_same}
use Rattle.flowfile_record.proofs.numbered_list.sweep.Goals as goal

pub returns-clause-slots : goal.returns-clause-slots
returns-clause-slots g c = filter_same _ (λ slot. is_some slot.item) _ (λ x b q called. search rules) _ _ c.retain.ensures.filtered
