use Rattle.std.proofs.Common.{sym, ap, ◌∙◌}
use Rattle.std.specs.Option.{option_map, option_map_or}
use Rattle.machine_model.specs.Fragments.{fragment_seen}
use Rattle.flow_queue.specs.declared.queue.counts.TheConstants.{ALONE}
use Rattle.flow_queue.specs.Counts.{number_of_whole, whole_number}
use Rattle.flow_queue.proofs.queue.counts.whole_number.Goals as goal

pub returns-in-Some : goal.returns-in-Some
unfolding whole_number
returns-in-Some c =
    c.number_of_whole.ensures ∙ ap (λ o. option_map_or number_of_whole (option_map fragment_seen o) ALONE) (sym c.in-Some.is)
    ∙ ap (λ o. option_map_or number_of_whole o ALONE) c.fragment_of.ensures

pub returns-in-None : goal.returns-in-None
unfolding whole_number
returns-in-None c =
    ap (λ o. option_map_or number_of_whole (option_map fragment_seen o) ALONE) (sym c.in-None.is)
    ∙ ap (λ o. option_map_or number_of_whole o ALONE) c.fragment_of.ensures
