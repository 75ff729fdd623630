use Rattle.std.proofs.Common.{[], sym, ap, ◌∙◌}
use Rattle.std.specs.Option.{option_map, is_some, unwrap_or}
use Rattle.std.proofs.lemmas.List.{take-map}
use Rattle.machine_model.specs.Due.{numbers_of}
use Rattle.flow_queue.specs.Queue.{held_view}
use Rattle.flow_queue.proofs.queue.bins.pick_bin.Goals as goal

pub returns-in_ok-list_numbers-in-Some-clause-picks : goal.returns-in_ok-list_numbers-in-Some-clause-picks
returns-in_ok-list_numbers-in-Some-clause-picks c =
    let bin = c.in-Some.ensures.bin in (
      ap (λ o. is_some (option_map numbers_of o)) bin,
      c.in_ok-list_numbers-in-Some.ensures
          ∙ ap numbers_of (sym (take-map (λ held. held_view held.now) c.in-Some.size c.args.files.now))
          ∙ ap (λ o. unwrap_or (option_map numbers_of o) []) bin,
    )
