use Rattle.std.proofs.Common.{◌≡◌, ◌∙◌, sym, arith}
use Rattle.prov_store.specs.Events.{count_in}
use Rattle.prov_store.proofs.Aging.{later_keeps}
use Rattle.prov_store.proofs.InFiles.{no_bytes}
use Rattle.prov_store.proofs.law.events_are_kept_step_by_step.Goals as goal

pub returns-clause-none : goal.returns-clause-none
returns-clause-none c old new k =
    let none : count_in 0 0 k ≡ 0 = omega arith in
    no_bytes 0 0 k new none ∙ sym (no_bytes 0 0 k old none)

pub returns-clause-later : goal.returns-clause-later
returns-clause-later c = later_keeps
