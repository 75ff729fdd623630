use Rattle.std.proofs.Common.{◌≡◌, ℕ, List, refl, sym, ap, ◌∙◌}
use Rattle.engine_choice.specs.declared.choice.Taking.TheVariants.{Files}
use Rattle.engine_steps.proofs.HandedBack.{files_back, none_back}
use Rattle.engine_steps.proofs.flight.give_files_back.Goals as goal

pub returns-in-Files-clause-back : goal.returns-in-Files-clause-back
returns-in-Files-clause-back c =
    let is : c.args.taking.now ≡ Files c.in-Files.connection c.as_slice.result.now = c.in-Files.is ∙ ap (λ (ns : List ℕ). Files c.in-Files.connection ns) (sym c.as_slice.ensures) in
    files_back c.args.queues.now c.back.new.self c.args.taking.now c.in-Files.connection c.as_slice.result.now is c.back.ensures.back

pub returns-in_default : goal.returns-in_default
returns-in_default c = record {
  same = refl;
  back = none_back c.args.queues.now c.args.taking.now c.in_default.not-Files;
}
