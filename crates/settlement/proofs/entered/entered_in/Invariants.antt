use Rattle.std.proofs.Common.{◌≡◌, [], ◌∷◌, ◌++◌, map, drop}
use Rattle.std.specs.Prelude.{fold}
use Rattle.machine_model.specs.Placing.{entered_by, entered_in}
use Rattle.settlement.proofs.entered.entered_in.Given as goal

abbrev pub invariant-loop-file : goal.invariant-loop-file
invariant-loop-file l =
    fold (λ before file. before ++ entered_by l.moment (map (λ file. file.entered) l.taken) before file.origin ∷ []) l.entered.items (drop l.file-index l.files)
    ≡ entered_in l.moment (map (λ file. file.entered) l.taken) l.files
