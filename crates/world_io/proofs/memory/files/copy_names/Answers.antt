use Rattle.std.proofs.Common.{List, ℕ, map, ap, ◌∙◌, arith}
use Rattle.std.proofs.lemmas.List.{take_all}
use Rattle.world_io.proofs.Places.{Stored, names-of}
use Rattle.world_io.proofs.memory.files.copy_names.Goals as goal

pub returns : goal.returns
returns c =
    let names : List Stored → List (List ℕ) = λ files. map (λ file. file.0) files in
    c.loop-name.invariant ∙ ap names (take_all c.loop-name.name-index c.args.files.now (omega arith)) ∙ names-of c.args.files.now
