use Rattle.std.proofs.Common.{◌≡◌, [], ◌++◌, sym, ◌∙◌, ap, arith}
use Rattle.std.proofs.lemmas.List.{nil_from_length}
use Rattle.process_session.specs.Finish.{kept_files}
use Rattle.process_session.proofs.FinishFiles.{kept_done}
use Rattle.process_session.proofs.session.finish.kept.kept_files.Goals as goal

pub returns : goal.returns
returns c = λ stand is.
    let kept = c.loop-file.kept.items in
    let none : c.loop-file.files.items ≡ [] = nil_from_length c.loop-file.files.items (omega (arith, c.in_default.ensures.cases.0)) in
    sym (kept_done stand kept) ∙ ap (λ l. kept ++ kept_files stand l) (sym none) ∙ (c.loop-file.invariant.rest stand is).1
