use Rattle.std.proofs.Common.{sym, subst}
use Rattle.std.specs.Prelude.{All}
use Rattle.processor_cases.specs.Cases.{IsReadFile}
use Rattle.processor_cases.proofs.Cases.{one-more}
use Rattle.processor_cases.proofs.case.files.Goals as goal

pub loop-place-preserved : goal.loop-place-preserved
loop-place-preserved c =
    subst (All IsReadFile) (sym c.in_ok-push-2.ensures.ok) (one-more c.loop-place.files c.in_ok-file-2.field-0 c.loop-place.invariant c.in_ok-file-2.ensures)
