use Rattle.std.proofs.Common.{◌++◌, ◌∙◌, ap}
use Rattle.proc_text.specs.Extracting.{found_by}
use Rattle.proc_text.proofs.Extracts.{more-found}
use Rattle.proc_text.proofs.extract_text.found_in.Goals as goal

pub loop-property-preserved : goal.loop-property-preserved
loop-property-preserved c =
    let text = c.args.text.now in
    let own = c.args.own.now in
    let i = c.loop-property.property-index in
    c.in_ok-add_found.ensures ∙ ap (λ done. done ++ found_by text c.property-item.result) c.loop-property.invariant
    ∙ more-found text own i c.property-item.result c.loop-property-test.true c.property-item.is
