use Rattle.std.proofs.Common.{◌≡◌, length, arith}
use Rattle.regex.specs.Strings.{regex_names}
use Rattle.proc_text.proofs.Growing.{measured-whole}
use Rattle.proc_text.proofs.template.shape_of.Goals as goal

pub returns : goal.returns
returns c =
    let none : length c.fronts.rest.now ≡ 0 = grind (arith) in
    measured-whole (regex_names c.args.regex.now) c.args.template.now c.fronts.own c.fronts.groups.items c.fronts.rest.now none c.fronts.invariant.1
