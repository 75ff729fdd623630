use Rattle.std.proofs.Common.{◌≡◌, Option, Some, None, codes, refl, ap, ◌∙◌, rules}
use Rattle.std.specs.Option.{option_map}
use Rattle.machine_model.specs.Taking.{number_under}
use Rattle.machine_model.specs.declared.fragment.Fragment.{Fragment as Part}
use Rattle.machine_model.specs.Fragments.{fragment_seen}
use Rattle.machine_model.proofs.FragmentRead.{fragment-by}
use Rattle.machine_model.proofs.fragment.fragment_of.Goals as goal

pub returns-in_err-identifier : goal.returns-in_err-identifier
returns-in_err-identifier c =
    let attributes = c.args.attributes.now in
    let none : ◌≡◌ {A = Option Part} c.from_residual.result None = search rules in
    ap (option_map fragment_seen) none
    ∙ fragment-by attributes None (number_under attributes (codes "fragment.index")) (number_under attributes (codes "fragment.count")) c.in_err-identifier.ensures.value refl refl

pub returns-in_err-count : goal.returns-in_err-count
returns-in_err-count c =
    let none : ◌≡◌ {A = Option Part} c.from_residual-in_err-count.result None = search rules in
    ap (option_map fragment_seen) none
    ∙ fragment-by c.args.attributes.now (Some c.in_ok-identifier.identifier.now) (Some c.in_ok-index.index) None c.in_ok-identifier.ensures.value c.in_ok-index.ensures c.in_err-count.ensures

pub returns : goal.returns
returns c =
    c.within_count.ensures
    ∙ fragment-by c.args.attributes.now (Some c.in_ok-identifier.identifier.now) (Some c.in_ok-index.index) (Some c.in_ok-count.count) c.in_ok-identifier.ensures.value c.in_ok-index.ensures c.in_ok-count.ensures
