use Rattle.std.proofs.Common.{sym, ◌∙◌, rules, tests, bytes_eq, Bor}
use Rattle.std.proofs.lemmas.Iterator.{YieldsList-from_slice}
use Rattle.std.proofs.lemmas.Iterator.Search.{any_from_yields_List}
use Rattle.flow_words.specs.Arguments.{Text}
use Rattle.flow_words.proofs.Lists.{list_any-map}
use Rattle.flow_words.proofs.argument.Argument.is_among.Goals as goal

pub returns-in-Named : goal.returns-in-Named
returns-in-Named c =
    let name = c.in-Named.name.now in
    rw c.in-Named.is
    (any_from_yields_List (λ (other : Bor Text). bytes_eq other.now name) _ _ _ c.any.ensures.ran
    (YieldsList-from_slice c.args.names.now (cc)) (λ x b q k. search (rules, tests))
    ∙ sym (list_any-map (λ (other : Text). bytes_eq other name) (λ (other : Bor Text). other.now) c.args.names.now))
