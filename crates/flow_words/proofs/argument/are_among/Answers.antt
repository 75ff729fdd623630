use Rattle.std.proofs.Common.{sym, ◌∙◌, rules, tests}
use Rattle.std.proofs.lemmas.Iterator.{YieldsList-from_slice}
use Rattle.std.proofs.lemmas.Iterator.Search.{all_from_yields_List}
use Rattle.flow_words.specs.Seen.{named_texts, argument_seen}
use Rattle.flow_words.specs.Words.{is_named_among}
use Rattle.flow_words.proofs.Lists.{list_all-map}
use Rattle.flow_words.proofs.argument.are_among.Goals as goal

pub returns : goal.returns
returns c =
    all_from_yields_List (λ argument. is_named_among (named_texts c.args.names.now) (argument_seen argument)) _ _ _ c.all.ensures.ran
    (YieldsList-from_slice c.args.arguments.now (cc)) (λ x b q k. search (rules, tests))
    ∙ sym (list_all-map (is_named_among (named_texts c.args.names.now)) argument_seen c.args.arguments.now)
