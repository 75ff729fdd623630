use Rattle.flow_words.proofs.Fronts.{named}
use Rattle.flow_words.proofs.argument.read_word.Goals as goal

pub returns-in-None-split_once : goal.returns-in-None-split_once
returns-in-None-split_once c = named c.args.word.now c.in-Some.option.now c.in-Some.ensures.cases c.in-None-split_once.ensures.cases
