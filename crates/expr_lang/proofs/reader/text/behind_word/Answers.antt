use Rattle.expr_lang.proofs.Fronts.{word_stripped}
use Rattle.expr_lang.proofs.reader.text.behind_word.Goals as goal

pub returns : goal.returns
returns c = word_stripped c.args.word.now c.args.text.now c.strip_prefix.result c.strip_prefix.ensures.cases
