use Rattle.flow_query.proofs.Listed.{listed-set_other}
use Rattle.flow_query.proofs.waiting.take_list.Goals as goal

pub returns-clause-others : goal.returns-clause-others
returns-clause-others c at other = listed-set_other c.args.lists.now.items c.args.place at c.replace.new.dest other
