use Rattle.std.proofs.Common.{◌∙◌, arith, rules}
use Rattle.flow_query.specs.Parts.{listed_waiting}
use Rattle.flow_query.proofs.Listed.{listed-more}
use Rattle.flow_query.proofs.waiting.lists_of.Goals as goal

pub loop-active-preserved : goal.loop-active-preserved
loop-active-preserved c =
    let inv = c.loop-active.invariant in record {
      next = search rules;
      finite = search rules;
      len = c.list_file.ensures.len ∙ inv.len;
      lists = λ place lt.
          listed-more c.in-Some.active.now c.next.new.self c.loop-active.active-iterator place (listed_waiting c.loop-active.lists.items place) (listed_waiting c.list_file.new.lists.items place) _ c.in-Some.ensures.steps
          (c.in_ok-list_file.ensures.lists place (omega (arith, lt, inv.len))) (inv.lists place lt);
    }
