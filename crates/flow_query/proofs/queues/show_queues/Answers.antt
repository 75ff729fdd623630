use Rattle.std.proofs.Common.{◌≡◌, sym, ap, ◌∙◌}
use Rattle.flowfile_record.specs.Stored.{kept_of}
use Rattle.store_core.specs.Seen.{kept_seen, or_anew}
use Rattle.flow_query.specs.Parts.{lines_text}
use Rattle.flow_query.specs.declared.asking.Query.TheVariants as query
use Rattle.flow_query.proofs.Answering.{printed_answers}
use Rattle.flow_query.proofs.Queued.{lines_are}
use Rattle.flow_query.proofs.queues.show_queues.Goals as goal

pub write_queues-requires : goal.write_queues-requires
write_queues-requires g c = (c.state.ensures.consistent (kept_of c.in-Some.stored.now) (sym c.in-Some.ensures.stored)).0

pub returns-in-Some-clause-printed : goal.returns-in-Some-clause-printed
returns-in-Some-clause-printed g c files told seen state is writes =
    let s = c.args.seen.now in
    let k = kept_of c.in-Some.stored.now in
    let same : k ≡ kept_seen s = ap or_anew c.in-Some.ensures.stored in
    printed_answers query.Queues (kept_seen s).connections state (lines_text k) _ _ (ap lines_text same ∙ lines_are files s state seen is) c.write_queues.result (c.write_queues.ensures.written writes)
