use Rattle.std.proofs.Common.{subst, refl}
use Rattle.std.specs.Prelude.{IfErr}
use Rattle.flow_query.specs.Parts.{IsSinkOrMemory}
use Rattle.flow_query.specs.declared.asking.Query.TheVariants as query
use Rattle.flow_query.proofs.Absence.{has_lineage, sink_or_memory, there_is}
use Rattle.flow_query.proofs.Known.{known}
use Rattle.flow_query.proofs.Refusing.{Said}
use Rattle.flow_query.specs.declared.error.QueryError.TheVariants.{Absent}
use Rattle.flow_query.proofs.Answering.{lineage_answer}
use Rattle.store_core.specs.Seen.{kept_seen}
use Rattle.flow_query.proofs.lineage.show_lineage.Goals as goal

pub returns-clause-printed : goal.returns-clause-printed
returns-clause-printed g c told seen state is writes =
    let s = c.args.seen.now in
    lineage_answer (kept_seen s).connections state c.args.id (kept_seen s).store c.store_of.result c.in-Some.file c.in_ok-named.named.events c.in_ok-named.named.file _ _ c.tell.result
    (c.in_ok-named.ensures.events told seen state is) c.store_of.ensures (known (g.D.Disk.held c.args.disk.now) s state seen is).store c.in-Some.is c.in_ok-named.ensures.file
    (c.tell.ensures.told writes)

pub returns-clause-absence : goal.returns-clause-absence
returns-clause-absence g c told seen state is =
    let s = c.args.seen.now in
    there_is (query.Lineage c.args.id) state
    (has_lineage c.args.id state (kept_seen s).store c.in-Some.file c.in_ok-named.named.events c.in_ok-named.named.file
    (c.in_ok-named.ensures.events told seen state is) (known (g.D.Disk.held c.args.disk.now) s state seen is).store c.in-Some.is c.in_ok-named.ensures.file)
    c.tell.result (λ absent. sink_or_memory Absent (subst (λ (said : Said). IfErr said IsSinkOrMemory) absent c.tell.ensures.refusal) refl)
