use Rattle.std.proofs.Common.{length, refl, sym, ap, ◌∙◌}
use Rattle.std.proofs.lemmas.Bool.{eq-eqb, ne_eqb}
use Rattle.std.proofs.lemmas.Option.{slice_get_read}
use Rattle.engine_queues.specs.Linked.{ends_at, starts_at}
use Rattle.engine_queues.proofs.Linking.{next-other, next-passes}
use Rattle.engine_queues.proofs.linked.links_of.Goals as goal
use Rattle.engine_queues.proofs.linked.links_of.Goals.{then-target-processor+in_ok-push, else-target-processor, then-source-processor+in_ok-push-2, else-source-processor}

pub loop-place-preserved : goal.loop-place-preserved
loop-place-preserved c =
    let connections = c.args.connections.now in
    let processor = c.args.processor in
    let place = c.loop-place.place in
    let item = c.index-connections-place.result in
    let at = slice_get_read connections (length connections) place item refl c.loop-place-test.true c.index-connections-place.is in
    record {
      incoming = elim c.if-target-processor.branch [
        | then-target-processor+in_ok-push w ↦
            next-passes (ends_at processor) place connections item c.loop-place.incoming.items c.if-target-processor.incoming.items at
            (eq-eqb item.target processor (sym c.from-target.ensures ∙ w.if-target-processor.true)) c.loop-place.invariant.incoming (ap (λ v. v.items) w.incoming-is ∙ w.in_ok-push.ensures.items)
        | else-target-processor w ↦
            next-other (ends_at processor) place connections item c.loop-place.incoming.items c.if-target-processor.incoming.items at
            (ne_eqb item.target processor (λ e. w.if-target-processor.false (c.from-target.ensures ∙ e))) c.loop-place.invariant.incoming (ap (λ v. v.items) w.incoming-is)
      ];
      outgoing = elim c.if-source-processor.branch [
        | then-source-processor+in_ok-push-2 w ↦
            next-passes (starts_at processor) place connections item c.loop-place.outgoing.items c.if-source-processor.outgoing.items at
            (eq-eqb item.source processor (sym c.from-source.ensures ∙ w.if-source-processor.true)) c.loop-place.invariant.outgoing (ap (λ v. v.items) w.outgoing-is ∙ w.in_ok-push-2.ensures.items)
        | else-source-processor w ↦
            next-other (starts_at processor) place connections item c.loop-place.outgoing.items c.if-source-processor.outgoing.items at
            (ne_eqb item.source processor (λ e. w.if-source-processor.false (c.from-source.ensures ∙ e))) c.loop-place.invariant.outgoing (ap (λ v. v.items) w.outgoing-is)
      ];
    }
