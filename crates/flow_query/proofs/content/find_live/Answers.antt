use Rattle.std.proofs.Common.{refl, sym, ◌∙◌}
use Rattle.flow_query.proofs.Identified.{same_id, other_id}
use Rattle.flow_query.proofs.Live.{files_all, files_more, files_has, files_none}
use Rattle.flow_query.proofs.content.find_live.Goals as goal

pub loop-active-init : goal.loop-active-init
loop-active-init c =
    files_all c.args.stored.now.store c.args.id c.args.stored.now.files.items _ (c.into_iter-active-iterator.ensures.into_iter_gives ∙ c.iter-active-items.ensures)

pub loop-active-preserved : goal.loop-active-preserved
loop-active-preserved c =
    files_more c.args.stored.now.store c.args.id c.args.stored.now.files.items c.loop-active.active-iterator c.next.new.self c.in-Some.active.now c.in-Some.ensures.steps
    (λ is. other_id _ _ _ c.eq.ensures c.if-eq.false (c.uuid_of.ensures.bits ∙ is)) c.loop-active.invariant

pub returns-then-eq-clause-found : goal.returns-then-eq-clause-found
returns-then-eq-clause-found c =
    let stored = c.args.stored.now in
    record {
      active = c.in-Some.active.now;
      there = files_has stored.store c.args.id stored.files.items c.loop-active.active-iterator c.next.new.self c.in-Some.active.now c.in-Some.ensures.steps c.loop-active.invariant;
      numbered = refl;
      identified = sym c.uuid_of.ensures.bits ∙ same_id _ _ _ c.eq.ensures c.if-eq.true;
    }

pub returns-clause-none : goal.returns-clause-none
returns-clause-none c a there is =
    let stored = c.args.stored.now in
    files_none stored.store c.args.id stored.files.items c.loop-active.active-iterator a c.in-None.ensures.steps.0 c.loop-active.invariant there is
