use Rattle.std.proofs.Common.{ap, length, ◌∙◌}
use Rattle.std.proofs.lemmas.List.{length-map}
use Rattle.store_core.specs.Flow.{Flow}
use Rattle.engine_steps.proofs.memory.holds_its_state.Goals as goal

pub returns-clause-held : goal.returns-clause-held
returns-clause-held g c telling =
    let laws = g.met.D.Disk g.world.𝓛 g.world.𝓜 g.world.𝓡 ((λ s x. x), (λ x. x), (λ x. x), λ x. x) in
    let work = c.requires.1 in
    work.kept.holds work.works (g.D.Disk.held c.args.disk.now) (laws.held_is_left c.args.disk.now telling)

pub returns-clause-tied : goal.returns-clause-tied
returns-clause-tied g c telling flow work m each =
    let disk = c.args.disk.now in
    let held = g.D.Disk.held disk in
    let laws = g.met.D.Disk g.world.𝓛 g.world.𝓜 g.world.𝓡 ((λ s x. x), (λ x. x), (λ x. x), λ x. x) in
    let left = laws.held_is_left disk telling in
    c.memory_is_the_state.ensures.kept flow c.args.store.now held m work.flow_is
    (c.state-stored.ensures.last_event work.works) (work.kept.holds work.works held left) (each held left)

pub returns-clause-counted : goal.returns-clause-counted
returns-clause-counted g c telling flow work m each =
    let disk = c.args.disk.now in
    let held = g.D.Disk.held disk in
    let laws = g.met.D.Disk g.world.𝓛 g.world.𝓜 g.world.𝓡 ((λ s x. x), (λ x. x), (λ x. x), λ x. x) in
    let left = laws.held_is_left disk telling in
    c.memory_is_the_state.ensures.counted flow c.args.store.now held m work.flow_is
    (c.state-stored.ensures.last_event work.works) (work.kept.holds work.works held left) (each held left)

pub returns-clause-read : goal.returns-clause-read
returns-clause-read g c telling =
    let laws = g.met.D.Disk g.world.𝓛 g.world.𝓜 g.world.𝓡 ((λ s x. x), (λ x. x), (λ x. x), λ x. x) in
    let work = c.requires.1 in
    let held = g.D.Disk.held c.args.disk.now in
    c.held_contents_are_read.ensures c.args.store.now held (work.kept.holds work.works held (laws.held_is_left c.args.disk.now telling))

pub returns-clause-valid : goal.returns-clause-valid
returns-clause-valid g c flow work contents events row =
    c.what_is_kept_is_a_state.ensures.valid flow contents events c.args.store.now.memory.kept
    c.state-stored.ensures.consistent c.state-stored.ensures.no_batches row.1 row.0
    (ap (λ (f : Flow). length f.connections) work.flow_is ∙ length-map flow.connections (λ c. c.id)) (ap (λ (f : Flow). f.processors) work.flow_is)
