use Rattle.std.proofs.Common.{sym, ap, ◌∙◌}
use Rattle.std.proofs.lemmas.Slice.Eq.{bytes_eq-Decides}
use Rattle.flowfile_record.specs.Stored.{kept_of}
use Rattle.store_core.specs.Flow.{Flow}
use Rattle.store_core.proofs.Opening.{of_this_flow}
use Rattle.store_core.proofs.load.check_flow.Goals as goal

pub returns-then-eq-clause-same : goal.returns-then-eq-clause-same
returns-then-eq-clause-same c =
    of_this_flow c.args.flow.now (kept_of c.args.stored.now) c.requires
    ((bytes_eq-Decides c.args.stored.now.flow c.flow.inside.digest).0 (sym c.eq.ensures ∙ c.if-eq.true) ∙ ap (λ (f : Flow). f.digest) c.flow.view_is)
