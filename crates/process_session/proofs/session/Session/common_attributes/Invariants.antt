use Rattle.std.proofs.Common.{◌≡◌, get_or, take}
use Rattle.std.specs.Prelude.{fold}
use Rattle.flowfile_record.specs.Attributes.{shared}
use Rattle.process_session.specs.Bench.{bench_attributes}
use Rattle.process_session.proofs.session.Session.common_attributes.Given as goal

abbrev pub invariant-loop-parent : goal.invariant-loop-parent
invariant-loop-parent l = l.common ≡ fold (λ attributes other. shared attributes (bench_attributes l.self other)) (bench_attributes l.self (get_or l.parents 0 0)) (take l.parent-index l.more)
