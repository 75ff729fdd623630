use Rattle.std.proofs.lemmas.Result.{err_from_is_err_and}
use Rattle.std.proofs.Common.{◌≡◌, ℕ, List, [], ◌∷◌, ◌++◌, Result, ap}
use Rattle.std.specs.Prelude.{codes}
use Rattle.std.specs.Fmt.{decimal}
use Rattle.disk_trait.specs.declared.file_name.Failed.{Failed}
use Rattle.flowfile_record.specs.Stored.{Kept, kept_of}
use Rattle.machine_model.specs.declared.flow.Connection.{Connection}
use Rattle.flow_report.specs.Summary.{connections_text, event_counts_text}
use Rattle.flow_report.specs.Texts.{line_of}
use Rattle.flow_report.specs.Writing.{Writes}
use Rattle.flow_report.proofs.Writing.{writes-named, writes-then, writes-failed}
use Rattle.flow_report.proofs.summary.write_summary.Goals as goal

-- the lines of the connections, which the call names by the slice of them
of_flow : (slice connections : List Connection) (kept : Kept) (b b' : List ℕ) (result : Result (Unit {0}) Failed) → slice ≡ connections → Writes (connections_text slice kept) b b' result
    → Writes (connections_text connections kept) b b' result
of_flow slice connections kept b b' result same = writes-named _ _ b b' result (ap (λ (l : List Connection). connections_text l kept) same)

pub returns-in_err-write_connections-clause-written : goal.returns-in_err-write_connections-clause-written
returns-in_err-write_connections-clause-written g c = λ tells. let p = err_from_is_err_and c.from_residual.result c.from_residual.ensures.1 in
    rw p.1
    (writes-failed _ (line_of (codes "inbox " ∷ decimal c.args.left ∷ []) ++ event_counts_text c.args.events.now) _ _ _ (of_flow _ _ (kept_of c.args.state.now) _ _ _ c.as_slice.ensures (c.in_err-write_connections.ensures.written tells)))

pub returns-in_err-write_parts-clause-written : goal.returns-in_err-write_parts-clause-written
returns-in_err-write_parts-clause-written g c = λ tells. let p = err_from_is_err_and c.from_residual-in_err-write_parts.result c.from_residual-in_err-write_parts.ensures.1 in
    rw p.1
    (writes-then _ _ _ _ _ _ (of_flow _ _ (kept_of c.args.state.now) _ _ _ c.as_slice.ensures (c.in_ok-write_connections.ensures.written tells))
    (writes-failed _ (event_counts_text c.args.events.now) _ _ _ (c.in_err-write_parts.ensures.written tells)))

pub returns-clause-written : goal.returns-clause-written
returns-clause-written g c = λ tells.
    writes-then _ _ _ _ _ _ (of_flow _ _ (kept_of c.args.state.now) _ _ _ c.as_slice.ensures (c.in_ok-write_connections.ensures.written tells))
    (writes-then _ _ _ _ _ _ (c.in_ok-write_parts.ensures.written tells) (c.write_counts.ensures.written tells))
