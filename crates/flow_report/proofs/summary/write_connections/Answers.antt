use Rattle.std.proofs.lemmas.Result.{err_from_is_err_and}
use Rattle.std.proofs.Common.{ℕ, ◌-◌, ◌≤◌, List, ◌++◌, take, drop, length, arith}
use Rattle.flowfile_record.specs.Stored.{Kept, kept_of}
use Rattle.machine_model.specs.declared.flow.Connection.{Connection}
use Rattle.flow_report.specs.Counts.{lines_from}
use Rattle.flow_report.specs.Summary.{connection_bytes, connection_files}
use Rattle.flow_report.specs.Texts.{connection_text}
use Rattle.flow_report.proofs.Writing.{writes-named, writes-then, writes-failed, places-cut, cut-more}
use Rattle.flow_report.proofs.summary.write_connections.Goals as goal

abbrev line_at : Kept → ℕ × Connection → List ℕ
line_at kept at = connection_text at.1.id (connection_files at.0 kept) (connection_bytes at.0 kept)

pub loop-first-preserved : goal.loop-first-preserved
loop-first-preserved g c =
    let inv = c.loop-first.invariant in
    let kept = kept_of c.args.state.now in
    let all = c.args.connections.now in
    let first = c.loop-first.first in
    let end = c.min-end.result in
    let within : end ≤ length all = omega (arith, c.min-end.ensures) in
    let from : first ≤ end = omega (arith, c.min-end.ensures, inv.within) in
    record {
      text = inv.text ++ lines_from first (take (end - first) (drop first all)) kept;
      whole = cut-more inv.text (lines_from first (take (end - first) (drop first all)) kept) (lines_from end (drop end all) kept) (lines_from first (drop first all) kept) _ (places-cut (line_at kept) all first end from within) inv.whole;
      within = within;
      written = λ tells. writes-then _ _ _ _ _ _ (inv.written tells) (c.in_ok-write_some.ensures.written tells);
      faults = omega (arith, inv.faults, c.write_some.ensures.cause.never_falls);
    }

pub returns-in_err-write_some-clause-written : goal.returns-in_err-write_some-clause-written
returns-in_err-write_some-clause-written g c = λ tells.
    let p = err_from_is_err_and c.from_residual.result c.from_residual.ensures.1 in
    let inv = c.loop-first.invariant in
    let kept = kept_of c.args.state.now in
    let all = c.args.connections.now in
    let first = c.loop-first.first in
    let end = c.min-end.result in
    let within : end ≤ length all = omega (arith, c.min-end.ensures) in
    let from : first ≤ end = omega (arith, c.min-end.ensures, inv.within) in
    rw p.1
    (writes-named _ _ _ _ _
    (cut-more inv.text (lines_from first (take (end - first) (drop first all)) kept) (lines_from end (drop end all) kept) (lines_from first (drop first all) kept) _ (places-cut (line_at kept) all first end from within) inv.whole)
    (writes-failed _ (lines_from end (drop end all) kept) _ _ _ (writes-then _ _ _ _ _ _ (inv.written tells) (c.in_err-write_some.ensures.written tells))))
