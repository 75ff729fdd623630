use Rattle.std.proofs.lemmas.Result.{err_from_is_err_and}
use Rattle.std.proofs.Common.{◌≡◌, ℕ, ◌-◌, List, get_or, ap, ◌∙◌, arith}
use Rattle.flowfile_record.specs.Events.{code_of}
use Rattle.flowfile_record.specs.declared.event.EventKind.{EventKind}
use Rattle.flowfile_record.specs.declared.event.EventKind.TheVariants.{Create}
use Rattle.flow_report.specs.Summary.{count_text, kinds}
use Rattle.flow_report.proofs.Writing.{writes-nothing, writes-named, writes-more, writes-more-failed, writes-all-lines}
use Rattle.flow_report.proofs.summary.write_counts.Goals as goal

abbrev line_for : List ℕ → EventKind → List ℕ
line_for counts kind = count_text kind (get_or counts (code_of kind - 1) 0)

-- the count that the code reads
line_is : (counts : List ℕ) (kind : EventKind) (wide code : ℕ) → wide ≡ code → code ≡ code_of kind → count_text kind (get_or counts (wide - 1) 0) ≡ line_for counts kind
line_is counts kind wide code w is = ap (λ (n : ℕ). count_text kind (get_or counts (n - 1) 0)) (w ∙ is)

pub loop-kind-init : goal.loop-kind-init
loop-kind-init g c = record { written = λ tells. writes-nothing _; faults = omega arith }

pub loop-kind-preserved : goal.loop-kind-preserved
loop-kind-preserved g c =
    let counts = c.args.events.now.counts in
    let kind = get_or kinds c.loop-kind.kind-index Create in
    record {
      written = λ tells.
          writes-more (line_for counts) kinds c.loop-kind.kind-index Create _ _ _ c.loop-kind-test.true (c.loop-kind.invariant.written tells)
          (writes-named _ _ _ _ _ (line_is counts kind c.from.result c.code.result c.from.ensures c.code.ensures) (c.in_ok-write_count.ensures.written tells));
      faults = omega (arith, c.loop-kind.invariant.faults, c.write_count.ensures.cause.never_falls);
    }

pub returns-in_err-write_count-clause-written : goal.returns-in_err-write_count-clause-written
returns-in_err-write_count-clause-written g c = λ tells. let p = err_from_is_err_and c.from_residual.result c.from_residual.ensures.1 in
    rw p.1
    (let counts = c.args.events.now.counts in
    let kind = get_or kinds c.loop-kind.kind-index Create in
    writes-more-failed (line_for counts) kinds c.loop-kind.kind-index Create _ _ _ _ c.loop-kind-test.true (c.loop-kind.invariant.written tells)
    (writes-named _ _ _ _ _ (line_is counts kind c.from.result c.code.result c.from.ensures c.code.ensures) (c.in_err-write_count.ensures.written tells)))

pub returns-clause-written : goal.returns-clause-written
returns-clause-written g c = λ tells. writes-all-lines (line_for c.args.events.now.counts) kinds c.loop-kind.kind-index _ _ c.loop-kind-test.false (c.loop-kind.invariant.written tells)
