use Rattle.std.proofs.lemmas.Result.{err_from_is_err_and}
use Rattle.std.proofs.Common.{◌≡◌, ℕ, ◌+◌, ◌<◌, ◌∙◌, List, arith}
use Rattle.flowfile_record.specs.Stored.{Kept, kept_of}
use Rattle.machine_model.specs.declared.flow.Connection.{Connection}
use Rattle.flow_report.specs.Summary.{connection_bytes, connection_files}
use Rattle.flow_report.specs.Texts.{connection_text}
use Rattle.flow_report.specs.declared.count.TheConstants.{COUNTED}
use Rattle.flow_report.proofs.Writing.{writes-named, writes-nothing, place-more, place-failed, places-all}
use Rattle.flow_report.proofs.summary.write_some.Goals as goal

abbrev line_at : Kept → ℕ × Connection → List ℕ
line_at kept at = connection_text at.1.id (connection_files at.0 kept) (connection_bytes at.0 kept)

-- the counts that the code tells
line_is : (id : List ℕ) (files files' more more' bytes bytes' further further' : ℕ) → files ≡ files' → more ≡ more' → bytes ≡ bytes' → further ≡ further'
    → connection_text id (files + more) (bytes + further) ≡ connection_text id (files' + more') (bytes' + further')
line_is id files files' more more' bytes bytes' further further' f m b r = rw (f, m, b, r)

pub loop-at-init : goal.loop-at-init
loop-at-init g c = record { written = λ tells. writes-nothing _; faults = omega arith }

pub loop-at-preserved : goal.loop-at-preserved
loop-at-preserved g c =
    let at = c.loop-at.at in
    let within : at < COUNTED = omega (arith, c.loop-at-test.true, c.requires) in
    record {
      written = λ tells.
          place-more (line_at (kept_of c.args.state.now)) c.args.first c.args.connections.now at c.index-connections-at.result _ _ _ c.loop-at-test.true c.index-connections-at.is
          (c.loop-at.invariant.written tells)
          (writes-named _ _ _ _ _
          (line_is _ _ _ _ _ _ _ _ _ (c.at.ensures.files ∙ c.count_active-active.ensures.files at within) (c.at-in-loop-at.ensures.files ∙ c.count_swapped-swapped.ensures.files at within)
          (c.at.ensures.bytes ∙ c.count_active-active.ensures.bytes at within) (c.at-in-loop-at.ensures.bytes ∙ c.count_swapped-swapped.ensures.bytes at within))
          (c.in_ok-write_connection.ensures.written tells));
      faults = omega (arith, c.loop-at.invariant.faults, c.write_connection.ensures.cause.never_falls);
    }

pub returns-in_err-write_connection-clause-written : goal.returns-in_err-write_connection-clause-written
returns-in_err-write_connection-clause-written g c = λ tells.
    let p = err_from_is_err_and c.from_residual.result c.from_residual.ensures.1 in
    let at = c.loop-at.at in
    let within : at < COUNTED = omega (arith, c.loop-at-test.true, c.requires) in
    rw p.1
    (place-failed (line_at (kept_of c.args.state.now)) c.args.first c.args.connections.now at c.index-connections-at.result _ _ _ _ c.loop-at-test.true c.index-connections-at.is
    (c.loop-at.invariant.written tells)
    (writes-named _ _ _ _ _
    (line_is _ _ _ _ _ _ _ _ _ (c.at.ensures.files ∙ c.count_active-active.ensures.files at within) (c.at-in-loop-at.ensures.files ∙ c.count_swapped-swapped.ensures.files at within)
    (c.at.ensures.bytes ∙ c.count_active-active.ensures.bytes at within) (c.at-in-loop-at.ensures.bytes ∙ c.count_swapped-swapped.ensures.bytes at within))
    (c.in_err-write_connection.ensures.written tells)))

pub returns-clause-written : goal.returns-clause-written
returns-clause-written g c = λ tells.
    places-all (line_at (kept_of c.args.state.now)) c.args.first c.args.connections.now c.loop-at.at _ _ c.loop-at-test.false (c.loop-at.invariant.written tells)
