use Rattle.std.proofs.Common.{refl}
use Rattle.std.proofs.lemmas.Result.{err_from_is_err_and}
use Rattle.flow_report.proofs.Writing.{writes-named}
use Rattle.store_core.specs.Seen.{kept_seen}
use Rattle.flow_query.specs.Texts.{sound_text}
use Rattle.flow_query.specs.declared.asking.Query.TheVariants as query
use Rattle.flow_query.proofs.Counted.{sound_is}
use Rattle.flow_query.proofs.Refusing.{sink_failed}
use Rattle.flow_query.proofs.check.show_check.Goals as goal

pub returns-in_err-write_line-clause-printed : goal.returns-in_err-write_line-clause-printed
returns-in_err-write_line-clause-printed g c files told seen state is writes =
    let p = err_from_is_err_and c.from_residual.result c.from_residual.ensures.1 in
    let s = c.args.seen.now in
    rw (p.1, p.2)
    (sink_failed query.Check (kept_seen s).connections state (sound_text state) _ _ _ refl
    (writes-named _ _ _ _ _ (sound_is files s state _ _ seen is c.file_count.ensures.placed c.file_count.ensures.count c.last_event.ensures) (c.in_err-write_line.ensures.written writes)))

pub returns-clause-printed : goal.returns-clause-printed
returns-clause-printed g c files told seen state is writes =
    let s = c.args.seen.now in (
      sound_text state,
      refl,
      (writes-named _ _ _ _ _ (sound_is files s state _ _ seen is c.file_count.ensures.placed c.file_count.ensures.count c.last_event.ensures) (c.in_ok-write_line.ensures.written writes)).ok,
    )
