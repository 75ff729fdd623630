use Rattle.std.proofs.Common.{◌≡◌, ◌≤◌, true, false, not, is_none, length, sym, ◌∙◌, ap, arith}
use Rattle.std.proofs.lemmas.List.{at_drop_all}
use Rattle.process_session.specs.Reasons.{not_accounted_from}
use Rattle.process_session.proofs.FinishFiles.{open_here, ended_here, all_ended}
use Rattle.process_session.proofs.session.finish.check_ended.Goals as goal

pub returns-then-is_none : goal.returns-then-is_none
returns-then-is_none c =
    let still : is_none c.file-item.result.«end» ≡ true = ap not c.is_none.ensures ∙ ap (λ b. not (not b)) c.if-is_none.true in
    sym (open_here c.loop-file.place c.loop-file.file-index c.args.files.now c.file-item.result (omega arith) c.file-item.is still) ∙ c.loop-file.invariant.1

pub loop-file-preserved : goal.loop-file-preserved
loop-file-preserved c =
    let ended : is_none c.file-item.result.«end» ≡ false = ap not c.is_none.ensures ∙ ap (λ b. not (not b)) c.if-is_none.false in
    (omega arith, ended_here c.loop-file.place c.loop-file.file-index c.args.files.now c.file-item.result (omega arith) c.file-item.is ended ∙ c.loop-file.invariant.1)

pub returns : goal.returns
returns c =
    let past : length c.args.files.now ≤ c.loop-file.file-index = omega arith in
    sym (all_ended c.loop-file.place) ∙ sym (at_drop_all (not_accounted_from c.loop-file.place) c.args.files.now c.loop-file.file-index past) ∙ c.loop-file.invariant.1
