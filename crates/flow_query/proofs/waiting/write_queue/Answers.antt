use Rattle.std.proofs.Common.{◌≡◌, ℕ, List, length, ap, ◌∙◌}
use Rattle.std.specs.List.{flat_map, sum_by}
use Rattle.std.proofs.lemmas.Result.{err_from_is_err_and}
use Rattle.flow_report.specs.Texts.{connection_text}
use Rattle.flow_report.proofs.Writing.{writes-failed, writes-named, writes-then}
use Rattle.flow_query.specs.Parts.{waiting_size, waiting_text}
use Rattle.flow_query.proofs.waiting.write_queue.Goals as goal

line_is : (id : List ℕ) (files many bytes sum : ℕ) → files ≡ many → bytes ≡ sum → connection_text id files bytes ≡ connection_text id many sum
line_is id files many bytes sum same equal = ap (λ (n : ℕ). connection_text id n bytes) same ∙ ap (connection_text id many) equal

pub returns-in_err-write_line-clause-written : goal.returns-in_err-write_line-clause-written
returns-in_err-write_line-clause-written g c = λ tells. let p = err_from_is_err_and c.from_residual.result c.from_residual.ensures.1 in rw p.1
    (let queue = c.args.queue.now.items in
    let id = c.args.id.now in
    writes-failed (connection_text id (length queue) (sum_by waiting_size queue)) (flat_map (waiting_text c.args.store) queue) _ _ _
    (writes-named _ _ _ _ _ (line_is id _ _ _ _ c.len.ensures.len c.bytes_of.ensures) (c.in_err-write_line.ensures.written tells)))

pub returns-clause-written : goal.returns-clause-written
returns-clause-written g c = λ tells.
    let queue = c.args.queue.now.items in
    let id = c.args.id.now in
    writes-then (connection_text id (length queue) (sum_by waiting_size queue)) (flat_map (waiting_text c.args.store) queue) _ _ _ _
    (writes-named _ _ _ _ _ (line_is id _ _ _ _ c.len.ensures.len c.bytes_of.ensures) (c.in_ok-write_line.ensures.written tells)) (c.write_files.ensures.written tells)
