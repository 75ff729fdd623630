use Rattle.std.proofs.Common.{ℕ, ◌-◌, ◌<◌, length, get_or, take, drop, sym, ◌∙◌, ap, arith}
use Rattle.std.specs.Prelude.{fold}
use Rattle.std.proofs.lemmas.List.{take_all}
use Rattle.std.proofs.lemmas.List.Sums.{fold_more}
use Rattle.flowfile_record.specs.Attributes.{AttributeMap, shared}
use Rattle.process_session.specs.Bench.{bench_attributes}
use Rattle.process_session.proofs.Joining.{common_attributes-parts}
use Rattle.process_session.proofs.session.Session.common_attributes.Goals as goal

pub loop-parent-preserved : goal.loop-parent-preserved
loop-parent-preserved c =
    let bench = c.args.self.now in
    let more = take (length c.args.parents.now - 1) (drop 1 c.args.parents.now) in
    let step : AttributeMap → ℕ → AttributeMap = λ attributes other. shared attributes (bench_attributes bench other) in
    let within : c.loop-parent.parent-index < length more = omega arith in
    c.keep_shared.ensures ∙ ap (shared c.loop-parent.common) c.attributes_of.ensures ∙ ap (λ (m : AttributeMap). step m (get_or more c.loop-parent.parent-index 0)) c.loop-parent.invariant
    ∙ sym (fold_more step (bench_attributes bench (get_or c.args.parents.now 0 0)) more c.loop-parent.parent-index 0 within)

pub returns : goal.returns
returns c =
    let bench = c.args.self.now in
    let more = take (length c.args.parents.now - 1) (drop 1 c.args.parents.now) in
    let step : AttributeMap → ℕ → AttributeMap = λ attributes other. shared attributes (bench_attributes bench other) in
    c.loop-parent.invariant ∙ ap (fold step (bench_attributes bench (get_or c.args.parents.now 0 0))) (take_all c.loop-parent.parent-index more c.loop-parent-test.false)
    ∙ common_attributes-parts bench c.args.parents.now c.requires.some
