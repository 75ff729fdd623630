use Rattle.std.proofs.Common.{◌≡◌, codes, length, refl, ◌∙◌, ap}
use Rattle.std.specs.Prelude.{decimal}
use Rattle.machine_model.specs.Making.{with_set}
use Rattle.machine_model.specs.MergeContent.{counted}
use Rattle.process_session.specs.Bench.{Bench, bench_attributes}
use Rattle.process_session.specs.Changes.{with_removed}
use Rattle.processor_api.proofs.Answered.{changed_so, never_refused}
use Rattle.proc_merge.specs.Joining.{IsDescribed, of_parents}
use Rattle.proc_merge.proofs.Described.{count-done, ok-weaker, remove_attribute-free, removed-joined}
use Rattle.proc_merge.proofs.describing.count.Goals as goal

pub unwrap-requires : goal.unwrap-requires
unwrap-requires c =
    never_refused _ _ c.remove_attribute.ensures.refusal (remove_attribute-free c.args.session.now c.args.file (codes "segment.original.filename") c.requires refl)

pub set-requires-clause-joined : goal.set-requires-clause-joined
set-requires-clause-joined c =
    let bench = c.args.session.now in
    let left : c.remove_attribute.new.self ≡ with_removed bench c.args.file (codes "segment.original.filename") = changed_so _ _ _ _ _ c.remove_attribute.ensures.after c.unwrap.ensures in
    removed-joined bench _ c.args.file (codes "segment.original.filename") c.requires refl left

pub returns : goal.returns
returns c =
    let bench = c.args.session.now in
    let now = c.remove_attribute.new.self in
    let file = c.args.file in
    let left : now ≡ with_removed bench file (codes "segment.original.filename") = changed_so _ _ _ _ _ c.remove_attribute.ensures.after c.unwrap.ensures in
    let value : c.as_str.result.now ≡ decimal (length bench.sources) =
    c.as_str.ensures.value ∙ c.in_ok-count.ensures.ok ∙ ap decimal (c.taken-count.ensures ∙ ap (λ (b : Bench). length b.sources) left) in
    ok-weaker c.set.result (λ done. IsDescribed now c.set.new.session file (with_set of_parents (bench_attributes now file) (codes "merge.count", c.as_str.result.now)) done)
    (λ done. IsDescribed bench c.set.new.session file (counted (length bench.sources) of_parents (bench_attributes bench file)) done)
    (λ done. count-done bench now c.set.new.session file (length bench.sources) c.as_str.result.now done c.requires left value) c.set.ensures
