use Rattle.std.proofs.Common.{◌≡◌, length, refl, ◌∙◌}
use Rattle.process_session.specs.Bench.{bench_attributes}
use Rattle.processor_api.proofs.Answered.{answer_of, changed_so, never_refused, only_memory}
use Rattle.processor_api.proofs.Clones.{clone-is, clone_made, end-ended, end-transfer, with_file}
use Rattle.processor_api.proofs.cloning.add_clone.Goals as goal

pub or_no_memory-requires : goal.or_no_memory-requires
or_no_memory-requires c = only_memory _ _ c.clone_file.ensures.refusal c.requires.free

pub unwrap-requires : goal.unwrap-requires
unwrap-requires c =
    let bench = c.args.session.now in
    let made : c.clone_file.new.self ≡ with_file bench (clone_made (bench_attributes bench 0)) = changed_so _ _ _ _ _ c.clone_file.ensures.after c.in_ok-clone.ensures.value ∙ clone-is bench c.requires.taken in
    let last : c.in_ok-clone.clone ≡ length bench.files = answer_of (λ place. place ≡ length bench.files) _ _ c.clone_file.ensures.place c.in_ok-clone.ensures.value in
    never_refused _ _ c.transfer.ensures.refusal (end-transfer bench _ _ _ _ made last refl c.requires.there)

pub returns : goal.returns
returns c =
    let bench = c.args.session.now in
    let made : c.clone_file.new.self ≡ with_file bench (clone_made (bench_attributes bench 0)) = changed_so _ _ _ _ _ c.clone_file.ensures.after c.in_ok-clone.ensures.value ∙ clone-is bench c.requires.taken in
    let last : c.in_ok-clone.clone ≡ length bench.files = answer_of (λ place. place ≡ length bench.files) _ _ c.clone_file.ensures.place c.in_ok-clone.ensures.value in
    changed_so _ _ _ _ _ c.transfer.ensures.after c.unwrap.ensures ∙ end-ended bench _ _ _ _ made last
