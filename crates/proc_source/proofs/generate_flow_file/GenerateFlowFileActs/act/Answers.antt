use Rattle.std.proofs.Common.{◌≡◌, ◌^◌, ◌<◌, [], length, refl, ◌∙◌, ap, arith}
use Rattle.std.specs.Prelude.{codes, decimal}
use Rattle.std.specs.FinMap.{empty}
use Rattle.flowfile_record.specs.declared.worked.End.TheVariants.{To}
use Rattle.machine_model.specs.Acting.{generated_attributes, generated_text}
use Rattle.machine_model.specs.declared.kind.Kind.TheVariants.{GenerateFlowFile}
use Rattle.process_session.specs.Bench.{Bench, bench_of}
use Rattle.process_session.specs.Changes.{with_created}
use Rattle.process_session.specs.Refusals.{refusal_of_create}
use Rattle.processor_api.proofs.Alone.{create-free}
use Rattle.processor_api.proofs.Answered.{answer_of, changed_so, end-at, never_refused, only_memory, put-at, put_refusal-at, transfer_refusal-at, write-at, write_refusal-at}
use Rattle.processor_api.proofs.Began.{source-begins}
use Rattle.proc_source.proofs.Generating.{at_path, created_bench, created-put, created-written, end-free, ended_bench, generate-acts, index-free, path-free, text-free, text-is, text_le, written_bench}
use Rattle.proc_source.proofs.generate_flow_file.GenerateFlowFileActs.act.Goals as goal

pub or_no_memory-requires : goal.or_no_memory-requires
or_no_memory-requires c =
    let begun : c.args.session.now ≡ bench_of 1 [] = source-begins (GenerateFlowFile c.args.self.now.count c.args.self.now.custom_text.now) _ c.args.given.now refl c.requires in
    only_memory _ _ c.create.ensures.refusal (ap refusal_of_create begun ∙ create-free 1)

pub or_no_memory-requires-2 : goal.or_no_memory-requires-2
or_no_memory-requires-2 c =
    let begun : c.args.session.now ≡ bench_of 1 [] = source-begins (GenerateFlowFile c.args.self.now.count c.args.self.now.custom_text.now) _ c.args.given.now refl c.requires in
    let first : c.in_ok-file.file ≡ 0 = answer_of (λ place. place ≡ length c.args.session.now.files) _ _ c.create.ensures.place c.in_ok-file.ensures.value ∙ ap (λ (b : Bench). length b.files) begun in
    let created : c.create.new.self ≡ created_bench empty = changed_so _ _ _ _ _ c.create.ensures.after c.in_ok-file.ensures.value ∙ ap with_created begun in
    only_memory _ _ c.put_attribute.ensures.refusal (put_refusal-at _ _ _ (codes "path") _ _ created first refl ∙ path-free)

pub or_no_memory-requires-3 : goal.or_no_memory-requires-3
or_no_memory-requires-3 c =
    let begun : c.args.session.now ≡ bench_of 1 [] = source-begins (GenerateFlowFile c.args.self.now.count c.args.self.now.custom_text.now) _ c.args.given.now refl c.requires in
    let first : c.in_ok-file.file ≡ 0 = answer_of (λ place. place ≡ length c.args.session.now.files) _ _ c.create.ensures.place c.in_ok-file.ensures.value ∙ ap (λ (b : Bench). length b.files) begun in
    let created : c.create.new.self ≡ created_bench empty = changed_so _ _ _ _ _ c.create.ensures.after c.in_ok-file.ensures.value ∙ ap with_created begun in
    let placed : c.put_attribute.new.self ≡ created_bench at_path =
    changed_so _ _ _ _ _ c.put_attribute.ensures.after c.in_ok-or_no_memory.ensures.value ∙ put-at _ _ _ (codes "path") _ _ created first refl ∙ created-put empty (codes "path") (codes "./") refl in
    let index : c.as_str.result.now ≡ decimal c.args.given.now.index = c.as_str.ensures.value ∙ c.in_ok-index.ensures.ok in
    let below : c.args.given.now.index < 2 ^ 64 = omega arith in
    only_memory _ _ c.put_attribute-2.ensures.refusal (put_refusal-at _ _ _ (codes "generate.index") _ _ placed first index ∙ index-free c.args.given.now.index below)

pub text_over-requires : goal.text_over-requires
text_over-requires c =
    let begun : c.args.session.now ≡ bench_of 1 [] = source-begins (GenerateFlowFile c.args.self.now.count c.args.self.now.custom_text.now) _ c.args.given.now refl c.requires in
    let first : c.in_ok-file.file ≡ 0 = answer_of (λ place. place ≡ length c.args.session.now.files) _ _ c.create.ensures.place c.in_ok-file.ensures.value ∙ ap (λ (b : Bench). length b.files) begun in
    let created : c.create.new.self ≡ created_bench empty = changed_so _ _ _ _ _ c.create.ensures.after c.in_ok-file.ensures.value ∙ ap with_created begun in
    let placed : c.put_attribute.new.self ≡ created_bench at_path =
    changed_so _ _ _ _ _ c.put_attribute.ensures.after c.in_ok-or_no_memory.ensures.value ∙ put-at _ _ _ (codes "path") _ _ created first refl ∙ created-put empty (codes "path") (codes "./") refl in
    let index : c.as_str.result.now ≡ decimal c.args.given.now.index = c.as_str.ensures.value ∙ c.in_ok-index.ensures.ok in
    let numbered : c.put_attribute-2.new.self ≡ created_bench (generated_attributes c.args.given.now.index) =
    changed_so _ _ _ _ _ c.put_attribute-2.ensures.after c.in_ok-or_no_memory-2.ensures.value
    ∙ put-at _ _ _ (codes "generate.index") _ _ placed first index ∙ created-put at_path (codes "generate.index") (decimal c.args.given.now.index) refl in
    omega (arith, ap (λ (b : Bench). length b.files) numbered)

pub unwrap-requires : goal.unwrap-requires
unwrap-requires c =
    let begun : c.args.session.now ≡ bench_of 1 [] = source-begins (GenerateFlowFile c.args.self.now.count c.args.self.now.custom_text.now) _ c.args.given.now refl c.requires in
    let first : c.in_ok-file.file ≡ 0 = answer_of (λ place. place ≡ length c.args.session.now.files) _ _ c.create.ensures.place c.in_ok-file.ensures.value ∙ ap (λ (b : Bench). length b.files) begun in
    let created : c.create.new.self ≡ created_bench empty = changed_so _ _ _ _ _ c.create.ensures.after c.in_ok-file.ensures.value ∙ ap with_created begun in
    let placed : c.put_attribute.new.self ≡ created_bench at_path =
    changed_so _ _ _ _ _ c.put_attribute.ensures.after c.in_ok-or_no_memory.ensures.value ∙ put-at _ _ _ (codes "path") _ _ created first refl ∙ created-put empty (codes "path") (codes "./") refl in
    let index : c.as_str.result.now ≡ decimal c.args.given.now.index = c.as_str.ensures.value ∙ c.in_ok-index.ensures.ok in
    let below : c.args.given.now.index < 2 ^ 64 = omega arith in
    let numbered : c.put_attribute-2.new.self ≡ created_bench (generated_attributes c.args.given.now.index) =
    changed_so _ _ _ _ _ c.put_attribute-2.ensures.after c.in_ok-or_no_memory-2.ensures.value
    ∙ put-at _ _ _ (codes "generate.index") _ _ placed first index ∙ created-put at_path (codes "generate.index") (decimal c.args.given.now.index) refl in
    let text : c.in_ok-text.text.items ≡ generated_text c.args.self.now.custom_text.now c.args.given.now.index =
    text-is c.args.self.now.custom_text.now c.args.given.now.index c.in_ok-file.file _ c.in_ok-text.text.items numbered first c.in_ok-text.ensures in
    let short = text_le c.args.self.now.count c.args.self.now.custom_text.now c.args.given.now.index c.requires.handed.sound in
    never_refused _ _ c.write.ensures.refusal
    (write_refusal-at _ _ _ _ _ numbered first text ∙ text-free c.args.given.now.index (generated_text c.args.self.now.custom_text.now c.args.given.now.index) below short)

pub unwrap-requires-2 : goal.unwrap-requires-2
unwrap-requires-2 c =
    let begun : c.args.session.now ≡ bench_of 1 [] = source-begins (GenerateFlowFile c.args.self.now.count c.args.self.now.custom_text.now) _ c.args.given.now refl c.requires in
    let first : c.in_ok-file.file ≡ 0 = answer_of (λ place. place ≡ length c.args.session.now.files) _ _ c.create.ensures.place c.in_ok-file.ensures.value ∙ ap (λ (b : Bench). length b.files) begun in
    let created : c.create.new.self ≡ created_bench empty = changed_so _ _ _ _ _ c.create.ensures.after c.in_ok-file.ensures.value ∙ ap with_created begun in
    let placed : c.put_attribute.new.self ≡ created_bench at_path =
    changed_so _ _ _ _ _ c.put_attribute.ensures.after c.in_ok-or_no_memory.ensures.value ∙ put-at _ _ _ (codes "path") _ _ created first refl ∙ created-put empty (codes "path") (codes "./") refl in
    let index : c.as_str.result.now ≡ decimal c.args.given.now.index = c.as_str.ensures.value ∙ c.in_ok-index.ensures.ok in
    let numbered : c.put_attribute-2.new.self ≡ created_bench (generated_attributes c.args.given.now.index) =
    changed_so _ _ _ _ _ c.put_attribute-2.ensures.after c.in_ok-or_no_memory-2.ensures.value
    ∙ put-at _ _ _ (codes "generate.index") _ _ placed first index ∙ created-put at_path (codes "generate.index") (decimal c.args.given.now.index) refl in
    let text : c.in_ok-text.text.items ≡ generated_text c.args.self.now.custom_text.now c.args.given.now.index =
    text-is c.args.self.now.custom_text.now c.args.given.now.index c.in_ok-file.file _ c.in_ok-text.text.items numbered first c.in_ok-text.ensures in
    let attributes = generated_attributes c.args.given.now.index in
    let wanted = generated_text c.args.self.now.custom_text.now c.args.given.now.index in
    let written : c.write.new.self ≡ written_bench attributes wanted =
    changed_so _ _ _ _ _ c.write.ensures.after c.unwrap.ensures ∙ write-at _ _ _ _ _ numbered first text ∙ created-written attributes wanted in
    never_refused _ _ c.transfer.ensures.refusal (transfer_refusal-at _ _ _ 0 written first ∙ end-free attributes wanted)

pub returns-clause-acts : goal.returns-clause-acts
returns-clause-acts c =
    let begun : c.args.session.now ≡ bench_of 1 [] = source-begins (GenerateFlowFile c.args.self.now.count c.args.self.now.custom_text.now) _ c.args.given.now refl c.requires in
    let first : c.in_ok-file.file ≡ 0 = answer_of (λ place. place ≡ length c.args.session.now.files) _ _ c.create.ensures.place c.in_ok-file.ensures.value ∙ ap (λ (b : Bench). length b.files) begun in
    let created : c.create.new.self ≡ created_bench empty = changed_so _ _ _ _ _ c.create.ensures.after c.in_ok-file.ensures.value ∙ ap with_created begun in
    let placed : c.put_attribute.new.self ≡ created_bench at_path =
    changed_so _ _ _ _ _ c.put_attribute.ensures.after c.in_ok-or_no_memory.ensures.value ∙ put-at _ _ _ (codes "path") _ _ created first refl ∙ created-put empty (codes "path") (codes "./") refl in
    let index : c.as_str.result.now ≡ decimal c.args.given.now.index = c.as_str.ensures.value ∙ c.in_ok-index.ensures.ok in
    let numbered : c.put_attribute-2.new.self ≡ created_bench (generated_attributes c.args.given.now.index) =
    changed_so _ _ _ _ _ c.put_attribute-2.ensures.after c.in_ok-or_no_memory-2.ensures.value
    ∙ put-at _ _ _ (codes "generate.index") _ _ placed first index ∙ created-put at_path (codes "generate.index") (decimal c.args.given.now.index) refl in
    let text : c.in_ok-text.text.items ≡ generated_text c.args.self.now.custom_text.now c.args.given.now.index =
    text-is c.args.self.now.custom_text.now c.args.given.now.index c.in_ok-file.file _ c.in_ok-text.text.items numbered first c.in_ok-text.ensures in
    let attributes = generated_attributes c.args.given.now.index in
    let wanted = generated_text c.args.self.now.custom_text.now c.args.given.now.index in
    let written : c.write.new.self ≡ written_bench attributes wanted =
    changed_so _ _ _ _ _ c.write.ensures.after c.unwrap.ensures ∙ write-at _ _ _ _ _ numbered first text ∙ created-written attributes wanted in
    let after : c.transfer.new.self ≡ ended_bench attributes wanted = changed_so _ _ _ _ _ c.transfer.ensures.after c.unwrap-2.ensures ∙ end-at _ _ _ (To 0) written first in
    generate-acts c.args.self.now.count c.args.self.now.custom_text.now c.args.session.now c.args.given.now c.transfer.new.self c.requires after
