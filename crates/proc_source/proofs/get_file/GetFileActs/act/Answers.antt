use Rattle.std.proofs.Common.{◌≡◌, [], length, refl, sym, ◌∙◌, ap}
use Rattle.std.specs.Prelude.{codes}
use Rattle.std.specs.FinMap.{empty}
use Rattle.flowfile_record.specs.declared.worked.End.TheVariants.{To}
use Rattle.machine_model.specs.Acting.{received_attributes}
use Rattle.machine_model.specs.declared.kind.Kind.TheVariants.{GetFile}
use Rattle.process_session.specs.Bench.{Bench, bench_of}
use Rattle.process_session.specs.Changes.{with_received}
use Rattle.process_session.specs.Refusals.{refusal_of_receive}
use Rattle.processor_api.proofs.Alone.{receive-free}
use Rattle.processor_api.proofs.Answered.{answer_of, changed_so, end-at, never_refused, only_memory, put-at, put_refusal-at, transfer_refusal-at}
use Rattle.processor_api.proofs.Began.{source-begins}
use Rattle.proc_source.proofs.Receiving.{received_bench, received-put, named, name-free, path-free, end-free, ended_bench, given-fits, get-file-acts}
use Rattle.proc_source.proofs.get_file.GetFileActs.act.Goals as goal

pub or_no_memory-requires : goal.or_no_memory-requires
or_no_memory-requires c =
    let begun : c.args.session.now ≡ bench_of 1 [] = source-begins (GetFile c.args.self.now.filter.now) _ c.args.given.now refl c.requires in
    let fits = given-fits _ _ c.into_vec.result.items c.requires.handed.is_given.1 (sym c.take.ensures.value ∙ c.in-Some-Some.is-1) c.into_vec.ensures in
    only_memory _ _ c.receive.ensures.refusal (ap (λ b. refusal_of_receive b c.into_vec.result.items) begun ∙ receive-free 1 c.into_vec.result.items fits)

pub or_no_memory-requires-2 : goal.or_no_memory-requires-2
or_no_memory-requires-2 c =
    let bytes = c.into_vec.result.items in
    let begun : c.args.session.now ≡ bench_of 1 [] = source-begins (GetFile c.args.self.now.filter.now) _ c.args.given.now refl c.requires in
    let fits = given-fits _ _ bytes c.requires.handed.is_given.1 (sym c.take.ensures.value ∙ c.in-Some-Some.is-1) c.into_vec.ensures in
    let first : c.in_ok-file.file ≡ 0 = answer_of (λ place. place ≡ length c.args.session.now.files) _ _ c.receive.ensures.place c.in_ok-file.ensures.value ∙ ap (λ (b : Bench). length b.files) begun in
    let received : c.receive.new.self ≡ received_bench empty bytes = changed_so _ _ _ _ _ c.receive.ensures.after c.in_ok-file.ensures.value ∙ ap (λ b. with_received b bytes) begun in
    only_memory _ _ c.put_attribute.ensures.refusal
    (put_refusal-at _ _ _ (codes "filename") _ _ received first c.text.ensures.text ∙ name-free bytes c.in-Some-Some.name fits c.text.ensures.name)

pub or_no_memory-requires-3 : goal.or_no_memory-requires-3
or_no_memory-requires-3 c =
    let bytes = c.into_vec.result.items in
    let begun : c.args.session.now ≡ bench_of 1 [] = source-begins (GetFile c.args.self.now.filter.now) _ c.args.given.now refl c.requires in
    let fits = given-fits _ _ bytes c.requires.handed.is_given.1 (sym c.take.ensures.value ∙ c.in-Some-Some.is-1) c.into_vec.ensures in
    let first : c.in_ok-file.file ≡ 0 = answer_of (λ place. place ≡ length c.args.session.now.files) _ _ c.receive.ensures.place c.in_ok-file.ensures.value ∙ ap (λ (b : Bench). length b.files) begun in
    let received : c.receive.new.self ≡ received_bench empty bytes = changed_so _ _ _ _ _ c.receive.ensures.after c.in_ok-file.ensures.value ∙ ap (λ b. with_received b bytes) begun in
    let is_named : c.put_attribute.new.self ≡ received_bench (named c.in-Some-Some.name) bytes =
    changed_so _ _ _ _ _ c.put_attribute.ensures.after c.in_ok-or_no_memory.ensures.value
    ∙ put-at _ _ _ (codes "filename") _ _ received first c.text.ensures.text ∙ received-put empty bytes (codes "filename") c.in-Some-Some.name refl in
    only_memory _ _ c.put_attribute-2.ensures.refusal
    (put_refusal-at _ _ _ (codes "path") _ _ is_named first refl ∙ path-free bytes c.in-Some-Some.name fits c.text.ensures.name)

pub unwrap-requires : goal.unwrap-requires
unwrap-requires c =
    let bytes = c.into_vec.result.items in
    let begun : c.args.session.now ≡ bench_of 1 [] = source-begins (GetFile c.args.self.now.filter.now) _ c.args.given.now refl c.requires in
    let first : c.in_ok-file.file ≡ 0 = answer_of (λ place. place ≡ length c.args.session.now.files) _ _ c.receive.ensures.place c.in_ok-file.ensures.value ∙ ap (λ (b : Bench). length b.files) begun in
    let received : c.receive.new.self ≡ received_bench empty bytes = changed_so _ _ _ _ _ c.receive.ensures.after c.in_ok-file.ensures.value ∙ ap (λ b. with_received b bytes) begun in
    let is_named : c.put_attribute.new.self ≡ received_bench (named c.in-Some-Some.name) bytes =
    changed_so _ _ _ _ _ c.put_attribute.ensures.after c.in_ok-or_no_memory.ensures.value
    ∙ put-at _ _ _ (codes "filename") _ _ received first c.text.ensures.text ∙ received-put empty bytes (codes "filename") c.in-Some-Some.name refl in
    let done : c.put_attribute-2.new.self ≡ received_bench (received_attributes c.in-Some-Some.name) bytes =
    changed_so _ _ _ _ _ c.put_attribute-2.ensures.after c.in_ok-or_no_memory-2.ensures.value
    ∙ put-at _ _ _ (codes "path") _ _ is_named first refl ∙ received-put (named c.in-Some-Some.name) bytes (codes "path") (codes "./") refl in
    never_refused _ _ c.transfer.ensures.refusal (transfer_refusal-at _ _ _ 0 done first ∙ end-free (received_attributes c.in-Some-Some.name) bytes)

pub returns-clause-acts : goal.returns-clause-acts
returns-clause-acts c =
    let bytes = c.into_vec.result.items in
    let begun : c.args.session.now ≡ bench_of 1 [] = source-begins (GetFile c.args.self.now.filter.now) _ c.args.given.now refl c.requires in
    let first : c.in_ok-file.file ≡ 0 = answer_of (λ place. place ≡ length c.args.session.now.files) _ _ c.receive.ensures.place c.in_ok-file.ensures.value ∙ ap (λ (b : Bench). length b.files) begun in
    let received : c.receive.new.self ≡ received_bench empty bytes = changed_so _ _ _ _ _ c.receive.ensures.after c.in_ok-file.ensures.value ∙ ap (λ b. with_received b bytes) begun in
    let is_named : c.put_attribute.new.self ≡ received_bench (named c.in-Some-Some.name) bytes =
    changed_so _ _ _ _ _ c.put_attribute.ensures.after c.in_ok-or_no_memory.ensures.value
    ∙ put-at _ _ _ (codes "filename") _ _ received first c.text.ensures.text ∙ received-put empty bytes (codes "filename") c.in-Some-Some.name refl in
    let done : c.put_attribute-2.new.self ≡ received_bench (received_attributes c.in-Some-Some.name) bytes =
    changed_so _ _ _ _ _ c.put_attribute-2.ensures.after c.in_ok-or_no_memory-2.ensures.value
    ∙ put-at _ _ _ (codes "path") _ _ is_named first refl ∙ received-put (named c.in-Some-Some.name) bytes (codes "path") (codes "./") refl in
    let after : c.transfer.new.self ≡ ended_bench (received_attributes c.in-Some-Some.name) bytes = changed_so _ _ _ _ _ c.transfer.ensures.after c.unwrap.ensures ∙ end-at _ _ _ (To 0) done first in
    get-file-acts c.args.self.now.filter.now c.args.session.now c.args.given.now c.transfer.new.self c.in-Some-Some.name c.in-Some-Some.bytes bytes c.requires c.in-Some-Some.is-0 (sym c.take.ensures.value ∙ c.in-Some-Some.is-1) c.into_vec.ensures after
