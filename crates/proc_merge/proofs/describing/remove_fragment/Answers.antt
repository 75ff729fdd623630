use Rattle.std.proofs.Common.{◌≡◌, codes, refl}
use Rattle.std.specs.FinMap.{remove}
use Rattle.process_session.specs.Bench.{bench_attributes}
use Rattle.process_session.specs.Changes.{with_removed}
use Rattle.processor_api.proofs.Answered.{changed_so, never_refused}
use Rattle.proc_merge.proofs.Described.{remove_attribute-free, removed-joined, removed-more}
use Rattle.proc_merge.proofs.describing.remove_fragment.Goals as goal

pub unwrap-requires : goal.unwrap-requires
unwrap-requires c =
    never_refused _ _ c.remove_attribute.ensures.refusal (remove_attribute-free c.args.session.now c.args.file (codes "fragment.identifier") c.requires refl)

pub unwrap-requires-2 : goal.unwrap-requires-2
unwrap-requires-2 c =
    let bench = c.args.session.now in
    let first : c.remove_attribute.new.self ≡ with_removed bench c.args.file (codes "fragment.identifier") = changed_so _ _ _ _ _ c.remove_attribute.ensures.after c.unwrap.ensures in
    let joined = removed-joined bench _ c.args.file (codes "fragment.identifier") c.requires refl first in
    never_refused _ _ c.remove_attribute-2.ensures.refusal (remove_attribute-free _ c.args.file (codes "fragment.index") joined refl)

pub unwrap-requires-3 : goal.unwrap-requires-3
unwrap-requires-3 c =
    let bench = c.args.session.now in
    let first : c.remove_attribute.new.self ≡ with_removed bench c.args.file (codes "fragment.identifier") = changed_so _ _ _ _ _ c.remove_attribute.ensures.after c.unwrap.ensures in
    let joined = removed-joined bench _ c.args.file (codes "fragment.identifier") c.requires refl first in
    let second : c.remove_attribute-2.new.self ≡ with_removed c.remove_attribute.new.self c.args.file (codes "fragment.index") = changed_so _ _ _ _ _ c.remove_attribute-2.ensures.after c.unwrap-2.ensures in
    let still = removed-joined _ _ c.args.file (codes "fragment.index") joined refl second in
    never_refused _ _ c.remove_attribute-3.ensures.refusal (remove_attribute-free _ c.args.file (codes "fragment.count") still refl)

pub returns : goal.returns
returns c =
    let bench = c.args.session.now in
    let file = c.args.file in
    let attributes = bench_attributes bench file in
    let first : c.remove_attribute.new.self ≡ with_removed bench file (codes "fragment.identifier") = changed_so _ _ _ _ _ c.remove_attribute.ensures.after c.unwrap.ensures in
    let second : c.remove_attribute-2.new.self ≡ with_removed c.remove_attribute.new.self file (codes "fragment.index") = changed_so _ _ _ _ _ c.remove_attribute-2.ensures.after c.unwrap-2.ensures in
    let third : c.remove_attribute-3.new.self ≡ with_removed c.remove_attribute-2.new.self file (codes "fragment.count") = changed_so _ _ _ _ _ c.remove_attribute-3.ensures.after c.unwrap-3.ensures in
    let one = remove attributes (codes "fragment.identifier") in
    let two = remove one (codes "fragment.index") in
    let behind = removed-more bench _ _ file one (codes "fragment.index") c.requires first second in
    removed-more bench _ _ file two (codes "fragment.count") c.requires behind third
