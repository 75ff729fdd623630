use Rattle.std.proofs.Common.{◌≤◌, ap, arith}
use Rattle.flowfile_record.specs.Attributes.{encoded_size}
use Rattle.flowfile_record.specs.declared.attributes.TheConstants.{ATTRIBUTES_MAX}
use Rattle.process_session.specs.Bench.{bench_attributes}
use Rattle.processor_api.proofs.Answered.{changed_so, never_refused}
use Rattle.proc_text.proofs.Passed.{replace-free, replaced-ends, replaced-transfer}
use Rattle.proc_text.proofs.passing.replace.Goals as goal

pub unwrap-requires : goal.unwrap-requires
unwrap-requires c =
    let same = ap encoded_size c.attributes_of.ensures in
    let small : encoded_size (bench_attributes c.args.session.now 0) ≤ ATTRIBUTES_MAX = omega (arith, same, c.size-size.ensures.limits.size) in
    never_refused _ _ c.write.ensures.refusal (replace-free c.args.session.now c.requires.one c.args.bytes.items small c.requires.fits)

pub unwrap-requires-2 : goal.unwrap-requires-2
unwrap-requires-2 c =
    never_refused _ _ c.transfer.ensures.refusal
    (replaced-transfer c.args.session.now c.write.new.self c.requires.one c.args.bytes.items 0 (changed_so _ _ _ _ _ c.write.ensures.after c.unwrap.ensures) c.requires.there)

pub returns : goal.returns
returns c =
    replaced-ends c.args.session.now c.write.new.self c.transfer.new.self c.requires.one c.args.bytes.items
    (changed_so _ _ _ _ _ c.write.ensures.after c.unwrap.ensures)
    (changed_so _ _ _ _ _ c.transfer.ensures.after c.unwrap-2.ensures)
