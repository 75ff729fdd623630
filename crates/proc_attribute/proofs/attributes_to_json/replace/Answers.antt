use Rattle.std.proofs.Common.{◌≤◌, sym, ap, subst, arith}
use Rattle.flowfile_record.specs.Attributes.{encoded_size}
use Rattle.flowfile_record.specs.declared.attributes.TheConstants.{ATTRIBUTES_MAX}
use Rattle.process_session.specs.Bench.{bench_attributes}
use Rattle.processor_api.specs.Sessions.{HasOneOpen}
use Rattle.proc_attribute.proofs.Json.{replace-made, replace-open, replace-refused}
use Rattle.proc_attribute.proofs.Passed.{took-open}
use Rattle.proc_attribute.proofs.attributes_to_json.replace.Goals as goal

pub pass-requires-clause-one : goal.pass-requires-clause-one
pass-requires-clause-one c =
    let same = ap encoded_size c.file_of.ensures.attributes in
    let small : encoded_size (bench_attributes c.args.session.now 0) ≤ ATTRIBUTES_MAX = omega (arith, same, c.size-size.ensures.limits.size) in
    replace-open c.args.session.now c.write.new.self c.requires c.args.bytes.items small c.in-Ok.ensures.refusal c.in-Ok.ensures.after

pub pass-requires-in-Err-clause-one : goal.pass-requires-in-Err-clause-one
pass-requires-in-Err-clause-one c = subst HasOneOpen (sym c.in-Err.ensures.after) (took-open c.args.session.now c.requires)

pub returns-in-Ok : goal.returns-in-Ok
returns-in-Ok c =
    let same = ap encoded_size c.file_of.ensures.attributes in
    let small : encoded_size (bench_attributes c.args.session.now 0) ≤ ATTRIBUTES_MAX = omega (arith, same, c.size-size.ensures.limits.size) in
    replace-made c.args.session.now c.write.new.self c.pass.new.session c.requires c.args.bytes.items small c.in-Ok.ensures.refusal c.in-Ok.ensures.after c.pass.ensures

pub returns-in-Err : goal.returns-in-Err
returns-in-Err c =
    let same = ap encoded_size c.file_of.ensures.attributes in
    let small : encoded_size (bench_attributes c.args.session.now 0) ≤ ATTRIBUTES_MAX = omega (arith, same, c.size-size.ensures.limits.size) in
    replace-refused c.args.session.now c.write.new.self c.pass-in-Err.new.session c.requires c.args.bytes.items c.in-Err.field-0 small c.in-Err.ensures.refusal c.in-Err.ensures.after c.pass-in-Err.ensures
