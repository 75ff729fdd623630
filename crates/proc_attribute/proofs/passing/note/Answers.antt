use Rattle.std.proofs.Common.{sym, subst, arith}
use Rattle.processor_api.specs.Sessions.{HasOneOpen}
use Rattle.proc_attribute.proofs.Passed.{note-made, note-open, note-refused, took-open}
use Rattle.proc_attribute.proofs.passing.note.Goals as goal

pub pass-requires-clause-one : goal.pass-requires-clause-one
pass-requires-clause-one c =
    note-open c.args.session.now c.put_attribute.new.self c.requires.one c.args.key.now c.args.value.now c.requires.key c.in-Ok.ensures.refusal c.in-Ok.ensures.after

pub returns-in-Ok : goal.returns-in-Ok
returns-in-Ok c =
    note-made c.args.session.now c.put_attribute.new.self c.pass.new.session c.requires.one c.args.key.now c.args.value.now c.requires.key c.in-Ok.ensures.refusal c.in-Ok.ensures.after c.pass.ensures

pub pass-requires-in_default : goal.pass-requires-in_default
pass-requires-in_default c = record {
  one = subst HasOneOpen (sym c.in-Err.ensures.after) (took-open c.args.session.now c.requires.one);
  there = omega arith;
}

pub returns-in_default : goal.returns-in_default
returns-in_default c =
    note-refused c.args.session.now c.put_attribute.new.self c.pass-in_default.new.session c.requires.one c.args.key.now c.args.value.now c.in-Err.error c.requires.key c.in-Err.ensures.refusal c.in_default.not-Memory c.in-Err.ensures.after c.pass-in_default.ensures
