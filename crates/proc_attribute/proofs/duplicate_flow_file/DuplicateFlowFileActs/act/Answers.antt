use Rattle.std.proofs.Common.{◌≡◌, cond, refl, sym, ◌∙◌, ap, arith}
use Rattle.flowfile_record.specs.declared.worked.End.TheVariants.{To}
use Rattle.machine_model.specs.declared.kind.Kind.TheVariants.{DuplicateFlowFile}
use Rattle.process_session.specs.Bench.{bench_attributes}
use Rattle.process_session.specs.Changes.{with_end}
use Rattle.processor_api.proofs.Answered.{changed_so, never_refused}
use Rattle.processor_api.specs.Cloning.{may_be_cloned, with_ended}
use Rattle.processor_api.proofs.Clones.{cloned-transfer, took-has, took-one, took-relationships}
use Rattle.proc_attribute.proofs.Duplicating.{clones_of, duplicate-acts}
use Rattle.proc_attribute.proofs.duplicate_flow_file.DuplicateFlowFileActs.act.Goals as goal
use Rattle.proc_attribute.proofs.duplicate_flow_file.DuplicateFlowFileActs.act.Goals.{then-may_be_cloned, else-may_be_cloned}

pub may_be_cloned-requires : goal.may_be_cloned-requires
may_be_cloned-requires c = took-has c.args.session.now (took-one (DuplicateFlowFile c.args.self.now.copies) c.args.session.now c.args._given.now refl c.requires)

pub add_clones-requires-clause-one : goal.add_clones-requires-clause-one
add_clones-requires-clause-one c = took-one (DuplicateFlowFile c.args.self.now.copies) c.args.session.now c.args._given.now refl c.requires

pub unwrap-requires : goal.unwrap-requires
unwrap-requires c =
    let relationships : c.args.session.now.relationships ≡ 1 = took-relationships (DuplicateFlowFile c.args.self.now.copies) c.args.session.now c.args._given.now c.requires in
    let clones = clones_of c.if-may_be_cloned.copies (bench_attributes c.args.session.now 0) in
    never_refused _ _ c.transfer.ensures.refusal
    (cloned-transfer c.args.session.now _ clones 0 (took-one (DuplicateFlowFile c.args.self.now.copies) c.args.session.now c.args._given.now refl c.requires) c.in_ok-add_clones.ensures (omega arith))

pub returns-clause-acts : goal.returns-clause-acts
returns-clause-acts c =
    let before = c.args.session.now in
    let copies = c.args.self.now.copies in
    let many : c.if-may_be_cloned.copies ≡ cond (may_be_cloned before) copies 0 =
    elim c.if-may_be_cloned.branch [
      | then-may_be_cloned w ↦ w.copies-is ∙ ap (λ b. cond b copies 0) (sym w.if-may_be_cloned.true ∙ c.may_be_cloned.ensures)
      | else-may_be_cloned w ↦ w.copies-is ∙ ap (λ b. cond b copies 0) (sym w.if-may_be_cloned.false ∙ c.may_be_cloned.ensures)
    ] in
    let after : c.transfer.new.self ≡ with_end (with_ended before (clones_of c.if-may_be_cloned.copies (bench_attributes before 0))) 0 (To 0) =
    changed_so _ _ _ _ _ c.transfer.ensures.after c.unwrap.ensures ∙ ap (λ b. with_end b 0 (To 0)) c.in_ok-add_clones.ensures in
    duplicate-acts copies c.if-may_be_cloned.copies before c.args._given.now c.transfer.new.self c.requires many after
