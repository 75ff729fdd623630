use Rattle.std.proofs.Common.{◌≡◌, Option, map, true, is_some, sym, ◌∙◌, ap}
use Rattle.flowfile_record.specs.Attributes.{AttributeMap}
use Rattle.flowfile_record.specs.declared.worked.Origin.TheVariants.{Taken as FromQueue}
use Rattle.machine_model.specs.Making.{with_all_set}
use Rattle.process_session.specs.Bench.{bench_attributes}
use Rattle.proc_attribute.specs.Setting.{set_by}
use Rattle.proc_attribute.proofs.Passed.{took-open}
use Rattle.proc_attribute.proofs.Updating.{all-set, set-ends, set-open}
use Rattle.proc_attribute.proofs.update_attribute.set_if_fit.Goals as goal

pub pass-requires-clause-one : goal.pass-requires-clause-one
pass-requires-clause-one c =
    let before = c.args.session.now in
    let wanted : AttributeMap → Option AttributeMap = λ attributes. with_all_set (FromQueue 0) attributes (map set_by c.args.settings.now) in
    let may : is_some (wanted (bench_attributes before 0)) ≡ true = sym (ap (λ a. is_some (wanted a)) c.file_of.ensures.attributes) ∙ sym c.in_ok-may_set.ensures ∙ c.if-branch.true in
    set-open before c.set.new.session c.requires.one (wanted (bench_attributes before 0)) (all-set before c.set.new.session c.requires.one (wanted (bench_attributes before 0)) c.in_ok-set.ensures may)

pub pass-requires-else-branch-clause-one : goal.pass-requires-else-branch-clause-one
pass-requires-else-branch-clause-one c = took-open c.args.session.now c.requires.one

pub returns-in_ok-set : goal.returns-in_ok-set
returns-in_ok-set c =
    let before = c.args.session.now in
    let wanted : AttributeMap → Option AttributeMap = λ attributes. with_all_set (FromQueue 0) attributes (map set_by c.args.settings.now) in
    let may : is_some (wanted (bench_attributes before 0)) ≡ true = sym (ap (λ a. is_some (wanted a)) c.file_of.ensures.attributes) ∙ sym c.in_ok-may_set.ensures ∙ c.if-branch.true in
    set-ends before c.set.new.session c.pass.new.session c.requires.one (wanted (bench_attributes before 0)) (all-set before c.set.new.session c.requires.one (wanted (bench_attributes before 0)) c.in_ok-set.ensures may) c.pass.ensures
