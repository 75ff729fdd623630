use Rattle.processor_api.proofs.Answered.{changed_so, never_refused}
use Rattle.processor_api.proofs.Clones.{first-transfer, took-has}
use Rattle.processor_api.proofs.Routed.{gives-up}
use Rattle.processor_api.proofs.cloning.pass.Goals as goal

pub unwrap-requires : goal.unwrap-requires
unwrap-requires c = never_refused _ _ c.transfer.ensures.refusal (first-transfer c.args.session.now c.args.relationship (took-has c.args.session.now c.requires.one) c.requires.there)

pub returns : goal.returns
returns c = gives-up c.args.session.now c.transfer.new.self c.args.relationship c.requires.one (changed_so _ _ _ _ _ c.transfer.ensures.after c.unwrap.ensures)
