use Rattle.std.proofs.Common.{◌<◌, subst}
use Rattle.std.specs.Prelude.{IfSome}
use Rattle.processor_api.proofs.Answered.{never_refused}
use Rattle.proc_text.proofs.PartsEnd.{part-remove, part-transfer}
use Rattle.proc_text.proofs.parting.end_part.Goals as goal

pub unwrap-requires : goal.unwrap-requires
unwrap-requires c =
    never_refused _ _ c.transfer.ensures.refusal
    (part-transfer c.args.session.now c.args.place c.in-Some.relationship c.requires.open (subst (λ o. IfSome o (λ place. place < c.args.session.now.relationships)) c.in-Some.is c.requires.there))

pub unwrap-requires-in-None : goal.unwrap-requires-in-None
unwrap-requires-in-None c = never_refused _ _ c.remove.ensures.refusal (part-remove c.args.session.now c.args.place c.requires.open)
