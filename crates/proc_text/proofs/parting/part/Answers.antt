use Rattle.std.proofs.Common.{Result, subst}
use Rattle.std.specs.Prelude.{IsOk}
use Rattle.std.proofs.lemmas.Bool.{false≢true}
use Rattle.process_session.specs.declared.error.SessionError.{SessionError}
use Rattle.processor_api.proofs.Answered.{never_refused}
use Rattle.proc_text.proofs.PartsOf.{content-there}
use Rattle.proc_text.proofs.parting.part.Goals as goal

pub unreachable-requires : goal.unreachable-requires
unreachable-requires c =
    let ok : IsOk c.content.result = never_refused _ _ c.content.ensures.refusal (content-there c.args.session.now c.requires.one c.requires.read) in
    false≢true (subst (λ (r : Result _ SessionError). IsOk r) c.in_default.is ok)
