use Rattle.std.proofs.Common.{Result, refl, ◌∙◌, ap, subst}
use Rattle.std.specs.Prelude.{IsOk}
use Rattle.std.proofs.lemmas.Bool.{false≢true}
use Rattle.std.proofs.lemmas.Result.{on_ok_weaker}
use Rattle.hex.specs.Hex.{encode_lower}
use Rattle.machine_model.specs.declared.kind.Kind.TheVariants.{CryptographicHashContent}
use Rattle.process_session.specs.declared.error.SessionError.{SessionError}
use Rattle.processor_api.proofs.Answered.{never_refused}
use Rattle.processor_api.proofs.Began.{content-free, kind-took}
use Rattle.proc_attribute.proofs.Hashing.{hash-acts}
use Rattle.proc_attribute.proofs.cryptographic_hash_content.CryptographicHashContentActs.act.Goals as goal

pub unreachable-requires : goal.unreachable-requires
unreachable-requires c =
    let ok : IsOk c.content.result = never_refused _ _ c.content.ensures.refusal (content-free CryptographicHashContent c.args.session.now c.args._given.now refl c.requires) in
    false≢true (subst (λ (r : Result _ SessionError). IsOk r) c.in_default.is ok)

pub note-requires-clause-one : goal.note-requires-clause-one
note-requires-clause-one c = kind-took CryptographicHashContent c.args.session.now c.args._given.now refl refl c.requires

pub returns-clause-acts : goal.returns-clause-acts
returns-clause-acts c =
    let digest-is = c.as_str.ensures.value ∙ c.in_ok-digest.ensures ∙ ap encode_lower c.digest.ensures in
    on_ok_weaker c.note.result
    (hash-acts c.args.session.now c.args._given.now c.note.new.session c.in-Ok.content.now c.as_str.result.now c.requires c.in-Ok.ensures.content digest-is)
    c.note.ensures
