use Rattle.std.proofs.Common.{◌≡◌, ◌≤◌, Result, length, refl, ◌∙◌, ap, subst, arith}
use Rattle.std.specs.Prelude.{IsOk}
use Rattle.std.proofs.lemmas.Bool.{false≢true}
use Rattle.flowfile_record.specs.declared.TheConstants.{CONTENT_MAX}
use Rattle.machine_model.specs.declared.kind.Kind.TheVariants.{ModifyBytes}
use Rattle.process_session.specs.declared.error.SessionError.{SessionError}
use Rattle.processor_api.proofs.Answered.{never_refused}
use Rattle.processor_api.proofs.Began.{content-free}
use Rattle.machine_model.specs.ModifyBytes.{without_ends}
use Rattle.proc_text.proofs.Began.{began-one, content-short}
use Rattle.proc_text.proofs.Modifying.{kept-short, modify-acts}
use Rattle.proc_text.proofs.modify_bytes.ModifyBytesActs.act.Goals as goal

pub unreachable-requires : goal.unreachable-requires
unreachable-requires c =
    let ok : IsOk c.content.result = never_refused _ _ c.content.ensures.refusal (content-free (ModifyBytes c.args.self.now.start c.args.self.now.«end») c.args.session.now c.args._given.now refl c.requires) in
    false≢true (subst (λ (r : Result _ SessionError). IsOk r) c.in_default.is ok)

pub replace-requires-clause-one : goal.replace-requires-clause-one
replace-requires-clause-one c = began-one (ModifyBytes c.args.self.now.start c.args.self.now.«end») c.args.session.now c.args._given.now refl c.requires

pub replace-requires-clause-fits : goal.replace-requires-clause-fits
replace-requires-clause-fits c =
    let content = c.in-Ok.content.now in
    let is : c.into_vec.result.items ≡ without_ends c.args.self.now.start c.args.self.now.«end» content = c.into_vec.ensures ∙ c.in_ok-bytes.ensures ∙ c.without_ends-kept.ensures in
    let short : length content ≤ CONTENT_MAX = content-short (ModifyBytes c.args.self.now.start c.args.self.now.«end») c.args.session.now c.args._given.now content c.requires c.in-Ok.ensures.content in
    let same = ap length is in
    omega (arith, same, short, kept-short c.args.self.now.start c.args.self.now.«end» content)

pub returns-clause-acts : goal.returns-clause-acts
returns-clause-acts c =
    let content = c.in-Ok.content.now in
    let is : c.into_vec.result.items ≡ without_ends c.args.self.now.start c.args.self.now.«end» content = c.into_vec.ensures ∙ c.in_ok-bytes.ensures ∙ c.without_ends-kept.ensures in
    modify-acts c.args.self.now.start c.args.self.now.«end» c.args.session.now c.args._given.now c.replace.new.session content c.into_vec.result.items c.requires c.in-Ok.ensures.content is c.replace.ensures
