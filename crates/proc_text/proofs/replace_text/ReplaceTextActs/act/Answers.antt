use Rattle.std.proofs.Common.{◌≡◌, ℕ, length, None, Result, Some, Vec, Global, refl, sym, ◌∙◌, ap, arith, string_bytes, subst}
use Rattle.std.specs.Prelude.{IsOk, option_map}
use Rattle.std.proofs.lemmas.Bool.{false≢true}
use Rattle.machine_model.specs.ReplaceText.{replaced_content}
use Rattle.machine_model.specs.declared.kind.Kind.TheVariants.{ReplaceText}
use Rattle.process_session.specs.declared.error.SessionError.{SessionError}
use Rattle.processor_api.proofs.Answered.{never_refused}
use Rattle.processor_api.proofs.Began.{content-free}
use Rattle.proc_text.proofs.Began.{began-one, began-relationships}
use Rattle.proc_text.proofs.Replacing.{content-fits, text-acts}
use Rattle.proc_text.proofs.replace_text.ReplaceTextActs.act.Goals as goal

pub unreachable-requires : goal.unreachable-requires
unreachable-requires c =
    let ok : IsOk c.content.result = never_refused _ _ c.content.ensures.refusal (content-free (ReplaceText c.args.self.now.replacement.now) c.args.session.now c.args._given.now refl c.requires) in
    false≢true (subst (λ (r : Result _ SessionError). IsOk r) c.in_default.is ok)

pub replaced_content-requires : goal.replaced_content-requires
replaced_content-requires c = c.requires.handed.sound.ranges

pub replace-requires-clause-one : goal.replace-requires-clause-one
replace-requires-clause-one c = began-one (ReplaceText c.args.self.now.replacement.now) c.args.session.now c.args._given.now refl c.requires

pub replace-requires-clause-there : goal.replace-requires-clause-there
replace-requires-clause-there c =
    let many : c.args.session.now.relationships ≡ 2 = began-relationships (ReplaceText c.args.self.now.replacement.now) c.args.session.now c.args._given.now c.requires in
    omega (arith, many)

pub replace-requires-clause-fits : goal.replace-requires-clause-fits
replace-requires-clause-fits c =
    let made : replaced_content c.args.self.now.replacement.now c.in-Ok.content.now ≡ Some (string_bytes c.in-Some.text) =
    sym c.in_ok-text.ensures ∙ ap (option_map string_bytes) c.in-Some.is in
    let same = ap (λ (v : Vec ℕ Global). v.items) c.into_bytes.ensures.value in
    let fits = content-fits c.args.self.now.replacement.now c.in-Ok.content.now (string_bytes c.in-Some.text) made in
    omega (arith, fits, ap (length {A = ℕ}) same)

pub pass-requires-clause-one : goal.pass-requires-clause-one
pass-requires-clause-one c = began-one (ReplaceText c.args.self.now.replacement.now) c.args.session.now c.args._given.now refl c.requires

pub pass-requires-clause-there : goal.pass-requires-clause-there
pass-requires-clause-there c =
    let many : c.args.session.now.relationships ≡ 2 = began-relationships (ReplaceText c.args.self.now.replacement.now) c.args.session.now c.args._given.now c.requires in
    omega (arith, many)

pub returns-in-Some-clause-acts : goal.returns-in-Some-clause-acts
returns-in-Some-clause-acts c =
    let made : replaced_content c.args.self.now.replacement.now c.in-Ok.content.now ≡ Some (string_bytes c.in-Some.text) =
    sym c.in_ok-text.ensures ∙ ap (option_map string_bytes) c.in-Some.is in
    let same = ap (λ (v : Vec ℕ Global). v.items) c.into_bytes.ensures.value in
    text-acts c.args.self.now.replacement.now c.args.session.now c.args._given.now c.replace.new.session c.in-Ok.content.now (Some c.into_bytes.result.items) c.requires c.in-Ok.ensures.content
    (made ∙ ap Some (sym same)) c.replace.ensures

pub returns-in-None-clause-acts : goal.returns-in-None-clause-acts
returns-in-None-clause-acts c =
    let made : replaced_content c.args.self.now.replacement.now c.in-Ok.content.now ≡ None =
    sym c.in_ok-text.ensures ∙ ap (option_map string_bytes) c.in-None.is in
    text-acts c.args.self.now.replacement.now c.args.session.now c.args._given.now c.pass.new.session c.in-Ok.content.now None c.requires c.in-Ok.ensures.content made c.pass.ensures
