use Rattle.std.proofs.Common.{◌≡◌, ◌==◌, List, Result, length, map, refl, sym, ◌∙◌, ap, subst, arith}
use Rattle.std.specs.Prelude.{IsOk}
use Rattle.std.specs.Vec.{vec_len}
use Rattle.std.proofs.lemmas.Bool.{false≢true}
use Rattle.std.proofs.lemmas.List.{length-map}
use Rattle.std.proofs.lemmas.Result.{on_ok_weaker}
use Rattle.machine_model.specs.declared.kind.Kind.TheVariants.{ExtractText}
use Rattle.process_session.specs.declared.error.SessionError.{SessionError}
use Rattle.processor_api.proofs.Answered.{never_refused}
use Rattle.processor_api.proofs.Began.{content-free}
use Rattle.proc_text.specs.Extracting.{pair_of}
use Rattle.proc_text.proofs.Began.{began-one}
use Rattle.proc_text.proofs.ExtractsSet.{Pair, empty-ends, extract-acts, pairs_in, some-ends}
use Rattle.proc_text.proofs.extract_text.ExtractTextActs.act.Goals as goal

pub unreachable-requires : goal.unreachable-requires
unreachable-requires c =
    let ok : IsOk c.content.result = never_refused _ _ c.content.ensures.refusal (content-free (ExtractText c.args.self.now.own.now) c.args.session.now c.args._given.now refl c.requires) in
    false≢true (subst (λ (r : Result _ SessionError). IsOk r) c.in_default.is ok)

pub pass-requires-clause-one : goal.pass-requires-clause-one
pass-requires-clause-one c = began-one (ExtractText c.args.self.now.own.now) c.args.session.now c.args._given.now refl c.requires

pub returns-then-is_empty-clause-acts : goal.returns-then-is_empty-clause-acts
returns-then-is_empty-clause-acts c =
    let own = c.args.self.now.own.now in
    let before = c.args.session.now in
    let content = c.in-Ok.content.now in
    let items = c.in_ok-extracts.extracts.items in
    let pairs : List Pair = map pair_of items in
    let are : pairs ≡ pairs_in content own = c.in_ok-extracts.ensures ∙ ap (pairs_in content) c.as_slice.ensures in
    let count : length items ≡ vec_len c.in_ok-extracts.extracts = omega arith in
    let none = ap (λ n. n == 0) (length-map items pair_of ∙ count) ∙ sym c.is_empty.ensures ∙ c.if-is_empty.true in
    extract-acts own before c.args._given.now c.pass.new.session content pairs c.requires c.in-Ok.ensures.content are (empty-ends before c.pass.new.session pairs none c.pass.ensures)

pub set_if_fit-requires-clause-one : goal.set_if_fit-requires-clause-one
set_if_fit-requires-clause-one c = began-one (ExtractText c.args.self.now.own.now) c.args.session.now c.args._given.now refl c.requires

pub returns-clause-acts : goal.returns-clause-acts
returns-clause-acts c =
    let own = c.args.self.now.own.now in
    let before = c.args.session.now in
    let after = c.set_if_fit.new.session in
    let content = c.in-Ok.content.now in
    let items = c.in_ok-extracts.extracts.items in
    let pairs : List Pair = map pair_of c.deref.result.now in
    let same : pairs ≡ map pair_of items = ap (map pair_of) c.deref.ensures.value in
    let are : pairs ≡ pairs_in content own = same ∙ c.in_ok-extracts.ensures ∙ ap (pairs_in content) c.as_slice.ensures in
    let count : length items ≡ vec_len c.in_ok-extracts.extracts = omega arith in
    let some = ap (λ n. n == 0) (ap length same ∙ length-map items pair_of ∙ count) ∙ sym c.is_empty.ensures ∙ c.if-is_empty.false in
    on_ok_weaker c.set_if_fit.result
    (λ ends. extract-acts own before c.args._given.now after content pairs c.requires c.in-Ok.ensures.content are (some-ends before after pairs some ends)) c.set_if_fit.ensures
