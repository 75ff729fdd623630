use Rattle.std.proofs.Common.{◌≡◌, ℕ, ◌+◌, ◌-◌, ◌≤◌, sym, ◌∙◌, subst, arith}
use Rattle.std.specs.FinMap.{remove}
use Rattle.std.proofs.lemmas.Result.{err_from_is_err_and}
use Rattle.flowfile_record.specs.Attributes.{AttributeMap, IsWithinLimits, encoded_size}
use Rattle.flowfile_record.specs.declared.attributes.TheConstants.{ATTRIBUTES_MAX}
use Rattle.flowfile_record.specs.declared.limits.TheConstants.{SESSION_ATTRIBUTES_MAX}
use Rattle.process_session.specs.Bench.{Bench, attribute_size, bench_attributes, named_size, origin_at}
use Rattle.process_session.specs.Sound.{IsSoundBench}
use Rattle.process_session.specs.Changes.{with_attributes}
use Rattle.process_session.proofs.Refused.{named_refusal}
use Rattle.process_session.proofs.Refusing.{pass, stop, no_refusal}
use Rattle.process_session.proofs.Sound.{sound-attributes}
use Rattle.process_session.proofs.session.Session.remove_attribute.Goals as goal

pub invariant_of-self : goal.invariant_of-self
invariant_of-self c =
    let bench : Bench = c.args.self.now in
    let attributes : AttributeMap = remove (bench_attributes bench c.args.place) c.args.key.now in
    let counted : ℕ = c.self.inside.counted - c.size_at-old.result + c.size_without-new.result in
    let sound : IsSoundBench bench c.self.inside.counted = subst (λ (b : Bench). IsSoundBench b c.self.inside.counted) c.self.view_is c.self.invariant in
    let was : c.self.inside.counted ≡ attribute_size bench = sound.summed in
    let full : c.self.inside.counted ≤ SESSION_ATTRIBUTES_MAX = sound.attributes in
    let sum : counted + encoded_size (bench_attributes bench c.args.place) ≡ c.self.inside.counted + encoded_size attributes = omega (arith, c.size_at-old.ensures.size, c.size_at-old.ensures.part, c.size_without-new.ensures.size) in
    let room : counted ≤ SESSION_ATTRIBUTES_MAX = omega (arith, c.size_at-old.ensures.size, c.size_at-old.ensures.part, c.size_without-new.ensures.part) in
    let limits : IsWithinLimits attributes = subst (λ (b : Bench). IsWithinLimits (remove (bench_attributes b c.args.place) c.args.key.now)) c.self.view_is c.remove_from_file-was_there.ensures.limits in
    let named : named_size (origin_at bench c.args.place) attributes ≤ ATTRIBUTES_MAX = omega (arith, c.size_without-new.ensures.size, c.filename_without-name.ensures.size, c.in_ok-check_attributes.ensures.fits) in
    let changed : IsSoundBench (with_attributes bench c.args.place attributes) counted = sound-attributes bench c.self.inside.counted counted c.args.place attributes c.in_ok-check_known.ensures.there sum room limits named sound in
    rw c.remove_from_file-was_there.ensures.after (subst (λ (b : Bench). IsSoundBench (with_attributes b c.args.place (remove (bench_attributes b c.args.place) c.args.key.now)) counted) (sym c.self.view_is) changed)

pub returns-in_err-check_known-clause-refusal : goal.returns-in_err-check_known-clause-refusal
returns-in_err-check_known-clause-refusal c =
    let p = err_from_is_err_and c.from_residual.result c.from_residual.ensures.1 in
    rw (p.1, p.2) (sym (stop _ _ _ c.in_err-check_known.ensures.refusal))

pub returns-in_err-check_open-clause-refusal : goal.returns-in_err-check_open-clause-refusal
returns-in_err-check_open-clause-refusal c =
    let p = err_from_is_err_and c.from_residual-in_err-check_open.result c.from_residual-in_err-check_open.ensures.1 in
    rw (p.1, p.2) (sym (pass _ _ c.in_ok-check_known.ensures.refusal ∙ stop _ _ _ c.in_err-check_open.ensures.refusal))

pub returns-in_err-check_attributes-clause-refusal : goal.returns-in_err-check_attributes-clause-refusal
returns-in_err-check_attributes-clause-refusal c =
    let p = err_from_is_err_and c.from_residual-in_err-check_attributes.result c.from_residual-in_err-check_attributes.ensures.1 in
    rw (p.1, p.2) (sym (pass _ _ c.in_ok-check_known.ensures.refusal ∙ pass _ _ c.in_ok-check_open.ensures.refusal ∙ stop _ _ _ (c.in_err-check_attributes.ensures.refusal ∙ named_refusal c.args.self.now c.args.place (remove (bench_attributes c.args.self.now c.args.place) c.args.key.now) c.size_without-new.result c.filename_without-name.result c.size_without-new.ensures.size c.filename_without-name.ensures.size)))

pub returns-clause-refusal : goal.returns-clause-refusal
returns-clause-refusal c = sym (pass _ _ c.in_ok-check_known.ensures.refusal ∙ pass _ _ c.in_ok-check_open.ensures.refusal ∙ pass _ _ (c.in_ok-check_attributes.ensures.refusal ∙ named_refusal c.args.self.now c.args.place (remove (bench_attributes c.args.self.now c.args.place) c.args.key.now) c.size_without-new.result c.filename_without-name.result c.size_without-new.ensures.size c.filename_without-name.ensures.size) ∙ no_refusal)
