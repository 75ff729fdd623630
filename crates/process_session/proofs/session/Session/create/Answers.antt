use Rattle.std.proofs.Common.{[], refl, sym, ◌∙◌, ap, arith}
use Rattle.std.specs.FinMap.{empty}
use Rattle.std.proofs.lemmas.Result.{err_from_is_err_and}
use Rattle.flowfile_record.specs.Attributes.{AttributeMap, encoded_size}
use Rattle.flowfile_record.specs.declared.worked.Body.TheVariants.{New}
use Rattle.flowfile_record.specs.declared.worked.Origin.TheVariants.{Created}
use Rattle.process_session.specs.Changes.{with_made}
use Rattle.process_session.specs.Reasons.{no_room_for}
use Rattle.process_session.proofs.Refusing.{pass, stop, no_refusal, cause, free, memory}
use Rattle.process_session.proofs.Sound.{full-added, may_begin}
use Rattle.process_session.proofs.session.Session.create.Goals as goal

pub add_empty-requires : goal.add_empty-requires
add_empty-requires c = may_begin c.args.self.now Created c.new-attributes.result (New []) c.size.result 0 refl refl tt (omega arith) c.new-attributes.ensures c.size.ensures.size c.in_ok-check_one_more.ensures.files c.in_ok-check_one_more.ensures.attributes c.in_ok-check_one_more.ensures.handed

pub returns-in_err-check_one_more-clause-refusal : goal.returns-in_err-check_one_more-clause-refusal
returns-in_err-check_one_more-clause-refusal c =
    let p = err_from_is_err_and c.from_residual.result c.from_residual.ensures.1 in
    let full = full-added c.args.self.now Created empty (New []) ∙ ap (λ n. no_room_for c.args.self.now n 0) (sym (c.size.ensures.size ∙ ap encoded_size c.new-attributes.ensures)) in
    rw (p.1, p.2) (cause _ _ (stop _ _ _ (c.in_err-check_one_more.ensures.refusal ∙ sym full)))

pub returns-in_err-place-clause-refusal : goal.returns-in_err-place-clause-refusal
returns-in_err-place-clause-refusal c =
    let p = err_from_is_err_and c.from_residual-in_err-place.result c.from_residual-in_err-place.ensures.1 in
    let full = full-added c.args.self.now Created empty (New []) ∙ ap (λ n. no_room_for c.args.self.now n 0) (sym (c.size.ensures.size ∙ ap encoded_size c.new-attributes.ensures)) in
    rw (p.1, p.2) (memory _ (pass _ _ (c.in_ok-check_one_more.ensures.refusal ∙ sym full) ∙ no_refusal))

pub returns-clause-refusal : goal.returns-clause-refusal
returns-clause-refusal c =
    let full = full-added c.args.self.now Created empty (New []) ∙ ap (λ n. no_room_for c.args.self.now n 0) (sym (c.size.ensures.size ∙ ap encoded_size c.new-attributes.ensures)) in
    free _ (pass _ _ (c.in_ok-check_one_more.ensures.refusal ∙ sym full) ∙ no_refusal)

pub returns-clause-after : goal.returns-clause-after
returns-clause-after c = c.in_ok-place.ensures.after ∙ ap (λ (m : AttributeMap). with_made c.args.self.now Created m (New [])) c.new-attributes.ensures
