use Rattle.std.proofs.Common.{[], sym, ◌∙◌, ap}
use Rattle.std.proofs.lemmas.Result.{err_from_is_err_and}
use Rattle.flowfile_record.specs.Attributes.{AttributeMap, encoded_size}
use Rattle.flowfile_record.specs.declared.worked.Body.TheVariants.{New}
use Rattle.flowfile_record.specs.declared.worked.Origin.TheVariants.{Joined}
use Rattle.process_session.specs.Bench.{made_size}
use Rattle.process_session.specs.Changes.{common_attributes, with_made}
use Rattle.process_session.specs.Reasons.{attributes_too_large, no_room_for}
use Rattle.process_session.proofs.Refusing.{pass, stop, no_refusal, cause, free, behind, behind_known, behind_memory}
use Rattle.process_session.proofs.Sound.{full-added, may_join}
use Rattle.process_session.proofs.session.Session.create_joined.Goals as goal

pub add_empty-requires : goal.add_empty-requires
add_empty-requires c =
    may_join c.args.self.now c.args.parents.now c.in_ok-numbers.numbers c.in_ok-attributes.attributes c.size.result c.made_size.result c.in_ok-numbers.ensures c.requires.some c.requires.distinct c.in_ok-check_all_known.ensures.there c.size.ensures.size c.made_size.ensures
    c.in_ok-check_attributes.ensures.fits c.in_ok-check_one_more.ensures.files c.in_ok-check_one_more.ensures.attributes c.in_ok-check_one_more.ensures.handed

pub returns-in_err-check_all_known-clause-refusal : goal.returns-in_err-check_all_known-clause-refusal
returns-in_err-check_all_known-clause-refusal c =
    let p = err_from_is_err_and c.from_residual.result c.from_residual.ensures.1 in
    rw (p.1, p.2) (behind_known _ _ _ (stop _ _ _ c.in_err-check_all_known.ensures.refusal))

pub returns-in_err-check_all_open-clause-refusal : goal.returns-in_err-check_all_open-clause-refusal
returns-in_err-check_all_open-clause-refusal c =
    let p = err_from_is_err_and c.from_residual-in_err-check_all_open.result c.from_residual-in_err-check_all_open.ensures.1 in
    rw (p.1, p.2) (behind_known _ _ _ (pass _ _ c.in_ok-check_all_known.ensures.refusal ∙ stop _ _ _ c.in_err-check_all_open.ensures.refusal))

pub returns-in_err-attributes-clause-refusal : goal.returns-in_err-attributes-clause-refusal
returns-in_err-attributes-clause-refusal c =
    let p = err_from_is_err_and c.from_residual-in_err-attributes.result c.from_residual-in_err-attributes.ensures.1 in
    rw (p.1, p.2) (behind_memory _ _ (pass _ _ c.in_ok-check_all_known.ensures.refusal ∙ pass _ _ c.in_ok-check_all_open.ensures.refusal ∙ no_refusal))

pub returns-in_err-check_attributes-clause-refusal : goal.returns-in_err-check_attributes-clause-refusal
returns-in_err-check_attributes-clause-refusal c =
    let p = err_from_is_err_and c.from_residual-in_err-check_attributes.result c.from_residual-in_err-check_attributes.ensures.1 in
    rw (p.1, p.2) (behind _ _ _ (pass _ _ c.in_ok-check_all_known.ensures.refusal ∙ pass _ _ c.in_ok-check_all_open.ensures.refusal ∙ no_refusal) (cause _ _ (pass _ _ c.in_ok-check_all_known.ensures.refusal ∙ pass _ _ c.in_ok-check_all_open.ensures.refusal ∙ stop _ _ _ (c.in_err-check_attributes.ensures.refusal ∙ ap attributes_too_large (c.made_size.ensures ∙ ap made_size c.in_ok-attributes.ensures)))))

pub returns-in_err-check_one_more-clause-refusal : goal.returns-in_err-check_one_more-clause-refusal
returns-in_err-check_one_more-clause-refusal c =
    let p = err_from_is_err_and c.from_residual-in_err-check_one_more.result c.from_residual-in_err-check_one_more.ensures.1 in
    let full = full-added c.args.self.now (Joined c.args.parents.now) (common_attributes c.args.self.now c.args.parents.now) (New []) ∙ ap (λ n. no_room_for c.args.self.now n 0) (sym (c.size.ensures.size ∙ ap encoded_size c.in_ok-attributes.ensures)) in
    rw (p.1, p.2) (behind _ _ _ (pass _ _ c.in_ok-check_all_known.ensures.refusal ∙ pass _ _ c.in_ok-check_all_open.ensures.refusal ∙ no_refusal) (cause _ _ (pass _ _ c.in_ok-check_all_known.ensures.refusal ∙ pass _ _ c.in_ok-check_all_open.ensures.refusal ∙ pass _ _ (c.in_ok-check_attributes.ensures.refusal ∙ ap attributes_too_large (c.made_size.ensures ∙ ap made_size c.in_ok-attributes.ensures)) ∙ stop _ _ _ (c.in_err-check_one_more.ensures.refusal ∙ sym full))))

pub returns-in_err-numbers-clause-refusal : goal.returns-in_err-numbers-clause-refusal
returns-in_err-numbers-clause-refusal c =
    let p = err_from_is_err_and c.from_residual-in_err-numbers.result c.from_residual-in_err-numbers.ensures.1 in
    rw (p.1, p.2) (behind_memory _ _ (pass _ _ c.in_ok-check_all_known.ensures.refusal ∙ pass _ _ c.in_ok-check_all_open.ensures.refusal ∙ no_refusal))

pub returns-in_err-place-clause-refusal : goal.returns-in_err-place-clause-refusal
returns-in_err-place-clause-refusal c =
    let p = err_from_is_err_and c.from_residual-in_err-place.result c.from_residual-in_err-place.ensures.1 in
    rw (p.1, p.2) (behind_memory _ _ (pass _ _ c.in_ok-check_all_known.ensures.refusal ∙ pass _ _ c.in_ok-check_all_open.ensures.refusal ∙ no_refusal))

pub returns-clause-refusal : goal.returns-clause-refusal
returns-clause-refusal c =
    let full = full-added c.args.self.now (Joined c.args.parents.now) (common_attributes c.args.self.now c.args.parents.now) (New []) ∙ ap (λ n. no_room_for c.args.self.now n 0) (sym (c.size.ensures.size ∙ ap encoded_size c.in_ok-attributes.ensures)) in
    behind _ _ _ (pass _ _ c.in_ok-check_all_known.ensures.refusal ∙ pass _ _ c.in_ok-check_all_open.ensures.refusal ∙ no_refusal) (free _ (pass _ _ c.in_ok-check_all_known.ensures.refusal ∙ pass _ _ c.in_ok-check_all_open.ensures.refusal ∙ pass _ _ (c.in_ok-check_attributes.ensures.refusal ∙ ap attributes_too_large (c.made_size.ensures ∙ ap made_size c.in_ok-attributes.ensures)) ∙ pass _ _ (c.in_ok-check_one_more.ensures.refusal ∙ sym full) ∙ no_refusal))

pub returns-clause-after : goal.returns-clause-after
returns-clause-after c =
    c.in_ok-place.ensures.after
    ∙ ap (λ l. with_made c.args.self.now (Joined l) c.in_ok-attributes.attributes (New [])) c.in_ok-numbers.ensures
    ∙ ap (λ (m : AttributeMap). with_made c.args.self.now (Joined c.args.parents.now) m (New [])) c.in_ok-attributes.ensures
