use Rattle.std.proofs.Common.{◌≡◌, ◌≤◌, length, refl, sym, ◌∙◌, ap, arith}
use Rattle.std.specs.FinMap.{empty}
use Rattle.std.proofs.lemmas.Result.{err_from_is_err_and}
use Rattle.flowfile_record.specs.Attributes.{AttributeMap, encoded_size}
use Rattle.flowfile_record.specs.declared.TheConstants.{CONTENT_MAX}
use Rattle.flowfile_record.specs.declared.worked.Body.TheVariants.{New}
use Rattle.flowfile_record.specs.declared.worked.Origin.TheVariants.{Received}
use Rattle.process_session.specs.Changes.{with_handed, with_made}
use Rattle.process_session.specs.Reasons.{content_too_large, no_room_for}
use Rattle.process_session.proofs.Refusing.{pass, stop, no_refusal, cause, free, memory}
use Rattle.process_session.proofs.Sound.{full-made, may_begin}
use Rattle.process_session.proofs.session.Session.receive.Goals as goal

pub add_handed-requires : goal.add_handed-requires
add_handed-requires c =
    let fits : length c.from.result ≤ CONTENT_MAX = omega (arith, ap length c.from.ensures, c.in_ok-check_content.ensures.fits) in
    may_begin c.args.self.now Received c.new-attributes.result (New c.from.result) c.size.result c.len-size.result refl refl tt fits c.new-attributes.ensures c.size.ensures.size c.in_ok-check_one_more.ensures.files c.in_ok-check_one_more.ensures.attributes c.in_ok-check_one_more.ensures.handed

pub returns-in_err-check_content-clause-refusal : goal.returns-in_err-check_content-clause-refusal
returns-in_err-check_content-clause-refusal c =
    let p = err_from_is_err_and c.from_residual.result c.from_residual.ensures.1 in
    let size : c.len-size.result ≡ length c.args.bytes.items = omega arith in
    rw (p.1, p.2) (cause _ _ (stop _ _ _ (c.in_err-check_content.ensures.refusal ∙ ap content_too_large size)))

pub returns-in_err-check_one_more-clause-refusal : goal.returns-in_err-check_one_more-clause-refusal
returns-in_err-check_one_more-clause-refusal c =
    let p = err_from_is_err_and c.from_residual-in_err-check_one_more.result c.from_residual-in_err-check_one_more.ensures.1 in
    let size : c.len-size.result ≡ length c.args.bytes.items = omega arith in
    let full = full-made c.args.self.now (length c.args.bytes.items) Received empty (New c.args.bytes.items) ∙ ap (λ n. no_room_for c.args.self.now n (length c.args.bytes.items)) (sym (c.size.ensures.size ∙ ap encoded_size c.new-attributes.ensures)) ∙ ap (no_room_for c.args.self.now c.size.result) (sym size) in
    rw (p.1, p.2) (cause _ _ (pass _ _ (c.in_ok-check_content.ensures.refusal ∙ ap content_too_large size) ∙ stop _ _ _ (c.in_err-check_one_more.ensures.refusal ∙ sym full)))

pub returns-in_err-place-clause-refusal : goal.returns-in_err-place-clause-refusal
returns-in_err-place-clause-refusal c =
    let p = err_from_is_err_and c.from_residual-in_err-place.result c.from_residual-in_err-place.ensures.1 in
    let size : c.len-size.result ≡ length c.args.bytes.items = omega arith in
    let full = full-made c.args.self.now (length c.args.bytes.items) Received empty (New c.args.bytes.items) ∙ ap (λ n. no_room_for c.args.self.now n (length c.args.bytes.items)) (sym (c.size.ensures.size ∙ ap encoded_size c.new-attributes.ensures)) ∙ ap (no_room_for c.args.self.now c.size.result) (sym size) in
    rw (p.1, p.2) (memory _ (pass _ _ (c.in_ok-check_content.ensures.refusal ∙ ap content_too_large size) ∙ pass _ _ (c.in_ok-check_one_more.ensures.refusal ∙ sym full) ∙ no_refusal))

pub returns-clause-refusal : goal.returns-clause-refusal
returns-clause-refusal c =
    let size : c.len-size.result ≡ length c.args.bytes.items = omega arith in
    let full = full-made c.args.self.now (length c.args.bytes.items) Received empty (New c.args.bytes.items) ∙ ap (λ n. no_room_for c.args.self.now n (length c.args.bytes.items)) (sym (c.size.ensures.size ∙ ap encoded_size c.new-attributes.ensures)) ∙ ap (no_room_for c.args.self.now c.size.result) (sym size) in
    free _ (pass _ _ (c.in_ok-check_content.ensures.refusal ∙ ap content_too_large size) ∙ pass _ _ (c.in_ok-check_one_more.ensures.refusal ∙ sym full) ∙ no_refusal)

pub returns-clause-after : goal.returns-clause-after
returns-clause-after c =
    let size : c.len-size.result ≡ length c.args.bytes.items = omega arith in
    c.in_ok-place.ensures.after
    ∙ ap (λ n. with_handed (with_made c.args.self.now Received c.new-attributes.result (New c.from.result)) n) size
    ∙ ap (λ (m : AttributeMap). with_handed (with_made c.args.self.now Received m (New c.from.result)) (length c.args.bytes.items)) c.new-attributes.ensures
    ∙ ap (λ b. with_handed (with_made c.args.self.now Received empty (New b)) (length c.args.bytes.items)) c.from.ensures
