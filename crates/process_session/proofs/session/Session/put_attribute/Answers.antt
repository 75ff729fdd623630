use Rattle.std.proofs.Common.{◌≡◌, ℕ, ◌&&◌, Bool, true, false, not, ◌+◌, ◌-◌, ◌≤◌, sym, ◌∙◌, subst, arith}
use Rattle.std.specs.Prelude.{IsTrue}
use Rattle.std.specs.FinMap.{insert}
use Rattle.std.proofs.lemmas.Result.{err_from_is_err_and}
use Rattle.flowfile_record.specs.Attributes.{AttributeMap, IsWithinLimits, encoded_size, has_key_length, is_uuid}
use Rattle.flowfile_record.specs.declared.attributes.TheConstants.{ATTRIBUTES_MAX}
use Rattle.flowfile_record.specs.declared.limits.TheConstants.{SESSION_ATTRIBUTES_MAX}
use Rattle.process_session.specs.Bench.{Bench, attribute_size, bench_attributes, named_size, origin_at}
use Rattle.process_session.specs.Sound.{IsSoundBench}
use Rattle.process_session.specs.Changes.{with_attributes}
use Rattle.process_session.proofs.Refused.{named_refusal, put_refusal, room_refusal}
use Rattle.process_session.proofs.Refusing.{pass, stop, no_refusal, cause, free, memory}
use Rattle.process_session.proofs.Sound.{sound-attributes}
use Rattle.process_session.proofs.session.Session.put_attribute.Goals as goal

is_key : (fits uuid : Bool) → IsTrue fits → uuid ≡ false → IsTrue (fits && not uuid)
is_key true false is isnt = is
is_key true true is isnt = cc
is_key false uuid is isnt = is

pub invariant_of-self-2 : goal.invariant_of-self-2
invariant_of-self-2 c =
    let bench : Bench = c.args.self.now in
    let attributes : AttributeMap = insert (bench_attributes bench c.args.place) c.args.key.now c.args.value.now in
    let counted : ℕ = c.self.inside.counted - c.size_at-old.result + c.size_with-new.result in
    let sound : IsSoundBench bench c.self.inside.counted = subst (λ (b : Bench). IsSoundBench b c.self.inside.counted) c.self.view_is c.self.invariant in
    let was : c.self.inside.counted ≡ attribute_size bench = sound.summed in
    let sum : counted + encoded_size (bench_attributes bench c.args.place) ≡ c.self.inside.counted + encoded_size attributes = omega (arith, c.size_at-old.ensures.size, c.size_at-old.ensures.part, c.size_with-new.ensures.size) in
    let room : counted ≤ SESSION_ATTRIBUTES_MAX = omega (arith, c.in_ok-check_attribute_room.ensures.attributes) in
    let limits : IsWithinLimits attributes = subst (λ (b : Bench). IsWithinLimits (insert (bench_attributes b c.args.place) c.args.key.now c.args.value.now)) c.self.view_is c.in_ok-put_in_file.ensures.limits in
    let named : named_size (origin_at bench c.args.place) attributes ≤ ATTRIBUTES_MAX = omega (arith, c.size_with-new.ensures.size, c.filename_with-name.ensures.size c.args.value.now, c.in_ok-check_attributes.ensures.fits) in
    let changed : IsSoundBench (with_attributes bench c.args.place attributes) counted = sound-attributes bench c.self.inside.counted counted c.args.place attributes c.in_ok-check_known.ensures.there sum room limits named sound in
    rw c.in_ok-put_in_file.ensures.ok (subst (λ (b : Bench). IsSoundBench (with_attributes b c.args.place (insert (bench_attributes b c.args.place) c.args.key.now c.args.value.now)) counted) (sym c.self.view_is) changed)

pub put_in_file-requires-clause-key : goal.put_in_file-requires-clause-key
put_in_file-requires-clause-key c =
    let isnt : is_uuid c.args.key.now ≡ false = sym c.eq.ensures ∙ c.if-eq.false in
    is_key (has_key_length c.args.key.now) (is_uuid c.args.key.now) c.in_ok-check_key.ensures.has_length isnt

pub put_in_file-requires-clause-size : goal.put_in_file-requires-clause-size
put_in_file-requires-clause-size c =
    let most : encoded_size (insert (bench_attributes c.args.self.now c.args.place) c.args.key.now c.args.value.now) ≤ ATTRIBUTES_MAX = omega (arith, c.size_with-new.ensures.size, c.in_ok-check_attributes.ensures.fits) in
    subst (λ (b : Bench). encoded_size (insert (bench_attributes b c.args.place) c.args.key.now c.args.value.now) ≤ ATTRIBUTES_MAX) (sym c.self.view_is) most

pub returns-in_err-check_known-clause-refusal : goal.returns-in_err-check_known-clause-refusal
returns-in_err-check_known-clause-refusal c =
    let p = err_from_is_err_and c.from_residual.result c.from_residual.ensures.1 in
    rw (p.1, p.2) (cause _ _ (stop _ _ _ c.in_err-check_known.ensures.refusal))

pub returns-in_err-check_open-clause-refusal : goal.returns-in_err-check_open-clause-refusal
returns-in_err-check_open-clause-refusal c =
    let p = err_from_is_err_and c.from_residual-in_err-check_open.result c.from_residual-in_err-check_open.ensures.1 in
    rw (p.1, p.2) (cause _ _ (pass _ _ c.in_ok-check_known.ensures.refusal ∙ stop _ _ _ c.in_err-check_open.ensures.refusal))

pub returns-in_err-check_key-clause-refusal : goal.returns-in_err-check_key-clause-refusal
returns-in_err-check_key-clause-refusal c =
    let p = err_from_is_err_and c.from_residual-in_err-check_key.result c.from_residual-in_err-check_key.ensures.1 in
    rw (p.1, p.2) (cause _ _ (put_refusal c.args.self.now c.args.place c.args.key.now c.args.value.now (sym c.eq.ensures ∙ c.if-eq.false) ∙ pass _ _ c.in_ok-check_known.ensures.refusal ∙ pass _ _ c.in_ok-check_open.ensures.refusal ∙ stop _ _ _ c.in_err-check_key.ensures.refusal))

pub returns-in_err-check_attributes-clause-refusal : goal.returns-in_err-check_attributes-clause-refusal
returns-in_err-check_attributes-clause-refusal c =
    let p = err_from_is_err_and c.from_residual-in_err-check_attributes.result c.from_residual-in_err-check_attributes.ensures.1 in
    rw (p.1, p.2) (cause _ _ (put_refusal c.args.self.now c.args.place c.args.key.now c.args.value.now (sym c.eq.ensures ∙ c.if-eq.false) ∙ pass _ _ c.in_ok-check_known.ensures.refusal ∙ pass _ _ c.in_ok-check_open.ensures.refusal ∙ pass _ _ c.in_ok-check_key.ensures.refusal ∙ stop _ _ _ (c.in_err-check_attributes.ensures.refusal ∙ named_refusal c.args.self.now c.args.place (insert (bench_attributes c.args.self.now c.args.place) c.args.key.now c.args.value.now) c.size_with-new.result c.filename_with-name.result c.size_with-new.ensures.size (c.filename_with-name.ensures.size c.args.value.now))))

pub returns-in_err-check_attribute_room-clause-refusal : goal.returns-in_err-check_attribute_room-clause-refusal
returns-in_err-check_attribute_room-clause-refusal c =
    let p = err_from_is_err_and c.from_residual-in_err-check_attribute_room.result c.from_residual-in_err-check_attribute_room.ensures.1 in
    rw (p.1, p.2) (cause _ _ (put_refusal c.args.self.now c.args.place c.args.key.now c.args.value.now (sym c.eq.ensures ∙ c.if-eq.false) ∙ pass _ _ c.in_ok-check_known.ensures.refusal ∙ pass _ _ c.in_ok-check_open.ensures.refusal ∙ pass _ _ c.in_ok-check_key.ensures.refusal ∙ pass _ _ (c.in_ok-check_attributes.ensures.refusal ∙ named_refusal c.args.self.now c.args.place (insert (bench_attributes c.args.self.now c.args.place) c.args.key.now c.args.value.now) c.size_with-new.result c.filename_with-name.result c.size_with-new.ensures.size (c.filename_with-name.ensures.size c.args.value.now)) ∙ stop _ _ _ (c.in_err-check_attribute_room.ensures.refusal ∙ room_refusal c.args.self.now c.args.place (insert (bench_attributes c.args.self.now c.args.place) c.args.key.now c.args.value.now) c.size_at-old.result c.size_with-new.result c.in_ok-check_known.ensures.there c.size_at-old.ensures.size c.size_with-new.ensures.size c.size_at-old.ensures.part)))

pub returns-in_err-put_in_file-clause-refusal : goal.returns-in_err-put_in_file-clause-refusal
returns-in_err-put_in_file-clause-refusal c =
    let p = err_from_is_err_and c.from_residual-in_err-put_in_file.result c.from_residual-in_err-put_in_file.ensures.1 in
    rw (p.1, p.2) (memory _ (put_refusal c.args.self.now c.args.place c.args.key.now c.args.value.now (sym c.eq.ensures ∙ c.if-eq.false) ∙ pass _ _ c.in_ok-check_known.ensures.refusal ∙ pass _ _ c.in_ok-check_open.ensures.refusal ∙ pass _ _ c.in_ok-check_key.ensures.refusal ∙ pass _ _ (c.in_ok-check_attributes.ensures.refusal ∙ named_refusal c.args.self.now c.args.place (insert (bench_attributes c.args.self.now c.args.place) c.args.key.now c.args.value.now) c.size_with-new.result c.filename_with-name.result c.size_with-new.ensures.size (c.filename_with-name.ensures.size c.args.value.now)) ∙ pass _ _ (c.in_ok-check_attribute_room.ensures.refusal ∙ room_refusal c.args.self.now c.args.place (insert (bench_attributes c.args.self.now c.args.place) c.args.key.now c.args.value.now) c.size_at-old.result c.size_with-new.result c.in_ok-check_known.ensures.there c.size_at-old.ensures.size c.size_with-new.ensures.size c.size_at-old.ensures.part) ∙ no_refusal))

pub returns-clause-refusal : goal.returns-clause-refusal
returns-clause-refusal c = free _ (put_refusal c.args.self.now c.args.place c.args.key.now c.args.value.now (sym c.eq.ensures ∙ c.if-eq.false) ∙ pass _ _ c.in_ok-check_known.ensures.refusal ∙ pass _ _ c.in_ok-check_open.ensures.refusal ∙ pass _ _ c.in_ok-check_key.ensures.refusal ∙ pass _ _ (c.in_ok-check_attributes.ensures.refusal ∙ named_refusal c.args.self.now c.args.place (insert (bench_attributes c.args.self.now c.args.place) c.args.key.now c.args.value.now) c.size_with-new.result c.filename_with-name.result c.size_with-new.ensures.size (c.filename_with-name.ensures.size c.args.value.now)) ∙ pass _ _ (c.in_ok-check_attribute_room.ensures.refusal ∙ room_refusal c.args.self.now c.args.place (insert (bench_attributes c.args.self.now c.args.place) c.args.key.now c.args.value.now) c.size_at-old.result c.size_with-new.result c.in_ok-check_known.ensures.there c.size_at-old.ensures.size c.size_with-new.ensures.size c.size_at-old.ensures.part) ∙ no_refusal)
