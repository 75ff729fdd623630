-- The reasons to refuse, as the code tests them.
use Rattle.std.proofs.Common.{◌≡◌, ℕ, ◌+◌, ◌-◌, ◌<◌, ◌≤◌, false, cond, List, [], ◌∷◌, length, sym, ◌∙◌, ap, arith}
use Rattle.std.specs.FinMap.{insert}
use Rattle.flowfile_record.specs.Attributes.{AttributeMap, encoded_size, is_uuid}
use Rattle.flowfile_record.specs.Outcome.{filename_to_come}
use Rattle.flowfile_record.specs.declared.worked.Body.TheVariants.{New}
use Rattle.flowfile_record.specs.declared.worked.Origin.TheVariants.{Forked, Cloned}
use Rattle.process_session.specs.Bench.{Bench, attribute_size, bench_attributes, body_at, made_size, named_size, origin_at}
use Rattle.process_session.specs.Changes.{with_attributes}
use Rattle.process_session.specs.Refusals.{refusal_of_write, refusal_of_put, refusal_of_create_from, refusal_of_clone, refusal_of_clone_range}
use Rattle.process_session.specs.Reasons.{first_refusal, unknown_file, already_ended, content_too_large, bad_key, attributes_too_large, no_room_for, past_limits, range_outside, session_full}
use Rattle.process_session.proofs.Sound.{full-added, full-attributes, full-content, full-range}

pub write_refusal : (bench : Bench) (place : ℕ) (bytes : List ℕ) (size : ℕ) → size ≡ length bytes
    → refusal_of_write bench place bytes ≡ first_refusal (unknown_file bench place ∷ already_ended bench place ∷ content_too_large size ∷ past_limits (length bench.files) (attribute_size bench) (bench.handed + size) ∷ [])
write_refusal bench place bytes size is =
    ap (λ full. first_refusal (unknown_file bench place ∷ already_ended bench place ∷ content_too_large (length bytes) ∷ full ∷ [])) (full-content bench place bytes (length bytes))
    ∙ ap (λ n. first_refusal (unknown_file bench place ∷ already_ended bench place ∷ content_too_large n ∷ past_limits (length bench.files) (attribute_size bench) (bench.handed + n) ∷ [])) (sym is)

-- room for other attributes, by what they count before and then
pub room_refusal : (bench : Bench) (place : ℕ) (attributes : AttributeMap) (old new : ℕ) → place < length bench.files → old ≡ encoded_size (bench_attributes bench place) → new ≡ encoded_size attributes
    → old ≤ attribute_size bench → past_limits (length bench.files) (attribute_size bench - old + new) bench.handed ≡ session_full (with_attributes bench place attributes)
room_refusal bench place attributes old new within was is part =
    let most : encoded_size (bench_attributes bench place) ≤ attribute_size bench = omega arith in
    let same : attribute_size bench - old + new ≡ attribute_size bench - encoded_size (bench_attributes bench place) + encoded_size attributes = omega arith in
    ap (λ n. past_limits (length bench.files) n bench.handed) same ∙ sym (full-attributes bench place attributes within most)

-- where the key isn't `uuid`
pub put_refusal : (bench : Bench) (place : ℕ) (key value : List ℕ) → is_uuid key ≡ false
    → refusal_of_put bench place key value ≡ first_refusal (unknown_file bench place ∷ already_ended bench place ∷ bad_key key ∷ attributes_too_large (named_size (origin_at bench place) (insert (bench_attributes bench place) key value)) ∷ session_full (with_attributes bench place (insert (bench_attributes bench place) key value)) ∷ [])
put_refusal bench place key value isnt =
    let attributes = insert (bench_attributes bench place) key value in
    ap (λ b. first_refusal (unknown_file bench place ∷ already_ended bench place ∷ cond b [] (bad_key key ∷ attributes_too_large (named_size (origin_at bench place) attributes) ∷ session_full (cond b bench (with_attributes bench place attributes)) ∷ []))) isnt

-- the size with a `filename` to come is the sum of both
pub named_refusal : (bench : Bench) (place : ℕ) (attributes : AttributeMap) (size name : ℕ) → size ≡ encoded_size attributes → name ≡ filename_to_come (origin_at bench place) attributes → attributes_too_large (size + name) ≡ attributes_too_large (named_size (origin_at bench place) attributes)
named_refusal bench place attributes size name is named =
    let sum : size + name ≡ named_size (origin_at bench place) attributes = ap (λ n. n + name) is ∙ ap (λ n. encoded_size attributes + n) named in
    ap attributes_too_large sum

-- a file from another, by room for the other's attributes
pub child_refusal : (bench : Bench) (parent : ℕ) → refusal_of_create_from bench parent ≡ first_refusal (unknown_file bench parent ∷ already_ended bench parent ∷ attributes_too_large (made_size (bench_attributes bench parent)) ∷ no_room_for bench (encoded_size (bench_attributes bench parent)) 0 ∷ [])
child_refusal bench parent = ap (λ full. first_refusal (unknown_file bench parent ∷ already_ended bench parent ∷ attributes_too_large (made_size (bench_attributes bench parent)) ∷ full ∷ [])) (full-added bench (Forked parent) (bench_attributes bench parent) (New []))

pub clone_refusal : (bench : Bench) (of : ℕ) → refusal_of_clone bench of ≡ first_refusal (unknown_file bench of ∷ already_ended bench of ∷ attributes_too_large (made_size (bench_attributes bench of)) ∷ no_room_for bench (encoded_size (bench_attributes bench of)) 0 ∷ [])
clone_refusal bench of = ap (λ full. first_refusal (unknown_file bench of ∷ already_ended bench of ∷ attributes_too_large (made_size (bench_attributes bench of)) ∷ full ∷ [])) (full-added bench (Cloned of) (bench_attributes bench of) (body_at bench of))

pub range_refusal : (bench : Bench) (of offset size : ℕ) → refusal_of_clone_range bench of offset size ≡ first_refusal (unknown_file bench of ∷ already_ended bench of ∷ range_outside bench of offset size ∷ attributes_too_large (made_size (bench_attributes bench of)) ∷ no_room_for bench (encoded_size (bench_attributes bench of)) 0 ∷ [])
range_refusal bench of offset size = ap (λ full. first_refusal (unknown_file bench of ∷ already_ended bench of ∷ range_outside bench of offset size ∷ attributes_too_large (made_size (bench_attributes bench of)) ∷ full ∷ [])) (full-range bench of offset size)
