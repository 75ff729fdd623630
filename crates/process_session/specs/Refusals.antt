-- Which reasons each call of a session has to refuse, in the order in which they are tested.
use Rattle.std.specs.Prelude.{ℕ, ◌+◌, List, [], ◌∷◌, length, None, if◌then◌else◌}
use Rattle.std.specs.FinMap.{insert, remove}
use Rattle.flowfile_record.specs.Attributes.{is_uuid}
use Rattle.process_session.specs.Bench.{Bench, bench_attributes, content_size, made_size, named_size, origin_at}
use Rattle.process_session.specs.Changes.{with_put, with_written, with_appended, with_created, with_received, with_child, with_joined, with_clone, with_range, common_attributes}
use Rattle.process_session.specs.Reasons.{Refusal, first_refusal, unknown_file, already_ended, no_relationship, made_here, no_bytes, range_outside, content_too_large, bad_key, attributes_too_large, already_sent, session_full, not_accounted}

abbrev pub refusal_of_content : Bench → ℕ → Refusal
refusal_of_content bench place = first_refusal (unknown_file bench place ∷ no_bytes bench place ∷ [])

abbrev pub refusal_of_penalize : Bench → ℕ → Refusal
refusal_of_penalize bench place = first_refusal (unknown_file bench place ∷ already_ended bench place ∷ [])

abbrev pub refusal_of_remove : Bench → ℕ → Refusal
refusal_of_remove bench place = first_refusal (unknown_file bench place ∷ already_ended bench place ∷ [])

abbrev pub refusal_of_transfer : Bench → ℕ → ℕ → Refusal
refusal_of_transfer bench place relationship =
    first_refusal (unknown_file bench place ∷ already_ended bench place ∷ no_relationship bench relationship ∷ [])

abbrev pub refusal_of_route : Bench → ℕ → ℕ → Refusal
refusal_of_route bench place relationship =
    first_refusal (unknown_file bench place ∷ already_ended bench place ∷ no_relationship bench relationship ∷ [])

abbrev pub refusal_of_transfer_back : Bench → ℕ → Refusal
refusal_of_transfer_back bench place =
    first_refusal (unknown_file bench place ∷ already_ended bench place ∷ made_here bench place ∷ [])

abbrev pub refusal_of_send : Bench → ℕ → Refusal
refusal_of_send bench place =
    first_refusal (unknown_file bench place ∷ already_ended bench place ∷ already_sent bench ∷ [])

abbrev pub refusal_of_put : Bench → ℕ → List ℕ → List ℕ → Refusal
refusal_of_put bench place key value =
    let attributes = insert (bench_attributes bench place) key value in
    let of_key = if is_uuid key then [] else bad_key key ∷
    attributes_too_large (named_size (origin_at bench place) attributes) ∷
    session_full (with_put bench place key value) ∷ [] in
    first_refusal (unknown_file bench place ∷ already_ended bench place ∷ of_key)

abbrev pub refusal_of_remove_attribute : Bench → ℕ → List ℕ → Refusal
refusal_of_remove_attribute bench place key =
    let attributes = remove (bench_attributes bench place) key in
    first_refusal (unknown_file bench place ∷ already_ended bench place ∷
    attributes_too_large (named_size (origin_at bench place) attributes) ∷ [])

abbrev pub refusal_of_write : Bench → ℕ → List ℕ → Refusal
refusal_of_write bench place bytes =
    first_refusal (unknown_file bench place ∷ already_ended bench place ∷ content_too_large (length bytes) ∷
    session_full (with_written bench place bytes) ∷ [])

abbrev pub refusal_of_append : Bench → ℕ → List ℕ → Refusal
refusal_of_append bench place bytes =
    first_refusal (unknown_file bench place ∷ already_ended bench place ∷ no_bytes bench place ∷
    content_too_large (content_size bench place + length bytes) ∷
    session_full (with_appended bench place bytes) ∷ [])

abbrev pub refusal_of_create : Bench → Refusal
refusal_of_create bench = first_refusal (session_full (with_created bench) ∷ [])

abbrev pub refusal_of_receive : Bench → List ℕ → Refusal
refusal_of_receive bench bytes =
    first_refusal (content_too_large (length bytes) ∷ session_full (with_received bench bytes) ∷ [])

abbrev pub refusal_of_create_from : Bench → ℕ → Refusal
refusal_of_create_from bench parent =
    first_refusal (unknown_file bench parent ∷ already_ended bench parent ∷
    attributes_too_large (made_size (bench_attributes bench parent)) ∷ session_full (with_child bench parent) ∷ [])

-- the first of several files that is unknown, and the first that has ended
abbrev pub unknown_files : Bench → List ℕ → Refusal
unknown_files bench [] = None
unknown_files bench (place ∷ places) = first_refusal (unknown_file bench place ∷ unknown_files bench places ∷ [])

abbrev pub ended_refusal : Bench → List ℕ → Refusal
ended_refusal bench [] = None
ended_refusal bench (place ∷ places) = first_refusal (already_ended bench place ∷ ended_refusal bench places ∷ [])

-- what is known of its parents before their common attributes are copied
abbrev pub refusal_of_parents : Bench → List ℕ → Refusal
refusal_of_parents bench parents = first_refusal (unknown_files bench parents ∷ ended_refusal bench parents ∷ [])

abbrev pub refusal_of_create_joined : Bench → List ℕ → Refusal
refusal_of_create_joined bench parents =
    first_refusal (unknown_files bench parents ∷ ended_refusal bench parents ∷
    attributes_too_large (made_size (common_attributes bench parents)) ∷
    session_full (with_joined bench parents) ∷ [])

abbrev pub refusal_of_clone : Bench → ℕ → Refusal
refusal_of_clone bench of =
    first_refusal (unknown_file bench of ∷ already_ended bench of ∷
    attributes_too_large (made_size (bench_attributes bench of)) ∷ session_full (with_clone bench of) ∷ [])

abbrev pub refusal_of_clone_range : Bench → ℕ → ℕ → ℕ → Refusal
refusal_of_clone_range bench of offset size =
    first_refusal (unknown_file bench of ∷ already_ended bench of ∷ range_outside bench of offset size ∷
    attributes_too_large (made_size (bench_attributes bench of)) ∷
    session_full (with_range bench of offset size) ∷ [])

abbrev pub refusal_of_finish : Bench → Refusal
refusal_of_finish bench = first_refusal (not_accounted bench ∷ [])
