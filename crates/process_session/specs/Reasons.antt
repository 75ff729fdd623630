-- When a session refuses, each reason by itself.
use Rattle.std.specs.Prelude.{◌≡◌, ℕ, ◌+◌, nat_lt, nat_le, Bool, false, not, List, [], ◌∷◌, length, Option, None, Some, is_some, is_none, slice_get, Result, IfSome, ◌⊎◌, if◌then◌else◌}
use Rattle.std.specs.Option.{option_map_or}
use Rattle.std.specs.Result.{result_err}
use Rattle.flowfile_record.specs.Attributes.{has_key_length}
use Rattle.flowfile_record.specs.declared.TheConstants.{CONTENT_MAX}
use Rattle.flowfile_record.specs.declared.attributes.TheConstants.{ATTRIBUTES_MAX}
use Rattle.process_session.specs.declared.error.Full.TheVariants.{Files, Attributes, Written}
use Rattle.process_session.specs.declared.error.SessionError.{SessionError}
use Rattle.process_session.specs.declared.error.SessionError.TheVariants.{UnknownFile, AlreadyEnded, NoRelationship, MadeHere, NoBytes, RangeOutside, ContentTooLarge, BadKey, AttributesTooLarge, AlreadySent, SessionFull, NotAccounted, Memory}
use Rattle.process_session.specs.declared.file.File.{File}
use Rattle.flowfile_record.specs.declared.limits.TheConstants.{FILES_MAX, SESSION_ATTRIBUTES_MAX, WRITTEN_MAX}
use Rattle.process_session.specs.Bench.{Bench, is_made_at, bench_bytes, content_size, attribute_size}

-- a reason to refuse, where it holds
abbrev pub Refusal : Type 0
Refusal = Option SessionError

-- the first of these reasons that holds
unfoldable pub first_refusal : List Refusal → Refusal
first_refusal [] = None
first_refusal (None ∷ refusals) = first_refusal refusals
first_refusal (Some refusal ∷ refusals) = Some refusal

-- An answer's error is the reason to refuse, where there is one; where there is none, memory alone may have run out.
abbrev pub IsErrorFor : Option SessionError → Refusal → Type 0
IsErrorFor error (Some reason) = error ≡ Some reason
IsErrorFor error None = IfSome error (λ e. e ≡ Memory)

abbrev pub IsRefusal : {A : Type 0} → Result A SessionError → Refusal → Type 0
IsRefusal result refusal = IsErrorFor (result_err result) refusal

-- the same of a call that takes memory before it knows all reasons: those that it knows before come first
abbrev pub IsRefusalBehind : {A : Type 0} → Refusal → Result A SessionError → Refusal → Type 0
IsRefusalBehind (Some reason) result refusal = result_err result ≡ Some reason
IsRefusalBehind None result refusal = IsRefusal result refusal ⊎ (result_err result ≡ Some Memory)

abbrev pub where_it_holds : Bool → SessionError → Refusal
where_it_holds holds error = if holds then Some error else None

-- there is no such place
unfoldable pub unknown_file : Bench → ℕ → Refusal
unknown_file bench place = where_it_holds (nat_le (length bench.files) place) UnknownFile

abbrev pub has_ended : Bench → ℕ → Bool
has_ended bench place = option_map_or (λ file. is_some file.«end») (slice_get bench.files place) false

unfoldable pub already_ended : Bench → ℕ → Refusal
already_ended bench place = where_it_holds (has_ended bench place) AlreadyEnded

unfoldable pub no_relationship : Bench → ℕ → Refusal
no_relationship bench relationship = where_it_holds (nat_le bench.relationships relationship) NoRelationship

unfoldable pub made_here : Bench → ℕ → Refusal
made_here bench place = where_it_holds (is_made_at bench place) MadeHere

unfoldable pub no_bytes : Bench → ℕ → Refusal
no_bytes bench place = where_it_holds (is_none (bench_bytes bench place)) NoBytes

unfoldable pub range_outside : Bench → ℕ → ℕ → ℕ → Refusal
range_outside bench of offset size =
    let whole = content_size bench of in
    where_it_holds (nat_lt whole (offset + size)) (RangeOutside (offset + size) whole)

unfoldable pub content_too_large : ℕ → Refusal
content_too_large size = where_it_holds (nat_lt CONTENT_MAX size) (ContentTooLarge size)

unfoldable pub bad_key : List ℕ → Refusal
bad_key key = where_it_holds (not (has_key_length key)) BadKey

unfoldable pub attributes_too_large : ℕ → Refusal
attributes_too_large size = where_it_holds (nat_lt ATTRIBUTES_MAX size) (AttributesTooLarge size)

unfoldable pub already_sent : Bench → Refusal
already_sent bench = where_it_holds (is_some bench.sent) AlreadySent

-- the first limit that so many files, bytes of attributes and handed bytes are past
unfoldable pub past_limits : ℕ → ℕ → ℕ → Refusal
past_limits files attributes handed =
    if nat_lt FILES_MAX files then Some (SessionFull Files FILES_MAX)
    else if nat_lt SESSION_ATTRIBUTES_MAX attributes then Some (SessionFull Attributes SESSION_ATTRIBUTES_MAX)
    else if nat_lt WRITTEN_MAX handed then Some (SessionFull Written WRITTEN_MAX)
    else None

-- a session may not come to this
abbrev pub session_full : Bench → Refusal
session_full bench = past_limits (length bench.files) (attribute_size bench) bench.handed

-- nor to one more file, with attributes of such a size and so many more handed bytes
abbrev pub no_room_for : Bench → ℕ → ℕ → Refusal
no_room_for bench size handed =
    past_limits (length bench.files + 1) (attribute_size bench + size) (bench.handed + handed)

-- the lowest place of a file that hasn't ended, among these that begin at a place
unfoldable pub not_accounted_from : ℕ → List File → Refusal
not_accounted_from place [] = None
not_accounted_from place (file ∷ files) =
    if is_none file.«end» then Some (NotAccounted place) else not_accounted_from (place + 1) files

abbrev pub not_accounted : Bench → Refusal
not_accounted bench = not_accounted_from 0 bench.files
