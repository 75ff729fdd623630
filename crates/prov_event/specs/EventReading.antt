-- Reading an event from left to right, up to the first field that can't be read.
use Rattle.std.specs.Prelude.{ℕ, ◌==◌, ◌||◌, nat_le, Bool, is_ok, List, [], ◌∷◌, length, Option, Some, None, Result, Ok, Err, if◌then◌else◌}
use Rattle.std.specs.Int.{w64}
use Rattle.flowfile_record.specs.Events.{code_of}
use Rattle.flowfile_record.specs.Reading.{Reading, ◌>>=◌, ◌then◌, made, such, whole, byte_at, uint_at, raw_at, number_at, text_at, long_at, numbers_at, first_at}
use Rattle.flowfile_record.specs.declared.event.Event.{Event}
use Rattle.flowfile_record.specs.declared.event.EventKind.{EventKind}
use Rattle.flowfile_record.specs.declared.event.EventKind.TheVariants.{Create, Receive, Fork, Join, Clone, ContentModified, AttributesModified, Route, Send, Drop, Expire, Replay}
use Rattle.flowfile_record.specs.declared.limits.TheConstants.{DIGEST_SIZE}

-- ---- the kind

abbrev pub all_kinds : List EventKind
all_kinds =
    Create ∷ Receive ∷ Fork ∷ Join ∷ Clone ∷ ContentModified
    ∷ AttributesModified ∷ Route ∷ Send ∷ Drop ∷ Expire ∷ Replay ∷ []

-- the first of some kinds whose code this is
abbrev pub of_code : ℕ → List EventKind → Option EventKind
of_code code [] = None
of_code code (kind ∷ others) = if code_of kind == code then Some kind else of_code code others

-- a kind and the bytes behind it, or how many bytes are left from its code on
abbrev pub known : Option EventKind → List ℕ → ℕ → Result (EventKind × List ℕ) ℕ
known (Some kind) rest left = Ok (kind, rest)
known None rest left = Err left

unfoldable pub kind_at : Reading EventKind
kind_at bytes = do
  code ← byte_at bytes
  known (of_code code.0 all_kinds) code.1 (length bytes)

-- ---- the event

-- events and flow files are counted from 1
unfoldable pub counted_number_at : Reading ℕ
counted_number_at = such (λ number. nat_le 1 number) number_at

-- number, kind, moment, component and file
abbrev pub front_at : Reading (ℕ × (EventKind × (ℕ × (List ℕ × ℕ))))
front_at = counted_number_at then kind_at then uint_at w64 then text_at then counted_number_at

-- detail, size and digest
abbrev pub back_at : Reading (List ℕ × (ℕ × List ℕ))
back_at = long_at then uint_at w64 then raw_at DIGEST_SIZE

unfoldable pub event_at : Reading Event
event_at = made (λ e. record {
  number = e.0.0;
  kind = e.0.1.0;
  moment = e.0.1.1.0;
  component = e.0.1.1.1.0;
  file = e.0.1.1.1.1;
  parents = e.1.0;
  children = e.1.1.0;
  detail = e.1.1.1.0;
  size = e.1.1.1.1.0;
  digest = e.1.1.1.1.1;
})
    (front_at then numbers_at then numbers_at then back_at)

-- ---- where memory is taken: for a first parent or child, and else only for an event that all of the bytes encode

abbrev pub event_takes_memory : List ℕ → Bool
event_takes_memory bytes =
    is_ok ((front_at then first_at number_at) bytes)
    || is_ok ((front_at then numbers_at then first_at number_at) bytes)
    || is_ok (whole event_at bytes)
