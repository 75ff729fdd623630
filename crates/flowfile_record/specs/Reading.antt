-- Reading fields from left to right, up to the first one that can't be read.
use Rattle.std.specs.Prelude.{◌≡◌, ℕ, zero, suc, ◌-◌, ◌&&◌, Bool, List, [], ◌∷◌, length, take, drop, Result, Ok, Err, nat_lt, nat_le, ◌==◌, if◌then◌else◌}
use Rattle.std.specs.Int.{Width, w16, w32, w64, byte_len, from_be_bytes}
use Rattle.std.specs.Str.{is_utf8}
use Rattle.flowfile_record.specs.declared.error.CodecError.{CodecError}
use Rattle.flowfile_record.specs.declared.error.CodecError.TheVariants as codec
use Rattle.flowfile_record.specs.declared.limits.TheConstants.{NUMBER_LIMIT}
use Rattle.flowfile_record.specs.declared.fields.fault.Unread.{Unread}
use Rattle.flowfile_record.specs.declared.fields.fault.FieldError.{FieldError}
use Rattle.flowfile_record.specs.declared.fields.fault.FieldError.TheVariants as fields

-- a value and the bytes behind it, or how many bytes are left from the field on that can't be read
abbrev pub Reading : Type 0 → Type 0
Reading A = List ℕ → Result (A × List ℕ) ℕ

infixl 10 ◌>>=◌
abbrev pub ◌>>=◌ : {A B : Type 0} → Result A ℕ → (A → Result B ℕ) → Result B ℕ
(Ok x) >>= f = f x
(Err left) >>= f = Err left

-- ---- what a function answered

-- It is what reading gives, seen by view.
abbrev pub Reads : {X Y : Type 0} → (X → Y) → Result X Unread → Result Y ℕ → Type 0
Reads view (Ok x) read = read ≡ Ok (view x)
Reads view (Err e) read = read ≡ Err e.left

-- It is what reading gives, seen by view, unless memory ran out.
abbrev pub Fails : {Y : Type 0} → FieldError → Result Y ℕ → Type 0
Fails fields.Memory read = Unit {0}
Fails (fields.Form left) read = read ≡ Err left

abbrev pub Gives : {X Y : Type 0} → (X → Y) → Result X FieldError → Result Y ℕ → Type 0
Gives view (Ok x) read = read ≡ Ok (view x)
Gives view (Err e) read = Fails e read

-- what can't be read, as a place from the start of so many bytes
abbrev pub placed : ℕ → FieldError → CodecError
placed size fields.Memory = codec.Memory
placed size (fields.Form left) = codec.Form (size - left)

-- what reading so many bytes gives, as an answer to who asked for it
abbrev pub answer : {A : Type 0} → ℕ → Result A ℕ → Result A CodecError
answer size (Ok x) = Ok x
answer size (Err left) = Err (codec.Form (size - left))

-- It is this answer, unless memory ran out.
abbrev pub Answers : {A : Type 0} → Result A CodecError → Result A CodecError → Type 0
Answers (Err codec.Memory) wanted = Unit {0}
Answers result wanted = result ≡ wanted

-- ---- parts of a reading

-- two fields, one behind the other
infixr 8 ◌then◌
abbrev pub ◌then◌ : {A B : Type 0} → Reading A → Reading B → Reading (A × B)
(first then second) bytes = do
  a ← first bytes
  b ← second a.1
  Ok ((a.0, b.0), b.1)

-- a value made of the fields
abbrev pub made : {A B : Type 0} → (A → B) → Reading A → Reading B
made make read bytes = do
  a ← read bytes
  Ok (make a.0, a.1)

-- a field whose value passes a test
abbrev pub such : {A : Type 0} → (A → Bool) → Reading A → Reading A
such test read bytes = do
  a ← read bytes
  if test a.0 then Ok a else Err (length bytes)

-- so many values, one behind the other
unfoldable pub items_at : {A : Type 0} → Reading A → ℕ → Reading (List A)
items_at item zero bytes = Ok ([], bytes)
items_at item (suc n) bytes = do
  first ← item bytes
  others ← items_at item n first.1
  Ok (first.0 ∷ others.0, others.1)

-- all of the bytes
abbrev pub whole : {A : Type 0} → Reading A → List ℕ → Result A ℕ
whole read bytes = do
  a ← read bytes
  if length a.1 == 0 then Ok a.0 else Err (length a.1)

-- ---- the plain fields

unfoldable pub byte_at : Reading ℕ
byte_at [] = Err 0
byte_at (b ∷ rest) = Ok (b, rest)

-- so many bytes
unfoldable pub raw_at : ℕ → Reading (List ℕ)
raw_at size bytes = if nat_lt (length bytes) size then Err (length bytes) else Ok (take size bytes, drop size bytes)

unfoldable pub uint_at : Width → Reading ℕ
uint_at w bytes = if nat_lt (length bytes) (byte_len w)
    then Err (length bytes) else Ok (from_be_bytes w (take (byte_len w) bytes), drop (byte_len w) bytes)

-- a number of a file, an arrival, an event, a batch or a log, a counter of these, or a count
unfoldable pub number_at : Reading ℕ
number_at = such (λ n. nat_lt n NUMBER_LIMIT) (uint_at w64)

-- so many bytes of UTF-8, of a field that begins where so many are left
unfoldable pub chars_at : ℕ → ℕ → Reading (List ℕ)
chars_at left size bytes =
    if nat_le size (length bytes) && is_utf8 (take size bytes) then Ok (take size bytes, drop size bytes) else Err left

-- UTF-8 behind its length; what can't be read is the whole field
unfoldable pub utf8_at : Width → Reading (List ℕ)
utf8_at w bytes = do
  size ← uint_at w bytes
  chars_at (length bytes) size.0 size.1

abbrev pub text_at : Reading (List ℕ)
text_at = utf8_at w16

abbrev pub long_at : Reading (List ℕ)
long_at = utf8_at w32

-- a list, whose count is a field and whose items are fields
unfoldable pub listed_at : {A : Type 0} → Reading A → Reading (List A)
listed_at item bytes = do
  count ← uint_at w32 bytes
  items_at item count.0 count.1

-- the first item of a list
abbrev pub first_at : {A : Type 0} → Reading A → Reading A
first_at item bytes = do
  count ← uint_at w32 bytes
  if count.0 == 0 then Err (length count.1) else item count.1

abbrev pub numbers_at : Reading (List ℕ)
numbers_at = listed_at number_at
