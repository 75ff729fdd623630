-- The header of a block that stands in a file, and the head of an event in it.
use Rattle.std.proofs.Common.{◌≡◌, ℕ, ◌+◌, ◌-◌, ◌≤◌, ◌<◌, ltb, eqb, nat_le, nat_lt, Bool, true, false, cond, IsTrue, List, [], ◌∷◌, length, take, drop, Option, Some, None, refl, sym, ap, ◌∙◌, arith}
use Rattle.std.specs.Prelude.{Ok, Err, slice_index}
use Rattle.std.specs.Int.{w32, w64, from_be_bytes}
use Rattle.std.proofs.lemmas.Bool.Decides.{nat_tests}
use Rattle.std.proofs.lemmas.List.{take-take, length-drop, get_or-drop, get_or-take}
use Rattle.disk_trait.specs.Files.{Files}
use Rattle.flowfile_record.specs.Reading.{◌>>=◌, ◌then◌, whole, byte_at, uint_at, number_at, text_at, numbers_at}
use Rattle.flowfile_record.specs.declared.event.Event.{Event}
use Rattle.flowfile_record.specs.declared.event.EventKind.{EventKind}
use Rattle.flowfile_record.specs.declared.limits.TheConstants.{NUMBER_LIMIT}
use Rattle.flowfile_record.proofs.FieldLaws.{bind_ok, guard_fails, guard_holds, ok_is}
use Rattle.prov_event.specs.EventReading.{all_kinds, of_code, known, kind_at, counted_number_at, front_at, back_at, event_at}
use Rattle.prov_event.specs.declared.TheConstants.{EVENT_KIND}
use Rattle.prov_store.specs.Reading.{IsEventHead, IsThere, event_there}
use Rattle.prov_store.specs.declared.read.Cursor.{Cursor}
use Rattle.prov_store.specs.declared.read.EventHead.{EventHead}
use Rattle.prov_store.specs.declared.read.TheConstants.{HEAD_SIZE}
use Rattle.prov_store.proofs.InFile.{read_of}
use Rattle.record_codec.specs.Block.{reading_of, sized}
use Rattle.record_codec.specs.declared.block.BlockEnd.TheVariants.{TooLong, Short}
use Rattle.record_codec.specs.declared.block.TheConstants.{PAYLOAD_MAX}
use Rattle.record_codec.proofs.Blocks.{whole_of-reading}

-- the event's block is told whole by its header
pub header_of : (tells : Bool) (files : Files) (cursor : Cursor) (header : List ℕ) (have : ℕ) (event : Event) (whole : ℕ) → IsThere tells files cursor → IsTrue tells
    → have ≡ cursor.size - cursor.at → header ≡ take 5 (drop cursor.at (files cursor.file)) → event_there files cursor ≡ Ok (event, whole)
    → sized (from_be_bytes w32 (take 4 header)) have ≡ Ok whole
header_of tells files cursor header have event whole there told rest is found =
    let bytes = drop cursor.at (files cursor.file) in
    let read = read_of cursor.file cursor.at cursor.number (reading_of bytes) (event, whole) found in
    let block = whole_of-reading bytes EVENT_KIND read.payload read.block in
    let n = length read.payload in
    let size : from_be_bytes w32 (take 4 header) ≡ n = ap (λ (l : List ℕ). from_be_bytes w32 (take 4 l)) is ∙ ap (from_be_bytes w32) (take-take 4 5 bytes (omega arith)) ∙ block.size in
    let long : ltb PAYLOAD_MAX n ≡ false = grind (arith, nat_tests, block.not_long) in
    let enough : n + 37 ≤ have = omega (arith, block.fits, rest, there.size told, length-drop cursor.at (files cursor.file)) in
    let short : ltb have (n + 37) ≡ false = grind (arith, nat_tests, enough) in
    ap (λ (k : ℕ). sized k have) size ∙ rw (long, short) (ap (λ (k : ℕ). Ok k) (sym read.size))

-- and there is room for a header
pub no_header : (tells : Bool) (files : Files) (cursor : Cursor) (event : Event) (whole : ℕ) → IsThere tells files cursor → IsTrue tells
    → event_there files cursor ≡ Ok (event, whole) → 5 ≤ cursor.size - cursor.at
no_header tells files cursor event whole there told found =
    let bytes = drop cursor.at (files cursor.file) in
    let read = read_of cursor.file cursor.at cursor.number (reading_of bytes) (event, whole) found in
    let block = whole_of-reading bytes EVENT_KIND read.payload read.block in
    omega (arith, block.fits, there.size told, length-drop cursor.at (files cursor.file))

-- ---- the event's kind

first_byte : (bytes : List ℕ) (x : ℕ × List ℕ) → byte_at bytes ≡ Ok x → (0 < length bytes) × (slice_index bytes 0 ≡ x.0)
unfolding byte_at
first_byte [] x is = cc
first_byte (b ∷ rest) x is = (omega arith, ap (λ (p : ℕ × List ℕ). p.0) (ok_is (b, rest) x is))

known_kind : (found : Option EventKind) (rest : List ℕ) (left : ℕ) (x : EventKind × List ℕ) → known found rest left ≡ Ok x → found ≡ Some x.0
known_kind (Some kind) rest left x is = ap (λ (p : EventKind × List ℕ). Some p.0) (ok_is (kind, rest) x is)
known_kind None rest left x is = cc

-- a number that is read has eight bytes
number_behind : (bytes : List ℕ) (x : ℕ × List ℕ) → counted_number_at bytes ≡ Ok x → (8 ≤ length bytes) × (x.1 ≡ drop 8 bytes)
unfolding counted_number_at number_at uint_at
number_behind bytes x is =
    let counted = bind_ok (number_at bytes) (λ a. cond (nat_le 1 a.0) (Ok a) (Err (length bytes))) x is in
    let first = (guard_holds (nat_le 1 counted.0.0) (length bytes) counted.0 x counted.2).1 in
    let number = bind_ok (uint_at w64 bytes) (λ a. cond (nat_lt a.0 NUMBER_LIMIT) (Ok a) (Err (length bytes))) counted.0 counted.1 in
    let second = (guard_holds (nat_lt number.0.0 NUMBER_LIMIT) (length bytes) number.0 counted.0 number.2).1 in
    let word = guard_fails (nat_lt (length bytes) 8) (length bytes) (from_be_bytes w64 (take 8 bytes), drop 8 bytes) number.0 number.1 in
    (grind (arith, nat_tests, word.0), sym (ap (λ (p : ℕ × List ℕ). p.1) (word.1 ∙ second ∙ first)))

abbrev Parts : Type 0
Parts = (ℕ × (EventKind × (ℕ × (List ℕ × ℕ)))) × (List ℕ × (List ℕ × (List ℕ × (ℕ × List ℕ))))

abbrev of_parts : Parts → Event
of_parts e = record {
  number = e.0.0;
  kind = e.0.1.0;
  moment = e.0.1.1.0;
  component = e.0.1.1.1.0;
  file = e.0.1.1.1.1;
  parents = e.1.0;
  children = e.1.1.0;
  detail = e.1.1.1.0;
  size = e.1.1.1.1.0;
  digest = e.1.1.1.1.1;
}

-- the kind stands behind the number
kind_stands : (payload : List ℕ) (e : Event) → whole event_at payload ≡ Ok e → (9 ≤ length payload) × (of_code (slice_index payload 8) all_kinds ≡ Some e.kind)
unfolding event_at kind_at
kind_stands payload e is =
    let all = bind_ok (event_at payload) (λ x. cond (eqb (length x.1) 0) (Ok x.0) (Err (length x.1))) e is in
    let whole_is = (guard_holds (eqb (length all.0.1) 0) (length all.0.1) all.0.0 e all.2).1 in
    let made_of = bind_ok ((front_at then numbers_at then numbers_at then back_at) payload) (λ a. Ok (of_parts a.0, a.1)) all.0 all.1 in
    let front = bind_ok (front_at payload) (λ a. (numbers_at then numbers_at then back_at) a.1 >>= λ b. Ok ((a.0, b.0), b.1)) made_of.0 made_of.1 in
    let back = bind_ok ((numbers_at then numbers_at then back_at) front.0.1) (λ b. Ok ((front.0.0, b.0), b.1)) made_of.0 front.2 in
    let number = bind_ok (counted_number_at payload) (λ a. (kind_at then uint_at w64 then text_at then counted_number_at) a.1 >>= λ b. Ok ((a.0, b.0), b.1)) front.0 front.1 in
    let others = bind_ok ((kind_at then uint_at w64 then text_at then counted_number_at) number.0.1) (λ b. Ok ((number.0.0, b.0), b.1)) front.0 number.2 in
    let kind = bind_ok (kind_at number.0.1) (λ a. (uint_at w64 then text_at then counted_number_at) a.1 >>= λ b. Ok ((a.0, b.0), b.1)) others.0 others.1 in
    let rest = bind_ok ((uint_at w64 then text_at then counted_number_at) kind.0.1) (λ b. Ok ((kind.0.0, b.0), b.1)) others.0 kind.2 in
    let code = bind_ok (byte_at number.0.1) (λ code. known (of_code code.0 all_kinds) code.1 (length number.0.1)) kind.0 kind.1 in
    let eight = number_behind payload number.0 number.1 in
    let byte = first_byte number.0.1 code.0 code.1 in
    let same : kind.0.0 ≡ e.kind =
    ap (λ (p : (EventKind × (ℕ × (List ℕ × ℕ))) × List ℕ). p.0.0) (ok_is ((kind.0.0, rest.0.0), rest.0.1) others.0 rest.2)
    ∙ ap (λ (p : (ℕ × (EventKind × (ℕ × (List ℕ × ℕ)))) × List ℕ). p.0.1.0) (ok_is ((number.0.0, others.0.0), others.0.1) front.0 others.2)
    ∙ ap (λ (p : Parts × List ℕ). p.0.0.1.0) (ok_is ((front.0.0, back.0.0), back.0.1) made_of.0 back.2)
    ∙ ap (λ (p : Event × List ℕ). p.0.kind) (ok_is (of_parts made_of.0.0, made_of.0.1) all.0 made_of.2) ∙ ap (λ (x : Event). x.kind) whole_is in
    let place : slice_index payload 8 ≡ code.0.0 = sym (get_or-drop 8 payload 0 0) ∙ ap (λ (l : List ℕ). slice_index l 0) (sym eight.1) ∙ byte.1 in (
      omega (arith, eight.0, byte.0, ap length eight.1, length-drop 8 payload),
      ap (λ (n : ℕ). of_code n all_kinds) place ∙ known_kind (of_code code.0.0 all_kinds) code.0.1 (length number.0.1) kind.0 code.2 ∙ ap (λ (k : EventKind). Some k) same,
    )

-- ---- the head of a block

-- the event's kind and the block's size are told by its head
pub head_is : (tells : Bool) (files : Files) (cursor : Cursor) (bytes : List ℕ) (have : ℕ) (event : Event) (size : ℕ) → IsThere tells files cursor → IsTrue tells
    → have ≡ cursor.size - cursor.at → bytes ≡ take HEAD_SIZE (drop cursor.at (files cursor.file)) → event_there files cursor ≡ Ok (event, size)
    → IsEventHead bytes have (record { kind = event.kind; size = size })
head_is tells files cursor bytes have event size there told rest is found =
    let all = drop cursor.at (files cursor.file) in
    let read = read_of cursor.file cursor.at cursor.number (reading_of all) (event, size) found in
    let block = whole_of-reading all EVENT_KIND read.payload read.block in
    let kind = kind_stands read.payload event read.says in
    let n = length read.payload in
    let header = header_of tells files cursor (take 5 bytes) have event size there told rest (ap (take 5) is ∙ take-take 5 HEAD_SIZE all (omega arith)) found in
    let place : slice_index bytes (HEAD_SIZE - 1) ≡ slice_index read.payload 8 =
    ap (λ (l : List ℕ). slice_index l (HEAD_SIZE - 1)) is ∙ get_or-take HEAD_SIZE all (HEAD_SIZE - 1) 0 (omega arith) ∙ sym (get_or-drop 4 all 9 0)
    ∙ sym (get_or-take (n + 1) (drop 4 all) 9 0 (omega (arith, kind.0))) ∙ ap (λ (l : List ℕ). slice_index l 9) block.body in
    record {
      size = ap (λ (l : List ℕ). sized (from_be_bytes w32 l) have) (sym (take-take 4 5 bytes (omega arith))) ∙ header;
      kind = ap (λ (k : ℕ). of_code k all_kinds) place ∙ kind.1;
    }

-- and there is room for it
pub no_head : (tells : Bool) (files : Files) (cursor : Cursor) (event : Event) (size : ℕ) → IsThere tells files cursor → IsTrue tells → event_there files cursor ≡ Ok (event, size)
    → HEAD_SIZE ≤ cursor.size - cursor.at
no_head tells files cursor event size there told found =
    let all = drop cursor.at (files cursor.file) in
    let read = read_of cursor.file cursor.at cursor.number (reading_of all) (event, size) found in
    let block = whole_of-reading all EVENT_KIND read.payload read.block in
    omega (arith, block.fits, there.size told, length-drop cursor.at (files cursor.file))

pub same_head : (found : Option EventHead) (a b : EventHead) → found ≡ Some a → found ≡ Some b → a ≡ b
same_head None a b first second = cc
same_head (Some h) a b first second = cc

-- one head is told
pub one_head : (found : Option EventHead) (bytes : List ℕ) (have : ℕ) (head : EventHead) → ((h : EventHead) → found ≡ Some h → IsEventHead bytes have h)
    → (found ≡ None → (h : EventHead) → IsEventHead bytes have h → ⊥) → IsEventHead bytes have head → found ≡ Some head
one_head None bytes have head some none is = absurd (none refl head is)
one_head (Some h) bytes have head some none is =
    let other = some h refl in
    let size : h.size ≡ head.size = cc (other.size, is.size) in
    let kind : h.kind ≡ head.kind = cc (other.kind, is.kind) in
    let same : h ≡ head = λ j. record { kind = kind j; size = size j } in
    ap (λ (x : EventHead). Some x) same

pub sized_fits : (size have n : ℕ) → sized size have ≡ Ok n → n ≤ have
sized_fits size have n is = of_tests (nat_lt PAYLOAD_MAX size) (nat_lt have (size + 37)) refl is
  where
    of_tests : (long short : Bool) → nat_lt have (size + 37) ≡ short → cond long (Err (TooLong size)) (cond short (Err (Short (size + 37) have)) (Ok (size + 37))) ≡ Ok n → n ≤ have
    of_tests true short test is = cc
    of_tests false true test is = cc
    of_tests false false test is =
        let same : size + 37 ≡ n = cc is in
        let fits : size + 37 ≤ have = grind (arith, nat_tests, test) in
        omega (arith, same, fits)
