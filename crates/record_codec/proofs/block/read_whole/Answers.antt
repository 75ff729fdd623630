use Rattle.std.proofs.Common.{◌≡◌, ◌≢◌, not, true, false, bytes_eq, ℕ, ◌+◌, ◌-◌, ◌<◌, ◌≤◌, List, [], ◌∷◌, length, slice_range, add-one, Fits, w8, get_or, take, drop, refl, sym, ap, ◌∙◌, arith}
use Rattle.std.specs.Int.{w32, from_be_bytes}
use Rattle.std.proofs.lemmas.List.{take_rest, drop-drop, drop_more, length-take-le, length-drop, get_or-drop}
use Rattle.std.proofs.lemmas.Slice.Eq.{bytes_eq-Decides}
use Rattle.sha2.specs.Sha256.{sha256}
use Rattle.record_codec.specs.declared.block.TheConstants.{PAYLOAD_MAX}
use Rattle.record_codec.proofs.Blocks.{IsWhole, reading_of-whole, encoded-whole, reading_of-head_cut, reading_of-long, reading_of-payload_cut, reading_of-differs}
use Rattle.record_codec.proofs.block.read_whole.Goals as goal

size_of_head : (bytes : List ℕ) → from_be_bytes w32 (get_or bytes 0 0 ∷ get_or bytes 1 0 ∷ get_or bytes 2 0 ∷ get_or bytes 3 0 ∷ []) ≡ from_be_bytes w32 (take 4 bytes)
size_of_head [] = refl
size_of_head (a ∷ []) = refl
size_of_head (a ∷ b ∷ []) = refl
size_of_head (a ∷ b ∷ c ∷ []) = refl
size_of_head (a ∷ b ∷ c ∷ d ∷ bytes) = refl

size_at : (bytes : List ℕ) (at number size : ℕ) → (let rest = take (length bytes - at) (drop at bytes) in
    number ≡ from_be_bytes w32 (get_or rest 0 0 ∷ get_or rest 1 0 ∷ get_or rest 2 0 ∷ get_or rest 3 0 ∷ []))
    → size ≡ number → from_be_bytes w32 (take 4 (drop at bytes)) ≡ size
size_at bytes at number size read is = sym (is ∙ read ∙ size_of_head (take (length bytes - at) (drop at bytes)) ∙ ap (λ l. from_be_bytes w32 (take 4 l)) (take_rest bytes at))

stored_at : (bytes : List ℕ) (at size : ℕ) (stored : List ℕ) → stored ≡ take (5 + size + 32 - (5 + size)) (drop (5 + size) (take (length bytes - at) (drop at bytes)))
    → stored ≡ take 32 (drop (size + 5) (drop at bytes))
stored_at bytes at size stored is =
    let width : 5 + size + 32 - (5 + size) ≡ 32 = omega arith in
    let place : 5 + size ≡ size + 5 = omega arith in
    rw (width, place, take_rest bytes at) at is

found_at : (bytes : List ℕ) (at size : ℕ) (found : List ℕ) → found ≡ sha256 (take (5 + size - 4) (drop 4 (take (length bytes - at) (drop at bytes))))
    → found ≡ sha256 (take (size + 1) (drop 4 (drop at bytes)))
found_at bytes at size found is =
    let width : 5 + size - 4 ≡ size + 1 = omega arith in
    rw (width, take_rest bytes at) at is

not_alike : (stored found : List ℕ) → not (bytes_eq stored found) ≡ true → stored ≢ found
not_alike stored found unlike = grind (arith, bytes_eq-Decides stored found)

alike : (stored found : List ℕ) → not (bytes_eq stored found) ≡ false → stored ≡ found
alike stored found same = grind (arith, bytes_eq-Decides stored found)

small_behind : (bytes : List ℕ) (at : ℕ) → ((i : ℕ) → Fits w8 (get_or bytes i 0)) → (i : ℕ) → get_or (drop at bytes) i 0 < 256
small_behind bytes at small i = let fits : Fits w8 (get_or bytes (at + i) 0) = small (at + i) in rw (get_or-drop at bytes i 0) (omega arith)

whole_at : (bytes : List ℕ) (at size : ℕ) → from_be_bytes w32 (take 4 (drop at bytes)) ≡ size → size ≤ PAYLOAD_MAX → size + 37 ≤ length (drop at bytes)
    → take 32 (drop (size + 5) (drop at bytes)) ≡ sha256 (take (size + 1) (drop 4 (drop at bytes)))
    → IsWhole (drop at bytes) (get_or (take (length bytes - at) (drop at bytes)) 4 0) (slice_range bytes (at + 5) (at + 5 + size))
whole_at bytes at size is small fits digest =
    let rest = drop at bytes in
    let kind = get_or (take (length bytes - at) rest) 4 0 in
    let payload = slice_range bytes (at + 5) (at + 5 + size) in
    let width : at + 5 + size - (at + 5) ≡ size = omega arith in
    let payload_is : payload ≡ take size (drop 5 rest) = rw width (ap (take size) (sym (drop-drop 5 at bytes))) in
    let long : length payload ≡ size = ap length payload_is ∙ length-take-le size (drop 5 rest) (omega (arith, length-drop 5 rest)) in
    let kind_is : kind ≡ get_or rest 4 0 = ap (λ l. get_or l 4 0) (take_rest bytes at) in
    let body : take (size + 1) (drop 4 rest) ≡ kind ∷ payload =
    ap (take (size + 1)) (drop_more rest 4 0 (omega arith)) ∙ rw add-one (cc)
    in
    record {
      size = is ∙ sym long;
      not_long = omega arith;
      fits = omega arith;
      body = rw long body;
      digest = rw long (digest ∙ ap sha256 body);
    }

pub returns-then-have-lt-HEADER_SIZE-clause-read : goal.returns-then-have-lt-HEADER_SIZE-clause-read
returns-then-have-lt-HEADER_SIZE-clause-read c =
    let rest = take_rest c.args.bytes.now c.args.at in
    let few = rw rest at c.if-have-lt-HEADER_SIZE.true in
    rw (rest, reading_of-head_cut (drop c.args.at c.args.bytes.now) few)

pub returns-then-length-gt-PAYLOAD_MAX-clause-read :
    goal.returns-then-length-gt-PAYLOAD_MAX-clause-read
returns-then-length-gt-PAYLOAD_MAX-clause-read c =
    let rest = take_rest c.args.bytes.now c.args.at in
    let size = size_at c.args.bytes.now c.args.at c.from_be_bytes.result c.from-length.result c.from_be_bytes.ensures c.from-length.ensures in
    rw (reading_of-long (drop c.args.at c.args.bytes.now) c.from-length.result (rw rest at c.if-have-lt-HEADER_SIZE.false) size c.if-length-gt-PAYLOAD_MAX.true)

pub returns-then-have-need-clause-read : goal.returns-then-have-need-clause-read
returns-then-have-need-clause-read c =
    let rest = take_rest c.args.bytes.now c.args.at in
    let size = size_at c.args.bytes.now c.args.at c.from_be_bytes.result c.from-length.result c.from_be_bytes.ensures c.from-length.ensures in
    let few = rw rest at c.if-have-need.true in
    let needed : c.block_size-need.result ≡ c.from-length.result + 37 = c.block_size-need.ensures.size in
    rw (rest, needed, reading_of-payload_cut (drop c.args.at c.args.bytes.now) c.from-length.result (rw rest at c.if-have-lt-HEADER_SIZE.false) size c.if-length-gt-PAYLOAD_MAX.false (omega arith))

pub returns-then-ne-clause-read : goal.returns-then-ne-clause-read
returns-then-ne-clause-read c =
    let bytes = drop c.args.at c.args.bytes.now in
    let rest = take_rest c.args.bytes.now c.args.at in
    let size = size_at c.args.bytes.now c.args.at c.from_be_bytes.result c.from-length.result c.from_be_bytes.ensures c.from-length.ensures in
    let stored = stored_at c.args.bytes.now c.args.at c.from-length.result c.copy_from_slice.new.self c.copy_from_slice.ensures.after in
    let found = found_at c.args.bytes.now c.args.at c.from-length.result c.digest_of-found.result c.digest_of-found.ensures in
    let fits = rw rest at c.if-have-need.false in
    let unlike = not_alike c.copy_from_slice.new.self c.digest_of-found.result (sym c.ne.ensures ∙ c.if-ne.true) in
    rw (reading_of-differs bytes c.from-length.result (rw rest at c.if-have-lt-HEADER_SIZE.false) size c.if-length-gt-PAYLOAD_MAX.false (omega arith) (rw (stored, found) at unlike)) (rw (stored, found))

pub returns : goal.returns
returns c =
    let at = c.args.at in
    let bytes = drop at c.args.bytes.now in
    let size = c.from-length.result in
    let rest = take_rest c.args.bytes.now at in
    let is = size_at c.args.bytes.now at c.from_be_bytes.result size c.from_be_bytes.ensures c.from-length.ensures in
    let stored = stored_at c.args.bytes.now at size c.copy_from_slice.new.self c.copy_from_slice.ensures.after in
    let found = found_at c.args.bytes.now at size c.digest_of-found.result c.digest_of-found.ensures in
    let fits = rw rest at c.if-have-need.false in
    let same = alike c.copy_from_slice.new.self c.digest_of-found.result (sym c.ne.ensures ∙ c.if-ne.false) in
    let whole = whole_at c.args.bytes.now at size is c.if-length-gt-PAYLOAD_MAX.false (omega arith) (sym stored ∙ same ∙ found) in
    let reading = reading_of-whole bytes (get_or (take (length c.args.bytes.now - at) bytes) 4 0) (slice_range c.args.bytes.now (at + 5) (at + 5 + size)) whole in
    let length_is : length (slice_range c.args.bytes.now (at + 5) (at + 5 + size)) ≡ size = sym whole.size ∙ is in
    let next : at + c.block_size-need.result ≡ at + 37 + size = omega (arith, c.block_size-need.ensures.size) in
    let span : at + c.block_size-need.result - at ≡ length (slice_range c.args.bytes.now (at + 5) (at + 5 + size)) + 37 = omega arith in
    record {
      read = rw (reading, length_is, next);
      whole = reading;
      encoded = rw span (encoded-whole bytes _ _ (small_behind c.args.bytes.now at c.type_inv.bytes) whole);
      within = (omega arith, omega arith, omega (arith, length-drop at c.args.bytes.now));
    }
