-- Where a whole block's parts stand in a file.
use Rattle.std.proofs.Common.{◌≡◌, ◌≢◌, ◌==◌, ◌∙◌, ℕ, suc, ◌+◌, ◌≤◌, ◌<◌, false, List, [], ◌∷◌, Result, Err, None, min, length, take, drop, get_or, refl, sym, ap, arith, is_ok}
use Rattle.std.proofs.lemmas.Bool.Decides.{nat_tests}
use Rattle.disk_trait.specs.declared.damage.Damage.{Damage}
use Rattle.disk_trait.specs.declared.damage.Damage.TheVariants.{Form}
use Rattle.disk_trait.specs.declared.file_name.FileName.{FileName}
use Rattle.flowfile_record.specs.Stored.{Kept}
use Rattle.std.specs.Prelude.{IsErrOf}
use Rattle.std.specs.Int.{w32, from_be_bytes}
use Rattle.std.proofs.lemmas.List.{drop-take, drop-drop, length-take, take-take, get_or-take, get_or-drop}
use Rattle.record_codec.specs.Block.{Reading, Whole, reading_of}
use Rattle.record_codec.proofs.Blocks.{whole_fits, whole_of-reading}
use Rattle.checkpoint_store.specs.Memory.{head_front_at}
use Rattle.checkpoint_store.specs.Reading.{Next, said, behind_block, go_on, blocks_from, first_block_kept, next_in, snapshot_of}
use Rattle.block_file.specs.declared.error.BlockError.{BlockError}
use Rattle.block_file.specs.declared.error.BlockError.TheVariants.{Damaged}
use Rattle.checkpoint_store.proofs.Untaken.{front_same, front_refused, long_is_file}

-- the kind stands behind the length
pub kind_stands : (bytes : List ℕ) (kind : ℕ) (payload : List ℕ) → reading_of bytes ≡ Whole kind payload → get_or bytes 4 0 ≡ kind
kind_stands bytes kind payload is =
    let whole = whole_of-reading bytes kind payload is in
    sym (get_or-drop 4 bytes 0 0) ∙ sym (get_or-take (length payload + 1) (drop 4 bytes) 0 0 (omega arith)) ∙ ap (λ (l : List ℕ). get_or l 0 0) whole.body

-- and the payload behind that
pub payload_stands : (bytes : List ℕ) (kind : ℕ) (payload : List ℕ) → reading_of bytes ≡ Whole kind payload → payload ≡ take (length payload) (drop 5 bytes)
payload_stands bytes kind payload is =
    let whole = whole_of-reading bytes kind payload is in
    let body : take (1 + length payload) (drop 4 bytes) ≡ kind ∷ payload = ap (λ (m : ℕ). take m (drop 4 bytes)) (omega arith) ∙ whole.body in
    sym (ap (λ (l : List ℕ). drop 1 l) body) ∙ drop-take 1 (length payload) (drop 4 bytes) ∙ ap (λ (l : List ℕ). take (length payload) l) (drop-drop 1 4 bytes)

pub size_stands : (bytes : List ℕ) (kind : ℕ) (payload : List ℕ) → reading_of bytes ≡ Whole kind payload → from_be_bytes w32 (take 4 bytes) ≡ length payload
size_stands bytes kind payload is = (whole_of-reading bytes kind payload is).size

-- what is read of a Head up to its lists
pub front_stands : (version : ℕ) (bytes : List ℕ) (kind : ℕ) (payload : List ℕ) (n : ℕ) → reading_of bytes ≡ Whole kind payload → n ≡ min (length payload) 41
    → is_ok (head_front_at version (take n (drop 5 bytes))) ≡ is_ok (head_front_at version payload)
front_stands version bytes kind payload n is count =
    let same : take n payload ≡ take n (drop 5 bytes) =
    ap (take n) (payload_stands bytes kind payload is) ∙ take-take n (length payload) (drop 5 bytes) (omega arith) in
    ap (λ (l : List ℕ). is_ok (head_front_at version l)) (sym same) ∙ front_same version payload n count

-- ---- a block that says nothing

pub no_first_block : (version : ℕ) (file : FileName) (bytes : List ℕ) (kind : ℕ) (payload : List ℕ) → reading_of bytes ≡ Whole kind payload → first_block_kept version kind payload ≡ None
    → snapshot_of version file bytes ≡ Err (Form file 0)
no_first_block version file bytes kind payload is none =
    ap (λ (r : Reading). behind_block file 0 (first_block_kept version) r (λ k size. blocks_from (suc (length bytes)) file size k (drop size bytes))) is
    ∙ ap (said file 0 (length payload + 37) (λ k size. blocks_from (suc (length bytes)) file size k (drop size bytes))) none

pub no_next_block : (file : FileName) (at most : ℕ) (k : Kept) (bytes : List ℕ) (kind : ℕ) (payload : List ℕ) → reading_of bytes ≡ Whole kind payload → next_in k kind payload ≡ None
    → blocks_from (suc most) file at k bytes ≡ Err (Form file at)
no_next_block file at most k bytes kind payload is none =
    let following : Next → ℕ → Result Kept Damage = λ next size. go_on k size (λ more n. blocks_from most file (at + n) more (drop n bytes)) next in
    ap (λ (r : Reading). behind_block file at (next_in k) r following) is ∙ ap (said file at (length payload + 37) following) none

-- a block of another kind than a Head's
pub not_a_head : (version : ℕ) (file : FileName) (bytes : List ℕ) (kind : ℕ) (payload : List ℕ) → reading_of bytes ≡ Whole kind payload → get_or bytes 4 0 ≢ 10
    → snapshot_of version file bytes ≡ Err (Form file 0)
not_a_head version file bytes kind payload is apart =
    let stands = kind_stands bytes kind payload is in
    let other : (kind == 10) ≡ false = grind (arith, nat_tests, stands, apart) in
    no_first_block version file bytes kind payload is (rw other refl)

-- and one that can't be read up to the lists of one
pub no_head_front : (version : ℕ) (file : FileName) (bytes : List ℕ) (kind : ℕ) (payload : List ℕ) (n : ℕ) → reading_of bytes ≡ Whole kind payload → n ≡ min (length payload) 41
    → is_ok (head_front_at version (take n (drop 5 bytes))) ≡ false → snapshot_of version file bytes ≡ Err (Form file 0)
no_head_front version file bytes kind payload n is count unread =
    no_first_block version file bytes kind payload is (front_refused version kind payload (sym (front_stands version bytes kind payload n is count) ∙ unread))

-- a long block of another kind than a file's
pub not_a_file : (file : FileName) (at most : ℕ) (k : Kept) (bytes : List ℕ) (kind : ℕ) (payload : List ℕ) → reading_of bytes ≡ Whole kind payload → 34 < length payload
    → get_or bytes 4 0 ≢ 11 → blocks_from (suc most) file at k bytes ≡ Err (Form file at)
not_a_file file at most k bytes kind payload is long apart =
    let stands = kind_stands bytes kind payload is in
    let other : kind ≢ 11 = λ e. apart (stands ∙ e) in
    no_next_block file at most k bytes kind payload is (long_is_file k kind payload other long)

-- four bytes that are taken one by one
pub four : (bytes : List ℕ) → 4 ≤ length bytes → (get_or bytes 0 0 ∷ get_or bytes 1 0 ∷ get_or bytes 2 0 ∷ get_or bytes 3 0 ∷ []) ≡ take 4 bytes
four [] le = absurd (omega arith)
four (a ∷ []) le = absurd (omega arith)
four (a ∷ b ∷ []) le = absurd (omega arith)
four (a ∷ b ∷ c ∷ []) le = absurd (omega arith)
four (a ∷ b ∷ c ∷ d ∷ rest) le = refl

pub length_read : (bytes header : List ℕ) (kind : ℕ) (payload : List ℕ) → reading_of bytes ≡ Whole kind payload → header ≡ take 5 bytes
    → from_be_bytes w32 (get_or header 0 0 ∷ get_or header 1 0 ∷ get_or header 2 0 ∷ get_or header 3 0 ∷ []) ≡ length payload
length_read bytes header kind payload is e =
    let long : 4 ≤ length header = omega (arith, ap length e, length-take 5 bytes, whole_fits bytes kind payload is) in
    ap (from_be_bytes w32) (four header long ∙ ap (take 4) e ∙ take-take 4 5 bytes (omega arith)) ∙ size_stands bytes kind payload is

-- a byte behind the length of a block
pub kind_read : (bytes : List ℕ) (at : ℕ) → get_or (take 1 (drop (at + 4) bytes)) 0 0 ≡ get_or (drop at bytes) 4 0
kind_read bytes at =
    let same : at + 4 + 0 ≡ at + 4 = omega arith in
    get_or-take 1 (drop (at + 4) bytes) 0 0 (omega arith) ∙ get_or-drop (at + 4) bytes 0 0 ∙ ap (λ (i : ℕ). get_or bytes i 0) same ∙ sym (get_or-drop at bytes 4 0)

-- the damage that was told
pub form_told : {T : Type 0} (error : BlockError) (told found : Damage) → error ≡ Damaged told → IsErrOf {T = T} (Err error) (Damaged found) → told ≡ found
form_told error told found e is = cc (is)
