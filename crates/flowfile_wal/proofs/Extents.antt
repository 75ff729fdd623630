-- Where the blocks of a log and its last gate stand.
use Rattle.std.proofs.Common.{◌≡◌, ℕ, zero, suc, ◌+◌, ◌<◌, ◌≤◌, ◌==◌, ◌&&◌, ltb, cond, Bool, true, false, List, [], ◌∷◌, ◌++◌, length, refl, sym, ap, arith}
use Rattle.std.specs.Prelude.{Option, None, Some, Result, Ok, Err}
use Rattle.std.specs.List.{list_all}
use Rattle.record_codec.specs.Block.{Reading, Whole, Cut, Long, Differs, reading_of}
use Rattle.record_codec.specs.BlockEntries.{entries_in}
use Rattle.record_codec.specs.LogEntries.{Cause, LogRead, LogDamage, ended, after, told, entries_found, belongs, of_version, entries_at, gated, behind_gate, log_from}
use Rattle.record_codec.specs.declared.block.TheConstants.{BLOCK_OVERHEAD}
use Rattle.record_codec.specs.declared.entry.LogEntry.{LogEntry}
use Rattle.record_codec.specs.declared.log.TheConstants.{OPEN_GATE}
use Rattle.record_codec.proofs.Blocks.{whole_fits}

-- ---- the block of entries that are found

told_size : (size : ℕ) (entries : Option (List LogEntry)) (found : List LogEntry × ℕ) → told size entries ≡ Ok found → found.1 ≡ size
told_size size (Some entries) found e =
    let same : (entries, size) ≡ found = cc in sym (ap (λ (x : List LogEntry × ℕ). x.1) same)
told_size size None found e = absurd cc

pub found_size : (kind : ℕ) (payload : List ℕ) (found : List LogEntry × ℕ) → entries_found (Whole kind payload) ≡ Ok found → found.1 ≡ length payload + BLOCK_OVERHEAD
found_size kind payload found e = told_size (length payload + BLOCK_OVERHEAD) (entries_in kind payload) found e

block_extent : (rest : List ℕ) (reading : Reading) (found : List LogEntry × ℕ) → reading_of rest ≡ reading → entries_found reading ≡ Ok found → (0 < found.1) × (found.1 ≤ length rest)
block_extent rest (Whole kind payload) found is e =
    let size = found_size kind payload found e in (omega (arith, size), omega (arith, size, whole_fits rest kind payload is))
block_extent rest (Cut need have) found is e = absurd cc
block_extent rest (Long size) found is e = absurd cc
block_extent rest (Differs stored sum) found is e = absurd cc

-- the block of entries has bytes, and stands within the bytes that it is read of
pub found_some : (rest : List ℕ) (found : List LogEntry × ℕ) → entries_found (reading_of rest) ≡ Ok found → 0 < found.1
found_some rest found e = (block_extent rest (reading_of rest) found refl e).0

pub found_fits : (rest : List ℕ) (found : List LogEntry × ℕ) → entries_found (reading_of rest) ≡ Ok found → found.1 ≤ length rest
found_fits rest found e = (block_extent rest (reading_of rest) found refl e).1

-- ---- the last gate stands behind the bytes that were passed over, and within the log or at its end

abbrev Found : Type 0
Found = Result (List LogEntry × ℕ) Cause

abbrev ok : LogRead → Result LogRead LogDamage
ok read = Ok read

Extent : (passed at : ℕ) (bytes : List ℕ) (read : LogRead) → Type 0
Extent passed at bytes read = (at + passed ≤ read.end) × (read.end ≤ at + length bytes)

Later : (version at : ℕ) (rest : List ℕ) → Type 0
Later version at rest = (size : ℕ) (r : LogRead) → size ≤ length rest → log_from version size (at + 1) rest ≡ ok r → Extent size (at + 1) rest r

of_test : (found other : Found) (has : List LogEntry × ℕ) (b : Bool) → cond b found other ≡ Ok has → (other ≡ Ok has → ⊥) → found ≡ Ok has
of_test found other has true e isnt = e
of_test found other has false e isnt = absurd (isnt e)

-- what was found, and belongs to the version
pub of_version_is : (version : ℕ) (found : Found) (has : List LogEntry × ℕ) → of_version version found ≡ Ok has → found ≡ Ok has
of_version_is version (Ok found) has e = of_test (Ok found) (Err Cause.Form) has (list_all (belongs version) found.0) e (λ (e : Err Cause.Form ≡ Ok has). absurd cc)
of_version_is version (Err cause) has e = absurd cc

extent_read : (version at : ℕ) (gate : ℕ) (rest : List ℕ) (read : LogRead) (found : List LogEntry × ℕ) → found.1 ≤ length rest → Later version at rest → (log : Result LogRead LogDamage)
    → log_from version found.1 (at + 1) rest ≡ log → after (gated at found.0) log ≡ ok read → Extent 0 at (gate ∷ rest) read
unfolding Later Extent
extent_read version at gate rest read found fits later (Ok r) e both =
    let same : record { entries = gated at found.0 ++ r.entries; end = r.end } ≡ read = cc in
    let end : r.end ≡ read.end = ap (λ (x : LogRead). x.end) same in
    let x = later found.1 r fits e in
    (omega (arith, x.0, end), omega (arith, x.1, end))
extent_read version at gate rest read found fits later (Err d) e both = absurd cc

extent_found : (version at : ℕ) (gate : ℕ) (rest : List ℕ) (read : LogRead) (found : Found) → entries_at version rest ≡ found → Later version at rest
    → behind_gate at found (λ size. log_from version size (at + 1) rest) ≡ ok read → Extent 0 at (gate ∷ rest) read
extent_found version at gate rest read (Ok found) is later e =
    let has : entries_found (reading_of rest) ≡ Ok found = of_version_is version (entries_found (reading_of rest)) found is in
    extent_read version at gate rest read found (found_fits rest found has) later (log_from version found.1 (at + 1) rest) refl e
extent_found version at gate rest read (Err cause) is later e = absurd cc

extent_gate : (version at : ℕ) (gate : ℕ) (rest : List ℕ) (read : LogRead) (is_open : Bool) → Later version at rest
    → cond is_open (behind_gate at (entries_at version rest) (λ size. log_from version size (at + 1) rest)) (ok (ended at)) ≡ ok read → Extent 0 at (gate ∷ rest) read
unfolding Extent
extent_gate version at gate rest read true later e = extent_found version at gate rest read (entries_at version rest) refl later e
extent_gate version at gate rest read false later e =
    let same : ended at ≡ read = cc in
    let end : at ≡ read.end = ap (λ (x : LogRead). x.end) same in (omega (arith, end), omega (arith, end))

extents : (version passed at : ℕ) (bytes : List ℕ) (read : LogRead) → passed ≤ length bytes → log_from version passed at bytes ≡ ok read → Extent passed at bytes read
unfolding Later Extent
extents version zero at [] read le is =
    let same : ended at ≡ read = cc in
    let end : at ≡ read.end = ap (λ (x : LogRead). x.end) same in (omega (arith, end), omega (arith, end))
extents version (suc passed) at [] read le is = absurd (omega arith)
extents version zero at (gate ∷ rest) read le is =
    extent_gate version at gate rest read ((gate == OPEN_GATE) && ltb 0 (length rest)) (λ size r few e. extents version size (at + 1) rest r few e) is
extents version (suc passed) at (b ∷ rest) read le is =
    let x = extents version passed (at + 1) rest read (omega arith) is in (omega (arith, x.0), omega (arith, x.1))

pub extent : (version passed at : ℕ) (bytes : List ℕ) (read : LogRead) → passed ≤ length bytes → log_from version passed at bytes ≡ ok read → (at + passed ≤ read.end) × (read.end ≤ at + length bytes)
unfolding Extent
extent version passed at bytes read le is = extents version passed at bytes read le is
