-- What a log's bytes say, by what is read of them.
use Rattle.std.proofs.Common.{◌≡◌, ℕ, zero, suc, ◌+◌, ◌<◌, ◌≤◌, ◌==◌, ◌&&◌, cond, Bool, true, false, List, [], ◌∷◌, ◌++◌, length, length-append, take, drop, refl, sym, ap, subst, ◌∙◌, arith, eq-eqb}
use Rattle.std.specs.Prelude.{IsTrue, Option, None, Some, Result, Ok, Err}
use Rattle.std.proofs.lemmas.Bool.{and_parts, eqb-true, ltb-true, lt-ltb}
use Rattle.std.proofs.lemmas.List.{length-take-le}
use Rattle.disk_trait.specs.Files.{named}
use Rattle.disk_trait.specs.declared.damage.Damage.{Damage}
use Rattle.disk_trait.specs.declared.damage.Damage.TheVariants.{Form}
use Rattle.disk_trait.specs.declared.file_name.FileKind.TheVariants.{Log}
use Rattle.record_codec.specs.Block.{Reading, Whole, Cut, Long, Differs, reading_of}
use Rattle.record_codec.specs.Frames.{counts}
use Rattle.record_codec.specs.LogEntries.{Cause, LogRead, LogDamage, after, entries_found, of_version, entries_at, gated, behind_gate, log_from, log_of, log_with_more}
use Rattle.record_codec.specs.Version.{is_known}
use Rattle.record_codec.specs.declared.entry.LogEntry.{LogEntry}
use Rattle.record_codec.specs.declared.entry.LogEntry.TheVariants.{Begin, Session, Expire, SwapOut, SwapIn, Age}
use Rattle.record_codec.specs.declared.log.TheConstants.{OPEN_GATE}
use Rattle.record_codec.proofs.Blocks.{reading_of-longer}
use Rattle.record_codec.proofs.Logs.{opened}
use Rattle.flowfile_wal.specs.Current.{CurrentLog, first_found, begun_by, version_begun, caused, log_read, log_by, log_begun, log_in}
use Rattle.flowfile_wal.specs.Steps.{SameLog, with_block}
use Rattle.flowfile_wal.proofs.Extents.{extent, found_size, found_some, found_fits}

abbrev pub Found : Type 0
Found = Result (List LogEntry × ℕ) Cause

abbrev pub ok : LogRead → Result LogRead LogDamage
ok read = Ok read

abbrev Says : Type 0
Says = Result CurrentLog Damage

abbrev misbegun : ℕ → Says
misbegun number = Err (Form (named Log number) 0)

abbrev pub says : CurrentLog → Says
says log = Ok log

-- a first block that is the Begin of a log alone
abbrev pub alone : (version number size : ℕ) → Found
alone version number size = Ok (Begin version number ∷ [], size)

-- ---- the Begin

chosen : (known : Bool) (version v : ℕ) → cond known (Some version) None ≡ Some v → (known ≡ true) × (version ≡ v)
chosen true version v e = (refl, cc)
chosen false version v e = absurd cc

begun_is : (number : ℕ) (entry : LogEntry) (version : ℕ) → begun_by number entry ≡ Some version → (entry ≡ Begin version number) × IsTrue (is_known version)
begun_is number (Begin v log) version is =
    let c = chosen ((log == number) && is_known v) v version is in
    let both = and_parts (log == number) (is_known v) c.0 in
    let numbers : log ≡ number = eqb-true log number both.0 in
    (ap (λ (n : ℕ). Begin v n) numbers ∙ ap (λ (n : ℕ). Begin n number) c.1, subst (λ (n : ℕ). IsTrue (is_known n)) c.1 both.1)
begun_is number (Session s) version is = absurd cc
begun_is number (Expire e) version is = absurd cc
begun_is number (SwapOut s) version is = absurd cc
begun_is number (SwapIn connection batch) version is = absurd cc
begun_is number (Age line) version is = absurd cc

-- a first block of which the version is told is the Begin alone
pub begun_alone : (number : ℕ) (entries : List LogEntry) (version : ℕ) → version_begun number entries ≡ Some version → (entries ≡ Begin version number ∷ []) × IsTrue (is_known version)
begun_alone number [] version is = absurd cc
begun_alone number (entry ∷ []) version is = let b = begun_is number entry version is in (ap (λ (e : LogEntry). e ∷ []) b.0, b.1)
begun_alone number (entry ∷ other ∷ more) version is = absurd cc

begins_with : (number version : ℕ) → IsTrue (is_known version) → version_begun number (Begin version number ∷ []) ≡ Some version
begins_with number version known =
    ap (λ (b : Bool). cond (b && is_known version) (Some version) None) (eq-eqb number number refl) ∙ ap (λ (b : Bool). cond b (Some version) None) known

-- ---- what a log says

-- what was read of a log
pub record IsRead (number : ℕ) (bytes : List ℕ) (log : CurrentLog) : Type 0 where
  pub size : ℕ
  pub first : first_found bytes ≡ alone log.version number size
  pub known : IsTrue (is_known log.version)
  pub read : LogRead
  pub reads : log_of log.version bytes ≡ ok read
  pub is : log ≡ record { number = number; version = log.version; entries = drop 1 read.entries; end = read.end }

whole_read : (number version : ℕ) (bytes : List ℕ) (log : CurrentLog) (size : ℕ) (whole : Result LogRead LogDamage) → first_found bytes ≡ alone version number size → IsTrue (is_known version)
    → log_of version bytes ≡ whole → log_read number version whole ≡ says log → IsRead number bytes log
whole_read number version bytes log size (Ok read) first known reads e =
    let same : record { number = number; version = version; entries = drop 1 read.entries; end = read.end } ≡ log = cc in
    subst (IsRead number bytes) same (record { size = size; first = first; known = known; read = read; reads = reads; is = refl })
whole_read number version bytes log size (Err damage) first known reads e = absurd cc

version_read : (number : ℕ) (bytes : List ℕ) (log : CurrentLog) (found : List LogEntry × ℕ) (version : Option ℕ) → first_found bytes ≡ Ok found → version_begun number found.0 ≡ version
    → log_by number bytes version ≡ says log → IsRead number bytes log
version_read number bytes log found (Some version) first begun e =
    let b = begun_alone number found.0 version begun in
    whole_read number version bytes log found.1 (log_of version bytes) (first ∙ ap (λ (es : List LogEntry). Ok (es, found.1)) b.0) b.1 refl e
version_read number bytes log found None first begun e = absurd cc

first_read : (number : ℕ) (bytes : List ℕ) (log : CurrentLog) (found : Found) → first_found bytes ≡ found → log_begun number bytes found ≡ says log → IsRead number bytes log
first_read number bytes log (Ok found) first e = version_read number bytes log found (version_begun number found.0) first refl e
first_read number bytes log (Err cause) first e = absurd cc

pub read_of : (number : ℕ) (bytes : List ℕ) (log : CurrentLog) → log_in number bytes ≡ says log → IsRead number bytes log
unfolding log_in
read_of number bytes log is = first_read number bytes log (first_found bytes) refl is

pub says_of : (number version : ℕ) (bytes : List ℕ) (size : ℕ) (whole : Result LogRead LogDamage) → first_found bytes ≡ alone version number size → IsTrue (is_known version)
    → log_of version bytes ≡ whole → log_in number bytes ≡ log_read number version whole
unfolding log_in
says_of number version bytes size whole first known reads =
    ap (log_begun number bytes) first ∙ ap (log_by number bytes) (begins_with number version known) ∙ ap (log_read number version) reads

pub says_misbegun : (number : ℕ) (bytes : List ℕ) (found : List LogEntry × ℕ) → first_found bytes ≡ Ok found → version_begun number found.0 ≡ None → log_in number bytes ≡ misbegun number
unfolding log_in
says_misbegun number bytes found first isnt = ap (log_begun number bytes) first ∙ ap (log_by number bytes) isnt

pub says_unread : (number : ℕ) (bytes : List ℕ) (cause : Cause) → first_found bytes ≡ Err cause → log_in number bytes ≡ Err (caused (named Log number) 0 cause)
unfolding log_in
says_unread number bytes cause first = ap (log_begun number bytes) first

-- ---- the first block

-- a log that counts begins with an open gate, and something stands behind it
pub opens : (bytes : List ℕ) → counts bytes ≡ true → (bytes ≡ OPEN_GATE ∷ drop 1 bytes) × (0 < length (drop 1 bytes))
opens [] is = absurd cc
opens (g ∷ bytes) is =
    let p = and_parts (g == OPEN_GATE) _ is in
    let long : 1 < length (g ∷ bytes) = ltb-true 1 (length (g ∷ bytes)) p.1 in
    (ap (λ (x : ℕ). x ∷ bytes) (eqb-true g OPEN_GATE p.0), omega (arith, long))

-- the first entry of a log, and what stands behind it
pub record First (version number size : ℕ) (bytes : List ℕ) (read : LogRead) : Type 0 where
  pub behind : List (ℕ × LogEntry)
  pub entries : read.entries ≡ (0, Begin version number) ∷ behind
  pub from : 1 + size ≤ read.end
  pub to : read.end ≤ length bytes

first_of : (version number size : ℕ) (bytes : List ℕ) (read : LogRead) (log : Result LogRead LogDamage) → 0 < length bytes → size ≤ length (drop 1 bytes) → length bytes ≡ 1 + length (drop 1 bytes)
    → log_from version size 1 (drop 1 bytes) ≡ log → after (gated 0 (Begin version number ∷ [])) log ≡ ok read → First version number size bytes read
first_of version number size bytes read (Ok r) some fits long is e =
    let same : record { entries = (0, Begin version number) ∷ r.entries; end = r.end } ≡ read = cc in
    let x = extent version size 1 (drop 1 bytes) r fits is in
    subst (First version number size bytes) same (record {
      behind = r.entries;
      entries = refl;
      from = omega (arith, x.0);
      to = omega (arith, x.1, long);
    })
first_of version number size bytes read (Err d) some fits long is e = absurd cc

pub first : (version number size : ℕ) (bytes : List ℕ) (read : LogRead) → counts bytes ≡ true → first_found bytes ≡ alone version number size → log_of version bytes ≡ ok read → First version number size bytes read
first version number size bytes read counted is reads =
    let o = opens bytes counted in
    let rest = drop 1 bytes in
    let behind : log_of version bytes ≡ behind_gate 0 (entries_at version rest) (λ n. log_from version n 1 rest) = ap (log_of version) o.0 ∙ opened version 0 rest o.1 in
    let found : entries_at version rest ≡ alone version number size = ap (of_version version) is in
    let long : length bytes ≡ 1 + length rest = omega (arith, ap length o.0) in
    first_of version number size bytes read (log_from version size 1 rest) (omega (arith, long)) (found_fits rest (Begin version number ∷ [], size) is) long refl
    (sym (behind ∙ ap (λ (f : Found). behind_gate 0 f (λ n. log_from version n 1 rest)) found) ∙ reads)

-- a first block is found again, whatever stands behind it
found_again : (rest tail : List ℕ) (n : ℕ) (reading : Reading) (found : List LogEntry × ℕ) → reading_of rest ≡ reading → entries_found reading ≡ Ok found → found.1 ≤ n → n ≤ length rest
    → entries_found (reading_of (take n rest ++ tail)) ≡ Ok found
found_again rest tail n (Whole kind payload) found is e le within =
    ap entries_found (reading_of-longer rest tail n kind payload is (omega (arith, found_size kind payload found e, le)) within) ∙ e
found_again rest tail n (Cut need have) found is e le within = absurd cc
found_again rest tail n (Long size) found is e le within = absurd cc
found_again rest tail n (Differs stored sum) found is e le within = absurd cc

again_open : (rest tail : List ℕ) (end : ℕ) (found : List LogEntry × ℕ) → entries_found (reading_of rest) ≡ Ok found → 1 + found.1 ≤ end → end ≤ 1 + length rest
    → (counts (take end (OPEN_GATE ∷ rest) ++ tail) ≡ true) × (first_found (take end (OPEN_GATE ∷ rest) ++ tail) ≡ Ok found)
again_open rest tail zero found is from to = absurd (omega arith)
again_open rest tail (suc n) found is from to =
    let within : n ≤ length rest = omega arith in
    let some : 0 < found.1 = found_some rest found is in
    let long : 1 < length (OPEN_GATE ∷ (take n rest ++ tail)) = omega (arith, length-append (take n rest) tail, length-take-le n rest within, some, from) in
    (lt-ltb 1 (length (OPEN_GATE ∷ (take n rest ++ tail))) long, found_again rest tail n (reading_of rest) found refl is (omega arith) within)

module _ (number : ℕ) (bytes : List ℕ) (log : CurrentLog) (counted : counts bytes ≡ true) (is : log_in number bytes ≡ says log) where
  abbrev r : IsRead number bytes log
  r = read_of number bytes log is

  abbrev f : First log.version number r.size bytes r.read
  f = first log.version number r.size bytes r.read counted r.first r.reads

  pub end_is : r.read.end ≡ log.end
  end_is = sym (ap (λ (l : CurrentLog). l.end) r.is)

  -- the last gate stands within the log, or at its end
  pub end_within : log.end ≤ length bytes
  end_within = omega (arith, f.to, end_is)

  -- what is read of a log says it, where the log goes on anew behind its last gate
  goes_on : (new tail : List ℕ) (whole : Result LogRead LogDamage) → new ≡ take log.end bytes ++ tail → log_of log.version new ≡ whole
      → (counts new ≡ true) × (log_in number new ≡ log_read number log.version whole)
  goes_on new tail whole goes reads =
      let o = opens bytes counted in
      let long : length bytes ≡ 1 + length (drop 1 bytes) = omega (arith, ap length o.0) in
      let again = again_open (drop 1 bytes) tail log.end (Begin log.version number ∷ [], r.size) r.first (omega (arith, f.from, end_is)) (omega (arith, f.to, end_is, long)) in
      let same : take log.end (OPEN_GATE ∷ drop 1 bytes) ++ tail ≡ new = ap (λ (l : List ℕ). take log.end l ++ tail) (sym o.0) ∙ sym goes in (
        subst (λ (l : List ℕ). counts l ≡ true) same again.0,
        says_of number log.version new r.size whole (subst (λ (l : List ℕ). first_found l ≡ alone log.version number r.size) same again.1) r.known reads,
      )

  -- a log of which the same is read says the same
  pub same_log : (new tail : List ℕ) → new ≡ take log.end bytes ++ tail → ((read : LogRead) → log_of log.version bytes ≡ ok read → read.end ≡ log.end → log_of log.version new ≡ ok read)
      → SameLog number bytes new
  same_log new tail goes same =
      let now = goes_on new tail (ok r.read) goes (same r.read r.reads end_is) in
      (now.0 ∙ sym counted, now.1 ∙ ap says (sym r.is) ∙ sym is)

  -- a log of which the entries of one block more are read has them
  pub more_log : (new tail : List ℕ) (entries : List LogEntry) (size : ℕ) → new ≡ take log.end bytes ++ tail
      → ((read : LogRead) → log_of log.version bytes ≡ ok read → read.end ≡ log.end → log_of log.version new ≡ ok (log_with_more read entries size))
      → (counts new ≡ true) × (log_in number new ≡ says (with_block log entries (size + 1)))
  more_log new tail entries size goes more =
      let now = goes_on new tail (ok (log_with_more r.read entries size)) goes (more r.read r.reads end_is) in
      let put = gated r.read.end entries in
      let behind : drop 1 (r.read.entries ++ put) ≡ drop 1 r.read.entries ++ put =
      ap (λ (es : List (ℕ × LogEntry)). drop 1 (es ++ put)) f.entries ∙ ap (λ (es : List (ℕ × LogEntry)). drop 1 es ++ put) (sym f.entries) in
      let gate : r.read.end + 1 + size ≡ r.read.end + (size + 1) = omega arith in
      let before : CurrentLog = record { number = number; version = log.version; entries = drop 1 r.read.entries; end = r.read.end } in
      let whole : log_read number log.version (ok (log_with_more r.read entries size)) ≡ says (with_block before entries (size + 1)) =
      ap (λ (es : List (ℕ × LogEntry)). says (record { number = number; version = log.version; entries = es; end = r.read.end + 1 + size })) behind
      ∙ ap (λ (n : ℕ). says (record { number = number; version = log.version; entries = drop 1 r.read.entries ++ put; end = n })) gate in
      (now.0, now.1 ∙ whole ∙ ap (λ (l : CurrentLog). says (with_block l entries (size + 1))) (sym r.is))
