-- A log as far as it was read.
use Rattle.std.proofs.Common.{◌≡◌, ◌≢◌, ⊎_elim, ℕ, ◌+◌, ◌<◌, ◌≤◌, cond, Bool, true, false, List, [], ◌∷◌, ◌++◌, length, get_or, drop, refl, sym, ◌∙◌, ap, subst, arith, append_assoc, length-drop}
use Rattle.std.specs.Prelude.{All, IsTrue, None, Some, Result, Ok, Err, slice_index}
use Rattle.std.specs.List.{list_all}
use Rattle.std.proofs.lemmas.Bool.{cases_lt}
use Rattle.std.proofs.lemmas.List.{append-nil, drop_all, drop_more, drop-drop}
use Rattle.std.proofs.lemmas.List.Elements.{All-append, All-map}
use Rattle.disk_trait.specs.Files.{named}
use Rattle.disk_trait.specs.declared.damage.Damage.{Damage}
use Rattle.disk_trait.specs.declared.damage.Damage.TheVariants.{Form}
use Rattle.disk_trait.specs.declared.file_name.FileKind.TheVariants.{Log}
use Rattle.disk_trait.specs.declared.file_name.FileName.{FileName}
use Rattle.record_codec.specs.Block.{reading_of}
use Rattle.record_codec.specs.EntryEncoding.{IsEntry}
use Rattle.record_codec.specs.Frames.{counts}
use Rattle.record_codec.specs.LogEntries.{Cause, LogRead, LogDamage, ended, after, belongs, entries_found, of_version, entries_at, gated, behind_gate, log_from}
use Rattle.record_codec.specs.declared.entry.LogEntry.{LogEntry}
use Rattle.record_codec.specs.declared.entry.LogEntry.TheVariants.{Begin}
use Rattle.record_codec.specs.declared.log.TheConstants.{OPEN_GATE}
use Rattle.record_codec.proofs.Logs.{passed_over, shut, last_byte, opened}
use Rattle.flowfile_wal.specs.Calls.{HaveEncodings}
use Rattle.flowfile_wal.specs.Current.{CurrentLog, first_found, version_begun, caused, log_read, log_in}
use Rattle.flowfile_wal.specs.Reads.{named_at, AreEntriesAt, IsDamagedAt, IsLastGate, LogIsReadTo}
use Rattle.flowfile_wal.proofs.Extents.{found_fits}
use Rattle.flowfile_wal.proofs.Says.{Found, ok, begun_alone, opens, says_of, says_misbegun, says_unread}

abbrev Says : Type 0
Says = Result CurrentLog Damage

abbrev pub error : Damage → Says
error d = Err d

abbrev says : CurrentLog → Says
says log = Ok log

abbrev Whole : Type 0
Whole = Result LogRead LogDamage

-- what is read from an open gate on
from_gate : (version at : ℕ) (bytes : List ℕ) → slice_index bytes at ≡ OPEN_GATE → at + 1 < length bytes
    → log_from version 0 at (drop at bytes) ≡ behind_gate at (entries_at version (drop (at + 1) bytes)) (λ size. log_from version size (at + 1) (drop (at + 1) bytes))
from_gate version at bytes opens long =
    let rest = drop (at + 1) bytes in
    let split : drop at bytes ≡ OPEN_GATE ∷ rest = drop_more bytes at 0 (omega (arith, long)) ∙ ap (λ (g : ℕ). g ∷ rest) opens in
    ap (log_from version 0 at) split ∙ opened version at rest (omega (arith, length-drop (at + 1) bytes, long))

-- what was found belongs to the version, or not
belonging : (version : ℕ) (found : List LogEntry × ℕ) (b : Bool) → list_all (belongs version) found.0 ≡ b → of_version version (Ok found) ≡ cond b (Ok found) (Err Cause.Form)
belonging version found b is = ap (λ (b : Bool). cond b (Ok found) (Err Cause.Form)) is

-- entries of the version, and then what stands behind them
pub entries_then : (version at : ℕ) (bytes : List ℕ) (entries : List LogEntry) (size : ℕ) → AreEntriesAt at bytes entries size → IsTrue (list_all (belongs version) entries)
    → log_from version 0 at (drop at bytes) ≡ after (gated at entries) (log_from version 0 (at + 1 + size) (drop (at + 1 + size) bytes))
entries_then version at bytes entries size is belong =
    let rest = drop (at + 1) bytes in
    from_gate version at bytes is.opened is.behind
    ∙ ap (λ (f : Found). behind_gate at f (λ n. log_from version n (at + 1) rest)) (ap (of_version version) is.found ∙ belonging version (entries, size) true belong)
    ∙ ap (after (gated at entries)) (passed_over version size (at + 1) rest (found_fits rest (entries, size) is.found) ∙ ap (log_from version 0 (at + 1 + size)) (drop-drop size (at + 1) bytes))

-- an entry of another version is damage at its gate
foreign_from : (version at : ℕ) (bytes : List ℕ) (entries : List LogEntry) (size : ℕ) → AreEntriesAt at bytes entries size → list_all (belongs version) entries ≡ false
    → log_from version 0 at (drop at bytes) ≡ Err (record { at = at; cause = Cause.Form })
foreign_from version at bytes entries size is isnt =
    from_gate version at bytes is.opened is.behind
    ∙ ap (λ (f : Found). behind_gate at f (λ n. log_from version n (at + 1) (drop (at + 1) bytes))) (ap (of_version version) is.found ∙ belonging version (entries, size) false isnt)

-- no entry behind the last gate
pub ended_there : (version at : ℕ) (bytes : List ℕ) → IsLastGate at bytes → log_from version 0 at (drop at bytes) ≡ ok (ended at)
ended_there version at bytes last = ⊎_elim
    (λ (some : at < length bytes). ⊎_elim
    (λ (short : length bytes ≤ at + 1). ap (log_from version 0 at) (drop_more bytes at 0 some ∙ ap (λ (l : List ℕ). get_or bytes at 0 ∷ l) (drop_all (at + 1) bytes short)) ∙ last_byte version at (get_or bytes at 0))
    (λ (isnt : slice_index bytes at ≢ OPEN_GATE). ap (log_from version 0 at) (drop_more bytes at 0 some) ∙ shut version at (get_or bytes at 0) (drop (at + 1) bytes) isnt)
    last)
    (λ (none : length bytes ≤ at). ap (log_from version 0 at) (drop_all at bytes none))
    (cases_lt at (length bytes))

-- the cause of a damage
record Caused (file : FileName) (at : ℕ) (found : Found) (damage : Damage) : Type 0 where
  cause : Cause
  is : found ≡ Err cause
  damage_is : caused file at cause ≡ damage

cause_of : (file : FileName) (at : ℕ) (found : Found) (damage : Damage) → named_at file at found ≡ Err damage → Caused file at found damage
cause_of file at (Ok found) damage e = absurd cc
cause_of file at (Err cause) damage e = record { cause = cause; is = refl; damage_is = cc }

damaged_from : (version at : ℕ) (file : FileName) (bytes : List ℕ) (damage : Damage) (is : IsDamagedAt file at bytes damage) (c : Caused file at (entries_found (reading_of (drop (at + 1) bytes))) damage)
    → log_from version 0 at (drop at bytes) ≡ Err (record { at = at; cause = c.cause })
damaged_from version at file bytes damage is c =
    from_gate version at bytes is.opened is.behind ∙ ap (λ (f : Found). behind_gate at (of_version version f) (λ size. log_from version size (at + 1) (drop (at + 1) bytes))) c.is

-- ---- the Begin

-- the Begin belongs to each version
begin_belongs : (version number : ℕ) → IsTrue (list_all (belongs version) (Begin version number ∷ []))
begin_belongs version number = refl

pub read_first : (number : ℕ) (bytes : List ℕ) (entries : List LogEntry) (size version : ℕ) → AreEntriesAt 0 bytes entries size → version_begun number entries ≡ Some version
    → LogIsReadTo number version (1 + size) [] bytes
read_first number bytes entries size version is begun =
    let b = begun_alone number entries version begun in
    let first : AreEntriesAt 0 bytes (Begin version number ∷ []) size = subst (λ (es : List LogEntry). AreEntriesAt 0 bytes es size) b.0 is in
    record {
      size = size;
      first = first.found;
      known = b.1;
      reads = entries_then version 0 bytes (Begin version number ∷ []) size first (begin_belongs version number);
    }

pub begin_none : (bytes : List ℕ) → counts bytes ≡ true → IsLastGate 0 bytes → ⊥
begin_none bytes counted last =
    let o = opens bytes counted in
    ⊎_elim
    (λ (short : length bytes ≤ 1). absurd (omega (arith, o.1, length-drop 1 bytes, short)))
    (λ (isnt : slice_index bytes 0 ≢ OPEN_GATE). isnt (ap (λ (l : List ℕ). slice_index l 0) o.0))
    last

pub begin_other : (number : ℕ) (bytes : List ℕ) (entries : List LogEntry) (size : ℕ) → AreEntriesAt 0 bytes entries size → version_begun number entries ≡ None
    → log_in number bytes ≡ Err (Form (named Log number) 0)
begin_other number bytes entries size is isnt = says_misbegun number bytes (entries, size) is.found isnt

pub begin_damaged : (number : ℕ) (bytes : List ℕ) (damage : Damage) → IsDamagedAt (named Log number) 0 bytes damage → log_in number bytes ≡ Err damage
begin_damaged number bytes damage is =
    let c = cause_of (named Log number) 0 (first_found bytes) damage is.found in
    says_unread number bytes c.cause c.is ∙ ap error c.damage_is

-- ---- the entries behind it

pub gated_encodings : (read : List (ℕ × LogEntry)) (at : ℕ) (entries : List LogEntry) → HaveEncodings read → All IsEntry entries → HaveEncodings (read ++ gated at entries)
gated_encodings read at entries had have =
    All-append (λ (e : ℕ × LogEntry). IsEntry e.1) read (gated at entries) had (All-map (λ (e : ℕ × LogEntry). IsEntry e.1) (λ (e : LogEntry). (at, e)) entries have)

after_more : (es more : List (ℕ × LogEntry)) (log : Whole) → after es (after more log) ≡ after (es ++ more) log
after_more es more (Ok r) = ap (λ (l : List (ℕ × LogEntry)). ok (record { entries = l; end = r.end })) (sym (append_assoc es more r.entries))
after_more es more (Err d) = refl

module _ (number version end : ℕ) (read : List (ℕ × LogEntry)) (bytes : List ℕ) (so_far : LogIsReadTo number version end read bytes) where
  abbrev all : List (ℕ × LogEntry)
  all = (0, Begin version number) ∷ read

  pub read_next : (entries : List LogEntry) (size : ℕ) → AreEntriesAt end bytes entries size → IsTrue (list_all (belongs version) entries)
      → LogIsReadTo number version (end + 1 + size) (read ++ gated end entries) bytes
  read_next entries size is belong = record {
    size = so_far.size;
    first = so_far.first;
    known = so_far.known;
    reads = so_far.reads ∙ ap (after all) (entries_then version end bytes entries size is belong)
        ∙ after_more all (gated end entries) (log_from version 0 (end + 1 + size) (drop (end + 1 + size) bytes));
  }

  read_all : (whole : Whole) → after all (log_from version 0 end (drop end bytes)) ≡ whole → log_in number bytes ≡ log_read number version whole
  read_all whole e = says_of number version bytes so_far.size whole so_far.first so_far.known (so_far.reads ∙ e)

  pub read_done : IsLastGate end bytes → log_in number bytes ≡ Ok (record { number = number; version = version; entries = read; end = end })
  read_done last =
      read_all (after all (ok (ended end))) (ap (after all) (ended_there version end bytes last))
      ∙ ap (λ (l : List (ℕ × LogEntry)). says (record { number = number; version = version; entries = l; end = end })) (append-nil read)

  pub read_foreign : (entries : List LogEntry) (size : ℕ) → AreEntriesAt end bytes entries size → list_all (belongs version) entries ≡ false
      → log_in number bytes ≡ Err (Form (named Log number) end)
  read_foreign entries size is isnt =
      read_all (Err (record { at = end; cause = Cause.Form })) (ap (after all) (foreign_from version end bytes entries size is isnt))

  pub read_damaged : (damage : Damage) → IsDamagedAt (named Log number) end bytes damage → log_in number bytes ≡ Err damage
  read_damaged damage is =
      let c = cause_of (named Log number) end (entries_found (reading_of (drop (end + 1) bytes))) damage is.found in
      read_all (Err (record { at = end; cause = c.cause })) (ap (after all) (damaged_from version end (named Log number) bytes damage is c)) ∙ ap error c.damage_is
