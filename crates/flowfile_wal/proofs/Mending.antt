-- What a stop leaves of a log while its end is mended.
use Rattle.std.proofs.Common.{◌≡◌, ◌≢◌, ℕ, ◌+◌, ◌<◌, ◌≤◌, List, [], ◌∷◌, ◌++◌, length, get_or, take, drop, refl, sym, ◌∙◌, ap, subst, arith, append_assoc, length-take, length-drop, take-append-drop}
use Rattle.std.proofs.Math.Seq.{take-add}
use Rattle.std.proofs.lemmas.List.{append-nil, take_all, drop_all, drop_more}
use Rattle.std.specs.Prelude.{Result, Ok, Err}
use Rattle.disk_trait.specs.Files.{Files, At, Overwritten, Torn, Shortened, named}
use Rattle.disk_trait.specs.declared.file_name.FileKind.TheVariants.{Log}
use Rattle.record_codec.specs.Block.{reading_of}
use Rattle.record_codec.specs.LogEntries.{LogRead, LogDamage, after, entries_found, entries_at, gated, behind_gate, log_from, log_of}
use Rattle.record_codec.specs.declared.entry.LogEntry.{LogEntry}
use Rattle.record_codec.specs.declared.log.TheConstants.{OPEN_GATE, CLOSED_GATE}
use Rattle.record_codec.proofs.Logs.{opened, goes_on_with, ends_missing, ends_last, ends_shut}
use Rattle.flowfile_wal.specs.Current.{CurrentLog}
use Rattle.flowfile_wal.specs.Steps.{SameLog, EndsClosed, IsLogAt}
use Rattle.flowfile_wal.proofs.Extents.{extent, found_fits, of_version_is}
use Rattle.flowfile_wal.proofs.Says.{Found, ok, same_log, end_within}
use Rattle.flowfile_wal.proofs.Appending.{ends_closed}

-- ---- the last gate isn't open, where something stands behind it

longer_log : (version : ℕ) (read : LogRead) (rest : List ℕ) (found : List LogEntry × ℕ) (log : Result LogRead LogDamage) → found.1 ≤ length rest → log_from version found.1 (read.end + 1) rest ≡ log
    → ok read ≡ after read.entries (after (gated read.end found.0) log) → ⊥
longer_log version read rest found (Ok r) fits is e =
    let same : read ≡ record { entries = read.entries ++ (gated read.end found.0 ++ r.entries); end = r.end } = cc in
    let x = extent version found.1 (read.end + 1) rest r fits is in
    absurd (omega (arith, x.0, ap (λ (x : LogRead). x.end) same))
longer_log version read rest found (Err d) fits is e = absurd cc

no_longer : (version : ℕ) (read : LogRead) (rest : List ℕ) (found : Found) → entries_at version rest ≡ found
    → ok read ≡ after read.entries (behind_gate read.end found (λ size. log_from version size (read.end + 1) rest)) → ⊥
no_longer version read rest (Ok found) is e =
    longer_log version read rest found (log_from version found.1 (read.end + 1) rest) (found_fits rest found (of_version_is version (entries_found (reading_of rest)) found is)) refl e
no_longer version read rest (Err cause) is e = absurd cc

pub last_gate : (version : ℕ) (bytes : List ℕ) (read : LogRead) → log_of version bytes ≡ ok read → read.end + 1 < length bytes → get_or bytes read.end 0 ≢ OPEN_GATE
last_gate version bytes read is some = λ (opens : get_or bytes read.end 0 ≡ OPEN_GATE).
    let rest = drop (read.end + 1) bytes in
    let split : drop read.end bytes ≡ OPEN_GATE ∷ rest = drop_more bytes read.end 0 (omega arith) ∙ ap (λ (g : ℕ). g ∷ rest) opens in
    let behind : 0 < length rest = omega (arith, length-drop (read.end + 1) bytes) in
    no_longer version read rest (entries_at version rest) refl
    (sym is ∙ ap (log_of version) (sym (take-append-drop read.end bytes)) ∙ goes_on_with version bytes (drop read.end bytes) read is
    ∙ ap (λ (l : List ℕ). after read.entries (log_from version 0 read.end l)) split ∙ ap (after read.entries) (opened version read.end rest behind))

-- ---- one log

module _ (number end : ℕ) (bytes : List ℕ) (is : IsLogAt number end bytes) where
  abbrev the_log : CurrentLog
  the_log = record { number = number; version = is.version; entries = is.entries; end = end }

  pub gate_within : end ≤ length bytes
  gate_within = end_within number bytes the_log is.counted is.says

  -- a log of which the same is read
  pub still_there : (c : List ℕ) → SameLog number bytes c → IsLogAt number end c
  still_there c same = record { version = is.version; entries = is.entries; counted = same.0 ∙ is.counted; says = same.1 ∙ is.says }

  -- a stop within the cut of what stands behind the last gate
  pub cut_short : (c : List ℕ) → end + 1 < length bytes → Shortened (end + 1) bytes c → SameLog number bytes c
  cut_short c some cut =
      let gate = get_or bytes end 0 in
      let behind = drop (end + 1) c in
      let front : take (end + 1) bytes ≡ take end bytes ++ gate ∷ [] =
      take-add end 1 bytes ∙ ap (λ (l : List ℕ). take end bytes ++ take 1 l) (drop_more bytes end 0 (omega arith)) in
      let whole_of : c ≡ take end bytes ++ gate ∷ behind =
      sym (take-append-drop (end + 1) c) ∙ ap (λ (l : List ℕ). l ++ behind) (cut.front ∙ front) ∙ append_assoc (take end bytes) (gate ∷ []) behind in
      same_log number bytes the_log is.counted is.says c (gate ∷ behind) whole_of
      (λ (read : LogRead) (reads : log_of is.version bytes ≡ ok read) (ends : read.end ≡ end).
      ap (log_of is.version) whole_of ∙ ap (λ (n : ℕ). log_of is.version (take n bytes ++ gate ∷ behind)) (sym ends)
      ∙ ends_shut is.version bytes read gate behind reads
      (subst (λ (n : ℕ). get_or bytes n 0 ≢ OPEN_GATE) ends (last_gate is.version bytes read reads (omega (arith, ends, some)))))

  -- and once it is done
  pub cut_done : (c : List ℕ) → end + 1 < length bytes → c ≡ take (end + 1) bytes → SameLog number bytes c
  cut_done c some done = cut_short c some (record {
    front = ap (take (end + 1)) done ∙ take_all (end + 1) (take (end + 1) bytes) (omega (arith, length-take (end + 1) bytes));
    no_shorter = omega (arith, ap length done, length-take (end + 1) bytes);
    no_longer = omega (arith, ap length done, length-take (end + 1) bytes);
  })

  any_tail : (tail : List ℕ) → length tail ≤ 1 → (read : LogRead) → log_of is.version bytes ≡ ok read → log_of is.version (take read.end bytes ++ tail) ≡ ok read
  any_tail [] few read reads = ap (log_of is.version) (append-nil (take read.end bytes)) ∙ ends_missing is.version bytes read reads
  any_tail (gate ∷ []) few read reads = ends_last is.version bytes read gate reads
  any_tail (gate ∷ more ∷ tail) few read reads = absurd (omega arith)

  -- a stop within the write of a closed gate
  pub gate_torn : (c : List ℕ) → length bytes ≤ end + 1 → Torn end 1 bytes c → SameLog number bytes c
  gate_torn c short torn =
      let tail = drop end c in
      let few : length tail ≤ 1 = omega (arith, length-drop end c, torn.no_longer) in
      let whole_of : c ≡ take end bytes ++ tail = sym (take-append-drop end c) ∙ ap (λ (l : List ℕ). l ++ tail) torn.front in
      same_log number bytes the_log is.counted is.says c tail whole_of
      (λ (read : LogRead) (reads : log_of is.version bytes ≡ ok read) (ends : read.end ≡ end).
      ap (log_of is.version) whole_of ∙ ap (λ (n : ℕ). log_of is.version (take n bytes ++ tail)) (sym ends) ∙ any_tail tail few read reads)

  front_length : length (take end bytes) ≡ end
  front_length = omega (arith, length-take end bytes, gate_within)

  -- and once it is done
  pub gate_closed : (c : List ℕ) → length bytes ≤ end + 1 → Overwritten end (CLOSED_GATE ∷ []) bytes c → EndsClosed end c
  gate_closed c short over =
      ends_closed (take end bytes) end c
      (over ∙ ap (λ (l : List ℕ). take end bytes ++ (CLOSED_GATE ∷ []) ++ l) (drop_all (end + 1) bytes short) ∙ append-nil (take end bytes ++ CLOSED_GATE ∷ []))
      front_length

  -- or where it was closed before
  pub was_closed : length bytes ≤ end + 1 → end < length bytes → get_or bytes end 0 ≡ CLOSED_GATE → EndsClosed end bytes
  was_closed short some closed =
      ends_closed (take end bytes) end bytes
      (sym (take-append-drop end bytes)
      ∙ ap (λ (l : List ℕ). take end bytes ++ l) (drop_more bytes end 0 some ∙ ap (λ (l : List ℕ). get_or bytes end 0 ∷ l) (drop_all (end + 1) bytes short) ∙ ap (λ (g : ℕ). g ∷ []) closed))
      front_length

-- nothing was done
pub stays : (number : ℕ) (c : Files) → At (named Log number) (SameLog number) c c
stays number c = record { here = (refl, refl); others = λ f isnt. refl }
