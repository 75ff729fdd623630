-- What follows of all logs where one log's file changed.
use Rattle.std.proofs.Common.{◌≡◌, ◌≢◌, ⊎_elim, ℕ, ◌^◌, true, List, [], ◌∷◌, length, refl, sym, ◌∙◌, ap, subst}
use Rattle.std.specs.Prelude.{Option, None, Some, Result, Ok, Err}
use Rattle.std.proofs.lemmas.Bool.{cases_eq}
use Rattle.disk_trait.specs.Files.{Files, At, named}
use Rattle.disk_trait.specs.declared.damage.Damage.{Damage}
use Rattle.disk_trait.specs.declared.file_name.FileKind.TheVariants.{Log}
use Rattle.disk_trait.specs.declared.file_name.FileName.{FileName}
use Rattle.disk_trait.proofs.Search.{greatest_found, greatest_agrees}
use Rattle.record_codec.specs.Frames.{counts, entry_frame}
use Rattle.record_codec.specs.declared.entry.LogEntry.{LogEntry}
use Rattle.flowfile_wal.specs.Current.{CurrentLog, current_number, log_in, of_some, log_of_number, current_log}
use Rattle.flowfile_wal.specs.Steps.{SameLog, MoreEntries, IsClosedLog, IsClosedIn, AddsEntry, with_block, with_entry}
use Rattle.flowfile_wal.proofs.Says.{read_of}

abbrev pub Said : Type 0
Said = Result (Option CurrentLog) Damage

abbrev pub said : Option CurrentLog → Said
said log = Ok log

-- the log of another number has another file
other_log : (m n : ℕ) → (m ≡ n → ⊥) → named Log m ≢ named Log n
other_log m n isnt = λ (same : named Log m ≡ named Log n). isnt (ap (λ (f : FileName). f.number) same)

-- files whose logs count alike have the same current number
pub same_number : (old new : Files) → ((m : ℕ) → counts (new (named Log m)) ≡ counts (old (named Log m))) → current_number new ≡ current_number old
unfolding current_number
same_number old new alike =
    greatest_agrees (λ n. counts (new (named Log n))) (λ n. counts (old (named Log n))) (2 ^ 64) (λ m lt. alike m)

module _ (number : ℕ) (old new : Files) (step : List ℕ → List ℕ → Type 0) (changed : At (named Log number) step old new) where
  -- what is so of the changed file is so of each log, where it is so of one that stays
  pub each_log : (P : ℕ → List ℕ → List ℕ → Type 0) → P number (old (named Log number)) (new (named Log number)) → ((m : ℕ) (l : List ℕ) → P m l l) → (m : ℕ) → P m (old (named Log m)) (new (named Log m))
  each_log P here stays m = ⊎_elim
      (λ (same : m ≡ number). subst (λ (k : ℕ). P k (old (named Log k)) (new (named Log k))) (sym same) here)
      (λ (isnt : m ≡ number → ⊥). subst (λ (l : List ℕ). P m (old (named Log m)) l) (sym (changed.others (named Log m) (other_log m number isnt))) (stays m (old (named Log m))))
      (cases_eq m number)

  pub counts_alike : counts (new (named Log number)) ≡ counts (old (named Log number)) → current_number new ≡ current_number old
  counts_alike same = same_number old new (each_log (λ k l n. counts n ≡ counts l) same (λ m l. refl))

by_number : (old new : Files) → ((m : ℕ) → log_in m (new (named Log m)) ≡ log_in m (old (named Log m))) → (n : Option ℕ) → log_of_number new n ≡ log_of_number old n
by_number old new alike None = refl
by_number old new alike (Some m) = ap of_some (alike m)

-- files that differ in one log, which says the same, have the same current log
pub alike : (number : ℕ) (old new : Files) → At (named Log number) (SameLog number) old new → current_log new ≡ current_log old
unfolding current_log
alike number old new changed =
    ap (log_of_number new) (counts_alike number old new (SameLog number) changed changed.here.0)
    ∙ by_number old new (each_log number old new (SameLog number) changed (λ m l n. log_in m n ≡ log_in m l) changed.here.1 (λ m l. refl)) (current_number old)

-- the file of a current log
pub record IsOf (log : CurrentLog) (files : Files) : Type 0 where
  pub number : current_number files ≡ Some log.number
  pub counted : counts (files (named Log log.number)) ≡ true
  pub says : log_in log.number (files (named Log log.number)) ≡ Ok log

counted_of : (files : Files) (n : ℕ) → current_number files ≡ Some n → counts (files (named Log n)) ≡ true
unfolding current_number
counted_of files n is = (greatest_found (λ m. counts (files (named Log m))) (2 ^ 64)).passing n is

of_log : (files : Files) (log : CurrentLog) (n : ℕ) (read : Result CurrentLog Damage) → current_number files ≡ Some n → log_in n (files (named Log n)) ≡ read → of_some read ≡ said (Some log) → IsOf log files
of_log files log n (Ok found) is says e =
    let same : found ≡ log = cc in
    let r = read_of n (files (named Log n)) found says in
    let numbered : n ≡ log.number = sym (ap (λ (l : CurrentLog). l.number) r.is) ∙ ap (λ (l : CurrentLog). l.number) same in
    record {
      number = is ∙ ap Some numbered;
      counted = counted_of files log.number (is ∙ ap Some numbered);
      says = subst (λ (k : ℕ). log_in k (files (named Log k)) ≡ Ok log) numbered (says ∙ ap Ok same);
    }
of_log files log n (Err damage) is says e = absurd cc

of_number : (files : Files) (log : CurrentLog) (n : Option ℕ) → current_number files ≡ n → log_of_number files n ≡ said (Some log) → IsOf log files
of_number files log None is e = absurd cc
of_number files log (Some n) is e = of_log files log n (log_in n (files (named Log n))) is refl e

pub current_is : (files : Files) (log : CurrentLog) → current_log files ≡ said (Some log) → IsOf log files
unfolding current_log
current_is files log is = of_number files log (current_number files) refl is

pub is_current : (files : Files) (log : CurrentLog) (n : ℕ) → current_number files ≡ Some n → log_in n (files (named Log n)) ≡ Ok log → current_log files ≡ said (Some log)
unfolding current_log
is_current files log n is says = ap (log_of_number files) is ∙ ap of_some says

pub none_current : (files : Files) → current_number files ≡ None → current_log files ≡ said None
unfolding current_log
none_current files is = ap (log_of_number files) is

pub damaged_current : (files : Files) (n : ℕ) (damage : Damage) → current_number files ≡ Some n → log_in n (files (named Log n)) ≡ Err damage → current_log files ≡ Err damage
unfolding current_log
damaged_current files n damage is says = ap (log_of_number files) is ∙ ap of_some says

pub at_rest : (log : CurrentLog) (files : Files) → IsClosedIn log files → IsClosedLog log (files (named Log log.number))
at_rest log files is = let of = current_is files log is.current in record { counted = of.counted; says = of.says; closed = is.closed }

pub closed_in : (log : CurrentLog) (files : Files) → current_number files ≡ Some log.number → IsClosedLog log (files (named Log log.number)) → IsClosedIn log files
closed_in log files is rest = record { current = is_current files log log.number is rest.says; closed = rest.closed }

-- where the current log gets the entries of a block, the current log has them
pub with_one_block : (log : CurrentLog) (entries : List LogEntry) (size : ℕ) (old new : Files) → IsClosedIn log old → At (named Log log.number) (MoreEntries log.number entries size) old new
    → IsClosedIn (with_block log entries size) new
with_one_block log entries size old new was changed =
    let of = current_is old log was.current in
    let now = changed.here log refl (at_rest log old was) in
    let number = counts_alike log.number old new (MoreEntries log.number entries size) changed (now.counted ∙ sym of.counted) in
    closed_in (with_block log entries size) new (number ∙ of.number) now

pub with_one_entry : (log : CurrentLog) (entry : LogEntry) (old new : Files) → IsClosedIn log old → AddsEntry log.number entry old new → IsClosedIn (with_entry log entry) new
with_one_entry log entry old new was changed = with_one_block log (entry ∷ []) (length (entry_frame entry)) old new was changed
