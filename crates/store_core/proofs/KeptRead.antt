-- What is kept, by the log and the snapshot that were read.
use Rattle.std.proofs.Common.{◌≡◌, ℕ, ◌==◌, Bool, true, false, cond, List, [], ◌∷◌, ◌++◌, length, map, refl, sym, ap, ◌∙◌, eq-eqb}
use Rattle.std.specs.Prelude.{Option, None, Some, Result, Ok, Err, IfOk, OnOk, All, fold, bytes_eq, not, ◌&&◌, ◌||◌}
use Rattle.std.specs.Cmp.Lexicographic.{pointwise, nat_list_eq_equiv}
use Rattle.std.specs.List.{flat_map}
use Rattle.std.proofs.lemmas.List.Elements.{All-nil, All-cons}
use Rattle.std.proofs.lemmas.List.{length-replicate}
use Rattle.std.proofs.lemmas.List.Sums.{fold-append}
use Rattle.disk_trait.specs.Files.{Files, named}
use Rattle.disk_trait.specs.declared.file_name.FileKind.TheVariants.{Swap}
use Rattle.disk_trait.specs.declared.damage.Damage.{Damage}
use Rattle.disk_trait.specs.declared.damage.Damage.TheVariants.{Form}
use Rattle.disk_trait.specs.declared.file_name.FileName.{FileName}
use Rattle.flowfile_record.specs.Stored.{Kept}
use Rattle.flowfile_record.specs.declared.stored.SwapBatch.{SwapBatch}
use Rattle.record_codec.specs.declared.TheConstants.{FORMAT_VERSION}
use Rattle.checkpoint_store.specs.Reading.{snapshot_of}
use Rattle.flowfile_wal.specs.Current.{CurrentLog, current_log}
use Rattle.flowfile_wal.specs.Steps.{LogState, numbered_log, log_with}
use Rattle.kept_state.specs.Applied.{batch_swapped_out, batches_that_matter}
use Rattle.store_core.specs.Flow.{Flow, agrees_with}
use Rattle.kept_state.specs.Changes.{no_files}
use Rattle.kept_state.specs.Fits.{replayed}
use Rattle.store_core.specs.Kept.{of_flow, snapshot_for, with_least, least_of, absent, unless_swapped, fitted, with_entries, behind_log, kept_in}
use Rattle.store_core.specs.New.{first_stray, unless_stray, kept_anew}
use Rattle.store_core.proofs.Opening.{no_least}
use Rattle.store_core.proofs.Replaying.{Logged}

-- ---- batches

least_alone : (first : Option ℕ) (xs : List ℕ) → fold with_least first xs ≡ None → (first ≡ None) × (fold with_least None xs ≡ None)
least_alone None xs is = (refl, is)
least_alone (Some n) [] is = absurd cc
least_alone (Some n) (x ∷ xs) is = let rest = least_alone (with_least (Some n) x) xs is in absurd cc

nil_parts : (xs ys : List ℕ) → xs ++ ys ≡ [] → (xs ≡ []) × (ys ≡ [])
nil_parts [] ys is = (refl, is)
nil_parts (x ∷ xs) ys is = absurd cc

none_swapped : (entries : List Logged) → flat_map (λ e. batch_swapped_out e.1) entries ≡ [] → All (λ e. batch_swapped_out e.1 ≡ []) entries
none_swapped [] is = All-nil (λ (e : Logged). batch_swapped_out e.1 ≡ [])
none_swapped (e ∷ entries) is =
    let parts = nil_parts (batch_swapped_out e.1) (flat_map (λ (x : Logged). batch_swapped_out x.1) entries) is in
    All-cons (λ (x : Logged). batch_swapped_out x.1 ≡ []) e entries parts.0 (none_swapped entries parts.1)

no_batch : (batches : List SwapBatch) → map (λ b. b.batch) batches ≡ [] → batches ≡ []
no_batch [] is = refl
no_batch (b ∷ batches) is = absurd cc

-- the least of the batches that matter
pub least_matters : (k : Kept) (entries : List Logged) → least_of (batches_that_matter k entries) ≡ fold with_least (least_of (map (λ b. b.batch) k.batches)) (flat_map (λ e. batch_swapped_out e.1) entries)
least_matters k entries = fold-append with_least None (map (λ b. b.batch) k.batches) (flat_map (λ e. batch_swapped_out e.1) entries)

pub record HasNoBatch (k : Kept) (entries : List Logged) : Type 0 where
  pub batches : k.batches ≡ []
  pub swapped : All (λ e. batch_swapped_out e.1 ≡ []) entries

-- where there is none, no batch is swapped out
pub none_matters : (k : Kept) (entries : List Logged) → least_of (batches_that_matter k entries) ≡ None → HasNoBatch k entries
none_matters k entries is =
    let parts = least_alone (least_of (map (λ b. b.batch) k.batches)) (flat_map (λ e. batch_swapped_out e.1) entries) (sym (least_matters k entries) ∙ is) in
    record {
      batches = no_batch k.batches (no_least (map (λ b. b.batch) k.batches) parts.0);
      swapped = none_swapped entries (no_least (flat_map (λ e. batch_swapped_out e.1) entries) parts.1);
    }

-- the least that was found of the snapshot's batches, and then of the entries
pub found_least : (k : Kept) (entries read : List Logged) (first least : Option ℕ) → first ≡ least_of (map (λ b. b.batch) k.batches) → read ≡ entries
    → least ≡ fold with_least first (flat_map (λ e. batch_swapped_out e.1) read) → least_of (batches_that_matter k entries) ≡ least
found_least k entries read first least is_first is_read is =
    least_matters k entries
    ∙ ap (λ (f : Option ℕ). fold with_least f (flat_map (λ e. batch_swapped_out e.1) entries)) (sym is_first)
    ∙ ap (λ (es : List Logged). fold with_least first (flat_map (λ e. batch_swapped_out e.1) es)) (sym is_read)
    ∙ sym is

abbrev pub log_at : (number version : ℕ) → List Logged → (end : ℕ) → CurrentLog
log_at number version entries end = record { number = number; version = version; entries = entries; end = end }

pub swapped_damage : (k : Kept) (number version : ℕ) (entries : List Logged) (end batch : ℕ) → least_of (batches_that_matter k entries) ≡ Some batch
    → with_entries (log_at number version entries end) k (unless_swapped (least_of (batches_that_matter k entries))) ≡ Err (absent (named Swap batch))
swapped_damage k number version entries end batch is = ap (λ (least : Option ℕ). with_entries (log_at number version entries end) k (unless_swapped least)) is

pub entries_alone : (k : Kept) (number version : ℕ) (entries : List Logged) (end : ℕ) → least_of (batches_that_matter k entries) ≡ None
    → with_entries (log_at number version entries end) k (unless_swapped (least_of (batches_that_matter k entries))) ≡ fitted number (replayed no_files k entries)
entries_alone k number version entries end is = ap (λ (least : Option ℕ). with_entries (log_at number version entries end) k (unless_swapped least)) is

-- ---- the snapshot

by_test : (agrees : Bool) (file : FileName) (k : Kept) → agrees ≡ true → cond agrees (Ok k) (Err (Form file 0)) ≡ Ok k
by_test true file k is = refl
by_test false file k is = absurd cc

not_by_test : (agrees : Bool) (file : FileName) (k : Kept) → agrees ≡ false → cond agrees (Ok k) (Err (Form file 0)) ≡ Err (Form file 0)
not_by_test true file k is = absurd cc
not_by_test false file k is = refl

pub agreed_snapshot : (flow : Flow) (file : FileName) (bytes : List ℕ) (k : Kept) → snapshot_of FORMAT_VERSION file bytes ≡ Ok k → agrees_with flow k ≡ true → snapshot_for flow file bytes ≡ Ok k
unfolding snapshot_for
agreed_snapshot flow file bytes k is agrees = ap (of_flow flow file) is ∙ by_test (agrees_with flow k) file k agrees

pub other_snapshot : (flow : Flow) (file : FileName) (bytes : List ℕ) (k : Kept) → snapshot_of FORMAT_VERSION file bytes ≡ Ok k → agrees_with flow k ≡ false → snapshot_for flow file bytes ≡ Err (Form file 0)
unfolding snapshot_for
other_snapshot flow file bytes k is other = ap (of_flow flow file) is ∙ not_by_test (agrees_with flow k) file k other

pub damaged_snapshot : (flow : Flow) (file : FileName) (bytes : List ℕ) (damage : Damage) → snapshot_of FORMAT_VERSION file bytes ≡ Err damage → snapshot_for flow file bytes ≡ Err damage
unfolding snapshot_for
damaged_snapshot flow file bytes damage is = ap (of_flow flow file) is

-- ---- the log

pub kept_by_no_log : (flow : Flow) (lot : ℕ) (files : Files) → current_log files ≡ Ok None → kept_in flow lot files ≡ unless_stray flow lot (first_stray files)
unfolding kept_in
kept_by_no_log flow lot files none = ap (behind_log flow lot files) none

pub damaged_log : (flow : Flow) (lot : ℕ) (files : Files) (damage : Damage) → current_log files ≡ Err damage → kept_in flow lot files ≡ Err damage
unfolding kept_in
damaged_log flow lot files damage is = ap (behind_log flow lot files) is

pub by_current : (flow : Flow) (lot : ℕ) (files : Files) (current : Option CurrentLog) → current_log files ≡ Ok current → kept_in flow lot files ≡ behind_log flow lot files (Ok current)
unfolding kept_in
by_current flow lot files current is = ap (behind_log flow lot files) is

pub both_ok : {A E : Type 0} (r : Result A E) (P : A → Type 0) (Q : Type 0) (R : A → Type 0) → ((x : A) → P x → Q → R x) → IfOk r P → OnOk r Q → IfOk r R
both_ok (Ok x) P Q R to p q = to x p q
both_ok (Err e) P Q R to p q = tt

-- ---- a new store is of its flow

texts_same : (texts : List (List ℕ)) → pointwise bytes_eq texts texts ≡ true
texts_same [] = refl
texts_same (text ∷ texts) = ap (λ (b : Bool). b && pointwise bytes_eq texts texts) (nat_list_eq_equiv.refl text) ∙ texts_same texts

by_parts : (p q r : Bool) → q ≡ true → r ≡ true → (not p || (q && r)) ≡ true
by_parts true q r is also = ap (λ (b : Bool). b && r) is ∙ also
by_parts false q r is also = refl

pub own_flow : (flow : Flow) (lot : ℕ) → agrees_with flow (kept_anew flow lot) ≡ true
own_flow flow lot =
    by_parts (bytes_eq flow.digest flow.digest) (pointwise bytes_eq flow.connections flow.connections) (length (kept_anew flow lot).counts == flow.processors)
    (texts_same flow.connections) (eq-eqb (length (kept_anew flow lot).counts) flow.processors (length-replicate flow.processors 0))

-- what is kept, by the current log in memory
pub found_by : (flow : Flow) (lot : ℕ) (held mid : Files) (state : LogState) (entries : List Logged) (number : Option ℕ) (kept : Result Kept Damage) → mid ≡ held → number ≡ state.number
    → current_log held ≡ Ok (log_with state entries) → behind_log flow lot mid (Ok (numbered_log number state.version entries state.end)) ≡ kept → kept_in flow lot held ≡ kept
found_by flow lot held mid state entries number kept same is current read =
    by_current flow lot held (log_with state entries) current
    ∙ ap (λ (n : Option ℕ). behind_log flow lot held (Ok (numbered_log n state.version entries state.end))) (sym is)
    ∙ ap (λ (files : Files). behind_log flow lot files (Ok (numbered_log number state.version entries state.end))) (sym same)
    ∙ read
