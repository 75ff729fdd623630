-- Files whose log got one session's entry more keep what is kept after it.
use Rattle.std.proofs.Common.{◌≡◌, ℕ, Bool, true, false, cond, List, [], ◌∷◌, ◌++◌, sym, ap, ◌∙◌, inl, inr}
use Rattle.std.specs.Prelude.{Option, None, Some, Result, Ok, Err, map}
use Rattle.std.specs.List.{flat_map}
use Rattle.std.proofs.lemmas.Bool.{cases_Bool}
use Rattle.std.proofs.lemmas.Grind.{flat_map-append}
use Rattle.std.proofs.lemmas.List.{append-nil}
use Rattle.disk_trait.specs.Files.{Files, named}
use Rattle.disk_trait.specs.declared.damage.Damage.{Damage}
use Rattle.disk_trait.specs.declared.file_name.FileKind.TheVariants.{Log, Snapshot}
use Rattle.disk_trait.specs.declared.file_name.FileName.{FileName}
use Rattle.flowfile_record.specs.Stored.{Kept}
use Rattle.record_codec.specs.declared.entry.LogEntry.{LogEntry}
use Rattle.checkpoint_store.specs.Snapshot.{snapshot_file}
use Rattle.flowfile_wal.specs.Current.{CurrentLog}
use Rattle.flowfile_wal.specs.Steps.{AddsEntry, IsClosedIn, with_entry}
use Rattle.flowfile_wal.proofs.Files.{with_one_entry}
use Rattle.kept_state.specs.Applied.{applied, batch_swapped_out, batches_that_matter}
use Rattle.kept_state.specs.Changes.{no_files}
use Rattle.kept_state.specs.Fits.{entry_suits, replayed}
use Rattle.store_core.specs.Flow.{Flow}
use Rattle.store_core.specs.Kept.{kept_in, snapshot_for, least_of, unless_swapped, batches_in, fitted, with_entries, behind_snapshot}
use Rattle.store_core.proofs.Agreeing.{kept_by_log}

-- ---- one entry more is applied

abbrev kept_is : Kept → Result Kept Damage
kept_is k = Ok k

abbrev replayed_is : Kept → Result Kept ℕ
replayed_is k = Ok k

replay_step : (k : Kept) (e : ℕ × LogEntry) (entries : List (ℕ × LogEntry)) (fit : Bool) → entry_suits no_files k e.1 ≡ fit
    → replayed no_files k (e ∷ entries) ≡ cond fit (replayed no_files (applied no_files k e.1) entries) (Err e.0)
replay_step k e entries fit is = ap (λ b. cond b (replayed no_files (applied no_files k e.1) entries) (Err e.0)) is

replay_more : (k l : Kept) (entries : List (ℕ × LogEntry)) (at : ℕ) (e : LogEntry) → replayed no_files k entries ≡ replayed_is l → entry_suits no_files l e ≡ true
    → replayed no_files k (entries ++ (at, e) ∷ []) ≡ replayed_is (applied no_files l e)
replay_more k l [] at e is fit =
    let same : k ≡ l = cc in
    replay_step k (at, e) [] true (ap (λ (m : Kept). entry_suits no_files m e) same ∙ fit) ∙ ap (λ (m : Kept). replayed_is (applied no_files m e)) same
replay_more k l (first ∷ entries) at e is fit = elim (cases_Bool (entry_suits no_files k first.1)) [
  | inl t ↦
      let rest : replayed no_files (applied no_files k first.1) entries ≡ replayed_is l = sym (replay_step k first entries true t) ∙ is in
      replay_step k first (entries ++ (at, e) ∷ []) true t ∙ replay_more (applied no_files k first.1) l entries at e rest fit
  | inr f ↦ absurd (let none : Err first.0 ≡ replayed_is l = sym (replay_step k first entries false f) ∙ is in cc)
]

unfitted : (number : ℕ) (k : Kept) (r : Result Kept ℕ) → fitted number r ≡ kept_is k → r ≡ replayed_is k
unfitted number k (Ok m) is = let same : m ≡ k = cc in ap replayed_is same
unfitted number k (Err at) is = absurd cc

entries_more : (log : CurrentLog) (k0 k : Kept) (e : LogEntry) (least : Option ℕ) → entry_suits no_files k e ≡ true → with_entries log k0 (unless_swapped least) ≡ kept_is k
    → with_entries (with_entry log e) k0 (unless_swapped least) ≡ kept_is (applied no_files k e)
entries_more log k0 k e (Some batch) fit is = absurd cc
entries_more log k0 k e None fit is =
    ap (fitted log.number) (replay_more k0 k log.entries log.end e (unfitted log.number k (replayed no_files k0 log.entries) is) fit)

batches_more : (k0 : Kept) (entries : List (ℕ × LogEntry)) (at : ℕ) (e : LogEntry) → batch_swapped_out e ≡ []
    → batches_that_matter k0 (entries ++ (at, e) ∷ []) ≡ batches_that_matter k0 entries
batches_more k0 entries at e none =
    let swapped : ℕ × LogEntry → List ℕ = λ x. batch_swapped_out x.1 in
    let last : flat_map swapped ((at, e) ∷ []) ≡ [] = append-nil (batch_swapped_out e) ∙ none in
    let more : flat_map swapped (entries ++ (at, e) ∷ []) ≡ flat_map swapped entries =
    flat_map-append swapped entries ((at, e) ∷ []) ∙ ap (λ (l : List ℕ). flat_map swapped entries ++ l) last ∙ append-nil (flat_map swapped entries) in
    ap (λ (l : List ℕ). map (λ b. b.batch) k0.batches ++ l) more

snapshot_more : (files : Files) (log : CurrentLog) (k : Kept) (e : LogEntry) (read : Result Kept Damage) → batch_swapped_out e ≡ [] → entry_suits no_files k e ≡ true
    → behind_snapshot files log read ≡ kept_is k → behind_snapshot files (with_entry log e) read ≡ kept_is (applied no_files k e)
snapshot_more files log k e (Err damage) none fit is = absurd cc
snapshot_more files log k e (Ok k0) none fit is =
    ap (λ (batches : List ℕ). with_entries (with_entry log e) k0 (batches_in files batches)) (batches_more k0 log.entries log.end e none)
    ∙ entries_more log k0 k e (least_of (batches_that_matter k0 log.entries)) fit is

-- ---- files

pub kept_with_entry : (flow : Flow) (lot : ℕ) (old new : Files) (log : CurrentLog) (k : Kept) (e : LogEntry) → IsClosedIn log old → AddsEntry log.number e old new
    → batch_swapped_out e ≡ [] → entry_suits no_files k e ≡ true → kept_in flow lot old ≡ kept_is k → kept_in flow lot new ≡ kept_is (applied no_files k e)
kept_with_entry flow lot old new log k e was added none fit is =
    let now = with_one_entry log e old new was added in
    let snapshot : new (snapshot_file log.number) ≡ old (snapshot_file log.number) =
    added.others (snapshot_file log.number) (λ (same : snapshot_file log.number ≡ named Log log.number).
    let kinds : Snapshot ≡ Log = ap (λ (f : FileName). f.kind) same in absurd cc) in
    let read : List ℕ → Result Kept Damage = snapshot_for flow (snapshot_file log.number) in
    let before : behind_snapshot old log (read (old (snapshot_file log.number))) ≡ kept_is k = sym (kept_by_log flow lot old log was.current) ∙ is in
    kept_by_log flow lot new (with_entry log e) now.current
    ∙ ap (λ (bytes : List ℕ). behind_snapshot new (with_entry log e) (read bytes)) snapshot
    ∙ snapshot_more old log k e (read (old (snapshot_file log.number))) none fit before
