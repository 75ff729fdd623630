-- The steps by which a store is made: other files go, the snapshot is written, and the log is begun.
use Rattle.std.proofs.Common.{◌≡◌, ◌≢◌, ◌⊎◌, inl, inr, ℕ, ◌≤◌, Bool, IsTrue, List, [], ◌++◌, length, refl, sym, ap, subst, ◌∙◌, arith}
use Rattle.std.specs.Prelude.{Some, None}
use Rattle.disk_trait.specs.Files.{Files, At, Overwritten, named}
use Rattle.disk_trait.specs.Images.{After, Since, IsOnly}
use Rattle.disk_trait.specs.declared.file_name.FileKind.TheVariants.{Log, Snapshot}
use Rattle.disk_trait.specs.declared.file_name.FileName.{FileName}
use Rattle.disk_trait.proofs.Moments.{wider, one_after_another, at_the_end}
use Rattle.flowfile_record.specs.Stored.{Kept}
use Rattle.record_codec.specs.declared.TheConstants.{FORMAT_VERSION}
use Rattle.flowfile_wal.specs.Calls.{InEach}
use Rattle.flowfile_wal.specs.Steps.{IsBegunIn}
use Rattle.flowfile_wal.proofs.Beginnings.{begun_in}
use Rattle.checkpoint_store.specs.Begun.{MayBegin, IsBegun, IsBegunOrNot, log_file}
use Rattle.checkpoint_store.specs.Snapshot.{snapshot, snapshot_file}
use Rattle.store_core.specs.Agreement.{IsUnmade}
use Rattle.store_core.specs.Opened.{IsNewStore}
use Rattle.store_core.proofs.Reviving.{unmade_log, made_log}

-- files in which the snapshot stands, and the log may be begun
pub record IsStaged (k : Kept) (files : Files) : Type 0 where
  pub begin : MayBegin 1 files
  pub rest : List ℕ
  pub snapshot : files (snapshot_file 1) ≡ snapshot FORMAT_VERSION k ++ rest

abbrev pub Makes : Kept → Files → Type 0
Makes k c = IsUnmade c ⊎ IsNewStore k c

not_snapshot : (n : ℕ) → named Log n ≢ snapshot_file 1
not_snapshot n same = let kinds : Log ≡ Snapshot = ap (λ (f : FileName). f.kind) same in absurd cc

-- without logs, once the snapshot is written
pub staged : (k : Kept) (old new : Files) → ((n : ℕ) → old (named Log n) ≡ []) → At (snapshot_file 1) (Overwritten 0 (snapshot FORMAT_VERSION k)) old new → IsStaged k new
staged k old new none written = record {
  begin = record {
    empty = written.others (log_file 1) (not_snapshot 1) ∙ none 1;
    greater = λ n up. inl (subst (λ (bytes : List ℕ). length bytes ≤ 1) (sym (written.others (log_file n) (not_snapshot n) ∙ none n)) (omega arith));
  };
  rest = _;
  snapshot = written.here;
}

log_step : (k : Kept) (old new : Files) → IsUnmade old → IsStaged k old → At (log_file 1) (λ before now. IsBegunOrNot FORMAT_VERSION 1 now) old new → Makes k new
log_step k old new was staged step = by_here step.here
  where
    by_here : IsBegunOrNot FORMAT_VERSION 1 (new (log_file 1)) → Makes k new
    by_here (inl passed) = inl (unmade_log old new was (record { here = passed; others = step.others }))
    by_here (inr begun) = inr (made_log k old new was staged.begin.greater (staged.rest, staged.snapshot) (record { here = begun; others = step.others }))

whole_step : (k : Kept) (old new : Files) → IsUnmade old → IsStaged k old → At (log_file 1) (λ before now. IsBegunOrNot FORMAT_VERSION 1 now) old new → IsBegun FORMAT_VERSION 1 new → IsNewStore k new
whole_step k old new was staged step begun = made_log k old new was staged.begin.greater (staged.rest, staged.snapshot) (record { here = begun.begun; others = step.others })

pub begun_files : (files : Files) → IsBegun FORMAT_VERSION 1 files → IsBegunIn FORMAT_VERSION 1 files
begun_files files begun = begun_in FORMAT_VERSION 1 files refl (refl, omega arith) begun.begun begun.greater

module _ {D : Type 0} (moment : D → ℕ) (images : D → ℕ → Files → Type 0) where
  pub since_unmade : (k : Kept) (old new : D) → Since moment images old new IsUnmade → Since moment images old new (Makes k)
  since_unmade k old new since = wider moment images old new IsUnmade (Makes k) since (λ c unmade. inl unmade)

  abbrev pub Begins : D → Files → Type 0
  Begins disk = After (At (log_file 1) (λ before now. IsBegunOrNot FORMAT_VERSION 1 now)) (images disk (moment disk))

  -- then the log is begun
  pub since_begin : (k : Kept) (old mid new : D) → Since moment images old mid IsUnmade → InEach (images mid (moment mid)) (IsStaged k) → Since moment images mid new (Begins mid) → Since moment images old new (Makes k)
  since_begin k old mid new first stage second =
      one_after_another moment images old mid new IsUnmade (Begins mid) (Makes k) first second (λ c unmade. inl unmade)
      (λ c after. log_step k after.0 c (at_the_end moment images old mid IsUnmade first after.0 after.1) (stage after.0 after.1) after.2)

  pub made_at_the_end : (k : Kept) (old mid new : D) → Since moment images old mid IsUnmade → InEach (images mid (moment mid)) (IsStaged k) → Since moment images mid new (Begins mid)
      → ((c : Files) → images new (moment new) c → IsBegun FORMAT_VERSION 1 c) → InEach (images new (moment new)) (IsNewStore k)
  made_at_the_end k old mid new first stage second begun c left =
      let after = at_the_end moment images mid new (Begins mid) second c left in
      whole_step k after.0 c (at_the_end moment images old mid IsUnmade first after.0 after.1) (stage after.0 after.1) after.2 (begun c left)

  -- what is held once the snapshot is written is what is left
  pub each_staged : (tells : Bool) (held : D → Files) (k : Kept) (old mid : D) → ((c : Files) → images mid (moment mid) c → IsTrue tells) → IsOnly (held mid) (images mid (moment mid))
      → (IsTrue tells → (n : ℕ) → (None ≡ Some n → ⊥) → held old (named Log n) ≡ []) → (IsTrue tells → At (snapshot_file 1) (Overwritten 0 (snapshot FORMAT_VERSION k)) (held old) (held mid))
      → InEach (images mid (moment mid)) (IsStaged k)
  each_staged tells held k old mid told only none written c left =
      let t = told c left in
      subst (IsStaged k) (sym (only c left)) (staged k (held old) (held mid) (λ n. none t n (λ (no_one : None ≡ Some n). absurd cc)) (written t))

  pub unmade_images : (tells : Bool) (held : D → Files) (disk : D) → ((c : Files) → images disk (moment disk) c → IsTrue tells) → IsOnly (held disk) (images disk (moment disk)) → (IsTrue tells → IsUnmade (held disk))
      → (d : Files) → images disk (moment disk) d → IsUnmade d
  unmade_images tells held disk told only unmade d left = subst IsUnmade (sym (only d left)) (unmade (told d left))
