-- The calls by which the next log takes over: its snapshot is written, its log is emptied and then begun.
use Rattle.std.proofs.Common.{◌≡◌, ℕ, Bool, IsTrue, List, [], length, sym, subst, ◌∙◌, inl, inr, arith, ◌≤◌}
use Rattle.std.proofs.lemmas.List.{nil_from_length}
use Rattle.disk_trait.specs.Files.{Files, At, Overwritten, Shortened}
use Rattle.disk_trait.specs.Images.{After, Since, IsOnly}
use Rattle.disk_trait.specs.declared.file_name.FileName.{FileName}
use Rattle.disk_trait.proofs.Moments.{wider, one_after_another, step_after_step, at_the_end}
use Rattle.flowfile_record.specs.Stored.{Kept}
use Rattle.record_codec.specs.Frames.{IsPassedOver}
use Rattle.record_codec.specs.declared.TheConstants.{FORMAT_VERSION}
use Rattle.flowfile_wal.specs.Calls.{InEach}
use Rattle.checkpoint_store.specs.Begun.{IsBegun, IsBegunOrNot, log_file}
use Rattle.checkpoint_store.specs.Snapshot.{snapshot, snapshot_file}
use Rattle.store_core.specs.Checkpoint.{ArePassedOver, HasTakenOver, TakesOver, Drops, AreGone}
use Rattle.store_core.proofs.Cutting.{each_file, shortened_same, shortened_in_turn}
use Rattle.store_core.proofs.NextLog.{Prepares, IsStaged, snapshot_no_log, prepares_snapshot, prepares_emptied, prepares_in_turn, takes_prepared, takes_begun, takes_in_turn}

abbrev pub StaysPassed : List ℕ → List ℕ → Type 0
StaysPassed old new = IsPassedOver old → IsPassedOver new

module _ {D : Type 0} (moment : D → ℕ) (images : D → ℕ → Files → Type 0) (number : ℕ) where
  abbrev pub Preparing : D → Files → Type 0
  Preparing disk = After (Prepares number) (images disk (moment disk))

  abbrev pub Staying : D → Files → Type 0
  Staying disk = After (At (log_file number) StaysPassed) (images disk (moment disk))

  abbrev pub Beginning : D → Files → Type 0
  Beginning disk = After (At (log_file number) (λ old new. IsBegunOrNot FORMAT_VERSION number new)) (images disk (moment disk))

  pub since_written : (P : List ℕ → List ℕ → Type 0) (old new : D) → InEach (images old (moment old)) (ArePassedOver number)
      → Since moment images old new (After (At (snapshot_file number) P) (images old (moment old))) → Since moment images old new (Preparing old)
  since_written P old new passed since =
      wider moment images old new (After (At (snapshot_file number) P) (images old (moment old))) (Preparing old) since
      (λ c after. (after.0, after.1, prepares_snapshot number after.0 c P (passed after.0 after.1) after.2))

  pub since_emptied : (old mid new : D) → Since moment images old mid (Preparing old) → Since moment images mid new (Staying mid) → Since moment images old new (Preparing old)
  since_emptied old mid new first second =
      one_after_another moment images old mid new (Preparing old) (Staying mid) (Preparing old) first second (λ c after. after)
      (λ c after.
      let before = at_the_end moment images old mid (Preparing old) first after.0 after.1 in
      (before.0, before.1, prepares_in_turn number before.0 after.0 c before.2 (prepares_emptied number after.0 c before.2.passed after.2)))

  module _ (k : Kept) where
    abbrev pub Taking : D → Files → Type 0
    Taking disk = After (TakesOver number k) (images disk (moment disk))

    pub since_prepared : (old new : D) → Since moment images old new (Preparing old) → Since moment images old new (Taking old)
    since_prepared old new since = wider moment images old new (Preparing old) (Taking old) since (λ c after. (after.0, after.1, takes_prepared number k after.0 c after.2))

    pub since_begun : (old mid new : D) → Since moment images old mid (Preparing old) → InEach (images mid (moment mid)) (IsStaged number k) → Since moment images mid new (Beginning mid)
        → Since moment images old new (Taking old)
    since_begun old mid new first stage second =
        one_after_another moment images old mid new (Preparing old) (Beginning mid) (Taking old) first second
        (λ c after. (after.0, after.1, takes_prepared number k after.0 c after.2))
        (λ c after.
        let before = at_the_end moment images old mid (Preparing old) first after.0 after.1 in
        (before.0, before.1, takes_in_turn number k before.0 after.0 c before.2 (takes_begun number after.0 c k before.2.passed (stage after.0 after.1) after.2)))

    pub taken_at_the_end : (mid new : D) → InEach (images mid (moment mid)) (IsStaged number k) → Since moment images mid new (Beginning mid)
        → ((c : Files) → images new (moment new) c → IsBegun FORMAT_VERSION number c) → InEach (images new (moment new)) (HasTakenOver number k)
    taken_at_the_end mid new stage second begun c left =
        let after = at_the_end moment images mid new (Beginning mid) second c left in
        let staged = stage after.0 after.1 in
        record { log = begun c left; snapshot = (staged.rest, after.2.others (snapshot_file number) (snapshot_no_log number number) ∙ staged.snapshot) }

    module _ (tells : Bool) (held : D → Files) (old one mid : D) (written : IsTrue tells → At (snapshot_file number) (Overwritten 0 (snapshot FORMAT_VERSION k)) (held old) (held one))
        (emptied : IsTrue tells → At (log_file number) (λ before now. now ≡ []) (held one) (held mid)) (only : IsOnly (held mid) (images mid (moment mid))) where
      -- what is held is what is left
      pub each_staged : ((c : Files) → images mid (moment mid) c → IsTrue tells) → Since moment images old mid (Preparing old) → InEach (images mid (moment mid)) (IsStaged number k)
      each_staged told since c left =
          let t = told c left in
          let after = at_the_end moment images old mid (Preparing old) since c left in
          let same : c ≡ held mid = only c left in
          let passed : ArePassedOver number (held mid) = subst (ArePassedOver number) same after.2.passed in
          let written_here = (written t).here in
          subst (IsStaged number k) (sym same) (record {
            begin = record {
              empty = (emptied t).here;
              greater = λ n above. passed n (omega (arith, above));
            };
            rest = _;
            snapshot = (emptied t).others (snapshot_file number) (snapshot_no_log number number) ∙ written_here;
          })

-- ---- a log and its snapshot go

pub drops_log : (number : ℕ) (old new : Files) → At (log_file number) (Shortened 0) old new → Drops number old new
drops_log number old new step = record {
  others = λ f other. step.others f (λ (same : f ≡ log_file number). other (inl same));
  shorter = each_file (Shortened 0) (log_file number) old new (shortened_same 0) step;
}

pub drops_snapshot : (number : ℕ) (old new : Files) → At (snapshot_file number) (Shortened 0) old new → Drops number old new
drops_snapshot number old new step = record {
  others = λ f other. step.others f (λ (same : f ≡ snapshot_file number). other (inr same));
  shorter = each_file (Shortened 0) (snapshot_file number) old new (shortened_same 0) step;
}

pub drops_in_turn : (number : ℕ) (a b c : Files) → Drops number a b → Drops number b c → Drops number a c
drops_in_turn number a b c first second = record {
  others = λ f other. second.others f other ∙ first.others f other;
  shorter = λ f. shortened_in_turn 0 (a f) (b f) (c f) (first.shorter f) (second.shorter f);
}

-- once both are cut nothing is left of them
pub gone_cut : (number : ℕ) (mid new : Files) → length (mid (log_file number)) ≤ 0 → At (snapshot_file number) (Shortened 0) mid new → length (new (snapshot_file number)) ≤ 0 → AreGone number new
gone_cut number mid new log step snapshot = (
  step.others (log_file number) (λ (same : log_file number ≡ snapshot_file number). snapshot_no_log number number (sym same)) ∙ nil_from_length (mid (log_file number)) (omega (arith, log)),
  nil_from_length (new (snapshot_file number)) (omega (arith, snapshot)),
)

module _ {D : Type 0} (moment : D → ℕ) (images : D → ℕ → Files → Type 0) (number : ℕ) where
  abbrev pub Dropping : D → Files → Type 0
  Dropping disk = After (Drops number) (images disk (moment disk))

  abbrev pub Cutting : FileName → D → Files → Type 0
  Cutting file disk = After (At file (Shortened 0)) (images disk (moment disk))

  pub since_log_cut : (old new : D) → Since moment images old new (Cutting (log_file number) old) → Since moment images old new (Dropping old)
  since_log_cut old new since = wider moment images old new (Cutting (log_file number) old) (Dropping old) since (λ c after. (after.0, after.1, drops_log number after.0 c after.2))

  pub since_both_cut : (old mid new : D) → Since moment images old mid (Cutting (log_file number) old) → Since moment images mid new (Cutting (snapshot_file number) mid) → Since moment images old new (Dropping old)
  since_both_cut old mid new first second =
      step_after_step moment images old mid new (At (log_file number) (Shortened 0)) (At (snapshot_file number) (Shortened 0)) (Drops number) (images old (moment old)) first second
      (λ d c r. drops_log number d c r) (λ d e c r s. drops_in_turn number d e c (drops_log number d e r) (drops_snapshot number e c s))
