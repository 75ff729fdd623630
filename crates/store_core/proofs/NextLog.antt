-- The next log takes over from the current one: what the files keep, by their logs and snapshots alone.
use Rattle.std.proofs.Common.{◌≡◌, ◌≢◌, ◌⊎◌, ⊎_elim, inl, inr, ℕ, ◌+◌, ◌^◌, ◌<◌, ◌≤◌, ◌==◌, ltb, Bool, true, false, List, [], ◌++◌, length, map, refl, sym, ap, subst, ◌∙◌, arith, eq-eqb}
use Rattle.std.specs.Prelude.{Some, Ok, nat_lt, ◌&&◌, slice_index}
use Rattle.std.proofs.lemmas.Bool.{false≢true, cases_eq, cases_lt}
use Rattle.std.proofs.lemmas.List.{length-replicate}
use Rattle.disk_trait.specs.Files.{Files, At, named}
use Rattle.disk_trait.specs.declared.file_name.FileKind.TheVariants.{Log, Snapshot}
use Rattle.disk_trait.specs.declared.file_name.FileName.{FileName}
use Rattle.disk_trait.proofs.Search.{greatest_found, greatest_is}
use Rattle.flowfile_record.specs.Encoding.{IsNumber}
use Rattle.flowfile_record.specs.Stored.{Kept}
use Rattle.flowfile_record.specs.declared.stored.SwapBatch.{SwapBatch}
use Rattle.record_codec.specs.declared.TheConstants.{FORMAT_VERSION}
use Rattle.record_codec.specs.declared.log.TheConstants.{OPEN_GATE}
use Rattle.record_codec.specs.Frames.{counts, IsPassedOver}
use Rattle.checkpoint_store.specs.Begun.{IsBegunOrNot, MayBegin, log_file}
use Rattle.checkpoint_store.specs.Consistent.{IsConsistent}
use Rattle.checkpoint_store.specs.Reading.{snapshot_of}
use Rattle.checkpoint_store.specs.Snapshot.{snapshot, snapshot_file}
use Rattle.checkpoint_store.proofs.ReadBack.{read_back}
use Rattle.flowfile_wal.specs.Current.{CurrentLog, current_log, current_number, log_in, log_of_number, of_some}
use Rattle.flowfile_wal.specs.Steps.{LogState, IsClosedIn, IsReadyIn}
use Rattle.flowfile_wal.proofs.Beginnings.{begun_in}
use Rattle.flowfile_wal.proofs.States.{begun_ready}
use Rattle.store_core.specs.Checkpoint.{IsOfNumber, ArePassedOver, HasTakenOver, TakesOver, Drops}
use Rattle.store_core.specs.Flow.{Flow, flow_in, agrees_with}
use Rattle.store_core.specs.Kept.{kept_in, behind_snapshot, with_entries, least_of, unless_swapped}
use Rattle.store_core.specs.New.{kept_anew}
use Rattle.store_core.specs.Touched.{TouchesOnly}
use Rattle.store_core.proofs.Agreeing.{kept_by_log, kept_alike}
use Rattle.store_core.proofs.KeptRead.{agreed_snapshot, own_flow}
use Rattle.store_core.proofs.Opening.{agrees_as}
use Rattle.store_core.proofs.Reviving.{passed_over, ready_number}

-- ---- which file is which

pub log_no_snapshot : (m n : ℕ) → log_file m ≢ snapshot_file n
log_no_snapshot m n same = let kinds : Log ≡ Snapshot = ap (λ (f : FileName). f.kind) same in absurd cc

pub snapshot_no_log : (m n : ℕ) → snapshot_file m ≢ log_file n
snapshot_no_log m n same = log_no_snapshot n m (sym same)

-- neither a log nor its snapshot is one of another number
pub log_of_other : (m n : ℕ) → (m ≡ n → ⊥) → IsOfNumber n (log_file m) → ⊥
log_of_other m n other (inl same) = other (ap (λ (f : FileName). f.number) same)
log_of_other m n other (inr same) = log_no_snapshot m n same

pub snapshot_of_other : (m n : ℕ) → (m ≡ n → ⊥) → IsOfNumber n (snapshot_file m) → ⊥
snapshot_of_other m n other (inl same) = snapshot_no_log m n same
snapshot_of_other m n other (inr same) = other (ap (λ (f : FileName). f.number) same)

-- ---- logs that are passed over

by_gate : (p q : Bool) → (p && q) ≡ false → (p ≡ false) ⊎ (q ≡ false)
by_gate true q is = inr is
by_gate false q is = inl refl

not_below : (m n : ℕ) → ltb m n ≡ false → n ≤ m
not_below m n is = grind arith

over_passed : (bytes : List ℕ) → counts bytes ≡ false → IsPassedOver bytes
over_passed bytes is = ⊎_elim
    (λ (shut : (slice_index bytes 0 == OPEN_GATE) ≡ false).
    let closed : slice_index bytes 0 ≢ OPEN_GATE = λ (opens : slice_index bytes 0 ≡ OPEN_GATE). false≢true (sym shut ∙ eq-eqb (slice_index bytes 0) OPEN_GATE opens) in
    inr closed)
    (λ (short : nat_lt 1 (length bytes) ≡ false). inl (not_below 1 (length bytes) short))
    (by_gate (slice_index bytes 0 == OPEN_GATE) (nat_lt 1 (length bytes)) is)

above_current : (number m : ℕ) (files : Files) → current_number files ≡ Some number → number < m → m < 2 ^ 64 → counts (files (log_file m)) ≡ false
unfolding current_number
above_current number m files is up lt = (greatest_found (λ n. counts (files (named Log n))) (2 ^ 64)).past number m is up lt

-- each log behind the current one is passed over
pub passed_behind : (state : LogState) (number : ℕ) (files : Files) → state.number ≡ Some number → IsReadyIn state files
    → ((f : FileName) → 2 ^ 64 ≤ f.number → files f ≡ []) → ArePassedOver (number + 1) files
passed_behind state number files is ready ends n le = ⊎_elim
    (λ (lt : n < 2 ^ 64). over_passed (files (log_file n)) (above_current number n files (ready_number state number files is ready) (omega (arith, le)) lt))
    (λ (past : 2 ^ 64 ≤ n). inl (omega (arith, ap length (ends (log_file n) past))))
    (cases_lt n (2 ^ 64))

-- ---- the current log, while the next one is passed over

module _ (number next : ℕ) (old new : Files) (up : number < next) (step : TouchesOnly (IsOfNumber next) old new) (passed : ArePassedOver next new) where
  same_log : (n : ℕ) → n < next → new (log_file n) ≡ old (log_file n)
  same_log n lt = step (log_file n) (log_of_other n next (λ (same : n ≡ next). omega (arith, same, lt)))

  still_number : current_number old ≡ Some number → current_number new ≡ Some number
  unfolding current_number
  still_number is =
      let found = greatest_found (λ n. counts (old (named Log n))) (2 ^ 64) in
      greatest_is (λ n. counts (new (named Log n))) (2 ^ 64) number (found.below number is) (ap counts (same_log number up) ∙ found.passing number is)
      (λ m above lt. ⊎_elim
      (λ (low : m < next). ap counts (same_log m low) ∙ found.past number m is above lt)
      (λ (high : next ≤ m). passed_over (new (log_file m)) (passed m high))
      (cases_lt m next))

  still_current : current_number old ≡ Some number → current_log new ≡ current_log old
  unfolding current_log
  still_current is =
      ap (log_of_number new) (still_number is)
      ∙ ap (λ (bytes : List ℕ). of_some (log_in number bytes)) (same_log number up)
      ∙ sym (ap (log_of_number old) is)

  pub kept_still : (flow : Flow) (lot : ℕ) (state : LogState) → state.number ≡ Some number → IsReadyIn state old → kept_in flow lot new ≡ kept_in flow lot old
  kept_still flow lot state is ready =
      let log = ready.log in
      let both : Some log.number ≡ Some number = sym ready.number ∙ is in
      let same : log.number ≡ number = cc in
      kept_alike flow lot old new log ready.ready.current (still_current (ready_number state number old is ready) ∙ ready.ready.current)
      (step (snapshot_file log.number) (snapshot_of_other log.number next (λ (other : log.number ≡ next). omega (arith, same, other, up))))

-- ---- the next log, once it has taken over

abbrev pub next_log : ℕ → CurrentLog
next_log number = record { number = number; version = FORMAT_VERSION; entries = []; end = 47 }

pub taken_current : (number : ℕ) (k : Kept) (files : Files) → IsNumber number → HasTakenOver number k files → IsClosedIn (next_log number) files
taken_current number k files is taken = begun_ready FORMAT_VERSION number files (begun_in FORMAT_VERSION number files refl (refl, is) taken.log.begun taken.log.greater)

-- what is kept is of its own flow
of_its_flow : (k : Kept) → agrees_with (flow_in k) k ≡ true
of_its_flow k =
    let flow = flow_in k in
    let counted : length (kept_anew flow 0).counts ≡ flow.processors = length-replicate flow.processors 0 in
    agrees_as flow (kept_anew flow 0) k (λ i. record { digest = flow.digest; connections = flow.connections; processors = sym counted i }) (own_flow flow 0)

pub taken_kept : (lot number : ℕ) (k : Kept) (files : Files) → IsNumber number → HasTakenOver number k files → IsConsistent k → k.batches ≡ [] → kept_in (flow_in k) lot files ≡ Ok k
taken_kept lot number k files is taken consistent none =
    let flow = flow_in k in
    let file = snapshot_file number in
    kept_by_log flow lot files (next_log number) (taken_current number k files is taken).current
    ∙ ap (behind_snapshot files (next_log number))
    (agreed_snapshot flow file (files file) k (ap (snapshot_of FORMAT_VERSION file) taken.snapshot.1 ∙ read_back FORMAT_VERSION file k taken.snapshot.0 consistent) (of_its_flow k))
    ∙ ap (λ (batches : List SwapBatch). with_entries (next_log number) k (unless_swapped (least_of (map (λ b. b.batch) batches ++ [])))) none

-- a log of another number and its snapshot go
pub taken_dropped : (number next : ℕ) (k : Kept) (old new : Files) → number < next → HasTakenOver next k old → Drops number old new → HasTakenOver next k new
taken_dropped number next k old new up taken step = record {
  log = record {
    begun = step.others (log_file next) (log_of_other next number (λ (same : next ≡ number). omega (arith, same, up))) ∙ taken.log.begun;
    greater = λ n above. subst IsPassedOver (sym (step.others (log_file n) (log_of_other n number (λ (same : n ≡ number). omega (arith, same, up, above))))) (taken.log.greater n above);
  };
  snapshot = (taken.snapshot.0, step.others (snapshot_file next) (snapshot_of_other next number (λ (same : next ≡ number). omega (arith, same, up))) ∙ taken.snapshot.1);
}

-- ---- how it takes over

-- the log of this number is passed over, and nothing else changed but it and its snapshot
pub record Prepares (number : ℕ) (old new : Files) : Type 0 where
  pub others : TouchesOnly (IsOfNumber number) old new
  pub passed : ArePassedOver number new

-- the snapshot stands there, and the log may be begun
pub record IsStaged (number : ℕ) (k : Kept) (files : Files) : Type 0 where
  pub begin : MayBegin number files
  pub rest : List ℕ
  pub snapshot : files (snapshot_file number) ≡ snapshot FORMAT_VERSION k ++ rest

module _ (number : ℕ) (old new : Files) where
  -- the snapshot is written
  pub prepares_snapshot : (P : List ℕ → List ℕ → Type 0) → ArePassedOver number old → At (snapshot_file number) P old new → Prepares number old new
  prepares_snapshot P passed step = record {
    others = λ f other. step.others f (λ (same : f ≡ snapshot_file number). other (inr same));
    passed = λ n le. subst IsPassedOver (sym (step.others (log_file n) (log_no_snapshot n number))) (passed n le);
  }

  -- the log is emptied
  pub prepares_emptied : ArePassedOver number old → At (log_file number) (λ before now. IsPassedOver before → IsPassedOver now) old new → Prepares number old new
  prepares_emptied passed step = record {
    others = λ f other. step.others f (λ (same : f ≡ log_file number). other (inl same));
    passed = λ n le. ⊎_elim
        (λ (same : n ≡ number). subst (λ (m : ℕ). IsPassedOver (new (log_file m))) (sym same) (step.here (passed number (omega arith))))
        (λ (isnt : n ≡ number → ⊥). subst IsPassedOver (sym (step.others (log_file n) (λ (same : log_file n ≡ log_file number). isnt (ap (λ (f : FileName). f.number) same)))) (passed n le))
        (cases_eq n number);
  }

  -- the log is begun, and may have been opened
  pub takes_begun : (k : Kept) → ArePassedOver number old → IsStaged number k old → At (log_file number) (λ before now. IsBegunOrNot FORMAT_VERSION number now) old new → TakesOver number k old new
  takes_begun k passed staged step = record {
    others = λ f other. step.others f (λ (same : f ≡ log_file number). other (inl same));
    log = by_here step.here;
  }
    where
      other_log : (n : ℕ) → (n ≡ number → ⊥) → new (log_file n) ≡ old (log_file n)
      other_log n isnt = step.others (log_file n) (λ (same : log_file n ≡ log_file number). isnt (ap (λ (f : FileName). f.number) same))

      by_here : IsBegunOrNot FORMAT_VERSION number (new (log_file number)) → ArePassedOver number new ⊎ HasTakenOver number k new
      by_here (inl over) = inl (λ n le. ⊎_elim
          (λ (same : n ≡ number). subst (λ (m : ℕ). IsPassedOver (new (log_file m))) (sym same) over)
          (λ (isnt : n ≡ number → ⊥). subst IsPassedOver (sym (other_log n isnt)) (passed n le))
          (cases_eq n number))
      by_here (inr begun) = inr (record {
        log = record {
          begun = begun;
          greater = λ n above. subst IsPassedOver (sym (other_log n (λ (same : n ≡ number). omega (arith, same, above)))) (staged.begin.greater n above);
        };
        snapshot = (staged.rest, step.others (snapshot_file number) (snapshot_no_log number number) ∙ staged.snapshot);
      })

pub prepares_in_turn : (number : ℕ) (a b c : Files) → Prepares number a b → Prepares number b c → Prepares number a c
prepares_in_turn number a b c first second = record { others = λ f other. second.others f other ∙ first.others f other; passed = second.passed }

pub takes_prepared : (number : ℕ) (k : Kept) (old new : Files) → Prepares number old new → TakesOver number k old new
takes_prepared number k old new step = record { others = step.others; log = inl step.passed }

pub takes_in_turn : (number : ℕ) (k : Kept) (a b c : Files) → Prepares number a b → TakesOver number k b c → TakesOver number k a c
takes_in_turn number k a b c first second = record { others = λ f other. second.others f other ∙ first.others f other; log = second.log }
