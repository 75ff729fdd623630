-- What stays of a store whose log is mended while other files go, and of one that is being made.
use Rattle.std.proofs.Common.{◌≡◌, ◌≢◌, ⊎_elim, inl, inr, ℕ, ◌^◌, ◌<◌, ◌≤◌, ◌==◌, Bool, true, false, List, [], ◌++◌, length, take, drop, get_or, refl, sym, ap, subst, ◌∙◌, arith}
use Rattle.std.specs.Prelude.{Option, Some, None, All, nat_lt, ◌&&◌}
use Rattle.std.proofs.lemmas.Bool.{cases_eq, eqb-true}
use Rattle.std.proofs.lemmas.List.{nil_from_length}
use Rattle.std.proofs.lemmas.List.Elements.{All-nil}
use Rattle.disk_trait.specs.Files.{Files, At, named}
use Rattle.disk_trait.specs.Images.{After, Since}
use Rattle.disk_trait.specs.declared.file_name.FileKind.TheVariants.{Log, Snapshot, Swap, Claim, Events}
use Rattle.disk_trait.specs.declared.file_name.FileName.{FileName}
use Rattle.disk_trait.proofs.Moments.{wider, step_after_step}
use Rattle.disk_trait.proofs.Search.{greatest_found, greatest_is, greatest_none}
use Rattle.flowfile_record.specs.Stored.{Kept}
use Rattle.flowfile_record.specs.declared.content.ContentRef.{ContentRef}
use Rattle.record_codec.specs.declared.log.TheConstants.{OPEN_GATE}
use Rattle.record_codec.specs.Frames.{counts, IsPassedOver, begun_log}
use Rattle.record_codec.specs.declared.TheConstants.{FORMAT_VERSION}
use Rattle.checkpoint_store.specs.Begun.{log_file}
use Rattle.checkpoint_store.specs.Snapshot.{snapshot, snapshot_file}
use Rattle.content_repo.specs.Claims.{claim}
use Rattle.content_repo.specs.Slots.{end_of}
use Rattle.flowfile_wal.specs.Current.{current_number, current_log, log_in, of_some, log_of_number}
use Rattle.flowfile_wal.specs.Steps.{LogState, SameLog, IsReadyIn, EndsClosed}
use Rattle.flowfile_wal.proofs.Files.{alike, current_is}
use Rattle.prov_store.specs.Events.{events_file}
use Rattle.store_core.specs.Agreement.{Needs, IsPlain, Agrees, SameContent, SameEventFiles, IsUnmade}
use Rattle.store_core.specs.Discard.{Discards}
use Rattle.store_core.specs.Opened.{IsNewStore}
use Rattle.store_core.proofs.Agreeing.{agrees_in_turn}
use Rattle.store_core.proofs.Discarding.{passed_short}
use Rattle.store_core.proofs.EventsStay.{same_covered}

-- ---- a current log

pub same_claims : (old new : Files) (contents : List ContentRef) → ((k : ℕ) → new (claim k) ≡ old (claim k)) → All (SameContent old new) contents
same_claims old new contents same = λ k d lt.
    let at = get_or contents k d in
    record {
      bytes = ap (λ (bytes : List ℕ). take at.size (drop at.offset bytes)) (same at.slot);
      covered = λ h. subst (λ (bytes : List ℕ). end_of at ≤ length bytes) (sym (same at.slot)) h;
    }

pub plain_agrees : (needs : Needs) (number : ℕ) (old new : Files) → IsPlain needs number → current_log new ≡ current_log old
    → new (snapshot_file number) ≡ old (snapshot_file number) → All (SameContent old new) needs.contents → SameEventFiles old new → Agrees needs old new
plain_agrees needs number old new plain log snapshot contents events = record {
  log = log;
  snapshot = subst (λ (n : ℕ). new (snapshot_file n) ≡ old (snapshot_file n)) (sym plain.log) snapshot;
  batches = subst (λ (bs : List ℕ). All (λ b. new (named Swap b) ≡ old (named Swap b)) bs) (sym plain.batches) (All-nil (λ b. new (named Swap b) ≡ old (named Swap b)));
  contents = contents;
  events = same_covered 0 needs.last_event old new events;
}

-- a step on a file of another kind
pub same_events_at : (file : FileName) (step : List ℕ → List ℕ → Type 0) (old new : Files) → file.kind ≢ Events → At file step old new → SameEventFiles old new
same_events_at file step old new other changed k = changed.others (events_file k) (λ (same : events_file k ≡ file). other (sym (ap (λ (f : FileName). f.kind) same)))

pub same_events_logged : (number : ℕ) (step : List ℕ → List ℕ → Type 0) (old new : Files) → At (named Log number) step old new → SameEventFiles old new
same_events_logged number step old new = same_events_at (named Log number) step old new (λ (kinds : Log ≡ Events). absurd cc)

pub same_events_snapshot : (number : ℕ) (step : List ℕ → List ℕ → Type 0) (old new : Files) → At (snapshot_file number) step old new → SameEventFiles old new
same_events_snapshot number step old new = same_events_at (snapshot_file number) step old new (λ (kinds : Snapshot ≡ Events). absurd cc)

pub same_events_discarded : (current : Option ℕ) (old new : Files) → Discards current old new → SameEventFiles old new
same_events_discarded current old new step k = step.events (events_file k) refl

pub mended_agrees : (needs : Needs) (number : ℕ) (old new : Files) → IsPlain needs number → At (named Log number) (SameLog number) old new → Agrees needs old new
mended_agrees needs number old new plain changed =
    plain_agrees needs number old new plain (alike number old new changed)
    (changed.others (snapshot_file number) (λ (same : snapshot_file number ≡ named Log number). let kinds : Snapshot ≡ Log = ap (λ (f : FileName). f.kind) same in absurd cc))
    (same_claims old new needs.contents (λ k. changed.others (claim k) (λ (same : claim k ≡ named Log number). let kinds : Claim ≡ Log = ap (λ (f : FileName). f.kind) same in absurd cc)))
    (same_events_logged number (SameLog number) old new changed)

pub discarded_number : (number : ℕ) (old new : Files) → current_number old ≡ Some number → Discards (Some number) old new → current_number new ≡ Some number
unfolding current_number
discarded_number number old new is step =
    let found = greatest_found (λ n. counts (old (named Log n))) (2 ^ 64) in
    greatest_is (λ n. counts (new (named Log n))) (2 ^ 64) number (found.below number is) (ap counts (step.log number refl) ∙ found.passing number is)
    (λ m up lt. step.passed m up (found.past number m is up lt))

pub discarded_log : (number : ℕ) (old new : Files) → current_number old ≡ Some number → Discards (Some number) old new → current_log new ≡ current_log old
unfolding current_log
discarded_log number old new is step =
    ap (log_of_number new) (discarded_number number old new is step)
    ∙ ap (λ (bytes : List ℕ). of_some (log_in number bytes)) (step.log number refl)
    ∙ sym (ap (log_of_number old) is)

pub discarded_agrees : (needs : Needs) (number : ℕ) (old new : Files) → IsPlain needs number → current_number old ≡ Some number → Discards (Some number) old new → Agrees needs old new
discarded_agrees needs number old new plain is step =
    plain_agrees needs number old new plain (discarded_log number old new is step) (step.snapshot number refl)
    (same_claims old new needs.contents (λ k. step.claims (claim k) refl)) (same_events_discarded (Some number) old new step)

pub ready_number : (state : LogState) (number : ℕ) (files : Files) → state.number ≡ Some number → IsReadyIn state files → current_number files ≡ Some number
ready_number state number files is ready = (current_is files ready.log ready.ready.current).number ∙ sym ready.number ∙ is

pub discarded_ready : (state : LogState) (number : ℕ) (old new : Files) → state.number ≡ Some number → IsReadyIn state old → Discards (Some number) old new → IsReadyIn state new
discarded_ready state number old new is ready step =
    let both : Some ready.log.number ≡ Some number = sym ready.number ∙ is in
    let same : ready.log.number ≡ number = cc in
    record {
      log = ready.log;
      number = ready.number;
      version = ready.version;
      end = ready.end;
      ready = record {
        current = discarded_log number old new (ready_number state number old is ready) step ∙ ready.ready.current;
        closed = subst (λ (bytes : List ℕ). EndsClosed ready.log.end bytes) (sym (step.log ready.log.number (ap Some (sym same)))) ready.ready.closed;
      };
    }

module _ {D : Type 0} (moment : D → ℕ) (images : D → ℕ → Files → Type 0) (needs : Needs) where
  abbrev pub Agreeing : D → Files → Type 0
  Agreeing disk = After (Agrees needs) (images disk (moment disk))

  pub since_agreeing : (old mid new : D) → Since moment images old mid (Agreeing old) → Since moment images mid new (Agreeing mid) → Since moment images old new (Agreeing old)
  since_agreeing old mid new first second =
      step_after_step moment images old mid new (Agrees needs) (Agrees needs) (Agrees needs) (images old (moment old)) first second
      (λ d c r. r) (λ d e c r s. agrees_in_turn needs d e c r s)

  pub since_agrees : (old new : D) (step : Files → Files → Type 0) → Since moment images old new (After step (images old (moment old)))
      → ((d c : Files) → images old (moment old) d → step d c → Agrees needs d c) → Since moment images old new (Agreeing old)
  since_agrees old new step since is = wider moment images old new (After step (images old (moment old))) (Agreeing old) since (λ c after. (after.0, after.1, is after.0 c after.1 after.2))

-- ---- the files of events

module _ {D : Type 0} (moment : D → ℕ) (images : D → ℕ → Files → Type 0) where
  abbrev pub EventsStaying : D → Files → Type 0
  EventsStaying disk = After SameEventFiles (images disk (moment disk))

  pub since_events : (old new : D) (step : Files → Files → Type 0) → Since moment images old new (After step (images old (moment old)))
      → ((d c : Files) → step d c → SameEventFiles d c) → Since moment images old new (EventsStaying old)
  since_events old new step since is = wider moment images old new (After step (images old (moment old))) (EventsStaying old) since (λ c after. (after.0, after.1, is after.0 c after.2))

  pub since_events_in_turn : (old mid new : D) → Since moment images old mid (EventsStaying old) → Since moment images mid new (EventsStaying mid) → Since moment images old new (EventsStaying old)
  since_events_in_turn old mid new first second =
      step_after_step moment images old mid new SameEventFiles SameEventFiles SameEventFiles (images old (moment old)) first second
      (λ d c r. r) (λ d e c r s k. s k ∙ r k)

-- ---- a store that is made

pub passed_over : (bytes : List ℕ) → IsPassedOver bytes → counts bytes ≡ false
passed_over bytes (inl short) = passed_short bytes short
passed_over bytes (inr shut) = by_gate (get_or bytes 0 0 == OPEN_GATE) (nat_lt 1 (length bytes)) (λ (is : (get_or bytes 0 0 == OPEN_GATE) ≡ true). shut (eqb-true (get_or bytes 0 0) OPEN_GATE is))
  where
    by_gate : (p q : Bool) → (p ≡ true → ⊥) → (p && q) ≡ false
    by_gate true q not = absurd (not refl)
    by_gate false q not = refl

none_counts : (files : Files) → current_number files ≡ None → (m : ℕ) → m < 2 ^ 64 → counts (files (named Log m)) ≡ false
unfolding current_number
none_counts files is m lt = (greatest_found (λ n. counts (files (named Log n))) (2 ^ 64)).none is m lt

none_current : (files : Files) → ((m : ℕ) → m < 2 ^ 64 → counts (files (named Log m)) ≡ false) → current_number files ≡ None
unfolding current_number
none_current files passed = greatest_none (λ n. counts (files (named Log n))) (2 ^ 64) passed

pub unmade_discarded : (old new : Files) → IsUnmade old → Discards None old new → IsUnmade new
unmade_discarded old new was step = record {
  log = none_current new (λ m lt. step.passed m tt (none_counts old was.log m lt));
  logs = λ n up lt. gone (named Log n) (was.logs n up lt);
  snapshots = λ n up lt. gone (named Snapshot n) (was.snapshots n up lt);
  swaps = λ n lt. gone (named Swap n) (was.swaps n lt);
  claims = λ n lt. gone (named Claim n) (was.claims n lt);
  events = λ n lt. gone (named Events n) (was.events n lt);
}
  where
    gone : (f : FileName) → old f ≡ [] → new f ≡ []
    gone f empty = nil_from_length (new f) (omega (arith, (step.shorter f).no_longer, ap length empty))

-- a step on the first snapshot
pub unmade_snapshot : (old new : Files) (P : List ℕ → List ℕ → Type 0) → IsUnmade old → At (snapshot_file 1) P old new → IsUnmade new
unmade_snapshot old new P was step = record {
  log = none_current new (λ m lt. ap counts (other (named Log m) (λ (same : named Log m ≡ snapshot_file 1). let kinds : Log ≡ Snapshot = ap (λ (f : FileName). f.kind) same in absurd cc)) ∙ none_counts old was.log m lt);
  logs = λ n up lt. other (named Log n) (λ (same : named Log n ≡ snapshot_file 1). let kinds : Log ≡ Snapshot = ap (λ (f : FileName). f.kind) same in absurd cc) ∙ was.logs n up lt;
  snapshots = λ n up lt. other (named Snapshot n) (λ (same : named Snapshot n ≡ snapshot_file 1). omega (arith, ap (λ (f : FileName). f.number) same, up)) ∙ was.snapshots n up lt;
  swaps = λ n lt. other (named Swap n) (λ (same : named Swap n ≡ snapshot_file 1). let kinds : Swap ≡ Snapshot = ap (λ (f : FileName). f.kind) same in absurd cc) ∙ was.swaps n lt;
  claims = λ n lt. other (named Claim n) (λ (same : named Claim n ≡ snapshot_file 1). let kinds : Claim ≡ Snapshot = ap (λ (f : FileName). f.kind) same in absurd cc) ∙ was.claims n lt;
  events = λ n lt. other (named Events n) (λ (same : named Events n ≡ snapshot_file 1). let kinds : Events ≡ Snapshot = ap (λ (f : FileName). f.kind) same in absurd cc) ∙ was.events n lt;
}
  where
    other : (f : FileName) → f ≢ snapshot_file 1 → new f ≡ old f
    other f isnt = step.others f isnt

-- a step on the first log, whose first gate isn't opened
pub unmade_log : (old new : Files) → IsUnmade old → At (log_file 1) (λ before now. IsPassedOver now) old new → IsUnmade new
unmade_log old new was step = record {
  log = none_current new (λ m lt. each m lt);
  logs = λ n up lt. step.others (named Log n) (λ (same : named Log n ≡ log_file 1). omega (arith, ap (λ (f : FileName). f.number) same, up)) ∙ was.logs n up lt;
  snapshots = λ n up lt. step.others (named Snapshot n) (λ (same : named Snapshot n ≡ log_file 1). let kinds : Snapshot ≡ Log = ap (λ (f : FileName). f.kind) same in absurd cc) ∙ was.snapshots n up lt;
  swaps = λ n lt. step.others (named Swap n) (λ (same : named Swap n ≡ log_file 1). let kinds : Swap ≡ Log = ap (λ (f : FileName). f.kind) same in absurd cc) ∙ was.swaps n lt;
  claims = λ n lt. step.others (named Claim n) (λ (same : named Claim n ≡ log_file 1). let kinds : Claim ≡ Log = ap (λ (f : FileName). f.kind) same in absurd cc) ∙ was.claims n lt;
  events = λ n lt. step.others (named Events n) (λ (same : named Events n ≡ log_file 1). let kinds : Events ≡ Log = ap (λ (f : FileName). f.kind) same in absurd cc) ∙ was.events n lt;
}
  where
    each : (m : ℕ) → m < 2 ^ 64 → counts (new (named Log m)) ≡ false
    each m lt = ⊎_elim
        (λ (same : m ≡ 1). subst (λ (n : ℕ). counts (new (named Log n)) ≡ false) (sym same) (passed_over (new (log_file 1)) step.here))
        (λ (isnt : m ≡ 1 → ⊥). ap counts (step.others (named Log m) (λ (same : named Log m ≡ log_file 1). isnt (ap (λ (f : FileName). f.number) same))) ∙ none_counts old was.log m lt)
        (cases_eq m 1)

-- the first gate is opened
pub made_log : (k : Kept) (old new : Files) → IsUnmade old → ((n : ℕ) → 1 < n → IsPassedOver (old (log_file n))) → ((rest : List ℕ) × (old (snapshot_file 1) ≡ snapshot FORMAT_VERSION k ++ rest))
    → At (log_file 1) (λ before now. now ≡ begun_log FORMAT_VERSION 1) old new → IsNewStore k new
made_log k old new was greater snapshot step = record {
  log = record {
    begun = step.here;
    greater = λ n up. subst (λ (bytes : List ℕ). IsPassedOver bytes) (sym (step.others (log_file n) (λ (same : log_file n ≡ log_file 1). omega (arith, ap (λ (f : FileName). f.number) same, up)))) (greater n up);
  };
  snapshot = (snapshot.0, step.others (snapshot_file 1) (λ (same : snapshot_file 1 ≡ log_file 1). let kinds : Snapshot ≡ Log = ap (λ (f : FileName). f.kind) same in absurd cc) ∙ snapshot.1);
  claims = λ n lt. step.others (named Claim n) (λ (same : named Claim n ≡ log_file 1). let kinds : Claim ≡ Log = ap (λ (f : FileName). f.kind) same in absurd cc) ∙ was.claims n lt;
  events = λ n lt. step.others (named Events n) (λ (same : named Events n ≡ log_file 1). let kinds : Events ≡ Log = ap (λ (f : FileName). f.kind) same in absurd cc) ∙ was.events n lt;
}
