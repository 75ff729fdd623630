-- A store makes a checkpoint: whatever a stop leaves holds what it did, and stands for it.
use Rattle.std.proofs.Common.{◌≡◌, ◌⊎◌, ℕ, ◌+◌, ◌^◌, ◌≤◌, Bool, true, false, IsTrue, [], length, refl, sym, ap, subst, ◌∙◌, inl, inr, arith}
use Rattle.std.specs.Prelude.{Option, Some, Ok, Result, All}
use Rattle.disk_trait.specs.Files.{Files}
use Rattle.disk_trait.specs.Images.{After, Since}
use Rattle.disk_trait.specs.declared.damage.Damage.{Damage}
use Rattle.disk_trait.specs.declared.file_name.FileKind.TheVariants.{Log, Snapshot, Claim, Events}
use Rattle.disk_trait.specs.declared.file_name.FileName.{FileName}
use Rattle.disk_trait.proofs.Moments.{wider, one_after_another, at_the_end}
use Rattle.flowfile_record.specs.Encoding.{IsNumber}
use Rattle.flowfile_record.specs.Stored.{Kept}
use Rattle.checkpoint_store.specs.Consistent.{IsConsistent}
use Rattle.content_repo.specs.Claims.{claim, content_in, HasSizes}
use Rattle.flowfile_wal.specs.Calls.{InEach}
use Rattle.flowfile_wal.specs.Current.{CurrentLog}
use Rattle.flowfile_wal.specs.Steps.{LogState}
use Rattle.machine_model.specs.State.{State}
use Rattle.prov_store.specs.Events.{events_file}
use Rattle.prov_store.specs.State.{IsTrimmed}
use Rattle.record_codec.specs.declared.TheConstants.{FORMAT_VERSION}
use Rattle.store_core.specs.Agreement.{SameContent, SameEventFiles}
use Rattle.store_core.specs.Checkpoint.{IsOfNumber, ArePassedOver, HasTakenOver, TakesOver, Drops, Checkpoints}
use Rattle.store_core.specs.Flow.{flow_in}
use Rattle.store_core.specs.Kept.{kept_in}
use Rattle.store_core.specs.State.{stands_for, live_contents}
use Rattle.store_core.specs.Store.{StoreState, IsSoundStore, IsKeptOn, EachStandsFor, kept_by, live_in, FilesHold, HasLog}
use Rattle.store_core.specs.Touched.{TouchesOnly}
use Rattle.store_core.proofs.Agreeing.{contents_sound, sound_of, state_of_sound, stands_by_kept, same_state, of_state}
use Rattle.store_core.proofs.Cutting.{shortened_as, shortened_same, shortened_in_turn}
use Rattle.store_core.proofs.EventsStay.{same_covered, says_still, has_same, trimmed_same}
use Rattle.store_core.proofs.NextLog.{next_log, passed_behind, kept_still, taken_current, taken_kept, taken_dropped}
use Rattle.store_core.proofs.Reviving.{same_claims}
use Rattle.store_core.proofs.TakingOver.{Taking, Dropping}

-- ---- which files change

pub checkpoints_nothing : (number : ℕ) (files : Files) → Checkpoints number files files
checkpoints_nothing number files = record { others = λ f other. refl; shorter = λ f other. shortened_same 0 (files f) }

takes_alone : (number : ℕ) (old new : Files) → TouchesOnly (IsOfNumber (number + 1)) old new → Checkpoints number old new
takes_alone number old new touches = record {
  others = λ f other. touches f (λ is. other (inr is));
  shorter = λ f other. shortened_as 0 (old f) (new f) (touches f other);
}

drops_alone : (number : ℕ) (a b c : Files) → Checkpoints number a b → Drops number b c → Checkpoints number a c
drops_alone number a b c first second = record {
  others = λ f other. second.others f (λ is. other (inl is)) ∙ first.others f other;
  shorter = λ f other. shortened_in_turn 0 (a f) (b f) (c f) (first.shorter f other) (second.shorter f);
}

-- a file of another kind is none of these
no_claim : (number n : ℕ) → IsOfNumber number (claim n) → ⊥
no_claim number n (inl same) = let kinds : Claim ≡ Log = ap (λ (f : FileName). f.kind) same in absurd cc
no_claim number n (inr same) = let kinds : Claim ≡ Snapshot = ap (λ (f : FileName). f.kind) same in absurd cc

no_events : (number n : ℕ) → IsOfNumber number (events_file n) → ⊥
no_events number n (inl same) = let kinds : Events ≡ Log = ap (λ (f : FileName). f.kind) same in absurd cc
no_events number n (inr same) = let kinds : Events ≡ Snapshot = ap (λ (f : FileName). f.kind) same in absurd cc

claims_stay : (number : ℕ) (old new : Files) → Checkpoints number old new → (k : ℕ) → new (claim k) ≡ old (claim k)
claims_stay number old new step k = step.others (claim k) neither
  where
    neither : (IsOfNumber number (claim k) ⊎ IsOfNumber (number + 1) (claim k)) → ⊥
    neither (inl is) = no_claim number k is
    neither (inr is) = no_claim (number + 1) k is

events_stay : (number : ℕ) (old new : Files) → Checkpoints number old new → SameEventFiles old new
events_stay number old new step k = step.others (events_file k) neither
  where
    neither : (IsOfNumber number (events_file k) ⊎ IsOfNumber (number + 1) (events_file k)) → ⊥
    neither (inl is) = no_events number k is
    neither (inr is) = no_events (number + 1) k is

-- ---- what the files keep, and stand for

-- a step of a checkpoint behind the log of this number, which leaves what is kept
pub record Renews (s : StoreState) (number : ℕ) (old new : Files) : Type 0 where
  pub alone : Checkpoints number old new
  pub kept : kept_in (flow_in (kept_by s)) s.lot new ≡ Ok (kept_by s)

pub holds_renewed : (s : StoreState) (number : ℕ) (old new : Files) → Renews s number old new → FilesHold s old → FilesHold s new
holds_renewed s number old new step was = record {
  kept = step.kept;
  contents = contents_sound old new (live_in s) (same_claims old new (live_in s) (claims_stay number old new step.alone)) was.contents;
  events = has_same s.events old new (events_stay number old new step.alone) was.events;
  line = was.line;
}

pub state_renewed : (s : StoreState) (number : ℕ) (state : State) (old new : Files) → Renews s number old new → FilesHold s old
    → stands_for (flow_in (kept_by s)) s.lot old ≡ of_state state → stands_for (flow_in (kept_by s)) s.lot new ≡ of_state state
state_renewed s number state old new step was stands =
    let flow = flow_in (kept_by s) in
    let k = kept_by s in
    let now = holds_renewed s number old new step was in
    let sound_old = sound_of old k state (sym (stands_by_kept flow s.lot old k was.kept) ∙ stands) in
    let same : All (SameContent old new) (live_contents k) = same_claims old new (live_in s) (claims_stay number old new step.alone) in
    let events = says_still 0 k.last_event old new sound_old.events (same_covered 0 k.last_event old new (events_stay number old new step.alone)) sound_old.events_are in
    stands_by_kept flow s.lot new k now.kept
    ∙ state_of_sound new k sound_old.events now.contents events
    ∙ ap of_state (same_state (content_in new) (content_in old) sound_old.events k (λ i d lt. (same i d lt).bytes) ∙ sym sound_old.is)

-- what a checkpoint of this store writes can be read back
pub record MayCheckpoint (s : StoreState) (number : ℕ) : Type 0 where
  pub current : s.log.number ≡ Some number
  pub next : IsNumber (number + 1)
  pub consistent : IsConsistent (kept_by s)
  pub no_batches : (kept_by s).batches ≡ []

module _ (s : StoreState) (number : ℕ) (may : MayCheckpoint s number) where
  renews_taken : (old new : Files) → HasLog s old → FilesHold s old → TakesOver (number + 1) (kept_by s) old new → Renews s number old new
  renews_taken old new has was step = record { alone = takes_alone number old new step.others; kept = by_log step.log }
    where
      by_log : (ArePassedOver (number + 1) new ⊎ HasTakenOver (number + 1) (kept_by s) new) → kept_in (flow_in (kept_by s)) s.lot new ≡ Ok (kept_by s)
      by_log (inl passed) = kept_still number (number + 1) old new (omega arith) step.others passed (flow_in (kept_by s)) s.lot s.log may.current has.ready ∙ was.kept
      by_log (inr taken) = taken_kept s.lot (number + 1) (kept_by s) new may.next taken may.consistent may.no_batches

  renews_dropped : (old mid new : Files) → Renews s number old mid → HasTakenOver (number + 1) (kept_by s) mid → Drops number mid new → Renews s number old new
  renews_dropped old mid new first taken step = record {
    alone = drops_alone number old mid new first.alone step;
    kept = taken_kept s.lot (number + 1) (kept_by s) new may.next (taken_dropped number (number + 1) (kept_by s) mid new (omega arith) taken step) may.consistent may.no_batches;
  }

  module _ {D : Type 0} (moment : D → ℕ) (images : D → ℕ → Files → Type 0) (old : D) (has : InEach (images old (moment old)) (HasLog s)) (holds : InEach (images old (moment old)) (FilesHold s)) where
    abbrev pub Renewing : Files → Type 0
    Renewing = After (Renews s number) (images old (moment old))

    pub since_taken : (mid : D) → Since moment images old mid (Taking moment images (number + 1) (kept_by s) old) → Since moment images old mid Renewing
    since_taken mid since =
        wider moment images old mid (Taking moment images (number + 1) (kept_by s) old) Renewing since
        (λ c after. (after.0, after.1, renews_taken after.0 c (has after.0 after.1) (holds after.0 after.1) after.2))

    pub since_dropped : (mid new : D) → Since moment images old mid Renewing → InEach (images mid (moment mid)) (HasTakenOver (number + 1) (kept_by s))
        → Since moment images mid new (Dropping moment images number mid) → Since moment images old new Renewing
    since_dropped mid new first taken second =
        one_after_another moment images old mid new Renewing (Dropping moment images number mid) Renewing first second (λ c after. after)
        (λ c after.
        let before = at_the_end moment images old mid Renewing first after.0 after.1 in
        (before.0, before.1, renews_dropped before.0 after.0 c before.2 (taken after.0 after.1) after.2))

    -- ---- what a stop leaves

    pub renewed_holds : (new : D) → Since moment images old new Renewing → Since moment images old new (FilesHold s)
    renewed_holds new since =
        wider moment images old new Renewing (FilesHold s) since (λ c after. holds_renewed s number after.0 c after.2 (holds after.0 after.1))

    pub renewed_states : (new : D) → Since moment images old new Renewing → (state : State) → EachStandsFor (flow_in (kept_by s)) s.lot state (images old (moment old))
        → Since moment images old new (λ c. stands_for (flow_in (kept_by s)) s.lot c ≡ of_state state)
    renewed_states new since state stands =
        wider moment images old new Renewing (λ c. stands_for (flow_in (kept_by s)) s.lot c ≡ of_state state) since
        (λ c after. state_renewed s number state after.0 c after.2 (holds after.0 after.1) (stands after.0 after.1))

    pub renewed_alone : (new : D) → Since moment images old new Renewing → Since moment images old new (After (Checkpoints number) (images old (moment old)))
    renewed_alone new since =
        wider moment images old new Renewing (After (Checkpoints number) (images old (moment old))) since (λ c after. (after.0, after.1, after.2.alone))

  -- each log that the next one leaves behind is passed over
  pub passed_next : (files : Files) → HasLog s files → ((f : FileName) → 2 ^ 64 ≤ f.number → files f ≡ []) → ArePassedOver (number + 1) files
  passed_next files has ends = passed_behind s.log number files may.current has.ready ends

-- ---- the store behind a checkpoint

-- the log in memory that was just begun
abbrev pub begun_state : ℕ → LogState → LogState
begun_state number log = record { number = Some number; version = FORMAT_VERSION; end = 47; mended = true; failed = log.failed }

abbrev pub renewed : StoreState → ℕ → StoreState
renewed s number = record s { log = begun_state (number + 1) s.log; entries = 0 }

abbrev logged : Option CurrentLog → Result (Option CurrentLog) Damage
logged log = Ok log

has_next_log : (s : StoreState) (number : ℕ) (files : Files) → MayCheckpoint s number → HasTakenOver (number + 1) (kept_by s) files → HasLog (renewed s number) files
has_next_log s number files may taken =
    let closed = taken_current (number + 1) (kept_by s) files may.next taken in
    record {
      ready = record { log = next_log (number + 1); number = refl; version = refl; end = refl; ready = closed };
      entries = λ l is.
          let both : logged (Some l) ≡ logged (Some (next_log (number + 1))) = sym is ∙ closed.current in
          let same : l ≡ next_log (number + 1) = cc in
          let none : length l.entries ≡ 0 = ap (λ (m : CurrentLog). length m.entries) same in
          omega (arith, none);
    }

pub sound_renewed : (s : StoreState) (number : ℕ) → IsSoundStore s → s.failed ≡ false → IsSoundStore (renewed s number)
sound_renewed s number sound unfailed =
    let works = sound.works unfailed in
    record {
      current = refl;
      mended = refl;
      opened = sound.opened;
      works = λ f. record { log = works.log; last_event = works.last_event; counts = works.counts; held = works.held; named = works.named; within = works.within };
    }

module _ {D : Type 0} (tells : Bool) (held : D → Files) (moment : D → ℕ) (images : D → ℕ → Files → Type 0) (s : StoreState) (number : ℕ) (may : MayCheckpoint s number) (old mid new : D) where
  held_alone : TouchesOnly (IsOfNumber (number + 1)) (held old) (held mid) → Drops number (held mid) (held new) → Checkpoints number (held old) (held new)
  held_alone first second = drops_alone number (held old) (held mid) (held new) (takes_alone number (held old) (held mid) first) second

  pub kept_renewed : s.failed ≡ false → IsKeptOn tells held moment images s old → Since moment images old new (After (Renews s number) (images old (moment old)))
      → InEach (images mid (moment mid)) (HasTakenOver (number + 1) (kept_by s)) → Since moment images mid new (Dropping moment images number mid)
      → (IsTrue tells → TouchesOnly (IsOfNumber (number + 1)) (held old) (held mid)) → (IsTrue tells → Drops number (held mid) (held new)) → IsKeptOn tells held moment images (renewed s number) new
  kept_renewed unfailed kept since taken second touched dropped = record {
    holds = λ f c left.
        let after = at_the_end moment images old new (After (Renews s number) (images old (moment old))) since c left in
        let h = holds_renewed s number after.0 c after.2 (kept.holds unfailed after.0 after.1) in
        record { kept = h.kept; contents = h.contents; events = h.events; line = h.line };
    log = λ f c left.
        let after = at_the_end moment images mid new (Dropping moment images number mid) second c left in
        has_next_log s number c may (taken_dropped number (number + 1) (kept_by s) after.0 c (omega arith) (taken after.0 after.1) after.2);
    sizes = λ f told k.
        ap length (claims_stay number (held old) (held new) (held_alone (touched told) (dropped told)) k) ∙ kept.sizes unfailed told k;
    trimmed = λ f told.
        trimmed_same s.events.line s.events.end (held old) (held new) (events_stay number (held old) (held new) (held_alone (touched told) (dropped told))) (kept.trimmed unfailed told);
  }

-- a call that may have failed: where it didn't, the disk is as before
pub kept_unless : {D : Type 0} (tells : Bool) (held : D → Files) (moment : D → ℕ) (images : D → ℕ → Files → Type 0) (s now : StoreState) (failed : Bool) (old mid : D) → s ≡ now → s.failed ≡ false
    → (failed ≡ false → mid ≡ old) → IsKeptOn tells held moment images now old → IsKeptOn tells held moment images (record s { failed = failed }) mid
kept_unless {D = D} tells held moment images s now failed old mid view unfailed same kept_now =
    let kept = subst (λ (t : StoreState). IsKeptOn tells held moment images t old) (sym view) kept_now in
    record {
      holds = λ f c left.
          let h = kept.holds unfailed c (subst (λ (d : D). images d (moment d) c) (same f) left) in
          record { kept = h.kept; contents = h.contents; events = h.events; line = h.line };
      log = λ f c left.
          let h = kept.log unfailed c (subst (λ (d : D). images d (moment d) c) (same f) left) in
          record { ready = h.ready; entries = h.entries };
      sizes = λ f told. subst (λ (d : D). HasSizes s.slots (held d)) (sym (same f)) (kept.sizes unfailed told);
      trimmed = λ f told. subst (λ (d : D). IsTrimmed s.events.line s.events.end (held d)) (sym (same f)) (kept.trimmed unfailed told);
    }

-- ---- the calls of a checkpoint, by what is in memory as it begins

module _ {D : Type 0} (tells : Bool) (held : D → Files) (moment : D → ℕ) (images : D → ℕ → Files → Type 0) (s now : StoreState) (number : ℕ) (k : Kept) (old mid : D)
    (view : s ≡ now) (same : k ≡ kept_by s) (may : MayCheckpoint s number) (unfailed : s.failed ≡ false) (kept : IsKeptOn tells held moment images now old)
    (first : Since moment images old mid (Taking moment images (number + 1) k old)) where
  kept_as : IsKeptOn tells held moment images s old
  kept_as = subst (λ (t : StoreState). IsKeptOn tells held moment images t old) (sym view) kept

  renewing : Since moment images old mid (Renewing s number may moment images old (kept_as.log unfailed) (kept_as.holds unfailed))
  renewing =
      since_taken s number may moment images old (kept_as.log unfailed) (kept_as.holds unfailed) mid
      (subst (λ (l : Kept). Since moment images old mid (Taking moment images (number + 1) l old)) same first)

  one_number : (n : ℕ) → now.log.number ≡ Some n → number ≡ n
  one_number n is = let both : Some number ≡ Some n = sym may.current ∙ ap (λ (t : StoreState). t.log.number) view ∙ is in cc

  module _ (new : D) (since : Since moment images old new (After (Renews s number) (images old (moment old)))) where
    images_of : Since moment images old new (FilesHold now)
    images_of = subst (λ (t : StoreState). Since moment images old new (FilesHold t)) view
        (renewed_holds s number may moment images old (kept_as.log unfailed) (kept_as.holds unfailed) new since)

    states_of : (state : State) → EachStandsFor (flow_in (kept_by now)) now.lot state (images old (moment old))
        → Since moment images old new (λ c. stands_for (flow_in (kept_by now)) now.lot c ≡ of_state state)
    states_of state =
        subst (λ (t : StoreState). EachStandsFor (flow_in (kept_by t)) t.lot state (images old (moment old)) → Since moment images old new (λ c. stands_for (flow_in (kept_by t)) t.lot c ≡ of_state state)) view
        (renewed_states s number may moment images old (kept_as.log unfailed) (kept_as.holds unfailed) new since state)

    alone_of : (n : ℕ) → now.log.number ≡ Some n → Since moment images old new (After (Checkpoints n) (images old (moment old)))
    alone_of n is =
        subst (λ (m : ℕ). Since moment images old new (After (Checkpoints m) (images old (moment old)))) (one_number n is)
        (renewed_alone s number may moment images old (kept_as.log unfailed) (kept_as.holds unfailed) new since)

  -- up to where the next log has taken over
  pub images_taken : Since moment images old mid (FilesHold now)
  images_taken = images_of mid renewing

  pub states_taken : (state : State) → EachStandsFor (flow_in (kept_by now)) now.lot state (images old (moment old))
      → Since moment images old mid (λ c. stands_for (flow_in (kept_by now)) now.lot c ≡ of_state state)
  states_taken state stands = states_of mid renewing state stands

  pub alone_taken : (n : ℕ) → now.log.number ≡ Some n → Since moment images old mid (After (Checkpoints n) (images old (moment old)))
  alone_taken n is = alone_of mid renewing n is

  -- and where the log of before goes
  module _ (new : D) (taken : InEach (images mid (moment mid)) (HasTakenOver (number + 1) k)) (second : Since moment images mid new (Dropping moment images number mid)) where
    taken_as : InEach (images mid (moment mid)) (HasTakenOver (number + 1) (kept_by s))
    taken_as = subst (λ (l : Kept). InEach (images mid (moment mid)) (HasTakenOver (number + 1) l)) same taken

    renewing_on : Since moment images old new (After (Renews s number) (images old (moment old)))
    renewing_on = since_dropped s number may moment images old (kept_as.log unfailed) (kept_as.holds unfailed) mid new renewing taken_as second

    pub images_dropped : Since moment images old new (FilesHold now)
    images_dropped = images_of new renewing_on

    pub states_dropped : (state : State) → EachStandsFor (flow_in (kept_by now)) now.lot state (images old (moment old))
        → Since moment images old new (λ c. stands_for (flow_in (kept_by now)) now.lot c ≡ of_state state)
    states_dropped state stands = states_of new renewing_on state stands

    pub alone_dropped : (n : ℕ) → now.log.number ≡ Some n → Since moment images old new (After (Checkpoints n) (images old (moment old)))
    alone_dropped n is = alone_of new renewing_on n is

    pub kept_dropped : (IsTrue tells → TouchesOnly (IsOfNumber (number + 1)) (held old) (held mid)) → (IsTrue tells → Drops number (held mid) (held new)) → IsKeptOn tells held moment images (renewed s number) new
    kept_dropped touched dropped = kept_renewed tells held moment images s number may old mid new unfailed kept_as renewing_on taken_as second touched dropped
