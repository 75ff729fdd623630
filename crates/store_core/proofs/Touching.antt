-- Which files an opening and a closing change.
use Rattle.std.proofs.Common.{◌≡◌, ⊎_elim, inl, inr, ℕ, ◌<◌, Bool, true, false, IsTrue, List, get_or, refl, sym, ap, subst, ◌∙◌, arith}
use Rattle.std.specs.Prelude.{Option, None, Some, Ok, MatchBool}
use Rattle.std.proofs.lemmas.Bool.{cases_Bool, false≢true}
use Rattle.disk_trait.specs.Files.{Files, At, Shortened, named}
use Rattle.disk_trait.specs.Images.{After, Since, Stays, IsOnly}
use Rattle.disk_trait.specs.declared.file_name.FileKind.TheVariants.{Log, Snapshot, Claim, Events}
use Rattle.disk_trait.specs.declared.file_name.FileName.{FileName}
use Rattle.disk_trait.specs.Memory.{same_name}
use Rattle.disk_trait.proofs.FileNames.{same_name_is, same_name_itself}
use Rattle.disk_trait.proofs.Moments.{wider, wider_where_left, only_read, step_after_step, nothing, and_syncs}
use Rattle.flowfile_record.specs.declared.content.ContentRef.{ContentRef}
use Rattle.content_repo.specs.Claims.{claim, IdleShortened, ShortenedTo}
use Rattle.content_repo.specs.Slots.{is_idle, slot_numbered, references_to}
use Rattle.content_repo.specs.declared.slot.Slot.{Slot}
use Rattle.flowfile_wal.specs.Current.{current_log, current_number}
use Rattle.flowfile_wal.specs.Steps.{LogState, log_with, numbered_log}
use Rattle.flowfile_wal.proofs.Files.{current_is}
use Rattle.record_codec.specs.declared.entry.LogEntry.{LogEntry}
use Rattle.prov_store.specs.Events.{events_file}
use Rattle.prov_store.specs.State.{CutsStale}
use Rattle.prov_store.specs.declared.events.Stale.{Stale}
use Rattle.prov_store.proofs.Keeping.{is_stale_or_not, stale_at}
use Rattle.store_core.specs.Discard.{Discards}
use Rattle.store_core.specs.Flow.{Flow}
use Rattle.store_core.specs.Found.{StoreIsFoundIn}
use Rattle.store_core.specs.New.{first_log}
use Rattle.store_core.specs.Store.{StoreState, StandsIn, live_in}
use Rattle.store_core.specs.Touched.{Revives, Frees}
use Rattle.store_core.specs.declared.reading.Found.{Found}
use Rattle.store_core.proofs.Closing.{HasLetGo}
use Rattle.store_core.proofs.Cutting.{shortened_as, shortened_same, shortened_in_turn, shortened_to_none}
use Rattle.store_core.proofs.RevivedFiles.{of_log, no_number}
use Rattle.store_core.proofs.Reclaiming.{not_idle, referred_at, unmatched}

-- ---- an opening

pub revives_nothing : (current : Option ℕ) (files : Files) → Revives current files files
revives_nothing current files = record { shorter = λ f other. shortened_same 0 (files f); snapshot = λ n is. refl }

pub revives_in_turn : (current : Option ℕ) (a b c : Files) → Revives current a b → Revives current b c → Revives current a c
revives_in_turn current a b c first second = record {
  shorter = λ f other. shortened_in_turn 0 (a f) (b f) (c f) (first.shorter f other) (second.shorter f other);
  snapshot = λ n is. second.snapshot n is ∙ first.snapshot n is;
}

pub revives_discarded : (current : Option ℕ) (old new : Files) → Discards current old new → Revives current old new
revives_discarded current old new step = record { shorter = λ f other. step.shorter f; snapshot = step.snapshot }

-- a step on the current log
pub revives_log : (number : ℕ) (P : List ℕ → List ℕ → Type 0) (old new : Files) → At (named Log number) P old new → Revives (Some number) old new
revives_log number P old new step = record {
  shorter = λ f other. shortened_as 0 (old f) (new f) (step.others f other);
  snapshot = λ n is. step.others (named Snapshot n) (λ (same : named Snapshot n ≡ named Log number). let kinds : Snapshot ≡ Log = ap (λ (f : FileName). f.kind) same in absurd cc);
}

-- steps on the files of a store that is made
pub revives_first_log : (P : List ℕ → List ℕ → Type 0) (old new : Files) → At (named Log first_log) P old new → Revives None old new
revives_first_log P old new step = record {
  shorter = λ f other. shortened_as 0 (old f) (new f) (step.others f (λ is. other (inl is)));
  snapshot = λ n is. absurd cc;
}

pub revives_first_snapshot : (P : List ℕ → List ℕ → Type 0) (old new : Files) → At (named Snapshot first_log) P old new → Revives None old new
revives_first_snapshot P old new step = record {
  shorter = λ f other. shortened_as 0 (old f) (new f) (step.others f (λ is. other (inr is)));
  snapshot = λ n is. absurd cc;
}

-- claims that are cut
a_claim : (f : FileName) → f.kind ≡ Claim → f ≡ claim f.number
a_claim f is = λ i. record { kind = is i; number = f.number }

each_cut : (ends : ℕ → ℕ) (old new : Files) → ShortenedTo ends old new → (f : FileName) → Shortened 0 (old f) (new f)
each_cut ends old new step f = ⊎_elim
    (λ (is : same_name f (claim f.number) ≡ true).
    subst (λ (g : FileName). Shortened 0 (old g) (new g)) (sym (same_name_is f (claim f.number) is))
    (shortened_to_none (ends f.number) (old (claim f.number)) (new (claim f.number)) (step.claims f.number)))
    (λ (isnt : same_name f (claim f.number) ≡ false).
    shortened_as 0 (old f) (new f)
    (step.others f (λ (is : f.kind ≡ Claim).
    false≢true (sym isnt ∙ ap (λ (g : FileName). same_name f g) (sym (a_claim f is)) ∙ same_name_itself f))))
    (cases_Bool (same_name f (claim f.number)))

pub revives_cut : (current : Option ℕ) (ends : ℕ → ℕ) (old new : Files) → ShortenedTo ends old new → Revives current old new
revives_cut current ends old new step = record {
  shorter = λ f other. each_cut ends old new step f;
  snapshot = λ n is. step.others (named Snapshot n) (λ (e : Snapshot ≡ Claim). absurd cc);
}

-- files of events that are cut
of_events : (f : FileName) → f.kind ≡ Events → f ≡ events_file f.number
of_events f is = λ i. record { kind = is i; number = f.number }

stale_cut : (stale : List Stale) (old new : Files) → CutsStale stale old new → (k : ℕ) → Shortened 0 (old (events_file k)) (new (events_file k))
stale_cut stale old new step k = elim (is_stale_or_not stale k) [
  | inl listed ↦
      let d : Stale = record { file = k; size = 0 } in
      let at = stale_at stale k d listed in
      let s = get_or stale at.0 d in
      subst (λ (n : ℕ). Shortened 0 (old (events_file n)) (new (events_file n))) at.2
      (shortened_to_none s.size (old (events_file s.file)) (new (events_file s.file)) (step.cut at.0 d at.1))
  | inr other ↦ shortened_as 0 (old (events_file k)) (new (events_file k)) (step.rest k other)
]

each_trimmed : (stale : List Stale) (old new : Files) → CutsStale stale old new → (f : FileName) → Shortened 0 (old f) (new f)
each_trimmed stale old new step f = ⊎_elim
    (λ (is : same_name f (events_file f.number) ≡ true).
    subst (λ (g : FileName). Shortened 0 (old g) (new g)) (sym (same_name_is f (events_file f.number) is)) (stale_cut stale old new step f.number))
    (λ (isnt : same_name f (events_file f.number) ≡ false).
    shortened_as 0 (old f) (new f)
    (step.others f (λ (is : f.kind ≡ Events).
    false≢true (sym isnt ∙ ap (λ (g : FileName). same_name f g) (sym (of_events f is)) ∙ same_name_itself f))))
    (cases_Bool (same_name f (events_file f.number)))

pub revives_trimmed : (current : Option ℕ) (stale : List Stale) (old new : Files) → CutsStale stale old new → Revives current old new
revives_trimmed current stale old new step = record {
  shorter = λ f other. each_trimmed stale old new step f;
  snapshot = λ n is. step.others (named Snapshot n) (λ (e : Snapshot ≡ Events). absurd cc);
}

module _ {D : Type 0} (moment : D → ℕ) (images : D → ℕ → Files → Type 0) (current : Option ℕ) where
  abbrev pub Reviving : D → Files → Type 0
  Reviving disk = After (Revives current) (images disk (moment disk))

  pub since_revives : (old new : D) (step : Files → Files → Type 0) → Since moment images old new (After step (images old (moment old)))
      → ((d c : Files) → step d c → Revives current d c) → Since moment images old new (Reviving old)
  since_revives old new step since is = wider moment images old new (After step (images old (moment old))) (Reviving old) since (λ c after. (after.0, after.1, is after.0 c after.2))

  pub since_revived : (old mid new : D) → Since moment images old mid (Reviving old) → Since moment images mid new (Reviving mid) → Since moment images old new (Reviving old)
  since_revived old mid new first second =
      step_after_step moment images old mid new (Revives current) (Revives current) (Revives current) (images old (moment old)) first second
      (λ d c r. r) (λ d e c r s. revives_in_turn current d e c r s)

  -- what is held is all that was left before
  pub since_held : (held : D → Files) (old new : D) → IsOnly (held old) (images old (moment old)) → Since moment images old new (Reviving old) → Since moment images old new (Revives current (held old))
  since_held held old new only since = wider moment images old new (Reviving old) (Revives current (held old)) since
      (λ c after. subst (λ (d : Files). Revives current d c) (only after.0 after.1) after.2)

-- the number of the log that was read
pub number_read : (state : LogState) (entries : List (ℕ × LogEntry)) (files : Files) → current_log files ≡ Ok (log_with state entries) → current_number files ≡ state.number
number_read state entries files is = by_number state.number refl
  where
    by_number : (o : Option ℕ) → state.number ≡ o → current_number files ≡ state.number
    by_number None none = no_number files (is ∙ ap (λ (o : Option ℕ). of_log (numbered_log o state.version entries state.end)) none) ∙ sym none
    by_number (Some n) some =
        (current_is files (record { number = n; version = state.version; entries = entries; end = state.end }) (is ∙ ap (λ (o : Option ℕ). of_log (numbered_log o state.version entries state.end)) some)).number ∙ sym some

pub number_found : (flow : Flow) (lot : ℕ) (files : Files) (found : Found) → StoreIsFoundIn flow lot files found → current_number files ≡ found.log.number
number_found flow lot files found is = number_read found.log is.entries files is.current

module _ {D : Type 0} (tells : Bool) (holds : D → Files) (moment : D → ℕ) (images : D → ℕ → Files → Type 0) where
  -- reading alone
  pub reads_alone : (old new : D) → IsOnly (holds old) (images old (moment old)) → Stays holds moment images old new
      → Since moment images old new (Revives (current_number (holds old)) (holds old))
  reads_alone old new only stays =
      wider moment images old new (images old (moment old)) (Revives (current_number (holds old)) (holds old)) (only_read moment images holds old new stays)
      (λ c left. subst (λ (d : Files). Revives (current_number (holds old)) (holds old) d) (sym (only c left)) (revives_nothing (current_number (holds old)) (holds old)))

  behind_reading : (old mid new : D) (P : Files → Type 0) → Stays holds moment images old mid → Since moment images mid new P → Since moment images old new P
  behind_reading old mid new P stays since = record {
    later = omega (arith, stays.time, since.later);
    begun = omega (arith, stays.time, since.begun);
    past = λ k c le left. stays.past k c (since.past k c (omega (arith, stays.time, le)) left);
    kept = λ k c le left. since.kept k c (omega (arith, stays.time, le)) (stays.kept k c left);
    each = λ k c from up left. since.each k c (omega (arith, stays.time, from)) up left;
  }

  -- what was read is revived
  pub revived_alone : ((disk : D) (k : ℕ) (c : Files) → images disk k c → IsTrue tells) → (flow : Flow) (lot : ℕ) (found : Found) (old mid new : D)
      → (IsTrue tells → StoreIsFoundIn flow lot (holds old) found) → Stays holds moment images old mid
      → Since moment images mid new (Revives found.log.number (holds mid)) → Since moment images old new (Revives (current_number (holds old)) (holds old))
  revived_alone told flow lot found old mid new is stays since =
      behind_reading old mid new (Revives (current_number (holds old)) (holds old)) stays
      (wider_where_left moment images mid new (Revives found.log.number (holds mid)) (Revives (current_number (holds old)) (holds old)) since
      (λ k c left step.
      subst (λ (n : Option ℕ). Revives n (holds old) c) (sym (number_found flow lot (holds old) found (is (told new k c left))))
      (subst (λ (d : Files). Revives found.log.number d c) stays.files step)))

-- ---- a closing

stood : (k : ℕ) (live : List ContentRef) → StandsIn k live → 0 < references_to k live
stood k live stands =
    let at = stands.0 in
    let found = stands.1 in
    subst (λ (n : ℕ). 0 < references_to n live) (ap (λ (r : ContentRef). r.slot) found.2 ∙ stands.2) (referred_at live found.0 at found.1)

frees_claim : (s : StoreState) (slots : List Slot) (k : ℕ) (old new : List ℕ) → HasLetGo s slots
    → MatchBool (is_idle (slot_numbered slots k)) (Shortened 0 old new) (new ≡ old) → Shortened 0 old new × (StandsIn k (live_in s) → new ≡ old)
frees_claim s slots k old new has step = (shorter (is_idle (slot_numbered slots k)) step, stays)
  where
    shorter : (idle : Bool) → MatchBool idle (Shortened 0 old new) (new ≡ old) → Shortened 0 old new
    shorter true gone = gone
    shorter false same = shortened_as 0 old new same

    stays : StandsIn k (live_in s) → new ≡ old
    stays stands =
        unmatched (is_idle (slot_numbered slots k)) _ _
        (not_idle (slot_numbered slots k) (omega (arith, has.counts k, has.works.counts k, stood k (live_in s) stands))) step

pub frees_nothing : (live : List ContentRef) (files : Files) → Frees live files files
frees_nothing live files = record { claims = λ k. (shortened_same 0 (files (claim k)), λ stands. refl); others = λ f other. refl }

pub frees_idle : (s : StoreState) (slots : List Slot) (old new : Files) → HasLetGo s slots → IdleShortened slots old new → Frees (live_in s) old new
frees_idle s slots old new has step = record {
  claims = λ k. frees_claim s slots k (old (claim k)) (new (claim k)) has (step.claims k);
  others = step.others;
}

module _ {D : Type 0} (moment : D → ℕ) (images : D → ℕ → Files → Type 0) where
  abbrev pub Freeing : StoreState → D → Files → Type 0
  Freeing s disk = After (Frees (live_in s)) (images disk (moment disk))

  pub since_frees : (s now : StoreState) (slots : List Slot) (old new : D) → s ≡ now → HasLetGo s slots → Since moment images old new (After (IdleShortened slots) (images old (moment old)))
      → Since moment images old new (Freeing now old)
  since_frees s now slots old new view has since =
      subst (λ (t : StoreState). Since moment images old new (Freeing t old)) view
      (wider moment images old new (After (IdleShortened slots) (images old (moment old))) (Freeing s old) since
      (λ c after. (after.0, after.1, frees_idle s slots after.0 c has after.2)))

  pub frees_synced : (s : StoreState) (old mid new : D) → Since moment images old mid (Freeing s old) → Since moment images mid new (images mid (moment mid)) → Since moment images old new (Freeing s old)
  frees_synced s old mid new first second = and_syncs moment images old mid new (Freeing s old) first second

  pub frees_none : (s : StoreState) (disk : D) → Since moment images disk disk (Freeing s disk)
  frees_none s disk = wider moment images disk disk (images disk (moment disk)) (Freeing s disk) (nothing moment images disk) (λ c left. (c, left, frees_nothing (live_in s) c))
