-- What is known once all files are read.
use Rattle.std.proofs.Common.{◌≡◌, ℕ, suc, ◌+◌, ◌-◌, ◌/◌, ◌%◌, ◌≤◌, ◌<◌, Bool, IsTrue, inl, inr, List, [], ◌∷◌, ◌++◌, length, get_or, refl, sym, ap, subst, ◌∙◌, arith}
use Rattle.std.specs.Prelude.{Err, All, Contains, filter, nat_lt}
use Rattle.std.proofs.lemmas.List.Elements.{All-append}
use Rattle.std.proofs.lemmas.Bool.{cases_lt}
use Rattle.disk_trait.specs.Files.{Files}
use Rattle.disk_trait.specs.declared.damage.Damage.{Damage}
use Rattle.prov_store.specs.Events.{count_in, events_file, events_of_files, events_in, covered_bytes, covered_size}
use Rattle.prov_store.specs.Loading.{AreFileNumbers, EventsAreLoaded, files_before, files_later, loaded_state}
use Rattle.prov_store.specs.State.{EventsState, HasEvents, HasStale, IsEventLine}
use Rattle.flowfile_record.specs.declared.limits.TheConstants.{EVENTS_PER_FILE}
use Rattle.prov_store.specs.declared.events.Stale.{Stale}
use Rattle.prov_store.specs.declared.load.Loading.{Loading}
use Rattle.prov_store.proofs.Counting.{none_counted, count_most}
use Rattle.prov_store.proofs.InFiles.{in_files, no_bytes, no_size, none_below, none_of_files}
use Rattle.prov_store.proofs.Keeping.{stale_files}
use Rattle.prov_store.proofs.Listing.{all_uncovered, before_first, behind_last, listed_before, listed_later, listed_still}

abbrev twelve_zeros : List ℕ
twelve_zeros = 0 ∷ 0 ∷ 0 ∷ 0 ∷ 0 ∷ 0 ∷ 0 ∷ 0 ∷ 0 ∷ 0 ∷ 0 ∷ 0 ∷ []

pub none_loaded : (tells : Bool) (files : Files) (k : ℕ) (loading : Loading) → k ≡ loading.line / EVENTS_PER_FILE → loading.line % EVENTS_PER_FILE ≡ 0
    → loading.offset ≡ 0 → loading.counts.counts ≡ twelve_zeros → loading.stale.items ≡ [] → EventsAreLoaded tells files k loading
none_loaded tells files k loading first even offset counts stale = record {
  events = [];
  long = ap length counts;
  counts = counts ∙ none_counted;
  many = omega (arith, first, even);
  says = λ told. none_of_files k loading.line loading.end 0 files (omega (arith, first, even));
  offset = λ told j is. offset ∙ sym (no_size loading.line loading.end j files (none_below loading.line loading.end j (omega (arith, is, first, even))));
  sizes = λ told. subst (λ (l : List Stale). All (λ s. s.size ≡ covered_size loading.line loading.end s.file files) l) (sym stale) (λ k d lt. absurd (omega (arith, lt)));
  others = λ told j from lt not. absurd (omega (arith, from, lt, first));
}

pub all_damaged : (k line end : ℕ) (read files : Files) (damage : Damage) → read ≡ files → k < end / EVENTS_PER_FILE + 1
    → ((more : ℕ) → events_of_files (k + suc more) line end 0 read ≡ Err damage) → events_in files line end ≡ Err damage
all_damaged k line end read files damage same lt each =
    let more = end / EVENTS_PER_FILE - k in
    let all : suc (end / EVENTS_PER_FILE) ≡ k + suc more = omega (arith, lt) in
    in_files line end files ∙ ap (λ (f : Files). events_of_files (suc (end / EVENTS_PER_FILE)) line end 0 f) (sym same)
    ∙ ap (λ (n : ℕ). events_of_files n line end 0 read) all ∙ each more

pub few_counted : (tells : Bool) (files : Files) (k : ℕ) (loading : Loading) → EventsAreLoaded tells files k loading → All (λ n. n ≤ loading.end) loading.counts.counts
few_counted tells files k loading loaded i d lt =
    let most = count_most loaded.events loading.counts.counts loaded.long loaded.counts i d lt in
    omega (arith, most, loaded.many)

module _ (tells : Bool) (files : Files) (loading : Loading) (loaded : EventsAreLoaded tells files (loading.end / EVENTS_PER_FILE + 1) loading) (told : IsTrue tells) where
  pub has_events : (state : EventsState) → state.line ≡ loading.line → state.end ≡ loading.end → state.offset ≡ loading.offset → state.counts ≡ loading.counts.counts
      → HasEvents state files
  has_events state line end offset counts =
      let one_more : suc (loading.end / EVENTS_PER_FILE) ≡ loading.end / EVENTS_PER_FILE + 1 = omega arith in
      record {
        events = loaded.events;
        says =
            ap (λ (n : ℕ). events_in files n state.end) line ∙ ap (events_in files loading.line) end ∙ in_files loading.line loading.end files
            ∙ ap (λ (n : ℕ). events_of_files n loading.line loading.end 0 files) one_more ∙ loaded.says told;
        offset = offset ∙ loaded.offset told (loading.end / EVENTS_PER_FILE) refl ∙ ap (λ (n : ℕ). covered_size n loading.end (loading.end / EVENTS_PER_FILE) files) (sym line)
            ∙ ap (λ (n : ℕ). covered_size state.line n (n / EVENTS_PER_FILE) files) (sym end);
        counts = counts ∙ loaded.counts;
      }

  -- with the files before the line and behind the last event, all that are stale are known
  pub has_stale : (numbers : List ℕ) → AreFileNumbers tells files numbers → IsEventLine loading.line loading.end
      → HasStale (loaded_state loading ((files_before (loading.line / EVENTS_PER_FILE) numbers ++ loading.stale.items) ++ files_later (loading.end / EVENTS_PER_FILE) numbers)) files
  has_stale numbers are of = record { sizes = sizes; others = others }
    where
      line : ℕ
      line = loading.line

      end : ℕ
      end = loading.end

      before : List Stale
      before = files_before (line / EVENTS_PER_FILE) numbers

      later : List Stale
      later = files_later (end / EVENTS_PER_FILE) numbers

      below : (k : ℕ) → k < line / EVENTS_PER_FILE → count_in line end k ≡ 0
      below k lt = omega (arith, lt)

      past : (k : ℕ) → end / EVENTS_PER_FILE < k → count_in line end k ≡ 0
      past k lt = omega (arith, lt)

      sizes : All (λ s. s.size ≡ covered_size line end s.file files) ((before ++ loading.stale.items) ++ later)
      sizes =
          All-append (λ (s : Stale). s.size ≡ covered_size line end s.file files) (before ++ loading.stale.items) later
          (All-append (λ (s : Stale). s.size ≡ covered_size line end s.file files) before loading.stale.items
          (all_uncovered (λ (s : Stale). s.size ≡ covered_size line end s.file files) (filter (λ k. nat_lt k (line / EVENTS_PER_FILE)) numbers)
          (λ i d lt. sym (no_size line end (get_or (filter (λ k. nat_lt k (line / EVENTS_PER_FILE)) numbers) i d) files (below _ (before_first (line / EVENTS_PER_FILE) numbers i d lt)))))
          (loaded.sizes told))
          (all_uncovered (λ (s : Stale). s.size ≡ covered_size line end s.file files) (filter (λ k. nat_lt (end / EVENTS_PER_FILE) k) numbers)
          (λ i d lt. sym (no_size line end (get_or (filter (λ k. nat_lt (end / EVENTS_PER_FILE) k) numbers) i d) files (past _ (behind_last (end / EVENTS_PER_FILE) numbers i d lt)))))

      others : (k : ℕ) → (Contains (stale_files ((before ++ loading.stale.items) ++ later)) k → ⊥) → files (events_file k) ≡ covered_bytes line end k files
      others k not = elim (cases_lt k (line / EVENTS_PER_FILE)) [
        | inl lt ↦
            are.all told k (λ has. not (listed_before (line / EVENTS_PER_FILE) (end / EVENTS_PER_FILE) k numbers loading.stale.items lt has))
            ∙ sym (no_bytes line end k files (below k lt))
        | inr from ↦ elim (cases_lt (end / EVENTS_PER_FILE) k) [
          | inl lt ↦
              are.all told k (λ has. not (listed_later (line / EVENTS_PER_FILE) (end / EVENTS_PER_FILE) k numbers loading.stale.items lt has))
              ∙ sym (no_bytes line end k files (past k lt))
          | inr within ↦
              loaded.others told k from (omega (arith, within)) (λ has. not (listed_still (line / EVENTS_PER_FILE) (end / EVENTS_PER_FILE) k numbers loading.stale.items has))
        ]
      ]

-- what is known of one state holds of another with the same line, end and stale files
pub same_stale : (state other : EventsState) (files : Files) → state.line ≡ other.line → state.end ≡ other.end → state.stale ≡ other.stale → HasStale other files → HasStale state files
same_stale state other files line end stale has = record {
  sizes =
      subst (λ (n : ℕ). All (λ s. s.size ≡ covered_size n state.end s.file files) state.stale) (sym line)
      (subst (λ (n : ℕ). All (λ s. s.size ≡ covered_size other.line n s.file files) state.stale) (sym end)
      (subst (λ (l : List Stale). All (λ s. s.size ≡ covered_size other.line other.end s.file files) l) (sym stale) has.sizes));
  others = λ k not.
      has.others k (subst (λ (l : List Stale). Contains (stale_files l) k → ⊥) stale not)
      ∙ ap (λ (n : ℕ). covered_bytes n other.end k files) (sym line) ∙ ap (λ (n : ℕ). covered_bytes state.line n k files) (sym end);
}
