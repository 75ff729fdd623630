-- Events up to a line are forgotten.
use Rattle.std.proofs.Common.{◌≡◌, inl, inr, ℕ, ◌+◌, ◌-◌, ◌/◌, ◌%◌, ◌≤◌, ◌<◌, true, false, cond, List, [], ◌∷◌, ◌++◌, length, get_or, drop, refl, sym, ap, subst, ◌∙◌, arith}
use Rattle.std.specs.Prelude.{Ok, All, Contains, ◌==◌, filter, nat_lt, slice_index, slice_set}
use Rattle.std.specs.List.{range_with_len}
use Rattle.std.proofs.lemmas.Bool.{cases_lt, cases_eq}
use Rattle.std.proofs.lemmas.Bool.Decides.{nat_tests}
use Rattle.std.proofs.lemmas.List.{append-nil, drop_at, get_or-map, get_or-set_same, get_or-set_other, length-set}
use Rattle.std.proofs.lemmas.List.Elements.{filter-append}
use Rattle.std.proofs.lemmas.List.FromFn.{fill_by_all, length-range_with_len, get_or-range_with_len}
use Rattle.disk_trait.specs.Files.{Files}
use Rattle.flowfile_record.specs.Events.{code_of}
use Rattle.flowfile_record.specs.declared.event.Event.{Event}
use Rattle.flowfile_record.specs.declared.event.EventKind.{EventKind}
use Rattle.flowfile_record.specs.declared.limits.TheConstants.{EVENTS_PER_FILE}
use Rattle.prov_store.specs.Aging.{AreUncounted}
use Rattle.prov_store.specs.Events.{count_in, first_event, events_file, events_from, events_of_files, events_in, covered_bytes, covered_size}
use Rattle.prov_store.specs.State.{EventsState, AreNumberedFrom, AreFewer, HasEvents, HasStale, EventsAreReady, IsEventLine, KeepsEvents, CutsStale, count_of_code, counts_of, files_between}
use Rattle.prov_store.specs.declared.events.Stale.{Stale}
use Rattle.prov_store.proofs.Counting.{code_within, count_at, of_both, of_one, one_or_none}
use Rattle.prov_store.proofs.InFiles.{Past, past_line, split_files, first_file, last_numbered, counts_past, no_bytes, no_size, covered_as, covered_alike, size_alike}
use Rattle.prov_store.proofs.Keeping.{stale_files}
use Rattle.prov_store.proofs.Listing.{as_stale, all_uncovered, files_of_uncovered, length-uncovered}

-- ---- the files between two lines

contains_range : (a n k : ℕ) → a ≤ k → k < a + n → Contains (range_with_len a n) k
contains_range a n k from lt =
    let place : k - a < n = omega (arith, from, lt) in
    (k - a, omega (arith, place, length-range_with_len a n), get_or-range_with_len a n (k - a) k place ∙ omega (arith, from))

in_range : (a n k : ℕ) → Contains (range_with_len a n) k → (a ≤ k) × (k < a + n)
in_range a n k has =
    let place : has.0 < n = omega (arith, has.1, length-range_with_len a n) in
    let is : a + has.0 ≡ k = sym (get_or-range_with_len a n has.0 k place) ∙ has.2 in
    (omega (arith, is), omega (arith, is, place))

pub is_between : (line later k : ℕ) → line / EVENTS_PER_FILE ≤ k → k < later / EVENTS_PER_FILE → Contains (stale_files (files_between line later)) k
is_between line later k from lt =
    let n = later / EVENTS_PER_FILE - line / EVENTS_PER_FILE in
    subst (λ (l : List ℕ). Contains l k) (sym (files_of_uncovered (range_with_len (line / EVENTS_PER_FILE) n)))
    (contains_range (line / EVENTS_PER_FILE) n k from (omega (arith, from, lt)))

not_between : (line later k : ℕ) → later / EVENTS_PER_FILE ≤ k → Contains (stale_files (files_between line later)) k → ⊥
not_between line later k from has =
    let n = later / EVENTS_PER_FILE - line / EVENTS_PER_FILE in
    let within = in_range (line / EVENTS_PER_FILE) n k (subst (λ (l : List ℕ). Contains l k) (files_of_uncovered (range_with_len (line / EVENTS_PER_FILE) n)) has) in
    absurd (omega (arith, from, within.0, within.1))

-- the file of an index
pub between_at : (line later i : ℕ) (s : Stale) → i < later / EVENTS_PER_FILE - line / EVENTS_PER_FILE → s ≡ as_stale (line / EVENTS_PER_FILE + i)
    → get_or (files_between line later) i s ≡ s
between_at line later i s lt is =
    let n = later / EVENTS_PER_FILE - line / EVENTS_PER_FILE in
    let a = line / EVENTS_PER_FILE in
    get_or-map as_stale (range_with_len a n) i 0 s (omega (arith, lt, length-range_with_len a n)) ∙ ap as_stale (get_or-range_with_len a n i 0 lt) ∙ sym is

pub many_between : (line later : ℕ) → length (files_between line later) ≡ later / EVENTS_PER_FILE - line / EVENTS_PER_FILE
many_between line later =
    let n = later / EVENTS_PER_FILE - line / EVENTS_PER_FILE in
    length-uncovered (range_with_len (line / EVENTS_PER_FILE) n) ∙ length-range_with_len (line / EVENTS_PER_FILE) n

pub no_size_between : (line later : ℕ) → All (λ s. s.size ≡ 0) (files_between line later)
no_size_between line later =
    all_uncovered (λ (s : Stale). s.size ≡ 0) (range_with_len (line / EVENTS_PER_FILE) (later / EVENTS_PER_FILE - line / EVENTS_PER_FILE)) (λ i d lt. refl)

-- ---- what an aging keeps

pub ages_keep : (line later last : ℕ) (old new : Files) → CutsStale (files_between line later) old new → KeepsEvents later last old new
ages_keep line later last old new cuts = record { others = cuts.others; events = each }
  where
    each : (k : ℕ) → covered_bytes later last k new ≡ covered_bytes later last k old
    each k = elim (cases_lt k (later / EVENTS_PER_FILE)) [
      | inl lt ↦
          let none : count_in later last k ≡ 0 = omega (arith, lt) in
          no_bytes later last k new none ∙ sym (no_bytes later last k old none)
      | inr from ↦ covered_as later last k old new (cuts.rest k (not_between line later k from))
    ]

pub later_keeps : (line later last : ℕ) (old new : Files) → later % EVENTS_PER_FILE ≡ 0 → line ≤ later → KeepsEvents line last old new → KeepsEvents later last old new
later_keeps line later last old new even le keeps = record { others = keeps.others; events = each }
  where
    each : (k : ℕ) → covered_bytes later last k new ≡ covered_bytes later last k old
    each k = elim (cases_lt k (later / EVENTS_PER_FILE)) [
      | inl lt ↦
          let none : count_in later last k ≡ 0 = omega (arith, lt) in
          no_bytes later last k new none ∙ sym (no_bytes later last k old none)
      | inr from ↦
          let same = counts_past line later last k le (omega (arith, from, even)) in
          covered_alike line last later last k new new same refl ∙ keeps.events k ∙ sym (covered_alike line last later last k old old same refl)
    ]

-- ---- the events past a later line

pub past_in : (line later last : ℕ) (files : Files) (events : List Event) → IsEventLine line later → IsEventLine later last → events_in files line last ≡ Ok events
    → events_in files later last ≡ Ok (drop (later - line) events)
past_in line later last files events of of_later is =
    let p = past_line line later last files events of.whole of_later.whole of.within of_later.within is in
    p.says ∙ ap Ok (sym (ap (drop (later - line)) p.both ∙ drop_at p.front p.back (later - line) p.long))

front_numbered : (xs ys : List Event) (f : ℕ) → AreNumberedFrom f (xs ++ ys) → AreNumberedFrom f xs
front_numbered [] ys f numbered = refl
front_numbered (x ∷ xs) ys f numbered =
    let head : x.number ≡ f = ap (λ (l : List ℕ). get_or l 0 0) numbered in
    rw (head, front_numbered xs ys (f + 1) (ap (drop 1) numbered)) refl

none_gone : (line f : ℕ) (events : List Event) → AreNumberedFrom f events → f + length events ≤ line + 1 → filter (λ e. nat_lt line e.number) events ≡ []
none_gone line f [] numbered le = refl
none_gone line f (e ∷ events) numbered le =
    let head : e.number ≡ f = ap (λ (l : List ℕ). get_or l 0 0) numbered in
    let test : nat_lt line e.number ≡ false = grind (arith, nat_tests, head, le) in
    let rest : filter (λ e. nat_lt line e.number) (e ∷ events) ≡ filter (λ e. nat_lt line e.number) events = rw test refl in
    rest ∙ none_gone line (f + 1) events (ap (drop 1) numbered) (omega (arith, le))

all_past : (line f : ℕ) (events : List Event) → AreNumberedFrom f events → line < f → filter (λ e. nat_lt line e.number) events ≡ events
all_past line f [] numbered lt = refl
all_past line f (e ∷ events) numbered lt =
    let head : e.number ≡ f = ap (λ (l : List ℕ). get_or l 0 0) numbered in
    let test : nat_lt line e.number ≡ true = grind (arith, nat_tests, head, lt) in
    let rest : filter (λ e. nat_lt line e.number) (e ∷ events) ≡ e ∷ filter (λ e. nat_lt line e.number) events = rw test refl in
    rest ∙ ap (λ (l : List Event). e ∷ l) (all_past line (f + 1) events (ap (drop 1) numbered) (omega (arith, lt)))

-- ---- counts

pub uncounted_none : (old : List ℕ) → AreUncounted [] old old
uncounted_none old code first last = omega arith

pub uncounted_more : (xs ys : List Event) (old mid new : List ℕ) → AreUncounted xs old mid → AreUncounted ys mid new → AreUncounted (xs ++ ys) old new
uncounted_more xs ys old mid new first second code from to = omega (arith, first code from to, second code from to, of_both code xs ys)

pub uncounted_one : (e : Event) (kind : EventKind) (mid new : List ℕ) → e.kind ≡ kind → length mid ≡ 12
    → new ≡ slice_set mid (code_of kind - 1) (slice_index mid (code_of kind - 1) - 1) → AreUncounted (e ∷ []) mid new
uncounted_one e kind mid new is long set code first last =
    let within = code_within kind in
    let k = code_of kind - 1 in
    let count : count_of_code code (e ∷ []) ≡ cond (code_of kind == code) 1 0 = of_one code e ∙ ap {B = ℕ} (λ (n : EventKind). cond (code_of n == code) 1 0) is in
    elim (cases_eq (code - 1) k) [
      | inl same ↦
          let test : (code_of kind == code) ≡ true = grind (arith, nat_tests, same, first, within.0) in
          let here : slice_index new (code - 1) ≡ slice_index mid k - 1 =
          ap (λ (l : List ℕ). slice_index l (code - 1)) set ∙ ap (λ (j : ℕ). slice_index (slice_set mid k (slice_index mid k - 1)) j) same ∙ get_or-set_same mid k (slice_index mid k - 1) 0 (omega (arith, long, within.1, within.0)) in
          omega (arith, here, ap (slice_index mid) same, count, one_or_none test)
      | inr other ↦
          let test : (code_of kind == code) ≡ false = grind (arith, nat_tests, other, first, within.0) in
          let here : slice_index new (code - 1) ≡ slice_index mid (code - 1) =
          ap (λ (l : List ℕ). slice_index l (code - 1)) set ∙ get_or-set_other mid k (code - 1) (slice_index mid k - 1) 0 other in
          omega (arith, here, count, one_or_none test)
    ]

-- the counts of what is left
pub counts_left : (gone left : List Event) (old new : List ℕ) → length new ≡ 12 → old ≡ counts_of (gone ++ left) → AreUncounted gone old new → new ≡ counts_of left
unfolding counts_of
counts_left gone left old new long is counted =
    fill_by_all (λ k. count_of_code (k + 1) left) new 12 0 long
    (λ k lt.
    let code = k + 1 in
    let place : code - 1 ≡ k = omega arith in
    let less = counted code (omega arith) (omega (arith, lt)) in
    omega (arith, ap (slice_index new) place, less, ap (λ (l : List ℕ). slice_index l (code - 1)) is, count_at code (gone ++ left) (omega arith) (omega (arith, lt)), of_both code gone left))

-- one file more is gone
pub one_file_gone : (line end k : ℕ) (files now : Files) (old before new : List ℕ) (gone : List Event) → events_of_files (k + 1) line end 0 files ≡ Ok gone
    → count_in line end k ≡ EVENTS_PER_FILE → now (events_file k) ≡ files (events_file k)
    → ((front : List Event) → events_of_files k line end 0 files ≡ Ok front → AreUncounted front old before)
    → ((here : List Event) → events_from EVENTS_PER_FILE (events_file k) 0 (first_event k) (now (events_file k)) ≡ Ok here → AreUncounted here before new)
    → AreUncounted gone old new
one_file_gone line end k files now old before new gone is full same earlier last =
    let s = split_files k 1 line end 0 files gone is in
    let place : 0 + k ≡ k = omega arith in
    let f = first_file 0 line end k files s.back (ap (λ (j : ℕ). events_of_files 1 line end j files) (sym place) ∙ s.behind) in
    let none : f.later ≡ [] = cc f.behind in
    let back : s.back ≡ f.here = f.both ∙ ap (λ (l : List Event). f.here ++ l) none ∙ append-nil f.here in
    let here : events_from EVENTS_PER_FILE (events_file k) 0 (first_event k) (now (events_file k)) ≡ Ok f.here =
    ap (events_from EVENTS_PER_FILE (events_file k) 0 (first_event k)) same
    ∙ ap (λ (n : ℕ). events_from n (events_file k) 0 (first_event k) (files (events_file k))) (sym full) ∙ f.first in
    subst (λ (l : List Event). AreUncounted l old new) (ap (λ (l : List Event). s.front ++ l) (sym back) ∙ sym s.both)
    (uncounted_more s.front f.here old before new (earlier s.front s.first) (last f.here here))

pub fewer_same : (old : List ℕ) → AreFewer old old
fewer_same old = record { long = refl; fewer = λ i. omega arith }

pub fewer_more : (old mid new : List ℕ) → AreFewer old mid → AreFewer mid new → AreFewer old new
fewer_more old mid new first second = record { long = second.long ∙ first.long; fewer = λ i. omega (arith, first.fewer i, second.fewer i) }

pub fewer_one : (k : ℕ) (mid new : List ℕ) → k < length mid → new ≡ slice_set mid k (slice_index mid k - 1) → AreFewer mid new
fewer_one k mid new lt set = record {
  long = ap length set ∙ length-set mid k (slice_index mid k - 1);
  fewer = λ i. elim (cases_eq i k) [
    | inl same ↦
        let here : slice_index new i ≡ slice_index mid k - 1 =
        ap (λ (l : List ℕ). slice_index l i) set ∙ ap (λ (j : ℕ). slice_index (slice_set mid k (slice_index mid k - 1)) j) same ∙ get_or-set_same mid k (slice_index mid k - 1) 0 lt in
        omega (arith, here, ap (slice_index mid) same)
    | inr other ↦
        let here : slice_index new i ≡ slice_index mid i = ap (λ (l : List ℕ). slice_index l i) set ∙ get_or-set_other mid k i (slice_index mid k - 1) 0 other in
        omega (arith, here)
  ];
}

-- ---- what is known once the later line counts

module _ (state : EventsState) (line : ℕ) (files : Files) (of : IsEventLine state.line state.end) (of_later : IsEventLine line state.end) (le : state.line ≤ line) (ready : EventsAreReady state files) where
  abbrev pub parted : Past state.line line state.end files ready.has.events
  parted = past_line state.line line state.end files ready.has.events of.whole of_later.whole le of_later.within ready.has.says

  abbrev pub aged : (counts : List ℕ) → EventsState
  aged counts = record state { line = line; counts = counts; stale = files_between state.line line }

  pub aged_has : (counts : List ℕ) → counts ≡ counts_of parted.back → HasEvents (aged counts) files
  aged_has counts is = record {
    events = parted.back;
    says = parted.says;
    offset = ready.has.offset
        ∙ sym (size_alike state.line state.end line state.end (state.end / EVENTS_PER_FILE) files (counts_past state.line line state.end (state.end / EVENTS_PER_FILE) le (omega (arith, of_later.whole, of_later.within))));
    counts = is;
  }

  pub aged_stale : (counts : List ℕ) → HasStale (aged counts) files
  aged_stale counts = record {
    sizes = sizes;
    others = λ k not. elim (cases_lt k (line / EVENTS_PER_FILE)) [
      | inl lt ↦
          let none : count_in line state.end k ≡ 0 = omega (arith, lt) in
          elim (cases_lt k (state.line / EVENTS_PER_FILE)) [
            | inl below ↦
                let before : count_in state.line state.end k ≡ 0 = omega (arith, below) in
                ready.trimmed k ∙ no_bytes state.line state.end k files before ∙ sym (no_bytes line state.end k files none)
            | inr from ↦ absurd (not (is_between state.line line k from lt))
          ]
      | inr from ↦
          ready.trimmed k ∙ sym (covered_alike state.line state.end line state.end k files files (counts_past state.line line state.end k le (omega (arith, from, of_later.whole))) refl)
    ];
  }
    where
      sizes : All (λ s. s.size ≡ covered_size line state.end s.file files) (files_between state.line line)
      sizes =
          let a = state.line / EVENTS_PER_FILE in
          let n = line / EVENTS_PER_FILE - a in
          all_uncovered (λ (s : Stale). s.size ≡ covered_size line state.end s.file files) (range_with_len a n)
          (λ i d lt.
          let place : i < n = omega (arith, lt, length-range_with_len a n) in
          let is : get_or (range_with_len a n) i d ≡ a + i = get_or-range_with_len a n i d place in
          sym (no_size line state.end (get_or (range_with_len a n) i d) files (omega (arith, is, place))))

  -- the events that are left are those past the line
  pub left_past : filter (λ e. nat_lt line e.number) ready.has.events ≡ parted.back
  left_past =
      let p = parted in
      let before = last_numbered state.line state.end files ready.has.events of.whole ready.has.says in
      let behind = last_numbered line state.end files p.back of_later.whole p.says in
      let front : AreNumberedFrom (state.line + 1) p.front = front_numbered p.front p.back (state.line + 1) (subst (AreNumberedFrom (state.line + 1)) p.both before.0) in
      ap (filter (λ e. nat_lt line e.number)) p.both ∙ filter-append (λ (e : Event). nat_lt line e.number) p.front p.back
      ∙ ap (λ (l : List Event). l ++ filter (λ e. nat_lt line e.number) p.back) (none_gone line (state.line + 1) p.front front (omega (arith, p.long, le)))
      ∙ all_past line (line + 1) p.back behind.0 (omega arith)
