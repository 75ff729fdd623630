-- The events of ascending numbers, and events that go into an index.
use Rattle.std.proofs.Common.{◌≡◌, ◌≢◌, ℕ, suc, ◌+◌, ◌<◌, ◌≤◌, ◌==◌, Bool, true, false, cond, List, [], ◌∷◌, ◌++◌, length, get_or, drop, Some, ◌∙◌, ap, sym, refl, subst, inl, inr, arith}
use Rattle.std.specs.Prelude.{All, Contains, is_some, find}
use Rattle.std.specs.List.{AllPairs}
use Rattle.std.proofs.lemmas.Bool.{cases_Bool, false≢true, ne_eqb, eq-eqb, eqb-true}
use Rattle.std.proofs.lemmas.List.{at_drop_more, at_drop_all}
use Rattle.std.proofs.lemmas.List.Elements.{All-nil, All-cons, All-head, All-tail, All-weaker, All-contains, Contains-append_right, All-contains_itself}
use Rattle.flowfile_record.specs.NumberedItems.{AscendsByNumber}
use Rattle.flowfile_record.specs.declared.event.Event.{Event}
use Rattle.machine_model.specs.Files.{is_number_among}
use Rattle.machine_model.specs.Lineage.{HasTold, IsLineage, Lineage}
use Rattle.machine_model.proofs.Among.{Among, among_contained, contains_among}
use Rattle.prov_index.specs.Index.{event_number, event_of}
use Rattle.flow_query.specs.Parts.{events_at}
use Rattle.flow_query.specs.Texts.{told_in}

-- ---- an event that goes behind others

pub below_next : (events : List Event) (next : Event) (later : List Event) → AscendsByNumber event_number (events ++ next ∷ later) → All (λ e. e.number < next.number) events
below_next [] next later up = All-nil (λ e. e.number < next.number)
below_next (e ∷ events) next later up =
    All-cons (λ x. x.number < next.number) e events
    (All-contains (λ x. e.number < x.number) (events ++ next ∷ later) next up.0
    (Contains-append_right events (next ∷ later) next (contains_among next (next ∷ later) (inl refl))))
    (below_next events next later up.1)

-- ---- the events of some numbers

abbrev IsThere : List Event → ℕ → Type 0
IsThere events n = is_some (event_of events n) ≡ true

there_later : (e : Event) (events : List Event) (n : ℕ) → e.number ≢ n → event_of (e ∷ events) n ≡ event_of events n
there_later e events n other = ap (λ (t : Bool). cond t (Some e) (event_of events n)) (ne_eqb e.number n other)

-- an event of this number is above all that are below each
there_above : (low : ℕ) (events : List Event) (n : ℕ) → All (λ e. low < e.number) events → IsThere events n → low < n
there_above low [] n above there = absurd (false≢true there)
there_above low (e ∷ events) n above there =
    elim (cases_Bool (e.number == n)) [
      | inl t ↦ let one : low < e.number = All-head (λ x. low < x.number) e events above in let same : e.number ≡ n = eqb-true e.number n t in omega arith
      | inr f ↦
          there_above low events n (All-tail (λ x. low < x.number) e events above)
          (sym (ap is_some (ap (λ (t : Bool). cond t (Some e) (event_of events n)) f)) ∙ there)
    ]

all_later : (e : Event) (events : List Event) (numbers : List ℕ) → All (λ n. e.number < n) numbers → All (IsThere (e ∷ events)) numbers → All (IsThere events) numbers
all_later e events [] above there = All-nil (IsThere events)
all_later e events (n ∷ numbers) above there =
    let lt : e.number < n = All-head (λ m. e.number < m) n numbers above in
    All-cons (IsThere events) n numbers (sym (ap is_some (there_later e events n (λ same. absurd (omega arith)))) ∙ All-head (IsThere (e ∷ events)) n numbers there)
    (all_later e events numbers (All-tail (λ m. e.number < m) n numbers above) (All-tail (IsThere (e ∷ events)) n numbers there))

at_later : (e : Event) (events : List Event) (numbers : List ℕ) → All (λ n. e.number < n) numbers → events_at (e ∷ events) numbers ≡ events_at events numbers
at_later e events [] above = refl
at_later e events (n ∷ numbers) above =
    let lt : e.number < n = All-head (λ m. e.number < m) n numbers above in
    let rest = at_later e events numbers (All-tail (λ m. e.number < m) n numbers above) in
    let first = there_later e events n (λ same. absurd (omega arith)) in
    rw (first, rest)

-- among numbers that a number is below or above, it isn't
not_among : (x : ℕ) (numbers : List ℕ) → All (λ n. x < n) numbers → is_number_among numbers x ≡ false
not_among x [] above = refl
not_among x (n ∷ numbers) above =
    let lt : x < n = All-head (λ m. x < m) n numbers above in
    ap (λ (t : Bool). is_some (cond t (Some n) (find (λ m. m == x) numbers))) (ne_eqb n x (λ same. absurd (omega arith)))
    ∙ not_among x numbers (All-tail (λ m. x < m) n numbers above)

among_later : (n : ℕ) (numbers : List ℕ) (x : ℕ) → n < x → is_number_among (n ∷ numbers) x ≡ is_number_among numbers x
among_later n numbers x lt = ap (λ (t : Bool). is_some (cond t (Some n) (find (λ m. m == x) numbers))) (ne_eqb n x (λ same. absurd (omega arith)))

among_first : (n : ℕ) (numbers : List ℕ) (x : ℕ) → (n == x) ≡ true → is_number_among (n ∷ numbers) x ≡ true
among_first n numbers x same = ap (λ (t : Bool). is_some (cond t (Some n) (find (λ m. m == x) numbers))) same

told_later : (n : ℕ) (numbers : List ℕ) (events : List Event) → All (λ e. n < e.number) events → told_in events (n ∷ numbers) ≡ told_in events numbers
told_later n numbers [] above = refl
told_later n numbers (e ∷ events) above =
    let first = among_later n numbers e.number (All-head (λ x. n < x.number) e events above) in
    let rest = told_later n numbers events (All-tail (λ x. n < x.number) e events above) in
    ap (λ (t : Bool). cond t (e ∷ told_in events (n ∷ numbers)) (told_in events (n ∷ numbers))) first
    ∙ ap (λ (l : List Event). cond (is_number_among numbers e.number) (e ∷ l) l) rest

told_none : (events : List Event) → told_in events [] ≡ []
told_none [] = refl
told_none (e ∷ events) = told_none events

pairs_head : (n : ℕ) (numbers : List ℕ) → AllPairs (λ a b. a < b) (n ∷ numbers) → All (λ m. n < m) numbers
pairs_head n numbers pairs = λ k d within. pairs 0 (suc k) d (omega arith) (omega arith)

pairs_tail : (n : ℕ) (numbers : List ℕ) → AllPairs (λ a b. a < b) (n ∷ numbers) → AllPairs (λ a b. a < b) numbers
pairs_tail n numbers pairs = λ i j d lt within. pairs (suc i) (suc j) d (omega arith) (omega arith)

-- of ascending numbers that are there, the events stand in the order of the events
pub told_at : (events : List Event) (numbers : List ℕ) → AscendsByNumber event_number events → AllPairs (λ a b. a < b) numbers → All (IsThere events) numbers → events_at events numbers ≡ told_in events numbers
told_at [] [] up pairs there = refl
told_at [] (n ∷ numbers) up pairs there = absurd (false≢true (All-head (IsThere []) n numbers there))
told_at (e ∷ events) [] up pairs there = sym (told_none (e ∷ events))
told_at (e ∷ events) (n ∷ numbers) up pairs there =
    elim (cases_Bool (e.number == n)) [
      | inl t ↦
          let same : e.number ≡ n = eqb-true e.number n t in
          let above : All (λ m. e.number < m) numbers = subst (λ (x : ℕ). All (λ m. x < m) numbers) (sym same) (pairs_head n numbers pairs) in
          let behind : All (λ x. n < x.number) events = subst (λ (y : ℕ). All (λ (x : Event). y < x.number) events) same up.0 in
          let rest = told_at events numbers up.1 (pairs_tail n numbers pairs) (all_later e events numbers above (All-tail (IsThere (e ∷ events)) n numbers there)) in
          first_at e events n numbers t ∙ ap (λ (l : List Event). e ∷ l) (at_later e events numbers above ∙ rest ∙ sym (told_later n numbers events behind))
          ∙ sym (first_told e events n numbers (eq-eqb n e.number (sym same)))
      | inr f ↦
          let here : IsThere events n = sym (ap is_some (ap (λ (b : Bool). cond b (Some e) (event_of events n)) f)) ∙ All-head (IsThere (e ∷ events)) n numbers there in
          let lt : e.number < n = there_above e.number events n up.0 here in
          let further : All (λ m. n < m) numbers = pairs_head n numbers pairs in
          let above : All (λ m. e.number < m) (n ∷ numbers) = All-cons (λ m. e.number < m) n numbers lt (All-weaker (λ m. n < m) (λ m. e.number < m) (λ m le. omega (arith, le, lt)) numbers further) in
          let rest = told_at events (n ∷ numbers) up.1 pairs (all_later e events (n ∷ numbers) above there) in
          at_later e events (n ∷ numbers) above ∙ rest ∙ sym (skipped_told e events (n ∷ numbers) (not_among e.number (n ∷ numbers) above))
    ]
  where
    first_at : (e : Event) (events : List Event) (n : ℕ) (numbers : List ℕ) → (e.number == n) ≡ true → events_at (e ∷ events) (n ∷ numbers) ≡ e ∷ events_at (e ∷ events) numbers
    first_at e events n numbers t = let first : event_of (e ∷ events) n ≡ Some e = ap (λ (b : Bool). cond b (Some e) (event_of events n)) t in rw first

    first_told : (e : Event) (events : List Event) (n : ℕ) (numbers : List ℕ) → (n == e.number) ≡ true → told_in (e ∷ events) (n ∷ numbers) ≡ e ∷ told_in events (n ∷ numbers)
    first_told e events n numbers t = ap (λ (b : Bool). cond b (e ∷ told_in events (n ∷ numbers)) (told_in events (n ∷ numbers))) (among_first n numbers e.number t)

    skipped_told : (e : Event) (events : List Event) (numbers : List ℕ) → is_number_among numbers e.number ≡ false → told_in (e ∷ events) numbers ≡ told_in events numbers
    skipped_told e events numbers f = ap (λ (b : Bool). cond b (e ∷ told_in events numbers) (told_in events numbers)) f

-- ---- the numbers of a lineage are there

there_among : (events : List Event) (e : Event) → Among e events → IsThere events e.number
there_among [] e has = absurd has
there_among (x ∷ events) e (inl one) = ap is_some (ap (λ (b : Bool). cond b (Some x) (event_of events e.number)) (eq-eqb x.number e.number (ap (λ (y : Event). y.number) one)))
there_among (x ∷ events) e (inr later) = by (x.number == e.number) (there_among events e later)
  where
    by : (t : Bool) → IsThere events e.number → is_some (cond t (Some x) (event_of events e.number)) ≡ true
    by true there = refl
    by false there = there

there_told : (events : List Event) (file n : ℕ) → HasTold events file n → IsThere events n
there_told events file n told = subst (IsThere events) told.is (there_among events told.event (among_contained told.event events told.there))

pub all_there : (events : List Event) (file : ℕ) (lineage : Lineage) → IsLineage events file lineage → All (λ n. is_some (event_of events n) ≡ true) lineage.events
all_there events file lineage is =
    All-weaker (Contains lineage.events) (IsThere events) (λ n has. there_told events file n ((is.told.just n).0 has)) lineage.events (All-contains_itself lineage.events)

pub told_is : (events : List Event) (file : ℕ) (lineage : Lineage) → AscendsByNumber event_number events → IsLineage events file lineage → events_at events lineage.events ≡ told_in events lineage.events
told_is events file lineage up is = told_at events lineage.events up is.told.ascend (all_there events file lineage is)

-- ---- one number more

pub next_at : (events : List Event) (numbers : List ℕ) (i d : ℕ) (e : Event) → i < length numbers → event_of events (get_or numbers i d) ≡ Some e
    → events_at events (drop i numbers) ≡ e ∷ events_at events (drop (i + 1) numbers)
next_at events numbers i d e within is = at_drop_more (events_at events) numbers i d within ∙ first
  where
    first : events_at events (get_or numbers i d ∷ drop (i + 1) numbers) ≡ e ∷ events_at events (drop (i + 1) numbers)
    first = rw is

pub none_at : (events : List Event) (numbers : List ℕ) (i : ℕ) → length numbers ≤ i → events_at events (drop i numbers) ≡ []
none_at events numbers i past = at_drop_all (events_at events) numbers i past
