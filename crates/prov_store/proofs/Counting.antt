-- Events are counted by their kinds.
use Rattle.std.proofs.Common.{◌≡◌, ℕ, ◌+◌, ◌-◌, ◌≤◌, ◌<◌, inl, inr, Bool, true, false, cond, List, [], ◌∷◌, ◌++◌, length, get_or, take, refl, sym, ap, subst, ◌∙◌, arith}
use Rattle.std.specs.Prelude.{All, ◌==◌, filter, slice_set, slice_index}
use Rattle.std.proofs.lemmas.Bool.{cases_eq}
use Rattle.std.proofs.lemmas.Bool.Decides.{nat_tests}
use Rattle.std.proofs.lemmas.List.{length-append, take_more, take_at, take_all, get_or-set_same, get_or-set_other, length-set, get_or_default}
use Rattle.std.proofs.lemmas.List.Elements.{filter-append}
use Rattle.std.proofs.lemmas.List.FromFn.{fill_by_all, get_or-map-range_with_len}
use Rattle.flowfile_record.specs.Events.{code_of}
use Rattle.flowfile_record.specs.declared.event.Event.{Event}
use Rattle.flowfile_record.specs.declared.event.EventKind.{EventKind}
use Rattle.flowfile_record.specs.declared.event.EventKind.TheVariants.{Create, Receive, Fork, Join, Clone, ContentModified, AttributesModified, Route, Send, Drop, Expire, Replay}
use Rattle.prov_store.specs.State.{count_of_code, counts_of, AreCounted}

pub code_within : (kind : EventKind) → (1 ≤ code_of kind) × (code_of kind ≤ 12)
code_within Create = (omega arith, omega arith)
code_within Receive = (omega arith, omega arith)
code_within Fork = (omega arith, omega arith)
code_within Join = (omega arith, omega arith)
code_within Clone = (omega arith, omega arith)
code_within ContentModified = (omega arith, omega arith)
code_within AttributesModified = (omega arith, omega arith)
code_within Route = (omega arith, omega arith)
code_within Send = (omega arith, omega arith)
code_within Drop = (omega arith, omega arith)
code_within Expire = (omega arith, omega arith)
code_within Replay = (omega arith, omega arith)

pub of_both : (code : ℕ) (xs ys : List Event) → count_of_code code (xs ++ ys) ≡ count_of_code code xs + count_of_code code ys
of_both code xs ys = ap length (filter-append (λ (e : Event). code_of e.kind == code) xs ys) ∙ length-append (filter (λ (e : Event). code_of e.kind == code) xs) (filter (λ (e : Event). code_of e.kind == code) ys)

pub of_one : (code : ℕ) (e : Event) → count_of_code code (e ∷ []) ≡ cond (code_of e.kind == code) 1 0
of_one code e = of_test (code_of e.kind == code)
  where
    of_test : (b : Bool) → length (cond b (e ∷ []) []) ≡ cond b 1 0
    of_test true = refl
    of_test false = refl

pub one_or_none : {b d : Bool} → b ≡ d → ◌≡◌ {A = ℕ} (cond b 1 0) (cond d 1 0)
one_or_none same = ap {B = ℕ} (λ (b : Bool). cond b 1 0) same

-- one event more is counted
pub counted_more : (i : ℕ) (events : List Event) (e : Event) (old mid new : List ℕ) → i < length events → e ≡ get_or events i e → length mid ≡ 12
    → new ≡ slice_set mid (code_of e.kind - 1) (slice_index mid (code_of e.kind - 1) + 1) → AreCounted (take i events) old mid → AreCounted (take (i + 1) events) old new
counted_more i events e old mid new lt is long set before code first last =
    let within = code_within e.kind in
    let k = code_of e.kind - 1 in
    let more : take (i + 1) events ≡ take i events ++ e ∷ [] = take_more events i e lt ∙ ap (λ (x : Event). take i events ++ x ∷ []) (sym is) in
    let count : count_of_code code (take (i + 1) events) ≡ count_of_code code (take i events) + cond (code_of e.kind == code) 1 0 =
    ap (count_of_code code) more ∙ of_both code (take i events) (e ∷ []) ∙ ap (λ (n : ℕ). count_of_code code (take i events) + n) (of_one code e) in
    elim (cases_eq (code - 1) k) [
      | inl same ↦
          let test : (code_of e.kind == code) ≡ true = grind (arith, nat_tests, same, first, within.0) in
          let here : slice_index new (code - 1) ≡ slice_index mid k + 1 =
          ap (λ (l : List ℕ). slice_index l (code - 1)) set ∙ ap (λ (j : ℕ). slice_index (slice_set mid k (slice_index mid k + 1)) j) same ∙ get_or-set_same mid k (slice_index mid k + 1) 0 (omega (arith, long, within.1, within.0)) in
          omega (arith, here, before code first last, ap (slice_index mid) same, count, one_or_none test)
      | inr other ↦
          let test : (code_of e.kind == code) ≡ false = grind (arith, nat_tests, other, first, within.0) in
          let here : slice_index new (code - 1) ≡ slice_index mid (code - 1) =
          ap (λ (l : List ℕ). slice_index l (code - 1)) set ∙ get_or-set_other mid k (code - 1) (slice_index mid k + 1) 0 other in
          omega (arith, here, before code first last, count, one_or_none test)
    ]

pub most_more : (k m : ℕ) (mid new : List ℕ) → k < length mid → new ≡ slice_set mid k (slice_index mid k + 1) → All (λ n. n ≤ m) mid → All (λ n. n ≤ m + 1) new
most_more k m mid new lt set most j d within =
    let there : j < length mid = omega (arith, within, ap length set, length-set mid k (slice_index mid k + 1)) in
    let get : get_or new j d ≡ get_or (slice_set mid k (slice_index mid k + 1)) j d = ap (λ (l : List ℕ). get_or l j d) set in
    elim (cases_eq j k) [
      | inl same ↦
          let here = ap (λ (i : ℕ). get_or (slice_set mid k (slice_index mid k + 1)) i d) same ∙ get_or-set_same mid k (slice_index mid k + 1) d lt in
          omega (arith, get, here, most k 0 lt)
      | inr other ↦ omega (arith, get, get_or-set_other mid k j (slice_index mid k + 1) d other, most j d there)
    ]

-- the same of events that are gathered
pub counted_one : (events : List Event) (e : Event) (old mid new : List ℕ) → length mid ≡ 12
    → new ≡ slice_set mid (code_of e.kind - 1) (slice_index mid (code_of e.kind - 1) + 1) → AreCounted events old mid → AreCounted (events ++ e ∷ []) old new
counted_one events e old mid new long set before =
    let all = events ++ e ∷ [] in
    let n = length events in
    let one : n < length all = omega (arith, length-append events (e ∷ [])) in
    let is : e ≡ get_or all n e = sym (get_or-append-right events e e) in
    let front : take n all ≡ events = take_at events (e ∷ []) n refl in
    let whole : take (n + 1) all ≡ all = take_all (n + 1) all (omega (arith, length-append events (e ∷ []))) in
    subst (λ (l : List Event). AreCounted l old new) whole
    (counted_more n all e old mid new one is long set (subst (λ (l : List Event). AreCounted l old mid) (sym front) before))
  where
    get_or-append-right : (xs : List Event) (x d : Event) → get_or (xs ++ x ∷ []) (length xs) d ≡ x
    get_or-append-right [] x d = refl
    get_or-append-right (y ∷ xs) x d = get_or-append-right xs x d

-- the counts of no events, and of some more
pub count_at : (code : ℕ) (events : List Event) → 1 ≤ code → code ≤ 12 → slice_index (counts_of events) (code - 1) ≡ count_of_code code events
unfolding counts_of
count_at code events first last = get_or-map-range_with_len (λ (c : ℕ). count_of_code c events) 1 12 (code - 1) code 0 (omega (arith, first, last)) (omega (arith, first))

pub counts_are : (before events : List Event) (old new : List ℕ) → length new ≡ 12 → old ≡ counts_of before → AreCounted events old new → new ≡ counts_of (before ++ events)
unfolding counts_of
counts_are before events old new long is counted =
    fill_by_all (λ k. count_of_code (k + 1) (before ++ events)) new 12 0 long
    (λ k lt.
    let code = k + 1 in
    let place : code - 1 ≡ k = omega arith in
    let sum = counted code (omega arith) (omega (arith, lt)) in
    omega (arith, ap (slice_index new) place, sum, ap (λ (l : List ℕ). slice_index l (code - 1)) is, count_at code before (omega arith) (omega (arith, lt)), of_both code before events))

of_most : (code : ℕ) (events : List Event) → count_of_code code events ≤ length events
of_most code [] = omega arith
of_most code (e ∷ events) =
    let both = of_both code (e ∷ []) events in
    let one : count_of_code code (e ∷ []) ≤ 1 = at_most (code_of e.kind == code) (of_one code e) in
    omega (arith, both, one, of_most code events)
  where
    at_most : (b : Bool) → count_of_code code (e ∷ []) ≡ cond b 1 0 → count_of_code code (e ∷ []) ≤ 1
    at_most true is = omega (arith, is)
    at_most false is = omega (arith, is)

-- no count is more than there are events
pub count_most : (events : List Event) (counts : List ℕ) → length counts ≡ 12 → counts ≡ counts_of events → All (λ n. n ≤ length events) counts
count_most events counts long is k d lt =
    let place : k + 1 - 1 ≡ k = omega arith in
    let zero_d : get_or counts k d ≡ slice_index counts k = get_or_default counts k d 0 lt in
    omega (arith, zero_d, ap (slice_index counts) place, ap (λ (l : List ℕ). slice_index l (k + 1 - 1)) is, count_at (k + 1) events (omega arith) (omega (arith, lt, long)), of_most (k + 1) events)

pub none_counted : (0 ∷ 0 ∷ 0 ∷ 0 ∷ 0 ∷ 0 ∷ 0 ∷ 0 ∷ 0 ∷ 0 ∷ 0 ∷ 0 ∷ []) ≡ counts_of []
unfolding counts_of
none_counted = refl
