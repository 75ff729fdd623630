-- Events between numbers, range by range.
use Rattle.std.proofs.Common.{◌≡◌, ℕ, ◌+◌, ◌-◌, ◌<◌, ◌≤◌, Bool, true, false, cond, List, [], ◌∷◌, ◌++◌, length, map, ◌∙◌, ap, sym, refl, inl, inr, arith}
use Rattle.std.specs.Prelude.{All, filter, nat_le, ◌&&◌, max, min}
use Rattle.std.specs.List.{range_with_len}
use Rattle.std.proofs.lemmas.Bool.{cases_lt}
use Rattle.std.proofs.lemmas.Bool.Decides.{nat_tests}
use Rattle.std.proofs.lemmas.List.{length-map}
use Rattle.std.proofs.lemmas.List.FromFn.{length-range_with_len}
use Rattle.std.proofs.lemmas.List.Elements.{All-nil, All-cons, All-head, All-tail, All-append, All-weaker}
use Rattle.flowfile_record.specs.NumberedItems.{AscendsByNumber}
use Rattle.flowfile_record.specs.declared.event.Event.{Event}
use Rattle.prov_index.specs.Index.{event_number}
use Rattle.prov_store.specs.Scanning.{is_within, numbers_between}
use Rattle.prov_store.specs.State.{AreNumberedFrom}
use Rattle.prov_store.proofs.Scans.{none_behind}

-- ---- a number and a range

leb_true : (a b : ℕ) → a ≤ b → nat_le a b ≡ true
leb_true a b le = grind (arith, nat_tests)

leb_false : (a b : ℕ) → b < a → nat_le a b ≡ false
leb_false a b lt = grind (arith, nat_tests)

and_true : (p q : Bool) → p ≡ true → q ≡ true → (p && q) ≡ true
and_true p q one two = ap (λ (b : Bool). b && q) one ∙ two

and_false : (p q : Bool) → p ≡ false → (p && q) ≡ false
and_false p q one = ap (λ (b : Bool). b && q) one

-- ---- a row of events

head_is : (f : ℕ) (e : Event) (events : List Event) → AreNumberedFrom f (e ∷ events) → e.number ≡ f
head_is f e events row = let all : e.number ∷ map (λ x. x.number) events ≡ f ∷ range_with_len (f + 1) (length events) = row in cc

tail_is : (f : ℕ) (e : Event) (events : List Event) → AreNumberedFrom f (e ∷ events) → AreNumberedFrom (f + 1) events
tail_is f e events row = let all : e.number ∷ map (λ x. x.number) events ≡ f ∷ range_with_len (f + 1) (length events) = row in cc

module _ (f : ℕ) (e : Event) (events : List Event) (first last : ℕ) where
  keep : e.number ≡ f → first ≤ f → f ≤ last → filter (is_within first last) (e ∷ events) ≡ e ∷ filter (is_within first last) events
  keep same above below =
      ap (λ (b : Bool). cond b (e ∷ filter (is_within first last) events) (filter (is_within first last) events))
      (and_true (nat_le first e.number) (nat_le e.number last) (leb_true first e.number (omega arith)) (leb_true e.number last (omega arith)))

  skip_low : e.number ≡ f → f < first → filter (is_within first last) (e ∷ events) ≡ filter (is_within first last) events
  skip_low same below =
      ap (λ (b : Bool). cond b (e ∷ filter (is_within first last) events) (filter (is_within first last) events))
      (and_false (nat_le first e.number) (nat_le e.number last) (leb_false first e.number (omega arith)))

-- above both, it doesn't matter where a range begins
begun : (low first last f : ℕ) (events : List Event) → AreNumberedFrom f events → low ≤ f → first ≤ f → filter (is_within low last) events ≡ filter (is_within first last) events
begun low first last f [] row above over = refl
begun low first last f (e ∷ events) row above over =
    let same = head_is f e events row in
    let rest = begun low first last (f + 1) events (tail_is f e events row) (omega arith) (omega arith) in
    ap (λ (b : Bool). cond (b && nat_le e.number last) (e ∷ filter (is_within low last) events) (filter (is_within low last) events))
    (leb_true low e.number (omega arith) ∙ sym (leb_true first e.number (omega arith)))
    ∙ ap (λ (l : List Event). cond (is_within first last e) (e ∷ l) l) rest

-- a range in two parts, at one event more
parted_one : (first mid last f : ℕ) (e : Event) (events : List Event) → AreNumberedFrom f (e ∷ events) → first ≤ mid + 1 → mid ≤ last → e.number ≡ f
    → filter (is_within first mid) events ++ filter (is_within (mid + 1) last) events ≡ filter (is_within first last) events
    → filter (is_within first mid) (e ∷ events) ++ filter (is_within (mid + 1) last) (e ∷ events) ≡ filter (is_within first last) (e ∷ events)
parted_one first mid last f e events row over below same rest =
    elim (cases_lt f first) [
      | inl lt ↦
          ap (λ (l : List Event). l ++ filter (is_within (mid + 1) last) (e ∷ events)) (skip_low f e events first mid same lt)
          ∙ ap (λ (l : List Event). filter (is_within first mid) events ++ l) (skip_low f e events (mid + 1) last same (omega arith))
          ∙ rest ∙ sym (skip_low f e events first last same lt)
      | inr ge ↦ elim (cases_lt mid f) [
        | inl lt ↦
            ap (λ (l : List Event). l ++ filter (is_within (mid + 1) last) (e ∷ events)) (none_behind first mid f (e ∷ events) row lt)
            ∙ begun (mid + 1) first last f (e ∷ events) row (omega arith) ge
        | inr le ↦
            ap (λ (l : List Event). l ++ filter (is_within (mid + 1) last) (e ∷ events)) (keep f e events first mid same ge le)
            ∙ ap (λ (l : List Event). e ∷ filter (is_within first mid) events ++ l) (skip_low f e events (mid + 1) last same (omega arith))
            ∙ ap (λ (l : List Event). e ∷ l) rest ∙ sym (keep f e events first last same ge (omega arith))
      ]
    ]

pub parted : (first mid last f : ℕ) (events : List Event) → AreNumberedFrom f events → first ≤ mid + 1 → mid ≤ last
    → filter (is_within first mid) events ++ filter (is_within (mid + 1) last) events ≡ filter (is_within first last) events
parted first mid last f [] row over below = refl
parted first mid last f (e ∷ events) row over below =
    parted_one first mid last f e events row over below (head_is f e events row) (parted first mid last (f + 1) events (tail_is f e events row) over below)

-- ---- numbers that ascend

all_from : (f : ℕ) (events : List Event) → AreNumberedFrom f events → All (λ e. f ≤ e.number) events
all_from f [] row = All-nil (λ e. f ≤ e.number)
all_from f (e ∷ events) row =
    All-cons (λ x. f ≤ x.number) e events (let same = head_is f e events row in omega arith)
    (All-weaker (λ x. f + 1 ≤ x.number) (λ x. f ≤ x.number) (λ x le. omega (arith, le)) events (all_from (f + 1) events (tail_is f e events row)))

-- events in a row go behind events whose numbers are below theirs
pub ascends-row : (f : ℕ) (events : List Event) → AreNumberedFrom f events → AscendsByNumber event_number events
ascends-row f [] row = tt
ascends-row f (e ∷ events) row = (
  let same = head_is f e events row in
      All-weaker (λ (x : Event). f + 1 ≤ x.number) (λ (x : Event). e.number < x.number) (λ x le. omega (arith, le, same)) events (all_from (f + 1) events (tail_is f e events row)),
  ascends-row (f + 1) events (tail_is f e events row),
)

pub ascends-append : (f : ℕ) (earlier events : List Event) → AscendsByNumber event_number earlier → All (λ e. e.number < f) earlier → AreNumberedFrom f events
    → AscendsByNumber event_number (earlier ++ events)
ascends-append f [] events up below row = ascends-row f events row
ascends-append f (e ∷ earlier) events up below row =
    let lt : e.number < f = All-head (λ x. x.number < f) e earlier below in (
      All-append (λ x. e.number < x.number) earlier events up.0 (All-weaker (λ (x : Event). f ≤ x.number) (λ (x : Event). e.number < x.number) (λ x le. omega (arith, le, lt)) events (all_from f events row)),
      ascends-append f earlier events up.1 (All-tail (λ x. x.number < f) e earlier below) row,
    )

all_below : (f last : ℕ) (events : List Event) → AreNumberedFrom f events → f + length events ≤ last + 1 → All (λ e. e.number < last + 1) events
all_below f last [] row fits = All-nil (λ e. e.number < last + 1)
all_below f last (e ∷ events) row fits =
    All-cons (λ x. x.number < last + 1) e events (let same = head_is f e events row in omega arith)
    (all_below (f + 1) last events (tail_is f e events row) (omega arith))

-- Numbers from one on, up to a bound at most. They are in a row, and go on behind those below them.
pub row_of : (first many : ℕ) (events : List Event) → map (λ (e : Event). e.number) events ≡ range_with_len first many → AreNumberedFrom first events × (length events ≡ many)
row_of first many events numbered =
    let same : length events ≡ many = sym (length-map events (λ (e : Event). e.number)) ∙ ap length numbered ∙ length-range_with_len first many in
    (numbered ∙ ap (range_with_len first) (sym same), same)

-- what a range adds to events up to it
pub record GoesOn (shown to : ℕ) (earlier events : List Event) : Type 0 where
  pub ascends : AscendsByNumber event_number (earlier ++ events)
  pub below : All (λ e. e.number < to + 1) (earlier ++ events)

pub goes_on : (shown to end : ℕ) (earlier events : List Event) → shown < to → AscendsByNumber event_number earlier → All (λ e. e.number < shown + 1) earlier
    → map (λ (e : Event). e.number) events ≡ numbers_between (max (shown + 1) 1) (min to end) → GoesOn shown to earlier events
goes_on shown to end earlier events more up below numbered =
    let first : max (shown + 1) 1 ≡ shown + 1 = omega arith in
    let row = row_of (shown + 1) (min to end + 1 - (shown + 1)) events (numbered ∙ ap (λ (n : ℕ). range_with_len n (min to end + 1 - n)) first) in
    record {
      ascends = ascends-append (shown + 1) earlier events up below row.0;
      below = All-append (λ e. e.number < to + 1) earlier events
          (All-weaker (λ (e : Event). e.number < shown + 1) (λ (e : Event). e.number < to + 1) (λ e lt. omega (arith, lt, more)) earlier below)
          (all_below (shown + 1) to events row.0 (omega (arith, row.1, more)));
    }
