-- Counts of files: one more file, one fewer, and files in another order.
use Rattle.std.proofs.Common.{◌≡◌, ◌≢◌, ◌⊎◌, inl, inr, ℕ, ◌+◌, ◌-◌, ◌<◌, ◌≤◌, ◌==◌, ◌^◌, nat_lt, not, Bool, true, false, cond, List, [], ◌∷◌, length, Option, Some, None, refl, sym, ap, ◌∙◌, subst, arith}
use Rattle.std.specs.Prelude.{All, count_by, sum_by}
use Rattle.std.specs.List.Sorted.{IsPermutation}
use Rattle.std.specs.Option.{option_map_or}
use Rattle.std.proofs.lemmas.Bool.{cases_Bool, cases_eq, eqb-true, eq-eqb, ne_eqb}
use Rattle.std.proofs.lemmas.List.Elements.{All-head, All-tail, All-filter}
use Rattle.std.proofs.lemmas.List.Sorted.{IsPermutation-cons, IsPermutation-middle, IsPermutation-refl, IsPermutation-trans, length_permutation, sum_by-IsPermutation}
use Rattle.std.proofs.lemmas.List.Sums.{count_by-le-length, length-filter, sum_by-cons, sum-map}
use Rattle.flowfile_record.specs.declared.flow_file.FlowFile.{FlowFile}
use Rattle.flowfile_record.specs.NumberedItems.{item_of, with_item, without_item, AscendsByNumber}
use Rattle.flowfile_record.proofs.ByNumber.{All-with, ascends-with, item_of-with, item_of-without_other, none_above, sum-with, sum-without}
use Rattle.flowfile_record.proofs.Numbers.{without_none}
use Rattle.flow_queue.specs.declared.held.Held.{Held}
use Rattle.flow_queue.specs.declared.queue.counts.Counts.{Counts}
use Rattle.flow_queue.specs.declared.queue.counts.WholeCount.{WholeCount}
use Rattle.flow_queue.specs.Counts.{AreCountsOf, CanEnter, HasTally, count_number, count_places, files_counted, files_under, has_enough, has_number, has_penalty, whole_number}
use Rattle.flow_queue.specs.Queue.{held_number, queue_with_file, with_flight, without_file}
use Rattle.flow_queue.proofs.Fields.{length-mark, sum-marked, with-permutes}
use Rattle.flow_queue.proofs.Numbered.{ascends-filter}
use mir.Val.{bool_byte}

abbrev IsSome_count : WholeCount → Type 0
IsSome_count count = 0 < count.files

abbrev pub bit : Bool → ℕ
bit b = cond b 1 0

-- a test as the code adds it
pub as_bit : (n : ℕ) (answer test : Bool) → n ≡ bool_byte answer → answer ≡ test → n ≡ bit test
as_bit n true test is same = is ∙ ap bit same
as_bit n false test is same = is ∙ ap bit same

-- ---- sums over what is kept by number

module _ {A : Type 0} (number : A → ℕ) (size : A → ℕ) where
  pub by-with : (new : A) (items : List A) → sum_by size (with_item number new items) ≡ sum_by size items + size new
  by-with new items = omega (arith, sum-with number size new items, sum-map size items, sum-map size (with_item number new items))

  pub by-without : (n : ℕ) (items : List A) (a : A) → AscendsByNumber number items → item_of number n items ≡ Some a → sum_by size (without_item number n items) + size a ≡ sum_by size items
  by-without n items a up is = omega (arith, sum-without number size n items a up is, sum-map size items, sum-map size (without_item number n items))

module _ {A : Type 0} (number : A → ℕ) where
  pub none-there : (n : ℕ) (items : List A) → item_of number n (without_item number n items) ≡ None
  none-there n [] = refl
  none-there n (x ∷ items) =
      elim (cases_Bool (number x == n)) [
        | inl t ↦ rw t (none-there n items)
        | inr f ↦ rw (f, f) (none-there n items)
      ]

  pub found-number : (n : ℕ) (a : A) (items : List A) → item_of number n items ≡ Some a → number a ≡ n
  found-number n a [] is = cc
  found-number n a (x ∷ items) is =
      elim (cases_Bool (number x == n)) [
        | inl t ↦ let found : Some x ≡ Some a = rw t at is in let it : x ≡ a = cc in ap number (sym it) ∙ eqb-true (number x) n t
        | inr f ↦ let later : item_of number n items ≡ Some a = rw f at is in found-number n a items later
      ]

-- ---- the counts agree

few-enough : (items : List WholeCount) → All IsSome_count items → count_by has_enough items ≤ files_counted items
few-enough [] some = omega arith
few-enough (count ∷ items) some =
    let rest = few-enough items (All-tail IsSome_count count items some) in
    let here = All-head IsSome_count count items some in
    let one = sum_by-cons (λ (c : WholeCount). bit (has_enough c)) count items in
    let other = sum_by-cons (λ (c : WholeCount). c.files) count items in
    elim (has_enough count) as (λ b. count_by has_enough (count ∷ items) ≡ bit b + count_by has_enough items → count_by has_enough (count ∷ items) ≤ files_counted (count ∷ items)) [
      | true ↦ λ is. omega (arith, rest, here, is, other)
      | false ↦ λ is. omega (arith, rest, here, is, other)
    ] one

few-items : (items : List WholeCount) → All IsSome_count items → length items ≤ files_counted items
few-items [] some = omega arith
few-items (count ∷ items) some =
    omega (arith, few-items items (All-tail IsSome_count count items some), All-head IsSome_count count items some, sum_by-cons (λ (c : WholeCount). c.files) count items)

pub enough-within : (counts : Counts) → HasTally counts → counts.enough ≤ files_counted counts.wholes.items
enough-within counts has = omega (arith, has.enough, few-enough counts.wholes.items has.some)

pub items-within : (counts : Counts) → HasTally counts → length counts.wholes.items ≤ files_counted counts.wholes.items
items-within counts has = few-items counts.wholes.items has.some

pub enough-parts : (counts : Counts) (n : ℕ) (count : WholeCount) → HasTally counts → item_of count_number n counts.wholes.items ≡ Some count
    → count_by has_enough (without_item count_number n counts.wholes.items) + bit (has_enough count) ≡ counts.enough
enough-parts counts n count has is =
    omega (arith, by-without count_number (λ (c : WholeCount). bit (has_enough c)) n counts.wholes.items count has.ascends is, has.enough)

pub tally-taken : (before after : Counts) (n : ℕ) (count : WholeCount) → HasTally before → item_of count_number n before.wholes.items ≡ Some count
    → after.wholes.items ≡ without_item count_number n before.wholes.items → after.enough ≡ before.enough - bit (has_enough count) → HasTally after
tally-taken before after n count has found items enough = record {
  ascends = subst (AscendsByNumber count_number) (sym items) (ascends-filter count_number _ before.wholes.items has.ascends);
  some = subst (All IsSome_count) (sym items) (All-filter _ IsSome_count before.wholes.items has.some);
  enough = omega (arith, enough, enough-parts before n count has found, ap (count_by has_enough) items);
}

pub tally-same : (before after : Counts) → HasTally before → after.wholes.items ≡ before.wholes.items → after.enough ≡ before.enough → HasTally after
tally-same before after has items enough = record {
  ascends = subst (AscendsByNumber count_number) (sym items) has.ascends;
  some = subst (All IsSome_count) (sym items) has.some;
  enough = enough ∙ has.enough ∙ sym (ap (count_by has_enough) items);
}

pub tally-put : (before after : Counts) (count : WholeCount) → HasTally before → item_of count_number count.number before.wholes.items ≡ None → 0 < count.files
    → after.wholes.items ≡ with_item count_number count before.wholes.items → after.enough ≡ before.enough + bit (has_enough count) → HasTally after
tally-put before after count has none some items enough = record {
  ascends = subst (AscendsByNumber count_number) (sym items) (ascends-with count_number count before.wholes.items none has.ascends);
  some = subst (All IsSome_count) (sym items) (All-with count_number IsSome_count count before.wholes.items some has.some);
  enough = omega (arith, enough, has.enough, by-with count_number (λ (c : WholeCount). bit (has_enough c)) count before.wholes.items, ap (count_by has_enough) items);
}

-- ---- as many as are counted under a number

files_of : Option WholeCount → ℕ
files_of o = option_map_or (λ (count : WholeCount). count.files) o 0

pub under-without : (n m : ℕ) (items : List WholeCount) → files_under m (without_item count_number n items) ≡ cond (n == m) 0 (files_under m items)
under-without n m items =
    elim (cases_eq n m) [
      | inl is ↦
          let yes : (n == m) ≡ true = eq-eqb n m is in
          let none : item_of count_number m (without_item count_number n items) ≡ None = subst (λ k. item_of count_number m (without_item count_number k items) ≡ None) (sym is) (none-there count_number m items) in
          ap (λ o. option_map_or (λ (count : WholeCount). count.files) o 0) none ∙ sym (ap (λ b. cond b 0 (files_under m items)) yes)
      | inr differ ↦
          let no : (n == m) ≡ false = ne_eqb n m differ in
          ap (λ o. option_map_or (λ (count : WholeCount). count.files) o 0) (item_of-without_other count_number m n items (λ e. differ (sym e)))
          ∙ sym (ap (λ b. cond b 0 (files_under m items)) no)
    ]

pub under-with : (n k m : ℕ) (items : List WholeCount) → files_under m (with_item count_number (record { number = n; files = k }) items) ≡ cond (n == m) k (files_under m items)
under-with n k m items =
    ap (λ o. option_map_or (λ (count : WholeCount). count.files) o 0) (item_of-with count_number m (record { number = n; files = k }) items)
    ∙ elim (n == m) as (λ b. option_map_or (λ (count : WholeCount). count.files) (cond b (Some (record { number = n; files = k })) (item_of count_number m items)) 0 ≡ cond b k (files_under m items)) [ true ↦ refl | false ↦ refl ]

pub counted-without : (n : ℕ) (items : List WholeCount) → AscendsByNumber count_number items → files_counted (without_item count_number n items) + files_under n items ≡ files_counted items
counted-without n items up = by_found (item_of count_number n items) refl
  where
    by_found : (o : Option WholeCount) → item_of count_number n items ≡ o → files_counted (without_item count_number n items) + option_map_or (λ (count : WholeCount). count.files) o 0 ≡ files_counted items
    by_found None is = omega (arith, ap files_counted (without_none count_number n items is))
    by_found (Some count) is = by-without count_number (λ (c : WholeCount). c.files) n items count up is

twice : (b : Bool) (k m n : ℕ) → cond b k (cond b m n) ≡ cond b k n
twice true k m n = refl
twice false k m n = refl

-- the count of a number is put in place of the one before
pub under-changed : (n k m : ℕ) (items : List WholeCount) → files_under m (with_item count_number (record { number = n; files = k }) (without_item count_number n items)) ≡ cond (n == m) k (files_under m items)
under-changed n k m items =
    under-with n k m (without_item count_number n items) ∙ ap (cond (n == m) k) (under-without n m items) ∙ twice (n == m) k 0 (files_under m items)

pub counted-changed : (n k : ℕ) (items : List WholeCount) → AscendsByNumber count_number items → files_counted (with_item count_number (record { number = n; files = k }) (without_item count_number n items)) + files_under n items ≡ files_counted items + k
counted-changed n k items up =
    omega (arith, by-with count_number (λ (c : WholeCount). c.files) (record { number = n; files = k }) (without_item count_number n items), counted-without n items up)

-- one more number may be counted where one more file may
pub few-places : (before after : Counts) (n : ℕ) → HasTally before → after.wholes.items ≡ without_item count_number n before.wholes.items → length after.wholes.items + after.wholes.room ≡ length before.wholes.items + before.wholes.room
    → files_counted before.wholes.items < length before.wholes.items + before.wholes.room → 0 < after.wholes.room
few-places before after n has items places room =
    omega (arith, ap length items, length-left, items-within before has, places, room)
  where
    length-left : length (without_item count_number n before.wholes.items) ≤ length before.wholes.items
    length-left = omega (arith, length-filter (λ (count : WholeCount). not (count_number count == n)) before.wholes.items, count_by-le-length (λ (count : WholeCount). not (count_number count == n)) before.wholes.items)

-- ---- one file more, and one fewer

module _ (before after : Counts) (held : Held) (files : List Held) where
  abbrev number : ℕ
  number = whole_number held.file.attributes

  one-more : (m : ℕ) → count_by (has_number m) (held ∷ files) ≡ bit (number == m) + count_by (has_number m) files
  one-more m = sum_by-cons (λ (h : Held). bit (has_number m h)) held files

  penalty : count_by has_penalty (held ∷ files) ≡ bit (has_penalty held) + count_by has_penalty files
  penalty = sum_by-cons (λ (h : Held). bit (has_penalty h)) held files

  pub counts-more : HasTally after → after.wholes.items ≡ with_item count_number (record { number = number; files = files_under number before.wholes.items + 1 }) (without_item count_number number before.wholes.items)
      → after.penalised ≡ before.penalised + bit (has_penalty held) → AreCountsOf before files → AreCountsOf after (held ∷ files)
  counts-more has items penalised were = record {
    tally = has;
    wholes = λ m.
        ap (files_under m) items ∙ under-changed number (files_under number before.wholes.items + 1) m before.wholes.items ∙ at m (cases_eq number m) ∙ sym (one-more m);
    all = omega (arith, ap files_counted items, counted-changed number (files_under number before.wholes.items + 1) before.wholes.items were.tally.ascends, were.all);
    penalised = omega (arith, penalised, were.penalised, penalty);
  }
    where
      at : (m : ℕ) → (number ≡ m) ⊎ (number ≢ m) → cond (number == m) (files_under number before.wholes.items + 1) (files_under m before.wholes.items) ≡ bit (number == m) + count_by (has_number m) files
      at m (inl is) =
          let yes : (number == m) ≡ true = eq-eqb number m is in
          let under = were.wholes m in
          let same = ap (λ k. files_under k before.wholes.items) is in
          rw yes (omega (arith, under, same))
      at m (inr differ) =
          let no : (number == m) ≡ false = ne_eqb number m differ in
          rw no (omega (arith, were.wholes m))

  module _ (were : AreCountsOf before (held ∷ files)) where
    fewer-at : (m : ℕ) → cond (number == m) (files_under number before.wholes.items - 1) (files_under m before.wholes.items) ≡ count_by (has_number m) files
    fewer-at m = elim (cases_eq number m) [
      | inl is ↦
          let yes : (number == m) ≡ true = eq-eqb number m is in
          let under = were.wholes m ∙ one-more m in
          let same = ap (λ k. files_under k before.wholes.items) is in
          let one : bit (number == m) ≡ 1 = ap bit yes in
          rw yes (omega (arith, under, same, one))
      | inr differ ↦
          let no : (number == m) ≡ false = ne_eqb number m differ in
          let none : bit (number == m) ≡ 0 = ap bit no in
          let under = were.wholes m ∙ one-more m in
          rw no (omega (arith, under, none))
    ]

    pub there-is-one : 0 < files_under number before.wholes.items
    there-is-one = omega (arith, were.wholes number, one-more number, ap bit (eq-eqb number number refl))

    pub counts-fewer : HasTally after → after.wholes.items ≡ with_item count_number (record { number = number; files = files_under number before.wholes.items - 1 }) (without_item count_number number before.wholes.items)
        → after.penalised ≡ before.penalised - bit (has_penalty held) → AreCountsOf after files
    counts-fewer has items penalised = record {
      tally = has;
      wholes = λ m. ap (files_under m) items ∙ under-changed number (files_under number before.wholes.items - 1) m before.wholes.items ∙ fewer-at m;
      all = omega (arith, ap files_counted items, counted-changed number (files_under number before.wholes.items - 1) before.wholes.items were.tally.ascends, were.all, there-is-one);
      penalised = omega (arith, penalised, were.penalised, penalty);
    }

    pub counts-last : files_under number before.wholes.items ≤ 1 → HasTally after → after.wholes.items ≡ without_item count_number number before.wholes.items
        → after.penalised ≡ before.penalised - bit (has_penalty held) → AreCountsOf after files
    counts-last last has items penalised = record {
      tally = has;
      wholes = λ m.
          let none : files_under number before.wholes.items - 1 ≡ 0 = omega (arith, last) in
          ap (files_under m) items ∙ under-without number m before.wholes.items ∙ sym (ap (λ k. cond (number == m) k (files_under m before.wholes.items)) none) ∙ fewer-at m;
      all = omega (arith, ap files_counted items, counted-without number before.wholes.items were.tally.ascends, were.all, last, there-is-one);
      penalised = omega (arith, penalised, were.penalised, penalty);
    }

-- ---- the same counts, and the same files in another order

pub counts-same : (before after : Counts) → after.wholes.items ≡ before.wholes.items → after.enough ≡ before.enough → after.penalised ≡ before.penalised → (files : List Held) → AreCountsOf before files → AreCountsOf after files
counts-same before after items enough penalised files are = record {
  tally = tally-same before after are.tally items enough;
  wholes = λ m. ap (files_under m) items ∙ are.wholes m;
  all = ap files_counted items ∙ are.all;
  penalised = penalised ∙ are.penalised;
}

pub counts-permuted : (counts : Counts) (files others : List Held) → IsPermutation files others → AreCountsOf counts files → AreCountsOf counts others
counts-permuted counts files others same are = record {
  tally = are.tally;
  wholes = λ m. are.wholes m ∙ sym (sum_by-IsPermutation (λ (h : Held). bit (has_number m h)) files others same);
  all = are.all ∙ sym (length_permutation files others same);
  penalised = are.penalised ∙ sym (sum_by-IsPermutation (λ (h : Held). bit (has_penalty h)) files others same);
}

-- ---- the files of a queue

pub counts-with : (counts : Counts) (file : FlowFile) (files : List Held) → AreCountsOf counts (record { file = file; in_flight = false } ∷ files) → AreCountsOf counts (queue_with_file file files)
counts-with counts file files are =
    let new : Held = record { file = file; in_flight = false } in
    counts-permuted counts (new ∷ files) (queue_with_file file files) (with-permutes new files) are

taken-permutes : (n : ℕ) (held : Held) (files : List Held) → AscendsByNumber held_number files → item_of held_number n files ≡ Some held → IsPermutation files (held ∷ without_file n files)
taken-permutes n held [] up is = cc
taken-permutes n held (first ∷ files) up is =
    elim (cases_Bool (held_number first == n)) [
      | inl it ↦
          let found : Some first ≡ Some held = rw it at is in
          let same : first ≡ held = cc in
          let above : All (λ later. n < held_number later) files = rw (eqb-true (held_number first) n it) at up.0 in
          let left : first ∷ files ≡ held ∷ without_file n (first ∷ files)
          = λ i. same i ∷ (sym (ap (λ b. cond (not b) (first ∷ without_file n files) (without_file n files)) it ∙ none_above held_number n files above)) i in
          subst (IsPermutation (first ∷ files)) left (IsPermutation-refl (first ∷ files))
      | inr other ↦
          let later : item_of held_number n files ≡ Some held = rw other at is in
          let rest = taken-permutes n held files up.1 later in
          let left = ap (λ b. held ∷ cond (not b) (first ∷ without_file n files) (without_file n files)) (sym other) in
          subst (IsPermutation (first ∷ files)) left
          (IsPermutation-trans _ _ _ (IsPermutation-cons first files (held ∷ without_file n files) rest) (IsPermutation-middle (first ∷ []) held (without_file n files)))
    ]

pub counts-taken : (counts : Counts) (n : ℕ) (held : Held) (files : List Held) → AscendsByNumber held_number files → item_of held_number n files ≡ Some held → AreCountsOf counts files → AreCountsOf counts (held ∷ without_file n files)
counts-taken counts n held files up is are = counts-permuted counts files (held ∷ without_file n files) (taken-permutes n held files up is) are

pub counts-marked : (counts : Counts) (n : ℕ) (in_flight : Bool) (files : List Held) → AreCountsOf counts files → AreCountsOf counts (with_flight n in_flight files)
counts-marked counts n in_flight files are = record {
  tally = are.tally;
  wholes = λ m. are.wholes m ∙ sym (sum-marked (λ (file : FlowFile). bit (whole_number file.attributes == m)) n in_flight files);
  all = are.all ∙ sym (length-mark n in_flight files);
  penalised = are.penalised ∙ sym (sum-marked (λ (file : FlowFile). bit (nat_lt 0 file.penalty_end)) n in_flight files);
}

pub can-enter : (counts : Counts) (files : List Held) (spare : ℕ) → AreCountsOf counts files → length files + spare ≤ count_places counts → 0 < spare → length files < 2 ^ 63 → CanEnter counts
can-enter counts files spare are room some few = record {
  room = omega (arith, are.all, room, some);
  few = omega (arith, are.all, few);
  penalised = omega (arith, are.penalised, count_by-le-length has_penalty files, few);
}
