-- That a queue is seen with all of its files and bytes: active files one by one, the others by their batches.
use Rattle.std.proofs.Common.{◌≡◌, inl, inr, ℕ, ◌+◌, Bool, true, false, cond, List, [], ◌∷◌, length, refl, sym, ap, ◌∙◌, arith}
use Rattle.std.specs.Prelude.{◌==◌, Option, Some, None, filter, find, is_none, is_some, sum_by}
use Rattle.std.specs.List.{cons_option, filter_map}
use Rattle.std.specs.Option.{option_map_or}
use Rattle.std.proofs.lemmas.Bool.{cases_eq, eqb-true, eq-eqb, ne_eqb, true≢false}
use Rattle.std.proofs.lemmas.List.Sums.{sum_by-cons}
use Rattle.machine_model.specs.Files.{active_files, batch_view, batches, each_once, is_active, is_in_batch, is_number_among, queue_view, view_of}
use Rattle.machine_model.specs.Laws.{ViewsCountAll}
use Rattle.machine_model.specs.State.{QueuedFile}
use Rattle.machine_model.specs.View.{BatchView, FileView}
use Rattle.machine_model.proofs.Tally.{tally, bit, many, tally-map, tally-plus, tally-same, tally-none, Each}

-- ---- numbers that stand once

abbrev itself : ℕ → ℕ
itself n = n

first_counts : (b : Bool) (m : ℕ) (found : Option ℕ) → bit (is_some (cond b (Some m) found)) ≡ cond b 1 (bit (is_some found))
first_counts true m found = refl
first_counts false m found = refl

kept_counts : (b : Bool) (m n : ℕ) (rest : List ℕ) → many itself n (cond b rest (m ∷ rest)) ≡ cond b 0 (bit (m == n)) + many itself n rest
kept_counts true m n rest = omega arith
kept_counts false m n rest = refl

either_counts : (late here later : Bool) → (here ≡ true → late ≡ later) → cond late 0 (bit here) + bit later ≡ cond here 1 (bit later)
either_counts true true true same = refl
either_counts true true false same = absurd (true≢false (same refl))
either_counts false true true same = absurd (true≢false (sym (same refl)))
either_counts false true false same = refl
either_counts true false later same = omega arith
either_counts false false later same = omega arith

once : (n : ℕ) (numbers : List ℕ) → many itself n (each_once numbers) ≡ bit (is_number_among numbers n)
once n [] = refl
once n (m ∷ numbers) =
    kept_counts (is_number_among numbers m) m n (each_once numbers)
    ∙ ap (λ k. cond (is_number_among numbers m) 0 (bit (m == n)) + k) (once n numbers)
    ∙ either_counts (is_number_among numbers m) (m == n) (is_number_among numbers n) (λ yes. ap (is_number_among numbers) (eqb-true m n yes))
    ∙ sym (first_counts (m == n) m (find (λ k. k == n) numbers))

-- ---- what weighs at one number of a list alone

weigh-none : (b x : ℕ) (numbers : List ℕ) → many itself b numbers ≡ 0 → tally (λ n. cond (b == n) x 0) numbers ≡ 0
weigh-none b x [] none = refl
weigh-none b x (n ∷ numbers) none =
    elim (cases_eq b n) [
      | inl e ↦ let here : bit (n == b) ≡ 1 = ap bit (eq-eqb n b (sym e)) in absurd (omega (arith, here, none))
      | inr ne ↦ let no : (b == n) ≡ false = ne_eqb b n ne in rw no (omega (arith, weigh-none b x numbers (omega (arith, none))))
    ]

weigh-one : (b x : ℕ) (numbers : List ℕ) → many itself b numbers ≡ 1 → tally (λ n. cond (b == n) x 0) numbers ≡ x
weigh-one b x [] one = absurd (omega (arith, one))
weigh-one b x (n ∷ numbers) one =
    elim (cases_eq b n) [
      | inl e ↦
          let here : bit (n == b) ≡ 1 = ap bit (eq-eqb n b (sym e)) in
          let yes : (b == n) ≡ true = eq-eqb b n e in
          rw yes (omega (arith, weigh-none b x numbers (omega (arith, here, one))))
      | inr ne ↦
          let there : bit (n == b) ≡ 0 = ap bit (ne_eqb n b (λ e. ne (sym e))) in
          let no : (b == n) ≡ false = ne_eqb b n ne in
          rw no (omega (arith, weigh-one b x numbers (omega (arith, there, one))))
    ]

-- ---- one file more

filter_more : (w : QueuedFile → ℕ) (p : QueuedFile → Bool) (file : QueuedFile) (files : List QueuedFile) → tally w (filter p (file ∷ files)) ≡ cond (p file) (w file) 0 + tally w (filter p files)
filter_more w p file files =
    elim (p file) as (λ b. tally w (cond b (file ∷ filter p files) (filter p files)) ≡ cond b (w file) 0 + tally w (filter p files)) [ true ↦ refl | false ↦ omega arith ]

-- where a file has a batch, it is one of these, once
abbrev Stands : List ℕ → QueuedFile → Type 0
Stands numbers file = (batch : ℕ) → file.batch ≡ Some batch → many itself batch numbers ≡ 1

weighs : (numbers : List ℕ) (x : ℕ) (batch : Option ℕ) → ((b : ℕ) → batch ≡ Some b → many itself b numbers ≡ 1)
    → cond (is_none batch) x 0 + tally (λ n. cond (option_map_or (λ b. b == n) batch false) x 0) numbers ≡ x
weighs numbers x None stands = omega (arith, tally-none numbers)
weighs numbers x (Some b) stands = omega (arith, weigh-one b x numbers (stands b refl))

abbrev swapped : (QueuedFile → ℕ) → List QueuedFile → ℕ → ℕ
swapped w files batch = tally w (filter (is_in_batch batch) files)

all-weigh : (w : QueuedFile → ℕ) (numbers : List ℕ) (files : List QueuedFile) → Each (Stands numbers) files
    → tally w (active_files files) + tally (swapped w files) numbers ≡ tally w files
all-weigh w numbers [] stand = omega (arith, tally-none numbers)
all-weigh w numbers (file ∷ files) stand =
    let more = tally-same (swapped w (file ∷ files)) (λ n. cond (is_in_batch n file) (w file) 0 + swapped w files n) (λ n. filter_more w (is_in_batch n) file files) numbers
    ∙ tally-plus (λ n. cond (is_in_batch n file) (w file) 0) (swapped w files) numbers in
    omega (arith, filter_more w is_active file files, more, weighs numbers (w file) file.batch stand.0, all-weigh w numbers files stand.1)

-- ---- each batch of a file is told

abbrev IsTold : List ℕ → QueuedFile → Type 0
IsTold numbers file = (batch : ℕ) → file.batch ≡ Some batch → is_number_among numbers batch ≡ true

one_more : (batch : Option ℕ) (numbers : List ℕ) (n : ℕ) → is_number_among numbers n ≡ true → is_number_among (cons_option batch numbers) n ≡ true
one_more None numbers n h = h
one_more (Some b) numbers n h = elim (b == n) as (λ q. is_some (cond q (Some b) (find (λ k. k == n) numbers)) ≡ true) [ true ↦ refl | false ↦ h ]

itself_told : (batch : Option ℕ) (numbers : List ℕ) (n : ℕ) → batch ≡ Some n → is_number_among (cons_option batch numbers) n ≡ true
itself_told None numbers n is = cc
itself_told (Some b) numbers n is =
    let same : b ≡ n = cc in
    let yes : (b == n) ≡ true = eq-eqb b n same in rw yes refl

each_wider : {P Q : QueuedFile → Type 0} → ((file : QueuedFile) → P file → Q file) → (files : List QueuedFile) → Each P files → Each Q files
each_wider wider [] h = tt
each_wider wider (file ∷ files) h = (wider file h.0, each_wider wider files h.1)

abbrev told : List QueuedFile → List ℕ
told files = filter_map (λ file. file.batch) files

all-told : (files : List QueuedFile) → Each (IsTold (told files)) files
all-told [] = tt
all-told (file ∷ files) = (
  λ batch is. itself_told file.batch (told files) batch is,
  each_wider (λ other was batch is. one_more file.batch (told files) batch (was batch is)) files (all-told files),
)

all-stand : (files : List QueuedFile) → Each (Stands (batches files)) files
all-stand files = each_wider (λ file is_told batch is. once batch (told files) ∙ ap bit (is_told batch is)) files (all-told files)

-- ---- sums

length-tally : {X : Type 0} (xs : List X) → length xs ≡ tally (λ (x : X). 1) xs
length-tally [] = refl
length-tally (x ∷ xs) = omega (arith, length-tally xs)

sum-tally : {X : Type 0} (w : X → ℕ) (xs : List X) → sum_by w xs ≡ tally w xs
sum-tally w [] = refl
sum-tally w (x ∷ xs) = sum_by-cons w x xs ∙ ap (λ n. w x + n) (sum-tally w xs)

pub views-count : ViewsCountAll
views-count files = (
  omega (
    arith,
    length-tally (queue_view files).active,
    tally-map (λ (view : FileView). 1) view_of (active_files files),
    sum-tally (λ (batch : BatchView). batch.files) (queue_view files).batches,
    tally-map (λ (batch : BatchView). batch.files) (batch_view files) (batches files),
    tally-same (λ n. (batch_view files n).files) (swapped (λ (file : QueuedFile). 1) files) (λ n. length-tally (filter (is_in_batch n) files)) (batches files),
    all-weigh (λ (file : QueuedFile). 1) (batches files) files (all-stand files),
    length-tally files,
  ),
  omega (
    arith,
    sum-tally (λ (view : FileView). view.size) (queue_view files).active,
    tally-map (λ (view : FileView). view.size) view_of (active_files files),
    sum-tally (λ (batch : BatchView). batch.size) (queue_view files).batches,
    tally-map (λ (batch : BatchView). batch.size) (batch_view files) (batches files),
    tally-same (λ n. (batch_view files n).size) (swapped (λ (file : QueuedFile). length file.bytes) files) (λ n. sum-tally (λ (file : QueuedFile). length file.bytes) (filter (is_in_batch n) files)) (batches files),
    all-weigh (λ (file : QueuedFile). length file.bytes) (batches files) files (all-stand files),
    sum-tally (λ (file : QueuedFile). length file.bytes) files,
  ),
)
