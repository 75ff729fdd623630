-- What joins items at their end, by its number.
use Rattle.std.proofs.Common.{◌≡◌, ℕ, suc, ◌+◌, ◌*◌, ◌<◌, ◌≤◌, ◌==◌, ◌||◌, ◌&&◌, zero, Bool, true, false, List, [], ◌∷◌, ◌++◌, length, map, All, None, refl, sym, ap, ◌∙◌, arith, length-append}
use Rattle.std.specs.List.{sum, list_any, flat_map}
use Rattle.std.specs.Prelude.{nat_lt}
use Rattle.std.proofs.lemmas.Bool.{ltb-true}
use Rattle.std.proofs.lemmas.Bool.Decides.{nat_tests}
use Rattle.std.proofs.lemmas.List.Sums.{sum_by-cons}
use Rattle.std.proofs.lemmas.List.Concat.{flat_map-cons}
use Rattle.std.proofs.lemmas.List.Elements.{All-append}
use Rattle.flowfile_record.specs.NumberedItems.{item_of, with_item}
use Rattle.flowfile_record.specs.declared.limits.TheConstants.{NUMBER_LIMIT, LIVE_FILES_MAX}
use Rattle.flowfile_record.specs.Stored.{Kept}
use Rattle.flowfile_record.specs.declared.stored.ActiveFile.{ActiveFile}
use Rattle.record_codec.specs.ActiveFile.{active_file}
use Rattle.record_codec.specs.Snapshot.{kind_code}
use Rattle.record_codec.specs.declared.snapshot.SnapshotKind.TheVariants as kinds
use Rattle.record_codec.proofs.Blocks.{length-block}
use Rattle.record_codec.proofs.Sizes.{active_size}
use Rattle.checkpoint_store.specs.Consistent.{record_size}
use Rattle.checkpoint_store.specs.Snapshot.{file_block}
use Rattle.checkpoint_store.specs.Reading.{last_number, file_has_place}
use Rattle.checkpoint_store.specs.SoFar.{AreNumberedTo}

all_one : {A : Type 0} (P : A → Type 0) (x : A) → P x → All P (x ∷ [])
all_one P x p zero d lt = p
all_one P x p (suc k) d lt = absurd (omega (arith, lt))

module _ {A : Type 0} (number : A → ℕ) where
  pub none_there : (n greatest : ℕ) (items : List A) → All (λ i. number i ≤ greatest) items → greatest < n → item_of number n items ≡ None
  none_there n greatest [] below above = refl
  none_there n greatest (item ∷ items) below above =
      let first = below 0 item (omega arith) in
      let other : (number item == n) ≡ false = grind (arith, nat_tests, first, above) in
      rw other (none_there n greatest items (λ k d lt. below (suc k) d (omega (arith, lt))) above)

  pub joins_last : (item : A) (greatest : ℕ) (items : List A) → All (λ i. number i ≤ greatest) items → greatest < number item → with_item number item items ≡ items ++ item ∷ []
  joins_last item greatest [] below above = refl
  joins_last item greatest (first ∷ items) below above =
      let le = below 0 first (omega arith) in
      let before : nat_lt (number first) (number item) ≡ true = grind (arith, nat_tests, le, above) in
      rw before (ap (λ (l : List A). first ∷ l) (joins_last item greatest items (λ k d lt. below (suc k) d (omega (arith, lt))) above))

  pub last_is : (item : A) (items : List A) → last_number number (items ++ item ∷ []) ≡ number item
  last_is item [] = refl
  last_is item (first ∷ []) = refl
  last_is item (first ∷ next ∷ items) = last_is item (next ∷ items)

  pub are_numbered : (item : A) (greatest : ℕ) (items : List A) → AreNumberedTo number items greatest → greatest < number item → number item < NUMBER_LIMIT
      → AreNumberedTo number (items ++ item ∷ []) (number item)
  are_numbered item greatest items are above limit = record {
    last = sym (last_is item items);
    below = All-append (λ i. number i ≤ number item) items (item ∷ []) (λ k d lt. let le = are.below k d lt in omega (arith, le, above)) (all_one (λ i. number i ≤ number item) item (omega arith));
    count = omega (arith, length-append items (item ∷ []), are.count, above);
    limit = limit;
  }

pub sum_more : {A : Type 0} (size : A → ℕ) (items : List A) (item : A) → sum (map size (items ++ item ∷ [])) ≡ sum (map size items) + size item
sum_more size [] item = omega (arith, sum_by-cons (λ x. x) (size item) [])
sum_more size (first ∷ items) item =
    let rest = sum_more size items item in
    omega (arith, rest, sum_by-cons (λ x. x) (size first) (map size (items ++ item ∷ [])), sum_by-cons (λ x. x) (size first) (map size items))

or_none : (b : Bool) → (b || false) ≡ b
or_none true = refl
or_none false = refl

or_joined : (a b c : Bool) → (a || (b || c)) ≡ ((a || b) || c)
or_joined true b c = refl
or_joined false b c = refl

pub any_more : {A : Type 0} (test : A → Bool) (items : List A) (item : A) → list_any test (items ++ item ∷ []) ≡ (list_any test items || test item)
any_more test [] item = or_none (test item)
any_more test (first ∷ items) item = ap (λ (b : Bool). test first || b) (any_more test items item) ∙ or_joined (test first) (list_any test items) (test item)

pub all_three : (a b c : Bool) → a ≡ true → b ≡ true → c ≡ true → (a && b && c) ≡ true
all_three a b c x y z = rw (x, y, z) refl

second_of_seven : (a b c d e f g : Bool) → (a && b && c && d && e && f && g) ≡ true → b ≡ true
second_of_seven true true c d e f g is = refl
second_of_seven true false c d e f g is = absurd cc
second_of_seven false b c d e f g is = absurd cc

-- a file that has a place has a greater number than the others
pub place_above : (k : Kept) (a : ActiveFile) → file_has_place k a ≡ true → last_number (λ b. b.file.number) k.files < a.file.number
place_above k a place =
    ltb-true (last_number (λ (b : ActiveFile). b.file.number) k.files) a.file.number (second_of_seven (length k.batches == 0) (nat_lt (last_number (λ (b : ActiveFile). b.file.number) k.files) a.file.number)
    (nat_lt a.connection (length k.connections)) (nat_lt a.file.number k.next_number) (nat_lt 0 a.file.arrival) (nat_lt a.file.arrival k.next_arrival) (nat_lt (length k.files) LIVE_FILES_MAX) place)

-- the blocks of files, which have the connection beside the record
pub files_size : (files : List ActiveFile) → length (flat_map file_block files) ≡ 39 * length files + sum (map record_size files)
files_size [] = refl
files_size (a ∷ files) =
    omega (
      arith,
      ap length (flat_map-cons file_block a files),
      length-append (file_block a) (flat_map file_block files),
      length-block (kind_code kinds.File) (active_file a),
      active_size a,
      sum_by-cons (λ x. x) (record_size a) (map record_size files),
      files_size files,
    )
