-- The file of before that a write or a cut cut short leads from.
use Rattle.std.proofs.Common.{◌≡◌, ℕ, ◌+◌, ◌-◌, ◌<◌, ◌≤◌, min, max, Bool, true, false, ◌&&◌, cond, ltb, leb, List, length, take, drop, get_or, slice_index, map, inl, inr, ◌⊎◌, sym, ◌∙◌, ap, ⊎_elim, arith, length-take, length-drop, get_or-take, get_or-drop}
use Rattle.std.specs.List.{range_with_len}
use Rattle.std.proofs.lemmas.List.{ext_get_or}
use Rattle.std.proofs.lemmas.List.FromFn.{length-map-range_with_len, get_or-map-range_with_len}
use Rattle.std.proofs.lemmas.Bool.{cases_lt, cases_Bool, cond-true, cond-false, le-leb, lt-leb, lt-ltb, le-ltb, and_left, and_right, or_from}
use Rattle.disk_trait.specs.Files.{Torn, Shortened}
use Rattle.disk_trait.specs.Memory.{FileState, changed, IsImage}

-- a list of this length, by what stands at each place
abbrev list_of : (ℕ → ℕ) → ℕ → List ℕ
list_of f n = map f (range_with_len 0 n)

length-list_of : (f : ℕ → ℕ) (n : ℕ) → length (list_of f n) ≡ n
length-list_of f n = length-map-range_with_len f 0 n

get_or-list_of : (f : ℕ → ℕ) (n i : ℕ) → i < n → get_or (list_of f n) i 0 ≡ f i
get_or-list_of f n i h = get_or-map-range_with_len f 0 n i i 0 h (omega arith)

-- two lists agree on their first n bytes
take_same : (n : ℕ) (xs ys : List ℕ) → min n (length xs) ≡ min n (length ys) → ((i : ℕ) → i < n → i < length xs → get_or xs i 0 ≡ get_or ys i 0) → take n xs ≡ take n ys
take_same n xs ys e same = ext_get_or 0 (take n xs) (take n ys) (length-take n xs ∙ e ∙ sym (length-take n ys)) here
  where
    here : (i : ℕ) → i < length (take n xs) → get_or (take n xs) i 0 ≡ get_or (take n ys) i 0
    here i h =
        let l = length-take n xs in
        let a : i < n = omega arith in
        let b : i < length xs = omega arith in
        get_or-take n xs i 0 a ∙ same i a b ∙ sym (get_or-take n ys i 0 a)

-- two lists agree from their n-th byte on
drop_same : (n : ℕ) (xs ys : List ℕ) → length xs - n ≡ length ys - n → ((i : ℕ) → n ≤ i → i < length xs → get_or xs i 0 ≡ get_or ys i 0) → drop n xs ≡ drop n ys
drop_same n xs ys e same = ext_get_or 0 (drop n xs) (drop n ys) (length-drop n xs ∙ e ∙ sym (length-drop n ys)) here
  where
    here : (i : ℕ) → i < length (drop n xs) → get_or (drop n xs) i 0 ≡ get_or (drop n ys) i 0
    here i h =
        let l = length-drop n xs in
        let a : n ≤ n + i = omega arith in
        let b : n + i < length xs = omega arith in
        get_or-drop n xs i 0 ∙ same (n + i) a b ∙ sym (get_or-drop n ys i 0)

-- a place of a written range
abbrev pub in_range : ℕ → ℕ → ℕ → Bool
in_range at n i = leb at i && ltb i (at + n)

pub in_range-before : (at n i : ℕ) → i < at → in_range at n i ≡ false
in_range-before at n i h = and_left (leb at i) (ltb i (at + n)) (lt-leb at i h)

in_range-past : (at n i : ℕ) → at + n ≤ i → in_range at n i ≡ false
in_range-past at n i h = and_right (leb at i) (ltb i (at + n)) (le-ltb i (at + n) h)

-- how long the file was before a write up to `end` that leaves one of this size
abbrev size_before : ℕ → ℕ → ℕ → ℕ
size_before end greatest size = cond (ltb end size) size (min size greatest)

size_before-cases : (end greatest size : ℕ) → ((end < size) × (size_before end greatest size ≡ size)) ⊎ ((size ≤ end) × (size_before end greatest size ≡ min size greatest))
size_before-cases end greatest size = ⊎_elim
    (λ (h : end < size). inl (h, cond-true (ltb end size) size (min size greatest) (lt-ltb end size h)))
    (λ (h : size ≤ end). inr (h, cond-false (ltb end size) size (min size greatest) (le-ltb end size h)))
    (cases_lt end size)

-- what lay there before a write that this image comes from
pub before_write : ℕ → ℕ → FileState → List ℕ → List ℕ
before_write at n state c = list_of (λ i. cond (in_range at n i) (slice_index state.synced i) (slice_index c i)) (size_before (at + n) state.greatest (length c))

-- the size of the file of before
before_write_size : (at n greatest size : ℕ) → at ≤ greatest → size ≤ max greatest (at + n) → let l = size_before (at + n) greatest size in
    (l ≤ greatest) × (l ≤ size) × (size ≤ max l (at + n)) × (min at size ≡ min at l) × (size - (at + n) ≡ l - (at + n)) × ((least : ℕ) → least ≤ greatest → least ≤ size → least ≤ l)
before_write_size at n greatest size a b = ⊎_elim
    (λ (h : ((at + n) < size) × (size_before (at + n) greatest size ≡ size)). let lt = h.0 in let e = h.1 in (omega arith, omega arith, omega arith, omega arith, omega arith, λ least p q. omega arith))
    (λ (h : (size ≤ at + n) × (size_before (at + n) greatest size ≡ min size greatest)). let le = h.0 in let e = h.1 in (omega arith, omega arith, omega arith, omega arith, omega arith, λ least p q. omega arith))
    (size_before-cases (at + n) greatest size)

length-before_write : (at n : ℕ) (state : FileState) (c : List ℕ) → length (before_write at n state c) ≡ size_before (at + n) state.greatest (length c)
unfolding before_write
length-before_write at n state c = length-list_of _ _

before_write-inside : (at n : ℕ) (state : FileState) (c : List ℕ) (i : ℕ) → i < length (before_write at n state c) → in_range at n i ≡ true → slice_index (before_write at n state c) i ≡ slice_index state.synced i
unfolding before_write
before_write-inside at n state c i h inside =
    let l = length-before_write at n state c in
    let h' : i < size_before (at + n) state.greatest (length c) = omega arith in
    get_or-list_of _ _ i h' ∙ cond-true (in_range at n i) _ _ inside

before_write-outside : (at n : ℕ) (state : FileState) (c : List ℕ) (i : ℕ) → i < length (before_write at n state c) → in_range at n i ≡ false → slice_index (before_write at n state c) i ≡ slice_index c i
unfolding before_write
before_write-outside at n state c i h outside =
    let l = length-before_write at n state c in
    let h' : i < size_before (at + n) state.greatest (length c) = omega arith in
    get_or-list_of _ _ i h' ∙ cond-false (in_range at n i) _ _ outside

pub before_write_torn : (at n : ℕ) (held : List ℕ) (state : FileState) (c : List ℕ) → at ≤ state.greatest → state.least ≤ state.greatest → length held ≤ max state.greatest (at + n)
    → state.least ≤ length held → IsImage (changed held (in_range at n) state) c → IsImage state (before_write at n state c) × Torn at n (before_write at n state c) c
unfolding changed
before_write_torn at n held state c a b e f image =
    let l = length-before_write at n state c in
    let no_longer = image.no_longer in
    let no_shorter = image.no_shorter in
    let size = before_write_size at n state.greatest (length c) a (omega arith) in
    let least = size.5 state.least b (omega arith) in (
      record { no_shorter = omega arith; no_longer = omega arith; same = durable_before },
      record {
        front = take_same at c d (size.3 ∙ ap (λ m. min at m) (sym l)) (λ i p q. sym (before_write-outside at n state c i (omega arith) (in_range-before at n i p)));
        back = drop_same (at + n) c d (size.4 ∙ ap (λ m. m - (at + n)) (sym l)) (λ i p q. sym (before_write-outside at n state c i (omega arith) (in_range-past at n i p)));
        no_shorter = omega arith;
        no_longer = omega arith;
      },
    )
  where
    d : List ℕ
    d = before_write at n state c

    durable_before : (i : ℕ) → i < length d → state.pending i ≡ false → slice_index d i ≡ slice_index state.synced i
    durable_before i h kept = ⊎_elim
        (λ (inside : in_range at n i ≡ true). before_write-inside at n state c i h inside)
        (λ (outside : in_range at n i ≡ false).
        let l = length-before_write at n state c in
        let no_longer = image.no_longer in
        let size = before_write_size at n state.greatest (length c) a (omega arith) in
        let short : i < length c = omega arith in
        before_write-outside at n state c i h outside ∙ image.same i short (or_from (in_range at n i) (state.pending i) outside kept))
        (cases_Bool (in_range at n i))

-- what lay there before a cut that this image comes from
pub before_cut : ℕ → FileState → List ℕ → List ℕ
before_cut size state c = list_of (λ i. cond (leb size i) (slice_index state.synced i) (slice_index c i)) (max (length c) state.least)

length-before_cut : (size : ℕ) (state : FileState) (c : List ℕ) → length (before_cut size state c) ≡ max (length c) state.least
unfolding before_cut
length-before_cut size state c = length-list_of _ _

before_cut-past : (size : ℕ) (state : FileState) (c : List ℕ) (i : ℕ) → i < length (before_cut size state c) → size ≤ i → slice_index (before_cut size state c) i ≡ slice_index state.synced i
unfolding before_cut
before_cut-past size state c i h past =
    let l = length-before_cut size state c in
    let h' : i < max (length c) state.least = omega arith in
    get_or-list_of _ _ i h' ∙ cond-true (leb size i) _ _ (le-leb size i past)

before_cut-below : (size : ℕ) (state : FileState) (c : List ℕ) (i : ℕ) → i < length (before_cut size state c) → i < size → slice_index (before_cut size state c) i ≡ slice_index c i
unfolding before_cut
before_cut-below size state c i h below =
    let l = length-before_cut size state c in
    let h' : i < max (length c) state.least = omega arith in
    get_or-list_of _ _ i h' ∙ cond-false (leb size i) _ _ (lt-leb size i below)

pub before_cut_shortened : (size : ℕ) (held : List ℕ) (state : FileState) (c : List ℕ) → state.least ≤ state.greatest → length held ≤ state.greatest → size ≤ length held
    → IsImage (changed (take size held) (λ i. leb size i) state) c → IsImage state (before_cut size state c) × Shortened size (before_cut size state c) c
unfolding changed
before_cut_shortened size held state c a b e image =
    let l = length-before_cut size state c in
    let t = length-take size held in
    let no_longer = image.no_longer in
    let no_shorter = image.no_shorter in (
      record { no_shorter = omega arith; no_longer = omega arith; same = durable_before },
      record {
        front = take_same size c d (omega arith) (λ i p q. sym (before_cut-below size state c i (omega arith) p));
        no_shorter = omega arith;
        no_longer = omega arith;
      },
    )
  where
    d : List ℕ
    d = before_cut size state c

    durable_before : (i : ℕ) → i < length d → state.pending i ≡ false → slice_index d i ≡ slice_index state.synced i
    durable_before i h kept = ⊎_elim
        (λ (below : i < size).
        let l = length-before_cut size state c in
        let t = length-take size held in
        let no_shorter = image.no_shorter in
        let short : i < length c = omega arith in
        before_cut-below size state c i h below ∙ image.same i short (or_from (leb size i) (state.pending i) (lt-leb size i below) kept))
        (λ (past : size ≤ i). before_cut-past size state c i h past)
        (cases_lt i size)
