-- Files that are sorted by their names, each once, ascend.
use Rattle.std.proofs.Common.{◌≡◌, ℕ, zero, suc, ◌<◌, Bool, false, List, [], ◌∷◌, length, map, get_or, bytes_eq, refl, sym, ap, ◌∙◌, subst, arith}
use Rattle.std.specs.List.{AllByRecursion, IsDistinct}
use Rattle.std.specs.List.Sorted.{IsSortedBy}
use Rattle.std.specs.Ordering.{nat_cmp, is_eq, is_lt, ordering_reverse}
use Rattle.std.specs.declared.cmp.Ordering.{Ordering}
use Rattle.std.specs.declared.cmp.Ordering.TheVariants.{Less, Equal, Greater}
use Rattle.std.specs.Cmp.Lexicographic.{slice_cmp, texts_ties, nat_list_cmp_total}
use Rattle.std.proofs.lemmas.Bool.{true≢false}
use Rattle.std.proofs.lemmas.List.Sorted.{sorted_far, ranks_by}
use Rattle.std.proofs.lemmas.Map.Keys.{apart_from_distinct}
use Rattle.world_io.specs.Inbox.{IsAscending}
use Rattle.world_io.specs.Memory.{file_of}
use Rattle.world_io.proofs.Places.{Stored}

-- whether one file's name goes before the other's
abbrev pub goes_before : Stored → Stored → Bool
goes_before x y = is_lt (slice_cmp nat_cmp x.0 y.0)

less-of : (o back : Ordering) → o ≡ ordering_reverse back → is_lt back ≡ false → is_eq o ≡ false → o ≡ Less
less-of o Less is behind differs = absurd (true≢false behind)
less-of o Equal is behind differs = absurd (true≢false (sym (ap is_eq is) ∙ differs))
less-of o Greater is behind differs = is

less-from : (x y : List ℕ) → is_lt (slice_cmp nat_cmp y x) ≡ false → bytes_eq x y ≡ false → slice_cmp nat_cmp x y ≡ Less
less-from x y behind differs =
    less-of (slice_cmp nat_cmp x y) (slice_cmp nat_cmp y x) (nat_list_cmp_total.antisymm x y) behind (sym (texts_ties x y) ∙ differs)

all-from : (P : List ℕ → Type 0) (files : List Stored) → ((j : ℕ) (d : Stored) → j < length files → P (get_or files j d).0) → AllByRecursion P (map (λ file. file.name) (map file_of files))
all-from P [] h = tt
all-from P (f ∷ fs) h = (h 0 f (omega arith), all-from P fs (λ j d l. h (suc j) d (omega arith)))

from-pairs : (files : List Stored) → ((i j : ℕ) (d : Stored) → i < j → j < length files → slice_cmp nat_cmp (get_or files i d).0 (get_or files j d).0 ≡ Less) → IsAscending (map (λ file. file.name) (map file_of files))
from-pairs [] h = tt
from-pairs (f ∷ fs) h =
    (all-from (λ later. slice_cmp nat_cmp f.0 later ≡ Less) fs (λ j d l. h 0 (suc j) d (omega arith) (omega arith)), from-pairs fs (λ i j d a b. h (suc i) (suc j) d (omega arith) (omega arith)))

get_or-name : (files : List Stored) (i : ℕ) (d : Stored) → get_or (map (λ file. file.0) files) i d.0 ≡ (get_or files i d).0
get_or-name [] i d = refl
get_or-name (f ∷ fs) zero d = refl
get_or-name (f ∷ fs) (suc i) d = get_or-name fs i d

length-names : (files : List Stored) → length (map (λ file. file.0) files) ≡ length files
length-names [] = refl
length-names (f ∷ fs) = ap suc (length-names fs)

pub ascends-sorted : (files : List Stored) → IsSortedBy goes_before files → IsDistinct bytes_eq (map (λ file. file.0) files) → IsAscending (map (λ file. file.name) (map file_of files))
ascends-sorted files up once = from-pairs files (λ i j d before within.
    let behind = sorted_far goes_before (ranks_by nat_list_cmp_total (λ (file : Stored). file.0)) files up i j d (omega arith) within in
    let differs = apart_from_distinct bytes_eq (map (λ file. file.0) files) i j d.0 once before (omega (arith, length-names files)) in
    let tell : List ℕ → List ℕ → Type 0 = λ x y. bytes_eq x y ≡ false in
    let apart : tell (get_or files i d).0 (get_or files j d).0 = subst (λ (x : List ℕ). tell x (get_or files j d).0) (get_or-name files i d) (subst (λ (y : List ℕ). tell (get_or (map (λ file. file.0) files) i d.0) y) (get_or-name files j d) differs) in
    less-from (get_or files i d).0 (get_or files j d).0 behind apart)
