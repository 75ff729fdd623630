-- Reading items one after the other, as a loop does, and writing them.
use Rattle.std.proofs.Common.{◌≡◌, ℕ, zero, suc, ◌-◌, ◌+◌, ◌≤◌, ◌<◌, true, List, [], ◌∷◌, ◌++◌, Result, Ok, Err, is_ok, refl, sym, ap, ◌∙◌, append_assoc, arith}
use Rattle.std.proofs.lemmas.List.{append-nil}
use Rattle.flowfile_record.specs.declared.fields.fault.FieldError.{FieldError}
use Rattle.flowfile_record.specs.declared.fields.fault.FieldError.TheVariants as fields
use Rattle.flowfile_record.specs.Reading.{Reading, ◌>>=◌, Fails, items_at}

-- what was read before, and what is still read
abbrev pub with_front : {A : Type 0} → List A → Result (List A × List ℕ) ℕ → Result (List A × List ℕ) ℕ
with_front front read = read >>= λ x. Ok (front ++ x.0, x.1)

regroup : {A : Type 0} (front : List A) (a : A) (read : Result (List A × List ℕ) ℕ) → with_front front (read >>= λ x. Ok (a ∷ x.0, x.1)) ≡ with_front (front ++ a ∷ []) read
regroup front a (Ok x) = ap (λ xs. Ok (xs, x.1)) (simp append_assoc)
regroup front a (Err left) = refl

pub goes_on : {A : Type 0} (item : Reading A) (front : List A) (count i : ℕ) (bytes : List ℕ) (a : A) (after : List ℕ) (total : Result (List A × List ℕ) ℕ) → i < count → item bytes ≡ Ok (a, after)
    → with_front front (items_at item (count - i) bytes) ≡ total → with_front (front ++ a ∷ []) (items_at item (count - (i + 1)) after) ≡ total
unfolding items_at
goes_on item front count i bytes a after total lt h so_far =
    let k : count - i ≡ suc (count - (i + 1)) = omega arith in
    let one : with_front front (items_at item (count - i) bytes) ≡ with_front (front ++ a ∷ []) (items_at item (count - (i + 1)) after) = rw (k, h) (regroup front a (items_at item (count - (i + 1)) after)) in
    sym one ∙ so_far

pub ends : {A : Type 0} (item : Reading A) (front : List A) (count i : ℕ) (bytes : List ℕ) (left : ℕ) (total : Result (List A × List ℕ) ℕ) → i < count → item bytes ≡ Err left
    → with_front front (items_at item (count - i) bytes) ≡ total → total ≡ Err left
unfolding items_at
ends item front count i bytes left total lt h so_far =
    let k : count - i ≡ suc (count - (i + 1)) = omega arith in
    let one : with_front front (items_at item (count - i) bytes) ≡ Err left = rw (k, h) refl in
    sym so_far ∙ one

-- where reading an item may also want memory
pub fails : {A : Type 0} (e : FieldError) (item : Reading A) (front : List A) (count i : ℕ) (bytes : List ℕ) (total : Result (List A × List ℕ) ℕ) → i < count → Fails e (item bytes)
    → with_front front (items_at item (count - i) bytes) ≡ total → Fails e total
fails fields.Memory item front count i bytes total lt h so_far = tt
fails (fields.Form left) item front count i bytes total lt h so_far = ends item front count i bytes left total lt h so_far

pub is_done : {A : Type 0} (item : Reading A) (front : List A) (count i : ℕ) (bytes : List ℕ) (total : Result (List A × List ℕ) ℕ) → count ≤ i → with_front front (items_at item (count - i) bytes) ≡ total → total ≡ Ok (front, bytes)
unfolding items_at
is_done item front count i bytes total le so_far =
    let k : count - i ≡ 0 = omega arith in
    let one : with_front front (items_at item (count - i) bytes) ≡ Ok (front, bytes) = rw k (ap (λ xs. Ok (xs, bytes)) (append-nil front)) in
    sym so_far ∙ one

-- what was read from the start on begins with a first item
pub first_read : {A : Type 0} (item : Reading A) (bytes rest : List ℕ) (k : ℕ) (x : A × List ℕ) → item rest ≡ Ok x → (k ≡ 0 → rest ≡ bytes) → (0 < k → is_ok (item bytes) ≡ true) → is_ok (item bytes) ≡ true
first_read item bytes rest zero x e none some = ap (λ (b : List ℕ). is_ok (item b)) (sym (none refl)) ∙ ap is_ok e
first_read item bytes rest (suc k) x e none some = some (omega arith)
