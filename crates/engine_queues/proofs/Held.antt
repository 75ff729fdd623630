-- The files of a connection: what is left of them where a file goes, and what they are where one joins.
use Rattle.std.proofs.Common.{◌≡◌, ◌≢◌, ℕ, ◌<◌, ◌≤◌, ◌==◌, nat_lt, Bool, true, false, cond, List, [], ◌∷◌, length, map, Some, refl, sym, ap, ◌∙◌, inl, inr, arith}
use Rattle.std.specs.Prelude.{All, filter}
use Rattle.std.specs.List.{list_any}
use Rattle.std.proofs.lemmas.Bool.{cases_Bool, and_parts, and_from, or_parts, eqb-true, eq-eqb, ne_eqb, le-ltb, ltb-false, false≢true}
use Rattle.std.proofs.lemmas.List.Elements.{All-nil, All-cons, All-head, All-tail, All-weaker}
use Rattle.flowfile_record.specs.NumberedItems.{with_item, without_item, AscendsByNumber}
use Rattle.flowfile_record.specs.Stored.{Kept}
use Rattle.flowfile_record.specs.declared.stored.ActiveFile.{ActiveFile}
use Rattle.checkpoint_store.specs.Consistent.{IsFileIn}
use Rattle.kept_state.specs.Applied.{active_number}
use Rattle.kept_state.specs.Arrivals.{arrival_of}
use Rattle.kept_state.specs.Fits.{active_of, is_in_connection, are_active_in}
use Rattle.kept_state.proofs.Items.{none_above, item_of-without_other}
use Rattle.flow_queue.specs.Queue.{flight_of, queue_with_file, without_file, IsApart}
use Rattle.flow_queue.specs.declared.held.Held.{Held}
use Rattle.engine_queues.specs.Beside.{is_out}
use Rattle.engine_queues.specs.Queues.{held_beside}

-- those of these files that are in the connection at a place
abbrev pub held_in : (out : List ℕ) → ℕ → List ActiveFile → List Held
held_in out place files = map (held_beside out) (filter (λ a. a.connection == place) files)

-- ---- a file goes

pub held_in-without : (out : List ℕ) (n place : ℕ) (files : List ActiveFile) → held_in out place (without_item active_number n files) ≡ without_file n (held_in out place files)
held_in-without out n place [] = refl
held_in-without out n place (a ∷ files) =
    let rest = held_in-without out n place files in
    elim (cases_Bool (a.file.number == n)) [
      | inl t ↦ elim (cases_Bool (a.connection == place)) [ inl s ↦ rw (t, s, t) rest | inr o ↦ rw (t, o) rest ]
      | inr f ↦ elim (cases_Bool (a.connection == place)) [ inl s ↦ rw (f, s, f) (ap (λ (l : List Held). held_beside out a ∷ l) rest) | inr o ↦ rw (f, o) rest ]
    ]

-- the files of the other connections stay
pub others_stay : (out : List ℕ) (c n place : ℕ) (files : List ActiveFile) → AscendsByNumber active_number files → is_in_connection c (active_of n files) ≡ true → place ≢ c
    → held_in out place (without_item active_number n files) ≡ held_in out place files
others_stay out c n place [] ascends is ne = refl
others_stay out c n place (a ∷ files) ascends is ne =
    elim (cases_Bool (a.file.number == n)) [
      | inl t ↦
          let here : (a.connection == c) ≡ true = rw t at is in
          let away : (a.connection == place) ≡ false = ne_eqb a.connection place (λ e. ne (sym e ∙ eqb-true a.connection c here)) in
          let above : All (λ (later : ActiveFile). n < active_number later) files = rw (eqb-true a.file.number n t) at ascends.0 in
          rw (t, away) (ap (held_in out place) (none_above active_number n files above))
      | inr f ↦
          let later : is_in_connection c (active_of n files) ≡ true = rw f at is in
          let rest = others_stay out c n place files ascends.1 later ne in
          elim (cases_Bool (a.connection == place)) [ inl s ↦ rw (f, s) (ap (λ (l : List Held). held_beside out a ∷ l) rest) | inr o ↦ rw (f, o) rest ]
    ]

-- an active file is among those of its connection
pub found_in : (out : List ℕ) (c n : ℕ) (files : List ActiveFile) → is_in_connection c (active_of n files) ≡ true → flight_of n (held_in out c files) ≡ Some (is_out out n)
found_in out c n [] is = absurd (false≢true is)
found_in out c n (a ∷ files) is =
    elim (cases_Bool (a.file.number == n)) [
      | inl t ↦
          let here : (a.connection == c) ≡ true = rw t at is in
          let marked : Some (is_out out a.file.number) ≡ Some (is_out out n) = ap (λ (m : ℕ). Some (is_out out m)) (eqb-true a.file.number n t) in
          rw (here, t) marked
      | inr f ↦
          let later : is_in_connection c (active_of n files) ≡ true = rw f at is in
          elim (cases_Bool (a.connection == c)) [ inl s ↦ rw (s, f) (found_in out c n files later) | inr o ↦ rw o (found_in out c n files later) ]
    ]

pub still_active : (c n : ℕ) (files : List ActiveFile) (ns : List ℕ) → list_any (λ m. m == n) ns ≡ false → are_active_in files c ns ≡ true
    → are_active_in (without_item active_number n files) c ns ≡ true
still_active c n files [] other are = refl
still_active c n files (m ∷ ns) other are =
    let parts = or_parts (m == n) (list_any (λ m. m == n) ns) other in
    let ne : m ≢ n = λ e. false≢true (sym parts.0 ∙ eq-eqb m n e) in
    let a = and_parts (is_in_connection c (active_of m files)) (are_active_in files c ns) are in
    and_from (is_in_connection c (active_of m (without_item active_number n files))) (are_active_in (without_item active_number n files) c ns)
    (ap (is_in_connection c) (item_of-without_other active_number m n files ne) ∙ a.0) (still_active c n files ns parts.1 a.1)

-- the connection of an active file is there
pub connection_within : (k : Kept) (c n : ℕ) (files : List ActiveFile) → All (IsFileIn k) files → is_in_connection c (active_of n files) ≡ true → c < length k.connections
connection_within k c n [] all is = absurd (false≢true is)
connection_within k c n (a ∷ files) all is =
    elim (cases_Bool (a.file.number == n)) [
      | inl t ↦
          let here : (a.connection == c) ≡ true = rw t at is in
          let lt : a.connection < length k.connections = (All-head (IsFileIn k) a files all).connection in
          omega (arith, eqb-true a.connection c here)
      | inr f ↦ let later : is_in_connection c (active_of n files) ≡ true = rw f at is in connection_within k c n files (All-tail (IsFileIn k) a files all) later
    ]

-- ---- a file joins

new_held : ActiveFile → Held
new_held a = record { file = a.file; in_flight = false }

put_first : (out : List ℕ) (place : ℕ) (a : ActiveFile) (files : List ActiveFile) → All (λ (b : ActiveFile). active_number a ≤ active_number b) files
    → queue_with_file a.file (held_in out place files) ≡ new_held a ∷ held_in out place files
unfolding new_held
put_first out place a [] above = refl
put_first out place a (b ∷ files) above =
    elim (cases_Bool (b.connection == place)) [
      | inl s ↦
          let le : active_number a ≤ active_number b = All-head (λ (c : ActiveFile). active_number a ≤ active_number c) b files above in
          let later : nat_lt b.file.number a.file.number ≡ false = le-ltb b.file.number a.file.number le in
          rw (s, later) refl
      | inr o ↦ rw o (put_first out place a files (All-tail (λ (c : ActiveFile). active_number a ≤ active_number c) b files above))
    ]

cons_cond : (b : Bool) (first : Held) (xs ys : List Held) → first ∷ cond b xs ys ≡ cond b (first ∷ xs) (first ∷ ys)
cons_cond true first xs ys = refl
cons_cond false first xs ys = refl

pub held_in-with : (out : List ℕ) (place : ℕ) (a : ActiveFile) (files : List ActiveFile) → AscendsByNumber active_number files → is_out out a.file.number ≡ false
    → held_in out place (with_item active_number a files) ≡ cond (a.connection == place) (queue_with_file a.file (held_in out place files)) (held_in out place files)
unfolding new_held
held_in-with out place a [] ascends rests = elim (cases_Bool (a.connection == place)) [ inl s ↦ rw (s, rests) refl | inr o ↦ rw o refl ]
held_in-with out place a (b ∷ files) ascends rests =
    elim (cases_Bool (nat_lt b.file.number a.file.number)) [
      | inl t ↦
          let rest = held_in-with out place a files ascends.1 rests in
          elim (cases_Bool (b.connection == place)) [
            | inl s ↦
                rw (t, s, t) (ap (λ (l : List Held). held_beside out b ∷ l) rest
                ∙ cons_cond (a.connection == place) (held_beside out b) (queue_with_file a.file (held_in out place files)) (held_in out place files))
            | inr o ↦ rw (t, o) rest
          ]
      | inr f ↦
          let le : active_number a ≤ active_number b = ltb-false b.file.number a.file.number f in
          let above : All (λ (c : ActiveFile). active_number a ≤ active_number c) (b ∷ files) =
          All-cons (λ (c : ActiveFile). active_number a ≤ active_number c) b files le
          (All-weaker (λ (c : ActiveFile). active_number b < active_number c) (λ (c : ActiveFile). active_number a ≤ active_number c) (λ c lt. omega arith) files ascends.0) in
          elim (cases_Bool (a.connection == place)) [
            | inl s ↦ rw (f, s, rests) (sym (put_first out place a (b ∷ files) above))
            | inr o ↦ rw (f, o) refl
          ]
    ]

-- a file that has neither the number nor the arrival of any
pub apart_in : (out : List ℕ) (place : ℕ) (a : ActiveFile) (files : List ActiveFile) → list_any (λ b. active_number b == active_number a) files ≡ false → list_any (λ b. arrival_of b == arrival_of a) files ≡ false
    → IsApart a.file (held_in out place files)
apart_in out place a [] numbers arrivals = All-nil (λ (held : Held). (held.file.number ≢ a.file.number) × (held.file.arrival ≢ a.file.arrival))
apart_in out place a (b ∷ files) numbers arrivals =
    let n = or_parts (active_number b == active_number a) (list_any (λ b. active_number b == active_number a) files) numbers in
    let m = or_parts (arrival_of b == arrival_of a) (list_any (λ b. arrival_of b == arrival_of a) files) arrivals in
    let number : b.file.number ≢ a.file.number = λ e. false≢true (sym n.0 ∙ eq-eqb b.file.number a.file.number e) in
    let arrival : b.file.arrival ≢ a.file.arrival = λ e. false≢true (sym m.0 ∙ eq-eqb b.file.arrival a.file.arrival e) in
    let rest = apart_in out place a files n.1 m.1 in
    elim (cases_Bool (b.connection == place)) [
      | inl s ↦
          rw s (All-cons (λ (held : Held). (held.file.number ≢ a.file.number) × (held.file.arrival ≢ a.file.arrival)) (held_beside out b) (held_in out place files) (number, arrival) rest)
      | inr o ↦ rw o rest
    ]
