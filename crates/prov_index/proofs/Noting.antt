-- A number noted behind others, and the lists of files when an event joins.
use Rattle.std.proofs.Common.{◌≡◌, ℕ, zero, suc, ◌+◌, ◌-◌, ◌<◌, ◌==◌, ◌||◌, Bool, true, false, cond, List, [], ◌∷◌, ◌++◌, length, Some, refl, sym, ◌∙◌, ap, arith}
use Rattle.std.specs.Prelude.{map, filter}
use Rattle.std.specs.List.{All, slice_get}
use Rattle.std.proofs.lemmas.Bool.{eq-eqb, ne_eqb}
use Rattle.std.proofs.lemmas.List.{append-nil, map-append, length_push}
use Rattle.std.proofs.lemmas.List.Elements.{All-head, All-tail, All-map, All-filter, filter-append}
use Rattle.flowfile_record.specs.declared.event.Event.{Event}
use Rattle.prov_index.specs.Index.{event_number, names_file, numbers_naming}
use Rattle.prov_index.specs.Lists.{is_number, last_is, noted, noted_if}

get-push : (numbers : List ℕ) (number : ℕ) → slice_get (numbers ++ number ∷ []) (length numbers) ≡ Some number
get-push [] number = refl
get-push (first ∷ numbers) number = get-push numbers number

pub last_is-push : (number : ℕ) (numbers : List ℕ) → last_is number (numbers ++ number ∷ []) ≡ true
last_is-push number numbers =
    let place : length (numbers ++ number ∷ []) - 1 ≡ length numbers = omega (arith, length_push numbers number) in
    ap (λ i. is_number number (slice_get (numbers ++ number ∷ []) i)) place ∙ ap (is_number number) (get-push numbers number) ∙ eq-eqb number number refl

none-below : (number place : ℕ) (numbers : List ℕ) → All (λ n. n < number) numbers → is_number number (slice_get numbers place) ≡ false
none-below number place [] below = refl
none-below number zero (first ∷ numbers) below =
    let lt : first < number = All-head (λ n. n < number) first numbers below in
    ne_eqb first number (λ e. omega arith)
none-below number (suc place) (first ∷ numbers) below = none-below number place numbers (All-tail (λ n. n < number) first numbers below)

noted-last : (number : ℕ) (numbers : List ℕ) → last_is number numbers ≡ true → noted number numbers ≡ numbers
noted-last number numbers last = ap (λ b. cond b numbers (numbers ++ number ∷ [])) last

-- once noted, a number is the last
last_is-noted : (number : ℕ) (numbers : List ℕ) → last_is number (noted number numbers) ≡ true
last_is-noted number numbers =
    elim (last_is number numbers) as (λ b. last_is number numbers ≡ b → last_is number (cond b numbers (numbers ++ number ∷ [])) ≡ true) [
      | true ↦ λ is. is
      | false ↦ λ _. last_is-push number numbers
    ] refl

pub noted-twice : (first second : Bool) (number : ℕ) (numbers : List ℕ) → noted_if second number (noted_if first number numbers) ≡ noted_if (first || second) number numbers
noted-twice false second number numbers = refl
noted-twice true false number numbers = refl
noted-twice true true number numbers = noted-last number (noted number numbers) (last_is-noted number numbers)

-- the number of a new event, which is above those before it
pub noted-new : (named : Bool) (number : ℕ) (numbers : List ℕ) → All (λ n. n < number) numbers → noted_if named number numbers ≡ numbers ++ cond named (number ∷ []) []
noted-new false number numbers below = sym (append-nil numbers)
noted-new true number numbers below = ap (λ b. cond b numbers (numbers ++ number ∷ [])) (none-below number (length numbers - 1) numbers below)

one-mapped : (named : Bool) (event : Event) → map event_number (cond named (event ∷ []) []) ≡ cond named (event.number ∷ []) []
one-mapped true event = refl
one-mapped false event = refl

naming-push : (file : ℕ) (events : List Event) (event : Event) → numbers_naming (events ++ event ∷ []) file ≡ numbers_naming events file ++ cond (names_file file event) (event.number ∷ []) []
naming-push file events event =
    ap (map event_number) (filter-append (names_file file) events (event ∷ [])) ∙ map-append event_number (filter (names_file file) events) (filter (names_file file) (event ∷ []))
    ∙ ap (λ l. numbers_naming events file ++ l) (one-mapped (names_file file event) event)

-- the list of a file when an event joins
pub joined : (file : ℕ) (events : List Event) (event : Event) → All (λ earlier. earlier.number < event.number) events
    → noted_if (names_file file event) event.number (numbers_naming events file) ≡ numbers_naming (events ++ event ∷ []) file
joined file events event below =
    let lower = All-map (λ n. n < event.number) event_number (filter (names_file file) events) (All-filter (names_file file) (λ (e : Event). e.number < event.number) events below) in
    noted-new (names_file file event) event.number (numbers_naming events file) lower ∙ sym (naming-push file events event)

-- a number noted at three places, one after the other
pub noted-thrice : (first second third : Bool) (number : ℕ) (a b c d : List ℕ) → b ≡ noted_if first number a → c ≡ noted_if second number b → d ≡ noted_if third number c → d ≡ noted_if (first || second || third) number a
noted-thrice first second third number a b c d one two three =
    three ∙ ap (noted_if third number) (two ∙ ap (noted_if second number) one ∙ noted-twice first second number a) ∙ noted-twice (first || second) third number a
