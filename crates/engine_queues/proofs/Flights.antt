-- Which files are out, and what that makes of the files of a connection.
use Rattle.std.proofs.Common.{◌≡◌, ◌≢◌, ℕ, ◌<◌, ◌==◌, ◌||◌, ◌&&◌, not, Bool, true, false, cond, List, [], ◌∷◌, ◌++◌, refl, sym, ap, ◌∙◌, inl, inr, arith}
use Rattle.std.specs.Prelude.{All, IsSome}
use Rattle.std.specs.List.{list_any}
use Rattle.std.proofs.lemmas.Bool.{cases_Bool, eqb-true, eq-eqb, ne_eqb, false≢true}
use Rattle.std.proofs.lemmas.List.Elements.{All-nil, All-cons, All-head, All-tail, All-weaker}
use Rattle.flowfile_record.specs.NumberedItems.{with_item, AscendsByNumber}
use Rattle.flowfile_record.specs.declared.stored.ActiveFile.{ActiveFile}
use Rattle.kept_state.specs.Applied.{active_number, is_file_among, left_after}
use Rattle.kept_state.specs.Fits.{active_of, is_in_connection}
use Rattle.kept_state.proofs.Apart.{AreApart}
use Rattle.kept_state.proofs.Items.{eqb_comm, any-with}
use Rattle.flow_queue.specs.Queue.{with_flight}
use Rattle.flow_queue.specs.declared.held.Held.{Held}
use Rattle.engine_queues.specs.Beside.{is_out, out_without}
use Rattle.engine_queues.proofs.Held.{held_in}

-- ---- more and fewer

or-assoc : (a b c : Bool) → (a || (b || c)) ≡ ((a || b) || c)
or-assoc true b c = refl
or-assoc false b c = refl

pub out-more : (numbers out : List ℕ) (n : ℕ) → is_out (numbers ++ out) n ≡ (is_out numbers n || is_out out n)
out-more [] out n = refl
out-more (m ∷ numbers) out n = ap (λ b. (m == n) || b) (out-more numbers out n) ∙ or-assoc (m == n) (is_out numbers n) (is_out out n)

none-stays : (numbers out : List ℕ) (m n : ℕ) (e : m ≡ n) (is : is_out numbers m ≡ true) → (is_out out n && not (is_out numbers n)) ≡ (((m == n) || is_out out n) && not (is_out numbers n))
none-stays numbers out m n e is =
    let gone : is_out numbers n ≡ true = ap (is_out numbers) (sym e) ∙ is in
    rw (gone, eq-eqb m n e) (and-false (is_out out n))
  where
    and-false : (b : Bool) → (b && false) ≡ false
    and-false true = refl
    and-false false = refl

pub out-fewer : (numbers out : List ℕ) (n : ℕ) → is_out (out_without numbers out) n ≡ (is_out out n && not (is_out numbers n))
out-fewer numbers [] n = refl
out-fewer numbers (m ∷ out) n =
    let rest = out-fewer numbers out n in
    elim (cases_Bool (is_out numbers m)) [
      | inl t ↦ elim (cases_Bool (m == n)) [
        | inl e ↦ rw t (rest ∙ none-stays numbers out m n (eqb-true m n e) t)
        | inr o ↦ rw (t, o) rest
      ]
      | inr f ↦ elim (cases_Bool (m == n)) [
        | inl e ↦
            let stays : is_out numbers n ≡ false = ap (is_out numbers) (sym (eqb-true m n e)) ∙ f in
            rw (f, e, stays) refl
        | inr o ↦ rw (f, o) rest
      ]
    ]

-- those that are out once these are marked
abbrev pub out_marked : (in_flight : Bool) → (numbers out : List ℕ) → List ℕ
out_marked true numbers out = numbers ++ out
out_marked false numbers out = out_without numbers out

pub out-marked : (b : Bool) (numbers out : List ℕ) (n : ℕ) → is_out (out_marked b numbers out) n ≡ cond (is_out numbers n) b (is_out out n)
out-marked true numbers out n = out-more numbers out n ∙ either (is_out numbers n)
  where
    either : (a : Bool) → (a || is_out out n) ≡ cond a true (is_out out n)
    either true = refl
    either false = refl
out-marked false numbers out n = out-fewer numbers out n ∙ either (is_out numbers n) (is_out out n)
  where
    either : (a b : Bool) → (b && not a) ≡ cond a false b
    either true true = refl
    either true false = refl
    either false true = refl
    either false false = refl

-- one after others
pub out-marked_next : (b : Bool) (m : ℕ) (numbers out : List ℕ) (n : ℕ) → is_out (out_marked b numbers (out_marked b (m ∷ []) out)) n ≡ is_out (out_marked b (m ∷ numbers) out) n
out-marked_next b m numbers out n =
    out-marked b numbers (out_marked b (m ∷ []) out) n ∙ ap (λ x. cond (is_out numbers n) b x) (out-marked b (m ∷ []) out n)
    ∙ either (m == n) (is_out numbers n) ∙ sym (out-marked b (m ∷ numbers) out n)
  where
    either : (x y : Bool) → cond y b (cond (x || false) b (is_out out n)) ≡ cond (x || y) b (is_out out n)
    either true true = refl
    either true false = refl
    either false true = refl
    either false false = refl

-- ---- the files of a connection

-- where the same of these files are out
pub held-only : (out other : List ℕ) (place : ℕ) (files : List ActiveFile) → All (λ (a : ActiveFile). is_out out (active_number a) ≡ is_out other (active_number a)) files
    → held_in out place files ≡ held_in other place files
held-only out other place [] same = refl
held-only out other place (a ∷ files) same =
    let here : is_out out (active_number a) ≡ is_out other (active_number a) = All-head (λ (b : ActiveFile). is_out out (active_number b) ≡ is_out other (active_number b)) a files same in
    let rest = held-only out other place files (All-tail (λ (b : ActiveFile). is_out out (active_number b) ≡ is_out other (active_number b)) a files same) in
    elim (cases_Bool (a.connection == place)) [
      | inl s ↦ rw s (λ i. (let first : Held = record { file = a.file; in_flight = here i } in first) ∷ rest i)
      | inr o ↦ rw o rest
    ]

-- .. but for one number
abbrev pub AreSameBut : (n : ℕ) → (b : Bool) → (out other : List ℕ) → Type 0
AreSameBut n b out other = (m : ℕ) → is_out other m ≡ cond (m == n) b (is_out out m)

pub marked-one : (b : Bool) (n : ℕ) (out : List ℕ) → AreSameBut n b out (out_marked b (n ∷ []) out)
marked-one b n out m =
    let same : is_out (n ∷ []) m ≡ (m == n) = or-false (n == m) ∙ eqb_comm n m in
    out-marked b (n ∷ []) out m ∙ ap (λ x. cond x b (is_out out m)) same
  where
    or-false : (a : Bool) → (a || false) ≡ a
    or-false true = refl
    or-false false = refl

-- the file of the number is marked in its connection, ..
pub held-marked : (b : Bool) (n : ℕ) (out other : List ℕ) (c : ℕ) (files : List ActiveFile) → AreSameBut n b out other → with_flight n b (held_in out c files) ≡ held_in other c files
held-marked b n out other c [] same = refl
held-marked b n out other c (a ∷ files) same =
    let rest = held-marked b n out other c files same in
    let here = same a.file.number in
    elim (cases_Bool (a.connection == c)) [
      | inl s ↦ elim (cases_Bool (a.file.number == n)) [
        | inl t ↦
            let is : b ≡ is_out other a.file.number = sym (here ∙ ap (λ x. cond x b (is_out out a.file.number)) t) in
            rw (s, t) (λ i. (let first : Held = record { file = a.file; in_flight = is i } in first) ∷ rest i)
        | inr f ↦
            let is : is_out out a.file.number ≡ is_out other a.file.number = sym (here ∙ ap (λ x. cond x b (is_out out a.file.number)) f) in
            rw (s, f) (λ i. (let first : Held = record { file = a.file; in_flight = is i } in first) ∷ rest i)
      ]
      | inr o ↦ rw o rest
    ]

-- .. and the files of the other connections stay
pub others_unmarked : (b : Bool) (n : ℕ) (out other : List ℕ) (c place : ℕ) (files : List ActiveFile) → AreSameBut n b out other → AscendsByNumber active_number files
    → is_in_connection c (active_of n files) ≡ true → place ≢ c → held_in out place files ≡ held_in other place files
others_unmarked b n out other c place [] same ascends is ne = refl
others_unmarked b n out other c place (a ∷ files) same ascends is ne =
    let unmarked : (m : ℕ) → m ≢ n → is_out out m ≡ is_out other m = λ m differ. sym (same m ∙ ap (λ x. cond x b (is_out out m)) (ne_eqb m n differ)) in
    elim (cases_Bool (a.file.number == n)) [
      | inl t ↦
          let here : (a.connection == c) ≡ true = rw t at is in
          let away : (a.connection == place) ≡ false = ne_eqb a.connection place (λ e. ne (sym e ∙ eqb-true a.connection c here)) in
          let number : a.file.number ≡ n = eqb-true a.file.number n t in
          let above = All-weaker (λ (later : ActiveFile). active_number a < active_number later) (λ (later : ActiveFile). is_out out (active_number later) ≡ is_out other (active_number later))
          (λ later lt. unmarked (active_number later) (λ e. omega (arith, lt, e, number))) files ascends.0 in
          rw away (held-only out other place files above)
      | inr f ↦
          let later : is_in_connection c (active_of n files) ≡ true = rw f at is in
          let rest = others_unmarked b n out other c place files same ascends.1 later ne in
          let own : is_out out a.file.number ≡ is_out other a.file.number = unmarked a.file.number (λ e. false≢true (sym f ∙ eq-eqb a.file.number n e)) in
          elim (cases_Bool (a.connection == place)) [
            | inl s ↦ rw s (λ i. (let first : Held = record { file = a.file; in_flight = own i } in first) ∷ rest i)
            | inr o ↦ rw o rest
          ]
    ]

-- ---- files that go, and files that are placed

-- those that are left are out as they were
left-out : (gone out : List ℕ) (files : List ActiveFile) → All (λ (a : ActiveFile). is_out out (active_number a) ≡ is_out (out_without gone out) (active_number a)) (left_after gone files)
left-out gone out [] = All-nil (λ (a : ActiveFile). is_out out (active_number a) ≡ is_out (out_without gone out) (active_number a))
left-out gone out (a ∷ files) = elim (cases_Bool (is_file_among gone a)) [
  | inl t ↦ rw t (left-out gone out files)
  | inr f ↦
      let here : is_out out (active_number a) ≡ is_out (out_without gone out) (active_number a) = sym (out-fewer gone out (active_number a) ∙ ap (λ x. is_out out (active_number a) && not x) f ∙ and-true (is_out out (active_number a))) in
      rw f (All-cons (λ (b : ActiveFile). is_out out (active_number b) ≡ is_out (out_without gone out) (active_number b)) a (left_after gone files) here (left-out gone out files))
]
  where
    and-true : (b : Bool) → (b && true) ≡ b
    and-true true = refl
    and-true false = refl

-- so are those of each connection
pub left-others : (gone out : List ℕ) (place : ℕ) (files : List ActiveFile) → held_in out place (left_after gone files) ≡ held_in (out_without gone out) place (left_after gone files)
left-others gone out place files = held-only out (out_without gone out) place (left_after gone files) (left-out gone out files)

-- some file has the number
pub has-number : (n : ℕ) (files : List ActiveFile) → IsSome (active_of n files) → list_any (λ (a : ActiveFile). active_number a == n) files ≡ true
has-number n [] is = absurd (false≢true is)
has-number n (a ∷ files) is = elim (cases_Bool (a.file.number == n)) [ inl t ↦ rw t refl | inr f ↦ rw f (let later : IsSome (active_of n files) = rw f at is in has-number n files later) ]

-- .. also once others went
still-has : (n : ℕ) (gone : List ℕ) (files : List ActiveFile) → is_out gone n ≡ false → list_any (λ (a : ActiveFile). active_number a == n) files ≡ true
    → list_any (λ (a : ActiveFile). active_number a == n) (left_after gone files) ≡ true
still-has n gone [] other is = is
still-has n gone (a ∷ files) other is = elim (cases_Bool (a.file.number == n)) [
  | inl t ↦
      let stays : is_file_among gone a ≡ false = ap (is_out gone) (eqb-true a.file.number n t) ∙ other in
      rw (stays, t) refl
  | inr f ↦
      let later : list_any (λ (b : ActiveFile). active_number b == n) files ≡ true = rw f at is in
      let rest = still-has n gone files other later in
      elim (cases_Bool (is_file_among gone a)) [ inl s ↦ rw s rest | inr o ↦ rw (o, f) rest ]
]

-- each number of these is that of a file
abbrev HaveFiles : List ActiveFile → List ℕ → Type 0
HaveFiles files out = All (λ n. list_any (λ (a : ActiveFile). active_number a == n) files ≡ true) out

pub left-have : (gone out : List ℕ) (files : List ActiveFile) → All (λ n. IsSome (active_of n files)) out → HaveFiles (left_after gone files) (out_without gone out)
left-have gone [] files live = All-nil (λ n. list_any (λ (a : ActiveFile). active_number a == n) (left_after gone files) ≡ true)
left-have gone (n ∷ out) files live =
    let rest = left-have gone out files (All-tail (λ m. IsSome (active_of m files)) n out live) in
    elim (cases_Bool (is_out gone n)) [
      | inl t ↦ rw t rest
      | inr f ↦
          let here = still-has n gone files f (has-number n files (All-head (λ m. IsSome (active_of m files)) n out live)) in
          rw f (All-cons (λ m. list_any (λ (a : ActiveFile). active_number a == m) (left_after gone files) ≡ true) n (out_without gone out) here rest)
    ]

-- no other number is out
not-out : (m : ℕ) (files : List ActiveFile) (out : List ℕ) → HaveFiles files out → list_any (λ (a : ActiveFile). active_number a == m) files ≡ false → is_out out m ≡ false
not-out m files [] have none = refl
not-out m files (n ∷ out) have none =
    let here : list_any (λ (a : ActiveFile). active_number a == n) files ≡ true = All-head (λ k. list_any (λ (a : ActiveFile). active_number a == k) files ≡ true) n out have in
    let rest = not-out m files out (All-tail (λ k. list_any (λ (a : ActiveFile). active_number a == k) files ≡ true) n out have) none in
    let differ : n ≢ m = λ e. false≢true (sym none ∙ ap (λ (k : ℕ). list_any (λ (a : ActiveFile). active_number a == k) files) (sym e) ∙ here) in
    rw (ne_eqb n m differ) rest

have-more : (a : ActiveFile) (files : List ActiveFile) (out : List ℕ) → HaveFiles files out → HaveFiles (with_item active_number a files) out
have-more a files out have =
    All-weaker (λ n. list_any (λ (b : ActiveFile). active_number b == n) files ≡ true) (λ n. list_any (λ (b : ActiveFile). active_number b == n) (with_item active_number a files) ≡ true)
    (λ n is. any-with active_number (λ (b : ActiveFile). active_number b == n) a files ∙ (rw is (or-true (active_number a == n)))) out have
  where
    or-true : (b : Bool) → (b || true) ≡ true
    or-true true = refl
    or-true false = refl

-- files that are placed beside those are not out
pub placed-at-rest : (placed files : List ActiveFile) (out : List ℕ) → HaveFiles files out → AreApart active_number placed files → All (λ (a : ActiveFile). is_out out (active_number a) ≡ false) placed
placed-at-rest [] files out have apart = All-nil (λ (a : ActiveFile). is_out out (active_number a) ≡ false)
placed-at-rest (a ∷ placed) files out have apart =
    All-cons (λ (b : ActiveFile). is_out out (active_number b) ≡ false) a placed (not-out (active_number a) files out have apart.0)
    (placed-at-rest placed (with_item active_number a files) out (have-more a files out have) apart.1)
