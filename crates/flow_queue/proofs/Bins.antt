-- A bin, as a walk over the files in their order.
use Rattle.std.proofs.Common.{◌≡◌, inl, inr, ℕ, zero, suc, ◌+◌, ◌-◌, ◌<◌, ◌≤◌, Bool, true, false, cond, ◌&&◌, ◌||◌, List, [], ◌∷◌, length, take, drop, get_or, Some, None, refl, sym, ap, ◌∙◌, arith}
use Rattle.std.specs.Prelude.{◌==◌, nat_le, nat_lt, IfSome, Option}
use Rattle.std.specs.Option.{option_map}
use Rattle.std.proofs.lemmas.Bool.{cases_lt, lt-ltb, le-ltb, le-leb, lt-leb, ne_eqb, eq-eqb}
use Rattle.std.proofs.lemmas.List.{at_drop_more, at_drop_all, get_or-map}
use Rattle.flowfile_record.specs.declared.TheConstants.{CONTENT_MAX}
use Rattle.machine_model.specs.Taking.{filling, next_would_pass, bin_of}
use Rattle.machine_model.specs.View.{FileView}
use Rattle.flow_queue.specs.declared.held.Held.{Held}
use Rattle.flow_queue.specs.Picking.{size_by, views_at}
use Rattle.flow_queue.specs.Queue.{held_view}
use denote.Ref.{Bor}

-- the size of a bin that has so many files already, and this room
abbrev pub walked : (min max size room : ℕ) → List FileView → Option ℕ
walked min max size room [] = size_by size min false
walked min max size room (file ∷ files) =
    cond (nat_lt room file.size || (size == max)) (size_by size min (nat_lt room file.size)) (walked min max (size + 1) (room - file.size) files)

size_as : (min m n : ℕ) (b : Bool) → m ≡ n → size_by m min b ≡ size_by n min b
size_as min m n b is = ap (λ k. size_by k min b) is

-- how many more there are
fills : (min max size left room : ℕ) (files : List FileView) → size + left ≡ max
    → walked min max size room files ≡ size_by (size + length (filling left room files)) min (next_would_pass (length (filling left room files)) room files)
fills min max size left room [] sum = size_as min size (size + 0) false (omega arith)
fills min max size zero room (file ∷ files) sum =
    let last : (size == max) ≡ true = eq-eqb size max (omega arith) in
    elim (nat_lt room file.size) as (λ b. cond (b || (size == max)) (size_by size min b) (walked min max (size + 1) (room - file.size) files) ≡ size_by (size + 0) min b) [
      | true ↦ size_as min size (size + 0) true (omega arith)
      | false ↦ rw last (size_as min size (size + 0) false (omega arith))
    ]
fills min max size (suc left) room (file ∷ files) sum =
    let rest = filling left (room - file.size) files in
    let W = walked min max (size + 1) (room - file.size) files in
    let filled : Bool → List FileView = λ b. cond b (file ∷ rest) [] in
    let answer : Bool → Option ℕ = λ b. size_by (size + length (filled b)) min (next_would_pass (length (filled b)) room (file ∷ files)) in
    elim (cases_lt room file.size) [
      | inl lt ↦
          let passes : nat_lt room file.size ≡ true = lt-ltb room file.size lt in
          ap (λ a. cond (a || (size == max)) (size_by size min a) W) passes
          ∙ size_as min size (size + 0) true (omega arith)
          ∙ sym (ap (size_by (size + 0) min) passes)
          ∙ sym (ap answer (lt-leb file.size room lt))
      | inr le ↦
          let more : (size == max) ≡ false = ne_eqb size max (λ e. omega arith) in
          ap (λ a. cond (a || (size == max)) (size_by size min a) W) (le-ltb room file.size le)
          ∙ ap (λ b. cond b (size_by size min false) W) more
          ∙ fills min max (size + 1) left (room - file.size) files (omega arith)
          ∙ size_as min (size + 1 + length rest) (size + suc (length rest)) (next_would_pass (length rest) (room - file.size) files) (omega arith)
          ∙ sym (ap answer (le-leb file.size room le))
    ]

filling-take : (most room : ℕ) (files : List FileView) → take (length (filling most room files)) files ≡ filling most room files
filling-take most room [] = refl
filling-take zero room (file ∷ files) = refl
filling-take (suc most) room (file ∷ files) =
    elim (nat_le file.size room) as (λ b. take (length (cond b (file ∷ filling most (room - file.size) files) [])) (file ∷ files) ≡ cond b (file ∷ filling most (room - file.size) files) []) [
      | true ↦ ap (λ l. file ∷ l) (filling-take most (room - file.size) files)
      | false ↦ refl
    ]

taken_if : (b : Bool) (n : ℕ) (bin files : List FileView) → take n files ≡ bin → option_map (λ size. take size files) (cond b (Some n) None) ≡ cond b (Some bin) None
taken_if true n bin files is = ap (λ l. Some l) is
taken_if false n bin files is = refl

pub walked-is : (min max : ℕ) (files : List FileView) → option_map (λ size. take size files) (walked min max 0 CONTENT_MAX files) ≡ bin_of min max files
walked-is min max files =
    let bin = filling max CONTENT_MAX files in
    let passes = next_would_pass (length bin) CONTENT_MAX files in
    ap (option_map (λ size. take size files)) (fills min max 0 max CONTENT_MAX files (omega arith) ∙ size_as min (0 + length bin) (length bin) passes (omega arith))
    ∙ taken_if (nat_lt 0 (length bin) && (nat_le min (length bin) || passes)) (length bin) bin files (filling-take max CONTENT_MAX files)

pub size-within : (size min n : ℕ) (b : Bool) → size ≤ n → IfSome (size_by size min b) (λ s. s ≤ n)
size-within size min n b le = by_test (nat_lt 0 size && (nat_le min size || b))
  where
    by_test : (test : Bool) → IfSome (cond test (Some size) None) (λ s. s ≤ n)
    by_test true = le
    by_test false = tt

-- no bin is made of no files
pub some-bin : (min max : ℕ) (files bin : List FileView) → Some bin ≡ bin_of min max files → files ≡ [] → ⊥
some-bin min max files bin is none = absurd_some (is ∙ ap (bin_of min max) none)
  where
    absurd_some : ◌≡◌ {A = Option (List FileView)} (Some bin) None → ⊥
    absurd_some e = cc

-- ---- at a place

pub view-at : (files : List (Bor Held)) (i : ℕ) (held : Bor Held) → i < length files → held ≡ get_or files i held → get_or (views_at files) i (held_view held.now) ≡ held_view held.now
view-at files i held lt is = get_or-map (λ (h : Bor Held). held_view h.now) files i held (held_view held.now) lt ∙ ap (λ (h : Bor Held). held_view h.now) (sym is)

module _ (min max size room i : ℕ) (files : List FileView) where
  module _ (file : FileView) (lt : i < length files) (is : get_or files i file ≡ file) where
    on : walked min max size room (drop i files) ≡ walked min max size room (file ∷ drop (i + 1) files)
    on = at_drop_more (walked min max size room) files i file lt ∙ ap (λ (f : FileView). walked min max size room (f ∷ drop (i + 1) files)) is

    pub walked-last : (nat_lt room file.size || (size == max)) ≡ true → walked min max size room (drop i files) ≡ size_by size min (nat_lt room file.size)
    walked-last stops = on ∙ ap (λ b. cond b (size_by size min (nat_lt room file.size)) (walked min max (size + 1) (room - file.size) (drop (i + 1) files))) stops

    pub walked-more : (nat_lt room file.size || (size == max)) ≡ false → walked min max size room (drop i files) ≡ walked min max (size + 1) (room - file.size) (drop (i + 1) files)
    walked-more goes = on ∙ ap (λ b. cond b (size_by size min (nat_lt room file.size)) (walked min max (size + 1) (room - file.size) (drop (i + 1) files))) goes

  pub walked-all : length files ≤ i → walked min max size room (drop i files) ≡ size_by size min false
  walked-all le = at_drop_all (walked min max size room) files i le

pub or-right : (a b : Bool) → b ≡ true → (a || b) ≡ true
or-right true b h = refl
or-right false b h = h

pub or-none : (a b : Bool) → a ≡ false → b ≡ false → (a || b) ≡ false
or-none a b h k = ap (λ x. x || b) h ∙ k

-- ---- the file behind a bin is the last that it looks at

filling-none : (room : ℕ) (files : List FileView) → filling zero room files ≡ []
filling-none room [] = refl
filling-none room (file ∷ files) = refl

filling-front : (most room n : ℕ) (files : List FileView) → most ≤ n → filling most room (take n files) ≡ filling most room files
filling-front zero room n files le = filling-none room (take n files) ∙ sym (filling-none room files)
filling-front (suc most) room zero files le = absurd (omega arith)
filling-front (suc most) room (suc n) [] le = refl
filling-front (suc most) room (suc n) (file ∷ files) le =
    ap (λ l. cond (nat_le file.size room) (file ∷ l) []) (filling-front most (room - file.size) n files (omega arith))

filling-length : (most room : ℕ) (files : List FileView) → length (filling most room files) ≤ most
filling-length most room [] = omega arith
filling-length zero room (file ∷ files) = omega arith
filling-length (suc most) room (file ∷ files) =
    let rest = filling-length most (room - file.size) files in
    elim (nat_le file.size room) as (λ b. length (cond b (file ∷ filling most (room - file.size) files) []) ≤ suc most) [
      | true ↦ omega arith
      | false ↦ omega arith
    ]

passes-front : (count room n : ℕ) (files : List FileView) → count < n → next_would_pass count room (take n files) ≡ next_would_pass count room files
passes-front count room zero files lt = absurd (omega arith)
passes-front count room (suc n) [] lt = refl
passes-front zero room (suc n) (file ∷ files) lt = refl
passes-front (suc count) room (suc n) (file ∷ files) lt = passes-front count (room - file.size) n files (omega arith)

pub bin-front : (min max : ℕ) (files : List FileView) → bin_of min max (take (max + 1) files) ≡ bin_of min max files
bin-front min max files =
    let front = take (max + 1) files in
    let bin = filling max CONTENT_MAX files in
    let by : List FileView → Bool → Option (List FileView) = λ bin passes. cond (nat_lt 0 (length bin) && (nat_le min (length bin) || passes)) (Some bin) None in
    let short = filling-length max CONTENT_MAX files in
    ap (λ bin. by bin (next_would_pass (length bin) CONTENT_MAX front)) (filling-front max CONTENT_MAX (max + 1) files (omega arith))
    ∙ ap (by bin) (passes-front (length bin) CONTENT_MAX (max + 1) files (omega arith))
