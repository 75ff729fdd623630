-- Which step of an evaluation decides: an error stays, whatever comes behind it.
use Rattle.std.proofs.Common.{◌≡◌, ℕ, zero, suc, ◌+◌, ◌<◌, List, [], ◌∷◌, ◌++◌, length, map, take, drop, get_or, Ok, Err, refl, ap, sym, ◌∙◌, arith, append_assoc, string_bytes}
use Rattle.std.proofs.lemmas.List.{append-nil, take-append-drop, take_more, drop_more}
use Rattle.std.proofs.lemmas.List.Concat.{flat_map-append}
use Rattle.std.specs.List.{fold, flat_map}
use Rattle.expr_lang.specs.declared.error.EvalError.{EvalError}
use Rattle.expr_lang.specs.declared.error.EvalError.TheVariants.{NotANumber, NotABool, Overflow, TooLong, Memory}
use Rattle.expr_lang.specs.declared.syntax.Call.TheOpen as layer
use Rattle.expr_lang.specs.declared.syntax.Call.TheFolds.{fold_out-Embedded, fold_out-Call}
use Rattle.expr_lang.specs.declared.syntax.Call.TheViews.{out-Embedded}
use Rattle.expr_lang.specs.declared.syntax.Call.{Call}
use Rattle.expr_lang.specs.declared.syntax.Embedded.{Embedded}
use Rattle.expr_lang.specs.declared.syntax.Piece.{Piece}
use Rattle.expr_lang.specs.declared.syntax.Piece.TheVariants.{Plain, Computed}
use Rattle.expr_lang.specs.declared.val.Val.{Val}
use Rattle.expr_lang.specs.Gives.{Gives}
use Rattle.expr_lang.specs.Meaning.{Attributes, term_value, joined_text}
use Rattle.expr_lang.specs.Seen.{seen}
use Rattle.expr_lang.specs.Tree.{Term, Part, byte, embedded}
use Rattle.expr_lang.specs.Value.{Value, Answer, ◌>>=◌, as_text, bounded}
use Rattle.expr_lang.specs.View.{term_of, operand_term, call_term, call_layer, operand_layer, embedded_layer, piece_parts}

-- an error in an answer is the error of what follows from it
pub gives_later : (e : EvalError) (a b : Answer Value) → Gives {X = Val} seen (Err e) a → (a ≡ Err e → b ≡ Err e) → Gives {X = Val} seen (Err e) b
gives_later Memory a b h later = tt
gives_later NotANumber a b h later = later h
gives_later NotABool a b h later = later h
gives_later Overflow a b h later = later h
gives_later TooLong a b h later = later h

module _ (find : Attributes) where
  layer_keeps_error : (call : layer.Call-F (Term → Term) Term Term) (t : Term) (e : EvalError) → term_value find t ≡ Err e → term_value find (call_layer call t) ≡ Err e
  layer_keeps_error (layer.Alone f) t e h = rw h refl
  layer_keeps_error (layer.WithOne f x) t e h = rw h refl
  layer_keeps_error (layer.WithTwo f x y) t e h = rw h refl

  call_keeps_error : (call : Call) (t : Term) (e : EvalError) → term_value find t ≡ Err e → term_value find (call_term call t) ≡ Err e
  call_keeps_error call t e h =
      let opened = fold_out-Call (Term → Term) Term Term call_layer operand_layer embedded_layer call in
      ap (λ f. term_value find (f t)) opened ∙ layer_keeps_error _ t e h

  pub calls_keep_error : (calls : List Call) (t : Term) (e : EvalError) → term_value find t ≡ Err e
      → term_value find (fold (λ t call. call t) t (map call_term calls)) ≡ Err e
  calls_keep_error [] t e h = h
  calls_keep_error (call ∷ calls) t e h = calls_keep_error calls (call_term call t) e (call_keeps_error call t e h)

-- a call on what the calls before it make, and the calls behind it
fold_at : (t : Term) (calls : List Call) (i : ℕ) (d : Call) → i < length calls
    → fold (λ t call. call t) t (map call_term calls)
    ≡ fold (λ t call. call t) (call_term (get_or calls i d) (fold (λ t call. call t) t (map call_term (take i calls)))) (map call_term (drop (i + 1) calls))
fold_at t [] i d below = absurd (omega arith)
fold_at t (call ∷ calls) zero d below = refl
fold_at t (call ∷ calls) (suc i) d below =
    let one_more : suc i + 1 ≡ suc (i + 1) = omega arith in
    rw one_more (fold_at (call_term call t) calls i d (omega arith))

pub term_opened : (e : Embedded) → term_of e ≡ fold (λ t call. call t) (operand_term (out-Embedded e).subject) (map call_term (out-Embedded e).calls.items)
term_opened e = fold_out-Embedded (Term → Term) Term Term call_layer operand_layer embedded_layer e

pub subject_decides : (find : Attributes) (e : Embedded) (error : EvalError)
    → term_value find (operand_term (out-Embedded e).subject) ≡ Err error → term_value find (term_of e) ≡ Err error
subject_decides find e error h =
    ap (term_value find) (term_opened e) ∙ calls_keep_error find (out-Embedded e).calls.items (operand_term (out-Embedded e).subject) error h

pub call_decides : (find : Attributes) (e : Embedded) (i : ℕ) (call : Call) (error : EvalError) → i < length (out-Embedded e).calls.items
    → call ≡ get_or (out-Embedded e).calls.items i call
    → term_value find (call_term call (fold (λ t call. call t) (operand_term (out-Embedded e).subject) (map call_term (take i (out-Embedded e).calls.items)))) ≡ Err error
    → term_value find (term_of e) ≡ Err error
call_decides find e i call error below is h =
    let calls = (out-Embedded e).calls.items in
    let t = operand_term (out-Embedded e).subject in
    let front = fold (λ t call. call t) t (map call_term (take i calls)) in
    let split = fold_at t calls i call below ∙ ap (λ call'. fold (λ t call. call t) (call_term call' front) (map call_term (drop (i + 1) calls))) (sym is) in
    ap (term_value find) (term_opened e ∙ split) ∙ calls_keep_error find (drop (i + 1) calls) (call_term call front) error h

-- texts that are joined
then_itself : {A : Type 0} (a : Answer A) → a ≡ (a >>= λ s. Ok s)
then_itself (Ok s) = refl
then_itself (Err e) = refl

byte_first : (c : ℕ) (a b : Answer (List ℕ))
    → ((a >>= λ s. b >>= λ u. Ok (s ++ u)) >>= λ s. Ok (c ∷ s)) ≡ ((a >>= λ s. Ok (c ∷ s)) >>= λ s. b >>= λ u. Ok (s ++ u))
byte_first c (Ok s) (Ok u) = refl
byte_first c (Ok s) (Err e) = refl
byte_first c (Err e) b = refl

text_first : (v : Answer Value) (a b : Answer (List ℕ))
    → (v >>= λ w. (a >>= λ s. b >>= λ u. Ok (s ++ u)) >>= λ s. Ok (as_text w ++ s))
    ≡ ((v >>= λ w. a >>= λ s. Ok (as_text w ++ s)) >>= λ s. b >>= λ u. Ok (s ++ u))
text_first (Ok w) (Ok s) (Ok u) = ap Ok (sym (append_assoc (as_text w) s u))
text_first (Ok w) (Ok s) (Err e) = refl
text_first (Ok w) (Err e) b = refl
text_first (Err e) a b = refl

module _ (find : Attributes) where
  joined_append : (xs ys : List Part) → joined_text find (xs ++ ys) ≡ (joined_text find xs >>= λ s. joined_text find ys >>= λ u. Ok (s ++ u))
  joined_append [] ys = then_itself (joined_text find ys)
  joined_append (byte c ∷ xs) ys =
      ap (λ (a : Answer (List ℕ)). a >>= λ s. Ok (c ∷ s)) (joined_append xs ys) ∙ byte_first c (joined_text find xs) (joined_text find ys)
  joined_append (embedded t ∷ xs) ys =
      ap (λ (a : Answer (List ℕ)). term_value find t >>= λ w. a >>= λ s. Ok (as_text w ++ s)) (joined_append xs ys)
      ∙ text_first (term_value find t) (joined_text find xs) (joined_text find ys)

  joined_both : (xs ys : List Part) (s u : List ℕ) → joined_text find xs ≡ Ok s → joined_text find ys ≡ Ok u → joined_text find (xs ++ ys) ≡ Ok (s ++ u)
  joined_both xs ys s u e f = joined_append xs ys ∙ rw (e, f) refl

  joined_bytes : (s : List ℕ) → joined_text find (map byte s) ≡ Ok s
  joined_bytes [] = refl
  joined_bytes (c ∷ s) = let e = joined_bytes s in rw e refl

  pub joined_more : (pieces : List Piece) (i : ℕ) (piece : Piece) (s u : List ℕ) → i < length pieces → piece ≡ get_or pieces i piece
      → joined_text find (flat_map piece_parts (take i pieces)) ≡ Ok s → joined_text find (piece_parts piece) ≡ Ok u
      → joined_text find (flat_map piece_parts (take (i + 1) pieces)) ≡ Ok (s ++ u)
  joined_more pieces i piece s u below is e f =
      let more : take (i + 1) pieces ≡ take i pieces ++ piece ∷ [] = take_more pieces i piece below ∙ ap (λ p. take i pieces ++ p ∷ []) (sym is) in
      let apart = flat_map-append piece_parts (take i pieces) (piece ∷ []) in
      let last : flat_map piece_parts (piece ∷ []) ≡ piece_parts piece = append-nil (piece_parts piece) in
      ap (λ p. joined_text find (flat_map piece_parts p)) more ∙ ap (joined_text find) (apart ∙ ap (λ p. flat_map piece_parts (take i pieces) ++ p) last)
      ∙ joined_both (flat_map piece_parts (take i pieces)) (piece_parts piece) s u e f

  pub plain_piece : (piece : Piece) (text : _) → piece ≡ Plain text → joined_text find (piece_parts piece) ≡ Ok (string_bytes text)
  plain_piece piece text is = ap (λ p. joined_text find (piece_parts p)) is ∙ joined_bytes (string_bytes text)

  pub computed_piece : (piece : Piece) (e : Embedded) (v : Value) → piece ≡ Computed e → term_value find (term_of e) ≡ Ok v → joined_text find (piece_parts piece) ≡ Ok (as_text v)
  computed_piece piece e v is worth =
      ap (λ p. joined_text find (piece_parts p)) is ∙ rw worth (ap Ok (append-nil (as_text v)))

  stops_at : (xs ys : List Part) (t : Term) (s : List ℕ) (error : EvalError) → joined_text find xs ≡ Ok s → term_value find t ≡ Err error
      → joined_text find (xs ++ embedded t ∷ ys) ≡ Err error
  stops_at xs ys t s error e f = joined_append xs (embedded t ∷ ys) ∙ rw (e, f) refl

  pub piece_decides : (pieces : List Piece) (i : ℕ) (piece : Piece) (e : Embedded) (s : List ℕ) (error : EvalError) → i < length pieces
      → piece ≡ get_or pieces i piece → piece ≡ Computed e → joined_text find (flat_map piece_parts (take i pieces)) ≡ Ok s
      → term_value find (term_of e) ≡ Err error → (joined_text find (flat_map piece_parts pieces) >>= bounded) ≡ Err error
  piece_decides pieces i piece e s error below at is front fails =
      let behind = flat_map piece_parts (drop (i + 1) pieces) in
      let split : pieces ≡ take i pieces ++ Computed e ∷ drop (i + 1) pieces =
      sym (take-append-drop i pieces) ∙ ap (λ p. take i pieces ++ p) (drop_more pieces i piece below ∙ ap (λ p. p ∷ drop (i + 1) pieces) (sym at ∙ is)) in
      let apart = flat_map-append piece_parts (take i pieces) (Computed e ∷ drop (i + 1) pieces) in
      let stops = stops_at (flat_map piece_parts (take i pieces)) behind (term_of e) s error front fails in
      ap (λ (a : Answer (List ℕ)). a >>= bounded) (ap (λ p. joined_text find (flat_map piece_parts p)) split ∙ ap (joined_text find) apart ∙ stops)
