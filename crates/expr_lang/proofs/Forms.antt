-- Which form is read, by the first character; and the calls of an expression one by one.
use Rattle.std.proofs.Common.{◌≡◌, ℕ, suc, ◌<◌, ◌≤◌, Bool, true, false, ◌||◌, ◌==◌, List, [], ◌∷◌, ◌++◌, length, map, Some, None, option_and_then, Bor, Err, ℤ, refl, ap, sym, ◌∙◌, subst, arith, encode_utf8}
use Rattle.std.specs.Prelude.{codes}
use Rattle.std.specs.List.{fold}
use Rattle.std.proofs.lemmas.Bool.{ne_eqb, eq-eqb, cond-true, cond-false}
use Rattle.expr_lang.specs.declared.stop.Stop.{Stop}
use Rattle.expr_lang.specs.declared.stop.Stop.TheVariants.{Unread, Memory}
use Rattle.expr_lang.specs.declared.syntax.Call.{Call}
use Rattle.expr_lang.specs.declared.syntax.Call.TheOpen as layer
use Rattle.expr_lang.specs.declared.syntax.Call.TheOpen.{Embedded-F}
use Rattle.expr_lang.specs.declared.syntax.Call.TheFolds.{fold-roll-Embedded, fold-roll-Operand}
use Rattle.expr_lang.specs.declared.syntax.Call.TheViews.{roll-Embedded}
use Rattle.expr_lang.specs.declared.syntax.Embedded.{Embedded}
use Rattle.expr_lang.specs.declared.syntax.Operand.{Operand}
use Rattle.expr_lang.specs.declared.syntax.Operand.TheVariants.{Truth, rolls-Truth}
use Rattle.expr_lang.specs.Bytes.{is_digit, starts_name, is_name_byte}
use Rattle.expr_lang.specs.Grammar.{IsEmbedded}
use Rattle.expr_lang.specs.Gives.{Reads}
use Rattle.expr_lang.specs.Reading.{Reading, front_while, behind_while, behind_spaces, behind_token, is_mark, quoted_read, number_read, truth_read, argument_read, subject_read, name_read, call_read, calls_read, expression_read, embedded_read}
use Rattle.expr_lang.specs.Tree.{Term, attribute, constant}
use Rattle.expr_lang.specs.Value.{text, number, truth}
use Rattle.expr_lang.specs.View.{term_of, operand_term, call_term, call_layer, operand_layer, embedded_layer}
use Rattle.expr_lang.proofs.Chars.{first_of_text, marks_low, starts_are_low, numerals_low, one_low}
use Rattle.expr_lang.proofs.Sound.{subject_name, calls_end, calls_step, calls_same, shorter, embedded_sound}

module _ (E : List ℕ → Reading Term) (c : ℕ) (bytes rest : List ℕ) (e : bytes ≡ encode_utf8 c ++ rest) where
  first_is : (n : ℕ) → n < 128 → (c ≡ n → ⊥) → ((first_of_text c bytes rest e).first == n) ≡ false
  first_is n below other = (first_of_text c bytes rest e).same (λ (x : ℕ). x == n) (one_low n below) ∙ ne_eqb c n other

  pub argument_nested : c ≡ 36 → argument_read E bytes ≡ E bytes
  unfolding argument_read
  argument_nested dollar =
      let f = first_of_text c bytes rest e in
      ap (argument_read E) f.whole ∙ cond-true (f.first == 36) _ _ (f.same (λ (x : ℕ). x == 36) (one_low 36 (omega arith)) ∙ eq-eqb c 36 dollar) ∙ ap E (sym f.whole)

  pub argument_quoted : (c ≡ 36 → ⊥) → is_mark c ≡ true → argument_read E bytes ≡ option_and_then {U = Term × List ℕ} (λ (x : List ℕ × List ℕ). Some (constant (text x.0), x.1)) (quoted_read bytes)
  unfolding argument_read
  argument_quoted other marks =
      let f = first_of_text c bytes rest e in
      ap (argument_read E) f.whole
      ∙ cond-false (f.first == 36) _ _ (first_is 36 (omega arith) other)
      ∙ cond-true (is_mark f.first) _ _ (f.same is_mark marks_low ∙ marks)
      ∙ ap (λ (l : List ℕ). option_and_then {U = Term × List ℕ} (λ (x : List ℕ × List ℕ). Some (constant (text x.0), x.1)) (quoted_read l)) (sym f.whole)

  pub argument_numeral : (c ≡ 36 → ⊥) → is_mark c ≡ false → ((c == 45) || is_digit c) ≡ true → argument_read E bytes ≡ option_and_then {U = Term × List ℕ} (λ (x : ℤ × List ℕ). Some (constant (number x.0), x.1)) (number_read bytes)
  unfolding argument_read
  argument_numeral other unmarked numeral =
      let f = first_of_text c bytes rest e in
      ap (argument_read E) f.whole
      ∙ cond-false (f.first == 36) _ _ (first_is 36 (omega arith) other)
      ∙ cond-false (is_mark f.first) _ _ (f.same is_mark marks_low ∙ unmarked)
      ∙ cond-true ((f.first == 45) || is_digit f.first) _ _ (f.same (λ (x : ℕ). (x == 45) || is_digit x) numerals_low ∙ numeral)
      ∙ ap (λ (l : List ℕ). option_and_then {U = Term × List ℕ} (λ (x : ℤ × List ℕ). Some (constant (number x.0), x.1)) (number_read l)) (sym f.whole)

  pub argument_truth : (c ≡ 36 → ⊥) → is_mark c ≡ false → ((c == 45) || is_digit c) ≡ false → argument_read E bytes ≡ option_and_then {U = Term × List ℕ} (λ (x : Bool × List ℕ). Some (constant (truth x.0), x.1)) (truth_read bytes)
  unfolding argument_read
  argument_truth other unmarked no_numeral =
      let f = first_of_text c bytes rest e in
      ap (argument_read E) f.whole
      ∙ cond-false (f.first == 36) _ _ (first_is 36 (omega arith) other)
      ∙ cond-false (is_mark f.first) _ _ (f.same is_mark marks_low ∙ unmarked)
      ∙ cond-false ((f.first == 45) || is_digit f.first) _ _ (f.same (λ (x : ℕ). (x == 45) || is_digit x) numerals_low ∙ no_numeral)
      ∙ ap (λ (l : List ℕ). option_and_then {U = Term × List ℕ} (λ (x : Bool × List ℕ). Some (constant (truth x.0), x.1)) (truth_read l)) (sym f.whole)

  pub subject_quoted : is_mark c ≡ true → subject_read E bytes ≡ option_and_then {U = Term × List ℕ} (λ (x : List ℕ × List ℕ). Some (attribute x.0, x.1)) (quoted_read bytes)
  unfolding subject_read
  subject_quoted marks =
      let f = first_of_text c bytes rest e in
      ap (subject_read E) f.whole
      ∙ cond-true (is_mark f.first) _ _ (f.same is_mark marks_low ∙ marks)
      ∙ ap (λ (l : List ℕ). option_and_then {U = Term × List ℕ} (λ (x : List ℕ × List ℕ). Some (attribute x.0, x.1)) (quoted_read l)) (sym f.whole)

  pub subject_named : is_mark c ≡ false → starts_name c ≡ true → subject_read E bytes ≡ name_read E (front_while is_name_byte bytes) (behind_while is_name_byte bytes)
  subject_named unmarked starts =
      let f = first_of_text c bytes rest e in
      ap (subject_read E) f.whole
      ∙ subject_name E f.first f.more (f.same is_mark marks_low ∙ unmarked) (f.same starts_name starts_are_low ∙ starts)
      ∙ ap (λ (l : List ℕ). name_read E (front_while is_name_byte l) (behind_while is_name_byte l)) (sym f.whole)

  pub subject_none : is_mark c ≡ false → starts_name c ≡ false → subject_read E bytes ≡ None
  unfolding subject_read
  subject_none unmarked fails =
      let f = first_of_text c bytes rest e in
      ap (subject_read E) f.whole
      ∙ cond-false (is_mark f.first) _ _ (f.same is_mark marks_low ∙ unmarked)
      ∙ cond-false (starts_name f.first) _ _ (f.same starts_name starts_are_low ∙ fails)

-- ---- the calls of an expression

pub calls_push : (t : Term) (calls : List Call) (call : Call) → fold (λ t call. call t) t (map call_term (calls ++ (call ∷ []))) ≡ call_term call (fold (λ t call. call t) t (map call_term calls))
calls_push t [] call = refl
calls_push t (first ∷ calls) call = calls_push (call_term first t) calls call

module _ (depth : ℕ) where
  -- what is read is what is read as calls on this term from here on, in any count that is no less than the length
  pub record GoesOnAs (reading : Reading Term) (t : Term) (rest : List ℕ) : Type 0 where
    pub calls : (count : ℕ) → length rest ≤ count → reading ≡ calls_read (embedded_read depth) count t rest

  pub calls_begun : (bytes : List ℕ) (t : Term) (rest : List ℕ) → subject_read (embedded_read depth) bytes ≡ Some (t, rest) → GoesOnAs (expression_read (embedded_read depth) bytes) t rest
  unfolding expression_read
  calls_begun bytes t rest is = record {
    calls = λ count below.
        ap (option_and_then (λ (x : Term × List ℕ). calls_read (embedded_read depth) (length x.1) x.0 x.1)) is
        ∙ calls_same (embedded_read depth) (IsEmbedded depth) (embedded_sound depth) (length rest) count t rest (omega arith) below;
  }

  calls_one : (reading : Reading Term) (t : Term) (rest left : List ℕ) (n : ℕ) → GoesOnAs reading t rest → behind_token (codes ":") rest ≡ Some left → length rest ≤ n →
      reading ≡ option_and_then (λ (x : Term × List ℕ). calls_read (embedded_read depth) n x.0 x.1) (call_read (embedded_read depth) t (behind_spaces left))
  calls_one reading t rest left n on is below = on.calls (suc n) (omega arith) ∙ calls_step (embedded_read depth) n t rest left is

  pub calls_more : (reading : Reading Term) (t : Term) (rest left : List ℕ) (t' : Term) (rest' : List ℕ) → GoesOnAs reading t rest → behind_token (codes ":") rest ≡ Some left →
      call_read (embedded_read depth) t (behind_spaces left) ≡ Some (t', rest') → GoesOnAs reading t' rest'
  calls_more reading t rest left t' rest' on is called = record {
    calls = λ count below.
        let less = shorter (embedded_read depth) (IsEmbedded depth) (embedded_sound depth) t rest left t' rest' is called in
        calls_one reading t rest left (length rest) on is (omega arith)
        ∙ ap (option_and_then (λ (x : Term × List ℕ). calls_read (embedded_read depth) (length rest) x.0 x.1)) called
        ∙ calls_same (embedded_read depth) (IsEmbedded depth) (embedded_sound depth) (length rest) count t' rest' (omega (arith, less)) below;
  }

  calls_unread : (reading : Reading Term) (t : Term) (rest left : List ℕ) → GoesOnAs reading t rest → behind_token (codes ":") rest ≡ Some left →
      call_read (embedded_read depth) t (behind_spaces left) ≡ None → reading ≡ None
  calls_unread reading t rest left on is none =
      calls_one reading t rest left (length rest) on is (omega arith)
      ∙ ap (option_and_then (λ (x : Term × List ℕ). calls_read (embedded_read depth) (length rest) x.0 x.1)) none

  -- no call is read behind a colon
  pub calls_stopped : (reading : Reading Term) (t : Term) (rest left spaced : List ℕ) (s : Stop) → GoesOnAs reading t rest → behind_token (codes ":") rest ≡ Some left → spaced ≡ behind_spaces left →
      ((v : Term) → Reads {X = Call × Bor (List ℕ)} {Y = Term × List ℕ} (λ x. (call_term x.0 v, x.1.now)) (Err s) (call_read (embedded_read depth) v spaced)) →
      Reads {X = Embedded × Bor (List ℕ)} {Y = Term × List ℕ} (λ x. (term_of x.0, x.1.now)) (Err s) reading
  calls_stopped reading t rest left spaced Memory on is e h = tt
  calls_stopped reading t rest left spaced Unread on is e h = calls_unread reading t rest left on is (ap (call_read (embedded_read depth) t) (sym e) ∙ h t)

  -- a call is read
  pub calls_pushed : (reading : Reading Term) (t : Term) (calls calls' : List Call) (call : Call) (rest left spaced rest' : List ℕ) → GoesOnAs reading (fold (λ t call. call t) t (map call_term calls)) rest →
      behind_token (codes ":") rest ≡ Some left → spaced ≡ behind_spaces left → ((v : Term) → call_read (embedded_read depth) v spaced ≡ Some (call_term call v, rest')) → calls' ≡ calls ++ (call ∷ []) →
      GoesOnAs reading (fold (λ t call. call t) t (map call_term calls')) rest'
  calls_pushed reading t calls calls' call rest left spaced rest' on is e h more =
      let before : Term = fold (λ (t : Term) (call : Term → Term). call t) t (map call_term calls) in
      let called : call_read (embedded_read depth) before (behind_spaces left) ≡ Some (call_term call before, rest') = ap (call_read (embedded_read depth) before) (sym e) ∙ h before in
      let same : call_term call before ≡ fold (λ (t : Term) (call : Term → Term). call t) t (map call_term calls') =
      sym (calls_push t calls call) ∙ ap (λ (l : List Call). fold (λ (t : Term) (call : Term → Term). call t) t (map call_term l)) (sym more) in
      subst (λ (v : Term). GoesOnAs reading v rest') same (calls_more reading before rest left (call_term call before) rest' on is called)

  pub calls_done : (reading : Reading Term) (t : Term) (rest : List ℕ) → GoesOnAs reading t rest → behind_token (codes ":") rest ≡ None → reading ≡ Some (t, rest)
  calls_done reading t rest on none = on.calls (length rest) (omega arith) ∙ calls_end (embedded_read depth) (length rest) t rest none

  pub call_shorter : (call : Call) (rest left spaced rest' : List ℕ) → behind_token (codes ":") rest ≡ Some left → spaced ≡ behind_spaces left →
      ((v : Term) → call_read (embedded_read depth) v spaced ≡ Some (call_term call v, rest')) → length rest' < length rest
  call_shorter call rest left spaced rest' is e h =
      let any : Term = attribute [] in
      shorter (embedded_read depth) (IsEmbedded depth) (embedded_sound depth) any rest left (call_term call any) rest' is (ap (call_read (embedded_read depth) any) (sym e) ∙ h any)

-- ---- what the program makes of it

pub operand_truth : (b : Bool) → operand_term (Truth b) ≡ constant (truth b)
operand_truth b = ap operand_term (sym (rolls-Truth b)) ∙ fold-roll-Operand (Term → Term) Term Term call_layer operand_layer embedded_layer (layer.Truth b)

pub embedded_rolled : (e : Embedded-F Call Operand Embedded) → term_of (roll-Embedded e) ≡ fold (λ t call. call t) (operand_term e.subject) (map call_term e.calls.items)
embedded_rolled e = fold-roll-Embedded (Term → Term) Term Term call_layer operand_layer embedded_layer e
