-- What is read is in the grammar.
use Rattle.std.proofs.Common.{◌≡◌, ℕ, zero, suc, ◌<◌, ◌≤◌, Bool, true, false, ◌||◌, ◌==◌, List, [], ◌∷◌, ◌++◌, length, Option, Some, None, option_and_then, ℤ, refl, ap, sym, ◌∙◌, subst, inl, inr, arith, append_assoc, length-append}
use Rattle.std.specs.Prelude.{codes, bytes_eq}
use Rattle.std.specs.Option.{option_map_or}
use Rattle.std.proofs.lemmas.Bool.{cases_Bool, cond-true, cond-false}
use Rattle.std.proofs.lemmas.Option.{none-some, option_and_then_some, some_pair_parts}
use Rattle.std.proofs.lemmas.List.{nil_from_length}
use Rattle.std.proofs.lemmas.Slice.Eq.{bytes_eq-Decides}
use Rattle.expr_lang.specs.declared.function.Binary.{Binary}
use Rattle.expr_lang.specs.declared.function.Function.{Function}
use Rattle.expr_lang.specs.declared.function.Function.TheVariants.{Alone, WithOne, WithTwo}
use Rattle.expr_lang.specs.Bytes.{is_space, is_letter, is_digit, starts_name, is_name_byte}
use Rattle.expr_lang.specs.Grammar.{AreSpaces, IsName, IsQuoted, IsNumber, IsArgument, IsSubject, IsCall, IsExpression, IsEmbedded}
use Rattle.expr_lang.specs.Names.{name_of, function_named}
use Rattle.expr_lang.specs.Reading.{Reading, front_while, behind_while, behind_spaces, behind_word, behind_token, is_mark, quoted_read, number_read, truth_read, argument_read, literal_read, name_read, subject_read, arguments_read, call_read, calls_read, expression_read, embedded_read}
use Rattle.expr_lang.specs.Tree.{Term, attribute, constant, alone, with_one, with_two}
use Rattle.expr_lang.specs.Value.{text, number, truth}
use Rattle.expr_lang.proofs.Fronts.{IsRead, front_behind, all_front, word_sound, token_sound}
use Rattle.expr_lang.proofs.Quotes.{quoted_sound}
use Rattle.expr_lang.proofs.Numerals.{IsTruth, number_sound, truth_sound}
use Rattle.expr_lang.proofs.Named.{named_sound}

-- a reader's value, made into another
mapped : {A B : Type 0} (G : List ℕ → A → Type 0) (H : List ℕ → B → Type 0) (f : A → B) → ((front : List ℕ) (x : A) → G front x → H front (f x)) →
    (bytes : List ℕ) (reading : Reading A) → ((x : A) (rest : List ℕ) → reading ≡ Some (x, rest) → IsRead G bytes x rest) →
    (y : B) (rest : List ℕ) → option_and_then {U = B × List ℕ} (λ (x : A × List ℕ). Some (f x.0, x.1)) reading ≡ Some (y, rest) → IsRead H bytes y rest
mapped {A} {B} G H f up bytes reading sound y rest h =
    option_and_then_some (λ (x : A × List ℕ). Some (f x.0, x.1)) reading (y, rest) h (λ x is e.
    let parts = some_pair_parts (f x.0) y x.1 rest e in
    let r = sound x.0 x.1 is in
    record { front = r.front; meant = subst (λ (v : B). H r.front v) parts.0 (up r.front x.0 r.meant); whole = r.whole ∙ ap (λ (l : List ℕ). r.front ++ l) parts.1 })

along : {A : Type 0} (G : List ℕ → A → Type 0) (bytes bytes' : List ℕ) (x : A) (rest : List ℕ) → bytes ≡ bytes' → IsRead G bytes' x rest → IsRead G bytes x rest
along G bytes bytes' x rest e r = record { front = r.front; meant = r.meant; whole = e ∙ r.whole }

name_is : (c : ℕ) (bytes : List ℕ) → starts_name c ≡ true → IsName (front_while is_name_byte (c ∷ bytes))
name_is c bytes starts =
    let named : is_name_byte c ≡ true = rw starts refl in
    let e : front_while is_name_byte (c ∷ bytes) ≡ c ∷ front_while is_name_byte bytes = rw named refl in
    subst IsName (sym e) (starts, all_front is_name_byte bytes)

module _ (E : List ℕ → Reading Term) where
  -- a name begins here
  pub subject_name : (c : ℕ) (bytes : List ℕ) → is_mark c ≡ false → starts_name c ≡ true →
      subject_read E (c ∷ bytes) ≡ name_read E (front_while is_name_byte (c ∷ bytes)) (behind_while is_name_byte (c ∷ bytes))
  unfolding subject_read
  subject_name c bytes unmarked starts = cond-false (is_mark c) _ _ unmarked ∙ cond-true (starts_name c) _ _ starts

  pub calls_end : (n : ℕ) (t : Term) (bytes : List ℕ) → behind_token (codes ":") bytes ≡ None → calls_read E n t bytes ≡ Some (t, bytes)
  unfolding calls_read
  calls_end zero t bytes none = refl
  calls_end (suc n) t bytes none = ap (λ (o : Option (List ℕ)). option_map_or (λ (left : List ℕ). option_and_then (λ (x : Term × List ℕ). calls_read E n x.0 x.1) (call_read E t (behind_spaces left))) o (Some (t, bytes))) none

  pub calls_step : (n : ℕ) (t : Term) (bytes left : List ℕ) → behind_token (codes ":") bytes ≡ Some left →
      calls_read E (suc n) t bytes ≡ option_and_then (λ (x : Term × List ℕ). calls_read E n x.0 x.1) (call_read E t (behind_spaces left))
  unfolding calls_read
  calls_step n t bytes left is = ap (λ (o : Option (List ℕ)). option_map_or (λ (left : List ℕ). option_and_then (λ (x : Term × List ℕ). calls_read E n x.0 x.1) (call_read E t (behind_spaces left))) o (Some (t, bytes))) is

module _ (E : List ℕ → Reading Term) (G : List ℕ → Term → Type 0) (sound : (bytes : List ℕ) (t : Term) (rest : List ℕ) → E bytes ≡ Some (t, rest) → IsRead G bytes t rest) where
  truth_argument : (front : List ℕ) (b : Bool) → IsTruth front b → IsArgument G front (constant (truth b))
  truth_argument front true e = subst (λ (l : List ℕ). IsArgument G l (constant (truth true))) (sym e) IsArgument.truly
  truth_argument front false e = subst (λ (l : List ℕ). IsArgument G l (constant (truth false))) (sym e) IsArgument.falsely

  pub argument_sound : (bytes : List ℕ) (t : Term) (rest : List ℕ) → argument_read E bytes ≡ Some (t, rest) → IsRead (IsArgument G) bytes t rest
  unfolding argument_read
  argument_sound [] t rest h = absurd (none-some (t, rest) h)
  argument_sound (c ∷ bytes) t rest h = elim (cases_Bool (c == 36)) [
    | inl dollar ↦
        let r = sound (c ∷ bytes) t rest (rw dollar at h) in
        record { front = r.front; meant = IsArgument.nested r.front t r.meant; whole = r.whole }
    | inr no_dollar ↦ elim (cases_Bool (is_mark c)) [
      | inl marks ↦ mapped IsQuoted (IsArgument G) (λ (s : List ℕ). constant (text s)) IsArgument.quoted (c ∷ bytes) (quoted_read (c ∷ bytes))
          (λ s left. quoted_sound (c ∷ bytes) s left) t rest (rw (no_dollar, marks) at h)
      | inr unmarked ↦ elim (cases_Bool ((c == 45) || is_digit c)) [
        | inl numeral ↦ mapped IsNumber (IsArgument G) (λ (z : ℤ). constant (number z)) IsArgument.numeral (c ∷ bytes) (number_read (c ∷ bytes))
            (λ z left. number_sound (c ∷ bytes) z left) t rest (rw (no_dollar, unmarked, numeral) at h)
        | inr other ↦ mapped IsTruth (IsArgument G) (λ (b : Bool). constant (truth b)) truth_argument (c ∷ bytes) (truth_read (c ∷ bytes))
            (λ b left. truth_sound (c ∷ bytes) b left) t rest (rw (no_dollar, unmarked, other) at h)
      ]
    ]
  ]

  -- spaces, an argument, spaces and a byte
  pub record IsEnclosed (bytes : List ℕ) (t : Term) (mark : ℕ) (rest : List ℕ) : Type 0 where
    pub before : List ℕ
    pub argument : List ℕ
    pub behind : List ℕ
    pub spaces_before : AreSpaces before
    pub meant : IsArgument G argument t
    pub spaces_behind : AreSpaces behind
    pub whole : bytes ≡ before ++ (argument ++ (behind ++ (mark ∷ rest)))

  enclosed : (bytes : List ℕ) (t : Term) (left : List ℕ) (mark : ℕ) (rest : List ℕ) → argument_read E (behind_spaces bytes) ≡ Some (t, left) → behind_token (mark ∷ []) left ≡ Some rest → IsEnclosed bytes t mark rest
  enclosed bytes t left mark rest h k =
      let r = argument_sound (behind_spaces bytes) t left h in
      let token = token_sound (mark ∷ []) left rest k in
      let before = front_while is_space bytes in
      record {
        before = before;
        argument = r.front;
        behind = token.front;
        spaces_before = all_front is_space bytes;
        meant = r.meant;
        spaces_behind = token.meant;
        whole = front_behind is_space bytes ∙ ap (λ (l : List ℕ). before ++ l) (r.whole ∙ ap (λ (l : List ℕ). r.front ++ l) token.whole);
      }

  literal_sound : (bytes : List ℕ) (t : Term) (rest : List ℕ) → literal_read E bytes ≡ Some (t, rest) → IsEnclosed bytes t 41 rest
  unfolding literal_read
  literal_sound bytes t rest h =
      option_and_then_some (λ (x : Term × List ℕ). option_and_then {U = Term × List ℕ} (λ (left : List ℕ). Some (x.0, left)) (behind_token (codes ")") x.1)) (argument_read E (behind_spaces bytes)) (t, rest) h (λ x is k.
      option_and_then_some (λ (left : List ℕ). Some (x.0, left)) (behind_token (codes ")") x.1) (t, rest) k (λ left is' e.
      let parts = some_pair_parts x.0 t left rest e in
      enclosed bytes t x.1 41 rest (is ∙ ap (λ (v : Term). let o : Reading Term = Some (v, x.1) in o) parts.0) (is' ∙ ap (λ (l : List ℕ). Some l) parts.1)))

  attribute_sound : (bytes name left : List ℕ) (t : Term) (rest : List ℕ) → bytes ≡ name ++ left → IsName name → ◌≡◌ {A = Reading Term} (Some (attribute name, left)) (Some (t, rest)) → IsRead (IsSubject G) bytes t rest
  attribute_sound bytes name left t rest split meant e =
      let parts = some_pair_parts (attribute name) t left rest e in
      record {
        front = name;
        meant = subst (λ (v : Term). IsSubject G name v) parts.0 (IsSubject.named name meant);
        whole = split ∙ ap (λ (l : List ℕ). name ++ l) parts.1;
      }

  inside_literal : (bytes left inside : List ℕ) (t : Term) (rest : List ℕ) → bytes ≡ codes "literal" ++ left → behind_token (codes "(") left ≡ Some inside → literal_read E inside ≡ Some (t, rest) → IsRead (IsSubject G) bytes t rest
  inside_literal bytes left inside t rest split is k =
      let token = token_sound (codes "(") left inside is in
      let r = literal_sound inside t rest k in
      let long : bytes ≡ codes "literal" ++ (token.front ++ (40 ∷ (r.before ++ (r.argument ++ (r.behind ++ (41 ∷ rest)))))) =
      split ∙ ap (λ (l : List ℕ). codes "literal" ++ l) (token.whole ∙ ap (λ (l : List ℕ). token.front ++ (40 ∷ l)) r.whole) in
      record {
        front = codes "literal" ++ (token.front ++ (40 ∷ (r.before ++ (r.argument ++ (r.behind ++ (41 ∷ []))))));
        meant = IsSubject.literal token.front r.before r.argument r.behind t token.meant r.spaces_before r.meant r.spaces_behind;
        whole = long ∙ simp append_assoc;
      }

  name_sound : (bytes name left : List ℕ) (t : Term) (rest : List ℕ) → bytes ≡ name ++ left → IsName name → name_read E name left ≡ Some (t, rest) → IsRead (IsSubject G) bytes t rest
  unfolding name_read
  name_sound bytes name left t rest split meant h = elim (cases_Bool (bytes_eq name (codes "literal"))) [
    | inl is ↦
        let e : name ≡ codes "literal" = (bytes_eq-Decides name (codes "literal")).0 is in
        by_token (behind_token (codes "(") left) refl e (sym (cond-true (bytes_eq name (codes "literal")) _ _ is) ∙ h)
    | inr other ↦ attribute_sound bytes name left t rest split meant (sym (cond-false (bytes_eq name (codes "literal")) _ _ other) ∙ h)
  ]
    where
      by_token : (o : Option (List ℕ)) → behind_token (codes "(") left ≡ o → name ≡ codes "literal" → option_map_or (literal_read E) (behind_token (codes "(") left) (Some (attribute name, left)) ≡ Some (t, rest) → IsRead (IsSubject G) bytes t rest
      by_token (Some inside) is e k =
          inside_literal bytes left inside t rest (split ∙ ap (λ (l : List ℕ). l ++ left) e) is (sym (ap (λ (o : Option (List ℕ)). option_map_or (literal_read E) o (Some (attribute name, left))) is) ∙ k)
      by_token None is e k = attribute_sound bytes name left t rest split meant (sym (ap (λ (o : Option (List ℕ)). option_map_or (literal_read E) o (Some (attribute name, left))) is) ∙ k)

  pub subject_sound : (bytes : List ℕ) (t : Term) (rest : List ℕ) → subject_read E bytes ≡ Some (t, rest) → IsRead (IsSubject G) bytes t rest
  unfolding subject_read
  subject_sound [] t rest h = absurd (none-some (t, rest) h)
  subject_sound (c ∷ bytes) t rest h = elim (cases_Bool (is_mark c)) [
    | inl marks ↦ mapped IsQuoted (IsSubject G) attribute IsSubject.quoted (c ∷ bytes) (quoted_read (c ∷ bytes))
        (λ s left. quoted_sound (c ∷ bytes) s left) t rest (sym (cond-true (is_mark c) _ _ marks) ∙ h)
    | inr unmarked ↦ elim (cases_Bool (starts_name c)) [
      | inl starts ↦ name_sound (c ∷ bytes) (front_while is_name_byte (c ∷ bytes)) (behind_while is_name_byte (c ∷ bytes)) t rest
          (front_behind is_name_byte (c ∷ bytes)) (name_is c bytes starts) (sym (subject_name E c bytes unmarked starts) ∙ h)
      | inr no_name ↦ absurd (none-some (t, rest) (sym (cond-false (is_mark c) _ _ unmarked ∙ cond-false (starts_name c) _ _ no_name) ∙ h))
    ]
  ]

  -- ---- calls

  -- what is read behind a comma
  abbrev second : Binary → Term → Term → List ℕ → Reading Term
  second f t x middle = option_and_then (λ (y : Term × List ℕ). option_and_then {U = Term × List ℕ} (λ (end : List ℕ). Some (with_two f t x y.0, end)) (behind_token (codes ")") y.1)) (argument_read E (behind_spaces middle))

  call_from : (f : Function) (t : Term) (u left : List ℕ) (t' : Term) (rest : List ℕ) → AreSpaces u → arguments_read E t f left ≡ Some (t', rest) → IsRead (IsCall G t) (name_of f ++ (u ++ (40 ∷ left))) t' rest
  unfolding arguments_read
  call_from (Alone f) t u left t' rest spaces h =
      option_and_then_some (λ (end : List ℕ). Some (alone f t, end)) (behind_token (codes ")") left) (t', rest) h (λ end is e.
      let parts = some_pair_parts (alone f t) t' end rest e in
      let token = token_sound (codes ")") left rest (is ∙ ap (λ (l : List ℕ). Some l) parts.1) in
      let long : name_of (Alone f) ++ (u ++ (40 ∷ left)) ≡ name_of (Alone f) ++ (u ++ (40 ∷ (token.front ++ (41 ∷ rest)))) =
      ap (λ (l : List ℕ). name_of (Alone f) ++ (u ++ (40 ∷ l))) token.whole in
      record {
        front = name_of (Alone f) ++ (u ++ (40 ∷ (token.front ++ (41 ∷ []))));
        meant = subst (λ (v : Term). IsCall G t (name_of (Alone f) ++ (u ++ (40 ∷ (token.front ++ (41 ∷ []))))) v) parts.0 (IsCall.no_argument f u token.front spaces token.meant);
        whole = long ∙ simp append_assoc;
      })
  call_from (WithOne f) t u left t' rest spaces h =
      option_and_then_some (λ (x : Term × List ℕ). option_and_then {U = Term × List ℕ} (λ (end : List ℕ). Some (with_one f t x.0, end)) (behind_token (codes ")") x.1)) (argument_read E (behind_spaces left)) (t', rest) h (λ x is k.
      option_and_then_some (λ (end : List ℕ). Some (with_one f t x.0, end)) (behind_token (codes ")") x.1) (t', rest) k (λ end closed e.
      let parts = some_pair_parts (with_one f t x.0) t' end rest e in
      let r = enclosed left x.0 x.1 41 rest is (closed ∙ ap (λ (l : List ℕ). Some l) parts.1) in
      let long : name_of (WithOne f) ++ (u ++ (40 ∷ left)) ≡ name_of (WithOne f) ++ (u ++ (40 ∷ (r.before ++ (r.argument ++ (r.behind ++ (41 ∷ rest)))))) =
      ap (λ (l : List ℕ). name_of (WithOne f) ++ (u ++ (40 ∷ l))) r.whole in
      record {
        front = name_of (WithOne f) ++ (u ++ (40 ∷ (r.before ++ (r.argument ++ (r.behind ++ (41 ∷ []))))));
        meant = subst (λ (v : Term). IsCall G t (name_of (WithOne f) ++ (u ++ (40 ∷ (r.before ++ (r.argument ++ (r.behind ++ (41 ∷ []))))))) v) parts.0
            (IsCall.one_argument f u r.before r.argument r.behind x.0 spaces r.spaces_before r.meant r.spaces_behind);
        whole = long ∙ simp append_assoc;
      }))
  call_from (WithTwo f) t u left t' rest spaces h =
      option_and_then_some (λ (x : Term × List ℕ). option_and_then (second f t x.0) (behind_token (codes ",") x.1)) (argument_read E (behind_spaces left)) (t', rest) h (λ x is k.
      option_and_then_some (second f t x.0) (behind_token (codes ",") x.1) (t', rest) k (λ middle parted k.
      option_and_then_some (λ (y : Term × List ℕ). option_and_then {U = Term × List ℕ} (λ (end : List ℕ). Some (with_two f t x.0 y.0, end)) (behind_token (codes ")") y.1)) (argument_read E (behind_spaces middle)) (t', rest) k (λ y there k.
      option_and_then_some (λ (end : List ℕ). Some (with_two f t x.0 y.0, end)) (behind_token (codes ")") y.1) (t', rest) k (λ end closed e.
      let parts = some_pair_parts (with_two f t x.0 y.0) t' end rest e in
      let r = enclosed left x.0 x.1 44 middle is parted in
      let s = enclosed middle y.0 y.1 41 rest there (closed ∙ ap (λ (l : List ℕ). Some l) parts.1) in
      let long : name_of (WithTwo f) ++ (u ++ (40 ∷ left)) ≡ name_of (WithTwo f) ++ (u ++ (40 ∷ (r.before ++ (r.argument ++ (r.behind ++ (44 ∷ (s.before ++ (s.argument ++ (s.behind ++ (41 ∷ rest)))))))))) =
      ap (λ (l : List ℕ). name_of (WithTwo f) ++ (u ++ (40 ∷ l))) (r.whole ∙ ap (λ (l : List ℕ). r.before ++ (r.argument ++ (r.behind ++ (44 ∷ l)))) s.whole) in
      record {
        front = name_of (WithTwo f) ++ (u ++ (40 ∷ (r.before ++ (r.argument ++ (r.behind ++ (44 ∷ (s.before ++ (s.argument ++ (s.behind ++ (41 ∷ []))))))))));
        meant = subst (λ (v : Term). IsCall G t (name_of (WithTwo f) ++ (u ++ (40 ∷ (r.before ++ (r.argument ++ (r.behind ++ (44 ∷ (s.before ++ (s.argument ++ (s.behind ++ (41 ∷ []))))))))))) v) parts.0
            (IsCall.two_arguments f u r.before r.argument r.behind s.before s.argument s.behind x.0 y.0 spaces r.spaces_before r.meant r.spaces_behind s.spaces_before s.meant s.spaces_behind);
        whole = long ∙ simp append_assoc;
      }))))

  pub call_sound : (t : Term) (bytes : List ℕ) (t' : Term) (rest : List ℕ) → call_read E t bytes ≡ Some (t', rest) → IsRead (IsCall G t) bytes t' rest
  unfolding call_read
  call_sound t bytes t' rest h =
      option_and_then_some (λ (f : Function). option_and_then {U = Term × List ℕ} (λ (left : List ℕ). arguments_read E t f left) (behind_token (codes "(") (behind_while is_letter bytes))) (function_named (front_while is_letter bytes)) (t', rest) h (λ f is k.
      option_and_then_some (λ (left : List ℕ). arguments_read E t f left) (behind_token (codes "(") (behind_while is_letter bytes)) (t', rest) k (λ left opened k.
      let token = token_sound (codes "(") (behind_while is_letter bytes) left opened in
      let split : bytes ≡ name_of f ++ (token.front ++ (40 ∷ left)) =
      front_behind is_letter bytes
      ∙ ap (λ (l : List ℕ). front_while is_letter bytes ++ l) token.whole
      ∙ ap (λ (l : List ℕ). l ++ (token.front ++ (40 ∷ left))) (named_sound (front_while is_letter bytes) f is) in
      along (IsCall G t) bytes (name_of f ++ (token.front ++ (40 ∷ left))) t' rest split (call_from f t token.front left t' rest token.meant k)))

  -- ---- expressions

  -- an expression in front of these bytes goes on to this one
  pub record GoesOn (front bytes : List ℕ) (t : Term) (rest : List ℕ) : Type 0 where
    pub all : List ℕ
    pub meant : IsExpression G all t
    pub whole : front ++ bytes ≡ all ++ rest

  ends : (t : Term) (front bytes : List ℕ) (t' : Term) (rest : List ℕ) → IsExpression G front t → ◌≡◌ {A = Reading Term} (Some (t, bytes)) (Some (t', rest)) → GoesOn front bytes t' rest
  ends t front bytes t' rest meant e =
      let parts = some_pair_parts t t' bytes rest e in
      record { all = front; meant = subst (λ (v : Term). IsExpression G front v) parts.0 meant; whole = ap (λ (l : List ℕ). front ++ l) parts.1 }

  -- one call more
  pub one_call : (t : Term) (front bytes left : List ℕ) (t' : Term) (rest : List ℕ) → IsExpression G front t → behind_token (codes ":") bytes ≡ Some left → call_read E t (behind_spaces left) ≡ Some (t', rest) → GoesOn front bytes t' rest
  one_call t front bytes left t' rest meant is k =
      let token = token_sound (codes ":") bytes left is in
      let v = front_while is_space left in
      let r = call_sound t (behind_spaces left) t' rest k in
      let long : front ++ bytes ≡ front ++ (token.front ++ (58 ∷ (v ++ (r.front ++ rest)))) =
      ap (λ (l : List ℕ). front ++ l) (token.whole ∙ ap (λ (l : List ℕ). token.front ++ (58 ∷ l)) (front_behind is_space left ∙ ap (λ (l : List ℕ). v ++ l) r.whole)) in
      record {
        all = front ++ (token.front ++ (58 ∷ (v ++ r.front)));
        meant = IsExpression.call front token.front v r.front t t' meant token.meant (all_front is_space left) r.meant;
        whole = long ∙ simp append_assoc;
      }

  calls_sound : (count : ℕ) (t : Term) (front bytes : List ℕ) (t' : Term) (rest : List ℕ) → IsExpression G front t → calls_read E count t bytes ≡ Some (t', rest) → GoesOn front bytes t' rest
  unfolding calls_read
  calls_sound zero t front bytes t' rest meant h = ends t front bytes t' rest meant h
  calls_sound (suc count) t front bytes t' rest meant h = by_token (behind_token (codes ":") bytes) refl h (λ v. calls_sound count v)
    where
      further : List ℕ → Reading Term
      further left = option_and_then (λ (x : Term × List ℕ). calls_read E count x.0 x.1) (call_read E t (behind_spaces left))

      by_token : (o : Option (List ℕ)) → behind_token (codes ":") bytes ≡ o →
          option_map_or further (behind_token (codes ":") bytes) (Some (t, bytes)) ≡ Some (t', rest) →
          ((v : Term) (front bytes : List ℕ) (t' : Term) (rest : List ℕ) → IsExpression G front v → calls_read E count v bytes ≡ Some (t', rest) → GoesOn front bytes t' rest) →
          GoesOn front bytes t' rest
      by_token None is k go = ends t front bytes t' rest meant (sym (ap (λ (o : Option (List ℕ)). option_map_or further o (Some (t, bytes))) is) ∙ k)
      by_token (Some left) is k go =
          let k' : further left ≡ Some (t', rest) = sym (ap (λ (o : Option (List ℕ)). option_map_or further o (Some (t, bytes))) is) ∙ k in
          option_and_then_some (λ (x : Term × List ℕ). calls_read E count x.0 x.1) (call_read E t (behind_spaces left)) (t', rest) k' (λ x there more.
          let one = one_call t front bytes left x.0 x.1 meant is there in
          let on = go x.0 one.all x.1 t' rest one.meant more in
          record { all = on.all; meant = on.meant; whole = one.whole ∙ on.whole })

  -- ---- a call takes a byte at least

  pub shorter : (t : Term) (bytes left : List ℕ) (t' : Term) (rest : List ℕ) → behind_token (codes ":") bytes ≡ Some left → call_read E t (behind_spaces left) ≡ Some (t', rest) → length rest < length bytes
  shorter t bytes left t' rest is k =
      let token = token_sound (codes ":") bytes left is in
      let v = front_while is_space left in
      let r = call_sound t (behind_spaces left) t' rest k in
      let tail : List ℕ = v ++ (r.front ++ rest) in
      let split : left ≡ tail = front_behind is_space left ∙ ap (λ (l : List ℕ). v ++ l) r.whole in
      let long : bytes ≡ token.front ++ (58 ∷ left) = token.whole in
      omega (arith, ap length long, ap length split, length-append token.front (58 ∷ left), length-append v (r.front ++ rest), length-append r.front rest)

  -- so any count that is no less than the length will do
  pub calls_same : (n m : ℕ) (t : Term) (bytes : List ℕ) → length bytes ≤ n → length bytes ≤ m → calls_read E n t bytes ≡ calls_read E m t bytes
  calls_same zero m t bytes below below' =
      let none : behind_token (codes ":") bytes ≡ None = ap (behind_token (codes ":")) (nil_from_length bytes (omega arith)) in
      calls_end E zero t bytes none ∙ sym (calls_end E m t bytes none)
  calls_same (suc n) m t bytes below below' = by_token (behind_token (codes ":") bytes) refl m below' (λ k. calls_same n k)
    where
      by_call : (k : ℕ) (left : List ℕ) → behind_token (codes ":") bytes ≡ Some left → length bytes ≤ suc k →
          ((k : ℕ) (v : Term) (l : List ℕ) → length l ≤ n → length l ≤ k → calls_read E n v l ≡ calls_read E k v l) →
          (o : Reading Term) → call_read E t (behind_spaces left) ≡ o →
          option_and_then (λ (x : Term × List ℕ). calls_read E n x.0 x.1) o ≡ option_and_then (λ (x : Term × List ℕ). calls_read E k x.0 x.1) o
      by_call k left is fits go None there = refl
      by_call k left is fits go (Some (v, rest)) there =
          let less = shorter t bytes left v rest is there in
          go k v rest (omega (arith, less)) (omega (arith, less))

      by_token : (o : Option (List ℕ)) → behind_token (codes ":") bytes ≡ o → (m : ℕ) → length bytes ≤ m →
          ((k : ℕ) (v : Term) (l : List ℕ) → length l ≤ n → length l ≤ k → calls_read E n v l ≡ calls_read E k v l) →
          calls_read E (suc n) t bytes ≡ calls_read E m t bytes
      by_token None is m fits go = calls_end E (suc n) t bytes is ∙ sym (calls_end E m t bytes is)
      by_token (Some left) is zero fits go =
          let none : behind_token (codes ":") bytes ≡ None = ap (behind_token (codes ":")) (nil_from_length bytes (omega arith)) in
          absurd (none-some left (sym none ∙ is))
      by_token (Some left) is (suc k) fits go =
          calls_step E n t bytes left is
          ∙ by_call k left is fits go (call_read E t (behind_spaces left)) refl
          ∙ sym (calls_step E k t bytes left is)

  pub expression_sound : (bytes : List ℕ) (t : Term) (rest : List ℕ) → expression_read E bytes ≡ Some (t, rest) → IsRead (IsExpression G) bytes t rest
  unfolding expression_read
  expression_sound bytes t rest h =
      option_and_then_some (λ (x : Term × List ℕ). calls_read E (length x.1) x.0 x.1) (subject_read E bytes) (t, rest) h (λ x is k.
      let r = subject_sound bytes x.0 x.1 is in
      let on = calls_sound (length x.1) x.0 r.front x.1 t rest (IsExpression.subject r.front x.0 r.meant) k in
      record { front = on.all; meant = on.meant; whole = r.whole ∙ on.whole })

pub embedded_sound : (depth : ℕ) (bytes : List ℕ) (t : Term) (rest : List ℕ) → embedded_read depth bytes ≡ Some (t, rest) → IsRead (IsEmbedded depth) bytes t rest
unfolding embedded_read
embedded_sound zero bytes t rest h = absurd (none-some (t, rest) h)
embedded_sound (suc depth) bytes t rest h =
    let E = embedded_read depth in
    let G : List ℕ → Term → Type 0 = IsEmbedded depth in
    option_and_then_some (λ (left : List ℕ). option_and_then {U = Term × List ℕ} (λ (x : Term × List ℕ). option_and_then {U = Term × List ℕ} (λ (end : List ℕ). Some (x.0, end)) (behind_token (codes "}") x.1)) (expression_read E (behind_spaces left))) (behind_word (codes "${") bytes) (t, rest) h (λ left is k.
    option_and_then_some (λ (x : Term × List ℕ). option_and_then {U = Term × List ℕ} (λ (end : List ℕ). Some (x.0, end)) (behind_token (codes "}") x.1)) (expression_read E (behind_spaces left)) (t, rest) k (λ x there k.
    option_and_then_some (λ (end : List ℕ). Some (x.0, end)) (behind_token (codes "}") x.1) (t, rest) k (λ end closed e.
    let parts = some_pair_parts x.0 t end rest e in
    let r = expression_sound E G (embedded_sound depth) (behind_spaces left) x.0 x.1 there in
    let token = token_sound (codes "}") x.1 rest (closed ∙ ap (λ (l : List ℕ). Some l) parts.1) in
    let v = front_while is_space left in
    let long : bytes ≡ codes "${" ++ (v ++ (r.front ++ (token.front ++ (125 ∷ rest)))) =
    word_sound (codes "${") bytes left is
    ∙ ap (λ (l : List ℕ). codes "${" ++ l) (front_behind is_space left ∙ ap (λ (l : List ℕ). v ++ l) (r.whole ∙ ap (λ (l : List ℕ). r.front ++ l) token.whole)) in
    record {
      front = codes "${" ++ (v ++ (r.front ++ (token.front ++ (125 ∷ []))));
      meant = record {
        before = v;
        inner = r.front;
        behind = token.front;
        spaces_before = all_front is_space left;
        expression = subst (λ (w : Term). IsExpression G r.front w) parts.0 r.meant;
        spaces_behind = token.meant;
        whole = refl;
      };
      whole = long ∙ simp append_assoc;
    })))
