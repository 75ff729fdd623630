-- What the crate's readers give, from the left: a value and the bytes behind it, or nothing. The grammar
-- says what may be read; these say which reader stops where.
use Rattle.std.specs.Prelude.{ℕ, zero, suc, ◌==◌, ◌&&◌, ◌||◌, nat_lt, nat_le, Bool, true, false, List, [], ◌∷◌, ◌++◌, length, drop, ℤ, Option, Some, None, option_and_then, if◌then◌else◌, codes, bytes_eq}
use Rattle.std.specs.Option.{option_map_or}
use Rattle.std.specs.Str.Parse.{signed_digits_value, starts_with_minus}
use Rattle.expr_lang.specs.declared.function.Function.{Function}
use Rattle.expr_lang.specs.declared.function.Function.TheVariants.{Alone, WithOne, WithTwo}
use Rattle.expr_lang.specs.Bytes.{is_space, is_letter, is_digit, starts_name, is_name_byte, escaped}
use Rattle.expr_lang.specs.Names.{function_named}
use Rattle.expr_lang.specs.Tree.{Term, attribute, constant, alone, with_one, with_two}
use Rattle.expr_lang.specs.Value.{text, number, truth, fits}

-- what is read of some bytes: a value, and the bytes behind it
abbrev pub Reading : Type 0 → Type 0
Reading A = Option (A × List ℕ)

infixl 10 ◌>>=◌
abbrev pub ◌>>=◌ : {A B : Type 0} → Option A → (A → Option B) → Option B
o >>= f = option_and_then f o

-- the bytes up to the first that fails the test, and those from there on
abbrev pub front_while : (ℕ → Bool) → List ℕ → List ℕ
front_while p [] = []
front_while p (c ∷ bytes) = if p c then c ∷ front_while p bytes else []

abbrev pub behind_while : (ℕ → Bool) → List ℕ → List ℕ
behind_while p [] = []
behind_while p (c ∷ bytes) = if p c then behind_while p bytes else c ∷ bytes

abbrev pub behind_spaces : List ℕ → List ℕ
behind_spaces = behind_while is_space

-- the bytes behind this word, and behind spaces and this word
abbrev pub behind_word : List ℕ → List ℕ → Option (List ℕ)
behind_word [] bytes = Some bytes
behind_word (c ∷ word) [] = None
behind_word (c ∷ word) (b ∷ bytes) = if b == c then behind_word word bytes else None

abbrev pub behind_token : List ℕ → List ℕ → Option (List ℕ)
behind_token word bytes = behind_word word (behind_spaces bytes)

abbrev pub with_front : List ℕ → Reading (List ℕ) → Reading (List ℕ)
with_front front reading = reading >>= λ x. Some (front ++ x.0, x.1)

-- what stands behind a backslash
abbrev pub escape_read : List ℕ → Reading ℕ
escape_read [] = None
escape_read (c ∷ bytes) = escaped c >>= λ d. Some (d, bytes)

-- the text of a quoted body, up to its mark. Whether a backslash stands before these bytes
unfoldable pub body_from : ℕ → List ℕ → Bool → Reading (List ℕ)
body_from mark [] escape = None
body_from mark (c ∷ bytes) true = escaped c >>= λ d. with_front (d ∷ []) (body_from mark bytes false)
body_from mark (c ∷ bytes) false =
    if c == mark then Some ([], bytes) else
    if c == 92 then body_from mark bytes true else with_front (c ∷ []) (body_from mark bytes false)

abbrev pub body_read : ℕ → List ℕ → Reading (List ℕ)
body_read mark bytes = body_from mark bytes false

-- the character c, or where it is a backslash the one that it and the next stand for
abbrev pub char_read : ℕ → List ℕ → Reading ℕ
char_read c bytes = if c == 92 then escape_read bytes else Some (c, bytes)

abbrev pub is_mark : ℕ → Bool
is_mark c = (c == 39) || (c == 34)

unfoldable pub quoted_read : List ℕ → Reading (List ℕ)
quoted_read [] = None
quoted_read (c ∷ bytes) = if is_mark c then body_read c bytes else None

-- a minus, if there is one, and the digits behind it
abbrev pub sign_of : List ℕ → List ℕ
sign_of bytes = if starts_with_minus bytes then 45 ∷ [] else []

abbrev pub unsigned : List ℕ → List ℕ
unsigned bytes = if starts_with_minus bytes then drop 1 bytes else bytes

-- the number of this sign and these digits, where it may be one
unfoldable pub number_of : List ℕ → List ℕ → Option ℤ
number_of sign digits =
    let z = signed_digits_value 10 (sign ++ digits) in
    if nat_lt 0 (length digits) && nat_le (length digits) 19 && fits z then Some z else None

unfoldable pub number_read : List ℕ → Reading ℤ
number_read bytes =
    number_of (sign_of bytes) (front_while is_digit (unsigned bytes))
    >>= λ z. Some (z, behind_while is_digit (unsigned bytes))

unfoldable pub truth_read : List ℕ → Reading Bool
truth_read bytes =
    option_map_or (λ rest. Some (true, rest)) (behind_word (codes "true") bytes)
    (behind_word (codes "false") bytes >>= λ rest. Some (false, rest))

-- E reads an embedded expression that may stand within
module _ (E : List ℕ → Reading Term) where
  unfoldable pub argument_read : List ℕ → Reading Term
  argument_read [] = None
  argument_read (c ∷ bytes) =
      if c == 36 then E (c ∷ bytes) else
      if is_mark c then quoted_read (c ∷ bytes) >>= (λ x. Some (constant (text x.0), x.1)) else
      if (c == 45) || is_digit c then number_read (c ∷ bytes) >>= (λ x. Some (constant (number x.0), x.1)) else
      truth_read (c ∷ bytes) >>= (λ x. Some (constant (truth x.0), x.1))

  -- the argument of a literal, behind its parenthesis
  unfoldable pub literal_read : List ℕ → Reading Term
  literal_read bytes =
      argument_read (behind_spaces bytes) >>= λ x. behind_token (codes ")") x.1 >>= λ rest. Some (x.0, rest)

  -- what a name is, and the bytes behind it: a literal where it is that word and a parenthesis follows
  unfoldable pub name_read : List ℕ → List ℕ → Reading Term
  name_read name rest =
      if bytes_eq name (codes "literal")
      then option_map_or literal_read (behind_token (codes "(") rest) (Some (attribute name, rest))
      else Some (attribute name, rest)

  unfoldable pub subject_read : List ℕ → Reading Term
  subject_read [] = None
  subject_read (c ∷ bytes) =
      if is_mark c then quoted_read (c ∷ bytes) >>= (λ x. Some (attribute x.0, x.1)) else
      if starts_name c then name_read (front_while is_name_byte (c ∷ bytes))
      (behind_while is_name_byte (c ∷ bytes)) else None

  -- the arguments of a function, behind its parenthesis
  unfoldable pub arguments_read : Term → Function → List ℕ → Reading Term
  arguments_read t (Alone f) bytes = behind_token (codes ")") bytes >>= λ rest. Some (alone f t, rest)
  arguments_read t (WithOne f) bytes =
      argument_read (behind_spaces bytes) >>= λ x. behind_token (codes ")") x.1
      >>= λ rest. Some (with_one f t x.0, rest)
  arguments_read t (WithTwo f) bytes =
      argument_read (behind_spaces bytes) >>= λ x. behind_token (codes ",") x.1 >>= λ rest.
      argument_read (behind_spaces rest) >>= λ y. behind_token (codes ")") y.1
      >>= λ end. Some (with_two f t x.0 y.0, end)

  unfoldable pub call_read : Term → List ℕ → Reading Term
  call_read t bytes =
      function_named (front_while is_letter bytes) >>= λ f.
      behind_token (codes "(") (behind_while is_letter bytes) >>= λ rest. arguments_read t f rest

  -- the calls from here on, at most so many
  unfoldable pub calls_read : ℕ → Term → List ℕ → Reading Term
  calls_read zero t bytes = Some (t, bytes)
  calls_read (suc count) t bytes =
      option_map_or (λ rest. call_read t (behind_spaces rest) >>= λ x. calls_read count x.0 x.1)
      (behind_token (codes ":") bytes) (Some (t, bytes))

  -- each call takes a byte at least
  unfoldable pub expression_read : List ℕ → Reading Term
  expression_read bytes = subject_read bytes >>= λ x. calls_read (length x.1) x.0 x.1

unfoldable pub embedded_read : ℕ → List ℕ → Reading Term
embedded_read zero bytes = None
embedded_read (suc depth) bytes =
    behind_word (codes "${") bytes >>= λ rest.
    expression_read (embedded_read depth) (behind_spaces rest) >>= λ x.
    behind_token (codes "}") x.1 >>= λ end. Some (x.0, end)

-- a dollar before one of these doesn't stand for itself
abbrev pub is_special : List ℕ → Bool
is_special [] = false
is_special (c ∷ bytes) = (c == 36) || (c == 123)

-- the characters and dollars that stand for themselves, and what is behind them
abbrev pub plain_front : List ℕ → List ℕ
plain_front [] = []
plain_front (c ∷ bytes) = if (c == 36) && is_special bytes then [] else c ∷ plain_front bytes

abbrev pub plain_behind : List ℕ → List ℕ
plain_behind [] = []
plain_behind (c ∷ bytes) = if (c == 36) && is_special bytes then c ∷ bytes else plain_behind bytes
