-- The grammar of texts with embedded expressions.
--
--   text    = { piece }
--   piece   = a character but "$" | "$" not followed by "$" or "{" | embedded
--   embedded = "${" spaces expression spaces "}"
--   expression = subject { spaces ":" spaces call }
--   subject = name | quoted | "literal" spaces "(" spaces argument spaces ")"
--   call    = function spaces "(" spaces [ argument { spaces "," spaces argument } ] spaces ")"
--   argument = quoted | number | "true" | "false" | embedded
use Rattle.std.specs.Prelude.{◌≡◌, ◌≢◌, ℕ, zero, suc, ◌+◌, ◌<◌, ◌≤◌, ◌⊎◌, List, [], ◌∷◌, ◌++◌, length, ℤ, true, false, Some, IsTrue, FitsSigned, codes}
use Rattle.std.specs.Int.{w64}
use Rattle.std.specs.List.{list_all}
use Rattle.std.specs.Str.Parse.{IsNumeral, signed_digits_value}
use Rattle.expr_lang.specs.declared.function.Nullary.{Nullary}
use Rattle.expr_lang.specs.declared.function.Unary.{Unary}
use Rattle.expr_lang.specs.declared.function.Binary.{Binary}
use Rattle.expr_lang.specs.Bytes.{is_space, starts_name, is_name_byte, escaped}
use Rattle.expr_lang.specs.Names.{nullary_name, unary_name, binary_name}
use Rattle.expr_lang.specs.Tree.{Term, attribute, constant, alone, with_one, with_two, Part, byte, embedded, Tree, whole, joined}
use Rattle.expr_lang.specs.Value.{text, number, truth}
use Rattle.expr_lang.specs.declared.reader.TheConstants.{DEPTH_MAX, TEXT_MAX}

abbrev pub AreSpaces : List ℕ → Type 0
AreSpaces bytes = IsTrue (list_all is_space bytes)

-- a letter or an underscore, then letters, digits, underscores, dots and dashes
abbrev pub IsName : List ℕ → Type 0
IsName [] = ⊥
IsName (c ∷ cs) = IsTrue (starts_name c) × IsTrue (list_all is_name_byte cs)

-- the bytes between two marks, and the text that they stand for
pub data IsBody (mark : ℕ) : List ℕ → List ℕ → Type 0 where
  nothing : IsBody mark [] []
  plain : (c : ℕ) (bytes s : List ℕ) → c ≢ mark → c ≢ 92 → IsBody mark bytes s → IsBody mark (c ∷ bytes) (c ∷ s)
  escape : (c d : ℕ) (bytes s : List ℕ) → escaped c ≡ Some d → IsBody mark bytes s
      → IsBody mark (92 ∷ c ∷ bytes) (d ∷ s)

-- single or double quotes, and a body between
pub record IsQuoted (bytes s : List ℕ) : Type 0 where
  pub mark : ℕ
  pub body : List ℕ
  pub is_mark : (mark ≡ 39) ⊎ (mark ≡ 34)
  pub is_body : IsBody mark body s
  pub whole : bytes ≡ mark ∷ (body ++ (mark ∷ []))

-- a minus or none, and 1 to 19 digits, in 64 signed bits
pub record IsNumber (bytes : List ℕ) (z : ℤ) : Type 0 where
  pub digits : List ℕ
  pub numeral : IsNumeral 10 digits
  pub short : length digits ≤ 19
  pub whole : (bytes ≡ digits) ⊎ (bytes ≡ 45 ∷ digits)
  pub value : z ≡ signed_digits_value 10 bytes
  pub fits : FitsSigned w64 z

-- E says which bytes are an embedded expression that may stand as an argument
pub data IsArgument (E : List ℕ → Term → Type 0) : List ℕ → Term → Type 0 where
  quoted : (bytes s : List ℕ) → IsQuoted bytes s → IsArgument E bytes (constant (text s))
  numeral : (bytes : List ℕ) (z : ℤ) → IsNumber bytes z → IsArgument E bytes (constant (number z))
  truly : IsArgument E (codes "true") (constant (truth true))
  falsely : IsArgument E (codes "false") (constant (truth false))
  nested : (bytes : List ℕ) (t : Term) → E bytes t → IsArgument E bytes t

-- a name or a quoted name is an attribute, and a literal is its argument
pub data IsSubject (E : List ℕ → Term → Type 0) : List ℕ → Term → Type 0 where
  named : (bytes : List ℕ) → IsName bytes → IsSubject E bytes (attribute bytes)
  quoted : (bytes s : List ℕ) → IsQuoted bytes s → IsSubject E bytes (attribute s)
  literal : (u v argument w : List ℕ) (t : Term) → AreSpaces u → AreSpaces v → IsArgument E argument t → AreSpaces w →
      IsSubject E (codes "literal" ++ (u ++ (40 ∷ (v ++ (argument ++ (w ++ (41 ∷ []))))))) t

-- a call on what stands before it
pub data IsCall (E : List ℕ → Term → Type 0) (before : Term) : List ℕ → Term → Type 0 where
  no_argument : (f : Nullary) (u v : List ℕ) → AreSpaces u → AreSpaces v →
      IsCall E before (nullary_name f ++ (u ++ (40 ∷ (v ++ (41 ∷ []))))) (alone f before)
  one_argument : (f : Unary) (u v first w : List ℕ) (x : Term) → AreSpaces u → AreSpaces v → IsArgument E first x
      → AreSpaces w →
      IsCall E before (unary_name f ++ (u ++ (40 ∷ (v ++ (first ++ (w ++ (41 ∷ []))))))) (with_one f before x)
  two_arguments : (f : Binary) (u v first w w' second w'' : List ℕ) (x y : Term) → AreSpaces u → AreSpaces v →
      IsArgument E first x → AreSpaces w → AreSpaces w' → IsArgument E second y → AreSpaces w'' →
      IsCall E before (binary_name f
      ++ (u ++ (40 ∷ (v ++ (first ++ (w ++ (44 ∷ (w' ++ (second ++ (w'' ++ (41 ∷ [])))))))))))
      (with_two f before x y)

-- a subject, and calls from the left
pub data IsExpression (E : List ℕ → Term → Type 0) : List ℕ → Term → Type 0 where
  subject : (bytes : List ℕ) (t : Term) → IsSubject E bytes t → IsExpression E bytes t
  call : (front u v bytes : List ℕ) (t t' : Term) → IsExpression E front t → AreSpaces u → AreSpaces v
      → IsCall E t bytes t' →
      IsExpression E (front ++ (u ++ (58 ∷ (v ++ bytes)))) t'

-- an expression between ${ and }
pub record IsBraced (E : List ℕ → Term → Type 0) (bytes : List ℕ) (t : Term) : Type 0 where
  pub before : List ℕ
  pub inner : List ℕ
  pub behind : List ℕ
  pub spaces_before : AreSpaces before
  pub expression : IsExpression E inner t
  pub spaces_behind : AreSpaces behind
  pub whole : bytes ≡ codes "${" ++ (before ++ (inner ++ (behind ++ (125 ∷ []))))

-- an embedded expression that nests at most so deep: itself counts one
abbrev pub IsEmbedded : ℕ → List ℕ → Term → Type 0
IsEmbedded zero = λ bytes t. ⊥
IsEmbedded (suc depth) = IsBraced (IsEmbedded depth)

-- what may follow a dollar that stands for itself
abbrev pub MayFollowDollar : List ℕ → Type 0
MayFollowDollar [] = Unit {0}
MayFollowDollar (c ∷ cs) = (c ≢ 36) × (c ≢ 123)

-- the text begins with this piece, and behind is what stands behind it
abbrev pub IsPiece : List ℕ → Part → List ℕ → Type 0
IsPiece bytes (byte c) behind = (bytes ≡ c ∷ behind) × (c ≡ 36 → MayFollowDollar behind)
IsPiece bytes (embedded t) behind = (front : List ℕ) × IsEmbedded DEPTH_MAX front t × (bytes ≡ front ++ behind)

abbrev pub ArePieces : List ℕ → List Part → List ℕ → Type 0
ArePieces bytes [] behind = bytes ≡ behind
ArePieces bytes (part ∷ parts) behind = (rest : List ℕ) × IsPiece bytes part rest × ArePieces rest parts behind

abbrev pub IsNotOneEmbedded : List Part → Type 0
IsNotOneEmbedded (embedded t ∷ []) = ⊥
IsNotOneEmbedded _ = Unit {0}

-- the text has this tree
abbrev pub IsText : List ℕ → Tree → Type 0
IsText bytes (whole t) = (length bytes ≤ TEXT_MAX) × IsEmbedded DEPTH_MAX bytes t
IsText bytes (joined parts) = (length bytes ≤ TEXT_MAX) × ArePieces bytes parts [] × IsNotOneEmbedded parts

-- something stands here, and no piece
pub record IsNoPiece (bytes : List ℕ) : Type 0 where
  pub more : 0 < length bytes
  pub unread : (part : Part) (behind : List ℕ) → IsPiece bytes part behind → ⊥

-- the pieces up to this place can be read, and no piece stands there
pub record EndsUnread (bytes : List ℕ) (place : ℕ) : Type 0 where
  pub parts : List Part
  pub rest : List ℕ
  pub front : ArePieces bytes parts rest
  pub at : place + length rest ≡ length bytes
  pub unread : IsNoPiece rest

-- the place from which the text can't be read: 0 where it is too long, else that of the first piece that can't be
abbrev pub IsBadAt : List ℕ → ℕ → Type 0
IsBadAt bytes place = ((TEXT_MAX < length bytes) × (place ≡ 0)) ⊎ ((length bytes ≤ TEXT_MAX) × EndsUnread bytes place)
