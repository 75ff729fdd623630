-- The texts of the flow's expressions have trees.
use Rattle.std.proofs.Common.{◌≡◌, ◌==◌, ℕ, List, [], ◌∷◌, false, true, map, not, refl, subst, inl, arith}
use Rattle.std.specs.Prelude.{IsTrue, codes}
use Rattle.expr_lang.specs.declared.function.Unary.TheVariants.{EndsWith}
use Rattle.expr_lang.specs.Grammar.{ArePieces, IsArgument, IsBody, IsCall, IsEmbedded, IsExpression, IsPiece, IsSubject}
use Rattle.expr_lang.specs.Tree.{Term, attribute, constant, with_one, byte, embedded, whole, joined}
use Rattle.expr_lang.specs.Value.{text}
use Rattle.trial_flow.specs.Trial.{IsReadable, custom_text, tens_text}

-- ---- bytes that stand for themselves

untrue : false ≡ true → ⊥
untrue is = cc

one-byte : (c : ℕ) → IsTrue (not (c == 36)) → (behind : List ℕ) → IsPiece (c ∷ behind) (byte c) behind
one-byte c other behind = (refl, λ is. absurd (untrue (subst (λ (n : ℕ). IsTrue (not (n == 36))) is other)))

-- ---- the two texts

abbrev index : Term
index = attribute (codes "generate.index")

abbrev tens : Term
tens = with_one EndsWith index (constant (text (codes "0")))

module _ (E : List ℕ → Term → Type 0) where
  index-read : IsExpression E (codes "generate.index") index
  index-read = IsExpression.subject (codes "generate.index") index (IsSubject.named (codes "generate.index") (refl, refl))

  zero-read : IsArgument E (codes "'0'") (constant (text (codes "0")))
  zero-read = IsArgument.quoted (codes "'0'") (codes "0") (record {
    mark = 39;
    body = codes "0";
    is_mark = inl refl;
    is_body = IsBody.plain 48 [] [] (λ is. omega (arith, is)) (λ is. omega (arith, is)) IsBody.nothing;
    whole = refl;
  })

  call-read : IsCall E index (codes "endsWith('0')") tens
  call-read = IsCall.one_argument EndsWith [] [] (codes "'0'") [] (constant (text (codes "0"))) refl refl zero-read refl

  tens-read : IsExpression E (codes "generate.index:endsWith('0')") tens
  tens-read = IsExpression.call (codes "generate.index") [] [] (codes "endsWith('0')") index tens index-read refl refl call-read

embedded-index : IsEmbedded 16 (codes "${generate.index}") index
embedded-index = record {
  before = [];
  inner = codes "generate.index";
  behind = [];
  spaces_before = refl;
  expression = index-read (IsEmbedded 15);
  spaces_behind = refl;
  whole = refl;
}

embedded-tens : IsEmbedded 16 tens_text tens
embedded-tens = record {
  before = [];
  inner = codes "generate.index:endsWith('0')";
  behind = [];
  spaces_before = refl;
  expression = tens-read (IsEmbedded 15);
  spaces_behind = refl;
  whole = refl;
}

lines-behind : ArePieces (codes "\nb\nc\n") (map byte (codes "\nb\nc\n")) []
lines-behind = (
  codes "b\nc\n",
  one-byte 10 refl _,
  (
    codes "\nc\n",
    one-byte 98 refl _,
    (
      codes "c\n",
      one-byte 10 refl _,
      (
        codes "\n",
        one-byte 99 refl _,
        ([], one-byte 10 refl _, refl),
      ),
    ),
  ),
)

custom-pieces : ArePieces custom_text (byte 97 ∷ embedded index ∷ map byte (codes "\nb\nc\n")) []
custom-pieces = (
  codes "${generate.index}\nb\nc\n",
  one-byte 97 refl _,
  (codes "\nb\nc\n", (codes "${generate.index}", embedded-index, refl), lines-behind),
)

pub custom-readable : IsReadable custom_text
custom-readable = (joined (byte 97 ∷ embedded index ∷ map byte (codes "\nb\nc\n")), (omega arith, custom-pieces, tt))

pub tens-readable : IsReadable tens_text
tens-readable = (whole tens, (omega arith, embedded-tens))
