-- That the flows of tries are sound, and that wrong ones aren't.
use Rattle.std.proofs.Common.{◌≡◌, ℕ, true, false, List, [], ◌∷◌, refl, sym, ◌∙◌, ap, arith}
use Rattle.std.specs.Prelude.{All, codes, slice_index}
use Rattle.std.proofs.lemmas.List.Elements.{All-from_recursion}
use Rattle.machine_model.specs.declared.flow.Connection.{Connection}
use Rattle.machine_model.specs.declared.flow.Processor.{Processor}
use Rattle.machine_model.specs.declared.kind.Conflict.TheVariants.{Replace}
use Rattle.expr_lang.specs.Grammar.{IsText}
use Rattle.expr_lang.specs.Tree.{Term, byte, embedded, Tree, whole, joined}
use Rattle.expr_lang.specs.View.{tree_of}
use Rattle.machine_model.specs.declared.kind.OwnExpression.{OwnExpression}
use Rattle.machine_model.specs.declared.pattern.Pattern.{Pattern}
use Rattle.machine_model.specs.Sound.{MatchesWhole, EachOnce, HasText, IsSound, IsSoundKind}
use Rattle.machine_examples.specs.Small.{get_to_put, wide}
use Rattle.machine_examples.specs.Clones.{duplicating}
use Rattle.machine_examples.specs.Flows.{by, GeneratingIsSound, RingIsSound, AloneIsNotJoined, MarkedIsSound, UnmarkedIsUnsound, ExactIsMarked, ContainedIsNot}
use Rattle.machine_examples.specs.Told.{through, split, merge}

none_twice : EachOnce []
none_twice = λ i j d before within. absurd (omega (arith, within))

-- a connection whose order names no prioritizer
abbrev Plain : Connection → Type 0
Plain connection = EachOnce connection.order

abbrev DoesRight : Processor → Type 0
DoesRight processor = IsSoundKind processor.kind

module _ {X : Type 0} (P : X → Type 0) where
  one : (a : X) → P a → All P (a ∷ [])
  one a p = All-from_recursion P (a ∷ []) (p, tt)

  two : (a b : X) → P a → P b → All P (a ∷ b ∷ [])
  two a b p q = All-from_recursion P (a ∷ b ∷ []) (p, (q, tt))

  three : (a b c : X) → P a → P b → P c → All P (a ∷ b ∷ c ∷ [])
  three a b c p q r = All-from_recursion P (a ∷ b ∷ c ∷ []) (p, (q, (r, tt)))

-- an UpdateAttribute that sets nothing
no_property : All (λ (property : OwnExpression). HasText property.expression) []
no_property = All-from_recursion (λ (property : OwnExpression). HasText property.expression) [] tt

pub get_to_put-sound : IsSound (get_to_put Replace wide)
get_to_put-sound = record {
  processor_count = omega arith;
  connection_count = omega arith;
  processor_ids = refl;
  connection_ids = refl;
  processors = refl;
  kinds = two DoesRight _ _ (record { ranges = refl; texts = tt }) (record { ranges = refl; texts = tt });
  connections = refl;
  relationships = refl;
  prioritizers = one Plain _ none_twice;
}

pub duplicating-sound : IsSound duplicating
duplicating-sound = record {
  processor_count = omega arith;
  connection_count = omega arith;
  processor_ids = refl;
  connection_ids = refl;
  processors = refl;
  kinds = three DoesRight _ _ _ (record { ranges = refl; texts = tt }) (record { ranges = refl; texts = tt }) (record { ranges = refl; texts = tt });
  connections = refl;
  relationships = refl;
  prioritizers = two Plain _ _ none_twice none_twice;
}

pub generating-sound : GeneratingIsSound
generating-sound text has = record {
  processor_count = omega arith;
  connection_count = omega arith;
  processor_ids = refl;
  connection_ids = refl;
  processors = refl;
  kinds = two DoesRight _ _ (record { ranges = refl; texts = has }) (record { ranges = refl; texts = tt });
  connections = refl;
  relationships = refl;
  prioritizers = three Plain _ _ _ none_twice none_twice none_twice;
}

pub ring-sound : RingIsSound
ring-sound text has = record {
  processor_count = omega arith;
  connection_count = omega arith;
  processor_ids = refl;
  connection_ids = refl;
  processors = refl;
  kinds = three DoesRight _ _ _ (record { ranges = refl; texts = has }) (record { ranges = refl; texts = no_property }) (record { ranges = refl; texts = no_property });
  connections = refl;
  relationships = refl;
  prioritizers = three Plain _ _ _ none_twice none_twice none_twice;
}

pub splitting-sound : IsSound (through split (codes "splits"))
splitting-sound = record {
  processor_count = omega arith;
  connection_count = omega arith;
  processor_ids = refl;
  connection_ids = refl;
  processors = refl;
  kinds = three DoesRight _ _ _ (record { ranges = refl; texts = tt }) (record { ranges = refl; texts = tt }) (record { ranges = refl; texts = tt });
  connections = refl;
  relationships = refl;
  prioritizers = two Plain _ _ none_twice none_twice;
}

pub merging-sound : IsSound (through merge (codes "merged"))
merging-sound = record {
  processor_count = omega arith;
  connection_count = omega arith;
  processor_ids = refl;
  connection_ids = refl;
  processors = refl;
  kinds = three DoesRight _ _ _ (record { ranges = refl; texts = tt }) (record { ranges = refl; texts = tt }) (record { ranges = refl; texts = tt });
  connections = refl;
  relationships = refl;
  prioritizers = two Plain _ _ none_twice none_twice;
}

pub untrue : false ≡ true → ⊥
untrue is = cc

-- ---- texts and patterns

not-joined : (term : Term) (tree : Tree) → tree ≡ joined (embedded term ∷ []) → (text : List ℕ) → IsText text tree → ⊥
not-joined term (whole t) is text h = cc
not-joined term (joined []) is text h = cc
not-joined term (joined (byte c ∷ parts)) is text h = cc
not-joined term (joined (embedded t ∷ [])) is text h = h.2
not-joined term (joined (embedded t ∷ part ∷ parts)) is text h = cc

pub alone-not-joined : AloneIsNotJoined
alone-not-joined expression term is (text, h) = not-joined term (tree_of expression) is text h

pub marked-sound : MarkedIsSound
marked-sound pattern is = record { ranges = refl; texts = (codes "a", is) }

-- this one begins with no mark
unmarked : (pattern : Pattern) → pattern.text ≡ codes "a" → MatchesWhole pattern → ⊥
unmarked pattern is (within, marked) =
    let same : 97 ≡ 92 = ap (λ bytes. slice_index bytes 0) (sym is ∙ marked) in absurd (omega (arith, same))

pub unmarked-unsound : UnmarkedIsUnsound
unmarked-unsound pattern is sound = unmarked pattern is sound.texts

pub exact-marked : ExactIsMarked
exact-marked pattern is sound = unmarked pattern is (sound.texts 0 (by pattern) (omega arith))

pub contained-not : ContainedIsNot
contained-not pattern = record { ranges = refl; texts = tt }
