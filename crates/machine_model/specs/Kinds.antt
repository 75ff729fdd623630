-- What a type of processor takes, and where its files can go.
use Rattle.std.specs.Prelude.{ℕ, Bool, true, false, List, [], ◌∷◌, ◌++◌, map, codes, bytes_eq}
use Rattle.std.specs.List.{list_any}
use Rattle.machine_model.specs.declared.kind.Kind.{Kind}
use Rattle.machine_model.specs.declared.kind.Kind.TheVariants.{GetFile, GenerateFlowFile, PutFile, UpdateAttribute, RouteOnAttribute, AttributesToJson, DuplicateFlowFile, CryptographicHashContent, SplitText, ReplaceText, ExtractText, RouteOnContent, MergeContent, SegmentContent, ModifyBytes}
use Rattle.machine_model.specs.declared.kind.MergeStrategy.TheVariants.{BinPacking, Defragment}
use Rattle.machine_model.specs.declared.kind.TakeRule.{TakeRule}
use Rattle.machine_model.specs.declared.kind.TakeRule.TheVariants as rule

abbrev pub take_rule_of : Kind → TakeRule
take_rule_of (GetFile filter) = rule.Source
take_rule_of (GenerateFlowFile count text) = rule.Source
take_rule_of (MergeContent Defragment minimum maximum) = rule.Defragment
take_rule_of (MergeContent BinPacking minimum maximum) = rule.Bin minimum maximum
take_rule_of _ = rule.One

abbrev pub is_source : Kind → Bool
is_source (GetFile filter) = true
is_source (GenerateFlowFile count text) = true
is_source _ = false

abbrev success : List ℕ
success = codes "success"

abbrev failure : List ℕ
failure = codes "failure"

-- the names of the relationships, in their order
abbrev pub relationships_of : Kind → List (List ℕ)
relationships_of (GetFile filter) = success ∷ []
relationships_of (GenerateFlowFile count text) = success ∷ []
relationships_of (PutFile conflict) = success ∷ failure ∷ []
relationships_of (UpdateAttribute own) = success ∷ failure ∷ []
relationships_of (RouteOnAttribute own) = map (λ property. property.name) own ++ codes "unmatched" ∷ []
relationships_of (AttributesToJson destination names) = success ∷ failure ∷ []
relationships_of (DuplicateFlowFile copies) = success ∷ []
relationships_of CryptographicHashContent = success ∷ failure ∷ []
relationships_of (SplitText lines) = codes "original" ∷ codes "splits" ∷ failure ∷ []
relationships_of (ReplaceText replacement) = success ∷ failure ∷ []
relationships_of (ExtractText own) = codes "matched" ∷ codes "unmatched" ∷ []
relationships_of (RouteOnContent requirement own) = map (λ property. property.name) own ++ codes "unmatched" ∷ []
relationships_of (MergeContent strategy minimum maximum) = codes "merged" ∷ codes "original" ∷ failure ∷ []
relationships_of (SegmentContent size) = codes "segments" ∷ codes "original" ∷ failure ∷ []
relationships_of (ModifyBytes start end) = success ∷ []

-- whether a name is among some names
abbrev pub is_among : List ℕ → List (List ℕ) → Bool
is_among name names = list_any (bytes_eq name) names
