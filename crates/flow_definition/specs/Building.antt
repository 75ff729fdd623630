-- Patterns of a processor: the texts that they are built from, and what becomes of them.
use Rattle.std.specs.Prelude.{◌≡◌, ℕ, List, Contains}
use Rattle.serde_json.specs.Data.{Data}
use Rattle.machine_model.specs.Sound.{to_match_whole}
use Rattle.flow_definition.specs.declared.building.Built.{Built}
use Rattle.flow_definition.specs.declared.building.Built.TheVariants as built
use Rattle.flow_definition.specs.declared.processor_type.Form.{Form}
use Rattle.flow_definition.specs.declared.processor_type.Form.TheVariants as form
use Rattle.flow_definition.specs.declared.processor_type.Property.{Property}
use Rattle.flow_definition.specs.declared.processor_type.ReplaceStrategy.TheVariants.{Regex}
use Rattle.flow_definition.specs.Looks.{properties_in, property_text}
use Rattle.flow_definition.specs.Patterns.{IsUnread, Told, refuse}
use Rattle.flow_definition.specs.Reading.{replace_strategy_in}
use Rattle.flow_definition.specs.Types.{form_of}

-- a property of this form holds a pattern
abbrev pub HoldsPattern : Data → Form → Type 0
HoldsPattern d form.WholePattern = Unit {0}
HoldsPattern d form.Search = replace_strategy_in d ≡ Regex
HoldsPattern d (form.Number least most) = ⊥
HoldsPattern d form.Expression = ⊥
HoldsPattern d form.Conflict = ⊥
HoldsPattern d form.Names = ⊥
HoldsPattern d form.Destination = ⊥
HoldsPattern d form.ReplaceStrategy = ⊥
HoldsPattern d form.Text = ⊥
HoldsPattern d form.Requirement = ⊥
HoldsPattern d form.MergeStrategy = ⊥

abbrev pub IsPattern : Data → Property → Type 0
IsPattern d property = Contains (properties_in d) property × HoldsPattern d (form_of property)

-- the text that the pattern of a property is built from
abbrev pub text_to_build : Form → List ℕ → List ℕ
text_to_build form.WholePattern text = to_match_whole text
text_to_build form.Search text = text
text_to_build (form.Number least most) text = text
text_to_build form.Expression text = text
text_to_build form.Conflict text = text
text_to_build form.Names text = text
text_to_build form.Destination text = text
text_to_build form.ReplaceStrategy text = text
text_to_build form.Text text = text
text_to_build form.Requirement text = text
text_to_build form.MergeStrategy text = text

abbrev pub pattern_text : Property → Data → List ℕ
pattern_text property d = text_to_build (form_of property) (property_text property d)

-- what becomes of a text. The builder may call any pattern too big where its count of such refusals rose
abbrev pub IsBuilt : (Risen : Type 0) → List ℕ → Built → Type 0
IsBuilt Risen text (built.Pattern pattern) = pattern.text ≡ text
IsBuilt Risen text built.Unread = IsUnread text
IsBuilt Risen text built.TooBig = Risen

-- what a builder tells behind it
abbrev pub told_built : Told → List ℕ → Built → Told
told_built before text (built.Pattern pattern) = before
told_built before text built.Unread = before
told_built before text built.TooBig = refuse before text
