-- The types of processors, a row for each: its name, whether it makes files and takes none, its properties, ascending
-- by the bytes of their names, what properties of a processor's own are, and its relationships in their order. Own
-- relationships come before these. Of a property: its name, what it may hold, and what a missing one stands for; a
-- property without a default is required.
use Rattle.std.specs.Prelude.{ℕ, Bool, true, false, List, [], ◌∷◌, Option, Some, None, codes, find, bytes_eq}
use Rattle.flowfile_record.specs.declared.TheConstants.{CONTENT_MAX}
use Rattle.flowfile_record.specs.declared.limits.TheConstants.{TAKEN_MAX}
use Rattle.machine_model.specs.declared.limits.TheConstants.{COPIES_MAX, GENERATED_MAX, LINES_MAX}
use Rattle.flow_definition.specs.declared.processor_type.ProcessorType.{ProcessorType}
use Rattle.flow_definition.specs.declared.processor_type.ProcessorType.TheVariants.{GetFile, GenerateFlowFile, PutFile, UpdateAttribute, RouteOnAttribute, AttributesToJson, DuplicateFlowFile, CryptographicHashContent, SplitText, ReplaceText, ExtractText, RouteOnContent, MergeContent, SegmentContent, ModifyBytes}
use Rattle.flow_definition.specs.declared.processor_type.Property.{Property}
use Rattle.flow_definition.specs.declared.processor_type.Property.TheVariants.{FileFilter, Count, CustomText, ConflictResolution, AttributesList, JsonDestination, Copies, LineSplitCount, ReplacementStrategy, ReplacementValue, SearchValue, Requirement, MergeStrategy, MinimumEntries, MaximumEntries, SegmentSize, StartOffset, EndOffset}
use Rattle.flow_definition.specs.declared.processor_type.Form.{Form}
use Rattle.flow_definition.specs.declared.processor_type.Form.TheVariants as form
use Rattle.flow_definition.specs.declared.processor_type.Own.{Own}
use Rattle.flow_definition.specs.declared.processor_type.Own.TheVariants as own

pub record TypeRow : Type 0 where
  pub name : List ℕ
  pub source : Bool
  pub properties : List Property
  pub own : Own
  pub relationships : List (List ℕ)

abbrev pub row_of : ProcessorType → TypeRow
row_of GetFile = record {
  name = codes "GetFile";
  source = true;
  properties = FileFilter ∷ [];
  own = own.Nothing;
  relationships = codes "success" ∷ [];
}
row_of GenerateFlowFile = record {
  name = codes "GenerateFlowFile";
  source = true;
  properties = Count ∷ CustomText ∷ [];
  own = own.Nothing;
  relationships = codes "success" ∷ [];
}
row_of PutFile = record {
  name = codes "PutFile";
  source = false;
  properties = ConflictResolution ∷ [];
  own = own.Nothing;
  relationships = codes "success" ∷ codes "failure" ∷ [];
}
row_of UpdateAttribute = record {
  name = codes "UpdateAttribute";
  source = false;
  properties = [];
  own = own.Attributes;
  relationships = codes "success" ∷ codes "failure" ∷ [];
}
row_of RouteOnAttribute = record {
  name = codes "RouteOnAttribute";
  source = false;
  properties = [];
  own = own.Relationships;
  relationships = codes "unmatched" ∷ [];
}
row_of AttributesToJson = record {
  name = codes "AttributesToJSON";
  source = false;
  properties = AttributesList ∷ JsonDestination ∷ [];
  own = own.Nothing;
  relationships = codes "success" ∷ codes "failure" ∷ [];
}
row_of DuplicateFlowFile = record {
  name = codes "DuplicateFlowFile";
  source = false;
  properties = Copies ∷ [];
  own = own.Nothing;
  relationships = codes "success" ∷ [];
}
row_of CryptographicHashContent = record {
  name = codes "CryptographicHashContent";
  source = false;
  properties = [];
  own = own.Nothing;
  relationships = codes "success" ∷ codes "failure" ∷ [];
}
row_of SplitText = record {
  name = codes "SplitText";
  source = false;
  properties = LineSplitCount ∷ [];
  own = own.Nothing;
  relationships = codes "original" ∷ codes "splits" ∷ codes "failure" ∷ [];
}
row_of ReplaceText = record {
  name = codes "ReplaceText";
  source = false;
  properties = ReplacementStrategy ∷ ReplacementValue ∷ SearchValue ∷ [];
  own = own.Nothing;
  relationships = codes "success" ∷ codes "failure" ∷ [];
}
row_of ExtractText = record {
  name = codes "ExtractText";
  source = false;
  properties = [];
  own = own.AttributePatterns;
  relationships = codes "matched" ∷ codes "unmatched" ∷ [];
}
row_of RouteOnContent = record {
  name = codes "RouteOnContent";
  source = false;
  properties = Requirement ∷ [];
  own = own.RelationshipPatterns;
  relationships = codes "unmatched" ∷ [];
}
row_of MergeContent = record {
  name = codes "MergeContent";
  source = false;
  properties = MaximumEntries ∷ MergeStrategy ∷ MinimumEntries ∷ [];
  own = own.Nothing;
  relationships = codes "merged" ∷ codes "original" ∷ codes "failure" ∷ [];
}
row_of SegmentContent = record {
  name = codes "SegmentContent";
  source = false;
  properties = SegmentSize ∷ [];
  own = own.Nothing;
  relationships = codes "segments" ∷ codes "original" ∷ codes "failure" ∷ [];
}
row_of ModifyBytes = record {
  name = codes "ModifyBytes";
  source = false;
  properties = EndOffset ∷ StartOffset ∷ [];
  own = own.Nothing;
  relationships = codes "success" ∷ [];
}

pub record PropertyRow : Type 0 where
  pub name : List ℕ
  pub form : Form
  pub default : Option (List ℕ)

abbrev pub property_row : Property → PropertyRow
property_row FileFilter =
    record { name = codes "File Filter"; form = form.WholePattern; default = Some (codes "[^.].*") }
property_row Count = record { name = codes "Count"; form = form.Number 0 GENERATED_MAX; default = None }
property_row CustomText = record { name = codes "Custom Text"; form = form.Expression; default = Some [] }
property_row ConflictResolution = record {
  name = codes "Conflict Resolution Strategy";
  form = form.Conflict;
  default = Some (codes "fail");
}
property_row AttributesList =
    record { name = codes "Attributes List"; form = form.Names; default = Some [] }
property_row JsonDestination = record {
  name = codes "Destination";
  form = form.Destination;
  default = Some (codes "flowfile-attribute");
}
property_row Copies = record {
  name = codes "Number of Copies";
  form = form.Number 1 COPIES_MAX;
  default = Some (codes "100");
}
property_row LineSplitCount = record { name = codes "Line Split Count"; form = form.Number 1 LINES_MAX; default = None }
property_row ReplacementStrategy = record {
  name = codes "Replacement Strategy";
  form = form.ReplaceStrategy;
  default = Some (codes "Regex Replace");
}
property_row ReplacementValue = record { name = codes "Replacement Value"; form = form.Text; default = None }
property_row SearchValue = record { name = codes "Search Value"; form = form.Search; default = None }
property_row Requirement = record {
  name = codes "Match Requirement";
  form = form.Requirement;
  default = Some (codes "content must match exactly");
}
property_row MergeStrategy = record {
  name = codes "Merge Strategy";
  form = form.MergeStrategy;
  default = Some (codes "Bin-Packing Algorithm");
}
property_row MinimumEntries = record {
  name = codes "Minimum Number of Entries";
  form = form.Number 1 TAKEN_MAX;
  default = Some (codes "1");
}
property_row MaximumEntries = record {
  name = codes "Maximum Number of Entries";
  form = form.Number 1 TAKEN_MAX;
  default = Some (codes "1000");
}
property_row SegmentSize = record { name = codes "Segment Size"; form = form.Number 1 CONTENT_MAX; default = None }
property_row StartOffset =
    record { name = codes "Start Offset"; form = form.Number 0 CONTENT_MAX; default = Some (codes "0") }
property_row EndOffset =
    record { name = codes "End Offset"; form = form.Number 0 CONTENT_MAX; default = Some (codes "0") }

abbrev pub is_source_type : ProcessorType → Bool
is_source_type type = (row_of type).source

abbrev pub properties_of : ProcessorType → List Property
properties_of type = (row_of type).properties

abbrev pub own_of_type : ProcessorType → Own
own_of_type type = (row_of type).own

abbrev pub relationships_of_type : ProcessorType → List (List ℕ)
relationships_of_type type = (row_of type).relationships

abbrev pub type_name : ProcessorType → List ℕ
type_name type = (row_of type).name

-- the type of a name
abbrev pub type_named : List ℕ → Option ProcessorType
type_named name =
    find (λ type. bytes_eq (type_name type) name)
    (GetFile ∷ GenerateFlowFile ∷ PutFile ∷ UpdateAttribute ∷ RouteOnAttribute ∷ AttributesToJson ∷ DuplicateFlowFile
    ∷ CryptographicHashContent ∷ SplitText ∷ ReplaceText ∷ ExtractText ∷ RouteOnContent ∷ MergeContent
    ∷ SegmentContent ∷ ModifyBytes ∷ [])

abbrev pub property_name : Property → List ℕ
property_name property = (property_row property).name

abbrev pub form_of : Property → Form
form_of property = (property_row property).form

abbrev pub default_of : Property → Option (List ℕ)
default_of property = (property_row property).default
