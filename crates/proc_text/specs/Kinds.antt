-- Which kinds these processors are of.
use Rattle.std.specs.Prelude.{Bool, true, false}
use Rattle.machine_model.specs.declared.kind.Kind.{Kind}
use Rattle.machine_model.specs.declared.kind.Kind.TheVariants.{ExtractText, ModifyBytes, ReplaceText, RouteOnContent, SegmentContent, SplitText}

abbrev pub is_extract_text : Kind → Bool
is_extract_text (ExtractText own) = true
is_extract_text _ = false

abbrev pub is_modify_bytes : Kind → Bool
is_modify_bytes (ModifyBytes start end) = true
is_modify_bytes _ = false

abbrev pub is_replace_text : Kind → Bool
is_replace_text (ReplaceText replacement) = true
is_replace_text _ = false

abbrev pub is_route_on_content : Kind → Bool
is_route_on_content (RouteOnContent requirement own) = true
is_route_on_content _ = false

abbrev pub is_segment_content : Kind → Bool
is_segment_content (SegmentContent size) = true
is_segment_content _ = false

abbrev pub is_split_text : Kind → Bool
is_split_text (SplitText lines) = true
is_split_text _ = false
