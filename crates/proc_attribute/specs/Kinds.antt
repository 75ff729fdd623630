-- Which kinds these processors are of.
use Rattle.std.specs.Prelude.{Bool, true, false}
use Rattle.machine_model.specs.declared.kind.Kind.{Kind}
use Rattle.machine_model.specs.declared.kind.Kind.TheVariants.{UpdateAttribute, RouteOnAttribute, AttributesToJson, DuplicateFlowFile, CryptographicHashContent}

abbrev pub is_update_attribute : Kind → Bool
is_update_attribute (UpdateAttribute own) = true
is_update_attribute _ = false

abbrev pub is_route_on_attribute : Kind → Bool
is_route_on_attribute (RouteOnAttribute own) = true
is_route_on_attribute _ = false

abbrev pub is_attributes_to_json : Kind → Bool
is_attributes_to_json (AttributesToJson destination names) = true
is_attributes_to_json _ = false

abbrev pub is_duplicate_flow_file : Kind → Bool
is_duplicate_flow_file (DuplicateFlowFile copies) = true
is_duplicate_flow_file _ = false

abbrev pub is_cryptographic_hash_content : Kind → Bool
is_cryptographic_hash_content CryptographicHashContent = true
is_cryptographic_hash_content _ = false
