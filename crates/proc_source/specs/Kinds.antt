-- Which kinds these processors are of.
use Rattle.std.specs.Prelude.{Bool, true, false}
use Rattle.machine_model.specs.declared.kind.Kind.{Kind}
use Rattle.machine_model.specs.declared.kind.Kind.TheVariants.{GetFile, GenerateFlowFile, PutFile}

abbrev pub is_get_file : Kind → Bool
is_get_file (GetFile filter) = true
is_get_file _ = false

abbrev pub is_generate_flow_file : Kind → Bool
is_generate_flow_file (GenerateFlowFile count custom_text) = true
is_generate_flow_file _ = false

abbrev pub is_put_file : Kind → Bool
is_put_file (PutFile conflict) = true
is_put_file _ = false
