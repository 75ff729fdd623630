-- Which kind this processor is of.
use Rattle.std.specs.Prelude.{Bool, true, false}
use Rattle.machine_model.specs.declared.kind.Kind.{Kind}
use Rattle.machine_model.specs.declared.kind.Kind.TheVariants.{MergeContent}

abbrev pub is_merge_content : Kind → Bool
is_merge_content (MergeContent strategy minimum maximum) = true
is_merge_content _ = false
