use Rattle.std.proofs.Common.{◌≡◌, ◌++◌, string_bytes}
use Rattle.std.specs.List.{flat_map}
use Rattle.flow_definition.specs.Pointers.{escaped_char}
use Rattle.flow_definition.proofs.pointer.push_escaped.Given as goal

abbrev pub invariant-chars : goal.invariant-chars
invariant-chars l = string_bytes l.text ≡ string_bytes l.fn.text ++ flat_map escaped_char l.yielded
