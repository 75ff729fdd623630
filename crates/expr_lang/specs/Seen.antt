-- A value of the program as a value of the definitions.
use Rattle.std.specs.Prelude.{string_bytes}
use Rattle.expr_lang.specs.declared.val.Val.{Val}
use Rattle.expr_lang.specs.declared.val.Val.TheVariants.{Text, Num, Bool}
use Rattle.expr_lang.specs.Value.{Value, text, number, truth}

abbrev pub seen : Val → Value
seen (Text s) = text (string_bytes s)
seen (Num z) = number z
seen (Bool b) = truth b
