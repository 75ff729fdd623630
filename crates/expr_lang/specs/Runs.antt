-- Runs of bytes of one kind.
use Rattle.std.specs.Prelude.{ℕ, Bool}
use Rattle.expr_lang.specs.declared.reader.run.Run.{Run}
use Rattle.expr_lang.specs.declared.reader.run.Run.TheVariants.{Name, Letters, Digits}
use Rattle.expr_lang.specs.Bytes.{is_name_byte, is_letter, is_digit}

abbrev pub is_in : Run → ℕ → Bool
is_in Name = is_name_byte
is_in Letters = is_letter
is_in Digits = is_digit
