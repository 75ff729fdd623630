-- What an UpdateAttribute sets.
use Rattle.std.specs.Prelude.{ℕ, Bool, List, string_bytes}
use Rattle.std.specs.List.{list_all}
use Rattle.flowfile_record.specs.Attributes.{has_key_length}
use Rattle.proc_attribute.specs.declared.update_attribute.Setting.{Setting}

-- a name, and the text that the attribute of that name is set to
abbrev pub set_by : Setting → List ℕ × List ℕ
set_by setting = (setting.name.now, string_bytes setting.text)

-- each name may be a key
abbrev pub have_keys : List (List ℕ × List ℕ) → Bool
have_keys pairs = list_all (λ pair. has_key_length pair.0) pairs
