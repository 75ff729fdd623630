-- Which texts are names of files.
use Rattle.std.specs.Prelude.{ℕ, ◌==◌, ◌&&◌, nat_lt, nat_le, Bool, not, List, length, IsTrue, codes, bytes_eq}
use Rattle.std.specs.List.{list_any}
use Rattle.std.specs.Str.{is_utf8}
use Rattle.flowfile_record.specs.declared.name.TheConstants.{NAME_MAX}

-- 1 to 255 bytes of UTF-8, not `.` or `..`, with no `/` and no NUL
unfoldable pub is_name : List ℕ → Bool
is_name text =
    nat_lt 0 (length text) && nat_le (length text) NAME_MAX
    && not (bytes_eq text (codes ".")) && not (bytes_eq text (codes ".."))
    && not (list_any (λ b. b == 47) text) && not (list_any (λ b. b == 0) text)
    && is_utf8 text

abbrev pub IsName : List ℕ → Type 0
IsName text = IsTrue (is_name text)
