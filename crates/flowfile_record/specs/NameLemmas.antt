-- What a name is known to be.
use Rattle.std.specs.Prelude.{ℕ, ◌≤◌, List, length}
use Rattle.std.specs.Str.{IsUtf8}
use Rattle.std.proofs.lemmas.Bool.{and_parts, leb-true}
use Rattle.std.proofs.lemmas.Str.{IsUtf8-from_is_utf8}
use Rattle.flowfile_record.specs.declared.name.TheConstants.{NAME_MAX}
use Rattle.flowfile_record.specs.Name.{IsName, is_name}

pub name-most : (text : List ℕ) → IsName text → length text ≤ NAME_MAX
unfolding is_name
name-most text is = leb-true _ _
    (and_parts _ _ (and_parts _ _ (and_parts _ _ (and_parts _ _ (and_parts _ _ (and_parts _ _ is).0).0).0).0).0).1

pub name-utf8 : (text : List ℕ) → IsName text → IsUtf8 text
unfolding is_name
name-utf8 text is = IsUtf8-from_is_utf8 text (and_parts _ _ is).1
