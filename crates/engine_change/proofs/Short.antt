-- A name of a file is short.
use Rattle.std.proofs.Common.{◌≤◌, ℕ, ◌==◌, ◌&&◌, not, List, length}
use Rattle.std.specs.Prelude.{bytes_eq, codes, nat_le, nat_lt}
use Rattle.std.specs.List.{list_any}
use Rattle.std.specs.Str.{is_utf8}
use Rattle.std.proofs.lemmas.Bool.{and_parts, leb-true}
use Rattle.flowfile_record.specs.Name.{IsName, is_name}
use Rattle.flowfile_record.specs.declared.name.TheConstants.{NAME_MAX}

pub name_short : (text : List ℕ) → IsName text → length text ≤ NAME_MAX
unfolding is_name
name_short text is =
    let some = nat_lt 0 (length text) in
    let few = nat_le (length text) NAME_MAX in
    let here = not (bytes_eq text (codes ".")) in
    let above = not (bytes_eq text (codes "..")) in
    let slash = not (list_any (λ b. b == 47) text) in
    let nul = not (list_any (λ b. b == 0) text) in
    let a = and_parts (some && few && here && above && slash && nul) (is_utf8 text) is in
    let b = and_parts (some && few && here && above && slash) nul a.0 in
    let c = and_parts (some && few && here && above) slash b.0 in
    let d = and_parts (some && few && here) above c.0 in
    let e = and_parts (some && few) here d.0 in
    leb-true (length text) NAME_MAX (and_parts some few e.0).1
