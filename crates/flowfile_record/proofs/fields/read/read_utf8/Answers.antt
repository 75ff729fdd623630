use Rattle.std.proofs.Common.{◌≡◌, ℕ, ◌≤◌, Bool, true, false, List, length, take, drop, Ok, Err, refl, sym, subst, arith}
use Rattle.std.specs.Str.{IsUtf8, is_utf8}
use Rattle.std.proofs.lemmas.Bool.{le-leb}
use Rattle.std.proofs.lemmas.Str.{is_utf8-from_IsUtf8, IsUtf8-from_is_utf8}
use Rattle.flowfile_record.specs.Reading.{chars_at}
use Rattle.flowfile_record.proofs.fields.read.read_utf8.Goals as goal

not_utf8 : (b : Bool) (bytes : List ℕ) → is_utf8 bytes ≡ b → ¬ (IsUtf8 bytes) → b ≡ false
not_utf8 true bytes e h = absurd (h (IsUtf8-from_is_utf8 bytes e))
not_utf8 false bytes e h = refl

is_read : (left size : ℕ) (bytes : List ℕ) → size ≤ length bytes → IsUtf8 (take size bytes) → chars_at left size bytes ≡ Ok (take size bytes, drop size bytes)
unfolding chars_at
is_read left size bytes long utf8 = rw (le-leb size (length bytes) long, is_utf8-from_IsUtf8 _ utf8) refl

is_unread : (left size : ℕ) (bytes : List ℕ) → size ≤ length bytes → ¬ (IsUtf8 (take size bytes)) → chars_at left size bytes ≡ Err left
unfolding chars_at
is_unread left size bytes long utf8 = rw (le-leb size (length bytes) long, not_utf8 _ _ refl utf8) refl

pub returns-in-Ok : goal.returns-in-Ok
returns-in-Ok c =
    let front = c.split_at.ensures.front in
    let text = c.in-Ok.ensures.cases in
    rw (text.0, front, c.split_at.ensures.back) (is_read c.args.left c.args.size c.args.bytes.now (omega arith) (subst IsUtf8 front text.1))

pub returns-in-Err : goal.returns-in-Err
returns-in-Err c =
    let front = c.split_at.ensures.front in
    is_unread c.args.left c.args.size c.args.bytes.now (omega arith) (λ utf8. c.in-Err.ensures.cases.0 (subst IsUtf8 (sym front) utf8))
