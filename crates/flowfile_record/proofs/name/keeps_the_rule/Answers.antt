use Rattle.std.proofs.Common.{◌≡◌, ℕ, ◌<◌, ◌≤◌, ◌==◌, ◌&&◌, Bool, true, false, not, List, length, nat_lt, nat_le, bytes_eq, codes, refl, sym, ◌∙◌, ap, arith}
use Rattle.std.specs.List.{list_any}
use Rattle.std.specs.Str.{is_utf8}
use Rattle.std.proofs.lemmas.Bool.{and_from, and_left, and_right, not_from_false, lt-ltb, le-leb}
use Rattle.std.proofs.lemmas.Bool.Decides.{nat_tests}
use Rattle.std.proofs.lemmas.Str.{is_utf8-from_IsUtf8}
use Rattle.flowfile_record.specs.Name.{is_name}
use Rattle.flowfile_record.proofs.name.keeps_the_rule.Goals as goal

picks : (front last utf8 : Bool) → front ≡ true → utf8 ≡ true → last ≡ ((front && last) && utf8)
picks front true utf8 f u = sym (and_from _ _ (and_from _ _ f refl) u)
picks front false utf8 f u = sym (and_left _ _ (and_right _ _ refl))

-- a text of which all but the last test is known
last-test : (t : List ℕ) → nat_lt 0 (length t) ≡ true → nat_le (length t) 255 ≡ true → bytes_eq t (codes ".") ≡ false → bytes_eq t (codes "..") ≡ false → list_any (λ b. b == 47) t ≡ false → is_utf8 t ≡ true → not (list_any (λ b. b == 0) t) ≡ is_name t
unfolding is_name
last-test t some most dot dots slash utf8 =
    let dotless = and_from _ _ (and_from _ _ some most) (not_from_false _ dot) in
    picks _ _ _ (and_from _ _ (and_from _ _ dotless (not_from_false _ dots)) (not_from_false _ slash)) utf8

pub returns-then-not-contains : goal.returns-then-not-contains
returns-then-not-contains c =
    let t = c.args.text.now in
    let some : 0 < length t = grind (arith, nat_tests) in
    let most : length t ≤ 255 = omega arith in
    let has : ℕ → List ℕ → Bool = λ byte bytes. list_any (λ b. b == byte) bytes in
    let same = c.as_bytes-bytes.ensures.value in
    let slash : has 47 t ≡ false = ap (has 47) (sym same) ∙ sym c.contains.ensures.value ∙ c.if-not-contains.true in
    let nul : c.contains-then-not-contains.result ≡ has 0 t = c.contains-then-not-contains.ensures.value ∙ ap (has 0) same in
    let dot = sym c.eq.ensures ∙ c.if-eq.false in
    let dots = sym c.eq-else-eq.ensures ∙ c.if-eq-2.false in
    ap not nul ∙ last-test t (lt-ltb _ _ some) (le-leb _ _ most) dot dots slash (is_utf8-from_IsUtf8 t c.utf8.text)
