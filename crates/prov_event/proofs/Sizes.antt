-- How many bytes the encoding of an event has.
use Rattle.std.proofs.Common.{◌≡◌, ℕ, ◌+◌, ◌*◌, ◌<◌, ◌≤◌, List, [], ◌∷◌, ◌++◌, length, take, get_or, length-append, refl, ap, ◌∙◌, arith}
use Rattle.std.specs.Prelude.{map}
use Rattle.std.specs.List.{flat_map}
use Rattle.std.specs.Int.{w16, w32, w64, to_be_bytes}
use Rattle.std.proofs.Math.Nat.{suc-mul}
use Rattle.std.proofs.lemmas.List.{length-map}
use Rattle.std.proofs.lemmas.List.Concat.{flat_map-cons}
use Rattle.std.proofs.lemmas.List.Folds.{length-flat_map-take}
use Rattle.flowfile_record.proofs.Sizes.{numbers_size}
use Rattle.flowfile_record.specs.Encoding.{byte, text, long, numbers}
use Rattle.flowfile_record.specs.Events.{code_of}
use Rattle.flowfile_record.specs.Kin.{pairs_of}
use Rattle.flowfile_record.specs.declared.event.Event.{Event}
use Rattle.prov_event.specs.Encoding.{event, IsEvent}

len3 : (a b c : List ℕ) → length (a ++ b ++ c) ≡ length a + length b + length c
len3 a b c = length-append (a ++ b) c ∙ ap (λ n. n + length c) (length-append a b)

len5 : (a b c d e : List ℕ) → length (a ++ b ++ c ++ d ++ e) ≡ length a + length b + length c + length d + length e
len5 a b c d e = omega (arith, len3 (a ++ b ++ c) d e, len3 a b c)

pub parts_of_event : (e : Event) → length (event e) ≡ 39 + length e.component + length (numbers e.parents) + length (numbers e.children) + length e.detail + length e.digest
unfolding event
parts_of_event e =
    let front = to_be_bytes w64 e.number ++ byte (code_of e.kind) ++ to_be_bytes w64 e.moment ++ text e.component ++ to_be_bytes w64 e.file in
    let middle = front ++ numbers e.parents ++ numbers e.children in
    omega (
      arith,
      len5 (to_be_bytes w64 e.number) (byte (code_of e.kind)) (to_be_bytes w64 e.moment) (text e.component) (to_be_bytes w64 e.file),
      len3 front (numbers e.parents) (numbers e.children),
      length-append (middle ++ long e.detail ++ to_be_bytes w64 e.size) e.digest,
      len3 middle (long e.detail) (to_be_bytes w64 e.size),
      length-append (to_be_bytes w16 (length e.component)) e.component,
      length-append (to_be_bytes w32 (length e.detail)) e.detail,
    )

pub event_size : (e : Event) → IsEvent e → length (event e) ≡ 79 + length e.component + length e.detail + 8 * (length e.parents + length e.children)
event_size e is = omega (arith, parts_of_event e, numbers_size e.parents, numbers_size e.children, is.digest)

-- ---- kin

-- a child with each parent
abbrev with_each : List ℕ → ℕ → List (ℕ × ℕ)
with_each parents child = map (λ parent. (child, parent)) parents

with_each_size : (parents : List ℕ) (child : ℕ) → length (with_each parents child) ≡ length parents
with_each_size parents child = length-map parents (λ parent. (child, parent))

pub pairs_size : (parents children : List ℕ) → length (pairs_of parents children) ≡ length children * length parents
pairs_size parents [] = omega arith
pairs_size parents (child ∷ others) =
    omega (
      arith,
      ap length (flat_map-cons (with_each parents) child others),
      length-append (with_each parents child) (pairs_of parents others),
      with_each_size parents child,
      pairs_size parents others,
      suc-mul (length others) (length parents),
    )

-- the pairs of those before a child and the child's own are no more than all
pub one_child_more : (parents children : List ℕ) (i : ℕ) → i < length children → length (pairs_of parents (take i children)) + length parents ≤ length (pairs_of parents children)
one_child_more parents children i within = omega (arith, length-flat_map-take (with_each parents) children i 0 within, with_each_size parents (get_or children i 0))
