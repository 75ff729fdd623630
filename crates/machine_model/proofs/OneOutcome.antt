-- Attributes that are set, and outcomes of one file.
use Rattle.std.proofs.Common.{◌≡◌, ℕ, ◌+◌, ◌<◌, ◌≤◌, Bool, true, false, List, [], ◌∷◌, length, refl, sym, ◌∙◌, arith}
use Rattle.std.specs.Prelude.{All, IfSome, Option, codes, sum_by, nat_lt, not, cond, ◌&&◌}
use Rattle.std.specs.declared.cmp.Ordering.TheVariants.{Less, Equal, Greater}
use Rattle.std.specs.Ordering.{nat_cmp}
use Rattle.std.specs.Cmp.Lexicographic.{slice_cmp, nat_list_cmp_total}
use Rattle.std.specs.FinMap.{empty, insert, entries, contains_key, entries-insert, len-entries, len-empty, slice_cmp-IsAntisymmetric, nat_cmp-IsAntisymmetric}
use Rattle.std.specs.FinMap.Entries.{by_order, put as put_entry}
use Rattle.std.specs.List.{list_all}
use Rattle.std.specs.Str.{IsUtf8}
use Rattle.std.proofs.lemmas.Bool.{and_parts, ltb-true}
use Rattle.std.proofs.lemmas.List.Elements.{All-nil, All-cons}
use Rattle.std.proofs.lemmas.List.Sums.{sum_by-cons}
use Rattle.std.proofs.lemmas.Str.{IsUtf8-from_ascii}
use Rattle.std.proofs.lemmas.Str.Ascii.{IsAscii-from_all}
use Rattle.flowfile_record.proofs.Entries.{All-put}
use Rattle.flowfile_record.specs.Attributes.{AttributeMap, IsPair, IsWithinLimits, pair_size, encoded_size}
use Rattle.flowfile_record.specs.Outcome.{is_made, filename_to_come, NamesEachOnce, IsWorked, IsOutcome, AreInTurn}
use Rattle.flowfile_record.specs.declared.TheConstants.{CONTENT_MAX}
use Rattle.flowfile_record.specs.declared.limits.TheConstants.{FILENAME_SIZE}
use Rattle.flowfile_record.specs.declared.worked.Origin.{Origin}
use Rattle.flowfile_record.specs.declared.worked.Sent.{Sent}
use Rattle.flowfile_record.specs.declared.worked.Worked.{Worked}
use Rattle.machine_model.specs.Making.{made_file, passed_on}

-- ---- attributes of which one is set

put-size : (k v : List ℕ) (es : List (List ℕ × List ℕ)) → sum_by pair_size (put_entry (slice_cmp nat_cmp) k v es) ≤ sum_by pair_size es + pair_size (k, v)
put-size k v [] = omega (arith, sum_by-cons pair_size (k, v) [])
put-size k v (e ∷ es) =
    let whole = sum_by-cons pair_size e es in
    elim (slice_cmp nat_cmp k e.0) as (λ o. sum_by pair_size (by_order o ((k, v) ∷ e ∷ es) ((e.0, v) ∷ es) (e ∷ put_entry (slice_cmp nat_cmp) k v es)) ≤ sum_by pair_size (e ∷ es) + pair_size (k, v)) [
      | Less ↦ omega (arith, sum_by-cons pair_size (k, v) (e ∷ es))
      | Equal ↦ omega (arith, whole, sum_by-cons pair_size (e.0, v) es)
      | Greater ↦ omega (arith, whole, sum_by-cons pair_size e (put_entry (slice_cmp nat_cmp) k v es), put-size k v es)
    ]

pub insert-size : (attributes : AttributeMap) (k v : List ℕ) → encoded_size (insert attributes k v) ≤ encoded_size attributes + pair_size (k, v)
unfolding encoded_size
insert-size attributes k v = rw (entries-insert nat_list_cmp_total attributes k v) (omega (arith, put-size k v (entries attributes)))

pub insert-pairs : (attributes : AttributeMap) (k v : List ℕ) → IsPair (k, v) → All IsPair (entries attributes) → All IsPair (entries (insert attributes k v))
insert-pairs attributes k v pair all =
    rw (entries-insert nat_list_cmp_total attributes k v)
    (All-put nat_list_cmp_total (slice_cmp-IsAntisymmetric nat_cmp-IsAntisymmetric) IsPair k v (entries attributes) pair all)

no-entries : entries (empty {X = List ℕ} {R = slice_cmp nat_cmp}) ≡ []
no-entries = none_of_none (entries empty) (sym (len-entries empty) ∙ len-empty (slice_cmp nat_cmp) (List ℕ))
  where
    none_of_none : {X : Type 0} (xs : List X) → length xs ≡ 0 → xs ≡ []
    none_of_none [] h = refl
    none_of_none (x ∷ xs) h = absurd (omega arith)

pub no-size : encoded_size empty ≡ 2
unfolding encoded_size
no-size = rw no-entries refl

no-pairs : All IsPair (entries (empty {X = List ℕ} {R = slice_cmp nat_cmp}))
no-pairs = rw no-entries (All-nil IsPair)

-- attributes with two pairs that are set one behind the other
pub two_sized : (k v l w : List ℕ) (most : ℕ) → 2 + pair_size (k, v) + pair_size (l, w) ≤ most → encoded_size (insert (insert empty k v) l w) ≤ most
two_sized k v l w most h = omega (arith, no-size, insert-size empty k v, insert-size (insert empty k v) l w)

pub two_pairs : (k v l w : List ℕ) → IsPair (k, v) → IsPair (l, w) → All IsPair (entries (insert (insert (empty {R = slice_cmp nat_cmp}) k v) l w))
two_pairs k v l w one other = insert-pairs (insert empty k v) l w other (insert-pairs empty k v one no-pairs)

pub below_128 : (bytes : List ℕ) → list_all (λ byte. nat_lt byte 128) bytes ≡ true → All (λ byte. byte < 128) bytes
below_128 [] h = All-nil (λ byte. byte < 128)
below_128 (byte ∷ bytes) h =
    let parts = and_parts (nat_lt byte 128) (list_all (λ b. nat_lt b 128) bytes) h in
    All-cons (λ byte. byte < 128) byte bytes (ltb-true byte 128 parts.0) (below_128 bytes parts.1)

pub literal : (bytes : List ℕ) → list_all (λ byte. nat_lt byte 128) bytes ≡ true → IsUtf8 bytes
literal bytes h = IsUtf8-from_ascii bytes (IsAscii-from_all bytes (below_128 bytes h))

pub path_pair : IsPair (codes "path", codes "./")
path_pair = record { key = refl; key_text = literal (codes "path") refl; value_text = literal (codes "./") refl }

-- ---- outcomes of one file

pub to-come-most : (origin : Origin) (attributes : AttributeMap) → filename_to_come origin attributes ≤ 50
to-come-most origin attributes =
    elim (is_made origin && not (contains_key attributes (codes "filename"))) as (λ b. cond b FILENAME_SIZE 0 ≤ 50) [ true ↦ omega arith | false ↦ omega arith ]

-- a file that is made of bytes within a content, with few attributes
pub made-worked : (relationships : ℕ) (sizes : List ℕ) (origin : Origin) (attributes : AttributeMap) (bytes : List ℕ) (written : Bool) → NamesEachOnce origin → 0 < relationships → length bytes ≤ CONTENT_MAX
    → All IsPair (entries attributes) → encoded_size attributes ≤ 1000 → IsWorked relationships sizes (made_file origin attributes bytes written 0)
made-worked relationships sizes origin attributes bytes written names some short pairs small = record {
  names = names;
  body = short;
  ends = some;
  routed = tt;
  attributes = record { pairs = pairs; size = omega arith };
  named = omega (arith, to-come-most origin attributes);
}

pub passed-worked : (relationships relationship size : ℕ) (attributes : AttributeMap) (penalised : Bool) → relationship < relationships → IsWithinLimits attributes
    → IsWorked relationships (size ∷ []) (passed_on 0 attributes penalised relationship)
passed-worked relationships relationship size attributes penalised there within = record {
  names = tt;
  body = omega arith;
  ends = there;
  routed = tt;
  attributes = within;
  named = omega (arith, within.size);
}

pub one-outcome : (relationships : ℕ) (sizes : List ℕ) (file : Worked) (sent : Option Sent) → length sizes ≤ 1 → IsWorked relationships sizes file → AreInTurn 0 (length sizes) (file ∷ [])
    → IfSome sent (λ sent. sent.place < 1) → IsOutcome relationships sizes (record { files = file ∷ []; sent = sent })
one-outcome relationships sizes file sent few worked turn there = record {
  taken = omega arith;
  count = omega arith;
  in_turn = turn;
  each = All-cons (IsWorked relationships sizes) file [] worked (All-nil (IsWorked relationships sizes));
  attributes = omega (arith, worked.attributes.size, sum_by-cons (λ (file : Worked). encoded_size file.attributes) file []);
  sent = there;
}
