-- That no whole is there where no number has enough files, and no bin where there are too few.
use Rattle.std.proofs.Common.{◌≡◌, inl, inr, ℕ, zero, suc, ◌+◌, ◌-◌, ◌*◌, ◌/◌, ◌%◌, ◌<◌, ◌≤◌, ◌==◌, ◌&&◌, ◌||◌, nat_le, nat_lt, min, Bool, true, false, cond, List, [], ◌∷◌, length, map, Option, Some, None, refl, sym, ap, ◌∙◌, arith}
use Rattle.std.specs.Prelude.{IsSome, bytes_eq, count_by, filter, find, sum_by}
use Rattle.std.specs.List.{reduce}
use Rattle.std.specs.Hash.DefaultHasher.{finish, initial, write}
use Rattle.std.specs.Option.{option_map_or}
use Rattle.std.proofs.Math.Nat.{mod-le}
use Rattle.std.proofs.lemmas.Bool.{true≢false, cases_lt, eqb-true, eq-eqb, le-leb, leb-false, lt-leb, le-ltb, and_parts}
use Rattle.std.proofs.lemmas.List.Sums.{sum_by-cons}
use Rattle.std.proofs.lemmas.Nat.{mod-mul-add}
use Rattle.std.proofs.lemmas.Slice.Eq.{bytes_eq-Decides}
use Rattle.flowfile_record.specs.NumberedItems.{item_of}
use Rattle.flowfile_record.specs.declared.TheConstants.{CONTENT_MAX}
use Rattle.prioritizer.specs.declared.prioritizer.Prioritizer.{Prioritizer}
use Rattle.machine_model.specs.declared.kind.TakeRule.TheVariants.{Bin, Defragment}
use Rattle.machine_model.specs.Order.{in_order, is_eligible}
use Rattle.machine_model.specs.Taking.{Fragment, fragment_of, is_fragment_at, fragment_at, joined_option, fragments_from, whole_of, first_some, first_whole, filling, next_would_pass, bin_of}
use Rattle.machine_model.specs.View.{FileView}
use Rattle.machine_model.proofs.Numbered.{order-weighs}
use Rattle.machine_model.proofs.Tally.{tally, tally-filter, tally-le, tally-map, tally-plus}
use Rattle.flow_queue.specs.declared.held.Held.{Held}
use Rattle.flow_queue.specs.declared.queue.counts.Counts.{Counts}
use Rattle.flow_queue.specs.declared.queue.counts.TheConstants.{ALONE, NEEDED_LIMIT}
use Rattle.flow_queue.specs.declared.queue.counts.WholeCount.{WholeCount}
use Rattle.flow_queue.specs.Counts.{AreCountsOf, count_number, files_needed, has_number, has_penalty, number_of_whole, whole_number}
use Rattle.flow_queue.specs.Queue.{QueueState, held_bytes, held_view, next_penalty_end, picked, views_of}
use Rattle.flow_queue.proofs.Counting.{bit, enough-parts, found-number}

tally-of : {X : Type 0} (w : X → ℕ) (xs : List X) → sum_by w xs ≡ tally w xs
tally-of w [] = refl
tally-of w (x ∷ xs) = sum_by-cons w x xs ∙ ap (λ n. w x + n) (tally-of w xs)

-- of fewer files in their order there is no more
fewer : (w : FileView → ℕ) (order : List Prioritizer) (p : FileView → Bool) (files : List Held) → tally w (in_order order (filter p (views_of files))) ≤ sum_by (λ held. w (held_view held)) files
fewer w order p files =
    omega (arith, order-weighs w order (filter p (views_of files)), tally-filter w p (views_of files), tally-map w held_view files, tally-of (λ (held : Held). w (held_view held)) files)

-- ---- numbers of wholes

abbrev is_of : ℕ → FileView → ℕ
is_of number view = bit (whole_number view.attributes == number)

needed-within : (fragment : Fragment) → files_needed (number_of_whole fragment) ≤ fragment.count
unfolding number_of_whole
needed-within fragment =
    let rest = fragment.count % NEEDED_LIMIT in
    let small : rest < NEEDED_LIMIT = omega arith in
    let is = mod-mul-add (finish (write initial fragment.identifier) / NEEDED_LIMIT) NEEDED_LIMIT rest small in
    omega (arith, is, mod-le fragment.count NEEDED_LIMIT)

same-number : (one other : Fragment) → one.identifier ≡ other.identifier → one.count ≡ other.count → number_of_whole one ≡ number_of_whole other
unfolding number_of_whole
same-number one other identifier count = λ i. finish (write initial (identifier i)) / NEEDED_LIMIT * NEEDED_LIMIT + count i % NEEDED_LIMIT

number-of : (view : FileView) (o : Option Fragment) → fragment_of view.attributes ≡ o → whole_number view.attributes ≡ option_map_or number_of_whole o ALONE
unfolding whole_number
number-of view o is = ap (λ f. option_map_or number_of_whole f ALONE) is

-- ---- as many parts of a whole as it has are that many files

-- from an index on
abbrev is_part_from : Fragment → ℕ → Option Fragment → Bool
is_part_from fragment index None = false
is_part_from fragment index (Some other) = bytes_eq other.identifier fragment.identifier && (other.count == fragment.count) && nat_le index other.index

abbrev part_from : Fragment → ℕ → FileView → ℕ
part_from fragment index view = bit (is_part_from fragment index (fragment_of view.attributes))

abbrev part_at : Fragment → ℕ → FileView → ℕ
part_at fragment index view = bit (is_fragment_at fragment index (fragment_of view.attributes))

parted : (a b c d e : Bool) → (c ≡ true → e ≡ false → ⊥) → (c ≡ true → d ≡ true → ⊥) → (d ≡ true → e ≡ false → ⊥) → bit (a && b && c) + bit (a && b && d) ≤ bit (a && b && e)
parted false b c d e h j k = omega arith
parted true false c d e h j k = omega arith
parted true true true true e h j k = absurd (j refl refl)
parted true true true false true h j k = omega arith
parted true true true false false h j k = absurd (h refl refl)
parted true true false true true h j k = omega arith
parted true true false true false h j k = absurd (k refl refl)
parted true true false false e h j k = omega arith

one_index : (fragment : Fragment) (index : ℕ) (o : Option Fragment) → bit (is_fragment_at fragment index o) + bit (is_part_from fragment (index + 1) o) ≤ bit (is_part_from fragment index o)
one_index fragment index None = omega arith
one_index fragment index (Some other) =
    parted (bytes_eq other.identifier fragment.identifier) (other.count == fragment.count) (other.index == index) (nat_le (index + 1) other.index) (nat_le index other.index)
    (λ is fails. let same = eqb-true other.index index is in let lt = leb-false index other.index fails in omega (arith, same, lt))
    (λ is later. let same = eqb-true other.index index is in true≢false (sym later ∙ lt-leb (index + 1) other.index (omega (arith, same))))
    (λ later fails. let lt = leb-false index other.index fails in true≢false (sym later ∙ lt-leb (index + 1) other.index (omega (arith, lt))))

found-weighs : (p : FileView → Bool) (files : List FileView) → IsSome (find p files) → 1 ≤ tally (λ view. bit (p view)) files
found-weighs p [] some = absurd (true≢false (sym some))
found-weighs p (view ∷ files) some =
    elim (p view) as (λ b. IsSome (cond b (Some view) (find p files)) → 1 ≤ bit b + tally (λ v. bit (p v)) files) [
      | true ↦ λ _. omega arith
      | false ↦ λ later. omega (arith, found-weighs p files later)
    ] some

joined-parts : (file : Option FileView) (files : Option (List FileView)) → IsSome (joined_option file files) → IsSome file × IsSome files
joined-parts (Some file) (Some files) some = (refl, refl)
joined-parts (Some file) None some = absurd (true≢false (sym some))
joined-parts None files some = absurd (true≢false (sym some))

parts-weigh : (fragment : Fragment) (index left : ℕ) (files : List FileView) → IsSome (fragments_from fragment index left files) → left ≤ tally (part_from fragment index) files
parts-weigh fragment index zero files some = omega arith
parts-weigh fragment index (suc left) files some =
    let parts = joined-parts (fragment_at fragment index files) (fragments_from fragment (index + 1) left files) some in
    let here = found-weighs (λ (file : FileView). is_fragment_at fragment index (fragment_of file.attributes)) files parts.0 in
    let later = parts-weigh fragment (index + 1) left files parts.1 in
    let each = tally-le (λ view. part_at fragment index view + part_from fragment (index + 1) view) (part_from fragment index) (λ view. one_index fragment index (fragment_of view.attributes)) files in
    omega (arith, here, later, each, tally-plus (part_at fragment index) (part_from fragment (index + 1)) files)

part-counts : (fragment : Fragment) (index : ℕ) (view : FileView) → part_from fragment index view ≤ is_of (number_of_whole fragment) view
part-counts fragment index view = by_fragment (fragment_of view.attributes) refl
  where
    by_test : (other : Fragment) (b : Bool) → is_part_from fragment index (Some other) ≡ b → fragment_of view.attributes ≡ Some other → bit b ≤ is_of (number_of_whole fragment) view
    by_test other false is found = omega arith
    by_test other true is found =
        let first = and_parts (bytes_eq other.identifier fragment.identifier && (other.count == fragment.count)) (nat_le index other.index) is in
        let second = and_parts (bytes_eq other.identifier fragment.identifier) (other.count == fragment.count) first.0 in
        let same = number-of view (Some other) found ∙ same-number other fragment ((bytes_eq-Decides other.identifier fragment.identifier).0 second.0) (eqb-true other.count fragment.count second.1) in
        omega (arith, ap bit (eq-eqb (whole_number view.attributes) (number_of_whole fragment) same))

    by_fragment : (o : Option Fragment) → fragment_of view.attributes ≡ o → bit (is_part_from fragment index o) ≤ is_of (number_of_whole fragment) view
    by_fragment None is = omega arith
    by_fragment (Some other) is = by_test other (is_part_from fragment index (Some other)) refl is

-- ---- none is whole

-- fewer files have a number than it needs, if any has it
abbrev AreShort : List FileView → Type 0
AreShort files = (number : ℕ) → 0 < tally (is_of number) files → tally (is_of number) files < files_needed number

none-from : (files : Option (List FileView)) → (IsSome files → ⊥) → files ≡ None
none-from None none = refl
none-from (Some files) none = absurd (none refl)

not-whole : (files : List FileView) (view : FileView) (o : Option Fragment) → AreShort files → 0 < tally (is_of (whole_number view.attributes)) files → fragment_of view.attributes ≡ o → whole_of files view o ≡ None
not-whole files view None short there is =
    let number = number-of view None is in
    let few = short (whole_number view.attributes) there in
    let one = ap files_needed number in
    absurd (omega (arith, there, few, one))
not-whole files view (Some fragment) short there is =
    let number = number-of view (Some fragment) is in
    let few = short (whole_number view.attributes) there in
    let same = ap files_needed number in
    let weighs = ap (λ n. tally (is_of n) files) number in
    none-from (fragments_from fragment 1 fragment.count files) (λ some.
    omega (arith, few, same, weighs, needed-within fragment, parts-weigh fragment 1 fragment.count files some, tally-le (part_from fragment 1) (is_of (number_of_whole fragment)) (part-counts fragment 1) files))

none-first : (files rest : List FileView) → AreShort files → ((number : ℕ) → tally (is_of number) rest ≤ tally (is_of number) files) → first_whole files rest ≡ None
none-first files [] short within = refl
none-first files (view ∷ rest) short within =
    let number = whole_number view.attributes in
    let one : is_of number view ≡ 1 = ap bit (eq-eqb number number refl) in
    let there : 0 < tally (is_of number) files = omega (arith, within number, one) in
    let here = not-whole files view (fragment_of view.attributes) short there refl in
    ap (λ o. first_some o (first_whole files rest)) here
    ∙ none-first files rest short (λ n. omega (arith, within n))

module _ (counts : Counts) (files : List Held) (are : AreCountsOf counts files) where
  too-few : counts.enough ≡ 0 → (number : ℕ) → 0 < count_by (has_number number) files → count_by (has_number number) files < files_needed number
  too-few none number there = by_found (item_of count_number number counts.wholes.items) refl
    where
      by_found : (o : Option WholeCount) → item_of count_number number counts.wholes.items ≡ o → count_by (has_number number) files < files_needed number
      by_found None is = absurd (omega (arith, there, are.wholes number, ap (λ o. option_map_or (λ (count : WholeCount). count.files) o 0) is))
      by_found (Some count) is =
          let parts = enough-parts counts number count are.tally is in
          let under = are.wholes number in
          let files_are = ap (λ o. option_map_or (λ (count : WholeCount). count.files) o 0) is in
          let same = ap files_needed (found-number count_number number count counts.wholes.items is) in
          elim (cases_lt count.files (files_needed count.number)) [
            | inl lt ↦ omega (arith, lt, under, files_are, same)
            | inr ge ↦ absurd (omega (arith, none, parts, ap bit (le-leb (files_needed count.number) count.files ge)))
          ]

  pub no-whole : (order : List Prioritizer) (p : FileView → Bool) → counts.enough ≡ 0 → first_whole (in_order order (filter p (views_of files))) (in_order order (filter p (views_of files))) ≡ None
  no-whole order p none =
      let own = in_order order (filter p (views_of files)) in
      none-first own own
      (λ number there.
      let within = fewer (is_of number) order p files in
      let few = too-few none number (omega (arith, there, within)) in
      omega (arith, within, few)) (λ number. omega arith)

-- ---- no penalty ends

ends-none : (moment : ℕ) (files : List Held) → count_by has_penalty files ≡ 0 → filter (nat_lt moment) (map (λ (view : FileView). view.penalty_end) (views_of files)) ≡ []
ends-none moment [] none = refl
ends-none moment (held ∷ files) none =
    let all = sum_by-cons (λ (h : Held). bit (has_penalty h)) held files in
    let rest = ends-none moment files (omega (arith, none, all)) in
    elim (cases_lt 0 held.file.penalty_end) [
      | inl lt ↦ absurd (omega (arith, none, all, ap bit (le-leb 1 held.file.penalty_end lt)))
      | inr ge ↦
          let no : nat_lt moment held.file.penalty_end ≡ false = le-ltb moment held.file.penalty_end (omega (arith, ge)) in
          ap (λ b. cond b (held.file.penalty_end ∷ filter (nat_lt moment) (map (λ (view : FileView). view.penalty_end) (views_of files))) (filter (nat_lt moment) (map (λ (view : FileView). view.penalty_end) (views_of files)))) no ∙ rest
    ]

pub no-end : (counts : Counts) (files : List Held) (moment : ℕ) → AreCountsOf counts files → counts.penalised ≡ 0 → next_penalty_end moment (views_of files) ≡ None
no-end counts files moment are none = ap (reduce min) (ends-none moment files (omega (arith, none, are.penalised)))

-- ---- too few files for a bin

none-passes : (most room : ℕ) (files : List FileView) → tally (λ (view : FileView). view.size) files ≤ room → next_would_pass (length (filling most room files)) room files ≡ false
none-passes most room [] fits = refl
none-passes zero room (view ∷ files) fits = le-ltb room view.size (omega (arith, fits))
none-passes (suc most) room (view ∷ files) fits =
    ap (λ b. next_would_pass (length (cond b (view ∷ filling most (room - view.size) files) [])) room (view ∷ files)) (le-leb view.size room (omega (arith, fits)))
    ∙ none-passes most (room - view.size) files (omega (arith, fits))

filling-short : (most room : ℕ) (files : List FileView) → length (filling most room files) ≤ length files
filling-short most room [] = omega arith
filling-short zero room (view ∷ files) = omega arith
filling-short (suc most) room (view ∷ files) =
    let rest = filling-short most (room - view.size) files in
    elim (nat_le view.size room) as (λ b. length (cond b (view ∷ filling most (room - view.size) files) []) ≤ suc (length files)) [
      | true ↦ omega (arith, rest)
      | false ↦ omega arith
    ]

by_both : (a b c : Bool) (bin : List FileView) → b ≡ false → c ≡ false → ◌≡◌ {A = Option (List FileView)} (cond (a && (b || c)) (Some bin) None) None
by_both true b c bin short fits = λ i. cond (short i || fits i) (Some bin) None
by_both false b c bin short fits = refl

short-bin : (min max : ℕ) (files : List FileView) → length files < min → tally (λ (view : FileView). view.size) files ≤ CONTENT_MAX → bin_of min max files ≡ None
short-bin min max files few fits =
    let bin = filling max CONTENT_MAX files in
    by_both (nat_lt 0 (length bin)) (nat_le min (length bin)) (next_would_pass (length bin) CONTENT_MAX files) bin
    (lt-leb min (length bin) (omega (arith, few, filling-short max CONTENT_MAX files))) (none-passes max CONTENT_MAX files fits)

ones : (files : List FileView) → tally (λ (view : FileView). 1) files ≡ length files
ones [] = refl
ones (view ∷ files) = omega (arith, ones files)

ones-held : (files : List Held) → sum_by (λ (held : Held). 1) files ≡ length files
ones-held [] = refl
ones-held (held ∷ files) = omega (arith, sum_by-cons (λ (h : Held). 1) held files, ones-held files)

pub no-bin : (lower upper : ℕ) (order : List Prioritizer) (p : FileView → Bool) (files : List Held) → length files < lower → sum_by held_bytes files ≤ CONTENT_MAX
    → bin_of lower upper (in_order order (filter p (views_of files))) ≡ None
no-bin lower upper order p files few fits =
    let own = in_order order (filter p (views_of files)) in
    short-bin lower upper own
    (omega (arith, few, ones own, ones-held files, fewer (λ (view : FileView). 1) order p files))
    (omega (arith, fits, fewer (λ (view : FileView). view.size) order p files))

-- ---- what a rule picks then

module _ (queue : QueueState) (moment : ℕ) where
  pub picks-none-whole : (counts : Counts) → AreCountsOf counts queue.files → counts.enough ≡ 0 → picked Defragment moment queue ≡ None
  picks-none-whole counts are none = no-whole counts queue.files are queue.order (is_eligible queue.limits moment) none

  pub picks-no-bin : (lower upper : ℕ) → length queue.files < lower → sum_by held_bytes queue.files ≤ CONTENT_MAX → picked (Bin lower upper) moment queue ≡ None
  picks-no-bin lower upper few fits = no-bin lower upper queue.order (is_eligible queue.limits moment) queue.files few fits
