-- What a rule for fragments picks: files of those it picks from, each once, as many as it may.
use Rattle.std.proofs.Common.{◌≡◌, inl, inr, ℕ, zero, suc, ◌+◌, ◌≤◌, Bool, true, false, cond, ◌&&◌, List, [], ◌∷◌, length, refl, sym, ap, subst, ◌∙◌, arith}
use Rattle.std.specs.Prelude.{◌==◌, nat_le, Option, Some, None, IfSome, find, codes, ℤ, pos, negsuc, Result, Ok, Err}
use Rattle.std.specs.FinMap.{get}
use Rattle.std.proofs.lemmas.Bool.{cases_eq, cases_lt, ne_eqb, eqb-true, and_parts, leb-true, true≢false}
use Rattle.expr_lang.specs.declared.error.EvalError.{EvalError}
use Rattle.expr_lang.specs.Value.{text, as_number}
use Rattle.flowfile_record.specs.Attributes.{AttributeMap}
use Rattle.machine_model.specs.Taking.{Fragment, positive, number_under, fragment_of, is_fragment_at, fragment_at, joined_option, fragments_from, whole_of, first_some, first_whole}
use Rattle.machine_model.specs.View.{FileView}
use Rattle.machine_model.proofs.Among.{Among}
use Rattle.machine_model.proofs.Options.{if_and_then, if_when, if_weaker}
use Rattle.machine_model.proofs.Tally.{many, at_most, find-passes}

abbrev number_of : FileView → ℕ
number_of file = file.number

-- files of a list, each of another number, from one on to so many
pub record ArePicked (most : ℕ) (files picked : List FileView) : Type 0 where
  pub there : (view : FileView) → Among view picked → Among view files
  pub once : (n : ℕ) → many number_of n picked ≤ 1
  pub some : 1 ≤ length picked
  pub enough : length picked ≤ most

-- two files of one number are one
abbrev pub AreApart : List FileView → Type 0
AreApart files = (one other : FileView) → Among one files → Among other files → one.number ≡ other.number → one ≡ other

-- ---- what a fragment is

positive-some : (r : Result ℤ EvalError) → IfSome (positive r) (λ n. 1 ≤ n)
positive-some (Ok (pos (suc n))) = omega arith
positive-some (Ok (pos zero)) = tt
positive-some (Ok (negsuc n)) = tt
positive-some (Err e) = tt

number-some : (attributes : AttributeMap) (key : List ℕ) → IfSome (number_under attributes key) (λ n. 1 ≤ n)
number-some attributes key = if_and_then (λ value. positive (as_number (text value))) (get attributes key) (λ n. 1 ≤ n) (λ value is. positive-some (as_number (text value)))

abbrev Fits : Fragment → Type 0
Fits fragment = (1 ≤ fragment.count) × (fragment.count ≤ 1000)

at_least : (o : Option ℕ) (n : ℕ) → o ≡ Some n → IfSome o (λ n. 1 ≤ n) → 1 ≤ n
at_least None n is h = absurd (none_some is)
  where
    none_some : ◌≡◌ {A = Option ℕ} None (Some n) → ⊥
    none_some e = cc
at_least (Some m) n is h = let same : m ≡ n = cc in omega arith

fragment-fits : (attributes : AttributeMap) → IfSome (fragment_of attributes) Fits
fragment-fits attributes =
    if_and_then _ (get attributes (codes "fragment.identifier")) Fits (λ identifier identifier_is.
    if_and_then _ (number_under attributes (codes "fragment.index")) Fits (λ index index_is.
    if_and_then _ (number_under attributes (codes "fragment.count")) Fits (λ count count_is.
    let fragment : Fragment = record { identifier = identifier; index = index; count = count } in
    if_when (nat_le index count && nat_le count 1000) fragment Fits (λ passes.
    let parts = and_parts (nat_le index count) (nat_le count 1000) passes in
    (at_least (number_under attributes (codes "fragment.count")) count count_is (number-some attributes (codes "fragment.count")), leb-true count 1000 parts.1)))))

-- ---- all fragments of a whole

find-among : {X : Type 0} (p : X → Bool) (xs : List X) (x : X) → find p xs ≡ Some x → Among x xs
find-among p [] x is = cc
find-among p (y ∷ xs) x is =
    elim (p y) as (λ b. cond b (Some y) (find p xs) ≡ Some x → Among x (y ∷ xs)) [
      | true ↦ λ found. let same : y ≡ x = cc found in inl same
      | false ↦ λ found. inr (find-among p xs x found)
    ] is

-- a file that is a fragment of the index
abbrev IsAt : ℕ → FileView → Type 0
IsAt index file = IfSome (fragment_of file.attributes) (λ other. other.index ≡ index)

is-at : (fragment : Fragment) (index : ℕ) (found : Option Fragment) → is_fragment_at fragment index found ≡ true → IfSome found (λ other. other.index ≡ index)
is-at fragment index None h = tt
is-at fragment index (Some other) h = eqb-true other.index index (and_parts _ (other.index == index) h).1

is-one : (fragment : Fragment) (index : ℕ) (found : Option Fragment) (n : ℕ) → is_fragment_at fragment index found ≡ true → IfSome found (λ other. other.index ≡ n) → n ≡ index
is-one fragment index None n h k = absurd (true≢false (sym h))
is-one fragment index (Some other) n h k = sym k ∙ is-at fragment index (Some other) h

-- a picked file of an index that isn't lower
record HasIndex (fragment : Fragment) (files : List FileView) (low : ℕ) (view : FileView) : Type 0 where
  there : Among view files
  index : ℕ
  high : low ≤ index
  is : is_fragment_at fragment index (fragment_of view.attributes) ≡ true

record AreFragments (fragment : Fragment) (files : List FileView) (low left : ℕ) (picked : List FileView) : Type 0 where
  each : (view : FileView) → Among view picked → HasIndex fragment files low view
  once : (n : ℕ) → many number_of n picked ≤ 1
  count : length picked ≡ left

some-of : {X : Type 0} (key : X → ℕ) (n : ℕ) (xs : List X) → 1 ≤ many key n xs → (x : X) × (Among x xs × (key x ≡ n))
some-of key n [] h = absurd (omega arith)
some-of key n (x ∷ xs) h =
    elim (cases_eq (key x) n) [
      | inl e ↦ (x, (inl refl, e))
      | inr ne ↦ let fails : (key x == n) ≡ false = ne_eqb (key x) n ne in
          let rest = some-of key n xs (omega (arith, rw fails at h)) in (rest.0, (inr rest.1.0, rest.1.1))
    ]

one-more : (fragment : Fragment) (files : List FileView) (index left : ℕ) (file : FileView) (picked : List FileView) → AreApart files
    → fragment_at fragment index files ≡ Some file → AreFragments fragment files (index + 1) left picked → AreFragments fragment files index (suc left) (file ∷ picked)
one-more fragment files index left file picked apart is rest =
    let passes = find-passes (λ (view : FileView). is_fragment_at fragment index (fragment_of view.attributes)) files file is in
    let here = find-among (λ (view : FileView). is_fragment_at fragment index (fragment_of view.attributes)) files file is in
    record {
      each = λ view h. each-is view h here passes;
      once = λ n. once-is n here passes;
      count = ap suc rest.count;
    }
  where
    each-is : (view : FileView) → Among view (file ∷ picked) → Among file files → is_fragment_at fragment index (fragment_of file.attributes) ≡ true → HasIndex fragment files index view
    each-is view (inl same) here passes = subst (HasIndex fragment files index) same (record { there = here; index = index; high = omega arith; is = passes })
    each-is view (inr h) here passes = let has = rest.each view h in record { there = has.there; index = has.index; high = omega (arith, has.high); is = has.is }

    once-is : (n : ℕ) → Among file files → is_fragment_at fragment index (fragment_of file.attributes) ≡ true → many number_of n (file ∷ picked) ≤ 1
    once-is n here passes =
        elim (cases_lt 0 (many number_of n picked)) [
          | inl lt ↦
              let other = some-of number_of n picked (omega arith) in
              let has = rest.each other.0 other.1.0 in
              elim (cases_eq file.number n) [
                | inl e ↦
                    let same : file ≡ other.0 = apart file other.0 here has.there (e ∙ sym other.1.1) in
                    let at : is_fragment_at fragment has.index (fragment_of file.attributes) ≡ true = ap (λ (v : FileView). is_fragment_at fragment has.index (fragment_of v.attributes)) same ∙ has.is in
                    let one : index ≡ has.index = is-one fragment has.index (fragment_of file.attributes) index at (is-at fragment index (fragment_of file.attributes) passes) in
                    absurd (omega (arith, has.high))
                | inr ne ↦ let fails : (file.number == n) ≡ false = ne_eqb file.number n ne in rw fails (omega (arith, rest.once n))
              ]
          | inr ge ↦ omega (arith, at_most (file.number == n) 1)
        ]

joined-fragments : (fragment : Fragment) (files : List FileView) (index left : ℕ) (found : Option FileView) (rest : Option (List FileView)) → AreApart files → fragment_at fragment index files ≡ found
    → IfSome rest (AreFragments fragment files (index + 1) left) → IfSome (joined_option found rest) (AreFragments fragment files index (suc left))
joined-fragments fragment files index left (Some file) (Some picked) apart is h = one-more fragment files index left file picked apart is h
joined-fragments fragment files index left (Some file) None apart is h = tt
joined-fragments fragment files index left None rest apart is h = tt

fragments-are : (fragment : Fragment) (files : List FileView) (index left : ℕ) → AreApart files → IfSome (fragments_from fragment index left files) (AreFragments fragment files index left)
fragments-are fragment files index zero apart = record { each = λ view h. absurd h; once = λ n. omega arith; count = refl }
fragments-are fragment files index (suc left) apart =
    joined-fragments fragment files index left (fragment_at fragment index files) (fragments_from fragment (index + 1) left files) apart refl (fragments-are fragment files (index + 1) left apart)

whole-picked : (files : List FileView) (file : FileView) (found : Option Fragment) → AreApart files → Among file files → IfSome found Fits → IfSome (whole_of files file found) (ArePicked 1000 files)
whole-picked files file None apart here fits = record {
  there = λ view h. elim h [ inl is ↦ subst (λ v. Among v files) is here | inr none ↦ absurd none ];
  once = λ n. omega (arith, at_most (file.number == n) 1);
  some = omega arith;
  enough = omega arith;
}
whole-picked files file (Some fragment) apart here fits =
    if_weaker (fragments_from fragment 1 fragment.count files) (AreFragments fragment files 1 fragment.count) (ArePicked 1000 files)
    (λ picked are. record {
      there = λ view h. (are.each view h).there;
      once = are.once;
      some = omega (arith, are.count, fits.0);
      enough = omega (arith, are.count, fits.1);
    }) (fragments-are fragment files 1 fragment.count apart)

first-is : (P : List FileView → Type 0) (found other : Option (List FileView)) → IfSome found P → IfSome other P → IfSome (first_some found other) P
first-is P (Some picked) other h k = h
first-is P None other h k = k

pub first-whole-picked : (files rest : List FileView) → AreApart files → ((view : FileView) → Among view rest → Among view files) → IfSome (first_whole files rest) (ArePicked 1000 files)
first-whole-picked files [] apart there = tt
first-whole-picked files (file ∷ rest) apart there =
    first-is (ArePicked 1000 files) (whole_of files file (fragment_of file.attributes)) (first_whole files rest)
    (whole-picked files file (fragment_of file.attributes) apart (there file (inl refl)) (fragment-fits file.attributes))
    (first-whole-picked files rest apart (λ view h. there view (inr h)))
