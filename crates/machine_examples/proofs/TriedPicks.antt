-- Which attributes make a file a fragment, and which fragments are picked.
use Rattle.std.proofs.Common.{◌≡◌, ℕ, List, refl, ap, ◌∙◌}
use Rattle.std.specs.Prelude.{Option, Some, None, codes, option_and_then}
use Rattle.std.specs.FinMap.{get, insert, empty, get-insert, get-empty}
use Rattle.std.specs.Ordering.{nat_cmp}
use Rattle.std.specs.Cmp.Lexicographic.{slice_cmp, nat_list_cmp_total}
use Rattle.expr_lang.specs.Value.{text, as_number}
use Rattle.flowfile_record.specs.Attributes.{AttributeMap}
use Rattle.machine_model.specs.Taking.{Fragment, within_count, positive, fragment_of}
use Rattle.machine_examples.specs.Picks.{NoCountIsNone, NoIdentifierIsNone, saying, TwoAreNoWhole, ThreeAreAWhole, LoneGoesBesideTwo, EarlierWholeGoes, EarlierLoneGoes}

-- what three attributes say
pub number_in : Option (List ℕ) → Option ℕ
number_in value = option_and_then (λ (value : List ℕ). positive (as_number (text value))) value

pub read : (identifier index count : Option (List ℕ)) → Option Fragment
unfolding number_in
read identifier index count =
    option_and_then (λ (identifier : List ℕ).
    option_and_then (λ (index : ℕ).
    option_and_then (λ (count : ℕ). within_count (record { identifier = identifier; index = index; count = count }))
    (number_in count)) (number_in index)) identifier

abbrev first : AttributeMap
first = insert empty (codes "fragment.identifier") (codes "w")

pub says : (index count : List ℕ) → fragment_of (saying index count) ≡ read (Some (codes "w")) (Some index) (Some count)
unfolding read number_in
says index count =
    ap (λ (o : Option (List ℕ)). read o (get (saying index count) (codes "fragment.index")) (get (saying index count) (codes "fragment.count"))) identifier-is
    ∙ ap (λ (o : Option (List ℕ)). read (Some (codes "w")) o (get (saying index count) (codes "fragment.count"))) index-is
    ∙ ap (λ (o : Option (List ℕ)). read (Some (codes "w")) (Some index) o) count-is
  where
    identifier-is : get (saying index count) (codes "fragment.identifier") ≡ Some (codes "w")
    identifier-is = get-insert nat_list_cmp_total (insert first (codes "fragment.index") index) (codes "fragment.count") count (codes "fragment.identifier")
        ∙ get-insert nat_list_cmp_total first (codes "fragment.index") index (codes "fragment.identifier")
        ∙ get-insert nat_list_cmp_total empty (codes "fragment.identifier") (codes "w") (codes "fragment.identifier")

    index-is : get (saying index count) (codes "fragment.index") ≡ Some index
    index-is = get-insert nat_list_cmp_total (insert first (codes "fragment.index") index) (codes "fragment.count") count (codes "fragment.index")
        ∙ get-insert nat_list_cmp_total first (codes "fragment.index") index (codes "fragment.index")

    count-is : get (saying index count) (codes "fragment.count") ≡ Some count
    count-is = get-insert nat_list_cmp_total (insert first (codes "fragment.index") index) (codes "fragment.count") count (codes "fragment.count")

pub third-part : fragment_of (saying (codes "3") (codes "3")) ≡ Some (record { identifier = codes "w"; index = 3; count = 3 })
unfolding read number_in
third-part = says (codes "3") (codes "3")

pub zero-part : fragment_of (saying (codes "0") (codes "3")) ≡ None
unfolding read number_in
zero-part = says (codes "0") (codes "3")

pub past-part : fragment_of (saying (codes "4") (codes "3")) ≡ None
unfolding read number_in
past-part = says (codes "4") (codes "3")

pub strange-part : fragment_of (saying (codes "x") (codes "3")) ≡ None
unfolding read number_in
strange-part = says (codes "x") (codes "3")

pub many-parts : fragment_of (saying (codes "1") (codes "1001")) ≡ None
unfolding read number_in
many-parts = says (codes "1") (codes "1001")

pub two-no-whole : TwoAreNoWhole
two-no-whole a b c lone are = simp (are.first, are.third)

pub three-whole : ThreeAreAWhole
three-whole a b c lone are = simp (are.first, are.second, are.third)

pub lone-beside : LoneGoesBesideTwo
lone-beside a b c lone are = simp (are.first, are.third, are.no_part)

pub whole-earlier : EarlierWholeGoes
whole-earlier a b c lone are = simp (are.first, are.second, are.third, are.no_part)

pub lone-earlier : EarlierLoneGoes
lone-earlier a b c lone are = rw are.no_part refl

-- an attribute is missing
abbrev without_count : AttributeMap
without_count = insert first (codes "fragment.index") (codes "1")

countless-is : get without_count (codes "fragment.count") ≡ None
countless-is = get-insert nat_list_cmp_total first (codes "fragment.index") (codes "1") (codes "fragment.count")
    ∙ get-insert nat_list_cmp_total empty (codes "fragment.identifier") (codes "w") (codes "fragment.count") ∙ get-empty (slice_cmp nat_cmp) (codes "fragment.count")

pub countless : NoCountIsNone
unfolding read number_in
countless =
    ap (λ (o : Option (List ℕ)). read o (get without_count (codes "fragment.index")) (get without_count (codes "fragment.count"))) identifier-is
    ∙ ap (λ (o : Option (List ℕ)). read (Some (codes "w")) o (get without_count (codes "fragment.count"))) index-is
    ∙ ap (λ (o : Option (List ℕ)). read (Some (codes "w")) (Some (codes "1")) o) countless-is
  where
    identifier-is : get without_count (codes "fragment.identifier") ≡ Some (codes "w")
    identifier-is = get-insert nat_list_cmp_total first (codes "fragment.index") (codes "1") (codes "fragment.identifier")
        ∙ get-insert nat_list_cmp_total empty (codes "fragment.identifier") (codes "w") (codes "fragment.identifier")

    index-is : get without_count (codes "fragment.index") ≡ Some (codes "1")
    index-is = get-insert nat_list_cmp_total first (codes "fragment.index") (codes "1") (codes "fragment.index")

abbrev without_identifier : AttributeMap
without_identifier = insert (insert empty (codes "fragment.index") (codes "1")) (codes "fragment.count") (codes "1")

nameless-is : get without_identifier (codes "fragment.identifier") ≡ None
nameless-is = get-insert nat_list_cmp_total (insert empty (codes "fragment.index") (codes "1")) (codes "fragment.count") (codes "1") (codes "fragment.identifier")
    ∙ get-insert nat_list_cmp_total empty (codes "fragment.index") (codes "1") (codes "fragment.identifier") ∙ get-empty (slice_cmp nat_cmp) (codes "fragment.identifier")

pub nameless : NoIdentifierIsNone
nameless = rw nameless-is refl
