-- What stands under `filename` in the attributes of tries.
use Rattle.std.proofs.Common.{◌≡◌, ℕ, List, Bool, false, refl, ap, ◌∙◌}
use Rattle.std.specs.Prelude.{Option, Some, None, codes, decimal, is_some, option_and_then, if◌then◌else◌}
use Rattle.std.specs.FinMap.{get, insert, empty, get-insert, get-empty}
use Rattle.std.specs.Ordering.{nat_cmp}
use Rattle.std.specs.Cmp.Lexicographic.{slice_cmp, nat_list_cmp_total}
use Rattle.std.specs.Str.{is_utf8, chars}
use lib.Utf8.{encode}
use Rattle.flowfile_record.specs.Attributes.{AttributeMap}
use Rattle.flowfile_record.specs.declared.worked.Origin.TheVariants as origin
use Rattle.flowfile_record.specs.Name.{is_name}
use Rattle.machine_model.specs.Acting.{received_attributes, generated_attributes, name_in}
use Rattle.machine_model.specs.Placing.{uuid_text}
use Rattle.machine_examples.specs.Small.{a_txt}
use Rattle.machine_examples.specs.Clones.{MadeIsNamed, NamedKeepsItsName}

pub received-filename : (name : List ℕ) → get (received_attributes name) (codes "filename") ≡ Some name
received-filename name = get-insert nat_list_cmp_total (insert empty (codes "filename") name) (codes "path") (codes "./") (codes "filename")
    ∙ get-insert nat_list_cmp_total empty (codes "filename") name (codes "filename")

pub received-path : (name : List ℕ) → get (received_attributes name) (codes "path") ≡ Some (codes "./")
received-path name = get-insert nat_list_cmp_total (insert empty (codes "filename") name) (codes "path") (codes "./") (codes "path")

pub generated-index : (index : ℕ) → get (generated_attributes index) (codes "generate.index") ≡ Some (decimal index)
generated-index index = get-insert nat_list_cmp_total (insert empty (codes "path") (codes "./")) (codes "generate.index") (decimal index) (codes "generate.index")

pub generated-path : (index : ℕ) → get (generated_attributes index) (codes "path") ≡ Some (codes "./")
generated-path index = get-insert nat_list_cmp_total (insert empty (codes "path") (codes "./")) (codes "generate.index") (decimal index) (codes "path")
    ∙ get-insert nat_list_cmp_total empty (codes "path") (codes "./") (codes "path")

pub generated-filename : (index : ℕ) → get (generated_attributes index) (codes "filename") ≡ None
generated-filename index =
    get-insert nat_list_cmp_total (insert empty (codes "path") (codes "./")) (codes "generate.index") (decimal index) (codes "filename")
    ∙ get-insert nat_list_cmp_total empty (codes "path") (codes "./") (codes "filename") ∙ get-empty (slice_cmp nat_cmp) (codes "filename")

pub a_txt-name : name_in (received_attributes a_txt) ≡ Some a_txt
unfolding is_name is_utf8 chars encode
a_txt-name = ap (option_and_then (λ (name : List ℕ). if is_name name then Some name else None)) (received-filename a_txt)

pub bad-name : (name : List ℕ) → is_name name ≡ false → name_in (received_attributes name) ≡ None
bad-name name bad = ap (option_and_then (λ (name : List ℕ). if is_name name then Some name else None)) (received-filename name)
    ∙ ap (λ (good : Bool). if good then Some name else None) bad

pub no-name : name_in empty ≡ None
no-name = ap (option_and_then (λ (name : List ℕ). if is_name name then Some name else None)) (get-empty (slice_cmp nat_cmp) (codes "filename"))

-- ---- the names of made files

named_now : (attributes : AttributeMap) (name : List ℕ) → get attributes (codes "filename") ≡ None →
    get (if is_some (get attributes (codes "filename")) then attributes else insert attributes (codes "filename") name) (codes "filename") ≡ Some name
named_now attributes name none =
    ap (λ (o : Option (List ℕ)). get (if is_some o then attributes else insert attributes (codes "filename") name) (codes "filename")) none
    ∙ get-insert nat_list_cmp_total attributes (codes "filename") name (codes "filename")

pub made-named : MadeIsNamed
made-named (origin.Taken place) store number attributes made none = cc
made-named origin.Created store number attributes made none = named_now attributes (uuid_text store number) none
made-named origin.Received store number attributes made none = named_now attributes (uuid_text store number) none
made-named (origin.Forked place) store number attributes made none = named_now attributes (uuid_text store number) none
made-named (origin.Part place) store number attributes made none = named_now attributes (uuid_text store number) none
made-named (origin.Cloned place) store number attributes made none = named_now attributes (uuid_text store number) none
made-named (origin.Joined places) store number attributes made none = named_now attributes (uuid_text store number) none

keeps : (attributes : AttributeMap) (uuid name : List ℕ) → get attributes (codes "filename") ≡ Some name →
    (if is_some (get attributes (codes "filename")) then attributes else insert attributes (codes "filename") uuid) ≡ attributes
keeps attributes uuid name is = ap (λ (o : Option (List ℕ)). if is_some o then attributes else insert attributes (codes "filename") uuid) is

pub named-keeps : NamedKeepsItsName
named-keeps (origin.Taken place) store number attributes name is = refl
named-keeps origin.Created store number attributes name is = keeps attributes (uuid_text store number) name is
named-keeps origin.Received store number attributes name is = keeps attributes (uuid_text store number) name is
named-keeps (origin.Forked place) store number attributes name is = keeps attributes (uuid_text store number) name is
named-keeps (origin.Part place) store number attributes name is = keeps attributes (uuid_text store number) name is
named-keeps (origin.Cloned place) store number attributes name is = keeps attributes (uuid_text store number) name is
named-keeps (origin.Joined places) store number attributes name is = keeps attributes (uuid_text store number) name is
