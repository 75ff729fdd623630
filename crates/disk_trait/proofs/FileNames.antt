-- Names of files, compared.
use Rattle.std.proofs.Common.{◌≡◌, ◌≢◌, true, false, eqb, sym, rules}
use Rattle.std.specs.BTreeMap.{is_at}
use Rattle.std.specs.Cmp.{IsTotalOrder}
use Rattle.std.proofs.lemmas.Bool.{and_parts, eqb-true, false_from_ne_true}
use denote.Enum.Bare.{same_true}
use Rattle.disk_trait.specs.declared.file_name.FileName.{FileName}
use Rattle.disk_trait.specs.contracts.file_name.FileKind.{the_type}
use Rattle.disk_trait.specs.contracts.file_name.FileNameOrd.TheImpl as order
use Rattle.disk_trait.specs.contracts.file_name.FileNameOrd.TheImpl.Laws as laws
use Rattle.disk_trait.specs.contracts.file_name.FileNameEq.TheImpl.Laws as equality
use Rattle.disk_trait.specs.Memory.{same_name}

pub names_ordered : IsTotalOrder order.ghosts.cmp
names_ordered = laws.total-law

pub is_at-name : (a b : FileName) → is_at (order.ghosts.cmp a) b ≡ same_name a b
is_at-name a b = sym (laws.matches_eq-law a b)

pub same_name_itself : (a : FileName) → same_name a a ≡ true
same_name_itself a = equality.laws-law.refl a

pub same_name_is : (a b : FileName) → same_name a b ≡ true → a ≡ b
same_name_is a b same =
    let parts = and_parts _ (eqb a.number b.number) same in
    let kind = same_true the_type (search rules) a.kind b.kind parts.0 in
    let number = eqb-true a.number b.number parts.1 in
    λ i. record { kind = kind i; number = number i }

pub other_name : (a b : FileName) → b ≢ a → same_name a b ≡ false
other_name a b other = false_from_ne_true (same_name a b) (λ same. other (sym (same_name_is a b same)))
