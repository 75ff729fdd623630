-- What nothing adds to a set of kin, and what stands in an outbox behind two puts under one name.
use Rattle.std.proofs.Common.{◌≡◌, ℕ, Bool, true, false, List, [], refl, ap, ◌∙◌}
use Rattle.std.specs.Prelude.{◌||◌, Option, Some, bytes_eq, cond}
use Rattle.std.specs.FinSet.{contains, from_list, union, contains-union, contains-from_list, same_set}
use Rattle.flowfile_record.specs.NamedFile.{with_file}
use Rattle.machine_model.specs.State.{Kin}
use Rattle.machine_model.proofs.KinSets.{kin_cmp-total, kin_cmp-IsAntisymmetric}

or-false : (b : Bool) → (b || false) ≡ b
or-false true = refl
or-false false = refl

pub no-kin-more : (kin : Kin) → union kin (from_list []) ≡ kin
no-kin-more kin =
    same_set kin_cmp-total kin_cmp-IsAntisymmetric (union kin (from_list [])) kin (λ pair.
    contains-union kin_cmp-total kin (from_list []) pair
    ∙ ap (λ b. contains kin pair || b) (contains-from_list kin_cmp-total [] pair) ∙ or-false (contains kin pair))

second : (b : Bool) (one other : Option (List ℕ)) (before : Option (List ℕ)) → cond b one (cond b other before) ≡ cond b one before
second true one other before = refl
second false one other before = refl

pub put-over : (outbox : List ℕ → Option (List ℕ)) (name bytes later : List ℕ) → with_file (with_file outbox name bytes) name later ≡ with_file outbox name later
put-over outbox name bytes later = λ i other. second (bytes_eq other name) (Some later) (Some bytes) (outbox other) i
