-- Tried: to whom a routed file and its clones go, and copies.
use Rattle.std.specs.Prelude.{◌≡◌, Bool, true, false, [], ◌∷◌, Some, None}
use Rattle.flowfile_record.specs.declared.worked.Origin.TheVariants.{Cloned}
use Rattle.machine_model.specs.Making.{TakenFile, clone_of, may_have, passed_on}
use Rattle.machine_model.specs.DuplicateFlowFile.{duplicate}
use Rattle.machine_model.specs.RouteOnAttribute.{places_where, routed}

abbrev pub MayBeCloned : TakenFile → Bool → Type 0
MayBeCloned file answer = may_have (Cloned 0) file.attributes ≡ answer

abbrev pub TwoAreCopied : Type 0
TwoAreCopied = (file : TakenFile) → MayBeCloned file true → duplicate 2 file ≡ record {
  files = passed_on 0 file.attributes false 0 ∷ clone_of 0 file.attributes 0 ∷ clone_of 0 file.attributes 0 ∷ [];
  sent = None;
}

abbrev pub NoneIsCopied : Type 0
NoneIsCopied = (file : TakenFile) → MayBeCloned file false →
    duplicate 2 file ≡ record { files = passed_on 0 file.attributes false 0 ∷ []; sent = None }

-- of three own relationships the first and the last are true
abbrev pub FirstAndLastAreTrue : Type 0
FirstAndLastAreTrue = places_where (λ truth. truth) (true ∷ false ∷ true ∷ []) ≡ 0 ∷ 2 ∷ []

abbrev pub TwoAreRouted : Type 0
TwoAreRouted = (file : TakenFile) → MayBeCloned file true → routed 3 file (0 ∷ 2 ∷ []) ≡ record {
  files = record (passed_on 0 file.attributes false 0) { routed = Some 0 }
      ∷ record (clone_of 0 file.attributes 2) { routed = Some 2 } ∷ [];
  sent = None;
}

abbrev pub NoneIsUnmatched : Type 0
NoneIsUnmatched = (file : TakenFile) →
    routed 3 file []
    ≡ record { files = record (passed_on 0 file.attributes false 3) { routed = Some 3 } ∷ []; sent = None }

-- the first needs no clone
abbrev pub OneIsRouted : Type 0
OneIsRouted = (file : TakenFile) → MayBeCloned file false →
    routed 3 file (1 ∷ [])
    ≡ record { files = record (passed_on 0 file.attributes false 1) { routed = Some 1 } ∷ []; sent = None }
