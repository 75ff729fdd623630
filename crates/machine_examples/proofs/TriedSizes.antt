-- That the greatest content of a file of the inbox is received, and one byte more isn't.
use Rattle.std.proofs.Common.{◌≡◌, ℕ, Bool, true, false, List, [], length, refl, ap, ◌∙◌}
use Rattle.std.specs.Prelude.{Some, None, nat_le, if◌then◌else◌, codes}
use Rattle.flowfile_record.specs.declared.TheConstants.{CONTENT_MAX}
use Rattle.flowfile_record.specs.declared.worked.Origin.TheVariants.{Received}
use Rattle.machine_model.specs.declared.given.Given.{Given}
use Rattle.machine_model.specs.declared.kind.Kind.TheVariants.{GetFile}
use Rattle.machine_model.specs.Acting.{received_attributes}
use Rattle.machine_model.specs.Making.{alone, made_file}
use Rattle.machine_model.specs.Stepping.{given_in, may_get}
use Rattle.machine_examples.specs.Small.{a_txt, machine, no_kin, at_moment, processor}
use Rattle.machine_examples.specs.Run.{before, flow}
use Rattle.machine_examples.specs.Sizes.{left, FullIsReceived, TooLongIsNotReceived, TooLongIsLeft}
use Rattle.machine_examples.proofs.TriedNames.{received-filename}
use Rattle.machine_examples.proofs.TriedWorlds.{no-kin-more}
use Rattle.machine_examples.proofs.TriedParts.{session-gives, session-refused}

told : Given
told = record (at_moment 1000) { file = Some a_txt }

with_bytes : List ℕ → Given
unfolding told
with_bytes bytes = record told { bytes = Some bytes }

may-get : (bytes : List ℕ) (size : ℕ) → length bytes ≡ size → may_get None (left bytes) a_txt ≡ nat_le size CONTENT_MAX
may-get bytes size is = ap (λ (n : ℕ). nat_le n CONTENT_MAX) is

given-bytes : (bytes : List ℕ) (answer : Bool) → may_get None (left bytes) a_txt ≡ answer →
    given_in (GetFile None) 0 before (left bytes) [] told ≡ (if answer then Some (with_bytes bytes) else None)
unfolding told with_bytes
given-bytes bytes answer is = ap (λ (b : Bool). if b then Some (with_bytes bytes) else None) is

pub full-received : FullIsReceived
unfolding told with_bytes
full-received bytes is =
    session-gives flow (machine before (left bytes)) 0 [] 1000 told (with_bytes bytes) (processor (codes "get") (GetFile None) []) []
    (alone (made_file Received (received_attributes a_txt) bytes false 0)) refl refl (given-bytes bytes true (may-get bytes 16_777_216 is)) refl
    ∙ rw (received-filename a_txt, no-kin-more no_kin) refl

pub too-long-refused : TooLongIsNotReceived
unfolding told with_bytes
too-long-refused bytes is =
    session-refused flow (machine before (left bytes)) 0 [] 1000 told (processor (codes "get") (GetFile None) []) [] refl refl
    (given-bytes bytes false (may-get bytes 16_777_217 is))

pub too-long-left : TooLongIsLeft
too-long-left bytes is = rw (may-get bytes 16_777_217 is) refl
