-- Tried: the greatest content of a file of the inbox, and one byte more.
use Rattle.std.specs.Prelude.{◌≡◌, ℕ, true, List, [], length}
use Rattle.machine_model.specs.State.{World}
use Rattle.machine_examples.specs.Small.{a_txt, inbox_of}
use Rattle.machine_examples.specs.Ends.{QuietIs}
use Rattle.machine_examples.specs.Refusals.{RefusesToGet, get_a}
use Rattle.machine_examples.specs.Run.{IsReceived}

abbrev pub left : List ℕ → World
left bytes = inbox_of a_txt bytes

abbrev pub FullIsReceived : Type 0
FullIsReceived = (bytes : List ℕ) → length bytes ≡ 16_777_216 → IsReceived bytes

abbrev pub TooLongIsNotReceived : Type 0
TooLongIsNotReceived = (bytes : List ℕ) → length bytes ≡ 16_777_217 → RefusesToGet (left bytes) get_a

-- it stays, and the flow is quiet
abbrev pub TooLongIsLeft : Type 0
TooLongIsLeft = (bytes : List ℕ) → length bytes ≡ 16_777_217 → QuietIs [] (left bytes) 1000 true
