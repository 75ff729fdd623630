use Rattle.std.proofs.Common.{◌≡◌, ℕ, List, Option, Some, None, Result, Ok, Err, IfOk, refl, ◌∙◌}
use Rattle.std.specs.Prelude.{◌↔◌, IsOk}
use Rattle.std.specs.Result.{result_ok}
use Rattle.flow_words.proofs.reading.uuid_in.Goals as goal

read : {E : Type 0} (r : Result (List ℕ) E) (o : Option (List ℕ)) → (IsOk r ↔ ((u : List ℕ) × (o ≡ Some u))) → IfOk r (λ u. Some u ≡ o) → result_ok r ≡ o
read (Ok u) o either is = is
read (Err e) None either is = refl
read (Err e) (Some u) either is = cc (either.1 (u, refl))

pub returns : goal.returns
returns c = c.ok.ensures.value ∙ read c.parse_str.result _ c.parse_str.ensures.ok c.parse_str.ensures.bytes
