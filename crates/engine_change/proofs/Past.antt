-- Events that may stand for those before a session, where it is no matter what they tell.
use Rattle.std.proofs.Common.{◌≡◌, ℕ, zero, suc, ◌+◌, List, [], ◌∷◌, length, map, refl, sym, ap, ◌∙◌}
use Rattle.std.specs.List.{range_with_len}
use Rattle.flowfile_record.specs.declared.event.Event.{Event}
use Rattle.flowfile_record.specs.declared.event.EventKind.TheVariants.{Create}
use Rattle.engine_change.specs.Committing.{AreEventsUpTo}

abbrev blank : ℕ → Event
blank number = record {
  number = number;
  kind = Create;
  moment = 0;
  component = [];
  file = 0;
  parents = [];
  children = [];
  detail = [];
  size = 0;
  digest = [];
}

abbrev blanks : (first count : ℕ) → List Event
blanks first zero = []
blanks first (suc count) = blank first ∷ blanks (first + 1) count

length-blanks : (first count : ℕ) → length (blanks first count) ≡ count
length-blanks first zero = refl
length-blanks first (suc count) = ap suc (length-blanks (first + 1) count)

numbers-blanks : (first count : ℕ) → map (λ (e : Event). e.number) (blanks first count) ≡ range_with_len first count
numbers-blanks first zero = refl
numbers-blanks first (suc count) = ap (λ (rest : List ℕ). first ∷ rest) (numbers-blanks (first + 1) count)

pub past : (last : ℕ) → List Event
past last = blanks 1 last

pub past_is : (last : ℕ) → AreEventsUpTo last (past last)
unfolding past
past_is last = (length-blanks 1 last, numbers-blanks 1 last ∙ ap (range_with_len 1) (sym (length-blanks 1 last)))
