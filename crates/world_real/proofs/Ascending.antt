-- One more name at the end of ascending ones.
use Rattle.std.proofs.Common.{◌≡◌, ℕ, true, List, [], ◌∷◌, ◌++◌, refl, sym, ◌∙◌}
use Rattle.std.specs.Ordering.{nat_cmp, is_lt}
use Rattle.std.specs.Cmp.Lexicographic.{slice_cmp}
use Rattle.std.specs.List.{AllByRecursion}
use Rattle.std.specs.declared.cmp.Ordering.TheVariants.{Less, Equal, Greater}
use Rattle.std.specs.declared.cmp.Ordering.{Ordering}
use Rattle.std.proofs.lemmas.Bool.{true≢false}
use Rattle.std.proofs.lemmas.Cmp.{nat_list_cmp_total}
use Rattle.world_io.specs.Inbox.{IsAscending}

all_push : {X : Type 0} (P : X → Type 0) (front : List X) (last x : X) → (P last → P x) → AllByRecursion P (front ++ last ∷ []) → AllByRecursion P ((front ++ last ∷ []) ++ x ∷ [])
all_push P [] last x more h = (h.0, (more h.0, tt))
all_push P (y ∷ front) last x more h = (h.0, all_push P front last x more h.1)

pub ascending_push : (front : List (List ℕ)) (last name : List ℕ) → slice_cmp nat_cmp last name ≡ Less → IsAscending (front ++ last ∷ []) → IsAscending ((front ++ last ∷ []) ++ name ∷ [])
ascending_push [] last name less h = ((less, tt), (tt, tt))
ascending_push (first ∷ front) last name less h = (
  all_push (λ later. slice_cmp nat_cmp first later ≡ Less) front last name (λ below. nat_list_cmp_total.trans first last name below less) h.0,
  ascending_push front last name less h.1,
)

less_from : (order : Ordering) → is_lt order ≡ true → order ≡ Less
less_from Less h = refl
less_from Equal h = absurd (true≢false (sym h))
less_from Greater h = absurd (true≢false (sym h))

pub ascending_after : (names front : List (List ℕ)) (last name : List ℕ) → names ≡ front ++ last ∷ [] → (order : Ordering) → order ≡ slice_cmp nat_cmp last name → is_lt order ≡ true → IsAscending names → IsAscending (names ++ name ∷ [])
ascending_after names front last name is order compared less h =
    rw is (ascending_push front last name (sym compared ∙ less_from order less) (rw is at h))
