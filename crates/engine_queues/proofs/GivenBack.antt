-- Names that are taken and given back.
use Rattle.std.proofs.Common.{◌≡◌, ◌≢◌, ℕ, zero, suc, Bool, true, false, List, [], ◌∷◌, refl, ap}
use Rattle.std.specs.Prelude.{Some, slice_get, slice_set}
use Rattle.engine_queues.specs.Laws.{NamesGoBack, NamesLeave}
use Rattle.engine_queues.proofs.Left.{left-taken}

marked-back : (taken : List Bool) (place : ℕ) → slice_get taken place ≡ Some false → slice_set (slice_set taken place true) place false ≡ taken
marked-back [] place there = refl
marked-back (mark ∷ taken) zero there = let is : false ≡ mark = cc in ap (λ (m : Bool). m ∷ taken) is
marked-back (mark ∷ taken) (suc place) there = ap (λ (l : List Bool). mark ∷ l) (marked-back taken place there)

either-first : (taken : List Bool) (one other : ℕ) (is_one is_other : Bool) → one ≢ other
    → slice_set (slice_set taken one is_one) other is_other ≡ slice_set (slice_set taken other is_other) one is_one
either-first [] one other is_one is_other differ = refl
either-first (mark ∷ taken) zero zero is_one is_other differ = absurd (differ refl)
either-first (mark ∷ taken) zero (suc other) is_one is_other differ = refl
either-first (mark ∷ taken) (suc one) zero is_one is_other differ = refl
either-first (mark ∷ taken) (suc one) (suc other) is_one is_other differ =
    ap (λ (l : List Bool). mark ∷ l) (either-first taken one other is_one is_other (λ e. differ (ap suc e)))

pub names-go-back : NamesGoBack
names-go-back listing = record {
  as_before = λ place left. λ i. record listing { taken = marked-back listing.taken place left i };
  in_any_order = λ one other is_one is_other differ.
      λ i. record listing { taken = either-first listing.taken one other is_one is_other differ i };
}

pub names-leave : NamesLeave
names-leave listing place name distinct there left =
    left-taken name listing.listed listing.taken place distinct there left
