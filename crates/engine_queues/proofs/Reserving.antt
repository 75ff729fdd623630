-- Room in the queues for the files that a session places.
use Rattle.std.proofs.Common.{◌≡◌, ℕ, zero, suc, ◌≤◌, ◌==◌, ◌||◌, true, false, cond, List, [], ◌∷◌, length, map, Some, refl, sym, ap, ◌∙◌, inl, inr, arith}
use Rattle.std.specs.Prelude.{◌⊎◌, count_by, slice_get}
use Rattle.std.specs.List.{list_any}
use Rattle.std.proofs.lemmas.Bool.{cases_Bool, cases_eq, or_parts, ne_eqb, false≢true}
use Rattle.std.proofs.lemmas.List.{length-map}
use Rattle.std.proofs.lemmas.List.Sums.{sum_by-cons, count_by-le-length}
use Rattle.flowfile_record.specs.declared.stored.Placed.{Placed}
use Rattle.flow_queue.specs.Queue.{QueueState}
use Rattle.engine_queues.specs.Settling.{changed_at, without_room, HasRoomIn}
use Rattle.engine_queues.proofs.Changing.{got-changed, got-other, one_if}

abbrev into_of : List Placed → List ℕ
into_of placed = map (λ (p : Placed). p.connection) placed

abbrev pub count_of : ℕ → List Placed → ℕ
count_of place placed = count_by (λ c. c == place) (into_of placed)

-- each queue has room for all that is placed into it, or one of the files that come is placed into it
pub record IsRoomyOrNext (placed coming : List Placed) (queues : List QueueState) : Type 0 where
  pub each : (place : ℕ) (queue : QueueState) → slice_get queues place ≡ Some queue
      → (count_of place placed ≤ queue.spare) ⊎ (list_any (λ (p : Placed). p.connection == place) coming ≡ true)

none_into : (place : ℕ) (placed : List Placed) → list_any (λ (p : Placed). p.connection == place) placed ≡ false → count_of place placed ≡ 0
none_into place [] none = refl
none_into place (p ∷ placed) none =
    let parts = or_parts (p.connection == place) (list_any (λ (p : Placed). p.connection == place) placed) none in
    let here : one_if (p.connection == place) ≡ 0 = ap one_if parts.0 in
    omega (arith, here, none_into place placed parts.1, sum_by-cons (λ (c : ℕ). cond (c == place) 1 0) p.connection (into_of placed))

pub at_first : (placed : List Placed) (queues : List QueueState) → IsRoomyOrNext placed placed queues
at_first placed queues = record {
  each = λ place queue got. elim (cases_Bool (list_any (λ (p : Placed). p.connection == place) placed)) [
    | inl t ↦ inr t
    | inr f ↦ let none = none_into place placed f in inl (omega (arith, none))
  ];
}

pub one_roomier : (placed : List Placed) (p : Placed) (coming : List Placed) (queues : List QueueState) (now : QueueState) → IsRoomyOrNext placed (p ∷ coming) queues → length placed ≤ now.spare
    → IsRoomyOrNext placed coming (changed_at p.connection (λ before. now) queues)
one_roomier placed p coming queues now has room = record {
  each = λ place queue got. elim (cases_eq place p.connection) [
    | inl same ↦
        let found = got-changed p.connection (λ before. now) queues queue (ap (slice_get (changed_at p.connection (λ before. now) queues)) (sym same) ∙ got) in
        let most = count_by-le-length (λ (c : ℕ). c == place) (into_of placed) in
        inl (omega (arith, room, most, length-map placed (λ (q : Placed). q.connection), ap (λ (q : QueueState). q.spare) found.2))
    | inr differ ↦
        elim (has.each place queue (sym (got-other p.connection place (λ before. now) queues differ) ∙ got)) [
          | inl le ↦ inl le
          | inr any ↦
              let other : (p.connection == place) ≡ false = ne_eqb p.connection place (λ e. differ (sym e)) in
              inr (sym (ap (λ b. b || list_any (λ (q : Placed). q.connection == place) coming) other) ∙ any)
        ]
  ];
}

pub at_last : (placed : List Placed) (queues : List QueueState) → IsRoomyOrNext placed [] queues → HasRoomIn (map (λ (p : Placed). p.connection) placed) queues
at_last placed queues has = record {
  each = λ place queue got. elim (has.each place queue got) [ inl le ↦ le | inr any ↦ absurd (false≢true any) ];
}

-- one queue has another room
pub same-changed : (place : ℕ) (now before : QueueState) (queues : List QueueState) → slice_get queues place ≡ Some before → without_room now ≡ without_room before
    → map without_room (changed_at place (λ old. now) queues) ≡ map without_room queues
same-changed place now before [] got same = absurd cc
same-changed zero now before (queue ∷ queues) got same =
    let is : before ≡ queue = cc in
    ap (λ (q : QueueState). q ∷ map without_room queues) (same ∙ ap without_room is)
same-changed (suc place) now before (queue ∷ queues) got same = ap (λ (l : List QueueState). without_room queue ∷ l) (same-changed place now before queues got same)
