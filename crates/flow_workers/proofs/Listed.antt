-- The files that are to come have the bytes that they had.
use Rattle.std.proofs.Common.{◌≡◌, ℕ, Bool, true, false, cond, not, List, [], ◌∷◌, true≢false, refl, sym, subst, ◌∙◌}
use Rattle.std.specs.Prelude.{All, Option, None, Some, IsTrue, bytes_eq, find}
use Rattle.std.proofs.lemmas.Slice.Eq.{bytes_eq-Decides}
use Rattle.std.proofs.lemmas.List.Elements.{All-cons, All-head, All-tail, All-nil}
use Rattle.flowfile_record.specs.NamedFile.{NamedFile, bytes_of, without}
use Rattle.machine_model.specs.Stepping.{without_name}
use Rattle.machine_model.proofs.Among.{all_among}
use Rattle.store_core.specs.Store.{kept_by}
use Rattle.world_io.proofs.Without.{bytes_of-without}
use Rattle.engine_choice.specs.declared.choice.Taking.TheVariants.{Receive}
use Rattle.engine_session.specs.Change.{names_without, without_received}
use Rattle.engine_steps.specs.Engine.{EngineState}
use Rattle.engine_steps.specs.Flights.{has_session, names_to_come}
use Rattle.engine_steps.specs.Ready.{IsReadyInMemory}
use Rattle.engine_steps.specs.declared.flight.InFlight.{InFlight}
use Rattle.engine_steps.proofs.Flights.{found_flies, in_flight_at}
use Rattle.engine_steps.proofs.NamesToCome.{name_comes}
use Rattle.flow_workers.specs.Jobs.{AreAsListed}

abbrev HasBytesAs : (files left : List NamedFile) → List ℕ → Type 0
HasBytesAs files left name = bytes_of left name ≡ bytes_of files name

-- ---- one file less

not_same : (other name : List ℕ) → bytes_eq other name ≡ false → bytes_eq name other ≡ false
not_same other name apart = by_test (bytes_eq name other) refl
  where
    by_test : (b : Bool) → bytes_eq name other ≡ b → b ≡ false
    by_test false is = refl
    by_test true is =
        let same : name ≡ other = (bytes_eq-Decides name other).0 is in
        absurd (true≢false (sym ((bytes_eq-Decides other name).1 (sym same)) ∙ apart))

others_stay : (name : List ℕ) (files left : List NamedFile) (names : List (List ℕ)) → All (HasBytesAs files left) names → All (HasBytesAs files (without name left)) (without_name names name)
others_stay name files left [] all = All-nil (HasBytesAs files (without name left))
others_stay name files left (other ∷ names) all =
    by_test (bytes_eq other name) refl (others_stay name files left names (All-tail (HasBytesAs files left) other names all))
  where
    by_test : (b : Bool) → bytes_eq other name ≡ b → All (HasBytesAs files (without name left)) (without_name names name)
        → All (HasBytesAs files (without name left)) (cond (not b) (other ∷ without_name names name) (without_name names name))
    by_test true is rest = rest
    by_test false is rest =
        All-cons (HasBytesAs files (without name left)) other (without_name names name)
        (bytes_of-without name other left (not_same other name is) ∙ All-head (HasBytesAs files left) other names all)
        rest

pub listed_without : (in_tells : Bool) (files left now_left : List NamedFile) (received : Option (List ℕ)) (names : List (List ℕ)) → (IsTrue in_tells → now_left ≡ without_received received left)
    → AreAsListed in_tells files left names → AreAsListed in_tells files now_left (names_without received names)
listed_without in_tells files left now_left None names is all telling = subst (λ (l : List NamedFile). All (HasBytesAs files l) names) (sym (is telling)) (all telling)
listed_without in_tells files left now_left (Some name) names is all telling =
    subst (λ (l : List NamedFile). All (HasBytesAs files l) (without_name names name)) (sym (is telling)) (others_stay name files left names (all telling))

-- the same names of the same files
pub listed_still : (in_tells : Bool) (files left now_left : List NamedFile) (names now_names : List (List ℕ)) → (IsTrue in_tells → now_left ≡ left) → now_names ≡ names → AreAsListed in_tells files left names
    → AreAsListed in_tells files now_left now_names
listed_still in_tells files left now_left names now_names is same all telling =
    subst (All (HasBytesAs files now_left)) (sym same) (subst (λ (l : List NamedFile). All (HasBytesAs files l) names) (sym (is telling)) (all telling))

-- ---- the file of a session in flight

pub listed_bytes : (in_tells : Bool) (files left : List NamedFile) (e : EngineState) → IsReadyInMemory e → (session : ℕ) (flight : InFlight) → find (has_session session) e.out ≡ Some flight → AreAsListed in_tells files left (names_to_come e)
    → (name : List ℕ) → flight.choice.taking ≡ Receive name → IsTrue in_tells → bytes_of left name ≡ bytes_of files name
listed_bytes in_tells files left e ready session flight found all name takes telling =
    let flying = (found_flies session e.out flight found).0 in
    let holds = in_flight_at e.flow (kept_by e.store) e.listing e.next_session e.out flight ready.flights flying in
    all_among (HasBytesAs files left) name (names_to_come e) (all telling) (name_comes e.out e.listing flight name flying takes holds.holds)
