-- The places of the connections that pass a test: as they are found one by one, and as they are walked.
use Rattle.std.proofs.Common.{◌≡◌, ℕ, zero, suc, ◌+◌, ◌<◌, Bool, true, false, cond, List, [], ◌∷◌, ◌++◌, length, map, take, refl, sym, ap, subst, ◌∙◌, zero-add, arith}
use Rattle.std.specs.Prelude.{Some, filter, slice_get}
use Rattle.std.specs.List.{enumerate_from}
use Rattle.machine_model.specs.declared.flow.Connection.{Connection}
use Rattle.engine_queues.specs.declared.linked.Links.{Links}
use Rattle.machine_model.specs.RouteOnAttribute.{places_where}
use Rattle.engine_queues.specs.Linked.{IsLinked}

-- the first so many processors have their links
pub record AreLinksSoFar (connections : List Connection) (count : ℕ) (links : List Links) : Type 0 where
  pub count_is : length links ≡ count
  pub each : (processor : ℕ) (its : Links) → slice_get links processor ≡ Some its → IsLinked connections processor its

module _ (test : Connection → Bool) where
  abbrev places_from : ℕ → List Connection → List ℕ
  places_from from connections = map (λ (c : ℕ × Connection). c.0) (filter (λ (c : ℕ × Connection). test c.1) (enumerate_from from connections))

  -- ---- one more connection

  abbrev one_more : Bool → ℕ → List ℕ
  one_more passes place = cond passes (place ∷ []) []

  cons_one : (passes : Bool) (from : ℕ) (c : Connection) (rest : List (ℕ × Connection)) (more : List ℕ) (all : List ℕ)
      → map (λ (p : ℕ × Connection). p.0) rest ≡ all ++ more
      → map (λ (p : ℕ × Connection). p.0) (cond passes ((from, c) ∷ rest) rest) ≡ map (λ (p : ℕ × Connection). p.0) (cond passes ((from, c) ∷ []) []) ++ (all ++ more)
  cons_one true from c rest more all is = ap (λ l. from ∷ l) is
  cons_one false from c rest more all is = is

  places-more : (from place : ℕ) (connections : List Connection) (c : Connection) → slice_get connections place ≡ Some c
      → places_from from (take (suc place) connections) ≡ places_from from (take place connections) ++ one_more (test c) (from + place)
  places-more from place [] c at = cc
  places-more from zero (d ∷ connections) c at =
      let same : d ≡ c = cc in
      let here : from ≡ from + zero = omega arith in
      by_test (test d) ∙ ap (λ e. one_more (test e) from) same ∙ ap (one_more (test c)) here
    where
      by_test : (b : Bool) → map (λ (p : ℕ × Connection). p.0) (cond b ((from, d) ∷ []) []) ≡ one_more b from
      by_test true = refl
      by_test false = refl
  places-more from (suc place) (d ∷ connections) c at =
      by_test (test d) (places-more (from + 1) place connections c at ∙ ap (λ n. places_from (from + 1) (take place connections) ++ one_more (test c) n) (omega arith))
    where
      by_test : (b : Bool) → places_from (from + 1) (take (suc place) connections) ≡ places_from (from + 1) (take place connections) ++ one_more (test c) (from + suc place)
          → map (λ (p : ℕ × Connection). p.0) (cond b ((from, d) ∷ filter (λ (p : ℕ × Connection). test p.1) (enumerate_from (from + 1) (take (suc place) connections))) (filter (λ (p : ℕ × Connection). test p.1) (enumerate_from (from + 1) (take (suc place) connections))))
          ≡ map (λ (p : ℕ × Connection). p.0) (cond b ((from, d) ∷ filter (λ (p : ℕ × Connection). test p.1) (enumerate_from (from + 1) (take place connections))) (filter (λ (p : ℕ × Connection). test p.1) (enumerate_from (from + 1) (take place connections)))) ++ one_more (test c) (from + suc place)
      by_test true is = ap (λ l. from ∷ l) is
      by_test false is = is

  append_nil : (xs : List ℕ) → xs ++ [] ≡ xs
  append_nil [] = refl
  append_nil (x ∷ xs) = ap (λ l. x ∷ l) (append_nil xs)

  next : (b : Bool) (place : ℕ) (connections : List Connection) (c : Connection) (old : List ℕ) → slice_get connections place ≡ Some c → test c ≡ b → old ≡ places_where test (take place connections)
      → old ++ one_more b place ≡ places_where test (take (place + 1) connections)
  next b place connections c old at is so =
      let suc_is : suc place ≡ place + 1 = omega arith in
      ap (λ l. l ++ one_more b place) so ∙ ap (λ b. places_where test (take place connections) ++ one_more b place) (sym is)
      ∙ ap (λ n. places_where test (take place connections) ++ one_more (test c) n) (sym (zero-add place))
      ∙ sym (places-more 0 place connections c at) ∙ ap (λ n. places_where test (take n connections)) suc_is

  pub next-passes : (place : ℕ) (connections : List Connection) (c : Connection) (old new : List ℕ) → slice_get connections place ≡ Some c → test c ≡ true → old ≡ places_where test (take place connections)
      → new ≡ old ++ place ∷ [] → new ≡ places_where test (take (place + 1) connections)
  next-passes place connections c old new at passes so is = is ∙ next true place connections c old at passes so

  pub next-other : (place : ℕ) (connections : List Connection) (c : Connection) (old new : List ℕ) → slice_get connections place ≡ Some c → test c ≡ false → old ≡ places_where test (take place connections)
      → new ≡ old → new ≡ places_where test (take (place + 1) connections)
  next-other place connections c old new at other so is = is ∙ sym (append_nil old) ∙ next false place connections c old at other so

  -- ---- walked

  -- a place and its connection, which passes
  pub record IsPassed (connections : List Connection) (from place : ℕ) : Type 0 where
    pub index : ℕ
    pub connection : Connection
    pub is : place ≡ from + index
    pub there : slice_get connections index ≡ Some connection
    pub passes : test connection ≡ true

  -- a place is found at an index, and behind it come those places that are greater
  pub record IsFound (places : List ℕ) (place : ℕ) : Type 0 where
    pub index : ℕ
    pub there : slice_get places index ≡ Some place
    pub before : (n other : ℕ) → slice_get places n ≡ Some other → place < other → index < n

  passed-on : (d : Connection) (connections : List Connection) (from place : ℕ) → IsPassed connections (from + 1) place → IsPassed (d ∷ connections) from place
  passed-on d connections from place p = record {
    index = suc p.index;
    connection = p.connection;
    is = omega (arith, p.is);
    there = p.there;
    passes = p.passes;
  }

  first_passed : (d : Connection) (connections : List Connection) (from place : ℕ) → from ≡ place → test d ≡ true → IsPassed (d ∷ connections) from place
  first_passed d connections from place same is = record { index = 0; connection = d; is = omega (arith, same); there = refl; passes = is }

  passed_behind : (b : Bool) (d : Connection) (connections : List Connection) (from : ℕ) (rest : List (ℕ × Connection)) → test d ≡ b
      → ((n place : ℕ) → slice_get (map (λ (p : ℕ × Connection). p.0) rest) n ≡ Some place → IsPassed connections (from + 1) place)
      → (n place : ℕ) → slice_get (map (λ (p : ℕ × Connection). p.0) (cond b ((from, d) ∷ rest) rest)) n ≡ Some place → IsPassed (d ∷ connections) from place
  passed_behind true d connections from rest is each zero place e = let same : from ≡ place = cc in first_passed d connections from place same is
  passed_behind true d connections from rest is each (suc n) place e = passed-on d connections from place (each n place e)
  passed_behind false d connections from rest is each n place e = passed-on d connections from place (each n place e)

  passed : (from : ℕ) (connections : List Connection) (n place : ℕ) → slice_get (places_from from connections) n ≡ Some place → IsPassed connections from place
  passed from [] n place at = absurd (not_there n place at)
    where
      not_there : (n place : ℕ) → slice_get {X = ℕ} [] n ≡ Some place → ⊥
      not_there zero place e = cc
      not_there (suc n) place e = cc
  passed from (d ∷ connections) n place at =
      passed_behind (test d) d connections from (filter (λ (p : ℕ × Connection). test p.1) (enumerate_from (from + 1) connections)) refl (passed (from + 1) connections) n place at

  found_behind : (b : Bool) (d : Connection) (from place : ℕ) (rest : List (ℕ × Connection)) → from < place → IsFound (map (λ (p : ℕ × Connection). p.0) rest) place
      → IsFound (map (λ (p : ℕ × Connection). p.0) (cond b ((from, d) ∷ rest) rest)) place
  found_behind true d from place rest lt f = record { index = suc f.index; there = f.there; before = behind }
    where
      behind : (n other : ℕ) → slice_get (from ∷ map (λ (p : ℕ × Connection). p.0) rest) n ≡ Some other → place < other → suc f.index < n
      behind zero other e less = let same : from ≡ other = cc in absurd (omega (arith, same, lt, less))
      behind (suc n) other e less = omega (arith, f.before n other e less)
  found_behind false d from place rest lt f = f

  found_first : (b : Bool) (d : Connection) (from : ℕ) (rest : List (ℕ × Connection)) → b ≡ true → IsFound (map (λ (p : ℕ × Connection). p.0) (cond b ((from, d) ∷ rest) rest)) from
  found_first true d from rest is = record { index = 0; there = refl; before = behind }
    where
      behind : (n other : ℕ) → slice_get (from ∷ map (λ (p : ℕ × Connection). p.0) rest) n ≡ Some other → from < other → 0 < n
      behind zero other e less = let same : from ≡ other = cc in absurd (omega (arith, same, less))
      behind (suc n) other e less = omega arith
  found_first false d from rest is = absurd cc

  found : (from : ℕ) (connections : List Connection) (i place : ℕ) (c : Connection) → place ≡ from + i → slice_get connections i ≡ Some c → test c ≡ true → IsFound (places_from from connections) place
  found from [] i place c is at passes = absurd (not_there i at)
    where
      not_there : (n : ℕ) → slice_get {X = Connection} [] n ≡ Some c → ⊥
      not_there zero e = cc
      not_there (suc n) e = cc
  found from (d ∷ connections) zero place c is at passes =
      let same : c ≡ d = cc in
      let here : from ≡ place = omega (arith, is) in
      subst (λ p. IsFound (places_from from (d ∷ connections)) p) here
      (found_first (test d) d from (filter (λ (p : ℕ × Connection). test p.1) (enumerate_from (from + 1) connections)) (subst (λ e. test e ≡ true) same passes))
  found from (d ∷ connections) (suc i) place c is at passes =
      found_behind (test d) d from place (filter (λ (p : ℕ × Connection). test p.1) (enumerate_from (from + 1) connections)) (omega (arith, is)) (found (from + 1) connections i place c (omega (arith, is)) at passes)

  module _ (connections : List Connection) where
    -- a place that is walked has a connection that passes
    pub walked-at : (n place : ℕ) → slice_get (places_where test connections) n ≡ Some place → (c : Connection) × (slice_get connections place ≡ Some c) × (test c ≡ true)
    walked-at n place at =
        let p = passed 0 connections n place at in
        let same : p.index ≡ place = omega (arith, p.is) in
        (p.connection, subst (λ k. slice_get connections k ≡ Some p.connection) same p.there, p.passes)

    module _ (P : ℕ → Type 0) where
      -- what holds of the places that were walked so far holds of each earlier one whose connection passes
      pub walked-before : (n place : ℕ) → slice_get (places_where test connections) n ≡ Some place → ((k other : ℕ) → k < n → slice_get (places_where test connections) k ≡ Some other → P other)
          → (i : ℕ) (c : Connection) → i < place → slice_get connections i ≡ Some c → test c ≡ true → P i
      walked-before n place there each i c lt at passes =
          let f = found 0 connections i i c (omega arith) at passes in
          each f.index i (f.before n place there lt) f.there

      pub walked-all : ((k other : ℕ) → slice_get (places_where test connections) k ≡ Some other → P other) → (i : ℕ) (c : Connection) → slice_get connections i ≡ Some c → test c ≡ true → P i
      walked-all each i c at passes =
          let f = found 0 connections i i c (omega arith) at passes in
          each f.index i f.there
