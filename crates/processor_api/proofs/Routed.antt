-- A session that routes the file that it took, with clones.
use Rattle.std.proofs.Common.{◌≡◌, ℕ, ◌<◌, Bool, true, false, cond, List, [], ◌∷◌, length, map, None, Some, refl, sym, ◌∙◌, ap, subst, arith}
use Rattle.std.specs.Prelude.{◌||◌, ◌==◌}
use Rattle.std.specs.List.{All}
use Rattle.std.proofs.lemmas.Bool.{ne_eqb}
use Rattle.std.proofs.lemmas.List.Elements.{All-cons, All-map, All-nil}
use Rattle.flowfile_record.specs.Attributes.{AttributeMap}
use Rattle.flowfile_record.specs.declared.worked.End.TheVariants.{To}
use Rattle.flowfile_record.specs.declared.worked.Origin.TheVariants.{Cloned}
use Rattle.flowfile_record.specs.declared.worked.Outcome.{Outcome}
use Rattle.flowfile_record.specs.declared.worked.Worked.{Worked}
use Rattle.machine_model.specs.Making.{TakenFile, may_have, or_given_up, passed_on}
use Rattle.machine_model.specs.RouteOnAttribute.{routed, routed_clone, routed_file}
use Rattle.process_session.specs.Bench.{Bench, bench_attributes}
use Rattle.process_session.specs.Changes.{with_end, with_route}
use Rattle.processor_api.specs.Sessions.{BeganWithOne, EndsWith}
use Rattle.processor_api.specs.Cloning.{with_ended}
use Rattle.processor_api.proofs.Clones.{IsClone, ends-with, no-clones, passed-is, routed-is}

abbrev pub routed_clones : AttributeMap → List ℕ → List Worked
routed_clones attributes others = map (routed_clone attributes) others

pub are-clones : (attributes : AttributeMap) (others : List ℕ) → All (IsClone attributes) (routed_clones attributes others)
are-clones attributes others = All-map (IsClone attributes) (routed_clone attributes) others (each others)
  where
    each : (others : List ℕ) → All (λ relationship. IsClone attributes (routed_clone attributes relationship)) others
    each [] = All-nil (λ relationship. IsClone attributes (routed_clone attributes relationship))
    each (one ∷ more) = All-cons (λ relationship. IsClone attributes (routed_clone attributes relationship)) one more (record { origin = refl; attributes = refl; goes = (one, refl) }) (each more)

-- no clones
pub routes-alone : (before after : Bench) (relationship : ℕ) → BeganWithOne before → after ≡ with_end (with_route before 0 relationship) 0 (To relationship)
    → EndsWith before after (record { files = routed_file (bench_attributes before 0) relationship ∷ []; sent = None })
routes-alone before after relationship took is =
    ends-with before after (bench_attributes before 0) (routed_file (bench_attributes before 0) relationship) [] refl (All-nil _)
    (is ∙ ap (λ b. with_end (with_route b 0 relationship) 0 (To relationship)) (sym (no-clones before)) ∙ routed-is before [] relationship took)

pub routes-cloned : (before after : Bench) (first : ℕ) (others : List ℕ) → BeganWithOne before → after ≡ with_end (with_route (with_ended before (routed_clones (bench_attributes before 0) others)) 0 first) 0 (To first)
    → EndsWith before after (record { files = routed_file (bench_attributes before 0) first ∷ routed_clones (bench_attributes before 0) others; sent = None })
routes-cloned before after first others took is =
    let clones = routed_clones (bench_attributes before 0) others in
    ends-with before after (bench_attributes before 0) (routed_file (bench_attributes before 0) first) clones refl (are-clones (bench_attributes before 0) others) (is ∙ routed-is before clones first took)

pub gives-up : (before after : Bench) (unmatched : ℕ) → BeganWithOne before → after ≡ with_end before 0 (To unmatched)
    → EndsWith before after (record { files = passed_on 0 (bench_attributes before 0) false unmatched ∷ []; sent = None })
gives-up before after unmatched took is =
    ends-with before after (bench_attributes before 0) (passed_on 0 (bench_attributes before 0) false unmatched) [] refl (All-nil _)
    (is ∙ ap (λ b. with_end b 0 (To unmatched)) (sym (no-clones before)) ∙ passed-is before [] unmatched took)

routed-some : (unmatched first : ℕ) (others : List ℕ) (file : TakenFile) (attributes : AttributeMap) → file.attributes ≡ attributes → ((length others == 0) || may_have (Cloned 0) attributes) ≡ true
    → routed unmatched file (first ∷ others) ≡ record { files = routed_file attributes first ∷ routed_clones attributes others; sent = None }
routed-some unmatched first others file attributes same may =
    let outcome : AttributeMap → Outcome = λ a. record { files = routed_file a first ∷ routed_clones a others; sent = None } in
    let P : Bool → Outcome = λ b. or_given_up unmatched (file ∷ []) (cond b (Some (outcome file.attributes)) None) in
    ap P (ap (λ a. (length others == 0) || may_have (Cloned 0) a) same ∙ may) ∙ ap outcome same

routed-none : (unmatched first : ℕ) (others : List ℕ) (file : TakenFile) (attributes : AttributeMap) → file.attributes ≡ attributes → ((length others == 0) || may_have (Cloned 0) attributes) ≡ false
    → routed unmatched file (first ∷ others) ≡ record { files = passed_on 0 attributes false unmatched ∷ []; sent = None }
routed-none unmatched first others file attributes same isnt =
    let outcome : AttributeMap → Outcome = λ a. record { files = routed_file a first ∷ routed_clones a others; sent = None } in
    let P : Bool → Outcome = λ b. or_given_up unmatched (file ∷ []) (cond b (Some (outcome file.attributes)) None) in
    ap P (ap (λ a. (length others == 0) || may_have (Cloned 0) a) same ∙ isnt) ∙ ap (λ a. record { files = passed_on 0 a false unmatched ∷ []; sent = None }) same

-- each case of the places, as a session leaves it
abbrev pub EndsRouted : Bench → Bench → (unmatched : ℕ) → List ℕ → Type 0
EndsRouted before after unmatched places = (file : TakenFile) → file.attributes ≡ bench_attributes before 0 → EndsWith before after (routed unmatched file places)

pub none-routed : (before after : Bench) (unmatched : ℕ) (places : List ℕ) → BeganWithOne before → places ≡ [] → after ≡ with_end (with_route before 0 unmatched) 0 (To unmatched) → EndsRouted before after unmatched places
none-routed before after unmatched places took none is =
    subst (EndsRouted before after unmatched) (sym none)
    (λ file same. subst (λ a. EndsWith before after (record { files = routed_file a unmatched ∷ []; sent = None })) (sym same) (routes-alone before after unmatched took is))

pub some-routed : (before after : Bench) (unmatched first : ℕ) (others places : List ℕ) → BeganWithOne before → places ≡ first ∷ others → ((length others == 0) || may_have (Cloned 0) (bench_attributes before 0)) ≡ true
    → after ≡ with_end (with_route (with_ended before (routed_clones (bench_attributes before 0) others)) 0 first) 0 (To first) → EndsRouted before after unmatched places
some-routed before after unmatched first others places took are may is =
    subst (EndsRouted before after unmatched) (sym are)
    (λ file same. subst (EndsWith before after) (sym (routed-some unmatched first others file (bench_attributes before 0) same may)) (routes-cloned before after first others took is))

pub up-routed : (before after : Bench) (unmatched first : ℕ) (others places : List ℕ) → BeganWithOne before → places ≡ first ∷ others → ((length others == 0) || may_have (Cloned 0) (bench_attributes before 0)) ≡ false
    → after ≡ with_end before 0 (To unmatched) → EndsRouted before after unmatched places
up-routed before after unmatched first others places took are isnt is =
    subst (EndsRouted before after unmatched) (sym are)
    (λ file same. subst (EndsWith before after) (sym (routed-none unmatched first others file (bench_attributes before 0) same isnt)) (gives-up before after unmatched took is))

pub no_places : (places : List ℕ) → length places ≡ 0 → places ≡ []
no_places [] none = refl
no_places (place ∷ places) none = absurd (omega arith)

-- where there are clones to make, the file may be cloned
pub may-clone : (others : List ℕ) (may : Bool) → ((length others == 0) || may) ≡ true → 0 < length others → may ≡ true
may-clone others may holds some =
    let isnt : (length others == 0) ≡ false = ne_eqb (length others) 0 (omega arith) in
    sym (ap (λ b. b || may) isnt) ∙ holds
