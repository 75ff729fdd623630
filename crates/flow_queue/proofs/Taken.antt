-- What a queue's rules pick, as it is answered, and that no session works on it.
use Rattle.std.proofs.Common.{◌≡◌, inl, inr, ℕ, zero, suc, ◌+◌, ◌-◌, Bool, true, false, cond, ◌&&◌, ◌||◌, List, [], ◌∷◌, length, Option, Some, None, Result, Ok, Err, IfOk, refl, sym, ap, ◌∙◌, subst}
use Rattle.std.specs.Prelude.{All, IfSome, OnOk, OnErr, filter, find, is_some, nat_le, nat_lt}
use Rattle.std.specs.Option.{option_map, unwrap_or}
use Rattle.std.proofs.lemmas.List.Elements.{All-nil, All-cons}
use Rattle.std.proofs.lemmas.List.Sorted.{IsPermutation-sym, Contains-permutation}
use Rattle.flowfile_record.specs.NumberedItems.{AscendsByNumber}
use Rattle.flowfile_record.specs.declared.TheConstants.{CONTENT_MAX}
use Rattle.machine_model.specs.declared.kind.TakeRule.{TakeRule}
use Rattle.machine_model.specs.declared.kind.TakeRule.TheVariants.{Source, One, Bin, Defragment}
use Rattle.machine_model.specs.Due.{numbers_of}
use Rattle.machine_model.specs.Order.{is_eligible, in_order}
use Rattle.machine_model.specs.Taking.{Fragment, fragment_of, is_fragment_at, fragment_at, joined_option, fragments_from, whole_of, first_some, first_whole, filling, next_would_pass, picks}
use Rattle.machine_model.specs.View.{FileView}
use Rattle.machine_model.proofs.Among.{Among, among_contained, contains_among, kept_by}
use Rattle.machine_model.proofs.Ordered.{in_order-permutes}
use Rattle.flow_queue.specs.Picking.{Picks, PicksAll}
use Rattle.flow_queue.specs.Queue.{QueueState, held_number, views_of, IsAtRest, eligible_in, picked, picked_numbers}
use Rattle.flow_queue.proofs.AtRest.{seen-at, resting}

-- ---- the clauses of what is answered

picked-list : (found : Option (List FileView)) → unwrap_or (option_map numbers_of found) [] ≡ picked_numbers found
picked-list None = refl
picked-list (Some files) = refl

some-same : (found : Option (List FileView)) → is_some (option_map numbers_of found) ≡ is_some found
some-same None = refl
some-same (Some files) = refl

pub picks-answer : {E : Type 0} (found : Option (List FileView)) (result : Result Bool E) (list : List ℕ) → Picks (option_map numbers_of found) result list → IfOk result (λ answer. answer ≡ is_some found)
picks-answer found (Ok answer) list h = h.0 ∙ some-same found
picks-answer found (Err error) list h = tt

pub picks-numbers : {E : Type 0} (found : Option (List FileView)) (result : Result Bool E) (list : List ℕ) → Picks (option_map numbers_of found) result list → OnOk result (list ≡ picked_numbers found)
picks-numbers found (Ok answer) list h = h.1 ∙ picked-list found
picks-numbers found (Err error) list h = tt

pub picks-failed : {E : Type 0} (found : Option (List ℕ)) (result : Result Bool E) (list : List ℕ) → Picks found result list → OnErr result (list ≡ [])
picks-failed found (Ok answer) list h = tt
picks-failed found (Err error) list h = h

-- the same of a list of numbers
pub lists-numbers : {E : Type 0} (numbers other : List ℕ) (result : Result (Unit {0}) E) (list : List ℕ) → PicksAll numbers result list → numbers ≡ other → OnOk result (list ≡ other)
lists-numbers numbers other (Ok done) list h is = h ∙ is
lists-numbers numbers other (Err error) list h is = tt

pub lists-all : {E : Type 0} (P : ℕ → Type 0) (numbers : List ℕ) (result : Result (Unit {0}) E) (list : List ℕ) → PicksAll numbers result list → All P numbers → All P list
lists-all P numbers (Ok done) list h all = subst (All P) (sym h) all
lists-all P numbers (Err error) list h all = subst (All P) (sym h) (All-nil P)

-- ---- what is picked stands among the files

abbrev Within : List FileView → List FileView → Type 0
Within files taken = (view : FileView) → Among view taken → Among view files

filling-within : (most room : ℕ) (files : List FileView) → Within files (filling most room files)
filling-within most room [] view h = h
filling-within zero room (file ∷ files) view h = absurd h
filling-within (suc most) room (file ∷ files) view h =
    elim (nat_le file.size room) as (λ b. Among view (cond b (file ∷ filling most (room - file.size) files) []) → Among view (file ∷ files)) [
      | true ↦ λ h. elim h [ inl is ↦ inl is | inr later ↦ inr (filling-within most (room - file.size) files view later) ]
      | false ↦ λ h. absurd h
    ] h

found-within : (p : FileView → Bool) (files : List FileView) → IfSome (find p files) (λ file. Among file files)
found-within p [] = tt
found-within p (file ∷ files) =
    elim (p file) as (λ b. IfSome (cond b (Some file) (find p files)) (λ found. Among found (file ∷ files))) [
      | true ↦ inl refl
      | false ↦ later (find p files) (found-within p files)
    ]
  where
    later : (o : Option FileView) → IfSome o (λ found. Among found files) → IfSome o (λ found. Among found (file ∷ files))
    later None h = tt
    later (Some found) h = inr h

joined-within : (files : List FileView) (found : Option FileView) (rest : Option (List FileView)) → IfSome found (λ file. Among file files) → IfSome rest (Within files) → IfSome (joined_option found rest) (Within files)
joined-within files (Some file) (Some others) h k = λ view there. elim there [ inl is ↦ subst (λ v. Among v files) is h | inr later ↦ k view later ]
joined-within files (Some file) None h k = tt
joined-within files None rest h k = tt

fragments-within : (fragment : Fragment) (index left : ℕ) (files : List FileView) → IfSome (fragments_from fragment index left files) (Within files)
fragments-within fragment index zero files = λ view h. absurd h
fragments-within fragment index (suc left) files =
    joined-within files (fragment_at fragment index files) (fragments_from fragment (index + 1) left files)
    (found-within (λ (file : FileView). is_fragment_at fragment index (fragment_of file.attributes)) files) (fragments-within fragment (index + 1) left files)

whole-within : (files : List FileView) (file : FileView) (fragment : Option Fragment) → Among file files → IfSome (whole_of files file fragment) (Within files)
whole-within files file None here = λ view h. elim h [ inl is ↦ subst (λ v. Among v files) is here | inr none ↦ absurd none ]
whole-within files file (Some fragment) here = fragments-within fragment 1 fragment.count files

some-within : (P : List FileView → Type 0) (one other : Option (List FileView)) → IfSome one P → IfSome other P → IfSome (first_some one other) P
some-within P (Some files) other h k = h
some-within P None other h k = k

first-within : (files rest : List FileView) → ((view : FileView) → Among view rest → Among view files) → IfSome (first_whole files rest) (Within files)
first-within files [] there = tt
first-within files (file ∷ rest) there =
    some-within (Within files) (whole_of files file (fragment_of file.attributes)) (first_whole files rest)
    (whole-within files file (fragment_of file.attributes) (there file (inl refl))) (first-within files rest (λ view h. there view (inr h)))

if_test : (test : Bool) (files taken : List FileView) → Within files taken → IfSome (cond test (Some taken) None) (Within files)
if_test true files taken h = h
if_test false files taken h = tt

picks-within : (rule : TakeRule) (files : List FileView) → IfSome (picks rule files) (Within files)
picks-within Source files = tt
picks-within One [] = tt
picks-within One (file ∷ files) = λ view h. elim h [ inl is ↦ inl is | inr none ↦ absurd none ]
picks-within (Bin min max) files =
    let bin = filling max CONTENT_MAX files in
    if_test (nat_lt 0 (length bin) && (nat_le min (length bin) || next_would_pass (length bin) CONTENT_MAX files)) files bin (filling-within max CONTENT_MAX files)
picks-within Defragment files = first-within files files (λ view h. h)

-- ---- no session works on what is picked

eligible-rests : (moment : ℕ) (queue : QueueState) (view : FileView) → AscendsByNumber held_number queue.files → Among view (eligible_in moment queue) → IsAtRest queue view.number
eligible-rests moment queue view up there =
    let test = is_eligible queue.limits moment in
    let eligible = filter test (views_of queue.files) in
    let ordered = in_order queue.order eligible in
    let kept = kept_by test (views_of queue.files) view
    (among_contained view eligible (Contains-permutation ordered eligible view (IsPermutation-sym eligible ordered (in_order-permutes queue.order eligible)) (contains_among view ordered there))) in
    seen-at queue.files view up (contains_among view (views_of queue.files) kept.0) ∙ ap (λ (b : Bool). Some b) (resting view.in_flight _ _ kept.1)

numbers-rest : (moment : ℕ) (queue : QueueState) (taken : List FileView) → AscendsByNumber held_number queue.files → Within (eligible_in moment queue) taken → All (IsAtRest queue) (numbers_of taken)
numbers-rest moment queue [] up within = All-nil (IsAtRest queue)
numbers-rest moment queue (view ∷ taken) up within =
    All-cons (IsAtRest queue) view.number (numbers_of taken) (eligible-rests moment queue view up (within view (inl refl)))
    (numbers-rest moment queue taken up (λ v h. within v (inr h)))

picked-rest : (moment : ℕ) (queue : QueueState) (found : Option (List FileView)) → AscendsByNumber held_number queue.files → IfSome found (Within (eligible_in moment queue)) → All (IsAtRest queue) (picked_numbers found)
picked-rest moment queue None up within = All-nil (IsAtRest queue)
picked-rest moment queue (Some taken) up within = numbers-rest moment queue taken up within

pub picks-rest : {E : Type 0} (rule : TakeRule) (moment : ℕ) (queue : QueueState) (result : Result Bool E) (list : List ℕ) → AscendsByNumber held_number queue.files
    → Picks (option_map numbers_of (picked rule moment queue)) result list → All (IsAtRest queue) list
picks-rest rule moment queue (Ok answer) list up h =
    subst (All (IsAtRest queue)) (sym (h.1 ∙ picked-list (picked rule moment queue)))
    (picked-rest moment queue (picked rule moment queue) up (picks-within rule (eligible_in moment queue)))
picks-rest rule moment queue (Err error) list up h = subst (All (IsAtRest queue)) (sym h) (All-nil (IsAtRest queue))
