-- What a rule picks is among what it picks from.
use Rattle.std.proofs.Common.{inl, inr, ℕ, zero, suc, ◌+◌, ◌-◌, Bool, true, false, cond, List, [], ◌∷◌, length, refl, subst}
use Rattle.std.specs.Prelude.{◌&&◌, ◌||◌, nat_le, nat_lt, Option, None, Some, IfSome, filter, find}
use Rattle.std.proofs.lemmas.List.Sorted.{IsPermutation-sym, Contains-permutation}
use Rattle.flowfile_record.specs.declared.TheConstants.{CONTENT_MAX}
use Rattle.prioritizer.specs.declared.prioritizer.Prioritizer.{Prioritizer}
use Rattle.machine_model.specs.declared.flow.QueueLimits.{QueueLimits}
use Rattle.machine_model.specs.declared.kind.TakeRule.{TakeRule}
use Rattle.machine_model.specs.declared.kind.TakeRule.TheVariants.{Source, One, Bin, Defragment}
use Rattle.machine_model.specs.Order.{eligible_files, in_order, is_eligible}
use Rattle.machine_model.specs.Taking.{Fragment, filling, first_some, first_whole, fragment_at, fragment_of, fragments_from, is_fragment_at, joined_option, next_would_pass, picks, whole_of}
use Rattle.machine_model.specs.View.{FileView}
use Rattle.machine_model.proofs.Among.{Among, among_contained, contains_among, kept_by}
use Rattle.machine_model.proofs.Options.{if_weaker, if_when}
use Rattle.machine_model.proofs.Ordered.{in_order-permutes}

abbrev pub AreAmong : (files picked : List FileView) → Type 0
AreAmong files picked = (view : FileView) → Among view picked → Among view files

alone : (files : List FileView) (file : FileView) → Among file files → AreAmong files (file ∷ [])
alone files file there view (inl is) = subst (λ v. Among v files) is there
alone files file there view (inr later) = absurd later

-- ---- a bin

filling_among : (most room : ℕ) (files : List FileView) → AreAmong files (filling most room files)
filling_among most room [] view there = there
filling_among zero room (file ∷ files) view there = absurd there
filling_among (suc most) room (file ∷ files) view there =
    elim (nat_le file.size room) as (λ b. Among view (cond b (file ∷ filling most (room - file.size) files) []) → Among view (file ∷ files)) [
      | true ↦ λ h. elim h [ inl is ↦ inl is | inr later ↦ inr (filling_among most (room - file.size) files view later) ]
      | false ↦ λ h. absurd h
    ] there

-- ---- fragments of a whole

found_among : (p : FileView → Bool) (files : List FileView) → IfSome (find p files) (λ file. Among file files)
found_among p [] = tt
found_among p (file ∷ files) =
    let rest = if_weaker (find p files) (λ other. Among other files) (λ other. Among other (file ∷ files)) (λ other later. inr later) (found_among p files) in
    elim (p file) as (λ b. IfSome (cond b (Some file) (find p files)) (λ other. Among other (file ∷ files))) [ true ↦ inl refl | false ↦ rest ]

joined_among : (files : List FileView) (first : Option FileView) (rest : Option (List FileView)) → IfSome first (λ file. Among file files) → IfSome rest (AreAmong files)
    → IfSome (joined_option first rest) (AreAmong files)
joined_among files None None one others = tt
joined_among files None (Some rest) one others = tt
joined_among files (Some file) None one others = tt
joined_among files (Some file) (Some rest) one others =
    λ view there. elim there [ inl is ↦ subst (λ v. Among v files) is one | inr later ↦ others view later ]

fragments_among : (fragment : Fragment) (index left : ℕ) (files : List FileView) → IfSome (fragments_from fragment index left files) (AreAmong files)
fragments_among fragment index zero files = λ view there. absurd there
fragments_among fragment index (suc left) files =
    joined_among files (fragment_at fragment index files) (fragments_from fragment (index + 1) left files)
    (found_among (λ file. is_fragment_at fragment index (fragment_of file.attributes)) files) (fragments_among fragment (index + 1) left files)

whole_among : (files : List FileView) (file : FileView) (fragment : Option Fragment) → Among file files → IfSome (whole_of files file fragment) (AreAmong files)
whole_among files file None there = alone files file there
whole_among files file (Some fragment) there = fragments_among fragment 1 fragment.count files

either_among : (files : List FileView) (one other : Option (List FileView)) → IfSome one (AreAmong files) → IfSome other (AreAmong files) → IfSome (first_some one other) (AreAmong files)
either_among files None other first second = second
either_among files (Some one) other first second = first

first_among : (files rest : List FileView) → AreAmong files rest → IfSome (first_whole files rest) (AreAmong files)
first_among files [] there = tt
first_among files (file ∷ rest) there =
    either_among files (whole_of files file (fragment_of file.attributes)) (first_whole files rest)
    (whole_among files file (fragment_of file.attributes) (there file (inl refl))) (first_among files rest (λ view later. there view (inr later)))

-- ---- each rule

pub picks_among : (rule : TakeRule) (files : List FileView) → IfSome (picks rule files) (AreAmong files)
picks_among Source files = tt
picks_among One [] = tt
picks_among One (file ∷ files) = alone (file ∷ files) file (inl refl)
picks_among (Bin min max) files =
    let bin = filling max CONTENT_MAX files in
    if_when (nat_lt 0 (length bin) && (nat_le min (length bin) || next_would_pass (length bin) CONTENT_MAX files)) bin (AreAmong files)
    (λ passes. filling_among max CONTENT_MAX files)
picks_among Defragment files = first_among files files (λ view there. there)

-- an eligible file is one of the queue
pub eligible_among : (order : List Prioritizer) (limits : QueueLimits) (moment : ℕ) (files : List FileView) → AreAmong files (eligible_files order limits moment files)
eligible_among order limits moment files view there =
    let kept = filter (is_eligible limits moment) files in
    let ordered = in_order order kept in
    (kept_by (is_eligible limits moment) files view
    (among_contained view kept (Contains-permutation ordered kept view (IsPermutation-sym kept ordered (in_order-permutes order kept)) (contains_among view ordered there)))).0
