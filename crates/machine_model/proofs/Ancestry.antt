-- That the drafts of a session have the kin of its files, and no other, and that their events tell of it.
use Rattle.std.proofs.Common.{◌≡◌, ◌⊎◌, inl, inr, ℕ, ◌+◌, ◌<◌, true, List, [], ◌∷◌, ◌++◌, map, length, refl, sym, ap, subst, ◌∙◌}
use Rattle.std.specs.Prelude.{◌↔◌}
use Rattle.std.specs.FinSet.{from_list, union}
use Rattle.std.specs.List.{flat_map}
use Rattle.std.proofs.lemmas.Bool.{eq-eqb}
use Rattle.std.proofs.lemmas.List.Concat.{flat_map-append}
use Rattle.flowfile_record.specs.Outcome.{parents_of}
use Rattle.flowfile_record.specs.Kin.{kin_of, kin_of_all, pairs_named}
use Rattle.flowfile_record.specs.declared.event.Event.{Event}
use Rattle.flowfile_record.specs.declared.worked.Origin.{Origin}
use Rattle.flowfile_record.specs.declared.worked.Origin.TheVariants as origin
use Rattle.flowfile_record.specs.declared.worked.Outcome.{Outcome}
use Rattle.flowfile_record.specs.declared.event.EventKind.TheVariants as kind
use Rattle.machine_model.specs.Events.{Draft, of_file, number_at, is_forked_from, forks, joined, clone_event, is_cloned_from, clonings, sent, drafts, numbered_from, kin_from, ascending}
use Rattle.machine_model.specs.Placing.{EndedSession, SettledFile, SettlementClone, settled_files, settlement_clones}
use Rattle.machine_model.specs.State.{Kin}
use Rattle.machine_model.specs.Settling.{kin_of_files}
use Rattle.machine_model.proofs.Among.{Among, each_among, among_left, among_right, among_either, comes_from, goes_to, is_made, makes}
use Rattle.machine_model.proofs.Drafted.{IsDraft, IsPlain, first_part, joined_part, modified_part, attributes_part, routed_part, clones_part, dropped_part, plain_first_part, plain_modified_part, plain_attributes_part, plain_routed_part, plain_sent, plain_dropped_part}
use Rattle.machine_model.proofs.KinSets.{SameKin, same_kin, kin_joined}
use Rattle.machine_model.proofs.Kinships.{Tell, kinship, HasChild, HasClone, only, fork_told, clone_told, forks_tell, joins_tell, clones_tell, settlement_tells}
use Rattle.machine_model.proofs.Tally.{Each}

-- ---- the kin of files and clones

pub kin-has : (files : List SettledFile) (clones : List SettlementClone) (child parent : ℕ) → HasChild files child parent ⊎ HasClone clones child parent → Among (kinship child parent) (kin_of_files files clones)
kin-has files clones child parent (inl has) =
    let kin = has.kin in
    let of_file = λ (file : SettledFile). map (λ place. kinship file.number (number_at files place)) (parents_of file.worked.origin) in
    among_left (kinship child parent) (flat_map of_file files) _
    (goes_to of_file files has.file (kinship child parent) has.there
    (subst (λ k. Among k (of_file has.file)) (λ i. kinship (kin.is_child i) (kin.is_parent i)) (makes (λ place. kinship has.file.number (number_at files place)) (parents_of has.file.worked.origin) kin.place kin.named)))
kin-has files clones child parent (inr has) =
    let of_clone = λ (clone : SettlementClone). kinship clone.number clone.original.number in
    among_right (kinship child parent) _ (map of_clone clones)
    (subst (λ k. Among k (map of_clone clones)) (λ i. kinship (has.is_child i) (has.is_parent i)) (makes of_clone clones has.clone has.there))

pub kin-had : (files : List SettledFile) (clones : List SettlementClone) (child parent : ℕ) → Among (kinship child parent) (kin_of_files files clones) → HasChild files child parent ⊎ HasClone clones child parent
kin-had files clones child parent h =
    let of_file = λ (file : SettledFile). map (λ place. kinship file.number (number_at files place)) (parents_of file.worked.origin) in
    let of_clone = λ (clone : SettlementClone). kinship clone.number clone.original.number in
    elim (among_either (kinship child parent) (flat_map of_file files) (map of_clone clones) h) [
      | inl here ↦
          let from = comes_from of_file files (kinship child parent) here in
          let made = is_made (λ place. kinship from.source.number (number_at files place)) (parents_of from.source.worked.origin) (kinship child parent) from.made in
          inl (record { file = from.source; there = from.there; kin = record { place = made.source; named = made.there; is_child = ap (λ k. k.0) made.is; is_parent = ap (λ k. k.1) made.is } })
      | inr later ↦
          let made = is_made of_clone clones (kinship child parent) later in
          inr (record { clone = made.source; there = made.there; is_child = ap (λ k. k.0) made.is; is_parent = ap (λ k. k.1) made.is })
    ]

-- ---- the parts of a session's drafts

abbrev joined_parts : {X : Type 0} (a b c d e f g h i j : List X) → List X
joined_parts a b c d e f g h i j = a ++ b ++ c ++ d ++ e ++ f ++ g ++ h ++ i ++ j

from_part : {X : Type 0} (P : Type 0) (x : X) (a b c d e f g h i j : List X)
    → (Among x a → P) → (Among x b → P) → (Among x c → P) → (Among x d → P) → (Among x e → P) → (Among x f → P) → (Among x g → P) → (Among x h → P) → (Among x i → P) → (Among x j → P)
    → Among x (joined_parts a b c d e f g h i j) → P
from_part P x a b c d e f g h i j ka kb kc kd ke kf kg kh ki kj all =
    let or = λ (xs ys : List _) (k : Among x xs → P) (l : Among x ys → P) (m : Among x (xs ++ ys)). let out : P = elim (among_either x xs ys m) [ inl here ↦ k here | inr there ↦ l there ] in out in
    or (a ++ b ++ c ++ d ++ e ++ f ++ g ++ h ++ i) j
    (or (a ++ b ++ c ++ d ++ e ++ f ++ g ++ h) i
    (or (a ++ b ++ c ++ d ++ e ++ f ++ g) h
    (or (a ++ b ++ c ++ d ++ e ++ f) g
    (or (a ++ b ++ c ++ d ++ e) f
    (or (a ++ b ++ c ++ d) e
    (or (a ++ b ++ c) d
    (or (a ++ b) c
    (or a b ka kb) kc) kd) ke) kf) kg) kh) ki) kj all

in_fourth : {X : Type 0} (x : X) (a b c d e f g h i j : List X) → Among x (a ++ b ++ c ++ d) → Among x (joined_parts a b c d e f g h i j)
in_fourth x a b c d e f g h i j m =
    among_left x (a ++ b ++ c ++ d ++ e ++ f ++ g ++ h ++ i) j
    (among_left x (a ++ b ++ c ++ d ++ e ++ f ++ g ++ h) i
    (among_left x (a ++ b ++ c ++ d ++ e ++ f ++ g) h
    (among_left x (a ++ b ++ c ++ d ++ e ++ f) g
    (among_left x (a ++ b ++ c ++ d ++ e) f (among_left x (a ++ b ++ c ++ d) e m)))))

plain_tells : (ds : List Draft) (draft : Draft) (child parent : ℕ) (P : Type 0) → Each IsPlain ds → Among (child, parent) draft.kin → Among draft ds → P
plain_tells ds draft child parent P plain k h =
    let none : draft.kin ≡ [] = (each_among IsPlain draft ds plain h).kin in
    absurd (rw none at k)

-- ---- what the drafts have is kin

abbrev HasKin : EndedSession → Outcome → (child parent : ℕ) → Type 0
HasKin session outcome child parent = HasChild (settled_files session outcome.files) child parent ⊎ HasClone (settlement_clones session outcome.files) child parent

pub drafts-tell : (session : EndedSession) (outcome : Outcome) (child parent : ℕ) → Tell (drafts session outcome) child parent → HasKin session outcome child parent
drafts-tell session outcome child parent h =
    let files = settled_files session outcome.files in
    let clones = settlement_clones session outcome.files in
    let from = comes_from (λ (draft : Draft). draft.kin) (drafts session outcome) (child, parent) h in
    let draft = from.source in
    let Q : Type 0 = HasKin session outcome child parent in
    from_part Q draft (first_part session files) (forks session files) (joined_part session files) (clonings session files) (modified_part session files)
    (attributes_part session files) (routed_part session files) (sent session files outcome.sent) (clones_part session clones) (dropped_part session files)
    (plain_tells (first_part session files) draft child parent Q (plain_first_part session files) from.made)
    (λ here. inl (forks_tell session files child parent draft here from.made))
    (λ here. inl (joins_tell session files child parent draft here from.made))
    (λ here. inl (clones_tell session files child parent draft here from.made))
    (plain_tells (modified_part session files) draft child parent Q (plain_modified_part session files) from.made)
    (plain_tells (attributes_part session files) draft child parent Q (plain_attributes_part session files) from.made)
    (plain_tells (routed_part session files) draft child parent Q (plain_routed_part session files) from.made)
    (plain_tells (sent session files outcome.sent) draft child parent Q (plain_sent session files outcome.sent) from.made)
    (λ here. inr (settlement_tells session clones child parent draft here from.made))
    (plain_tells (dropped_part session files) draft child parent Q (plain_dropped_part session files) from.made)
    from.there

-- ---- the drafts have all kin

tell_in : (ds all : List Draft) (child parent : ℕ) → ((draft : Draft) → Among draft ds → Among draft all) → Tell ds child parent → Tell all child parent
tell_in ds all child parent into h =
    let from = comes_from (λ (draft : Draft). draft.kin) ds (child, parent) h in
    goes_to (λ (draft : Draft). draft.kin) all from.source (child, parent) (into from.source from.there) from.made

tell_one : (ds : List Draft) (draft : Draft) (child parent : ℕ) → Among draft ds → Among (child, parent) draft.kin → Tell ds child parent
tell_one ds draft child parent h k = goes_to (λ (draft : Draft). draft.kin) ds draft (child, parent) h k

-- the parts that tell of made files: forks, joins and clones
abbrev telling : EndedSession → List SettledFile → List Draft
telling session files = first_part session files ++ forks session files ++ joined_part session files ++ clonings session files

fork_in : (session : EndedSession) (files : List SettledFile) (child parent : ℕ) → Tell (forks session files) child parent → Tell (telling session files) child parent
fork_in session files child parent h =
    let a = first_part session files in let b = forks session files in let c = joined_part session files in let d = clonings session files in
    tell_in b (a ++ b ++ c ++ d) child parent (λ draft m. among_left draft (a ++ b ++ c) d (among_left draft (a ++ b) c (among_right draft a b m))) h

join_in : (session : EndedSession) (files : List SettledFile) (child parent : ℕ) → Tell (joined_part session files) child parent → Tell (telling session files) child parent
join_in session files child parent h =
    let a = first_part session files in let b = forks session files in let c = joined_part session files in let d = clonings session files in
    tell_in c (a ++ b ++ c ++ d) child parent (λ draft m. among_left draft (a ++ b ++ c) d (among_right draft (a ++ b) c m)) h

clone_in : (session : EndedSession) (files : List SettledFile) (child parent : ℕ) → Tell (clonings session files) child parent → Tell (telling session files) child parent
clone_in session files child parent h =
    let a = first_part session files in let b = forks session files in let c = joined_part session files in let d = clonings session files in
    tell_in d (a ++ b ++ c ++ d) child parent (λ draft m. among_right draft (a ++ b ++ c) d m) h

-- a made file of this origin is told of with each parent
told_of : (session : EndedSession) (files : List SettledFile) (file : SettledFile) (from : Origin) (place : ℕ) → Among file files → file.worked.origin ≡ from → Among place (parents_of from) → place < length files
    → Tell (telling session files) file.number (number_at files place)
told_of session files file (origin.Forked of) place there is named l =
    let forked : is_forked_from place file.worked.origin ≡ true = ap (is_forked_from place) is ∙ eq-eqb of place (only place of named) in
    fork_in session files file.number (number_at files place) (fork_told session files file place there forked l)
told_of session files file (origin.Part of) place there is named l =
    let forked : is_forked_from place file.worked.origin ≡ true = ap (is_forked_from place) is ∙ eq-eqb of place (only place of named) in
    fork_in session files file.number (number_at files place) (fork_told session files file place there forked l)
told_of session files file (origin.Cloned of) place there is named l =
    let cloned : is_cloned_from place file.worked.origin ≡ true = ap (is_cloned_from place) is ∙ eq-eqb of place (only place of named) in
    clone_in session files file.number (number_at files place) (clone_told session files file place there cloned l)
told_of session files file (origin.Joined parents) place there is named l =
    let draft : Draft = record {
      event = of_file session kind.Join file (ascending (map (number_at files) parents)) (file.number ∷ []) [];
      kin = map (λ place. kinship file.number (number_at files place)) parents;
    } in
    let here : Among draft (joined session files file (origin.Joined parents)) = inl refl in
    join_in session files file.number (number_at files place)
    (tell_one (joined_part session files) draft file.number (number_at files place)
    (goes_to (λ file. joined session files file file.worked.origin) files file draft there (subst (λ o. Among draft (joined session files file o)) (sym is) here))
    (makes (λ place. kinship file.number (number_at files place)) parents place named))
told_of session files file (origin.Taken of) place there is named l = absurd named
told_of session files file origin.Created place there is named l = absurd named
told_of session files file origin.Received place there is named l = absurd named

-- origins name files of the outcome
abbrev pub NameFiles : List SettledFile → Type 0
NameFiles files = (file : SettledFile) → Among file files → (place : ℕ) → Among place (parents_of file.worked.origin) → place < length files

pub kin-told : (session : EndedSession) (outcome : Outcome) → NameFiles (settled_files session outcome.files) → (child parent : ℕ) → HasKin session outcome child parent → Tell (drafts session outcome) child parent
kin-told session outcome sound child parent (inl has) =
    let files = settled_files session outcome.files in
    let kin = has.kin in
    let told : Tell (telling session files) has.file.number (number_at files kin.place) = told_of session files has.file has.file.worked.origin kin.place has.there refl kin.named (sound has.file has.there kin.place kin.named) in
    tell_in (telling session files) (drafts session outcome) child parent
    (λ draft m. in_fourth draft (first_part session files) (forks session files) (joined_part session files) (clonings session files) (modified_part session files)
    (attributes_part session files) (routed_part session files) (sent session files outcome.sent) (clones_part session (settlement_clones session outcome.files)) (dropped_part session files) m)
    (subst (λ (p : ℕ × ℕ). Tell (telling session files) p.0 p.1) (λ i. (kin.is_child i, kin.is_parent i)) told)
kin-told session outcome sound child parent (inr has) =
    let files = settled_files session outcome.files in
    let clones = settlement_clones session outcome.files in
    let clone = has.clone in
    let draft = clone_event session clone.original clone.number in
    let here : Among draft (clones_part session clones) = makes (λ (clone : SettlementClone). clone_event session clone.original clone.number) clones clone has.there in
    let told : Tell (drafts session outcome) clone.number clone.original.number
    = tell_one (drafts session outcome) draft clone.number clone.original.number
    (among_left draft _ (dropped_part session files) (among_right draft _ (clones_part session clones) here))
    (inl refl) in
    subst (λ (p : ℕ × ℕ). Tell (drafts session outcome) p.0 p.1) (λ i. (has.is_child i, has.is_parent i)) told

-- ---- events and kin go on together

-- the kin of drafts without the numbers of their events
pub kin-numbered : (k : ℕ) (ds : List Draft) (child parent : ℕ) → ((event : ℕ) × Among (child, parent, event) (kin_from k ds)) ↔ Tell ds child parent
kin-numbered k [] child parent = (λ h. absurd h.1, λ h. absurd h)
kin-numbered k (d ∷ ds) child parent =
    let pair = kinship child parent in
    let under : ℕ × ℕ → ℕ × ℕ × ℕ = λ pair. (pair.0, pair.1, k) in
    let here : List (ℕ × ℕ × ℕ) = map under d.kin in
    let later : List (ℕ × ℕ × ℕ) = kin_from (k + 1) ds in
    let others : List (ℕ × ℕ) = flat_map (λ (draft : Draft). draft.kin) ds in
    let rest = kin-numbered (k + 1) ds child parent in (
      λ h.
          let kin : ℕ × ℕ × ℕ = (child, parent, h.0) in
          elim (among_either kin here later h.1) as (λ _. Among pair (d.kin ++ others)) [
            | inl there ↦
                let made = is_made under d.kin kin there in
                among_left pair d.kin others (subst (λ (pair : ℕ × ℕ). Among pair d.kin) (λ i. ((made.is i).0, (made.is i).1)) made.there)
            | inr there ↦ among_right pair d.kin others (rest.0 (h.0, there))
          ],
      λ h. elim (among_either pair d.kin others h) as (λ _. (event : ℕ) × Among (child, parent, event) (here ++ later)) [
        | inl there ↦ (k, among_left (under pair) here later (makes under d.kin pair there))
        | inr there ↦ let at = rest.1 there in let kin : ℕ × ℕ × ℕ = (child, parent, at.0) in (at.0, among_right kin here later at.1)
      ],
    )

-- what one event tells is the kin of its draft under its number
draft_tells : (k : ℕ) (d : Draft) → IsDraft d → (kin : ℕ × ℕ × ℕ) → Among kin (map (λ (pair : ℕ × ℕ). (pair.0, pair.1, k)) d.kin) ↔ Among kin (kin_of (d.event k))
draft_tells k d is kin =
    let under : ℕ → ℕ × ℕ → ℕ × ℕ × ℕ = λ n pair. (pair.0, pair.1, n) in
    let same : map (under (d.event k).number) (pairs_named (d.event k)) ≡ map (under k) (pairs_named (d.event k)) = ap (λ n. map (under n) (pairs_named (d.event k))) (is.number k) in (
      λ h.
          let made = is_made (under k) d.kin kin h in
          subst (Among kin) (sym same) (subst (λ x. Among x (map (under k) (pairs_named (d.event k)))) made.is (makes (under k) (pairs_named (d.event k)) made.source ((is.kin k made.source).1 made.there))),
      λ h.
          let made = is_made (under k) (pairs_named (d.event k)) kin (subst (Among kin) same h) in
          subst (λ x. Among x (map (under k) d.kin)) made.is (makes (under k) d.kin made.source ((is.kin k made.source).0 made.there)),
    )

kin_told : (k : ℕ) (ds : List Draft) → Each IsDraft ds → SameKin (kin_from k ds) (kin_of_all (numbered_from k ds))
kin_told k [] h kin = (λ m. m, λ m. m)
kin_told k (d ∷ ds) h kin =
    let here : List (ℕ × ℕ × ℕ) = map (λ (pair : ℕ × ℕ). (pair.0, pair.1, k)) d.kin in
    let later : List (ℕ × ℕ × ℕ) = kin_from (k + 1) ds in
    let told : List (ℕ × ℕ × ℕ) = kin_of (d.event k) in
    let others : List (ℕ × ℕ × ℕ) = kin_of_all (numbered_from (k + 1) ds) in
    let one = draft_tells k d h.0 kin in
    let rest = kin_told (k + 1) ds h.1 kin in (
      λ m. elim (among_either kin here later m) as (λ _. Among kin (told ++ others)) [
        | inl there ↦ among_left kin told others (one.0 there)
        | inr there ↦ among_right kin told others (rest.0 there)
      ],
      λ m. elim (among_either kin told others m) as (λ _. Among kin (here ++ later)) [
        | inl there ↦ among_left kin here later (one.1 there)
        | inr there ↦ among_right kin here later (rest.1 there)
      ],
    )

-- events that are added add the kin of their drafts
pub kin_goes_on : (events : List Event) (k : ℕ) (ds : List Draft) (kin : Kin) → Each IsDraft ds → kin ≡ from_list (kin_of_all events)
    → union kin (from_list (kin_from k ds)) ≡ from_list (kin_of_all (events ++ numbered_from k ds))
kin_goes_on events k ds kin honest before =
    let told = kin_of_all (numbered_from k ds) in
    (λ i. union (before i) (same_kin (kin_from k ds) told (kin_told k ds honest) i))
    ∙ kin_joined (kin_of_all events) told ∙ ap from_list (sym (flat_map-append kin_of events (numbered_from k ds)))
