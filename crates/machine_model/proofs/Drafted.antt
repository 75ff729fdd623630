-- What the drafts of events are: each takes the number that it is given, its event names its kin, and only forks, joins
-- and clones have some.
use Rattle.std.proofs.Common.{◌≡◌, ℕ, zero, suc, ◌+◌, Bool, true, false, cond, List, [], ◌∷◌, ◌++◌, map, length, refl, sym, ap, subst, ◌∙◌, arith}
use Rattle.std.specs.Prelude.{◌↔◌, Option, Some, None, slice_get}
use Rattle.std.specs.List.{flat_map, enumerate_from, range_with_len}
use Rattle.std.specs.Option.{option_map_or}
use Rattle.std.proofs.lemmas.List.{append-nil, length-append, map-append}
use Rattle.flowfile_record.specs.Kin.{pairs_named, pairs_of}
use Rattle.flowfile_record.specs.Outcome.{same_attributes}
use Rattle.flowfile_record.specs.declared.event.Event.{Event}
use Rattle.flowfile_record.specs.declared.worked.Origin.{Origin}
use Rattle.flowfile_record.specs.declared.worked.Origin.TheVariants as origin
use Rattle.flowfile_record.specs.declared.worked.Outcome.{Outcome}
use Rattle.flowfile_record.specs.declared.worked.Sent.{Sent}
use Rattle.machine_model.specs.Events.{Draft, ascending, number_at, created, received, fork_of, forked_children, forks, joined, clone_event, copies, clonings, modified, attributes_modified, is_removed, routed, sent, dropped, drafts, numbered_from}
use Rattle.machine_model.specs.Placing.{EndedSession, SettledFile, SettlementClone, Destination, Queues, Returns, Drops, Leaves, settled_files, settlement_clones}
use Rattle.machine_model.proofs.Among.{Among, is_made, makes, ascending-has, ascending-had}
use Rattle.machine_model.proofs.Tally.{Each, each-append, each-flat_map, each-map}

-- lists have the same pairs
abbrev pub SamePairs : List (ℕ × ℕ) → List (ℕ × ℕ) → Type 0
SamePairs ps qs = (pair : ℕ × ℕ) → Among pair ps ↔ Among pair qs

same-pairs : (ps qs : List (ℕ × ℕ)) → ps ≡ qs → SamePairs ps qs
same-pairs ps qs is pair = (subst (Among pair) is, subst (Among pair) (sym is))

-- a draft takes its number, and its event names the draft's kin
pub record IsDraft (draft : Draft) : Type 0 where
  pub number : (n : ℕ) → (draft.event n).number ≡ n
  pub kin : (n : ℕ) → SamePairs (pairs_named (draft.event n)) draft.kin

-- a draft without kin, whose event names none
pub record IsPlain (draft : Draft) : Type 0 where
  pub number : (n : ℕ) → (draft.event n).number ≡ n
  pub named : (n : ℕ) → pairs_named (draft.event n) ≡ []
  pub kin : draft.kin ≡ []

pub draft-of-plain : (draft : Draft) → IsPlain draft → IsDraft draft
draft-of-plain draft h = record { number = h.number; kin = λ n. same-pairs (pairs_named (draft.event n)) draft.kin (h.named n ∙ sym h.kin) }

drafts_of_plain : (ds : List Draft) → Each IsPlain ds → Each IsDraft ds
drafts_of_plain [] h = tt
drafts_of_plain (d ∷ ds) h = (draft-of-plain d h.0, drafts_of_plain ds h.1)

each-cond : {X : Type 0} (P : X → Type 0) (b : Bool) (xs ys : List X) → Each P xs → Each P ys → Each P (cond b xs ys)
each-cond P true xs ys h k = h
each-cond P false xs ys h k = k

each-option : {X Y : Type 0} (P : Y → Type 0) (g : X → List Y) (o : Option X) → ((x : X) → Each P (g x)) → Each P (option_map_or g o [])
each-option P g None h = tt
each-option P g (Some x) h = h x

-- ---- what names no kin

plain_created : (session : EndedSession) (file : SettledFile) (from : Origin) → Each IsPlain (created session file from)
plain_created session file origin.Created = (record { number = λ n. refl; named = λ n. refl; kin = refl }, tt)
plain_created session file _ = tt

plain_received : (session : EndedSession) (file : SettledFile) (from : Origin) → Each IsPlain (received session file from)
plain_received session file origin.Received = (record { number = λ n. refl; named = λ n. refl; kin = refl }, tt)
plain_received session file _ = tt

plain_modified : (session : EndedSession) (file : SettledFile) (from : Origin) → Each IsPlain (modified session file from)
plain_modified session file (origin.Taken place) =
    each-cond IsPlain (is_removed file.worked.end) [] _ tt (each-cond IsPlain file.worked.written _ [] (record { number = λ n. refl; named = λ n. refl; kin = refl }, tt) tt)
plain_modified session file _ = tt

plain_attributes : (session : EndedSession) (file : SettledFile) (from : Origin) → Each IsPlain (attributes_modified session file from)
plain_attributes session file (origin.Taken place) =
    each-cond IsPlain _ [] _ tt (each-option IsPlain _ (slice_get session.taken place) (λ taken.
    each-cond IsPlain (same_attributes taken.attributes file.attributes) [] _ tt (record { number = λ n. refl; named = λ n. refl; kin = refl }, tt)))
plain_attributes session file _ = tt

plain_routed : (session : EndedSession) (file : SettledFile) (relationship : Option ℕ) → Each IsPlain (routed session file relationship)
plain_routed session file (Some relationship) = (record { number = λ n. refl; named = λ n. refl; kin = refl }, tt)
plain_routed session file None = tt

pub plain_sent : (session : EndedSession) (files : List SettledFile) (put : Option Sent) → Each IsPlain (sent session files put)
plain_sent session files (Some put) = each-option IsPlain _ (slice_get files put.place) (λ file. (record { number = λ n. refl; named = λ n. refl; kin = refl }, tt))
plain_sent session files None = tt

plain_dropped : (session : EndedSession) (file : SettledFile) (goes : Destination) → Each IsPlain (dropped session file goes)
plain_dropped session file (Drops relationship) = (record { number = λ n. refl; named = λ n. refl; kin = refl }, tt)
plain_dropped session file Leaves = (record { number = λ n. refl; named = λ n. refl; kin = refl }, tt)
plain_dropped session file (Queues first others) = tt
plain_dropped session file Returns = tt

-- ---- what names kin

pairs_of_one : (parent : ℕ) (children : List ℕ) → pairs_of (parent ∷ []) children ≡ map (λ child. (child, parent)) children
pairs_of_one parent [] = refl
pairs_of_one parent (child ∷ children) = ap (λ rest. (child, parent) ∷ rest) (pairs_of_one parent children)

draft_fork : (session : EndedSession) (parent : SettledFile) (children : List ℕ) → Each IsDraft (fork_of session parent children)
draft_fork session parent [] = tt
draft_fork session parent (child ∷ children) = (record { number = λ n. refl; kin = λ n. same-pairs _ _ (pairs_of_one parent.number (child ∷ children)) }, tt)

-- parents have other places in a list of them that ascends
joined_pairs : (child : ℕ) (at : ℕ → ℕ) (parents : List ℕ) → SamePairs (pairs_of (ascending (map at parents)) (child ∷ [])) (map (λ place. (child, at place)) parents)
joined_pairs child at parents pair =
    let named = ascending (map at parents) in
    let one : ℕ → ℕ × ℕ = λ parent. (child, parent) in
    let whole : pairs_of named (child ∷ []) ≡ map one named = append-nil (map one named) in (
      λ h.
          let made = is_made one named pair (subst (Among pair) whole h) in
          let parent = is_made at parents made.source (ascending-had made.source (map at parents) made.there) in
          subst (λ p. Among p (map (λ place. (child, at place)) parents)) (ap one parent.is ∙ made.is) (makes (λ place. (child, at place)) parents parent.source parent.there),
      λ h.
          let made = is_made (λ place. (child, at place)) parents pair h in
          subst (Among pair) (sym whole)
          (subst (λ p. Among p (map one named)) made.is
          (makes one named (at made.source) (ascending-has (at made.source) (map at parents) (makes at parents made.source made.there)))),
    )

draft_joined : (session : EndedSession) (files : List SettledFile) (file : SettledFile) (from : Origin) → Each IsDraft (joined session files file from)
draft_joined session files file (origin.Joined parents) = (record { number = λ n. refl; kin = λ n. joined_pairs file.number (number_at files) parents }, tt)
draft_joined session files file _ = tt

draft_clone : (session : EndedSession) (original : SettledFile) (clone : ℕ) → IsDraft (clone_event session original clone)
draft_clone session original clone = record { number = λ n. refl; kin = λ n pair. (λ h. h, λ h. h) }

draft_clonings : (session : EndedSession) (files : List SettledFile) → Each IsDraft (clonings session files)
draft_clonings session files =
    each-flat_map IsDraft (λ f. map (λ copy. clone_event session f.1 copy.number) (copies files f.0)) (enumerate_from 0 files) (λ f.
    each-map IsDraft (λ copy. clone_event session f.1 copy.number) (copies files f.0) (λ copy. draft_clone session f.1 copy.number))

-- ---- all drafts of a session, part by part

abbrev pub first_part : EndedSession → List SettledFile → List Draft
first_part session files = flat_map (λ file. created session file file.worked.origin) files ++ flat_map (λ file. received session file file.worked.origin) files

abbrev pub joined_part : EndedSession → List SettledFile → List Draft
joined_part session files = flat_map (λ file. joined session files file file.worked.origin) files

abbrev pub modified_part : EndedSession → List SettledFile → List Draft
modified_part session files = flat_map (λ file. modified session file file.worked.origin) files

abbrev pub attributes_part : EndedSession → List SettledFile → List Draft
attributes_part session files = flat_map (λ file. attributes_modified session file file.worked.origin) files

abbrev pub routed_part : EndedSession → List SettledFile → List Draft
routed_part session files = flat_map (λ file. routed session file file.worked.routed) files

abbrev pub clones_part : EndedSession → List SettlementClone → List Draft
clones_part session clones = map (λ clone. clone_event session clone.original clone.number) clones

abbrev pub dropped_part : EndedSession → List SettledFile → List Draft
dropped_part session files = flat_map (λ file. dropped session file file.goes) files

pub plain_first_part : (session : EndedSession) (files : List SettledFile) → Each IsPlain (first_part session files)
plain_first_part session files =
    each-append IsPlain (flat_map (λ file. created session file file.worked.origin) files) (flat_map (λ file. received session file file.worked.origin) files)
    (each-flat_map IsPlain (λ file. created session file file.worked.origin) files (λ file. plain_created session file file.worked.origin))
    (each-flat_map IsPlain (λ file. received session file file.worked.origin) files (λ file. plain_received session file file.worked.origin))

pub plain_modified_part : (session : EndedSession) (files : List SettledFile) → Each IsPlain (modified_part session files)
plain_modified_part session files = each-flat_map IsPlain (λ file. modified session file file.worked.origin) files (λ file. plain_modified session file file.worked.origin)

pub plain_attributes_part : (session : EndedSession) (files : List SettledFile) → Each IsPlain (attributes_part session files)
plain_attributes_part session files = each-flat_map IsPlain (λ file. attributes_modified session file file.worked.origin) files (λ file. plain_attributes session file file.worked.origin)

pub plain_routed_part : (session : EndedSession) (files : List SettledFile) → Each IsPlain (routed_part session files)
plain_routed_part session files = each-flat_map IsPlain (λ file. routed session file file.worked.routed) files (λ file. plain_routed session file file.worked.routed)

pub plain_dropped_part : (session : EndedSession) (files : List SettledFile) → Each IsPlain (dropped_part session files)
plain_dropped_part session files = each-flat_map IsPlain (λ file. dropped session file file.goes) files (λ file. plain_dropped session file file.goes)

draft_forks : (session : EndedSession) (files : List SettledFile) → Each IsDraft (forks session files)
draft_forks session files = each-flat_map IsDraft (λ f. fork_of session f.1 (forked_children files f.0)) (enumerate_from 0 files) (λ f. draft_fork session f.1 (forked_children files f.0))

draft_clones : (session : EndedSession) (clones : List SettlementClone) → Each IsDraft (clones_part session clones)
draft_clones session clones = each-map IsDraft (λ clone. clone_event session clone.original clone.number) clones (λ clone. draft_clone session clone.original clone.number)

pub session-drafts : (session : EndedSession) (outcome : Outcome) → Each IsDraft (drafts session outcome)
session-drafts session outcome =
    let files = settled_files session outcome.files in
    let clones = settlement_clones session outcome.files in
    let a = first_part session files in
    let b = forks session files in
    let c = joined_part session files in
    let d = clonings session files in
    let e = modified_part session files in
    let f = attributes_part session files in
    let g = routed_part session files in
    let h = sent session files outcome.sent in
    let i = clones_part session clones in
    let j = dropped_part session files in
    each-append IsDraft (a ++ b ++ c ++ d ++ e ++ f ++ g ++ h ++ i) j
    (each-append IsDraft (a ++ b ++ c ++ d ++ e ++ f ++ g ++ h) i
    (each-append IsDraft (a ++ b ++ c ++ d ++ e ++ f ++ g) h
    (each-append IsDraft (a ++ b ++ c ++ d ++ e ++ f) g
    (each-append IsDraft (a ++ b ++ c ++ d ++ e) f
    (each-append IsDraft (a ++ b ++ c ++ d) e
    (each-append IsDraft (a ++ b ++ c) d
    (each-append IsDraft (a ++ b) c
    (each-append IsDraft a b (drafts_of_plain a (plain_first_part session files)) (draft_forks session files))
    (each-flat_map IsDraft (λ file. joined session files file file.worked.origin) files (λ file. draft_joined session files file file.worked.origin)))
    (draft_clonings session files))
    (drafts_of_plain e (plain_modified_part session files)))
    (drafts_of_plain f (plain_attributes_part session files)))
    (drafts_of_plain g (plain_routed_part session files)))
    (drafts_of_plain h (plain_sent session files outcome.sent)))
    (draft_clones session clones))
    (drafts_of_plain j (plain_dropped_part session files))

-- ---- numbers in a row

pub numbers_in_row : (k : ℕ) (ds : List Draft) → Each IsDraft ds → map (λ (event : Event). event.number) (numbered_from k ds) ≡ range_with_len k (length (numbered_from k ds))
numbers_in_row k [] h = refl
numbers_in_row k (d ∷ ds) h = rw (h.0.number k) (ap (λ xs. k ∷ xs) (numbers_in_row (k + 1) ds h.1))

pub row_joined : (k m n : ℕ) → range_with_len k (m + n) ≡ range_with_len k m ++ range_with_len (k + m) n
row_joined k zero n = let none : zero + n ≡ n = omega arith in let same : k + zero ≡ k = omega arith in rw (none, same)
row_joined k (suc m) n =
    let more : suc m + n ≡ suc (m + n) = omega arith in let same : k + suc m ≡ k + 1 + m = omega arith in
    rw (more, same) (ap (λ xs. k ∷ xs) (row_joined (k + 1) m n))

pub row_goes_on : (line last : ℕ) (events : List Event) (ds : List Draft) → Each IsDraft ds → last ≡ line + length events → map (λ (event : Event). event.number) events ≡ range_with_len (line + 1) (length events)
    → map (λ (event : Event). event.number) (events ++ numbered_from (last + 1) ds) ≡ range_with_len (line + 1) (length (events ++ numbered_from (last + 1) ds))
row_goes_on line last events ds honest last_is before =
    let new = numbered_from (last + 1) ds in
    let at : line + 1 + length events ≡ last + 1 = omega arith in
    map-append (λ (event : Event). event.number) events new
    ∙ ap (λ xs. xs ++ map (λ (event : Event). event.number) new) before
    ∙ ap (λ xs. range_with_len (line + 1) (length events) ++ xs) (numbers_in_row (last + 1) ds honest ∙ ap (λ k. range_with_len k (length new)) (sym at))
    ∙ sym (row_joined (line + 1) (length events) (length new)) ∙ ap (range_with_len (line + 1)) (sym (length-append events new))

pub length-numbered : (first : ℕ) (ds : List Draft) → length (numbered_from first ds) ≡ length ds
length-numbered first [] = refl
length-numbered first (d ∷ ds) = ap suc (length-numbered (first + 1) ds)
