-- That the kin of a session's drafts is that of its files: each made file with each parent that its origin names, and
-- each clone with its original.
use Rattle.std.proofs.Common.{◌≡◌, inl, inr, ℕ, ◌<◌, true, List, [], ◌∷◌, map, length, refl, sym, ap, subst, ◌∙◌, arith}
use Rattle.std.specs.Prelude.{filter}
use Rattle.std.specs.List.{flat_map, enumerate_from}
use Rattle.std.proofs.lemmas.Bool.{eqb-true}
use Rattle.flowfile_record.specs.Outcome.{parents_of}
use Rattle.flowfile_record.specs.declared.worked.Origin.{Origin}
use Rattle.flowfile_record.specs.declared.worked.Origin.TheVariants as origin
use Rattle.machine_model.specs.Events.{Draft, number_at, is_forked_from, forked_children, fork_of, forks, joined, clone_event, is_cloned_from, copies, clonings}
use Rattle.machine_model.specs.Placing.{EndedSession, SettledFile, SettlementClone}
use Rattle.machine_model.proofs.Among.{Among, ComesFrom, comes_from, goes_to, IsMade, is_made, makes, kept_by, keeps}
use Rattle.machine_model.proofs.Drafted.{joined_part, clones_part}
use Rattle.machine_model.proofs.Places.{at_place_below, enumerated, place_of, number-at}

abbrev pub kinship : (child parent : ℕ) → ℕ × ℕ
kinship child parent = (child, parent)

-- drafts have one file as the child of another
abbrev pub Tell : List Draft → (child parent : ℕ) → Type 0
Tell drafts child parent = Among (child, parent) (flat_map (λ draft. draft.kin) drafts)

-- a file is that child, and its origin names that parent
pub record IsChild (files : List SettledFile) (file : SettledFile) (child parent : ℕ) : Type 0 where
  pub place : ℕ
  pub named : Among place (parents_of file.worked.origin)
  pub is_child : file.number ≡ child
  pub is_parent : number_at files place ≡ parent

pub record HasChild (files : List SettledFile) (child parent : ℕ) : Type 0 where
  pub file : SettledFile
  pub there : Among file files
  pub kin : IsChild files file child parent

pub record HasClone (clones : List SettlementClone) (child parent : ℕ) : Type 0 where
  pub clone : SettlementClone
  pub there : Among clone clones
  pub is_child : clone.number ≡ child
  pub is_parent : clone.original.number ≡ parent

-- ---- forks

forked_names : (place : ℕ) (from : Origin) → is_forked_from place from ≡ true → Among place (parents_of from)
forked_names place (origin.Forked parent) h = inl (eqb-true parent place h)
forked_names place (origin.Part parent) h = inl (eqb-true parent place h)
forked_names place (origin.Taken of) h = cc
forked_names place origin.Created h = cc
forked_names place origin.Received h = cc
forked_names place (origin.Cloned parent) h = cc
forked_names place (origin.Joined parents) h = cc

-- what a fork tells is of its parent and of one of its children
record IsForked (parent : ℕ) (children : List ℕ) (child of : ℕ) : Type 0 where
  has_child : Among child children
  is_parent : parent ≡ of

fork_tells : (session : EndedSession) (parent : SettledFile) (children : List ℕ) (draft : Draft) (child of : ℕ) → Among draft (fork_of session parent children) → Among (child, of) draft.kin
    → IsForked parent.number children child of
fork_tells session parent [] draft child of h k = absurd h
fork_tells session parent (first ∷ children) draft child of (inl is) k =
    let made = is_made (λ child. (child, parent.number)) (first ∷ children) (child, of) (subst (λ (d : Draft). Among (child, of) d.kin) (sym is) k) in
    record { has_child = subst (λ c. Among c (first ∷ children)) (ap (λ p. p.0) made.is) made.there; is_parent = ap (λ p. p.1) made.is }
fork_tells session parent (first ∷ children) draft child of (inr h) k = absurd h

pub only : {X : Type 0} (x y : X) → Among x (y ∷ []) → y ≡ x
only x y (inl is) = is
only x y (inr h) = absurd h

pub forks_tell : (session : EndedSession) (files : List SettledFile) (child parent : ℕ) (draft : Draft) → Among draft (forks session files) → Among (child, parent) draft.kin → HasChild files child parent
forks_tell session files child parent draft h k =
    let from = comes_from (λ f. fork_of session f.1 (forked_children files f.0)) (enumerate_from 0 files) draft h in
    let at = place_of 0 files from.source from.there in
    let place = from.source.0 in
    let pair = fork_tells session from.source.1 (forked_children files place) draft child parent from.made k in
    let made = is_made (λ (file : SettledFile). file.number) (filter (λ file. is_forked_from place file.worked.origin) files) child pair.has_child in
    let passed = kept_by (λ file. is_forked_from place file.worked.origin) files made.source made.there in
    let same : at.place ≡ place = omega (arith, at.number) in
    record {
      file = made.source;
      there = passed.0;
      kin = record {
        place = place;
        named = forked_names place made.source.worked.origin passed.1;
        is_child = made.is;
        is_parent = ap (number_at files) (sym same) ∙ number-at files at.place from.source.1 at.is ∙ pair.is_parent;
      };
    }

fork_of_some : (session : EndedSession) (parent : SettledFile) (children : List ℕ) (child : ℕ) → Among child children
    → ComesFrom (λ (draft : Draft). draft.kin) (fork_of session parent children) (child, parent.number)
fork_of_some session parent [] child h = absurd h
fork_of_some session parent (first ∷ children) child h =
    record { source = _; there = inl refl; made = makes (λ child. (child, parent.number)) (first ∷ children) child h }

-- a forked file is told of
pub fork_told : (session : EndedSession) (files : List SettledFile) (file : SettledFile) (place : ℕ) → Among file files → is_forked_from place file.worked.origin ≡ true → place < length files
    → Tell (forks session files) file.number (number_at files place)
fork_told session files file place there forked l =
    let at = at_place_below files place l in
    let children = forked_children files place in
    let child : Among file.number children = makes (λ (f : SettledFile). f.number) (filter (λ f. is_forked_from place f.worked.origin) files) file (keeps (λ f. is_forked_from place f.worked.origin) files file there forked) in
    let event = fork_of_some session at.element children file.number child in
    let among : Among event.source (forks session files)
    = goes_to (λ f. fork_of session f.1 (forked_children files f.0)) (enumerate_from 0 files) (place, at.element) event.source
    (subst (λ n. Among (n, at.element) (enumerate_from 0 files)) (omega arith) (enumerated 0 files place at.element at.is)) event.there in
    subst (λ n. Tell (forks session files) file.number n) (sym (number-at files place at.element at.is))
    (goes_to (λ (draft : Draft). draft.kin) (forks session files) event.source (file.number, at.element.number) among event.made)

-- ---- joins and clones

joined_tells : (session : EndedSession) (files : List SettledFile) (file : SettledFile) (from : Origin) (draft : Draft) (child parent : ℕ) → Among draft (joined session files file from)
    → Among (child, parent) draft.kin → (file.number ≡ child) × IsMade (number_at files) (parents_of from) parent
joined_tells session files file (origin.Joined parents) draft child parent (inl is) k =
    let made = is_made (λ place. (file.number, number_at files place)) parents (child, parent) (subst (λ (d : Draft). Among (child, parent) d.kin) (sym is) k) in
    (ap (λ p. p.0) made.is, record { source = made.source; there = made.there; is = ap (λ p. p.1) made.is })
joined_tells session files file (origin.Joined parents) draft child parent (inr h) k = absurd h
joined_tells session files file (origin.Taken of) draft child parent h k = absurd h
joined_tells session files file origin.Created draft child parent h k = absurd h
joined_tells session files file origin.Received draft child parent h k = absurd h
joined_tells session files file (origin.Forked of) draft child parent h k = absurd h
joined_tells session files file (origin.Part of) draft child parent h k = absurd h
joined_tells session files file (origin.Cloned of) draft child parent h k = absurd h

has_child : (files : List SettledFile) (file : SettledFile) (child parent : ℕ) → Among file files → (file.number ≡ child) × IsMade (number_at files) (parents_of file.worked.origin) parent → HasChild files child parent
has_child files file child parent there (is, made) =
    record { file = file; there = there; kin = record { place = made.source; named = made.there; is_child = is; is_parent = made.is } }

pub joins_tell : (session : EndedSession) (files : List SettledFile) (child parent : ℕ) (draft : Draft) → Among draft (joined_part session files) → Among (child, parent) draft.kin → HasChild files child parent
joins_tell session files child parent draft h k =
    let from = comes_from (λ file. joined session files file file.worked.origin) files draft h in
    has_child files from.source child parent from.there (joined_tells session files from.source from.source.worked.origin draft child parent from.made k)

cloned_names : (place : ℕ) (from : Origin) → is_cloned_from place from ≡ true → Among place (parents_of from)
cloned_names place (origin.Cloned parent) h = inl (eqb-true parent place h)
cloned_names place (origin.Taken of) h = cc
cloned_names place origin.Created h = cc
cloned_names place origin.Received h = cc
cloned_names place (origin.Forked parent) h = cc
cloned_names place (origin.Part parent) h = cc
cloned_names place (origin.Joined parents) h = cc

pub clones_tell : (session : EndedSession) (files : List SettledFile) (child parent : ℕ) (draft : Draft) → Among draft (clonings session files) → Among (child, parent) draft.kin → HasChild files child parent
clones_tell session files child parent draft h k =
    let from = comes_from (λ f. map (λ copy. clone_event session f.1 copy.number) (copies files f.0)) (enumerate_from 0 files) draft h in
    let at = place_of 0 files from.source from.there in
    let place = from.source.0 in
    let original = from.source.1 in
    let made = is_made (λ (copy : SettledFile). clone_event session original copy.number) (copies files place) draft from.made in
    let passed = kept_by (λ file. is_cloned_from place file.worked.origin) files made.source made.there in
    let pair = only (child, parent) (made.source.number, original.number) (subst (λ (d : Draft). Among (child, parent) d.kin) (sym made.is) k) in
    let same : at.place ≡ place = omega (arith, at.number) in
    record {
      file = made.source;
      there = passed.0;
      kin = record {
        place = place;
        named = cloned_names place made.source.worked.origin passed.1;
        is_child = ap (λ p. p.0) pair;
        is_parent = ap (number_at files) (sym same) ∙ number-at files at.place original at.is ∙ ap (λ p. p.1) pair;
      };
    }

-- a copy is told of
pub clone_told : (session : EndedSession) (files : List SettledFile) (file : SettledFile) (place : ℕ) → Among file files → is_cloned_from place file.worked.origin ≡ true → place < length files
    → Tell (clonings session files) file.number (number_at files place)
clone_told session files file place there cloned l =
    let at = at_place_below files place l in
    let draft = clone_event session at.element file.number in
    let here : Among draft (map (λ (copy : SettledFile). clone_event session at.element copy.number) (copies files place))
    = makes (λ (copy : SettledFile). clone_event session at.element copy.number) (copies files place) file (keeps (λ f. is_cloned_from place f.worked.origin) files file there cloned) in
    let among : Among draft (clonings session files)
    = goes_to (λ f. map (λ copy. clone_event session f.1 copy.number) (copies files f.0)) (enumerate_from 0 files) (place, at.element) draft
    (subst (λ n. Among (n, at.element) (enumerate_from 0 files)) (omega arith) (enumerated 0 files place at.element at.is)) here in
    subst (λ n. Tell (clonings session files) file.number n) (sym (number-at files place at.element at.is))
    (goes_to (λ (draft : Draft). draft.kin) (clonings session files) draft (file.number, at.element.number) among (inl refl))

pub settlement_tells : (session : EndedSession) (clones : List SettlementClone) (child parent : ℕ) (draft : Draft) → Among draft (clones_part session clones) → Among (child, parent) draft.kin → HasClone clones child parent
settlement_tells session clones child parent draft h k =
    let made = is_made (λ (clone : SettlementClone). clone_event session clone.original clone.number) clones draft h in
    let clone = made.source in
    let pair = only (child, parent) (clone.number, clone.original.number) (subst (λ (d : Draft). Among (child, parent) d.kin) (sym made.is) k) in
    record { clone = clone; there = made.there; is_child = ap (λ p. p.0) pair; is_parent = ap (λ p. p.1) pair }
