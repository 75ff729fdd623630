-- That the events of a session tell of each file that it makes.
use Rattle.std.proofs.Common.{◌≡◌, inl, ℕ, ◌<◌, ◌+◌, true, List, [], ◌∷◌, ◌++◌, map, length, refl, sym, ap, subst, ◌∙◌, arith}
use Rattle.std.specs.Prelude.{All, unwrap_or, filter}
use Rattle.std.specs.List.{flat_map, enumerate_from}
use Rattle.std.proofs.lemmas.Bool.{eq-eqb, true≢false}
use Rattle.std.proofs.lemmas.List.Elements.{All-head}
use Rattle.flowfile_record.specs.Outcome.{is_made, parents_of}
use Rattle.flowfile_record.specs.declared.event.EventKind.TheVariants as kind
use Rattle.flowfile_record.specs.declared.worked.Origin.{Origin}
use Rattle.flowfile_record.specs.declared.worked.Origin.TheVariants as origin
use Rattle.flowfile_record.specs.declared.worked.Outcome.{Outcome}
use Rattle.machine_model.specs.Events.{Draft, of_file, alone, number_at, created, received, is_forked_from, forked_children, fork_of, forks, joined, clone_event, is_cloned_from, copies, clonings, sent, drafts, ascending}
use Rattle.machine_model.specs.Placing.{EndedSession, SettledFile, SettlementClone, settled_files, settlement_clones}
use Rattle.machine_model.proofs.Among.{Among, contains_among, among_left, among_right, goes_to, makes, keeps}
use Rattle.machine_model.proofs.Drafted.{first_part, joined_part, modified_part, attributes_part, routed_part, clones_part, dropped_part}
use Rattle.machine_model.proofs.Places.{at_place_below, enumerated}
use Rattle.event_laws.specs.Told.{TellsOfComing}
use Rattle.event_laws.proofs.Told.{Tell, tell-in}

abbrev pub TellComing : ℕ → List Draft → Type 0
TellComing number drafts = Tell (λ event. TellsOfComing event number) drafts

-- ---- by origin

created_part : EndedSession → List SettledFile → List Draft
created_part session files = flat_map (λ file. created session file file.worked.origin) files

created_told : (session : EndedSession) (files : List SettledFile) (file : SettledFile) → Among file files → file.worked.origin ≡ origin.Created → TellComing file.number (first_part session files)
created_told session files file there is =
    let draft = alone session kind.Create file [] in
    let here : Among draft (created session file file.worked.origin) = subst (λ o. Among draft (created session file o)) (sym is) (inl refl) in
    record {
      draft = draft;
      there = among_left draft (flat_map (λ file. created session file file.worked.origin) files) _ (goes_to (λ file. created session file file.worked.origin) files file draft there here);
      tells = λ number. refl;
    }

received_told : (session : EndedSession) (files : List SettledFile) (file : SettledFile) → Among file files → file.worked.origin ≡ origin.Received → TellComing file.number (first_part session files)
received_told session files file there is =
    let draft = alone session kind.Receive file (unwrap_or session.given.file []) in
    let here : Among draft (received session file file.worked.origin) = subst (λ o. Among draft (received session file o)) (sym is) (inl refl) in
    record {
      draft = draft;
      there = among_right draft _ (flat_map (λ file. received session file file.worked.origin) files) (goes_to (λ file. received session file file.worked.origin) files file draft there here);
      tells = λ number. refl;
    }

joined_told : (session : EndedSession) (files : List SettledFile) (file : SettledFile) (parents : List ℕ) → Among file files → file.worked.origin ≡ origin.Joined parents → TellComing file.number (joined_part session files)
joined_told session files file parents there is =
    let draft : Draft = record {
      event = of_file session kind.Join file (ascending (map (number_at files) parents)) (file.number ∷ []) [];
      kin = map (λ place. (file.number, number_at files place)) parents;
    } in
    let here : Among draft (joined session files file file.worked.origin) = subst (λ o. Among draft (joined session files file o)) (sym is) (inl refl) in
    record {
      draft = draft;
      there = goes_to (λ file. joined session files file file.worked.origin) files file draft there here;
      tells = λ number. (refl, contains_among file.number (file.number ∷ []) (inl refl));
    }

fork_of_children : (session : EndedSession) (parent : SettledFile) (children : List ℕ) (child : ℕ) → Among child children → TellComing child (fork_of session parent children)
fork_of_children session parent [] child h = absurd h
fork_of_children session parent (first ∷ children) child h = record {
  draft = record {
    event = of_file session kind.Fork parent (parent.number ∷ []) (first ∷ children) [];
    kin = map (λ child. (child, parent.number)) (first ∷ children);
  };
  there = inl refl;
  tells = λ number. contains_among child (first ∷ children) h;
}

numbered_at : (files : List SettledFile) (place : ℕ) (file : SettledFile) → Among (0 + place, file) (enumerate_from 0 files) → Among (place, file) (enumerate_from 0 files)
numbered_at files place file h = subst (λ n. Among (n, file) (enumerate_from 0 files)) (omega arith) h

forked_told : (session : EndedSession) (files : List SettledFile) (file : SettledFile) (parent : ℕ) → Among file files → is_forked_from parent file.worked.origin ≡ true → parent < length files
    → TellComing file.number (forks session files)
forked_told session files file parent there forked within =
    let at = at_place_below files parent within in
    let children = forked_children files parent in
    let child : Among file.number children
    = makes (λ (f : SettledFile). f.number) (filter (λ f. is_forked_from parent f.worked.origin) files) file (keeps (λ f. is_forked_from parent f.worked.origin) files file there forked) in
    let told = fork_of_children session at.element children file.number child in
    tell-in (λ event. TellsOfComing event file.number) (fork_of session at.element children) (forks session files)
    (λ draft h. goes_to (λ f. fork_of session f.1 (forked_children files f.0)) (enumerate_from 0 files) (parent, at.element) draft
    (numbered_at files parent at.element (enumerated 0 files parent at.element at.is)) h) told

cloned_told : (session : EndedSession) (files : List SettledFile) (file : SettledFile) (parent : ℕ) → Among file files → is_cloned_from parent file.worked.origin ≡ true → parent < length files
    → TellComing file.number (clonings session files)
cloned_told session files file parent there cloned within =
    let at = at_place_below files parent within in
    let draft = clone_event session at.element file.number in
    let here : Among draft (map (λ (copy : SettledFile). clone_event session at.element copy.number) (copies files parent))
    = makes (λ (copy : SettledFile). clone_event session at.element copy.number) (copies files parent) file (keeps (λ f. is_cloned_from parent f.worked.origin) files file there cloned) in
    record {
      draft = draft;
      there = goes_to (λ f. map (λ copy. clone_event session f.1 copy.number) (copies files f.0)) (enumerate_from 0 files) (parent, at.element) draft
          (numbered_at files parent at.element (enumerated 0 files parent at.element at.is)) here;
      tells = λ number. contains_among file.number (file.number ∷ []) (inl refl);
    }

-- ---- in all drafts of a session

-- the parts that tell of made files
abbrev making : EndedSession → List SettledFile → List Draft
making session files = first_part session files ++ forks session files ++ joined_part session files ++ clonings session files

first_in : (session : EndedSession) (files : List SettledFile) (number : ℕ) → TellComing number (first_part session files) → TellComing number (making session files)
first_in session files number told =
    let a = first_part session files in let b = forks session files in let c = joined_part session files in let d = clonings session files in
    tell-in (λ event. TellsOfComing event number) a (a ++ b ++ c ++ d) (λ draft m. among_left draft (a ++ b ++ c) d (among_left draft (a ++ b) c (among_left draft a b m))) told

fork_in : (session : EndedSession) (files : List SettledFile) (number : ℕ) → TellComing number (forks session files) → TellComing number (making session files)
fork_in session files number told =
    let a = first_part session files in let b = forks session files in let c = joined_part session files in let d = clonings session files in
    tell-in (λ event. TellsOfComing event number) b (a ++ b ++ c ++ d) (λ draft m. among_left draft (a ++ b ++ c) d (among_left draft (a ++ b) c (among_right draft a b m))) told

join_in : (session : EndedSession) (files : List SettledFile) (number : ℕ) → TellComing number (joined_part session files) → TellComing number (making session files)
join_in session files number told =
    let a = first_part session files in let b = forks session files in let c = joined_part session files in let d = clonings session files in
    tell-in (λ event. TellsOfComing event number) c (a ++ b ++ c ++ d) (λ draft m. among_left draft (a ++ b ++ c) d (among_right draft (a ++ b) c m)) told

clone_in : (session : EndedSession) (files : List SettledFile) (number : ℕ) → TellComing number (clonings session files) → TellComing number (making session files)
clone_in session files number told =
    let a = first_part session files in let b = forks session files in let c = joined_part session files in let d = clonings session files in
    tell-in (λ event. TellsOfComing event number) d (a ++ b ++ c ++ d) (λ draft m. among_right draft (a ++ b ++ c) d m) told

by_origin : (session : EndedSession) (files : List SettledFile) (file : SettledFile) (from : Origin) → Among file files → file.worked.origin ≡ from → is_made from ≡ true
    → All (λ parent. parent < length files) (parents_of from) → TellComing file.number (making session files)
by_origin session files file (origin.Taken of) there is made within = absurd (true≢false (sym made))
by_origin session files file origin.Created there is made within = first_in session files file.number (created_told session files file there is)
by_origin session files file origin.Received there is made within = first_in session files file.number (received_told session files file there is)
by_origin session files file (origin.Forked of) there is made within =
    fork_in session files file.number (forked_told session files file of there (ap (is_forked_from of) is ∙ eq-eqb of of refl) (All-head (λ parent. parent < length files) of [] within))
by_origin session files file (origin.Part of) there is made within =
    fork_in session files file.number (forked_told session files file of there (ap (is_forked_from of) is ∙ eq-eqb of of refl) (All-head (λ parent. parent < length files) of [] within))
by_origin session files file (origin.Cloned of) there is made within =
    clone_in session files file.number (cloned_told session files file of there (ap (is_cloned_from of) is ∙ eq-eqb of of refl) (All-head (λ parent. parent < length files) of [] within))
by_origin session files file (origin.Joined parents) there is made within = join_in session files file.number (joined_told session files file parents there is)

pub made-told : (session : EndedSession) (outcome : Outcome) (file : SettledFile) → Among file (settled_files session outcome.files) → is_made file.worked.origin ≡ true
    → All (λ parent. parent < length (settled_files session outcome.files)) (parents_of file.worked.origin) → TellComing file.number (drafts session outcome)
made-told session outcome file there made within =
    let files = settled_files session outcome.files in
    tell-in (λ event. TellsOfComing event file.number) (making session files) (drafts session outcome)
    (λ draft m. among_left draft _ (dropped_part session files)
    (among_left draft _ (clones_part session (settlement_clones session outcome.files))
    (among_left draft _ (sent session files outcome.sent)
    (among_left draft _ (routed_part session files)
    (among_left draft _ (attributes_part session files)
    (among_left draft _ (modified_part session files) m))))))
    (by_origin session files file file.worked.origin there refl made within)

-- a settlement clone is told of
pub clone-told : (session : EndedSession) (outcome : Outcome) (clone : SettlementClone) → Among clone (settlement_clones session outcome.files) → TellComing clone.number (drafts session outcome)
clone-told session outcome clone there =
    let files = settled_files session outcome.files in
    let clones = settlement_clones session outcome.files in
    let draft = clone_event session clone.original clone.number in
    record {
      draft = draft;
      there = among_left draft _ (dropped_part session files) (among_right draft _ (clones_part session clones)
          (makes (λ (clone : SettlementClone). clone_event session clone.original clone.number) clones clone there));
      tells = λ number. contains_among clone.number (clone.number ∷ []) (inl refl);
    }
