-- That the events of each state tell of its kin.
use Rattle.std.proofs.Common.{◌≡◌, ◌⊎◌, inl, inr, ℕ, suc, ◌+◌, ◌<◌, Bool, true, false, cond, List, [], ◌∷◌, ◌++◌, map, length, refl, sym, ap, subst, ◌∙◌, arith}
use Rattle.std.specs.Prelude.{◌||◌, nat_lt, filter, zip, fold}
use Rattle.std.specs.FinSet.{contains, from_list, retain, union, contains-from_list, contains-union}
use Rattle.std.proofs.lemmas.Bool.{true≢false}
use Rattle.std.proofs.lemmas.List.{append-nil, length-append, length-map}
use Rattle.std.proofs.lemmas.List.Concat.{flat_map-append}
use Rattle.std.proofs.lemmas.List.Elements.{filter-append}
use Rattle.flowfile_record.specs.Outcome.{parents_of, AreInTurn}
use Rattle.flowfile_record.specs.Kin.{kin_of, kin_of_all, pairs_named}
use Rattle.flowfile_record.specs.declared.event.Event.{Event}
use Rattle.flowfile_record.specs.declared.worked.Worked.{Worked}
use Rattle.machine_model.specs.State.{QueuedFile, Kin}
use Rattle.machine_model.specs.Events.{ascending, drafts, kin_from, numbered_from}
use Rattle.machine_model.specs.Files.{queue_at}
use Rattle.machine_model.specs.Laws.{SettlingAddsKin, SettlingTellsKin, StepsTellKin, ReplaysTellKin}
use Rattle.machine_model.specs.Valid.{EventsTellKin}
use Rattle.machine_model.specs.Placing.{EndedSession, SettledFile, settled_file, settled_files, settlement_clones, numbers_from, next_behind, entered_by, entered_in}
use Rattle.machine_model.specs.Settling.{kin_of_files}
use Rattle.machine_model.specs.Stepping.{aged, expired, expiry_of, files_of, past}
use Rattle.machine_model.specs.declared.flow.Connection.{Connection}
use Rattle.machine_model.proofs.Among.{Among, all_among, among_contained, contains_among, is_made}
use Rattle.machine_model.proofs.Ancestry.{NameFiles, kin-has, kin-had, drafts-tell, kin-told, kin-numbered, kin_goes_on}
use Rattle.machine_model.proofs.Drafted.{session-drafts}
use Rattle.machine_model.proofs.KinSets.{among-holds, holds, holds-among, kin_cmp-total, kin_retained}
use Rattle.machine_model.proofs.Kinships.{kinship}
use Rattle.machine_model.proofs.Options.{if_when}
use Rattle.machine_model.proofs.Preserved.{IsKept, step-kept, replay-kept}

-- ---- origins name files of the outcome

named_before : (place count : ℕ) (files : List Worked) → AreInTurn place count files → (file : Worked) → Among file files → (parent : ℕ) → Among parent (parents_of file.origin) → parent < place + length files
named_before place count [] h file there parent named = absurd there
named_before place count (first ∷ files) h file (inl is) parent named =
    let early : parent < place = all_among (λ p. p < place) parent (parents_of first.origin) h.1 (subst (λ (f : Worked). Among parent (parents_of f.origin)) (sym is) named) in
    omega arith
named_before place count (first ∷ files) h file (inr there) parent named = omega (arith, named_before (place + 1) count files h.2 file there parent named)

length-numbers : (next : ℕ) (taken : List ℕ) (files : List Worked) → length (numbers_from next taken files) ≡ length files
length-numbers next taken [] = refl
length-numbers next taken (file ∷ files) = ap suc (length-numbers (next_behind next file.origin) taken files)

length-built : (g : List ℕ → Worked → ℕ) (before : List ℕ) (files : List Worked) → length (fold (λ before file. before ++ g before file ∷ []) before files) ≡ length before + length files
length-built g before [] = omega arith
length-built g before (file ∷ files) = omega (arith, length-built g (before ++ g before file ∷ []) files, length-append before (g before file ∷ []))

length-zip : {X Y : Type 0} (xs : List X) (ys : List Y) → length xs ≡ length ys → length (zip xs ys) ≡ length ys
length-zip [] [] h = refl
length-zip [] (y ∷ ys) h = absurd (omega arith)
length-zip (x ∷ xs) [] h = refl
length-zip (x ∷ xs) (y ∷ ys) h = ap suc (length-zip xs ys (omega arith))

zip-second : {X Y : Type 0} (xs : List X) (ys : List Y) (pair : X × Y) → Among pair (zip xs ys) → Among pair.1 ys
zip-second [] ys pair h = absurd h
zip-second (x ∷ xs) [] pair h = absurd h
zip-second (x ∷ xs) (y ∷ ys) pair (inl is) = inl (ap (λ p. p.1) is)
zip-second (x ∷ xs) (y ∷ ys) pair (inr h) = inr (zip-second xs ys pair h)

name-files : (session : EndedSession) (files : List Worked) → AreInTurn 0 (length session.taken) files → NameFiles (settled_files session files)
name-files session files is_outcome file there parent named =
    let numbers = numbers_from session.state.next_number (map (λ file. file.number) session.taken) files in
    let own = map (λ (file : QueuedFile). file.entered) session.taken in
    let entered = entered_in session.given.moment own files in
    let made = is_made (λ f. settled_file session (f.0, f.1.0, f.1.1)) (zip numbers (zip entered files)) file there in
    let worked : Among made.source.1.1 files = zip-second entered files made.source.1 (zip-second numbers (zip entered files) made.source made.there) in
    let below : parent < 0 + length files = named_before 0 (length session.taken) files is_outcome made.source.1.1 worked parent (subst (λ (f : SettledFile). Among parent (parents_of f.worked.origin)) (sym made.is) named) in
    let inner : length (zip entered files) ≡ length files = length-zip entered files (length-built (λ before file. entered_by session.given.moment own before file.origin) [] files ∙ omega arith) in
    let outer : length (zip numbers (zip entered files)) ≡ length (zip entered files) = length-zip numbers (zip entered files) (length-numbers session.state.next_number _ files ∙ sym inner) in
    omega (arith, length-map (zip numbers (zip entered files)) (λ f. settled_file session (f.0, f.1.0, f.1.1)))

-- ---- a session adds the kin of its files

either : (a b : Bool) → (a || b) ≡ true → (a ≡ true) ⊎ (b ≡ true)
either true b h = inl refl
either false b h = inr h

left_holds : (a b : Bool) → a ≡ true → (a || b) ≡ true
left_holds true b h = refl
left_holds false b h = absurd (true≢false (sym h))

right_holds : (a b : Bool) → b ≡ true → (a || b) ≡ true
right_holds true b h = refl
right_holds false b h = h

pub settle-adds : SettlingAddsKin
settle-adds session outcome ends child parent =
    let files = settled_files session outcome.files in
    let clones = settlement_clones session outcome.files in
    let told = drafts session outcome in
    let first = session.state.last_event + 1 in
    let new = kin_from first told in
    let kin = session.state.kin in
    let numbered = kin-numbered first told child parent in
    let split : (event : ℕ) → contains (union kin (from_list new)) (child, parent, event) ≡ (contains kin (child, parent, event) || holds (child, parent, event) new) =
    λ event. contains-union kin_cmp-total kin (from_list new) (child, parent, event)
    ∙ ap (λ b. contains kin (child, parent, event) || b) (contains-from_list kin_cmp-total new (child, parent, event)) in (
      λ h. elim (either (contains kin (child, parent, h.0)) (holds (child, parent, h.0) new) (sym (split h.0) ∙ h.1)) [
        | inl was ↦ inl (h.0, was)
        | inr comes ↦ inr (contains_among (kinship child parent) (kin_of_files files clones)
            (kin-has files clones child parent (drafts-tell session outcome child parent (numbered.0 (h.0, holds-among (child, parent, h.0) new comes)))))
      ],
      λ h. elim h [
        | inl was ↦ (was.0, split was.0 ∙ left_holds _ _ was.1)
        | inr made ↦
            let tells = kin-told session outcome (name-files session outcome.files ends) child parent (kin-had files clones child parent (among_contained (kinship child parent) (kin_of_files files clones) made)) in
            let at = numbered.1 tells in
            (at.0, split at.0 ∙ right_holds _ _ (among-holds (child, parent, at.0) new at.1))
      ],
    )

-- ---- events past a line tell of the kin past it

all_or_none : (b : Bool) (kin : ℕ × ℕ × ℕ) (rest : List (ℕ × ℕ × ℕ)) → cond b (kin ∷ cond b rest []) (cond b rest []) ≡ cond b (kin ∷ rest) []
all_or_none true kin rest = refl
all_or_none false kin rest = refl

none_at_all : (b : Bool) → ◌≡◌ {A = List (ℕ × ℕ × ℕ)} [] (cond b [] [])
none_at_all true = refl
none_at_all false = refl

kept_kin : (line n : ℕ) (pairs : List (ℕ × ℕ)) → filter (λ (kin : ℕ × ℕ × ℕ). nat_lt line kin.2) (map (λ (pair : ℕ × ℕ). (pair.0, pair.1, n)) pairs)
    ≡ cond (nat_lt line n) (map (λ (pair : ℕ × ℕ). (pair.0, pair.1, n)) pairs) []
kept_kin line n [] = none_at_all (nat_lt line n)
kept_kin line n (pair ∷ pairs) =
    let kin : ℕ × ℕ × ℕ = (pair.0, pair.1, n) in
    let rest : List (ℕ × ℕ × ℕ) = map (λ (pair : ℕ × ℕ). (pair.0, pair.1, n)) pairs in
    ap (λ (xs : List (ℕ × ℕ × ℕ)). cond (nat_lt line n) (kin ∷ xs) xs) (kept_kin line n pairs) ∙ all_or_none (nat_lt line n) kin rest

past_kin : (line : ℕ) (events : List Event) → filter (λ (kin : ℕ × ℕ × ℕ). nat_lt line kin.2) (kin_of_all events) ≡ kin_of_all (past line events)
past_kin line [] = refl
past_kin line (event ∷ events) =
    let own = kin_of event in
    filter-append (λ (kin : ℕ × ℕ × ℕ). nat_lt line kin.2) own (kin_of_all events)
    ∙ (λ i. kept_kin line event.number (pairs_named event) i ++ past_kin line events i)
    ∙ elim (nat_lt line event.number) as (λ b. cond b own [] ++ kin_of_all (past line events) ≡ kin_of_all (cond b (event ∷ past line events) (past line events))) [ true ↦ refl | false ↦ refl ]

-- ---- sessions, steps and replays

pub settle-tells : SettlingTellsKin
settle-tells session outcome before =
    kin_goes_on session.state.events (session.state.last_event + 1) (drafts session outcome) session.state.kin (session-drafts session outcome) before

-- an expiry tells of no kin
no_kin : (connection : Connection) (moment : ℕ) (k : ℕ) (files : List QueuedFile) → kin_of_all (numbered_from k (map (expiry_of connection moment) files)) ≡ []
no_kin connection moment k [] = refl
no_kin connection moment k (file ∷ files) = no_kin connection moment (k + 1) files

none_told : (events more : List Event) (kin : Kin) → kin_of_all more ≡ [] → kin ≡ from_list (kin_of_all events) → kin ≡ from_list (kin_of_all (events ++ more))
none_told events more kin none before =
    before ∙ ap from_list (sym (flat_map-append kin_of events more ∙ ap (λ xs. kin_of_all events ++ xs) none ∙ append-nil (kin_of_all events)))

pub kin-kept : IsKept EventsTellKin
kin-kept = record {
  others = record {
    settling = λ session outcome taken next ends before. settle-tells session outcome before;
    expiry = λ state place numbers moment connection before.
        let files = files_of (queue_at state place) (ascending numbers) in
        if_when _ (expired state place connection numbers moment) EventsTellKin (λ _.
        none_told state.events (numbered_from (state.last_event + 1) (map (expiry_of connection moment) files)) state.kin (no_kin connection moment (state.last_event + 1) files) before);
    swap_out = λ state place numbers batch connection before. if_when _ _ EventsTellKin (λ _. before);
    swap_in = λ state place batch connection before. if_when _ _ EventsTellKin (λ _. before);
  };
  aging = λ state line before. if_when _ (aged state line) EventsTellKin (λ _.
      ap (λ (kin : Kin). retain kin (λ kin. nat_lt line kin.2)) before
      ∙ kin_retained (λ kin. nat_lt line kin.2) (kin_of_all state.events)
      ∙ ap from_list (past_kin line state.events));
}

pub step-tells : StepsTellKin
step-tells = step-kept EventsTellKin kin-kept

pub replay-tells : ReplaysTellKin
replay-tells = replay-kept EventsTellKin kin-kept
