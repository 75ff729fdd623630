-- What the queues' own steps tell: an expiry of the files that go, the others of none, since none comes or goes.
use Rattle.std.proofs.Common.{◌≡◌, ◌⊎◌, inl, inr, ℕ, ◌+◌, Bool, true, false, cond, List, [], ◌∷◌, map, refl, sym, ap, subst, ◌∙◌, arith}
use Rattle.std.specs.Prelude.{◌==◌, not, Option, Some, None, IfSome, is_some, find, slice_set}
use Rattle.std.specs.List.{cons_option}
use Rattle.std.proofs.lemmas.Bool.{eqb-true, eq-eqb}
use Rattle.machine_model.specs.declared.flow.Connection.{Connection}
use Rattle.machine_model.specs.declared.flow.Flow.{Flow}
use Rattle.machine_model.specs.Events.{ascending, numbered_from}
use Rattle.machine_model.specs.Files.{queue_at, is_number_among, is_in_batch, file_numbered}
use Rattle.machine_model.specs.State.{QueuedFile, State}
use Rattle.machine_model.specs.Stepping.{age_step, aged, expired, expiry_of, expire_step, files_of, without_files, swap_out_step, swapped_out, swap_in_step, swapped_in}
use Rattle.machine_model.proofs.Among.{Among, is_made, makes, kept_by, keeps, ascending-has}
use Rattle.machine_model.proofs.EventRows.{IsAdding, adding-none, adding-on, adds-aged, adds-nothing, adds-told, expiry-drafts, may_age}
use Rattle.machine_model.proofs.Numbered.{number_of}
use Rattle.machine_model.proofs.Options.{if_when}
use Rattle.machine_model.proofs.Tally.{find-passes}
use Rattle.event_laws.specs.Told.{TellsOfGoing}
use Rattle.event_laws.proofs.Files.{Has, all, at-all, set-was, set-keeps, set-has}
use Rattle.event_laws.proofs.Told.{Tell, added-told, IsTelling}

-- ---- expiries

-- the files of some numbers have that of a file of the queue, where its number is among them
found_first : (queue : List QueuedFile) (number : ℕ) (found : Option QueuedFile) (rest : List QueuedFile) → find (λ file. file.number == number) queue ≡ found → is_some found ≡ true → Has (cons_option found rest) number
found_first queue number None rest is some = cc
found_first queue number (Some file) rest is some =
    record { source = file; there = inl refl; is = eqb-true file.number number (find-passes (λ file. file.number == number) queue file is) }

found_later : (number : ℕ) (found : Option QueuedFile) (rest : List QueuedFile) → Has rest number → Has (cons_option found rest) number
found_later number None rest has = has
found_later number (Some file) rest has = record { source = has.source; there = inr has.there; is = has.is }

find_there : (queue : List QueuedFile) (file : QueuedFile) → Among file queue → is_some (file_numbered queue file.number) ≡ true
find_there [] file h = absurd h
find_there (other ∷ queue) file (inl is) = let yes : (other.number == file.number) ≡ true = eq-eqb other.number file.number (ap number_of is) in rw yes refl
find_there (other ∷ queue) file (inr h) =
    let rest = find_there queue file h in
    elim (other.number == file.number) as (λ b. is_some (cond b (Some other) (file_numbered queue file.number)) ≡ true) [ true ↦ refl | false ↦ rest ]

files_have : (queue : List QueuedFile) (numbers : List ℕ) (file : QueuedFile) → Among file queue → Among file.number numbers → Has (files_of queue numbers) file.number
files_have queue [] file there h = absurd h
files_have queue (number ∷ numbers) file there (inl is) =
    let some : is_some (file_numbered queue number) ≡ true = ap (λ n. is_some (file_numbered queue n)) is ∙ find_there queue file there in
    subst (Has (files_of queue (number ∷ numbers))) is (found_first queue number (file_numbered queue number) (files_of queue numbers) refl some)
files_have queue (number ∷ numbers) file there (inr h) =
    found_later file.number (file_numbered queue number) (files_of queue numbers) (files_have queue numbers file there h)

number_among : (numbers : List ℕ) (number : ℕ) → is_number_among numbers number ≡ true → Among number numbers
number_among [] number h = cc
number_among (n ∷ numbers) number h =
    elim (n == number) as (λ b. (n == number) ≡ b → is_some (cond b (Some n) (find (λ m. m == number) numbers)) ≡ true → Among number (n ∷ numbers)) [
      | true ↦ λ is h. inl (eqb-true n number is)
      | false ↦ λ is h. inr (number_among numbers number h)
    ] refl h

-- a file of the queue stays in it, or an EXPIRE is of it
stays_or_expires : (state : State) (connection : Connection) (queue : List QueuedFile) (numbers : List ℕ) (moment : ℕ) (file : QueuedFile) → Among file queue
    → Among file (without_files queue numbers) ⊎ Tell (λ event. TellsOfGoing event file.number) (map (expiry_of connection moment) (files_of queue (ascending numbers)))
stays_or_expires state connection queue numbers moment file there =
    elim (is_number_among numbers file.number) as (λ b. is_number_among numbers file.number ≡ b
    → Among file (without_files queue numbers) ⊎ Tell (λ event. TellsOfGoing event file.number) (map (expiry_of connection moment) (files_of queue (ascending numbers)))) [
      | true ↦ λ is.
          let has = files_have queue (ascending numbers) file there (ascending-has file.number numbers (number_among numbers file.number is)) in
          inr (record { draft = expiry_of connection moment has.source; there = makes (expiry_of connection moment) (files_of queue (ascending numbers)) has.source has.there; tells = λ number. has.is })
      | false ↦ λ is. inl (keeps (λ file. not (is_number_among numbers file.number)) queue file there (ap not is))
    ] refl

pub expiry-tells : (flow : Flow) (state : State) (place : ℕ) (numbers : List ℕ) (moment : ℕ) (connection : Connection) → IfSome (expire_step state place numbers moment connection) (IsTelling flow state)
expiry-tells flow state place numbers moment connection =
    let queue = queue_at state place in
    let rest = without_files queue numbers in
    let files = files_of queue (ascending numbers) in
    let drafts = map (expiry_of connection moment) files in
    let after = expired state place connection numbers moment in
    let adds = adds-told state after drafts (expiry-drafts connection moment files) refl refl refl in
    if_when _ after (IsTelling flow state) (λ _. record {
      adds = adding-on state state after (numbered_from (state.last_event + 1) drafts) (adding-none state) adds (λ raised. absurd (omega arith));
      comes = λ number has. elim (set-was state.queues place rest has.source has.there) [
        | inl was ↦ inl (record { source = has.source; there = was; is = has.is })
        | inr new ↦ inl (record { source = has.source; there = at-all state.queues place has.source (kept_by _ queue has.source new).0; is = has.is })
      ];
      goes = λ valid number has. elim (set-keeps state.queues place rest has.source has.there) [
        | inl kept ↦ inl (record { source = has.source; there = kept; is = has.is })
        | inr old ↦ elim (stays_or_expires state connection queue numbers moment has.source old) [
          | inl stays ↦ inl (record { source = has.source; there = set-has state.queues place rest has.source has.source old stays; is = has.is })
          | inr told ↦ inr (added-told state after (state.last_event + 1) drafts (λ event. TellsOfGoing event number) adds
              (subst (λ n. Tell (λ event. TellsOfGoing event n) drafts) has.is told))
        ]
      ];
    })

-- ---- batches

-- changed files in a queue's place keep their numbers
requeued-tells : (flow : Flow) (before after : State) (place : ℕ) (change : QueuedFile → QueuedFile) → ((file : QueuedFile) → (change file).number ≡ file.number) → IsAdding before after
    → after.queues ≡ slice_set before.queues place (map change (queue_at before place)) → IsTelling flow before after
requeued-tells flow before after place change same adds queues = record {
  adds = adds;
  comes = λ number has. inl (was number (subst (λ queues. Has (all queues) number) queues has));
  goes = λ valid number has. inl (subst (λ queues. Has (all queues) number) (sym queues) (stays number has));
}
  where
    queue : List QueuedFile
    queue = queue_at before place

    was : (number : ℕ) → Has (all (slice_set before.queues place (map change queue))) number → Has (all before.queues) number
    was number has = elim (set-was before.queues place (map change queue) has.source has.there) [
      | inl old ↦ record { source = has.source; there = old; is = has.is }
      | inr new ↦
          let made = is_made change queue has.source new in
          record { source = made.source; there = at-all before.queues place made.source made.there; is = sym (same made.source) ∙ ap number_of made.is ∙ has.is }
    ]

    stays : (number : ℕ) → Has (all before.queues) number → Has (all (slice_set before.queues place (map change queue))) number
    stays number has = elim (set-keeps before.queues place (map change queue) has.source has.there) [
      | inl kept ↦ record { source = has.source; there = kept; is = has.is }
      | inr old ↦ record {
        source = change has.source;
        there = set-has before.queues place (map change queue) has.source (change has.source) old (makes change queue has.source old);
        is = same has.source ∙ has.is;
      }
    ]

either_number : (b : Bool) (one other : QueuedFile) → one.number ≡ other.number → (cond b one other).number ≡ other.number
either_number true one other same = same
either_number false one other same = refl

unchanged : (state after : State) → after.line ≡ state.line → after.last_event ≡ state.last_event → after.events ≡ state.events → IsAdding state after
unchanged state after line last events = adding-on state state after [] (adding-none state) (adds-nothing state after line last events) (λ raised. absurd (omega (arith, line)))

pub swap_out-tells : (flow : Flow) (state : State) (place : ℕ) (numbers : List ℕ) (batch : ℕ) (connection : Connection) → IfSome (swap_out_step state place numbers batch connection) (IsTelling flow state)
swap_out-tells flow state place numbers batch connection =
    if_when _ _ (IsTelling flow state) (λ _. requeued-tells flow state _ place (swapped_out numbers batch) (λ file. either_number (is_number_among numbers file.number) _ file refl) (unchanged state _ refl refl refl) refl)

pub swap_in-tells : (flow : Flow) (state : State) (place batch : ℕ) (connection : Connection) → IfSome (swap_in_step state place batch connection) (IsTelling flow state)
swap_in-tells flow state place batch connection =
    if_when _ _ (IsTelling flow state) (λ _. requeued-tells flow state _ place (swapped_in batch) (λ file. either_number (is_in_batch batch file) _ file refl) (unchanged state _ refl refl refl) refl)

-- ---- an aging, which moves no file

pub age-tells : (flow : Flow) (state : State) (line : ℕ) → IfSome (age_step state line) (IsTelling flow state)
age-tells flow state line =
    if_when _ (aged state line) (IsTelling flow state) (λ passes.
    let may = may_age state line passes in
    record {
      adds = adding-on state state (aged state line) [] (adding-none state) (adds-aged state line may) (λ _. may.told);
      comes = λ number has. inl has;
      goes = λ valid number has. inl has;
    })
