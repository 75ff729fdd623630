-- What is told by drafts of events, and over several steps.
use Rattle.std.proofs.Common.{◌⊎◌, inl, inr, ℕ, ◌+◌, List, [], ◌∷◌, ◌++◌, ap}
use Rattle.std.proofs.lemmas.List.Elements.{Contains-append_left, Contains-append_right}
use Rattle.flowfile_record.specs.declared.event.Event.{Event}
use Rattle.machine_model.specs.declared.flow.Flow.{Flow}
use Rattle.machine_model.specs.Events.{Draft, numbered_from}
use Rattle.machine_model.specs.Laws.{AddsEvents}
use Rattle.machine_model.specs.State.{State}
use Rattle.machine_model.specs.Valid.{files_of_all, IsValid}
use Rattle.machine_model.proofs.Among.{Among, contains_among}
use Rattle.machine_model.proofs.EventRows.{IsAdding, adding-none, adding-on, adds-both}
use Rattle.event_laws.specs.Told.{IsToldByEvent, TellsOfComing, TellsOfGoing, AreComingsTold, AreGoingsTold}
use Rattle.event_laws.proofs.Files.{Has, queued-has, has-queued}

-- ---- drafts

-- some draft tells this under each number
pub record Tell (Tells : Event → Type 0) (drafts : List Draft) : Type 0 where
  pub draft : Draft
  pub there : Among draft drafts
  pub tells : (number : ℕ) → Tells (draft.event number)

pub tell-in : (Tells : Event → Type 0) (some whole : List Draft) → ((draft : Draft) → Among draft some → Among draft whole) → Tell Tells some → Tell Tells whole
tell-in Tells some whole into told = record { draft = told.draft; there = into told.draft told.there; tells = told.tells }

record IsNumbered (first : ℕ) (drafts : List Draft) (draft : Draft) : Type 0 where
  number : ℕ
  there : Among (draft.event number) (numbered_from first drafts)

numbered_draft : (first : ℕ) (drafts : List Draft) (draft : Draft) → Among draft drafts → IsNumbered first drafts draft
numbered_draft first [] draft h = absurd h
numbered_draft first (other ∷ drafts) draft (inl is) = record { number = first; there = inl (ap (λ (d : Draft). d.event first) is) }
numbered_draft first (other ∷ drafts) draft (inr h) =
    let rest = numbered_draft (first + 1) drafts draft h in record { number = rest.number; there = inr rest.there }

-- events that are added tell what their drafts tell
pub added-told : (before after : State) (first : ℕ) (drafts : List Draft) (Tells : Event → Type 0) → AddsEvents before after (numbered_from first drafts) → Tell Tells drafts → IsToldByEvent before after Tells
added-told before after first drafts Tells adds told =
    let at = numbered_draft first drafts told.draft told.there in
    (told.draft.event at.number, (numbered_from first drafts, adds, contains_among (told.draft.event at.number) (numbered_from first drafts) at.there), told.tells at.number)

-- ---- several steps

-- Events are added, and tell of all that came and, from a valid state, of all that went.
pub record IsTelling (flow : Flow) (before after : State) : Type 0 where
  pub adds : IsAdding before after
  pub comes : (number : ℕ) → Has (files_of_all after) number → Has (files_of_all before) number ⊎ IsToldByEvent before after (λ event. TellsOfComing event number)
  pub goes : IsValid flow before → (number : ℕ) → Has (files_of_all before) number → Has (files_of_all after) number ⊎ IsToldByEvent before after (λ event. TellsOfGoing event number)

told_first : (before mid after : State) (Tells : Event → Type 0) → IsAdding before mid → IsAdding mid after → IsToldByEvent before mid Tells → IsToldByEvent before after Tells
told_first before mid after Tells one two (event, (first, adds, there), tells) =
    (event, (first ++ two.more, adds-both before mid after first two.more adds two.adds one.told, Contains-append_left first two.more event there), tells)

told_then : (before mid after : State) (Tells : Event → Type 0) → IsAdding before mid → IsToldByEvent mid after Tells → IsToldByEvent before after Tells
told_then before mid after Tells one (event, (then, adds, there), tells) =
    (event, (one.more ++ then, adds-both before mid after one.more then one.adds adds one.told, Contains-append_right one.more then event there), tells)

pub none-told : (flow : Flow) (state : State) → IsTelling flow state state
none-told flow state = record {
  adds = adding-none state;
  comes = λ number h. inl h;
  goes = λ valid number h. inl h;
}

pub both-tell : (flow : Flow) (before mid after : State) → (IsValid flow before → IsValid flow mid) → IsTelling flow before mid → IsTelling flow mid after → IsTelling flow before after
both-tell flow before mid after stays one two = record {
  adds = adding-on before mid after two.adds.more one.adds two.adds.adds two.adds.told;
  comes = λ number h. elim (two.comes number h) [
    | inl was ↦ elim (one.comes number was) [ inl before_all ↦ inl before_all | inr told ↦ inr (told_first before mid after (λ event. TellsOfComing event number) one.adds two.adds told) ]
    | inr told ↦ inr (told_then before mid after (λ event. TellsOfComing event number) one.adds told)
  ];
  goes = λ valid number h. elim (one.goes valid number h) [
    | inl is ↦ elim (two.goes (stays valid) number is) [ inl after_all ↦ inl after_all | inr told ↦ inr (told_then before mid after (λ event. TellsOfGoing event number) one.adds told) ]
    | inr told ↦ inr (told_first before mid after (λ event. TellsOfGoing event number) one.adds two.adds told)
  ];
}

-- ---- in the words of the laws

pub comings-told : (flow : Flow) (before after : State) → IsTelling flow before after → AreComingsTold before after
comings-told flow before after telling number queued new =
    elim (telling.comes number (queued-has after number queued)) [ inl was ↦ absurd (new (has-queued before number was)) | inr told ↦ told ]

pub goings-told : (flow : Flow) (before after : State) → IsValid flow before → IsTelling flow before after → AreGoingsTold before after
goings-told flow before after valid telling number queued gone =
    elim (telling.goes valid number (queued-has before number queued)) [ inl is ↦ absurd (gone (has-queued after number is)) | inr told ↦ told ]
