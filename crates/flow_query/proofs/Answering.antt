-- What was written is an answer.
use Rattle.std.proofs.Common.{◌≡◌, ℕ, true, List, Option, Some, Ok, Err, refl, sym, ap, subst, ◌∙◌, inl, inr}
use Rattle.flowfile_record.specs.Identifier.{identifier}
use Rattle.flowfile_record.specs.declared.event.Event.{Event}
use Rattle.machine_model.specs.Lineage.{IsLineage, Lineage, is_named}
use Rattle.machine_model.specs.State.{State}
use Rattle.flow_query.specs.Answers.{Prints, IsBrokenOff, IsQueryAnswer, IsLineageOfId}
use Rattle.flow_query.specs.Parts.{IsFoundBy, IsPrinted, LineageIsPrinted, HasFront}
use Rattle.flow_query.specs.Texts.{lineage_text}
use Rattle.flow_query.specs.declared.asking.Query.{Query}
use Rattle.flow_query.specs.declared.asking.Query.TheVariants as query
use Rattle.flow_query.specs.declared.error.QueryError.TheVariants.{Absent, Disk, Sink, Damaged, Memory}
use Rattle.flow_query.proofs.Refusing.{Said}

module _ (q : Query) (ids : List (List ℕ)) (state : State) (text before after : List ℕ) (prints : Prints q ids state text) where
  begun_by : HasFront text before after → IsBrokenOff q ids state before after
  begun_by front = inr (record { text = text; prints = prints; part = front.0; front = front.1; written = front.2 })

  pub printed_answers : (said : Said) → IsPrinted text before after said → IsQueryAnswer q ids state before after said
  printed_answers (Ok u) printed = (text, prints, printed)
  printed_answers (Err Absent) printed = absurd printed
  printed_answers (Err (Damaged damage)) printed = absurd printed
  printed_answers (Err Disk) printed = begun_by printed
  printed_answers (Err Sink) printed = begun_by printed
  printed_answers (Err Memory) printed = begun_by printed

-- the lineage of a file of this identifier
module _ (ids : List (List ℕ)) (state : State) (id : List ℕ) (file : ℕ) (is : identifier state.store file ≡ id) (named : is_named state.events file ≡ true) (before after : List ℕ) where
  lineage_prints : (lineage : Lineage) → IsLineage state.events file lineage → IsLineageOfId id state (lineage_text state.store state.events file lineage)
  lineage_prints lineage told = record { file = file; identified = is; named = named; lineage = lineage; told = told; text_is = refl }

  pub told_answers : (said : Said) → LineageIsPrinted state.store state.events file before after said → IsQueryAnswer (query.Lineage id) ids state before after said
  told_answers (Ok u) told = (lineage_text state.store state.events file told.0, lineage_prints told.0 told.1, told.2)
  told_answers (Err Absent) told = absurd told
  told_answers (Err (Damaged damage)) told = absurd told
  told_answers (Err Disk) told = absurd told
  told_answers (Err Sink) told =
      begun_by (query.Lineage id) ids state (lineage_text state.store state.events file told.0) before after (lineage_prints told.0 told.1) told.2
  told_answers (Err Memory) told = inl told

-- what was told of a file that was found is its lineage
pub lineage_answer : (ids : List (List ℕ)) (state : State) (id : List ℕ) (kept store file : ℕ) (events : List Event) (found : Option ℕ) (before after : List ℕ) (said : Said) → events ≡ state.events
    → store ≡ kept → state.store ≡ kept → found ≡ Some file → IsFoundBy kept id (is_named events) found → LineageIsPrinted store events file before after said
    → IsQueryAnswer (query.Lineage id) ids state before after said
lineage_answer ids state id kept store file events found before after said all is its one by told =
    let file_is : IsFoundBy kept id (is_named events) (Some file) = subst (IsFoundBy kept id (is_named events)) one by in
    let here : LineageIsPrinted state.store state.events file before after said =
    subst (λ (n : ℕ). LineageIsPrinted n state.events file before after said) (is ∙ sym its) (subst (λ (l : List Event). LineageIsPrinted store l file before after said) all told) in
    told_answers ids state id file (ap (λ (n : ℕ). identifier n file) its ∙ file_is.0) (ap (λ (l : List Event). is_named l file) (sym all) ∙ file_is.1) before after said here
