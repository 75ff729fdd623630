-- Where there is something of an identifier.
use Rattle.std.proofs.Common.{◌≡◌, ℕ, Option, Some, List, Ok, Err, refl, sym, ap, subst, ◌∙◌, inl, inr}
use Rattle.flowfile_record.specs.Identifier.{identifier}
use Rattle.flowfile_record.specs.declared.event.Event.{Event}
use Rattle.machine_model.specs.Lineage.{is_named}
use Rattle.machine_model.specs.State.{State}
use Rattle.flow_query.specs.Answers.{IsAbsent, IsContentOfId, TellsAbsence}
use Rattle.flow_query.specs.Parts.{IsFoundBy, IsSinkOrMemory}
use Rattle.flow_query.specs.declared.asking.Query.{Query}
use Rattle.flow_query.specs.declared.asking.Query.TheVariants as query
use Rattle.flow_query.specs.declared.error.QueryError.{QueryError}
use Rattle.flow_query.specs.declared.error.QueryError.TheVariants.{Absent, Disk, Sink, Damaged, Memory}
use Rattle.flow_query.proofs.Refusing.{Said, err}

pub there_is : (q : Query) (state : State) → (IsAbsent q state → ⊥) → (said : Said) → (said ≡ err Absent → ⊥) → TellsAbsence q state said
there_is q state there (Ok u) other = there
there_is q state there (Err Absent) other = absurd (other refl)
there_is q state there (Err (Damaged damage)) other = tt
there_is q state there (Err Disk) other = tt
there_is q state there (Err Sink) other = tt
there_is q state there (Err Memory) other = tt

pub sink_or_memory : (e : QueryError) → IsSinkOrMemory e → e ≡ Absent → ⊥
sink_or_memory e (inl sink) is = cc (sink, is)
sink_or_memory e (inr memory) is = cc (memory, is)

-- a queued file has the identifier
pub has_content : (id : List ℕ) (state : State) (bytes : List ℕ) → IsContentOfId id state bytes → IsAbsent (query.Content id) state → ⊥
has_content id state bytes of absent = absent of.content.place of.content.file of.content.queued (ap (identifier state.store) of.content.numbered ∙ of.identified)

-- an event names a file that has it
pub has_lineage : (id : List ℕ) (state : State) (store file : ℕ) (events : List Event) (found : Option ℕ) → events ≡ state.events → state.store ≡ store → found ≡ Some file → IsFoundBy store id (is_named events) found
    → IsAbsent (query.Lineage id) state → ⊥
has_lineage id state store file events found all its one by absent =
    let is : IsFoundBy store id (is_named events) (Some file) = subst (IsFoundBy store id (is_named events)) one by in
    absent file (ap (λ (n : ℕ). identifier n file) its ∙ is.0) (ap (λ (l : List Event). is_named l file) (sym all) ∙ is.1)
