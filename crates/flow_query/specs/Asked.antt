-- For private clauses: a query of a store that was read.
use Rattle.std.specs.Prelude.{ℕ, Bool, IsTrue, List, Result}
use Rattle.disk_trait.specs.Files.{Files}
use Rattle.store_core.specs.Seen.{SeenState, OfTheState, kept_seen}
use Rattle.flow_query.specs.Answers.{IsQueryAnswer, TellsAbsence}
use Rattle.flow_query.specs.declared.asking.Query.{Query}
use Rattle.flow_query.specs.declared.error.QueryError.{QueryError}

-- Where the disk and the sink tell, and the files hold what was seen, this is the answer.
abbrev pub AnswersQuery : (disk sink : Bool) → Files → SeenState → Query → (before after : List ℕ)
    → Result (Unit {0}) QueryError → Type 0
AnswersQuery disk sink files s query before after result = OfTheState disk files s
    (λ state. IsTrue sink → IsQueryAnswer query (kept_seen s).connections state before after result)

-- Where the disk tells, and the files hold what was seen, whatever the sink: whether there is nothing of the identifier.
abbrev pub IsRightOnAbsence : (disk : Bool) → Files → SeenState → Query → Result (Unit {0}) QueryError → Type 0
IsRightOnAbsence disk files s query result = OfTheState disk files s (λ state. TellsAbsence query state result)
