-- What a query leaves behind its answer, and what its status tells.
use Rattle.std.proofs.Common.{◌≡◌, ℕ, List, [], refl, sym, ap, arith}
use Rattle.std.specs.Prelude.{IsErrOf, Result, Err}
use Rattle.std.proofs.lemmas.List.{append-nil}
use Rattle.flow_query.specs.declared.error.QueryError.{QueryError}
use Rattle.flow_query.specs.declared.error.QueryError.TheVariants.{Absent, Disk, Sink, Damaged, Memory}
use Rattle.run_top.specs.Asking.{status_of_refusal}
use Rattle.run_top.specs.Printing.{IsLine}
use Rattle.run_top.specs.declared.status.TheConstants.{DISK_FAULT}

-- where no line is due, none was printed
pub nothing_behind : {S : Type 0} (faults : S → ℕ) (written : S → List ℕ) (sink : S) → IsLine faults written [] sink sink
nothing_behind faults written sink = record { front = ([], ([], refl), sym (append-nil (written sink))); whole = λ below same. sym (append-nil (written sink)) }

disk_refusal : (error : QueryError) → status_of_refusal error ≡ DISK_FAULT → error ≡ Disk
disk_refusal Absent is = absurd (omega arith)
disk_refusal Disk is = refl
disk_refusal Sink is = absurd (omega arith)
disk_refusal (Damaged damage) is = absurd (omega arith)
disk_refusal Memory is = absurd (omega arith)

abbrev refused_by : QueryError → Result (Unit {0}) QueryError
refused_by error = Err error

-- the status of the disk's fault is that of this refusal alone
pub disk_told : (error : QueryError) → status_of_refusal error ≡ DISK_FAULT → IsErrOf (refused_by error) Disk
disk_told error is = ap refused_by (disk_refusal error is)
