-- Which cause is noted, and which faults that tells.
use Rattle.std.proofs.Common.{◌≡◌, ◌⊎◌, inl, inr, ⊎_elim, ℕ, ◌≤◌, false, true≢false, refl, sym, ap, ◌∙◌, arith}
use Rattle.std.specs.Prelude.{is_some, Option, None, Some, Result, Ok, Err, IsErrOf, OnOk}
use Rattle.disk_trait.specs.Faults.{CountsFaults}
use Rattle.engine_steps.specs.Errors.{CountsEachFault}
use Rattle.engine_steps.specs.declared.error.EngineError.{EngineError}
use Rattle.engine_steps.specs.declared.error.EngineError.TheVariants.{Disk, Inbox, Outbox, Put}
use Rattle.flow_workers.specs.Seen.{newly_noted, stopped_by}
use Rattle.flow_workers.specs.declared.cause.Cause.{Cause}
use Rattle.flow_workers.specs.declared.cause.Cause.TheVariants.{Blocked, Quiet, Stopped}

-- ---- causes

pub none_or_some : {X : Type 0} (cause : Cause) → ◌≡◌ {A = Option Cause} None (Some cause) → X
none_or_some cause is = absurd cc

same_stop : (one other : EngineError) → ◌≡◌ {A = Option Cause} (Some (Stopped one)) (Some (Stopped other)) → one ≡ other
same_stop one other is = cc

-- none is noted where it says so
pub none_there : (o : Option Cause) → false ≡ is_some o → o ≡ None
none_there None is = refl
none_there (Some cause) is = absurd (true≢false (sym is))

-- a call that noted this refusal answered it
pub it_answered : {A : Type 0} (result : Result A EngineError) (error : EngineError) → stopped_by result ≡ Some (Stopped error) → IsErrOf result error
it_answered (Ok answer) error is = none_or_some (Stopped error) is
it_answered (Err other) error is = ap Err (same_stop other error is)

-- one that noted nothing went well
pub went_well : {A : Type 0} (result : Result A EngineError) (M : Type 0) → stopped_by result ≡ None → OnOk result M → M
went_well (Ok answer) M is so = so
went_well (Err error) M is so = none_or_some (Stopped error) (sym is)

-- no refusal is a rest
pub no_quiet : {A X : Type 0} (result : Result A EngineError) → stopped_by result ≡ Some Quiet → X
no_quiet (Ok answer) is = none_or_some Quiet is
no_quiet (Err error) is = absurd cc

pub no_block : {A X : Type 0} (result : Result A EngineError) (connection : ℕ) → stopped_by result ≡ Some (Blocked connection) → X
no_block (Ok answer) connection is = none_or_some (Blocked connection) is
no_block (Err error) connection is = absurd cc

-- ---- faults

-- what is noted by a call is what it answered
pub it_refused : {A : Type 0} (result : Result A EngineError) (error : EngineError) → IsErrOf (newly_noted None (stopped_by result)) error → IsErrOf result error
it_refused (Ok answer) error is = absurd cc
it_refused (Err other) error is = let same : other ≡ error = cc in ap Err same

pub counts_as : (P Q : Type 0) (old new : ℕ) → (Q → P) → CountsFaults old new P → CountsFaults old new Q
counts_as P Q old new so counts = record { never_falls = counts.never_falls; rose = λ is. counts.rose (so is) }

pub counts_by : {A B : Type 0} (one : Result A EngineError) (other : Result B EngineError) (disk_old disk_new inbox_old inbox_new outbox_old outbox_new : ℕ) → ((error : EngineError) → IsErrOf other error → IsErrOf one error)
    → CountsEachFault one disk_old disk_new inbox_old inbox_new outbox_old outbox_new → CountsEachFault other disk_old disk_new inbox_old inbox_new outbox_old outbox_new
counts_by one other disk_old disk_new inbox_old inbox_new outbox_old outbox_new so each = record {
  disk = counts_as (IsErrOf one Disk) (IsErrOf other Disk) disk_old disk_new (so Disk) each.disk;
  inbox = counts_as (IsErrOf one Inbox) (IsErrOf other Inbox) inbox_old inbox_new (so Inbox) each.inbox;
  outbox = counts_as (IsErrOf one Outbox) (IsErrOf other Outbox) outbox_old outbox_new (so Outbox) each.outbox;
  put = counts_as (IsErrOf one Put) (IsErrOf other Put) outbox_old outbox_new (so Put) each.put;
}

-- no device failed
pub none_failed : {A : Type 0} (result : Result A EngineError) (disk_old disk_new inbox_old inbox_new outbox_old outbox_new : ℕ) → disk_old ≤ disk_new → inbox_old ≤ inbox_new → outbox_old ≤ outbox_new
    → (IsErrOf result Disk → ⊥) → (IsErrOf result Inbox → ⊥) → (IsErrOf result Outbox → ⊥) → (IsErrOf result Put → ⊥) → CountsEachFault result disk_old disk_new inbox_old inbox_new outbox_old outbox_new
none_failed result disk_old disk_new inbox_old inbox_new outbox_old outbox_new disk inbox outbox no_disk no_inbox no_outbox no_put = record {
  disk = record { never_falls = disk; rose = λ is. absurd (no_disk is) };
  inbox = record { never_falls = inbox; rose = λ is. absurd (no_inbox is) };
  outbox = record { never_falls = outbox; rose = λ is. absurd (no_outbox is) };
  put = record { never_falls = outbox; rose = λ is. absurd (no_put is) };
}

-- ---- .. of two calls

-- what is noted behind both was noted by one of them
noted_by : (x y z : Option Cause) → ((cause : Cause) → y ≡ Some cause → z ≡ Some cause) → (error : EngineError) → IsErrOf (newly_noted x z) error → IsErrOf (newly_noted x y) error ⊎ IsErrOf (newly_noted y z) error
noted_by None None z stands error is = inr is
noted_by (Some cause) None z stands error is = absurd cc
noted_by x (Some cause) z stands error is = inl (ap (newly_noted x) (sym (stands cause refl)) ∙ is)

counts_twice : (P Q R : Type 0) (old mid new : ℕ) → (R → P ⊎ Q) → CountsFaults old mid P → CountsFaults mid new Q → CountsFaults old new R
counts_twice P Q R old mid new which first second = record {
  never_falls = omega (arith, first.never_falls, second.never_falls);
  rose = λ is below. ⊎_elim (λ (p : P). omega (arith, first.rose p (omega (arith, second.never_falls, below)), second.never_falls)) (λ (q : Q). omega (arith, first.never_falls, second.rose q below)) (which is);
}

pub each_counts_twice : (x y z : Option Cause) (disk_old disk_mid disk_new inbox_old inbox_mid inbox_new outbox_old outbox_mid outbox_new : ℕ) → ((cause : Cause) → y ≡ Some cause → z ≡ Some cause)
    → CountsEachFault (newly_noted x y) disk_old disk_mid inbox_old inbox_mid outbox_old outbox_mid → CountsEachFault (newly_noted y z) disk_mid disk_new inbox_mid inbox_new outbox_mid outbox_new
    → CountsEachFault (newly_noted x z) disk_old disk_new inbox_old inbox_new outbox_old outbox_new
each_counts_twice x y z disk_old disk_mid disk_new inbox_old inbox_mid inbox_new outbox_old outbox_mid outbox_new stands first second = record {
  disk = counts_twice (IsErrOf (newly_noted x y) Disk) (IsErrOf (newly_noted y z) Disk) (IsErrOf (newly_noted x z) Disk) disk_old disk_mid disk_new (noted_by x y z stands Disk) first.disk second.disk;
  inbox = counts_twice (IsErrOf (newly_noted x y) Inbox) (IsErrOf (newly_noted y z) Inbox) (IsErrOf (newly_noted x z) Inbox) inbox_old inbox_mid inbox_new (noted_by x y z stands Inbox) first.inbox second.inbox;
  outbox = counts_twice (IsErrOf (newly_noted x y) Outbox) (IsErrOf (newly_noted y z) Outbox) (IsErrOf (newly_noted x z) Outbox) outbox_old outbox_mid outbox_new (noted_by x y z stands Outbox) first.outbox second.outbox;
  put = counts_twice (IsErrOf (newly_noted x y) Put) (IsErrOf (newly_noted y z) Put) (IsErrOf (newly_noted x z) Put) outbox_old outbox_mid outbox_new (noted_by x y z stands Put) first.put second.put;
}

-- nothing new is noted where nothing happens
pub none_noted : (x : Option Cause) (error : EngineError) → IsErrOf (newly_noted x x) error → ⊥
none_noted None error is = absurd cc
none_noted (Some (Stopped cause)) error is = absurd cc
none_noted (Some Quiet) error is = absurd cc
none_noted (Some (Blocked connection)) error is = absurd cc
