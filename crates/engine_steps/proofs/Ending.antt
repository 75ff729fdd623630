-- What a checkout leaves, and how an engine ends where no session comes.
use Rattle.std.proofs.Common.{◌≡◌, ℕ, zero, suc, ◌+◌, ◌≤◌, Bool, true, false, cond, length, refl, sym, ◌∙◌, ap, arith}
use Rattle.std.proofs.lemmas.Bool.{ltb-false}
use Rattle.std.specs.Prelude.{nat_le, nat_lt, Option, None, Some, is_some, Ok}
use Rattle.kept_state.specs.declared.limit.Limit.{Limit as TheLimit}
use Rattle.machine_model.specs.declared.journal.TheConstants.{RECLAIM_ENTRIES}
use Rattle.machine_model.specs.Due.{due_expiry}
use Rattle.engine_choice.specs.declared.choice.Choice.{Choice}
use Rattle.engine_choice.specs.declared.choice.Ending.{Ending}
use Rattle.engine_choice.specs.declared.choice.Ending.TheVariants.{Blocked, Quiet, Rest}
use Rattle.engine_queues.specs.Queues.{queue_seen}
use Rattle.run_law.specs.Ending.{journal_full}
use Rattle.engine_steps.specs.Checkout.{ChecksOut, HasCheckedOut, checkout_in, choice_in, checkout_of_ending, ending_in, due_or_next, next_of, wait_or}
use Rattle.engine_steps.specs.Engine.{EngineState}
use Rattle.engine_steps.specs.Ready.{Due, due_in, due_first, is_log_due}
use Rattle.engine_steps.specs.declared.checkout.Checkout.{Checkout}
use Rattle.engine_steps.specs.declared.checkout.Checkout.TheVariants as next

-- ---- what comes next

none_by : {A : Type 0} (o : Option A) (log claims : Bool) → due_first (is_some o) log claims ≡ None → o ≡ None
none_by None log claims is = refl
none_by (Some a) log claims is = absurd cc

-- where nothing is due, no file has expired
pub none_expired : (e : EngineState) (moment : ℕ) → due_in e moment ≡ None → due_expiry e.flow (queue_seen e.queues) moment ≡ None
none_expired e moment is = none_by (due_expiry e.flow (queue_seen e.queues) moment) (is_log_due e.checkpoint e.store) (nat_le RECLAIM_ENTRIES e.since_reclaim) is

-- .. and this comes next
pub comes_next : (e : EngineState) (moment : ℕ) (next : Checkout) → due_in e moment ≡ None → next ≡ checkout_in e moment
    → next_of (length e.journal) (length e.out) e.most e.next_session (choice_in e moment) (ending_in e moment) ≡ next
comes_next e moment next none is =
    sym (is ∙ ap (λ (due : Option Due). due_or_next due (next_of (length e.journal) (length e.out) e.most e.next_session (choice_in e moment) (ending_in e moment))) none)

-- ---- what a checkout leaves

pub checks_out : (comes : Checkout) (moment : ℕ) (old new : EngineState) → ((session : ℕ) → comes ≡ next.Session session → HasCheckedOut moment session old new) → (((session : ℕ) → comes ≡ next.Session session → ⊥) → new ≡ old)
    → ChecksOut (Ok comes) moment old new
checks_out next.Due moment old new out rest = rest (λ session is. cc)
checks_out (next.Session session) moment old new out rest = out session refl
checks_out (next.Wait others) moment old new out rest = rest (λ session is. cc)
checks_out (next.Limit limit) moment old new out rest = rest (λ session is. cc)
checks_out (next.Rest until) moment old new out rest = rest (λ session is. cc)
checks_out (next.Blocked connection) moment old new out rest = rest (λ session is. cc)
checks_out next.Quiet moment old new out rest = rest (λ session is. cc)

-- ---- how it ends

same_end : (one other : Ending) → checkout_of_ending one ≡ checkout_of_ending other → one ≡ other
same_end (Rest until) (Rest later) is = let same : until ≡ later = cc in ap (λ (n : ℕ). Rest n) same
same_end (Rest until) (Blocked connection) is = absurd cc
same_end (Rest until) Quiet is = absurd cc
same_end (Blocked connection) (Rest until) is = absurd cc
same_end (Blocked connection) (Blocked other) is = let same : connection ≡ other = cc in ap (λ (n : ℕ). Blocked n) same
same_end (Blocked connection) Quiet is = absurd cc
same_end Quiet (Rest until) is = absurd cc
same_end Quiet (Blocked connection) is = absurd cc
same_end Quiet Quiet is = refl

not_wait : (others : ℕ) (end : Ending) → checkout_of_ending end ≡ next.Wait others → ⊥
not_wait others (Rest until) is = cc
not_wait others (Blocked connection) is = cc
not_wait others Quiet is = cc

not_limit : (end : Ending) (limit : TheLimit) → checkout_of_ending end ≡ next.Limit limit → ⊥
not_limit (Rest until) limit is = cc
not_limit (Blocked connection) limit is = cc
not_limit Quiet limit is = cc

not_session : (end : Ending) (session : ℕ) → checkout_of_ending end ≡ next.Session session → ⊥
not_session (Rest until) session is = cc
not_session (Blocked connection) session is = cc
not_session Quiet session is = cc

-- where sessions are in flight they are waited for; else this comes
no_others : (in_flight : ℕ) (comes answer : Checkout) → ((others : ℕ) → answer ≡ next.Wait others → ⊥) → wait_or in_flight comes ≡ answer → (in_flight ≡ 0) × (comes ≡ answer)
no_others zero comes answer apart is = (refl, is)
no_others (suc others) comes answer apart is = absurd (apart (suc others) (sym is))

-- a session, where there is room for its entry; else what comes without
with_room : (room : Bool) (session : ℕ) (other answer : Checkout) → ((session : ℕ) → answer ≡ next.Session session → ⊥) → cond room (next.Session session) other ≡ answer → (room ≡ false) × (other ≡ answer)
with_room true session other answer apart is = absurd (apart session (sym is))
with_room false session other answer apart is = (refl, is)

-- it ends so, where no session comes and none is in flight
pub ends_as : (entries in_flight most session : ℕ) (choice : Option Choice) (end answer : Ending) → next_of entries in_flight most session choice end ≡ checkout_of_ending answer
    → (choice ≡ None) × (answer ≡ end) × (in_flight ≡ 0)
ends_as entries in_flight most session None end answer is =
    let it = no_others in_flight (checkout_of_ending end) (checkout_of_ending answer) (λ others. not_wait others answer) is in
    (refl, sym (same_end end answer it.1), it.0)
ends_as entries in_flight most session (Some choice) end answer is =
    let room = with_room (nat_lt (entries + in_flight) most) session (wait_or in_flight (next.Limit (journal_full most))) (checkout_of_ending answer) (not_session answer) is in
    let it = no_others in_flight (next.Limit (journal_full most)) (checkout_of_ending answer) (λ others. not_wait others answer) room.1 in
    absurd (not_limit answer (journal_full most) (sym it.1))

-- a session comes, none is in flight, and the journal has no room for its entry
pub full_as : (entries in_flight most session : ℕ) (choice : Option Choice) (end : Ending) (limit : TheLimit) → next_of entries in_flight most session choice end ≡ next.Limit limit
    → (one : Choice) × (choice ≡ Some one) × (limit ≡ journal_full most) × (most ≤ entries) × (in_flight ≡ 0)
full_as entries in_flight most session None end limit is =
    let it = no_others in_flight (checkout_of_ending end) (next.Limit limit) (λ others waits. cc) is in
    absurd (not_limit end limit it.1)
full_as entries in_flight most session (Some choice) end limit is =
    let room = with_room (nat_lt (entries + in_flight) most) session (wait_or in_flight (next.Limit (journal_full most))) (next.Limit limit) (λ s comes. cc) is in
    let it = no_others in_flight (next.Limit (journal_full most)) (next.Limit limit) (λ others waits. cc) room.1 in
    let same : journal_full most ≡ limit = cc (it.1) in
    (choice, refl, sym same, omega (arith, ltb-false (entries + in_flight) most room.0, it.0), it.0)
