use Rattle.std.proofs.Common.{rules, ◌≡◌, sym, ◌∙◌, ap, subst, List, inl, true, false, true≢false}
use Rattle.std.specs.Prelude.{None, Some, find}
use Rattle.disk_trait.specs.Files.{Files}
use Rattle.flowfile_record.specs.NamedFile.{NamedFile}
use Rattle.content_repo.specs.Claims.{content_in}
use Rattle.store_core.specs.Store.{kept_by}
use Rattle.run_law.specs.Puts.{Outgoing, outgoing}
use Rattle.engine_steps.specs.Commit.{IndexIsNext, IsWorkFor, StandsOtherwise, StandsSo}
use Rattle.engine_steps.specs.Engine.{AreTakeable, EngineState}
use Rattle.engine_steps.specs.Flights.{has_session, is_in_flight, names_to_come}
use Rattle.engine_steps.specs.declared.error.EngineError.{EngineError}
use Rattle.engine_steps.specs.declared.flight.InFlight.{InFlight}
use Rattle.engine_steps.proofs.AsRead.{as_read, read_well}
use Rattle.engine_steps.proofs.Flights.{found_flies, none_flies}
use Rattle.engine_steps.proofs.Reread.{counts_behind, of_others, reread_behind, still_ready}
use Rattle.engine_steps.proofs.engine.Engine.stands.Goals as goal

pub unreachable-requires : goal.unreachable-requires
unreachable-requires g c =
    let e : EngineState = c.args.self.now in
    let session = c.args.done.now.session in
    let out : c.deref.result.now ≡ e.out = c.deref.ensures.value ∙ ap (λ (x : EngineState). x.out) c.self.view_is in
    let none : find (has_session session) e.out ≡ None = sym (c.in_default.ensures ∙ ap (λ (fs : List InFlight). find (has_session session) fs) out) in
    true≢false (sym c.requires.flying ∙ none_flies session e.out none)

pub returns-then-not-index_is_next-clause-otherwise : goal.returns-then-not-index_is_next-clause-otherwise
returns-then-not-index_is_next-clause-otherwise g c is =
    let e : EngineState = c.args.self.now in
    let session = c.args.done.now.session in
    let flight : InFlight = c.in-Some.flight.now in
    let out : c.deref.result.now ≡ e.out = c.deref.ensures.value ∙ ap (λ (x : EngineState). x.out) c.self.view_is in
    let found : find (has_session session) e.out ≡ Some flight = sym (c.in-Some.ensures ∙ ap (λ (fs : List InFlight). find (has_session session) fs) out) in
    let flies = found_flies session e.out flight found in
    let not : c.index_is_next.result ≡ false = cc in
    (flight, flies.0, flies.1, inl (λ next. let told : c.index_is_next.result ≡ true = c.index_is_next.ensures.1 (subst (λ (x : EngineState). IndexIsNext x flight) (sym c.self.view_is) next) in true≢false (sym told ∙ not)))

pub returns-in_err-shows_to_stand-clause-refusal : goal.returns-in_err-shows_to_stand-clause-refusal
returns-in_err-shows_to_stand-clause-refusal g c = record {
  unlimited = search rules;
  works = search rules;
  known = search rules;
  unput = search rules;
  damaged = λ damage is. c.in_err-shows_to_stand.ensures.refusal.damaged damage (search rules);
}

pub stands_read_again-requires-clause-ready : goal.stands_read_again-requires-clause-ready
stands_read_again-requires-clause-ready g c κs within =
    let D = g.D.Disk in
    let e : EngineState = c.args.self.now in
    let same = as_read c.shows_to_stand.result e c.shows_to_stand.new.self c.shows_to_stand.ensures.reread.store c.shows_to_stand.ensures.reread.rest (λ disk. read_well c.in_ok-shows_to_stand.field-0 EngineError.Disk (sym c.in_ok-shows_to_stand.was ∙ disk)) in
    still_ready D.tells D.held D.moment D.images c.args.disk.now c.shows_to_stand.new.disk c.shows_to_stand.ensures.reread.disk e c.shows_to_stand.new.self same c.requires.ready

pub stands_read_again-requires-clause-left : goal.stands_read_again-requires-clause-left
stands_read_again-requires-clause-left g c κs within telling =
    let e : EngineState = c.args.self.now in
    let same = as_read c.shows_to_stand.result e c.shows_to_stand.new.self c.shows_to_stand.ensures.reread.store c.shows_to_stand.ensures.reread.rest (λ disk. read_well c.in_ok-shows_to_stand.field-0 EngineError.Disk (sym c.in_ok-shows_to_stand.was ∙ disk)) in
    subst (λ (left : List NamedFile). AreTakeable left (names_to_come c.shows_to_stand.new.self)) (sym c.shows_to_stand.ensures.reread.inbox)
    (subst (λ (x : EngineState). AreTakeable (g.I.Inbox.left c.args.inbox.now) (names_to_come x)) (sym same) (c.requires.left telling))

pub stands_read_again-requires-clause-flying : goal.stands_read_again-requires-clause-flying
stands_read_again-requires-clause-flying g c κs within =
    let e : EngineState = c.args.self.now in
    let same = as_read c.shows_to_stand.result e c.shows_to_stand.new.self c.shows_to_stand.ensures.reread.store c.shows_to_stand.ensures.reread.rest (λ disk. read_well c.in_ok-shows_to_stand.field-0 EngineError.Disk (sym c.in_ok-shows_to_stand.was ∙ disk)) in
    ap (λ (x : EngineState). is_in_flight c.args.done.now.session x.out) same ∙ c.requires.flying

pub stands_read_again-requires-clause-done : goal.stands_read_again-requires-clause-done
stands_read_again-requires-clause-done g c κs within =
    let e : EngineState = c.args.self.now in
    let same = as_read c.shows_to_stand.result e c.shows_to_stand.new.self c.shows_to_stand.ensures.reread.store c.shows_to_stand.ensures.reread.rest (λ disk. read_well c.in_ok-shows_to_stand.field-0 EngineError.Disk (sym c.in_ok-shows_to_stand.was ∙ disk)) in
    subst (λ (left : List NamedFile). IsWorkFor g.I.Inbox.tells c.shows_to_stand.new.self left c.args.done.now) (sym c.shows_to_stand.ensures.reread.inbox)
    (subst (λ (x : EngineState). IsWorkFor g.I.Inbox.tells x (g.I.Inbox.left c.args.inbox.now) c.args.done.now) (sym same) c.requires.done)

pub returns-clause-so : goal.returns-clause-so
returns-clause-so g c is =
    let D = g.D.Disk in
    let e : EngineState = c.args.self.now in
    let mid = c.shows_to_stand.new in
    let read = c.shows_to_stand.ensures.reread in
    let done = c.args.done.now in
    let flight : InFlight = c.in-Some.flight.now in
    let same = as_read c.shows_to_stand.result e mid.self read.store read.rest (λ disk. read_well c.in_ok-shows_to_stand.field-0 EngineError.Disk (sym c.in_ok-shows_to_stand.was ∙ disk)) in
    let out : c.deref.result.now ≡ e.out = c.deref.ensures.value ∙ ap (λ (x : EngineState). x.out) c.self.view_is in
    let found : find (has_session done.session) e.out ≡ Some flight = sym (c.in-Some.ensures ∙ ap (λ (fs : List InFlight). find (has_session done.session) fs) out) in
    of_others (λ (x : EngineState) (files : Files) (left : List NamedFile) (out : Outgoing). (f : InFlight) → find (has_session done.session) x.out ≡ Some f → IndexIsNext x f → StandsSo D.tells g.I.Inbox.tells g.O.Outbox.tells x (content_in files) left out.standing done) e mid.self
    (D.held c.args.disk.now) (D.held mid.disk) (g.I.Inbox.left c.args.inbox.now) (g.I.Inbox.left mid.inbox)
    (outgoing g.O.Outbox.standing g.O.Outbox.puts c.args.outbox.now) (outgoing g.O.Outbox.standing g.O.Outbox.puts mid.outbox) same read.disk.files read.inbox read.outbox (c.stands_read_again.ensures.so is)
    flight found
    (subst (λ (x : EngineState). IndexIsNext x flight) c.self.view_is (c.index_is_next.ensures.0 cc))

pub returns-clause-otherwise : goal.returns-clause-otherwise
returns-clause-otherwise g c is =
    let D = g.D.Disk in
    let e : EngineState = c.args.self.now in
    let mid = c.shows_to_stand.new in
    let read = c.shows_to_stand.ensures.reread in
    let same = as_read c.shows_to_stand.result e mid.self read.store read.rest (λ disk. read_well c.in_ok-shows_to_stand.field-0 EngineError.Disk (sym c.in_ok-shows_to_stand.was ∙ disk)) in
    of_others (λ (x : EngineState) (files : Files) (left : List NamedFile) (out : Outgoing). StandsOtherwise D.tells g.I.Inbox.tells g.O.Outbox.tells x (content_in files) left out.standing c.args.done.now) e mid.self
    (D.held c.args.disk.now) (D.held mid.disk) (g.I.Inbox.left c.args.inbox.now) (g.I.Inbox.left mid.inbox)
    (outgoing g.O.Outbox.standing g.O.Outbox.puts c.args.outbox.now) (outgoing g.O.Outbox.standing g.O.Outbox.puts mid.outbox) same read.disk.files read.inbox read.outbox (c.stands_read_again.ensures.otherwise is)

pub returns-clause-reread : goal.returns-clause-reread
returns-clause-reread g c =
    let D = g.D.Disk in
    let e : EngineState = c.args.self.now in
    let mid = c.shows_to_stand.new in
    let new = c.stands_read_again.new in
    let read = c.shows_to_stand.ensures.reread in
    let same = as_read c.shows_to_stand.result e mid.self read.store read.rest (λ disk. read_well c.in_ok-shows_to_stand.field-0 EngineError.Disk (sym c.in_ok-shows_to_stand.was ∙ disk)) in
    reread_behind c.stands_read_again.result D.held D.moment D.images e mid.self new.self c.args.disk.now mid.disk new.disk (g.I.Inbox.left c.args.inbox.now) (g.I.Inbox.left mid.inbox) (g.I.Inbox.left new.inbox)
    (outgoing g.O.Outbox.standing g.O.Outbox.puts c.args.outbox.now) (outgoing g.O.Outbox.standing g.O.Outbox.puts mid.outbox) (outgoing g.O.Outbox.standing g.O.Outbox.puts new.outbox)
    same read.disk read.inbox read.outbox c.stands_read_again.ensures.reread

pub returns-clause-cause : goal.returns-clause-cause
returns-clause-cause g c =
    let D = g.D.Disk in
    let mid = c.shows_to_stand.new in
    let new = c.stands_read_again.new in
    let first = c.shows_to_stand.ensures.cause in
    counts_behind c.stands_read_again.result (D.faults c.args.disk.now) (D.faults mid.disk) (D.faults new.disk) (g.I.Inbox.faults c.args.inbox.now) (g.I.Inbox.faults mid.inbox) (g.I.Inbox.faults new.inbox)
    (g.O.Outbox.faults c.args.outbox.now) (g.O.Outbox.faults mid.outbox) (g.O.Outbox.faults new.outbox) first.disk.never_falls first.inbox.never_falls first.outbox.never_falls c.stands_read_again.ensures.cause
