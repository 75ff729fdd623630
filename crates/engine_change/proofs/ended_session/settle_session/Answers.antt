use Rattle.std.proofs.Common.{ℕ, ◌+◌, ◌≤◌, List, get_or, length, refl, sym, subst, ap, arith}
use Rattle.std.specs.Prelude.{All, Contains}
use Rattle.flowfile_record.specs.Stored.{Kept, kept_of}
use Rattle.flowfile_record.specs.declared.event.Event.{Event}
use Rattle.machine_model.specs.Placing.{count_made}
use Rattle.settlement.specs.Handed.{MaySettle}
use Rattle.store_core.specs.Store.{kept_by}
use Rattle.engine_change.specs.Committing.{HasTexts}
use Rattle.engine_change.proofs.Cases.{Case, IsTyped, counters_of, may_settle, settled_over}
use Rattle.engine_change.proofs.Commits.{live_contents, may_change, state_behind}
use Rattle.engine_change.proofs.ended_session.settle_session.Goals as goal

pub settle-requires : goal.settle-requires
settle-requires c =
    let state = c.state-state.ensures in
    subst (λ (k : Kept). MaySettle c.args.flow.now (counters_of k) c.args.ended) (sym state.kept)
    (may_settle c.args.flow.now c.args.given.now (kept_by c.args.store.now) c.args.ended c.requires.sound c.requires.may state.consistent)

pub returns-clause-may : goal.returns-clause-may
returns-clause-may c =
    let case : Case = record { flow = c.args.flow.now; given = c.args.given.now; k = kept_by c.args.store.now; ended = c.args.ended; settled = c.in_ok-settled.settled } in
    let state = c.state-state.ensures in
    let settled = c.in_ok-settled.ensures in
    let laws = c.what_is_kept_is_a_state.ensures in
    let typed : IsTyped case =
    record {
      moment = omega (arith, c.moment_of-moment.type_inv, c.moment_of-moment.ensures, settled.tells.moment);
      received = omega (arith, c.received_name-received.ensures.short, ap length c.received_name-received.ensures.name);
      sent = c.sent_name-sent.ensures;
      texts = subst (λ (events : List Event). All HasTexts events) c.as_slice.ensures c.have_texts.ensures;
    } in
    let is = settled_over case (kept_of c.state-state.result.now) state.kept c.requires.sound c.requires.flow c.requires.may state.consistent state.no_batches
    settled.settles settled.tells settled.records typed laws.valid laws.queued in
    may_change case is

pub returns-clause-live : goal.returns-clause-live
returns-clause-live c =
    let case : Case = record { flow = c.args.flow.now; given = c.args.given.now; k = kept_by c.args.store.now; ended = c.args.ended; settled = c.in_ok-settled.settled } in
    let state = c.state-state.ensures in
    let settled = c.in_ok-settled.ensures in
    let laws = c.what_is_kept_is_a_state.ensures in
    let typed : IsTyped case =
    record {
      moment = omega (arith, c.moment_of-moment.type_inv, c.moment_of-moment.ensures, settled.tells.moment);
      received = omega (arith, c.received_name-received.ensures.short, ap length c.received_name-received.ensures.name);
      sent = c.sent_name-sent.ensures;
      texts = subst (λ (events : List Event). All HasTexts events) c.as_slice.ensures c.have_texts.ensures;
    } in
    let is = settled_over case (kept_of c.state-state.result.now) state.kept c.requires.sound c.requires.flow c.requires.may state.consistent state.no_batches
    settled.settles settled.tells settled.records typed laws.valid laws.queued in
    live_contents case is c.args.store.now refl

pub returns-clause-brings : goal.returns-clause-brings
returns-clause-brings c =
    let settled = c.in_ok-settled.settled in
    let tells = c.in_ok-settled.ensures.tells in
    record {
      written = tells.written;
      clones = λ i d lt untaken behind.
          let number = (get_or settled.placed i d).file.number in
          tells.clones i d lt (record {
            untaken = λ has. untaken (subst (λ (gone : List ℕ). Contains gone number) (sym tells.gone) has);
            behind = subst (λ (k : Kept). k.next_number + count_made c.args.ended.outcome.files ≤ number) (sym c.state-state.ensures.kept) behind;
          });
    }

pub returns-clause-digests : goal.returns-clause-digests
returns-clause-digests c = c.in_ok-settled.ensures.tells.digests

pub returns-clause-tells : goal.returns-clause-tells
returns-clause-tells c =
    let tells = c.in_ok-settled.ensures.tells in
    record { processor = tells.processor; moment = tells.moment; gone = tells.gone }

pub returns-clause-leaves : goal.returns-clause-leaves
returns-clause-leaves c =
    let case : Case = record { flow = c.args.flow.now; given = c.args.given.now; k = kept_by c.args.store.now; ended = c.args.ended; settled = c.in_ok-settled.settled } in
    let state = c.state-state.ensures in
    let settled = c.in_ok-settled.ensures in
    let laws = c.what_is_kept_is_a_state.ensures in
    let typed : IsTyped case =
    record {
      moment = omega (arith, c.moment_of-moment.type_inv, c.moment_of-moment.ensures, settled.tells.moment);
      received = omega (arith, c.received_name-received.ensures.short, ap length c.received_name-received.ensures.name);
      sent = c.sent_name-sent.ensures;
      texts = subst (λ (events : List Event). All HasTexts events) c.as_slice.ensures c.have_texts.ensures;
    } in
    let is = settled_over case (kept_of c.state-state.result.now) state.kept c.requires.sound c.requires.flow c.requires.may state.consistent state.no_batches
    settled.settles settled.tells settled.records typed laws.valid laws.queued in
    state_behind case is
