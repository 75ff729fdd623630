use Rattle.std.proofs.Common.{◌≡◌, ◌^◌, ◌<◌, ℕ, List, length, get_or, refl, sym, ap, subst, ◌∙◌, arith}
use Rattle.std.specs.Prelude.{All, Some, slice_get}
use Rattle.std.proofs.lemmas.Option.{get_or_from_slice_get, slice_get_read}
use Rattle.flowfile_record.specs.Stored.{Kept, kept_of}
use Rattle.flowfile_record.specs.declared.change.Settled.{Settled}
use Rattle.flowfile_record.specs.declared.event.Event.{Event}
use Rattle.kept_state.specs.Moves.{are_all_active}
use Rattle.kept_state.proofs.Going.{active_from_in}
use Rattle.machine_model.specs.declared.flow.Connection.{Connection}
use Rattle.store_core.specs.Change.{MayExpire}
use Rattle.store_core.specs.Store.{kept_by}
use Rattle.engine_change.specs.Committing.{HasTexts}
use Rattle.engine_change.specs.Expiring.{LeavesExpired, expiry_events}
use Rattle.engine_change.proofs.Expiring.{behind, may_expire, session_is}
use Rattle.engine_change.proofs.Names.{connection_short}
use Rattle.engine_change.proofs.expiry.expire_files.Goals as goal

pub expiry_events-requires-clause-active : goal.expiry_events-requires-clause-active
expiry_events-requires-clause-active c =
    let k = kept_by c.args.store.now in
    let active = active_from_in k.files c.args.connection c.args.numbers c.requires.may.active in
    let same : kept_of c.state-state.result.now ≡ k = c.state-state.ensures.kept in
    ap (λ (l : Kept). are_all_active l.files c.as_slice-2.result.now) same ∙ ap (λ (ns : List ℕ). are_all_active k.files ns) c.as_slice-2.ensures ∙ active

pub returns-clause-may : goal.returns-clause-may
returns-clause-may c =
    let k = kept_by c.args.store.now in
    let stored = kept_of c.state-state.result.now in
    let flow = c.args.flow.now in
    let place = c.args.connection in
    let moment = c.args.moment in
    let numbers = c.args.numbers in
    let one = c.index-as_slice-from.result in
    let kept : stored ≡ k = c.state-state.ensures.kept in
    let read : one ≡ get_or flow.connections place one =
    c.index-as_slice-from.is ∙ ap (λ (l : List Connection). get_or l c.from.result one) c.as_slice.ensures ∙ ap (λ n. get_or flow.connections n one) c.from.ensures in
    let there = c.requires.may.connection in
    let at : slice_get flow.connections place ≡ Some one = slice_get_read flow.connections (length flow.connections) place one refl there read in
    let told : c.from-2.result ≡ expiry_events one.id moment k k.last_event numbers =
    c.from-2.ensures ∙ c.in_ok-events.ensures ∙ ap (λ (x : Connection). expiry_events x.id moment stored stored.last_event c.as_slice-2.result.now) (sym c.index-as_slice-from.is)
    ∙ ap (λ (l : Kept). expiry_events one.id moment l l.last_event c.as_slice-2.result.now) kept ∙ ap (λ (ns : List ℕ). expiry_events one.id moment k k.last_event ns) c.as_slice-2.ensures in
    let texts : All HasTexts (expiry_events one.id moment k k.last_event numbers) =
    subst (λ (events : List Event). All HasTexts events) (c.as_slice-3.ensures.value ∙ sym c.from-2.ensures ∙ told) c.have_texts.ensures in
    let short : moment < 2 ^ 64 = (let fits = c.ranges.moment.fits in omega (arith, fits)) in
    subst (λ (s : Settled). MayExpire k (record { connection = place; settled = s }))
    (session_is k stored moment numbers c.new.result c.from-2.result (expiry_events one.id moment k k.last_event numbers) kept c.new.ensures told)
    (may_expire flow k place one.id numbers moment c.state-state.ensures.consistent c.requires.may short (connection_short flow place one c.requires.sound at) texts)

pub returns-clause-leaves : goal.returns-clause-leaves
returns-clause-leaves c =
    let k = kept_by c.args.store.now in
    let stored = kept_of c.state-state.result.now in
    let flow = c.args.flow.now in
    let place = c.args.connection in
    let moment = c.args.moment in
    let numbers = c.args.numbers in
    let one = c.index-as_slice-from.result in
    let kept : stored ≡ k = c.state-state.ensures.kept in
    let read : one ≡ get_or flow.connections place one =
    c.index-as_slice-from.is ∙ ap (λ (l : List Connection). get_or l c.from.result one) c.as_slice.ensures ∙ ap (λ n. get_or flow.connections n one) c.from.ensures in
    let told : c.from-2.result ≡ expiry_events one.id moment k k.last_event numbers =
    c.from-2.ensures ∙ c.in_ok-events.ensures ∙ ap (λ (x : Connection). expiry_events x.id moment stored stored.last_event c.as_slice-2.result.now) (sym c.index-as_slice-from.is)
    ∙ ap (λ (l : Kept). expiry_events one.id moment l l.last_event c.as_slice-2.result.now) kept ∙ ap (λ (ns : List ℕ). expiry_events one.id moment k k.last_event ns) c.as_slice-2.ensures in
    let id : (connection : Connection) → slice_get flow.connections place ≡ Some connection → one.id ≡ connection.id =
    λ connection at. ap (λ (x : Connection). x.id) (read ∙ get_or_from_slice_get flow.connections place connection one at) in
    let laws = c.what_is_kept_is_a_state.ensures in
    let state = c.state-state.ensures in
    subst (λ (s : Settled). LeavesExpired flow k place numbers moment s)
    (session_is k stored moment numbers c.new.result c.from-2.result (expiry_events one.id moment k k.last_event numbers) kept c.new.ensures told)
    (behind laws.valid laws.queued laws.live flow k place one.id numbers moment state.consistent state.no_batches c.requires.flow c.requires.may id)
