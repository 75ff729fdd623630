use Rattle.std.proofs.Common.{◌≡◌, ◌≤◌, ℕ, List, length, sym, ap, subst, ◌∙◌, arith}
use Rattle.record_codec.specs.EntryEncoding.{entry as encoding, IsEntry}
use Rattle.record_codec.specs.declared.block.TheConstants.{PAYLOAD_MAX}
use Rattle.record_codec.specs.declared.entry.LogEntry.{LogEntry}
use Rattle.record_codec.specs.declared.entry.LogEntry.TheVariants.{Expire}
use Rattle.kept_state.specs.Changes.{expiry_entry}
use Rattle.kept_state.proofs.Expiring.{few_expire, expiry_encoded, expiry_payload}
use Rattle.kept_state.proofs.state.KeptState.prepare_expiry.Goals as goal

pub last_event_with-requires : goal.last_event_with-requires
last_event_with-requires c = few_expire c.args.self.now.kept c.args.connection c.args.settled.now c.stored-stored.ensures.consistent c.requires.may

pub new-requires-clause-encoded : goal.new-requires-clause-encoded
new-requires-clause-encoded c =
    let k = c.args.self.now.kept in
    let s = c.args.settled.now in
    let made : List ℕ → ℕ → LogEntry = λ numbers last.
    Expire (record { connection = c.args.connection; moment = s.moment; numbers = numbers; last_event = last }) in
    let is : expiry_entry k c.args.connection s ≡ made c.in_ok-numbers.numbers c.last_event_with.result =
    sym (ap (λ (ns : List ℕ). made ns c.last_event_with.result) (c.in_ok-numbers.ensures ∙ c.as_slice.ensures) ∙ ap (made s.gone) c.last_event_with.ensures) in
    let place = c.ranges.connection.fits in
    subst IsEntry is (expiry_encoded k c.args.connection s c.stored-stored.ensures.consistent (omega (arith, place)) c.requires.may c.requires.numbers)

pub new-requires-clause-payload : goal.new-requires-clause-payload
new-requires-clause-payload c =
    let k = c.args.self.now.kept in
    let s = c.args.settled.now in
    let made : List ℕ → ℕ → LogEntry = λ numbers last.
    Expire (record { connection = c.args.connection; moment = s.moment; numbers = numbers; last_event = last }) in
    let is : expiry_entry k c.args.connection s ≡ made c.in_ok-numbers.numbers c.last_event_with.result =
    sym (ap (λ (ns : List ℕ). made ns c.last_event_with.result) (c.in_ok-numbers.ensures ∙ c.as_slice.ensures) ∙ ap (made s.gone) c.last_event_with.ensures) in
    subst (λ (e : LogEntry). length (encoding e) ≤ PAYLOAD_MAX) is (expiry_payload k c.args.connection s c.stored-stored.ensures.consistent c.requires.may)
