-- A settled session may be handed to the store, and makes of its state what the machine makes.
use Rattle.std.proofs.Common.{◌≡◌, ℕ, true, List, get_or, map, sym, subst, ◌∙◌, arith}
use Rattle.std.specs.Prelude.{All, Contains}
use Rattle.flowfile_record.specs.Ranges.{IsRangeOfOne}
use Rattle.flowfile_record.specs.Shared.{is_stored}
use Rattle.flowfile_record.specs.Stored.{Kept}
use Rattle.flowfile_record.specs.declared.content.ContentRef.{ContentRef}
use Rattle.flowfile_record.specs.declared.flow_file.FlowFile.{FlowFile}
use Rattle.flowfile_record.specs.declared.stored.ActiveFile.{ActiveFile}
use Rattle.flowfile_record.specs.declared.stored.Fresh.{Fresh}
use Rattle.flowfile_record.specs.declared.stored.Fresh.TheVariants.{No, Bytes, Staged, As}
use Rattle.record_codec.specs.ActiveFile.{active}
use Rattle.machine_model.specs.Changing.{state_after}
use Rattle.machine_model.proofs.Among.{Among, all_among, among_contained, contains_among, is_made, makes}
use Rattle.settlement.specs.TellsOf.{IsContentBy}
use Rattle.store_core.specs.Change.{HasLiveContents, MayChange}
use Rattle.store_core.specs.State.{state_with}
use Rattle.store_core.specs.Store.{StoreState, kept_by}
use Rattle.engine_change.specs.Committing.{LeavesState}
use Rattle.engine_change.proofs.Cases.{Case, IsSettled, handed_over}
use Rattle.engine_change.proofs.Encoded.{all_fresh, encoded}
use Rattle.engine_change.proofs.Events.{event_count, events_have_blocks, events_numbered}
use Rattle.engine_change.proofs.Payload.{payload}
use Rattle.engine_change.proofs.Recorded.{digests, few_taken, records}
use Rattle.engine_change.proofs.Suits.{suits}

pub may_change : (c : Case) → IsSettled c → MayChange c.k c.settled
may_change c is =
    let all = records c is in
    let few = all.few in
    let taken = few_taken c is in
    record {
      settles = record {
        suits = suits c is;
        gone = omega (arith, taken);
        placed = omega (arith, few);
        events = event_count c is;
        encoded = encoded c is;
        payload = payload c.k c.settled (digests c is) taken few all.attributes;
      };
      numbered = events_numbered c is;
      events = events_have_blocks c is;
      fresh = all_fresh c is;
      shared = is.tells.shared;
    }

-- ---- contents that stay

-- a content of a taken file is one of a live file
live_content : (files : List ActiveFile) (connection : ℕ) (taken : List FlowFile) (content : ContentRef) → All (λ file. Contains files (active connection file)) taken
    → Contains (map (λ file. file.content) taken) content → Contains (map (λ a. a.file.content) files) content
live_content files connection taken content there has =
    let from = is_made (λ (file : FlowFile). file.content) taken content (among_contained content (map (λ (file : FlowFile). file.content) taken) has) in
    let stands = all_among (λ file. Contains files (active connection file)) from.source taken there from.there in
    let among = makes (λ (a : ActiveFile). a.file.content) files (active connection from.source) (among_contained (active connection from.source) files stands) in
    contains_among content (map (λ (a : ActiveFile). a.file.content) files) (subst (λ (at : ContentRef). Among at (map (λ (a : ActiveFile). a.file.content) files)) from.is among)

live_by : (c : Case) → IsSettled c → (content : ContentRef) (fresh : Fresh) → IsContentBy c.ended.taken content fresh → is_stored fresh ≡ true → IsRangeOfOne (map (λ a. a.file.content) c.k.files) content
live_by c is content No has stored = (has.0.0, live_content c.k.files c.ended.connection c.ended.taken has.0.0 is.may.there has.0.1, has.0.2)
live_by c is content Staged has stored = absurd has
live_by c is content (Bytes bytes) has stored = absurd cc
live_by c is content (As of) has stored = absurd cc

pub live_contents : (c : Case) → IsSettled c → (s : StoreState) → kept_by s ≡ c.k → HasLiveContents s c.settled
live_contents c is s same =
    λ i d lt stored.
    let p = get_or c.settled.placed i d in
    subst (λ (k : Kept). IsRangeOfOne (map (λ (a : ActiveFile). a.file.content) k.files) p.file.content) (sym same)
    (live_by c is p.file.content p.fresh (is.tells.contents i d lt) stored)

-- ---- the state behind it

pub state_behind : (c : Case) → IsSettled c → LeavesState c.flow c.given c.ended c.k c.settled
state_behind c is processor at contents ranges read events up_to =
    let state = state_with contents events c.k in
    let after = state_after contents state c.settled in
    let left = is.settles processor contents state (handed_over c is processor at contents events up_to) in
    (λ i. record after { queues = left.queues ranges i; events = left.events read i; kin = left.kin read i; last_event = left.last_event read i }) ∙ left.rest
