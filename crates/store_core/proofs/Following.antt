-- Files that follow others: what is kept, the log, the live contents and the events are the same.
use Rattle.std.proofs.Common.{◌≡◌, ℕ, get_or, refl, sym, ap, ◌∙◌}
use Rattle.std.specs.Prelude.{All, Ok}
use Rattle.disk_trait.specs.Files.{Files, named}
use Rattle.disk_trait.specs.declared.file_name.FileKind.TheVariants.{Log, Snapshot, Claim, Events}
use Rattle.disk_trait.specs.declared.file_name.FileName.{FileName}
use Rattle.checkpoint_store.specs.Snapshot.{snapshot_file}
use Rattle.content_repo.specs.Claims.{claim, content_in}
use Rattle.flowfile_wal.specs.Current.{current_log}
use Rattle.flowfile_wal.specs.Steps.{KeepsLog}
use Rattle.flowfile_wal.proofs.Files.{alike}
use Rattle.machine_model.specs.State.{State}
use Rattle.prov_store.specs.Events.{events_file, events_in, covered_bytes}
use Rattle.prov_store.specs.State.{HasEvents, GrowsBehind as EventsGrow}
use Rattle.store_core.specs.Agreement.{SameContent}
use Rattle.store_core.specs.Flow.{flow_in}
use Rattle.store_core.specs.Placing.{ClaimsGrowBehind, GrowsAhead}
use Rattle.store_core.specs.State.{stands_for}
use Rattle.store_core.specs.Store.{StoreState, IsWorking, kept_by, live_in, FilesHold, HasLog}
use Rattle.store_core.proofs.Agreeing.{kept_alike, contents_sound, sound_of, state_of_sound, stands_by_kept, same_state, of_state}
use Rattle.store_core.proofs.ClaimsAlone.{SameLogs, current_same, current_stays, log_stays, snapshot_stays, events_stay as events_beside}
use Rattle.store_core.proofs.EventsStay.{same_covered, says_still, has_same, has_still, since_none}
use Rattle.store_core.proofs.Growing.{same_grown, covered_grown}
use Rattle.store_core.proofs.Reclaiming.{same_claim}

-- the log says the same, its snapshot is the same, and so are the contents of the live files and the events
pub record Follows (s : StoreState) (old new : Files) : Type 0 where
  pub current : current_log new ≡ current_log old
  pub snapshot : (n : ℕ) → new (snapshot_file n) ≡ old (snapshot_file n)
  pub contents : All (SameContent old new) (live_in s)
  pub events : (k : ℕ) → covered_bytes s.events.line s.events.end k new ≡ covered_bytes s.events.line s.events.end k old

pub follows_itself : (s : StoreState) (files : Files) → Follows s files files
follows_itself s files = record { current = refl; snapshot = λ n. refl; contents = λ k d lt. record { bytes = refl; covered = λ h. h }; events = λ k. refl }

pub follows_in_turn : (s : StoreState) (a b c : Files) → Follows s a b → Follows s b c → Follows s a c
follows_in_turn s a b c first second = record {
  current = second.current ∙ first.current;
  snapshot = λ n. second.snapshot n ∙ first.snapshot n;
  contents = λ k d lt. record {
    bytes = (second.contents k d lt).bytes ∙ (first.contents k d lt).bytes;
    covered = λ h. (second.contents k d lt).covered ((first.contents k d lt).covered h);
  };
  events = λ k. second.events k ∙ first.events k;
}

pub follows_grown : (s : StoreState) (old new : Files) → IsWorking s → ClaimsGrowBehind s.slots old new → Follows s old new
follows_grown s old new works grows = record {
  current = current_stays old new grows.others;
  snapshot = snapshot_stays old new grows.others;
  contents = λ k d lt. same_grown s.slots old new (get_or (live_in s) k d) (works.within k d lt) grows;
  events = same_covered s.events.line s.events.end old new (events_beside old new grows.others);
}

pub log_grown : (s : StoreState) (old new : Files) → EventsGrow s.events old new → SameLogs old new
log_grown s old new grows n = grows.others (named Log n) (λ (e : Log ≡ Events). absurd cc)

-- files of events that only grow
follows_events : (s : StoreState) (old new : Files) → HasEvents s.events old → EventsGrow s.events old new → Follows s old new
follows_events s old new has grows = record {
  current = current_same old new (log_grown s old new grows);
  snapshot = λ n. grows.others (snapshot_file n) (λ (e : Snapshot ≡ Events). absurd cc);
  contents = λ k d lt.
      let at = get_or (live_in s) k d in
      same_claim old new at (grows.others (claim at.slot) (λ (e : Claim ≡ Events). absurd cc));
  events = covered_grown s.events old new has grows;
}

pub follows_ahead : (s : StoreState) (old new : Files) → IsWorking s → HasEvents s.events old → GrowsAhead s.slots s.events old new → Follows s old new
follows_ahead s old new works has grows =
    follows_in_turn s old grows.mid new (follows_grown s old grows.mid works grows.claims)
    (follows_events s grows.mid new (has_same s.events old grows.mid (events_beside old grows.mid grows.claims.others) has) grows.events)

pub logs_ahead : (s : StoreState) (old new : Files) → GrowsAhead s.slots s.events old new → SameLogs old new
logs_ahead s old new grows n = log_grown s grows.mid new grows.events n ∙ log_stays old grows.mid grows.claims.others n

pub follows_kept_log : (s : StoreState) (number : ℕ) (old new : Files) → KeepsLog number old new → Follows s old new
follows_kept_log s number old new keeps = record {
  current = alike number old new keeps;
  snapshot = λ n. keeps.others (snapshot_file n) (λ (e : snapshot_file n ≡ named Log number). let kinds : Snapshot ≡ Log = ap (λ (f : FileName). f.kind) e in absurd cc);
  contents = λ k d lt.
      let at = get_or (live_in s) k d in
      same_claim old new at (keeps.others (claim at.slot) (λ (e : claim at.slot ≡ named Log number). let kinds : Claim ≡ Log = ap (λ (f : FileName). f.kind) e in absurd cc));
  events = same_covered s.events.line s.events.end old new (λ k. keeps.others (events_file k) (λ (e : events_file k ≡ named Log number). let kinds : Events ≡ Log = ap (λ (f : FileName). f.kind) e in absurd cc));
}

pub holds_following : (s : StoreState) (old new : Files) → HasLog s old → Follows s old new → FilesHold s old → FilesHold s new
holds_following s old new has follows was =
    let log = has.ready.log in
    let current = has.ready.ready.current in
    record {
      kept = kept_alike (flow_in (kept_by s)) s.lot old new log current (follows.current ∙ current) (follows.snapshot log.number) ∙ was.kept;
      contents = contents_sound old new (live_in s) follows.contents was.contents;
      events = has_still s.events old new follows.events was.events;
      line = was.line;
    }

-- the state that they stand for is the same
pub state_following : (s : StoreState) (state : State) (old new : Files) → IsWorking s → HasLog s old → Follows s old new → FilesHold s old
    → stands_for (flow_in (kept_by s)) s.lot old ≡ of_state state → stands_for (flow_in (kept_by s)) s.lot new ≡ of_state state
state_following s state old new works has follows was stands =
    let flow = flow_in (kept_by s) in
    let k = kept_by s in
    let now = holds_following s old new has follows was in
    let sound_old = sound_of old k state (sym (stands_by_kept flow s.lot old k was.kept) ∙ stands) in
    let events : events_in new 0 k.last_event ≡ Ok sound_old.events =
    since_none new s.events k.last_event was.line works.last_event
    ∙ says_still s.events.line s.events.end old new sound_old.events follows.events (sym (since_none old s.events k.last_event was.line works.last_event) ∙ sound_old.events_are) in
    stands_by_kept flow s.lot new k now.kept
    ∙ state_of_sound new k sound_old.events now.contents events
    ∙ ap of_state (same_state (content_in new) (content_in old) sound_old.events k (λ i d lt. (follows.contents i d lt).bytes) ∙ sym sound_old.is)
