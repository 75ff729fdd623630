-- A store lets go of the contents of its opening.
use Rattle.std.proofs.Common.{◌≡◌, ℕ, ◌+◌, ◌≤◌, List, [], length, get_or, sym, subst, ◌∙◌, arith}
use Rattle.content_repo.specs.Slots.{count_of, size_of, held_in, references_to}
use Rattle.content_repo.specs.declared.slot.Slot.{Slot}
use Rattle.disk_trait.specs.Files.{Files}
use Rattle.std.specs.Prelude.{Bool, false, IsTrue}
use Rattle.content_repo.specs.Claims.{HasSizes}
use Rattle.store_core.specs.Store.{StoreState, IsWorking, IsSoundStore, IsKeptOn, FilesHold, live_in}
use Rattle.disk_trait.specs.Images.{After, Since}
use Rattle.disk_trait.proofs.Moments.{wider, at_the_end}
use Rattle.content_repo.specs.Claims.{IdleShortened}
use Rattle.content_repo.specs.Slots.{IsReclaimed}
use Rattle.content_repo.specs.declared.reclaim.Reclaimed.{Reclaimed}
use Rattle.machine_model.specs.State.{State}
use Rattle.prov_store.specs.State.{IsTrimmed}
use Rattle.store_core.specs.Flow.{flow_in}
use Rattle.store_core.specs.State.{stands_for}
use Rattle.store_core.specs.Store.{EachStandsFor, kept_by}
use Rattle.store_core.proofs.Agreeing.{of_state}
use Rattle.store_core.proofs.ClaimsAlone.{current_stays, snapshot_stays, events_stay}
use Rattle.store_core.proofs.EventsStay.{same_covered}
use Rattle.store_core.proofs.Following.{Follows, state_following}
use Rattle.store_core.proofs.Reclaiming.{live_stay, since_reclaimed, kept_reclaimed, sound_reclaimed}

abbrev pub let_go : StoreState → List Slot → StoreState
let_go s slots = record s { slots = slots; opened = [] }

pub may_let_go : (s : StoreState) → IsWorking s → (k : ℕ) → references_to k s.opened ≤ count_of s.slots k
may_let_go s works k = omega (arith, works.counts k)

pub working_let_go : (s : StoreState) (slots : List Slot) → IsWorking s → ((k : ℕ) → count_of slots k + references_to k s.opened ≡ count_of s.slots k)
    → held_in slots + length s.opened ≡ held_in s.slots → ((k : ℕ) → size_of slots k ≡ size_of s.slots k) → IsWorking (let_go s slots)
working_let_go s slots works counts held sizes = record {
  log = works.log;
  last_event = works.last_event;
  counts = λ k. omega (arith, counts k, works.counts k);
  held = omega (arith, held, works.held);
  named = works.named;
  within = λ i d lt. omega (arith, works.within i d lt, sizes (get_or (live_in s) i d).slot);
}

pub kept_let_go : {D : Type 0} (tells : Bool) (held : D → Files) (moment : D → ℕ) (images : D → ℕ → Files → Type 0) (s : StoreState) (slots : List Slot) (disk : D) → ((k : ℕ) → size_of slots k ≡ size_of s.slots k)
    → IsKeptOn tells held moment images s disk → IsKeptOn tells held moment images (let_go s slots) disk
kept_let_go tells held moment images s slots disk sizes kept = record {
  holds = λ f c left. let h = kept.holds f c left in record { kept = h.kept; contents = h.contents; events = h.events; line = h.line };
  log = λ f c left. let h = kept.log f c left in record { ready = h.ready; entries = h.entries };
  sizes = λ f told k. kept.sizes f told k ∙ sym (sizes k);
  trimmed = kept.trimmed;
}

-- ---- the claims are emptied, and the disk is synced

abbrev pub closed : StoreState → List Slot → StoreState
closed s slots = record s { slots = slots; opened = [] }

-- the references of the opening were given up
pub record HasLetGo (s : StoreState) (slots : List Slot) : Type 0 where
  pub works : IsWorking s
  pub unfailed : s.failed ≡ false
  pub counts : (k : ℕ) → count_of slots k + references_to k s.opened ≡ count_of s.slots k
  pub held : held_in slots + length s.opened ≡ held_in s.slots
  pub sizes : (k : ℕ) → size_of slots k ≡ size_of s.slots k

works_on : (s : StoreState) (slots : List Slot) → HasLetGo s slots → IsWorking (let_go s slots)
works_on s slots has = working_let_go s slots has.works has.counts has.held has.sizes

module _ {D : Type 0} (tells : Bool) (held : D → Files) (moment : D → ℕ) (images : D → ℕ → Files → Type 0) (s : StoreState) (slots : List Slot) (old mid : D) (has : HasLetGo s slots)
    (kept : IsKeptOn tells held moment images s old) (since : Since moment images old mid (After (IdleShortened slots) (images old (moment old)))) where
  kept_on : IsKeptOn tells held moment images (let_go s slots) old
  kept_on = kept_let_go tells held moment images s slots old has.sizes kept

  pub since_closed : Since moment images old mid (FilesHold s)
  since_closed =
      wider moment images old mid (FilesHold (let_go s slots)) (FilesHold s)
      (since_reclaimed moment images (let_go s slots) old mid (works_on s slots has) (kept_on.holds has.unfailed) (kept_on.log has.unfailed) since)
      (λ c h. record { kept = h.kept; contents = h.contents; events = h.events; line = h.line })

  follows_emptied : (before c : Files) → IdleShortened slots before c → Follows s before c
  follows_emptied before c step = record {
    current = current_stays before c step.others;
    snapshot = snapshot_stays before c step.others;
    contents = live_stay (let_go s slots) before c (works_on s slots has) step;
    events = same_covered s.events.line s.events.end before c (events_stay before c step.others);
  }

  -- whatever a stop leaves stands for the same state
  pub states_closed : (state : State) → EachStandsFor (flow_in (kept_by s)) s.lot state (images old (moment old)) → Since moment images old mid (λ c. stands_for (flow_in (kept_by s)) s.lot c ≡ of_state state)
  states_closed state stands =
      wider moment images old mid (After (IdleShortened slots) (images old (moment old))) (λ c. stands_for (flow_in (kept_by s)) s.lot c ≡ of_state state) since
      (λ c after. state_following s state after.0 c has.works (kept.log has.unfailed after.0 after.1) (follows_emptied after.0 c after.2) (kept.holds has.unfailed after.0 after.1) (stands after.0 after.1))

  pub kept_closed : (emptied : List Slot) → (IsTrue tells → IdleShortened slots (held old) (held mid)) → (IsTrue tells → HasSizes emptied (held mid)) → IsKeptOn tells held moment images (closed s emptied) mid
  kept_closed emptied shortened sizes = kept_reclaimed moment images (let_go s slots) old mid tells held emptied (works_on s slots has) has.unfailed kept_on since shortened sizes

-- a reclaim leaves what the files stand for
pub states_reclaimed : {D : Type 0} (tells : Bool) (held : D → Files) (moment : D → ℕ) (images : D → ℕ → Files → Type 0) (s : StoreState) (old new : D) → IsWorking s → s.failed ≡ false
    → IsKeptOn tells held moment images s old → Since moment images old new (After (IdleShortened s.slots) (images old (moment old)))
    → (state : State) → EachStandsFor (flow_in (kept_by s)) s.lot state (images old (moment old)) → Since moment images old new (λ c. stands_for (flow_in (kept_by s)) s.lot c ≡ of_state state)
states_reclaimed tells held moment images s old new works unfailed kept since state stands =
    wider moment images old new (After (IdleShortened s.slots) (images old (moment old))) (λ c. stands_for (flow_in (kept_by s)) s.lot c ≡ of_state state) since
    (λ c after. state_following s state after.0 c works (kept.log unfailed after.0 after.1) (follows after.0 c after.2) (kept.holds unfailed after.0 after.1) (stands after.0 after.1))
  where
    follows : (before c : Files) → IdleShortened s.slots before c → Follows s before c
    follows before c step = record {
      current = current_stays before c step.others;
      snapshot = snapshot_stays before c step.others;
      contents = live_stay s before c works step;
      events = same_covered s.events.line s.events.end before c (events_stay before c step.others);
    }

-- a sync leaves it so
pub kept_synced : {D : Type 0} (tells : Bool) (held : D → Files) (moment : D → ℕ) (images : D → ℕ → Files → Type 0) (s : StoreState) (mid end : D) → IsKeptOn tells held moment images s mid
    → Since moment images mid end (images mid (moment mid)) → held end ≡ held mid → IsKeptOn tells held moment images s end
kept_synced tells held moment images s mid end kept since same = record {
  holds = λ f c left. kept.holds f c (at_the_end moment images mid end (images mid (moment mid)) since c left);
  log = λ f c left. kept.log f c (at_the_end moment images mid end (images mid (moment mid)) since c left);
  sizes = λ f told. subst (HasSizes s.slots) (sym same) (kept.sizes f told);
  trimmed = λ f told. subst (IsTrimmed s.events.line s.events.end) (sym same) (kept.trimmed f told);
}

pub sound_closed : (s : StoreState) (slots emptied : List Slot) (answer : Reclaimed) → IsSoundStore s → HasLetGo s slots → IsReclaimed slots emptied answer → IsSoundStore (closed s emptied)
sound_closed s slots emptied answer sound has is =
    sound_reclaimed (let_go s slots) emptied answer
    (record { current = sound.current; mended = sound.mended; opened = omega arith; works = λ f. works_on s slots has })
    has.unfailed is
