-- What opening a store answers, by what was read of its files.
use Rattle.std.proofs.Common.{◌≡◌, inl, inr, ℕ, Bool, List, IsTrue, sym, ap, subst, ◌∙◌}
use Rattle.std.specs.Prelude.{Option, None, Some, Result, Ok, Err, IfOk}
use Rattle.disk_trait.specs.Files.{Files}
use Rattle.disk_trait.specs.Images.{Stays}
use Rattle.disk_trait.specs.declared.damage.Damage.{Damage}
use Rattle.flowfile_record.specs.Stored.{Kept}
use Rattle.flowfile_wal.specs.Current.{current_number}
use Rattle.machine_model.specs.State.{State}
use Rattle.store_core.specs.declared.error.StoreError.{StoreError}
use Rattle.store_core.specs.declared.reading.Found.{Found}
use Rattle.store_core.specs.Flow.{Flow, flow_in}
use Rattle.store_core.specs.Kept.{kept_in}
use Rattle.store_core.specs.Opened.{HasNoLeftovers, IsFound, IsOfOther, IsOpenedOn, IsRevived, IsShut}
use Rattle.prov_store.specs.Events.{events_in}
use Rattle.prov_store.specs.State.{EventsState, HasEvents}
use Rattle.store_core.specs.State.{stands_for, contents_damage, live_contents}
use Rattle.store_core.specs.Store.{StoreState, IsKeptOn, kept_by}
use Rattle.store_core.specs.Touched.{log_opened}
use Rattle.flowfile_record.specs.declared.event.Event.{Event}
use Rattle.store_core.proofs.EventsStay.{since_none}
use Rattle.store_core.proofs.Opening.{stands_whole, events_damaged}

abbrev of_state : State → Result State Damage
of_state s = Ok s

abbrev of_kept : Kept → Result Kept Damage
of_kept k = Ok k

abbrev of_damage : Damage → Result State Damage
of_damage damage = Err damage

one_kept : (flow : Flow) (lot : ℕ) (files : Files) (k other : Kept) → kept_in flow lot files ≡ Ok k → kept_in flow lot files ≡ Ok other → other ≡ k
one_kept flow lot files k other is also = let both : of_kept other ≡ of_kept k = sym also ∙ is in cc

-- files that keep something of this flow, all sound, may be opened
pub not_shut : (flow : Flow) (lot : ℕ) (files : Files) (k : Kept) (events : List Event) → kept_in flow lot files ≡ Ok k → contents_damage files (live_contents k) ≡ None
    → events_in files 0 k.last_event ≡ Ok events → flow_in k ≡ flow → IsShut flow lot files → ⊥
not_shut flow lot files k events is contents says same (inl damaged) =
    let both : of_state _ ≡ Err damaged.0 = sym (stands_whole flow lot files k events is contents says) ∙ damaged.1 in absurd cc
not_shut flow lot files k events is contents says same (inr other) =
    let o = other.1 in
    let kept : o.kept ≡ k = one_kept flow lot files k o.kept is o.keeps in
    o.other (sym o.is ∙ ap (λ (x : Kept). x.flow) kept ∙ ap (λ (f : Flow). f.digest) same)

pub is_other : (flow : Flow) (lot : ℕ) (files : Files) (k : Kept) (events : List Event) (digest : List ℕ) → kept_in flow lot files ≡ Ok k → contents_damage files (live_contents k) ≡ None
    → events_in files 0 k.last_event ≡ Ok events → k.flow ≡ digest → (k.flow ≡ flow.digest → ⊥) → IsOfOther flow lot digest files
is_other flow lot files k events digest is contents says same other = record {
  state = _;
  stands = stands_whole flow lot files k events is contents says;
  kept = k;
  keeps = is;
  is = same;
  other = λ e. other (same ∙ e);
}

-- ---- what reading told

pub moved : (a b : Files) (k other : Kept) (told : Option Damage) → b ≡ a → other ≡ k → contents_damage b (live_contents other) ≡ told → contents_damage a (live_contents k) ≡ told
moved a b k other told files kept is =
    ap (λ (f : Files). contents_damage f (live_contents k)) (sym files) ∙ ap (λ (x : Kept). contents_damage b (live_contents x)) (sym kept) ∙ is

-- the events that were read are those up to the last one of what is kept
pub events_told : (a b : Files) (k : Kept) (e : EventsState) (last : ℕ) → b ≡ a → e.line ≡ 0 → e.end ≡ last → last ≡ k.last_event → (has : HasEvents e b) → events_in a 0 k.last_event ≡ Ok has.events
events_told a b k e last files line end is has =
    ap (λ (f : Files). events_in f 0 k.last_event) (sym files) ∙ since_none b e k.last_event line (sym (end ∙ is)) ∙ has.says

pub events_torn : (flow : Flow) (lot : ℕ) (a b : Files) (k : Kept) (last : ℕ) (damage : Damage) → kept_in flow lot a ≡ Ok k → contents_damage a (live_contents k) ≡ None
    → b ≡ a → last ≡ k.last_event → events_in b 0 last ≡ Err damage → stands_for flow lot a ≡ of_damage damage
events_torn flow lot a b k last damage is contents files same torn =
    events_damaged flow lot a k damage is contents
    (ap (λ (f : Files). events_in f 0 k.last_event) (sym files) ∙ ap (events_in b 0) (sym same) ∙ torn)

pub is_found : (flow : Flow) (lot : ℕ) (files : Files) (k : Kept) (events : List Event) (s : StoreState) → kept_in flow lot files ≡ Ok k → contents_damage files (live_contents k) ≡ None
    → events_in files 0 k.last_event ≡ Ok events → kept_by s ≡ k
    → s.log.number ≡ Some (log_opened (current_number files)) → IsFound flow lot s files
is_found flow lot files k events s is contents says same log = record { log = log; kept = is ∙ ap of_kept (sym same); state = _; stood = stands_whole flow lot files k events is contents says }

pub found_at : (flow : Flow) (lot : ℕ) (s : StoreState) (a b : Files) → a ≡ b → IsFound flow lot s a → IsFound flow lot s b
found_at flow lot s a b same is = subst (λ (files : Files). IsFound flow lot s files) same is

-- what was read of this flow was made a store
pub opened_on : {D : Type 0} (tells : Bool) (held : D → Files) (moment : D → ℕ) (images : D → ℕ → Files → Type 0) (flow : Flow) (lot : ℕ) (old new : D) (found : Found) (r : Result StoreState StoreError)
    → flow_in found.state.kept ≡ flow → ((s : StoreState) → IsRevived lot found s → IsTrue tells → IsFound flow lot s (held old))
    → IfOk r (IsRevived lot found) → IfOk r (λ s. IsKeptOn tells held moment images s new) → IfOk r (λ s. IsTrue tells → HasNoLeftovers s (held new))
    → IfOk r (IsOpenedOn tells held moment images flow lot old new)
opened_on tells held moment images flow lot old new found (Ok s) same finds revived kept tidy = record {
  opened = record {
    flow_is = ap flow_in revived.kept ∙ same;
    lot_is = revived.lot_is;
    works = revived.works;
    contents = revived.contents;
  };
  found = finds s revived;
  kept = kept;
  tidy = tidy;
}
opened_on tells held moment images flow lot old new found (Err error) same finds revived kept tidy = tt

module _ {D : Type 0} (holds : D → Files) (moment : D → ℕ) (images : D → ℕ → Files → Type 0) where
  pub stays_in_turn : (old mid new : D) → Stays holds moment images old mid → Stays holds moment images mid new → Stays holds moment images old new
  stays_in_turn old mid new first second = record {
    files = second.files ∙ first.files;
    time = second.time ∙ first.time;
    past = λ k c left. first.past k c (second.past k c left);
    kept = λ k c left. second.kept k c (first.kept k c left);
  }
