use Rattle.std.proofs.Common.{◌≡◌, ◌+◌, List, length, sym, subst}
use Rattle.disk_trait.specs.Images.{Since}
use Rattle.disk_trait.proofs.Moments.{and_syncs}
use Rattle.flowfile_record.specs.declared.content.ContentRef.{ContentRef}
use Rattle.content_repo.specs.Slots.{count_of, held_in, references_to}
use Rattle.store_core.specs.Calls.{KeepsMeaning}
use Rattle.store_core.specs.Flow.{flow_in}
use Rattle.store_core.specs.State.{stands_for}
use Rattle.store_core.specs.Store.{StoreState, store_in, IsKeptOn, IsSoundStore, IsTidy, FilesHold, kept_by}
use Rattle.store_core.proofs.Agreeing.{of_state}
use Rattle.store_core.proofs.Closing.{HasLetGo, closed, since_closed, states_closed, kept_closed, kept_synced, sound_closed}
use Rattle.store_core.proofs.Tidying.{tidy_closed}
use Rattle.store_core.proofs.Touching.{since_frees, frees_synced}
use Rattle.store_core.proofs.store.Store.close.Goals as goal

pub returns-in_default-clause-meaning : goal.returns-in_default-clause-meaning
returns-in_default-clause-meaning g c works =
    let i = c.self.inside in
    let s = store_in i.state i.log i.entries i.contents i.opened.items i.events i.lot i.has_failed in
    let moment = g.D.Disk.moment in
    let images = g.D.Disk.images in
    let held = g.D.Disk.held in
    let tells = g.D.Disk.tells in
    let old = c.args.disk.now in
    let mid = c.reclaim.new.disk in
    let slots = c.let_go.new.contents in
    let has : HasLetGo s slots = record {
      works = c.self.invariant.works c.if-self.false;
      unfailed = c.if-self.false;
      counts = λ k. subst (λ (refs : List ContentRef). count_of slots k + references_to k refs ≡ count_of i.contents k) c.as_slice.ensures.value (c.let_go.ensures.counts k);
      held = subst (λ (refs : List ContentRef). held_in slots + length refs ≡ held_in i.contents) c.as_slice.ensures.value c.let_go.ensures.held;
      sizes = c.let_go.ensures.sizes;
    } in
    let kept = subst (λ (t : StoreState). IsKeptOn tells held moment images t old) (sym c.self.view_is) c.requires in
    let holds : Since moment images old mid (FilesHold s) = since_closed tells held moment images s slots old mid has kept c.reclaim.ensures.images in
    subst (λ (t : StoreState). KeepsMeaning moment images t old mid) c.self.view_is
    (record {
      holds = holds;
      states = λ state stands. states_closed tells held moment images s slots old mid has kept c.reclaim.ensures.images state stands;
    })

pub invariant_of-self-in-Ok-sync : goal.invariant_of-self-in-Ok-sync
invariant_of-self-in-Ok-sync g c =
    let i = c.self.inside in
    let s = store_in i.state i.log i.entries i.contents i.opened.items i.events i.lot i.has_failed in
    let moment = g.D.Disk.moment in
    let images = g.D.Disk.images in
    let held = g.D.Disk.held in
    let tells = g.D.Disk.tells in
    let old = c.args.disk.now in
    let mid = c.reclaim.new.disk in
    let slots = c.let_go.new.contents in
    let has : HasLetGo s slots = record {
      works = c.self.invariant.works c.if-self.false;
      unfailed = c.if-self.false;
      counts = λ k. subst (λ (refs : List ContentRef). count_of slots k + references_to k refs ≡ count_of i.contents k) c.as_slice.ensures.value (c.let_go.ensures.counts k);
      held = subst (λ (refs : List ContentRef). held_in slots + length refs ≡ held_in i.contents) c.as_slice.ensures.value c.let_go.ensures.held;
      sizes = c.let_go.ensures.sizes;
    } in
    subst (λ (o : List ContentRef). IsSoundStore (store_in i.state i.log i.entries c.reclaim.new.self o i.events i.lot i.has_failed)) (sym c.clear.ensures.items)
    (sound_closed s slots c.reclaim.new.self c.in-Ok.field-0 c.self.invariant has c.in-Ok.ensures.reclaimed)

pub returns-in_default-sync-clause-meaning : goal.returns-in_default-sync-clause-meaning
returns-in_default-sync-clause-meaning g c works =
    let i = c.self.inside in
    let s = store_in i.state i.log i.entries i.contents i.opened.items i.events i.lot i.has_failed in
    let moment = g.D.Disk.moment in
    let images = g.D.Disk.images in
    let held = g.D.Disk.held in
    let tells = g.D.Disk.tells in
    let old = c.args.disk.now in
    let mid = c.reclaim.new.disk in
    let slots = c.let_go.new.contents in
    let has : HasLetGo s slots = record {
      works = c.self.invariant.works c.if-self.false;
      unfailed = c.if-self.false;
      counts = λ k. subst (λ (refs : List ContentRef). count_of slots k + references_to k refs ≡ count_of i.contents k) c.as_slice.ensures.value (c.let_go.ensures.counts k);
      held = subst (λ (refs : List ContentRef). held_in slots + length refs ≡ held_in i.contents) c.as_slice.ensures.value c.let_go.ensures.held;
      sizes = c.let_go.ensures.sizes;
    } in
    let kept = subst (λ (t : StoreState). IsKeptOn tells held moment images t old) (sym c.self.view_is) c.requires in
    let holds : Since moment images old mid (FilesHold s) = since_closed tells held moment images s slots old mid has kept c.reclaim.ensures.images in
    subst (λ (t : StoreState). KeepsMeaning moment images t old c.sync.new.self) c.self.view_is
    (record {
      holds = and_syncs moment images old mid c.sync.new.self (FilesHold s) holds c.sync.ensures.images;
      states = λ state stands.
          and_syncs moment images old mid c.sync.new.self (λ c'. stands_for (flow_in (kept_by s)) s.lot c' ≡ of_state state)
          (states_closed tells held moment images s slots old mid has kept c.reclaim.ensures.images state stands) c.sync.ensures.images;
    })

pub returns-clause-meaning : goal.returns-clause-meaning
returns-clause-meaning g c works =
    let i = c.self.inside in
    let s = store_in i.state i.log i.entries i.contents i.opened.items i.events i.lot i.has_failed in
    let moment = g.D.Disk.moment in
    let images = g.D.Disk.images in
    let held = g.D.Disk.held in
    let tells = g.D.Disk.tells in
    let old = c.args.disk.now in
    let mid = c.reclaim.new.disk in
    let slots = c.let_go.new.contents in
    let has : HasLetGo s slots = record {
      works = c.self.invariant.works c.if-self.false;
      unfailed = c.if-self.false;
      counts = λ k. subst (λ (refs : List ContentRef). count_of slots k + references_to k refs ≡ count_of i.contents k) c.as_slice.ensures.value (c.let_go.ensures.counts k);
      held = subst (λ (refs : List ContentRef). held_in slots + length refs ≡ held_in i.contents) c.as_slice.ensures.value c.let_go.ensures.held;
      sizes = c.let_go.ensures.sizes;
    } in
    let kept = subst (λ (t : StoreState). IsKeptOn tells held moment images t old) (sym c.self.view_is) c.requires in
    let holds : Since moment images old mid (FilesHold s) = since_closed tells held moment images s slots old mid has kept c.reclaim.ensures.images in
    subst (λ (t : StoreState). KeepsMeaning moment images t old c.sync.new.self) c.self.view_is
    (record {
      holds = and_syncs moment images old mid c.sync.new.self (FilesHold s) holds c.sync.ensures.images;
      states = λ state stands.
          and_syncs moment images old mid c.sync.new.self (λ c'. stands_for (flow_in (kept_by s)) s.lot c' ≡ of_state state)
          (states_closed tells held moment images s slots old mid has kept c.reclaim.ensures.images state stands) c.sync.ensures.images;
    })

pub returns-clause-kept : goal.returns-clause-kept
returns-clause-kept g c =
    let i = c.self.inside in
    let s = store_in i.state i.log i.entries i.contents i.opened.items i.events i.lot i.has_failed in
    let moment = g.D.Disk.moment in
    let images = g.D.Disk.images in
    let held = g.D.Disk.held in
    let tells = g.D.Disk.tells in
    let old = c.args.disk.now in
    let mid = c.reclaim.new.disk in
    let slots = c.let_go.new.contents in
    let has : HasLetGo s slots = record {
      works = c.self.invariant.works c.if-self.false;
      unfailed = c.if-self.false;
      counts = λ k. subst (λ (refs : List ContentRef). count_of slots k + references_to k refs ≡ count_of i.contents k) c.as_slice.ensures.value (c.let_go.ensures.counts k);
      held = subst (λ (refs : List ContentRef). held_in slots + length refs ≡ held_in i.contents) c.as_slice.ensures.value c.let_go.ensures.held;
      sizes = c.let_go.ensures.sizes;
    } in
    let kept = subst (λ (t : StoreState). IsKeptOn tells held moment images t old) (sym c.self.view_is) c.requires in
    subst (λ (o : List ContentRef). IsKeptOn tells held moment images (store_in i.state i.log i.entries c.reclaim.new.self o i.events i.lot i.has_failed) c.sync.new.self) (sym c.clear.ensures.items)
    (kept_synced tells held moment images (closed s c.reclaim.new.self) mid c.sync.new.self
    (kept_closed tells held moment images s slots old mid has kept c.reclaim.ensures.images c.reclaim.new.self c.reclaim.ensures.shortened (λ told. (c.in-Ok.ensures.emptied told).sizes))
    c.sync.ensures.images c.in-Ok-sync.ensures.held)

pub returns-clause-tidy : goal.returns-clause-tidy
returns-clause-tidy g c = λ told.
    let i = c.self.inside in
    let s = store_in i.state i.log i.entries i.contents i.opened.items i.events i.lot i.has_failed in
    let held = g.D.Disk.held in
    let mid = c.reclaim.new.disk in
    let slots = c.let_go.new.contents in
    let has : HasLetGo s slots = record {
      works = c.self.invariant.works c.if-self.false;
      unfailed = c.if-self.false;
      counts = λ k. subst (λ (refs : List ContentRef). count_of slots k + references_to k refs ≡ count_of i.contents k) c.as_slice.ensures.value (c.let_go.ensures.counts k);
      held = subst (λ (refs : List ContentRef). held_in slots + length refs ≡ held_in i.contents) c.as_slice.ensures.value c.let_go.ensures.held;
      sizes = c.let_go.ensures.sizes;
    } in
    subst (IsTidy (kept_by s)) (sym c.in-Ok-sync.ensures.held)
    (tidy_closed s slots c.reclaim.new.self c.in-Ok.field-0 (held mid) has c.in-Ok.ensures.reclaimed (c.in-Ok.ensures.emptied told).sizes)

pub returns-in_default-clause-alone : goal.returns-in_default-clause-alone
returns-in_default-clause-alone g c =
    let i = c.self.inside in
    let s = store_in i.state i.log i.entries i.contents i.opened.items i.events i.lot i.has_failed in
    let slots = c.let_go.new.contents in
    let has : HasLetGo s slots = record {
      works = c.self.invariant.works c.if-self.false;
      unfailed = c.if-self.false;
      counts = λ k. subst (λ (refs : List ContentRef). count_of slots k + references_to k refs ≡ count_of i.contents k) c.as_slice.ensures.value (c.let_go.ensures.counts k);
      held = subst (λ (refs : List ContentRef). held_in slots + length refs ≡ held_in i.contents) c.as_slice.ensures.value c.let_go.ensures.held;
      sizes = c.let_go.ensures.sizes;
    } in
    since_frees g.D.Disk.moment g.D.Disk.images s c.args.self.now slots c.args.disk.now c.reclaim.new.disk c.self.view_is has c.reclaim.ensures.images

pub returns-in_default-sync-clause-alone : goal.returns-in_default-sync-clause-alone
returns-in_default-sync-clause-alone g c =
    let i = c.self.inside in
    let s = store_in i.state i.log i.entries i.contents i.opened.items i.events i.lot i.has_failed in
    let slots = c.let_go.new.contents in
    let has : HasLetGo s slots = record {
      works = c.self.invariant.works c.if-self.false;
      unfailed = c.if-self.false;
      counts = λ k. subst (λ (refs : List ContentRef). count_of slots k + references_to k refs ≡ count_of i.contents k) c.as_slice.ensures.value (c.let_go.ensures.counts k);
      held = subst (λ (refs : List ContentRef). held_in slots + length refs ≡ held_in i.contents) c.as_slice.ensures.value c.let_go.ensures.held;
      sizes = c.let_go.ensures.sizes;
    } in
    frees_synced g.D.Disk.moment g.D.Disk.images c.args.self.now c.args.disk.now c.reclaim.new.disk c.sync.new.self
    (since_frees g.D.Disk.moment g.D.Disk.images s c.args.self.now slots c.args.disk.now c.reclaim.new.disk c.self.view_is has c.reclaim.ensures.images) c.sync.ensures.images

pub returns-clause-alone : goal.returns-clause-alone
returns-clause-alone g c =
    let i = c.self.inside in
    let s = store_in i.state i.log i.entries i.contents i.opened.items i.events i.lot i.has_failed in
    let slots = c.let_go.new.contents in
    let has : HasLetGo s slots = record {
      works = c.self.invariant.works c.if-self.false;
      unfailed = c.if-self.false;
      counts = λ k. subst (λ (refs : List ContentRef). count_of slots k + references_to k refs ≡ count_of i.contents k) c.as_slice.ensures.value (c.let_go.ensures.counts k);
      held = subst (λ (refs : List ContentRef). held_in slots + length refs ≡ held_in i.contents) c.as_slice.ensures.value c.let_go.ensures.held;
      sizes = c.let_go.ensures.sizes;
    } in
    frees_synced g.D.Disk.moment g.D.Disk.images c.args.self.now c.args.disk.now c.reclaim.new.disk c.sync.new.self
    (since_frees g.D.Disk.moment g.D.Disk.images s c.args.self.now slots c.args.disk.now c.reclaim.new.disk c.self.view_is has c.reclaim.ensures.images) c.sync.ensures.images
