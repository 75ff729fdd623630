use Rattle.std.proofs.Common.{◌≡◌, ◌⊎◌, ℕ, List, [], IsTrue, refl, sym, ap, subst, ◌∙◌, arith}
use Rattle.std.specs.Prelude.{Option, None, All, false, is_some}
use Rattle.disk_trait.specs.Images.{Since}
use Rattle.flowfile_record.specs.Stored.{Kept}
use Rattle.flowfile_record.specs.declared.content.ContentRef.{ContentRef}
use Rattle.content_repo.specs.Claims.{IsCovered, ShortenedTo}
use Rattle.content_repo.specs.Slots.{covered}
use Rattle.flowfile_wal.specs.Calls.{InEach}
use Rattle.store_core.specs.Agreement.{IsUnmade}
use Rattle.store_core.specs.Opened.{IsNewStore}
use Rattle.store_core.specs.Store.{store_in}
use Rattle.prov_store.specs.State.{EventsState, CutsStale}
use Rattle.store_core.proofs.RevivedFiles.{unmade_found, means_mid, means_new, means_end, events_known, end_holds, end_log, sizes_trimmed, since_still, still_covered, working, few_live}
use Rattle.store_core.specs.Touched.{log_opened}
use Rattle.store_core.proofs.Leftovers.{no_leftovers}
use Rattle.store_core.proofs.Touching.{revives_cut, revives_trimmed, since_held, since_revived, since_revives}
use Rattle.store_core.proofs.revival.revive.Goals as goal

pub make_whole-requires-clause-unmade : goal.make_whole-requires-clause-unmade
make_whole-requires-clause-unmade g c κs within = λ none told. unmade_found c.args.lot (g.D.Disk.held c.args.disk.now) c.args.found none (c.requires.found.told told)

pub returns-in_err-make_whole-clause-images : goal.returns-in_err-make_whole-clause-images
returns-in_err-make_whole-clause-images g c =
    let moment = g.D.Disk.moment in
    let images = g.D.Disk.images in
    let laws = g.met.D.Disk g.world.𝓛 g.world.𝓜 g.world.𝓡 ((λ s x. x), (λ x. x), (λ x. x), λ x. x) in
    let d0 = c.args.disk.now in
    let d1 = c.make_whole.new.disk in
    let made = subst (λ (k : Kept). c.args.found.log.number ≡ None → Since moment images d0 d1 (λ e. IsUnmade e ⊎ IsNewStore k e)) c.stored.ensures.kept c.make_whole.ensures.images.makes in
    means_mid g.D.Disk.tells g.D.Disk.held moment images (λ disk k e left. laws.left_is_told disk k e left) c.args.lot c.args.found c.args.events d0 d1
    c.requires.synced c.requires.found c.make_whole.ensures.images.keeps made c.make_whole.ensures.revives.events

pub hold_opened-requires-clause-within : goal.hold_opened-requires-clause-within
hold_opened-requires-clause-within g c κs within told =
    let moment = g.D.Disk.moment in
    let images = g.D.Disk.images in
    let laws = g.met.D.Disk g.world.𝓛 g.world.𝓜 g.world.𝓡 ((λ s x. x), (λ x. x), (λ x. x), λ x. x) in
    let d0 = c.args.disk.now in
    let d1 = c.make_whole.new.disk in
    let k = c.args.found.state.kept in
    let made = subst (λ (x : Kept). c.args.found.log.number ≡ None → Since moment images d0 d1 (λ e. IsUnmade e ⊎ IsNewStore x e)) c.stored.ensures.kept c.make_whole.ensures.images.makes in
    let since = since_still g.D.Disk.tells g.D.Disk.held moment images (λ disk j e left. laws.left_is_told disk j e left) c.args.lot c.args.found c.args.events d0 d1
    c.requires.synced c.requires.found c.make_whole.ensures.images.keeps made c.make_whole.ensures.revives.events in
    let still = since.each (moment d1) (g.D.Disk.held d1) since.later (omega arith) (laws.held_is_left d1 told) in
    subst (λ (refs : List ContentRef). All (IsCovered (g.D.Disk.held d1)) refs) (sym (c.as_slice.ensures.value ∙ c.requires.opened))
    (still_covered _ c.args.lot k (g.D.Disk.held d0) (g.D.Disk.held d1) (c.requires.found.contents told) still)

pub returns-in_err-contents-clause-images : goal.returns-in_err-contents-clause-images
returns-in_err-contents-clause-images g c =
    let moment = g.D.Disk.moment in
    let images = g.D.Disk.images in
    let laws = g.met.D.Disk g.world.𝓛 g.world.𝓜 g.world.𝓡 ((λ s x. x), (λ x. x), (λ x. x), λ x. x) in
    let d0 = c.args.disk.now in
    let d1 = c.make_whole.new.disk in
    let d2 = c.hold_opened.new.disk in
    let made = subst (λ (x : Kept). c.args.found.log.number ≡ None → Since moment images d0 d1 (λ e. IsUnmade e ⊎ IsNewStore x e)) c.stored.ensures.kept c.make_whole.ensures.images.makes in
    let is_made = subst (λ (x : Kept). c.args.found.log.number ≡ None → InEach (images d1 (moment d1)) (IsNewStore x)) c.stored.ensures.kept c.in_ok-make_whole.ensures.made in
    let live = c.as_slice.ensures.value ∙ c.requires.opened in
    means_new g.D.Disk.tells g.D.Disk.held moment images (λ disk j e left. laws.left_is_told disk j e left) c.args.lot c.args.found c.args.events d0 d1
    c.requires.synced c.requires.found c.make_whole.ensures.images.keeps made c.make_whole.ensures.revives.events (store_in c.args.found.state c.make_whole.new.log c.args.found.entries [] c.args.opened.items c.args.events c.args.lot false) refl c.in_ok-make_whole.ensures.whole.ready is_made d2 c.as_slice.result.now live c.hold_opened.ensures.images

pub trim-requires-clause-events : goal.trim-requires-clause-events
trim-requires-clause-events g c κs within told =
    let moment = g.D.Disk.moment in
    let images = g.D.Disk.images in
    let laws = g.met.D.Disk g.world.𝓛 g.world.𝓜 g.world.𝓡 ((λ s x. x), (λ x. x), (λ x. x), λ x. x) in
    let d0 = c.args.disk.now in
    let d1 = c.make_whole.new.disk in
    let d2 = c.hold_opened.new.disk in
    let made = subst (λ (x : Kept). c.args.found.log.number ≡ None → Since moment images d0 d1 (λ e. IsUnmade e ⊎ IsNewStore x e)) c.stored.ensures.kept c.make_whole.ensures.images.makes in
    let is_made = subst (λ (x : Kept). c.args.found.log.number ≡ None → InEach (images d1 (moment d1)) (IsNewStore x)) c.stored.ensures.kept c.in_ok-make_whole.ensures.made in
    let live = c.as_slice.ensures.value ∙ c.requires.opened in
    (events_known g.D.Disk.tells g.D.Disk.held moment images (λ disk j e left. laws.left_is_told disk j e left) c.args.lot c.args.found c.args.events d0 d1
    c.requires.synced c.requires.found c.make_whole.ensures.images.keeps made c.make_whole.ensures.revives.events (store_in c.args.found.state c.make_whole.new.log c.args.found.entries [] c.args.opened.items c.args.events c.args.lot false) refl c.in_ok-make_whole.ensures.whole.ready is_made d2 c.as_slice.result.now live c.hold_opened.ensures.images (g.D.Disk.held d2) (laws.held_is_left d2 told) told).0

pub trim-requires-clause-stale : goal.trim-requires-clause-stale
trim-requires-clause-stale g c κs within told =
    let moment = g.D.Disk.moment in
    let images = g.D.Disk.images in
    let laws = g.met.D.Disk g.world.𝓛 g.world.𝓜 g.world.𝓡 ((λ s x. x), (λ x. x), (λ x. x), λ x. x) in
    let d0 = c.args.disk.now in
    let d1 = c.make_whole.new.disk in
    let d2 = c.hold_opened.new.disk in
    let made = subst (λ (x : Kept). c.args.found.log.number ≡ None → Since moment images d0 d1 (λ e. IsUnmade e ⊎ IsNewStore x e)) c.stored.ensures.kept c.make_whole.ensures.images.makes in
    let is_made = subst (λ (x : Kept). c.args.found.log.number ≡ None → InEach (images d1 (moment d1)) (IsNewStore x)) c.stored.ensures.kept c.in_ok-make_whole.ensures.made in
    let live = c.as_slice.ensures.value ∙ c.requires.opened in
    (events_known g.D.Disk.tells g.D.Disk.held moment images (λ disk j e left. laws.left_is_told disk j e left) c.args.lot c.args.found c.args.events d0 d1
    c.requires.synced c.requires.found c.make_whole.ensures.images.keeps made c.make_whole.ensures.revives.events (store_in c.args.found.state c.make_whole.new.log c.args.found.entries [] c.args.opened.items c.args.events c.args.lot false) refl c.in_ok-make_whole.ensures.whole.ready is_made d2 c.as_slice.result.now live c.hold_opened.ensures.images (g.D.Disk.held d2) (laws.held_is_left d2 told) told).1

pub returns-in_err-trim-clause-images : goal.returns-in_err-trim-clause-images
returns-in_err-trim-clause-images g c =
    let moment = g.D.Disk.moment in
    let images = g.D.Disk.images in
    let laws = g.met.D.Disk g.world.𝓛 g.world.𝓜 g.world.𝓡 ((λ s x. x), (λ x. x), (λ x. x), λ x. x) in
    let d0 = c.args.disk.now in
    let d1 = c.make_whole.new.disk in
    let d2 = c.hold_opened.new.disk in
    let d3 = c.trim.new.disk in
    let made = subst (λ (x : Kept). c.args.found.log.number ≡ None → Since moment images d0 d1 (λ e. IsUnmade e ⊎ IsNewStore x e)) c.stored.ensures.kept c.make_whole.ensures.images.makes in
    let is_made = subst (λ (x : Kept). c.args.found.log.number ≡ None → InEach (images d1 (moment d1)) (IsNewStore x)) c.stored.ensures.kept c.in_ok-make_whole.ensures.made in
    let live = c.as_slice.ensures.value ∙ c.requires.opened in
    means_end g.D.Disk.tells g.D.Disk.held moment images (λ disk j e left. laws.left_is_told disk j e left) c.args.lot c.args.found c.args.events d0 d1
    c.requires.synced c.requires.found c.make_whole.ensures.images.keeps made c.make_whole.ensures.revives.events (store_in c.args.found.state c.make_whole.new.log c.args.found.entries [] c.args.opened.items c.args.events c.args.lot false) refl c.in_ok-make_whole.ensures.whole.ready is_made d2 c.as_slice.result.now live c.hold_opened.ensures.images d3 c.trim.ensures.behind.left

pub returns-clause-images : goal.returns-clause-images
returns-clause-images g c =
    let moment = g.D.Disk.moment in
    let images = g.D.Disk.images in
    let laws = g.met.D.Disk g.world.𝓛 g.world.𝓜 g.world.𝓡 ((λ s x. x), (λ x. x), (λ x. x), λ x. x) in
    let d0 = c.args.disk.now in
    let d1 = c.make_whole.new.disk in
    let d2 = c.hold_opened.new.disk in
    let d3 = c.trim.new.disk in
    let made = subst (λ (x : Kept). c.args.found.log.number ≡ None → Since moment images d0 d1 (λ e. IsUnmade e ⊎ IsNewStore x e)) c.stored.ensures.kept c.make_whole.ensures.images.makes in
    let is_made = subst (λ (x : Kept). c.args.found.log.number ≡ None → InEach (images d1 (moment d1)) (IsNewStore x)) c.stored.ensures.kept c.in_ok-make_whole.ensures.made in
    let live = c.as_slice.ensures.value ∙ c.requires.opened in
    means_end g.D.Disk.tells g.D.Disk.held moment images (λ disk j e left. laws.left_is_told disk j e left) c.args.lot c.args.found c.args.events d0 d1
    c.requires.synced c.requires.found c.make_whole.ensures.images.keeps made c.make_whole.ensures.revives.events (store_in c.args.found.state c.make_whole.new.log c.args.found.entries [] c.args.opened.items c.args.events c.args.lot false) refl c.in_ok-make_whole.ensures.whole.ready is_made d2 c.as_slice.result.now live c.hold_opened.ensures.images d3 c.trim.ensures.behind.left

pub returns-clause-kept : goal.returns-clause-kept
returns-clause-kept g c =
    let moment = g.D.Disk.moment in
    let images = g.D.Disk.images in
    let laws = g.met.D.Disk g.world.𝓛 g.world.𝓜 g.world.𝓡 ((λ s x. x), (λ x. x), (λ x. x), λ x. x) in
    let d0 = c.args.disk.now in
    let d1 = c.make_whole.new.disk in
    let d2 = c.hold_opened.new.disk in
    let d3 = c.trim.new.disk in
    let made = subst (λ (x : Kept). c.args.found.log.number ≡ None → Since moment images d0 d1 (λ e. IsUnmade e ⊎ IsNewStore x e)) c.stored.ensures.kept c.make_whole.ensures.images.makes in
    let is_made = subst (λ (x : Kept). c.args.found.log.number ≡ None → InEach (images d1 (moment d1)) (IsNewStore x)) c.stored.ensures.kept c.in_ok-make_whole.ensures.made in
    let live = c.as_slice.ensures.value ∙ c.requires.opened in
    let s = store_in c.args.found.state c.make_whole.new.log c.args.found.entries c.in_ok-contents.contents c.args.opened.items c.trim.new.self c.args.lot false in
    record {
      holds = λ works. end_holds g.D.Disk.tells g.D.Disk.held moment images (λ disk j e left. laws.left_is_told disk j e left) c.args.lot c.args.found c.args.events d0 d1
          c.requires.synced c.requires.found c.make_whole.ensures.images.keeps made c.make_whole.ensures.revives.events s refl c.in_ok-make_whole.ensures.whole.ready is_made d2 c.as_slice.result.now live c.hold_opened.ensures.images d3 c.trim.ensures.behind.left [] c.in_ok-trim.ensures.trimmed.state refl refl;
      log = λ works. end_log g.D.Disk.tells g.D.Disk.held moment images (λ disk j e left. laws.left_is_told disk j e left) c.args.lot c.args.found c.args.events d0 d1
          c.requires.synced c.requires.found c.make_whole.ensures.images.keeps made c.make_whole.ensures.revives.events s refl c.in_ok-make_whole.ensures.whole.ready is_made d2 c.as_slice.result.now live c.hold_opened.ensures.images d3 c.trim.ensures.behind.left;
      sizes = λ works told. sizes_trimmed c.args.events.stale s.slots (g.D.Disk.held d2) (g.D.Disk.held d3) (c.trim.ensures.behind.files told) (c.in_ok-contents.ensures.files told);
      trimmed = λ works told. (c.in_ok-trim.ensures.trimmed.ready told).trimmed;
    }

pub invariant_of-result : goal.invariant_of-result
invariant_of-result g c =
    let s = store_in c.args.found.state c.make_whole.new.log c.args.found.entries c.in_ok-contents.contents c.args.opened.items c.trim.new.self c.args.lot false in
    record {
      current = subst (λ (o : Option ℕ). IsTrue (is_some o)) (sym c.in_ok-make_whole.ensures.whole.current) refl;
      mended = c.in_ok-make_whole.ensures.whole.mended;
      opened = few_live c.args.found.state.kept c.args.opened.items c.requires.found.consistent c.requires.opened;
      works = λ works. working s c.as_slice.result.now c.in_ok-make_whole.ensures.whole.works
          (sym c.requires.found.last_event ∙ ap (λ (e : EventsState). e.end) (sym c.in_ok-trim.ensures.trimmed.state))
          c.requires.opened c.as_slice.ensures.value c.requires.named
          c.in_ok-contents.ensures.holds.counts c.in_ok-contents.ensures.holds.held c.in_ok-contents.ensures.holds.sizes;
    }

pub returns-in_err-make_whole-clause-alone : goal.returns-in_err-make_whole-clause-alone
returns-in_err-make_whole-clause-alone g c =
    since_held g.D.Disk.moment g.D.Disk.images c.args.found.log.number g.D.Disk.held c.args.disk.now c.make_whole.new.disk c.requires.synced c.make_whole.ensures.revives.alone

pub returns-in_err-contents-clause-alone : goal.returns-in_err-contents-clause-alone
returns-in_err-contents-clause-alone g c =
    let moment = g.D.Disk.moment in
    let images = g.D.Disk.images in
    let current = c.args.found.log.number in
    let ends = λ (n : ℕ). covered n c.as_slice.result.now in
    let d0 = c.args.disk.now in
    let d1 = c.make_whole.new.disk in
    let d2 = c.hold_opened.new.disk in
    since_held moment images current g.D.Disk.held d0 d2 c.requires.synced
    (since_revived moment images current d0 d1 d2 c.make_whole.ensures.revives.alone
    (since_revives moment images current d1 d2 (ShortenedTo ends) c.hold_opened.ensures.images (revives_cut current ends)))

pub returns-in_err-trim-clause-alone : goal.returns-in_err-trim-clause-alone
returns-in_err-trim-clause-alone g c =
    let moment = g.D.Disk.moment in
    let images = g.D.Disk.images in
    let current = c.args.found.log.number in
    let ends = λ (n : ℕ). covered n c.as_slice.result.now in
    let d0 = c.args.disk.now in
    let d1 = c.make_whole.new.disk in
    let d2 = c.hold_opened.new.disk in
    let d3 = c.trim.new.disk in
    since_held moment images current g.D.Disk.held d0 d3 c.requires.synced
    (since_revived moment images current d0 d2 d3
    (since_revived moment images current d0 d1 d2 c.make_whole.ensures.revives.alone
    (since_revives moment images current d1 d2 (ShortenedTo ends) c.hold_opened.ensures.images (revives_cut current ends)))
    (since_revives moment images current d2 d3 (CutsStale c.args.events.stale) c.trim.ensures.behind.left (revives_trimmed current c.args.events.stale)))

pub returns-clause-alone : goal.returns-clause-alone
returns-clause-alone g c =
    let moment = g.D.Disk.moment in
    let images = g.D.Disk.images in
    let current = c.args.found.log.number in
    let ends = λ (n : ℕ). covered n c.as_slice.result.now in
    let d0 = c.args.disk.now in
    let d1 = c.make_whole.new.disk in
    let d2 = c.hold_opened.new.disk in
    let d3 = c.trim.new.disk in
    since_held moment images current g.D.Disk.held d0 d3 c.requires.synced
    (since_revived moment images current d0 d2 d3
    (since_revived moment images current d0 d1 d2 c.make_whole.ensures.revives.alone
    (since_revives moment images current d1 d2 (ShortenedTo ends) c.hold_opened.ensures.images (revives_cut current ends)))
    (since_revives moment images current d2 d3 (CutsStale c.args.events.stale) c.trim.ensures.behind.left (revives_trimmed current c.args.events.stale)))

pub returns-clause-tidy : goal.returns-clause-tidy
returns-clause-tidy g c told =
    let held = g.D.Disk.held in
    let d1 = c.make_whole.new.disk in
    let d2 = c.hold_opened.new.disk in
    let d3 = c.trim.new.disk in
    let s = store_in c.args.found.state c.make_whole.new.log c.args.found.entries c.in_ok-contents.contents c.args.opened.items c.trim.new.self c.args.lot false in
    no_leftovers s (log_opened c.args.found.log.number) c.as_slice.result.now c.args.events.stale (held d1) (held d2) (held d3) c.in_ok-make_whole.ensures.whole.current
    (c.as_slice.ensures.value ∙ c.requires.opened) (c.in_ok-make_whole.ensures.whole.others told) (c.in_ok-contents.ensures.cut told) (c.trim.ensures.behind.files told)
    (sizes_trimmed c.args.events.stale s.slots (held d2) (held d3) (c.trim.ensures.behind.files told) (c.in_ok-contents.ensures.files told))
    c.in_ok-contents.ensures.holds.sizes
