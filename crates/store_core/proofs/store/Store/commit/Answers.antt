use Rattle.std.proofs.Common.{◌≡◌, ℕ, ◌+◌, ◌-◌, ◌^◌, ◌≤◌, true, List, [], ◌∷◌, length, map, refl, ap, sym, subst, ◌∙◌, arith, IsTrue}
use Rattle.std.specs.List.{AllZip}
use Rattle.std.specs.Prelude.{is_some, min}
use Rattle.flowfile_record.specs.Stored.{Kept}
use Rattle.flowfile_record.specs.declared.content.ContentRef.{ContentRef}
use Rattle.flowfile_record.specs.declared.limits.TheConstants.{LIVE_FILES_MAX}
use Rattle.flowfile_record.specs.declared.stored.ActiveFile.{ActiveFile}
use Rattle.flowfile_record.specs.declared.stored.Placed.{Placed}
use Rattle.record_codec.specs.Frames.{entry_frame}
use Rattle.record_codec.specs.declared.entry.LogEntry.{LogEntry}
use Rattle.checkpoint_store.specs.Consistent.{IsConsistent}
use Rattle.content_repo.specs.Claims.{content_in}
use Rattle.content_repo.specs.Slots.{count_of, held_in, references_to}
use Rattle.flowfile_wal.specs.Steps.{LogState, IsFrame, IsReadyIn}
use Rattle.flowfile_wal.proofs.OneEntry.{one_or_none, one_added}
use Rattle.kept_state.specs.Changes.{no_files, placed_in, record_of}
use Rattle.kept_state.specs.Fits.{entry_suits}
use Rattle.machine_model.specs.Changing.{state_after}
use Rattle.store_core.specs.Committed.{PreparedChange}
use Rattle.store_core.specs.Flow.{flow_in}
use Rattle.store_core.specs.Placing.{contents_of, MayPlace, PlacesAll, StaysStored}
use Rattle.store_core.specs.State.{stands_for}
use Rattle.store_core.specs.Store.{StoreState, store_in, kept_by, IsWorking}
use Rattle.store_core.proofs.Agreeing.{of_state}
use Rattle.store_core.proofs.Commits.{may_place, recorded_first, entry_acts, entry_room, framed_alone}
use Rattle.store_core.proofs.Outcomes.{has_placed, has_change, placed_images, placed_states, placed_alone, placed_claims, numbered_of, has_logged, may_give_up, logged_images, logged_alone, logged_claims, logged_states, acknowledged_state as state_of_acknowledged, acknowledged_entry, acknowledged_kept, acknowledged_claims, acknowledged_works, claims_grown, events_counted, kept_shared, called}
use Rattle.store_core.proofs.Whole.{ready_ahead}
use Rattle.store_core.proofs.store.Store.commit.Goals as goal

pub write_ahead-requires-clause-may : goal.write_ahead-requires-clause-may
write_ahead-requires-clause-may g c κs within =
    let i = c.self.inside in
    let s = store_in i.state i.log i.entries i.contents i.opened.items i.events i.lot i.has_failed in
    let now = c.args.self.now in
    let view : s ≡ now = c.self.view_is in
    let change : PreparedChange = record { entry = c.prepared.inside.entry; settled = c.prepared.inside.settled.now; events = c.prepared.inside.events } in
    let p = c.args.prepared in
    let p_view : change ≡ p = c.prepared.view_is in
    let may : MayPlace now.slots p.settled.placed =
    may_place now p c.requires.prepared c.requires.contents (subst IsWorking view (c.self.invariant.works c.if-self.false))
    (subst (λ (t : StoreState). IsConsistent (kept_by t)) view c.stored-stored.ensures.consistent)
    (subst (λ (t : StoreState). length t.opened ≤ LIVE_FILES_MAX) view c.self.invariant.opened) in
    record {
      recorded =
          ap (λ (r : PreparedChange). placed_in r.entry) p_view ∙ recorded_first now p c.requires.prepared
          ∙ sym (ap (λ (r : PreparedChange). map record_of r.settled.placed) p_view) ∙ ap (map record_of) (sym c.as_slice.ensures);
      may =
          subst (λ (l : List Placed). MayPlace i.contents l) (sym c.as_slice.ensures)
          (subst (λ (t : StoreState). MayPlace t.slots change.settled.placed) (sym view) (subst (λ (r : PreparedChange). MayPlace now.slots r.settled.placed) (sym p_view) may));
    }

pub apply-requires-clause-fits : goal.apply-requires-clause-fits
apply-requires-clause-fits g c =
    let i = c.self.inside in
    let s = store_in i.state i.log i.entries i.contents i.opened.items i.events i.lot i.has_failed in
    let now = c.args.self.now in
    let view : s ≡ now = c.self.view_is in
    let change : PreparedChange = record { entry = c.prepared.inside.entry; settled = c.prepared.inside.settled.now; events = c.prepared.inside.events } in
    let p = c.args.prepared in
    let p_view : change ≡ p = c.prepared.view_is in
    let e = c.write_ahead.new.entry in
    let old = c.args.disk.now in
    let mid = c.write_ahead.new.disk in
    let moment = g.D.Disk.moment in
    let images = g.D.Disk.images in
    let held = g.D.Disk.held in
    let tells = g.D.Disk.tells in
    let has = has_placed tells held moment images s now change p e old mid view p_view (c.self.invariant.works c.if-self.false) c.if-self.false c.stored-stored.ensures.consistent c.stored-stored.ensures.no_batches c.requires.kept c.requires.prepared c.requires.contents c.requires.digests c.write_ahead.ensures.entry.same c.write_ahead.ensures.grows.left c.write_ahead.ensures.grows.files in
    ap (entry_suits no_files i.state.kept) c.into_frame-entry.ensures.entry ∙ ap (λ (t : StoreState). entry_suits no_files (kept_by t) e) view ∙ (entry_acts now p e has.consistent has.prepared has.same).fit

pub apply-requires-2-clause-fits : goal.apply-requires-2-clause-fits
apply-requires-2-clause-fits g c =
    let i = c.self.inside in
    let s = store_in i.state i.log i.entries i.contents i.opened.items i.events i.lot i.has_failed in
    let now = c.args.self.now in
    let view : s ≡ now = c.self.view_is in
    let change : PreparedChange = record { entry = c.prepared.inside.entry; settled = c.prepared.inside.settled.now; events = c.prepared.inside.events } in
    let p = c.args.prepared in
    let p_view : change ≡ p = c.prepared.view_is in
    let e = c.write_ahead.new.entry in
    let old = c.args.disk.now in
    let mid = c.write_ahead.new.disk in
    let moment = g.D.Disk.moment in
    let images = g.D.Disk.images in
    let held = g.D.Disk.held in
    let tells = g.D.Disk.tells in
    let has = has_placed tells held moment images s now change p e old mid view p_view (c.self.invariant.works c.if-self.false) c.if-self.false c.stored-stored.ensures.consistent c.stored-stored.ensures.no_batches c.requires.kept c.requires.prepared c.requires.contents c.requires.digests c.write_ahead.ensures.entry.same c.write_ahead.ensures.grows.left c.write_ahead.ensures.grows.files in
    ap (entry_suits no_files i.state.kept) c.into_frame-entry-2.ensures.entry ∙ ap (λ (t : StoreState). entry_suits no_files (kept_by t) e) view ∙ (entry_acts now p e has.consistent has.prepared has.same).fit

pub apply-requires-clause-room : goal.apply-requires-clause-room
apply-requires-clause-room g c =
    let i = c.self.inside in
    let s = store_in i.state i.log i.entries i.contents i.opened.items i.events i.lot i.has_failed in
    let now = c.args.self.now in
    let view : s ≡ now = c.self.view_is in
    let change : PreparedChange = record { entry = c.prepared.inside.entry; settled = c.prepared.inside.settled.now; events = c.prepared.inside.events } in
    let p = c.args.prepared in
    let p_view : change ≡ p = c.prepared.view_is in
    let e = c.write_ahead.new.entry in
    let old = c.args.disk.now in
    let mid = c.write_ahead.new.disk in
    let moment = g.D.Disk.moment in
    let images = g.D.Disk.images in
    let held = g.D.Disk.held in
    let tells = g.D.Disk.tells in
    let has = has_placed tells held moment images s now change p e old mid view p_view (c.self.invariant.works c.if-self.false) c.if-self.false c.stored-stored.ensures.consistent c.stored-stored.ensures.no_batches c.requires.kept c.requires.prepared c.requires.contents c.requires.digests c.write_ahead.ensures.entry.same c.write_ahead.ensures.grows.left c.write_ahead.ensures.grows.files in
    subst (λ (l : LogEntry). length (placed_in l) ≤ i.state.room) (sym c.into_frame-entry.ensures.entry)
    (subst (λ (t : StoreState). length (placed_in e) ≤ t.memory.room) (sym view) (entry_room now p e has.consistent has.prepared has.same))

pub apply-requires-2-clause-room : goal.apply-requires-2-clause-room
apply-requires-2-clause-room g c =
    let i = c.self.inside in
    let s = store_in i.state i.log i.entries i.contents i.opened.items i.events i.lot i.has_failed in
    let now = c.args.self.now in
    let view : s ≡ now = c.self.view_is in
    let change : PreparedChange = record { entry = c.prepared.inside.entry; settled = c.prepared.inside.settled.now; events = c.prepared.inside.events } in
    let p = c.args.prepared in
    let p_view : change ≡ p = c.prepared.view_is in
    let e = c.write_ahead.new.entry in
    let old = c.args.disk.now in
    let mid = c.write_ahead.new.disk in
    let moment = g.D.Disk.moment in
    let images = g.D.Disk.images in
    let held = g.D.Disk.held in
    let tells = g.D.Disk.tells in
    let has = has_placed tells held moment images s now change p e old mid view p_view (c.self.invariant.works c.if-self.false) c.if-self.false c.stored-stored.ensures.consistent c.stored-stored.ensures.no_batches c.requires.kept c.requires.prepared c.requires.contents c.requires.digests c.write_ahead.ensures.entry.same c.write_ahead.ensures.grows.left c.write_ahead.ensures.grows.files in
    subst (λ (l : LogEntry). length (placed_in l) ≤ i.state.room) (sym c.into_frame-entry-2.ensures.entry)
    (subst (λ (t : StoreState). length (placed_in e) ≤ t.memory.room) (sym view) (entry_room now p e has.consistent has.prepared has.same))

pub give_up-requires : goal.give_up-requires
give_up-requires g c =
    let i = c.self.inside in
    let s = store_in i.state i.log i.entries i.contents i.opened.items i.events i.lot i.has_failed in
    let now = c.args.self.now in
    let view : s ≡ now = c.self.view_is in
    let change : PreparedChange = record { entry = c.prepared.inside.entry; settled = c.prepared.inside.settled.now; events = c.prepared.inside.events } in
    let p = c.args.prepared in
    let p_view : change ≡ p = c.prepared.view_is in
    let e = c.write_ahead.new.entry in
    let old = c.args.disk.now in
    let mid = c.write_ahead.new.disk in
    let moment = g.D.Disk.moment in
    let images = g.D.Disk.images in
    let held = g.D.Disk.held in
    let tells = g.D.Disk.tells in
    let has = has_placed tells held moment images s now change p e old mid view p_view (c.self.invariant.works c.if-self.false) c.if-self.false c.stored-stored.ensures.consistent c.stored-stored.ensures.no_batches c.requires.kept c.requires.prepared c.requires.contents c.requires.digests c.write_ahead.ensures.entry.same c.write_ahead.ensures.grows.left c.write_ahead.ensures.grows.files in
    let slots = c.write_ahead.new.contents in
    let placed : PlacesAll tells (held mid) change.settled.placed s.slots slots e = subst (λ (l : List Placed). PlacesAll tells (held mid) l s.slots slots e) c.as_slice.ensures c.in-Ok.ensures.placed in
    let files : c.stored.result.now.files.items ≡ (kept_by now).files = ap (λ (k : Kept). k.files) c.stored.ensures.kept ∙ ap (λ (t : StoreState). (kept_by t).files) view in
    let gone : c.as_slice-2.result.now ≡ p.settled.gone = c.as_slice-2.ensures ∙ ap (λ (r : PreparedChange). r.settled.gone) p_view in
    let given : contents_of c.stored.result.now.files.items c.as_slice-2.result.now ≡ contents_of (kept_by now).files p.settled.gone =
    ap (λ (f : List ActiveFile). contents_of f c.as_slice-2.result.now) files ∙ ap (λ (n : List ℕ). contents_of (kept_by now).files n) gone in
    let places : PlacesAll tells (held mid) p.settled.placed now.slots slots e =
    subst (λ (r : PreparedChange). PlacesAll tells (held mid) r.settled.placed now.slots slots e) p_view
    (subst (λ (t : StoreState). PlacesAll tells (held mid) change.settled.placed t.slots slots e) view placed) in
    λ k. subst (λ (refs : List ContentRef). references_to k refs ≤ count_of slots k) (sym given) (may_give_up tells held moment images now p e old mid slots has places k)

pub append-requires-clause-frame : goal.append-requires-clause-frame
append-requires-clause-frame g c κs within =
    let i = c.self.inside in
    let s = store_in i.state i.log i.entries i.contents i.opened.items i.events i.lot i.has_failed in
    let now = c.args.self.now in
    let view : s ≡ now = c.self.view_is in
    let change : PreparedChange = record { entry = c.prepared.inside.entry; settled = c.prepared.inside.settled.now; events = c.prepared.inside.events } in
    let p = c.args.prepared in
    let p_view : change ≡ p = c.prepared.view_is in
    let e = c.write_ahead.new.entry in
    let old = c.args.disk.now in
    let mid = c.write_ahead.new.disk in
    let moment = g.D.Disk.moment in
    let images = g.D.Disk.images in
    let held = g.D.Disk.held in
    let tells = g.D.Disk.tells in
    let has = has_placed tells held moment images s now change p e old mid view p_view (c.self.invariant.works c.if-self.false) c.if-self.false c.stored-stored.ensures.consistent c.stored-stored.ensures.no_batches c.requires.kept c.requires.prepared c.requires.contents c.requires.digests c.write_ahead.ensures.entry.same c.write_ahead.ensures.grows.left c.write_ahead.ensures.grows.files in
    let is_frame : c.as_slice-3.result.now ≡ entry_frame e = c.as_slice-3.ensures.value ∙ c.into_frame-entry-2.ensures.frame in
    let framed : IsFrame i.log.version (e ∷ []) c.as_slice-3.result.now = framed_alone now p e i.log.version c.as_slice-3.result.now has.consistent has.prepared has.same c.into_frame-entry-2.ensures.encoded is_frame in
    (e ∷ [], framed)

pub append-requires-clause-ready : goal.append-requires-clause-ready
append-requires-clause-ready g c κs within =
    let i = c.self.inside in
    let s = store_in i.state i.log i.entries i.contents i.opened.items i.events i.lot i.has_failed in
    let now = c.args.self.now in
    let view : s ≡ now = c.self.view_is in
    let change : PreparedChange = record { entry = c.prepared.inside.entry; settled = c.prepared.inside.settled.now; events = c.prepared.inside.events } in
    let p = c.args.prepared in
    let p_view : change ≡ p = c.prepared.view_is in
    let e = c.write_ahead.new.entry in
    let old = c.args.disk.now in
    let mid = c.write_ahead.new.disk in
    let moment = g.D.Disk.moment in
    let images = g.D.Disk.images in
    let held = g.D.Disk.held in
    let tells = g.D.Disk.tells in
    let has = has_placed tells held moment images s now change p e old mid view p_view (c.self.invariant.works c.if-self.false) c.if-self.false c.stored-stored.ensures.consistent c.stored-stored.ensures.no_batches c.requires.kept c.requires.prepared c.requires.contents c.requires.digests c.write_ahead.ensures.entry.same c.write_ahead.ensures.grows.left c.write_ahead.ensures.grows.files in
    λ c' left. subst (λ (t : StoreState). IsReadyIn t.log c') (sym view) (ready_ahead moment images now old mid (has.kept.log has.unfailed) has.grows c' left).ready

pub invariant_of-self-2 : goal.invariant_of-self-2
invariant_of-self-2 g c =
    let i = c.self.inside in
    let s = store_in i.state i.log i.entries i.contents i.opened.items i.events i.lot i.has_failed in
    let now = c.args.self.now in
    let view : s ≡ now = c.self.view_is in
    let change : PreparedChange = record { entry = c.prepared.inside.entry; settled = c.prepared.inside.settled.now; events = c.prepared.inside.events } in
    let p = c.args.prepared in
    let p_view : change ≡ p = c.prepared.view_is in
    let e = c.write_ahead.new.entry in
    let old = c.args.disk.now in
    let mid = c.write_ahead.new.disk in
    let moment = g.D.Disk.moment in
    let images = g.D.Disk.images in
    let held = g.D.Disk.held in
    let tells = g.D.Disk.tells in
    let has = has_placed tells held moment images s now change p e old mid view p_view (c.self.invariant.works c.if-self.false) c.if-self.false c.stored-stored.ensures.consistent c.stored-stored.ensures.no_batches c.requires.kept c.requires.prepared c.requires.contents c.requires.digests c.write_ahead.ensures.entry.same c.write_ahead.ensures.grows.left c.write_ahead.ensures.grows.files in
    let slots = c.write_ahead.new.contents in
    let placed : PlacesAll tells (held mid) change.settled.placed s.slots slots e = subst (λ (l : List Placed). PlacesAll tells (held mid) l s.slots slots e) c.as_slice.ensures c.in-Ok.ensures.placed in
    let is_frame : c.as_slice-3.result.now ≡ entry_frame e = c.as_slice-3.ensures.value ∙ c.into_frame-entry-2.ensures.frame in
    let framed : IsFrame i.log.version (e ∷ []) c.as_slice-3.result.now = framed_alone now p e i.log.version c.as_slice-3.result.now has.consistent has.prepared has.same c.into_frame-entry-2.ensures.encoded is_frame in
    let new = store_in c.apply-2.new.self c.append.new.self c.saturating_add-self-inside.result c.give_up.new.contents i.opened.items c.write_ahead.new.events i.lot i.has_failed in
    let end = c.append.new.disk in
    let laws = g.met.D.Disk g.world.𝓛 g.world.𝓜 g.world.𝓡 ((λ s x. x), (λ x. x), (λ x. x), λ x. x) in
    let number = numbered_of i.log.number c.self.invariant.current in
    let logged = has_logged tells held moment images s now new change p e c.into_frame-entry-2.result.0 old mid end number.0 slots view p_view number.1 placed c.in-Ok.ensures.written.sizes c.in-Ok.ensures.events c.into_frame-entry-2.ensures.entry c.apply-2.ensures.kept refl (one_or_none moment images mid end (held mid) number.0 e c.as_slice-3.result.now is_frame (c.append.ensures.images number.0 (e ∷ []) number.1 framed)) (λ disk k c' image. laws.left_is_told disk k c' image) (λ disk told. laws.held_is_left disk told) in
    let files : c.stored.result.now.files.items ≡ (kept_by now).files = ap (λ (k : Kept). k.files) c.stored.ensures.kept ∙ ap (λ (t : StoreState). (kept_by t).files) view in
    let gone : c.as_slice-2.result.now ≡ p.settled.gone = c.as_slice-2.ensures ∙ ap (λ (r : PreparedChange). r.settled.gone) p_view in
    let given : contents_of c.stored.result.now.files.items c.as_slice-2.result.now ≡ contents_of (kept_by now).files p.settled.gone =
    ap (λ (f : List ActiveFile). contents_of f c.as_slice-2.result.now) files ∙ ap (λ (n : List ℕ). contents_of (kept_by now).files n) gone in
    let appended = c.in-Ok-append.ensures.acknowledged.1 in
    record {
      current = subst (λ (l : LogState). IsTrue (is_some l.number)) (sym appended) c.self.invariant.current;
      mended = ap (λ (l : LogState). l.mended) appended ∙ c.self.invariant.mended;
      opened = c.self.invariant.opened;
      works = λ works.
          acknowledged_works tells held moment images now new p e old mid end number.0 slots has logged c.give_up.new.contents refl
          (λ k. subst (λ (refs : List ContentRef). count_of c.give_up.new.contents k + references_to k refs ≡ count_of slots k) given (c.give_up.ensures.counts k))
          (subst (λ (refs : List ContentRef). held_in c.give_up.new.contents + length refs ≡ held_in slots) given c.give_up.ensures.held)
          c.give_up.ensures.sizes (ap (λ (l : LogState). l.failed) appended ∙ (c.self.invariant.works c.if-self.false).log) (ap (λ (t : StoreState). t.opened) view);
    }

pub returns-in_default-clause-changed : goal.returns-in_default-clause-changed
returns-in_default-clause-changed g c works =
    let i = c.self.inside in
    let s = store_in i.state i.log i.entries i.contents i.opened.items i.events i.lot i.has_failed in
    let now = c.args.self.now in
    let view : s ≡ now = c.self.view_is in
    let change : PreparedChange = record { entry = c.prepared.inside.entry; settled = c.prepared.inside.settled.now; events = c.prepared.inside.events } in
    let p = c.args.prepared in
    let p_view : change ≡ p = c.prepared.view_is in
    let e = c.write_ahead.new.entry in
    let old = c.args.disk.now in
    let mid = c.write_ahead.new.disk in
    let moment = g.D.Disk.moment in
    let images = g.D.Disk.images in
    let held = g.D.Disk.held in
    let tells = g.D.Disk.tells in
    let has = has_placed tells held moment images s now change p e old mid view p_view (c.self.invariant.works c.if-self.false) c.if-self.false c.stored-stored.ensures.consistent c.stored-stored.ensures.no_batches c.requires.kept c.requires.prepared c.requires.contents c.requires.digests c.write_ahead.ensures.entry.same c.write_ahead.ensures.grows.left c.write_ahead.ensures.grows.files in
    let new = store_in c.apply.new.self i.log i.entries c.write_ahead.new.contents i.opened.items c.write_ahead.new.events i.lot true in
    record {
      change = has_change s now new change p c.write_ahead.new.entry c.into_frame-entry.result.0 view p_view c.write_ahead.ensures.entry.same (subst (λ (l : List Placed). AllZip StaysStored l (placed_in e)) c.as_slice.ensures c.write_ahead.ensures.entry.stays) c.into_frame-entry.ensures.entry c.apply.ensures.kept refl refl refl;
      holds = placed_images tells held moment images now p e old mid new has;
      states = λ state stands. placed_states tells held moment images now p e old mid (λ c'. stands_for (flow_in (kept_by now)) now.lot c' ≡ of_state (state_after (content_in (held old)) state p.settled)) state has stands;
    }

pub returns-in_default-clause-touched : goal.returns-in_default-clause-touched
returns-in_default-clause-touched g c =
    let i = c.self.inside in
    let s = store_in i.state i.log i.entries i.contents i.opened.items i.events i.lot i.has_failed in
    let now = c.args.self.now in
    let view : s ≡ now = c.self.view_is in
    let change : PreparedChange = record { entry = c.prepared.inside.entry; settled = c.prepared.inside.settled.now; events = c.prepared.inside.events } in
    let p = c.args.prepared in
    let p_view : change ≡ p = c.prepared.view_is in
    let e = c.write_ahead.new.entry in
    let old = c.args.disk.now in
    let mid = c.write_ahead.new.disk in
    let moment = g.D.Disk.moment in
    let images = g.D.Disk.images in
    let held = g.D.Disk.held in
    let tells = g.D.Disk.tells in
    let has = has_placed tells held moment images s now change p e old mid view p_view (c.self.invariant.works c.if-self.false) c.if-self.false c.stored-stored.ensures.consistent c.stored-stored.ensures.no_batches c.requires.kept c.requires.prepared c.requires.contents c.requires.digests c.write_ahead.ensures.entry.same c.write_ahead.ensures.grows.left c.write_ahead.ensures.grows.files in
    record { alone = placed_alone tells held moment images now p e old mid now.log.number i.contents i.events c.write_ahead.ensures.grows.left; claims = placed_claims tells held moment images now p e old mid has; acknowledged = tt }

pub returns-in_default-append-clause-changed : goal.returns-in_default-append-clause-changed
returns-in_default-append-clause-changed g c works =
    let i = c.self.inside in
    let s = store_in i.state i.log i.entries i.contents i.opened.items i.events i.lot i.has_failed in
    let now = c.args.self.now in
    let view : s ≡ now = c.self.view_is in
    let change : PreparedChange = record { entry = c.prepared.inside.entry; settled = c.prepared.inside.settled.now; events = c.prepared.inside.events } in
    let p = c.args.prepared in
    let p_view : change ≡ p = c.prepared.view_is in
    let e = c.write_ahead.new.entry in
    let old = c.args.disk.now in
    let mid = c.write_ahead.new.disk in
    let moment = g.D.Disk.moment in
    let images = g.D.Disk.images in
    let held = g.D.Disk.held in
    let tells = g.D.Disk.tells in
    let has = has_placed tells held moment images s now change p e old mid view p_view (c.self.invariant.works c.if-self.false) c.if-self.false c.stored-stored.ensures.consistent c.stored-stored.ensures.no_batches c.requires.kept c.requires.prepared c.requires.contents c.requires.digests c.write_ahead.ensures.entry.same c.write_ahead.ensures.grows.left c.write_ahead.ensures.grows.files in
    let slots = c.write_ahead.new.contents in
    let placed : PlacesAll tells (held mid) change.settled.placed s.slots slots e = subst (λ (l : List Placed). PlacesAll tells (held mid) l s.slots slots e) c.as_slice.ensures c.in-Ok.ensures.placed in
    let is_frame : c.as_slice-3.result.now ≡ entry_frame e = c.as_slice-3.ensures.value ∙ c.into_frame-entry-2.ensures.frame in
    let framed : IsFrame i.log.version (e ∷ []) c.as_slice-3.result.now = framed_alone now p e i.log.version c.as_slice-3.result.now has.consistent has.prepared has.same c.into_frame-entry-2.ensures.encoded is_frame in
    let new = store_in c.apply-2.new.self c.append.new.self i.entries c.give_up.new.contents i.opened.items c.write_ahead.new.events i.lot true in
    let end = c.append.new.disk in
    let laws = g.met.D.Disk g.world.𝓛 g.world.𝓜 g.world.𝓡 ((λ s x. x), (λ x. x), (λ x. x), λ x. x) in
    let number = numbered_of i.log.number c.self.invariant.current in
    let logged = has_logged tells held moment images s now new change p e c.into_frame-entry-2.result.0 old mid end number.0 slots view p_view number.1 placed c.in-Ok.ensures.written.sizes c.in-Ok.ensures.events c.into_frame-entry-2.ensures.entry c.apply-2.ensures.kept refl (one_or_none moment images mid end (held mid) number.0 e c.as_slice-3.result.now is_frame (c.append.ensures.images number.0 (e ∷ []) number.1 framed)) (λ disk k c' image. laws.left_is_told disk k c' image) (λ disk told. laws.held_is_left disk told) in
    record {
      change = has_change s now new change p c.write_ahead.new.entry c.into_frame-entry-2.result.0 view p_view c.write_ahead.ensures.entry.same (subst (λ (l : List Placed). AllZip StaysStored l (placed_in e)) c.as_slice.ensures c.write_ahead.ensures.entry.stays) c.into_frame-entry-2.ensures.entry c.apply-2.ensures.kept refl refl (ap (λ (l : LogState). l.number) c.in_default-append.ensures.refusal.shown);
      holds = logged_images tells held moment images now new p e old mid end number.0 slots has logged;
      states = λ state stands. logged_states tells held moment images now new p e old mid end number.0 slots has logged state stands;
    }

pub returns-in_default-append-clause-touched : goal.returns-in_default-append-clause-touched
returns-in_default-append-clause-touched g c =
    let i = c.self.inside in
    let s = store_in i.state i.log i.entries i.contents i.opened.items i.events i.lot i.has_failed in
    let now = c.args.self.now in
    let view : s ≡ now = c.self.view_is in
    let change : PreparedChange = record { entry = c.prepared.inside.entry; settled = c.prepared.inside.settled.now; events = c.prepared.inside.events } in
    let p = c.args.prepared in
    let p_view : change ≡ p = c.prepared.view_is in
    let e = c.write_ahead.new.entry in
    let old = c.args.disk.now in
    let mid = c.write_ahead.new.disk in
    let moment = g.D.Disk.moment in
    let images = g.D.Disk.images in
    let held = g.D.Disk.held in
    let tells = g.D.Disk.tells in
    let has = has_placed tells held moment images s now change p e old mid view p_view (c.self.invariant.works c.if-self.false) c.if-self.false c.stored-stored.ensures.consistent c.stored-stored.ensures.no_batches c.requires.kept c.requires.prepared c.requires.contents c.requires.digests c.write_ahead.ensures.entry.same c.write_ahead.ensures.grows.left c.write_ahead.ensures.grows.files in
    let slots = c.write_ahead.new.contents in
    let placed : PlacesAll tells (held mid) change.settled.placed s.slots slots e = subst (λ (l : List Placed). PlacesAll tells (held mid) l s.slots slots e) c.as_slice.ensures c.in-Ok.ensures.placed in
    let is_frame : c.as_slice-3.result.now ≡ entry_frame e = c.as_slice-3.ensures.value ∙ c.into_frame-entry-2.ensures.frame in
    let framed : IsFrame i.log.version (e ∷ []) c.as_slice-3.result.now = framed_alone now p e i.log.version c.as_slice-3.result.now has.consistent has.prepared has.same c.into_frame-entry-2.ensures.encoded is_frame in
    let new = store_in c.apply-2.new.self c.append.new.self i.entries c.give_up.new.contents i.opened.items c.write_ahead.new.events i.lot true in
    let end = c.append.new.disk in
    let laws = g.met.D.Disk g.world.𝓛 g.world.𝓜 g.world.𝓡 ((λ s x. x), (λ x. x), (λ x. x), λ x. x) in
    let number = numbered_of i.log.number c.self.invariant.current in
    let logged = has_logged tells held moment images s now new change p e c.into_frame-entry-2.result.0 old mid end number.0 slots view p_view number.1 placed c.in-Ok.ensures.written.sizes c.in-Ok.ensures.events c.into_frame-entry-2.ensures.entry c.apply-2.ensures.kept refl (one_or_none moment images mid end (held mid) number.0 e c.as_slice-3.result.now is_frame (c.append.ensures.images number.0 (e ∷ []) number.1 framed)) (λ disk k c' image. laws.left_is_told disk k c' image) (λ disk told. laws.held_is_left disk told) in
    record { alone = logged_alone tells held moment images now new p e old mid end number.0 slots has logged; claims = logged_claims tells held moment images now new p e old mid end number.0 slots has logged; acknowledged = tt }

pub returns-clause-changed : goal.returns-clause-changed
returns-clause-changed g c works =
    let i = c.self.inside in
    let s = store_in i.state i.log i.entries i.contents i.opened.items i.events i.lot i.has_failed in
    let now = c.args.self.now in
    let view : s ≡ now = c.self.view_is in
    let change : PreparedChange = record { entry = c.prepared.inside.entry; settled = c.prepared.inside.settled.now; events = c.prepared.inside.events } in
    let p = c.args.prepared in
    let p_view : change ≡ p = c.prepared.view_is in
    let e = c.write_ahead.new.entry in
    let old = c.args.disk.now in
    let mid = c.write_ahead.new.disk in
    let moment = g.D.Disk.moment in
    let images = g.D.Disk.images in
    let held = g.D.Disk.held in
    let tells = g.D.Disk.tells in
    let has = has_placed tells held moment images s now change p e old mid view p_view (c.self.invariant.works c.if-self.false) c.if-self.false c.stored-stored.ensures.consistent c.stored-stored.ensures.no_batches c.requires.kept c.requires.prepared c.requires.contents c.requires.digests c.write_ahead.ensures.entry.same c.write_ahead.ensures.grows.left c.write_ahead.ensures.grows.files in
    let slots = c.write_ahead.new.contents in
    let placed : PlacesAll tells (held mid) change.settled.placed s.slots slots e = subst (λ (l : List Placed). PlacesAll tells (held mid) l s.slots slots e) c.as_slice.ensures c.in-Ok.ensures.placed in
    let is_frame : c.as_slice-3.result.now ≡ entry_frame e = c.as_slice-3.ensures.value ∙ c.into_frame-entry-2.ensures.frame in
    let framed : IsFrame i.log.version (e ∷ []) c.as_slice-3.result.now = framed_alone now p e i.log.version c.as_slice-3.result.now has.consistent has.prepared has.same c.into_frame-entry-2.ensures.encoded is_frame in
    let new = store_in c.apply-2.new.self c.append.new.self c.saturating_add-self-inside.result c.give_up.new.contents i.opened.items c.write_ahead.new.events i.lot i.has_failed in
    let end = c.append.new.disk in
    let laws = g.met.D.Disk g.world.𝓛 g.world.𝓜 g.world.𝓡 ((λ s x. x), (λ x. x), (λ x. x), λ x. x) in
    let number = numbered_of i.log.number c.self.invariant.current in
    let logged = has_logged tells held moment images s now new change p e c.into_frame-entry-2.result.0 old mid end number.0 slots view p_view number.1 placed c.in-Ok.ensures.written.sizes c.in-Ok.ensures.events c.into_frame-entry-2.ensures.entry c.apply-2.ensures.kept refl (one_or_none moment images mid end (held mid) number.0 e c.as_slice-3.result.now is_frame (c.append.ensures.images number.0 (e ∷ []) number.1 framed)) (λ disk k c' image. laws.left_is_told disk k c' image) (λ disk told. laws.held_is_left disk told) in
    record {
      change = has_change s now new change p c.write_ahead.new.entry c.into_frame-entry-2.result.0 view p_view c.write_ahead.ensures.entry.same (subst (λ (l : List Placed). AllZip StaysStored l (placed_in e)) c.as_slice.ensures c.write_ahead.ensures.entry.stays) c.into_frame-entry-2.ensures.entry c.apply-2.ensures.kept refl refl (ap (λ (l : LogState). l.number) c.in-Ok-append.ensures.acknowledged.1);
      holds = logged_images tells held moment images now new p e old mid end number.0 slots has logged;
      states = λ state stands. logged_states tells held moment images now new p e old mid end number.0 slots has logged state stands;
    }

pub returns-clause-touched : goal.returns-clause-touched
returns-clause-touched g c =
    let i = c.self.inside in
    let s = store_in i.state i.log i.entries i.contents i.opened.items i.events i.lot i.has_failed in
    let now = c.args.self.now in
    let view : s ≡ now = c.self.view_is in
    let change : PreparedChange = record { entry = c.prepared.inside.entry; settled = c.prepared.inside.settled.now; events = c.prepared.inside.events } in
    let p = c.args.prepared in
    let p_view : change ≡ p = c.prepared.view_is in
    let e = c.write_ahead.new.entry in
    let old = c.args.disk.now in
    let mid = c.write_ahead.new.disk in
    let moment = g.D.Disk.moment in
    let images = g.D.Disk.images in
    let held = g.D.Disk.held in
    let tells = g.D.Disk.tells in
    let has = has_placed tells held moment images s now change p e old mid view p_view (c.self.invariant.works c.if-self.false) c.if-self.false c.stored-stored.ensures.consistent c.stored-stored.ensures.no_batches c.requires.kept c.requires.prepared c.requires.contents c.requires.digests c.write_ahead.ensures.entry.same c.write_ahead.ensures.grows.left c.write_ahead.ensures.grows.files in
    let slots = c.write_ahead.new.contents in
    let placed : PlacesAll tells (held mid) change.settled.placed s.slots slots e = subst (λ (l : List Placed). PlacesAll tells (held mid) l s.slots slots e) c.as_slice.ensures c.in-Ok.ensures.placed in
    let is_frame : c.as_slice-3.result.now ≡ entry_frame e = c.as_slice-3.ensures.value ∙ c.into_frame-entry-2.ensures.frame in
    let framed : IsFrame i.log.version (e ∷ []) c.as_slice-3.result.now = framed_alone now p e i.log.version c.as_slice-3.result.now has.consistent has.prepared has.same c.into_frame-entry-2.ensures.encoded is_frame in
    let new = store_in c.apply-2.new.self c.append.new.self c.saturating_add-self-inside.result c.give_up.new.contents i.opened.items c.write_ahead.new.events i.lot i.has_failed in
    let end = c.append.new.disk in
    let laws = g.met.D.Disk g.world.𝓛 g.world.𝓜 g.world.𝓡 ((λ s x. x), (λ x. x), (λ x. x), λ x. x) in
    let number = numbered_of i.log.number c.self.invariant.current in
    let logged = has_logged tells held moment images s now new change p e c.into_frame-entry-2.result.0 old mid end number.0 slots view p_view number.1 placed c.in-Ok.ensures.written.sizes c.in-Ok.ensures.events c.into_frame-entry-2.ensures.entry c.apply-2.ensures.kept refl (one_or_none moment images mid end (held mid) number.0 e c.as_slice-3.result.now is_frame (c.append.ensures.images number.0 (e ∷ []) number.1 framed)) (λ disk k c' image. laws.left_is_told disk k c' image) (λ disk told. laws.held_is_left disk told) in
    record {
      alone = logged_alone tells held moment images now new p e old mid end number.0 slots has logged;
      claims = logged_claims tells held moment images now new p e old mid end number.0 slots has logged;
      acknowledged = acknowledged_claims tells held moment images now new p e old mid end number.0 slots has logged (one_added (images end (moment end)) (held mid) number.0 e c.as_slice-3.result.now is_frame (c.in-Ok-append.ensures.added number.0 (e ∷ []) number.1 framed));
    }

pub returns-clause-kept : goal.returns-clause-kept
returns-clause-kept g c =
    let i = c.self.inside in
    let s = store_in i.state i.log i.entries i.contents i.opened.items i.events i.lot i.has_failed in
    let now = c.args.self.now in
    let view : s ≡ now = c.self.view_is in
    let change : PreparedChange = record { entry = c.prepared.inside.entry; settled = c.prepared.inside.settled.now; events = c.prepared.inside.events } in
    let p = c.args.prepared in
    let p_view : change ≡ p = c.prepared.view_is in
    let e = c.write_ahead.new.entry in
    let old = c.args.disk.now in
    let mid = c.write_ahead.new.disk in
    let moment = g.D.Disk.moment in
    let images = g.D.Disk.images in
    let held = g.D.Disk.held in
    let tells = g.D.Disk.tells in
    let has = has_placed tells held moment images s now change p e old mid view p_view (c.self.invariant.works c.if-self.false) c.if-self.false c.stored-stored.ensures.consistent c.stored-stored.ensures.no_batches c.requires.kept c.requires.prepared c.requires.contents c.requires.digests c.write_ahead.ensures.entry.same c.write_ahead.ensures.grows.left c.write_ahead.ensures.grows.files in
    let slots = c.write_ahead.new.contents in
    let placed : PlacesAll tells (held mid) change.settled.placed s.slots slots e = subst (λ (l : List Placed). PlacesAll tells (held mid) l s.slots slots e) c.as_slice.ensures c.in-Ok.ensures.placed in
    let is_frame : c.as_slice-3.result.now ≡ entry_frame e = c.as_slice-3.ensures.value ∙ c.into_frame-entry-2.ensures.frame in
    let framed : IsFrame i.log.version (e ∷ []) c.as_slice-3.result.now = framed_alone now p e i.log.version c.as_slice-3.result.now has.consistent has.prepared has.same c.into_frame-entry-2.ensures.encoded is_frame in
    let new = store_in c.apply-2.new.self c.append.new.self c.saturating_add-self-inside.result c.give_up.new.contents i.opened.items c.write_ahead.new.events i.lot i.has_failed in
    let end = c.append.new.disk in
    let laws = g.met.D.Disk g.world.𝓛 g.world.𝓜 g.world.𝓡 ((λ s x. x), (λ x. x), (λ x. x), λ x. x) in
    let number = numbered_of i.log.number c.self.invariant.current in
    let logged = has_logged tells held moment images s now new change p e c.into_frame-entry-2.result.0 old mid end number.0 slots view p_view number.1 placed c.in-Ok.ensures.written.sizes c.in-Ok.ensures.events c.into_frame-entry-2.ensures.entry c.apply-2.ensures.kept refl (one_or_none moment images mid end (held mid) number.0 e c.as_slice-3.result.now is_frame (c.append.ensures.images number.0 (e ∷ []) number.1 framed)) (λ disk k c' image. laws.left_is_told disk k c' image) (λ disk told. laws.held_is_left disk told) in
    let more : new.entries ≡ min (i.entries + 1) (2 ^ 64 - 1) = omega (arith, c.saturating_add-self-inside.ensures) in
    acknowledged_kept tells held moment images now new p e old mid end number.0 slots has logged (one_added (images end (moment end)) (held mid) number.0 e c.as_slice-3.result.now is_frame (c.in-Ok-append.ensures.added number.0 (e ∷ []) number.1 framed)) c.in-Ok-append.ensures.ready.ready (more ∙ ap (λ (t : StoreState). min (t.entries + 1) (2 ^ 64 - 1)) view) c.give_up.ensures.sizes

pub returns-clause-acknowledged : goal.returns-clause-acknowledged
returns-clause-acknowledged g c =
    let i = c.self.inside in
    let s = store_in i.state i.log i.entries i.contents i.opened.items i.events i.lot i.has_failed in
    let now = c.args.self.now in
    let view : s ≡ now = c.self.view_is in
    let change : PreparedChange = record { entry = c.prepared.inside.entry; settled = c.prepared.inside.settled.now; events = c.prepared.inside.events } in
    let p = c.args.prepared in
    let p_view : change ≡ p = c.prepared.view_is in
    let e = c.write_ahead.new.entry in
    let old = c.args.disk.now in
    let mid = c.write_ahead.new.disk in
    let moment = g.D.Disk.moment in
    let images = g.D.Disk.images in
    let held = g.D.Disk.held in
    let tells = g.D.Disk.tells in
    let has = has_placed tells held moment images s now change p e old mid view p_view (c.self.invariant.works c.if-self.false) c.if-self.false c.stored-stored.ensures.consistent c.stored-stored.ensures.no_batches c.requires.kept c.requires.prepared c.requires.contents c.requires.digests c.write_ahead.ensures.entry.same c.write_ahead.ensures.grows.left c.write_ahead.ensures.grows.files in
    let slots = c.write_ahead.new.contents in
    let placed : PlacesAll tells (held mid) change.settled.placed s.slots slots e = subst (λ (l : List Placed). PlacesAll tells (held mid) l s.slots slots e) c.as_slice.ensures c.in-Ok.ensures.placed in
    let is_frame : c.as_slice-3.result.now ≡ entry_frame e = c.as_slice-3.ensures.value ∙ c.into_frame-entry-2.ensures.frame in
    let framed : IsFrame i.log.version (e ∷ []) c.as_slice-3.result.now = framed_alone now p e i.log.version c.as_slice-3.result.now has.consistent has.prepared has.same c.into_frame-entry-2.ensures.encoded is_frame in
    let new = store_in c.apply-2.new.self c.append.new.self c.saturating_add-self-inside.result c.give_up.new.contents i.opened.items c.write_ahead.new.events i.lot i.has_failed in
    let end = c.append.new.disk in
    let laws = g.met.D.Disk g.world.𝓛 g.world.𝓜 g.world.𝓡 ((λ s x. x), (λ x. x), (λ x. x), λ x. x) in
    let number = numbered_of i.log.number c.self.invariant.current in
    let logged = has_logged tells held moment images s now new change p e c.into_frame-entry-2.result.0 old mid end number.0 slots view p_view number.1 placed c.in-Ok.ensures.written.sizes c.in-Ok.ensures.events c.into_frame-entry-2.ensures.entry c.apply-2.ensures.kept refl (one_or_none moment images mid end (held mid) number.0 e c.as_slice-3.result.now is_frame (c.append.ensures.images number.0 (e ∷ []) number.1 framed)) (λ disk k c' image. laws.left_is_told disk k c' image) (λ disk told. laws.held_is_left disk told) in
    record {
      moment = c.in-Ok-append.ensures.acknowledged.0;
      calls =
          called s now change p c.as_slice.result.now (moment old) (moment mid) (moment end) view p_view c.as_slice.ensures c.requires.prepared
          c.in-Ok.ensures.written.calls c.in-Ok-append.ensures.calls;
      events = events_counted s c.args.self.now change c.args.prepared c.write_ahead.new.events c.self.view_is c.prepared.view_is c.requires.prepared c.in-Ok.ensures.events.appended;
      entries = (let more : new.entries ≡ min (i.entries + 1) (2 ^ 64 - 1) = omega (arith, c.saturating_add-self-inside.ensures) in more ∙ ap (λ (t : StoreState). min (t.entries + 1) (2 ^ 64 - 1)) view);
      logged = acknowledged_entry tells held moment images now new p e old mid end number.0 slots has logged (one_added (images end (moment end)) (held mid) number.0 e c.as_slice-3.result.now is_frame (c.in-Ok-append.ensures.added number.0 (e ∷ []) number.1 framed));
      grown = claims_grown tells held moment images now new p e old mid end number.0 slots has logged c.give_up.new.contents c.give_up.ensures.sizes;
      shared = kept_shared tells held moment images now new p e old mid end number.0 slots has logged;
      states = λ state stands. state_of_acknowledged tells held moment images now new p e old mid end number.0 slots has logged state stands (one_added (images end (moment end)) (held mid) number.0 e c.as_slice-3.result.now is_frame (c.in-Ok-append.ensures.added number.0 (e ∷ []) number.1 framed));
    }
