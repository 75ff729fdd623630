use Rattle.std.proofs.Common.{◌≡◌, List, [], ◌∷◌, ◌++◌, sym, ap, subst, ◌∙◌, arith, rules}
use Rattle.std.specs.Prelude.{None, All}
use Rattle.std.proofs.lemmas.List.Elements.{All-nil, All-cons, All-append}
use Rattle.std.proofs.lemmas.Result.{err_from_is_err_and}
use Rattle.disk_trait.specs.Files.{Files}
use Rattle.flowfile_record.specs.Stored.{kept_of}
use Rattle.flowfile_record.specs.declared.content.ContentRef.{ContentRef}
use Rattle.checkpoint_store.specs.Consistent.{IsFileIn}
use Rattle.content_repo.specs.Claims.{claim, IsDamage}
use Rattle.content_repo.specs.Slots.{IsNamed}
use Rattle.store_core.specs.Errors.{of_content}
use Rattle.store_core.specs.State.{contents_damage, live_contents}
use Rattle.store_core.specs.declared.error.StoreError.TheVariants.{Damaged}
use Rattle.store_core.proofs.ContentsRead.{damage_is, read_sound, sound_more, first_damaged, contents_of_files, this_content, next_content, all_contents, file_behind, file_named}
use Rattle.store_core.proofs.Refusals.{content_damaged}
use Rattle.store_core.proofs.Sound.{IsSoundIn}
use Rattle.store_core.proofs.reading.read_contents.Goals as goal

pub loop-active-init : goal.loop-active-init
loop-active-init g c =
    let k = kept_of c.args.stored.now in
    let all : c.into_iter-active-iterator.result ≡ k.files = c.into_iter-active-iterator.ensures.into_iter_gives ∙ c.iter-active-items.ensures in
    let none : c.new-contents.result.items ≡ [] = c.new-contents.ensures.items in
    record {
      next = search rules;
      finite = search rules;
      stays = search rules;
      faults = omega arith;
      split = ap contents_of_files (sym all) ∙ ap (λ (refs : List ContentRef). refs ++ contents_of_files c.into_iter-active-iterator.result) (sym none);
      rest = subst (All (IsFileIn k)) (sym all) c.requires.files;
      named = subst (All IsNamed) (sym none) (All-nil IsNamed);
      sound = λ told. ap (contents_damage (g.D.Disk.held c.args.disk.now)) none;
    }

pub read_content-requires-after_bounds : goal.read_content-requires-after_bounds
read_content-requires-after_bounds g c κs within =
    let k = kept_of c.args.stored.now in
    (file_named k c.in-Some.active.now (file_behind k c.loop-active.active-iterator c.next.new.self c.in-Some.active.now c.loop-active.invariant.rest c.in-Some.ensures.steps).0).1

pub returns-in_err-read_content-clause-damaged : goal.returns-in_err-read_content-clause-damaged
returns-in_err-read_content-clause-damaged g c damage is told =
    let k = kept_of c.args.stored.now in
    let inv = c.loop-active.invariant in
    let at = c.in-Some.active.now.file.content in
    let held = g.D.Disk.held c.args.disk.now in
    let p = err_from_is_err_and c.from_residual.result c.from_residual.ensures.1 in
    let same : of_content c.in_err-read_content.field-0.0 ≡ Damaged damage = cc (p.1, p.2, is) in
    let wrong : IsDamage at (held (claim at.slot)) damage =
    subst (λ (files : Files). IsDamage at (files (claim at.slot)) damage) inv.stays.files
    (c.in_err-read_content.ensures.refusal.damaged damage (content_damaged c.in_err-read_content.field-0.0 damage same) told) in
    ap (contents_damage held) (this_content (live_contents k) c.loop-active.contents.items c.loop-active.active-iterator c.next.new.self c.in-Some.active.now inv.split c.in-Some.ensures.steps)
    ∙ first_damaged held c.loop-active.contents.items at (contents_of_files c.next.new.self) damage (inv.sound told) (damage_is held at damage wrong)

pub loop-active-preserved : goal.loop-active-preserved
loop-active-preserved g c =
    let k = kept_of c.args.stored.now in
    let inv = c.loop-active.invariant in
    let a = c.in-Some.active.now in
    let at = a.file.content in
    let held = g.D.Disk.held c.args.disk.now in
    let behind = file_behind k c.loop-active.active-iterator c.next.new.self a inv.rest c.in-Some.ensures.steps in
    let pushed : c.add_content.new.contents.items ≡ c.loop-active.contents.items ++ at ∷ [] = c.in_ok-add_content.ensures in
    record {
      next = search rules;
      finite = search rules;
      stays = record {
        files = c.read_content.ensures.stays.files ∙ inv.stays.files;
        time = c.read_content.ensures.stays.time ∙ inv.stays.time;
        past = λ m files left. inv.stays.past m files (c.read_content.ensures.stays.past m files left);
        kept = λ m files left. c.read_content.ensures.stays.kept m files (inv.stays.kept m files left);
      };
      faults = omega (arith, inv.faults, c.read_content.ensures.cause.never_falls);
      split = next_content (live_contents k) c.loop-active.contents.items c.add_content.new.contents.items c.loop-active.active-iterator c.next.new.self a inv.split c.in-Some.ensures.steps pushed;
      rest = behind.1;
      named = subst (All IsNamed) (sym pushed) (All-append IsNamed c.loop-active.contents.items (at ∷ []) inv.named (All-cons IsNamed at [] (file_named k a behind.0) (All-nil IsNamed)));
      sound = λ told.
          subst (λ (refs : List ContentRef). contents_damage held refs ≡ None) (sym pushed)
          (sound_more held c.loop-active.contents.items at (inv.sound told)
          (subst (λ (files : Files). IsSoundIn files at) inv.stays.files (read_sound g.D.Disk.tells (g.D.Disk.held c.loop-active.disk) at c.in_ok-read_content.field-0.items c.in_ok-read_content.ensures.read told)));
    }

pub returns-clause-contents : goal.returns-clause-contents
returns-clause-contents g c =
    all_contents (live_contents (kept_of c.args.stored.now)) c.loop-active.contents.items c.loop-active.active-iterator c.loop-active.invariant.split c.in-None.ensures.steps.0

pub returns-clause-sound : goal.returns-clause-sound
returns-clause-sound g c told =
    ap (contents_damage (g.D.Disk.held c.args.disk.now))
    (sym (all_contents (live_contents (kept_of c.args.stored.now)) c.loop-active.contents.items c.loop-active.active-iterator c.loop-active.invariant.split c.in-None.ensures.steps.0))
    ∙ c.loop-active.invariant.sound told
