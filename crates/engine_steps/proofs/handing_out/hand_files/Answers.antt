use Rattle.std.proofs.Common.{◌≡◌, ℕ, ap, ◌∙◌, sym, subst, refl, rules, List, false}
use Rattle.std.specs.Prelude.{◌&&◌, Err, All, Contains, None, is_some, slice_get}
use Rattle.std.specs.Option.{option_map_or}
use Rattle.std.proofs.lemmas.Result.{err_from_is_err_and}
use Rattle.flowfile_record.specs.declared.flow_file.FlowFile.{FlowFile}
use Rattle.content_repo.specs.Claims.{content_in}
use Rattle.machine_model.specs.Acting.{name_in}
use Rattle.store_core.specs.Store.{kept_by, live_in}
use Rattle.engine_choice.specs.Laws.{given_for, numbers_in}
use Rattle.engine_choice.specs.declared.choice.Taking.{Taking}
use Rattle.engine_session.specs.Handing.{AreReadOf, AreTaken, files_fit_a_content, live_files}
use Rattle.engine_steps.specs.Handing.{HasBytes, HasBytesOf, connection_in}
use Rattle.engine_steps.specs.declared.error.EngineError.{EngineError}
use Rattle.engine_steps.proofs.Files.{all_are_live, taken_so}
use Rattle.engine_steps.proofs.Told.{there_so}
use Rattle.engine_steps.proofs.handing_out.hand_files.Goals as goal

pub read_contents-requires-clause-live : goal.read_contents-requires-clause-live
read_contents-requires-clause-live g c κs within =
    let k = kept_by c.args.store.now in
    let are : c.as_slice.result.now ≡ live_files k c.args.numbers.now = c.as_slice.ensures ∙ c.in_ok-files.ensures in
    subst (λ (files : List FlowFile). All (λ (file : FlowFile). Contains (live_in c.args.store.now) file.content) files) (sym are)
    (all_are_live k c.args.connection c.args.numbers.now c.requires.taken)

pub returns-in_err-contents-clause-contents : goal.returns-in_err-contents-clause-contents
returns-in_err-contents-clause-contents g c = record {
  store = search rules;
  stays = search rules;
  damaged = λ damage is.
      let p = err_from_is_err_and c.from_residual-in_err-contents.result c.from_residual-in_err-contents.ensures.1 in
      let was : c.in_err-contents.field-0.0 ≡ EngineError.Damaged damage = cc (p.1, p.2, is) in
      c.in_err-contents.ensures.contents.damaged damage (ap Err was);
  cause = search rules;
}

pub returns-clause-handed : goal.returns-clause-handed
returns-clause-handed g c =
    let k = kept_by c.args.store.now in
    let are : c.in_ok-files.files ≡ live_files k c.args.numbers.now = c.in_ok-files.ensures in
    let read = c.in_ok-contents.ensures.read in
    record {
      session = refl;
      processor = refl;
      connection = sym (ap connection_in c.requires.taking);
      numbers = c.in_ok-from_slice.ensures ∙ sym (ap numbers_in c.requires.taking);
      given = sym (ap (λ (t : Taking). given_for c.args.flight.now.moment c.in_ok-there.there t) c.requires.taking);
      has = subst (λ (t : Taking). HasBytes t None) (sym c.requires.taking) refl;
      bytes = read.0;
      taken = subst (λ (numbers : List ℕ). AreTaken k c.args.connection numbers read.0 c.in_ok-files.files c.in_ok-contents.contents) (sym c.in_ok-from_slice.ensures)
          (taken_so k c.args.connection c.args.numbers.now c.requires.taken read.0 c.in_ok-files.files c.in_ok-contents.contents are
          (subst (λ (files : List FlowFile). AreReadOf read.0 (files_fit_a_content files) files c.in_ok-contents.contents) c.as_slice.ensures read.1));
    }

pub returns-clause-told : goal.returns-clause-told
returns-clause-told g c in_tells left =
    let k = kept_by c.args.store.now in
    let contents = content_in (g.D.Disk.held c.args.disk.now) in
    let standing = g.O.Outbox.standing c.args.outbox.now in
    let are : c.in_ok-files.files ≡ live_files k c.args.numbers.now = c.in_ok-files.ensures in
    record {
      read = λ telling.
          subst (λ (numbers : List ℕ). AreTaken k c.args.connection numbers contents c.in_ok-files.files c.in_ok-contents.contents) (sym c.in_ok-from_slice.ensures)
          (taken_so k c.args.connection c.args.numbers.now c.requires.taken contents c.in_ok-files.files c.in_ok-contents.contents are
          (subst (λ (files : List FlowFile). AreReadOf contents (files_fit_a_content files) files c.in_ok-contents.contents) c.as_slice.ensures (c.in_ok-contents.ensures.told telling)));
      received = λ in_telling. subst (λ (t : Taking). HasBytesOf left t None) (sym c.requires.taking) tt;
      there = λ out_telling world same. there_so c.args.flow.now c.args.flight.now.choice.processor world standing contents c.in_ok-files.files c.asks_outbox-asks.result c.in_ok-there.there same c.asks_outbox-asks.ensures
          (c.in_ok-there.ensures.there out_telling
          ∙ ap (λ (files : List FlowFile). c.asks_outbox-asks.result && option_map_or (λ (file : FlowFile). option_map_or (λ name. is_some (standing name)) (name_in file.attributes) false) (slice_get files 0) false) c.as_slice-2.ensures);
      unasked = λ unasked. c.in_ok-there.ensures.unasked (c.asks_outbox-asks.ensures ∙ unasked);
    }
