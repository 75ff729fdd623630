use Rattle.std.proofs.Common.{rules, ◌≡◌, ◌∙◌, ℕ, List, false, map, sym, ap, subst}
use Rattle.std.specs.Prelude.{◌&&◌, All, Contains, Some, is_some, slice_get}
use Rattle.std.specs.Option.{option_map_or}
use Rattle.flowfile_record.specs.declared.flow_file.FlowFile.{FlowFile}
use Rattle.content_repo.specs.Claims.{content_in}
use Rattle.machine_model.specs.Acting.{name_in}
use Rattle.process_session.specs.declared.file.Source.{Source}
use Rattle.store_core.specs.Store.{kept_by, live_in}
use Rattle.engine_choice.specs.Laws.{numbers_in}
use Rattle.engine_session.specs.Handing.{live_files}
use Rattle.engine_steps.specs.Standing.{IsOfFlight}
use Rattle.engine_steps.proofs.StandsStill.{takes_live}
use Rattle.engine_steps.proofs.Told.{there_so}
use Rattle.engine_steps.proofs.standing.handed_stands.Goals as goal

pub contents_stand-requires-clause-live : goal.contents_stand-requires-clause-live
contents_stand-requires-clause-live g c κs within =
    let k = kept_by c.args.store.now in
    let taking = c.args.flight.now.choice.taking in
    let of : IsOfFlight c.args.done.now c.args.flight.now = c.is_of_flight.ensures (cc) in
    let are : c.as_slice-2.result.now ≡ live_files k (numbers_in taking) = c.as_slice-2.ensures ∙ c.in_ok-files.ensures ∙ ap (live_files k) (c.numbers.ensures ∙ of.numbers) in
    subst (λ (files : List FlowFile). All (λ (file : FlowFile). Contains (live_in c.args.store.now) file.content) files) (sym are) (takes_live k taking c.requires.taken)

pub returns-clause-stands : goal.returns-clause-stands
returns-clause-stands g c is =
    let k = kept_by c.args.store.now in
    let done = c.args.done.now in
    let contents = content_in (g.D.Disk.held c.args.disk.now) in
    let standing = g.O.Outbox.standing c.args.outbox.now in
    let same : done.files ≡ c.in_ok-files.files = sym c.files.ensures ∙ c.are_same_files.ensures.0 (cc) ∙ c.as_slice.ensures in
    let there : c.in_ok-is_there.field-0 ≡ done.given.there = search rules in
    record {
      of = c.is_of_flight.ensures (cc);
      files = same ∙ c.in_ok-files.ensures ∙ ap (live_files k) c.numbers.ensures;
      bytes = λ telling.
          sym (ap (λ (sources : List Source). map (λ (source : Source). source.bytes) sources) c.sources.ensures)
          ∙ c.in_ok-contents_stand.ensures.stands (cc) telling
          ∙ ap (λ (files : List FlowFile). map (λ (file : FlowFile). Some (contents file.content)) files) (c.as_slice-2.ensures ∙ sym same);
      there = λ out_telling world stands. sym there ∙ there_so c.args.flow.now c.args.flight.now.choice.processor world standing contents done.files c.asks_outbox-asks.result c.in_ok-is_there.field-0 stands c.asks_outbox-asks.ensures
          (c.in_ok-is_there.ensures.there out_telling
          ∙ ap (λ (files : List FlowFile). c.asks_outbox-asks.result && option_map_or (λ (file : FlowFile). option_map_or (λ (name : List ℕ). is_some (standing name)) (name_in file.attributes) false) (slice_get files 0) false) (c.as_slice-3.ensures ∙ sym same));
      unasked = λ unasked. sym there ∙ c.in_ok-is_there.ensures.unasked (c.asks_outbox-asks.ensures ∙ unasked);
    }
