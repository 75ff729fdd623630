use Rattle.std.proofs.Common.{◌+◌, nat_lt, ℕ, List, cond, get_or, sym, ap, ◌∙◌}
use Rattle.std.specs.Prelude.{Option, None, Some, option_map, slice_get, slice_index}
use Rattle.engine_queues.specs.Queues.{queue_seen}
use Rattle.engine_queues.specs.Listing.{names_left}
use Rattle.engine_queues.specs.Picking.{first_pick}
use Rattle.engine_choice.specs.declared.choice.Taking.{Taking}
use Rattle.engine_choice.specs.declared.choice.Taking.TheVariants.{Files, Generate, Receive}
use Rattle.engine_choice.proofs.Takings.{generates, item-at, mapped-twice, receives, takes-picked}
use Rattle.engine_choice.proofs.Turns.{if-ok}
use Rattle.engine_choice.proofs.choosing.taking_for.Goals as goal

pub returns-in-GetFile : goal.returns-in-GetFile
returns-in-GetFile c =
    let named = option_map (λ name. name.now) c.first_for.result in
    if-ok _ _ (λ taking is p there.
    let item = item-at c.args.flow.now.processors c.args.processor p c.as_slice.result.now c.from-place.result c.index-as_slice-place.result
    there c.as_slice.ensures c.from-place.ensures in
    let listed = ap (λ flow. slice_get flow.processors c.args.processor) c.requires.may.listing ∙ there in
    receives p.kind c.in-GetFile.filter (names_left c.args.listing.now) (slice_index c.args.counts.now c.args.processor) (slice_index c.args.busy.now c.args.processor)
    (first_pick c.args.flow.now (queue_seen c.args.queues.now) c.args.moment (c.args.processor, p)) named taking
    (ap (λ q. q.kind) (sym item) ∙ c.in-GetFile.is) (c.first_for.ensures p listed)
    (is ∙ mapped-twice (λ name. name.now) (λ name. Receive name) c.first_for.result))
    c.received.result c.received.ensures

pub returns-in-GenerateFlowFile : goal.returns-in-GenerateFlowFile
returns-in-GenerateFlowFile c p there =
    let item = item-at c.args.flow.now.processors c.args.processor p c.as_slice.result.now c.from-place.result c.index-as_slice-place.result
    there c.as_slice.ensures c.from-place.ensures in
    let made : ℕ → Option Taking = λ place.
    let made = get_or c.args.counts.now place 0 in
    cond (nat_lt (made + get_or c.args.busy.now place 0) c.in-GenerateFlowFile.count) (Some (Generate (made + 1))) None in
    generates p.kind c.in-GenerateFlowFile.count c.in-GenerateFlowFile.custom_text (names_left c.args.listing.now) (slice_index c.args.counts.now c.args.processor) (slice_index c.args.busy.now c.args.processor)
    (first_pick c.args.flow.now (queue_seen c.args.queues.now) c.args.moment (c.args.processor, p)) c.generated.result
    (ap (λ q. q.kind) (sym item) ∙ c.in-GenerateFlowFile.is) (c.generated.ensures ∙ ap (λ busy. cond (nat_lt (get_or c.args.counts.now c.from-place.result 0 + busy) c.in-GenerateFlowFile.count) (Some (Generate (get_or c.args.counts.now c.from-place.result 0 + 1))) None) c.sessions_of.ensures
    ∙ ap made c.from-place.ensures)

pub returns-in_ok-pick-in_default : goal.returns-in_ok-pick-in_default
returns-in_ok-pick-in_default c p there =
    let item = item-at c.args.flow.now.processors c.args.processor p c.as_slice.result.now c.from-place.result c.index-as_slice-place.result
    there c.as_slice.ensures c.from-place.ensures in
    takes-picked p.kind (names_left c.args.listing.now) (slice_index c.args.counts.now c.args.processor) (slice_index c.args.busy.now c.args.processor)
    (first_pick c.args.flow.now (queue_seen c.args.queues.now) c.args.moment (c.args.processor, p)) c.picked.result
    (λ filter is. c.in_default.not-GetFile filter (ap (λ q. q.kind) item ∙ is))
    (λ count text is. c.in_default.not-GenerateFlowFile count text (ap (λ q. q.kind) item ∙ is))
    (c.picked.ensures ∙ mapped-twice {Y = ℕ × List ℕ} (λ files. (files.connection, files.numbers)) (λ files. Files files.0 files.1) c.in_ok-pick-in_default.field-0
    ∙ ap (option_map (λ files. Files files.0 files.1)) (c.in_ok-pick-in_default.ensures p there))
