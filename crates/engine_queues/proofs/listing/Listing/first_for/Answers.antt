use Rattle.std.proofs.Common.{◌≡◌, length, nat_lt, ap, ◌∙◌, arith}
use Rattle.std.specs.Prelude.{is_some, option_map, slice_get}
use Rattle.std.specs.List.{slice_index_or}
use Rattle.engine_queues.specs.Listing.{first_passed, names_left}
use Rattle.engine_queues.proofs.Sources.{a-first, is-mapped, looked-up, no-first}
use Rattle.engine_queues.proofs.listing.Listing.first_for.Goals as goal

pub returns-in_default : goal.returns-in_default
returns-in_default c p there =
    let at = ap (λ s. slice_get s.flow.processors c.args.processor) c.self.view_is ∙ there in
    let is = c.index.ensures ∙ ap (λ n. slice_index_or c.self.inside.sources.items n c.index.result.now) c.from.ensures in
    no-first c.self.inside c.self.invariant c.args.processor p c.index.result.now at is c.in_default.not-Some
    ∙ ap (λ s. first_passed p.kind (names_left s)) c.self.view_is

pub returns : goal.returns
returns c p there =
    let at = ap (λ s. slice_get s.flow.processors c.args.processor) c.self.view_is ∙ there in
    let is = c.index.ensures ∙ ap (λ n. slice_index_or c.self.inside.sources.items n c.index.result.now) c.from.ensures in
    let place = c.in-Some.source.first in
    let found = option_map (λ name. name.now) c.get.result in
    let there : is_some found ≡ nat_lt place (length c.self.inside.names.items) =
    is-mapped (λ name. name.now) c.get.result ∙ c.get.ensures.lookup.0 ∙ ap (λ l. nat_lt place (length l)) c.deref.ensures.value in
    looked-up c.self.inside.names.items place found there
    (λ d. c.get.ensures.lookup.4 (omega arith) d ∙ ap (λ l. slice_index_or l place d) c.deref.ensures.value)
    ∙ a-first c.self.inside c.self.invariant c.args.processor p c.index.result.now c.in-Some.source at is c.in-Some.is
    ∙ ap (λ s. first_passed p.kind (names_left s)) c.self.view_is
