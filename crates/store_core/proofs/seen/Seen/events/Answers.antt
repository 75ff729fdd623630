use Rattle.std.proofs.Common.{◌≡◌, ℕ, ◌+◌, max, min, refl, ap, ◌∙◌, arith}
use Rattle.std.specs.Prelude.{Err}
use Rattle.std.proofs.lemmas.Result.{err_from_is_err_and}
use Rattle.prov_store.specs.Scanning.{HasBetween, numbers_between}
use Rattle.prov_store.specs.State.{EventsState}
use Rattle.block_file.specs.declared.error.BlockError.{BlockError}
use Rattle.store_core.specs.Seen.{SeenState}
use Rattle.store_core.proofs.Refusals.{block_damaged}
use Rattle.store_core.proofs.Seeing.{says_known, all_are}
use Rattle.store_core.proofs.seen.Seen.events.Goals as goal

pub returns-in_err-events-clause-undamaged : goal.returns-in_err-events-clause-undamaged
returns-in_err-events-clause-undamaged g c damage is told seen =
    let p = err_from_is_err_and c.from_residual.result c.from_residual.ensures.1 in
    let same : c.in_err-events.field-0.0 ≡ BlockError.Damaged damage = block_damaged c.in_err-events.field-0.0 damage (cc (p.1, p.2, is)) in
    let known : c.self.inside.events ≡ c.args.self.now.events = ap (λ (s : SeenState). s.events) c.self.view_is in
    c.in_err-events.ensures.undamaged damage (ap Err same) told seen.events.events (says_known (g.D.Disk.held c.args.disk.now) c.args.self.now c.self.inside.events known seen)

pub returns-clause-events : goal.returns-clause-events
returns-clause-events g c told seen state stands =
    all_are (g.D.Disk.held c.args.disk.now) c.args.self.now state c.self.inside.events c.end.result c.in_ok-events.events.items (ap (λ (s : SeenState). s.events) c.self.view_is) c.self.invariant c.end.ensures seen stands
    (c.in_ok-events.ensures.found told)

pub returns-clause-numbered : goal.returns-clause-numbered
returns-clause-numbered g c =
    let known : c.self.inside.events ≡ c.args.self.now.events = ap (λ (s : SeenState). s.events) c.self.view_is in
    let end : min c.end.result c.self.inside.events.end ≡ c.args.self.now.events.end = omega (arith, c.end.ensures) ∙ ap (λ (e : EventsState). e.end) known in
    let first : max 1 (c.self.inside.events.line + 1) ≡ 1 = omega (arith, c.self.invariant) in
    c.in_ok-events.ensures.numbered ∙ ap (λ (n : ℕ). numbers_between n (min c.end.result c.self.inside.events.end)) first ∙ ap (λ (n : ℕ). numbers_between 1 n) end

pub returns-in_err-events-clause-refused : goal.returns-in_err-events-clause-refused
returns-in_err-events-clause-refused g c is =
    let known : c.self.inside.events.end ≡ c.args.self.now.events.end = ap (λ (s : SeenState). s.events.end) c.self.view_is in
    omega (arith, c.in_err-events.ensures.refused refl, c.end.ensures, known, c.self.invariant)

pub returns-in_err-events-clause-none : goal.returns-in_err-events-clause-none
returns-in_err-events-clause-none g c none =
    let known : c.self.inside.events.end ≡ c.args.self.now.events.end = ap (λ (s : SeenState). s.events.end) c.self.view_is in
    c.scan.ensures.none (λ (has : HasBetween 1 c.end.result c.self.inside.events.line c.self.inside.events.end). omega (arith, has, c.end.ensures, known, none))

pub returns-clause-none : goal.returns-clause-none
returns-clause-none g c none =
    let known : c.self.inside.events.end ≡ c.args.self.now.events.end = ap (λ (s : SeenState). s.events.end) c.self.view_is in
    c.scan.ensures.none (λ (has : HasBetween 1 c.end.result c.self.inside.events.line c.self.inside.events.end). omega (arith, has, c.end.ensures, known, none))
