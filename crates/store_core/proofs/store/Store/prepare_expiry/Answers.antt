use Rattle.std.proofs.Common.{◌≡◌, ◌+◌, refl, sym, ap, subst, ◌∙◌}
use Rattle.std.specs.Prelude.{None}
use Rattle.flowfile_record.specs.Stored.{Kept}
use Rattle.checkpoint_store.specs.Consistent.{IsConsistent}
use Rattle.kept_state.specs.Changes.{expiry_entry}
use Rattle.kept_state.specs.Limits.{numbers_limit}
use Rattle.kept_state.proofs.Expiring.{expiry_settles}
use Rattle.store_core.specs.Change.{MayExpire, kept_with}
use Rattle.store_core.specs.Store.{StoreState, store_in, kept_by}
use Rattle.store_core.proofs.Expiring.{expiry_prepared, expiry_within}
use Rattle.store_core.proofs.store.Store.prepare_expiry.Goals as goal

pub numbers_limit-requires : goal.numbers_limit-requires
numbers_limit-requires c =
    let i = c.self.inside in
    let s = store_in i.state i.log i.entries i.contents i.opened.items i.events i.lot i.has_failed in
    let x = c.args.expiry.now in
    let may = subst (λ (t : StoreState). MayExpire (kept_by t) x) (sym c.self.view_is) c.requires in
    expiry_settles (kept_by s) x.connection x.settled c.stored.ensures.consistent may.expires

pub returns-clause-prepared : goal.returns-clause-prepared
returns-clause-prepared c =
    let i = c.self.inside in
    let s = store_in i.state i.log i.entries i.contents i.opened.items i.events i.lot i.has_failed in
    let x = c.args.expiry.now in
    let view : s ≡ c.args.self.now = c.self.view_is in
    let was = subst (λ (t : StoreState). IsConsistent (kept_by t)) view c.stored.ensures.consistent in
    let none : numbers_limit (kept_with s x.settled) ≡ None = sym c.numbers_limit.ensures ∙ c.in_default.is in
    let is = c.in_ok-entry.ensures ∙ ap (λ (t : StoreState). expiry_entry (kept_by t) x.connection x.settled) view in
    let first = c.in_ok-blocks.ensures.first ∙ ap (λ (k : Kept). k.last_event + 1) c.stored.ensures.kept ∙ ap (λ (t : StoreState). (kept_by t).last_event + 1) view in (
      refl,
      expiry_prepared c.args.self.now x c.in_ok-entry.entry c.in_ok-blocks.blocks was c.requires (subst (λ (t : StoreState). numbers_limit (kept_with t x.settled) ≡ None) view none)
          is first (c.in_ok-blocks.ensures.events ∙ c.as_slice-events.ensures),
    )

pub returns-clause-within : goal.returns-clause-within
returns-clause-within c =
    let i = c.self.inside in
    let s = store_in i.state i.log i.entries i.contents i.opened.items i.events i.lot i.has_failed in
    let x = c.args.expiry.now in
    let view : s ≡ c.args.self.now = c.self.view_is in
    let was = subst (λ (t : StoreState). IsConsistent (kept_by t)) view c.stored.ensures.consistent in
    let none : numbers_limit (kept_with s x.settled) ≡ None = sym c.numbers_limit.ensures ∙ c.in_default.is in
    expiry_within c.args.self.now x was c.requires (subst (λ (t : StoreState). numbers_limit (kept_with t x.settled) ≡ None) view none)
