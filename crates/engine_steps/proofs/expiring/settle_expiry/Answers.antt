use Rattle.engine_steps.proofs.Expired.{makes_expiry, may_expire, ok_leads, placed_there}
use Rattle.store_core.specs.Store.{kept_by}
use Rattle.engine_steps.proofs.expiring.settle_expiry.Goals as goal

pub expire_files-requires-clause-may : goal.expire_files-requires-clause-may
expire_files-requires-clause-may c =
    may_expire c.what_is_kept_is_seen.ensures.seen c.due_expiries_may_expire.ensures c.args.flow.now (kept_by c.args.store.now) c.requires.due.0 c.args.expiry.connection c.args.expiry.numbers c.args.moment
    c.state-stored.ensures.consistent c.state-stored.ensures.no_batches c.requires.identity c.requires.due.1

pub returns-clause-there : goal.returns-clause-there
returns-clause-there c =
    let may = may_expire c.what_is_kept_is_seen.ensures.seen c.due_expiries_may_expire.ensures c.args.flow.now (kept_by c.args.store.now) c.requires.due.0 c.args.expiry.connection c.args.expiry.numbers c.args.moment
    c.state-stored.ensures.consistent c.state-stored.ensures.no_batches c.requires.identity c.requires.due.1 in
    ok_leads c.expire_files.result _ _ (λ x these. placed_there c.args.flow.now (kept_by c.args.store.now) c.args.expiry.connection x.connection c.args.expiry.numbers x.settled.gone these.0 these.1 may)
    c.expire_files.ensures.these

pub returns-clause-step : goal.returns-clause-step
returns-clause-step c =
    ok_leads c.expire_files.result _ _
    (λ x leaves. makes_expiry c.what_is_kept_is_seen.ensures.seen c.due_expiries_may_expire.ensures c.args.flow.now (kept_by c.args.store.now) c.requires.due.0 c.args.expiry.connection c.args.expiry.numbers c.args.moment
    c.state-stored.ensures.consistent c.state-stored.ensures.no_batches c.requires.identity c.requires.due.1 x.settled leaves) c.expire_files.ensures.leaves
