use Rattle.std.proofs.Common.{◌≡◌, ℕ, true, false, List, ap, refl, rules, subst, sym, ◌∙◌}
use Rattle.std.specs.Prelude.{All, Err}
use Rattle.std.proofs.lemmas.List.Elements.{All-nil}
use Rattle.std.proofs.lemmas.Result.{err_from_is_err_and}
use Rattle.sha2.specs.Sha256.{sha256}
use Rattle.flowfile_record.specs.Shared.{is_stored}
use Rattle.flowfile_record.specs.declared.change.Settled.{Settled}
use Rattle.flowfile_record.specs.declared.stored.Placed.{Placed}
use Rattle.content_repo.specs.Claims.{content_in}
use Rattle.kept_state.specs.Applied.{left_after}
use Rattle.machine_model.specs.Changing.{HaveDigests, state_after}
use Rattle.store_core.proofs.Expiring.{expiry_changes}
use Rattle.store_core.specs.Store.{kept_by}
use Rattle.store_core.specs.declared.error.StoreError.{StoreError}
use Rattle.engine_queues.specs.Beside.{is_out}
use Rattle.engine_queues.specs.Settling.{MayTakeFrom}
use Rattle.run_law.proofs.Writing.{touches_log}
use Rattle.engine_steps.specs.Tending.{IsKeptWithout}
use Rattle.engine_steps.proofs.Commits.{id_after}
use Rattle.engine_steps.proofs.Tends.{committed, committed_between, kept_after, limit_of, passes, refuses}
use Rattle.engine_steps.proofs.Expired.{at_rest_of, due_kept, files_stay, may_go, still_live}
use Rattle.engine_steps.proofs.expiring.expire.Goals as goal

pub returns-in_err-prepared-clause-step : goal.returns-in_err-prepared-clause-step
returns-in_err-prepared-clause-step g c telling before stands = record {
  done = search rules;
  cut_off = search rules;
  limited = λ limit is.
      let disk = c.args.disk.now in
      let held = g.D.Disk.held disk in
      let s = c.args.store.now in
      let flow = c.args.flow.now in
      let laws = g.met.D.Disk g.world.𝓛 g.world.𝓜 g.world.𝓡 ((λ s x. x), (λ x. x), (λ x. x), λ x. x) in
      let tied = c.holds_its_state.ensures.tied telling flow c.requires.work.1.work before stands in
      let have = c.held_contents_are_read.ensures s held (c.holds_its_state.ensures.held telling) in
      let goes = c.in_ok-expiry.ensures.step (content_in held) before have tied in
      let p = err_from_is_err_and c.from_residual-in_err-prepared.result c.from_residual-in_err-prepared.ensures.1 in
      let was : c.in_err-prepared.field-0.0 ≡ StoreError.Limit limit = limit_of c.in_err-prepared.field-0.0 limit (cc (p.1, p.2, is)) in
      record {
        after = goes.after;
        goes = goes.goes;
        is_so = (
          stands held (laws.held_is_left disk telling),
          record {
            store = s;
            works = c.requires.work.1.work.works;
            kept = c.requires.work.1.work.kept;
            tied = tied;
            settled = c.in_ok-expiry.expiry.settled;
            may = expiry_changes (kept_by s) c.in_ok-expiry.expiry c.holds_its_state.ensures.kept.0 c.in_ok-expiry.ensures.may;
            brings = ap (λ (t : Settled). t.placed) c.in_ok-expiry.ensures.may.expires.as_session;
            makes = goes.is_so;
            passes = passes s c.in_ok-expiry.expiry limit c.holds_its_state.ensures.kept.0 c.in_ok-expiry.ensures.may (c.prepare_expiry.ensures.limit limit (c.in_err-prepared.was ∙ ap Err was));
          },
        );
      };
}

pub returns-in_err-prepared-clause-refusal : goal.returns-in_err-prepared-clause-refusal
returns-in_err-prepared-clause-refusal g c = record {
  kinds = search rules;
  limited = λ limit is.
      let p = err_from_is_err_and c.from_residual-in_err-prepared.result c.from_residual-in_err-prepared.ensures.1 in
      let was : c.in_err-prepared.field-0.0 ≡ StoreError.Limit limit = limit_of c.in_err-prepared.field-0.0 limit (cc (p.1, p.2, is)) in
      refuses c.args.flow.now g.D.Disk.tells g.D.Disk.held g.D.Disk.moment g.D.Disk.images c.args.store.now c.in_ok-expiry.expiry limit c.args.disk.now c.requires.work.1.work
      c.holds_its_state.ensures.kept.0 c.in_ok-expiry.ensures.may (c.prepare_expiry.ensures.limit limit (c.in_err-prepared.was ∙ ap Err was));
  cause = search rules;
}

pub returns-in_err-moment-clause-step : goal.returns-in_err-moment-clause-step
returns-in_err-moment-clause-step g c telling before stands = record {
  done = search rules;
  cut_off = λ is.
      let disk = c.args.disk.now in
      let held = g.D.Disk.held disk in
      let s = c.args.store.now in
      let flow = c.args.flow.now in
      let tied = c.holds_its_state.ensures.tied telling flow c.requires.work.1.work before stands in
      let have = c.held_contents_are_read.ensures s held (c.holds_its_state.ensures.held telling) in
      let goes = c.in_ok-expiry.ensures.step (content_in held) before have tied in
      record {
        after = goes.after;
        goes = goes.goes;
        is_so = committed_between g.D.Disk.moment g.D.Disk.images flow s disk c.commit.new.disk before c.requires.work.1.work.flow_is stands g.D.Disk.held goes.after c.in_ok-prepared.prepared.settled
            (ap (state_after (content_in held) before.state) c.in_ok-prepared.ensures.prepared.0 ∙ goes.is_so) (c.commit.ensures.changed c.requires.work.1.work.works).states;
      };
  limited = search rules;
}

pub returns-clause-step : goal.returns-clause-step
returns-clause-step g c telling before stands = record {
  done =
      let disk = c.args.disk.now in
      let held = g.D.Disk.held disk in
      let s = c.args.store.now in
      let flow = c.args.flow.now in
      let tied = c.holds_its_state.ensures.tied telling flow c.requires.work.1.work before stands in
      let have = c.held_contents_are_read.ensures s held (c.holds_its_state.ensures.held telling) in
      let goes = c.in_ok-expiry.ensures.step (content_in held) before have tied in
      record {
        after = goes.after;
        goes = goes.goes;
        is_so = committed g.D.Disk.moment g.D.Disk.images flow s disk c.commit.new.disk before c.requires.work.1.work.flow_is stands g.D.Disk.held goes.after c.in_ok-prepared.prepared.settled
            (ap (state_after (content_in held) before.state) c.in_ok-prepared.ensures.prepared.0 ∙ goes.is_so) (c.commit.ensures.changed c.requires.work.1.work.works).states c.in_ok-moment.ensures.acknowledged.states;
      };
  cut_off = search rules;
  limited = search rules;
}

-- the expired files are in none of the sessions in flight
pub expire-requires : goal.expire-requires
expire-requires g c =
    let flow = c.args.flow.now in
    let k = kept_by c.args.store.now in
    let x = c.in_ok-expiry.expiry in
    let out = c.requires.work.0 in
    let are = c.requires.work.1.are in
    let flow_is = c.requires.work.1.work.flow_is in
    let consistent = c.holds_its_state.ensures.kept.0 in
    let at_rest = at_rest_of c.what_is_kept_is_seen.ensures.shown c.what_expires_is_at_rest.ensures flow k out c.args.queues.now c.args.expiry.connection c.args.expiry.numbers c.args.moment
    consistent flow_is are c.requires.due in
    let gone_at_rest = subst (λ (ns : List ℕ). All (λ number. is_out out number ≡ false) ns) (sym c.in_ok-expiry.ensures.gone) at_rest in
    let may = may_go flow k out c.args.queues.now x.connection x.settled.gone consistent flow_is are c.in_ok-expiry.ensures.there gone_at_rest in
    (flow, k, out, subst (λ (ns : List ℕ). MayTakeFrom flow k out x.connection ns c.args.queues.now) (sym c.as_slice.ensures) may)

pub returns-clause-work : goal.returns-clause-work
returns-clause-work g c out with_queues =
    let s = c.args.store.now in
    let flow = c.args.flow.now in
    let x = c.in_ok-expiry.expiry in
    let left = kept_after c.in_ok-prepared.prepared s c.commit.new.self x (c.commit.ensures.changed with_queues.work.works).change c.in_ok-prepared.ensures.entry in
    let same : c.as_slice.result.now ≡ x.settled.gone = c.as_slice.ensures in
    let consistent = c.holds_its_state.ensures.kept.0 in
    let at_rest = at_rest_of c.what_is_kept_is_seen.ensures.shown c.what_expires_is_at_rest.ensures flow (kept_by s) out c.args.queues.now c.args.expiry.connection c.args.expiry.numbers c.args.moment
    consistent with_queues.work.flow_is with_queues.are c.requires.due in
    let gone_at_rest = subst (λ (ns : List ℕ). All (λ number. is_out out number ≡ false) ns) (sym c.in_ok-expiry.ensures.gone) at_rest in
    let may = may_go flow (kept_by s) out c.args.queues.now x.connection x.settled.gone consistent with_queues.work.flow_is with_queues.are c.in_ok-expiry.ensures.there gone_at_rest in
    record {
      work = search rules;
      are =
          c.expire.ensures flow (kept_by s) (kept_by c.commit.new.self) out
          (subst (λ (ns : List ℕ). MayTakeFrom flow (kept_by s) out x.connection ns c.args.queues.now) (sym same) may)
          (left.files ∙ ap (λ (ns : List ℕ). left_after ns (kept_by s).files) (sym same));
      live = still_live (kept_by s) (kept_by c.commit.new.self) out (files_stay (kept_by s) (kept_by c.commit.new.self) x.settled.gone out gone_at_rest left.files) with_queues.live;
    }

pub returns-in_err-moment-clause-commits : goal.returns-in_err-moment-clause-commits
returns-in_err-moment-clause-commits g c =
    let s = c.args.store.now in
    let change = (c.commit.ensures.changed c.requires.work.1.work.works).change in
    record {
      moment_is = search rules;
      unwritten = search rules;
      kept = search rules;
      cut_off = λ is. subst (λ (ns : List ℕ). IsKeptWithout ns (kept_by s) (kept_by c.commit.new.self)) c.in_ok-expiry.ensures.gone
          (kept_after c.in_ok-prepared.prepared s c.commit.new.self c.in_ok-expiry.expiry change c.in_ok-prepared.ensures.entry).kept;
      lot = search rules;
      id = id_after c.in_ok-prepared.prepared s c.commit.new.self change;
      log = search rules;
      alone = touches_log g.D.Disk.moment g.D.Disk.images s.log.number s.log.number c.args.disk.now c.commit.new.disk refl c.commit.ensures.touched.alone;
    }

pub returns-clause-commits : goal.returns-clause-commits
returns-clause-commits g c =
    let s = c.args.store.now in
    let change = (c.commit.ensures.changed c.requires.work.1.work.works).change in
    record {
      moment_is = search rules;
      unwritten = search rules;
      kept = subst (λ (ns : List ℕ). IsKeptWithout ns (kept_by s) (kept_by c.commit.new.self)) c.in_ok-expiry.ensures.gone
          (kept_after c.in_ok-prepared.prepared s c.commit.new.self c.in_ok-expiry.expiry change c.in_ok-prepared.ensures.entry).kept;
      cut_off = search rules;
      lot = search rules;
      id = id_after c.in_ok-prepared.prepared s c.commit.new.self change;
      log = search rules;
      alone = touches_log g.D.Disk.moment g.D.Disk.images s.log.number s.log.number c.args.disk.now c.commit.new.disk refl c.commit.ensures.touched.alone;
    }

-- no file is placed
pub commit-requires-clause-digests : goal.commit-requires-clause-digests
commit-requires-clause-digests g c κs within telling =
    subst (λ (s : Settled). HaveDigests (content_in (g.D.Disk.held c.args.disk.now)) s.placed) (sym (c.in_ok-prepared.ensures.prepared.0 ∙ c.in_ok-expiry.ensures.may.expires.as_session))
    (All-nil (λ (p : Placed). is_stored p.fresh ≡ true → sha256 (content_in (g.D.Disk.held c.args.disk.now) p.file.content) ≡ p.file.content.digest))

pub settle_expiry-requires-clause-due : goal.settle_expiry-requires-clause-due
settle_expiry-requires-clause-due g c = (
  c.requires.work.0,
  due_kept c.what_is_kept_is_seen.ensures.shown c.args.flow.now (kept_by c.args.store.now) c.requires.work.0 c.args.queues.now c.args.expiry.connection c.args.expiry.numbers c.args.moment
      c.holds_its_state.ensures.kept.0 c.requires.work.1.work.flow_is c.requires.work.1.are c.requires.due,
)
