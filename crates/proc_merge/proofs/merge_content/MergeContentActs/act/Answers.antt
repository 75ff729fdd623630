use Rattle.std.proofs.Common.{false, true, sym, ◌∙◌, ap, subst, arith}
use Rattle.process_session.specs.Bench.{Bench}
use Rattle.proc_merge.specs.Joining.{IsJoined, file_joined}
use Rattle.proc_merge.specs.Passing.{with_all_passed}
use Rattle.proc_merge.specs.Taken.{bytes_read, files_seen}
use Rattle.proc_merge.proofs.Merged.{IsBehind, all-there, apart-acts, behind, limit-acts, merge-acts, nothing-behind, still-open, three, took-some}
use Rattle.proc_merge.proofs.merge_content.MergeContentActs.act.Goals as goal
use Rattle.proc_merge.proofs.merge_content.MergeContentActs.act.Goals.{else-may_join-via-then-may_join+in_ok-join+else-branch, else-may_join-via-else-may_join}

pub may_join-requires : goal.may_join-requires
may_join-requires c = let kind = c.args.self.now in took-some kind.strategy kind.minimum kind.maximum c.args.session.now c.args._given.now c.requires

pub join-requires-clause-took : goal.join-requires-clause-took
join-requires-clause-took c = let kind = c.args.self.now in took-some kind.strategy kind.minimum kind.maximum c.args.session.now c.args._given.now c.requires

pub join-requires-clause-there : goal.join-requires-clause-there
join-requires-clause-there c = let kind = c.args.self.now in omega (arith, three kind.strategy kind.minimum kind.maximum c.args.session.now c.args._given.now c.requires)

pub pass_all-requires-clause-there : goal.pass_all-requires-clause-there
pass_all-requires-clause-there c =
    let bench = c.args.session.now in
    let now = c.join.new.session in
    let kind = c.args.self.now in
    let wanted = file_joined kind.strategy (files_seen bench) (bytes_read bench.sources) in
    let joined : IsJoined bench now wanted true = subst (IsJoined bench now wanted) c.if-branch.true c.in_ok-join.ensures in
    let more = behind bench now kind.strategy true joined in
    let same = ap (λ (b : Bench). b.relationships) more.is in
    omega (arith, same, three kind.strategy kind.minimum kind.maximum bench c.args._given.now c.requires)

pub pass_all-requires-else-may_join-clause-there : goal.pass_all-requires-else-may_join-clause-there
pass_all-requires-else-may_join-clause-there c =
    let bench = c.args.session.now in
    let now = c.else-may_join.session in
    let kind = c.args.self.now in
    let wanted = file_joined kind.strategy (files_seen bench) (bytes_read bench.sources) in
    let more : IsBehind bench now =
    elim c.else-may_join.branch [
      | else-may_join-via-then-may_join+in_ok-join+else-branch w ↦
          subst (IsBehind bench) (sym w.session-is) (behind bench w.join.new.session kind.strategy false (subst (IsJoined bench w.join.new.session wanted) w.if-branch.false w.in_ok-join.ensures))
      | else-may_join-via-else-may_join w ↦ subst (IsBehind bench) (sym w.session-is) (nothing-behind bench)
    ] in
    let same = ap (λ (b : Bench). b.relationships) more.is in
    omega (arith, same, three kind.strategy kind.minimum kind.maximum bench c.args._given.now c.requires)

pub pass_all-requires-clause-all : goal.pass_all-requires-clause-all
pass_all-requires-clause-all c =
    let bench = c.args.session.now in
    let now = c.join.new.session in
    let kind = c.args.self.now in
    let wanted = file_joined kind.strategy (files_seen bench) (bytes_read bench.sources) in
    let joined : IsJoined bench now wanted true = subst (IsJoined bench now wanted) c.if-branch.true c.in_ok-join.ensures in
    let more = behind bench now kind.strategy true joined in
    all-there bench now (took-some kind.strategy kind.minimum kind.maximum bench c.args._given.now c.requires) more.more more.handed more.is

pub pass_all-requires-clause-still_open : goal.pass_all-requires-clause-still_open
pass_all-requires-clause-still_open c =
    let bench = c.args.session.now in
    let now = c.join.new.session in
    let kind = c.args.self.now in
    let wanted = file_joined kind.strategy (files_seen bench) (bytes_read bench.sources) in
    let joined : IsJoined bench now wanted true = subst (IsJoined bench now wanted) c.if-branch.true c.in_ok-join.ensures in
    let more = behind bench now kind.strategy true joined in
    still-open bench now (took-some kind.strategy kind.minimum kind.maximum bench c.args._given.now c.requires) more.more more.handed more.is

pub pass_all-requires-else-may_join-clause-all : goal.pass_all-requires-else-may_join-clause-all
pass_all-requires-else-may_join-clause-all c =
    let bench = c.args.session.now in
    let now = c.else-may_join.session in
    let kind = c.args.self.now in
    let wanted = file_joined kind.strategy (files_seen bench) (bytes_read bench.sources) in
    let more : IsBehind bench now =
    elim c.else-may_join.branch [
      | else-may_join-via-then-may_join+in_ok-join+else-branch w ↦
          subst (IsBehind bench) (sym w.session-is) (behind bench w.join.new.session kind.strategy false (subst (IsJoined bench w.join.new.session wanted) w.if-branch.false w.in_ok-join.ensures))
      | else-may_join-via-else-may_join w ↦ subst (IsBehind bench) (sym w.session-is) (nothing-behind bench)
    ] in
    all-there bench now (took-some kind.strategy kind.minimum kind.maximum bench c.args._given.now c.requires) more.more more.handed more.is

pub pass_all-requires-else-may_join-clause-still_open : goal.pass_all-requires-else-may_join-clause-still_open
pass_all-requires-else-may_join-clause-still_open c =
    let bench = c.args.session.now in
    let now = c.else-may_join.session in
    let kind = c.args.self.now in
    let wanted = file_joined kind.strategy (files_seen bench) (bytes_read bench.sources) in
    let more : IsBehind bench now =
    elim c.else-may_join.branch [
      | else-may_join-via-then-may_join+in_ok-join+else-branch w ↦
          subst (IsBehind bench) (sym w.session-is) (behind bench w.join.new.session kind.strategy false (subst (IsJoined bench w.join.new.session wanted) w.if-branch.false w.in_ok-join.ensures))
      | else-may_join-via-else-may_join w ↦ subst (IsBehind bench) (sym w.session-is) (nothing-behind bench)
    ] in
    still-open bench now (took-some kind.strategy kind.minimum kind.maximum bench c.args._given.now c.requires) more.more more.handed more.is

pub returns-then-branch-clause-acts : goal.returns-then-branch-clause-acts
returns-then-branch-clause-acts c =
    let bench = c.args.session.now in
    let now = c.join.new.session in
    let kind = c.args.self.now in
    let wanted = file_joined kind.strategy (files_seen bench) (bytes_read bench.sources) in
    let joined : IsJoined bench now wanted true = subst (IsJoined bench now wanted) c.if-branch.true c.in_ok-join.ensures in
    merge-acts kind.strategy kind.minimum kind.maximum bench now c.pass_all.new.session c.args._given.now (took-some kind.strategy kind.minimum kind.maximum bench c.args._given.now c.requires)
    (sym c.may_join.ensures ∙ c.if-may_join.true) joined c.pass_all.ensures

pub returns-else-may_join-clause-acts : goal.returns-else-may_join-clause-acts
returns-else-may_join-clause-acts c =
    let bench = c.args.session.now in
    let after = c.pass_all-else-may_join.new.session in
    let kind = c.args.self.now in
    let took = took-some kind.strategy kind.minimum kind.maximum bench c.args._given.now c.requires in
    let wanted = file_joined kind.strategy (files_seen bench) (bytes_read bench.sources) in
    elim c.else-may_join.branch [
      | else-may_join-via-then-may_join+in_ok-join+else-branch w ↦
          limit-acts kind.strategy kind.minimum kind.maximum bench w.join.new.session after c.args._given.now took (sym c.may_join.ensures ∙ w.if-may_join.true)
          (subst (IsJoined bench w.join.new.session wanted) w.if-branch.false w.in_ok-join.ensures) (c.pass_all-else-may_join.ensures ∙ ap (λ s. with_all_passed s 2) w.session-is)
      | else-may_join-via-else-may_join w ↦
          apart-acts kind.strategy kind.minimum kind.maximum bench after c.args._given.now took (sym c.may_join.ensures ∙ w.if-may_join.false)
          (c.pass_all-else-may_join.ensures ∙ ap (λ s. with_all_passed s 2) w.session-is)
    ]
