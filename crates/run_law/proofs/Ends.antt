-- How a run whose store was closed ends.
use Rattle.std.proofs.Common.{inl, ℕ, ◌+◌, Bool, arith}
use Rattle.disk_trait.specs.Files.{Files}
use Rattle.machine_model.specs.Laws.{ReplayOfOneMore, StepsLoseNames, StepsStayValid}
use Rattle.run_law.specs.Laws.{BlockedRunsEnd, LimitedRunsEnd, QuietRunsEnd}
use Rattle.run_law.specs.declared.ended.Ended.TheVariants as ending
use Rattle.run_law.proofs.Behind.{follows_all}
use Rattle.run_law.proofs.Journals.{acknowledged-all}
use Rattle.run_law.proofs.Steps.{spared}

module _ (law : ReplayOfOneMore) (stays : StepsStayValid) (loses : StepsLoseNames) (tells : Bool) {D : Type 0} (held : D → Files) (moment : D → ℕ) (images : D → ℕ → Files → Type 0) where
  pub quiet_ends : QuietRunsEnd tells held moment images
  quiet_ends flow start time later lot opened reached first old new journal left out run le since image tidied is =
      let on = spared law stays loses moment images flow start time later lot opened reached first old new journal left out run le since in
      record {
        reached = reached;
        ran = on.ran;
        acked = λ closed. acknowledged-all journal (moment first + 1) (moment new) (moment new) on.all on.ran.in_order (omega arith);
        few_open = inl (acknowledged-all journal (moment first + 1) (moment new) (moment new) on.all on.ran.in_order (omega arith));
        within = on.within;
        gone = on.gone;
        inbox = (follows_all flow ending.Quiet opened reached journal left on.ran.replays on.lies).0;
        few_left = (follows_all flow ending.Quiet opened reached journal left on.ran.replays on.lies).1;
        outbox = inl on.stands;
        ends = record { closed = record { disk = on.holds (held new) image; tidied = tidied }; is_quiet = is };
      }

  pub blocked_ends : BlockedRunsEnd tells held moment images
  blocked_ends flow start time later lot place opened reached first old new journal left out run le since image tidied is =
      let on = spared law stays loses moment images flow start time later lot opened reached first old new journal left out run le since in
      record {
        reached = reached;
        ran = on.ran;
        acked = λ closed. acknowledged-all journal (moment first + 1) (moment new) (moment new) on.all on.ran.in_order (omega arith);
        few_open = inl (acknowledged-all journal (moment first + 1) (moment new) (moment new) on.all on.ran.in_order (omega arith));
        within = on.within;
        gone = on.gone;
        inbox = (follows_all flow (ending.Blocked place) opened reached journal left on.ran.replays on.lies).0;
        few_left = (follows_all flow (ending.Blocked place) opened reached journal left on.ran.replays on.lies).1;
        outbox = inl on.stands;
        ends = record { closed = record { disk = on.holds (held new) image; tidied = tidied }; is_blocked = is };
      }

  pub limited_ends : LimitedRunsEnd tells held moment images
  limited_ends flow start time later lot opened reached first old new journal left out next limit run le met since image tidied =
      let on = spared law stays loses moment images flow start time later lot opened reached first old new journal left out run le since in
      record {
        reached = reached;
        ran = on.ran;
        acked = λ closed. acknowledged-all journal (moment first + 1) (moment new) (moment new) on.all on.ran.in_order (omega arith);
        few_open = inl (acknowledged-all journal (moment first + 1) (moment new) (moment new) on.all on.ran.in_order (omega arith));
        within = on.within;
        gone = on.gone;
        inbox = (follows_all flow (ending.Limit limit) opened reached journal left on.ran.replays on.lies).0;
        few_left = (follows_all flow (ending.Limit limit) opened reached journal left on.ran.replays on.lies).1;
        outbox = inl on.stands;
        ends = record { closed = record { disk = on.holds (held new) image; tidied = tidied }; at = old; met = met; since = since };
      }
