use Rattle.std.proofs.Common.{◌≡◌, true, [], ◌∷◌, ◌++◌, suc, length, drop, sym, ap, subst, ◌∙◌}
use Rattle.std.specs.Prelude.{Err}
use Rattle.std.proofs.lemmas.Iterator.Adapters.{YieldsList-from_vec}
use Rattle.std.proofs.lemmas.Iterator.Consumers.{YieldsList-so_far, YieldsList-turn}
use Rattle.disk_trait.specs.declared.damage.Damage.TheVariants.{Form}
use Rattle.disk_trait.specs.Files.{named}
use Rattle.disk_trait.specs.declared.file_name.FileKind.TheVariants.{Log}
use Rattle.flowfile_record.specs.Stored.{Kept, kept_of}
use Rattle.record_codec.specs.EntryEncoding.{IsEntry}
use Rattle.kept_state.specs.Applied.{applied, batch_swapped_out}
use Rattle.kept_state.specs.Changes.{no_files}
use Rattle.kept_state.specs.Fits.{entry_suits}
use Rattle.store_core.specs.Flow.{flow_in}
use Rattle.store_core.specs.Kept.{fitted}
use Rattle.store_core.proofs.Replaying.{Logged, in_turn, misfits, fitting, still_plain, same_flow}
use Rattle.store_core.proofs.reading.replay_entries.Goals as goal

pub apply-requires-clause-encoded : goal.apply-requires-clause-encoded
apply-requires-clause-encoded c =
    let road = YieldsList-from_vec {s = c.into_iter-at-iterator.result} c.args.entries.items c.into_iter-at-iterator.ensures.into_iter_gives.0 (c.into_iter-at-iterator.ensures.into_iter_gives.1 ∙ c.args.entries.ok.0) in
    let turn = YieldsList-turn road c.loop-at.yielded c.loop-at.at-iterator c.loop-at.yielded_by c.next.result c.next.new.self (c.in-Some.at, c.in-Some.entry) c.in-Some.is c.next.ensures.steps in
    subst (λ (e : Logged). IsEntry e.1) (sym turn.1) (c.requires.encoded (length c.loop-at.yielded) (c.in-Some.at, c.in-Some.entry) turn.0)

pub returns-in-Err-Unfit-clause-damaged : goal.returns-in-Err-Unfit-clause-damaged
returns-in-Err-Unfit-clause-damaged c damage is =
    let road = YieldsList-from_vec {s = c.into_iter-at-iterator.result} c.args.entries.items c.into_iter-at-iterator.ensures.into_iter_gives.0 (c.into_iter-at-iterator.ensures.into_iter_gives.1 ∙ c.args.entries.ok.0) in
    let turn = YieldsList-turn road c.loop-at.yielded c.loop-at.at-iterator c.loop-at.yielded_by c.next.result c.next.new.self (c.in-Some.at, c.in-Some.entry) c.in-Some.is c.next.ensures.steps in
    let so_far = YieldsList-so_far road c.loop-at.yielded c.loop-at.at-iterator c.loop-at.yielded_by in
    let k = kept_of c.args.stored in
    let front = c.loop-at.yielded ++ (c.in-Some.at, c.in-Some.entry) ∷ [] in
    let more = drop (suc (length c.loop-at.yielded)) c.args.entries.items in
    let same : Form (named Log c.args.number) c.in-Some.at ≡ damage = cc (c.misfit.ensures, is) in
    ap (fitted c.args.number)
    (misfits k c.loop-at.replay c.args.entries.items front more c.in-Some.at c.in-Some.entry
    (in_turn c.args.entries.items c.loop-at.yielded (c.in-Some.at, c.in-Some.entry) so_far turn.0 turn.1)
    (c.replays_go_on.ensures.more no_files k c.loop-at.replay c.loop-at.yielded c.in-Some.at c.in-Some.entry c.loop-at.invariant.so_far)
    (c.apply.ensures.unfit (c.in-Err-Unfit.is ∙ ap Err c.in-Err-Unfit.field-0-is) no_files)
    (c.replays_go_on.ensures.unfit no_files k front more c.in-Some.at))
    ∙ ap Err same

pub loop-at-preserved : goal.loop-at-preserved
loop-at-preserved c =
    let road = YieldsList-from_vec {s = c.into_iter-at-iterator.result} c.args.entries.items c.into_iter-at-iterator.ensures.into_iter_gives.0 (c.into_iter-at-iterator.ensures.into_iter_gives.1 ∙ c.args.entries.ok.0) in
    let turn = YieldsList-turn road c.loop-at.yielded c.loop-at.at-iterator c.loop-at.yielded_by c.next.result c.next.new.self (c.in-Some.at, c.in-Some.entry) c.in-Some.is c.next.ensures.steps in
    let out = subst (λ (e : Logged). batch_swapped_out e.1 ≡ []) (sym turn.1) (c.requires.unswapped (length c.loop-at.yielded) (c.in-Some.at, c.in-Some.entry) turn.0) in
    let k = c.loop-at.replay in
    let e = c.in-Some.entry in
    let fit : entry_suits no_files k e ≡ true = c.in-Ok.ensures.fits no_files in
    let now : c.in-Ok.replay ≡ applied no_files k e = c.in-Ok.ensures.applied no_files in
    record {
      so_far =
          c.replays_go_on.ensures.more no_files (kept_of c.args.stored) k c.loop-at.yielded c.in-Some.at e c.loop-at.invariant.so_far
          ∙ fitting (entry_suits no_files k e) (applied no_files k e) c.in-Ok.replay c.in-Some.at fit now;
      batches = ap (λ (x : Kept). x.batches) now ∙ still_plain k e c.loop-at.invariant.batches out fit;
      flow = ap flow_in now ∙ same_flow k e ∙ c.loop-at.invariant.flow;
    }
