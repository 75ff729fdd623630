use Rattle.std.proofs.Common.{◌≡◌, length, sym, ◌∙◌, ap, subst, arith}
use Rattle.std.specs.Vec.Iter.{into_iter_items}
use Rattle.std.proofs.lemmas.List.{nil_from_length}
use Rattle.std.proofs.lemmas.List.Elements.{All-head}
use Rattle.flow_queue.specs.Entering.{MayComeTogether, files_with}
use Rattle.flow_queue.specs.Queue.{IsApart}
use Rattle.flow_queue.proofs.Joining.{next-comes}
use Rattle.flow_queue.proofs.queue.entering.put_files.Goals as goal

pub put_file-requires-clause-apart : goal.put_file-requires-clause-apart
put_file-requires-clause-apart c =
    let may = subst (MayComeTogether c.loop-file.files.items) c.in-Some.ensures.steps.0 c.loop-file.invariant.may in
    All-head (λ f. IsApart f c.loop-file.files.items) c.in-Some.file (into_iter_items c.next.new.self) may.apart

pub put_file-requires-clause-room : goal.put_file-requires-clause-room
put_file-requires-clause-room c = omega (arith, c.loop-file.invariant.room, c.requires.room, ap length c.in-Some.ensures.steps.0)

pub loop-file-preserved : goal.loop-file-preserved
loop-file-preserved c =
    let held = c.loop-file.files.items in
    let later = into_iter_items c.next.new.self in
    let split = c.in-Some.ensures.steps.0 in
    let may = subst (MayComeTogether held) split c.loop-file.invariant.may in
    record {
      kept = c.put_file.ensures.kept;
      may = subst (λ fs. MayComeTogether fs later) (sym c.put_file.ensures.files) (next-comes held c.in-Some.file later may);
      files = ap (files_with later) c.put_file.ensures.files ∙ ap (λ l. files_with l held) (sym split) ∙ c.loop-file.invariant.files;
      room = omega (arith, c.loop-file.invariant.room, ap length split, c.put_file.ensures.room);
    }

pub loop-file-init : goal.loop-file-init
loop-file-init c =
    let all : into_iter_items c.into_iter-file-iterator.result ≡ c.args.coming.items = c.into_iter-file-iterator.ensures.into_iter_gives.0 in
    record {
      kept = c.requires.kept;
      may = subst (MayComeTogether c.args.files.now.items) (sym all) c.requires.may;
      files = ap (λ l. files_with l c.args.files.now.items) all;
      room = omega (arith, ap length all);
    }

pub returns-clause-files : goal.returns-clause-files
returns-clause-files c =
    let left = c.loop-file.file-iterator in
    let none : length (into_iter_items left) ≡ 0 = omega (arith, left.rest.ok.0, c.in-None.ensures.steps.0) in
    ap (λ l. files_with l c.loop-file.files.items) (sym (nil_from_length (into_iter_items left) none)) ∙ c.loop-file.invariant.files

pub returns-clause-room : goal.returns-clause-room
returns-clause-room c =
    let left = c.loop-file.file-iterator in
    omega (arith, c.loop-file.invariant.room, left.rest.ok.0, c.in-None.ensures.steps.0)
