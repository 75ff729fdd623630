use Rattle.std.proofs.Common.{◌≡◌, arith, refl, sym, ◌∙◌, length}
use Rattle.std.specs.Vec.{vec_len}
use Rattle.std.proofs.lemmas.List.{length_push}
use Rattle.std.proofs.lemmas.Iterator.Adapters.{YieldsList-from_vec}
use Rattle.std.proofs.lemmas.Iterator.Consumers.{YieldsList-turn}
use Rattle.settlement.specs.Ending.{place_of}
use Rattle.settlement.proofs.MadeFiles.{end_more, end_none}
use Rattle.settlement.proofs.making.Setting.end_each.Goals as goal

pub loop-worked-init : goal.loop-worked-init
loop-worked-init c = record { place = refl; whole = c.new-ended.ensures.items ∙ sym (end_none (place_of c.args.self.now) c.args.numbers.now c.args.entered.now) }

pub loop-worked-preserved : goal.loop-worked-preserved
loop-worked-preserved c =
    let count : vec_len c.args.files ≡ length c.args.files.items = omega arith in
    let gives = c.into_iter-worked-iterator.ensures.into_iter_gives in
    let turn = YieldsList-turn (YieldsList-from_vec c.args.files.items gives.0 (gives.1 ∙ count)) c.loop-worked.yielded c.loop-worked.worked-iterator c.loop-worked.yielded_by _ c.next.new.self c.in-Some.worked c.in-Some.is c.next.ensures.steps in
    record {
      place = omega (arith, length_push c.loop-worked.yielded c.in-Some.worked);
      whole = end_more (place_of c.args.self.now) c.args.numbers.now c.args.entered.now c.loop-worked.yielded c.in-Some.worked c.loop-worked.place c.loop-worked.ended.items c.push.new.self.items c.in_ok-file.file c.loop-worked.invariant.place
          (omega (arith, turn.0)) (omega (arith, turn.0)) c.loop-worked.invariant.whole c.in_ok-push.ensures.items c.in_ok-file.ensures;
    }
