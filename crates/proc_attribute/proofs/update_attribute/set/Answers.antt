use Rattle.std.proofs.Common.{◌≡◌, ◌+◌, List, drop, map, refl}
use Rattle.process_session.specs.Bench.{bench_attributes}
use Rattle.process_session.specs.Changes.{with_put}
use Rattle.processor_api.proofs.Answered.{changed_so, only_memory}
use Rattle.proc_attribute.specs.Setting.{set_by}
use Rattle.proc_attribute.proofs.Updating.{Pair, keys-first, next-pair, put-keeps, put-one, put-sets, set-begins, sets-more}
use Rattle.proc_attribute.proofs.update_attribute.set.Goals as goal

pub loop-setting-init : goal.loop-setting-init
loop-setting-init c = record { after = set-begins c.args.session.now c.requires.one; same = refl; keys = c.requires.keys }

pub or_no_memory-requires : goal.or_no_memory-requires
or_no_memory-requires c =
    let i = c.loop-setting.setting-index in
    let settings = c.args.settings.now in
    let left = next-pair set_by settings i c.setting-item.result c.loop-setting-test.true c.setting-item.is in
    let put = put-one c.args.session.now c.loop-setting.session c.requires.one (map set_by settings) (map set_by (drop i settings)) (map set_by (drop (i + 1) settings)) (set_by c.setting-item.result) c.as_str.result.now
    c.loop-setting.invariant.after c.loop-setting.invariant.same left c.loop-setting.invariant.keys c.requires.may c.as_str.ensures.value in
    only_memory _ _ c.put_attribute.ensures.refusal put.free

pub loop-setting-preserved : goal.loop-setting-preserved
loop-setting-preserved c =
    let i = c.loop-setting.setting-index in
    let settings = c.args.settings.now in
    let before = c.args.session.now in
    let now = c.loop-setting.session in
    let new = c.put_attribute.new.self in
    let pairs : List Pair = map set_by settings in
    let rest : List Pair = map set_by (drop (i + 1) settings) in
    let pair : Pair = set_by c.setting-item.result in
    let left = next-pair set_by settings i c.setting-item.result c.loop-setting-test.true c.setting-item.is in
    let put = put-one before now c.requires.one pairs (map set_by (drop i settings)) rest pair c.as_str.result.now
    c.loop-setting.invariant.after c.loop-setting.invariant.same left c.loop-setting.invariant.keys c.requires.may c.as_str.ensures.value in
    let new-is : new ≡ with_put now 0 pair.0 c.as_str.result.now = changed_so _ _ _ _ _ c.put_attribute.ensures.after c.in_ok-or_no_memory.ensures.value in
    record {
      after = put-keeps before now new c.requires.one pair c.as_str.result.now put new-is;
      same = sets-more (bench_attributes before 0) (bench_attributes now 0) (bench_attributes new 0) pairs (map set_by (drop i settings)) rest pair c.loop-setting.invariant.same left
          (put-sets before now new c.requires.one pair c.as_str.result.now put new-is);
      keys = (keys-first (map set_by (drop i settings)) rest pair left c.loop-setting.invariant.keys).1;
    }
