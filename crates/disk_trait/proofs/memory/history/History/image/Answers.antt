use Rattle.std.proofs.Common.{◌≡◌, ◌-◌, length, take, drop, refl}
use Rattle.std.proofs.lemmas.List.{take_rest}
use Rattle.disk_trait.specs.MemoryHistory.{past_of}
use Rattle.disk_trait.specs.MemoryPast.{calls_until}
use Rattle.disk_trait.proofs.DiskPicks.{calls_are, firsts_are, prefix_fits, old_image, new_image, torn_image_of}
use Rattle.disk_trait.proofs.memory.history.History.image.Goals as goal

pub image-requires : goal.image-requires
image-requires c =
    let p = past_of c.args.self.now in
    let n = c.count_until.result in
    let k = c.synced_count-synced.result in
    let calls = take n c.deref.result.now in
    let is : calls ≡ take (calls_until p c.args.at) p.calls = calls_are p c.args.at n calls c.deref.result.now c.count_until.ensures.count c.deref.ensures.value refl in
    let e = c.synced_count-synced.ensures in
    prefix_fits p c.args.self.now.past k (take k calls) (firsts_are p (calls_until p c.args.at) k calls (take k calls) is refl e.within)

pub image-requires-in-New : goal.image-requires-in-New
image-requires-in-New c =
    let p = past_of c.args.self.now in
    let n = c.count_until.result in
    let k = c.synced_count-synced.result in
    let calls = take n c.deref.result.now in
    let is : calls ≡ take (calls_until p c.args.at) p.calls = calls_are p c.args.at n calls c.deref.result.now c.count_until.ensures.count c.deref.ensures.value refl in
    let e = c.synced_count-synced.ensures in
    prefix_fits p c.args.self.now.past (calls_until p c.args.at) calls is

pub image-requires-in-Torn : goal.image-requires-in-Torn
image-requires-in-Torn c =
    let p = past_of c.args.self.now in
    let n = c.count_until.result in
    let k = c.synced_count-synced.result in
    let calls = take n c.deref.result.now in
    let is : calls ≡ take (calls_until p c.args.at) p.calls = calls_are p c.args.at n calls c.deref.result.now c.count_until.ensures.count c.deref.ensures.value refl in
    let e = c.synced_count-synced.ensures in
    prefix_fits p c.args.self.now.past (calls_until p c.args.at) calls is

pub returns-in-Old-clause-image : goal.returns-in-Old-clause-image
returns-in-Old-clause-image c =
    let p = past_of c.args.self.now in
    let n = c.count_until.result in
    let k = c.synced_count-synced.result in
    let calls = take n c.deref.result.now in
    let is : calls ≡ take (calls_until p c.args.at) p.calls = calls_are p c.args.at n calls c.deref.result.now c.count_until.ensures.count c.deref.ensures.value refl in
    let e = c.synced_count-synced.ensures in
    old_image p c.args.self.now.past c.args.at k c.args.pick calls is e.within e.synced c.image.result (take k calls) c.in-Old.is refl c.image.ensures.drawn

pub returns-in-New-clause-image : goal.returns-in-New-clause-image
returns-in-New-clause-image c =
    let p = past_of c.args.self.now in
    let n = c.count_until.result in
    let k = c.synced_count-synced.result in
    let calls = take n c.deref.result.now in
    let is : calls ≡ take (calls_until p c.args.at) p.calls = calls_are p c.args.at n calls c.deref.result.now c.count_until.ensures.count c.deref.ensures.value refl in
    let e = c.synced_count-synced.ensures in
    new_image p c.args.self.now.past c.args.at k c.args.pick calls is e.within e.synced c.image-in-New.result c.in-New.is c.image-in-New.ensures.drawn

pub returns-in-Torn-clause-image : goal.returns-in-Torn-clause-image
returns-in-Torn-clause-image c =
    let p = past_of c.args.self.now in
    let n = c.count_until.result in
    let k = c.synced_count-synced.result in
    let calls = take n c.deref.result.now in
    let is : calls ≡ take (calls_until p c.args.at) p.calls = calls_are p c.args.at n calls c.deref.result.now c.count_until.ensures.count c.deref.ensures.value refl in
    let e = c.synced_count-synced.ensures in
    torn_image_of p c.args.self.now.past c.args.at k c.args.pick calls is e.within e.synced c.image-in-Torn.result (take (length calls - k) (drop k calls)) c.in-Torn.seed c.in-Torn.is (take_rest calls k) c.image-in-Torn.ensures.drawn
