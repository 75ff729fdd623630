use Rattle.std.proofs.Common.{◌<◌, ◌^◌, get_or, rules}
use Rattle.content_repo.proofs.SlotSets.{first_of-is}
use Rattle.content_repo.proofs.slot_set.first_of.Goals as goal

pub returns : goal.returns
returns c =
    let fits : get_or c.args.words.now c.args.word 0 < 2 ^ 64 = search rules in
    first_of-is c.args.words.now c.args.word c.requires.some fits
