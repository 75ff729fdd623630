use Rattle.std.proofs.Common.{◌≡◌, take}
use Rattle.content_repo.specs.Slots.{held_in, IsLoaded}
use Rattle.content_repo.proofs.content.Content.hold_all.Given as goal

abbrev pub invariant-loop-at : goal.invariant-loop-at
invariant-loop-at l = record { loaded : IsLoaded (take l.at-index l.live) l.self; held : held_in l.self ≡ l.at-index }
