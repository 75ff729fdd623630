use Rattle.std.proofs.Common.{ℕ, drop, sym, ap, ◌∙◌, add-one}
use Rattle.content_repo.specs.Room.{left_behind, left_by_new}
use Rattle.content_repo.proofs.Rooms.{left_by_new-more}
use Rattle.content_repo.proofs.room.fill_new.Goals as goal

pub loop-number-preserved : goal.loop-number-preserved
loop-number-preserved c =
    let first = drop c.args.from c.args.sizes.now in
    record {
      within = c.fill-next.ensures.within;
      left =
          c.fill-next.ensures.left ∙ ap (left_behind 0) c.loop-number.invariant.left ∙ sym (left_by_new-more c.loop-number.number first)
          ∙ sym (ap (λ (m : ℕ). left_by_new m first) (add-one c.loop-number.number));
    }
