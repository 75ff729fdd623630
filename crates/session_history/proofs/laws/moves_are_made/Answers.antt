use Rattle.session_history.proofs.Moves.{expire, leave, make, stay, take}
use Rattle.session_history.proofs.laws.moves_are_made.Goals as goal

pub returns : goal.returns
returns c =
    let names = c.names_go_back.ensures in
    let law = c.replay_goes_on.ensures.one_more in
    record {
      takes = take c.choices_are_seen.ensures names.back names.leave;
      leaves = leave;
      makes = make law;
      expires = expire law;
      stays = stay;
    }
