use Rattle.prioritizer.proofs.Numbers.{written-read, plus-zeros}
use Rattle.prioritizer.proofs.laws.numbers_go_by_value.Goals as goal

pub returns : goal.returns
returns c = record { written = written-read; padded = plus-zeros }
