-- ModifyBytes: the content without so many bytes at its start and at its end is written, and is empty where these cover
-- it; to success, which is 0. It meets no limit.
use Rattle.std.specs.Prelude.{ℕ, ◌-◌, List, length, take, drop}
use Rattle.flowfile_record.specs.declared.worked.Outcome.{Outcome}
use Rattle.machine_model.specs.AttributesToJson.{written_on}
use Rattle.machine_model.specs.Making.{TakenFile, alone}

abbrev pub without_ends : (start end : ℕ) → List ℕ → List ℕ
without_ends start end bytes = let rest = drop start bytes in take (length rest - end) rest

abbrev pub modify : (start end : ℕ) → TakenFile → Outcome
modify start end file = alone (written_on file.attributes (without_ends start end file.bytes))
