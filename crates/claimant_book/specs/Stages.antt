-- A slot's word has its stage in the high half and the count of its holds in the low one. Stages are numbers: unused
-- is 0, live in the generation g is 2 g - 1, retired from it 2 g.
use Rattle.std.specs.Prelude.{◌≡◌, ℕ, ◌-◌, ◌*◌, ◌/◌, ◌%◌, []}
use Rattle.atomic_table.specs.Seated.{TableId}

abbrev pub word_stage : ℕ → ℕ
word_stage word = word / 4294967296

abbrev pub word_count : ℕ → ℕ
word_count word = word % 4294967296

abbrev pub live_stage : ℕ → ℕ
live_stage generation = 2 * generation - 1

abbrev pub retired_stage : ℕ → ℕ
retired_stage generation = 2 * generation

abbrev pub IsLiveStage : ℕ → Type 0
IsLiveStage stage = stage % 2 ≡ 1

-- retired from the last generation
abbrev pub final_stage : ℕ
final_stage = 4294967294

-- no token holds a slot more often
abbrev pub most_held : ℕ
most_held = 67108864

abbrev pub most_shares : ℕ
most_shares = 32

-- the name of no table
abbrev pub no_table : TableId
no_table = record { words = 0; slots = 0; views_name = 0; atom = 0; block = 0; offset = 0; slot_names = [] }
