-- What is answered where nothing fails.
use Rattle.std.specs.Prelude.{◌≡◌, ⊤, ℕ, ◌-◌, ◌^◌, ◌<◌}
use Rattle.run_top.specs.declared.answer.Answer.{Answer}
use Rattle.run_top.specs.declared.answer.Answer.TheVariants.{Done, Blocked, Limit, Memory}

-- the count is as it was, and not at its type's end
abbrev pub StandsStill : (before now : ℕ) → Type 0
StandsStill before now = (now ≡ before) × (now < 2 ^ 64 - 1)

-- a run came to its end, its store was closed and its text printed; or memory was wanting
abbrev pub IsEndOrMemory : Answer → Type 0
IsEndOrMemory Done = ⊤
IsEndOrMemory (Blocked connection) = ⊤
IsEndOrMemory (Limit limit) = ⊤
IsEndOrMemory Memory = ⊤
IsEndOrMemory _ = ⊥
