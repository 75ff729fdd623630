-- What a list of calls has and takes.
use Rattle.std.specs.Prelude.{◌≡◌, ℕ, ◌<◌, [], ◌∷◌, ◌++◌, vec_len, vec_capacity}
use Rattle.disk_trait.specs.declared.memory.call.DiskCall.{DiskCall}
use Rattle.disk_trait.specs.declared.memory.call_list.CallList.{CallList}

-- one more call can be noted with no more memory
pub record HasRoom (list : CallList) : Type 0 where
  pub call : vec_len list.calls < vec_capacity list.calls
  pub moment : vec_len list.moments < vec_capacity list.moments

-- one more call, of this moment
pub record Notes (old new : CallList) (call : DiskCall) (moment : ℕ) : Type 0 where
  pub calls : new.calls.items ≡ old.calls.items ++ call ∷ []
  pub moments : new.moments.items ≡ old.moments.items ++ moment ∷ []

-- the same calls
pub record HasSameCalls (old new : CallList) : Type 0 where
  pub calls : new.calls.items ≡ old.calls.items
  pub moments : new.moments.items ≡ old.moments.items
