-- What a reader's refusal says.
use Rattle.std.proofs.Common.{◌≡◌, Option, None, Result, Ok, Err, IsErrAnd, sym, subst}
use Rattle.expr_lang.specs.declared.stop.Stop.{Stop}
use Rattle.expr_lang.specs.declared.stop.Stop.TheVariants.{Unread, Memory}
use Rattle.expr_lang.specs.Gives.{Reads}

-- a part that isn't read leaves the whole unread
pub stopped_along : (X Y X' Y' : Type 0) (view : X → Y) (view' : X' → Y') (s : Stop) (part : Option Y) (whole : Option Y') → (part ≡ None → whole ≡ None) → Reads view (Err s) part → Reads view' (Err s) whole
stopped_along X Y X' Y' view view' Unread part whole so h = so h
stopped_along X Y X' Y' view view' Memory part whole so h = tt

pub passed_on : {X Y : Type 0} (view : X → Y) (r : Result X Stop) (s : Stop) (reading : Option Y) → IsErrAnd r (λ e. e ≡ s) → Reads view (Err s) reading → Reads view r reading
passed_on view (Ok x) s reading h k = absurd h
passed_on {X} {Y} view (Err e) s reading h k = subst (λ (v : Stop). Reads {X = X} view (Err v) reading) (sym h) k
