-- There are processors of each kind.
use Rattle.std.proofs.Common.{◌≡◌, true, refl}
use Rattle.machine_model.specs.declared.kind.Kind.{Kind}
use Rattle.machine_model.specs.declared.kind.Kind.TheVariants as kind
use Rattle.engine_session.specs.Working.{is_built}

pub built : (k : Kind) → is_built k ≡ true
built (kind.GetFile filter) = refl
built (kind.GenerateFlowFile count text) = refl
built (kind.PutFile conflict) = refl
built (kind.UpdateAttribute properties) = refl
built (kind.RouteOnAttribute properties) = refl
built (kind.AttributesToJson destination names) = refl
built (kind.DuplicateFlowFile copies) = refl
built kind.CryptographicHashContent = refl
built (kind.SplitText lines) = refl
built (kind.ReplaceText by) = refl
built (kind.ExtractText list) = refl
built (kind.RouteOnContent requirement list) = refl
built (kind.MergeContent strategy minimum maximum) = refl
built (kind.SegmentContent size) = refl
built (kind.ModifyBytes start end) = refl
