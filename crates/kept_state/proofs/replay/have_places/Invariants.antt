use Rattle.std.proofs.Common.{◌≡◌, drop}
use Rattle.std.specs.List.{list_all}
use Rattle.flowfile_record.specs.Stored.{kept_of}
use Rattle.kept_state.specs.Fits.{has_place}
use Rattle.kept_state.proofs.replay.have_places.Given as goal

abbrev pub invariant-loop-active : goal.invariant-loop-active
invariant-loop-active l = list_all (has_place (kept_of l.stored) l.session) (drop l.active-index l.active-items) ≡ list_all (has_place (kept_of l.stored) l.session) l.session.placed
