use Rattle.std.proofs.Common.{sym, ap, ◌∙◌}
use Rattle.kept_state.specs.Fits.{entry_suits}
use Rattle.kept_state.proofs.Placing.{placeless_fits}
use Rattle.kept_state.proofs.law.fits_ignore_where_contents_stand.Goals as goal

pub returns : goal.returns
returns c = λ files k d e same. sym (placeless_fits files k d) ∙ ap (entry_suits files k) same ∙ placeless_fits files k e
