use Rattle.prov_store.proofs.Aging.{ages_keep}
use Rattle.prov_store.proofs.InFiles.{events_stay}
use Rattle.prov_store.proofs.Keeping.{still_has, still_ready, grows_keep, cuts_keep}
use Rattle.prov_store.proofs.law.covered_events_stay.Goals as goal

pub returns-clause-same : goal.returns-clause-same
returns-clause-same c line last old new events same is = events_stay line last old new events same is

pub returns-clause-has : goal.returns-clause-has
returns-clause-has c = still_has

pub returns-clause-ready : goal.returns-clause-ready
returns-clause-ready c = still_ready

pub returns-clause-grows : goal.returns-clause-grows
returns-clause-grows c = grows_keep

pub returns-clause-cuts : goal.returns-clause-cuts
returns-clause-cuts c = cuts_keep

pub returns-clause-ages : goal.returns-clause-ages
returns-clause-ages c = ages_keep
