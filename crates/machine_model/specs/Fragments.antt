-- A part of a whole, as the code has it.
use Rattle.machine_model.specs.Taking.{Fragment}
use Rattle.machine_model.specs.declared.fragment.Fragment.{Fragment as Part}

abbrev pub fragment_seen : Part → Fragment
fragment_seen part = record { identifier = part.whole.identifier.now; index = part.index; count = part.whole.count }
