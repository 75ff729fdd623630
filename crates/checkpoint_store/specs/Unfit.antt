-- A refusal of a payload, as one of its block.
use Rattle.flowfile_record.specs.declared.error.CodecError.{CodecError}
use Rattle.flowfile_record.specs.declared.error.CodecError.TheVariants as codec
use Rattle.checkpoint_store.specs.declared.so_far.Unfit.{Unfit}
use Rattle.checkpoint_store.specs.declared.so_far.Unfit.TheVariants as unfit

abbrev pub unfit_of : CodecError → Unfit
unfit_of codec.Memory = unfit.Memory
unfit_of (codec.Form at) = unfit.Form
