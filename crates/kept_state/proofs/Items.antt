-- Items by their numbers, for those who know them from here.
pub use Rattle.flowfile_record.proofs.ByNumber.{eqb_comm, refl_eqb, item_of-without_other, none_above, sum-without, length-without, item_of-with, sum-with, length-with, All-with, any-with, ascends-with}
