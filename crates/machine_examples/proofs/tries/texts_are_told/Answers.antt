use Rattle.machine_examples.proofs.TriedTexts.{digit-extracted, x-is-second, no-digit-unmatched, long-name-unmatched, no-text-unmatched, value-cut, value-whole, no-text-routed, second-finds, literal-replaces, no-text-fails, template-replaces}
use Rattle.machine_examples.proofs.tries.texts_are_told.Goals as goal

pub returns : goal.returns
returns c = record {
  extracted = digit-extracted;
  extracted_x = x-is-second;
  not_found = no-digit-unmatched;
  long_name = long-name-unmatched;
  no_text = no-text-unmatched;
  value_cut = value-cut;
  value_whole = value-whole;
  routed_no_text = no-text-routed;
  routed_second = second-finds;
  replaced_literal = literal-replaces;
  replaced_no_text = no-text-fails;
  replaced_template = template-replaces;
}
