-- For private clauses: the text of a line's parts.
use Rattle.std.specs.Prelude.{ℕ, ◌+◌, List, ◌++◌, decimal}
use Rattle.std.specs.List.{flat_map}
use Rattle.hex.specs.Hex.{encode_lower}
use Rattle.json.specs.Print.{quoted}
use Rattle.serde_json.specs.Data.{array}
use Rattle.serde_json.specs.Written.{compact_text}
use Rattle.flowfile_record.specs.Identifier.{identifier}
use Rattle.flow_report.specs.Events.{file_items}
use Rattle.flow_report.specs.Texts.{line_end}
use Rattle.flow_report.specs.Words.{identifier_text}
use Rattle.flow_report.specs.declared.part.Part.{Part}
use Rattle.flow_report.specs.declared.part.Part.TheVariants as part

abbrev pub part_text : Part → List ℕ
part_text (part.Text text) = text.now
part_text (part.Number number) = decimal number
part_text (part.Sum one other) = decimal (one + other)
part_text (part.Uuid id) = identifier_text id.now
part_text (part.Digest digest) = encode_lower digest.now
part_text (part.Quoted text) = quoted text.now
part_text (part.QuotedUuid store number) = quoted (identifier_text (identifier store number))
part_text (part.QuotedDigest digest) = quoted (encode_lower digest.now)
part_text (part.Uuids store numbers) = compact_text (array (file_items store numbers.now))

abbrev pub line_of_parts : List Part → List ℕ
line_of_parts parts = flat_map part_text parts ++ line_end
