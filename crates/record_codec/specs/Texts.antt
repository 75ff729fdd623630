-- Lists of texts: how they are encoded, which have an encoding, and how they are read.
use Rattle.std.specs.Prelude.{ℕ, List}
use Rattle.flowfile_record.specs.Reading.{Reading, text_at, listed_at}
use Rattle.flowfile_record.specs.Encoding.{text, listed, IsText, AreListed}

abbrev pub texts : List (List ℕ) → List ℕ
texts ts = listed text ts

abbrev pub AreTexts : List (List ℕ) → Type 0
AreTexts ts = AreListed IsText ts

abbrev pub texts_at : Reading (List (List ℕ))
texts_at = listed_at text_at
