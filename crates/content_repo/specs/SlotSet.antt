-- A set of slots in words, and which words have members.
use Rattle.std.specs.Prelude.{◌≡◌, ◌≢◌, ℕ, ◌/◌, ◌%◌, ◌<◌, List, length, slice_index, Bool, if◌then◌else◌}
use Rattle.std.specs.Int.{bit_at}
use Rattle.content_repo.specs.declared.slot_set.TheConstants.{SLOTS, WORD_SIZE, WORDS, GROUPS}

-- 1 where a slot is a member, 0 where it is none
abbrev pub has : List ℕ → ℕ → ℕ
has words slot = bit_at (slice_index words (slot / WORD_SIZE)) (slot % WORD_SIZE)

abbrev pub bit_of : Bool → ℕ
bit_of b = if b then 1 else 0

-- the least member
pub record IsLeast (words : List ℕ) (slot : ℕ) : Type 0 where
  pub within : slot < SLOTS
  pub member : has words slot ≡ 1
  pub first : (other : ℕ) → other < slot → has words other ≡ 0

-- no other bit than this one changes, and no other word than that of the bit
pub record IsChangedAt (place : ℕ) (old new : List ℕ) : Type 0 where
  pub size : length new ≡ length old
  pub words : (word : ℕ) → word ≢ place / WORD_SIZE → slice_index new word ≡ slice_index old word
  pub others : (other : ℕ) → other ≢ place → has new other ≡ has old other

-- the first bit of a word
pub record IsFirstOf (words : List ℕ) (word place : ℕ) : Type 0 where
  pub at : place / WORD_SIZE ≡ word
  pub member : has words place ≡ 1
  pub first : (other : ℕ) → other / WORD_SIZE ≡ word → other < place → has words other ≡ 0

-- the marks tell which words have members
pub record AreMarked (words marks : List ℕ) : Type 0 where
  pub clear : (word : ℕ) → has marks word ≡ 0 → slice_index words word ≡ 0
  pub unmarked : (word : ℕ) → slice_index words word ≡ 0 → has marks word ≡ 0

-- three levels, of which each but the first marks the one before
pub record AreLevels (words groups top : List ℕ) : Type 0 where
  pub words_length : length words ≡ WORDS
  pub groups_length : length groups ≡ GROUPS
  pub top_length : length top ≡ 1
  pub lower : AreMarked words groups
  pub upper : AreMarked groups top
