-- The rule of the book, which holds between any two steps of any threads.
use Rattle.std.specs.Prelude.{◌≡◌, ℕ, ◌+◌, ◌<◌, ◌≤◌, List, [], ◌∷◌, length, slice_index}
use mathlib.Core.Option.{some}
use lib.ListN.{get_elem?}
use Rattle.atomic_table.specs.Table.{State}
use Rattle.claimant_book.specs.Stages.{word_stage, word_count, IsLiveStage, final_stage, most_held, most_shares}
use Rattle.claimant_book.specs.Views.{spot_of, holds_of}
use Rattle.claimant_book.specs.declared.view.Role.{Role}
use Rattle.claimant_book.specs.declared.view.Role.TheVariants.{Keeping, Sharing, Noting, Spent}
use Rattle.claimant_book.specs.declared.view.Spot.{Spot}
use Rattle.claimant_book.specs.declared.view.View.{View}

-- What a view of this role knows of a slot in this stage. None has seen a later stage; the keeper has seen just this
-- one, and holds the slot exactly where it is live;
-- where a share holds the slot, it is live and the share has seen so
abbrev pub Fits : Role → ℕ → Spot → Type 0
Fits Keeping stage s = (s.seen ≡ stage) × (s.joined ≤ stage) × (s.held ≤ most_held) × (IsLiveStage stage → 0 < s.held)
    × (0 < s.held → IsLiveStage stage)
Fits Sharing stage s = (s.seen ≤ stage) × (s.joined ≤ stage) × (s.held ≤ most_held)
    × (0 < s.held → (s.seen ≡ stage) × IsLiveStage stage)
Fits Noting stage s = (s.seen ≤ stage) × (s.joined ≤ stage) × (s.held ≡ 0)
Fits Spent stage s = s.held ≡ 0

abbrev pub total_over : (View → ℕ) → List View → ℕ
total_over f [] = 0
total_over f (v ∷ vs) = f v + total_over f vs

-- the word's count is the sum of all holds; a slot that is held is live; its stage is within the last generation;
-- each view fits it
pub record IsSlotKept (word : ℕ) (slot : ℕ) (views : List View) : Type 0 where
  pub count : word_count word ≡ total_over (λ v. holds_of v slot) views
  pub live : 0 < word_count word → IsLiveStage (word_stage word)
  pub ends : word_stage word ≤ final_stage
  pub fits : (id : ℕ) (v : View) → get_elem? views id ≡ some v → Fits v.role (word_stage word) (spot_of v slot)

abbrev pub one_if_keeping : Role → ℕ
one_if_keeping Keeping = 1
one_if_keeping Sharing = 0
one_if_keeping Noting = 0
one_if_keeping Spent = 0

abbrev pub one_if_sharing : Role → ℕ
one_if_sharing Keeping = 0
one_if_sharing Sharing = 1
one_if_sharing Noting = 0
one_if_sharing Spent = 0

abbrev pub shares_among : List View → ℕ
shares_among views = total_over (λ v. one_if_sharing v.role) views

-- one view keeps, and counts the shares that are out
pub record AreRolesKept (views : List View) : Type 0 where
  pub one : total_over (λ v. one_if_keeping v.role) views ≡ 1
  pub few : shares_among views ≤ most_shares
  pub out : (id : ℕ) (v : View) → get_elem? views id ≡ some v → v.role ≡ Keeping → v.out ≡ shares_among views

pub record IsBookKept (slots : ℕ) (s : State ℕ View) : Type 0 where
  pub wide : length s.words ≡ slots
  pub roles : AreRolesKept s.views
  pub slot : (i : ℕ) → IsSlotKept (slice_index s.words i) i s.views

-- where a slot's word counts no more than the keeper holds, no other view holds the slot, and none keeps
abbrev pub OthersHoldNothing : Type 0
OthersHoldNothing = (slots : ℕ) (s : State ℕ View) → IsBookKept slots s
    → (id : ℕ) (v : View) → get_elem? s.views id ≡ some v → v.role ≡ Keeping
    → (i : ℕ) → word_count (slice_index s.words i) ≤ holds_of v i
    → (other : ℕ) (w : View) → ¬ (other ≡ id) → get_elem? s.views other ≡ some w → (holds_of w i ≡ 0)
    × ¬ (w.role ≡ Keeping)
