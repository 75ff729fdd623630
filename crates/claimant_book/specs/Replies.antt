-- What each answer of a book says of the view before and after the call.
use Rattle.std.specs.Prelude.{◌≡◌, ◌≢◌, ℕ, ◌+◌, ◌<◌, ◌≤◌, ◌++◌, ◌∷◌, [], Bool, true, false}
use Rattle.claimant_book.specs.Stages.{word_stage, word_count, live_stage, retired_stage, IsLiveStage, most_held, most_shares}
use Rattle.claimant_book.specs.Views.{spot_of, holds_of, seen_by, view_with, looked, HoldsAndSeesSame}
use Rattle.claimant_book.specs.declared.view.View.{View}
use Rattle.claimant_book.specs.declared.reply.Take.{Take}
use Rattle.claimant_book.specs.declared.reply.Take.TheVariants.{Held, Full, Gone, Contended}
use Rattle.claimant_book.specs.declared.reply.Retire.{Retire}
use Rattle.claimant_book.specs.declared.reply.Retire.TheVariants.{Retired as SlotRetired, Claimed}
use Rattle.claimant_book.specs.declared.reply.ShareError.{ShareError}
use Rattle.claimant_book.specs.declared.reply.ShareError.TheVariants.{TooMany, Memory}
use Rattle.claimant_book.specs.declared.reply.Stage.{Stage}
use Rattle.claimant_book.specs.declared.reply.Stage.TheVariants.{Unused, Live, Retired}

-- too many exactly where as many are out as may be; nothing changes
abbrev pub IsRefusedShare : View → ShareError → View → Type 0
IsRefusedShare v TooMany w = (v.out ≡ most_shares) × (w ≡ v)
IsRefusedShare v Memory w = (v.out < most_shares) × (w ≡ v)

abbrev pub IsStageNumber : Stage → ℕ → Type 0
IsStageNumber Unused stage = stage ≡ 0
IsStageNumber (Live generation) stage = (0 < generation) × (stage ≡ live_stage generation)
IsStageNumber (Retired generation) stage = (0 < generation) × (stage ≡ retired_stage generation)

abbrev pub stage_number : Bool → ℕ → ℕ
stage_number true generation = retired_stage generation
stage_number false generation = live_stage generation

-- Held: the slot was found live in this generation, and is held once more. Full: nothing was tried. Gone: the word
-- found is in the stage named, which is past this generation.
-- Contended: two words of the slot were found that differ
abbrev pub IsTake : ℕ → ℕ → View → Take → View → Type 0
IsTake slot generation v Held w =
    (holds_of v slot < most_held)
    × ((word : ℕ) × (word_stage word ≡ live_stage generation)
    × (w ≡ view_with (looked v slot word) slot (holds_of (looked v slot word) slot + 1) (word_stage word)))
IsTake slot generation v Full w = (holds_of v slot ≡ most_held) × (w ≡ v)
IsTake slot generation v (Gone later retired) w =
    (holds_of v slot < most_held)
    × ((word : ℕ) × (w ≡ looked v slot word) × (word_stage word ≡ stage_number retired later)
    × (live_stage generation < word_stage word))
IsTake slot generation v (Contended seen found) w = (holds_of v slot < most_held)
    × (w ≡ looked (looked v slot seen) slot found) × (found ≢ seen) × (seen_by v slot ≤ word_stage found)

abbrev pub is_contended_take : Take → Bool
is_contended_take Held = false
is_contended_take Full = false
is_contended_take (Gone later retired) = false
is_contended_take (Contended seen found) = true

abbrev pub SameElsewhere : ℕ → View → View → Type 0
SameElsewhere slot v w = (other : ℕ) → other ≢ slot → spot_of w other ≡ spot_of v other

-- the same after any number of tries, and never Contended
abbrev pub IsTaken : ℕ → ℕ → View → Take → View → Type 0
IsTaken slot generation v Held w = SameElsewhere slot v w × (holds_of w slot ≡ holds_of v slot + 1)
    × (seen_by w slot ≡ live_stage generation)
IsTaken slot generation v Full w = SameElsewhere slot v w × (holds_of w slot ≡ holds_of v slot)
    × (holds_of v slot ≡ most_held)
IsTaken slot generation v (Gone later retired) w =
    SameElsewhere slot v w × (holds_of w slot ≡ holds_of v slot) × (seen_by w slot ≡ stage_number retired later)
    × (live_stage generation < seen_by w slot)
IsTaken slot generation v (Contended seen found) w = ⊥

-- Retired: no other view holds the slot. Claimed: the slot's live word was found, with the base hold and others; a
-- share is out
abbrev pub IsRetire : ℕ → View → Retire → View → Type 0
IsRetire slot v SlotRetired w = w ≡ view_with v slot 0 (seen_by v slot + 1)
IsRetire slot v (Claimed others) w =
    (0 < others) × (0 < v.out)
    × ((word : ℕ) × (w ≡ looked v slot word) × (word_stage word ≡ seen_by v slot) × (word_count word ≡ 1 + others))

-- the view has found a word of the slot, in the stage that it has seen now
abbrev pub HasFound : ℕ → View → View → Type 0
HasFound slot v w = (word : ℕ) × (word_stage word ≡ seen_by w slot)
    × (w.finds ≡ v.finds ++ record { slot = slot; word = word } ∷ [])

-- A share and the keeper, before and after they met at a slot: each has seen what the other had seen of it. Where the
-- share holds the slot, it is live in that generation by the keeper's view. Nobody holds more or less, the keeper has
-- seen no other stage, and the share none that is earlier or of a slot that it holds
pub record IsMet (slot : ℕ) (share keeper share' keeper' : View) : Type 0 where
  pub reached : seen_by keeper slot ≤ seen_by share' slot
  pub learned : seen_by share slot ≤ seen_by keeper' slot
  pub live : 0 < holds_of share slot → (seen_by keeper' slot ≡ seen_by share' slot) × IsLiveStage (seen_by keeper' slot)
  pub keeper_same : HoldsAndSeesSame keeper keeper'
  pub holds_same : (other : ℕ) → holds_of share' other ≡ holds_of share other
  pub held_same : (other : ℕ) → 0 < holds_of share other → seen_by share' other ≡ seen_by share other
  pub no_earlier : (other : ℕ) → seen_by share other ≤ seen_by share' other
  pub share_found : HasFound slot share share'
  pub keeper_found : HasFound slot keeper keeper'
