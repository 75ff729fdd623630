-- What each kind of step tells its caller.
use Rattle.std.specs.Prelude.{◌≡◌, ℕ, ◌+◌, ◌-◌, ◌<◌, ◌≤◌, ◌==◌}
use Rattle.std.specs.Bool.{MatchBool}
use Rattle.atomic_table.specs.Table.{Step, Me}
use Rattle.claimant_book.specs.Stages.{word_stage, word_count, IsLiveStage, final_stage}
use Rattle.claimant_book.specs.Views.{spot_of, holds_of, seen_by, view_with, looked}
use Rattle.claimant_book.specs.Kept.{Fits}
use Rattle.claimant_book.specs.declared.view.Role.TheVariants.{Keeping}
use Rattle.claimant_book.specs.declared.view.View.{View}

-- what a word that is found shows of the view that finds it
pub record WordShows (v : View) (slot : ℕ) (word : ℕ) : Type 0 where
  pub fits : Fits v.role (word_stage word) (spot_of v slot)
  pub counted : holds_of v slot ≤ word_count word
  pub live : 0 < word_count word → IsLiveStage (word_stage word)
  pub ends : word_stage word ≤ final_stage
  pub alone : v.role ≡ Keeping → v.out ≡ 0 → word_count word ≡ holds_of v slot

abbrev pub LookTells : View → ℕ → ℕ → View → Type 0
LookTells v slot word w = (w ≡ looked v slot word) × WordShows v slot word

-- one hold more where the word was found, else a look
abbrev pub TakeTells : View → ℕ → ℕ → ℕ → View → Type 0
TakeTells v slot expected word w = MatchBool (word == expected) (w ≡ view_with v slot (holds_of v slot + 1) (word_stage expected)) (LookTells v slot word w)

-- the next stage and no hold where the word was found, else a look
abbrev pub RetireTells : View → ℕ → ℕ → ℕ → View → Type 0
RetireTells v slot expected word w = MatchBool (word == expected) (w ≡ view_with v slot 0 (seen_by v slot + 1)) (LookTells v slot word w)

module _ (s : Step ℕ) (me : Me ℕ View) (word : ℕ) (after : Me ℕ View) where
  abbrev pub looks : Type 0
  looks = LookTells me.0 s.word word after.0 × (after.1 ≡ me.1)

  abbrev pub takes : Type 0
  takes = TakeTells me.0 s.word s.first word after.0 × (after.1 ≡ me.1)

  abbrev pub gives : Type 0
  gives = (after.0 ≡ view_with me.0 s.word (holds_of me.0 s.word - 1) (seen_by me.0 s.word)) × (after.1 ≡ me.1)

  abbrev pub adds : Type 0
  adds = (after.0 ≡ view_with me.0 s.word (holds_of me.0 s.word + 1) (seen_by me.0 s.word)) × (after.1 ≡ me.1)

  abbrev pub begins : Type 0
  begins = (after.0 ≡ view_with me.0 s.word 1 (seen_by me.0 s.word + 1)) × (after.1 ≡ me.1)

  abbrev pub retires : Type 0
  retires = RetireTells me.0 s.word s.first word after.0 × (after.1 ≡ me.1)
