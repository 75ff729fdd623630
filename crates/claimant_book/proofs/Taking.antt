-- Tries that end contended change nothing but what was found.
use Rattle.std.proofs.Common.{◌≡◌, ℕ, ◌+◌, ◌≤◌, true, false, true≢false, refl, sym, ap, ◌∙◌, arith}
use Rattle.claimant_book.specs.Stages.{word_stage, live_stage}
use Rattle.claimant_book.specs.declared.view.Spot.{Spot}
use Rattle.claimant_book.specs.declared.view.View.{View}
use Rattle.claimant_book.specs.declared.reply.Take.{Take}
use Rattle.claimant_book.specs.declared.reply.Take.TheVariants.{Held, Full, Gone, Contended}
use Rattle.claimant_book.specs.Views.{spot_of, holds_of, seen_by, looked}
use Rattle.claimant_book.specs.Replies.{IsTake, IsTaken, SameElsewhere, is_contended_take}
use Rattle.claimant_book.proofs.Tables.{knowing-here, knowing-else, looked-here, looked-else, looked-held}

-- so far nothing was taken, and the generation or a later stage was seen
abbrev pub IsIdle : ℕ → ℕ → View → View → Type 0
IsIdle slot generation v w = SameElsewhere slot v w × (holds_of w slot ≡ holds_of v slot) × (live_stage generation ≤ seen_by w slot)

looked-idle : (slot generation : ℕ) (v0 v w : View) (word : ℕ) → IsIdle slot generation v0 v → w ≡ looked v slot word → SameElsewhere slot v0 w × (holds_of w slot ≡ holds_of v0 slot) × (seen_by w slot ≡ word_stage word)
looked-idle slot generation v0 v w word i is = (
  (λ j ne. ap (λ (x : View). spot_of x j) is ∙ looked-else v slot word j ne ∙ i.0 j ne),
  ap (λ (x : View). holds_of x slot) is ∙ looked-held v slot word slot ∙ i.1,
  ap (λ (x : View). seen_by x slot) is ∙ ap (λ (x : Spot). x.seen) (looked-here v slot word),
)

pub idle-again : (slot generation : ℕ) (v0 v w : View) (answer : Take) → is_contended_take answer ≡ true → IsIdle slot generation v0 v → IsTake slot generation v answer w → IsIdle slot generation v0 w
idle-again slot generation v0 v w Held is i t = absurd (true≢false (sym is))
idle-again slot generation v0 v w Full is i t = absurd (true≢false (sym is))
idle-again slot generation v0 v w (Gone later retired) is i t = absurd (true≢false (sym is))
idle-again slot generation v0 v w (Contended seen found) is i t =
    let one = looked-else v slot seen in
    let two = looked-else (looked v slot seen) slot found in
    let now : seen_by w slot ≡ word_stage found = ap (λ (x : View). seen_by x slot) t.1 ∙ ap (λ (x : Spot). x.seen) (looked-here (looked v slot seen) slot found) in (
      (λ j ne. ap (λ (x : View). spot_of x j) t.1 ∙ two j ne ∙ one j ne ∙ i.0 j ne),
      ap (λ (x : View). holds_of x slot) t.1 ∙ looked-held (looked v slot seen) slot found slot ∙ looked-held v slot seen slot ∙ i.1,
      omega (arith, now, t.3, i.2),
    )

pub taken : (slot generation : ℕ) (v0 v w : View) (answer : Take) → is_contended_take answer ≡ false → IsIdle slot generation v0 v → IsTake slot generation v answer w → IsTaken slot generation v0 answer w
taken slot generation v0 v w Held is i t =
    let word = t.1.0 in
    let v1 : View = looked v slot word in
    let l = looked-idle slot generation v0 v v1 word i refl in
    let now = knowing-here v1 slot (holds_of v1 slot + 1) (word_stage word) in (
      (λ j ne. ap (λ (x : View). spot_of x j) t.1.2 ∙ knowing-else v1 slot (holds_of v1 slot + 1) (word_stage word) j ne ∙ l.0 j ne),
      ap (λ (x : View). holds_of x slot) t.1.2 ∙ ap (λ (x : Spot). x.held) now ∙ ap (λ (n : ℕ). n + 1) l.1,
      ap (λ (x : View). seen_by x slot) t.1.2 ∙ ap (λ (x : Spot). x.seen) now ∙ t.1.1,
    )
taken slot generation v0 v w Full is i t = (
  (λ j ne. ap (λ (x : View). spot_of x j) t.1 ∙ i.0 j ne),
  ap (λ (x : View). holds_of x slot) t.1 ∙ i.1,
  sym i.1 ∙ t.0,
)
taken slot generation v0 v w (Gone later retired) is i t =
    let l = looked-idle slot generation v0 v w t.1.0 i t.1.1 in
    (l.0, l.1, l.2 ∙ t.1.2, omega (arith, l.2, t.1.3))
taken slot generation v0 v w (Contended seen found) is i t = absurd (true≢false is)
