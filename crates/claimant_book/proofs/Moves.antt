-- What the table asks of each kind of step on a word.
use Rattle.std.proofs.Common.{◌≡◌, ◌≢◌, ℕ, ◌+◌, ◌-◌, ◌*◌, ◌/◌, ◌%◌, ◌^◌, ◌<◌, ◌≤◌, Bool, eqb, get_or, refl, sym, ap, ◌∙◌, subst, eq-eqb, ne_eqb, arith}
use Rattle.std.specs.Bool.{MatchBool}
use mathlib.Core.Logic.{dite}
use mathlib.Core.Option.{none, some}
use native.Mathlib.Decide.{ℕ_discrete}
use lib.ListN.{get_elem?}
use prog.Atomic.{either}
use Rattle.atomic_table.specs.Table.{Me, step, Act, keeps, Valid, stepped, carried_after, Allows}
use Rattle.claimant_book.specs.Stages.{word_stage, word_count, IsLiveStage, final_stage, most_held}
use Rattle.claimant_book.specs.declared.view.Role.TheVariants.{Keeping, Sharing}
use Rattle.claimant_book.specs.declared.view.View.{View}
use Rattle.claimant_book.specs.Views.{spot, spot_of, holds_of, seen_by, joined_by, view_with, looked}
use Rattle.claimant_book.specs.Kept.{Fits, IsBookKept}
use Rattle.claimant_book.specs.Steps.{LookTells, looks, takes, gives, adds, begins, retires}
use Rattle.claimant_book.proofs.Fitting.{fits-taken, fits-given, fits-added, fits-seen, fits-based, fits-begun, fits-retired, fits-later}
use Rattle.claimant_book.proofs.Keeping.{St, changed, steady, others_hold_nothing, shows, has-room, look-keeps}

pub look_allowed : (n slots id : ℕ) (me : Me ℕ View) (i : ℕ) → i < n → Allows (IsBookKept n) slots id me i (λ x. x) (looks (step slots i 0 0 none) me)
look_allowed n slots id me i below s k homes at bound =
    (looked me.0 i (get_or s.words i 0), keeps, tt, look-keeps n i id s me.0 k at below, ((refl, shows n i id s me.0 k at), refl))

more-word : (x : ℕ) → x % 4294967296 ≤ 2214592512 → ((x + 1) / 4294967296 ≡ x / 4294967296) × ((x + 1) % 4294967296 ≡ x % 4294967296 + 1)
more-word x h = (omega arith, omega arith)

-- an exchange that may find another word
abbrev Tries : (n i id : ℕ) (s : St) (me : Me ℕ View) (old new : ℕ) (w : View) → Bool → Type 0
Tries n i id s me old new w b = (x : View) × (a : Act ℕ) × Valid s.homes me.1 a × IsBookKept n (stepped s i (either b new (get_or s.words i 0)) id me.1 x a)
    × (MatchBool b (x ≡ w) (LookTells me.0 i (get_or s.words i 0) x) × (carried_after me.1 a ≡ me.1))

tries : (n i id : ℕ) (s : St) (me : Me ℕ View) (old new : ℕ) (w : View) → IsBookKept n s → get_elem? s.views id ≡ some me.0 → i < n
    → (get_or s.words i 0 ≡ old → IsBookKept n (stepped s i new id me.1 w keeps))
    → Tries n i id s me old new w (eqb (get_or s.words i 0) old)
tries n i id s me old new w k at below hit =
    let P : Bool → Type 0 = Tries n i id s me old new w in
    let word : ℕ = get_or s.words i 0 in
    dite (ℕ_discrete word old)
    (λ e. subst P (sym (eq-eqb word old e)) (w, keeps, tt, hit e, (refl, refl)))
    (λ ne. subst P (sym (ne_eqb word old ne)) (looked me.0 i word, keeps, tt, look-keeps n i id s me.0 k at below, ((refl, shows n i id s me.0 k at), refl)))

pub take_allowed : (n slots id : ℕ) (me : Me ℕ View) (i old new : ℕ) → i < n → me.0.role ≡ Sharing → holds_of me.0 i < most_held → IsLiveStage (word_stage old) → new ≡ old + 1
    → Allows (IsBookKept n) slots id me i (λ x. either (eqb x old) new x) (takes (step slots i old new none) me)
take_allowed n slots id me i old new below is few live one s k homes at bound =
    tries n i id s me old new (view_with me.0 i (holds_of me.0 i + 1) (word_stage old)) k at below
    (λ e. let m = more-word (get_or s.words i 0) (has-room n i s k) in let next : new ≡ get_or s.words i 0 + 1 = omega arith in
    steady n i id s me.0 (spot (holds_of me.0 i + 1) (word_stage old) (joined_by me.0 i)) me.0.finds new k at below
    (omega (arith, ap word_count next, m.1))
    (ap word_stage next ∙ m.0)
    (λ _. subst (λ (x : ℕ). IsLiveStage (word_stage x)) (sym e) live)
    (subst (λ (x : ℕ). Fits me.0.role x (spot (holds_of me.0 i + 1) (word_stage old) (joined_by me.0 i))) (ap word_stage (sym e))
    (fits-taken me.0.role (word_stage old) (spot_of me.0 i) is (subst (λ (x : ℕ). Fits me.0.role (word_stage x) (spot_of me.0 i)) e ((k.slot i).fits id me.0 at)) few live)))

less-word : (x : ℕ) → x < 18446744073709551616 → 0 < x % 4294967296
    → ((x + 18446744073709551615) % 18446744073709551616 / 4294967296 ≡ x / 4294967296) × ((x + 18446744073709551615) % 18446744073709551616 % 4294967296 + 1 ≡ x % 4294967296)
less-word x bound pos =
    let y : ℕ = (x + 18446744073709551615) % 18446744073709551616 in
    let less : y + 1 ≡ x = omega arith in
    (omega (arith, less), omega (arith, less))

pub give_allowed : (n slots id : ℕ) (me : Me ℕ View) (i : ℕ) → i < n → 0 < holds_of me.0 i → (me.0.role ≡ Keeping → 1 < holds_of me.0 i)
    → Allows (IsBookKept n) slots id me i (λ x. (x + (2 ^ 64 - 1)) % 2 ^ 64) (gives (step slots i 1 0 none) me)
give_allowed n slots id me i below pos base s k homes at bound =
    let word : ℕ = get_or s.words i 0 in
    let sh = shows n i id s me.0 k at in
    let m = less-word word bound (omega (arith, sh.counted)) in (
      view_with me.0 i (holds_of me.0 i - 1) (seen_by me.0 i),
      keeps,
      tt,
      steady n i id s me.0 (spot (holds_of me.0 i - 1) (seen_by me.0 i) (joined_by me.0 i)) me.0.finds ((word + 18446744073709551615) % 18446744073709551616) k at below
          (omega (arith, m.1)) m.0 (λ _. sh.live (omega (arith, sh.counted))) (fits-given me.0.role (word_stage word) (spot_of me.0 i) sh.fits pos base),
      (refl, refl),
    )

added-word : (x : ℕ) → x / 4294967296 ≤ 4294967294 → x % 4294967296 ≤ 2214592512
    → ((x + 1) % 18446744073709551616 / 4294967296 ≡ x / 4294967296) × ((x + 1) % 18446744073709551616 % 4294967296 ≡ x % 4294967296 + 1)
added-word x ends room =
    let same : (x + 1) % 18446744073709551616 ≡ x + 1 = omega arith in
    (omega (arith, same), omega (arith, same))

pub add_allowed : (n slots id : ℕ) (me : Me ℕ View) (i : ℕ) → i < n → me.0.role ≡ Keeping → seen_by me.0 i % 2 ≡ 1 → holds_of me.0 i < most_held
    → Allows (IsBookKept n) slots id me i (λ x. (x + 1) % 2 ^ 64) (adds (step slots i 1 0 none) me)
add_allowed n slots id me i below is live few s k homes at bound =
    let word : ℕ = get_or s.words i 0 in
    let sh = shows n i id s me.0 k at in
    let pos = fits-based me.0.role (word_stage word) (spot_of me.0 i) is sh.fits live in
    let m = added-word word sh.ends (has-room n i s k) in (
      view_with me.0 i (holds_of me.0 i + 1) (seen_by me.0 i),
      keeps,
      tt,
      steady n i id s me.0 (spot (holds_of me.0 i + 1) (seen_by me.0 i) (joined_by me.0 i)) me.0.finds ((word + 1) % 18446744073709551616) k at below
          (omega (arith, m.1)) m.0 (λ _. sh.live (omega (arith, sh.counted))) (fits-added me.0.role (word_stage word) (spot_of me.0 i) is sh.fits pos few),
      (refl, refl),
    )

-- the others hold nothing, so they fit the next stage
later : (n i id : ℕ) (s : St) (v : View) (m : ℕ) → IsBookKept n s → get_elem? s.views id ≡ some v → v.role ≡ Keeping → word_count (get_or s.words i 0) ≤ holds_of v i
    → word_stage m ≡ word_stage (get_or s.words i 0) + 1
    → (j : ℕ) (u : View) → j ≢ id → get_elem? s.views j ≡ some u → Fits u.role (word_stage m) (spot_of u i)
later n i id s v m k at is le next j u ne e =
    let o = others_hold_nothing n s k id v at is i le j u ne e in
    subst (λ (g : ℕ). Fits u.role g (spot_of u i)) (sym next) (fits-later u.role (word_stage (get_or s.words i 0)) (spot_of u i) o.1 o.0 ((k.slot i).fits j u e))

begun-word : (x : ℕ) → x / 4294967296 < 4294967294 → x % 4294967296 ≡ 0
    → ((x + 4294967297) % 18446744073709551616 / 4294967296 ≡ x / 4294967296 + 1) × ((x + 4294967297) % 18446744073709551616 % 4294967296 ≡ 1)
begun-word x ends idle =
    let same : (x + 4294967297) % 18446744073709551616 ≡ x + 4294967297 = omega arith in
    (omega (arith, same), omega (arith, same))

-- a slot that is not live counts nothing
idle-count : (c g : ℕ) → (0 < c → g % 2 ≡ 1) → g % 2 ≡ 0 → c ≡ 0
idle-count c g live even = dite (ℕ_discrete c 0) (λ e. e) (λ ne. absurd (omega (arith, live (omega arith))))

pub begin_allowed : (n slots id : ℕ) (me : Me ℕ View) (i : ℕ) → i < n → me.0.role ≡ Keeping → seen_by me.0 i % 2 ≡ 0 → seen_by me.0 i < final_stage
    → Allows (IsBookKept n) slots id me i (λ x. (x + 4294967297) % 2 ^ 64) (begins (step slots i 4294967297 0 none) me)
begin_allowed n slots id me i below is even few s k homes at bound =
    let word : ℕ = get_or s.words i 0 in
    let g : ℕ = word / 4294967296 in
    let sh = shows n i id s me.0 k at in
    let seen : seen_by me.0 i ≡ word_stage word = fits-seen me.0.role (word_stage word) (spot_of me.0 i) is sh.fits in
    let idle : word_count word ≡ 0 = idle-count (word_count word) (word_stage word) sh.live (subst (λ (x : ℕ). x % 2 ≡ 0) seen even) in
    let m = begun-word word (omega (arith, seen, few)) idle in
    let new : ℕ = (word + 4294967297) % 18446744073709551616 in (
      view_with me.0 i 1 (seen_by me.0 i + 1),
      keeps,
      tt,
      changed n i id s me.0 (spot 1 (seen_by me.0 i + 1) (joined_by me.0 i)) me.0.finds new k at below
          (omega (arith, m.1, idle, sh.counted))
          (λ _. omega (arith, m.0, seen, even))
          (omega (arith, m.0, seen, few))
          (subst (λ (x : ℕ). Fits me.0.role x (spot 1 (seen_by me.0 i + 1) (joined_by me.0 i))) (sym m.0) (fits-begun me.0.role (word_stage word) (spot_of me.0 i) is sh.fits even))
          (later n i id s me.0 new k at is (omega (arith, idle)) m.0),
      (refl, refl),
    )

next-word : (g : ℕ) → (g * 4294967296 / 4294967296 ≡ g) × (g * 4294967296 % 4294967296 ≡ 0)
next-word g = (omega arith, omega arith)

live-word : (g : ℕ) → ((g * 4294967296 + 1) / 4294967296 ≡ g) × ((g * 4294967296 + 1) % 4294967296 ≡ 1)
live-word g = (omega arith, omega arith)

pub retire_allowed : (n slots id : ℕ) (me : Me ℕ View) (i old new : ℕ) → i < n → me.0.role ≡ Keeping → seen_by me.0 i % 2 ≡ 1 → holds_of me.0 i ≡ 1
    → old ≡ seen_by me.0 i * 4294967296 + 1 → new ≡ (seen_by me.0 i + 1) * 4294967296
    → Allows (IsBookKept n) slots id me i (λ x. either (eqb x old) new x) (retires (step slots i old new none) me)
retire_allowed n slots id me i old new below is odd base old-is new-is s k homes at bound =
    tries n i id s me old new (view_with me.0 i 0 (seen_by me.0 i + 1)) k at below
    (λ e.
    let word : ℕ = get_or s.words i 0 in
    let seen : ℕ = seen_by me.0 i in
    let sh = shows n i id s me.0 k at in
    let was = live-word seen in
    let next = next-word (seen + 1) in
    let stage : word_stage word ≡ seen = ap word_stage (e ∙ old-is) ∙ was.0 in
    let count : word_count word ≡ 1 = ap word_count (e ∙ old-is) ∙ was.1 in
    let stage' : word_stage new ≡ seen + 1 = ap word_stage new-is ∙ next.0 in
    let count' : word_count new ≡ 0 = ap word_count new-is ∙ next.1 in
    let step' : word_stage new ≡ word_stage word + 1 = stage' ∙ ap (λ (x : ℕ). x + 1) (sym stage) in
    changed n i id s me.0 (spot 0 (seen + 1) (joined_by me.0 i)) me.0.finds new k at below
    (omega (arith, count, count', base))
    (λ h. absurd (omega (arith, count', h)))
    (omega (arith, stage, stage', odd, sh.ends))
    (subst (λ (x : ℕ). Fits me.0.role x (spot 0 (seen + 1) (joined_by me.0 i))) (sym step') (fits-retired me.0.role (word_stage word) (spot_of me.0 i) is sh.fits odd))
    (later n i id s me.0 new k at is (omega (arith, count, base)) step'))
