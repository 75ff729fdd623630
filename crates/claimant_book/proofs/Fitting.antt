-- A spot that fits a stage fits it, or the next one, after each kind of change.
use Rattle.std.proofs.Common.{◌≡◌, ℕ, ◌+◌, ◌-◌, ◌*◌, ◌%◌, ◌<◌, ◌≤◌, Bool, true, false, cond, eqb, ne_eqb, max, refl, sym, ap, ◌∙◌, arith}
use Rattle.std.proofs.Math.Nat.{max-le, le-max_left, le-max_right, le_trans}
use Rattle.claimant_book.specs.Stages.{IsLiveStage, most_held}
use Rattle.claimant_book.specs.declared.view.Role.{Role}
use Rattle.claimant_book.specs.declared.view.Role.TheVariants.{Keeping, Sharing, Noting, Spent}
use Rattle.claimant_book.specs.declared.view.Spot.{Spot}
use Rattle.claimant_book.specs.Views.{spot, latest_seen, joined_spot}
use Rattle.claimant_book.specs.Kept.{Fits, one_if_keeping, one_if_sharing}

pub fits-looked : (r : Role) (g : ℕ) (s : Spot) → Fits r g s → Fits r g (spot s.held g s.joined)
fits-looked Keeping g s f = (refl, f.1, f.2, f.3, f.4)
fits-looked Sharing g s f = (omega arith, f.1, f.2, λ h. (refl, (f.3 h).1))
fits-looked Noting g s f = (omega arith, f.1, f.2)
fits-looked Spent g s f = f

pub fits-taken : (r : Role) (g : ℕ) (s : Spot) → r ≡ Sharing → Fits r g s → s.held < most_held → IsLiveStage g → Fits r g (spot (s.held + 1) g s.joined)
fits-taken Keeping g s is f few live = absurd (omega (arith, ap one_if_sharing is))
fits-taken Sharing g s is f few live = (omega arith, f.1, omega arith, λ h. (refl, live))
fits-taken Noting g s is f few live = absurd (omega (arith, ap one_if_sharing is))
fits-taken Spent g s is f few live = absurd (omega (arith, ap one_if_sharing is))

pub fits-given : (r : Role) (g : ℕ) (s : Spot) → Fits r g s → 0 < s.held → (r ≡ Keeping → 1 < s.held) → Fits r g (spot (s.held - 1) s.seen s.joined)
fits-given Keeping g s f pos base = let two = base refl in let most = f.2 in (f.0, f.1, omega arith, (λ _. omega arith), λ _. f.4 pos)
fits-given Sharing g s f pos base = let most = f.2 in (f.0, f.1, omega arith, λ _. f.3 pos)
fits-given Noting g s f pos base = absurd (omega (arith, f.2))
fits-given Spent g s f pos base = absurd (omega arith)

pub fits-added : (r : Role) (g : ℕ) (s : Spot) → r ≡ Keeping → Fits r g s → 0 < s.held → s.held < most_held → Fits r g (spot (s.held + 1) s.seen s.joined)
fits-added Keeping g s is f pos few = (f.0, f.1, omega arith, (λ _. omega arith), λ _. f.4 pos)
fits-added Sharing g s is f pos few = absurd (omega (arith, ap one_if_keeping is))
fits-added Noting g s is f pos few = absurd (omega (arith, ap one_if_keeping is))
fits-added Spent g s is f pos few = absurd (omega (arith, ap one_if_keeping is))

-- the keeper has seen the word's stage
pub fits-seen : (r : Role) (g : ℕ) (s : Spot) → r ≡ Keeping → Fits r g s → s.seen ≡ g
fits-seen Keeping g s is f = f.0
fits-seen Sharing g s is f = absurd (omega (arith, ap one_if_keeping is))
fits-seen Noting g s is f = absurd (omega (arith, ap one_if_keeping is))
fits-seen Spent g s is f = absurd (omega (arith, ap one_if_keeping is))

-- where it has seen the slot live, it holds it
pub fits-based : (r : Role) (g : ℕ) (s : Spot) → r ≡ Keeping → Fits r g s → s.seen % 2 ≡ 1 → 0 < s.held
fits-based Keeping g s is f odd = f.3 (ap (λ (x : ℕ). x % 2) (sym f.0) ∙ odd)
fits-based Sharing g s is f odd = absurd (omega (arith, ap one_if_keeping is))
fits-based Noting g s is f odd = absurd (omega (arith, ap one_if_keeping is))
fits-based Spent g s is f odd = absurd (omega (arith, ap one_if_keeping is))

-- it begins the next stage, live, with one hold
pub fits-begun : (r : Role) (g : ℕ) (s : Spot) → r ≡ Keeping → Fits r g s → s.seen % 2 ≡ 0 → Fits r (g + 1) (spot 1 (s.seen + 1) s.joined)
fits-begun Keeping g s is f even = let seen = f.0 in let past = f.1 in let odd : (g + 1) % 2 ≡ 1 = omega arith in (omega arith, omega arith, omega arith, (λ _. omega arith), λ _. odd)
fits-begun Sharing g s is f even = absurd (omega (arith, ap one_if_keeping is))
fits-begun Noting g s is f even = absurd (omega (arith, ap one_if_keeping is))
fits-begun Spent g s is f even = absurd (omega (arith, ap one_if_keeping is))

-- or the next stage, retired, with none
pub fits-retired : (r : Role) (g : ℕ) (s : Spot) → r ≡ Keeping → Fits r g s → s.seen % 2 ≡ 1 → Fits r (g + 1) (spot 0 (s.seen + 1) s.joined)
fits-retired Keeping g s is f odd = let seen = f.0 in let past = f.1 in (omega arith, omega arith, omega arith, (λ h. absurd (omega arith)), λ h. absurd (omega arith))
fits-retired Sharing g s is f odd = absurd (omega (arith, ap one_if_keeping is))
fits-retired Noting g s is f odd = absurd (omega (arith, ap one_if_keeping is))
fits-retired Spent g s is f odd = absurd (omega (arith, ap one_if_keeping is))

-- a view that holds nothing fits the next stage
pub fits-later : (r : Role) (g : ℕ) (s : Spot) → ¬ (r ≡ Keeping) → s.held ≡ 0 → Fits r g s → Fits r (g + 1) s
fits-later Keeping g s n none f = absurd (n refl)
fits-later Sharing g s n none f = let seen = f.0 in let past = f.1 in (omega arith, omega arith, f.2, λ h. absurd (omega arith))
fits-later Noting g s n none f = let seen = f.0 in let past = f.1 in (omega arith, omega arith, f.2)
fits-later Spent g s n none f = f

pub held-most : (r : Role) (g : ℕ) (s : Spot) → Fits r g s → s.held ≤ 67108864 * (one_if_keeping r + one_if_sharing r)
held-most Keeping g s f = f.2
held-most Sharing g s f = f.2
held-most Noting g s f = omega (arith, f.2)
held-most Spent g s f = omega arith

-- a note or a spent view
pub idle-holds-nothing : (r : Role) (g : ℕ) (s : Spot) → one_if_keeping r ≡ 0 → one_if_sharing r ≡ 0 → Fits r g s → s.held ≡ 0
idle-holds-nothing r g s a b f = omega (arith, held-most r g s f)

pub seen-most : (r : Role) (g : ℕ) (s : Spot) → ¬ (r ≡ Spent) → Fits r g s → (s.seen ≤ g) × (s.joined ≤ g)
seen-most Keeping g s n f = let seen = f.0 in (omega arith, f.1)
seen-most Sharing g s n f = (f.0, f.1)
seen-most Noting g s n f = (f.0, f.1)
seen-most Spent g s n f = absurd (n refl)

cond-le : (b : Bool) (x y g : ℕ) → x ≤ g → y ≤ g → cond b x y ≤ g
cond-le true x y g p q = p
cond-le false x y g p q = q

latest-le : (g : ℕ) (a b : Spot) → a.joined ≤ g → a.seen ≤ g → b.joined ≤ g → b.seen ≤ g → latest_seen a b ≤ g
latest-le g a b p q s t = max-le (max-le p q) (max-le s t)

pub joined-fits : (r : Role) (g : ℕ) (a b : Spot) → Fits r g a → b.seen ≤ g → b.joined ≤ g → Fits r g (joined_spot r a b)
joined-fits Keeping g a b f p q = let seen = f.0 in (f.0, latest-le g a b f.1 (omega arith) q p, f.2, f.3, f.4)
joined-fits Sharing g a b f p q = (
  cond-le (eqb a.held 0) (max a.seen b.seen) a.seen g (max-le f.0 p) f.0,
  latest-le g a b f.1 f.0 q p,
  f.2,
  λ h. (ap (λ c. cond c (max a.seen b.seen) a.seen) (ne_eqb a.held 0 (λ z. omega arith)) ∙ (f.3 h).0, (f.3 h).1),
)
joined-fits Noting g a b f p q = (f.0, latest-le g a b f.1 f.0 q p, f.2)
joined-fits Spent g a b f p q = f

latest-both : (a b : Spot) → (a.seen ≤ latest_seen a b) × (b.seen ≤ latest_seen a b)
latest-both a b =
    let p = le-max_right a.joined a.seen in
    let q = le-max_right b.joined b.seen in
    let s = le-max_left (max a.joined a.seen) (max b.joined b.seen) in
    let t = le-max_right (max a.joined a.seen) (max b.joined b.seen) in
    (le_trans p s, le_trans q t)

-- what both had seen at a join is noted
pub latest-old : (r : Role) (a b : Spot) → (a.seen ≤ (joined_spot r a b).joined) × (b.seen ≤ (joined_spot r a b).joined)
latest-old Keeping a b = latest-both a b
latest-old Sharing a b = latest-both a b
latest-old Noting a b = latest-both a b
latest-old Spent a b = latest-both a b
