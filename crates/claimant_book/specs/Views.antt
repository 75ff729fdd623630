-- What a view says of a slot, and the views that a step leaves.
use Rattle.std.specs.Prelude.{◌≡◌, ℕ, zero, suc, ◌==◌, cond, max, List, [], ◌∷◌, ◌++◌, map, slice_index_or}
use Rattle.claimant_book.specs.Stages.{word_stage}
use Rattle.claimant_book.specs.declared.view.Role.{Role}
use Rattle.claimant_book.specs.declared.view.Role.TheVariants.{Keeping, Sharing, Noting, Spent}
use Rattle.claimant_book.specs.declared.view.Spot.{Spot}
use Rattle.claimant_book.specs.declared.view.View.{View}

abbrev pub spot : ℕ → ℕ → ℕ → Spot
spot held seen joined = record { held = held; seen = seen; joined = joined }

abbrev pub blank_spot : Spot
blank_spot = spot 0 0 0

abbrev pub spot_of : View → ℕ → Spot
spot_of v slot = slice_index_or v.spots slot blank_spot

abbrev pub holds_of : View → ℕ → ℕ
holds_of v slot = (spot_of v slot).held

abbrev pub seen_by : View → ℕ → ℕ
seen_by v slot = (spot_of v slot).seen

abbrev pub joined_by : View → ℕ → ℕ
joined_by v slot = (spot_of v slot).joined

-- the list grows with blank spots up to the slot
abbrev pub with_spot : List Spot → ℕ → Spot → List Spot
with_spot [] zero s = s ∷ []
with_spot [] (suc slot) s = blank_spot ∷ with_spot [] slot s
with_spot (x ∷ xs) zero s = s ∷ xs
with_spot (x ∷ xs) (suc slot) s = x ∷ with_spot xs slot s

-- the view that holds the slot so often, and has seen this stage of it
abbrev pub view_with : View → ℕ → ℕ → ℕ → View
view_with v slot held seen = record {
  role = v.role;
  out = v.out;
  spots = with_spot v.spots slot (spot held seen (joined_by v slot));
  finds = v.finds;
}

-- the view that found this word in the slot
abbrev pub looked : View → ℕ → ℕ → View
looked v slot word = record {
  role = v.role;
  out = v.out;
  spots = with_spot v.spots slot (spot (holds_of v slot) (word_stage word) (joined_by v slot));
  finds = v.finds ++ record { slot = slot; word = word } ∷ [];
}

-- what was seen, and no hold
abbrev pub told_spot : Spot → Spot
told_spot s = spot 0 s.seen 0

-- a note of what a view has seen
abbrev pub note_of : View → View
note_of v = record { role = Noting; out = 0; spots = map told_spot v.spots; finds = [] }

-- a share that has seen what the keeper has seen
abbrev pub share_of : View → View
share_of v = record { role = Sharing; out = 0; spots = map told_spot v.spots; finds = [] }

abbrev pub first_keeper : View
first_keeper = record { role = Keeping; out = 0; spots = []; finds = [] }

abbrev pub counting_out : View → ℕ → View
counting_out v out = record { role = v.role; out = out; spots = v.spots; finds = v.finds }

abbrev pub spent_view : View
spent_view = record { role = Spent; out = 0; spots = []; finds = [] }

abbrev pub paired : (Spot → Spot → Spot) → List Spot → List Spot → List Spot
paired f [] ys = map (f blank_spot) ys
paired f (x ∷ xs) [] = map (λ x. f x blank_spot) (x ∷ xs)
paired f (x ∷ xs) (y ∷ ys) = f x y ∷ paired f xs ys

-- the stages that both have seen, at a join
abbrev pub latest_seen : Spot → Spot → ℕ
latest_seen a b = max (max a.joined a.seen) (max b.joined b.seen)

-- a share sees the later stage of each slot that it doesn't hold; any other view keeps what it has seen
abbrev pub joined_spot : Role → Spot → Spot → Spot
joined_spot Sharing a b = spot a.held (cond (a.held == 0) (max a.seen b.seen) a.seen) (latest_seen a b)
joined_spot Keeping a b = spot a.held a.seen (latest_seen a b)
joined_spot Noting a b = spot a.held a.seen (latest_seen a b)
joined_spot Spent a b = spot a.held a.seen (latest_seen a b)

-- the view that another has joined
abbrev pub joined : View → View → View
joined v w = record { role = v.role; out = v.out; spots = paired (joined_spot v.role) v.spots w.spots; finds = v.finds }

abbrev pub HoldsNothing : View → Type 0
HoldsNothing v = (slot : ℕ) → holds_of v slot ≡ 0

-- all but the finds and what was noted at joins is as before
abbrev pub HoldsAndSeesSame : View → View → Type 0
HoldsAndSeesSame v w = (w.role ≡ v.role) × (w.out ≡ v.out)
    × ((slot : ℕ) → (holds_of w slot ≡ holds_of v slot) × (seen_by w slot ≡ seen_by v slot))
