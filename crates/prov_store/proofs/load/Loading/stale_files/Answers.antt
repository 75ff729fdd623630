use Rattle.std.proofs.Common.{◌≡◌, ℕ, ◌/◌, ◌<◌, ◌^◌, ◌++◌, inl, inr, List, [], IsTrue, length, slice_index, sym, ap, subst, ◌∙◌, arith}
use Rattle.std.specs.Prelude.{All, Contains}
use Rattle.std.proofs.lemmas.Bool.{cases_lt}
use Rattle.std.proofs.lemmas.List.{get_or_default, nil_from_length}
use Rattle.prov_store.specs.Events.{events_file}
use Rattle.flowfile_record.specs.declared.limits.TheConstants.{EVENTS_PER_FILE}
use Rattle.prov_store.specs.Loading.{AreFileNumbers, files_before, files_later, loaded_state}
use Rattle.prov_store.specs.State.{AreLonger, HasStale}
use Rattle.prov_store.specs.declared.events.Stale.{Stale}
use Rattle.prov_store.proofs.Listing.{all_longer}
use Rattle.prov_store.proofs.Loaded.{has_stale}
use Rattle.prov_store.proofs.load.Loading.stale_files.Given.{Over}
use Rattle.prov_store.proofs.load.Loading.stale_files.Goals as goal

-- what the disk listed
numbers_are : (g : Over) (c : goal.After-drop-numbers-2 g) → AreFileNumbers g.D.Disk.tells (g.D.Disk.held c.args.disk.now) c.files.new.list.items
numbers_are g c = record { ascending = c.files.ensures.ascending; filled = filled; all = all }
  where
    items : List ℕ
    items = c.files.new.list.items

    filled : IsTrue g.D.Disk.tells → All (λ k. 0 < length (g.D.Disk.held c.args.disk.now (events_file k))) items
    filled told i d lt =
        let n = slice_index items i in
        let same = get_or_default items i d 0 lt in
        let some = (c.in_ok-files.ensures.listed told n (c.files.ensures.below i 0 lt)).0 (i, lt, get_or_default items i n 0 lt) in
        subst (λ (k : ℕ). 0 < length (g.D.Disk.held c.args.disk.now (events_file k))) (sym same) some

    all : IsTrue g.D.Disk.tells → (k : ℕ) → (Contains items k → ⊥) → g.D.Disk.held c.args.disk.now (events_file k) ≡ []
    all told k not =
        let laws = g.met.D.Disk g.world.𝓛 g.world.𝓜 g.world.𝓡 ((λ s x. x), (λ x. x), (λ x. x), λ x. x) in
        let files = g.D.Disk.held c.args.disk.now in
        elim (cases_lt k (2 ^ 64)) [
          | inl below ↦ elim (cases_lt 0 (length (files (events_file k)))) [
            | inl some ↦ absurd (not ((c.in_ok-files.ensures.listed told k below).1 some))
            | inr none ↦ nil_from_length (files (events_file k)) (omega (arith, none))
          ]
          | inr past_all ↦ laws.images_end c.args.disk.now (g.D.Disk.moment c.args.disk.now) files (events_file k) (laws.held_is_left c.args.disk.now told) past_all
        ]

-- the list that is given
list_is : (g : Over) (c : goal.After-drop-numbers-2 g)
    → c.add_later.new.stale.items
    ≡ (files_before (c.args.self.now.line / EVENTS_PER_FILE) c.files.new.list.items ++ c.args.self.now.stale.items) ++ files_later (c.args.self.now.end / EVENTS_PER_FILE) c.files.new.list.items
list_is g c =
    let first = c.args.self.now.line / EVENTS_PER_FILE in
    let last = c.args.self.now.end / EVENTS_PER_FILE in
    let before : c.add_before.new.stale.items ≡ files_before first c.files.new.list.items =
    c.in_ok-add_before.ensures ∙ ap (λ (l : List Stale). l ++ files_before first c.deref.result.now) c.new-stale.ensures.items ∙ ap (files_before first) c.deref.ensures.value in
    c.in_ok-add_later.ensures ∙ ap (λ (l : List Stale). l ++ files_later last c.deref-3.result.now) c.in_ok-extend_from_slice.ensures.items
    ∙ ap (λ (l : List Stale). (l ++ c.deref-2.result.now) ++ files_later last c.deref-3.result.now) before
    ∙ ap (λ (l : List Stale). (files_before first c.files.new.list.items ++ l) ++ files_later last c.deref-3.result.now) c.deref-2.ensures.value
    ∙ ap (λ (l : List ℕ). (files_before first c.files.new.list.items ++ c.args.self.now.stale.items) ++ files_later last l) c.deref-3.ensures.value

pub returns-clause-longer : goal.returns-clause-longer
returns-clause-longer g c =
    let self = c.args.self.now in
    subst (AreLonger g.D.Disk.tells (g.D.Disk.held c.args.disk.now)) (sym (list_is g c))
    (all_longer g.D.Disk.tells (g.D.Disk.held c.args.disk.now) (self.line / EVENTS_PER_FILE) (self.end / EVENTS_PER_FILE) c.files.new.list.items self.stale.items (numbers_are g c)
    (omega (arith, c.requires.line.within)) c.requires.read.listed)

pub returns-clause-stale : goal.returns-clause-stale
returns-clause-stale g c told =
    subst (λ (l : List Stale). HasStale (loaded_state c.args.self.now l) (g.D.Disk.held c.args.disk.now)) (sym (list_is g c))
    (has_stale g.D.Disk.tells (g.D.Disk.held c.args.disk.now) c.args.self.now c.requires.read.loaded told c.files.new.list.items (numbers_are g c) c.requires.line)
