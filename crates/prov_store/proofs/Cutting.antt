-- Files of events are cut, one behind the other.
use Rattle.std.proofs.Common.{◌≡◌, ◌≢◌, ◌⊎◌, inl, inr, ⊎_elim, ℕ, ◌+◌, ◌≤◌, ◌<◌, Bool, IsTrue, List, [], length, get_or, take, refl, sym, ap, subst, ◌∙◌, arith}
use Rattle.std.specs.Prelude.{All, Contains}
use Rattle.std.proofs.lemmas.Bool.{cases_lt, cases_eq}
use Rattle.std.proofs.lemmas.List.{length-take, take-take, get_or_default}
use Rattle.disk_trait.specs.Files.{Files, At, Shortened}
use Rattle.disk_trait.specs.Images.{After, Since}
use Rattle.disk_trait.specs.declared.file_name.FileKind.TheVariants.{Events}
use Rattle.disk_trait.specs.declared.file_name.FileName.{FileName}
use Rattle.disk_trait.proofs.Moments.{wider, wider_where_left, step_after_step}
use Rattle.prov_store.specs.Events.{events_file, covered_bytes, covered_size}
use Rattle.prov_store.specs.State.{EventsState, HasEvents, HasStale, EventsAreReady, CutsStale}
use Rattle.prov_store.specs.declared.events.Stale.{Stale}
use Rattle.prov_store.proofs.InFiles.{size_fits}
use Rattle.prov_store.proofs.Keeping.{stale_files, is_stale_or_not, stale_at, is_listed, still_has, cuts_keep}

-- entries of one file have one size
abbrev pub SameSizes : List Stale → Stale → Type 0
SameSizes stale s = All (λ t. t.file ≡ s.file → t.size ≡ s.size) stale

other_file : (f : FileName) (k : ℕ) → f.kind ≢ Events → f ≢ events_file k
other_file f k other same = other (ap (λ (g : FileName). g.kind) same)

other_number : (j k : ℕ) → j ≢ k → events_file j ≢ events_file k
other_number j k other same = other (ap (λ (g : FileName). g.number) same)

shortened_on : (n : ℕ) (a b c : List ℕ) → Shortened n a b → Shortened n b c → Shortened n a c
shortened_on n a b c first second = record {
  front = second.front ∙ first.front;
  no_shorter = omega (arith, first.no_shorter, second.no_shorter);
  no_longer = omega (arith, first.no_longer, second.no_longer);
}

-- one cut more
pub cuts_on : (stale : List Stale) (s : Stale) (d e c : Files) → Contains (stale_files stale) s.file → SameSizes stale s → CutsStale stale d e
    → At (events_file s.file) (Shortened s.size) e c → CutsStale stale d c
cuts_on stale s d e c listed sizes cuts at = record {
  others = λ f other. at.others f (other_file f s.file other) ∙ cuts.others f other;
  rest = λ k unlisted.
      at.others (events_file k) (other_number k s.file (λ same. unlisted (subst (Contains (stale_files stale)) (sym same) listed))) ∙ cuts.rest k unlisted;
  cut = λ i t lt. each (get_or stale i t) (cuts.cut i t lt) (sizes i t lt);
}
  where
    each : (t : Stale) → Shortened t.size (d (events_file t.file)) (e (events_file t.file)) → (t.file ≡ s.file → t.size ≡ s.size)
        → Shortened t.size (d (events_file t.file)) (c (events_file t.file))
    each t before size = elim (cases_eq t.file s.file) [
      | inl same ↦
          let here : Shortened t.size (e (events_file t.file)) (c (events_file t.file)) =
          subst (λ (k : ℕ). Shortened t.size (e (events_file k)) (c (events_file k))) (sym same)
          (subst (λ (n : ℕ). Shortened n (e (events_file s.file)) (c (events_file s.file))) (sym (size same)) at.here) in
          shortened_on t.size (d (events_file t.file)) (e (events_file t.file)) (c (events_file t.file)) before here
      | inr other ↦
          subst (λ (l : List ℕ). Shortened t.size (d (events_file t.file)) l) (sym (at.others (events_file t.file) (other_number t.file s.file other))) before
    ]

pub cuts_nothing : (stale : List Stale) (d : Files) → CutsStale stale d d
cuts_nothing stale d = record {
  others = λ f other. refl;
  rest = λ k unlisted. refl;
  cut = λ i t lt. record { front = refl; no_shorter = omega arith; no_longer = omega arith };
}

module _ {D : Type 0} (tells : Bool) (moment : D → ℕ) (images : D → ℕ → Files → Type 0) (told : (disk : D) (k : ℕ) (c : Files) → images disk k c → IsTrue tells) where
  -- one cut more, wherever a stop comes
  pub cuts_left : (stale : List Stale) (s : Stale) (old mid new : D) → Contains (stale_files stale) s.file → (IsTrue tells → SameSizes stale s)
      → Since moment images old mid (After (CutsStale stale) (images old (moment old)))
      → Since moment images mid new (After (At (events_file s.file) (Shortened s.size)) (images mid (moment mid)))
      → Since moment images old new (After (CutsStale stale) (images old (moment old)))
  cuts_left stale s old mid new listed sizes first second =
      let before = images old (moment old) in
      let Told : Files → Files → Type 0 = λ d c. IsTrue tells → CutsStale stale d c in
      let first_told : Since moment images old mid (After Told before) =
      wider moment images old mid (After (CutsStale stale) before) (After Told before) first (λ c after. (after.0, after.1, λ t. after.2)) in
      let both = step_after_step moment images old mid new Told (At (events_file s.file) (Shortened s.size)) Told before first_told second
      (λ d c r. r) (λ d e c r at t. cuts_on stale s d e c listed (sizes t) (r t) at) in
      wider_where_left moment images old new (After Told before) (After (CutsStale stale) before) both
      (λ k c left after. (after.0, after.1, after.2 (told new k c left)))

-- ---- what is held

-- so many of the files are cut
pub record CutSoFar (done : ℕ) (stale : List Stale) (old new : Files) : Type 0 where
  pub others : (f : FileName) → f.kind ≢ Events → new f ≡ old f
  pub rest : (k : ℕ) → (Contains (stale_files stale) k → ⊥) → new (events_file k) ≡ old (events_file k)
  pub each : All (λ s. (new (events_file s.file) ≡ old (events_file s.file)) ⊎ (new (events_file s.file) ≡ take s.size (old (events_file s.file)))) stale
  pub cut : (j : ℕ) (d : Stale) → j < done → j < length stale
      → new (events_file (get_or stale j d).file) ≡ take (get_or stale j d).size (old (events_file (get_or stale j d).file))

pub none_cut : (stale : List Stale) (files : Files) → CutSoFar 0 stale files files
none_cut stale files = record {
  others = λ f other. refl;
  rest = λ k unlisted. refl;
  each = λ i t lt. inl refl;
  cut = λ i d lt within. absurd (omega (arith, lt));
}

twice : (n : ℕ) (l m : List ℕ) → (m ≡ l) ⊎ (m ≡ take n l) → take n m ≡ take n l
twice n l m (inl same) = ap (take n) same
twice n l m (inr cut) = ap (take n) cut ∙ take-take n n l (omega arith)

pub cut_more : (i : ℕ) (stale : List Stale) (s : Stale) (old mid new : Files) → i < length stale → get_or stale i s ≡ s → SameSizes stale s
    → CutSoFar i stale old mid → At (events_file s.file) (λ a b. b ≡ take s.size a) mid new → CutSoFar (i + 1) stale old new
cut_more i stale s old mid new within is sizes so_far at = record {
  others = λ f other. at.others f (other_file f s.file other) ∙ so_far.others f other;
  rest = λ k unlisted.
      at.others (events_file k) (other_number k s.file (λ same. unlisted (subst (Contains (stale_files stale)) (sym same) (is_listed stale i s within is)))) ∙ so_far.rest k unlisted;
  each = λ j t lt. each_now (get_or stale j t) (so_far.each j t lt) (sizes j t lt);
  cut = λ j d lt there. elim (cases_lt j i) [
    | inl earlier ↦ cut_now (get_or stale j d) (so_far.cut j d earlier there) (sizes j d there)
    | inr late ↦
        let same : j ≡ i = omega (arith, lt, late) in
        let one : get_or stale j d ≡ s = ap (λ (n : ℕ). get_or stale n d) same ∙ get_or_default stale i d s within ∙ is in
        subst (λ (t : Stale). new (events_file t.file) ≡ take t.size (old (events_file t.file))) (sym one) here
  ];
}
  where
    before : (mid (events_file s.file) ≡ old (events_file s.file)) ⊎ (mid (events_file s.file) ≡ take s.size (old (events_file s.file)))
    before = subst (λ (t : Stale). (mid (events_file t.file) ≡ old (events_file t.file)) ⊎ (mid (events_file t.file) ≡ take t.size (old (events_file t.file)))) is (so_far.each i s within)

    here : new (events_file s.file) ≡ take s.size (old (events_file s.file))
    here = at.here ∙ twice s.size (old (events_file s.file)) (mid (events_file s.file)) before

    now_cut : (t : Stale) → t.file ≡ s.file → t.size ≡ s.size → new (events_file t.file) ≡ take t.size (old (events_file t.file))
    now_cut t same size =
        ap (λ (k : ℕ). new (events_file k)) same ∙ here ∙ ap (λ (k : ℕ). take s.size (old (events_file k))) (sym same) ∙ ap (λ (n : ℕ). take n (old (events_file t.file))) (sym size)

    cut_now : (t : Stale) → mid (events_file t.file) ≡ take t.size (old (events_file t.file)) → (t.file ≡ s.file → t.size ≡ s.size)
        → new (events_file t.file) ≡ take t.size (old (events_file t.file))
    cut_now t was size = elim (cases_eq t.file s.file) [
      | inl same ↦ now_cut t same (size same)
      | inr other ↦ at.others (events_file t.file) (other_number t.file s.file other) ∙ was
    ]

    each_now : (t : Stale) → (mid (events_file t.file) ≡ old (events_file t.file)) ⊎ (mid (events_file t.file) ≡ take t.size (old (events_file t.file)))
        → (t.file ≡ s.file → t.size ≡ s.size)
        → (new (events_file t.file) ≡ old (events_file t.file)) ⊎ (new (events_file t.file) ≡ take t.size (old (events_file t.file)))
    each_now t was size = elim (cases_eq t.file s.file) [
      | inl same ↦ inr (now_cut t same (size same))
      | inr other ↦
          let stays = at.others (events_file t.file) (other_number t.file s.file other) in
          ⊎_elim (λ (p : mid (events_file t.file) ≡ old (events_file t.file)). inl (stays ∙ p)) (λ (p : mid (events_file t.file) ≡ take t.size (old (events_file t.file))). inr (stays ∙ p)) was
    ]

short_of : (n : ℕ) (l m : List ℕ) → (m ≡ l) ⊎ (m ≡ take n l) → Shortened n l m
short_of n l m (inl same) = subst (Shortened n l) (sym same) (record { front = refl; no_shorter = omega arith; no_longer = omega arith })
short_of n l m (inr cut) = subst (Shortened n l) (sym cut) (record { front = take-take n n l (omega arith); no_shorter = omega (arith, length-take n l); no_longer = omega (arith, length-take n l) })

pub cut_shortens : (done : ℕ) (stale : List Stale) (old new : Files) → CutSoFar done stale old new → CutsStale stale old new
cut_shortens done stale old new so_far = record {
  others = so_far.others;
  rest = so_far.rest;
  cut = λ i t lt. let s = get_or stale i t in short_of s.size (old (events_file s.file)) (new (events_file s.file)) (so_far.each i t lt);
}

-- ---- what is known of the files that are listed

pub same_sizes : (state : EventsState) (files : Files) (s : Stale) (i : ℕ) → HasStale state files → i < length state.stale → get_or state.stale i s ≡ s → SameSizes state.stale s
same_sizes state files s i has within is j t lt same =
    let here : s.size ≡ covered_size state.line state.end s.file files = subst (λ (u : Stale). u.size ≡ covered_size state.line state.end u.file files) is (has.sizes i s within) in
    has.sizes j t lt ∙ ap (λ (k : ℕ). covered_size state.line state.end k files) same ∙ sym here

-- a file that is to be cut is long enough
pub long_enough : (state : EventsState) (i : ℕ) (s : Stale) (old mid : Files) → HasEvents state old → HasStale state old → i < length state.stale → get_or state.stale i s ≡ s
    → CutSoFar i state.stale old mid → s.size ≤ length (mid (events_file s.file))
long_enough state i s old mid has stale within is so_far =
    let here : s.size ≡ covered_size state.line state.end s.file old = subst (λ (u : Stale). u.size ≡ covered_size state.line state.end u.file old) is (stale.sizes i s within) in
    let fits = size_fits state.line state.end s.file old has.events has.says in
    let was = subst (λ (t : Stale). (mid (events_file t.file) ≡ old (events_file t.file)) ⊎ (mid (events_file t.file) ≡ take t.size (old (events_file t.file)))) is (so_far.each i s within) in
    ⊎_elim
    (λ (p : mid (events_file s.file) ≡ old (events_file s.file)). omega (arith, ap length p, here, fits))
    (λ (p : mid (events_file s.file) ≡ take s.size (old (events_file s.file))). omega (arith, ap length p, length-take s.size (old (events_file s.file)), here, fits))
    was

-- where each is cut, nothing stands behind the events
pub all_cut : (state after : EventsState) (old new : Files) → HasEvents state old → HasStale state old → CutSoFar (length state.stale) state.stale old new
    → after ≡ record state { stale = [] } → EventsAreReady after new
all_cut state after old new has stale cut is =
    let keeps = cuts_keep state old new has stale.sizes (cut_shortens (length state.stale) state.stale old new cut) in
    let kept = still_has state old new keeps.events has in
    subst (λ (s : EventsState). EventsAreReady s new) (sym is) (record {
      has = record { events = kept.events; says = kept.says; offset = kept.offset; counts = kept.counts };
      trimmed = λ k. trimmed k ∙ sym (keeps.events k);
    })
  where
    trimmed : (k : ℕ) → new (events_file k) ≡ covered_bytes state.line state.end k old
    trimmed k = elim (is_stale_or_not state.stale k) [
      | inl listed ↦
          let d : Stale = record { file = k; size = 0 } in
          let at = stale_at state.stale k d listed in
          let s = get_or state.stale at.0 d in
          subst (λ (i : ℕ). new (events_file i) ≡ covered_bytes state.line state.end i old) at.2
          (cut.cut at.0 d at.1 at.1 ∙ ap (λ (n : ℕ). take n (old (events_file s.file))) (stale.sizes at.0 d at.1))
      | inr other ↦ cut.rest k other ∙ stale.others k other
    ]
