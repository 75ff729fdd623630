-- How the past of a disk in memory goes on.
use Rattle.std.proofs.Common.{◌≡◌, ℕ, ◌+◌, ◌^◌, ◌<◌, ◌≤◌, true, false, leb, List, [], ◌∷◌, ◌++◌, length, get_or, take, refl, sym, ◌∙◌, ap, subst, ⊎_elim, arith}
use Rattle.std.specs.List.{count_by}
use Rattle.std.proofs.lemmas.Bool.{cases_lt, lt-leb}
use Rattle.std.proofs.lemmas.List.{take_all, take-append-le, length_push, get_or_append_left, get_or_push}
use Rattle.std.proofs.lemmas.List.Elements.{All-weaker, All-push}
use Rattle.std.proofs.lemmas.List.Sums.{count_by-le-length, sum_by-append}
use Rattle.disk_trait.specs.declared.file_name.FileName.{FileName}
use Rattle.disk_trait.specs.declared.memory.call.DiskCall.{DiskCall}
use Rattle.disk_trait.specs.declared.memory.call.DiskCall.TheVariants.{Sync}
use Rattle.disk_trait.specs.declared.memory.table.FileTable.{FileTable}
use Rattle.disk_trait.specs.Files.{Files}
use Rattle.disk_trait.specs.Images.{Since}
use Rattle.disk_trait.specs.Memory.{FileState, durable, after_call, fits, state_after, IsImage}
use Rattle.disk_trait.specs.MemoryTable.{bytes_of, first_of, has_file}
use Rattle.disk_trait.specs.MemoryHeld.{count_all, until_all}
use Rattle.disk_trait.specs.MemoryPast.{Past, IsPast, file_after, calls_until, file_at, left_at}

-- ---- how many calls came up to a moment

count_push : (k n : ℕ) (ts : List ℕ) → k < n → count_by (λ t. leb t k) (ts ++ n ∷ []) ≡ count_by (λ t. leb t k) ts
count_push k n ts later = sum_by-append _ ts (n ∷ []) ∙ rw (lt-leb n k later) (omega arith)

pub until_le : (p : Past) (k : ℕ) → IsPast p → calls_until p k ≤ length p.calls
unfolding calls_until
until_le p k past = omega (arith, count_by-le-length (λ t. leb t k) p.moments, past.paired)

-- ---- a moment passes

abbrev pub passed_to : Past → ℕ → Past
passed_to p n = record { table = p.table; calls = p.calls; moments = p.moments; now = n }

pub is_past_passed : (p : Past) (n : ℕ) → p.now ≤ n → IsPast p → IsPast (passed_to p n)
unfolding file_after
is_past_passed p n late past = record {
  paired = past.paired;
  passed = All-weaker (λ t. t ≤ p.now) (λ t. t ≤ n) (λ t h. omega (arith, h, late)) p.moments past.passed;
  made = past.made;
  inside = past.inside;
  sound = past.sound;
  absent = past.absent;
  ends = past.ends;
}

pub left_late : (p : Past) (k j : ℕ) (c : Files) → IsPast p → p.now ≤ k → p.now ≤ j → left_at p k c → left_at p j c
unfolding left_at
left_late p k j c past a b left = λ f. subst (λ n. IsImage (file_after p n f) (c f)) (until_all p k past a ∙ sym (until_all p j past b)) (left f)

pub since_passed : (p : Past) (n : ℕ) → p.now ≤ n → IsPast p → Since (λ past. past.now) left_at p (passed_to p n) (left_at p p.now)
unfolding left_at calls_until file_after
since_passed p n late past = record {
  later = late;
  begun = late;
  past = λ k c le left. left;
  kept = λ k c le left. left;
  each = λ k c from to left. left_late p k p.now c past from (omega arith) left;
}

-- ---- a call is recorded

abbrev pub pushed : Past → FileTable → DiskCall → ℕ → Past
pushed p u call n = record { table = u; calls = p.calls ++ call ∷ []; moments = p.moments ++ n ∷ []; now = n }

-- a file as it is now
abbrev pub last : Past → FileName → FileState
last p f = file_after p (length p.calls) f

pub state_after-push : (f : FileName) (s : FileState) (calls : List DiskCall) (call : DiskCall) → state_after f s (calls ++ call ∷ []) ≡ after_call f call (state_after f s calls)
state_after-push f s [] call = refl
state_after-push f s (c ∷ calls) call = state_after-push f (after_call f c s) calls call

module _ (p : Past) (u : FileTable) (call : DiskCall) (n : ℕ) (first : (f : FileName) → first_of u f ≡ first_of p.table f) where
  file_before : (m : ℕ) (f : FileName) → m ≤ length p.calls → file_after (pushed p u call n) m f ≡ file_after p m f
  unfolding file_after
  file_before m f le =
      ap (λ bytes. state_after f (durable bytes) (take m (p.calls ++ call ∷ []))) (first f) ∙ ap (λ calls. state_after f (durable (first_of p.table f)) calls) (take-append-le m p.calls (call ∷ []) le)

  file_last : (m : ℕ) (f : FileName) → length p.calls < m → file_after (pushed p u call n) m f ≡ after_call f call (last p f)
  unfolding file_after
  file_last m f lt =
      let all : take m (p.calls ++ call ∷ []) ≡ p.calls ++ call ∷ [] = take_all m (p.calls ++ call ∷ []) (omega (arith, length_push p.calls call)) in
      let those : take (length p.calls) p.calls ≡ p.calls = take_all (length p.calls) p.calls (omega arith) in
      ap (λ bytes. state_after f (durable bytes) (take m (p.calls ++ call ∷ []))) (first f)
      ∙ ap (λ calls. state_after f (durable (first_of p.table f)) calls) all
      ∙ state_after-push f (durable (first_of p.table f)) p.calls call
      ∙ ap (λ calls. after_call f call (state_after f (durable (first_of p.table f)) calls)) (sym those)

  pub is_past_pushed : IsPast p → p.now ≤ n → ((f : FileName) → bytes_of u f ≡ (after_call f call (last p f)).held)
      → ((f : FileName) → fits f call (last p f) ≡ true)
      → ((f : FileName) → IsImage (after_call f call (last p f)) (after_call f call (last p f)).held)
      → ((f : FileName) → has_file u f ≡ false → has_file p.table f ≡ false)
      → ((f : FileName) → has_file u f ≡ false → ((after_call f call (last p f)).held ≡ []) × ((after_call f call (last p f)).synced ≡ []))
      → ((f : FileName) → 2 ^ 64 ≤ f.number → (after_call f call (last p f)).greatest ≡ 0)
      → IsPast (pushed p u call n)
  is_past_pushed past late made fit sound had absent ends = record {
    paired = length_push p.moments n ∙ ap (λ m. m + 1) past.paired ∙ sym (length_push p.calls call);
    passed = All-push (λ t. t ≤ n) p.moments n (All-weaker (λ t. t ≤ p.now) (λ t. t ≤ n) (λ t h. omega (arith, h, late)) p.moments past.passed) (omega arith);
    made = λ f. made f ∙ ap (λ (s : FileState). s.held) (sym (file_last (length (p.calls ++ call ∷ [])) f (omega (arith, length_push p.calls call))));
    inside = λ m f lt. ⊎_elim
        (λ (before : m < length p.calls).
        subst (λ c. fits f c (file_after (pushed p u call n) m f) ≡ true) (sym (get_or_append_left p.calls (call ∷ []) Sync m before))
        (subst (λ s. fits f (get_or p.calls m Sync) s ≡ true) (sym (file_before m f (omega (arith, before)))) (past.inside m f before)))
        (λ (at : length p.calls ≤ m).
        let here : length p.calls ≡ m = omega (arith, length_push p.calls call, lt) in
        subst (λ c. fits f c (file_after (pushed p u call n) m f) ≡ true) (sym (get_or_push p.calls call Sync m here))
        (subst (λ k. fits f call (file_after (pushed p u call n) k f) ≡ true) here
        (subst (λ s. fits f call s ≡ true) (sym (file_before (length p.calls) f (omega arith))) (fit f))))
        (cases_lt m (length p.calls));
    sound = λ m f. ⊎_elim
        (λ (lt : length p.calls < m). subst (λ (s : FileState). IsImage s s.held) (sym (file_last m f lt)) (sound f))
        (λ (le : m ≤ length p.calls). subst (λ (s : FileState). IsImage s s.held) (sym (file_before m f le)) (past.sound m f))
        (cases_lt (length p.calls) m);
    absent = λ m f none. ⊎_elim
        (λ (lt : length p.calls < m). subst (λ (s : FileState). (s.held ≡ []) × (s.synced ≡ [])) (sym (file_last m f lt)) (absent f none))
        (λ (le : m ≤ length p.calls). subst (λ (s : FileState). (s.held ≡ []) × (s.synced ≡ [])) (sym (file_before m f le)) (past.absent m f (had f none)))
        (cases_lt (length p.calls) m);
    ends = λ m f big. ⊎_elim
        (λ (lt : length p.calls < m). subst (λ (s : FileState). s.greatest ≡ 0) (sym (file_last m f lt)) (ends f big))
        (λ (le : m ≤ length p.calls). subst (λ (s : FileState). s.greatest ≡ 0) (sym (file_before m f le)) (past.ends m f big))
        (cases_lt (length p.calls) m);
  }

  until_pushed : (k : ℕ) → k < n → calls_until (pushed p u call n) k ≡ calls_until p k
  unfolding calls_until
  until_pushed k lt = count_push k n p.moments lt

  file_at_before : (k : ℕ) (f : FileName) → IsPast p → k < n → file_at (pushed p u call n) k f ≡ file_at p k f
  file_at_before k f past lt =
      ap (λ m. file_after (pushed p u call n) m f) (until_pushed k lt) ∙ file_before (calls_until p k) f (until_le p k past)

  until_last : IsPast p → p.now < n → calls_until (pushed p u call n) n ≡ length p.calls + 1
  unfolding calls_until
  until_last past lt =
      count_all n (p.moments ++ n ∷ []) (All-push (λ t. t ≤ n) p.moments n (All-weaker (λ t. t ≤ p.now) (λ t. t ≤ n) (λ t h. omega (arith, h, lt)) p.moments past.passed) (omega arith))
      ∙ length_push p.moments n ∙ ap (λ m. m + 1) past.paired

  left_before : (k : ℕ) (c : Files) → IsPast p → k < n → left_at (pushed p u call n) k c → left_at p k c
  unfolding left_at
  left_before k c past lt left = λ f. subst (λ s. IsImage s (c f)) (file_at_before k f past lt) (left f)

  left_before_back : (k : ℕ) (c : Files) → IsPast p → k < n → left_at p k c → left_at (pushed p u call n) k c
  unfolding left_at
  left_before_back k c past lt left = λ f. subst (λ s. IsImage s (c f)) (sym (file_at_before k f past lt)) (left f)

  pub left_last : (c : Files) → IsPast p → p.now < n → left_at (pushed p u call n) n c → (f : FileName) → IsImage (after_call f call (last p f)) (c f)
  unfolding left_at
  left_last c past lt left = λ f. subst (λ s. IsImage s (c f)) (ap (λ m. file_after (pushed p u call n) m f) (until_last past lt) ∙ file_last (length p.calls + 1) f (omega arith)) (left f)

  pub since_pushed : IsPast p → n ≡ p.now + 1 → (Q : Files → Type 0) → ((c : Files) → left_at p p.now c → Q c)
      → ((c : Files) → ((f : FileName) → IsImage (after_call f call (last p f)) (c f)) → Q c)
      → Since (λ past. past.now) left_at p (pushed p u call n) Q
  since_pushed past next Q stays steps = record {
    later = omega arith;
    begun = omega arith;
    past = λ k c le left. left_before k c past (omega arith) left;
    kept = λ k c le left. left_before_back k c past (omega arith) left;
    each = λ k c from to left. ⊎_elim
        (λ (lt : k < n). stays c (subst (λ j. left_at p j c) (omega arith) (left_before k c past lt left)))
        (λ (ge : n ≤ k). steps c (left_last c past (omega arith) (subst (λ j. left_at (pushed p u call n) j c) (omega arith) left)))
        (cases_lt k n);
  }

-- ---- a call comes to nothing, and leaves the same bytes under each name

abbrev pub kept_to : Past → FileTable → ℕ → Past
kept_to p u n = record { table = u; calls = p.calls; moments = p.moments; now = n }

module _ (p : Past) (u : FileTable) (n : ℕ) (past : IsPast p) (late : p.now ≤ n) (first : (f : FileName) → first_of u f ≡ first_of p.table f) where
  file_kept : (m : ℕ) (f : FileName) → file_after (kept_to p u n) m f ≡ file_after p m f
  unfolding file_after
  file_kept m f = ap (λ bytes. state_after f (durable bytes) (take m p.calls)) (first f)

  pub is_past_kept : ((f : FileName) → bytes_of u f ≡ bytes_of p.table f) → ((f : FileName) → has_file u f ≡ false → has_file p.table f ≡ false) → IsPast (kept_to p u n)
  is_past_kept same had = record {
    paired = past.paired;
    passed = All-weaker (λ t. t ≤ p.now) (λ t. t ≤ n) (λ t h. omega (arith, h, late)) p.moments past.passed;
    made = λ f. same f ∙ past.made f ∙ ap (λ (s : FileState). s.held) (sym (file_kept (length p.calls) f));
    inside = λ m f lt. subst (λ s. fits f (get_or p.calls m Sync) s ≡ true) (sym (file_kept m f)) (past.inside m f lt);
    sound = λ m f. subst (λ (s : FileState). IsImage s s.held) (sym (file_kept m f)) (past.sound m f);
    absent = λ m f none. subst (λ (s : FileState). (s.held ≡ []) × (s.synced ≡ [])) (sym (file_kept m f)) (past.absent m f (had f none));
    ends = λ m f big. subst (λ (s : FileState). s.greatest ≡ 0) (sym (file_kept m f)) (past.ends m f big);
  }

  left_kept : (k : ℕ) (c : Files) → left_at (kept_to p u n) k c → left_at p k c
  unfolding left_at calls_until
  left_kept k c left = λ f. subst (λ s. IsImage s (c f)) (file_kept (calls_until p k) f) (left f)

  left_kept_back : (k : ℕ) (c : Files) → left_at p k c → left_at (kept_to p u n) k c
  unfolding left_at calls_until
  left_kept_back k c left = λ f. subst (λ s. IsImage s (c f)) (sym (file_kept (calls_until p k) f)) (left f)

  pub since_kept : (Q : Files → Type 0) → ((c : Files) → left_at p p.now c → Q c) → Since (λ past. past.now) left_at p (kept_to p u n) Q
  since_kept Q stays = record {
    later = late;
    begun = late;
    past = λ k c le left. left_kept k c left;
    kept = λ k c le left. left_kept_back k c left;
    each = λ k c from to left. stays c (left_late p k p.now c past from (omega arith) (left_kept k c left));
  }
