-- How what is promised of a stop goes on from call to call.
use Rattle.std.proofs.Common.{◌≡◌, ◌∙◌, ⊎_elim, ℕ, zero, suc, refl, sym, ap, ◌+◌, ◌<◌, ◌≤◌, subst, arith}
use Rattle.std.proofs.lemmas.Bool.{cases_lt}
use Rattle.disk_trait.specs.Files.{Files}
use Rattle.disk_trait.specs.Images.{After, SinceMoment, Since, Stays, next_moment, calls_later}

-- ---- a promise from a moment on

module _ {D : Type 0} (moment : D → ℕ) (images : D → ℕ → Files → Type 0) where
  -- what a stop at the end of a call may leave has P
  pub left_at_the_end : (start : ℕ) (old new : D) (P : ℕ → Files → Type 0) → SinceMoment moment images start old new P
      → (c : Files) → images new (moment new) c → P (moment new) c
  left_at_the_end start old new P since c left = since.each (moment new) c since.begun (omega arith) left

  -- a wider promise, of each moment that it speaks of and of what is left indeed
  pub wider_at_each : (start : ℕ) (old new : D) (P Q : ℕ → Files → Type 0) → SinceMoment moment images start old new P
      → ((k : ℕ) (c : Files) → start ≤ k → k ≤ moment new → images new k c → P k c → Q k c)
      → SinceMoment moment images start old new Q
  wider_at_each start old new P Q since to = record {
    later = since.later;
    begun = since.begun;
    past = since.past;
    kept = since.kept;
    each = λ k c from up left. to k c from up left (since.each k c from up left);
  }

  -- a promise from a later moment on
  pub from_later_on : (start from : ℕ) (old new : D) (P : ℕ → Files → Type 0) → SinceMoment moment images start old new P
      → start ≤ from → from ≤ moment new → SinceMoment moment images from old new P
  from_later_on start from old new P since le reached = record {
    later = since.later;
    begun = reached;
    past = since.past;
    kept = since.kept;
    each = λ k c up_from up left. since.each k c (omega (arith, le, up_from)) up left;
  }

  -- One call after another: the first one's promise holds up to where that of the second begins, at the latest right
  -- behind the first call.
  pub one_part_after_another : (start from : ℕ) (old mid new : D) (P Q R : ℕ → Files → Type 0)
      → SinceMoment moment images start old mid P → SinceMoment moment images from mid new Q → from ≤ moment mid + 1
      → ((k : ℕ) (c : Files) → start ≤ k → k < from → P k c → R k c)
      → ((k : ℕ) (c : Files) → from ≤ k → k ≤ moment new → images new k c → Q k c → R k c)
      → SinceMoment moment images start old new R
  one_part_after_another start from old mid new P Q R first second joined from_first from_second = record {
    later = omega (arith, first.later, second.later);
    begun = omega (arith, first.begun, second.later);
    past = λ k c le left. first.past k c le (second.past k c (omega (arith, first.later)) left);
    kept = λ k c le left. second.kept k c (omega (arith, first.later)) (first.kept k c le left);
    each = λ k c up_from up left.
        ⊎_elim
        (λ (early : k < from). from_first k c up_from early (first.each k c up_from (omega (arith, joined, early)) (second.past k c (omega (arith, joined, early)) left)))
        (λ (late : from ≤ k). from_second k c late up left (second.each k c late up left))
        (cases_lt k from);
  }

  -- a promise that begins where an earlier call has ended, as one call with it
  pub behind_a_call : (start from : ℕ) (old mid new : D) (P Q : ℕ → Files → Type 0)
      → SinceMoment moment images start old mid P → SinceMoment moment images from mid new Q
      → SinceMoment moment images from old new Q
  behind_a_call start from old mid new P Q first second = record {
    later = omega (arith, first.later, second.later);
    begun = second.begun;
    past = λ k c le left. first.past k c le (second.past k c (omega (arith, first.later)) left);
    kept = λ k c le left. second.kept k c (omega (arith, first.later)) (first.kept k c le left);
    each = second.each;
  }

-- ---- a promise from a call's own start on

module _ {D : Type 0} (moment : D → ℕ) (images : D → ℕ → Files → Type 0) where
  -- what a stop at the end of a call may leave has P
  pub at_the_end : (old new : D) (P : Files → Type 0) → Since moment images old new P → (c : Files) → images new (moment new) c → P c
  at_the_end old new P since = left_at_the_end moment images (moment old) old new (λ k. P) since

  -- a wider promise
  pub wider : (old new : D) (P Q : Files → Type 0) → Since moment images old new P → ((c : Files) → P c → Q c) → Since moment images old new Q
  wider old new P Q since to = wider_at_each moment images (moment old) old new (λ k. P) (λ k. Q) since (λ k c from up left. to c)

  -- a wider promise, of what is left indeed
  pub wider_where_left : (old new : D) (P Q : Files → Type 0) → Since moment images old new P → ((k : ℕ) (c : Files) → images new k c → P c → Q c) → Since moment images old new Q
  wider_where_left old new P Q since to = wider_at_each moment images (moment old) old new (λ k. P) (λ k. Q) since (λ k c from up left. to k c left)

  -- nothing was called
  pub nothing : (disk : D) → Since moment images disk disk (images disk (moment disk))
  nothing disk = record {
    later = omega arith;
    begun = omega arith;
    past = λ k c le left. left;
    kept = λ k c le left. left;
    each = λ k c from up left. let same : k ≡ moment disk = omega arith in subst (λ (m : ℕ). images disk m c) same left;
  }

  -- a call that only reads
  pub only_read : (held : D → Files) (old new : D) → Stays held moment images old new → Since moment images old new (images old (moment old))
  only_read held old new stays = record {
    later = omega (arith, stays.time);
    begun = omega (arith, stays.time);
    past = λ k c le left. stays.past k c left;
    kept = λ k c le left. stays.kept k c left;
    each = λ k c from up left. let same : k ≡ moment old = omega (arith, stays.time) in subst (λ (m : ℕ). images old m c) same (stays.past k c left);
  }

  -- one call after another
  pub one_after_another : (old mid new : D) (P Q R : Files → Type 0)
      → Since moment images old mid P → Since moment images mid new Q
      → ((c : Files) → P c → R c) → ((c : Files) → Q c → R c) → Since moment images old new R
  one_after_another old mid new P Q R first second from_first from_second =
      one_part_after_another moment images (moment old) (moment mid) old mid new (λ k. P) (λ k. Q) (λ k. R) first second (omega arith)
      (λ k c from early. from_first c) (λ k c late up left. from_second c)

  -- A step that a call may be stopped in, and then another. The first alone is one of both, since the second may
  -- not have begun.
  pub step_after_step : (old mid new : D) (R S T : Files → Files → Type 0) (before : Files → Type 0)
      → Since moment images old mid (After R before) → Since moment images mid new (After S (images mid (moment mid)))
      → ((d c : Files) → R d c → T d c) → ((d e c : Files) → R d e → S e c → T d c)
      → Since moment images old new (After T before)
  step_after_step old mid new R S T before first second alone both =
      one_after_another old mid new (After R before) (After S (images mid (moment mid))) (After T before) first second
      (λ c after. (after.0, after.1, alone after.0 c after.2))
      (λ c after.
      let middle = at_the_end old mid (After R before) first after.0 after.1 in
      (middle.0, middle.1, both middle.0 after.0 c middle.2 after.2))

  -- a call that changes nothing of what may be left, as a sync, after others
  pub and_syncs : (old mid new : D) (P : Files → Type 0)
      → Since moment images old mid P → Since moment images mid new (images mid (moment mid)) → Since moment images old new P
  and_syncs old mid new P first second =
      one_after_another old mid new P (images mid (moment mid)) P first second (λ c p. p) (λ c left. at_the_end old mid P first c left)

-- ---- how many calls there were

-- so many calls, and then so many more
pub more_calls : (n k m : ℕ) → calls_later k (calls_later n m) ≡ calls_later (n + k) m
more_calls zero k m =
    let same : k ≡ 0 + k = omega arith in
    ap (λ (i : ℕ). calls_later i m) same
more_calls (suc n) k m =
    let more : suc (n + k) ≡ suc n + k = omega arith in
    more_calls n k (next_moment m) ∙ ap (λ (i : ℕ). calls_later i m) more

pub one_call_more : (n m : ℕ) → next_moment (calls_later n m) ≡ calls_later (n + 1) m
one_call_more n m = more_calls n 1 m
