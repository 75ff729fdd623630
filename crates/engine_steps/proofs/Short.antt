-- How long the log is behind the calls of a store, and where a run ends.
use Rattle.std.proofs.Common.{◌≡◌, inl, inr, ℕ, ◌-◌, ◌^◌, ◌<◌, ◌≤◌, Bool, true, false, List, [], ◌∷◌, length, refl, sym, ◌∙◌, ap, subst, arith}
use Rattle.std.proofs.lemmas.Bool.{ltb-false}
use Rattle.std.specs.Prelude.{Option, Some, min, nat_le, nat_lt, ◌&&◌}
use Rattle.std.specs.Option.{option_map_or}
use Rattle.disk_trait.specs.Files.{Files}
use Rattle.disk_trait.specs.Images.{After, Since}
use Rattle.disk_trait.proofs.Moments.{at_the_end}
use Rattle.flowfile_record.specs.declared.limits.TheConstants.{NUMBER_LIMIT}
use Rattle.content_repo.specs.Claims.{OnClaims}
use Rattle.flowfile_wal.specs.Current.{CurrentLog}
use Rattle.machine_model.specs.Due.{is_checkpoint_due}
use Rattle.store_core.specs.Store.{HasLog, StoreState}
use Rattle.store_core.proofs.Opening.{claims_log}
use Rattle.run_law.specs.Ending.{EndsShort, IsQuietOrBlocked}
use Rattle.run_law.specs.Work.{HasShortLog, IsShortOn}
use Rattle.run_law.specs.declared.ended.Ended.{Ended}
use Rattle.run_law.specs.declared.ended.Ended.TheVariants as ended
use Rattle.engine_steps.specs.Errors.{ended_by}
use Rattle.engine_steps.specs.Ready.{is_log_due}
use Rattle.engine_steps.specs.declared.error.EngineError.{EngineError}
use Rattle.engine_steps.specs.declared.error.EngineError.TheVariants.{Damaged, Disk, Inbox, Outbox, Put, Limit, MustReopen, NoSession, Memory}

-- ---- of files, by what a store has in memory

-- a count that stops at the type's end, against a number of that type
capped : (c l m : ℕ) → c ≤ m → nat_le c (min l m) ≡ nat_le c l
capped c l m fits = grind arith

none_left : {A : Type 0} (es : List A) (m : ℕ) → 0 < m → 0 ≡ min (length es) m → es ≡ []
none_left [] m some is = refl
none_left (e ∷ es) m some is = absurd (omega (arith, some, is))

pub not_due : (checkpoint : ℕ) (s : StoreState) (files : Files) → checkpoint < 2 ^ 64
    → ((number : ℕ) → s.log.number ≡ Some number → false ≡ is_checkpoint_due checkpoint s.entries number)
    → HasLog s files → HasShortLog checkpoint files
not_due checkpoint s files fits not has =
    let log : CurrentLog = has.ready.log in
    let count : s.entries ≡ min (length log.entries) (2 ^ 64 - 1) = has.entries log has.ready.ready.current in
    record {
      log = log;
      current = has.ready.ready.current;
      short =
          inr
          (ap (λ (b : Bool). b && nat_lt log.number (NUMBER_LIMIT - 1))
          (sym (capped checkpoint (length log.entries) (2 ^ 64 - 1) (omega (arith, fits))) ∙ ap (nat_le checkpoint) (sym count))
          ∙ sym (not log.number has.ready.number));
    }

pub just_begun : (checkpoint : ℕ) (s : StoreState) (files : Files) → s.entries ≡ 0 → HasLog s files → HasShortLog checkpoint files
just_begun checkpoint s files none has =
    let log : CurrentLog = has.ready.log in
    record {
      log = log;
      current = has.ready.ready.current;
      short = inl (none_left log.entries (2 ^ 64 - 1) (omega arith) (sym none ∙ has.entries log has.ready.ready.current));
    }

no_entries : (entries : ℕ) → nat_lt 0 entries ≡ false → entries ≡ 0
no_entries entries none = let most : entries ≤ 0 = ltb-false 0 entries none in omega (arith, most)

-- no new log is due
pub no_log_due : (checkpoint : ℕ) (s : StoreState) (files : Files) → checkpoint < 2 ^ 64 → is_log_due checkpoint s ≡ false → HasLog s files → HasShortLog checkpoint files
no_log_due checkpoint s files fits none has = by (nat_lt 0 s.entries) refl none
  where
    by : (b : Bool) → nat_lt 0 s.entries ≡ b → (b && option_map_or (λ number. is_checkpoint_due checkpoint s.entries number) s.log.number false) ≡ false → HasShortLog checkpoint files
    by false empty none = just_begun checkpoint s files (no_entries s.entries empty) has
    by true some none =
        not_due checkpoint s files fits
        (λ number is. sym none ∙ ap (λ (o : Option ℕ). option_map_or (λ number. is_checkpoint_due checkpoint s.entries number) o false) is) has

-- ---- where a run ends

not_quiet : (error : EngineError) → ended_by error ≡ ended.Quiet → ⊥
not_quiet (Damaged damage) is = cc
not_quiet Disk is = cc
not_quiet Inbox is = cc
not_quiet Outbox is = cc
not_quiet Put is = cc
not_quiet (Limit limit) is = cc
not_quiet MustReopen is = cc
not_quiet NoSession is = cc
not_quiet Memory is = cc

not_blocked : (error : EngineError) (place : ℕ) → ended_by error ≡ ended.Blocked place → ⊥
not_blocked (Damaged damage) place is = cc
not_blocked Disk place is = cc
not_blocked Inbox place is = cc
not_blocked Outbox place is = cc
not_blocked Put place is = cc
not_blocked (Limit limit) place is = cc
not_blocked MustReopen place is = cc
not_blocked NoSession place is = cc
not_blocked Memory place is = cc

pub no_rest : (error : EngineError) (end : Ended) → end ≡ ended_by error → IsQuietOrBlocked end → ⊥
no_rest error end is (inl quiet) = not_quiet error (sym is ∙ quiet)
no_rest error end is (inr blocked) = not_blocked error blocked.0 (sym is ∙ blocked.1)

-- ---- of a disk

module _ {D : Type 0} (moment : D → ℕ) (images : D → ℕ → Files → Type 0) where
  -- calls that change claims alone leave it
  pub still_short : (step : ℕ → List ℕ → List ℕ → Type 0) (old new : D) → Since moment images old new (After (OnClaims step) (images old (moment old)))
      → (checkpoint : ℕ) → IsShortOn moment images checkpoint old → IsShortOn moment images checkpoint new
  still_short step old new since checkpoint short c left =
      let after = at_the_end moment images old new (After (OnClaims step) (images old (moment old))) since c left in
      let was : HasShortLog checkpoint after.0 = short after.0 after.1 in
      record { log = was.log; current = claims_log after.0 c step after.2 ∙ was.current; short = was.short }

  pub ends_by_error : (checkpoint : ℕ) (error : EngineError) (end : Ended) (new : D) → end ≡ ended_by error → EndsShort moment images checkpoint end new
  ends_by_error checkpoint error end new is rest = absurd (no_rest error end is rest)

  pub ends_short : (checkpoint other : ℕ) (end : Ended) (old new : D) → other ≡ checkpoint → IsShortOn moment images other old
      → ((n : ℕ) → IsShortOn moment images n old → IsShortOn moment images n new) → EndsShort moment images checkpoint end new
  ends_short checkpoint other end old new is short stays so = subst (λ (n : ℕ). IsShortOn moment images n new) is (stays other short)
