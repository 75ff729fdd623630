-- Why a call refuses, as who asks is told.
use Rattle.std.proofs.Common.{◌≡◌, ℕ, List, Result, Ok, Err, refl, sym, subst, inl, inr}
use Rattle.disk_trait.specs.Files.{Files}
use Rattle.disk_trait.specs.declared.damage.Damage.{Damage as TheDamage}
use Rattle.disk_trait.specs.declared.file_name.Failed.{Failed}
use Rattle.machine_model.specs.State.{State}
use Rattle.flow_report.specs.Writing.{Writes}
use Rattle.store_core.specs.Calls.{IsDiskMemoryOrDamage}
use Rattle.store_core.specs.declared.error.StoreError.{StoreError}
use Rattle.store_core.specs.declared.error.StoreError.TheVariants as store
use Rattle.flow_query.specs.Answers.{Prints, HasBegun, IsBrokenOff, IsQueryAnswer, IsSoundAnswer, StandsForSome}
use Rattle.flow_query.specs.Errors.{of_store}
use Rattle.flow_query.specs.declared.asking.Query.{Query}
use Rattle.flow_query.specs.declared.error.QueryError.{QueryError}
use Rattle.flow_query.specs.declared.error.QueryError.TheVariants.{Absent, Disk, Sink, Damaged, Memory}
use Rattle.flow_query.proofs.Written.{Leaves}

abbrev pub Said : Type 0
Said = Result (Unit {0}) QueryError

abbrev pub err : QueryError → Said
err e = Err e

-- ---- what is left in the sink

-- a front was written, and the rest is left
pub begun : (query : Query) (ids : List (List ℕ)) (state : State) (text rest before after : List ℕ) → Prints query ids state text → Leaves text rest before after → HasBegun query ids state before after
begun query ids state text rest before after prints left = record {
  text = text;
  prints = prints;
  part = left.part;
  front = (rest, left.whole);
  written = left.written;
}

-- a read was refused by an error that is no damage
refused_by : (query : Query) (ids : List (List ℕ)) (state : State) (before after : List ℕ) (e : StoreError) → IsDiskMemoryOrDamage e → ((damage : TheDamage) → e ≡ store.Damaged damage → ⊥)
    → IsBrokenOff query ids state before after → IsQueryAnswer query ids state before after (Err (of_store e))
refused_by query ids state before after e (inl disk) sound broken = subst (λ (x : StoreError). IsQueryAnswer query ids state before after (Err (of_store x))) (sym disk) broken
refused_by query ids state before after e (inr (inl memory)) sound broken = subst (λ (x : StoreError). IsQueryAnswer query ids state before after (Err (of_store x))) (sym memory) broken
refused_by query ids state before after e (inr (inr damaged)) sound broken = absurd (sound damaged.0 damaged.1)

pub refused : (query : Query) (ids : List (List ℕ)) (state : State) (before after : List ℕ) (e : StoreError) (said : Said) → said ≡ Err (of_store e) → IsDiskMemoryOrDamage e
    → ((damage : TheDamage) → e ≡ store.Damaged damage → ⊥) → IsBrokenOff query ids state before after → IsQueryAnswer query ids state before after said
refused query ids state before after e said is refusal sound broken =
    subst (IsQueryAnswer query ids state before after) (sym is) (refused_by query ids state before after e refusal sound broken)

-- the sink failed
pub sink_failed : (query : Query) (ids : List (List ℕ)) (state : State) (text before after : List ℕ) (e : Failed) → Prints query ids state text → Writes text before after (Err e)
    → IsBrokenOff query ids state before after
sink_failed query ids state text before after e prints writes =
    let front = writes.err in
    inr (record { text = text; prints = prints; part = front.0; front = front.1; written = front.2 })

-- ---- of which stores answers come

pub sound_answer : {S : Type 0} (files : Files) (old new : S) (said : Said) → StandsForSome files → ((damage : TheDamage) → said ≡ err (Damaged damage) → ⊥) → IsSoundAnswer files old new said
sound_answer files old new (Ok u) some sound = some
sound_answer files old new (Err Absent) some sound = some
sound_answer files old new (Err Sink) some sound = some
sound_answer files old new (Err (Damaged damage)) some sound = absurd (sound damage refl)
sound_answer files old new (Err Disk) some sound = inl some
sound_answer files old new (Err Memory) some sound = inl some
