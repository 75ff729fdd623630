-- That putting files into a queue by their arrivals leaves what stays of it, each file in its place.
use Rattle.std.proofs.Common.{◌≡◌, ◌≢◌, ◌⊎◌, inl, inr, ℕ, ◌<◌, ◌≤◌, Bool, true, false, cond, List, [], ◌∷◌, ◌++◌, refl, sym, ap, ◌∙◌, arith}
use Rattle.std.specs.Prelude.{◌==◌, not, nat_lt, filter, fold}
use Rattle.std.specs.List.{flat_map}
use Rattle.std.proofs.lemmas.Bool.{cases_eq, ne_eqb, eq-eqb, lt-ltb, le-ltb}
use Rattle.machine_model.specs.Changing.{with_arrival}
use Rattle.machine_model.specs.State.{QueuedFile}
use Rattle.machine_model.proofs.Tally.{Each}

-- files put into a queue, one after the other
abbrev pub put_all : List QueuedFile → List QueuedFile → List QueuedFile
put_all queue files = fold with_arrival queue files

-- arrivals from one on
abbrev pub From : ℕ → List QueuedFile → Type 0
From low files = Each (λ file. low < file.arrival) files

-- each file arrives behind all before it
abbrev pub Rising : List QueuedFile → Type 0
Rising [] = Unit {0}
Rising (file ∷ files) = From file.arrival files × Rising files

from_lower : (low high : ℕ) (files : List QueuedFile) → low ≤ high → From high files → From low files
from_lower low high [] le h = tt
from_lower low high (file ∷ files) le h = (omega (arith, h.0), from_lower low high files le h.1)

from_filter : (low : ℕ) (p : QueuedFile → Bool) (files : List QueuedFile) → From low files → From low (filter p files)
from_filter low p [] h = tt
from_filter low p (file ∷ files) h =
    elim (p file) as (λ b. From low (cond b (file ∷ filter p files) (filter p files))) [
      | true ↦ (h.0, from_filter low p files h.1)
      | false ↦ from_filter low p files h.1
    ]

put_later : (file other : QueuedFile) (queue : List QueuedFile) → other.arrival < file.arrival → with_arrival (other ∷ queue) file ≡ other ∷ with_arrival queue file
put_later file other queue h = let yes : nat_lt other.arrival file.arrival ≡ true = lt-ltb other.arrival file.arrival h in rw yes refl

put_before : (file other : QueuedFile) (queue : List QueuedFile) → file.arrival < other.arrival → with_arrival (other ∷ queue) file ≡ file ∷ other ∷ queue
put_before file other queue h = let no : nat_lt other.arrival file.arrival ≡ false = le-ltb other.arrival file.arrival (omega arith) in rw no refl

-- before all
put_first : (file : QueuedFile) (queue : List QueuedFile) → From file.arrival queue → with_arrival queue file ≡ file ∷ queue
put_first file [] h = refl
put_first file (other ∷ queue) h = put_before file other queue h.0

-- behind all
pub put_last : (file : QueuedFile) (queue : List QueuedFile) → Each (λ other. other.arrival < file.arrival) queue → with_arrival queue file ≡ queue ++ file ∷ []
put_last file [] h = refl
put_last file (other ∷ queue) h = put_later file other queue h.0 ∙ ap (λ rest. other ∷ rest) (put_last file queue h.1)

put_from : (low : ℕ) (file : QueuedFile) (queue : List QueuedFile) → low < file.arrival → From low queue → From low (with_arrival queue file)
put_from low file [] l h = (l, tt)
put_from low file (other ∷ queue) l h =
    elim (nat_lt other.arrival file.arrival) as (λ b. From low (cond b (other ∷ with_arrival queue file) (file ∷ other ∷ queue))) [
      | true ↦ (h.0, put_from low file queue l h.1)
      | false ↦ (l, (h.0, h.1))
    ]

-- a first one stays the first
put_all_behind : (first : QueuedFile) (queue files : List QueuedFile) → From first.arrival files → put_all (first ∷ queue) files ≡ first ∷ put_all queue files
put_all_behind first queue [] h = refl
put_all_behind first queue (file ∷ files) h =
    ap (λ put. put_all put files) (put_later file first queue h.0) ∙ put_all_behind first (with_arrival queue file) files h.1

abbrev pub others : ℕ → List QueuedFile → List QueuedFile
others number files = filter (λ file. not (file.number == number)) files

abbrev pub these : ℕ → List QueuedFile → List QueuedFile
these number files = filter (λ file. file.number == number) files

abbrev with_other : (b : Bool) → QueuedFile → List QueuedFile → List QueuedFile
with_other b file files = cond (not b) (file ∷ files) files

-- where none has the number, all others are all
none_these : (number : ℕ) (files : List QueuedFile) → these number files ≡ [] → others number files ≡ files
none_these number [] h = refl
none_these number (file ∷ files) h =
    elim (file.number == number) as (λ b. cond b (file ∷ these number files) (these number files) ≡ [] → with_other b file (others number files) ≡ file ∷ files) [
      | true ↦ λ h. cc
      | false ↦ λ h. ap (λ rest. file ∷ rest) (none_these number files h)
    ] h

-- the one file of a number that goes before all others comes first
take_first : (number : ℕ) (first : QueuedFile) (queue files : List QueuedFile) → these number files ≡ first ∷ [] → From first.arrival queue
    → From first.arrival (others number files) → put_all queue files ≡ first ∷ put_all queue (others number files)
take_first number first queue [] only behind later = cc
take_first number first queue (file ∷ files) only behind later =
    elim (file.number == number) as (λ b. cond b (file ∷ these number files) (these number files) ≡ first ∷ [] → From first.arrival (with_other b file (others number files))
    → put_all (with_arrival queue file) files ≡ first ∷ put_all queue (with_other b file (others number files))) [
      | true ↦ λ only later.
          let same : file ≡ first = cc in
          let none : these number files ≡ [] = cc in
          let rest = none_these number files none in
          ap (λ put. put_all put files) (ap (with_arrival queue) same ∙ put_first first queue behind)
          ∙ put_all_behind first queue files (rw rest at later)
          ∙ ap (λ more. first ∷ put_all queue more) (sym rest)
      | false ↦ λ only later. take_first number first (with_arrival queue file) files only (put_from first.arrival file queue later.0 behind) later.1
    ] only later

-- ---- what stays of a queue

-- a file is kept as it is, gone, or comes back in its place
pub record IsKept (keep : QueuedFile → Bool) (stays : QueuedFile → List QueuedFile) (back : List QueuedFile) (file : QueuedFile) : Type 0 where
  pub keeps : keep file ≡ true
  pub as_it_is : stays file ≡ file ∷ []
  pub none : these file.number back ≡ []

pub record IsGone (keep : QueuedFile → Bool) (stays : QueuedFile → List QueuedFile) (back : List QueuedFile) (file : QueuedFile) : Type 0 where
  pub goes : keep file ≡ false
  pub nothing : stays file ≡ []
  pub none : these file.number back ≡ []

pub record IsBack (keep : QueuedFile → Bool) (stays : QueuedFile → List QueuedFile) (back : List QueuedFile) (file : QueuedFile) : Type 0 where
  pub goes : keep file ≡ false
  pub new : QueuedFile
  pub comes : stays file ≡ new ∷ []
  pub only : these file.number back ≡ new ∷ []
  pub place : new.arrival ≡ file.arrival

abbrev pub Stays : (keep : QueuedFile → Bool) (stays : QueuedFile → List QueuedFile) (back : List QueuedFile) → QueuedFile → Type 0
Stays keep stays back file = IsKept keep stays back file ⊎ (IsGone keep stays back file ⊎ IsBack keep stays back file)

-- a file of the queue has the number and the arrival
abbrev pub Has : List QueuedFile → QueuedFile → Type 0
Has [] back = ⊥
Has (file ∷ queue) back = ((file.number ≡ back.number) × (file.arrival ≡ back.arrival)) ⊎ Has queue back

-- each file has another number
abbrev pub AreApart : List QueuedFile → Type 0
AreApart [] = Unit {0}
AreApart (file ∷ queue) = Each (λ other. other.number ≢ file.number) queue × AreApart queue

has_later : (low : ℕ) (queue : List QueuedFile) (back : QueuedFile) → From low queue → Has queue back → low < back.arrival
has_later low [] back h has = absurd has
has_later low (file ∷ queue) back h (inl same) = omega (arith, h.0, same.1)
has_later low (file ∷ queue) back h (inr has) = has_later low queue back h.1 has

all_later : (low : ℕ) (queue files : List QueuedFile) → From low queue → Each (Has queue) files → From low files
all_later low queue [] h has = tt
all_later low queue (file ∷ files) h has = (has_later low queue file h has.0, all_later low queue files h has.1)

others_have : (file : QueuedFile) (queue files : List QueuedFile) → Each (Has (file ∷ queue)) files → Each (Has queue) (others file.number files)
others_have file queue [] has = tt
others_have file queue (back ∷ files) has =
    elim (cases_eq back.number file.number) [
      | inl e ↦ let yes : (back.number == file.number) ≡ true = eq-eqb back.number file.number e in rw yes (others_have file queue files has.1)
      | inr ne ↦ let no : (back.number == file.number) ≡ false = ne_eqb back.number file.number ne in
          rw no (not_this has.0 ne, others_have file queue files has.1)
    ]
  where
    not_this : Has (file ∷ queue) back → back.number ≢ file.number → Has queue back
    not_this (inl same) ne = absurd (ne (sym same.0))
    not_this (inr has) ne = has

these_others : (number other : ℕ) (files : List QueuedFile) → other ≢ number → these other (others number files) ≡ these other files
these_others number other [] ne = refl
these_others number other (file ∷ files) ne =
    elim (cases_eq file.number number) [
      | inl e ↦ let yes : (file.number == number) ≡ true = eq-eqb file.number number e in
          let no : (file.number == other) ≡ false = ne_eqb file.number other (λ same. ne (sym same ∙ e)) in
          rw (yes, no) (these_others number other files ne)
      | inr ne' ↦ let no : (file.number == number) ≡ false = ne_eqb file.number number ne' in
          rw no (ap (λ rest. cond (file.number == other) (file ∷ rest) rest) (these_others number other files ne))
    ]

-- without the files of another number, a file stays so too
stays_without : (keep : QueuedFile → Bool) (stays : QueuedFile → List QueuedFile) (back : List QueuedFile) (number : ℕ) (file : QueuedFile) → file.number ≢ number
    → Stays keep stays back file → Stays keep stays (others number back) file
stays_without keep stays back number file ne (inl kept) =
    inl (record { keeps = kept.keeps; as_it_is = kept.as_it_is; none = these_others number file.number back ne ∙ kept.none })
stays_without keep stays back number file ne (inr (inl gone)) =
    inr (inl (record { goes = gone.goes; nothing = gone.nothing; none = these_others number file.number back ne ∙ gone.none }))
stays_without keep stays back number file ne (inr (inr comes)) =
    inr (inr (record { goes = comes.goes; new = comes.new; comes = comes.comes; only = these_others number file.number back ne ∙ comes.only; place = comes.place }))

each_without : (keep : QueuedFile → Bool) (stays : QueuedFile → List QueuedFile) (back : List QueuedFile) (number : ℕ) (queue : List QueuedFile)
    → Each (λ other. other.number ≢ number) queue → Each (Stays keep stays back) queue → Each (Stays keep stays (others number back)) queue
each_without keep stays back number [] apart each = tt
each_without keep stays back number (file ∷ queue) apart each =
    (stays_without keep stays back number file apart.0 each.0, each_without keep stays back number queue apart.1 each.1)

from_at : (new file : QueuedFile) → new.arrival ≡ file.arrival → (files : List QueuedFile) → From file.arrival files → From new.arrival files
from_at new file same files h = from_lower new.arrival file.arrival files (omega arith) h

-- one file of the queue, where the others stay in their places
stays_step : (keep : QueuedFile → Bool) (stays : QueuedFile → List QueuedFile) (file : QueuedFile) (queue back : List QueuedFile) → From file.arrival queue → From file.arrival (others file.number back)
    → put_all (filter keep queue) (others file.number back) ≡ flat_map stays queue → Stays keep stays back file
    → put_all (cond (keep file) (file ∷ filter keep queue) (filter keep queue)) back ≡ stays file ++ flat_map stays queue
stays_step keep stays file queue back behind later rest (inl kept) =
    let same = none_these file.number back kept.none in
    rw (kept.keeps, kept.as_it_is) (put_all_behind file (filter keep queue) back (rw same at later) ∙ ap (λ more. file ∷ put_all (filter keep queue) more) (sym same) ∙ ap (λ more. file ∷ more) rest)
stays_step keep stays file queue back behind later rest (inr (inl gone)) =
    let same = none_these file.number back gone.none in
    rw (gone.goes, gone.nothing) (ap (put_all (filter keep queue)) (sym same) ∙ rest)
stays_step keep stays file queue back behind later rest (inr (inr comes)) =
    rw (comes.goes, comes.comes) (take_first file.number comes.new (filter keep queue) back comes.only (from_at comes.new file comes.place (filter keep queue) (from_filter file.arrival keep queue behind))
    (from_at comes.new file comes.place (others file.number back) later)
    ∙ ap (λ more. comes.new ∷ more) rest)

-- the queue without what goes, and with what comes back put in by arrival, is what stays of each file
pub stays-in-place : (keep : QueuedFile → Bool) (stays : QueuedFile → List QueuedFile) (queue back : List QueuedFile) → Rising queue → AreApart queue
    → Each (Stays keep stays back) queue → Each (Has queue) back → put_all (filter keep queue) back ≡ flat_map stays queue
stays-in-place keep stays [] [] rising apart each has = refl
stays-in-place keep stays [] (file ∷ back) rising apart each has = absurd has.0
stays-in-place keep stays (file ∷ queue) back rising apart each has =
    let there = others_have file queue back has in
    stays_step keep stays file queue back rising.0 (all_later file.arrival queue (others file.number back) rising.0 there)
    (stays-in-place keep stays queue (others file.number back) rising.1 apart.1 (each_without keep stays back file.number queue apart.0 each.1) there) each.0
