-- The blocks of events are written part by part.
use Rattle.std.proofs.Common.{◌≡◌, ℕ, ◌+◌, ◌-◌, ◌/◌, ◌%◌, ◌^◌, ◌≤◌, ◌<◌, List, [], ◌∷◌, ◌++◌, length, get_or, take, drop, sym, ap, subst, ◌∙◌, append_assoc, arith}
use Rattle.std.specs.Prelude.{All}
use Rattle.std.proofs.Math.Seq.{take-add}
use Rattle.std.proofs.lemmas.List.{length-drop, length-take-le, drop-drop, get_or-map}
use Rattle.std.proofs.lemmas.List.Elements.{All-take, All-drop}
use Rattle.std.proofs.lemmas.List.FromFn.{get_or-range_with_len}
use Rattle.disk_trait.specs.Files.{Files, At, Overwritten}
use Rattle.flowfile_record.specs.declared.event.Event.{Event}
use Rattle.prov_store.specs.Blocks.{blocks_of, AreEventParts, AreEncoded, next_offset}
use Rattle.prov_store.specs.Events.{events_file}
use Rattle.prov_store.specs.Growing.{Stands}
use Rattle.prov_store.specs.State.{HasBlock, AreNumberedFrom, IsEventLine}
use Rattle.flowfile_record.specs.declared.limits.TheConstants.{EVENTS_PER_FILE}
use Rattle.prov_store.specs.declared.blocks.Part.{Part}
use Rattle.prov_store.proofs.Growing.{grown}
use Rattle.prov_store.proofs.Parting.{numbered_part, part_is, part_of}

-- the number of an event that is in a row with others
pub number_at : (first i : ℕ) (d : Event) (events : List Event) → AreNumberedFrom first events → i < length events → (get_or events i d).number ≡ first + i
number_at first i d events numbered lt =
    sym (get_or-map (λ (e : Event). e.number) events i d 0 lt) ∙ ap (λ (l : List ℕ). get_or l i 0) numbered ∙ get_or-range_with_len first (length events) i 0 lt

-- the last of some events in a row has a number, so that the numbers stay small
pub last_number : (first n : ℕ) (events : List Event) → All HasBlock events → AreNumberedFrom first events → 0 < n → n ≤ length events → first + n - 1 < 2 ^ 62
last_number first n events have numbered some le = at events have numbered le
  where
    at : (l : List Event) → All HasBlock l → AreNumberedFrom first l → n ≤ length l → first + n - 1 < 2 ^ 62
    at [] have numbered le = absurd (omega (arith, some, le))
    at (e ∷ l) have numbered le =
        let within : n - 1 < length (e ∷ l) = omega (arith, some, le) in
        let small = (have (n - 1) e within).encoded.number in
        omega (arith, small, number_at first (n - 1) e (e ∷ l) numbered within, some)

-- what is known where a part is written
pub record AtPart (begun first : ℕ) (events : List Event) (bytes : List ℕ) (last start i : ℕ) (parts : List Part) (part : Part) : Type 0 where
  pub small : last + part.count < 2 ^ 62
  pub some : 0 < part.count
  pub there : last + part.count - begun ≤ length events
  pub fits : start + part.size ≤ length bytes
  pub bytes_are : take part.size (drop start bytes) ≡ blocks_of (take part.count (drop (last - begun) events))
  pub begins : start + part.size ≡ length (blocks_of (take (last + part.count - begun) events))
  pub parts_left : AreEventParts (last + part.count) (drop (i + 1) parts) (drop (last + part.count - begun) events)
  pub long : length (take part.count (drop (last - begun) events)) ≡ part.count
  pub room : last % EVENTS_PER_FILE + part.count ≤ EVENTS_PER_FILE
  pub have : All HasBlock (take part.count (drop (last - begun) events))
  pub numbered : AreNumberedFrom (last + 1) (take part.count (drop (last - begun) events))
  pub size_is : part.size ≡ length (blocks_of (take part.count (drop (last - begun) events)))

pub at_part : (begun first : ℕ) (events : List Event) (bytes : List ℕ) (known : List Part) (last start i : ℕ) (parts : List Part) (d : Part)
    → AreEncoded first events bytes known → first ≡ begun + 1 → i < length parts → begun ≤ last → last - begun ≤ length events
    → start ≡ length (blocks_of (take (last - begun) events)) → AreEventParts last (drop i parts) (drop (last - begun) events)
    → AtPart begun first events bytes last start i parts (get_or parts i d)
at_part begun first events bytes known last start i parts d enc next lt reached there begins are =
    let n = last - begun in
    let p = get_or parts i d in
    let both = part_is last i parts d (drop n events) lt are in
    let one = both.0 in
    let left = length-drop n events in
    let of = part_of n p.count start p.size events bytes enc.encoded begins one.size in
    let sum : last + p.count - begun ≡ n + p.count = omega (arith, reached) in
    let within : n + p.count ≤ length events = omega (arith, one.there, left, there) in
    let number : first + n ≡ last + 1 = omega (arith, next, reached) in
    let small = last_number first (n + p.count) events enc.have enc.numbered (omega (arith, one.some)) within in
    record {
      small = omega (arith, small, next, reached, one.some);
      some = one.some;
      there = omega (arith, sum, within);
      fits = of.fits;
      bytes_are = of.is;
      begins = of.reaches ∙ ap (λ (k : ℕ). length (blocks_of (take k events))) (sym sum);
      parts_left = subst (AreEventParts (last + p.count) (drop (i + 1) parts)) (drop-drop p.count n events ∙ ap (λ (k : ℕ). drop k events) (sym sum)) both.1;
      long = length-take-le p.count (drop n events) one.there;
      room = one.fits;
      have = All-take HasBlock p.count (drop n events) (All-drop HasBlock n events enc.have);
      numbered = subst (λ (k : ℕ). AreNumberedFrom k (take p.count (drop n events))) number (numbered_part first n p.count events enc.numbered within);
      size_is = one.size;
    }

-- the files have the part's events, too
pub part_stands : (begun first : ℕ) (events : List Event) (bytes written : List ℕ) (line last start i offset : ℕ) (parts : List Part) (part : Part) (mid new : Files) (before : List Event) → IsEventLine line last
    → AtPart begun first events bytes last start i parts part → begun ≤ last → written ≡ take part.size (drop start bytes)
    → Stands line last offset mid (before ++ take (last - begun) events)
    → At (events_file (last / EVENTS_PER_FILE)) (Overwritten offset written) mid new
    → Stands line (last + part.count) (next_offset (last + part.count) (offset + part.size)) new (before ++ take (last + part.count - begun) events)
part_stands begun first events bytes written line last start i offset parts part mid new before of at reached is stands one =
    let n = last - begun in
    let added = take part.count (drop n events) in
    let sum : last + part.count - begun ≡ n + part.count = omega (arith, reached) in
    let step = grown line last offset mid new (before ++ take n events) added of stands (omega (arith, at.room, at.long)) at.have at.numbered
    (subst (λ (l : List ℕ). At (events_file (last / EVENTS_PER_FILE)) (Overwritten offset l) mid new) (is ∙ at.bytes_are) one) in
    let all : (before ++ take n events) ++ added ≡ before ++ take (last + part.count - begun) events =
    append_assoc before (take n events) added ∙ ap (λ (l : List Event). before ++ l) (sym (take-add n part.count events) ∙ ap (λ (k : ℕ). take k events) (sym sum)) in
    let moved = subst (λ (k : ℕ). Stands line (last + k) (next_offset (last + k) (offset + length (blocks_of added))) new ((before ++ take n events) ++ added)) at.long step in
    subst (λ (l : List Event). Stands line (last + part.count) (next_offset (last + part.count) (offset + part.size)) new l) all
    (subst (λ (k : ℕ). Stands line (last + part.count) (next_offset (last + part.count) (offset + k)) new ((before ++ take n events) ++ added)) (sym at.size_is) moved)
