-- What a block holds: one entry, or those of a group.
use Rattle.std.proofs.Common.{◌≡◌, ℕ, ◌+◌, ◌<◌, ◌≤◌, eqb, false, List, [], ◌∷◌, ◌++◌, length, drop, get_or, Option, Some, None, Result, refl, sym, ap, ◌∙◌, append_assoc}
use Rattle.std.specs.Prelude.{All, map}
use Rattle.std.specs.Option.{option_map, option_and_then}
use Rattle.std.specs.Result.{result_ok}
use Rattle.std.proofs.lemmas.List.{append-nil, drop_all, drop_more}
use Rattle.std.proofs.lemmas.List.Elements.{All-head, All-tail}
use Rattle.flowfile_record.proofs.FieldLaws.{whole_again}
use Rattle.record_codec.specs.BlockEntries.{entry_read, before_entries, entries_of, entries_in}
use Rattle.record_codec.specs.EntryEncoding.{entry, kind_of, IsEntry, IsEntryOf}
use Rattle.record_codec.specs.EntryReading.{entry_at}
use Rattle.record_codec.specs.Group.{group, as_item, IsGroup}
use Rattle.record_codec.specs.GroupReading.{group_at}
use Rattle.record_codec.specs.declared.entry.LogEntry.{LogEntry}
use Rattle.record_codec.specs.declared.entry.LogEntry.TheVariants.{Begin, Session, Expire, SwapOut, SwapIn, Age}
use Rattle.record_codec.specs.declared.group.Item.{Item}
use Rattle.record_codec.specs.declared.group.TheConstants.{GROUP_KIND}
use Rattle.record_codec.proofs.EntryLaws.{entry_is}
use Rattle.record_codec.proofs.Groups.{group_is}

-- ---- what is encoded is held

is_no_group : (e : LogEntry) → eqb (kind_of e) GROUP_KIND ≡ false
is_no_group (Begin version log) = refl
is_no_group (Session s) = refl
is_no_group (Expire e) = refl
is_no_group (SwapOut s) = refl
is_no_group (SwapIn connection batch) = refl
is_no_group (Age line) = refl

read_again : (e : LogEntry) → IsEntry e → entry_read (kind_of e) (entry e) ≡ Some e
read_again e is = ap result_ok (whole_again (entry_at (kind_of e)) entry (IsEntryOf (kind_of e)) (entry_is (kind_of e)) e (is, refl))

pub one_held : (e : LogEntry) → IsEntry e → entries_in (kind_of e) (entry e) ≡ Some (e ∷ [])
one_held e is = rw (is_no_group e) (ap (λ (o : Option LogEntry). before_entries o (Some [])) (read_again e is))

all_held : (es : List LogEntry) → All IsEntry es → entries_of (map as_item es) ≡ Some es
unfolding entries_of
all_held [] all = refl
all_held (e ∷ es) all = rw (read_again e (All-head IsEntry e es all), all_held es (All-tail IsEntry e es all)) refl

pub group_held : (es : List LogEntry) → All IsEntry es → IsGroup (map as_item es) → entries_in GROUP_KIND (group (map as_item es)) ≡ Some es
group_held es all is =
    ap (λ (r : Result (List Item) ℕ). option_and_then entries_of (result_ok r)) (whole_again group_at group IsGroup group_is (map as_item es) is)
    ∙ all_held es all

-- ---- reading the entries of items one after the other, as a loop does

-- what was read before, and what is still read
abbrev pub with_read : List LogEntry → Option (List LogEntry) → Option (List LogEntry)
with_read front others = option_map (λ es. front ++ es) others

regroup : (front : List LogEntry) (e : LogEntry) (others : Option (List LogEntry)) → with_read front (option_map (λ es. e ∷ es) others) ≡ with_read (front ++ e ∷ []) others
regroup front e (Some es) = ap Some (sym (append_assoc front (e ∷ []) es))
regroup front e None = refl

step : (items : List Item) (i : ℕ) (item : Item) → i < length items → get_or items i item ≡ item → entries_of (drop i items) ≡ before_entries (entry_read item.kind item.payload) (entries_of (drop (i + 1) items))
unfolding entries_of
step items i item lt is = ap entries_of (drop_more items i item lt ∙ ap (λ (x : Item). x ∷ drop (i + 1) items) is)

pub reads_on : (front : List LogEntry) (items : List Item) (i : ℕ) (item : Item) (e : LogEntry) (total : Option (List LogEntry)) → i < length items → get_or items i item ≡ item
    → entry_read item.kind item.payload ≡ Some e → with_read front (entries_of (drop i items)) ≡ total → with_read (front ++ e ∷ []) (entries_of (drop (i + 1) items)) ≡ total
reads_on front items i item e total lt is read so_far =
    let others = entries_of (drop (i + 1) items) in
    let one = step items i item lt is ∙ ap (λ (o : Option LogEntry). before_entries o others) read in
    sym (ap (with_read front) one ∙ regroup front e others) ∙ so_far

pub reads_none : (front : List LogEntry) (items : List Item) (i : ℕ) (item : Item) (total : Option (List LogEntry)) → i < length items → get_or items i item ≡ item
    → entry_read item.kind item.payload ≡ None → with_read front (entries_of (drop i items)) ≡ total → None ≡ total
reads_none front items i item total lt is read so_far =
    let others = entries_of (drop (i + 1) items) in
    let one = step items i item lt is ∙ ap (λ (o : Option LogEntry). before_entries o others) read in
    sym (ap (with_read front) one) ∙ so_far

pub reads_all : (front : List LogEntry) (items : List Item) (i : ℕ) (total : Option (List LogEntry)) → length items ≤ i → with_read front (entries_of (drop i items)) ≡ total → Some front ≡ total
unfolding entries_of
reads_all front items i total le so_far =
    let none = ap (λ (l : List Item). with_read front (entries_of l)) (drop_all i items le) in
    sym (none ∙ ap Some (append-nil front)) ∙ so_far
